use Rattle.std.proofs.Common.{◌≡◌, Some, rules}
use Rattle.protobuf_parse_run.specs.Run.{rows, text_given, origin_given}
use Rattle.protobuf_parse_run.proofs.Opening.{contents_stand, lacks_tree}
use Rattle.protobuf_parse_run.proofs.asking.tree_given.Goals as goal

pub returns-in-Content-clause-treeless : goal.returns-in-Content-clause-treeless
returns-in-Content-clause-treeless g c =
    let is : text_given (rows c.args.sources.now.bundled.now) c.args.path.now
    (Some c.args.outcome.now) ≡ Some c.deref-in-Content.result.now =
    rw c.in-Content.is (search rules) in
    lacks_tree c.tree_of_bytes.result _ _ is c.tree_of_bytes.ensures.treeless

pub returns-in-Content-clause-stands : goal.returns-in-Content-clause-stands
returns-in-Content-clause-stands g c =
    let is : text_given (rows c.args.sources.now.bundled.now) c.args.path.now
    (Some c.args.outcome.now) ≡ Some c.deref-in-Content.result.now =
    rw c.in-Content.is (search rules) in
    let from : c.deref.result.now ≡ origin_given c.args.path.now (Some c.args.outcome.now) =
    rw c.in-Content.is (search rules) in
    contents_stand c.tree_of_bytes.result _ _ _ _ _ _ from is c.tree_of_bytes.ensures.stands

pub returns-in-Some-clause-treeless : goal.returns-in-Some-clause-treeless
returns-in-Some-clause-treeless g c =
    let is : text_given (rows c.args.sources.now.bundled.now) c.args.path.now
    (Some c.args.outcome.now) ≡ Some c.as_bytes.result.now =
    rw c.in-NotFound.is (search rules) in
    lacks_tree c.tree_of_bytes-in-Some.result _ _ is c.tree_of_bytes-in-Some.ensures.treeless
