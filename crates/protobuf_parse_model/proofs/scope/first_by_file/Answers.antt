use Rattle.std.proofs.Common.{◌+◌, ◌∙◌, ap, drop, sym}
use Rattle.std.specs.Option.{option_or}
use Rattle.protobuf_parse_model.specs.SeenFiles.{first_type}
use Rattle.protobuf_parse_model.specs.SeenParts.{first_kind}
use Rattle.protobuf_parse_model.proofs.FileOrder.{first_next, first_of_none}
use Rattle.protobuf_parse_model.proofs.scope.first_by_file.Goals as goal

pub returns-in-Some : goal.returns-in-Some
returns-in-Some c =
    let sight = c.args.seen.now.sight.now in
    let ds = c.args.declarations.now in
    let i = c.loop-file.file-index in
    let here = c.in-Some.ensures ∙ ap first_kind c.in_file.ensures in
    sym (c.loop-file.invariant
    ∙ first_next sight i c.args.seen.now.sight_ascends c.loop-file-test.true ds c.requires
    ∙ ap (λ o. option_or o (first_type (drop (i + 1) sight) ds)) (sym here))

pub loop-file-preserved : goal.loop-file-preserved
loop-file-preserved c =
    let sight = c.args.seen.now.sight.now in
    let ds = c.args.declarations.now in
    let i = c.loop-file.file-index in
    let here = c.in_default.ensures ∙ ap first_kind c.in_file.ensures in
    c.loop-file.invariant
    ∙ first_next sight i c.args.seen.now.sight_ascends c.loop-file-test.true ds c.requires
    ∙ ap (λ o. option_or o (first_type (drop (i + 1) sight) ds)) (sym here)

pub returns : goal.returns
returns c =
    sym (c.loop-file.invariant
    ∙ first_of_none c.args.seen.now.sight.now c.loop-file.file-index c.loop-file-test.false
    c.args.declarations.now)
