use Rattle.std.proofs.Common.{ap, map}
use Rattle.protobuf_parse_syntax.specs.Trees.{file_syntax}
use Rattle.protobuf_parse_model.specs.Faults.{fault_view}
use Rattle.protobuf_parse_model.specs.Linking.{link_faults}
use Rattle.protobuf_parse_model.specs.Tables.{picked}
use Rattle.protobuf_parse_run.specs.Loading.{repeat_place_over}
use Rattle.protobuf_parse_run.specs.Repeats.{told_at}
use Rattle.protobuf_parse_run.proofs.Repeating.{blames-told}
use Rattle.protobuf_parse_run.proofs.repeats.link_at_places.Goals as goal

pub returns-in-Ok : goal.returns-in-Ok
returns-in-Ok c = λ files tells.
    let reach = c.args.seen.now.reach.now in
    let none = c.in-Ok.ensures files tells in
    let place = repeat_place_over c.args.loaded.now.entries files reach
    (file_syntax c.args.tree.now) in
    ap (map (told_at place)) none

pub returns-in-Err-Fault : goal.returns-in-Err-Fault
returns-in-Err-Fault c = λ files tells.
    let reach = c.args.seen.now.reach.now in
    blames-told
    (repeat_place_over c.args.loaded.now.entries files reach (file_syntax c.args.tree.now))
    (link_faults (picked files reach)) (fault_view c.in-Err-Fault.error) c.at_place.result
    (rw c.in-Err-Fault.field-0-is at (c.in-Err-Fault.ensures files tells))
    (c.at_place.ensures files tells)
