use Rattle.std.proofs.Common.{ap, ◌∙◌, Bool}
use Rattle.protobuf_parse_syntax.specs.Trees.{file_syntax}
use Rattle.protobuf_parse_run.specs.Loading.{repeat_place_over}
use Rattle.protobuf_parse_run.specs.Repeats.{is_of_extension}
use Rattle.protobuf_parse_run.proofs.Repeating.{told-here}
use Rattle.protobuf_parse_run.proofs.repeats.at_place.Goals as goal

pub returns-in-Ok : goal.returns-in-Ok
returns-in-Ok c = λ files tells.
    let place = repeat_place_over c.args.loaded.now.entries files c.args.seen.now.reach.now
    (file_syntax c.args.tree.now) in
    told-here place c.args.error c.in-Ok.place
    (c.in-Ok.ensures files tells
    ∙ ap (λ (e : Bool). place e c.deref.result.now) c.is_of_extension-extension.ensures
    ∙ ap (place (is_of_extension c.args.error.kind)) c.deref.ensures)
