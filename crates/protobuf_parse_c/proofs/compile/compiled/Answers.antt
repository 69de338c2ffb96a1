use Rattle.std.proofs.Common.{◌≡◌, ◌∙◌, ap, List, map, subst}
use Rattle.std.specs.Prelude.{Option}
use Rattle.protobuf_parse_model.specs.Descriptors.{Text}
use Rattle.protobuf_parse_run.specs.Run.{input_view}
use Rattle.protobuf_parse_run.specs.Walks.{Input, named}
use Rattle.protobuf_parse_c.specs.Answers.{IsMade}
use Rattle.protobuf_parse_c.specs.ByPath.{content_at}
use Rattle.protobuf_parse_c.specs.Handed.{content_in, file_bytes, text_bytes}
use Rattle.protobuf_parse_c.proofs.Making.{answer_more, ok_of}
use Rattle.protobuf_parse_c.proofs.compile.compiled.Goals as goal

pub returns-in-Ok : goal.returns-in-Ok
returns-in-Ok c =
    let kept = content_at c.in_ok-handed.handed.by_path in
    let inputs = map named (map text_bytes c.args.inputs.now) in
    let same : kept ≡ content_in (map file_bytes c.args.files.now) =
    λ i path. c.in_ok-handed.ensures path i in
    let found = ap (map input_view) c.deref.ensures.value
    ∙ ok_of _ c.in_ok-named.field-0 c.in-Ok.named c.in-Ok.is c.in_ok-named.ensures in
    answer_more _ _ (λ set made.
    subst (λ (content : Text → Option Text). IsMade content inputs set.items) same
    (subst (λ (is : List Input). IsMade kept is set.items) found made))
    c.run_of.result c.run_of.ensures
