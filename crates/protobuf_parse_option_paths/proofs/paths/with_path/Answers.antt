use Rattle.std.proofs.Common.{◌≡◌, List, Option, Some, option_map, ap, subst, sym, ◌∙◌}
use Rattle.std.specs.Borrow.{Bor}
use Rattle.std.specs.Option.{option_and_then}
use Rattle.std.proofs.lemmas.Result.{IfOk-weaker}
use Rattle.protobuf_parse_syntax.specs.Trees.{option_name_syntax}
use Rattle.protobuf_parse_syntax.specs.declared.tree.option.ProtobufOptionName.{ProtobufOptionName}
use Rattle.protobuf_parse_model.specs.Descriptors.{file_view}
use Rattle.protobuf_parse_source_info.specs.Views.{location_view, name_seen}
use Rattle.protobuf_parse_source_info.specs.Walks.{Path}
use Rattle.protobuf_parse_option_paths.specs.InnerViews.{PutsLead}
use Rattle.protobuf_parse_option_paths.specs.Views.{steps_seen}
use Rattle.protobuf_parse_option_paths.specs.Paths.{Lead, lead_from, lead_of, steps_at}
use Rattle.protobuf_parse_option_paths.specs.Views.{files_view}
use Rattle.protobuf_parse_option_paths.specs.declared.names.Step.{Step}
use Rattle.protobuf_parse_option_paths.proofs.paths.with_path.Goals as goal

pub returns-in-Some-2 : goal.returns-in-Some-2
returns-in-Some-2 c =
    let files = files_view c.args.files.now in
    let file = file_view c.args.file.now in
    let path : Path = c.args.location.path.items in
    let name = option_name_syntax c.in-Some.name.now in
    let steps : List Step = c.deref-in-Some-2.result.now in
    let found : steps_at files file path name ≡ Some steps =
    ap (λ (p : Path). steps_at files file p name) (sym c.deref.ensures.value)
    ∙ sym c.in_ok-steps.ensures ∙ ap steps_seen c.in-Some-2.is
    ∙ ap Some (sym c.deref-in-Some-2.ensures.value) in
    let leads : lead_of files file (location_view c.args.location) ≡ lead_from path (Some steps) =
    ap (λ (o : Option (Bor ProtobufOptionName)).
    lead_from path (option_and_then (steps_at files file path) (option_map name_seen o)))
    c.in-Some.is
    ∙ ap (lead_from path) found in
    IfOk-weaker c.with_steps.result _ _
    (λ l puts before is.
    subst (λ (lead : Lead). PutsLead c.with_steps.new.counts before (location_view l)
    (location_view c.args.location) lead) (sym leads) (puts before is))
    c.with_steps.ensures
