use Rattle.std.proofs.Common.{◌∙◌, ◌++◌, ap, flat_map, map}
use Rattle.std.proofs.lemmas.Result.{on_ok_weaker}
use Rattle.protobuf_parse_model.specs.Declarations.{inside}
use Rattle.protobuf_parse_model.specs.SeenFiles.{name_texts}
use Rattle.protobuf_parse_model.specs.declared.customs.Construct.TheVariants as of
use Rattle.protobuf_parse_syntax.specs.Trees.{ServiceSyntax, service_statement_syntax}
use Rattle.protobuf_parse_syntax.specs.Trees.{service_syntax}
use Rattle.protobuf_parse_text_rules.specs.Files.{option_in_service}
use Rattle.protobuf_parse_text_rules.specs.Options.{stands_in}
use Rattle.protobuf_parse_text_rules.specs.OptionViews.{options_view}
use Rattle.protobuf_parse_text_rules.specs.Views.{told}
use Rattle.protobuf_parse_name_rules.specs.Files.{inside_service}
use Rattle.protobuf_parse_name_rules.specs.InnerViews.{has_text, viewpoint_view}
use Rattle.protobuf_parse_name_rules.specs.Lookups.{Viewpoint}
use Rattle.protobuf_parse_name_rules.specs.Names.{method_name}
use Rattle.protobuf_parse_name_rules.specs.Options.{option_breaches}
use Rattle.protobuf_parse_name_rules.proofs.Bodies.{service_told}
use Rattle.protobuf_parse_name_rules.proofs.Levels.{within_same}
use Rattle.protobuf_parse_name_rules.proofs.services.check_service.Goals as goal

pub returns : goal.returns
returns c =
    let s : ServiceSyntax = service_syntax c.args.service.now in
    let v = viewpoint_view c.args.at.now in
    let t0 = told c.args.found.now in
    let t1 = told c.check_options.new.found in
    let is = has_text c.in_ok-methods.methods in
    let inner : Viewpoint = record { sight = v.sight; scope = name_texts c.deref-4.result.now } in
    on_ok_weaker c.check_service_body.result
    (λ h. service_told v inner s is t0 t1 (told c.check_service_body.new.found)
    (c.in_ok-check_options.ensures
    ∙ ap (λ os. t0 ++ option_breaches v of.Service os)
    (ap options_view c.deref-2.ensures.value ∙ c.in_ok-options.ensures
    ∙ ap (λ xs. flat_map option_in_service (map service_statement_syntax xs))
    c.deref.ensures.value))
    (within_same v s.name (name_texts c.deref-4.result.now)
    (ap name_texts c.deref-4.ensures.value ∙ c.in_ok-scope.ensures
    ∙ ap (inside v.scope) c.as_str.ensures))
    (λ name. c.in_ok-methods.ensures name
    ∙ ap (λ xs. stands_in name (flat_map method_name (map service_statement_syntax xs)))
    c.deref-3.ensures.value)
    (h ∙ ap (λ xs. t1 ++ flat_map (inside_service v inner is) (map service_statement_syntax xs))
    c.deref-5.ensures.value))
    c.check_service_body.ensures
