use Rattle.std.proofs.Common.{◌∙◌, ◌||◌, ap, cond, sym, true}
use Rattle.std.specs.Prelude.{bytes_eq}
use Rattle.std.proofs.lemmas.Map.Text.{is_eq-slice_cmp}
use Rattle.protobuf_parse_base.specs.DeclaredNames.{name_bytes}
use Rattle.protobuf_parse_model.specs.Descriptors.{Text}
use Rattle.protobuf_parse_syntax.specs.Trees.{service_statement_syntax}
use Rattle.protobuf_parse_text_rules.specs.Options.{stands_in}
use Rattle.protobuf_parse_name_rules.specs.InnerViews.{has_text}
use Rattle.protobuf_parse_name_rules.specs.Names.{method_name}
use Rattle.protobuf_parse_name_rules.proofs.Sets.{cond_or, or_none, or_turn}
use Rattle.protobuf_parse_name_rules.proofs.services.add_method.Goals as goal

pub returns-in_ok-insert-in-Method : goal.returns-in_ok-insert-in-Method
returns-in_ok-insert-in-Method c = λ name.
    let old = has_text c.args.methods.now name in
    let key = name_bytes c.in-Method.method.name in
    c.in_ok-insert-in-Method.ensures.updates.0 (record { ref_ptr = (0, 0); now = name })
    ∙ ap (λ b. cond b true old) (is_eq-slice_cmp c.as_str.result.now name)
    ∙ ap (λ (t : Text). cond (bytes_eq t name) true old) c.as_str.ensures
    ∙ cond_or (bytes_eq key name) old ∙ or_turn (bytes_eq key name) old
    ∙ ap (λ b. old || b) (sym (or_none (bytes_eq key name)))
    ∙ ap (λ s. old || stands_in name (method_name (service_statement_syntax s)))
    (sym c.in-Method.is)
