use Rattle.std.proofs.Common.{◌++◌, ◌∷◌, [], List, Ok, map, ap, sym, ◌∙◌, append_assoc}
use Rattle.std.proofs.lemmas.List.{map-append}
use Rattle.std.proofs.lemmas.Result.{err_from_is_err_and}
use Rattle.protobuf_parse_model.specs.Descriptors.{file_view}
use Rattle.protobuf_parse_wire.specs.declared.field.ReadField.{ReadField}
use Rattle.protobuf_parse_wire.specs.Views.{read_field_view}
use Rattle.protobuf_parse_index.specs.Options.{Named, name_each, named_option_view}
use Rattle.protobuf_parse_index.proofs.Named.{named_more, named_not}
use Rattle.protobuf_parse_index.proofs.options.named.Goals as goal

pub returns-in_err-named_one : goal.returns-in_err-named_one
returns-in_err-named_one c =
    let files = map file_view c.args.index.now in
    let before = c.fields.yielded in
    let p = err_from_is_err_and c.from_residual.result c.from_residual.ensures.1 in
    rw (p.1, p.2)
    (λ other.
    ap (λ (rs : List ReadField). name_each files c.args.message.now (map read_field_view rs))
    (c.fields.invariant.2 ∙ ap (λ (rs : List ReadField). before ++ rs) c.in-Some.ensures.steps.0)
    ∙ ap (name_each files c.args.message.now) (map-append read_field_view before _)
    ∙ named_not files c.args.message.now (map read_field_view before)
    (read_field_view c.in-Some.field) _ (map named_option_view c.fields.options.items) _
    c.fields.invariant.3 (c.in_err-named_one.ensures other))

pub fields-preserved : goal.fields-preserved
fields-preserved c =
    let files = map file_view c.args.index.now in
    let before = c.fields.yielded in
    let one = c.in_ok-named_one.field-0 in (
      tt,
      tt,
      c.fields.invariant.2 ∙ ap (λ (rs : List ReadField). before ++ rs) c.in-Some.ensures.steps.0
          ∙ sym (append_assoc before (c.in-Some.field ∷ []) c.next.new.self.rest.items),
      ap (name_each files c.args.message.now) (map-append read_field_view before _)
          ∙ named_more files c.args.message.now (map read_field_view before)
          (read_field_view c.in-Some.field) (map named_option_view c.fields.options.items)
          (named_option_view one) c.fields.invariant.3 c.in_ok-named_one.ensures
          ∙ ap (λ (os : List Named). Ok os)
          (sym (ap (map named_option_view) c.in_ok-push.ensures.items
          ∙ map-append named_option_view c.fields.options.items (one ∷ []))),
    )
