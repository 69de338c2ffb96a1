use Rattle.std.proofs.Common.{◌≡◌, List, ℕ, true, false, ap, sym, ◌∙◌, ◌||◌, map}
use Rattle.std.specs.List.{list_any}
use Rattle.protobuf_parse_model.specs.Descriptors.{field_view}
use Rattle.protobuf_parse_rules.specs.Bodies.{BodyParts, extensions_of, fields_of}
use Rattle.protobuf_parse_rules.specs.BodyViews.{body_view}
use Rattle.protobuf_parse_rules.specs.Keys.{text_key}
use Rattle.protobuf_parse_rules.specs.Wanted.{is_wanted_extension, is_wanted_field}
use Rattle.protobuf_parse_rules.proofs.WantedNumbers.{any_wanted_number}
use Rattle.protobuf_parse_rules.proofs.number_keys.has_wanted.Goals as goal

pub returns-then-has_wanted_field : goal.returns-then-has_wanted_field
returns-then-has_wanted_field c =
    let keys : List ℕ = c.args.wanted.now.sorted.items in
    let p : BodyParts = body_view c.args.body.now in
    let there : true ≡ list_any (is_wanted_field keys (text_key p.scope)) (fields_of p.content) =
    sym c.if-has_wanted_field.true ∙ c.has_wanted_field.ensures
    ∙ ap (λ front. list_any (is_wanted_field keys front) (map field_view c.fields.result.now))
    (c.text_key-front.ensures ∙ ap text_key c.deref.ensures)
    ∙ ap (list_any (is_wanted_field keys (text_key p.scope))) c.fields.ensures in
    c.if-has_wanted_field.true
    ∙ ap (λ b. b || list_any (is_wanted_extension keys) (extensions_of p.content)) there
    ∙ sym (any_wanted_number keys p)

pub returns-else-has_wanted_field : goal.returns-else-has_wanted_field
returns-else-has_wanted_field c =
    let keys : List ℕ = c.args.wanted.now.sorted.items in
    let p : BodyParts = body_view c.args.body.now in
    let none : false ≡ list_any (is_wanted_field keys (text_key p.scope)) (fields_of p.content) =
    sym c.if-has_wanted_field.false ∙ c.has_wanted_field.ensures
    ∙ ap (λ front. list_any (is_wanted_field keys front) (map field_view c.fields.result.now))
    (c.text_key-front.ensures ∙ ap text_key c.deref.ensures)
    ∙ ap (list_any (is_wanted_field keys (text_key p.scope))) c.fields.ensures in
    c.has_wanted_extension.ensures
    ∙ ap (list_any (is_wanted_extension keys)) c.extensions.ensures
    ∙ ap (λ b. b || list_any (is_wanted_extension keys) (extensions_of p.content)) none
    ∙ sym (any_wanted_number keys p)
