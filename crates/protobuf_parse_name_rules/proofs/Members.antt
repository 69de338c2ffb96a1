-- Fields of message constants, one at a time.
use Rattle.std.proofs.Common.{◌≡◌, ◌∙◌, ◌&&◌, ◌++◌, List, Option, None, Some, ap, append_assoc}
use Rattle.std.proofs.Common.{append-nil, flat_map, not, sym}
use Rattle.std.specs.Prelude.{option_map, option_to_list}
use Rattle.protobuf_parse_lexer.specs.declared.lexer.token.Place.{Place}
use Rattle.protobuf_parse_syntax.specs.Trees.{ConstantFieldSyntax}
use Rattle.protobuf_parse_model.specs.Descriptors.{FieldDescriptor, MessageDescriptor, Text}
use Rattle.protobuf_parse_index.specs.Lookups.{message_named}
use Rattle.protobuf_parse_index.specs.Walk.{Standing}
use Rattle.protobuf_parse_option_paths.specs.Names.{is_repeated}
use Rattle.protobuf_parse_text_rules.specs.Breaches.{TextBreach, breach_if}
use Rattle.protobuf_parse_text_rules.specs.Options.{is_list}
use Rattle.protobuf_parse_text_rules.specs.declared.rule.TextRule.TheVariants as rule
use Rattle.protobuf_parse_name_rules.specs.Constants.{Given, list_breaches, name_text, own_breaches}
use Rattle.protobuf_parse_name_rules.specs.Constants.{value_breaches}
use Rattle.protobuf_parse_name_rules.specs.Fields.{constant_field}
use Rattle.protobuf_parse_name_rules.specs.InnerViews.{given_of, member_breaches, message_breaches}
use Rattle.protobuf_parse_name_rules.specs.Lookups.{Viewpoint}

module _ (at : Viewpoint) (place : Place) (message : Text) where
  -- a message that no file declares is passed over
  pub message_none : (fs : List ConstantFieldSyntax) (t : List TextBreach)
      → None ≡ message_named at.sight.reached message
      → t ≡ t ++ message_breaches at place message fs
  message_none fs t e =
      sym (append-nil t)
      ∙ ap (λ (o : Option (Standing MessageDescriptor)). t ++ flat_map
      (λ (m : Standing MessageDescriptor).
      own_breaches place m.what (flat_map (given_of at message) fs)
      ++ flat_map (member_breaches at place message) fs) (option_to_list o)) e

  -- of another its own fields, and what they have
  pub message_some : (fs : List ConstantFieldSyntax) (m : Standing MessageDescriptor)
      (t0 t1 t2 : List TextBreach) → Some m ≡ message_named at.sight.reached message
      → t1 ≡ t0 ++ own_breaches place m.what (flat_map (given_of at message) fs)
      → t2 ≡ t1 ++ flat_map (member_breaches at place message) fs
      → t2 ≡ t0 ++ message_breaches at place message fs
  message_some fs m t0 t1 t2 e first next =
      let of = λ (n : Standing MessageDescriptor).
      own_breaches place n.what (flat_map (given_of at message) fs)
      ++ flat_map (member_breaches at place message) fs in
      next ∙ ap (λ t. t ++ flat_map (member_breaches at place message) fs) first
      ∙ append_assoc t0 (own_breaches place m.what (flat_map (given_of at message) fs))
      (flat_map (member_breaches at place message) fs)
      ∙ ap (λ z. t0 ++ z) (sym (append-nil (of m)))
      ∙ ap (λ (o : Option (Standing MessageDescriptor)). t0 ++ flat_map of (option_to_list o)) e

  -- what a constant of a field breaks, where the name means these
  abbrev by_field : ConstantFieldSyntax → Option FieldDescriptor → List TextBreach
  by_field f o = flat_map
      (λ (g : Given). list_breaches place g f.value ++ value_breaches at place g.field f.value)
      (option_to_list (option_map
      (λ (d : FieldDescriptor). record { name = name_text f.name; field = d }) o))

  -- a name that means no field is passed over
  pub member_none : (f : ConstantFieldSyntax) (t : List TextBreach)
      → None ≡ constant_field at message f.name → t ≡ t ++ member_breaches at place message f
  member_none f t e = sym (append-nil t) ∙ ap (λ o. t ++ by_field f o) e

  -- of another the value
  pub member_some : (f : ConstantFieldSyntax) (d : FieldDescriptor) (t0 t1 t2 : List TextBreach)
      → Some d ≡ constant_field at message f.name
      → t1 ≡ t0 ++ breach_if (is_list f.value && not (is_repeated d.label)) rule.ListForSingular
      place (name_text f.name)
      → t2 ≡ t1 ++ value_breaches at place d f.value
      → t2 ≡ t0 ++ member_breaches at place message f
  member_some f d t0 t1 t2 e first next =
      let g : Given = record { name = name_text f.name; field = d } in
      next ∙ ap (λ t. t ++ value_breaches at place d f.value) first
      ∙ append_assoc t0 (list_breaches place g f.value) (value_breaches at place d f.value)
      ∙ ap (λ z. t0 ++ z) (sym (append-nil
      (list_breaches place g f.value ++ value_breaches at place d f.value)))
      ∙ ap (λ o. t0 ++ by_field f o) e
