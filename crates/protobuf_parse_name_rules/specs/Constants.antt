-- Message constants: a field that isn't repeated is set once, and not to a list; of a oneof one
-- member is set; and each required field is. protoc reads them as the text format does
-- (src/google/protobuf/text_format.cc of version 3.21; Protocol Buffers Text Format Language
-- Specification, https://protobuf.dev). What names no field is passed over, and what is no message
-- that some file declares, with all inside.
use Rattle.std.specs.Prelude.{ℤ, Bool, true, false, not, ◌&&◌, List, [], ◌∷◌, ◌++◌, map, flat_map}
use Rattle.std.specs.Prelude.{Option, Some, None, option_to_list, option_map}
use Rattle.std.specs.List.{list_any}
use Rattle.std.specs.Ordering.{int_eq}
use Rattle.protobuf_parse_lexer.specs.declared.lexer.token.Place.{Place}
use Rattle.protobuf_parse_syntax.specs.Trees.{ConstantFieldList, ConstantList, ConstantNameSyntax}
use Rattle.protobuf_parse_syntax.specs.Trees.{ConstantSyntax, extension_name, fields, list}
use Rattle.protobuf_parse_syntax.specs.Trees.{more_constants, more_fields, no_constants, no_fields}
use Rattle.protobuf_parse_syntax.specs.Trees.{regular_name, url_name}
use Rattle.protobuf_parse_syntax.specs.declared.tree.field.Label.{Label}
use Rattle.protobuf_parse_syntax.specs.declared.tree.field.Label.TheVariants.{Optional, Required}
use Rattle.protobuf_parse_syntax.specs.declared.tree.field.Label.TheVariants.{Repeated}
use Rattle.protobuf_parse_model.specs.Descriptors.{Text, FieldDescriptor, MessageDescriptor}
use Rattle.protobuf_parse_model.specs.Descriptors.{parts_seen}
use Rattle.protobuf_parse_index.specs.Lookups.{message_named}
use Rattle.protobuf_parse_index.specs.Walk.{Standing}
use Rattle.protobuf_parse_option_paths.specs.Names.{is_repeated, type_name_of}
use Rattle.protobuf_parse_text_rules.specs.Breaches.{TextBreach, breach_if}
use Rattle.protobuf_parse_text_rules.specs.Options.{is_list}
use Rattle.protobuf_parse_text_rules.specs.declared.rule.TextRule.TheVariants as rule
use Rattle.protobuf_parse_name_rules.specs.Fields.{constant_field}
use Rattle.protobuf_parse_name_rules.specs.Lookups.{Viewpoint}

-- ---- what is given

-- a field that a message constant gives, and its name there
pub record Given : Type 0 where
  pub name : Text
  pub field : FieldDescriptor

-- a name as it is written, without its brackets
abbrev pub name_text : ConstantNameSyntax → Text
name_text (regular_name name) = name
name_text (extension_name name) = name
name_text (url_name name) = name

-- the field that the name means
abbrev pub given_by : Viewpoint → (message : Text) → ConstantNameSyntax → List Given
given_by at message name =
    option_to_list (option_map
    (λ (f : FieldDescriptor). record { name = name_text name; field = f })
    (constant_field at message name))

-- those that a constant for the message gives
abbrev pub given_in : Viewpoint → (message : Text) → ConstantFieldList → List Given
given_in at message no_fields = []
given_in at message (more_fields name c fs) = given_by at message name ++ given_in at message fs

-- whether the number is one of these
abbrev pub is_among : ℤ → List ℤ → Bool
is_among n ns = list_any (λ m. int_eq m n) ns

-- the numbers of these fields
abbrev pub numbers : List Given → List ℤ
numbers gs = map (λ (g : Given). g.field.number) gs

-- the indexes of their oneofs
abbrev pub oneofs : List Given → List ℤ
oneofs gs = flat_map (λ (g : Given). option_to_list g.field.oneof_index) gs

-- ---- what is wrong with that

-- whether a field has a oneof that is there
abbrev pub is_of_oneof : (is_there : ℤ → Bool) → Option ℤ → Bool
is_of_oneof is_there None = false
is_of_oneof is_there (Some i) = is_there i

-- T15 at a field that is given again, and T17 at one behind another member of its oneof
abbrev pub again_breaches : Place → (before : List Given) → Given → List TextBreach
again_breaches place before g =
    breach_if (is_among g.field.number (numbers before) && not (is_repeated g.field.label))
    rule.ConstantFieldTwice place g.name
    ++ breach_if (not (is_among g.field.number (numbers before))
    && is_of_oneof (λ i. is_among i (oneofs before)) g.field.oneof_index) rule.OneofMemberTwice
    place g.name

-- at each behind those before it
abbrev pub given_twice : Place → (before : List Given) → List Given → List TextBreach
given_twice place before [] = []
given_twice place before (g ∷ gs) =
    again_breaches place before g ++ given_twice place (before ++ g ∷ []) gs

-- whether a field is required
abbrev pub is_required : Label → Bool
is_required Optional = false
is_required Required = true
is_required Repeated = false

-- T18 for a required field that isn't given
abbrev pub missing_breaches : Place → (is_given : ℤ → Bool) → FieldDescriptor → List TextBreach
missing_breaches place is_given f =
    breach_if (is_required f.label && not (is_given f.number)) rule.RequiredFieldMissing place
    f.name

-- T16 at a list for a field that isn't repeated
abbrev pub list_breaches : Place → Given → ConstantSyntax → List TextBreach
list_breaches place g c =
    breach_if (is_list c && not (is_repeated g.field.label)) rule.ListForSingular place g.name

-- what is wrong with the fields that are given to the message, and with those that aren't
abbrev pub own_breaches : Place → MessageDescriptor → List Given → List TextBreach
own_breaches place m given =
    given_twice place [] given
    ++ flat_map (missing_breaches place (λ n. is_among n (numbers given))) (parts_seen m).field

abbrev mutual
  -- what is wrong with a constant that a field has
  pub value_breaches : Viewpoint → Place → FieldDescriptor → ConstantSyntax → List TextBreach
  value_breaches at place f (list cs) = item_breaches at place f cs
  value_breaches at place f (fields fs) =
      flat_map
      (λ (m : Standing MessageDescriptor).
      own_breaches place m.what (given_in at (type_name_of f) fs)
      ++ member_breaches at place (type_name_of f) fs)
      (option_to_list (message_named at.sight.reached (type_name_of f)))
  value_breaches at place f _ = []

  -- with the items of a list
  pub item_breaches : Viewpoint → Place → FieldDescriptor → ConstantList → List TextBreach
  item_breaches at place f no_constants = []
  item_breaches at place f (more_constants c cs) =
      value_breaches at place f c ++ item_breaches at place f cs

  -- with the values of a constant for the message
  pub member_breaches : Viewpoint → Place → (message : Text) → ConstantFieldList
      → List TextBreach
  member_breaches at place message no_fields = []
  member_breaches at place message (more_fields name c fs) =
      flat_map
      (λ (g : Given). list_breaches place g c ++ value_breaches at place g.field c)
      (given_by at message name)
      ++ member_breaches at place message fs
