-- Fields fit where no change is told of them.
use Rattle.std.proofs.Common.{◌≡◌, ℕ, Bool, true, false, Option, Some, None, cond, refl, sym, ap}
use Rattle.std.proofs.Common.{◌∙◌, subst, pos}
use Rattle.std.specs.Prelude.{IsTrue}
use Rattle.std.specs.Int.{w32, w64}
use mir.Syntax.{Width}
use Rattle.protobuf_parse_model.specs.declared.descriptor.FieldType.{FieldType}
use Rattle.protobuf_parse_model.specs.declared.descriptor.FieldType.TheVariants as types
use Rattle.protobuf_parse_wire.specs.Kinds.{Word, Code, varint, eight_bytes, four_bytes, unsigned}
use Rattle.protobuf_parse_wire.specs.Kinds.{twos_complement, zigzag}
use Rattle.protobuf_parse_wire.specs.Reading.{decoded}
use Rattle.protobuf_parse_decode.specs.Declarations.{Declared, Enter}
use Rattle.protobuf_parse_decode.specs.Fields.{number}
use Rattle.protobuf_parse_decode.specs.Sorts.{Says, Sort, numbers, string, octets, group, integer}
use Rattle.protobuf_parse_decode.specs.Sorts.{double_bits, float_bits, sort_of, truth_value}
use Rattle.protobuf_parse_decode.specs.Sorts as sorts
use Rattle.protobuf_parse_wire_changes.specs.declared.change.WireChangeKind.{WireChangeKind}
use Rattle.protobuf_parse_wire_changes.specs.declared.change.WireChangeKind.TheVariants as kind
use Rattle.protobuf_parse_wire_changes.specs.declared.strength.Strength.{Strength}
use Rattle.protobuf_parse_wire_changes.specs.declared.strength.Strength.TheVariants as strength
use Rattle.protobuf_parse_wire_changes.specs.Partners.{Partners}
use Rattle.protobuf_parse_wire_changes.specs.Types.{same_type, takes_place, type_for}
use Rattle.protobuf_parse_wire_changes.specs.Types.{type_of_family, type_of_values}
use Rattle.protobuf_parse_wire_changes.specs.Seen.{has_to_be_utf8, read_again, value_seen}
use Rattle.protobuf_parse_wire_changes.specs.Changes.{Comparison, Typed, change_inside}
use Rattle.protobuf_parse_wire_changes.specs.Changes.{change_of, go_together, message_change}
use Rattle.protobuf_parse_wire_changes.specs.Changes.{repeated_change, utf8_change}
use Rattle.protobuf_parse_wire_changes.proofs.Following.{Fits, words, texts}
use Rattle.protobuf_parse_wire_changes.proofs.Following.{texts_as_bytes, bytes_as_texts}
use Rattle.protobuf_parse_wire_changes.proofs.Following.{all_bytes, messages, groups}

-- ---- what a change has to do with

-- how values stand: numbers, texts or bytes, messages, groups
data Part : Type 0 where
  number_part : Word → Part
  text_part : Part
  message_part : Part
  group_part : Part

abbrev part_of : Sort → Part
part_of (numbers w says) = number_part w
part_of (string utf8) = text_part
part_of octets = text_part
part_of sorts.message = message_part
part_of group = group_part

-- Types that can take one another's place have one part.
part_stays : (st : Strength) (u u' : Bool) (t : FieldType)
    → part_of (sort_of u t) ≡ part_of (sort_of u' (type_for st t))
part_stays strength.Exact u u' types.Int32 = refl
part_stays strength.Exact u u' types.Int64 = refl
part_stays strength.Exact u u' types.Uint32 = refl
part_stays strength.Exact u u' types.Uint64 = refl
part_stays strength.Exact u u' types.Sint32 = refl
part_stays strength.Exact u u' types.Sint64 = refl
part_stays strength.Exact u u' types.Fixed32 = refl
part_stays strength.Exact u u' types.Sfixed32 = refl
part_stays strength.Exact u u' types.Fixed64 = refl
part_stays strength.Exact u u' types.Sfixed64 = refl
part_stays strength.Exact u u' types.Bool = refl
part_stays strength.Exact u u' types.String = refl
part_stays strength.Exact u u' types.Bytes = refl
part_stays strength.Exact u u' types.Float = refl
part_stays strength.Exact u u' types.Double = refl
part_stays strength.Exact u u' types.Message = refl
part_stays strength.Exact u u' types.Enum = refl
part_stays strength.Exact u u' types.Group = refl
part_stays strength.Family u u' types.Int32 = refl
part_stays strength.Family u u' types.Int64 = refl
part_stays strength.Family u u' types.Uint32 = refl
part_stays strength.Family u u' types.Uint64 = refl
part_stays strength.Family u u' types.Sint32 = refl
part_stays strength.Family u u' types.Sint64 = refl
part_stays strength.Family u u' types.Fixed32 = refl
part_stays strength.Family u u' types.Sfixed32 = refl
part_stays strength.Family u u' types.Fixed64 = refl
part_stays strength.Family u u' types.Sfixed64 = refl
part_stays strength.Family u u' types.Bool = refl
part_stays strength.Family u u' types.String = refl
part_stays strength.Family u u' types.Bytes = refl
part_stays strength.Family u u' types.Float = refl
part_stays strength.Family u u' types.Double = refl
part_stays strength.Family u u' types.Message = refl
part_stays strength.Family u u' types.Enum = refl
part_stays strength.Family u u' types.Group = refl

-- the change by the part
abbrev change_by_part : Partners → Part → (f g : Declared) → Option WireChangeKind
change_by_part partners (number_part w) f g = repeated_change f.repeated g.repeated
change_by_part partners text_part f g =
    utf8_change (has_to_be_utf8 f.sort) (has_to_be_utf8 g.sort)
change_by_part partners message_part f g =
    message_change (go_together partners f.type_name g.type_name)
change_by_part partners group_part f g =
    message_change (go_together partners f.type_name g.type_name)

change_is : (partners : Partners) (u : Bool) (t : FieldType) (f g : Declared)
    → change_inside partners t f g ≡ change_by_part partners (part_of (sort_of u t)) f g
change_is partners u types.Int32 f g = refl
change_is partners u types.Int64 f g = refl
change_is partners u types.Uint32 f g = refl
change_is partners u types.Uint64 f g = refl
change_is partners u types.Sint32 f g = refl
change_is partners u types.Sint64 f g = refl
change_is partners u types.Fixed32 f g = refl
change_is partners u types.Sfixed32 f g = refl
change_is partners u types.Fixed64 f g = refl
change_is partners u types.Sfixed64 f g = refl
change_is partners u types.Bool f g = refl
change_is partners u types.String f g = refl
change_is partners u types.Bytes f g = refl
change_is partners u types.Float f g = refl
change_is partners u types.Double f g = refl
change_is partners u types.Message f g = refl
change_is partners u types.Enum f g = refl
change_is partners u types.Group f g = refl

-- ---- what numbers mean

abbrev says_in : Sort → Says
says_in (numbers w says) u = says u
says_in (string utf8) u = number 0 (pos 0)
says_in octets u = number 0 (pos 0)
says_in sorts.message u = number 0 (pos 0)
says_in group u = number 0 (pos 0)

-- of the type for values, as of the type itself
values_sort : (u : Bool) (t : FieldType) (w : Word) (says : Says) → sort_of u t ≡ numbers w says
    → sort_of false (type_of_values t) ≡ numbers w says
values_sort u types.String w says h = absurd (cc)
values_sort u types.Bytes w says h = absurd (cc)
values_sort u types.Message w says h = absurd (cc)
values_sort u types.Group w says h = absurd (cc)
values_sort u t w says h = h

float_is : (t : FieldType) → types.Float ≡ type_of_family t → t ≡ types.Float
float_is types.Float h = refl
float_is t h = absurd (cc)

double_is : (t : FieldType) → types.Double ≡ type_of_family t → t ≡ types.Double
double_is types.Double h = refl
double_is t h = absurd (cc)

module _ (new : Enter) (g : Declared) (w w' : Word) (says says' : Says) where
  -- What the new field says is what is seen of what the old field says.
  abbrev Again : Strength → Type 0
  Again st = (n : ℕ) → says' n ≡ value_seen st new g (says n)

  -- by the same rule
  same_again : (st : Strength) (x : Word) (rule : Says) → numbers x rule ≡ numbers w says
      → numbers x rule ≡ numbers w' says'
      → ((n : ℕ) → rule n ≡ value_seen st new g (rule n)) → Again st
  same_again st x rule is is' stays n =
      let a : rule ≡ says = ap says_in is in
      let b : rule ≡ says' = ap says_in is' in
      subst (λ (r : Says). r n ≡ value_seen st new g (says n)) b
      (subst (λ (r : Says). rule n ≡ value_seen st new g (r n)) a (stays n))

  -- A number is read again.
  number_again : (x : Word) (width : Width) (code : Code)
      → numbers x (integer width code) ≡ numbers w says → g.sort ≡ numbers w' says'
      → Again strength.Family
  number_again x width code is there n =
      let a : integer width code ≡ says = ap says_in is in
      subst (λ (r : Says). says' n ≡ value_seen strength.Family new g (r n)) a
      (sym (ap (λ (s : Sort). read_again s (number n (decoded width code n))) there))

  truth_again : numbers varint truth_value ≡ numbers w says → g.sort ≡ numbers w' says'
      → Again strength.Family
  truth_again is there n =
      let a : truth_value ≡ says = ap says_in is in
      subst (λ (r : Says). says' n ≡ value_seen strength.Family new g (r n)) a
      (sym (ap (λ (s : Sort). read_again s (truth_value n)) there))

  exactly : (u : Bool) (t : FieldType) → sort_of u t ≡ numbers w says
      → sort_of false (type_of_values t) ≡ numbers w' says' → Again strength.Exact
  exactly u types.Int32 is is' =
      same_again strength.Exact varint (integer w32 twos_complement) is is' (λ n. refl)
  exactly u types.Int64 is is' =
      same_again strength.Exact varint (integer w64 twos_complement) is is' (λ n. refl)
  exactly u types.Uint32 is is' =
      same_again strength.Exact varint (integer w32 unsigned) is is' (λ n. refl)
  exactly u types.Uint64 is is' =
      same_again strength.Exact varint (integer w64 unsigned) is is' (λ n. refl)
  exactly u types.Sint32 is is' =
      same_again strength.Exact varint (integer w32 zigzag) is is' (λ n. refl)
  exactly u types.Sint64 is is' =
      same_again strength.Exact varint (integer w64 zigzag) is is' (λ n. refl)
  exactly u types.Fixed32 is is' =
      same_again strength.Exact four_bytes (integer w32 unsigned) is is' (λ n. refl)
  exactly u types.Sfixed32 is is' =
      same_again strength.Exact four_bytes (integer w32 twos_complement) is is' (λ n. refl)
  exactly u types.Fixed64 is is' =
      same_again strength.Exact eight_bytes (integer w64 unsigned) is is' (λ n. refl)
  exactly u types.Sfixed64 is is' =
      same_again strength.Exact eight_bytes (integer w64 twos_complement) is is' (λ n. refl)
  exactly u types.Bool is is' =
      same_again strength.Exact varint truth_value is is' (λ n. refl)
  exactly u types.Enum is is' =
      same_again strength.Exact varint (integer w32 twos_complement) is is' (λ n. refl)
  exactly u types.Float is is' =
      same_again strength.Exact four_bytes float_bits is is' (λ n. refl)
  exactly u types.Double is is' =
      same_again strength.Exact eight_bytes double_bits is is' (λ n. refl)
  exactly u types.String is is' = absurd (cc)
  exactly u types.Bytes is is' = absurd (cc)
  exactly u types.Message is is' = absurd (cc)
  exactly u types.Group is is' = absurd (cc)

  in_family : (u u' : Bool) (t t' : FieldType) → type_of_family t ≡ type_of_family t'
      → sort_of u t ≡ numbers w says → sort_of u' t' ≡ numbers w' says'
      → g.sort ≡ numbers w' says' → Again strength.Family
  in_family u u' types.Int32 t' same is is' there =
      number_again varint w32 twos_complement is there
  in_family u u' types.Int64 t' same is is' there =
      number_again varint w64 twos_complement is there
  in_family u u' types.Uint32 t' same is is' there = number_again varint w32 unsigned is there
  in_family u u' types.Uint64 t' same is is' there = number_again varint w64 unsigned is there
  in_family u u' types.Sint32 t' same is is' there = number_again varint w32 zigzag is there
  in_family u u' types.Sint64 t' same is is' there = number_again varint w64 zigzag is there
  in_family u u' types.Fixed32 t' same is is' there = number_again four_bytes w32 unsigned is there
  in_family u u' types.Sfixed32 t' same is is' there =
      number_again four_bytes w32 twos_complement is there
  in_family u u' types.Fixed64 t' same is is' there =
      number_again eight_bytes w64 unsigned is there
  in_family u u' types.Sfixed64 t' same is is' there =
      number_again eight_bytes w64 twos_complement is there
  in_family u u' types.Bool t' same is is' there = truth_again is there
  in_family u u' types.Enum t' same is is' there =
      number_again varint w32 twos_complement is there
  in_family u u' types.Float t' same is is' there =
      same_again strength.Family four_bytes float_bits is
      (subst (λ (t : FieldType). sort_of u' t ≡ numbers w' says') (float_is t' same) is')
      (λ n. refl)
  in_family u u' types.Double t' same is is' there =
      same_again strength.Family eight_bytes double_bits is
      (subst (λ (t : FieldType). sort_of u' t ≡ numbers w' says') (double_is t' same) is')
      (λ n. refl)
  in_family u u' types.String t' same is is' there = absurd (cc)
  in_family u u' types.Bytes t' same is is' there = absurd (cc)
  in_family u u' types.Message t' same is is' there = absurd (cc)
  in_family u u' types.Group t' same is is' there = absurd (cc)

  again : (st : Strength) (u u' : Bool) (t t' : FieldType) → type_for st t ≡ type_for st t'
      → sort_of u t ≡ numbers w says → sort_of u' t' ≡ numbers w' says'
      → g.sort ≡ numbers w' says' → Again st
  again strength.Exact u u' t t' same is is' there =
      exactly u t is
      (ap (λ (x : FieldType). sort_of false x) same ∙ values_sort u' t' w' says' is')
  again strength.Family u u' t t' same is is' there = in_family u u' t t' same is is' there

-- ---- one field

repeated_is : (r r' : Bool) → repeated_change r r' ≡ None → IsTrue r → IsTrue r'
repeated_is true false e h = absurd (cc)
repeated_is true true e h = refl
repeated_is false r e h = absurd (cc)

utf8_is : (u u' : Bool) → utf8_change u u' ≡ None → IsTrue u' → IsTrue u
utf8_is true u' e h = refl
utf8_is false true e h = absurd (cc)
utf8_is false false e h = absurd (cc)

message_is : (b : Bool) → message_change b ≡ None → b ≡ true
message_is true e = refl
message_is false e = absurd (cc)

abbrev word_in : Word → Part → Word
word_in w (number_part x) = x
word_in w text_part = w
word_in w message_part = w
word_in w group_part = w

word_of_part : (w w' : Word) → number_part w ≡ number_part w' → w ≡ w'
word_of_part w w' h = ap (word_in w) h

module _ (st : Strength) (new : Enter) (partners : Partners) (f g : Declared) where
  sorts_fit : (s s' : Sort) → f.sort ≡ s → g.sort ≡ s' → part_of s ≡ part_of s'
      → change_by_part partners (part_of s) f g ≡ None
      → ((w w' : Word) (says says' : Says) → s ≡ numbers w says → s' ≡ numbers w' says'
      → (n : ℕ) → says' n ≡ value_seen st new g (says n))
      → Fits st new (go_together partners) f g
  sorts_fit (numbers w says) (numbers w' says') is is' alike h again =
      let same : w ≡ w' = word_of_part w w' alike in
      words w says says' is
      (subst (λ (x : Word). g.sort ≡ numbers x says') (sym same) is')
      (repeated_is f.repeated g.repeated h) (again w w' says says' refl refl)
  sorts_fit (string u) (string u') is is' alike h again =
      texts u u' is is' (utf8_is u u'
      (ap (λ (x : Bool). utf8_change x u') (sym (ap has_to_be_utf8 is))
      ∙ ap (λ (x : Bool). utf8_change (has_to_be_utf8 f.sort) x) (sym (ap has_to_be_utf8 is'))
      ∙ h))
  sorts_fit (string u) octets is is' alike h again = texts_as_bytes u is is'
  sorts_fit octets (string true) is is' alike h again =
      let no : utf8_change false true ≡ None =
      ap (λ (x : Bool). utf8_change x true) (sym (ap has_to_be_utf8 is))
      ∙ ap (λ (x : Bool). utf8_change (has_to_be_utf8 f.sort) x) (sym (ap has_to_be_utf8 is'))
      ∙ h in
      absurd (cc)
  sorts_fit octets (string false) is is' alike h again = bytes_as_texts is is'
  sorts_fit octets octets is is' alike h again = all_bytes is is'
  sorts_fit sorts.message sorts.message is is' alike h again =
      messages is is' (message_is (go_together partners f.type_name g.type_name) h)
  sorts_fit group group is is' alike h again =
      groups is is' (message_is (go_together partners f.type_name g.type_name) h)
  sorts_fit s s' is is' alike h again = absurd (cc)

type_is : (t u : FieldType) → same_type t u ≡ true → t ≡ u
type_is types.Int32 types.Int32 h = refl
type_is types.Int64 types.Int64 h = refl
type_is types.Uint32 types.Uint32 h = refl
type_is types.Uint64 types.Uint64 h = refl
type_is types.Sint32 types.Sint32 h = refl
type_is types.Sint64 types.Sint64 h = refl
type_is types.Fixed32 types.Fixed32 h = refl
type_is types.Sfixed32 types.Sfixed32 h = refl
type_is types.Fixed64 types.Fixed64 h = refl
type_is types.Sfixed64 types.Sfixed64 h = refl
type_is types.Bool types.Bool h = refl
type_is types.String types.String h = refl
type_is types.Bytes types.Bytes h = refl
type_is types.Float types.Float h = refl
type_is types.Double types.Double h = refl
type_is types.Message types.Message h = refl
type_is types.Enum types.Enum h = refl
type_is types.Group types.Group h = refl
type_is t u h = absurd (cc)

-- a declaration whose sort is its type's
pub record IsTyped (f : Typed) : Type 0 where
  pub utf8 : Bool
  pub is : f.declared.sort ≡ sort_of utf8 f.type_

pub field_fits : (c : Comparison) (new : Enter) (f g : Typed) → IsTyped f → IsTyped g
    → change_of c f g ≡ None
    → Fits c.strength new (go_together c.partners) f.declared g.declared
field_fits c new f g typed typed' h = by_test (takes_place c.strength f.type_ g.type_) refl h
  where
    by_test : (b : Bool) → takes_place c.strength f.type_ g.type_ ≡ b
        → cond b (change_inside c.partners f.type_ f.declared g.declared)
        (Some kind.OtherKind) ≡ None
        → Fits c.strength new (go_together c.partners) f.declared g.declared
    by_test false e k = absurd (cc)
    by_test true e k =
        let same = type_is (type_for c.strength f.type_) (type_for c.strength g.type_) e in
        let alike : part_of (sort_of typed.utf8 f.type_) ≡ part_of (sort_of typed'.utf8 g.type_) =
        part_stays c.strength typed.utf8 false f.type_
        ∙ ap (λ (t : FieldType). part_of (sort_of false t)) same
        ∙ sym (part_stays c.strength typed'.utf8 false g.type_) in
        sorts_fit c.strength new c.partners f.declared g.declared (sort_of typed.utf8 f.type_)
        (sort_of typed'.utf8 g.type_) typed.is typed'.is alike
        (sym (change_is c.partners typed.utf8 f.type_ f.declared g.declared) ∙ k)
        (λ w w' says says' is is'.
        again new g.declared w w' says says' c.strength typed.utf8 typed'.utf8 f.type_ g.type_ same
        is is' (typed'.is ∙ is'))
