-- Names that are one but for case and underscores: of the fields of a message of proto3, and of the
-- values of an enum, there without the enum's own name at the head, if they have it. The names of
-- an enum's values are told apart word by word. protoc says it of both
-- (src/google/protobuf/descriptor.cc of version 3.21); from version 22 on it compares names in
-- JSON.
use Rattle.std.specs.Prelude.{ℕ, ℤ, pos, Bool, not, ◌==◌, if◌then◌else◌, List, [], ◌∷◌, map, filter}
use Rattle.std.specs.Prelude.{Some, None, encode_utf8_all}
use Rattle.std.specs.Char.{to_ascii_lowercase}
use Rattle.std.specs.Ordering.{int_eq}
use Rattle.std.specs.Str.{chars}
use Rattle.protobuf_parse_base.specs.Cases.{camel_case_text}
use Rattle.protobuf_parse_base.specs.Characters as char
use Rattle.protobuf_parse_model.specs.Descriptors.{Text, EnumDescriptor, EnumValueDescriptor}
use Rattle.protobuf_parse_model.specs.Descriptors.{FieldDescriptor}
use Rattle.protobuf_parse_wire.specs.Declarations.{name_within}
use Rattle.protobuf_parse_rules.specs.Claims.{Claim, Rules, conflicts}
use Rattle.protobuf_parse_rules.specs.Bodies.{BodyParts, fields_of}
use Rattle.protobuf_parse_rules.specs.Rules.{Breach}
use Rattle.protobuf_parse_rules.specs.declared.rule.Rule.TheVariants as rule

-- a name with how it is compared
pub record Spelled : Type 0 where
  pub key : Text
  pub name : Text
  pub number : ℤ

-- what such a name in the scope claims
abbrev pub spelled_claim : (file scope : Text) → Spelled → Claim
spelled_claim file scope s = record {
  thing = record { number = pos 0; name = s.key; scope = [] };
  who = record {
    file = file;
    name = name_within scope s.name;
    number = s.number;
    kind = None;
  };
}

-- in ASCII lower case
abbrev pub lower : List ℕ → List ℕ
lower cs = map to_ascii_lowercase cs

-- any character but the underscore
abbrev pub is_letter : ℕ → Bool
is_letter c = not (c == char.underscore)

-- the characters of a name in lower case, without underscores
abbrev pub squeezed : Text → List ℕ
squeezed name = lower (filter is_letter (chars name))

-- ---- fields

-- how the name of a field is compared
abbrev pub spelled_field : FieldDescriptor → Spelled
spelled_field f =
    record { key = encode_utf8_all (squeezed f.name); name = f.name; number = f.number }

-- C47: the name is another field's but for case and underscores
abbrev pub field_alike_rule : Rules
field_alike_rule c other =
    Some (record { rule = rule.JsonNamesAlike; name = None; by = Some other.name })

-- C47 at each field of a message of proto3
abbrev pub fields_alike : BodyParts → List Breach
fields_alike p = if p.proto3 then conflicts field_alike_rule []
    (map (spelled_claim p.file p.scope) (map spelled_field (fields_of p.content))) else []

-- ---- values

-- what stands behind the front, which is in lower case and without underscores; nothing, where the
-- front doesn't stand at the head, or nothing but underscores behind it
abbrev pub behind : (front : List ℕ) → List ℕ → List ℕ
behind front [] = []
behind [] (c ∷ cs) = if c == char.underscore then behind [] cs else c ∷ cs
behind (f ∷ fs) (c ∷ cs) = if c == char.underscore then behind (f ∷ fs) cs
    else (if to_ascii_lowercase c == f then behind fs cs else [])

-- the first list, or the second where that is empty
abbrev pub or_else : List ℕ → List ℕ → List ℕ
or_else [] cs = cs
or_else (b ∷ bs) cs = b ∷ bs

-- without the front, where something stands behind it
abbrev pub without_front : (front : List ℕ) → List ℕ → List ℕ
without_front front cs = or_else (behind front cs) cs

-- in camel case, with each word in lower case but for its first letter
abbrev pub words : List ℕ → Text
words cs = camel_case_text (encode_utf8_all (lower cs))

-- how the name of a value is compared, where the enum's name is the front
abbrev pub spelled_value : (front : List ℕ) → EnumValueDescriptor → Spelled
spelled_value front v = record {
  key = words (without_front front (chars v.name));
  name = v.name;
  number = v.number;
}

-- C46, and C52 in proto2: the name is another value's, of another number
abbrev pub value_alike_rule : (proto3 : Bool) → Rules
value_alike_rule proto3 c other = if int_eq c.who.number other.number then None else Some (record {
  rule = if proto3 then rule.ValueNamesAlike else rule.ValueNamesAlikeProto2;
  name = None;
  by = Some other.name;
})

-- C46 or C52 at each value of an enum
abbrev pub values_alike : BodyParts → EnumDescriptor → List Breach
values_alike p e = conflicts (value_alike_rule p.proto3) []
    (map (spelled_claim p.file p.scope) (map (spelled_value (squeezed e.name)) e.value))
