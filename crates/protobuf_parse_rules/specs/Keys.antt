-- No public clause rests on this file.
-- Numbers by which things are told apart quickly.
use Rattle.std.specs.Prelude.{ℕ, ℤ, ◌*◌, ◌%◌, ◌^◌, ◌==◌, Bool, true, false, not, if◌then◌else◌}
use Rattle.std.specs.Prelude.{List, [], ◌∷◌, ◌++◌, map, flat_map, option_to_list, bit_xor}
use Rattle.std.specs.Prelude.{encode_utf8_all}
use Rattle.std.specs.Char.{to_ascii_lowercase}
use Rattle.std.specs.Int.{cast_unsigned, w32}
use Rattle.std.specs.List.{fold}
use Rattle.protobuf_parse_base.specs.Characters as char
use Rattle.protobuf_parse_model.specs.Descriptors.{Text, EnumDescriptor, EnumValueDescriptor}
use Rattle.protobuf_parse_model.specs.Descriptors.{FieldDescriptor, MethodDescriptor}
use Rattle.protobuf_parse_model.specs.Descriptors.{OneofDescriptor, ServiceDescriptor}
use Rattle.protobuf_parse_rules.specs.Alike.{squeezed}
use Rattle.protobuf_parse_rules.specs.Claims.{Claim, Thing}
use Rattle.protobuf_parse_rules.specs.Names.{Named, package_named}
use Rattle.protobuf_parse_rules.specs.Bodies.{Content, BodyParts, enums_of, extensions_of, of_file}
use Rattle.protobuf_parse_rules.specs.Bodies.{of_message, services_of}
use Rattle.protobuf_parse_rules.specs.declared.kind.NamedKind.{NamedKind}
use Rattle.protobuf_parse_rules.specs.declared.kind.NamedKind.TheVariants as kind

-- ---- texts, byte by byte

abbrev pub no_text : ℕ
no_text = 0xcbf2_9ce4_8422_2325

-- the key of a text and one byte more, by that of the text
abbrev pub mixed : ℕ → ℕ → ℕ
mixed key b = (bit_xor key b * 0x100_0000_01b3) % 2 ^ 64

abbrev pub text_key : Text → ℕ
text_key text = fold mixed no_text text

-- ---- numbers behind texts

-- the key of a number behind a text, by that of the text
abbrev pub numbered : ℕ → ℤ → ℕ
numbered key n = bit_xor key (cast_unsigned w32 n) * 0x100_0000_01b3 % 2 ^ 64

-- the key of a thing: of its number behind its name
abbrev pub thing_key : Thing → ℕ
thing_key t = numbered (text_key t.name) t.number

abbrev pub claim_key : Claim → ℕ
claim_key c = thing_key c.thing

-- ---- numbers of a message

-- that of a field's or an extension's number, by the key of the message's name
abbrev pub field_key : ℕ → FieldDescriptor → ℕ
field_key key f = numbered key f.number

abbrev pub extension_keys : FieldDescriptor → List ℕ
extension_keys e = map (λ (m : Text). field_key (text_key m) e) (option_to_list e.extendee)

-- ---- names in lower case

-- the same of a text in lower case and without underscores
abbrev pub squeezed_mixed : ℕ → ℕ → ℕ
squeezed_mixed key b = if b == char.underscore then key else mixed key (to_ascii_lowercase b)

-- the keys of the name of an enum's value in lower case and without underscores: by itself, and
-- behind the text that has the first key
abbrev pub spelling_keys : ℕ → EnumValueDescriptor → List ℕ
spelling_keys front v = text_key (encode_utf8_all (squeezed v.name))
    ∷ fold mixed front (encode_utf8_all (squeezed v.name)) ∷ []

-- ---- full names

abbrev pub is_package : NamedKind → Bool
is_package kind.Package = true
is_package _ = false

abbrev pub name_key : Named → ℕ
name_key n = text_key n.name

-- of what is a package, or else of what is none
abbrev pub keys_at : (packages : Bool) → Named → List ℕ
keys_at packages n = if (if packages then is_package n.kind else not (is_package n.kind))
    then name_key n ∷ [] else []

-- the packages of a file
abbrev pub packages_in : (file : Text) → Content → List Named
packages_in file (of_message m) = []
packages_in file (of_file f) = package_named file f.«package»

abbrev pub packages_at : BodyParts → List Named
packages_at p = packages_in p.file p.content

-- ---- full names of what are no packages, by the key of the scope and its dot

abbrev pub inside : (scope : Text) → ℕ
inside scope = mixed (text_key scope) char.dot

abbrev pub field_keys : ℕ → List FieldDescriptor → List ℕ
field_keys k fields = map (λ (f : FieldDescriptor). fold mixed k f.name) fields

abbrev pub oneof_keys : ℕ → List OneofDescriptor → List ℕ
oneof_keys k oneofs = map (λ (o : OneofDescriptor). fold mixed k o.name) oneofs

abbrev pub value_keys : ℕ → List EnumValueDescriptor → List ℕ
value_keys k values = map (λ (v : EnumValueDescriptor). fold mixed k v.name) values

abbrev pub enum_keys : ℕ → EnumDescriptor → List ℕ
enum_keys k e = fold mixed k e.name ∷ value_keys k e.value

abbrev pub method_keys : ℕ → List MethodDescriptor → List ℕ
method_keys k methods = map (λ (m : MethodDescriptor). fold mixed k m.name) methods

abbrev pub service_keys : ℕ → ServiceDescriptor → List ℕ
service_keys k s =
    fold mixed k s.name ∷ method_keys (mixed (fold mixed k s.name) char.dot) s.method

-- of a message, whose key is `itself`, its fields and its oneofs; a file has none of its own
abbrev pub own_keys : (itself k : ℕ) → Content → List ℕ
own_keys itself k (of_message m) = itself ∷ (field_keys k m.field ++ oneof_keys k m.oneof_decl)
own_keys itself k (of_file f) = []

abbrev pub inner_keys : ℕ → Content → List ℕ
inner_keys k content = flat_map (enum_keys k) (enums_of content)
    ++ (flat_map (service_keys k) (services_of content) ++ field_keys k (extensions_of content))

abbrev pub other_keys : BodyParts → List ℕ
other_keys p = own_keys (text_key p.scope) (inside p.scope) p.content
    ++ inner_keys (inside p.scope) p.content
