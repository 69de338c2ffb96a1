-- Small files and what they become, worked out by the definitions.
use Rattle.std.proofs.Common.{◌≡◌, ℕ, pos, List, [], ◌∷◌, map, codes, Option, Some, None, true}
use Rattle.std.proofs.Common.{◌++◌, false, refl, flat_map}
use lib.Utf8
use Rattle.std.specs.Fmt.{digits}
use Rattle.std.specs.Str.{chars, is_utf8}
use Rattle.protobuf_parse_lexer.specs.declared.lexer.token.Place.{Place}
use Rattle.protobuf_parse_lexer.specs.Decoder.{decode_piece, front_part, byte_part, digits_end}
use Rattle.protobuf_parse_syntax.specs.Trees.{ConstantSyntax, integer, string, truth, builtin}
use Rattle.protobuf_parse_syntax.specs.Trees.{OptionSyntax, scalar, map_of, named, TypeSyntax}
use Rattle.protobuf_parse_syntax.specs.Trees.{FieldSyntax, FieldStatementSyntax, field, group}
use Rattle.protobuf_parse_syntax.specs.Trees.{field_statements, reserved_ranges, RangeSyntax}
use Rattle.protobuf_parse_syntax.specs.Trees.{oneof_field, EnumSyntax, enum_reserved}
use Rattle.protobuf_parse_syntax.specs.Trees.{MessageStatementSyntax, message_reserved}
use Rattle.protobuf_parse_syntax.specs.Trees.{message_oneof, message_message, message_extensions}
use Rattle.protobuf_parse_syntax.specs.Trees.{message_option, message_field, message_statements}
use Rattle.protobuf_parse_syntax.specs.Trees.{StatementSyntax, file_import, file_package}
use Rattle.protobuf_parse_syntax.specs.Trees.{file_message, file_extend, file_service}
use Rattle.protobuf_parse_syntax.specs.Trees.{service_method, FileSyntax}
use Rattle.protobuf_parse_syntax.specs.Formats.{format}
use Rattle.protobuf_parse_syntax.specs.declared.tree.Syntax.{Syntax}
use Rattle.protobuf_parse_syntax.specs.declared.tree.Syntax.TheVariants.{Proto2, Proto3}
use Rattle.protobuf_parse_syntax.specs.declared.tree.ImportVis.{ImportVis}
use Rattle.protobuf_parse_syntax.specs.declared.tree.ImportVis.TheVariants as vis
use Rattle.protobuf_parse_syntax.specs.declared.tree.field.Label.{Label}
use Rattle.protobuf_parse_syntax.specs.declared.tree.field.Label.TheVariants.{Optional, Repeated}
use Rattle.protobuf_parse_syntax.specs.declared.tree.field.Scalar.TheVariants as word
use Rattle.protobuf_parse_model.specs.declared.descriptor.FieldType.{FieldType}
use Rattle.protobuf_parse_model.specs.declared.descriptor.FieldType.TheVariants as kind
use Rattle.protobuf_parse_model.specs.declared.error.ElabErrorKind.TheVariants as error
use Rattle.protobuf_parse_model.specs.Descriptors.{FileDescriptor, ServiceDescriptor}
use Rattle.protobuf_parse_model.specs.Descriptors.{MethodDescriptor, Text, FieldDescriptor}
use Rattle.protobuf_parse_model.specs.Descriptors.{OneofDescriptor, MessageDescriptor, MessageParts}
use Rattle.protobuf_parse_model.specs.Descriptors.{a_message, messages_list}
use Rattle.protobuf_parse_model.specs.Environment.{Environment, no_customs}
use Rattle.protobuf_parse_model.specs.OptionMessages.{entry_options}
use Rattle.protobuf_parse_model.specs.Linking.{link_faults}
use Rattle.protobuf_parse_elaboration.specs.Fields.{of_message, field_of, field_faults}
use Rattle.protobuf_parse_elaboration.specs.NamesOf.{names_of_fields}
use Rattle.protobuf_parse_elaboration.specs.Enums.{enum_of}
use Rattle.protobuf_parse_elaboration.specs.Messages as messages
use Rattle.protobuf_parse_elaboration.specs.NamesOf.{names_of_messages}
use Rattle.protobuf_parse_elaboration.specs.FileDescriptor.{environment, file_of, file_faults}
use Rattle.protobuf_parse_elaboration.specs.NamedTypes.{type_names_in}
use Rattle.protobuf_parse_model.specs.declared.error.ElabErrorKind.{ElabErrorKind}
use Rattle.protobuf_parse_model.specs.Duplicates.{fault}
use Rattle.protobuf_parse_model.specs.Faults.{Fault, placed}

-- ---- trees; where their parts stand says nothing

abbrev nowhere : Place
nowhere = record { line = 1; col = 1 }

abbrev told : ElabErrorKind → Text → List Fault
told kind what = placed nowhere (fault kind what)

abbrev a_field : Option Label → TypeSyntax → Text → ℕ → List OptionSyntax → FieldSyntax
a_field label type_ name number options =
    record {
      place = nowhere;
      label = label;
      type_ = type_;
      name = name;
      number = pos number;
      options = options;
    }

abbrev inner : Text → List MessageStatementSyntax → MessageStatementSyntax
inner name body = message_message nowhere name (message_statements body)

abbrev outer : Text → List MessageStatementSyntax → StatementSyntax
outer name body = file_message (record { place = nowhere; name = name; body = body })

abbrev file : Syntax → List StatementSyntax → FileSyntax
file syntax statements = record { syntax = syntax; statements = statements }

-- of a file that sees itself alone
abbrev alone : FileSyntax → Environment
alone t = environment (t ∷ []) no_customs t

abbrev messages_in : FileSyntax → List MessageDescriptor
messages_in t = (file_of (alone t) (codes "x.proto") t).message_type

abbrev parts : MessageDescriptor → MessageParts
parts (a_message p nested) = p

abbrev nested : MessageDescriptor → List MessageDescriptor
nested (a_message p ms) = messages_list ms

abbrev first : {A : Type 0} → List A → (A → Text) → Text
first [] text = []
first (x ∷ xs) text = text x

abbrev type_names : MessageDescriptor → List (Option Text)
type_names m = map (λ (f : FieldDescriptor). f.type_name) (parts m).field

-- ---- message A { message B {} message C { optional B.D x = 1; } } message B { message D {} }

abbrev scopes : FileSyntax
scopes = file Proto2
    (outer (codes "A")
    (inner (codes "B") [] ∷ inner (codes "C")
    (message_field (field (a_field (Some Optional) (named (codes "B.D")) (codes "x") 1 [])) ∷ [])
    ∷ [])
    ∷ outer (codes "B") (inner (codes "D") [] ∷ []) ∷ [])

scopes_are_searched : map (λ m. map type_names (nested m)) (messages_in scopes)
    ≡ ([] ∷ (Some (codes ".B.D") ∷ []) ∷ []) ∷ ([] ∷ []) ∷ []
scopes_are_searched = refl

scopes_have_no_fault : file_faults (alone scopes) scopes ≡ []
scopes_have_no_fault = refl

-- an absolute name, and one that means nothing from there
abbrev unknown : FileSyntax
unknown =
    file Proto2
    (outer (codes "A")
    (message_field (field (a_field (Some Optional) (named (codes ".D")) (codes "x") 1 []))
    ∷ message_field (field (a_field (Some Optional) (named (codes "D.B")) (codes "y") 2 [])) ∷ [])
    ∷ [])

unknown_names_are_told : file_faults (alone unknown) unknown
    ≡ told error.NotFoundByAbsPath (codes ".D") ++ told error.NotFoundByRelPath (codes "D.B")
unknown_names_are_told = refl

-- ---- proto3: message M { map<string, int32> foo_bar = 1; }

abbrev with_map : FileSyntax
with_map =
    file Proto3
    (outer (codes "M")
    (message_field
    (field (a_field None (map_of (scalar word.String) (scalar word.Int32)) (codes "foo_bar") 1 []))
    ∷ []) ∷ [])

abbrev map_field : FieldDescriptor
map_field = record {
  name = codes "foo_bar";
  number = pos 1;
  label = Repeated;
  type_ = kind.Message;
  type_name = Some (codes ".M.FooBarEntry");
  extendee = None;
  default_value = None;
  oneof_index = None;
  json_name = codes "fooBar";
  proto3_optional = false;
  options = None;
}

map_is_repeated : map (λ m. (parts m).field) (messages_in with_map) ≡ (map_field ∷ []) ∷ []
unfolding chars lib.Utf8.encode
map_is_repeated = refl

map_has_an_entry : map nested (messages_in with_map)
    ≡ (messages.message_with (codes "FooBarEntry")
    (messages.entry_field (codes "key") (pos 1) (record { kind = kind.String; name = None })
    ∷ messages.entry_field (codes "value") (pos 2) (record { kind = kind.Int32; name = None }) ∷ [])
    entry_options ∷ []) ∷ []
unfolding chars lib.Utf8.encode
map_has_an_entry = refl

-- ---- proto3: message M { optional int32 a = 1; oneof o { int32 b = 2; } optional int32 c = 3; }

abbrev int_field : Option Label → Text → ℕ → FieldStatementSyntax
int_field label name number = field (a_field label (scalar word.Int32) name number [])

abbrev with_oneofs : FileSyntax
with_oneofs = file Proto3 (outer (codes "M") (
    message_field (int_field (Some Optional) (codes "a") 1)
    ∷ message_oneof
    (record {
      place = nowhere;
      name = codes "o";
      body =
          oneof_field (int_field None (codes "b") 2) ∷ [];
    })
    ∷ message_field (int_field (Some Optional) (codes "c") 3) ∷ []) ∷ [])

oneofs_in_order : map (λ m. map (λ (o : OneofDescriptor). o.name) (parts m).oneof_decl)
    (messages_in with_oneofs) ≡ (codes "_a" ∷ codes "o" ∷ codes "_c" ∷ []) ∷ []
oneofs_in_order = refl

fields_know_their_oneof : map (λ m. map (λ (f : FieldDescriptor). f.oneof_index) (parts m).field)
    (messages_in with_oneofs) ≡ (Some (pos 0) ∷ Some (pos 1) ∷ Some (pos 2) ∷ []) ∷ []
fields_know_their_oneof = refl

optional_is_kept : map (λ m. map (λ (f : FieldDescriptor). f.proto3_optional) (parts m).field)
    (messages_in with_oneofs) ≡ (true ∷ false ∷ true ∷ []) ∷ []
optional_is_kept = refl

-- ---- message M { repeated group Item = 1 { optional int32 x = 2; } optional Item y = 3; }

abbrev item_group : FieldStatementSyntax
item_group = group nowhere (Some Repeated) (codes "Item") (pos 1)
    (field_statements (int_field (Some Optional) (codes "x") 2 ∷ []))

abbrev with_group : List MessageStatementSyntax → FileSyntax
with_group more = file Proto2 (outer (codes "M") (message_field item_group ∷ more) ∷ [])

abbrev shape : FieldDescriptor → Text × Label × FieldType × Option Text
shape f = (f.name, f.label, f.type_, f.type_name)

group_is_a_field : map (λ m. map shape (parts m).field) (messages_in (with_group []))
    ≡ ((codes "item", Repeated, kind.Group, Some (codes ".M.Item")) ∷ []) ∷ []
group_is_a_field = refl

group_is_a_message : map (λ m. names_of_messages (nested m)) (messages_in (with_group []))
    ≡ (codes "Item" ∷ []) ∷ []
group_is_a_message = refl

group_has_its_fields : map (λ m. map (λ n. names_of_fields (parts n).field) (nested m))
    (messages_in (with_group [])) ≡ ((codes "x" ∷ []) ∷ []) ∷ []
group_has_its_fields = refl

abbrev group_named : FileSyntax
group_named =
    with_group
    (message_field (field (a_field (Some Optional) (named (codes "Item")) (codes "y") 3 [])) ∷ [])

no_name_means_a_group : file_faults (alone group_named) group_named
    ≡ told error.NotFoundByRelPath (codes "Item")
no_name_means_a_group = refl

-- ---- extensions 100 to max; reserved 5 to 3; extensions 2147483647

abbrev range : ℕ → ℕ → RangeSyntax
range from to = record { from = pos from; to = pos to }

abbrev ranged : FileSyntax
ranged = file Proto2 (outer (codes "M") (
    message_extensions (record { place = nowhere; ranges = range 100 536870911 ∷ [] })
    ∷ message_reserved (record { place = nowhere; reserved = reserved_ranges (range 5 3 ∷ []) })
    ∷ []) ∷ [])

extensions_end_behind : map (λ m. (parts m).extension_range) (messages_in ranged)
    ≡ (record { start = pos 100; end = pos 536870912 } ∷ []) ∷ []
extensions_end_behind = refl

reserved_ranges_end_behind : map (λ m. (parts m).reserved_range) (messages_in ranged)
    ≡ (record { start = pos 5; end = pos 4 } ∷ []) ∷ []
reserved_ranges_end_behind = refl

abbrev too_far : FileSyntax
too_far =
    file Proto2
    (outer (codes "M")
    (message_extensions (record { place = nowhere; ranges = range 2147483647 2147483647 ∷ [] })
    ∷ []) ∷ [])

range_has_no_end : file_faults (alone too_far) too_far
    ≡ told error.RangeEndOverflow (codes "M")
range_has_no_end = refl

abbrev an_enum : EnumSyntax
an_enum =
    record {
      place = nowhere;
      name = codes "E";
      body =
          enum_reserved (record { place = nowhere; reserved = reserved_ranges (range 5 9 ∷ []) })
          ∷ [];
    }

enum_ranges_have_both_ends : (enum_of (alone with_map) an_enum).reserved_range
    ≡ record { start = pos 5; end = pos 9 } ∷ []
enum_ranges_have_both_ends = refl

-- ---- defaults and JSON names

abbrev set : Text → ConstantSyntax → OptionSyntax
set name value = record { place = nowhere; name = builtin name; value = value }

abbrev with_option : TypeSyntax → OptionSyntax → FieldSyntax
with_option type_ o = a_field (Some Optional) type_ (codes "foo__bar_1") 1 (o ∷ [])

-- bytes b = 1 [default = "ab\nc d\xfeE\"g\'h\0\"z"]: the escapes stand for bytes, which are escaped
-- anew
bytes_are_escaped :
    (field_of (alone with_map) of_message
    (with_option (scalar word.Bytes)
    (set (codes "default") (string (codes "ab\\nc d\\xfeE\\\"g\\'h\\0\\\"z" ∷ []))))).default_value
    ≡ Some (codes "ab\\nc d\\376E\\\"g\\'h\\000\\\"z")
unfolding decode_piece front_part byte_part digits_end chars
bytes_are_escaped = refl

-- string s = 1 [default = "\400"] stands for nothing, and [default = 1] is no string
string_says_nothing : field_faults (alone with_map)
    (with_option (scalar word.String) (set (codes "default") (string (codes "\\400" ∷ []))))
    ≡ told error.StrLitDecode (codes "default")
unfolding decode_piece front_part byte_part digits_end chars
string_says_nothing = refl

number_is_no_string : field_faults (alone with_map)
    (with_option (scalar word.String) (set (codes "default") (integer (pos 1))))
    ≡ told error.DefaultValueIsNotStringLiteral (codes "foo__bar_1")
number_is_no_string = refl

-- double d = 1 [default = 10]
default_is_its_text :
    (field_of (alone with_map) of_message
    (with_option (scalar word.Double) (set (codes "default") (integer (pos 10))))).default_value
    ≡ Some (codes "10")
unfolding format chars digits
default_is_its_text = refl

json_name_is_made :
    (field_of (alone with_map) of_message
    (with_option (scalar word.Int32) (set (codes "deprecated") (truth true)))).json_name
    ≡ codes "fooBar1"
unfolding chars lib.Utf8.encode
json_name_is_made = refl

json_name_is_set :
    (field_of (alone with_map) of_message
    (with_option (scalar word.Int32) (set (codes "json_name") (string (codes "J" ∷ []))))).json_name
    ≡ codes "J"
unfolding decode_piece front_part byte_part digits_end chars is_utf8 lib.Utf8.encode
json_name_is_set = refl

-- message M { option foo = 1; }
abbrev unknown_option : FileSyntax
unknown_option =
    file Proto3
    (outer (codes "M")
    (message_option (record { place = nowhere; option = set (codes "foo") (integer (pos 1)) }) ∷ [])
    ∷ [])

option_is_unknown : file_faults (alone unknown_option) unknown_option
    ≡ told error.BuiltinOptionNotFound (codes "foo")
option_is_unknown = refl

-- ---- package p.q; import "a"; import public "b"; import weak "c"; import public "d";
-- message M {} service S { rpc Get (M) returns (stream q.M); } extend M { optional M e = 100; }

abbrev import : ImportVis → Text → StatementSyntax
import seen path = file_import (record { place = nowhere; vis = seen; path = path })

abbrev packaged : FileSyntax
packaged = file Proto2 (
    file_package (record { place = nowhere; name = codes "p.q" })
    ∷ import vis.Default (codes "a") ∷ import vis.Public (codes "b") ∷ import vis.Weak (codes "c")
    ∷ import vis.Public (codes "d")
    ∷ outer (codes "M") []
    ∷ file_service
    (record {
      place = nowhere;
      name = codes "S";
      body =
          service_method
          (record {
            place = nowhere;
            name = codes "Get";
            input = codes "M";
            output = codes "q.M";
            client_streaming = false;
            server_streaming = true;
            options = [];
          }) ∷ [];
    })
    ∷ file_extend
    (record {
      place = nowhere;
      extendee = codes "M";
      fields =
          field (a_field (Some Optional) (named (codes "M")) (codes "e") 100 []) ∷ [];
    }) ∷ [])

abbrev of_packaged : FileDescriptor
of_packaged = file_of (alone packaged) (codes "x.proto") packaged

package_is_kept : of_packaged.«package» ≡ Some (codes "p.q")
package_is_kept = refl

imports_in_order : of_packaged.dependency ≡ codes "a" ∷ codes "b" ∷ codes "c" ∷ codes "d" ∷ []
imports_in_order = refl

public_imports : of_packaged.public_dependency ≡ pos 1 ∷ pos 3 ∷ []
public_imports = refl

weak_imports : of_packaged.weak_dependency ≡ pos 2 ∷ []
weak_imports = refl

methods_have_full_names : flat_map
    (λ (s : ServiceDescriptor). map (λ (m : MethodDescriptor). m.output_type) s.method)
    of_packaged.service ≡ codes ".p.q.M" ∷ []
methods_have_full_names = refl

extendees_have_full_names : map (λ (f : FieldDescriptor). f.extendee) of_packaged.extension
    ≡ Some (codes ".p.q.M") ∷ []
extendees_have_full_names = refl

packaged_has_no_fault : file_faults (alone packaged) packaged ≡ []
packaged_has_no_fault = refl

-- of the extension its type and what it extends, of the method what it takes and returns
all_types_are_named : type_names_in of_packaged ≡ codes ".p.q.M" ∷ codes ".p.q.M" ∷ codes ".p.q.M"
    ∷ codes ".p.q.M" ∷ []
all_types_are_named = refl

nested_types_are_named : type_names_in (file_of (alone scopes) (codes "x.proto") scopes)
    ≡ codes ".B.D"
    ∷ []
nested_types_are_named = refl

maps_are_named : type_names_in (file_of (alone with_map) (codes "x.proto") with_map)
    ≡ codes ".M.FooBarEntry" ∷ []
unfolding chars lib.Utf8.encode
maps_are_named = refl

-- message M { map<string, M> m = 1; }: the map, and the value of its entry
abbrev map_of_messages : FileSyntax
map_of_messages =
    file Proto3
    (outer (codes "M")
    (message_field
    (field (a_field None (map_of (scalar word.String) (named (codes "M"))) (codes "m") 1 [])) ∷ [])
    ∷ [])

values_are_named : type_names_in (file_of (alone map_of_messages) (codes "x.proto") map_of_messages)
    ≡ codes ".M.MEntry" ∷ codes ".M" ∷ []
unfolding chars lib.Utf8.encode
values_are_named = refl

groups_are_named : type_names_in (file_of (alone (with_group [])) (codes "x.proto") (with_group []))
    ≡ codes ".M.Item" ∷ []
groups_are_named = refl

-- the same file twice among those that are reached
declared_twice : link_faults (scopes ∷ with_group [] ∷ with_group [] ∷ [])
    ≡ flat_map (told error.TypeDeclaredTwice)
    (codes ".M" ∷ codes ".M.Item" ∷ codes ".M" ∷ codes ".M.Item" ∷ [])
declared_twice = refl

-- message M { optional int32 a = 1; optional int32 a = 2; }
abbrev named_twice : FileSyntax
named_twice =
    file Proto2
    (outer (codes "M") (message_field (int_field (Some Optional) (codes "a") 1)
    ∷ message_field (int_field (Some Optional) (codes "a") 2) ∷ []) ∷ [])

name_stands_twice : file_faults (alone named_twice) named_twice
    ≡ told error.DuplicateName (codes "a")
name_stands_twice = refl
