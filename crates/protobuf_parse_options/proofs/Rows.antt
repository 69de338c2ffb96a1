-- Small files with custom options and what they denote, worked out by the definitions.
use Rattle.std.proofs.Common.{◌≡◌, ℕ, pos, negsuc, List, [], ◌∷◌, map, codes, Some, None, refl}
use Rattle.std.proofs.Common.{arith}
use Rattle.std.specs.Str.{chars, is_utf8}
use lib.Utf8
use Rattle.protobuf_parse_lexer.specs.declared.lexer.token.Place.{Place}
use Rattle.protobuf_parse_lexer.specs.Decoder.{decode_piece, front_part, byte_part, digits_end}
use Rattle.protobuf_parse_syntax.specs.declared.tree.Syntax.TheVariants.{Proto2}
use Rattle.protobuf_parse_syntax.specs.declared.tree.field.Label.{Label}
use Rattle.protobuf_parse_syntax.specs.declared.tree.field.Label.TheVariants.{Optional, Repeated}
use Rattle.protobuf_parse_syntax.specs.declared.tree.field.Scalar.TheVariants as word
use Rattle.protobuf_parse_syntax.specs.Trees.{ConstantSyntax, integer, string, list, fields}
use Rattle.protobuf_parse_syntax.specs.Trees.{no_constants, more_constants, ConstantFieldList}
use Rattle.protobuf_parse_syntax.specs.Trees.{no_fields, more_fields, regular_name, extension_name}
use Rattle.protobuf_parse_syntax.specs.Trees.{url_name, extension, direct, custom, OptionPartSyntax}
use Rattle.protobuf_parse_syntax.specs.Trees.{OptionSyntax, scalar, map_of, named, TypeSyntax}
use Rattle.protobuf_parse_syntax.specs.Trees.{FieldStatementSyntax, field, message_field}
use Rattle.protobuf_parse_syntax.specs.Trees.{StatementSyntax, message_extend, dotted, enum_value}
use Rattle.protobuf_parse_syntax.specs.Trees.{file_enum, file_package, file_message, file_extend}
use Rattle.protobuf_parse_syntax.specs.Trees.{FileSyntax}
use Rattle.protobuf_parse_model.specs.declared.error.ElabErrorKind.TheVariants as error
use Rattle.protobuf_parse_model.specs.Descriptors.{Text, FileDescriptor}
use Rattle.protobuf_parse_model.specs.declared.customs.Construct.TheVariants as of
use Rattle.protobuf_parse_model.specs.Environment.{no_customs}
use Rattle.protobuf_parse_elaboration.specs.FileDescriptor.{environment, file_of}
use Rattle.protobuf_parse_wire.specs.declared.kind.Kind.TheVariants as kinds
use Rattle.protobuf_parse_wire.specs.Trees as trees
use Rattle.protobuf_parse_wire.specs.Trees.{no_entries, entry}
use Rattle.protobuf_parse_wire.specs.Wire.{Spells}
use Rattle.protobuf_parse_wire.specs.Encoded.{varint_within, encoded}
use Rattle.protobuf_parse_options.specs.OptionFields.{OptionScope}
use Rattle.protobuf_parse_options.specs.CustomOptions.{denotes}
use Rattle.protobuf_parse_options.specs.CustomFaults.{custom_statement_faults}
use Rattle.protobuf_parse_model.specs.declared.error.ElabErrorKind.{ElabErrorKind}
use Rattle.protobuf_parse_model.specs.Duplicates.{fault}
use Rattle.protobuf_parse_model.specs.Faults.{Fault, placed}

-- ---- trees; where their parts stand says nothing

abbrev nowhere : Place
nowhere = record { line = 1; col = 1 }

abbrev told : ElabErrorKind → Text → List Fault
told kind what = placed nowhere (fault kind what)

abbrev a_field : Label → TypeSyntax → Text → ℕ → FieldStatementSyntax
a_field label type_ name number =
    field (record {
      place = nowhere;
      label = Some label;
      type_ = type_;
      name = name;
      number =
          pos number;
      options = [];
    })

abbrev a_message : Text → List FieldStatementSyntax → StatementSyntax
a_message name fs =
    file_message (record { place = nowhere; name = name; body = map message_field fs })

abbrev an_extend : Text → List FieldStatementSyntax → StatementSyntax
an_extend extendee fs = file_extend (record { place = nowhere; extendee = extendee; fields = fs })

abbrev file : List StatementSyntax → FileSyntax
file statements = record { syntax = Proto2; statements = statements }

-- of google/protobuf/descriptor.proto what is needed here
abbrev options_file : FileSyntax
options_file =
    file (file_package (record { place = nowhere; name = codes "google.protobuf" })
    ∷ a_message (codes "FileOptions") [] ∷ a_message (codes "MessageOptions") [] ∷ [])

-- message M { repeated int32 a = 1; optional string s = 2; }
-- extend google.protobuf.FileOptions { optional sint32 o = 50001; optional int32 i = 50002; }
-- extend google.protobuf.MessageOptions { optional M m = 50003; }
abbrev declaring : FileSyntax
declaring = file (
    a_message (codes "M")
    (a_field Repeated (scalar word.Int32) (codes "a") 1
    ∷ a_field Optional (scalar word.String) (codes "s") 2 ∷ [])
    ∷ an_extend (codes "google.protobuf.FileOptions")
    (a_field Optional (scalar word.Sint32) (codes "o") 50001
    ∷ a_field Optional (scalar word.Int32) (codes "i") 50002 ∷ [])
    ∷ an_extend (codes "google.protobuf.MessageOptions")
    (a_field Optional (named (codes "M")) (codes "m") 50003 ∷ []) ∷ [])

abbrev descriptor : FileSyntax → FileDescriptor
descriptor t = file_of (environment (options_file ∷ t ∷ []) no_customs t) (codes "x.proto") t

abbrev descriptors : List FileDescriptor
descriptors = descriptor options_file ∷ descriptor declaring ∷ []

abbrev here : OptionScope
here = record { files = descriptors; visible = descriptors; scope = [] }

abbrev set : List OptionPartSyntax → ConstantSyntax → List OptionSyntax
set parts value = record { place = nowhere; name = custom parts; value = value } ∷ []

-- ---- option (o) = -1; and -2147483648

abbrev minus_one : List OptionSyntax
minus_one = set (extension (codes "o") ∷ []) (integer (negsuc 0))

minus_one_denotes : denotes here of.File minus_one
    ≡ entry 50001 kinds.Sint32 (trees.number (negsuc 0)) no_entries
minus_one_denotes = refl

minus_one_has_no_fault : custom_statement_faults here of.File minus_one ≡ []
minus_one_has_no_fault = refl

-- 88 b5 18 01
minus_one_is_spelled : Spells (denotes here of.File minus_one) (136 ∷ 181 ∷ 24 ∷ 1 ∷ [])
minus_one_is_spelled = (
  136 ∷ 181 ∷ 24 ∷ [],
  1 ∷ [],
  [],
  refl,
  record {
    bytes = (omega arith, (omega arith, (omega arith, tt)));
    chain = (omega arith, (omega arith, omega arith));
    shortest = omega arith;
    value = refl;
  },
  (
    1,
    refl,
    record { bytes = (omega arith, tt); chain = omega arith; shortest = tt; value = refl },
  ),
  refl,
)

minus_one_is_encoded : encoded (denotes here of.File minus_one) ≡ 136 ∷ 181 ∷ 24 ∷ 1 ∷ []
unfolding varint_within
minus_one_is_encoded = refl

-- in ten bytes: 90 b5 18 ff ff ff ff ff ff ff ff ff 01
signed_minus_one_is_encoded : encoded (entry 50002 kinds.Int32 (trees.number (negsuc 0)) no_entries)
    ≡ 144 ∷ 181 ∷ 24 ∷ 255 ∷ 255 ∷ 255 ∷ 255 ∷ 255 ∷ 255 ∷ 255 ∷ 255 ∷ 255 ∷ 1 ∷ []
unfolding varint_within
signed_minus_one_is_encoded = refl

abbrev least : List OptionSyntax
least = set (extension (codes "o") ∷ []) (integer (negsuc 2147483647))

least_denotes : denotes here of.File least
    ≡ entry 50001 kinds.Sint32 (trees.number (negsuc 2147483647)) no_entries
least_denotes = refl

least_has_no_fault : custom_statement_faults here of.File least ≡ []
least_has_no_fault = refl

-- option (o) = 2147483648;
too_large_is_told : custom_statement_faults here of.File
    (set (extension (codes "o") ∷ []) (integer (pos 2147483648)))
    ≡ told error.IntegerOutOfRange (codes "o")
too_large_is_told = refl

-- ---- message X { option (m) = {a: [1, 2] s: "x"}; }

abbrev constant : ConstantSyntax
constant =
    fields (more_fields (regular_name (codes "a"))
    (list (more_constants (integer (pos 1)) (more_constants (integer (pos 2)) no_constants)))
    (more_fields (regular_name (codes "s")) (string (codes "x" ∷ [])) no_fields))

constant_denotes : denotes here of.Message (set (extension (codes "m") ∷ []) constant)
    ≡ entry 50003 kinds.Message
    (trees.message
    (entry 1 kinds.Int32 (trees.number (pos 1))
    (entry 1 kinds.Int32 (trees.number (pos 2))
    (entry 2 kinds.String (trees.bytes (codes "x")) no_entries)))) no_entries
unfolding decode_piece front_part byte_part digits_end
constant_denotes = refl

constant_has_no_fault : custom_statement_faults here of.Message
    (set (extension (codes "m") ∷ []) constant)
    ≡ []
unfolding decode_piece front_part byte_part digits_end chars is_utf8 lib.Utf8.encode
constant_has_no_fault = refl

-- option (m).s = "x";
step_denotes : denotes here of.Message
    (set (extension (codes "m") ∷ direct (codes "s") ∷ []) (string (codes "x" ∷ [])))
    ≡ entry 50003 kinds.Message
    (trees.message (entry 2 kinds.String (trees.bytes (codes "x")) no_entries)) no_entries
unfolding decode_piece front_part byte_part digits_end
step_denotes = refl

-- option (m) = {a: []};
empty_list_denotes : denotes here of.Message
    (set (extension (codes "m") ∷ [])
    (fields (more_fields (regular_name (codes "a")) (list no_constants) no_fields)))
    ≡ entry 50003 kinds.Message (trees.message no_entries) no_entries
empty_list_denotes = refl

-- ---- names that mean nothing

unknown_extension_is_told : custom_statement_faults here of.File
    (set (extension (codes "nope") ∷ []) (integer (pos 1)))
    ≡ told error.ExtensionNotFound (codes "nope")
unknown_extension_is_told = refl

other_message_is_told : custom_statement_faults here of.File
    (set (extension (codes "m") ∷ []) constant)
    ≡ told error.WrongExtensionType (codes "m")
other_message_is_told = refl

no_message_is_told : custom_statement_faults here of.File
    (set (extension (codes "o") ∷ direct (codes "s") ∷ []) (integer (pos 1)))
    ≡ told error.ExtensionIsNotMessage (codes "(o)")
no_message_is_told = refl

builtin_is_no_message : custom_statement_faults here of.File
    (set (direct (codes "java_package") ∷ direct (codes "s") ∷ []) (integer (pos 1)))
    ≡ told error.ExtensionIsNotMessage (codes "java_package")
builtin_is_no_message = refl

unknown_field_is_told : custom_statement_faults here of.Message
    (set (extension (codes "m") ∷ direct (codes "t") ∷ []) (integer (pos 1)))
    ≡ told error.UnknownFieldName (codes "t")
unknown_field_is_told = refl

-- ---- package p.q; enum E { A = 0; B = -1; } message Outer { extend google.protobuf.FileOptions {
-- optional E e = 50005; } } option (Outer.e) = B;

abbrev packaged : FileSyntax
packaged = file (
    file_package (record { place = nowhere; name = codes "p.q" })
    ∷ file_enum
    (record {
      place = nowhere;
      name = codes "E";
      body =
          enum_value (record { place = nowhere; name = codes "A"; number = pos 0; options = [] })
          ∷ enum_value
          (record { place = nowhere; name = codes "B"; number = negsuc 0; options = [] })
          ∷ [];
    })
    ∷ file_message
    (record {
      place = nowhere;
      name = codes "Outer";
      body =
          message_extend
          (record {
            place = nowhere;
            extendee = codes "google.protobuf.FileOptions";
            fields =
                a_field Optional (named (codes "E")) (codes "e") 50005 ∷ [];
          }) ∷ [];
    }) ∷ [])

abbrev in_package : OptionScope
in_package =
    let files : List FileDescriptor = descriptor options_file ∷ descriptor packaged ∷ [] in
    record { files = files; visible = files; scope = codes "p" ∷ codes "q" ∷ [] }

abbrev outer_e : Text → List OptionSyntax
outer_e value = set (extension (codes "Outer.e") ∷ []) (dotted value)

value_is_its_number : denotes in_package of.File (outer_e (codes "B"))
    ≡ entry 50005 kinds.Enum (trees.number (negsuc 0)) no_entries
value_is_its_number = refl

value_has_no_fault : custom_statement_faults in_package of.File (outer_e (codes "B")) ≡ []
value_has_no_fault = refl

unknown_value_is_told : custom_statement_faults in_package of.File (outer_e (codes "C"))
    ≡ told error.UnknownEnumValue (codes "C")
unknown_value_is_told = refl

number_is_no_value : custom_statement_faults in_package of.File
    (set (extension (codes "Outer.e") ∷ []) (integer (pos 0)))
    ≡ told error.UnsupportedExtensionType (codes "e")
number_is_no_value = refl

-- an extension of a file that isn't seen
unseen_is_not_found : custom_statement_faults
    (record { files = descriptors; visible = descriptor options_file ∷ []; scope = [] }) of.File
    minus_one ≡ told error.ExtensionNotFound (codes "o")
unseen_is_not_found = refl

-- ---- package google.protobuf; enum FileOptions { A = 0; } extend FileOptions { optional int32 o =
-- 50001; } option (o) = 1;

abbrev enum_extended : FileSyntax
enum_extended = file (
    file_package (record { place = nowhere; name = codes "google.protobuf" })
    ∷ file_enum
    (record {
      place = nowhere;
      name = codes "FileOptions";
      body =
          enum_value (record { place = nowhere; name = codes "A"; number = pos 0; options = [] })
          ∷ [];
    })
    ∷ an_extend (codes "FileOptions") (a_field Optional (scalar word.Int32) (codes "o") 50001 ∷ [])
    ∷ [])

abbrev beside_an_enum : OptionScope
beside_an_enum =
    let files : List FileDescriptor = file_of
    (environment (enum_extended ∷ []) no_customs enum_extended) (codes "x.proto") enum_extended
    ∷ [] in
    record { files = files; visible = files; scope = codes "google" ∷ codes "protobuf" ∷ [] }

enum_is_not_extended : custom_statement_faults beside_an_enum of.File
    (set (extension (codes "o") ∷ []) (integer (pos 1)))
    ≡ told error.WrongExtensionType (codes "o")
enum_is_not_extended = refl

-- ---- message M { optional string s = 2; map<string, int32> p = 3; extensions 100 to 199; }
-- extend M { optional sint32 x = 100; repeated M more = 101; }
-- extend google.protobuf.MessageOptions { optional M m = 50003; }

abbrev extended : FileSyntax
extended = file (
    a_message (codes "M")
    (a_field Optional (scalar word.String) (codes "s") 2
    ∷ field (record {
      place = nowhere;
      label = None;
      type_ =
          map_of (scalar word.String) (scalar word.Int32);
      name = codes "p";
      number = pos 3;
      options = [];
    }) ∷ [])
    ∷ an_extend (codes "M")
    (a_field Optional (scalar word.Sint32) (codes "x") 100
    ∷ a_field Repeated (named (codes "M")) (codes "more") 101 ∷ [])
    ∷ an_extend (codes "google.protobuf.MessageOptions")
    (a_field Optional (named (codes "M")) (codes "m") 50003 ∷ []) ∷ [])

abbrev with_extensions : OptionScope
with_extensions =
    let files : List FileDescriptor = descriptor options_file ∷ descriptor extended ∷ [] in
    record { files = files; visible = files; scope = [] }

-- option (m) = ..
abbrev set_m : ConstantFieldList → List OptionSyntax
set_m fs = set (extension (codes "m") ∷ []) (fields fs)

-- {[x]: -3 s: "y"}
abbrev with_x : ConstantFieldList
with_x = more_fields (extension_name (codes "x")) (integer (negsuc 2))
    (more_fields (regular_name (codes "s")) (string (codes "y" ∷ [])) no_fields)

-- 9a b5 18 06 a0 06 05 12 01 79
with_x_is_encoded : encoded (denotes with_extensions of.Message (set_m with_x)) ≡ 154 ∷ 181 ∷ 24 ∷ 6
    ∷ 160 ∷ 6 ∷ 5 ∷ 18 ∷ 1 ∷ 121 ∷ []
unfolding decode_piece front_part byte_part digits_end varint_within
with_x_is_encoded = refl

with_x_has_no_fault : custom_statement_faults with_extensions of.Message (set_m with_x) ≡ []
unfolding decode_piece front_part byte_part digits_end chars is_utf8 lib.Utf8.encode
with_x_has_no_fault = refl

-- {[more] {s: "z"}}
abbrev with_more : ConstantFieldList
with_more = more_fields (extension_name (codes "more"))
    (fields (more_fields (regular_name (codes "s")) (string (codes "z" ∷ [])) no_fields)) no_fields

-- 9a b5 18 06 aa 06 03 12 01 7a
with_more_is_encoded : encoded (denotes with_extensions of.Message (set_m with_more)) ≡ 154 ∷ 181
    ∷ 24 ∷ 6 ∷ 170 ∷ 6 ∷ 3 ∷ 18 ∷ 1 ∷ 122 ∷ []
unfolding decode_piece front_part byte_part digits_end varint_within
with_more_is_encoded = refl

with_more_has_no_fault : custom_statement_faults with_extensions of.Message (set_m with_more) ≡ []
unfolding decode_piece front_part byte_part digits_end chars is_utf8 lib.Utf8.encode
with_more_has_no_fault = refl

-- {p {key: "k" value: 1}}
abbrev with_entry : ConstantFieldList
with_entry = more_fields (regular_name (codes "p"))
    (fields (more_fields (regular_name (codes "key")) (string (codes "k" ∷ []))
    (more_fields (regular_name (codes "value")) (integer (pos 1)) no_fields))) no_fields

-- 9a b5 18 07 1a 05 0a 01 6b 10 01
with_entry_is_encoded : encoded (denotes with_extensions of.Message (set_m with_entry)) ≡ 154 ∷ 181
    ∷ 24 ∷ 7 ∷ 26 ∷ 5 ∷ 10 ∷ 1 ∷ 107 ∷ 16 ∷ 1 ∷ []
unfolding decode_piece front_part byte_part digits_end chars lib.Utf8.encode varint_within
with_entry_is_encoded = refl

with_entry_has_no_fault : custom_statement_faults with_extensions of.Message (set_m with_entry) ≡ []
unfolding decode_piece front_part byte_part digits_end chars is_utf8 lib.Utf8.encode
with_entry_has_no_fault = refl

-- {[nope]: 1}
unknown_name_in_constant_is_told : custom_statement_faults with_extensions of.Message
    (set_m (more_fields (extension_name (codes "nope")) (integer (pos 1)) no_fields))
    ≡ told error.ExtensionNotFound (codes "nope")
unknown_name_in_constant_is_told = refl

-- {[m] {}}
other_message_in_constant_is_told : custom_statement_faults with_extensions of.Message
    (set_m (more_fields (extension_name (codes "m")) (fields no_fields) no_fields))
    ≡ told error.WrongExtensionType (codes "m")
other_message_in_constant_is_told = refl

-- {[x]: "a"}
string_is_no_number : custom_statement_faults with_extensions of.Message
    (set_m (more_fields (extension_name (codes "x")) (string (codes "a" ∷ [])) no_fields))
    ≡ told error.UnsupportedExtensionType (codes "x")
string_is_no_number = refl

-- {[example.com/M] {}}
type_url_is_told : custom_statement_faults with_extensions of.Message
    (set_m (more_fields (url_name (codes "example.com/M")) (fields no_fields) no_fields))
    ≡ told error.TypeUrlInConstant (codes "[example.com/M]")
type_url_is_told = refl
