-- One level of messages.
use Rattle.std.proofs.Common.{◌≡◌, ℕ, zero, suc, ◌-◌, ◌<◌, List, ◌∷◌, ◌++◌, Option, Ok, refl, sym}
use Rattle.std.proofs.Common.{arith, map}
use Rattle.protobuf_parse_model.specs.Descriptors.{Text, Range, FieldDescriptor, OneofDescriptor}
use Rattle.protobuf_parse_model.specs.Descriptors.{EnumDescriptor, MessageDescriptor, a_message}
use Rattle.protobuf_parse_model.specs.Descriptors.{message_step, message_view, messages_of_list}
use Rattle.protobuf_parse_model.specs.Descriptors.{parts_of_message}
use Rattle.protobuf_parse_model.specs.declared.descriptor.DescriptorProto.{DescriptorProto}
use Rattle.protobuf_parse_model.specs.declared.descriptor.DescriptorProto.TheFolds.{fold-roll-DescriptorProto}
use Rattle.protobuf_parse_model.specs.declared.descriptor.DescriptorProto.TheOpen.{DescriptorProto-F}
use Rattle.protobuf_parse_model.specs.declared.descriptor.DescriptorProto.TheViews.{roll-DescriptorProto}
use Rattle.protobuf_parse_model.specs.Options.{MessageOptionValues}
use Rattle.protobuf_parse_model.specs.declared.descriptor.FieldType.TheVariants as type
use Rattle.protobuf_parse_set_reader.specs.declared.fault.SetFaultKind.TheVariants as kind
use Rattle.protobuf_parse_set_reader.specs.Answers.{Answer}
use Rattle.protobuf_parse_set_reader.specs.Values.{BodyView, all_of, needed_text, numbered, part_in}
use Rattle.protobuf_parse_set_reader.specs.Values.{merged, parts, texts}
use Rattle.protobuf_parse_set_reader.specs.OptionReading.{message_options_of}
use Rattle.protobuf_parse_set_reader.specs.TypeNames.{TypeName, Types, enum_name, message_names}
use Rattle.protobuf_parse_set_reader.specs.TypeNames.{names_around, within}
use Rattle.protobuf_parse_set_reader.specs.Reading.{enum_of, field_of, message_around, message_of}
use Rattle.protobuf_parse_set_reader.specs.Reading.{name_of}
use Rattle.protobuf_parse_set_reader.specs.Reading.{oneof_of, range_of}

pub one_level : (types : Types) (levels : ℕ) (b : BodyView) → 0 < levels
    → message_of types levels b ≡ message_around types (message_of types (levels - 1)) b
unfolding message_of
one_level types zero b some = absurd (omega arith)
one_level types (suc n) b some = let e : suc n - 1 ≡ n = omega arith in rw e refl

level_of_names : (levels : ℕ) (scope : Text) (b : BodyView) → 0 < levels
    → message_names levels scope b ≡ names_around (message_names (levels - 1)) scope b
unfolding message_names
level_of_names zero scope b some = absurd (omega arith)
level_of_names (suc n) scope b some = let e : suc n - 1 ≡ n = omega arith in rw e refl

-- A message says its own name, those inside it and those of its enums.
pub names_of_one : (levels : ℕ) (scope : Text) (b : BodyView) (name full : Text)
    (nested enums : List TypeName) → 0 < levels → needed_text kind.NoName 1 b ≡ Ok name
    → full ≡ within scope name
    → all_of (part_in (message_names (levels - 1) full)) (numbered 3 b.records) ≡ Ok nested
    → parts (enum_name full) 4 b ≡ Ok enums
    → message_names levels scope b
    ≡ Ok (record { name = full; type_ = type.Message } ∷ nested ++ enums)
unfolding names_around
names_of_one levels scope b name full nested enums some said is inside others =
    rw (level_of_names levels scope b some, said, sym is, inside, others) refl

-- What is said of each part of a message is said of the message.
pub message_said : (types : Types) (inside : BodyView → Answer MessageDescriptor) (b : BodyView)
    (name : Text) (field : List FieldDescriptor) (nested : List MessageDescriptor)
    (enum_type : List EnumDescriptor) (extension_range : List Range)
    (extension : List FieldDescriptor) (options : Option MessageOptionValues)
    (oneof_decl : List OneofDescriptor) (reserved_range : List Range) (reserved_name : List Text)
    → name_of b ≡ Ok name → parts (field_of types) 2 b ≡ Ok field → parts inside 3 b ≡ Ok nested
    → parts enum_of 4 b ≡ Ok enum_type → parts range_of 5 b ≡ Ok extension_range
    → parts (field_of types) 6 b ≡ Ok extension → merged message_options_of 7 b ≡ Ok options
    → parts oneof_of 8 b ≡ Ok oneof_decl → parts range_of 9 b ≡ Ok reserved_range
    → texts 10 b ≡ Ok reserved_name
    → message_around types inside b
    ≡ Ok (a_message
    record {
      name = name;
      field = field;
      oneof_decl = oneof_decl;
      enum_type = enum_type;
      extension = extension;
      extension_range = extension_range;
      reserved_range = reserved_range;
      reserved_name = reserved_name;
      options = options;
    }
    (messages_of_list nested))
unfolding message_around
message_said types inside b name field nested enum_type extension_range extension options
    oneof_decl reserved_range reserved_name e1 e2 e3 e4 e5 e6 e7 e8 e9 e10 =
    rw (e1, e2, e3, e4, e5, e6, e7, e8, e9, e10) refl

-- a message's own fields, and the messages inside it
pub message_rolled : (m : DescriptorProto-F DescriptorProto)
    → message_view (roll-DescriptorProto m)
    ≡ a_message (parts_of_message m) (messages_of_list (map message_view m.nested_type.items))
message_rolled m = fold-roll-DescriptorProto MessageDescriptor message_step m
