-- Messages that were written, a line a field.
use Rattle.std.proofs.Common.{◌≡◌, ℕ, zero, suc, ℤ, List, [], ◌∷◌, ◌++◌}
use Rattle.std.proofs.Common.{map, flat_map, Option, Some, None, Ok, refl, sym, ap, ◌∙◌, subst}
use Rattle.std.proofs.Common.{append_assoc, arith}
use Rattle.std.specs.Prelude.{IfSome}
use Rattle.std.specs.List.{AllByRecursion}
use Rattle.std.specs.Int.{w32}
use Rattle.std.specs.Int.RustNames.{FitsSigned}
use Rattle.protobuf_parse_syntax.specs.declared.tree.field.Label.{Label}
use Rattle.protobuf_parse_syntax.specs.declared.tree.field.Label.TheVariants as label
use Rattle.protobuf_parse_model.specs.declared.descriptor.FieldType.{FieldType}
use Rattle.protobuf_parse_model.specs.declared.descriptor.FieldType.TheVariants as type
use Rattle.protobuf_parse_model.specs.Descriptors.{Text, Range, FieldDescriptor, OneofDescriptor}
use Rattle.protobuf_parse_model.specs.Descriptors.{EnumDescriptor, EnumValueDescriptor}
use Rattle.protobuf_parse_model.specs.Descriptors.{MessageParts, MessageDescriptor, a_message}
use Rattle.protobuf_parse_model.specs.Descriptors.{MessageDescriptors, no_messages, messages}
use Rattle.protobuf_parse_model.specs.Descriptors.{messages_list, messages_of_list}
use Rattle.protobuf_parse_model.specs.Descriptors.{MethodDescriptor, ServiceDescriptor}
use Rattle.protobuf_parse_descriptor_set.specs.Items.{Items, bytes_of, int, part}
use Rattle.protobuf_parse_descriptor_set.specs.Items.{some}
use Rattle.protobuf_parse_descriptor_set.specs.Numbers.{label_number, type_number}
use Rattle.protobuf_parse_descriptor_set.specs.OptionItems as items
use Rattle.protobuf_parse_descriptor_set.specs.OneofOrder.{fields_in_set, oneofs_in_set}
use Rattle.protobuf_parse_descriptor_set.specs.RangeEnds.{ranges_in_set}
use Rattle.protobuf_parse_descriptor_set.specs.DescriptorItems.{enum_items, enum_value_items}
use Rattle.protobuf_parse_descriptor_set.specs.DescriptorItems.{field_items, message_back}
use Rattle.protobuf_parse_descriptor_set.specs.DescriptorItems.{message_front, message_items}
use Rattle.protobuf_parse_descriptor_set.specs.DescriptorItems.{method_items, nested_items}
use Rattle.protobuf_parse_descriptor_set.specs.DescriptorItems.{oneof_items, range_items}
use Rattle.protobuf_parse_descriptor_set.specs.DescriptorItems.{service_items}
use Rattle.protobuf_parse_set_reader.specs.declared.fault.SetFaultKind.TheVariants as kind
use Rattle.protobuf_parse_set_reader.specs.Values.{BodyView, numbered, parts}
use Rattle.protobuf_parse_set_reader.specs.Choices.{label_numbered, type_numbered}
use Rattle.protobuf_parse_set_reader.specs.OptionReading.{enum_options_of, enum_value_options_of}
use Rattle.protobuf_parse_set_reader.specs.OptionReading.{field_options_of, message_options_of}
use Rattle.protobuf_parse_set_reader.specs.OptionReading.{method_options_of, oneof_options_of}
use Rattle.protobuf_parse_set_reader.specs.OptionReading.{service_options_of}
use Rattle.protobuf_parse_set_reader.specs.TypeNames.{Types}
use Rattle.protobuf_parse_set_reader.specs.Reading.{enum_of, enum_value_of, field_of, json_name_of}
use Rattle.protobuf_parse_set_reader.specs.Reading.{label_of, message_around, message_of, method_of}
use Rattle.protobuf_parse_set_reader.specs.Reading.{oneof_of, range_of, service_of, type_of}
use Rattle.protobuf_parse_set_laws.specs.Kept as kept_specs
use Rattle.protobuf_parse_set_laws.specs.Kept.{AreOthers, EnumKept, EnumValueKept, FieldKept}
use Rattle.protobuf_parse_set_laws.specs.Kept.{IsText}
use Rattle.protobuf_parse_set_laws.specs.Kept.{MessageKept, MessagesKept, MethodKept, OneofKept}
use Rattle.protobuf_parse_set_laws.specs.Kept.{PartsKept, RangeKept, ServiceKept, enum_back}
use Rattle.protobuf_parse_set_laws.specs.Kept.{enum_value_back, field_back, messages_back}
use Rattle.protobuf_parse_set_laws.specs.Kept.{method_back}
use Rattle.protobuf_parse_set_laws.specs.Kept.{oneof_back, options_back, parts_back, service_back}
use Rattle.protobuf_parse_set_laws.proofs.Written.{Held, octets}
use Rattle.protobuf_parse_set_laws.proofs.Pieces.{AreHeld, found}
use Rattle.protobuf_parse_set_laws.proofs.Lines.{Line, MessageRead, Piece, a_choice, a_flag_if}
use Rattle.protobuf_parse_set_laws.proofs.Lines.{a_text}
use Rattle.protobuf_parse_set_laws.proofs.Lines.{an_int, at_number, chained, helds_of, int_held}
use Rattle.protobuf_parse_set_laws.proofs.Lines.{line}
use Rattle.protobuf_parse_set_laws.proofs.Lines.{if_held, message_read, nothing, numbers_of}
use Rattle.protobuf_parse_set_laws.proofs.Lines.{some_held}
use Rattle.protobuf_parse_set_laws.proofs.Lines.{some_options_held, text_held}
use Rattle.protobuf_parse_set_laws.proofs.Lines.{some_options, some_parts, some_text, some_texts}
use Rattle.protobuf_parse_set_laws.proofs.Said.{Says, choice_said, flag_said, int_said, needed_said}
use Rattle.protobuf_parse_set_laws.proofs.Said.{parts_said, some_int_said, text_said, texts_said}
use Rattle.protobuf_parse_set_laws.proofs.Options.{options_said}
use Rattle.protobuf_parse_set_laws.proofs.OptionMessages.{enum_options_say, enum_value_options_say}
use Rattle.protobuf_parse_set_laws.proofs.OptionMessages.{field_options_say, message_options_say}
use Rattle.protobuf_parse_set_laws.proofs.OptionMessages.{method_options_say, oneof_options_say}
use Rattle.protobuf_parse_set_laws.proofs.OptionMessages.{service_options_say}

-- ---- lists and what need not be there

pub if_some : {A : Type 0} (P Q : A → Type 0) (x : Option A) → ((a : A) → P a → Q a)
    → IfSome x P → IfSome x Q
if_some P Q None f h = tt
if_some P Q (Some a) f h = f a h

pub all_from : {A : Type 0} (P Q : A → Type 0) (xs : List A) → ((a : A) → P a → Q a)
    → AllByRecursion P xs → AllByRecursion Q xs
all_from P Q [] f h = tt
all_from P Q (x ∷ xs) f h = (f x h.0, all_from P Q xs f h.1)

-- what is held at a number of a message that was read
pub held : (ls : List Line) (start : ℕ) (bs : List ℕ) (r : MessageRead ls start bs) (n : ℕ)
    (hs : List Held) → found n (numbers_of ls) (helds_of ls) ≡ hs ++ []
    → AreHeld hs (numbered n r.body.records)
held ls start bs r n hs e = at_number ls r.body.records n hs r.lines e

-- ---- fields

label_fits : (l : Label) → FitsSigned w32 (label_number l)
label_fits label.Optional = record { sfits = omega arith }
label_fits label.Required = record { sfits = omega arith }
label_fits label.Repeated = record { sfits = omega arith }

label_same : (l : Label) → label_numbered (label_number l) ≡ Some l
unfolding label_numbered
label_same label.Optional = refl
label_same label.Required = refl
label_same label.Repeated = refl

type_fits : (t : FieldType) → FitsSigned w32 (type_number t)
type_fits type.Double = record { sfits = omega arith }
type_fits type.Float = record { sfits = omega arith }
type_fits type.Int64 = record { sfits = omega arith }
type_fits type.Uint64 = record { sfits = omega arith }
type_fits type.Int32 = record { sfits = omega arith }
type_fits type.Fixed64 = record { sfits = omega arith }
type_fits type.Fixed32 = record { sfits = omega arith }
type_fits type.Bool = record { sfits = omega arith }
type_fits type.String = record { sfits = omega arith }
type_fits type.Group = record { sfits = omega arith }
type_fits type.Message = record { sfits = omega arith }
type_fits type.Bytes = record { sfits = omega arith }
type_fits type.Uint32 = record { sfits = omega arith }
type_fits type.Enum = record { sfits = omega arith }
type_fits type.Sfixed32 = record { sfits = omega arith }
type_fits type.Sfixed64 = record { sfits = omega arith }
type_fits type.Sint32 = record { sfits = omega arith }
type_fits type.Sint64 = record { sfits = omega arith }

type_same : (t : FieldType) → type_numbered (type_number t) ≡ Some t
unfolding type_numbered
type_same type.Double = refl
type_same type.Float = refl
type_same type.Int64 = refl
type_same type.Uint64 = refl
type_same type.Int32 = refl
type_same type.Fixed64 = refl
type_same type.Fixed32 = refl
type_same type.Bool = refl
type_same type.String = refl
type_same type.Group = refl
type_same type.Message = refl
type_same type.Bytes = refl
type_same type.Uint32 = refl
type_same type.Enum = refl
type_same type.Sfixed32 = refl
type_same type.Sfixed64 = refl
type_same type.Sint32 = refl
type_same type.Sint64 = refl

label_said : (b : BodyView) (l : Label)
    → AreHeld (int_held (label_number l) ∷ []) (numbered 4 b.records)
    → label_of b ≡ Ok l
unfolding label_of
label_said b l h =
    rw (choice_said kind.UnknownLabel label_numbered 4 b (label_number l) l (label_fits l)
    (label_same l) h) refl

type_said : (types : Types) (name : Option Text) (b : BodyView) (t : FieldType)
    → AreHeld (int_held (type_number t) ∷ []) (numbered 5 b.records)
    → type_of types name b ≡ Ok t
unfolding type_of
type_said types name b t h =
    rw (choice_said kind.UnknownType type_numbered 5 b (type_number t) t (type_fits t)
    (type_same t) h) refl

json_said : (name json : Text) (b : BodyView) → IsText json
    → AreHeld (octets json ∷ []) (numbered 10 b.records)
    → json_name_of name b ≡ Ok json
unfolding json_name_of
json_said name json b utf8 h = rw (text_said 10 b (Some json) utf8 h) refl

some_index : (m : ℕ) (v : Option ℤ) → IfSome v (FitsSigned w32)
    → Piece m (some (int m) v) (some_held int_held v)
some_index m None fits = nothing m
some_index m (Some v) fits = an_int m v fits

abbrev field_lines : (f : FieldDescriptor) → FieldKept f → List Line
field_lines f kept = line 1 (a_text 1 f.name) ∷ line 2 (some_text 2 f.extendee)
    ∷ line 3 (an_int 3 f.number kept.number)
    ∷ line 4 (a_choice 4 (label_number f.label) (label_fits f.label))
    ∷ line 5 (a_choice 5 (type_number f.type_) (type_fits f.type_))
    ∷ line 6 (some_text 6 f.type_name) ∷ line 7 (some_text 7 f.default_value)
    ∷ line 8 (some_options 8 items.field_option_bytes f.options)
    ∷ line 9 (some_index 9 f.oneof_index kept.oneof_index) ∷ line 10 (a_text 10 f.json_name)
    ∷ line 17 (a_flag_if 17 f.proto3_optional) ∷ []

pub field_says : (types : Types) (f : FieldDescriptor) → FieldKept f
    → Says (field_of types) (bytes_of (field_items f)) (field_back f)
unfolding field_of field_items
field_says types f kept lt start =
    let ls = field_lines f kept in
    let r = message_read ls refl lt start in
    let b = r.body in
    let e1 = needed_said kind.NoName 1 b f.name kept.name (held ls start _ r 1 (octets f.name ∷
    []) refl) in
    let e2 = text_said 2 b f.extendee kept.extendee (held ls start _ r 2 (text_held f.extendee)
    refl) in
    let e3 = int_said 3 b f.number kept.number (held ls start _ r 3 (int_held f.number ∷ []) refl)
    in
    let e4 = label_said b f.label (held ls start _ r 4 (int_held (label_number f.label) ∷ [])
    refl) in
    let e5 = text_said 6 b f.type_name kept.type_name (held ls start _ r 6 (text_held f.type_name)
    refl) in
    let e6 = type_said types f.type_name b f.type_ (held ls start _ r 5 (int_held (type_number
    f.type_) ∷ []) refl) in
    let e7 = text_said 7 b f.default_value kept.default_value (held ls start _ r 7 (text_held
    f.default_value) refl) in
    let e8 = options_said field_options_of 8 b items.field_option_bytes f.options (if_some _ _
    f.options (λ o others. field_options_say o others) kept.options) (held ls start _ r 8
    (some_options_held items.field_option_bytes f.options) refl) in
    let e9 = some_int_said 9 b f.oneof_index kept.oneof_index (held ls start _ r 9 (some_held
    int_held f.oneof_index) refl) in
    let e10 = json_said f.name f.json_name b kept.json_name (held ls start _ r 10 (octets
    f.json_name ∷ []) refl) in
    let e11 = flag_said 17 b f.proto3_optional (held ls start _ r 17 (if_held f.proto3_optional)
    refl) in
    rw (r.read, e1, e2, e3, e4, e5, e6, e7, e8, e9, e10, e11) refl

abbrev oneof_lines : OneofDescriptor → List Line
oneof_lines o =
    line 1 (a_text 1 o.name) ∷ line 2 (some_options 2 items.oneof_option_bytes o.options) ∷ []

pub oneof_says : (o : OneofDescriptor) → OneofKept o
    → Says oneof_of (bytes_of (oneof_items o)) (oneof_back o)
unfolding oneof_of oneof_items
oneof_says o kept lt start =
    let ls = oneof_lines o in
    let r = message_read ls refl lt start in
    let e1 = needed_said kind.NoName 1 r.body o.name kept.name (held ls start _ r 1 (octets o.name
    ∷ []) refl) in
    let e2 = options_said oneof_options_of 2 r.body items.oneof_option_bytes o.options (if_some _
    _ o.options (λ p others. oneof_options_say p others) kept.options) (held ls start _ r 2
    (some_options_held items.oneof_option_bytes o.options) refl) in
    rw (r.read, e1, e2) refl

abbrev range_lines : (r : Range) → RangeKept r → List Line
range_lines r kept =
    line 1 (an_int 1 r.start kept.start) ∷ line 2 (an_int 2 r.end kept.end) ∷ []

pub range_says : (x : Range) → RangeKept x → Says range_of (bytes_of (range_items x)) x
unfolding range_of range_items
range_says x kept lt start =
    let ls = range_lines x kept in
    let r = message_read ls refl lt start in
    let e1 = int_said 1 r.body x.start kept.start (held ls start _ r 1 (int_held x.start ∷ [])
    refl) in
    let e2 = int_said 2 r.body x.end kept.end (held ls start _ r 2 (int_held x.end ∷ []) refl) in
    rw (r.read, e1, e2) refl

-- ---- enums

abbrev enum_value_lines : (v : EnumValueDescriptor) → EnumValueKept v → List Line
enum_value_lines v kept = line 1 (a_text 1 v.name) ∷ line 2 (an_int 2 v.number kept.number)
    ∷ line 3 (some_options 3 items.enum_value_option_bytes v.options) ∷ []

enum_value_says : (v : EnumValueDescriptor) → EnumValueKept v
    → Says enum_value_of (bytes_of (enum_value_items v)) (enum_value_back v)
unfolding enum_value_of enum_value_items
enum_value_says v kept lt start =
    let ls = enum_value_lines v kept in
    let r = message_read ls refl lt start in
    let e1 = needed_said kind.NoName 1 r.body v.name kept.name (held ls start _ r 1 (octets v.name
    ∷ []) refl) in
    let e2 = int_said 2 r.body v.number kept.number (held ls start _ r 2 (int_held v.number ∷ [])
    refl) in
    let e3 = options_said enum_value_options_of 3 r.body items.enum_value_option_bytes v.options
    (if_some _ _ v.options (λ o others. enum_value_options_say o others) kept.options) (held ls
    start _ r 3 (some_options_held items.enum_value_option_bytes v.options) refl) in
    rw (r.read, e1, e2, e3) refl

same_list : {A : Type 0} (xs : List A) → map (λ x. x) xs ≡ xs
same_list [] = refl
same_list (x ∷ xs) = ap (λ z. x ∷ z) (same_list xs)

-- ranges, which come back as they are
pub ranges_said : (n : ℕ) (b : BodyView) (xs : List Range) → AllByRecursion RangeKept xs
    → AreHeld (map (λ x. octets (bytes_of (range_items x))) xs)
    (numbered n b.records)
    → parts range_of n b ≡ Ok xs
ranges_said n b xs kept h =
    parts_said range_of n b (λ x. bytes_of (range_items x)) (λ x. x) xs
    (all_from RangeKept _ xs (λ x k. range_says x k) kept) h
    ∙ ap (λ z. Ok z) (same_list xs)

abbrev pub enum_lines : EnumDescriptor → List Line
enum_lines e = line 1 (a_text 1 e.name) ∷ line 2 (some_parts 2 enum_value_items e.value)
    ∷ line 3 (some_options 3 items.enum_option_bytes e.options)
    ∷ line 4 (some_parts 4 range_items e.reserved_range) ∷ line 5 (some_texts 5 e.reserved_name)
    ∷ []

pub enum_says : (e : EnumDescriptor) → EnumKept e
    → Says enum_of (bytes_of (enum_items e)) (enum_back e)
unfolding enum_of enum_items
enum_says e kept lt start =
    let ls = enum_lines e in
    let r = message_read ls refl lt start in
    let e1 = needed_said kind.NoName 1 r.body e.name kept.name (held ls start _ r 1 (octets e.name
    ∷ []) refl) in
    let e2 = parts_said enum_value_of 2 r.body (λ v. bytes_of (enum_value_items v))
    enum_value_back e.value (all_from EnumValueKept _ e.value (λ v k. enum_value_says v k)
    kept.value) (held ls start _ r 2 (map (λ v. octets (bytes_of (enum_value_items v))) e.value)
    refl) in
    let e3 = options_said enum_options_of 3 r.body items.enum_option_bytes e.options (if_some _ _
    e.options (λ o others. enum_options_say o others) kept.options) (held ls start _ r 3
    (some_options_held items.enum_option_bytes e.options) refl) in
    let e4 = ranges_said 4 r.body e.reserved_range kept.reserved_range (held ls start _ r 4 (map
    (λ x. octets (bytes_of (range_items x))) e.reserved_range) refl) in
    let e5 = texts_said 5 r.body e.reserved_name kept.reserved_name (held ls start _ r 5 (map
    octets e.reserved_name) refl) in
    rw (r.read, e1, e2, e3, e4, e5) refl

-- ---- services

abbrev method_lines : MethodDescriptor → List Line
method_lines m = line 1 (a_text 1 m.name) ∷ line 2 (a_text 2 m.input_type)
    ∷ line 3 (a_text 3 m.output_type)
    ∷ line 4 (some_options 4 items.method_option_bytes m.options)
    ∷ line 5 (a_flag_if 5 m.client_streaming) ∷ line 6 (a_flag_if 6 m.server_streaming) ∷ []

method_says : (m : MethodDescriptor) → MethodKept m
    → Says method_of (bytes_of (method_items m)) (method_back m)
unfolding method_of method_items
method_says m kept lt start =
    let ls = method_lines m in
    let r = message_read ls refl lt start in
    let e1 = needed_said kind.NoName 1 r.body m.name kept.name (held ls start _ r 1 (octets m.name
    ∷ []) refl) in
    let e2 = needed_said kind.NoMethodType 2 r.body m.input_type kept.input_type (held ls start _
    r 2 (octets m.input_type ∷ []) refl) in
    let e3 = needed_said kind.NoMethodType 3 r.body m.output_type kept.output_type (held ls start
    _ r 3 (octets m.output_type ∷ []) refl) in
    let e4 = options_said method_options_of 4 r.body items.method_option_bytes m.options (if_some
    _ _ m.options (λ o others. method_options_say o others) kept.options) (held ls start _ r 4
    (some_options_held items.method_option_bytes m.options) refl) in
    let e5 = flag_said 5 r.body m.client_streaming (held ls start _ r 5 (if_held
    m.client_streaming) refl) in
    let e6 = flag_said 6 r.body m.server_streaming (held ls start _ r 6 (if_held
    m.server_streaming) refl) in
    rw (r.read, e1, e2, e3, e4, e5, e6) refl

abbrev service_lines : ServiceDescriptor → List Line
service_lines s = line 1 (a_text 1 s.name) ∷ line 2 (some_parts 2 method_items s.method)
    ∷ line 3 (some_options 3 items.service_option_bytes s.options) ∷ []

pub service_says : (s : ServiceDescriptor) → ServiceKept s
    → Says service_of (bytes_of (service_items s)) (service_back s)
unfolding service_of service_items
service_says s kept lt start =
    let ls = service_lines s in
    let r = message_read ls refl lt start in
    let e1 = needed_said kind.NoName 1 r.body s.name kept.name (held ls start _ r 1 (octets s.name
    ∷ []) refl) in
    let e2 = parts_said method_of 2 r.body (λ m. bytes_of (method_items m)) method_back s.method
    (all_from MethodKept _ s.method (λ m k. method_says m k) kept.method) (held ls start _ r 2
    (map (λ m. octets (bytes_of (method_items m))) s.method) refl) in
    let e3 = options_said service_options_of 3 r.body items.service_option_bytes s.options
    (if_some _ _ s.options (λ o others. service_options_say o others) kept.options) (held ls start
    _ r 3 (some_options_held items.service_option_bytes s.options) refl) in
    rw (r.read, e1, e2, e3) refl

-- ---- messages

nested_is : (ms : MessageDescriptors)
    → nested_items ms ≡ flat_map (λ m. part 3 (message_items m)) (messages_list ms)
nested_is no_messages = refl
nested_is (messages m ms) = ap (λ z. part 3 (message_items m) ++ z) (nested_is ms)

list_back : (ms : MessageDescriptors)
    → messages_of_list (map kept_specs.message_back (messages_list ms)) ≡ messages_back ms
list_back no_messages = refl
list_back (messages m ms) = ap (λ z. messages (kept_specs.message_back m) z) (list_back ms)

abbrev back_lines : MessageParts → List Line
back_lines m = line 5 (some_parts 5 range_items (ranges_in_set m m.extension_range))
    ∷ line 6 (some_parts 6 field_items m.extension)
    ∷ line 7 (some_options 7 items.message_option_bytes m.options)
    ∷ line 8 (some_parts 8 oneof_items (oneofs_in_set m))
    ∷ line 9 (some_parts 9 range_items (ranges_in_set m m.reserved_range))
    ∷ line 10 (some_texts 10 m.reserved_name) ∷ []

abbrev pub message_lines : MessageParts → MessageDescriptors → List Line
message_lines m inside = line 1 (a_text 1 m.name)
    ∷ line 2 (some_parts 2 field_items (fields_in_set m))
    ∷ line 3 (some_parts 3 message_items (messages_list inside))
    ∷ line 4 (some_parts 4 enum_items m.enum_type) ∷ back_lines m

chain_joined : (front first : Items) (ls : List Line)
    → front ++ chained first ls ≡ chained (front ++ first) ls
chain_joined front first [] = refl
chain_joined front first (l ∷ ls) =
    chain_joined front (first ++ l.items) ls
    ∙ ap (λ z. chained z ls) (sym (append_assoc front first l.items))

pub message_chained : (m : MessageParts) (inside : MessageDescriptors)
    → message_items (a_message m inside) ≡ chained [] (message_lines m inside)
unfolding message_front message_back
message_chained m inside =
    ap (λ z. message_front m ++ z ++ message_back m) (nested_is inside)
    ∙ chain_joined (message_front m ++ flat_map (λ x. part 3 (message_items x)) (messages_list
    inside))
    (flat_map (λ e. part 4 (enum_items e)) m.enum_type) (back_lines m)

said_of_parts : (types : Types) (levels : ℕ) (m : MessageParts) (inside : MessageDescriptors)
    → PartsKept m
    → AllByRecursion (λ x. Says (message_of types levels) (bytes_of (message_items x))
    (kept_specs.message_back x)) (messages_list inside)
    → Says (message_around types (message_of types levels))
    (bytes_of (chained [] (message_lines m inside)))
    (a_message (parts_back m) (messages_back inside))
unfolding message_around
said_of_parts types levels m inside kept nested lt start =
    let ls = message_lines m inside in
    let r = message_read ls refl lt start in
    let e1 = needed_said kind.NoName 1 r.body m.name kept.name (held ls start _ r 1 (octets m.name
    ∷ []) refl) in
    let e2 = parts_said (field_of types) 2 r.body (λ f. bytes_of (field_items f)) field_back
    (fields_in_set m) (all_from FieldKept _ (fields_in_set m) (λ f k. field_says types f k)
    kept.field) (held ls start _ r 2 (map (λ f. octets (bytes_of (field_items f))) (fields_in_set
    m)) refl) in
    let e3 = parts_said (message_of types levels) 3 r.body (λ x. bytes_of (message_items x))
    kept_specs.message_back (messages_list inside) nested (held ls start _ r 3 (map (λ x. octets
    (bytes_of (message_items x))) (messages_list inside)) refl) in
    let e4 = parts_said enum_of 4 r.body (λ e. bytes_of (enum_items e)) enum_back m.enum_type
    (all_from EnumKept _ m.enum_type (λ e k. enum_says e k) kept.enum_type) (held ls start _ r 4
    (map (λ e. octets (bytes_of (enum_items e))) m.enum_type) refl) in
    let e5 = ranges_said 5 r.body (ranges_in_set m m.extension_range) kept.extension_range (held
    ls start _ r 5 (map (λ x. octets (bytes_of (range_items x))) (ranges_in_set m
    m.extension_range)) refl) in
    let e6 = parts_said (field_of types) 6 r.body (λ f. bytes_of (field_items f)) field_back
    m.extension (all_from FieldKept _ m.extension (λ f k. field_says types f k) kept.extension)
    (held ls start _ r 6 (map (λ f. octets (bytes_of (field_items f))) m.extension) refl) in
    let e7 = options_said message_options_of 7 r.body items.message_option_bytes m.options
    (if_some _ _ m.options (λ o others. message_options_say o others) kept.options) (held ls start
    _ r 7 (some_options_held items.message_option_bytes m.options) refl) in
    let e8 = parts_said oneof_of 8 r.body (λ o. bytes_of (oneof_items o)) oneof_back
    (oneofs_in_set m) (all_from OneofKept _ (oneofs_in_set m) (λ o k. oneof_says o k)
    kept.oneof_decl) (held ls start _ r 8 (map (λ o. octets (bytes_of (oneof_items o)))
    (oneofs_in_set m)) refl) in
    let e9 = ranges_said 9 r.body (ranges_in_set m m.reserved_range) kept.reserved_range (held ls
    start _ r 9 (map (λ x. octets (bytes_of (range_items x))) (ranges_in_set m m.reserved_range))
    refl) in
    let e10 = texts_said 10 r.body m.reserved_name kept.reserved_name (held ls start _ r 10 (map
    octets m.reserved_name) refl) in
    rw (r.read, e1, e2, e3, e4, e5, e6, e7, e8, e9, e10, list_back inside) refl

mutual
  unfolding message_of

  pub message_says : (types : Types) (levels : ℕ) (m : MessageDescriptor) → MessageKept levels m
      → Says (message_of types levels) (bytes_of (message_items m)) (kept_specs.message_back m)
  message_says types zero (a_message m inside) kept = absurd kept
  message_says types (suc levels) (a_message m inside) kept =
      subst (λ (z : Items). Says (message_around types (message_of types levels)) (bytes_of z)
      (a_message (parts_back m) (messages_back inside))) (sym (message_chained m inside))
      (said_of_parts types levels m inside kept.0 (nested_say types levels inside kept.1))

  nested_say : (types : Types) (levels : ℕ) (ms : MessageDescriptors) → MessagesKept levels ms
      → AllByRecursion (λ x. Says (message_of types levels) (bytes_of (message_items x))
      (kept_specs.message_back x)) (messages_list ms)
  nested_say types levels no_messages kept = tt
  nested_say types levels (messages m ms) kept =
      (message_says types levels m kept.0, nested_say types levels ms kept.1)
