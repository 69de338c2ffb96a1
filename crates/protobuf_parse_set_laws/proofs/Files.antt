-- Files and sets that were written.
use Rattle.std.proofs.Common.{◌≡◌, ℕ, zero, suc, ◌<◌, ◌^◌, Bool, true, false, List, [], ◌∷◌, ◌++◌}
use Rattle.std.proofs.Common.{flat_map, length, map, Option, Some, None, Ok, refl, sym, ap, ◌∙◌}
use Rattle.std.proofs.Common.{subst}
use Rattle.std.specs.Prelude.{IfSome, bytes_eq, codes, if◌then◌else◌}
use Rattle.std.specs.List.{AllByRecursion}
use Rattle.protobuf_parse_model.specs.declared.descriptor.FieldType.TheVariants as type
use Rattle.protobuf_parse_model.specs.Descriptors.{Text, EnumDescriptor, FileDescriptor}
use Rattle.protobuf_parse_model.specs.Descriptors.{MessageDescriptor, MessageDescriptors, a_message}
use Rattle.protobuf_parse_model.specs.Descriptors.{messages, messages_list, no_messages}
use Rattle.protobuf_parse_records.specs.Views.{WireRecord}
use Rattle.protobuf_parse_records.specs.Wire.{◌>>=◌}
use Rattle.protobuf_parse_descriptor_set.specs.Items.{Items, bytes_of, part, text}
use Rattle.protobuf_parse_descriptor_set.specs.OptionItems as items
use Rattle.protobuf_parse_descriptor_set.specs.DescriptorItems.{FileAndInfo, enum_items}
use Rattle.protobuf_parse_descriptor_set.specs.DescriptorItems.{field_items, file_and_info_items}
use Rattle.protobuf_parse_descriptor_set.specs.DescriptorItems.{file_items, file_with}
use Rattle.protobuf_parse_descriptor_set.specs.DescriptorItems.{set_bytes_with_info}
use Rattle.protobuf_parse_descriptor_set.specs.DescriptorItems.{message_items, service_items}
use Rattle.protobuf_parse_descriptor_set.specs.DescriptorItems.{syntax_items}
use Rattle.protobuf_parse_set_reader.specs.declared.fault.SetFaultKind.TheVariants as kind
use Rattle.protobuf_parse_set_reader.specs.Answers.{Answer}
use Rattle.protobuf_parse_set_reader.specs.Values.{BodyView, all_of, body_in, body_of, numbered}
use Rattle.protobuf_parse_set_reader.specs.Values.{part_in}
use Rattle.protobuf_parse_set_reader.specs.OptionReading.{file_options_of}
use Rattle.protobuf_parse_set_reader.specs.TypeNames.{TypeName, Types, enum_name, file_names}
use Rattle.protobuf_parse_set_reader.specs.TypeNames.{message_names, names_around, package_scope}
use Rattle.protobuf_parse_set_reader.specs.TypeNames.{type_named, within}
use Rattle.protobuf_parse_set_reader.specs.Reading.{enum_of, field_of, file_of, files_of}
use Rattle.protobuf_parse_set_reader.specs.Reading.{message_of}
use Rattle.protobuf_parse_set_reader.specs.Reading.{service_of, set_file_of, set_files_of, set_of}
use Rattle.protobuf_parse_set_reader.specs.Reading.{set_with_info_of}
use Rattle.protobuf_parse_set_laws.specs.Kept.{EnumKept, FieldKept, FileKept, HasName, IsText}
use Rattle.protobuf_parse_set_laws.specs.Kept.{MessageKept, MessagesKept, ServiceKept}
use Rattle.protobuf_parse_set_laws.specs.Kept.{SetsAreReadBack, SetsWithInfoAreReadBack}
use Rattle.protobuf_parse_set_laws.specs.Kept.{enum_back, field_back, file_back, message_back}
use Rattle.protobuf_parse_set_laws.specs.Kept.{service_back, syntax_back, with_info_back}
use Rattle.protobuf_parse_set_laws.proofs.Written.{Held, Holds, octets}
use Rattle.protobuf_parse_set_laws.proofs.Pieces.{AreHeld}
use Rattle.protobuf_parse_set_laws.proofs.Lines.{Line, MessageRead, Piece, a_text, chained, line}
use Rattle.protobuf_parse_set_laws.proofs.Lines.{message_read}
use Rattle.protobuf_parse_set_laws.proofs.Lines.{int_held, nothing, some_ints, some_options_held}
use Rattle.protobuf_parse_set_laws.proofs.Lines.{some_options, some_parts}
use Rattle.protobuf_parse_set_laws.proofs.Lines.{some_text, some_texts, some_whole, text_held}
use Rattle.protobuf_parse_set_laws.proofs.Said.{Says, bytes_said, inside_said, ints_said}
use Rattle.protobuf_parse_set_laws.proofs.Said.{needed_said}
use Rattle.protobuf_parse_set_laws.proofs.Said.{parts_said, text_said, texts_said}
use Rattle.protobuf_parse_set_laws.proofs.Options.{options_said}
use Rattle.protobuf_parse_set_laws.proofs.OptionMessages.{file_options_say}
use Rattle.protobuf_parse_set_laws.proofs.Messages.{all_from, enum_lines, enum_says, field_says}
use Rattle.protobuf_parse_set_laws.proofs.Messages.{held, if_some, message_chained, message_lines}
use Rattle.protobuf_parse_set_laws.proofs.Messages.{message_says, service_says}

-- ---- names of messages and enums

-- Bytes of a message have names, wherever they stand.
abbrev Named : (BodyView → Answer (List TypeName)) → List ℕ → Type 0
Named of bs = length bs < 2 ^ 64 → (start : ℕ)
    → (ts : List TypeName) × ((body_of (record { start = start; bytes = bs }) >>= of) ≡ Ok ts)

-- The records have names.
record AllNamed (of : BodyView → Answer (List TypeName)) (rs : List WireRecord) : Type 0 where
  names : List TypeName
  read : all_of (part_in of) rs ≡ Ok names

one_named : (of : BodyView → Answer (List TypeName)) (bs : List ℕ) (r : WireRecord)
    → Named of bs → Holds (octets bs) r → (ts : List TypeName) × (part_in of r ≡ Ok ts)
unfolding part_in body_in
one_named of bs r named h =
    let p = inside_said bs r h in
    let s = p.0 in
    let n = named h.fits s.start in
    let e : (body_of s >>= of) ≡ Ok n.0 =
    ap (λ z. body_of (record { start = s.start; bytes = z }) >>= of) p.2 ∙ n.1 in
    (n.0, rw p.1 e)

all_named : {X : Type 0} (of : BodyView → Answer (List TypeName)) (bytes : X → List ℕ)
    (xs : List X) (rs : List WireRecord) → AllByRecursion (λ x. Named of (bytes x)) xs
    → AreHeld (map (λ x. octets (bytes x)) xs) rs → AllNamed of rs
all_named of bytes [] [] named h = record { names = []; read = refl }
all_named of bytes [] (r ∷ rs) named h = absurd h
all_named of bytes (x ∷ xs) [] named h = absurd h
all_named of bytes (x ∷ xs) (r ∷ rs) named h =
    let first = one_named of (bytes x) r named.0 h.0 in
    let others = all_named of bytes xs rs named.1 h.1 in
    record { names = first.0 ++ others.names; read = rw (first.1, others.read) refl }

enum_named : (scope : Text) (e : EnumDescriptor) → EnumKept e
    → Says (enum_name scope) (bytes_of (enum_items e))
    (record { name = within scope e.name; type_ = type.Enum })
unfolding enum_name enum_items
enum_named scope e kept lt start =
    let ls = enum_lines e in
    let r = message_read ls refl lt start in
    let e1 = needed_said kind.NoName 1 r.body e.name kept.name (held ls start _ r 1 (octets e.name
    ∷ []) refl) in
    rw (r.read, e1) refl

mutual
  unfolding message_names names_around

  message_named : (levels : ℕ) (scope : Text) (m : MessageDescriptor) → MessageKept levels m
      → Named (message_names levels scope) (bytes_of (message_items m))
  message_named zero scope (a_message m inside) kept lt start = absurd kept
  message_named (suc levels) scope (a_message m inside) kept lt start =
      let ls = message_lines m inside in
      let e = message_chained m inside in
      let r = message_read ls refl (subst (λ (z : Items). length (bytes_of z) < 2 ^ 64) e lt)
      start in
      let nested = all_named (message_names levels (within scope m.name))
      (λ x. bytes_of (message_items x)) (messages_list inside) (numbered 3 r.body.records)
      (nested_named levels (within scope m.name) inside kept.1)
      (held ls start _ r 3 (map (λ x. octets (bytes_of (message_items x))) (messages_list inside))
      refl) in
      let enums = parts_said (enum_name (within scope m.name)) 4 r.body
      (λ x. bytes_of (enum_items x))
      (λ x. record { name = within (within scope m.name) x.name; type_ = type.Enum }) m.enum_type
      (all_from EnumKept _ m.enum_type (λ x k. enum_named (within scope m.name) x k)
      kept.0.enum_type)
      (held ls start _ r 4 (map (λ x. octets (bytes_of (enum_items x))) m.enum_type) refl) in
      let name = needed_said kind.NoName 1 r.body m.name kept.0.name
      (held ls start _ r 1 (octets m.name ∷ []) refl) in (
        record { name = within scope m.name; type_ = type.Message } ∷ nested.names ++ map
            (λ x. record { name = within (within scope m.name) x.name; type_ = type.Enum })
            m.enum_type,
        rw (
          e,
          r.read,
          name,
          nested.read,
          enums,
        ) refl,
      )

  nested_named : (levels : ℕ) (scope : Text) (ms : MessageDescriptors) → MessagesKept levels ms
      → AllByRecursion (λ x. Named (message_names levels scope) (bytes_of (message_items x)))
      (messages_list ms)
  nested_named levels scope no_messages kept = tt
  nested_named levels scope (messages m ms) kept =
      (message_named levels scope m kept.0, nested_named levels scope ms kept.1)

-- ---- files

-- what a syntax holds
abbrev syntax_held : Option Text → List Held
syntax_held s = text_held (syntax_back s)

a_syntax : (s : Option Text) → Piece 12 (syntax_items s) (syntax_held s)
a_syntax None = nothing 12
a_syntax (Some s) = by_test (bytes_eq s (codes "proto3"))
  where
    by_test : (b : Bool) → Piece 12 (if b then text 12 s else [])
        (text_held (if b then Some s else None))
    by_test true = a_text 12 s
    by_test false = nothing 12

syntax_text : (s : Option Text) → IfSome s IsText → IfSome (syntax_back s) IsText
syntax_text None utf8 = tt
syntax_text (Some s) utf8 = by_test (bytes_eq s (codes "proto3"))
  where
    by_test : (b : Bool) → IfSome (if◌then◌else◌ {A = Option Text} b (Some s) None) IsText
    by_test true = utf8
    by_test false = tt

abbrev file_lines : (info : Option Text) (f : FileDescriptor) → FileKept f → List Line
file_lines info f kept = line 1 (some_text 1 f.name) ∷ line 2 (some_text 2 f.«package»)
    ∷ line 3 (some_texts 3 f.dependency) ∷ line 4 (some_parts 4 message_items f.message_type)
    ∷ line 5 (some_parts 5 enum_items f.enum_type) ∷ line 6 (some_parts 6 service_items f.service)
    ∷ line 7 (some_parts 7 field_items f.extension)
    ∷ line 8 (some_options 8 items.file_option_bytes f.options) ∷ line 9 (some_whole 9 info)
    ∷ line 10 (some_ints 10 f.public_dependency kept.public_dependency)
    ∷ line 11 (some_ints 11 f.weak_dependency kept.weak_dependency) ∷ line 12 (a_syntax f.syntax)
    ∷ []

-- A file that was written, at some offset.
abbrev FileIsRead : (info : Option Text) (f : FileDescriptor) → FileKept f → ℕ → Type 0
FileIsRead info f kept start =
    MessageRead (file_lines info f kept) start (bytes_of (chained [] (file_lines info f kept)))

-- the name that a file has
record NameOf (name : Option Text) : Type 0 where
  it : Text
  is : name ≡ Some it
  text : IsText it

name_of_file : (name : Option Text) → HasName name → NameOf name
name_of_file None has = absurd has
name_of_file (Some t) has = record { it = t; is = refl; text = has }

file_said : (types : Types) (info : Option Text) (f : FileDescriptor) (kept : FileKept f)
    (start : ℕ) (r : FileIsRead info f kept start) → file_of types r.body ≡ Ok (file_back f)
unfolding file_of
file_said types info f kept start r =
    let ls = file_lines info f kept in
    let name = name_of_file f.name kept.name in
    let e1 = needed_said kind.NoName 1 r.body name.it name.text (subst (λ (z : Option Text).
    AreHeld (text_held z) (numbered 1 r.body.records)) name.is (held ls start _ r 1 (text_held
    f.name) refl)) in
    let e2 = text_said 2 r.body f.«package» kept.«package» (held ls start _ r 2 (text_held
    f.«package») refl) in
    let e3 = texts_said 3 r.body f.dependency kept.dependency (held ls start _ r 3 (map octets
    f.dependency) refl) in
    let e4 = parts_said (message_of types 100) 4 r.body (λ m. bytes_of (message_items m))
    message_back f.message_type (all_from (MessageKept 100) _ f.message_type (λ m k. message_says
    types 100 m k) kept.message_type) (held ls start _ r 4 (map (λ m. octets (bytes_of
    (message_items m))) f.message_type) refl) in
    let e5 = parts_said enum_of 5 r.body (λ e. bytes_of (enum_items e)) enum_back f.enum_type
    (all_from EnumKept _ f.enum_type (λ e k. enum_says e k) kept.enum_type) (held ls start _ r 5
    (map (λ e. octets (bytes_of (enum_items e))) f.enum_type) refl) in
    let e6 = parts_said service_of 6 r.body (λ s. bytes_of (service_items s)) service_back
    f.service (all_from ServiceKept _ f.service (λ s k. service_says s k) kept.service) (held ls
    start _ r 6 (map (λ s. octets (bytes_of (service_items s))) f.service) refl) in
    let e7 = parts_said (field_of types) 7 r.body (λ x. bytes_of (field_items x)) field_back
    f.extension (all_from FieldKept _ f.extension (λ x k. field_says types x k) kept.extension)
    (held ls start _ r 7 (map (λ x. octets (bytes_of (field_items x))) f.extension) refl) in
    let e8 = ints_said 10 r.body f.public_dependency kept.public_dependency (held ls start _ r 10
    (map int_held f.public_dependency) refl) in
    let e9 = ints_said 11 r.body f.weak_dependency kept.weak_dependency (held ls start _ r 11 (map
    int_held f.weak_dependency) refl) in
    let e10 = text_said 12 r.body (syntax_back f.syntax) (syntax_text f.syntax kept.syntax) (held
    ls start _ r 12 (text_held (syntax_back f.syntax)) refl) in
    let e11 = options_said file_options_of 8 r.body items.file_option_bytes f.options (if_some _ _
    f.options (λ o k. file_options_say o k) kept.options) (held ls start _ r 8 (some_options_held
    items.file_option_bytes f.options) refl) in
    rw (e1, e2, e3, e4, e5, e6, e7, e8, e9, e10, e11, sym name.is) refl

file_says : (types : Types) (info : Option Text) (f : FileDescriptor) → FileKept f
    → Says (file_of types) (bytes_of (file_with info f)) (file_back f)
unfolding file_with
file_says types info f kept lt start =
    let r = message_read (file_lines info f kept) refl lt start in
    rw (r.read, file_said types info f kept start r) refl

set_file_says : (types : Types) (f : FileAndInfo) → FileKept f.file
    → Says (set_file_of types) (bytes_of (file_and_info_items f)) (with_info_back f)
unfolding set_file_of file_with
set_file_says types f kept lt start =
    let ls = file_lines f.source_code_info f.file kept in
    let r = message_read ls refl lt start in
    let info = bytes_said 9 r.body f.source_code_info
    (held ls start _ r 9 (text_held f.source_code_info) refl) in
    rw (r.read, file_said types f.source_code_info f.file kept start r, info) refl

file_named : (info : Option Text) (f : FileDescriptor) → FileKept f
    → Named file_names (bytes_of (file_with info f))
unfolding file_names file_with
file_named info f kept lt start =
    let ls = file_lines info f kept in
    let r = message_read ls refl lt start in
    let scope = package_scope f.«package» in
    let inside = all_named (message_names 100 scope) (λ m. bytes_of (message_items m))
    f.message_type (numbered 4 r.body.records)
    (all_from (MessageKept 100) _ f.message_type (λ m k. message_named 100 scope m k)
    kept.message_type)
    (held ls start _ r 4 (map (λ m. octets (bytes_of (message_items m))) f.message_type) refl) in
    let enums = parts_said (enum_name scope) 5 r.body (λ x. bytes_of (enum_items x))
    (λ x. record { name = within scope x.name; type_ = type.Enum }) f.enum_type
    (all_from EnumKept _ f.enum_type (λ x k. enum_named scope x k) kept.enum_type)
    (held ls start _ r 5 (map (λ x. octets (bytes_of (enum_items x))) f.enum_type) refl) in (
      inside.names ++ map (λ x. record { name = within scope x.name; type_ = type.Enum })
          f.enum_type,
      let e1 = text_said 2 r.body f.«package» kept.«package» (held ls start _ r 2 (text_held
          f.«package») refl) in
          rw (r.read, e1, inside.read, enums) refl,
    )

-- ---- sets

-- files that are seen in some way, with source info
record Files (X : Type 0) : Type 0 where
  file : X → FileDescriptor
  info : X → Option Text

abbrev items_of : {X : Type 0} → Files X → X → Items
items_of seen x = file_with (seen.info x) (seen.file x)

abbrev set_lines : {X : Type 0} → Files X → List X → List Line
set_lines seen xs = line 1 (some_parts 1 (items_of seen) xs) ∷ []

abbrev AreKept : {X : Type 0} → Files X → List X → Type 0
AreKept seen xs = AllByRecursion (λ x. FileKept (seen.file x)) xs

-- A set that was written.
abbrev SetIsRead : {X : Type 0} → Files X → List X → Type 0
SetIsRead seen xs = MessageRead (set_lines seen xs) 0 (bytes_of (chained [] (set_lines seen xs)))

set_held : {X : Type 0} (seen : Files X) (xs : List X) (r : SetIsRead seen xs)
    → AreHeld (map (λ x. octets (bytes_of (items_of seen x))) xs) (numbered 1 r.body.records)
set_held seen xs r = held (set_lines seen xs) 0 _ r 1
    (map (λ x. octets (bytes_of (items_of seen x))) xs) refl

set_named : {X : Type 0} (seen : Files X) (xs : List X) → AreKept seen xs
    → (r : SetIsRead seen xs) → AllNamed file_names (numbered 1 r.body.records)
set_named seen xs kept r =
    all_named file_names (λ x. bytes_of (items_of seen x)) xs (numbered 1 r.body.records)
    (all_from (λ x. FileKept (seen.file x)) _ xs
    (λ x k. file_named (seen.info x) (seen.file x) k) kept)
    (set_held seen xs r)

set_is_read : {X : Type 0} (seen : Files X) (xs : List X) → AreKept seen xs
    → length (bytes_of (flat_map (λ x. part 1 (items_of seen x)) xs)) < 2 ^ 64
    → set_of (bytes_of (flat_map (λ x. part 1 (items_of seen x)) xs))
    ≡ Ok (map (λ x. file_back (seen.file x)) xs)
unfolding set_of files_of
set_is_read seen xs kept lt =
    let r = message_read (set_lines seen xs) refl lt 0 in
    let names = set_named seen xs kept r in
    let said = parts_said (file_of (type_named names.names)) 1 r.body
    (λ x. bytes_of (items_of seen x)) (λ x. file_back (seen.file x)) xs
    (all_from (λ x. FileKept (seen.file x)) _ xs
    (λ x k. file_says (type_named names.names) (seen.info x) (seen.file x) k) kept)
    (set_held seen xs r) in
    rw (r.read, names.read, said) refl

pub sets_are_read_back : SetsAreReadBack
unfolding file_items
sets_are_read_back files kept lt =
    set_is_read (record { file = λ f. f; info = λ f. None }) files kept lt

abbrev seen_with_info : Files FileAndInfo
seen_with_info = record { file = λ f. f.file; info = λ f. f.source_code_info }

infos_are_read : (files : List FileAndInfo) → AreKept seen_with_info files
    → length (set_bytes_with_info files) < 2 ^ 64
    → set_with_info_of (set_bytes_with_info files) ≡ Ok (map with_info_back files)
unfolding set_with_info_of set_files_of
infos_are_read files kept lt =
    let r = message_read (set_lines seen_with_info files) refl lt 0 in
    let names = set_named seen_with_info files kept r in
    let said = parts_said (set_file_of (type_named names.names)) 1 r.body
    (λ f. bytes_of (file_and_info_items f)) with_info_back files
    (all_from (λ (f : FileAndInfo). FileKept f.file) _ files
    (λ f k. set_file_says (type_named names.names) f k) kept)
    (set_held seen_with_info files r) in
    rw (r.read, names.read, said) refl

pub sets_with_info_are_read_back : SetsWithInfoAreReadBack
sets_with_info_are_read_back files kept lt = record {
  without_info = set_is_read seen_with_info files kept lt;
  with_info = infos_are_read files kept lt;
}
