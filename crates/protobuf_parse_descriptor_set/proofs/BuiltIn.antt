-- Built-in options have values of their kinds, so that their bytes spell them, with what comes
-- behind.
use Rattle.std.proofs.Common.{◌∙◌, ℕ, List, [], ◌∷◌, ◌++◌, ap, refl}
use Rattle.std.proofs.Common.{append_assoc}
use Rattle.std.specs.Prelude.{Bool, Option, Some, None}
use Rattle.protobuf_parse_model.specs.Options.{FileOptionValues, MessageOptionValues}
use Rattle.protobuf_parse_model.specs.Options.{FieldOptionValues}
use Rattle.protobuf_parse_model.specs.Options.{EnumOptionValues, EnumValueOptionValues}
use Rattle.protobuf_parse_model.specs.Options.{ServiceOptionValues, MethodOptionValues}
use Rattle.protobuf_parse_model.specs.declared.descriptor.options.OptimizeMode.{OptimizeMode}
use Rattle.protobuf_parse_model.specs.declared.descriptor.options.OptimizeMode.TheVariants as mode
use Rattle.protobuf_parse_model.specs.declared.descriptor.options.CType.{CType}
use Rattle.protobuf_parse_model.specs.declared.descriptor.options.CType.TheVariants as ctype
use Rattle.protobuf_parse_model.specs.declared.descriptor.options.JSType.{JSType}
use Rattle.protobuf_parse_model.specs.declared.descriptor.options.JSType.TheVariants as jstype
use Rattle.protobuf_parse_model.specs.declared.descriptor.options.IdempotencyLevel.{IdempotencyLevel}
use Rattle.protobuf_parse_model.specs.declared.descriptor.options.IdempotencyLevel.TheVariants as level
use Rattle.protobuf_parse_wire.specs.Trees.{Entries}
use Rattle.protobuf_parse_wire.specs.Views.{entries_of_list}
use Rattle.protobuf_parse_wire.specs.Wire.{Spells}
use Rattle.protobuf_parse_wire.specs.Writing.{AreWritable}
use Rattle.protobuf_parse_wire.proofs.Encoded.{encoded_spells}
use Rattle.protobuf_parse_descriptor_set.specs.Items.{Items, bytes_of, text, choice, flag, some}
use Rattle.protobuf_parse_descriptor_set.specs.Laws.{followed_by}
use Rattle.protobuf_parse_descriptor_set.specs.Numbers.{optimize_mode_number, ctype_number}
use Rattle.protobuf_parse_descriptor_set.specs.Numbers.{jstype_number, idempotency_level_number}
use Rattle.protobuf_parse_descriptor_set.specs.OptionItems.{file_option_items}
use Rattle.protobuf_parse_descriptor_set.specs.OptionItems.{message_option_items}
use Rattle.protobuf_parse_descriptor_set.specs.OptionItems.{field_option_items, enum_option_items}
use Rattle.protobuf_parse_descriptor_set.specs.OptionItems.{enum_value_option_items}
use Rattle.protobuf_parse_descriptor_set.specs.OptionItems.{service_option_items}
use Rattle.protobuf_parse_descriptor_set.specs.OptionItems.{method_option_items}
use Rattle.protobuf_parse_descriptor_set.proofs.Joining.{are_writable-append}

-- ---- what comes behind

-- what spells one list and then another spells both
spells_behind : (items : Items) (denoted : Entries) (bytes custom : List ℕ)
    → Spells (entries_of_list items) bytes → Spells denoted custom
    → Spells (followed_by items denoted) (bytes ++ custom)
spells_behind [] denoted bytes custom none spells = rw none spells
spells_behind (i ∷ items) denoted bytes custom s spells =
    let rest = s.2 ++ custom in (
      s.0,
      s.1,
      rest,
      ap (λ (z : List ℕ). z ++ custom) s.3 ∙ append_assoc s.0 (s.1 ++ s.2) custom
          ∙ ap (λ (z : List ℕ). s.0 ++ z) (append_assoc s.1 s.2 custom),
      s.4,
      s.5,
      spells_behind items denoted s.2 custom s.6 spells,
    )

-- Each value is one of its kind.
pub record AreOptions (items : Items) : Type 0 where
  pub writable : AreWritable (entries_of_list items)

pub one_message : {items : Items} → AreOptions items → (custom : List ℕ) (denoted : Entries)
    → Spells denoted custom → Spells (followed_by items denoted) (bytes_of items ++ custom)
unfolding bytes_of
one_message {items} built_in custom denoted spells =
    spells_behind items denoted (bytes_of items) custom
    (encoded_spells (entries_of_list items) built_in.writable) spells

-- ---- single options

then : {a b : Items} → AreOptions a → AreOptions b → AreOptions (a ++ b)
then {a} {b} p q = record { writable = are_writable-append a b p.writable q.writable }

a_text : (n : ℕ) (t : Option (List ℕ)) → AreOptions (some (text n) t)
unfolding text
a_text n None = record { writable = tt }
a_text n (Some t) = record { writable = (tt, tt) }

a_flag : (n : ℕ) (b : Option Bool) → AreOptions (some (flag n) b)
unfolding flag
a_flag n None = record { writable = tt }
a_flag n (Some b) = record { writable = (tt, tt) }

a_mode : (n : ℕ) (m : Option OptimizeMode)
    → AreOptions (some (λ v. choice n (optimize_mode_number v)) m)
unfolding choice
a_mode n None = record { writable = tt }
a_mode n (Some mode.Speed) = record { writable = (refl, tt) }
a_mode n (Some mode.CodeSize) = record { writable = (refl, tt) }
a_mode n (Some mode.LiteRuntime) = record { writable = (refl, tt) }

a_ctype : (n : ℕ) (t : Option CType) → AreOptions (some (λ v. choice n (ctype_number v)) t)
unfolding choice
a_ctype n None = record { writable = tt }
a_ctype n (Some ctype.String) = record { writable = (refl, tt) }
a_ctype n (Some ctype.Cord) = record { writable = (refl, tt) }
a_ctype n (Some ctype.StringPiece) = record { writable = (refl, tt) }

a_jstype : (n : ℕ) (t : Option JSType) → AreOptions (some (λ v. choice n (jstype_number v)) t)
unfolding choice
a_jstype n None = record { writable = tt }
a_jstype n (Some jstype.JsNormal) = record { writable = (refl, tt) }
a_jstype n (Some jstype.JsString) = record { writable = (refl, tt) }
a_jstype n (Some jstype.JsNumber) = record { writable = (refl, tt) }

a_level : (n : ℕ) (l : Option IdempotencyLevel)
    → AreOptions (some (λ v. choice n (idempotency_level_number v)) l)
unfolding choice
a_level n None = record { writable = tt }
a_level n (Some level.IdempotencyUnknown) = record { writable = (refl, tt) }
a_level n (Some level.NoSideEffects) = record { writable = (refl, tt) }
a_level n (Some level.Idempotent) = record { writable = (refl, tt) }

-- ---- the options of each construct

pub file_options : (o : FileOptionValues) → AreOptions (file_option_items o)
unfolding file_option_items
file_options o =
    let to1 = then (a_text 1 o.java_package) (a_text 8 o.java_outer_classname) in
    let to2 = then to1 (a_mode 9 o.optimize_for) in
    let to3 = then to2 (a_flag 10 o.java_multiple_files) in
    let to4 = then to3 (a_text 11 o.go_package) in
    let to5 = then to4 (a_flag 16 o.cc_generic_services) in
    let to6 = then to5 (a_flag 17 o.java_generic_services) in
    let to7 = then to6 (a_flag 18 o.py_generic_services) in
    let to8 = then to7 (a_flag 20 o.java_generate_equals_and_hash) in
    let to9 = then to8 (a_flag 23 o.deprecated) in
    let to10 = then to9 (a_flag 27 o.java_string_check_utf8) in
    let to11 = then to10 (a_flag 31 o.cc_enable_arenas) in
    let to12 = then to11 (a_text 36 o.objc_class_prefix) in
    let to13 = then to12 (a_text 37 o.csharp_namespace) in
    let to14 = then to13 (a_text 39 o.swift_prefix) in
    let to15 = then to14 (a_text 40 o.php_class_prefix) in
    let to16 = then to15 (a_text 41 o.php_namespace) in
    let to17 = then to16 (a_text 44 o.php_metadata_namespace) in
    then to17 (a_text 45 o.ruby_package)

pub message_options : (o : MessageOptionValues) → AreOptions (message_option_items o)
unfolding message_option_items
message_options o =
    let to1 = then (a_flag 1 o.message_set_wire_format)
    (a_flag 2 o.no_standard_descriptor_accessor) in
    let to2 = then to1 (a_flag 3 o.deprecated) in
    then to2 (a_flag 7 o.map_entry)

pub field_options : (o : FieldOptionValues) → AreOptions (field_option_items o)
unfolding field_option_items
field_options o =
    let to1 = then (a_ctype 1 o.ctype) (a_flag 2 o.packed) in
    let to2 = then to1 (a_flag 3 o.deprecated) in
    let to3 = then to2 (a_flag 5 o.lazy) in
    let to4 = then to3 (a_jstype 6 o.jstype) in
    let to5 = then to4 (a_flag 10 o.weak) in
    let to6 = then to5 (a_flag 15 o.unverified_lazy) in
    then to6 (a_flag 16 o.debug_redact)

pub enum_options : (o : EnumOptionValues) → AreOptions (enum_option_items o)
unfolding enum_option_items
enum_options o = then (a_flag 2 o.allow_alias) (a_flag 3 o.deprecated)

pub enum_value_options : (o : EnumValueOptionValues) → AreOptions (enum_value_option_items o)
unfolding enum_value_option_items
enum_value_options o = a_flag 1 o.deprecated

pub service_options : (o : ServiceOptionValues) → AreOptions (service_option_items o)
unfolding service_option_items
service_options o = a_flag 33 o.deprecated

pub method_options : (o : MethodOptionValues) → AreOptions (method_option_items o)
unfolding method_option_items
method_options o = then (a_flag 33 o.deprecated) (a_level 34 o.idempotency_level)
