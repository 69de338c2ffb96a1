-- The lines of options are those that the tables, the numbers and the statements say.
use Rattle.std.proofs.Common.{◌≡◌, ℕ, Bool, true, false, cond, List, [], ◌∷◌, ◌++◌, map, take, drop}
use Rattle.std.proofs.Common.{codes, bytes_eq, find, Option, Some, None, option_map, refl, sym, ap}
use Rattle.std.proofs.Common.{ap₂, ◌∙◌, append-nil}
use Rattle.std.proofs.lemmas.List.Concat.{flat_map-append}
use Rattle.protobuf_parse_syntax.specs.Trees.{ConstantSyntax, integer, truth, dotted, string, list}
use Rattle.protobuf_parse_syntax.specs.Trees.{fields, OptionSyntax}
use Rattle.protobuf_parse_model.specs.BuiltinOptions.{word_said, set_by, truth_option}
use Rattle.protobuf_parse_model.specs.BuiltinOptions.{word_option, last_value}
use Rattle.protobuf_parse_model.specs.Words.{Words, words_of, optimize_modes, c_types, js_types}
use Rattle.protobuf_parse_model.specs.Words.{idempotency_levels, optimize_mode_word, c_type_word}
use Rattle.protobuf_parse_model.specs.Words.{js_type_word, idempotency_level_word}
use Rattle.protobuf_parse_model.specs.BuiltinOptions.{file_table, message_table, field_table}
use Rattle.protobuf_parse_model.specs.BuiltinOptions.{oneof_table, enum_table, enum_value_table}
use Rattle.protobuf_parse_model.specs.BuiltinOptions.{service_table, method_table}
use Rattle.protobuf_parse_model.specs.Descriptors.{Text}
use Rattle.protobuf_parse_model.specs.OptionNumbers.{file_numbers, message_numbers}
use Rattle.protobuf_parse_model.specs.OptionNumbers.{field_numbers, oneof_numbers, enum_numbers}
use Rattle.protobuf_parse_model.specs.OptionNumbers.{enum_value_numbers, service_numbers}
use Rattle.protobuf_parse_model.specs.OptionNumbers.{method_numbers}
use Rattle.protobuf_parse_model.specs.OptionMessages.{file_options, message_options, field_options}
use Rattle.protobuf_parse_model.specs.OptionMessages.{oneof_options, enum_options}
use Rattle.protobuf_parse_model.specs.OptionMessages.{enum_value_options}
use Rattle.protobuf_parse_model.specs.OptionMessages.{service_options, method_options}
use Rattle.protobuf_parse_listing.specs.Listing.{Setting, setting_line, setting_lines, custom_line}
use Rattle.protobuf_parse_listing.specs.Listing.{truth_setting, file_option_lines}
use Rattle.protobuf_parse_listing.specs.Listing.{message_option_lines, field_option_lines}
use Rattle.protobuf_parse_listing.specs.Listing.{oneof_option_lines, enum_option_lines}
use Rattle.protobuf_parse_listing.specs.Listing.{enum_value_option_lines, service_option_lines}
use Rattle.protobuf_parse_listing.specs.Listing.{method_option_lines}
use Rattle.protobuf_parse_listing.specs.ListedOptions.{word_among, settings_said, lines_said}

-- ---- the words of enums

-- where each value prints as its name, the value of a name prints as that name
abbrev PrintsNames : {A : Type 0} → (A → Text) → Words A → Type 0
PrintsNames {A} print words = map (λ (w : Text × A). print w.1) words ≡ words_of words

found_prints : {A : Type 0} (print : A → Text) (words : Words A) (n : Text)
    → PrintsNames print words
    → option_map print (option_map (λ (w : Text × A). w.1)
    (find (λ (w : Text × A). bytes_eq w.0 n) words))
    ≡ find (λ (w : Text). bytes_eq w n) (words_of words)
found_prints print [] n e = refl
found_prints {A} print (w ∷ words) n e =
    let first : print w.1 ≡ w.0 = cc in
    let others : PrintsNames print words = cc in
    at (bytes_eq w.0 n) first (found_prints print words n others)
  where
    at : (b : Bool) → print w.1 ≡ w.0
        → option_map print (option_map (λ (x : Text × A). x.1)
        (find (λ (x : Text × A). bytes_eq x.0 n) words))
        ≡ find (λ (x : Text). bytes_eq x n) (words_of words)
        → option_map print (option_map (λ (x : Text × A). x.1)
        (cond b (Some w) (find (λ (x : Text × A). bytes_eq x.0 n) words)))
        ≡ cond b (Some w.0) (find (λ (x : Text). bytes_eq x n) (words_of words))
    at true first rest = ap (λ t. Some t) first
    at false first rest = rest

word_prints : {A : Type 0} (print : A → Text) (words : Words A) → PrintsNames print words
    → (v : Option ConstantSyntax)
    → option_map print (set_by (word_said words) v) ≡ set_by (word_among (words_of words)) v
word_prints print words e None = refl
word_prints print words e (Some (dotted n)) = found_prints print words n e
word_prints print words e (Some (integer i)) = refl
word_prints print words e (Some (truth b)) = refl
word_prints print words e (Some (string pieces)) = refl
word_prints print words e (Some (list cs)) = refl
word_prints print words e (Some (fields fs)) = refl

-- ---- lines

three_parts : (level : ℕ) (a b c : List Setting) (after : Text)
    → setting_lines level a ++ setting_lines level b ++ setting_lines level c ++ after
    ≡ setting_lines level (a ++ b ++ c) ++ after
three_parts level a b c after =
    ap (λ t. t ++ after) (sym (flat_map-append (setting_line level) (a ++ b) c
    ∙ ap (λ t. t ++ setting_lines level c) (flat_map-append (setting_line level) a b)))

-- lines of equal settings
same_lines : (level : ℕ) (custom : Text) (a b : List Setting) → a ≡ b
    → setting_lines level a ++ custom_line level custom
    ≡ setting_lines level b ++ custom_line level custom
same_lines level custom a b e = ap (λ s. setting_lines level s ++ custom_line level custom) e

one_line : (level : ℕ) (custom : Text) (s : Setting)
    → setting_line level s ++ custom_line level custom
    ≡ setting_lines level (s ∷ []) ++ custom_line level custom
one_line level custom s =
    ap (λ t. t ++ custom_line level custom) (sym (append-nil (setting_line level s)))

-- ---- constructs

pub file_lines_are : (level : ℕ) (custom : Text) (os : List OptionSyntax)
    → file_option_lines level (file_options custom os)
    ≡ lines_said file_table file_numbers level custom os
unfolding file_option_lines
file_lines_are level custom [] = refl
file_lines_are level custom (o ∷ os) =
    let said : List Setting = settings_said file_table file_numbers (o ∷ os) in
    let with : Option Text → List Setting =
    λ w. take 2 said ++ (codes "optimize_for", w) ∷ drop 3 said in
    let mode : Option Text = option_map optimize_mode_word
    (word_option optimize_modes (o ∷ os) (codes "optimize_for")) in
    three_parts level (take 5 (with mode)) (take 7 (drop 5 (with mode))) (drop 12 (with mode))
    (custom_line level custom)
    ∙ same_lines level custom (with mode) said
    (ap with (word_prints optimize_mode_word optimize_modes refl
    (last_value (codes "optimize_for") (o ∷ os))))

pub message_lines_are : (level : ℕ) (custom : Text) (os : List OptionSyntax)
    → message_option_lines level (message_options custom os)
    ≡ lines_said message_table message_numbers level custom os
unfolding message_option_lines
message_lines_are level custom [] = refl
message_lines_are level custom (o ∷ os) = refl

pub field_lines_are : (level : ℕ) (custom : Text) (os : List OptionSyntax)
    → field_option_lines level (field_options custom os)
    ≡ lines_said field_table field_numbers level custom os
unfolding field_option_lines
field_lines_are level custom [] = refl
field_lines_are level custom (o ∷ os) =
    let said : List Setting = settings_said field_table field_numbers (o ∷ os) in
    same_lines level custom _ _
    (ap₂ (λ (c j : Option Text). (codes "ctype", c) ∷ take 3 (drop 1 said)
    ++ (codes "jstype", j) ∷ drop 5 said)
    (word_prints c_type_word c_types refl (last_value (codes "ctype") (o ∷ os)))
    (word_prints js_type_word js_types refl (last_value (codes "jstype") (o ∷ os))))

pub oneof_lines_are : (level : ℕ) (custom : Text) (os : List OptionSyntax)
    → oneof_option_lines level (oneof_options custom os)
    ≡ lines_said oneof_table oneof_numbers level custom os
unfolding oneof_option_lines
oneof_lines_are level custom [] = refl
oneof_lines_are level custom (o ∷ os) = refl

pub enum_lines_are : (level : ℕ) (custom : Text) (os : List OptionSyntax)
    → enum_option_lines level (enum_options custom os)
    ≡ lines_said enum_table enum_numbers level custom os
unfolding enum_option_lines
enum_lines_are level custom [] = refl
enum_lines_are level custom (o ∷ os) = refl

pub enum_value_lines_are : (level : ℕ) (custom : Text) (os : List OptionSyntax)
    → enum_value_option_lines level (enum_value_options custom os)
    ≡ lines_said enum_value_table enum_value_numbers level custom os
unfolding enum_value_option_lines
enum_value_lines_are level custom [] = refl
enum_value_lines_are level custom (o ∷ os) = one_line level custom
    (truth_setting (codes "deprecated") (truth_option (o ∷ os) (codes "deprecated")))

pub service_lines_are : (level : ℕ) (custom : Text) (os : List OptionSyntax)
    → service_option_lines level (service_options custom os)
    ≡ lines_said service_table service_numbers level custom os
unfolding service_option_lines
service_lines_are level custom [] = refl
service_lines_are level custom (o ∷ os) = one_line level custom
    (truth_setting (codes "deprecated") (truth_option (o ∷ os) (codes "deprecated")))

pub method_lines_are : (level : ℕ) (custom : Text) (os : List OptionSyntax)
    → method_option_lines level (method_options custom os)
    ≡ lines_said method_table method_numbers level custom os
unfolding method_option_lines
method_lines_are level custom [] = refl
method_lines_are level custom (o ∷ os) =
    let said : List Setting = settings_said method_table method_numbers (o ∷ os) in
    same_lines level custom _ _
    (ap (λ (w : Option Text). take 1 said ++ (codes "idempotency_level", w) ∷ [])
    (word_prints idempotency_level_word idempotency_levels refl
    (last_value (codes "idempotency_level") (o ∷ os))))
