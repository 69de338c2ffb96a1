-- How the listing of the built-in options of a construct follows from its table, from their numbers
-- and from what the statements say.
use Rattle.std.specs.Prelude.{◌≡◌, ℕ, List, [], ◌∷◌, ◌++◌, map, bytes_eq, find, Option, None}
use Rattle.std.specs.Prelude.{option_map}
use Rattle.protobuf_parse_syntax.specs.Trees.{ConstantSyntax, dotted, OptionSyntax}
use Rattle.protobuf_parse_model.specs.BuiltinOptions.{BuiltinKind, a_text, a_truth, a_word, Table}
use Rattle.protobuf_parse_model.specs.BuiltinOptions.{last_value, set_by, text_said, truth_said}
use Rattle.protobuf_parse_model.specs.Words.{words_of, optimize_modes, c_types, js_types}
use Rattle.protobuf_parse_model.specs.Words.{idempotency_levels}
use Rattle.protobuf_parse_model.specs.Descriptors.{Text}
use Rattle.protobuf_parse_model.specs.OptionNumbers.{Numbers, AreNumbered, in_order}
use Rattle.protobuf_parse_model.specs.OptionNumbers.{optimize_mode_numbers, c_type_numbers}
use Rattle.protobuf_parse_model.specs.OptionNumbers.{js_type_numbers, idempotency_level_numbers}
use Rattle.protobuf_parse_model.specs.OptionTables.{option_names_in}
use Rattle.protobuf_parse_listing.specs.Listing.{Setting, quoted, listed_truth, setting_lines}
use Rattle.protobuf_parse_listing.specs.Listing.{custom_line}

-- the name that a constant is, where it is one of these
abbrev pub word_among : List Text → ConstantSyntax → Option Text
word_among words (dotted n) = find (λ (w : Text). bytes_eq w n) words
word_among words _ = None

-- the words of what a constant says to an option of the kind
abbrev pub words_said : BuiltinKind → Option ConstantSyntax → Option Text
words_said a_text value = option_map quoted (set_by text_said value)
words_said a_truth value = option_map listed_truth (set_by truth_said value)
words_said (a_word words) value = set_by (word_among words) value

-- an option of the table, and what the last statement with its name says
abbrev pub setting_said : List OptionSyntax → Text × BuiltinKind → Setting
setting_said os entry = (entry.0, words_said entry.1 (last_value entry.0 os))

-- the settings of all options of the table, in the order of their numbers
abbrev pub settings_said : Table → Numbers → List OptionSyntax → List Setting
settings_said table numbers os = map (setting_said os) (in_order table numbers)

-- the lines of a construct's options, by what its statements say; without statements there are
-- none
abbrev pub lines_said : Table → Numbers → ℕ → Text → List OptionSyntax → Text
lines_said table numbers level custom [] = []
lines_said table numbers level custom (o ∷ os) =
    setting_lines level (settings_said table numbers (o ∷ os)) ++ custom_line level custom

-- Each option of the table has its number, and no other name has one. What statements set is listed
-- for each of these options and for nothing else, in the order of their numbers, as the last
-- statement with its name says.
pub record AreListed {A : Type 0} (table : Table) (numbers : Numbers)
    (options : Text → List OptionSyntax → Option A) (lines : ℕ → Option A → Text) : Type 0 where
  pub numbered : AreNumbered (option_names_in table) numbers
  pub listed : (level : ℕ) (custom : Text) (os : List OptionSyntax)
      → lines level (options custom os) ≡ lines_said table numbers level custom os

-- Each value of an enum has its number.
pub record ValuesAreNumbered : Type 0 where
  pub optimize_for : AreNumbered (words_of optimize_modes) optimize_mode_numbers
  pub ctype : AreNumbered (words_of c_types) c_type_numbers
  pub jstype : AreNumbered (words_of js_types) js_type_numbers
  pub idempotency_level : AreNumbered (words_of idempotency_levels) idempotency_level_numbers
