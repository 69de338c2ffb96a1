-- Built-in options as the code has them: a name, and the words of its value where it is set.
use Rattle.std.specs.Prelude.{ℕ, List, Option, option_map}
use Rattle.protobuf_parse_listing.specs.declared.settings.Setting.{Setting}
use Rattle.protobuf_parse_listing.specs.declared.settings.SettingValue.{SettingValue}
use Rattle.protobuf_parse_listing.specs.declared.settings.SettingValue.TheVariants.{Text, Word}
use Rattle.protobuf_parse_listing.specs.Listing.{quoted}

-- the words of a value: a text in quotes, a word as it is
abbrev pub value_words : SettingValue → List ℕ
value_words (Text t) = quoted t.now
value_words (Word w) = w.now

-- the name of an option, and the words of its value where it is set
abbrev pub setting_view : Setting → List ℕ × Option (List ℕ)
setting_view s = (s.name.now, option_map value_words s.value)
