-- What lines are made of.
use Rattle.std.specs.Prelude.{ℕ, zero, suc, ℤ, ◌*◌, Bool, true, false, [], ◌∷◌, ◌++◌, codes}
use Rattle.std.specs.Prelude.{replicate, if◌then◌else◌}
use Rattle.std.specs.Fmt.{signed_decimal}
use Rattle.std.specs.Ordering.{int_eq}
use Rattle.protobuf_parse_base.specs.Characters as char
use Rattle.protobuf_parse_model.specs.Descriptors.{Text}
use Rattle.protobuf_parse_listing.specs.Listing.{line, quoted}

-- an empty line, before what stands at the level of the file
unfoldable pub blank : ℕ → Text
blank zero = char.newline ∷ []
blank (suc level) = []

-- the end of what has braces
unfoldable pub close : ℕ → Text
close level = line level (codes "}")

-- a statement of these words and a text in double quotes
abbrev pub quoted_line : Text → Text → Text
quoted_line words text = words ++ quoted text ++ codes ";\n"

-- the last number of a range, which may be the largest that there is
abbrev pub last_words : ℤ → (is_max : Bool) → Text
last_words last true = codes "max"
last_words last false = signed_decimal last

-- `5`, `5 to 7` or `5 to max`
unfoldable pub range_words : ℤ → ℤ → (is_max : Bool) → Text
range_words first last is_max = signed_decimal first
    ++ (if int_eq first last then [] else codes " to " ++ last_words last is_max)

-- a statement of a range of numbers, both ends among them
unfoldable pub range_line : ℕ → Text → ℤ → ℤ → (is_max : Bool) → Text
range_line level words first last is_max =
    replicate (2 * level) char.space ++ words ++ range_words first last is_max ++ codes ";\n"

-- `reserved "a";`
unfoldable pub reserved_name_line : ℕ → Text → Text
reserved_name_line level name =
    replicate (2 * level) char.space ++ quoted_line (codes "reserved ") name
