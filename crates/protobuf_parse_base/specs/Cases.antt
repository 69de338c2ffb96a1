-- The spellings of a name: camel case, snake case and the JSON name, on the characters of a text.
use Rattle.std.specs.Prelude.{ℕ, ◌==◌, ◌&&◌, Bool, true, false, List, [], ◌∷◌, ◌++◌, if◌then◌else◌}
use Rattle.std.specs.Prelude.{encode_utf8_all}
use Rattle.std.specs.List.{list_any}
use Rattle.std.specs.Str.{chars}
use Rattle.std.specs.Char.{to_ascii_uppercase, to_ascii_lowercase, is_ascii_uppercase}
use Rattle.ucd_derived.specs.Binary.{is_lowercase}
use Rattle.protobuf_parse_base.specs.Characters as char

-- the characters without the underscores, each that directly followed one in ASCII upper case;
-- `raise` says that the first that remains is put in upper case too
abbrev pub joined_words : Bool → List ℕ → List ℕ
joined_words raise [] = []
joined_words raise (c ∷ cs) = if c == char.underscore then joined_words true cs
    else (if raise then to_ascii_uppercase c else c) ∷ joined_words false cs

-- `foo_bar` is `FooBar`
abbrev pub camel_case_of : List ℕ → List ℕ
camel_case_of cs = joined_words true cs

-- `foo_bar` is `fooBar`
abbrev pub json_name_of : List ℕ → List ℕ
json_name_of cs = joined_words false cs

-- each character in ASCII lower case, with an underscore before an ASCII capital whose preceding
-- character has the property Lowercase; `after_lower` says so of what precedes the first
abbrev pub split_words : Bool → List ℕ → List ℕ
split_words after_lower [] = []
split_words after_lower (c ∷ cs) =
    (if after_lower && is_ascii_uppercase c then char.underscore ∷ [] else [])
    ++ (to_ascii_lowercase c ∷ split_words (is_lowercase c) cs)

-- `fooBar` is `foo_bar`
abbrev pub snake_case_of : List ℕ → List ℕ
snake_case_of cs = split_words false cs

-- whether an underscore is among the characters
abbrev pub has_underscore : List ℕ → Bool
has_underscore cs = list_any (λ c. c == char.underscore) cs

-- the same spellings on the bytes of texts
abbrev pub camel_case_text : List ℕ → List ℕ
camel_case_text name = encode_utf8_all (camel_case_of (chars name))

-- the JSON name of a name
abbrev pub json_name_text : List ℕ → List ℕ
json_name_text name = encode_utf8_all (json_name_of (chars name))

-- a name in snake case
abbrev pub snake_case_text : List ℕ → List ℕ
snake_case_text name = encode_utf8_all (snake_case_of (chars name))
