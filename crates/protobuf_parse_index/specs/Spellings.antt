-- Names in snake case, lower and upper, as linters want them: words apart, each letter in one case.
use Rattle.std.specs.Prelude.{ℕ, ◌&&◌, ◌||◌, Bool, false, true, List, [], ◌∷◌, ◌++◌, Option, Some, None}
use Rattle.std.specs.Prelude.{encode_utf8_all, if◌then◌else◌}
use Rattle.std.specs.Str.{chars}
use Rattle.std.specs.Char.{is_ascii_digit, is_ascii_lowercase, is_ascii_uppercase}
use Rattle.std.specs.Char.{to_ascii_lowercase, to_ascii_uppercase}
use Rattle.protobuf_parse_base.specs.Characters as char

-- whether there is a small letter
abbrev pub is_small : Option ℕ → Bool
is_small None = false
is_small (Some c) = is_ascii_lowercase c

-- Whether a word begins with the character: with a capital where a small letter stands before it,
-- or where a capital or a digit stands before it and a small letter behind it.
abbrev pub begins_word : (before : Option ℕ) → (c : ℕ) → (after : Option ℕ) → Bool
begins_word None c after = false
begins_word (Some before) c after =
    is_ascii_uppercase c
    && (is_ascii_lowercase before
    || (is_ascii_uppercase before || is_ascii_digit before) && is_small after)

-- the character in ASCII upper case, or in ASCII lower case
abbrev pub in_case : (upper : Bool) → ℕ → ℕ
in_case upper c = if upper then to_ascii_uppercase c else to_ascii_lowercase c

-- a character in that case, behind an underscore if a word begins with it
abbrev pub spelled_one : (upper : Bool) → (before : Option ℕ) → (c : ℕ) → (after : Option ℕ)
    → List ℕ
spelled_one upper before c after =
    (if begins_word before c after then char.underscore ∷ [] else []) ++ in_case upper c ∷ []

-- the first of the characters
abbrev pub first_of : List ℕ → Option ℕ
first_of [] = None
first_of (c ∷ cs) = Some c

-- the characters one by one, behind what stands before them
abbrev pub spelled : (upper : Bool) → (before : Option ℕ) → List ℕ → List ℕ
spelled upper before [] = []
spelled upper before (c ∷ cs) =
    spelled_one upper before c (first_of cs) ++ spelled upper (Some c) cs

-- `HTTPStatus` is `http_status`
abbrev pub lower_snake_case : List ℕ → List ℕ
lower_snake_case name = encode_utf8_all (spelled false None (chars name))

-- `HTTPStatus` is `HTTP_STATUS`
abbrev pub upper_snake_case : List ℕ → List ℕ
upper_snake_case name = encode_utf8_all (spelled true None (chars name))
