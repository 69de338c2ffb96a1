-- No public clause rests on this file.
-- What a set is made of, as a rule of make (the Make utility of POSIX): the target and a colon, and
-- the files behind it, each on a line of its own. A backslash before the end of a line goes on with
-- the rule.
use Rattle.std.specs.Prelude.{ℕ, ◌+◌, ◌++◌, ◌==◌, List, [], ◌∷◌, codes, if◌then◌else◌}
use Rattle.protobuf_parse_model.specs.Descriptors.{Text}

-- what stands before the place of this position
abbrev pub words_before : (position : ℕ) → Text
words_before position = if position == 0 then codes " " else codes "\\\n "

-- the places from this position on
abbrev pub places_from : (position : ℕ) → List Text → Text
places_from position [] = []
places_from position (place ∷ places) =
    words_before position ++ place ++ places_from (position + 1) places

-- the rule
abbrev pub rule_text : (target : Text) → (places : List Text) → Text
rule_text target places = target ++ codes ":" ++ places_from 0 places
