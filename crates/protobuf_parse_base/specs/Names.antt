-- Names of the Protocol Buffers language. An identifier is a list of bytes, and a name path is a
-- list of identifiers. An absolute path writes a dot before each, a relative path writes dots
-- between them.
use Rattle.std.specs.Prelude.{ℕ, ◌==◌, ◌&&◌, ◌||◌, ◌≡◌, not, nat_lt, Bool, true, List, [], ◌∷◌}
use Rattle.std.specs.Prelude.{◌++◌, length, map, IsTrue}
use Rattle.std.specs.List.{list_all, slice_split}
use Rattle.protobuf_parse_base.specs.Characters as char

-- a byte that an identifier may hold: any but `/`, `.`, `:`, `(` and `)`
abbrev pub is_ident_byte : ℕ → Bool
is_ident_byte b = not (b == char.slash || b == char.dot || b == char.colon || b == char.open_paren
    || b == char.close_paren)

-- an identifier: a nonempty text of such bytes
abbrev pub is_ident : List ℕ → Bool
is_ident text = nat_lt 0 (length text) && list_all is_ident_byte text

-- each member of the list is an identifier, so that the list is a name path
abbrev pub are_idents : List (List ℕ) → Bool
are_idents ids = list_all is_ident ids

-- the text of an absolute path
abbrev pub absolute_text : List (List ℕ) → List ℕ
absolute_text [] = []
absolute_text (id ∷ ids) = char.dot ∷ (id ++ absolute_text ids)

-- the text of a relative path
abbrev pub relative_text : List (List ℕ) → List ℕ
relative_text [] = []
relative_text (id ∷ ids) = id ++ absolute_text ids

-- a text is an absolute path if it is the text of some identifiers; likewise a relative one
abbrev pub IsAbsolute : List ℕ → Type 0
IsAbsolute text = (ids : List (List ℕ)) × (IsTrue (are_idents ids)) × (text ≡ absolute_text ids)

-- the empty text, which has no identifiers, is a relative path too
abbrev pub IsRelative : List ℕ → Type 0
IsRelative text = (ids : List (List ℕ)) × (IsTrue (are_idents ids)) × (text ≡ relative_text ids)

-- what stands between the dots of a text
abbrev pub dotted_parts : List ℕ → List (List ℕ)
dotted_parts text = slice_split (λ b. b == char.dot) text

-- the identifiers of a text that is a relative path
abbrev pub relative_idents : List ℕ → List (List ℕ)
relative_idents [] = []
relative_idents (b ∷ bs) = dotted_parts (b ∷ bs)

-- the identifiers of a text that is an absolute path
abbrev pub absolute_idents : List ℕ → List (List ℕ)
absolute_idents [] = []
absolute_idents (b ∷ bs) = dotted_parts bs

-- the same two facts as tests: `is_rel` and `try_new` say that they are the facts above
abbrev pub is_relative : List ℕ → Bool
is_relative text = are_idents (relative_idents text)

-- whether a text is an absolute path
abbrev pub is_absolute : List ℕ → Bool
is_absolute [] = true
is_absolute (b ∷ bs) = (b == char.dot) && are_idents (dotted_parts bs)

-- the weak test: a text is empty, or begins with a dot and goes on
abbrev pub looks_absolute : List ℕ → Bool
looks_absolute [] = true
looks_absolute (b ∷ bs) = (b == char.dot) && nat_lt 0 (length bs)

-- every front of a list once, the whole list first and the empty one last
abbrev pub fronts : {X : Type 0} → List X → List (List X)
fronts [] = [] ∷ []
fronts (x ∷ xs) = map (λ front. x ∷ front) (fronts xs) ++ ([] ∷ [])
