-- No public clause rests on this file.
-- How many of many ranges have a number, by their first and their last numbers alone.
use Rattle.std.specs.Prelude.{◌≡◌, ◌≤◌, ◌+◌, ℕ, ℤ, Bool, not, int_lt, List}
use Rattle.std.specs.List.{count_by}
use Rattle.protobuf_parse_model.specs.Descriptors.{EnumValueDescriptor, Range}

-- how many begin at the number or before it
abbrev pub begun : ℤ → List ℤ → ℕ
begun n firsts = count_by (λ first. not (int_lt n first)) firsts

-- how many end before the number
abbrev pub ended : ℤ → List ℤ → ℕ
ended n lasts = count_by (λ last. int_lt last n) lasts

-- Each number lies in as many of the ranges as begin at it or before it and don't end before it.
abbrev pub AreEnds : {X : Type 0} → (has : ℤ → X → Bool) → List X → (firsts lasts : List ℤ) → Type 0
AreEnds has ranges firsts lasts =
    (n : ℤ) → count_by (has n) ranges + ended n lasts ≡ begun n firsts

abbrev pub AreApart : (firsts lasts : List ℤ) → Type 0
AreApart firsts lasts = (n : ℤ) → ended n lasts ≤ begun n firsts

-- a value's number as a range by itself
abbrev pub point_of : EnumValueDescriptor → Range
point_of v = record { start = v.number; end = v.number }
