-- What follows where no number of a field or an extension is in use already.
use Rattle.std.specs.Prelude.{◌≡◌, Bool, true, false, List, [], ◌∷◌, filter, ◌++◌, IsTrue, flat_map}
use Rattle.std.specs.Prelude.{bytes_eq}
use Rattle.std.specs.List.{list_any}
use Rattle.protobuf_parse_model.specs.Descriptors.{Text, FileDescriptor}
use Rattle.protobuf_parse_model.specs.Faults.{Among}
use Rattle.protobuf_parse_wire.specs.Declarations.{Declaration, messages_declared_in}
use Rattle.protobuf_parse_wire.specs.Declarations.{extensions_extending, have_distinct_numbers}
use Rattle.protobuf_parse_rules.specs.Rules.{Breach}
use Rattle.protobuf_parse_rules.specs.declared.rule.Rule.{Rule}
use Rattle.protobuf_parse_rules.specs.declared.rule.Rule.TheVariants as rule
use Rattle.protobuf_parse_rules.specs.Violations.{breaches}

-- whether a rule is C1
abbrev pub is_number_in_use : Rule → Bool
is_number_in_use (rule.NumberInUse n) = true
is_number_in_use (rule.NumberInUseElsewhere n) = true
is_number_in_use _ = false

-- none of these is C1
abbrev pub NoneIsInUse : List Breach → Type 0
NoneIsInUse bs = filter (λ (b : Breach). is_number_in_use b.broken.rule) bs ≡ []

-- no field and no extension in the files has a number that is in use
abbrev pub NoneInUse : List FileDescriptor → Type 0
NoneInUse files = NoneIsInUse (breaches files)

-- In each message that the files declare, its fields and the extensions of it have distinct
-- numbers.
abbrev pub AreApart : List FileDescriptor → Type 0
AreApart files = (d : Declaration) → Among (flat_map messages_declared_in files) d
    → IsTrue (have_distinct_numbers (d.parts.field ++ extensions_extending files d.name))

-- Then in each message its fields and the extensions of it have distinct numbers, as reading
-- options back asks for.
abbrev pub NumbersAreApart : Type 0
NumbersAreApart = (files : List FileDescriptor) → NoneInUse files → AreApart files

-- ---- some of the files, by their paths

-- whether the path is one of these
abbrev pub among : Text → List Text → Bool
among path paths = list_any (λ (x : Text). bytes_eq path x) paths

-- no path stands there twice
abbrev pub AreEachOnce : List Text → Type 0
AreEachOnce [] = Unit {0}
AreEachOnce (p ∷ ps) = (among p ps ≡ false) × AreEachOnce ps

-- each of the paths is one of the others
abbrev pub AreWithin : (paths others : List Text) → Type 0
AreWithin paths others = (p : Text) → among p paths ≡ true → among p others ≡ true

-- And so they have by the descriptors of some of these files, each taken once: of what one file of
-- a run reaches, where all files of the run were looked at.
abbrev pub SomeAreApart : Type 0
SomeAreApart = (at : Text → List FileDescriptor) (some all : List Text)
    → AreEachOnce some → AreWithin some all
    → NoneInUse (flat_map at all) → AreApart (flat_map at some)
