-- How an input gets its proto path: the first include that is a front of it is taken off.
use Rattle.std.specs.Prelude.{◌≡◌, Bool, true, false, not, ℕ, List, [], ◌∷◌, ◌++◌, codes, flat_map}
use Rattle.std.specs.Prelude.{map, Option, Some, None, find, if◌then◌else◌, bytes_eq}
use Rattle.std.specs.Prelude.{string_bytes}
use Rattle.std.specs.Borrow.{Bor}
use Rattle.protobuf_parse_base.specs.Paths.{joined, kept_parts, starts_with_slash, host_path_fault}
use Rattle.protobuf_parse_base.specs.declared.proto_path.error.PathError.{PathError}
use Rattle.protobuf_parse_model.specs.Descriptors.{Text}
use Rattle.protobuf_parse_run.specs.declared.fault.RunFault.{RunFault}
use Rattle.protobuf_parse_run.specs.declared.fault.RunFault.TheVariants as fault

-- What an input is called: it resides in no include, or what is left of it is no proto path, or its
-- proto path.
pub data Naming : Type 0 where
  outside : Naming
  unnamed : PathError → Naming
  named_as : Text → Naming

-- The parts of a path are what stands between its slashes, without the empty ones and `.`:
-- `kept_parts`. These are what follows the parts of a front.
abbrev pub parts_after : List Text → List Text → Option (List Text)
parts_after [] parts = Some parts
parts_after (first ∷ front) [] = None
parts_after (first ∷ front) (part ∷ parts) =
    if bytes_eq first part then parts_after front parts else None

-- both paths are absolute, or neither is
abbrev pub are_alike : Bool → Bool → Bool
are_alike true absolute = absolute
are_alike false absolute = not absolute

-- the input's parts that are left, where the include is a front of it
abbrev pub left_by : Text → Text → Option (List Text)
left_by include input =
    if are_alike (starts_with_slash include) (starts_with_slash input)
    then parts_after (kept_parts include) (kept_parts input)
    else None

-- the first include that is a front decides
abbrev pub left_first : Option (List Text) → Option (List Text) → Option (List Text)
left_first (Some parts) later = Some parts
left_first None later = later

-- what is left of the input, where one of the includes is a front of it
abbrev pub left_of : List Text → Text → Option (List Text)
left_of [] input = None
left_of (include ∷ includes) input = left_first (left_by include input) (left_of includes input)

-- and what is left is read as a path of the host
abbrev pub naming_unless : Option PathError → Text → Naming
naming_unless (Some why) text = unnamed why
naming_unless None text = named_as text

-- what is left, as a path of the host, is to be a proto path
abbrev pub naming_of_rest : Option (List Text) → Naming
naming_of_rest None = outside
naming_of_rest (Some parts) =
    naming_unless (host_path_fault (joined parts)) (joined (kept_parts (joined parts)))

-- what an input is called, where these are the includes
abbrev pub naming_of : List Text → Text → Naming
naming_of includes input = naming_of_rest (left_of includes input)

-- ---- parts as slices of a text

-- what the parts say, without where they lie in memory
abbrev pub part_views : List (Bor (List ℕ)) → List Text
part_views parts = map (λ (p : Bor (List ℕ)). p.now) parts

-- ---- as faults list includes: `["a", "b"]`, each as it was given

-- an include in double quotes
abbrev pub quoted_include : Text → Text
quoted_include include = codes "\"" ++ include ++ codes "\""

-- and one that is not the first
abbrev pub next_include : Text → Text
next_include include = codes ", " ++ quoted_include include

-- all of them, without the brackets
abbrev pub includes_between : List Text → Text
includes_between [] = []
includes_between (include ∷ includes) = quoted_include include ++ flat_map next_include includes

-- the whole list
abbrev pub includes_text : List Text → Text
includes_text includes = codes "[" ++ includes_between includes ++ codes "]"

-- ---- which fault stands for an input

-- either fault names the input as it was given; one lists the includes, the other says why what
-- is left is no proto path
abbrev pub StandsAtInput : List Text → Text → RunFault → Type 0
StandsAtInput includes input (fault.FileMustResideInImportPath path listed) =
    (string_bytes path ≡ input) × (string_bytes listed ≡ includes_text includes)
    × (naming_of includes input ≡ outside)
StandsAtInput includes input (fault.InputPath path why) =
    (string_bytes path ≡ input) × (naming_of includes input ≡ unnamed why)
StandsAtInput includes input _ = ⊥

-- whether an input gets no proto path
abbrev pub is_unnamed : Naming → Bool
is_unnamed (named_as text) = false
is_unnamed _ = true

-- the fault stands for the first input that gets no proto path
abbrev pub StandsAtFirst : List Text → List Text → RunFault → Type 0
StandsAtFirst includes inputs f =
    (input : Text) × (find (λ (i : Text). is_unnamed (naming_of includes i)) inputs ≡ Some input)
    × StandsAtInput includes input f

-- each input has its proto path, in order
abbrev pub AreNamed : List Text → List Text → List Text → Type 0
AreNamed includes inputs names = map (naming_of includes) inputs ≡ map named_as names
