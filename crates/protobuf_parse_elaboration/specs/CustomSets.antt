-- The custom options of a file, by its sets of options: what they add to its faults, and to its
-- descriptor.
--
-- A custom option is one whose name is not a single direct part: as a rule a part of it stands in
-- parentheses (Protocol Buffers Language Specification, "Option"; Protocol Buffers Language Guide,
-- "Custom Options"). It stands in one of the file's sets of options, and its name is looked up from
-- the scope of that set alone. So all that is wrong in a file is wrong besides custom options or in
-- one of its sets, and its descriptor holds no bytes of custom options but those of its sets.
use Rattle.std.specs.Prelude.{◌≡◌, ◌⊎◌, ◌↔◌, Bool, true, false, List, [], flat_map}
use Rattle.std.specs.List.{list_any}
use Rattle.protobuf_parse_syntax.specs.Trees.{OptionNameSyntax, OptionSyntax, builtin, custom}
use Rattle.protobuf_parse_syntax.specs.Trees.{FileSyntax}
use Rattle.protobuf_parse_model.specs.Descriptors.{Text}
use Rattle.protobuf_parse_model.specs.Faults.{Among, Fault}
use Rattle.protobuf_parse_model.specs.Environment.{Customs, no_customs}
use Rattle.protobuf_parse_elaboration.specs.FileDescriptor.{environment, file_of, file_faults}
use Rattle.protobuf_parse_elaboration.specs.OptionSets.{OptionSet, option_sets}

-- whether an option is custom, by its name
abbrev pub is_custom_name : OptionNameSyntax → Bool
is_custom_name (builtin name) = false
is_custom_name (custom parts) = true

-- whether an option is custom
abbrev pub is_custom : OptionSyntax → Bool
is_custom o = is_custom_name o.name

-- whether a custom option is among those of a set
abbrev pub sets_custom : OptionSet → Bool
sets_custom s = list_any is_custom s.statements

-- what is wrong in the custom options of a set
abbrev pub faults_of_set : Customs → OptionSet → List Fault
faults_of_set customs s = customs.faults s.construct s.scope s.statements

-- the bytes that they become
abbrev pub bytes_of_set : Customs → OptionSet → Text
bytes_of_set customs s = customs.bytes s.construct s.scope s.statements

-- all that is wrong in the custom options of a file
abbrev pub faults_of_sets : Customs → FileSyntax → List Fault
faults_of_sets customs t = flat_map (faults_of_set customs) (option_sets t)

-- ---- the laws: of any file, whatever files it sees

-- Just those faults stand in a file that stand there besides custom options, or in a set of its
-- options.
abbrev pub FaultsAreOfSets : Type 0
FaultsAreOfSets = (seen : List FileSyntax) (customs : Customs) (t : FileSyntax) (f : Fault)
    → Among (file_faults (environment seen customs t) t) f ↔
    (Among (file_faults (environment seen no_customs t) t) f ⊎ Among (faults_of_sets customs t) f)

-- None stands in it just where none stands there besides custom options, and none in any set.
abbrev pub NoneIsNoneInSets : Type 0
NoneIsNoneInSets = (seen : List FileSyntax) (customs : Customs) (t : FileSyntax)
    → (file_faults (environment seen customs t) t ≡ [])
    ↔ ((file_faults (environment seen no_customs t) t ≡ [])
    × ((s : OptionSet) → Among (option_sets t) s → faults_of_set customs s ≡ []))

-- Where the custom options of each set become the same bytes, the file becomes the same.
abbrev pub BytesAreOfSets : Type 0
BytesAreOfSets = (seen : List FileSyntax) (one other : Customs) (path : Text) (t : FileSyntax)
    → ((s : OptionSet) → Among (option_sets t) s → bytes_of_set one s ≡ bytes_of_set other s)
    → file_of (environment seen one t) path t ≡ file_of (environment seen other t) path t
