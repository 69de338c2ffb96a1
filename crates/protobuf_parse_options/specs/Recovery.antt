-- What the bytes of custom options are read as, where a file and all that it reaches are without
-- faults: the reader gives back what the statements denote.
--
-- Files are given by their paths. The reader goes by their descriptors without custom options.
use Rattle.std.specs.Prelude.{◌≡◌, ℕ, ◌<◌, ◌^◌, true, List, [], ◌∷◌, ◌++◌, flat_map, length, Some}
use Rattle.std.specs.Prelude.{Ok, IsTrue}
use Rattle.protobuf_parse_lexer.specs.Text.{Bytes}
use Rattle.protobuf_parse_syntax.specs.Trees.{OptionPartSyntax, custom, OptionSyntax, FileSyntax}
use Rattle.protobuf_parse_syntax.specs.Parsing.{HasTree}
use Rattle.protobuf_parse_model.specs.Descriptors.{Text, FileDescriptor}
use Rattle.protobuf_parse_model.specs.Faults.{Among}
use Rattle.protobuf_parse_model.specs.Environment.{no_customs}
use Rattle.protobuf_parse_model.specs.Linking.{link_faults}
use Rattle.protobuf_parse_elaboration.specs.FileDescriptor.{environment, file_faults}
use Rattle.protobuf_parse_elaboration.specs.FilesByPath.{Trees, among, trees_at}
use Rattle.protobuf_parse_elaboration.specs.OptionSets.{OptionSet, option_sets}
use Rattle.protobuf_parse_wire.specs.Declarations.{Declaration, messages_declared_in}
use Rattle.protobuf_parse_wire.specs.Declarations.{extensions_extending}
use Rattle.protobuf_parse_wire.specs.Declarations.{have_distinct_numbers}
use Rattle.protobuf_parse_wire.specs.Reading.{reader}
use Rattle.protobuf_parse_wire.specs.Law.{said}
use Rattle.protobuf_parse_options.specs.OptionFields.{options_message}
use Rattle.protobuf_parse_options.specs.CustomOptions.{denotes, scope_of}
use Rattle.protobuf_parse_options.specs.CustomFaults.{custom_option_faults}
use Rattle.protobuf_parse_options.specs.OptionBytes.{option_bytes}
use Rattle.protobuf_parse_options.specs.DescriptorsByPath.{Environments, descriptors_at, AreWithin}

-- from where each file is seen, its custom options left out, where these are the files that it sees
abbrev pub plainly : Trees → (Text → List Text) → Environments
plainly trees sees = λ p t. environment (trees_at trees (sees p)) no_customs t

-- the descriptors of files, their custom options left out
abbrev pub plain_at : Trees → (Text → List Text) → List Text → List FileDescriptor
plain_at trees sees paths = descriptors_at trees (plainly trees sees) paths

-- In each message that the files declare, its fields and the extensions of it have distinct
-- numbers.
abbrev pub HaveDistinctNumbers : List FileDescriptor → Type 0
HaveDistinctNumbers files =
    (d : Declaration) → Among (flat_map messages_declared_in files) d
    → IsTrue (have_distinct_numbers (d.parts.field ++ extensions_extending files d.name))

-- The files of the paths are without faults, their custom options left out, and see only files
-- among them. So are a file and all that it reaches, in a run that is accepted; but no fault is
-- told of numbers that aren't distinct.
pub record AreReachedFiles (trees : Trees) (sees : Text → List Text)
    (reached : List Text) : Type 0 where
  -- each has the tree of a text
  pub texts : (p : Text) (t : FileSyntax) → among p reached ≡ true → trees p ≡ Some t
      → (text : Bytes) × HasTree text t
  -- each sees only files among them
  pub sight : (p : Text) → among p reached ≡ true → AreWithin (sees p) reached
  -- no name is declared twice
  pub once : link_faults (trees_at trees reached) ≡ []
  -- no fault stands in any by itself
  pub faultless : (p : Text) (t : FileSyntax) → among p reached ≡ true → trees p ≡ Some t
      → file_faults (plainly trees sees p t) t ≡ []
  pub numbers : HaveDistinctNumbers (plain_at trees sees reached)

-- One of the statements sets a custom option.
abbrev pub HasCustom : List OptionSyntax → Type 0
HasCustom os =
    (o : OptionSyntax) × Among os o × (part : OptionPartSyntax) × (parts : List OptionPartSyntax)
    × (o.name ≡ custom (part ∷ parts))

-- Where no fault stands in the custom options of the file p, which reaches the files `reached`, the
-- bytes of a set that has some are read, by its options message and the descriptors of the files
-- `more`, as the numbers and values that its statements denote.
abbrev pub IsRecovered : Trees → (Text → List Text) → (reached more : List Text) → Text → FileSyntax
    → OptionSet → Type 0
IsRecovered trees sees reached more p t s =
    let files : List FileDescriptor = plain_at trees sees reached in
    let visible : List FileDescriptor = plain_at trees sees (sees p) in
    let bytes : List ℕ = option_bytes files visible s.construct s.scope s.statements in
    (trees p ≡ Some t
    → custom_option_faults files visible t ≡ []
    → Among (option_sets t) s → HasCustom s.statements
    → length bytes < 2 ^ 64
    → reader (plain_at trees sees more) (options_message s.construct) bytes
    ≡ Ok (said (denotes (scope_of files visible s) s.construct s.statements)))

-- So they are by the descriptors of all that a file reaches, for each file that is among these;
-- what this file reaches itself is among them, too.
abbrev pub OptionsAreRecoveredAbove : Type 0
OptionsAreRecoveredAbove =
    (trees : Trees) (sees : Text → List Text) (reached more : List Text) (p : Text) (t : FileSyntax)
    (s : OptionSet)
    → AreReachedFiles trees sees more → AreWithin reached more → among p more ≡ true
    → IsRecovered trees sees reached more p t s

-- In particular they are by the descriptors of what the file itself reaches.
abbrev pub OptionsAreRecovered : Type 0
OptionsAreRecovered =
    (trees : Trees) (sees : Text → List Text) (reached : List Text) (p : Text) (t : FileSyntax)
    (s : OptionSet)
    → AreReachedFiles trees sees reached → among p reached ≡ true
    → IsRecovered trees sees reached reached p t s

-- A set that has none becomes no bytes.
abbrev pub BuiltinOptionsAreNoBytes : Type 0
BuiltinOptionsAreNoBytes =
    (files visible : List FileDescriptor) (s : OptionSet)
    → (HasCustom s.statements → ⊥)
    → option_bytes files visible s.construct s.scope s.statements ≡ []
