-- What stands in the descriptors of an accepted run for custom options, and what is read back from
-- it by one who knows these descriptors alone.
--
-- An options message is read as any message: by the fields of it, and by the extensions of it in
-- the files at hand (Protocol Buffers Language Guide (proto2), "Custom Options",
-- https://protobuf.dev).
use Rattle.std.specs.Prelude.{◌≡◌, ◌≤◌, ℕ, true, List, [], Option, Some, Result, Ok, Err}
use Rattle.std.specs.Global.{Vec}
use Rattle.protobuf_parse_syntax.specs.Trees.{FileSyntax}
use Rattle.protobuf_parse_model.specs.Descriptors.{Text, FileDescriptor}
use Rattle.protobuf_parse_model.specs.Faults.{Among}
use Rattle.protobuf_parse_model.specs.Linking.{link_faults}
use Rattle.protobuf_parse_model.specs.declared.descriptor.FileDescriptorProto.{FileDescriptorProto}
use Rattle.protobuf_parse_elaboration.specs.CustomSets.{bytes_of_set}
use Rattle.protobuf_parse_elaboration.specs.FilesByPath.{among, trees_at}
use Rattle.protobuf_parse_elaboration.specs.OptionSets.{OptionSet, option_sets}
use Rattle.protobuf_parse_options.specs.CustomOptions.{denotes, scope_of}
use Rattle.protobuf_parse_options.specs.DescriptorsByPath.{descriptors_at, AreWithin}
use Rattle.protobuf_parse_wire.specs.Law.{said, depth}
use Rattle.protobuf_parse_options.specs.OptionFields.{options_message}
use Rattle.protobuf_parse_wire.specs.Reading.{reader}
use Rattle.protobuf_parse_options.specs.Recovery.{HasCustom, HaveDistinctNumbers}
use Rattle.protobuf_parse_wire.specs.Trees.{Entries}
use Rattle.protobuf_parse_wire.specs.Wire.{Spells}
use Rattle.protobuf_parse_run.specs.Walks.{Input}
use Rattle.protobuf_parse_run.specs.Run.{Files, FilesAreListed, HasTrees, customs_of}
use Rattle.protobuf_parse_run.specs.Run.{environment_of}
use Rattle.protobuf_parse_run.specs.Stability.{order}
use Rattle.protobuf_parse_run.specs.declared.fault.RunFault.{RunFault}
use Rattle.protobuf_parse_run.specs.declared.log.ReadEntry.{ReadEntry}

-- the descriptors of these files, with all their options, as the run hands them out
abbrev pub handed_out : Files → List Text → List FileDescriptor
handed_out files ps = descriptors_at files.trees (environment_of files) ps

-- the bytes that stand in the descriptor of the file p for the custom options of a construct
abbrev pub bytes_in : Files → Text → OptionSet → List ℕ
bytes_in files p s = bytes_of_set (customs_of files p) s

-- what its statements denote, by the files that p reaches and those that it sees
abbrev pub denoted_in : Files → Text → OptionSet → Entries
denoted_in files p s =
    denotes (scope_of (handed_out files (files.reached p)) (handed_out files (files.seen p)) s)
    s.construct s.statements

-- From a `Vec` of these bytes, as the one in p's descriptor, the reader gives the numbers and the
-- values that the statements denote, by the construct's options message and the descriptors of
-- these files.
abbrev pub IsReadBack : Files → (by_files : List Text) → Text → OptionSet → Type 0
IsReadBack files by_files p s =
    (bytes : Vec ℕ) → bytes.items ≡ bytes_in files p s
    → reader (handed_out files by_files) (options_message s.construct) bytes.items
    ≡ Ok (said (denoted_in files p s))

-- In the descriptors of these files numbers of fields are distinct.
abbrev pub AreNumberedApart : Files → List Text → Type 0
AreNumberedApart files by_files = HaveDistinctNumbers (handed_out files by_files)

-- These are files of the run, with all that each of them reaches, and together they declare no full
-- name twice.
pub record AreFilesTogether (files : Files) (run by_files : List Text) : Type 0 where
  pub of_run : AreWithin by_files run
  pub whole : (q : Text) → among q by_files ≡ true → AreWithin (files.reached q) by_files
  pub once : link_faults (trees_at files.trees by_files) ≡ []

-- What stands in p's descriptor for the custom options of a construct, where these are the files of
-- the run.
pub record HoldsOptions (files : Files) (run : List Text) (p : Text) (s : OptionSet) : Type 0 where
  -- bytes that spell what its statements denote
  pub spelled : Spells (denoted_in files p s) (bytes_in files p s)
  -- none, where no custom option is set
  pub nothing : (HasCustom s.statements → ⊥) → bytes_in files p s ≡ []
  -- What they denote has at most 200 messages inside one another, as any reader goes that deep.
  pub shallow : depth (denoted_in files p s) ≤ 200
  -- Where one is set they are read back by the files that p reaches, and so by those that any other
  -- file of the run reaches which reaches p. Asked for is that numbers of fields are distinct
  -- there.
  pub read : HasCustom s.statements → (q : Text) → among q run ≡ true
      → among p (files.reached q) ≡ true → AreNumberedApart files (files.reached q)
      → IsReadBack files (files.reached q) p s
  -- And so by the files of several inputs together, as by all files of the run, where they declare
  -- no full name twice: of files that don't reach one another no run asks that.
  pub read_together : HasCustom s.statements → (by_files : List Text)
      → AreFilesTogether files run by_files
      → among p by_files ≡ true → AreNumberedApart files by_files
      → IsReadBack files by_files p s

-- So it is for each construct of an accepted run's files whose options can be set.
abbrev pub OptionsAreHeld : List Input → List (Text × Text) → List ReadEntry
    → Result (Vec FileDescriptorProto) RunFault → Type 0
OptionsAreHeld inputs bundled log (Ok _) =
    (trees : Text → Option FileSyntax) (reached seen : Text → List Text)
    → HasTrees bundled log trees → FilesAreListed trees reached seen
    → (p : Text) (t : FileSyntax) (s : OptionSet)
    → among p (order trees inputs) ≡ true → trees p ≡ Some t → Among (option_sets t) s
    → HoldsOptions
    (record { bundled = bundled; reads = log; trees = trees; reached = reached; seen = seen })
    (order trees inputs) p s
OptionsAreHeld inputs bundled log (Err _) = Unit {0}
