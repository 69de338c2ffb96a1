-- What the descriptors that a run hands out hold of custom options, said of these descriptors
-- alone.
--
-- Custom options are extension fields of the options message of their construct. They stand there
-- as bytes, and are read as any message: by its fields, and by the extensions of it in the files at
-- hand (Protocol Buffers Language Guide (proto2), "Custom Options", https://protobuf.dev).
use Rattle.std.specs.Prelude.{◌≡◌, ℕ, true, Bool, false, List, map, filter, flat_map, bytes_eq}
use Rattle.std.specs.Prelude.{Option, Some, None, Result, Ok, Err}
use Rattle.std.specs.Global.{Vec}
use Rattle.protobuf_parse_syntax.specs.Trees.{FileSyntax}
use Rattle.protobuf_parse_model.specs.Descriptors.{Text, FileDescriptor, file_view}
use Rattle.protobuf_parse_model.specs.Faults.{Among}
use Rattle.protobuf_parse_model.specs.declared.descriptor.FileDescriptorProto.{FileDescriptorProto}
use Rattle.protobuf_parse_elaboration.specs.FilesByPath.{among}
use Rattle.protobuf_parse_elaboration.specs.OptionSets.{OptionSet, option_sets}
use Rattle.protobuf_parse_options.specs.CustomOptions.{denotes, scope_of}
use Rattle.protobuf_parse_options.specs.OptionFields.{options_message}
use Rattle.protobuf_parse_options.specs.Recovery.{HasCustom, HaveDistinctNumbers}
use Rattle.protobuf_parse_wire.specs.Law.{said}
use Rattle.protobuf_parse_wire.specs.Reading.{reader}
use Rattle.protobuf_parse_wire.specs.Trees.{Entries}
use Rattle.protobuf_parse_wire.specs.Wire.{Spells}
use Rattle.protobuf_parse_run.specs.Walks.{Input, Trees}
use Rattle.protobuf_parse_run.specs.Run.{FilesAreListed, HasTrees}
use Rattle.protobuf_parse_run.specs.StandingBytes.{held_in_file}
use Rattle.protobuf_parse_run.specs.declared.fault.RunFault.{RunFault}
use Rattle.protobuf_parse_run.specs.declared.log.ReadEntry.{ReadEntry}

-- the descriptor bears the path as its name
abbrev pub bears : Text → Option Text → Bool
bears path None = false
bears path (Some name) = bytes_eq path name

-- those of the descriptors that bear these paths
abbrev pub descriptors_of : List FileDescriptor → List Text → List FileDescriptor
descriptors_of ds paths =
    flat_map (λ (p : Text). filter (λ (d : FileDescriptor). bears p d.name) ds) paths

-- what the custom option statements of a construct denote, by the descriptors of the files that
-- its file reaches and of those that it sees
abbrev pub denoted_by : List FileDescriptor → (reached seen : List Text) → OptionSet → Entries
denoted_by ds reached seen s =
    denotes (scope_of (descriptors_of ds reached) (descriptors_of ds seen) s)
    s.construct s.statements

-- In a file with this path and descriptor, the options message of the construct, told by its kind
-- and its full name, holds bytes that spell what its custom option statements denote. And from a
-- `Vec` of these bytes the reader gives just those numbers and values, by the descriptors of all
-- that a file reaches, its own or any other that is handed out and reaches it, where numbers of
-- fields are distinct in these.
pub record IsReadable (ds : List FileDescriptor) (reached seen : Text → List Text) (p : Text)
    (d : FileDescriptor) (s : OptionSet) : Type 0 where
  pub bytes : Text
  pub stand : Among (held_in_file d)
      (record { construct = s.construct; name = s.name; bytes = bytes })
  pub spelled : Spells (denoted_by ds (reached p) (seen p) s) bytes
  pub read : (e : FileDescriptor) (q : Text) → Among ds e → e.name ≡ Some q
      → among p (reached q) ≡ true → HaveDistinctNumbers (descriptors_of ds (reached q))
      → (v : Vec ℕ) → v.items ≡ bytes
      → reader (descriptors_of ds (reached q)) (options_message s.construct) v.items
      ≡ Ok (said (denoted_by ds (reached p) (seen p) s))

-- The descriptor is that of a file with a tree, and so it is for each of its constructs that has a
-- custom option statement.
pub record HasReadableOptions (ds : List FileDescriptor) (trees : Trees)
    (reached seen : Text → List Text) (d : FileDescriptor) : Type 0 where
  pub path : Text
  pub is_named : d.name ≡ Some path
  pub tree : FileSyntax
  pub has_tree : trees path ≡ Some tree
  pub each : (s : OptionSet) → Among (option_sets tree) s → HasCustom s.statements
      → IsReadable ds reached seen path d s

-- So it is for each descriptor that a run hands out, where the texts that were read have these
-- trees, and their files reach and see these.
abbrev pub OptionsAreReadable : List Input → List (Text × Text) → List ReadEntry
    → Result (Vec FileDescriptorProto) RunFault → Type 0
OptionsAreReadable inputs bundled log (Ok handed) =
    (trees : Trees) (reached seen : Text → List Text)
    → HasTrees bundled log trees → FilesAreListed trees reached seen
    → (d : FileDescriptor) → Among (map file_view handed.items) d
    → HasReadableOptions (map file_view handed.items) trees reached seen d
OptionsAreReadable inputs bundled log (Err _) = Unit {0}
