-- What a parser over real files was given, and what it promises.
use Rattle.std.specs.Prelude.{◌≡◌, ◌⊎◌, List, [], ◌∷◌, Bool, false, codes, filter, map, Option}
use Rattle.std.specs.Prelude.{Some, None, option_map, Result, Ok, Err, bytes_eq, string_bytes}
use Rattle.std.specs.Prelude.{if◌then◌else◌}
use Rattle.std.specs.List.{list_any}
use Rattle.std.specs.Global.{Vec}
use Rattle.protobuf_parse_base.specs.PathViews.{path_buf_text}
use Rattle.protobuf_parse_model.specs.Descriptors.{Text}
use Rattle.protobuf_parse_model.specs.declared.descriptor.FileDescriptorProto.{FileDescriptorProto}
use Rattle.protobuf_parse_model.specs.declared.descriptor.FileDescriptorSet.{FileDescriptorSet}
use Rattle.protobuf_parse.specs.declared.parser.builder.Parser.{Parser}
use Rattle.protobuf_parse.specs.declared.parser.builder.ParsedAndTypechecked.{ParsedAndTypechecked}
use Rattle.protobuf_parse_google.specs.Google.{google}
use Rattle.protobuf_parse_run.specs.declared.fault.RunFault.{RunFault}
use Rattle.protobuf_parse_run.specs.Walks.{Input, at}
use Rattle.protobuf_parse_run.specs.Run.{MayRead, OrMemory, shipped}
use Rattle.protobuf_parse_run.specs.Shipped.{RunsWithTable}
use Rattle.protobuf_parse.specs.Includes.{AreNamed, StandsAtFirst}
use Rattle.protobuf_parse.specs.Folders.{MayFind}

-- the includes and the inputs of a parser, in the order of adding
abbrev pub includes_of : Parser → List Text
includes_of parser = map string_bytes parser.includes.items

-- the paths of the inputs, as they were added
abbrev pub inputs_of : Parser → List Text
inputs_of parser = map string_bytes parser.inputs.items

-- the files that stand where no include has one: Google's, where the parser was asked for them, or
-- else those that a run brings
abbrev pub bundled_of : Parser → List (Text × Text)
bundled_of parser = if parser.google_files then google else shipped

-- the same includes, inputs and bundled files
abbrev pub IsSameParser : Parser → Parser → Type 0
IsSameParser old new =
    (includes_of new ≡ includes_of old) × (inputs_of new ≡ inputs_of old)
    × (bundled_of new ≡ bundled_of old)

-- ---- a run over real files

-- each input at its own path, by its proto path
abbrev pub inputs_at : List Text → List Text → List Input
inputs_at (name ∷ names) (path ∷ paths) = at name path ∷ inputs_at names paths
inputs_at _ _ = []

-- a reader of files may give any answer
abbrev pub MayReadAnything : MayRead
MayReadAnything own answer = Unit {0}

-- A run over these inputs by these names, whose imports are found in these includes and among
-- these bundled files.
abbrev pub RunsOverFolders : List (Text × Text) → List Text → List Text → List Text
    → Result (Vec FileDescriptorProto) RunFault → Type 0
RunsOverFolders bundled includes inputs names result =
    RunsWithTable (MayFind includes) MayReadAnything bundled (inputs_at names inputs) result

-- No descriptors: memory ran out, or the fault stands for the first input that gets no proto path,
-- or each input gets its proto path and the run over them ended with the fault.
abbrev pub TellsFault : List (Text × Text) → List Text → List Text → RunFault → Type 0
TellsFault bundled includes inputs f =
    OrMemory f (StandsAtFirst includes inputs f
    ⊎ ((names : List Text) × AreNamed includes inputs names
    × RunsOverFolders bundled includes inputs names (Err f)))

-- each input has its proto path, and these are the descriptors of the run over them
pub record IsParsed (bundled : List (Text × Text)) (includes inputs : List Text)
    (parsed : ParsedAndTypechecked) : Type 0 where
  pub named : AreNamed includes inputs (map path_buf_text parsed.relative_paths.items)
  pub run : RunsOverFolders bundled includes inputs (map path_buf_text parsed.relative_paths.items)
      (Ok parsed.file_descriptors)
  pub parser : string_bytes parsed.parser ≡ codes "pure"

-- ---- the descriptors of the inputs alone

-- whether the name is one of these
abbrev pub is_name_among : List Text → Option Text → Bool
is_name_among names None = false
is_name_among names (Some name) = list_any (λ (n : Text). bytes_eq n name) names

-- whether the descriptor is that of an input, by its name
abbrev pub is_of_input : List Text → FileDescriptorProto → Bool
is_of_input names file = is_name_among names (option_map string_bytes file.name)

-- just the descriptors whose name is an input's proto path, in order
abbrev pub IsSetOfInputs : List (Text × Text) → List Text → List Text → FileDescriptorSet → Type 0
IsSetOfInputs bundled includes inputs set =
    (parsed : ParsedAndTypechecked) × IsParsed bundled includes inputs parsed
    × (set.file.items ≡ filter (is_of_input (map path_buf_text parsed.relative_paths.items))
    parsed.file_descriptors.items)
