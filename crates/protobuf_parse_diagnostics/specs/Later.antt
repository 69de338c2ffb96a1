-- What is told of a text that has no tree behind its first fault: a line for each other one.
use Rattle.std.specs.Prelude.{◌≡◌, ◌++◌, false, List, [], ◌∷◌, drop, map, Option, Some, None}
use Rattle.std.specs.Prelude.{option_and_then, option_map, slice_get, string_bytes}
use Rattle.std.specs.BTreeMap.{get_by}
use Rattle.std.specs.Borrow.{Bor}
use Rattle.std.specs.Cmp.Lexicographic.{slice_cmp}
use Rattle.std.specs.Ordering.{nat_cmp}
use Rattle.protobuf_parse_lexer.specs.declared.error.ParserErrorWithLocation.{ParserErrorWithLocation}
use Rattle.protobuf_parse_model.specs.Descriptors.{Text}
use Rattle.protobuf_parse_recovery.specs.Recovery.{ReadsOn}
use Rattle.protobuf_parse_run.specs.declared.fault.RunFault.{RunFault}
use Rattle.protobuf_parse_run.specs.declared.fault.RunFault.TheVariants as run
use Rattle.protobuf_parse_load.specs.declared.log.UnreadFile.{UnreadFile}
use Rattle.protobuf_parse_diagnostics.specs.Codes.{syntax_code_of}
use Rattle.protobuf_parse_diagnostics.specs.Told.{AreTold, Line, origin_in, text_place}
use Rattle.protobuf_parse_diagnostics.specs.declared.diagnostic.Diagnostic.{Diagnostic}
use Rattle.protobuf_parse_diagnostics.specs.declared.sources.Source.{Source}
use Rattle.protobuf_parse_diagnostics.specs.declared.sources.Sources.{Sources}

-- the text of the file of this proto path, if one was read
abbrev pub text_in : Sources → (path : Text) → Option Text
text_in sources path = option_map (λ (s : Source). s.text.now)
    (option_and_then (slice_get sources.files.items)
    (get_by (λ (k : Bor Text). slice_cmp nat_cmp path k.now) sources.by_path))

-- the text of a file that has this fault, which is one of its syntax
abbrev pub faulty_text : Sources → UnreadFile → RunFault → Option Text
faulty_text sources f (run.Parse origin e) = text_in sources (string_bytes f.path)
faulty_text sources f _ = None

-- a fault of a text, in the file that people open by this path
abbrev pub fault_line : (origin : Text) → ParserErrorWithLocation → Line
fault_line origin e = record {
  code = syntax_code_of e.error;
  spot = Some (record { file = origin; place = text_place e });
  may_be_long = false;
}

-- these are told of the faults of the text behind the first one
pub record AreBehindFirst (text origin : Text) (told : List Diagnostic) : Type 0 where
  pub faults : List ParserErrorWithLocation
  pub found : ReadsOn 20 text faults
  pub each : AreTold (map (fault_line origin) (drop 1 faults)) told

-- and nothing where there is no such text
abbrev pub AreLaterOf : Option Text → (origin : Text) → List Diagnostic → Type 0
AreLaterOf None origin told = told ≡ []
AreLaterOf (Some text) origin told = AreBehindFirst text origin told

-- these are told of unread files, one after another
abbrev pub AreLater : Sources → List UnreadFile → List Diagnostic → Type 0
AreLater sources [] told = told ≡ []
AreLater sources (f ∷ fs) told =
    (own : List Diagnostic) × ((others : List Diagnostic) × ((told ≡ own ++ others)
    × (AreLaterOf (faulty_text sources f f.fault) (origin_in sources (string_bytes f.path)) own
    × AreLater sources fs others)))
