-- What is told of a check: a line for each fault.
use Rattle.std.specs.Prelude.{◌≡◌, ◌⊎◌, ◌++◌, Bool, true, false, List, [], ◌∷◌, map, flat_map}
use Rattle.std.specs.Prelude.{Option, Some, None, codes, if◌then◌else◌, slice_get, string_bytes}
use Rattle.std.specs.Prelude.{option_map, unwrap_or}
use Rattle.std.specs.Borrow.{Bor}
use Rattle.std.specs.BTreeMap.{get_by}
use Rattle.std.specs.Cmp.Lexicographic.{slice_cmp}
use Rattle.std.specs.Ordering.{nat_cmp}
use Rattle.protobuf_parse_lexer.specs.declared.error.ParserErrorWithLocation.{ParserErrorWithLocation}
use Rattle.protobuf_parse_lexer.specs.declared.lexer.token.Place.{Place}
use Rattle.protobuf_parse_model.specs.Descriptors.{Text}
use Rattle.protobuf_parse_model.specs.declared.error.ElabError.{ElabError}
use Rattle.protobuf_parse_run.specs.declared.fault.RunFault.{RunFault}
use Rattle.protobuf_parse_run.specs.declared.fault.RunFault.TheVariants as run
use Rattle.protobuf_parse_run.specs.declared.fault.ReadInputFault.TheVariants as read
use Rattle.protobuf_parse_run.specs.declared.fault.ResolveFault.TheVariants as resolve
use Rattle.protobuf_parse_load.specs.declared.log.UnreadFile.{UnreadFile}
use Rattle.protobuf_parse_load.specs.declared.step.Asker.{Asker}
use Rattle.protobuf_parse_load.specs.declared.step.Asker.TheVariants as asker
use Rattle.protobuf_parse_load.specs.declared.step.LoadStep.{LoadStep}
use Rattle.protobuf_parse_load.specs.declared.step.LoadStep.TheVariants as step
use Rattle.protobuf_parse_load.specs.declared.step.Unfollowed.{Unfollowed}
use Rattle.protobuf_parse_load.specs.declared.step.Unfollowed.TheVariants as unfollowed
use Rattle.protobuf_parse_check.specs.declared.report.Check.{Check}
use Rattle.protobuf_parse_check.specs.declared.report.FileReport.{FileReport}
use Rattle.protobuf_parse_check.specs.declared.report.InputFault.{InputFault}
use Rattle.protobuf_parse_diagnostics.specs.Codes.{meaning_code_of, run_code_of, syntax_code_of}
use Rattle.protobuf_parse_diagnostics.specs.declared.diagnostic.Diagnostic.{Diagnostic}
use Rattle.protobuf_parse_diagnostics.specs.declared.diagnostic.Severity.TheVariants as severity
use Rattle.protobuf_parse_diagnostics.specs.declared.sources.Sources.{Sources}

-- ---- lines

-- a place in the file that people open by this path
pub record Spot : Type 0 where
  pub file : Text
  pub place : Place

-- The code of a fault, and where it stands, if it stands at a place. Where whoever reads files could
-- not read one, that may be since it is too long.
pub record Line : Type 0 where
  pub code : Text
  pub spot : Option Spot
  pub may_be_long : Bool

-- an error of this code
abbrev pub IsOfCode : Text → Diagnostic → Type 0
IsOfCode code d = (string_bytes d.code ≡ code) × (d.severity ≡ severity.Error)

-- there, if it stands at a place
abbrev pub IsAt : Option Spot → Diagnostic → Type 0
IsAt None d = Unit {0}
IsAt (Some s) d = (string_bytes d.file ≡ s.file) × (d.place ≡ Some s.place)

-- it says that a file is too long to be read: S20
abbrev pub IsTooLong : Bool → Diagnostic → Type 0
IsTooLong may_be_long d = (may_be_long ≡ true) × IsOfCode (codes "S20") d

-- this is told of the line: an error of its code where it stands; or that the file is too long
abbrev pub IsTold : Line → Diagnostic → Type 0
IsTold l d = (IsOfCode l.code d × IsAt l.spot d) ⊎ IsTooLong l.may_be_long d

-- these are told of the lines, one of each, in order
abbrev pub AreTold : List Line → List Diagnostic → Type 0
AreTold [] [] = Unit {0}
AreTold (l ∷ ls) (d ∷ ds) = IsTold l d × AreTold ls ds
AreTold _ _ = ⊥

-- the same line, with other words
pub record IsSameLine (old new : Diagnostic) : Type 0 where
  pub code : new.code ≡ old.code
  pub file : new.file ≡ old.file
  pub place : new.place ≡ old.place
  pub severity : new.severity ≡ old.severity

-- or what says that the file is too long
abbrev pub KeepsLine : Bool → (old new : Diagnostic) → Type 0
KeepsLine may_be_long old new = IsSameLine old new ⊎ IsTooLong may_be_long new

-- it says that whoever reads files could not read one
abbrev pub is_reading : RunFault → Bool
is_reading (run.CouldNotReadFile path read.Failed) = true
is_reading (run.Resolver path (resolve.CouldNotRead file)) = true
is_reading _ = false

-- ---- what a check tells

-- where the file of this proto path lies; where nothing was read for it, the path
abbrev pub origin_in : Sources → Text → Text
origin_in sources path = unwrap_or (option_map (λ (o : Bor Text). o.now)
    (get_by (λ (k : Bor Text). slice_cmp nat_cmp path k.now) sources.origins)) path

-- where the statement stands that asks, if one does
abbrev pub asker_spot : Sources → Asker → Option Spot
asker_spot sources (asker.Input n) = None
asker_spot sources (asker.Import file place) =
    Some (record { file = origin_in sources (string_bytes file); place = place })

-- Whether a fault of an unread file is told of what asks for it: no file is there. What else keeps a
-- file from being read, or parsed, is told of the file itself, once.
abbrev pub is_told_where_asked : RunFault → Bool
is_told_where_asked (run.FileNotFoundInImportPath path text) = true
is_told_where_asked (run.Resolver path why) = true
is_told_where_asked _ = false

-- of what asks for an unread file
abbrev pub missing_lines : Option Spot → Option UnreadFile → List Line
missing_lines at None = []
missing_lines at (Some f) = if is_told_where_asked f.fault then record {
  code = run_code_of f.fault;
  spot = at;
  may_be_long = is_reading f.fault;
} ∷ [] else []

-- of what asks for what can't be followed: L7 closes a cycle, L8 makes a chain too long
abbrev pub why_lines : List UnreadFile → Option Spot → Unfollowed → List Line
why_lines unread at (unfollowed.Unread n) = missing_lines at (slice_get unread n)
why_lines unread at unfollowed.Cycle =
    record { code = codes "L7"; spot = at; may_be_long = false } ∷ []
why_lines unread at (unfollowed.TooLong input) =
    record { code = codes "L8"; spot = at; may_be_long = false } ∷ []

-- of a step of the load
abbrev pub step_lines : Sources → List UnreadFile → LoadStep → List Line
step_lines sources unread (step.Told by path why) = why_lines unread (asker_spot sources by) why
step_lines sources unread _ = []

-- where a fault of a text stands
abbrev pub text_place : ParserErrorWithLocation → Place
text_place e = record { line = e.line; col = e.col }

-- of a file that is there, and can't be read or parsed: in a text at the place of its fault
abbrev pub file_line : Sources → UnreadFile → RunFault → Line
file_line sources f (run.Parse origin e) = record {
  code = syntax_code_of e.error;
  spot = Some (record { file = origin_in sources (string_bytes f.path); place = text_place e });
  may_be_long = false;
}
file_line sources f fault =
    record { code = run_code_of fault; spot = None; may_be_long = is_reading fault }

-- of a file that is not loaded
abbrev pub unread_lines : Sources → UnreadFile → List Line
unread_lines sources f =
    if is_told_where_asked f.fault then [] else file_line sources f f.fault ∷ []

-- of an input that is shadowed, or can't be read
abbrev pub clash_line : InputFault → Line
clash_line f =
    record { code = run_code_of f.fault; spot = None; may_be_long = is_reading f.fault }

-- of a fault of meaning in the file that lies there
abbrev pub meaning_line : Text → ElabError → Line
meaning_line file e = record {
  code = meaning_code_of e.kind;
  spot = Some (record { file = file; place = e.place });
  may_be_long = false;
}

-- of the report of a file
abbrev pub report_lines : Sources → FileReport → List Line
report_lines sources r = let file = origin_in sources (string_bytes r.path) in
    map (meaning_line file) r.repeats.items ++ map (meaning_line file) r.faults.items

-- Of a check: what can't be followed, what can't be read, inputs, and what stands in the files. The
-- sources tell where files lie.
abbrev pub check_lines : Sources → Check → List Line
check_lines sources c = flat_map (step_lines sources c.unread.items) c.steps.items
    ++ (flat_map (unread_lines sources) c.unread.items
    ++ (map clash_line c.clashes.items
    ++ flat_map (report_lines sources) c.files.items))
