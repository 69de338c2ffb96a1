-- No public clause rests on this file.
-- What the command tells of a check, and which files it goes on with.
use Rattle.std.specs.Prelude.{◌≡◌, ◌++◌, ℕ, Bool, List, [], ◌∷◌, filter, map, Result, Ok}
use Rattle.std.specs.declared.alloc.AllocError.{AllocError}
use Rattle.protobuf_parse_base.specs.declared.proto_path.path.ProtoPathBuf.{ProtoPathBuf}
use Rattle.protobuf_parse_rules.specs.declared.violation.Violation.{Violation}
use Rattle.protobuf_parse_text_rules.specs.declared.violation.TextViolation.{TextViolation}
use Rattle.protobuf_parse_check.specs.declared.report.Check.{Check}
use Rattle.protobuf_parse_diagnostics.specs.Arranged.{IsArranged}
use Rattle.protobuf_parse_diagnostics.specs.Broken.{AreViolationsTold, told_at_level}
use Rattle.protobuf_parse_diagnostics.specs.Later.{AreLater}
use Rattle.protobuf_parse_diagnostics.specs.Texts.{IsTextTold}
use Rattle.protobuf_parse_diagnostics.specs.Told.{AreTold, check_lines}
use Rattle.protobuf_parse_diagnostics.specs.declared.diagnostic.Diagnostic.{Diagnostic}
use Rattle.protobuf_parse_diagnostics.specs.declared.rules.RuleLevel.{RuleLevel}
use Rattle.protobuf_parse_diagnostics.specs.declared.sources.Sources.{Sources}
use Rattle.protobuf_parse_command.specs.declared.check.Checked.{Checked}
use Rattle.protobuf_parse_command.specs.Sound.{descriptor_in, is_sound}

-- What is told of rules at this level: one of each of some violations.
pub record AreRulesTold (at : RuleLevel) (told : List Diagnostic) : Type 0 where
  pub violations : List Violation
  pub each : AreViolationsTold at (told_at_level at violations) told

-- A rule of texts is told at this level: of one violation, in the file that lies somewhere.
pub record IsTextRuleTold (at : RuleLevel) (told : Diagnostic) : Type 0 where
  pub origin : List ℕ
  pub violation : TextViolation
  pub says : IsTextTold at origin violation told

-- All of these tell rules of texts.
abbrev pub AreTextRulesTold : RuleLevel → List Diagnostic → Type 0
AreTextRulesTold at [] = Unit {0}
AreTextRulesTold at (d ∷ ds) = IsTextRuleTold at d × AreTextRulesTold at ds

-- The check was done. Told is what was told before it, each of its faults, those behind the first of
-- each text that has no tree, and violations: those of texts, of files that are not sound, of sound
-- ones, and of the names and constants of these. All is put in order; the files are the sound ones.
pub record IsChecked (eq : Diagnostic → Diagnostic → Bool) (at : RuleLevel)
    (before : List Diagnostic) (inputs : List ProtoPathBuf) (result : Result Check AllocError)
    (checked : Checked) : Type 0 where
  pub check : Check
  pub done : result ≡ Ok check
  pub sources : Sources
  pub faults : List Diagnostic
  pub faults_told : AreTold (check_lines sources check) faults
  pub later : List Diagnostic
  pub later_told : AreLater sources check.unread.items later
  pub texts : List Diagnostic
  pub texts_told : AreTextRulesTold at texts
  pub unsound : List Diagnostic
  pub unsound_told : AreRulesTold at unsound
  pub rules : List Diagnostic
  pub rules_told : AreRulesTold at rules
  pub names : List Diagnostic
  pub names_told : AreTextRulesTold at names
  pub told : IsArranged eq
      ((((((before ++ faults) ++ later) ++ texts) ++ unsound) ++ rules) ++ names)
      checked.told.items
  pub files : checked.files.items ≡ map descriptor_in (filter is_sound check.files.items)
  pub named : checked.inputs.items ≡ inputs
