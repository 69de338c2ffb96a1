-- What is told of violations of the rules of texts: one of each, at its place.
use Rattle.std.specs.Prelude.{◌≡◌, ℕ, List, [], ◌∷◌, Some, string_bytes, if◌then◌else◌}
use Rattle.protobuf_parse_text_rules.specs.Codes.{code_of, is_warning}
use Rattle.protobuf_parse_text_rules.specs.declared.rule.TextRule.{TextRule}
use Rattle.protobuf_parse_text_rules.specs.declared.violation.TextViolation.{TextViolation}
use Rattle.protobuf_parse_diagnostics.specs.declared.diagnostic.Diagnostic.{Diagnostic}
use Rattle.protobuf_parse_diagnostics.specs.declared.diagnostic.Severity.{Severity}
use Rattle.protobuf_parse_diagnostics.specs.declared.diagnostic.Severity.TheVariants as severity
use Rattle.protobuf_parse_diagnostics.specs.declared.rules.RuleLevel.{RuleLevel}
use Rattle.protobuf_parse_diagnostics.specs.declared.rules.RuleLevel.TheVariants as level

-- how bad it is that a rule of texts is broken: of what protoc only warns there is a warning
abbrev pub text_severity : RuleLevel → TextRule → Severity
text_severity level.Error rule = if is_warning rule then severity.Warning else severity.Error
text_severity level.Warn rule = severity.Warning
text_severity level.Off rule = severity.Warning

-- this is told of the violation in the file that lies there: the code of its rule, how bad it is,
-- and where it stands
pub record IsTextTold (at : RuleLevel) (origin : List ℕ) (v : TextViolation) (d : Diagnostic)
    : Type 0 where
  pub file : string_bytes d.file ≡ origin
  pub place : d.place ≡ Some v.place
  pub code : string_bytes d.code ≡ code_of v.rule
  pub severity : d.severity ≡ text_severity at v.rule

-- these are told of the violations, one of each, in order
abbrev pub AreTextsTold : RuleLevel → (origin : List ℕ) → List TextViolation → List Diagnostic
    → Type 0
AreTextsTold at origin [] [] = Unit {0}
AreTextsTold at origin (v ∷ vs) (d ∷ ds) =
    IsTextTold at origin v d × AreTextsTold at origin vs ds
AreTextsTold at origin _ _ = ⊥
