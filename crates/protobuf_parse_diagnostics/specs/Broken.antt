-- What is told of violations of rules: one of each.
use Rattle.std.specs.Prelude.{◌≡◌, Bool, true, false, List, [], ◌∷◌, if◌then◌else◌, string_bytes}
use Rattle.protobuf_parse_rules.specs.Codes.{code_of, is_warning}
use Rattle.protobuf_parse_rules.specs.declared.rule.Rule.{Rule}
use Rattle.protobuf_parse_rules.specs.declared.violation.Violation.{Violation}
use Rattle.protobuf_parse_diagnostics.specs.declared.diagnostic.Diagnostic.{Diagnostic}
use Rattle.protobuf_parse_diagnostics.specs.declared.diagnostic.Severity.{Severity}
use Rattle.protobuf_parse_diagnostics.specs.declared.diagnostic.Severity.TheVariants as severity
use Rattle.protobuf_parse_diagnostics.specs.declared.rules.RuleLevel.{RuleLevel}
use Rattle.protobuf_parse_diagnostics.specs.declared.rules.RuleLevel.TheVariants as level

-- whether rules are told at this level
abbrev pub is_told_at : RuleLevel → Bool
is_told_at level.Error = true
is_told_at level.Warn = true
is_told_at level.Off = false

-- the violations that are told at this level
abbrev pub told_at_level : {V : Type 0} → RuleLevel → List V → List V
told_at_level at violations = if is_told_at at then violations else []

-- how bad it is that a rule is broken: of what protoc only warns there is a warning
abbrev pub severity_of : RuleLevel → Rule → Severity
severity_of level.Error rule = if is_warning rule then severity.Warning else severity.Error
severity_of level.Warn rule = severity.Warning
severity_of level.Off rule = severity.Warning

-- this is told of the violation: the code of its rule, and how bad it is
abbrev pub IsViolationTold : RuleLevel → Violation → Diagnostic → Type 0
IsViolationTold at v d =
    (string_bytes d.code ≡ code_of v.rule) × (d.severity ≡ severity_of at v.rule)

-- these are told of the violations, one of each, in order
abbrev pub AreViolationsTold : RuleLevel → List Violation → List Diagnostic → Type 0
AreViolationsTold at [] [] = Unit {0}
AreViolationsTold at (v ∷ vs) (d ∷ ds) =
    IsViolationTold at v d × AreViolationsTold at vs ds
AreViolationsTold at _ _ = ⊥
