-- Rules of texts that are told one after another.
use Rattle.std.proofs.Common.{ℕ, List, [], ◌∷◌, ◌++◌}
use Rattle.protobuf_parse_diagnostics.specs.Broken.{told_at_level}
use Rattle.protobuf_parse_diagnostics.specs.Texts.{AreTextsTold}
use Rattle.protobuf_parse_diagnostics.specs.declared.diagnostic.Diagnostic.{Diagnostic}
use Rattle.protobuf_parse_diagnostics.specs.declared.rules.RuleLevel.{RuleLevel}
use Rattle.protobuf_parse_text_rules.specs.declared.violation.TextViolation.{TextViolation}
use Rattle.protobuf_parse_command.specs.Checked.{AreTextRulesTold}

-- those of one text
pub of_text : (at : RuleLevel) (origin : List ℕ) (vs : List TextViolation) (ds : List Diagnostic)
    → AreTextsTold at origin vs ds → AreTextRulesTold at ds
of_text at origin [] [] h = tt
of_text at origin [] (d ∷ ds) h = absurd h
of_text at origin (v ∷ vs) [] h = absurd h
of_text at origin (v ∷ vs) (d ∷ ds) h = (
  record { origin = origin; violation = v; says = h.0 },
  of_text at origin vs ds h.1,
)

-- those of one text more
pub more_texts : (at : RuleLevel) (before more : List Diagnostic) → AreTextRulesTold at before
    → AreTextRulesTold at more → AreTextRulesTold at (before ++ more)
more_texts at [] more h k = k
more_texts at (d ∷ ds) more h k = (h.0, more_texts at ds more h.1 k)
