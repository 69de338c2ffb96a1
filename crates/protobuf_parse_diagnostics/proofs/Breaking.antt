-- Violations that are told one after another.
use Rattle.std.proofs.Common.{◌≡◌, ◌∙◌, ℕ, List, [], ◌∷◌, ◌++◌, ap, get_or, length, subst, sym}
use Rattle.std.proofs.Common.{take, ◌+◌, ◌<◌}
use Rattle.std.proofs.lemmas.List.{take_more}
use Rattle.protobuf_parse_rules.specs.declared.violation.Violation.{Violation}
use Rattle.protobuf_parse_diagnostics.specs.declared.diagnostic.Diagnostic.{Diagnostic}
use Rattle.protobuf_parse_diagnostics.specs.declared.rules.RuleLevel.{RuleLevel}
use Rattle.protobuf_parse_diagnostics.specs.Broken.{AreViolationsTold, IsViolationTold}
use Rattle.protobuf_parse_diagnostics.specs.Texts.{AreTextsTold, IsTextTold}
use Rattle.protobuf_parse_text_rules.specs.declared.violation.TextViolation.{TextViolation}

violations_append : (at : RuleLevel) (vs : List Violation) (v : Violation) (ds : List Diagnostic)
    (d : Diagnostic) → AreViolationsTold at vs ds → IsViolationTold at v d
    → AreViolationsTold at (vs ++ v ∷ []) (ds ++ d ∷ [])
violations_append at [] v [] d h k = (k, tt)
violations_append at [] v (e ∷ ds) d h k = absurd h
violations_append at (w ∷ vs) v [] d h k = absurd h
violations_append at (w ∷ vs) v (e ∷ ds) d h k = (h.0, violations_append at vs v ds d h.1 k)

-- one more of them
pub violation_next : (at : RuleLevel) (vs : List Violation) (i : ℕ) (v : Violation)
    (old new : List Diagnostic) (d : Diagnostic) → i < length vs → v ≡ get_or vs i v
    → AreViolationsTold at (take i vs) old → IsViolationTold at v d → new ≡ old ++ d ∷ []
    → AreViolationsTold at (take (i + 1) vs) new
violation_next at vs i v old new d lt is h told added =
    subst (λ (ds : List Diagnostic). AreViolationsTold at (take (i + 1) vs) ds) (sym added)
    (subst (λ (ws : List Violation). AreViolationsTold at ws (old ++ d ∷ [])) (sym seam)
    (violations_append at (take i vs) v old d h told))
  where
    seam : take (i + 1) vs ≡ take i vs ++ v ∷ []
    seam = take_more vs i v lt ∙ ap (λ w. take i vs ++ w ∷ []) (sym is)

texts_append : (at : RuleLevel) (o : List ℕ) (vs : List TextViolation) (v : TextViolation)
    (ds : List Diagnostic) (d : Diagnostic) → AreTextsTold at o vs ds → IsTextTold at o v d
    → AreTextsTold at o (vs ++ v ∷ []) (ds ++ d ∷ [])
texts_append at o [] v [] d h k = (k, tt)
texts_append at o [] v (e ∷ ds) d h k = absurd h
texts_append at o (w ∷ vs) v [] d h k = absurd h
texts_append at o (w ∷ vs) v (e ∷ ds) d h k = (h.0, texts_append at o vs v ds d h.1 k)

-- one more of them, of a text
pub text_next : (at : RuleLevel) (o : List ℕ) (vs : List TextViolation) (i : ℕ)
    (v : TextViolation) (old new : List Diagnostic) (d : Diagnostic) → i < length vs
    → v ≡ get_or vs i v → AreTextsTold at o (take i vs) old → IsTextTold at o v d
    → new ≡ old ++ d ∷ [] → AreTextsTold at o (take (i + 1) vs) new
text_next at o vs i v old new d lt is h told added =
    subst (λ (ds : List Diagnostic). AreTextsTold at o (take (i + 1) vs) ds) (sym added)
    (subst (λ (ws : List TextViolation). AreTextsTold at o ws (old ++ d ∷ [])) (sym seam)
    (texts_append at o (take i vs) v old d h told))
  where
    seam : take (i + 1) vs ≡ take i vs ++ v ∷ []
    seam = take_more vs i v lt ∙ ap (λ w. take i vs ++ w ∷ []) (sym is)
