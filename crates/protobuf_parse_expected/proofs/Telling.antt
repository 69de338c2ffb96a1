-- Verdicts that are told one after another.
use Rattle.std.proofs.Common.{◌≡◌, ◌∙◌, ℕ, List, [], ◌∷◌, ◌++◌, ap, get_or, length, subst, sym}
use Rattle.std.proofs.Common.{take, ◌+◌, ◌<◌, append-nil, append_assoc, string_bytes, true}
use Rattle.std.proofs.lemmas.List.{take_more}
use Rattle.std.specs.Borrow.{Bor}
use Rattle.protobuf_parse_lexer.specs.Text.{Bytes}
use Rattle.protobuf_parse_syntax.specs.Parsing.{HasTree}
use Rattle.protobuf_parse_syntax.specs.Trees.{FileSyntax}
use Rattle.protobuf_parse_expected.specs.Expected.{AreTold, GoesOn, Tells, texts_of}
use Rattle.protobuf_parse_expected.specs.Reading.{IsLonger}
use Rattle.protobuf_parse_expected.specs.declared.ending.Longer.{Longer}
use Rattle.protobuf_parse_expected.specs.declared.verdict.Verdict.{Verdict}

told_append : (front : Bytes) (ws : List (Bor Bytes)) (w : Bor Bytes) (vs : List Verdict)
    (v : Verdict) → AreTold front (texts_of ws) vs → Tells front w.now v
    → AreTold front (texts_of (ws ++ w ∷ [])) (vs ++ v ∷ [])
told_append front [] w [] v h k = (k, tt)
told_append front [] w (u ∷ vs) v h k = absurd h
told_append front (x ∷ ws) w [] v h k = absurd h
told_append front (x ∷ ws) w (u ∷ vs) v h k = (h.0, told_append front ws w vs v h.1 k)

-- one more of them
pub told_next : (front : Bytes) (ws : List (Bor Bytes)) (i : ℕ) (d : Bor Bytes)
    (old new : List Verdict) (v : Verdict) → i < length ws → AreTold front (texts_of (take i ws)) old
    → Tells front (get_or ws i d).now v → new ≡ old ++ v ∷ []
    → AreTold front (texts_of (take (i + 1) ws)) new
told_next front ws i d old new v lt h told added =
    subst (λ (vs : List Verdict). AreTold front (texts_of (take (i + 1) ws)) vs) (sym added)
    (subst (λ (us : List (Bor Bytes)). AreTold front (texts_of us) (old ++ v ∷ []))
    (sym (take_more ws i d lt)) (told_append front (take i ws) (get_or ws i d) old v h told))

-- a text with a tree
pub whole_there : (z now : Bytes) → now ≡ z → (t : FileSyntax) × HasTree now t → GoesOn z
whole_there z now same (t, has) =
    ([], t, subst (λ (y : Bytes). HasTree y t) (same ∙ sym (append-nil z)) has)

-- a text that was made longer, and has a tree
pub longer_there : (text longer now : Bytes) (l : Longer) → now ≡ longer
    → (more : Bytes) × (longer ≡ text ++ more) → IsLonger now l → l.is_whole ≡ true → GoesOn text
longer_there text longer now l same (more, is) next whole =
    let last : (t : FileSyntax) × HasTree (string_bytes l.text) t = next.whole whole in (
      more ++ next.more,
      last.0,
      subst (λ (y : Bytes). HasTree y last.0)
          (next.is ∙ (ap (λ y. y ++ next.more) (same ∙ is) ∙ append_assoc text more next.more)) last.1,
    )

-- a text that was made longer
pub longer_still : (text longer now : Bytes) (l : Longer) → now ≡ longer
    → (more : Bytes) × (longer ≡ text ++ more) → IsLonger now l
    → (more : Bytes) × (string_bytes l.text ≡ text ++ more)
longer_still text longer now l same (more, is) next = (
  more ++ next.more,
  next.is ∙ (ap (λ y. y ++ next.more) (same ∙ is) ∙ append_assoc text more next.more),
)
