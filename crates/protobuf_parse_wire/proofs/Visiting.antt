-- Facts about what stands under names, after one more is put there.
use Rattle.std.proofs.Common.{◌≡◌, Bool, true, false, cond, Option, Some, subst, sym, refl}
use Rattle.std.specs.Prelude.{IfSome}
use Rattle.std.specs.Map.{update}
use Rattle.std.specs.Str.{bytes_eq}
use Rattle.std.proofs.lemmas.Slice.Eq.{bytes_eq-Decides}
use Rattle.protobuf_parse_model.specs.Descriptors.{Text}

pub of_found : {X : Type 0} (P : X → Type 0) (o : Option X) (x : X) → o ≡ Some x → IfSome o P → P x
of_found P o x is h = subst (λ p. IfSome p P) is h

pub one_more : {X : Type 0} (P : Text → X → Type 0) (old new : Text → Option X) (name : Text)
    (x : X)
    → ((q : Text) → IfSome (old q) (P q)) → P name x
    → ((q : Text) → new q ≡ update bytes_eq old name (Some x) q)
    → (q : Text) → IfSome (new q) (P q)
one_more P old new name x known here updates q =
    subst (λ o. IfSome o (P q)) (sym (updates q)) (by_test (bytes_eq name q) refl)
  where
    by_test : (b : Bool) → bytes_eq name q ≡ b → IfSome (cond b (Some x) (old q)) (P q)
    by_test true same = subst (λ n. P n x) ((bytes_eq-Decides name q).0 same) here
    by_test false differs = known q
