-- Fields that are named one after the other.
use Rattle.std.proofs.Common.{◌≡◌, ℕ, false, List, [], ◌∷◌, ◌++◌, length, Ok, Err, refl, ap, ◌∙◌}
use Rattle.std.specs.Prelude.{◌==◌}
use Rattle.protobuf_parse_model.specs.Descriptors.{Text, FileDescriptor}
use Rattle.protobuf_parse_wire.specs.declared.fault.ReadFault.{ReadFault}
use Rattle.protobuf_parse_wire.specs.Reading.{WireRead, ◌>>=◌, reader}
use Rattle.protobuf_parse_wire.specs.Trees.{Field}
use Rattle.protobuf_parse_index.specs.Options.{Named, name_each, name_one, options_said}

bind_ok : (r : WireRead (List Named)) → r ≡ (r >>= (λ (b : List Named). Ok ([] ++ b)))
bind_ok (Ok x) = refl
bind_ok (Err e) = refl

step : (r : WireRead Named) (u v whole : WireRead (List Named))
    → whole ≡ (u >>= (λ (a : List Named). v >>= (λ (b : List Named). Ok (a ++ b))))
    → (r >>= (λ (f : Named). whole >>= (λ (o : List Named). Ok (f ∷ o))))
    ≡ ((r >>= (λ (f : Named). u >>= (λ (o : List Named). Ok (f ∷ o))))
    >>= (λ (a : List Named). v >>= (λ (b : List Named). Ok (a ++ b))))
step (Err e) u v whole is = refl
step (Ok f) (Err e) v whole is =
    ap (λ (z : WireRead (List Named)). z >>= (λ (o : List Named). Ok (f ∷ o))) is
step (Ok f) (Ok a) (Err e) whole is =
    ap (λ (z : WireRead (List Named)). z >>= (λ (o : List Named). Ok (f ∷ o))) is
step (Ok f) (Ok a) (Ok b) whole is =
    ap (λ (z : WireRead (List Named)). z >>= (λ (o : List Named). Ok (f ∷ o))) is

module _ (files : List FileDescriptor) (of : Text) where
  both : (xs ys : List Field) → name_each files of (xs ++ ys)
      ≡ (name_each files of xs
      >>= (λ (a : List Named). name_each files of ys >>= (λ (b : List Named). Ok (a ++ b))))
  both [] ys = bind_ok (name_each files of ys)
  both (x ∷ xs) ys = step (name_one files of x) (name_each files of xs) (name_each files of ys)
      (name_each files of (xs ++ ys)) (both xs ys)

  pub named_more : (xs : List Field) (x : Field) (named : List Named) (one : Named)
      → name_each files of xs ≡ Ok named → name_one files of x ≡ Ok one
      → name_each files of (xs ++ x ∷ []) ≡ Ok (named ++ one ∷ [])
  named_more xs x named one e f = both xs (x ∷ [])
      ∙ ap (λ (r : WireRead (List Named)). r
      >>= (λ (a : List Named). name_each files of (x ∷ []) >>= (λ (b : List Named). Ok (a ++ b)))) e
      ∙ ap (λ (r : WireRead Named).
      (r >>= (λ (g : Named). Ok [] >>= (λ (o : List Named). Ok (g ∷ o))))
      >>= (λ (b : List Named). Ok (named ++ b))) f

  pub named_not : (xs : List Field) (x : Field) (rest : List Field) (named : List Named)
      (e : ReadFault) → name_each files of xs ≡ Ok named → name_one files of x ≡ Err e
      → name_each files of (xs ++ x ∷ rest) ≡ Err e
  named_not xs x rest named e before f = both xs (x ∷ rest)
      ∙ ap (λ (r : WireRead (List Named)). r
      >>= (λ (a : List Named).
      name_each files of (x ∷ rest) >>= (λ (b : List Named). Ok (a ++ b)))) before
      ∙ ap (λ (r : WireRead Named).
      (r >>= (λ (g : Named). name_each files of rest >>= (λ (o : List Named). Ok (g ∷ o))))
      >>= (λ (b : List Named). Ok (named ++ b))) f

  pub said : (bs : List ℕ) → (length bs == 0) ≡ false
      → options_said files of bs
      ≡ (reader files of bs >>= (λ (fs : List Field). name_each files of fs))
  said [] some = absurd cc
  said (b ∷ bs) some = refl
