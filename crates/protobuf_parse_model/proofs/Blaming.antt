-- What tells a fault of a part tells one of the whole.
use Rattle.std.proofs.Common.{◌≡◌, ℕ, zero, suc, ◌<◌, List, [], ◌∷◌, ◌++◌, map, flat_map, length}
use Rattle.std.proofs.Common.{arith, ap, ◌∙◌, ◌+◌, take, get_or}
use Rattle.std.proofs.lemmas.Grind.{flat_map-append}
use Rattle.std.proofs.lemmas.List.{take_more}
use Rattle.std.specs.Prelude.{slice_index_or}
use Rattle.protobuf_parse_lexer.specs.declared.lexer.token.Place.{Place}
use Rattle.protobuf_parse_model.specs.declared.error.ElabFailure.{ElabFailure}
use Rattle.protobuf_parse_model.specs.declared.error.ElabFailure.TheVariants as failure
use Rattle.protobuf_parse_model.specs.Faults.{Among, here, there, Blames, Fault, placed}
use Rattle.protobuf_parse_model.specs.declared.error.ElabErrorKind.{ElabErrorKind}
use Rattle.protobuf_parse_model.specs.Duplicates.{fault}

pub among_left : {A : Type 0} {x : A} {xs : List A} (ys : List A) → Among xs x → Among (xs ++ ys) x
among_left ys here = here
among_left ys (there h) = there (among_left ys h)

pub among_right : {A : Type 0} {x : A} (xs : List A) {ys : List A} → Among ys x → Among (xs ++ ys) x
among_right [] h = h
among_right (y ∷ xs) h = there (among_right xs h)

pub blames_left : (e : ElabFailure) (xs ys : List Fault) → Blames e xs → Blames e (xs ++ ys)
blames_left failure.Memory xs ys h = tt
blames_left (failure.Fault f) xs ys h = among_left ys h

pub blames_right : (e : ElabFailure) (xs ys : List Fault) → Blames e ys → Blames e (xs ++ ys)
blames_right failure.Memory xs ys h = tt
blames_right (failure.Fault f) xs ys h = among_right xs h

-- what tells a fault of one element tells one of the list
pub blames_at : {S X : Type 0} (faults : X → List Fault) (view : S → X) (xs : List S) (i : ℕ)
    (s : S) (e : ElabFailure) → i < length xs → s ≡ slice_index_or xs i s
    → Blames e (faults (view s)) → Blames e (flat_map faults (map view xs))
blames_at faults view [] i s e lt is h = absurd (omega arith)
blames_at faults view (x ∷ xs) zero s e lt is h = blames_left e (faults (view x)) _ (rw is at h)
blames_at faults view (x ∷ xs) (suc i) s e lt is h =
    blames_right e (faults (view x)) _ (blames_at faults view xs i s e (omega arith) is h)

-- the same of a list that is seen as it is
pub blames_one : {X : Type 0} (faults : X → List Fault) (xs : List X) (i : ℕ) (x : X)
    (e : ElabFailure) → i < length xs → x ≡ slice_index_or xs i x → Blames e (faults x)
    → Blames e (flat_map faults xs)
blames_one faults [] i s e lt is h = absurd (omega arith)
blames_one faults (x ∷ xs) zero s e lt is h = blames_left e (faults x) _ (rw is at h)
blames_one faults (x ∷ xs) (suc i) s e lt is h =
    blames_right e (faults x) _ (blames_one faults xs i s e (omega arith) is h)

-- no fault in the first elements, nor in the next one
pub none_more : {X : Type 0} (faults : X → List Fault) (xs : List X) (i : ℕ) (d : X) → i < length xs
    → flat_map faults (take i xs) ≡ [] → faults (get_or xs i d) ≡ []
    → flat_map faults (take (i + 1) xs) ≡ []
none_more faults xs i d lt before none =
    ap (flat_map faults) (take_more xs i d lt)
    ∙ flat_map-append faults (take i xs) (get_or xs i d ∷ [])
    ∙ ap (λ fs. fs ++ (faults (get_or xs i d) ++ [])) before
    ∙ ap (λ fs. fs ++ []) none

-- a fault by its place, its kind and its text
pub among_fault : (place : Place) (kind : ElabErrorKind) (what text : List ℕ) → text ≡ what
    → Among (placed place (fault kind what))
    (record { place = place; wrong = record { kind = kind; what = text } })
among_fault place kind what text e = rw e here
