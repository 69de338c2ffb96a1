-- What is told one after the other.
use Rattle.std.proofs.Common.{◌≡◌, ◌∙◌, ◌<◌, List, [], ◌∷◌, ◌++◌, length, map, flat_map, refl, sym}
use Rattle.std.proofs.Common.{ap, append_assoc, append-nil, arith, subst}
use Rattle.std.proofs.lemmas.Grind.{flat_map-append}
use Rattle.std.specs.Prelude.{slice_index_or, Result, Ok, Err, IfOk, OnOk}
use Rattle.protobuf_parse_lexer.specs.declared.lexer.token.Place.{Place}
use Rattle.protobuf_parse_model.specs.declared.error.ElabError.{ElabError}
use Rattle.protobuf_parse_model.specs.Faults.{IsFirst, TellsFirst, Elaborates, Fault, Wrong}
use Rattle.protobuf_parse_model.specs.Faults.{fault_view, placed}
use Rattle.protobuf_parse_model.specs.declared.error.ElabFailure.{ElabFailure}

-- the first of those that were told, as it is seen
pub first_told : (xs : List ElabError) (x : ElabError) → 0 < length xs
    → x ≡ slice_index_or xs 0 x → IsFirst (map fault_view xs) (fault_view x)
first_told [] x lt is = absurd (omega arith)
first_told (y ∷ ys) x lt is = ap fault_view is

-- none was told
pub none_told : (xs : List ElabError) → length xs ≡ 0 → map fault_view xs ≡ []
none_told [] e = refl
none_told (y ∷ ys) e = absurd (omega arith)

-- where no fault is placed nothing is wrong
pub none_placed : (place : Place) (ws : List Wrong) → placed place ws ≡ [] → ws ≡ []
none_placed place [] e = refl
none_placed place (w ∷ ws) e = absurd cc

-- ---- what a call's answer says, said otherwise

pub if_ok : {X E : Type 0} {P Q : X → Type 0} (r : Result X E) → ((x : X) → P x → Q x) → IfOk r P
    → IfOk r Q
if_ok (Ok x) more h = more x h
if_ok (Err e) more h = tt

pub on_ok : {X E : Type 0} {P Q : Type 0} (r : Result X E) → (P → Q) → OnOk r P → OnOk r Q
on_ok (Ok x) more h = more h
on_ok (Err e) more h = tt

-- what one element more adds to what was told
pub told_more : {X : Type 0} (faults : X → List Fault) (f0 f1 f2 : List Fault) (before : List X)
    (x : X) (after : List X) → f1 ≡ f0 ++ flat_map faults before → f2 ≡ f1 ++ faults x
    → after ≡ before ++ x ∷ [] → f2 ≡ f0 ++ flat_map faults after
told_more faults f0 f1 f2 before x after told next more =
    next ∙ ap (λ f. f ++ faults x) told ∙ append_assoc f0 (flat_map faults before) (faults x)
    ∙ ap (λ f. f0 ++ f) (sym (ap (flat_map faults) more
    ∙ flat_map-append faults before (x ∷ [])
    ∙ ap (λ f. flat_map faults before ++ f) (append-nil (faults x))))

pub both_ok : {X E : Type 0} {P Q R : Type 0} (r : Result X E) → (P → Q → R) → OnOk r P → OnOk r Q
    → OnOk r R
both_ok (Ok x) more h k = more h k
both_ok (Err e) more h k = tt

-- a descriptor where none was told, by what was told and what the descriptor is
pub elaborated : {X Y : Type 0} (view : X → Y) (r : Result X ElabFailure) (told faults : List Fault)
    (x : X) (value : Y) → told ≡ faults → view x ≡ value → Elaborates (λ (y : X). y) r told x
    → Elaborates view r faults value
elaborated view (Ok y) told faults x value p q h = (sym p ∙ h.0, ap view h.1 ∙ q)
elaborated view (Err e) told faults x value p q h = subst (TellsFirst e) p h
