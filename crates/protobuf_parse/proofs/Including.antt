-- Parts of paths, and which include decides.
use Rattle.std.specs.Prelude.{if◌then◌else◌, bytes_eq}
use Rattle.std.proofs.Common.{◌≡◌, ◌∙◌, ap, sym, refl, inl, inr, ℕ, ◌+◌, ◌-◌, ◌<◌, ◌≤◌, arith, not}
use Rattle.std.proofs.Common.{Bool, true, false, List, [], ◌∷◌, ◌++◌, Bor, drop, get_or}
use Rattle.std.proofs.Common.{length, length-drop, map, take, find, Some, None}
use Rattle.std.proofs.lemmas.List.{at_drop_more, drop_all, length-map, map-append}
use Rattle.std.proofs.lemmas.List.{take_all, take-append-drop}
use Rattle.std.proofs.lemmas.Bool.{cond-false, cond-true}
use Rattle.protobuf_parse_base.specs.declared.proto_path.error.PathError.{PathError}
use Rattle.protobuf_parse_base.specs.declared.proto_path.error.PathError.TheVariants as path
use Rattle.protobuf_parse_model.specs.Descriptors.{Text}
use Rattle.protobuf_parse_run.specs.declared.fault.RunFault.{RunFault}
use Rattle.protobuf_parse_run.specs.declared.fault.RunFault.TheVariants as fault
use Rattle.protobuf_parse_run.specs.Run.{OrMemory}
use Rattle.protobuf_parse_run.proofs.Keeping.{bool_cases}
use Rattle.protobuf_parse.specs.Includes.{AreNamed, unnamed, named_as}
use Rattle.protobuf_parse.specs.IncludeParts.{IsMisnamed}
use Rattle.protobuf_parse.specs.Includes.{StandsAtFirst, StandsAtInput, is_unnamed}
use Rattle.protobuf_parse.specs.Includes.{naming_of, part_views, parts_after}

-- no part is left to compare
none-after : (front : List Text) → 0 < length front → parts_after front [] ≡ None
none-after [] h = absurd (omega arith)
none-after (first ∷ front) h = refl

pub parts_after-short : (front parts : List (Bor (List ℕ))) (i : ℕ) → i < length front
    → length parts ≤ i → parts_after (part_views (drop i front)) (part_views (drop i parts)) ≡ None
parts_after-short front parts i lt le =
    let some : 0 < length (part_views (drop i front)) =
    simp (length-map, length-drop) (omega arith) in
    ap (λ (z : List (Bor (List ℕ))). parts_after (part_views (drop i front)) (part_views z))
    (drop_all i parts le) ∙ none-after (part_views (drop i front)) some

-- the next two parts are compared
parts_after-step : (front parts : List (Bor (List ℕ))) (i : ℕ) (d e : Bor (List ℕ))
    → i < length front → i < length parts
    → parts_after (part_views (drop i front)) (part_views (drop i parts))
    ≡ (if bytes_eq (get_or front i d).now (get_or parts i e).now
    then parts_after (part_views (drop (i + 1) front)) (part_views (drop (i + 1) parts)) else None)
parts_after-step front parts i d e lf lp =
    at_drop_more
    (λ (z : List (Bor (List ℕ))). parts_after (part_views z) (part_views (drop i parts))) front i d
    lf
    ∙ at_drop_more
    (λ (z : List (Bor (List ℕ))). parts_after (part_views (get_or front i d ∷ drop (i + 1) front))
    (part_views z)) parts i e lp

not_is : (b r : Bool) → r ≡ not b → r ≡ true → b ≡ false
not_is true r h k = cc
not_is false r h k = refl

not_is_not : (b r : Bool) → r ≡ not b → r ≡ false → b ≡ true
not_is_not true r h k = refl
not_is_not false r h k = cc

pub parts_after-differ : (front parts : List (Bor (List ℕ))) (i : ℕ) (d e : Bor (List ℕ)) (r : Bool)
    → i < length front → i < length parts
    → r ≡ not (bytes_eq (get_or front i d).now (get_or parts i e).now) → r ≡ true
    → parts_after (part_views (drop i front)) (part_views (drop i parts)) ≡ None
parts_after-differ front parts i d e r lf lp is ne =
    parts_after-step front parts i d e lf lp
    ∙ cond-false (bytes_eq (get_or front i d).now (get_or parts i e).now) _ _ (not_is _ r is ne)

pub parts_after-agree : (front parts : List (Bor (List ℕ))) (i : ℕ) (d e : Bor (List ℕ)) (r : Bool)
    → i < length front → i < length parts
    → r ≡ not (bytes_eq (get_or front i d).now (get_or parts i e).now) → r ≡ false
    → parts_after (part_views (drop (i + 1) front)) (part_views (drop (i + 1) parts))
    ≡ parts_after (part_views (drop i front)) (part_views (drop i parts))
parts_after-agree front parts i d e r lf lp is eq =
    sym (parts_after-step front parts i d e lf lp
    ∙ cond-true (bytes_eq (get_or front i d).now (get_or parts i e).now) _ _
    (not_is_not _ r is eq))

-- all of the front was compared
pub parts_after-all : (front parts : List (Bor (List ℕ))) (i : ℕ) → length front ≤ i
    → i ≤ length front
    → parts_after (part_views (drop i front)) (part_views (drop i parts))
    ≡ parts_after (part_views front) (part_views parts)
    → Some (part_views (take (length parts - length front) (drop (length front) parts)))
    ≡ parts_after (part_views front) (part_views parts)
parts_after-all front parts i le ge same =
    let e : length front ≡ i = omega arith in
    let whole : take (length parts - length front) (drop (length front) parts)
    ≡ drop (length front) parts =
    take_all _ _ (omega (arith, length-drop (length front) parts)) in
    let here : parts_after (part_views (drop i front)) (part_views (drop i parts))
    ≡ Some (part_views (drop i parts)) =
    ap (λ (z : List (Bor (List ℕ))). parts_after (part_views z) (part_views (drop i parts)))
    (drop_all i front le) in
    ap (λ (z : List (Bor (List ℕ))). Some (part_views z)) whole
    ∙ (ap (λ (n : ℕ). Some (part_views (drop n parts))) e ∙ (sym here ∙ same))

-- L11 is told of an input whose rest is no proto path
pub misnamed-stands : (includes : List Text) (input : Text) (why : PathError) (f : RunFault)
    → ((why ≡ path.Memory → ⊥) → naming_of includes input ≡ unnamed why)
    → OrMemory f ((why ≡ path.Memory → ⊥) × IsMisnamed input why f)
    → OrMemory f (StandsAtInput includes input f)
misnamed-stands includes input why f is (inr m) = inr m
misnamed-stands includes input why f is (inl h) = inl (told f h.1)
  where
    told : (g : RunFault) → IsMisnamed input why g → StandsAtInput includes input g
    told (fault.InputPath p e) k = (k.0, is h.0 ∙ ap unnamed (sym k.1))
    told _ k = absurd k

-- ---- the first input that gets no proto path

find-first : {X : Type 0} (test : X → Bool) (xs ys : List X) (x : X) → find test xs ≡ None
    → test x ≡ true → find test (xs ++ x ∷ ys) ≡ Some x
find-first test [] ys x h t = rw t refl
find-first test (z ∷ xs) ys x h t =
    elim (bool_cases (test z)) [
      | inl w ↦ absurd (let e : Some z ≡ None = (rw w at h) in cc)
      | inr w ↦ let e : find test xs ≡ None = (rw w at h) in rw w (find-first test xs ys x e t)
    ]

none-unnamed : (includes inputs names : List Text) → AreNamed includes inputs names
    → find (λ (i : Text). is_unnamed (naming_of includes i)) inputs ≡ None
none-unnamed includes [] names h = refl
none-unnamed includes (input ∷ inputs) [] h = cc
none-unnamed includes (input ∷ inputs) (name ∷ names) h =
    let one : naming_of includes input ≡ named_as name = cc in
    let others : AreNamed includes inputs names = cc in
    let no : is_unnamed (naming_of includes input) ≡ false = ap is_unnamed one in
    cond-false (is_unnamed (naming_of includes input)) _ _ no
    ∙ none-unnamed includes inputs names others

unnamed-there : (includes : List Text) (input : Text) (f : RunFault)
    → StandsAtInput includes input f → is_unnamed (naming_of includes input) ≡ true
unnamed-there includes input (fault.FileMustResideInImportPath p l) h = ap is_unnamed h.2
unnamed-there includes input (fault.InputPath p e) h = ap is_unnamed h.1
unnamed-there includes input _ h = absurd h

pub first-stands : {X : Type 0} (v : X → Text) (includes : List Text) (xs : List X) (k : ℕ) (x : X)
    (names : List Text) (f : RunFault) → k < length xs → x ≡ get_or xs k x
    → AreNamed includes (map v (take k xs)) names → OrMemory f (StandsAtInput includes (v x) f)
    → OrMemory f (StandsAtFirst includes (map v xs) f)
first-stands v includes xs k x names f lt is before (inr m) = inr m
first-stands v includes xs k x names f lt is before (inl h) =
    let parts : take k xs ++ (get_or xs k x ∷ drop (k + 1) xs)
    ≡ xs = sym (at_drop_more (λ z. take k xs ++ z) xs k x lt) ∙ take-append-drop k xs in
    let split : map v xs ≡ map v (take k xs) ++ (v x ∷ map v (drop (k + 1) xs)) =
    ap (map v) (sym parts)
    ∙ (map-append v (take k xs) (get_or xs k x ∷ drop (k + 1) xs)
    ∙ ap (λ z. map v (take k xs) ++ (v z ∷ map v (drop (k + 1) xs))) (sym is)) in
    inl (
      v x,
      rw split
          (find-first (λ (i : Text). is_unnamed (naming_of includes i)) (map v (take k xs))
          (map v (drop (k + 1) xs)) (v x) (none-unnamed includes (map v (take k xs)) names before)
          (unnamed-there includes (v x) f h)),
      h,
    )
