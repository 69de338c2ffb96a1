-- Files in the order of loading: what a file reaches stands before it.
use Rattle.std.proofs.Common.{◌≡◌, ◌∙◌, ◌⊎◌, ◌<◌, ℕ, zero, suc, Bool, true, false, not, ◌&&◌}
use Rattle.std.proofs.Common.{List, [], ◌∷◌, ◌++◌, ap, append_assoc, arith, cond, filter}
use Rattle.std.proofs.Common.{length, length-append, refl, subst, sym, inl, inr}
use Rattle.std.specs.Prelude.{bytes_eq}
use Rattle.std.specs.List.{list_any}
use Rattle.protobuf_parse_syntax.specs.Trees.{FileSyntax}
use Rattle.protobuf_parse_model.specs.Descriptors.{Text}
use Rattle.protobuf_parse_elaboration.specs.FilesByPath.{Leads, leads, stays}
use Rattle.protobuf_parse_run.specs.Walks.{Reaches, Trees, among, import_paths}
use Rattle.protobuf_parse_run.proofs.Faulty.{text-any}
use Rattle.protobuf_parse_run.proofs.Keeping.{among-append, bool_cases, never_both, or_cases}
use Rattle.protobuf_parse_run.proofs.Keeping.{or_left, or_right, text-same, text-true}
use Rattle.protobuf_parse_load.specs.Steps.{closed_paths}
use Rattle.protobuf_parse_check.specs.Gathered.{brings, others_reached, reaches_twice}
use Rattle.protobuf_parse_check.specs.Reports.{Checked, files_of}
use Rattle.protobuf_parse_check.specs.SoFar.{IsOrdered}

-- ** members of lists

pub split-at : (q : Text) (xs : List Text) → among q xs ≡ true
    → (front : List Text) × (back : List Text) × (xs ≡ front ++ q ∷ back)
split-at q [] m = cc
split-at q (x ∷ xs) m =
    elim (bool_cases (bytes_eq q x)) [
      | inl w ↦ ([], xs, ap (λ z. z ∷ xs) (sym (text-true q x w)))
      | inr w ↦ let r = split-at q xs (rw w at m) in
          (x ∷ r.0, r.1, ap (λ zs. x ∷ zs) r.2)
    ]

-- what a test keeps
pub kept-path : (test : Text → Bool) (q : Text) (xs : List Text) → among q xs ≡ true
    → test q ≡ true → among q (filter test xs) ≡ true
kept-path test q [] m h = cc
kept-path test q (x ∷ xs) m h =
    elim (bool_cases (bytes_eq q x)) [
      | inl w ↦
          let same : q ≡ x = text-true q x w in
          let kept : test x ≡ true = subst (λ (z : Text). test z ≡ true) same h in
          rw kept (or_left (bytes_eq q x) (among q (filter test xs)) w)
      | inr w ↦ more (test x) (kept-path test q xs (rw w at m) h)
    ]
  where
    more : (b : Bool) → among q (filter test xs) ≡ true
        → among q (cond b (x ∷ filter test xs) (filter test xs)) ≡ true
    more true k = or_right (bytes_eq q x) (among q (filter test xs)) k
    more false k = k

pub keeps-path : (test : Text → Bool) (q : Text) (xs : List Text)
    → among q (filter test xs) ≡ true → (among q xs ≡ true) × (test q ≡ true)
keeps-path test q [] m = cc
keeps-path test q (x ∷ xs) m = at (test x) refl (keeps-path test q xs) m
  where
    at : (b : Bool) → test x ≡ b
        → (among q (filter test xs) ≡ true → (among q xs ≡ true) × (test q ≡ true))
        → among q (cond b (x ∷ filter test xs) (filter test xs)) ≡ true
        → (among q (x ∷ xs) ≡ true) × (test q ≡ true)
    at true h more k =
        elim (or_cases (bytes_eq q x) (among q (filter test xs)) k) [
          | inl w ↦ (
            or_left (bytes_eq q x) (among q xs) w,
            subst (λ (z : Text). test z ≡ true) (sym (text-true q x w)) h,
          )
          | inr w ↦ let r = more w in
              (or_right (bytes_eq q x) (among q xs) r.0, r.1)
        ]
    at false h more k =
        let r = more k in (or_right (bytes_eq q x) (among q xs) r.0, r.1)

-- ** what a file leads to

pub leads-through : (next : FileSyntax → List Text) (trees : Trees) (p q r : Text)
    → Leads next trees p q → Leads next trees q r → Leads next trees p r
leads-through next trees p q r (stays _) k = k
leads-through next trees p q r (leads _ m _ t is i rest) k =
    leads p m r t is i (leads-through next trees m q r rest k)

module _ (c : Checked) (ordered : IsOrdered c) where
  abbrev order : List Text
  order = closed_paths c.steps

  -- what a file reaches beside itself stands before it
  pub reaches-before : (q r : Text) (front back : List Text) → order ≡ front ++ q ∷ back
      → Reaches (files_of c).trees q r → (q ≡ r) ⊎ (among r front ≡ true)
  reaches-before q r front back at (stays _) = inl refl
  reaches-before q r front back at (leads _ m _ t is i rest) =
      let before = ordered.imports front q back t at is m i in
      let s = split-at m front before in
      let seam : order ≡ s.0 ++ m ∷ (s.1 ++ q ∷ back) =
      at ∙ ap (λ zs. zs ++ q ∷ back) s.2 ∙ append_assoc s.0 (m ∷ s.1) (q ∷ back) in
      let up : (z : Text) → among z (m ∷ s.1) ≡ true → among z front ≡ true =
      λ z h. subst (λ (zs : List Text). among z zs ≡ true) (sym s.2)
      (among-append z s.0 (m ∷ s.1)
      ∙ or_right (among z s.0) (among z (m ∷ s.1)) h) in
      elim (reaches-before m r s.0 (s.1 ++ q ∷ back) seam rest) [
        | inl w ↦ inr (subst (λ (z : Text). among z front ≡ true) w before)
        | inr w ↦ inr (subst (λ (zs : List Text). among r zs ≡ true) (sym s.2)
            (among-append r s.0 (m ∷ s.1)
            ∙ or_left (among r s.0) (among r (m ∷ s.1)) w))
      ]

  -- so does each other file that it is said to reach
  pub other-before : (q r : Text) (front back : List Text) → order ≡ front ++ q ∷ back
      → among r (others_reached (files_of c) q) ≡ true
      → (among r (c.reached q) ≡ true) × (among r front ≡ true)
      × Reaches (files_of c).trees q r
  other-before q r front back at m =
      let k = keeps-path (λ (z : Text). not (bytes_eq z q)) r (c.reached q) m in
      let reach = (ordered.listed.just.reaches q).only r k.0 in
      elim (reaches-before q r front back at reach) [
        | inl w ↦ absurd (never_both (bytes_eq r q)
            (subst (λ (z : Text). bytes_eq r z ≡ true) (sym w) (text-same r))
            (was_not (bytes_eq r q) k.1))
        | inr w ↦ (k.0, w, reach)
      ]
    where
      was_not : (b : Bool) → not b ≡ true → b ≡ false
      was_not true h = cc
      was_not false h = refl

  module _ (extension : Bool) (name : Text) where
    abbrev twice : Text → Bool
    twice q = reaches_twice (files_of c) extension name q

    -- where a file reaches a name twice, one that it reaches brings it together
    brings-within : (fuel : ℕ) (q : Text) (front back : List Text) → length front < fuel
        → order ≡ front ++ q ∷ back → twice q ≡ true
        → (r : Text) × (among r (c.reached q) ≡ true)
        × (brings (files_of c) extension r name ≡ true)
    brings-within zero q front back lt at h = absurd (omega (arith, lt))
    brings-within (suc fuel) q front back lt at h =
        elim (bool_cases (list_any twice (others_reached (files_of c) q))) [
          | inl w ↦
              let m = text-any twice (others_reached (files_of c) q) w in
              let b = other-before q m.0 front back at m.1 in
              let s = split-at m.0 front b.1 in
              let seam : order ≡ s.0 ++ m.0 ∷ (s.1 ++ q ∷ back) =
              at ∙ ap (λ zs. zs ++ q ∷ back) s.2
              ∙ append_assoc s.0 (m.0 ∷ s.1) (q ∷ back) in
              let long : length front ≡ length (s.0 ++ m.0 ∷ s.1) = ap length s.2 in
              let parts = length-append s.0 (m.0 ∷ s.1) in
              let r = brings-within fuel m.0 s.0 (s.1 ++ q ∷ back)
              (omega (arith, lt, long, parts)) seam m.2 in (
                r.0,
                (ordered.listed.just.reaches q).all r.0
                    (leads-through import_paths (files_of c).trees q m.0 r.0 b.2
                    ((ordered.listed.just.reaches m.0).only r.0 r.1)),
                r.2,
              )
          | inr w ↦ (
            q,
            (ordered.listed.just.reaches q).all q (stays q),
            and_true (twice q) (not (list_any twice (others_reached (files_of c) q))) h
                (ap not w),
          )
        ]
      where
        and_true : (a b : Bool) → a ≡ true → b ≡ true → (a && b) ≡ true
        and_true true b h k = k
        and_true false b h k = cc

    pub some-brings : (q : Text) (front back : List Text) → order ≡ front ++ q ∷ back
        → twice q ≡ true
        → (r : Text) × (among r (c.reached q) ≡ true)
        × (brings (files_of c) extension r name ≡ true)
    some-brings q front back at h =
        brings-within (suc (length front)) q front back (omega arith) at h
