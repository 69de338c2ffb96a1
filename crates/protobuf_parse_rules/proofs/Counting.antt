-- How many claims are of one thing, and how many fields have one number.
use Rattle.std.proofs.Common.{◌≡◌, ℕ, ℤ, ◌+◌, ◌≤◌, Bool, true, false, cond, not, ◌&&◌, ◌||◌, List}
use Rattle.std.proofs.Common.{[], ◌∷◌}
use Rattle.std.proofs.Common.{◌++◌, refl, sym, ap, ◌∙◌, subst, append-nil, append_assoc, arith}
use Rattle.std.proofs.Common.{Option}
use Rattle.std.proofs.Common.{Some, None}
use Rattle.std.specs.Prelude.{filter, bytes_eq, if◌then◌else◌}
use Rattle.std.specs.List.{flat_map, list_any}
use Rattle.std.specs.Ordering.{int_eq}
use Rattle.std.proofs.lemmas.Bool.Decides.{Decides-int_eq}
use Rattle.std.proofs.lemmas.List.Elements.{filter-append}
use Rattle.protobuf_parse_model.specs.Descriptors.{FieldDescriptor}
use Rattle.protobuf_parse_wire.specs.Declarations.{have_distinct_numbers}
use Rattle.protobuf_parse_rules.specs.Claims.{Claim, Thing, conflict, conflicts, first_claim}
use Rattle.protobuf_parse_rules.specs.Claims.{same_thing}
use Rattle.protobuf_parse_rules.specs.Law.{is_number_in_use}
use Rattle.protobuf_parse_rules.specs.Numbers.{claims, number_rule}
use Rattle.protobuf_parse_rules.specs.Bodies.{BodyParts}
use Rattle.protobuf_parse_rules.specs.Rules.{Breach, breaches_at}
use Rattle.protobuf_parse_rules.specs.declared.rule.Rule.TheVariants as rule
use Rattle.protobuf_parse_rules.specs.Violations.{breaches_after, breaches_of_body}
use Rattle.protobuf_parse_rules.proofs.Claiming.{thing_is}

abbrev pub one_if : Bool → ℕ
one_if b = cond b 1 0

-- how many of the claims are of that thing
abbrev pub claimed : Thing → List Claim → ℕ
claimed t [] = 0
claimed t (c ∷ cs) = one_if (same_thing c.thing t) + claimed t cs

-- how many of the fields have that number
abbrev pub numbered : ℤ → List FieldDescriptor → ℕ
numbered n [] = 0
numbered n (f ∷ fs) = one_if (int_eq f.number n) + numbered n fs

pub claimed-append : (t : Thing) (cs ds : List Claim)
    → claimed t (cs ++ ds) ≡ claimed t cs + claimed t ds
claimed-append t [] ds = omega arith
claimed-append t (c ∷ cs) ds = omega (arith, claimed-append t cs ds)

pub numbered-append : (n : ℤ) (fs gs : List FieldDescriptor)
    → numbered n (fs ++ gs) ≡ numbered n fs + numbered n gs
numbered-append n [] gs = omega arith
numbered-append n (f ∷ fs) gs = omega (arith, numbered-append n fs gs)

none_claimed : (t : Thing) (cs : List Claim) → first_claim cs t ≡ None → claimed t cs ≡ 0
none_claimed t [] e = refl
none_claimed t (c ∷ cs) e = at (same_thing c.thing t) e (none_claimed t cs)
  where
    at : (b : Bool) → cond b (Some c) (first_claim cs t) ≡ None
        → (first_claim cs t ≡ None → claimed t cs ≡ 0) → one_if b + claimed t cs ≡ 0
    at true h more = absurd cc
    at false h more = omega (arith, more h)

-- one claim more, of a thing that none claims
one_more : (before : List Claim) (c : Claim) → first_claim before c.thing ≡ None
    → ((t : Thing) → claimed t before ≤ 1) → (t : Thing) → claimed t (before ++ c ∷ []) ≤ 1
one_more before c none few t = at (same_thing c.thing t) refl
  where
    whole : claimed t (before ++ c ∷ []) ≡ claimed t before + claimed t (c ∷ [])
    whole = claimed-append t before (c ∷ [])

    at : (b : Bool) → same_thing c.thing t ≡ b → claimed t (before ++ c ∷ []) ≤ 1
    at true e =
        let zero : claimed t before ≡ 0 =
        ap (λ (x : Thing). claimed x before) (sym (thing_is c.thing t e))
        ∙ none_claimed c.thing before none in
        let last : one_if (same_thing c.thing t) ≡ 1 = ap one_if e in
        omega (arith, whole, zero, last)
    at false e =
        let last : one_if (same_thing c.thing t) ≡ 0 = ap one_if e in
        omega (arith, whole, few t, last)

-- ---- nothing told

abbrev pub told : Breach → Bool
told b = is_number_in_use b.broken.rule

pub nil_left : {X : Type 0} (xs ys : List X) → xs ++ ys ≡ [] → xs ≡ []
nil_left [] ys e = refl
nil_left (x ∷ xs) ys e = absurd cc

pub nil_right : {X : Type 0} (xs ys : List X) → xs ++ ys ≡ [] → ys ≡ []
nil_right [] ys e = e
nil_right (x ∷ xs) ys e = absurd cc

pub none_left : (xs ys : List Breach) → filter told (xs ++ ys) ≡ [] → filter told xs ≡ []
none_left xs ys e = nil_left _ _ (sym (filter-append told xs ys) ∙ e)

none_right : (xs ys : List Breach) → filter told (xs ++ ys) ≡ [] → filter told ys ≡ []
none_right xs ys e = nil_right _ _ (sym (filter-append told xs ys) ∙ e)

none_in_use : (c : Claim) (first : Option Claim)
    → filter told (conflict number_rule c first) ≡ [] → first ≡ None
none_in_use c None e = refl
none_in_use c (Some x) e = in_use (bytes_eq c.who.file x.who.file) e
  where
    in_use : (here : Bool) → filter told (breaches_at (record {
      file = c.who.file;
      construct = c.who.name;
    }) (Some (record {
      rule = if here then rule.NumberInUse c.thing.number
          else rule.NumberInUseElsewhere c.thing.number;
      name = Some c.thing.name;
      by = Some x.who.name;
    }) ∷ [])) ≡ [] → Some x ≡ None
    in_use true none = absurd cc
    in_use false none = absurd cc

few_claims : (before cs : List Claim)
    → filter told (conflicts number_rule before cs) ≡ []
    → ((t : Thing) → claimed t before ≤ 1) → (t : Thing) → claimed t (before ++ cs) ≤ 1
few_claims before [] e few t = rw (append-nil before) (few t)
few_claims before (c ∷ cs) e few t =
    let first = first_claim before c.thing in
    let more = few_claims (before ++ c ∷ []) cs
    (none_right (conflict number_rule c first) _ e)
    (one_more before c (none_in_use c first
    (none_left (conflict number_rule c first) _ e)) few) t in
    let same : (before ++ c ∷ []) ++ cs ≡ before ++ (c ∷ cs) = append_assoc before (c ∷ []) cs in
    subst (λ z. claimed t z ≤ 1) same more

-- Where nothing is told of numbers in use in bodies, each thing is claimed at most once there.
pub few_after : (all : List BodyParts) (before : List Claim) (ps : List BodyParts)
    → filter told (breaches_after all before ps) ≡ [] → ((t : Thing) → claimed t before ≤ 1)
    → (t : Thing) → claimed t (before ++ flat_map claims ps) ≤ 1
few_after all before [] e few t = rw (append-nil before) (few t)
few_after all before (p ∷ ps) e few t =
    let at_p = none_left (conflicts number_rule before (claims p)) _
    (none_left (breaches_of_body all before p) _ e) in
    let more = few_after all (before ++ claims p) ps
    (none_right (breaches_of_body all before p) _ e) (few_claims before (claims p) at_p few) t in
    subst (λ z. claimed t z ≤ 1) (append_assoc before (claims p) (flat_map claims ps)) more

-- ---- numbers of which each stands once are distinct

one_at_least : (n : ℤ) (fs : List FieldDescriptor)
    → list_any (λ (o : FieldDescriptor). int_eq n o.number) fs ≡ true → 1 ≤ numbered n fs
one_at_least n [] e = absurd cc
one_at_least n (f ∷ fs) e = at (int_eq n f.number) refl e (one_at_least n fs)
  where
    at : (b : Bool) → int_eq n f.number ≡ b
        → (b || list_any (λ (o : FieldDescriptor). int_eq n o.number) fs) ≡ true
        → (list_any (λ (o : FieldDescriptor). int_eq n o.number) fs ≡ true → 1 ≤ numbered n fs)
        → 1 ≤ one_if (int_eq f.number n) + numbered n fs
    at true same h more =
        let one : one_if (int_eq f.number n) ≡ 1 =
        ap one_if ((Decides-int_eq f.number n).1 (sym ((Decides-int_eq n f.number).0 same))) in
        omega (arith, one)
    at false same h more = omega (arith, more h)

pub distinct : (fs : List FieldDescriptor) → ((n : ℤ) → numbered n fs ≤ 1)
    → have_distinct_numbers fs ≡ true
distinct [] few = refl
distinct (f ∷ fs) few =
    at (list_any (λ (o : FieldDescriptor). int_eq f.number o.number) fs) refl
    (distinct fs (λ n. omega (arith, few n)))
  where
    at : (b : Bool) → list_any (λ (o : FieldDescriptor). int_eq f.number o.number) fs ≡ b
        → have_distinct_numbers fs ≡ true
        → (not b && have_distinct_numbers fs) ≡ true
    at false e more = more
    at true e more =
        let twice = one_at_least f.number fs e in
        let one : one_if (int_eq f.number f.number) ≡ 1 =
        ap one_if ((Decides-int_eq f.number f.number).1 refl) in
        absurd (omega (arith, few f.number, twice, one))
