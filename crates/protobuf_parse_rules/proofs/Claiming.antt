-- A map of claims that grows.
use Rattle.std.proofs.Common.{◌≡◌, Bool, true, false, cond, List, [], ◌∷◌, ◌++◌, refl, sym}
use Rattle.std.proofs.Common.{ap, subst, ◌∙◌, append_assoc, append-nil, Option, Some, None}
use Rattle.std.specs.Prelude.{option_map, find, ◌&&◌, bytes_eq, is_some}
use Rattle.std.specs.Option.{option_or}
use Rattle.std.specs.Ordering.{int_eq, int_cmp, nat_cmp, ordering_then, is_eq}
use Rattle.std.specs.declared.cmp.Ordering.{Ordering}
use Rattle.std.specs.declared.cmp.Ordering.TheVariants.{Less, Equal, Greater}
use Rattle.std.specs.BTreeMap.{BTreeMap, IsEmpty, get, is_at, Updates}
use Rattle.std.specs.Map.{lookup}
use Rattle.std.specs.Cmp.Lexicographic.{slice_cmp}
use Rattle.std.specs.Global.{Vec}
use Rattle.std.proofs.lemmas.List.Folds.{find-append}
use Rattle.std.proofs.lemmas.Bool.Decides.{Decides-int_eq}
use Rattle.std.proofs.lemmas.Slice.Eq.{bytes_eq-Decides}
use Rattle.std.proofs.lemmas.Map.Text.{is_eq-slice_cmp}
use Rattle.protobuf_parse_rules.specs.Claims.{Claim, Thing, Who, first_claim}
use Rattle.protobuf_parse_rules.specs.ClaimsKept.{Claims, Key, Knows}
use Rattle.protobuf_parse_rules.specs.Claims.{Rules, conflict, conflicts}
use Rattle.protobuf_parse_rules.specs.ClaimsKept.{holder_view, key_cmp}
use Rattle.protobuf_parse_rules.specs.Claims.{same_thing, taken}
use Rattle.protobuf_parse_rules.specs.ClaimsKept.{thing_of}
use Rattle.protobuf_parse_rules.specs.Rules.{Breach, Broken, Site, breaches_at, breaches_told}
use Rattle.protobuf_parse_rules.specs.declared.claims.Holder.{Holder}
use Rattle.protobuf_parse_rules.specs.declared.violation.Violation.{Violation}

pub conflicts-append : (rules : Rules) (before xs ys : List Claim)
    → conflicts rules before (xs ++ ys)
    ≡ conflicts rules before xs ++ conflicts rules (before ++ xs) ys
conflicts-append rules before [] ys = ap (λ b. conflicts rules b ys) (sym (append-nil before))
conflicts-append rules before (x ∷ xs) ys =
    ap (λ bs. conflict rules x (first_claim before x.thing) ++ bs)
    (conflicts-append rules (before ++ x ∷ []) xs ys
    ∙ ap (λ b. conflicts rules (before ++ x ∷ []) xs ++ conflicts rules b ys)
    (append_assoc before (x ∷ []) xs))
    ∙ sym (append_assoc (conflict rules x (first_claim before x.thing))
    (conflicts rules (before ++ x ∷ []) xs) (conflicts rules (before ++ (x ∷ xs)) ys))

-- what is told behind what was told
pub told_more : (a b c xs ys : List Breach) → b ≡ a ++ xs → c ≡ b ++ ys → c ≡ a ++ (xs ++ ys)
told_more a b c xs ys p q = q ∙ ap (λ z. z ++ ys) p ∙ append_assoc a xs ys

pub claims_more : (rules : Rules) (a b c : BTreeMap Key Holder) (t u v : Vec Violation)
    (xs ys : List Claim) → Claims rules a b t u xs → Claims rules b c u v ys
    → Claims rules a c t v (xs ++ ys)
claims_more rules a b c t u v xs ys p q = record {
  at = λ before knows.
      let first = p.at before knows in
      let second = q.at (before ++ xs) first.0 in (
        subst (λ b. Knows c b) (append_assoc before xs ys) second.0,
        told_more (breaches_told t) (breaches_told u) (breaches_told v) _ _ first.1 second.1
            ∙ ap (λ bs. breaches_told t ++ bs) (sym (conflicts-append rules before xs ys)),
      );
}

-- ---- one claim

pub is_eq-then : (o p : Ordering) → is_eq (ordering_then o p) ≡ (is_eq o && is_eq p)
is_eq-then Less p = refl
is_eq-then Equal p = refl
is_eq-then Greater p = refl

-- whether two keys are one
pub same_key : (a b : Key) → is_at (key_cmp a) b ≡ same_thing (thing_of a) (thing_of b)
same_key a b =
    is_eq-then (ordering_then (int_cmp a.0 b.0) (slice_cmp nat_cmp a.1.now b.1.now))
    (slice_cmp nat_cmp a.2.now b.2.now)
    ∙ ap (λ z. z && is_eq (slice_cmp nat_cmp a.2.now b.2.now))
    (is_eq-then (int_cmp a.0 b.0) (slice_cmp nat_cmp a.1.now b.1.now)
    ∙ ap (λ z. int_eq a.0 b.0 && z) (is_eq-slice_cmp a.1.now b.1.now))
    ∙ ap (λ z. (int_eq a.0 b.0 && bytes_eq a.1.now b.1.now) && z)
    (is_eq-slice_cmp a.2.now b.2.now)

pub or_none : {X : Type 0} (o : Option X) → option_or o None ≡ o
or_none None = refl
or_none (Some x) = refl

module _ {X : Type 0} (p : X → Bool) (before : List X) (c : X) where
  -- one element more, which the test finds if it found none before
  pub found_more : find p (before ++ c ∷ [])
      ≡ option_or (find p before) (cond (p c) (Some c) None)
  found_more = find-append p before (c ∷ [])

abbrev pub who_of : Claim → Who
who_of c = c.who

-- a new key, and the claim behind the others
by_key : (b : Bool) (h : Holder) (c : Claim) (old : Option Holder) (first : Option Claim)
    → holder_view h ≡ c.who
    → option_map holder_view old ≡ option_map who_of first
    → (b ≡ true → first ≡ None)
    → option_map holder_view (cond b (Some h) old)
    ≡ option_map who_of (option_or first (cond b (Some c) None))
by_key false h c old first e same none = same ∙ ap (option_map who_of) (sym (or_none first))
by_key true h c old first e same none = rw (none refl) (ap Some e)

none_mapped : (first : Option Claim) → None ≡ option_map who_of first → first ≡ None
none_mapped None e = refl
none_mapped (Some x) e = absurd cc

some_mapped : (x : Who) (first : Option Claim) → Some x ≡ option_map who_of first
    → is_some first ≡ true
some_mapped x None e = absurd cc
some_mapped x (Some y) e = refl

both : (a b : Bool) → (a && b) ≡ true → (a ≡ true) × (b ≡ true)
both true true e = (refl, refl)
both true false e = absurd cc
both false b e = absurd cc

-- equal things
pub thing_is : (a b : Thing) → same_thing a b ≡ true → a ≡ b
thing_is a b e =
    let parts = both _ (bytes_eq a.scope b.scope) e in
    let first = both (int_eq a.number b.number) (bytes_eq a.name b.name) parts.0 in
    let numbers : a.number ≡ b.number = (Decides-int_eq a.number b.number).0 first.0 in
    let names : a.name ≡ b.name = (bytes_eq-Decides a.name b.name).0 first.1 in
    let scopes : a.scope ≡ b.scope = (bytes_eq-Decides a.scope b.scope).0 parts.1 in
    ap (λ n. let t : Thing = record { number = n; name = a.name; scope = a.scope } in t) numbers
    ∙ ap (λ n. let t : Thing = record { number = b.number; name = n; scope = a.scope } in t) names
    ∙ ap (λ n. let t : Thing = record { number = b.number; name = b.name; scope = n } in t) scopes

module _ (m : BTreeMap Key Holder) (key : Key) (h : Holder) (before : List Claim) where
  abbrev claim : Claim
  claim = record { thing = thing_of key; who = holder_view h }

  -- equal keys find the same claim
  found_alike : (k : Key) → same_thing (thing_of key) (thing_of k) ≡ true
      → first_claim before (thing_of k) ≡ first_claim before (thing_of key)
  found_alike k e = ap (first_claim before) (sym (thing_is (thing_of key) (thing_of k) e))

  -- a key that was not there, put in
  pub knows_new : (n : BTreeMap Key Holder) → get key_cmp m key ≡ None
      → Updates key_cmp m n key (Some h) → Knows m before → Knows n (before ++ claim ∷ [])
  knows_new n absent updates knows k =
      ap (option_map holder_view) (updates.0 k)
      ∙ by_key (is_at (key_cmp key) k) h claim (get key_cmp m k)
      (first_claim before (thing_of k)) refl (knows k) none
      ∙ ap (option_map who_of)
      (ap (λ z. option_or (first_claim before (thing_of k)) (cond z (Some claim) None))
      (same_key key k)
      ∙ sym (found_more (λ (c : Claim). same_thing c.thing (thing_of k)) before claim))
    where
      none : is_at (key_cmp key) k ≡ true → first_claim before (thing_of k) ≡ None
      none e = found_alike k (sym (same_key key k) ∙ e)
          ∙ none_mapped _ (sym (ap (option_map holder_view) absent) ∙ knows key)

  stays : (first : Option Claim) (b : Bool) → (b ≡ true → is_some first ≡ true)
      → option_or first (cond b (Some claim) None) ≡ first
  stays (Some x) b e = refl
  stays None false e = refl
  stays None true e = let never = e refl in absurd cc

  -- a key that is there already
  pub knows_held : (o : Holder) → get key_cmp m key ≡ Some o → Knows m before
      → Knows m (before ++ claim ∷ [])
  knows_held o held knows k =
      knows k
      ∙ ap (option_map who_of)
      (sym (found_more (λ (c : Claim). same_thing c.thing (thing_of k)) before claim
      ∙ stays (first_claim before (thing_of k)) (same_thing (thing_of key) (thing_of k)) there))
    where
      there : same_thing (thing_of key) (thing_of k) ≡ true
          → is_some (first_claim before (thing_of k)) ≡ true
      there e = ap is_some (found_alike k e)
          ∙ some_mapped (holder_view o) _ (sym (ap (option_map holder_view) held) ∙ knows key)

-- what is found there, by where and what it is
pub found_there : (s site : Site) (a b : Option Broken) → s ≡ site → a ≡ b
    → breaches_at s (a ∷ []) ≡ breaches_at site (b ∷ [])
found_there s site a b p e = ap (λ (x : Site). breaches_at x (a ∷ [])) p
    ∙ ap (λ (x : Option Broken). breaches_at site (x ∷ [])) e

abbrev pub site_of_claim : Claim → Site
site_of_claim c = record { file = c.who.file; construct = c.who.name }

-- what is told of a claim of what someone has
abbrev pub told_of : Rules → Claim → Option Who → List Breach
told_of rules c None = []
told_of rules c (Some other) = taken rules c other

told_is : (rules : Rules) (c : Claim) (first : Option Claim)
    → told_of rules c (option_map who_of first) ≡ conflict rules c first ++ []
told_is rules c None = refl
told_is rules c (Some x) = sym (append-nil (taken rules c x.who))

pub claims_one : (rules : Rules) (m n : BTreeMap Key Holder) (t u : Vec Violation) (c : Claim)
    (found : Option Who)
    → ((before : List Claim) → Knows m before → Knows n (before ++ c ∷ [])
    × (found ≡ option_map who_of (first_claim before c.thing)))
    → breaches_told u ≡ breaches_told t ++ told_of rules c found → Claims rules m n t u (c ∷ [])
claims_one rules m n t u c found knows tells = record {
  at = λ before before_known.
      let both = knows before before_known in (
        both.0,
        tells ∙ ap (λ bs. breaches_told t ++ bs)
            (ap (told_of rules c) both.1 ∙ told_is rules c _),
      );
}

-- the same claim
pub claims_alike : (rules : Rules) (m n : BTreeMap Key Holder) (t u : Vec Violation) (c d : Claim)
    → Claims rules m n t u (c ∷ []) → c ≡ d → Claims rules m n t u (d ∷ [])
claims_alike rules m n t u c d there same =
    subst (λ (x : Claim). Claims rules m n t u (x ∷ [])) same there

-- one claim more
pub claims_step : (rules : Rules) (m a b : BTreeMap Key Holder) (t u v : Vec Violation)
    (before all : List Claim) (c : Claim) → Claims rules m a t u before
    → Claims rules a b u v (c ∷ []) → all ≡ before ++ c ∷ [] → Claims rules m b t v all
claims_step rules m a b t u v before all c first second is =
    subst (λ (cs : List Claim). Claims rules m b t v cs) (sym is)
    (claims_more rules m a b t u v before (c ∷ []) first second)

pub nothing_known : (m : BTreeMap Key Holder) → IsEmpty m → Knows m []
nothing_known m empty k =
    ap (λ es. option_map holder_view (lookup (is_at (key_cmp k)) es)) empty

-- what was told of claims by a map that began empty
pub claims_all : (rules : Rules) (m n : BTreeMap Key Holder) (t u : Vec Violation)
    (cs all : List Claim) → Claims rules m n t u cs → IsEmpty m → cs ≡ all
    → breaches_told u ≡ breaches_told t ++ conflicts rules [] all
claims_all rules m n t u cs all there empty is =
    (there.at [] (nothing_known m empty)).1
    ∙ ap (λ (x : List Claim). breaches_told t ++ conflicts rules [] x) is
