-- The members of oneofs among values that stand behind.
use Rattle.std.proofs.Common.{◌≡◌, ℕ, ◌==◌, Bool, true, false, not, ◌&&◌, ◌||◌, List, [], ◌∷◌, ◌++◌}
use Rattle.std.proofs.Common.{Option, Some, None, cond, refl, sym, ap, ◌∙◌, reverse, append-nil, arith, subst}
use Rattle.std.proofs.Common.{map}
use Rattle.std.proofs.lemmas.List.{map-append, reverse-append}
use Rattle.std.specs.List.{list_any}
use Rattle.std.proofs.lemmas.Bool.{eqb-true}
use Rattle.std.proofs.lemmas.Bool.Decides.{nat_tests}
use Rattle.protobuf_parse_merged.specs.declared.oneofs.Members.{Members}
use Rattle.protobuf_parse_merged.specs.declared.oneofs.Members.TheVariants.{One, Several}
use Rattle.protobuf_parse_merged.specs.Occurrences.{Held, Occurrence}
use Rattle.protobuf_parse_merged.specs.Oneofs.{counting, replaces}
use Rattle.protobuf_parse_merged.specs.Behind.{HasMembers, members_of, next_members, replaced_by}
use Rattle.std.specs.BTreeMap.{BTreeMap, get}
use Rattle.std.specs.Ordering.{nat_cmp}

or_true : (a : Bool) → (a || true) ≡ true
or_true true = refl
or_true false = refl

or_false : (a : Bool) → (a || false) ≡ a
or_false true = refl
or_false false = refl

or_self : (a : Bool) → (a || a) ≡ a
or_self true = refl
or_self false = refl

both_other : (m q n : ℕ) → (q == m) ≡ false → (not (m == n) || not (q == n)) ≡ true
both_other m q n other = grind (arith, nat_tests)

two_at : (q m n : ℕ) (b : Bool) → (q == m) ≡ b
    → (not (m == n) || not (q == n)) ≡ replaced_by (Some (cond b (One q) Several)) n
two_at q m n true is =
    let same : q ≡ m = eqb-true q m is in
    ap (λ (x : ℕ). not (x == n) || not (q == n)) (sym same) ∙ or_self (not (q == n))
two_at q m n false is = both_other m q n is

step : (b : Bool) (members : Option Members) (m n : ℕ) (a : Bool) → a ≡ replaced_by members n
    → ((b && not (m == n)) || a) ≡ replaced_by (next_members b m members) n
step false members m n a e = e
step true None m n a e = ap (λ (x : Bool). not (m == n) || x) e ∙ or_false (not (m == n))
step true (Some Several) m n a e = ap (λ (x : Bool). not (m == n) || x) e ∙ or_true (not (m == n))
step true (Some (One q)) m n a e =
    ap (λ (x : Bool). not (m == n) || x) e ∙ two_at q m n (q == m) refl

-- a value of a member
pub any_of_member : (k n : ℕ) (h : Held) (os : List Occurrence)
    → list_any (replaces (record { number = n; oneof = Some k; held = h })) os
    ≡ replaced_by (members_of k os) n
any_of_member k n h [] = refl
any_of_member k n h (o ∷ os) =
    step _ (members_of k os) o.number n _ (any_of_member k n h os)

-- a value of no oneof
pub any_of_none : (n : ℕ) (h : Held) (os : List Occurrence)
    → list_any (replaces (record { number = n; oneof = None; held = h })) os ≡ false
any_of_none n h [] = refl
any_of_none n h (o ∷ os) = any_of_none n h os

-- ---- backwards

pub map_reverse : {X Y : Type 0} (f : X → Y) (xs : List X) → map f (reverse xs) ≡ reverse (map f xs)
map_reverse f [] = refl
map_reverse {X} {Y} f (x ∷ xs) =
    ap (map f) (reverse-append (x ∷ []) xs)
    ∙ map-append f (reverse xs) (x ∷ [])
    ∙ ap (λ (ys : List Y). ys ++ f x ∷ []) (map_reverse f xs)
    ∙ sym (reverse-append (f x ∷ []) (map f xs))

reversed_at : (b : Bool) (o : Occurrence) (kept os : List Occurrence) → reverse kept ≡ os
    → reverse (kept ++ cond b [] (o ∷ [])) ≡ cond b os (o ∷ os)
reversed_at true o kept os e = ap reverse (append-nil kept) ∙ e
reversed_at false o kept os e =
    reverse-append kept (o ∷ []) ∙ ap (λ (x : List Occurrence). o ∷ x) e

-- one value more, in front of those behind
pub counts_next : (o : Occurrence) (kept os : List Occurrence) (b : Bool)
    → b ≡ list_any (replaces o) os → reverse kept ≡ counting os
    → reverse (kept ++ cond b [] (o ∷ [])) ≡ counting (o ∷ os)
counts_next o kept os b is e =
    reversed_at b o kept (counting os) e
    ∙ ap (λ (x : Bool). cond x (counting os) (o ∷ counting os)) is

-- ---- as a map has them

module _ (old new : BTreeMap ℕ Members) (os : List Occurrence) (n : ℕ) (h : Held) where
  pub noted : (j : ℕ) → HasMembers old os
      → ((k : ℕ) → get nat_cmp new k ≡ next_members (k == j) n (get nat_cmp old k))
      → HasMembers new (record { number = n; oneof = Some j; held = h } ∷ os)
  noted j has put = record {
    at = λ k. put k ∙ ap (next_members (k == j) n) (has.at k);
  }

  pub none_noted : HasMembers old os
      → HasMembers old (record { number = n; oneof = None; held = h } ∷ os)
  none_noted has = record { at = λ k. has.at k }

-- the same where the oneof is known by an equation
module _ (x : Option ℕ) (n : ℕ) (h : Held) (os : List Occurrence) where
  abbrev Here : Option ℕ → Occurrence
  Here o = record { number = n; oneof = o; held = h }

  pub any_by : (k : ℕ) → x ≡ Some k
      → list_any (replaces (Here x)) os ≡ replaced_by (members_of k os) n
  any_by k is =
      ap (λ (o : Option ℕ). list_any (replaces (Here o)) os) is ∙ any_of_member k n h os

  pub any_by_none : x ≡ None → list_any (replaces (Here x)) os ≡ false
  any_by_none is = ap (λ (o : Option ℕ). list_any (replaces (Here o)) os) is ∙ any_of_none n h os

  pub noted_by : (old new : BTreeMap ℕ Members) (j : ℕ) → x ≡ Some j → HasMembers old os
      → ((k : ℕ) → get nat_cmp new k ≡ next_members (k == j) n (get nat_cmp old k))
      → HasMembers new (Here x ∷ os)
  noted_by old new j is has put =
      subst (λ (o : Option ℕ). HasMembers new (Here o ∷ os)) (sym is)
      (noted old new os n h j has put)

  pub none_by : (old : BTreeMap ℕ Members) → x ≡ None → HasMembers old os
      → HasMembers old (Here x ∷ os)
  none_by old is has =
      subst (λ (o : Option ℕ). HasMembers old (Here o ∷ os)) (sym is) (none_noted old old os n h has)
