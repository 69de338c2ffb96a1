-- Ways back through a set, along public imports.
use Rattle.std.proofs.Common.{◌≡◌, ◌∙◌, ℕ, zero, suc, ◌+◌, ◌≤◌, ◌<◌, max, List, [], ◌∷◌, ◌++◌}
use Rattle.std.proofs.Common.{length, get_or, sym, ap, arith, refl, subst, Bool, true, false, ◌||◌}
use Rattle.std.proofs.Common.{Some, None, take, ℤ, append-nil}
use Rattle.std.proofs.lemmas.Grind.{flat_map-append}
use Rattle.std.specs.Prelude.{flat_map, option_to_list, if◌then◌else◌}
use Rattle.std.specs.Global.{Vec}
use Rattle.std.specs.Prelude.{Option, cond, nat_eq, nat_le, nat_lt, slice_get, unwrap_or}
use Rattle.std.specs.BTreeMap.{is_at}
use Rattle.std.specs.BTreeSet.{insert_key}
use Rattle.std.specs.List.{All, list_any}
use Rattle.std.specs.Ordering.{is_eq, match_ordering, nat_cmp}
use Rattle.std.specs.declared.cmp.Ordering.{Ordering}
use Rattle.std.specs.declared.cmp.Ordering.TheVariants.{Less, Equal, Greater}
use Rattle.std.proofs.lemmas.Bool.{eqb-true, leb-false, leb-true, ltb-true, ltb-false}
use Rattle.std.proofs.lemmas.List.{take_more}
use Rattle.std.proofs.lemmas.List.Folds.{list_any-append}
use Rattle.protobuf_parse_model.proofs.Ascending.{eqb_comm}
use Rattle.protobuf_parse_model.proofs.Tables.{same_number}
use Rattle.protobuf_parse_model.specs.Descriptors.{FileDescriptor, Text}
use Rattle.protobuf_parse_set_rules.specs.Positions.{at_index, by_position}
use Rattle.protobuf_parse_set_rules.specs.Sights.{Paths, before, file_before, files_before}
use Rattle.protobuf_parse_set_rules.specs.Sights.{hands_on, public_paths, publics_at, publics_of}
use Rattle.protobuf_parse_set_rules.specs.Steps.{GoBack, IsBelow}
use Rattle.protobuf_parse_set_rules.specs.Held.{lists_view}

or_false : (b : Bool) → (b || false) ≡ b
or_false true = refl
or_false false = refl

-- ---- lists of numbers below one

pub below_head : (n x : ℕ) (xs : List ℕ) → IsBelow n (x ∷ xs) → x < n
below_head n x xs all = all 0 x (omega arith)

pub below_tail : (n x : ℕ) (xs : List ℕ) → IsBelow n (x ∷ xs) → IsBelow n xs
below_tail n x xs all = λ k d lt. all (suc k) d (omega (arith, lt))

same_below : (n : ℕ) (p q : ℕ → Bool) (xs : List ℕ) → IsBelow n xs
    → ((x : ℕ) → x < n → p x ≡ q x) → list_any p xs ≡ list_any q xs
same_below n p q [] all same = refl
same_below n p q (x ∷ xs) all same =
    ap (λ b. b || list_any p xs) (same x (below_head n x xs all))
    ∙ ap (λ b. q x || b) (same_below n p q xs (below_tail n x xs all) same)

none_below : (p : ℕ → Bool) (xs : List ℕ) → IsBelow 0 xs → list_any p xs ≡ false
none_below p [] all = refl
none_below p (x ∷ xs) all = absurd (omega (arith, below_head 0 x xs all))

-- ---- more steps than there are files

module _ (publics : List (List ℕ)) (back : GoBack publics) (to : ℕ) where
  steps_more : (most from : ℕ) → from ≤ most
      → hands_on publics (suc most) from to ≡ hands_on publics most from to
  steps_more zero from le =
      let first : from ≡ 0 = omega (arith, le) in
      let none : list_any (λ via. hands_on publics zero via to) (publics_at publics from) ≡ false =
      none_below (λ via. hands_on publics zero via to) (publics_at publics from)
      (subst (λ n. IsBelow n (publics_at publics from)) first (back from)) in
      ap (λ b. nat_eq from to || b) none ∙ or_false (nat_eq from to)
  steps_more (suc most) from le =
      ap (λ b. nat_eq from to || b)
      (same_below from (λ via. hands_on publics (suc most) via to)
      (λ via. hands_on publics most via to) (publics_at publics from) (back from)
      (λ via lt. steps_more most via (omega (arith, le, lt))))

  past_all : (ps : List (List ℕ)) (n : ℕ) → length ps ≤ n
      → unwrap_or (slice_get ps n) [] ≡ []
  past_all [] n le = refl
  past_all (p ∷ ps) zero le = absurd (omega (arith, le))
  past_all (p ∷ ps) (suc n) le = past_all ps n (omega (arith, le))

  alone : (most from : ℕ) → publics_at publics from ≡ []
      → hands_on publics most from to
      ≡ (nat_eq from to || list_any (λ via. hands_on publics most via to) (publics_at publics from))
  alone zero from none =
      sym (ap (λ (ps : List ℕ). nat_eq from to
      || list_any (λ via. hands_on publics zero via to) ps) none ∙ or_false (nat_eq from to))
  alone (suc most) from none =
      ap (λ (ps : List ℕ). nat_eq from to || list_any (λ via. hands_on publics most via to) ps) none
      ∙ sym (ap (λ (ps : List ℕ). nat_eq from to
      || list_any (λ via. hands_on publics (suc most) via to) ps) none)

  by_test : (from : ℕ) (b : Bool) → nat_lt from (length publics) ≡ b
      → hands_on publics (length publics) from to
      ≡ (nat_eq from to
      || list_any (λ via. hands_on publics (length publics) via to) (publics_at publics from))
  by_test from true e =
      sym (steps_more (length publics) from (omega (arith, ltb-true from (length publics) e)))
  by_test from false e =
      alone (length publics) from (past_all publics from (ltb-false from (length publics) e))

  -- a file hands on itself, and what those that it imports publicly hand on
  pub one_step : (from : ℕ)
      → hands_on publics (length publics) from to
      ≡ (nat_eq from to
      || list_any (λ via. hands_on publics (length publics) via to) (publics_at publics from))
  one_step from = by_test from (nat_lt from (length publics)) refl

-- ---- sets of positions

put_before : (k x : ℕ) (h : ℕ → Bool) (rest put : Bool) (o : Ordering) → nat_cmp k x ≡ o
    → put ≡ (rest || h k) → (keys : List ℕ) (xs : List ℕ)
    → list_any h xs ≡ rest → list_any h keys ≡ put
    → list_any h (match_ordering o (k ∷ x ∷ xs) (x ∷ xs) (x ∷ keys)) ≡ ((h x || rest) || h k)
put_before k x h rest put Less e is keys xs r p =
    ap (λ b. h k || (h x || b)) r ∙ turned (h k) (h x) rest
  where
    turned : (a b c : Bool) → (a || (b || c)) ≡ ((b || c) || a)
    turned true true c = refl
    turned true false true = refl
    turned true false false = refl
    turned false true c = refl
    turned false false true = refl
    turned false false false = refl
put_before k x h rest put Equal e is keys xs r p =
    ap (λ b. h x || b) r
    ∙ twice (h x) rest ∙ ap (λ z. (h x || rest) || h z) (sym (same k x e))
  where
    twice : (a b : Bool) → (a || b) ≡ ((a || b) || a)
    twice true b = refl
    twice false true = refl
    twice false false = refl

    same : (k x : ℕ) → nat_cmp k x ≡ Equal → k ≡ x
    same k x e = eqb-true k x (sym (same_number k x) ∙ ap is_eq e)
put_before k x h rest put Greater e is keys xs r p =
    ap (λ b. h x || b) (p ∙ is) ∙ moved (h x) rest (h k)
  where
    moved : (a b c : Bool) → (a || (b || c)) ≡ ((a || b) || c)
    moved true b c = refl
    moved false b c = refl

-- one more position
pub any_put : (h : ℕ → Bool) (ks : List ℕ) (k : ℕ)
    → list_any h (insert_key nat_cmp ks k) ≡ (list_any h ks || h k)
any_put h [] k = or_false (h k)
any_put h (x ∷ xs) k =
    put_before k x h (list_any h xs) (list_any h (insert_key nat_cmp xs k)) (nat_cmp k x) refl
    (any_put h xs k) (insert_key nat_cmp xs k) xs refl refl

-- whether it is that one
pub at_same : (to k : ℕ) → is_at (nat_cmp to) k ≡ nat_eq k to
at_same to k = same_number to k ∙ eqb_comm to k

-- ---- on the way back

-- one more than the greatest
abbrev pub top : List ℕ → ℕ
top [] = 0
top (x ∷ xs) = max (suc x) (top xs)

pub top_popped : (xs : List ℕ) (n : ℕ) → n < top (xs ++ n ∷ [])
top_popped [] n = omega arith
top_popped (x ∷ xs) n = omega (arith, top_popped xs n)

either : (a b : Bool) → (a || b) ≡ false → (a ≡ false) × (b ≡ false)
either true b e = absurd cc
either false b e = (refl, e)

-- none is as great as n
pub top_below : (n : ℕ) (xs : List ℕ) → list_any (nat_le n) xs ≡ false → top xs ≤ n
top_below n [] none = omega arith
top_below n (x ∷ xs) none =
    let both = either (nat_le n x) (list_any (nat_le n) xs) none in
    omega (arith, leb-false n x both.0, top_below n xs both.1)

pub none_as_great : (n : ℕ) (xs : List ℕ) → IsBelow n xs → list_any (nat_le n) xs ≡ false
none_as_great n [] all = refl
none_as_great n (x ∷ xs) all =
    ap (λ b. b || list_any (nat_le n) xs) (lt_leb n x (below_head n x xs all))
    ∙ none_as_great n xs (below_tail n x xs all)
  where
    by_case : (n x : ℕ) (b : Bool) → nat_le n x ≡ b → x < n → b ≡ false
    by_case n x true e lt = absurd (omega (arith, leb-true n x e, lt))
    by_case n x false e lt = refl

    lt_leb : (n x : ℕ) → x < n → nat_le n x ≡ false
    lt_leb n x lt = by_case n x (nat_le n x) refl lt

less_is : (q k : ℕ) (b c : Bool) → nat_lt q k ≡ b → cond b Less (cond c Equal Greater) ≡ Less
    → q < k
less_is q k true c e is = ltb-true q k e
less_is q k false true e is = absurd cc
less_is q k false false e is = absurd cc

-- the keys that stand before one
pub below_key : (n : ℕ) (xs : List ℕ) → All (λ q. nat_cmp q n ≡ Less) xs → IsBelow n xs
below_key n xs all = λ k d lt.
    let x = get_or xs k d in
    less_is x n (nat_lt x n) (nat_eq x n) refl (all k d lt)

-- the last is popped, and the files that it imports publicly are put in its stead
pub swept : (s e o q h : Bool) → h ≡ (e || q)
    → ((s || e) || (o || q)) ≡ (s || (o || (h || false)))
swept true e o q h is = refl
swept false e o q h is = ap (λ z. e || z) refl ∙ moved e o q ∙ ap (λ z. o || (z || false)) (sym is)
  where
    moved : (e o q : Bool) → (e || (o || q)) ≡ (o || ((e || q) || false))
    moved true true q = refl
    moved true false q = refl
    moved false true q = refl
    moved false false true = refl
    moved false false false = refl

-- the measure is smaller then
pub smaller : (opened popped new given : List ℕ) (last : ℕ) → opened ≡ popped ++ last ∷ []
    → All (λ q. nat_cmp q last ≡ Less) popped → IsBelow last given
    → ((test : ℕ → Bool) → list_any test new ≡ (list_any test popped || list_any test given))
    → top new < top opened
smaller opened popped new given last is before below puts =
    let none : list_any (nat_le last) new ≡ false = puts (nat_le last)
    ∙ ap (λ b. b || list_any (nat_le last) given)
    (none_as_great last popped (below_key last popped before))
    ∙ none_as_great last given below in
    let least : top new ≤ last = top_below last new none in
    let most : last < top opened = subst (λ ks. last < top ks) (sym is) (top_popped popped last) in
    omega (arith, least, most)

module _ (publics : List (List ℕ)) (back : GoBack publics) (to : ℕ) where
  -- what is seen and what is open tell the same then
  pub kept : (opened popped new given seen after : List ℕ) (last : ℕ) (target : Bool)
      → opened ≡ popped ++ last ∷ [] → given ≡ publics_at publics last
      → ((test : ℕ → Bool) → list_any test new ≡ (list_any test popped || list_any test given))
      → after ≡ insert_key nat_cmp seen last
      → (list_any (is_at (nat_cmp to)) seen
      || list_any (λ via. hands_on publics (length publics) via to) opened) ≡ target
      → (list_any (is_at (nat_cmp to)) after
      || list_any (λ via. hands_on publics (length publics) via to) new) ≡ target
  kept opened popped new given seen after last target is at puts put before =
      let h : ℕ → Bool = λ via. hands_on publics (length publics) via to in
      let was = list_any (is_at (nat_cmp to)) seen in
      let left = list_any h popped in
      let next = list_any h (publics_at publics last) in
      ap (λ b. b || list_any h new) (ap (list_any (is_at (nat_cmp to))) put
      ∙ any_put (is_at (nat_cmp to)) seen last ∙ ap (λ b. was || b) (at_same to last))
      ∙ ap (λ b. (was || nat_eq last to) || b) (puts h ∙ ap (λ ps. left || list_any h ps) at)
      ∙ swept was (nat_eq last to) left next (h last) (one_step publics back to last)
      ∙ ap (λ b. was || b) (sym (list_any-append h popped (last ∷ [])) ∙ ap (list_any h) (sym is))
      ∙ before

-- ---- lists of lists

-- the list at that position
pub listed : (ls : List (Vec ℕ)) (n : ℕ) (l : Vec ℕ) → n < length ls → l ≡ get_or ls n l
    → l.items ≡ publics_at (lists_view ls) n
listed [] n l lt is = absurd (omega (arith, lt))
listed (x ∷ ls) zero l lt is = ap (λ (y : Vec ℕ). y.items) is
listed (x ∷ ls) (suc n) l lt is = listed ls n l (omega (arith, lt)) is

-- there is none behind the last
pub unlisted : (ls : List (Vec ℕ)) (n : ℕ) → length ls ≤ n → [] ≡ publics_at (lists_view ls) n
unlisted [] n le = refl
unlisted (x ∷ ls) zero le = absurd (omega (arith, le))
unlisted (x ∷ ls) (suc n) le = unlisted ls n (omega (arith, le))

-- one more of the positions that are put in
pub any_more : (test : ℕ → Bool) (ps : List ℕ) (i d : ℕ) (new now before : Bool)
    → i < length ps → new ≡ (now || test (get_or ps i d))
    → now ≡ (before || list_any test (take i ps))
    → new ≡ (before || list_any test (take (i + 1) ps))
any_more test ps i d new now before lt puts so_far =
    let k = get_or ps i d in
    puts ∙ ap (λ b. b || test k) so_far
    ∙ moved before (list_any test (take i ps)) (test k)
    ∙ ap (λ b. before || b)
    (sym (ap (list_any test) (take_more ps i d lt)
    ∙ list_any-append test (take i ps) (k ∷ [])))
  where
    moved : (a b c : Bool) → ((a || b) || c) ≡ (a || (b || (c || false)))
    moved true b c = refl
    moved false true c = refl
    moved false false true = refl
    moved false false false = refl

-- ---- imports

-- the path at that position of the imports
abbrev pub path_at : List Text → ℤ → List Text
path_at imports i = option_to_list (at_index imports i)

-- one more public import
pub publics_more : (paths : Paths) (n : ℕ) (imports : List Text) (is : List ℤ) (i : ℕ) (d : ℤ)
    → i < length is
    → files_before paths n (flat_map (path_at imports) (take (i + 1) is))
    ≡ files_before paths n (flat_map (path_at imports) (take i is))
    ++ files_before paths n (path_at imports (get_or is i d))
publics_more paths n imports is i d lt =
    ap (λ js. files_before paths n (flat_map (path_at imports) js)) (take_more is i d lt)
    ∙ ap (files_before paths n) (flat_map-append (path_at imports) (take i is) (get_or is i d ∷ [])
    ∙ ap (λ ps. flat_map (path_at imports) (take i is) ++ ps)
    (append-nil (path_at imports (get_or is i d))))
    ∙ flat_map-append (λ (path : Text). option_to_list (file_before paths n path))
    (flat_map (path_at imports) (take i is)) (path_at imports (get_or is i d))

below_none : (n : ℕ) → IsBelow n []
below_none n = λ k d lt. absurd (omega (arith, lt))

below_more : (n x : ℕ) (xs : List ℕ) → x < n → IsBelow n xs → IsBelow n (x ∷ xs)
below_more n x xs first all = λ k d lt. at n x xs first all k d lt
  where
    at : (n x : ℕ) (xs : List ℕ) → x < n → IsBelow n xs → (k d : ℕ) → k < length (x ∷ xs)
        → get_or (x ∷ xs) k d < n
    at n x xs first all zero d lt = first
    at n x xs first all (suc k) d lt = all k d (omega (arith, lt))

below_both : (n : ℕ) (xs ys : List ℕ) → IsBelow n xs → IsBelow n ys → IsBelow n (xs ++ ys)
below_both n [] ys a b = b
below_both n (x ∷ xs) ys a b =
    below_more n x (xs ++ ys) (below_head n x xs a) (below_both n xs ys (below_tail n x xs a) b)

-- the positions that are found stand before
before_is : (n : ℕ) (o : Option ℕ) → IsBelow n (option_to_list (before n o))
before_is n None = below_none n
before_is n (Some p) = by_case n p (nat_lt p n) refl
  where
    by_case : (n p : ℕ) (b : Bool) → nat_lt p n ≡ b
        → IsBelow n (option_to_list (if b then Some p else None))
    by_case n p true e = below_more n p [] (ltb-true p n e) (below_none n)
    by_case n p false e = below_none n

pub all_before : (paths : Paths) (n : ℕ) (wanted : List Text)
    → IsBelow n (files_before paths n wanted)
all_before paths n [] = below_none n
all_before paths n (w ∷ ws) =
    below_both n (option_to_list (file_before paths n w)) (files_before paths n ws)
    (before_is n (paths w)) (all_before paths n ws)

at_each : (paths : Paths) (first n : ℕ) (fs : List FileDescriptor)
    → IsBelow (first + n) (publics_at (by_position (λ m (f : FileDescriptor).
    files_before paths m (public_paths f) ∷ []) first fs) n)
at_each paths first n [] = below_none (first + n)
at_each paths first zero (f ∷ fs) =
    subst (λ m. IsBelow m (files_before paths first (public_paths f))) (none_more first)
    (all_before paths first (public_paths f))
  where
    none_more : (m : ℕ) → m ≡ m + 0
    none_more m = omega arith
at_each paths first (suc n) (f ∷ fs) =
    subst (λ m. IsBelow m (publics_at (by_position (λ m (g : FileDescriptor).
    files_before paths m (public_paths g) ∷ []) (first + 1) fs) n)) (one_more first n)
    (at_each paths (first + 1) n fs)
  where
    one_more : (m k : ℕ) → (m + 1) + k ≡ m + suc k
    one_more m k = omega arith

-- public imports go back
pub publics_back : (paths : Paths) (files : List FileDescriptor) → GoBack (publics_of paths files)
publics_back paths files n =
    subst (λ m. IsBelow m (publics_at (publics_of paths files) n)) (no_more n)
    (at_each paths 0 n files)
  where
    no_more : (m : ℕ) → 0 + m ≡ m
    no_more m = omega arith
