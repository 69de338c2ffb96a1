-- The first of texts that are one.
use Rattle.std.proofs.Common.{◌≡◌, ◌∙◌, ℕ, ◌+◌, ◌<◌, suc, List, [], ◌∷◌, ◌++◌, take, get_or}
use Rattle.std.proofs.Common.{length, sym, ap, arith, refl, Bool, true, false, cond, Some, None}
use Rattle.std.specs.Prelude.{Option, bytes_eq}
use Rattle.std.specs.Borrow.{Bor}
use Rattle.std.specs.BTreeMap.{BTreeMap, UpdatesBy}
use Rattle.std.specs.Cmp.Lexicographic.{slice_cmp}
use Rattle.std.specs.Option.{option_or}
use Rattle.std.specs.Ordering.{nat_cmp}
use Rattle.std.proofs.lemmas.List.{length-map, length-take}
use Rattle.std.proofs.lemmas.Map.Text.{btree_map_updates_str}
use Rattle.std.proofs.lemmas.Slice.Eq.{bytes_eq-Decides}
use Rattle.protobuf_parse_model.specs.Descriptors.{Text}
use Rattle.protobuf_parse_set_rules.specs.Positions.{position_from, position_in}
use Rattle.protobuf_parse_set_rules.specs.Held.{positions_view, texts_of}
use Rattle.protobuf_parse_set_rules.proofs.Lists.{mapped_next}

-- ---- one more text

-- the position, if the text is this one
abbrev pub at_text : Text → Text → ℕ → Option ℕ
at_text t other n = cond (bytes_eq t other) (Some n) None

none_more : (n : ℕ) → n ≡ n + 0
none_more n = omega arith

one_more : (n k : ℕ) → (n + 1) + k ≡ n + suc k
one_more n k = omega arith

at_first : (b : Bool) (n : ℕ) (all front last : Option ℕ) → all ≡ option_or front last
    → cond b (Some n) all ≡ option_or (cond b (Some n) front) last
at_first true n all front last e = refl
at_first false n all front last e = e

position_last : (n : ℕ) (ts : List Text) (t other : Text)
    → position_from n (ts ++ t ∷ []) other
    ≡ option_or (position_from n ts other) (at_text t other (n + length ts))
position_last n [] t other = ap (at_text t other) (none_more n)
position_last n (s ∷ ts) t other =
    at_first (bytes_eq s other) n (position_from (n + 1) (ts ++ t ∷ []) other)
    (position_from (n + 1) ts other) (at_text t other (n + suc (length ts)))
    (position_last (n + 1) ts t other
    ∙ ap (λ k. option_or (position_from (n + 1) ts other) (at_text t other k))
    (one_more n (length ts)))

-- the first ones, and one more
pub one_more_text : (ts : List (Bor (List ℕ))) (i : ℕ) (d : Bor (List ℕ)) (other : Text)
    → i < length ts
    → position_in (texts_of (take (i + 1) ts)) other
    ≡ option_or (position_in (texts_of (take i ts)) other) (at_text (get_or ts i d).now other i)
one_more_text ts i d other lt =
    let t = get_or ts i d in
    ap (λ us. position_in us other) (mapped_next (λ (s : Bor (List ℕ)). s.now) ts i d lt)
    ∙ position_last 0 (texts_of (take i ts)) t.now other
    ∙ ap (λ k. option_or (position_in (texts_of (take i ts)) other) (at_text t.now other k))
    (taken ts i lt)
  where
    taken : (ts : List (Bor (List ℕ))) (i : ℕ) → i < length ts
        → 0 + length (texts_of (take i ts)) ≡ i
    taken ts i lt =
        omega (arith, length-map (take i ts) (λ (s : Bor (List ℕ)). s.now), length-take i ts, lt)

-- ---- in a map

if_absent : (o : Option ℕ) (b : Bool) (n : ℕ) → (b ≡ true → o ≡ None)
    → cond b (Some n) o ≡ option_or o (cond b (Some n) None)
if_absent o true n none = ap (λ z. option_or z (Some n)) (sym (none refl))
if_absent None false n none = refl
if_absent (Some x) false n none = refl

-- A text that was absent is put in.
pub put_in : (old new : BTreeMap (Bor (List ℕ)) ℕ) (key : Text) (n : ℕ)
    → positions_view old key ≡ None
    → UpdatesBy (λ (x y : Bor (List ℕ)). slice_cmp nat_cmp x.now y.now)
    (λ (k : Bor (List ℕ)). slice_cmp nat_cmp key k.now) old new (Some n)
    → (other : Text)
    → positions_view new other ≡ option_or (positions_view old other) (at_text key other n)
put_in old new key n absent updates other =
    btree_map_updates_str key old new (Some n) updates other
    ∙ if_absent (positions_view old other) (bytes_eq key other) n
    (λ e. ap (positions_view old) (sym ((bytes_eq-Decides key other).0 e)) ∙ absent)
