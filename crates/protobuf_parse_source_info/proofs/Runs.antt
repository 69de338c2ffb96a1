-- Runs of tokens, a token at a time.
use Rattle.std.proofs.Common.{◌≡◌, ℕ, ◌+◌, ◌-◌, ◌<◌, ◌≤◌, Bool, true, false, ◌&&◌, ◌==◌, List, []}
use Rattle.std.proofs.Common.{◌∷◌, ◌++◌, length, refl, sym, ap, ap₂, ◌∙◌, arith, Some, None}
use Rattle.std.proofs.Common.{codes, cond, subst}
use Rattle.std.proofs.lemmas.List.{append-nil}
use Rattle.protobuf_parse_lexer.specs.Text.{Bytes}
use Rattle.protobuf_parse_source_info.specs.Spots.{Spot}
use Rattle.protobuf_parse_source_info.specs.Walks.{Walk, Ahead, Located, first, sees, first_is}
use Rattle.protobuf_parse_source_info.specs.Walks.{past}
use Rattle.protobuf_parse_source_info.specs.Walks.{past_first, taking, one, if_next, behind, gap}
use Rattle.protobuf_parse_source_info.specs.Walks.{with_left, past_first_empty, opens}
use Rattle.protobuf_parse_source_info.specs.Walks.{past_empties, empties, past_dots, dots, closes}
use Rattle.protobuf_parse_source_info.specs.Walks.{deeper, ends_item, past_item, up_to_end_in}
use Rattle.protobuf_parse_source_info.specs.InnerViews.{Doing, ran, Takes, one_empty}

-- with other tokens left
abbrev pub moved : (Ahead → Ahead) → Doing → Doing
moved f d = record { found = d.found; ahead = f d.ahead }

ran_taking : (f : Ahead → Ahead) (d : Doing) → ran (taking f) d ≡ moved f d
unfolding ran
ran_taking f d =
    ap (λ (l : List Located). record { found = l; ahead = f d.ahead }) (append-nil d.found)

-- where two ways to go on come to the same
moved_to : (f g h : Ahead → Ahead) (d : Doing) → f (g d.ahead) ≡ h d.ahead
    → ran (taking f) (ran (taking g) d) ≡ ran (taking h) d
moved_to f g h d e =
    ap (ran (taking f)) (ran_taking g d) ∙ ran_taking f (moved g d)
    ∙ ap (λ (a : Ahead). record { found = d.found; ahead = a }) e
    ∙ sym (ran_taking h d)

-- where there is nothing to take
stays : (f : Ahead → Ahead) (d : Doing) → f d.ahead ≡ d.ahead → d ≡ ran (taking f) d
stays f d e =
    sym (ran_taking f d ∙ ap (λ (a : Ahead). record { found = d.found; ahead = a }) e)

-- ---- a choice

pub next_then : (w : Bytes) {v : Walk} (u : Walk) {d d1 : Doing} → sees w d.ahead ≡ true
    → Takes v d d1 → Takes (if_next w v u) d d1
unfolding ran if_next
next_then w {v} u {d} {d1} e f = record { is = f.is ∙ go (sees w d.ahead) e }
  where
    go : (b : Bool) → b ≡ true → (let x : Doing = record {
      found = d.found ++ (cond b (v d.ahead) (u d.ahead)).found;
      ahead = (cond b (v d.ahead) (u d.ahead)).left;
    } in ran v d ≡ x)
    go true e = refl
    go false e = absurd cc

pub next_else : (w : Bytes) (v : Walk) {u : Walk} {d d1 : Doing} → sees w d.ahead ≡ false
    → Takes u d d1 → Takes (if_next w v u) d d1
unfolding ran if_next
next_else w v {u} {d} {d1} e f = record { is = f.is ∙ go (sees w d.ahead) e }
  where
    go : (b : Bool) → b ≡ false → (let x : Doing = record {
      found = d.found ++ (cond b (v d.ahead) (u d.ahead)).found;
      ahead = (cond b (v d.ahead) (u d.ahead)).left;
    } in ran u d ≡ x)
    go false e = refl
    go true e = absurd cc

-- ---- one token less

first_fewer : (t : Spot) (a : Ahead) (ts : List Spot) → Some t ≡ first ts
    → length (past_first a ts).tokens + 1 ≡ length ts
first_fewer t a [] e = absurd cc
first_fewer t a (u ∷ ts) e = omega arith

seen_fewer : (w : Bytes) (a : Ahead) (ts : List Spot) → first_is w (first ts) ≡ true
    → length (past_first a ts).tokens < length ts
seen_fewer w a [] e = absurd cc
seen_fewer w a (t ∷ ts) e = omega arith

empty_first_fewer : (w : Bytes) (a : Ahead) (ts : List Spot) → first_is w (first ts) ≡ true
    → length (past_first_empty a ts).tokens < length ts
empty_first_fewer w a [] e = absurd cc
empty_first_fewer w a (t ∷ ts) e = omega arith

none_more : (a : Ahead) (ts : List Spot) → length (past_first a ts).tokens ≤ length ts
none_more a [] = omega arith
none_more a (t ∷ ts) = omega arith

pub some_fewer : (t : Spot) (d d1 : Doing) → Some t ≡ first d.ahead.tokens → Takes one d d1
    → length d1.ahead.tokens + 1 ≡ length d.ahead.tokens
unfolding ran one
some_fewer t d d1 e f =
    subst (λ (x : Doing). length x.ahead.tokens + 1 ≡ length d.ahead.tokens) (sym f.is)
    (first_fewer t d.ahead d.ahead.tokens e)

pub two_fewer : (w : Bytes) (d d1 d2 : Doing) → sees w d.ahead ≡ true → Takes one d d1
    → Takes one d1 d2 → length d2.ahead.tokens < length d.ahead.tokens
unfolding ran one
two_fewer w d d1 d2 e f g =
    let less : length d1.ahead.tokens < length d.ahead.tokens =
    subst (λ (x : Doing). length x.ahead.tokens < length d.ahead.tokens) (sym f.is)
    (seen_fewer w d.ahead d.ahead.tokens e) in
    let same : length d2.ahead.tokens ≤ length d1.ahead.tokens =
    subst (λ (x : Doing). length x.ahead.tokens ≤ length d1.ahead.tokens) (sym g.is)
    (none_more d1.ahead d1.ahead.tokens) in
    omega arith

pub empty_fewer : (d d1 : Doing) → sees (codes ";") d.ahead ≡ true → Takes one_empty d d1
    → length d1.ahead.tokens < length d.ahead.tokens
unfolding ran one_empty
empty_fewer d d1 e f =
    subst (λ (x : Doing). length x.ahead.tokens < length d.ahead.tokens) (sym f.is)
    (empty_first_fewer (codes ";") d.ahead d.ahead.tokens e)

-- ---- empty statements

pub empty_is : (d : Doing) (t : Spot) (ts : List Spot) → d.ahead.tokens ≡ t ∷ ts
    → (let a : Ahead = behind d.ahead (d.ahead.skipped ++ gap d.ahead ∷ []) t ts in
    let e : Doing = record { found = d.found; ahead = a } in
    Takes one_empty d e)
unfolding ran one_empty
empty_is d t ts e = record {
  is =
      ap₂ (λ (f : List Located) (a : Ahead). record { found = f; ahead = a })
      (sym (append-nil d.found))
      (go d.ahead d.ahead.tokens e);
}
  where
    go : (a : Ahead) (us : List Spot) → us ≡ t ∷ ts
        → behind a (a.skipped ++ gap (with_left a us) ∷ []) t ts ≡ past_first_empty a us
    go a us e = rw e refl

pub no_empty : (d : Doing) → first d.ahead.tokens ≡ None → Takes one_empty d d
unfolding one_empty
no_empty d e = record {
  is = stays (λ a. past_first_empty a a.tokens) d (go d.ahead d.ahead.tokens e);
}
  where
    go : (a : Ahead) (ts : List Spot) → first ts ≡ None → past_first_empty a ts ≡ with_left a ts
    go a [] e = refl
    go a (t ∷ ts) e = absurd cc

pub empties_more : (d : Doing) → sees (codes ";") d.ahead ≡ true
    → ran empties (ran one_empty d) ≡ ran empties d
unfolding empties one_empty
empties_more d e =
    moved_to (λ a. past_empties a a.tokens) (λ a. past_first_empty a a.tokens)
    (λ a. past_empties a a.tokens) d (go d.ahead d.ahead.tokens e)
  where
    go : (a : Ahead) (ts : List Spot) → first_is (codes ";") (first ts) ≡ true
        → past_empties (past_first_empty a ts) (past_first_empty a ts).tokens ≡ past_empties a ts
    go a [] e = absurd cc
    go a (t ∷ ts) e = rw e refl

pub empties_end : (d : Doing) → sees (codes ";") d.ahead ≡ false → d ≡ ran empties d
unfolding empties
empties_end d e = stays (λ a. past_empties a a.tokens) d (go d.ahead d.ahead.tokens e)
  where
    go : (a : Ahead) (ts : List Spot) → first_is (codes ";") (first ts) ≡ false
        → past_empties a ts ≡ with_left a ts
    go a [] e = refl
    go a (t ∷ ts) e = rw e refl

-- ---- dots

pub dots_more : (d : Doing) → sees (codes ".") d.ahead ≡ true
    → ran dots (ran one (ran one d)) ≡ ran dots d
unfolding dots one
dots_more d e =
    ap (ran (taking (λ a. past_dots a a.tokens)))
    (moved_to past past (λ a. past (past a)) d refl)
    ∙ moved_to (λ a. past_dots a a.tokens) (λ a. past (past a)) (λ a. past_dots a a.tokens) d
    (go d.ahead d.ahead.tokens e)
  where
    go : (a : Ahead) (ts : List Spot) → first_is (codes ".") (first ts) ≡ true
        → past_dots (past (past_first a ts)) (past (past_first a ts)).tokens ≡ past_dots a ts
    go a [] e = absurd cc
    go a (t ∷ []) e = rw e refl
    go a (t ∷ u ∷ ts) e = rw e refl

pub dots_end : (d : Doing) → sees (codes ".") d.ahead ≡ false → d ≡ ran dots d
unfolding dots
dots_end d e = stays (λ a. past_dots a a.tokens) d (go d.ahead d.ahead.tokens e)
  where
    go : (a : Ahead) (ts : List Spot) → first_is (codes ".") (first ts) ≡ false
        → past_dots a ts ≡ with_left a ts
    go a [] e = refl
    go a (t ∷ []) e = rw e refl
    go a (t ∷ u ∷ ts) e = rw e refl

-- ---- items

pub item_more : (n : ℕ) (t : Spot) (d : Doing) → Some t ≡ first d.ahead.tokens
    → (n == 0 && ends_item t.text) ≡ false
    → ran (up_to_end_in (deeper n t.text)) (ran one d) ≡ ran (up_to_end_in n) d
unfolding up_to_end_in one
item_more n t d e f =
    moved_to (λ a. past_item (deeper n t.text) a a.tokens) past (λ a. past_item n a a.tokens) d
    (go d.ahead d.ahead.tokens e)
  where
    go : (a : Ahead) (ts : List Spot) → Some t ≡ first ts
        → past_item (deeper n t.text) (past_first a ts) (past_first a ts).tokens
        ≡ past_item n a ts
    go a [] e = absurd cc
    go a (u ∷ ts) e = let p : u ≡ t = cc in rw p (rw f refl)

pub item_ends : (n : ℕ) (t : Spot) (d : Doing) → Some t ≡ first d.ahead.tokens
    → (n == 0 && ends_item t.text) ≡ true → d ≡ ran (up_to_end_in n) d
unfolding up_to_end_in
item_ends n t d e f = stays (λ a. past_item n a a.tokens) d (go d.ahead d.ahead.tokens e)
  where
    go : (a : Ahead) (ts : List Spot) → Some t ≡ first ts → past_item n a ts ≡ with_left a ts
    go a [] e = absurd cc
    go a (u ∷ ts) e = let p : u ≡ t = cc in rw p (rw f refl)

pub item_none : (n : ℕ) (d : Doing) → first d.ahead.tokens ≡ None → d ≡ ran (up_to_end_in n) d
unfolding up_to_end_in
item_none n d e = stays (λ a. past_item n a a.tokens) d (go d.ahead d.ahead.tokens e)
  where
    go : (a : Ahead) (ts : List Spot) → first ts ≡ None → past_item n a ts ≡ with_left a ts
    go a [] e = refl
    go a (t ∷ ts) e = absurd cc

pub deeper_little : (n : ℕ) (w : Bytes) → deeper n w ≤ n + 1
deeper_little n w = go (opens w) (closes w)
  where
    go : (b c : Bool) → cond b (n + 1) (cond c (n - 1) n) ≤ n + 1
    go true c = omega arith
    go false true = omega arith
    go false false = omega arith
