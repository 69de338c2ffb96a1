-- Walks one after the other, and locations around them.
use Rattle.std.proofs.Common.{◌≡◌, ℕ, zero, suc, ◌+◌, List, [], ◌∷◌, ◌++◌, length, map, refl, sym}
use Rattle.std.proofs.Common.{ap, ap₂, ◌∙◌, arith, drop, append_assoc, Option, None, Some, Bool}
use Rattle.std.proofs.lemmas.List.{append-nil}
use Rattle.protobuf_parse_lexer.specs.Text.{Bytes}
use Rattle.protobuf_parse_syntax.specs.Trees.{OptionNameSyntax}
use Rattle.protobuf_parse_source_info.specs.Spots.{Spot}
use Rattle.protobuf_parse_source_info.specs.Walks.{Path, Walk, Ahead, Located, Mark, Range, around}
use Rattle.protobuf_parse_source_info.specs.Walks.{front, one, nothing, ◌>>◌, seeing, located}
use Rattle.protobuf_parse_source_info.specs.Walks.{declared_from, declared, mark, again, noting}
use Rattle.protobuf_parse_source_info.specs.Walks.{range_behind, first, past_first, behind, sees}
use Rattle.protobuf_parse_source_info.specs.Walks.{with_left}
use Rattle.protobuf_parse_source_info.specs.InnerViews.{Doing, ran, Takes, begun, opened, headed}
use Rattle.protobuf_parse_source_info.specs.InnerViews.{closed, changed, with_gaps, with_end, spot}
use Rattle.protobuf_parse_source_info.specs.declared.token.Point.{Point}
use Rattle.protobuf_parse_source_info.specs.declared.token.Token.{Token}
use Rattle.protobuf_parse_source_info.proofs.Changes.{changed_seam}

pub ran_then : (v w : Walk) (d : Doing) → ran w (ran v d) ≡ ran (v >> w) d
unfolding ran ◌>>◌
ran_then v w d =
    ap (λ (f : List Located). record { found = f; ahead = (w (v d.ahead).left).left })
    (append_assoc d.found (v d.ahead).found (w (v d.ahead).left).found)

pub ran_nothing : (d : Doing) → d ≡ ran nothing d
unfolding ran nothing
ran_nothing d =
    ap (λ (f : List Located). record { found = f; ahead = d.ahead }) (sym (append-nil d.found))

-- a location around a walk
pub located_ran : (p : Path) (o : Option OptionNameSyntax) (w : Walk) (d : Doing)
    → closed (length d.found) (ran w (opened (front d.ahead) o p d)) ≡ ran (located p o w) d
unfolding closed ran opened located
located_ran p o w d =
    let l = begun (front d.ahead) o p in
    ap (λ (f : List Located). record { found = f; ahead = (w d.ahead).left })
    (ap (changed (with_end (w d.ahead).left.last) (length d.found))
    (append_assoc d.found (l ∷ []) (w d.ahead).found)
    ∙ changed_seam (with_end (w d.ahead).left.last) d.found l (w d.ahead).found)

-- a declaration, by its head and by what stands behind that
pub declared_ran : (m : Mark) (p : Path) (o : Option OptionNameSyntax) (v w : Walk) (d : Doing)
    → closed (length d.found) (ran w (headed (length d.found) m (ran v (opened m.from o p d))))
    ≡ ran (declared_from m p o v w) d
unfolding closed ran opened declared_from headed ◌>>◌
declared_ran m p o v w d =
    let x = v d.ahead in
    let y = w x.left in
    let l = begun m.from o p in
    let g = with_gaps (around m x.left) in
    ap (λ (f : List Located). record { found = f; ahead = y.left })
    (ap (λ (f : List Located).
    changed (with_end y.left.last) (length d.found) (f ++ y.found))
    (ap (changed g (length d.found)) (append_assoc d.found (l ∷ []) x.found)
    ∙ changed_seam g d.found l x.found)
    ∙ ap (changed (with_end y.left.last) (length d.found))
    (append_assoc d.found (g l ∷ x.found) y.found)
    ∙ changed_seam (with_end y.left.last) d.found (g l) (x.found ++ y.found))

-- ---- the same, from the facts that calls give

pub takes_nothing : (d : Doing) → Takes nothing d d
takes_nothing d = record { is = ran_nothing d }

pub takes_then : {v w : Walk} {d d1 d2 : Doing} → Takes v d d1 → Takes w d1 d2
    → Takes (v >> w) d d2
unfolding ran
takes_then {v} {w} {d} {d1} {d2} e f = record { is = f.is ∙ ap (ran w) e.is ∙ ran_then v w d }

pub takes_located : (p : Path) (o : Option OptionNameSyntax) {w : Walk} {d d1 d2 d3 : Doing} {n : ℕ}
    → n ≡ length d.found → d1 ≡ opened (front d.ahead) o p d → Takes w d1 d2 → d3 ≡ closed n d2
    → Takes (located p o w) d d3
takes_located p o {w} {d} {d1} {d2} {d3} {n} at e f g = record {
  is =
      g ∙ ap (λ (k : ℕ). closed k d2) at
      ∙ ap (closed (length d.found)) (f.is ∙ ap (ran w) e)
      ∙ located_ran p o w d;
}

pub takes_from : (m : Mark) (p : Path) (o : Option OptionNameSyntax) {v w : Walk}
    {d d1 d2 d3 d4 d5 : Doing} {n : ℕ}
    → n ≡ length d.found → d1 ≡ opened m.from o p d → Takes v d1 d2 → d3 ≡ headed n m d2
    → Takes w d3 d4 → d5 ≡ closed n d4
    → Takes (declared_from m p o v w) d d5
takes_from m p o {v} {w} {d} {d1} {d2} {d3} {d4} {d5} {n} at e f g h i = record {
  is =
      i ∙ ap (λ (k : ℕ). closed k d4) at
      ∙ ap (closed (length d.found))
      (h.is ∙ ap (ran w)
      (g ∙ ap (λ (k : ℕ). headed k m d2) at
      ∙ ap (headed (length d.found) m) (f.is ∙ ap (ran v) e)))
      ∙ declared_ran m p o v w d;
}

pub takes_seeing : (w : Ahead → Walk) {d d1 : Doing} → Takes (w d.ahead) d d1
    → Takes (seeing w) d d1
unfolding ran seeing
takes_seeing w e = record { is = e.is }

-- a declaration, of which the mark is known
pub takes_declared : {m : Mark} (p : Path) {v w : Walk} {d d1 d2 d3 d4 d5 : Doing} {n : ℕ}
    → m ≡ mark d.ahead → n ≡ length d.found → d1 ≡ opened m.from None p d → Takes v d1 d2
    → d3 ≡ headed n m d2 → Takes w d3 d4 → d5 ≡ closed n d4
    → Takes (declared p v w) d d5
unfolding ran declared
takes_declared {m} p {v} {w} {d} {d5 = d5} mk at e f g h i = record {
  is =
      (takes_from m p None at e f g h i).is
      ∙ ap (λ (k : Mark). ran (declared_from k p None v w) d) mk;
}

-- one that ends with its head
pub takes_leaf : {m : Mark} (p : Path) {v : Walk} {d d1 d2 d3 d4 : Doing} {n : ℕ}
    → m ≡ mark d.ahead → n ≡ length d.found → d1 ≡ opened m.from None p d → Takes v d1 d2
    → d3 ≡ headed n m d2 → d4 ≡ closed n d3
    → Takes (declared p v nothing) d d4
takes_leaf p {d3 = d3} mk at e f g i = takes_declared p mk at e f g (takes_nothing d3) i

-- ---- tokens with more than one location

pub takes_again : (p : Path) (from to : Point) {d d1 : Doing} {n : ℕ} (found : List Located)
    → n ≡ length d.found → d1 ≡ opened from None p d → found ≡ changed (with_end to) n d1.found
    → (let e : Doing = record { found = found; ahead = d1.ahead } in
    Takes (again p (record { from = from; to = to })) d e)
unfolding ran again opened
takes_again p from to {d} {d1} {n} found at e f = record {
  is =
      ap₂ (λ (l : List Located) (a : Ahead). record { found = l; ahead = a })
      (f ∙ ap₂ (λ (k : ℕ) (x : Doing). changed (with_end to) k x.found) at e
      ∙ changed_seam (with_end to) d.found (begun from None p) [])
      (ap (λ (x : Doing). x.ahead) e);
}

pub takes_noting : {v : Walk} (w : Range → Walk) {d d1 d2 : Doing} {from : Point}
    → Takes v d d1 → from ≡ front d.ahead
    → Takes (w (record { from = from; to = d1.ahead.last })) d1 d2
    → Takes (noting v w) d d2
unfolding ran noting ◌>>◌
takes_noting {v} w {d} {d1} {d2} {from} e is f = record {
  is =
      f.is ∙ ap₂ (λ (p : Point) (x : Doing). ran (w (record { from = p; to = x.ahead.last })) x)
      is e.is
      ∙ ran_then v (w (record { from = front d.ahead; to = (v d.ahead).left.last })) d;
}

pub opened_ahead : (from : Point) (o : Option OptionNameSyntax) (p : Path) (d : Doing) {d1 : Doing}
    → d1 ≡ opened from o p d → d1.ahead ≡ d.ahead
unfolding opened
opened_ahead from o p d e = ap (λ (x : Doing). x.ahead) e

pub takes_left : {w : Walk} {d d1 : Doing} → Takes w d d1 → d1.ahead ≡ (w d.ahead).left
unfolding ran
takes_left e = ap (λ (x : Doing). x.ahead) e.is

-- the tokens that a walk takes behind another, which begins at what lies ahead
pub range_is : {v w : Walk} (d : Doing) {d1 d2 d3 : Doing} {from : Point} → d1.ahead ≡ d.ahead
    → Takes v d1 d2 → from ≡ front d2.ahead → Takes w d2 d3
    → (let r : Range = record { from = from; to = d3.ahead.last } in
    r ≡ range_behind v w d.ahead)
range_is {v} {w} d {d1} {d2} {d3} {from} e f is g =
    let x : d2.ahead ≡ (v d.ahead).left =
    takes_left f ∙ ap (λ (a : Ahead). (v a).left) e in
    ap₂ (λ (p q : Point). record { from = p; to = q })
    (is ∙ ap front x)
    (ap (λ (a : Ahead). a.last) (takes_left g) ∙ ap (λ (a : Ahead). (w a).left.last) x)

pub sees_is : (word : Bytes) {v : Walk} (d : Doing) {d1 d2 : Doing} {b : Bool} → d1.ahead ≡ d.ahead
    → Takes v d1 d2 → b ≡ sees word d2.ahead → b ≡ sees word (v d.ahead).left
sees_is word {v} d e f is =
    is ∙ ap (sees word) (takes_left f ∙ ap (λ (a : Ahead). (v a).left) e)

-- ---- one token

pub taken_is : (d : Doing) (t : Spot) (ts : List Spot) → d.ahead.tokens ≡ t ∷ ts
    → (let e : Doing = record { found = d.found; ahead = behind d.ahead [] t ts } in
    Takes one d e)
unfolding ran one
taken_is d t ts e = record {
  is =
      ap₂ (λ (f : List Located) (a : Ahead). record { found = f; ahead = a })
      (sym (append-nil d.found))
      (ap (past_first d.ahead) (sym e));
}

pub none_left : (a : Ahead) (ts : List Spot) → first ts ≡ None → past_first a ts ≡ with_left a ts
none_left a [] e = refl
none_left a (t ∷ ts) e = absurd cc

pub none_taken : (d : Doing) → first d.ahead.tokens ≡ None → Takes one d d
unfolding ran one
none_taken d e = record {
  is =
      ap₂ (λ (f : List Located) (a : Ahead). record { found = f; ahead = a })
      (sym (append-nil d.found))
      (sym (none_left d.ahead d.ahead.tokens e));
}

pub left_is : (ts : List Token) (n : ℕ) (t : Token) → Some (spot t) ≡ first (map spot (drop n ts))
    → map spot (drop n ts) ≡ spot t ∷ map spot (drop (n + 1) ts)
left_is [] zero t e = absurd cc
left_is [] (suc n) t e = absurd cc
left_is (u ∷ us) zero t e =
    let p : spot t ≡ spot u = cc in ap (λ (s : Spot). s ∷ map spot us) (sym p)
left_is (u ∷ us) (suc n) t e =
    let k : suc n + 1 ≡ suc (n + 1) = omega arith in
    left_is us n t e ∙ ap (λ (i : ℕ). spot t ∷ map spot (drop i (u ∷ us))) (sym k)
