-- What lies ahead in a text are its tokens.
use Rattle.std.proofs.Common.{◌≡◌, ℕ, zero, suc, ◌+◌, ◌<◌, ◌≤◌, Bool, true, false, nat_lt}
use Rattle.std.proofs.Common.{List, Option, Some, None, ◌↔◌}
use Rattle.std.proofs.Common.{[], ◌∷◌, length, take, drop, refl, sym, ap, ◌∙◌, subst, inl, inr, ◌⊎◌}
use Rattle.std.proofs.Common.{arith, length-drop, count_by, cond, if◌then◌else◌, eqb, nat_le, ◌||◌}
use Rattle.std.proofs.lemmas.Bool.{false≢true}
use Rattle.std.proofs.lemmas.Bool.Decides.{nat_tests}
use Rattle.std.proofs.lemmas.List.Sums.{sum_by-cons}
use Rattle.protobuf_parse_lexer.specs.Ahead.{nowhere, deepens, counted, in_front, ends_at, behind}
use Rattle.protobuf_parse_lexer.specs.Ahead.{AheadIn, at_end, past_blank, past_token, at_bracket}
use Rattle.protobuf_parse_lexer.specs.Ahead.{at_fault}
use Rattle.protobuf_parse_lexer.specs.AheadOf.{from_piece, ahead_within, ahead}
use Rattle.protobuf_parse_lexer.specs.AheadViews.{with_next, lies_ahead}
use Rattle.protobuf_parse_lexer.specs.Cut.{Cut, Stream, IsShort, HasTokens, done, blank, token}
use Rattle.protobuf_parse_lexer.specs.Cut.{mark_len}
use Rattle.protobuf_parse_lexer.specs.Place.{step, after, start}
use Rattle.protobuf_parse_lexer.specs.Scan.{Stands}
use Rattle.protobuf_parse_lexer.specs.Text.{Bytes, IsBlank, IsToken}
use Rattle.protobuf_parse_lexer.specs.Tokenizers.{next_lexeme, Follows, LiesAhead, OneLiesAhead}
use Rattle.protobuf_parse_lexer.specs.Tokens.{Lexeme, is_opening, is_closing, opened, closed}
use Rattle.protobuf_parse_lexer.specs.declared.lexer.front.Piece.{Piece}
use Rattle.protobuf_parse_lexer.specs.declared.lexer.front.Piece.TheVariants as piece
use Rattle.protobuf_parse_lexer.specs.declared.lexer.token.Place.{Place}
use Rattle.protobuf_parse_lexer.specs.declared.lexer.token.TokenKind.{TokenKind}
use Rattle.protobuf_parse_lexer.specs.declared.lexer.tokenizer.Brackets.{Brackets}
use Rattle.protobuf_parse_lexer.specs.declared.lexer.tokenizer.NextToken.{NextToken}
use Rattle.protobuf_parse_lexer.specs.declared.lexer.tokenizer.Tokenizer.{Tokenizer}
use Rattle.protobuf_parse_lexer.proofs.Cuts.{token_some, nil_at_end}
use Rattle.protobuf_parse_lexer.proofs.Depth.{opening_is_no_closing}
use Rattle.protobuf_parse_lexer.specs.Total.{total, true_or_false}
use Rattle.protobuf_parse_lexer.proofs.TextKinds.{and_both}
use Rattle.protobuf_parse_lexer.proofs.Unique.{one, not_true, and_true}

-- ---- each piece leaves less of the text

pub blank_some : (z : Bytes) (n : ℕ) → IsBlank z n → (0 < n) × (n ≤ length z)
blank_some z n (inl s) = (s.some, s.within)
blank_some z n (inr (inl s)) = (omega (arith, s.some), s.within)
blank_some z n (inr (inr s)) = (omega (arith, s.some), s.within)

pub less : (z : Bytes) (n : ℕ) → (0 < n) × (n ≤ length z) → length (drop n z) < length z
less z n h = omega (arith, h.0, h.1, length-drop n z)

-- two ways to go on which say the same of each shorter text
abbrev Same : (ℕ → ℕ → Place → Bytes → Stream) → (ℕ → ℕ → Place → Bytes → Stream) → ℕ → Type 0
Same f g n = (o c : ℕ) (p : Place) (z : Bytes) → length z < n → f o c p z ≡ g o c p z

same_step : (f g : ℕ → ℕ → Place → Bytes → Stream) (o c : ℕ) (p : Place) (z : Bytes) (r : Piece)
    → Stands z r → Same f g (length z) → from_piece f o c p z r ≡ from_piece g o c p z r
same_step f g o c p z piece.End is same = refl
same_step f g o c p z (piece.Blank n) is same =
    same o c (after p (take n z)) (drop n z) (less z n (blank_some z n is))
same_step f g o c p z (piece.Token n k) is same =
    ap (λ s. if deepens o c k then ends_at nowhere
    else in_front (record { kind = k; text = take n z; place = p }) s)
    (same (counted (is_opening k) o) (counted (is_closing k) c) (after p (take n z)) (drop n z)
    (less z n (token_some z n k is)))
same_step f g o c p z (piece.Fault e) is same = refl

enough : (m n o c : ℕ) (p : Place) (z : Bytes) → length z < m → length z < n
    → ahead_within m o c p z ≡ ahead_within n o c p z
unfolding ahead_within
enough zero n o c p z a b = absurd (omega arith)
enough (suc m) zero o c p z a b = absurd (omega arith)
enough (suc m) (suc n) o c p z a b =
    same_step (ahead_within m) (ahead_within n) o c p z (total z).0 (total z).1
    (λ o' c' p' y h. enough m n o' c' p' y (omega arith) (omega arith))

-- what lies ahead where a piece stands at the front
pub ahead_is : (o c : ℕ) (p : Place) (z : Bytes) (r : Piece) → Stands z r
    → ahead o c p z ≡ from_piece ahead o c p z r
unfolding ahead ahead_within
ahead_is o c p z r is =
    ap (from_piece (ahead_within (length z)) o c p z) (one z (total z).0 r (total z).1 is)
    ∙ same_step (ahead_within (length z)) ahead o c p z r is
    (λ o' c' p' y h. enough (length z) (suc (length y)) o' c' p' y h (omega arith))

-- ---- brackets

-- no front of these tokens nests too deep, behind o brackets opened and c closed
abbrev pub ShallowFrom : ℕ → ℕ → List Lexeme → Type 0
ShallowFrom o c ts = (n : ℕ) → closed (take n ts) + c + 100 < opened (take n ts) + o → ⊥

counted_cons : (test : TokenKind → Bool) (t : Lexeme) (ts : List Lexeme) (n : ℕ)
    → count_by (λ (x : Lexeme). test x.kind) (t ∷ ts) + n
    ≡ count_by (λ (x : Lexeme). test x.kind) ts + counted (test t.kind) n
counted_cons test t ts n =
    ap (λ k. k + n) (sum_by-cons (λ (x : Lexeme). cond (test x.kind) 1 0) t ts)
    ∙ shifted (test t.kind) (count_by (λ (x : Lexeme). test x.kind) ts) n
  where
    shifted : (b : Bool) (m n : ℕ) → cond b 1 0 + m + n ≡ m + counted b n
    shifted true m n = omega arith
    shifted false m n = omega arith

opening_more : (k : TokenKind) (o : ℕ) → is_opening k ≡ true → counted (is_opening k) o ≡ o + 1
opening_more k o e = rw e refl

closing_few : (k : TokenKind) (c : ℕ) → is_opening k ≡ true → counted (is_closing k) c ≡ c
closing_few k c e = let none = opening_is_no_closing k e in rw none refl

is_less : (m n : ℕ) → nat_lt m n ≡ true → m < n
is_less m n e = grind (arith, nat_tests)

less_test : (m n : ℕ) → m < n → nat_lt m n ≡ true
less_test m n h = grind (arith, nat_tests)

counted_none : (b : Bool) (n : ℕ) → b ≡ false → counted b n ≡ n
counted_none b n e = rw e refl

counted_ge : (b : Bool) (n : ℕ) → n ≤ counted b n
counted_ge true n = omega arith
counted_ge false n = omega arith

pub shallow_here : (o c : ℕ) (t : Lexeme) (ts : List Lexeme) → ShallowFrom o c (t ∷ ts)
    → deepens o c t.kind ≡ false
shallow_here o c t ts is =
    not_true (deepens o c t.kind) (λ deep.
    let both = and_true (is_opening t.kind) (nat_lt (c + 100) (o + 1)) deep in
    let few = closing_few t.kind c both.0 in
    let many = opening_more t.kind o both.0 in
    let less = is_less (c + 100) (o + 1) both.1 in
    is 1
    (omega (
      arith,
      counted_cons is_opening t [] o,
      counted_cons is_closing t [] c,
      few,
      many,
      less,
    )))

pub shallow_next : (o c : ℕ) (t : Lexeme) (ts : List Lexeme) → ShallowFrom o c (t ∷ ts)
    → ShallowFrom (counted (is_opening t.kind) o) (counted (is_closing t.kind) c) ts
shallow_next o c t ts is n deep =
    is (suc n)
    (omega (
      arith,
      deep,
      counted_cons is_opening t (take n ts) o,
      counted_cons is_closing t (take n ts) c,
    ))

shallow_more : (o c : ℕ) (t : Lexeme) (ts : List Lexeme) → (c + 100 < o → ⊥)
    → deepens o c t.kind ≡ false
    → ShallowFrom (counted (is_opening t.kind) o) (counted (is_closing t.kind) c) ts
    → ShallowFrom o c (t ∷ ts)
shallow_more o c t ts few here is zero deep = few (omega (arith, deep))
shallow_more o c t ts few here is (suc n) deep =
    is n
    (omega (
      arith,
      deep,
      counted_cons is_opening t (take n ts) o,
      counted_cons is_closing t (take n ts) c,
    ))

-- ---- one step

pub blank_step : (o c : ℕ) (p at : Place) (z front rest : Bytes) (n : ℕ) → IsBlank z n
    → front ≡ take n z → rest ≡ drop n z → at ≡ after p front → ahead o c at rest ≡ ahead o c p z
blank_step o c p at z front rest n is e f g =
    ap (λ a. ahead o c a rest) (g ∙ ap (after p) e)
    ∙ ap (λ y. ahead o c (after p (take n z)) y) f
    ∙ sym (ahead_is o c p z (piece.Blank n) is)

pub token_step : (o c o' c' : ℕ) (p at : Place) (z word rest : Bytes) (n : ℕ) (k : TokenKind)
    → IsToken z n k → word ≡ take n z → rest ≡ drop n z → at ≡ after p word → deepens o c k ≡ false
    → o' ≡ counted (is_opening k) o → c' ≡ counted (is_closing k) c →
    in_front (record { kind = k; text = word; place = p }) (ahead o' c' at rest) ≡ ahead o c p z
token_step o c o' c' p at z word rest n k is e f g few more less =
    ap (λ w. in_front (record { kind = k; text = w; place = p }) (ahead o' c' at rest)) e
    ∙ ap (in_front (record { kind = k; text = take n z; place = p }))
    (ap (λ a. ahead o' c' a rest) (g ∙ ap (after p) e)
    ∙ ap (λ y. ahead o' c' (after p (take n z)) y) f
    ∙ ap (λ i. ahead i c' (after p (take n z)) (drop n z)) more
    ∙ ap (λ i. ahead (counted (is_opening k) o) i (after p (take n z)) (drop n z)) less)
    ∙ sym (ahead_is o c p z (piece.Token n k) is ∙ rw few refl)

pub deep_step : (o c : ℕ) (p : Place) (z : Bytes) (n : ℕ) (k : TokenKind) → IsToken z n k
    → deepens o c k ≡ true → ends_at nowhere ≡ ahead o c p z
deep_step o c p z n k is deep = sym (ahead_is o c p z (piece.Token n k) is ∙ rw deep refl)

-- ---- what lies ahead in a whole text

-- its end is nowhere; or the text is cut whole into these tokens, and they are shallow
abbrev WholeOr : ℕ → ℕ → Place → Bytes → Stream → Type 0
WholeOr o c p z s = (s.end ≡ nowhere) ⊎ (Cut p z s.tokens s.end [] × ShallowFrom o c s.tokens)

shallow_none : (o c : ℕ) → (c + 100 < o → ⊥) → ShallowFrom o c []
shallow_none o c few zero deep = few (omega (arith, deep))
shallow_none o c few (suc n) deep = few (omega (arith, deep))

-- where the token does not deepen too much, what was opened before it is not too much with it
few_more : (o c : ℕ) (k : TokenKind) → (c + 100 < o → ⊥) → deepens o c k ≡ false
    → counted (is_closing k) c + 100 < counted (is_opening k) o → ⊥
few_more o c k few flat more =
    elim (true_or_false (is_opening k)) [
      | inl opens ↦
          let a = opening_more k o opens in
          let b = closing_few k c opens in
          false≢true (sym flat ∙ and_both (is_opening k) (nat_lt (c + 100) (o + 1)) opens
          (less_test (c + 100) (o + 1) (omega (arith, a, b, more))))
      | inr none ↦
          let a = counted_none (is_opening k) o none in
          let b = counted_ge (is_closing k) c in
          few (omega (arith, a, b, more))
    ]

whole_step : (f : ℕ → ℕ → Place → Bytes → Stream) (o c : ℕ) (p : Place) (z : Bytes) (r : Piece)
    → Stands z r → (c + 100 < o → ⊥)
    → ((o' c' : ℕ) (p' : Place) (y : Bytes) → length y < length z → (c' + 100 < o' → ⊥)
    → WholeOr o' c' p' y (f o' c' p' y)) → WholeOr o c p z (from_piece f o c p z r)
whole_step f o c p z piece.End is few all =
    inr (subst (λ y. Cut p y [] p []) (sym (nil_at_end z is)) done, shallow_none o c few)
whole_step f o c p z (piece.Blank n) is few all =
    elim (all o c (after p (take n z)) (drop n z) (less z n (blank_some z n is)) few) [
      | inl e ↦ inl e
      | inr h ↦ inr (blank n is h.0, h.1)
    ]
whole_step f o c p z (piece.Token n k) is few all = elim (true_or_false (deepens o c k)) [
  | inl deep ↦ inl (rw deep refl)
  | inr flat ↦
      let o' = counted (is_opening k) o in
      let c' = counted (is_closing k) c in
      let s = f o' c' (after p (take n z)) (drop n z) in
      let t : Lexeme = record { kind = k; text = take n z; place = p } in
      let go : from_piece f o c p z (piece.Token n k) ≡ in_front t s = rw flat refl in
      subst (WholeOr o c p z) (sym go)
      (elim (all o' c' (after p (take n z)) (drop n z) (less z n (token_some z n k is))
      (few_more o c k few flat)) [
        | inl e ↦ inl e
        | inr h ↦ inr (token n k is h.0, shallow_more o c t s.tokens few flat h.1)
      ])
]
whole_step f o c p z (piece.Fault e) is few all = inl refl

whole_within : (n o c : ℕ) (p : Place) (z : Bytes) → length z < n → (c + 100 < o → ⊥)
    → WholeOr o c p z (ahead_within n o c p z)
unfolding ahead_within
whole_within zero o c p z h few = absurd (omega arith)
whole_within (suc n) o c p z h few =
    whole_step (ahead_within n) o c p z (total z).0 (total z).1 few
    (λ o' c' p' y l few'. whole_within n o' c' p' y (omega arith) few')

-- what lies ahead in a text are its tokens, if it ends somewhere
pub ahead_whole : (text : Bytes) → IsShort text
    → (let s = ahead 0 0 start (drop (mark_len text) text) in (s.end ≡ nowhere) ⊎ HasTokens text s)
unfolding ahead
ahead_whole text short =
    let z = drop (mark_len text) text in
    elim (whole_within (suc (length z)) 0 0 start z (omega arith) (λ h. omega (arith, h))) [
      | inl e ↦ inl e
      | inr h ↦ inr (record {
        short = short;
        cut = h.0;
        shallow = λ n deep. h.1 n (omega (arith, deep));
      })
    ]

-- and of a text with tokens all lie ahead
cut_ahead : {p q : Place} {z : Bytes} {ts : List Lexeme} (o c : ℕ) → Cut p z ts q []
    → ShallowFrom o c ts → ahead o c p z ≡ record { tokens = ts; end = q }
cut_ahead {p} {q} o c done shallow = ahead_is o c p [] piece.End refl
cut_ahead {p} {q} {z} o c (blank n is cut) shallow =
    ahead_is o c p z (piece.Blank n) is ∙ cut_ahead o c cut shallow
cut_ahead {p} {q} {z} o c (token {ts = ts} n k is cut) shallow =
    let t : Lexeme = record { kind = k; text = take n z; place = p } in
    let flat = shallow_here o c t ts shallow in
    ahead_is o c p z (piece.Token n k) is
    ∙ (let go : from_piece ahead o c p z (piece.Token n k)
    ≡ in_front t (ahead (counted (is_opening k) o) (counted (is_closing k) c) (after p (take n z))
    (drop n z)) = rw flat refl in go)
    ∙ ap (in_front t) (cut_ahead _ _ cut (shallow_next o c t ts shallow))

pub tokens_ahead : (text : Bytes) (s : Stream) → HasTokens text s
    → ahead 0 0 start (drop (mark_len text) text) ≡ s
tokens_ahead text s has =
    cut_ahead 0 0 has.cut (λ n deep. has.shallow n (omega (arith, deep)))

-- ---- each token has a byte

count_step : (f : ℕ → ℕ → Place → Bytes → Stream) (o c : ℕ) (p : Place) (z : Bytes) (r : Piece)
    → Stands z r
    → ((o' c' : ℕ) (p' : Place) (y : Bytes) → length y < length z
    → length (f o' c' p' y).tokens ≤ length y) → length (from_piece f o c p z r).tokens ≤ length z
count_step f o c p z piece.End is all = omega arith
count_step f o c p z (piece.Blank n) is all =
    let shorter = less z n (blank_some z n is) in
    let few = all o c (after p (take n z)) (drop n z) shorter in
    omega (arith, few, shorter)
count_step f o c p z (piece.Token n k) is all = elim (true_or_false (deepens o c k)) [
  | inl deep ↦ rw deep (omega arith)
  | inr flat ↦
      let shorter = less z n (token_some z n k is) in
      let few = all (counted (is_opening k) o) (counted (is_closing k) c) (after p (take n z))
      (drop n z) shorter in
      rw flat (omega (arith, few, shorter))
]
count_step f o c p z (piece.Fault e) is all = omega arith

count_within : (n o c : ℕ) (p : Place) (z : Bytes) → length z < n
    → length (ahead_within n o c p z).tokens ≤ length z
unfolding ahead_within
count_within zero o c p z h = absurd (omega arith)
count_within (suc n) o c p z h =
    count_step (ahead_within n) o c p z (total z).0 (total z).1
    (λ o' c' p' y l. count_within n o' c' p' y (omega arith))

-- a text has no more tokens than bytes
pub few_ahead : (o c : ℕ) (p : Place) (z : Bytes) → length (ahead o c p z).tokens ≤ length z
unfolding ahead
few_ahead o c p z = count_within (suc (length z)) o c p z (omega arith)

pub few_in_text : (text : Bytes)
    → length (ahead 0 0 start (drop (mark_len text) text)).tokens ≤ length text
few_in_text text =
    let z = drop (mark_len text) text in
    omega (arith, few_ahead 0 0 start z, length-drop (mark_len text) text)

-- ---- its end

line_step : (p : Place) (b : ℕ) → p.line ≤ (step p b).line
line_step p b = line_by (eqb b 10) (nat_lt b 0x80 || nat_le 0xc0 b)
  where
    line_by : (feed lead : Bool) →
        p.line ≤ (if feed then record { line = p.line + 1; col = 1 }
        else (if lead then record { line = p.line; col = p.col + 1 } else p)).line
    line_by true lead = omega arith
    line_by false true = omega arith
    line_by false false = omega arith

line_after : (p : Place) (z : Bytes) → p.line ≤ (after p z).line
line_after p [] = omega arith
line_after p (b ∷ z) = omega (arith, line_step p b, line_after (step p b) z)

line_cut : {p q : Place} {z r : Bytes} {ts : List Lexeme} → Cut p z ts q r → p.line ≤ q.line
line_cut done = omega arith
line_cut {p} {q} {z} (blank n is cut) = omega (arith, line_after p (take n z), line_cut cut)
line_cut {p} {q} {z} (token n k is cut) = omega (arith, line_after p (take n z), line_cut cut)

-- a text with tokens ends somewhere
pub ends_somewhere : (text : Bytes) (s : Stream) → HasTokens text s → s.end.line ≡ 0 → ⊥
ends_somewhere text s has e = omega (arith, line_cut has.cut, e)

-- ---- the function gives what lies ahead, and nothing else does

in_step : (f : ℕ → ℕ → Place → Bytes → Stream) (o c : ℕ) (p : Place) (z : Bytes) (r : Piece)
    → Stands z r
    → ((o' c' : ℕ) (p' : Place) (y : Bytes) → length y < length z
    → AheadIn o' c' p' y (f o' c' p' y)) → AheadIn o c p z (from_piece f o c p z r)
in_step f o c p z piece.End is all = at_end is
in_step f o c p z (piece.Blank n) is all =
    past_blank n is
    (all o c (after p (take n z)) (drop n z) (less z n (blank_some z n is)))
in_step f o c p z (piece.Token n k) is all = elim (true_or_false (deepens o c k)) [
  | inl deep ↦
      let stops : from_piece f o c p z (piece.Token n k) ≡ ends_at nowhere = rw deep refl in
      subst (AheadIn o c p z) (sym stops) (at_bracket n k is deep)
  | inr flat ↦
      let o' = counted (is_opening k) o in
      let c' = counted (is_closing k) c in
      let t : Lexeme = record { kind = k; text = take n z; place = p } in
      let goes : from_piece f o c p z (piece.Token n k)
      ≡ in_front t (f o' c' (after p (take n z)) (drop n z)) = rw flat refl in
      subst (AheadIn o c p z) (sym goes)
      (past_token n k is flat
      (all o' c' (after p (take n z)) (drop n z) (less z n (token_some z n k is))))
]
in_step f o c p z (piece.Fault e) is all = at_fault e is

in_within : (n o c : ℕ) (p : Place) (z : Bytes) → length z < n
    → AheadIn o c p z (ahead_within n o c p z)
unfolding ahead_within
in_within zero o c p z h = absurd (omega arith)
in_within (suc n) o c p z h =
    in_step (ahead_within n) o c p z (total z).0 (total z).1
    (λ o' c' p' y l. in_within n o' c' p' y (omega arith))

ahead_in : (o c : ℕ) (p : Place) (z : Bytes) → AheadIn o c p z (ahead o c p z)
unfolding ahead
ahead_in o c p z = in_within (suc (length z)) o c p z (omega arith)

ahead_only : {o c : ℕ} {p : Place} {z : Bytes} {s : Stream} → AheadIn o c p z s
    → ahead o c p z ≡ s
ahead_only {o} {c} {p} {z} (at_end is) = ahead_is o c p z piece.End is
ahead_only {o} {c} {p} {z} (past_blank n is more) =
    ahead_is o c p z (piece.Blank n) is ∙ ahead_only more
ahead_only {o} {c} {p} {z} (past_token n k is flat more) =
    let t : Lexeme = record { kind = k; text = take n z; place = p } in
    ahead_is o c p z (piece.Token n k) is
    ∙ (let go : from_piece ahead o c p z (piece.Token n k)
    ≡ in_front t (ahead (counted (is_opening k) o) (counted (is_closing k) c) (after p (take n z))
    (drop n z)) = rw flat refl in go)
    ∙ ap (in_front t) (ahead_only more)
ahead_only {o} {c} {p} {z} (at_bracket n k is deep) =
    ahead_is o c p z (piece.Token n k) is ∙ rw deep refl
ahead_only {o} {c} {p} {z} (at_fault e is) = ahead_is o c p z (piece.Fault e) is

follows : (n : Option NextToken) (b : Brackets) (p : Place) (z : Bytes)
    → Follows n b p z (with_next n b p z)
follows None b p z = refl
follows (Some t) b p z =
    (ahead b.opened b.closed p z, ahead_in b.opened b.closed p z, refl)

follows_only : (n : Option NextToken) (b : Brackets) (p : Place) (z : Bytes) (s : Stream)
    → Follows n b p z s → with_next n b p z ≡ s
follows_only None b p z s h = sym h
follows_only (Some t) b p z s h = ap (in_front (next_lexeme t)) (ahead_only h.1) ∙ sym h.2

pub lies_ahead_is : (t : Tokenizer) → LiesAhead t (lies_ahead t)
lies_ahead_is t = follows t.next t.brackets t.after t.rest.now

pub lies_ahead_only : (t : Tokenizer) (s : Stream) → LiesAhead t s → lies_ahead t ≡ s
lies_ahead_only t s h = follows_only t.next t.brackets t.after t.rest.now s h

pub one_lies_ahead : OneLiesAhead
one_lies_ahead t = (lies_ahead t, lies_ahead_is t, λ u h. sym (lies_ahead_only t u h))

pub text_ahead : (t : Tokenizer) (o c : ℕ) (p : Place) (z : Bytes)
    → lies_ahead t ≡ ahead o c p z → (s : Stream) → LiesAhead t s ↔ AheadIn o c p z s
text_ahead t o c p z e s = (
  λ h. subst (AheadIn o c p z) (sym e ∙ lies_ahead_only t s h) (ahead_in o c p z),
  λ h. subst (LiesAhead t) (e ∙ ahead_only h) (lies_ahead_is t),
)

-- what a step says of the function, and what the function says of the step
pub gone_past : (before later : Tokenizer) → lies_ahead later ≡ behind (lies_ahead before)
    → (s : Stream) → LiesAhead before s → LiesAhead later (behind s)
gone_past before later e s h =
    subst (LiesAhead later) (e ∙ ap behind (lies_ahead_only before s h)) (lies_ahead_is later)

pub advanced : (before later : Tokenizer)
    → ((s : Stream) → LiesAhead before s → LiesAhead later (behind s))
    → lies_ahead later ≡ behind (lies_ahead before)
advanced before later h =
    lies_ahead_only later (behind (lies_ahead before))
    (h (lies_ahead before) (lies_ahead_is before))
