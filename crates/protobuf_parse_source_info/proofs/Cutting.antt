-- The tokens of a text, one after the other, and points of a text.
use Rattle.std.proofs.Common.{◌≡◌, ℕ, zero, suc, ◌+◌, ◌-◌, ◌*◌, ◌%◌, ◌==◌, ◌<◌, ◌≤◌, Bool, true}
use Rattle.std.proofs.Common.{false}
use Rattle.std.proofs.Common.{List, [], ◌∷◌, ◌++◌, length, take, drop, cond, refl, sym, ap}
use Rattle.std.proofs.Common.{◌∙◌, arith, Option, Some, None, IfSome}
use Rattle.std.proofs.Math.Seq.{take-add}
use Rattle.protobuf_parse_comments.specs.BytePlaces.{after, step}
use Rattle.protobuf_parse_comments.specs.declared.place.BytePlace.{BytePlace}
use Rattle.protobuf_parse_lexer.specs.Ahead.{behind}
use Rattle.protobuf_parse_lexer.specs.AheadViews.{lies_ahead, with_next}
use Rattle.protobuf_parse_lexer.specs.Behind.{first}
use Rattle.protobuf_parse_lexer.specs.BehindViews.{LiesBehind}
use Rattle.protobuf_parse_lexer.specs.Text.{Bytes}
use Rattle.protobuf_parse_lexer.specs.Tokens.{Lexeme}
use Rattle.protobuf_parse_lexer.specs.Tokenizers.{next_lexeme}
use Rattle.protobuf_parse_lexer.specs.declared.lexer.token.Place.{Place}
use Rattle.protobuf_parse_lexer.specs.declared.lexer.tokenizer.Brackets.{Brackets}
use Rattle.protobuf_parse_lexer.specs.declared.lexer.tokenizer.NextToken.{NextToken}
use Rattle.protobuf_parse_lexer.specs.declared.lexer.tokenizer.Tokenizer.{Tokenizer}
use Rattle.protobuf_parse_lexer.proofs.BehindRelations.{one_lies_behind}
use Rattle.protobuf_parse_source_info.specs.Spots.{spot_in, spots_in, start, point}
use Rattle.protobuf_parse_source_info.specs.declared.token.Point.{Point}

-- how many bytes stand behind each token that lies ahead
abbrev pub behinds : Tokenizer → List ℕ
behinds t = (one_lies_behind t).0

-- ---- tokens

some_ahead : (n : Option NextToken) (b : Brackets) (p : Place) (z : Bytes) (k : NextToken)
    → n ≡ Some k
    → (with_next n b p z).tokens ≡ next_lexeme k ∷ drop 1 (with_next n b p z).tokens
some_ahead None b p z k e = absurd cc
some_ahead (Some t) b p z k e =
    let q : t ≡ k = cc in
    ap (λ (x : NextToken). next_lexeme x ∷ drop 1 (with_next (Some t) b p z).tokens) q

none_ahead : (n : Option NextToken) (b : Brackets) (p : Place) (z : Bytes) → n ≡ None
    → (with_next n b p z).tokens ≡ []
none_ahead None b p z e = refl
none_ahead (Some t) b p z e = absurd cc

first_spot : (text : Bytes) (us ts : List Lexeme) (ms : List ℕ) (t : Lexeme) (n : ℕ)
    → us ≡ t ∷ ts → first ms ≡ Some n
    → spots_in text us ms ≡ spot_in text t n ∷ spots_in text ts (drop 1 ms)
first_spot text us ts [] t n e f = absurd cc
first_spot text us ts (m ∷ ms) t n e f =
    let q : m ≡ n = cc in
    ap (λ (x : List Lexeme). spots_in text x (m ∷ ms)) e
    ∙ ap (λ (k : ℕ). spot_in text t k ∷ spots_in text ts ms) q

known_first : (n : Option NextToken) (P : Type 0) (k : NextToken) → n ≡ Some k
    → IfSome n (λ t. P) → P
known_first None P k e h = absurd cc
known_first (Some t) P k e h = h

-- the token that comes next, and those behind it
pub next_spot : (text : Bytes) (t : Tokenizer) (k : NextToken) (n : ℕ) → t.next ≡ Some k
    → IfSome t.next (λ x. (ns : List ℕ) → LiesBehind t ns → first ns ≡ Some n)
    → spots_in text (lies_ahead t).tokens (behinds t)
    ≡ spot_in text (next_lexeme k) n
    ∷ spots_in text (drop 1 (lies_ahead t).tokens) (drop 1 (behinds t))
next_spot text t k n e f =
    let g = known_first t.next ((ns : List ℕ) → LiesBehind t ns → first ns ≡ Some n) k e f in
    first_spot text (lies_ahead t).tokens (drop 1 (lies_ahead t).tokens) (behinds t)
    (next_lexeme k) n
    (some_ahead t.next t.brackets t.after t.rest.now k e)
    (g (behinds t) (one_lies_behind t).1)

pub no_spot : (text : Bytes) (t : Tokenizer) → t.next ≡ None
    → spots_in text (lies_ahead t).tokens (behinds t) ≡ []
no_spot text t e =
    ap (λ (x : List Lexeme). spots_in text x (behinds t))
    (none_ahead t.next t.brackets t.after t.rest.now e)

pub behinds_gone : (before later : Tokenizer)
    → ((ns : List ℕ) → LiesBehind before ns → LiesBehind later (drop 1 ns))
    → behinds later ≡ drop 1 (behinds before)
behinds_gone before later h =
    sym ((one_lies_behind later).2 (drop 1 (behinds before))
    (h (behinds before) (one_lies_behind before).1))

pub behinds_only : (t : Tokenizer) (ns : List ℕ) → LiesBehind t ns → behinds t ≡ ns
behinds_only t ns h = sym ((one_lies_behind t).2 ns h)

pub fewer_ahead : (t later : Tokenizer) (k : NextToken) → t.next ≡ Some k
    → lies_ahead later ≡ behind (lies_ahead t)
    → length (lies_ahead later).tokens < length (lies_ahead t).tokens
fewer_ahead t later k e f =
    let a = ap (λ (x : List Lexeme). length x)
    (some_ahead t.next t.brackets t.after t.rest.now k e) in
    let b : length (lies_ahead later).tokens ≡ length (drop 1 (lies_ahead t).tokens) =
    ap (λ x. length x.tokens) f in
    omega (arith, a, b)

-- ---- points

step_little : (p : BytePlace) (b : ℕ)
    → ((step p b).line ≤ p.line + 1) × ((step p b).column ≤ p.column + 8)
step_little p b = go (b == 10) (b == 9)
  where
    fed : BytePlace
    fed = record { line = p.line + 1; column = 0 }

    tabbed : BytePlace
    tabbed = record { line = p.line; column = p.column + 8 - p.column % 8 }

    next : BytePlace
    next = record { line = p.line; column = p.column + 1 }

    go : (x y : Bool) → ((cond x fed (cond y tabbed next)).line ≤ p.line + 1)
        × ((cond x fed (cond y tabbed next)).column ≤ p.column + 8)
    go true y = (omega arith, omega arith)
    go false true = (omega arith, omega arith)
    go false false = (omega arith, omega arith)

pub after_little : (p : BytePlace) (z : Bytes)
    → ((after p z).line ≤ p.line + length z) × ((after p z).column ≤ p.column + 8 * length z)
after_little p [] = (omega arith, omega arith)
after_little p (b ∷ z) =
    let s = step_little p b in
    let r = after_little (step p b) z in
    (omega (arith, s.0, r.0), omega (arith, s.1, r.1))

pub after_more : (p : BytePlace) (y z : Bytes) → after p (y ++ z) ≡ after (after p y) z
after_more p [] z = refl
after_more p (b ∷ y) z = after_more (step p b) y z

take_short : (n : ℕ) (z : Bytes) → length (take n z) ≤ length z
take_short zero z = omega arith
take_short (suc n) [] = omega arith
take_short (suc n) (b ∷ z) = let r = take_short n z in omega (arith, r)

pub drop_short : (n : ℕ) (z : Bytes) → length (drop n z) ≤ length z
drop_short zero z = omega arith
drop_short (suc n) [] = omega arith
drop_short (suc n) (b ∷ z) = let r = drop_short n z in omega (arith, r)

pub part_short : (n k : ℕ) (z : Bytes) → length (take n (drop k z)) ≤ length z
part_short n k z =
    let t = take_short n (drop k z) in let d = drop_short k z in omega (arith, t, d)

-- a place has no more lines and columns than its text has room for
pub point_little : (text : Bytes) (p : Point) → p ≡ point text p.byte
    → (p.place.line ≤ length text) × (p.place.column ≤ 8 * length text)
point_little text p e =
    let place : p.place ≡ after start (take p.byte text) = ap (λ (q : Point). q.place) e in
    let r = after_little start (take p.byte text) in
    let t = take_short p.byte text in
    let l : p.place.line ≡ (after start (take p.byte text)).line =
    ap (λ (q : BytePlace). q.line) place in
    let c : p.place.column ≡ (after start (take p.byte text)).column =
    ap (λ (q : BytePlace). q.column) place in
    (omega (arith, r.0, t, l), omega (arith, r.1, t, c))

-- a point further on
pub point_after : (text : Bytes) (p : Point) (to : ℕ) → p ≡ point text p.byte → p.byte ≤ to
    → after p.place (take (to - p.byte) (drop p.byte text)) ≡ after start (take to text)
point_after text p to e h =
    let n : p.byte + (to - p.byte) ≡ to = omega (arith, h) in
    ap (λ (q : Point). after q.place (take (to - p.byte) (drop p.byte text))) e
    ∙ sym (after_more start (take p.byte text) (take (to - p.byte) (drop p.byte text)))
    ∙ ap (after start) (sym (take-add p.byte (to - p.byte) text))
    ∙ ap (λ (k : ℕ). after start (take k text)) n
