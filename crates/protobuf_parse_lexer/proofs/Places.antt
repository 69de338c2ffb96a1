-- A place counts line feeds, and the characters after the last one.
use Rattle.std.proofs.Common.{◌≡◌, ℕ, suc, ◌+◌, ◌/◌, ◌%◌, ◌<◌, ◌≤◌, Bool, true, false, not, cond}
use Rattle.std.proofs.Common.{eqb, ltb, leb, List, [], ◌∷◌, ◌++◌, length, take, drop, reverse}
use Rattle.std.proofs.Common.{count_by, refl, sym, ap, ◌∙◌, ⊎_elim, arith, append_assoc, zero-add}
use Rattle.std.specs.List.{fold, take_while, prefix_len}
use Rattle.std.specs.Str.{chars}
use Rattle.std.proofs.lemmas.Str.{chars-encodes}
use Rattle.std.proofs.lemmas.List.{take-append-drop, reverse-append, reverse-reverse}
use Rattle.std.proofs.lemmas.List.Sums.{fold-append, sum_by-append}
use Rattle.std.proofs.lemmas.Bool.{cases_lt, cases_eq, lt-ltb, le-ltb, le-leb, lt-leb, eq-eqb}
use Rattle.std.proofs.lemmas.Bool.{ne_eqb}
use lib.Utf8.{encode, encodes}
use Rattle.protobuf_parse_lexer.specs.Text.{Bytes}
use Rattle.protobuf_parse_lexer.specs.Place.{start, step, after}
use Rattle.protobuf_parse_lexer.specs.Tokens.{Lexeme}
use Rattle.protobuf_parse_lexer.specs.Cut.{Cut, done, blank, token}
use Rattle.protobuf_parse_lexer.specs.Laws.{line_after, column_after, PlacesCountCharacters}
use Rattle.protobuf_parse_lexer.specs.Laws.{TokensStandInTheText}
use Rattle.protobuf_parse_lexer.specs.declared.lexer.token.Place.{Place}

-- ---- by characters

abbrev past_char : Place → ℕ → Place
past_char p c = cond (eqb c 10) (record { line = p.line + 1; col = 1 })
    (record { line = p.line; col = p.col + 1 })

-- a byte that goes on with a character
step_on : (p : Place) (m : ℕ) → m < 64 → step p (128 + m) ≡ p
step_on p m small =
    let a : eqb (128 + m) 10 ≡ false = ne_eqb (128 + m) 10 (λ e. omega arith) in
    let b : ltb (128 + m) 128 ≡ false = le-ltb (128 + m) 128 (omega arith) in
    let c : leb 192 (128 + m) ≡ false = lt-leb 192 (128 + m) (omega arith) in
    rw (a, b, c) refl

-- a byte that begins a longer character
step_lead : (p : Place) (b : ℕ) → 192 ≤ b → step p b ≡ record { line = p.line; col = p.col + 1 }
step_lead p b large =
    let x : eqb b 10 ≡ false = ne_eqb b 10 (λ e. omega arith) in
    let y : ltb b 128 ≡ false = le-ltb b 128 (omega arith) in
    let z : leb 192 b ≡ true = le-leb 192 b large in
    rw (x, y, z) refl

step_ascii : (p : Place) (c : ℕ) → c < 128 → step p c ≡ past_char p c
step_ascii p c small =
    let b : ltb c 128 ≡ true = lt-ltb c 128 small in
    rw b refl

past_long : (p : Place) (c : ℕ) → 128 ≤ c
    → past_char p c ≡ record { line = p.line; col = p.col + 1 }
past_long p c large =
    let a : eqb c 10 ≡ false = ne_eqb c 10 (λ e. omega arith) in
    rw a refl

rest_of : (c : ℕ) → c % 64 < 64
rest_of c = omega arith

after_encode : (p : Place) (c : ℕ) → after p (encode c) ≡ past_char p c
unfolding encode
after_encode p c =
    ⊎_elim
    (λ small. let b : ltb c 128 ≡ true = lt-ltb c 128 small in rw b (step_ascii p c small))
    (λ large.
    let b : ltb c 128 ≡ false = le-ltb c 128 large in
    ⊎_elim
    (λ two. let d : ltb c 2048 ≡ true = lt-ltb c 2048 two in
    rw (b, d) (step_on (step p (192 + c / 64)) (c % 64) (rest_of c)
    ∙ step_lead p (192 + c / 64) (omega arith) ∙ sym (past_long p c large)))
    (λ more.
    let d : ltb c 2048 ≡ false = le-ltb c 2048 more in
    ⊎_elim
    (λ three. let e : ltb c 65536 ≡ true = lt-ltb c 65536 three in rw (b, d, e)
    (step_on (step (step p (224 + c / 4096)) (128 + c / 64 % 64)) (c % 64) (rest_of c)
    ∙ step_on (step p (224 + c / 4096)) (c / 64 % 64) (rest_of (c / 64))
    ∙ step_lead p (224 + c / 4096) (omega arith) ∙ sym (past_long p c large)))
    (λ four. let e : ltb c 65536 ≡ false = le-ltb c 65536 four in rw (b, d, e)
    (step_on (step (step (step p (240 + c / 262144)) (128 + c / 4096 % 64)) (128 + c / 64 % 64))
    (c % 64) (rest_of c)
    ∙ step_on (step (step p (240 + c / 262144)) (128 + c / 4096 % 64)) (c / 64 % 64)
    (rest_of (c / 64))
    ∙ step_on (step p (240 + c / 262144)) (c / 4096 % 64) (rest_of (c / 4096))
    ∙ step_lead p (240 + c / 262144) (omega arith) ∙ sym (past_long p c large)))
    (cases_lt c 65536))
    (cases_lt c 2048))
    (cases_lt c 128)

after_encodes : (p : Place) (cs : List ℕ) → after p (encodes cs) ≡ fold past_char p cs
after_encodes p [] = refl
after_encodes p (c ∷ cs) =
    fold-append step p (encode c) (encodes cs) ∙ ap (λ q. after q (encodes cs)) (after_encode p c)
    ∙ after_encodes (past_char p c) cs

-- the line and the column behind characters, which are given last first
abbrev behind : List ℕ → Place
behind rs =
    record {
      line = 1 + count_by (λ c. eqb c 10) rs;
      col =
          1 + length (take_while (λ c. not (eqb c 10)) rs);
    }

count_cons : (test : ℕ → Bool) (c : ℕ) (rs : List ℕ)
    → count_by test (c ∷ rs) ≡ cond (test c) 1 0 + count_by test rs
count_cons test c rs =
    let e = sum_by-append (λ x. cond (test x) 1 0) (c ∷ []) rs in
    let f : count_by test (c ∷ []) ≡ cond (test c) 1 0 = zero-add (cond (test c) 1 0) in
    e ∙ ap (λ n. n + count_by test rs) f

same_place : (l k c d : ℕ) → l ≡ k → c ≡ d
    → ◌≡◌ {A = Place} (record { line = l; col = c }) (record { line = k; col = d })
same_place l k c d p q = ap (λ n. record { line = n; col = c }) p
    ∙ ap (λ n. record { line = k; col = n }) q

past_feed : (p : Place) (c : ℕ) → eqb c 10 ≡ true
    → past_char p c ≡ record { line = p.line + 1; col = 1 }
past_feed p c t = rw t refl

past_other : (p : Place) (c : ℕ) → eqb c 10 ≡ false
    → past_char p c ≡ record { line = p.line; col = p.col + 1 }
past_other p c t = rw t refl

-- a line feed ends the line, and any other character is one column more
feed_count : (c : ℕ) (rs : List ℕ) → eqb c 10 ≡ true
    → 1 + count_by (λ x. eqb x 10) rs + 1 ≡ 1 + count_by (λ x. eqb x 10) (c ∷ rs)
feed_count c rs t = omega (arith, count_cons (λ x. eqb x 10) c rs, ap {B = ℕ} (λ b. cond b 1 0) t)

other_count : (c : ℕ) (rs : List ℕ) → eqb c 10 ≡ false
    → 1 + count_by (λ x. eqb x 10) rs ≡ 1 + count_by (λ x. eqb x 10) (c ∷ rs)
other_count c rs t = omega (arith, count_cons (λ x. eqb x 10) c rs, ap {B = ℕ} (λ b. cond b 1 0) t)

feed_column : (c : ℕ) (rs : List ℕ) → eqb c 10 ≡ true
    → 1 ≡ 1 + length (take_while (λ x. not (eqb x 10)) (c ∷ rs))
feed_column c rs t = rw t refl

other_column : (c : ℕ) (rs : List ℕ) → eqb c 10 ≡ false
    → 1 + length (take_while (λ x. not (eqb x 10)) rs) + 1
    ≡ 1 + length (take_while (λ x. not (eqb x 10)) (c ∷ rs))
other_column c rs t =
    let tail = take_while (λ x. not (eqb x 10)) rs in
    let next : suc (prefix_len (λ x. not (eqb x 10)) rs)
    ≡ 1 + prefix_len (λ x. not (eqb x 10)) rs = omega arith in
    let more : 1 + length tail + 1 ≡ 1 + length (c ∷ tail) = omega arith in
    let taken : 1 + length (c ∷ tail)
    ≡ 1 + length (take_while (λ x. not (eqb x 10)) (c ∷ rs)) =
    rw t (ap {B = ℕ} (λ n. 1 + length (take n (c ∷ rs))) next) in
    more ∙ taken

behind_more : (c : ℕ) (rs : List ℕ) → past_char (behind rs) c ≡ behind (c ∷ rs)
behind_more c rs =
    ⊎_elim
    (λ e. let t : eqb c 10 ≡ true = eq-eqb c 10 e in past_feed (behind rs) c t
    ∙ same_place _ _ _ _ (feed_count c rs t) (feed_column c rs t))
    (λ e. let t : eqb c 10 ≡ false = ne_eqb c 10 e in past_other (behind rs) c t
    ∙ same_place _ _ _ _ (other_count c rs t) (other_column c rs t))
    (cases_eq c 10)

fold_reverse : (rs : List ℕ) → fold past_char start (reverse rs) ≡ behind rs
fold_reverse [] = refl
fold_reverse (c ∷ rs) = ap (fold past_char start) (reverse-append (c ∷ []) rs)
    ∙ fold-append past_char start (reverse rs) (c ∷ []) ∙ ap (λ p. past_char p c) (fold_reverse rs)
    ∙ behind_more c rs

count_reverse : (test : ℕ → Bool) (rs : List ℕ) → count_by test (reverse rs) ≡ count_by test rs
count_reverse test [] = refl
count_reverse test (c ∷ rs) =
    let e = ap (count_by test) (reverse-append (c ∷ []) rs) in
    let f = sum_by-append (λ x. cond (test x) 1 0) (reverse rs) (c ∷ []) in
    let g = count_reverse test rs in
    omega (arith, e, f, g, count_cons test c rs, count_cons test c [])

fold_chars : (cs : List ℕ) → fold past_char start cs
    ≡ record { line = line_after cs; col = column_after cs }
fold_chars cs =
    ap (fold past_char start) (sym (reverse-reverse cs)) ∙ fold_reverse (reverse cs)
    ∙ ap (λ n. record { line = 1 + n; col = column_after cs }) (count_reverse (λ c. eqb c 10) cs)

pub places_count : PlacesCountCharacters
places_count text utf8 =
    let cs = utf8.0 in
    let same : chars text ≡ cs = ap chars (sym utf8.1.1) ∙ chars-encodes cs utf8.1.0 in
    ap (after start) (sym utf8.1.1) ∙ after_encodes start cs ∙ fold_chars cs
    ∙ ap (λ ds. record { line = line_after ds; col = column_after ds }) (sym same)

-- ---- tokens

abbrev Stands : Place → Bytes → Lexeme → Type 0
Stands p z t = (before : Bytes) × (behind : Bytes) × (z ≡ before ++ t.text ++ behind)
    × (t.place ≡ after p before)

-- what stands past a piece stands in the whole
past_piece : (p : Place) (n : ℕ) (z : Bytes) (t : Lexeme) → Stands (after p (take n z)) (drop n z) t
    → Stands p z t
past_piece p n z t s = (
  take n z ++ s.0,
  s.1,
  sym (take-append-drop n z) ∙ ap (λ y. take n z ++ y) (s.2 ∙ append_assoc s.0 t.text s.1)
      ∙ sym (append_assoc (take n z) s.0 (t.text ++ s.1))
      ∙ sym (append_assoc (take n z ++ s.0) t.text s.1),
  s.3 ∙ sym (fold-append step p (take n z) s.0),
)

tokens_stand_from : {p q : Place} {z rest : Bytes} {us : List Lexeme} (front back : List Lexeme)
    (t : Lexeme) → us ≡ front ++ t ∷ back → Cut p z us q rest → Stands p z t
tokens_stand_from [] back t e done = absurd (cc)
tokens_stand_from (f ∷ front) back t e done = absurd (cc)
tokens_stand_from {p} {z = z} front back t e (blank n is c) =
    past_piece p n z t (tokens_stand_from front back t e c)
tokens_stand_from {p} {z = z} [] back t e (token {ts = ts} n k is c) =
    let head : ◌≡◌ {A = Lexeme} (record { kind = k; text = take n z; place = p }) t = cc in (
      [],
      drop n z,
      sym (take-append-drop n z) ∙ ap (λ (u : Lexeme). u.text ++ drop n z) head,
      sym (ap (λ (u : Lexeme). u.place) head),
    )
tokens_stand_from {p} {z = z} (f ∷ front) back t e (token {ts = ts} n k is c) =
    let tail : ts ≡ front ++ t ∷ back = cc in
    past_piece p n z t (tokens_stand_from front back t tail c)

pub tokens_stand : TokensStandInTheText
tokens_stand text front back t q rest c = tokens_stand_from front back t refl c
