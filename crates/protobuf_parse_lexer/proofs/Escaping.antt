-- Escaped bytes in double quotes are a string token, which stands for just those bytes.
use Rattle.std.proofs.Common.{◌≡◌, ℕ, zero, suc, ◌+◌, ◌*◌, ◌/◌, ◌%◌, ◌<◌, ◌≤◌, Bool, true, false}
use Rattle.std.proofs.Common.{cond, eqb, leb, ◌&&◌, List, [], ◌∷◌, ◌++◌, length, Some, All, refl}
use Rattle.std.proofs.Common.{sym, ap, ◌∙◌, subst, inl, arith, append_assoc, length-append}
use Rattle.std.specs.Char.{digit_value}
use Rattle.std.specs.Str.Parse.{digits_value}
use Rattle.std.proofs.lemmas.Bool.{false≢true, eqb-true, ne_eqb, and_parts, leb-true, le-leb}
use Rattle.std.proofs.lemmas.List.Elements.{All-head, All-tail}
use Rattle.std.proofs.lemmas.Str.{digit_value_digit}
use Rattle.protobuf_parse_lexer.specs.Text.{Bytes, is_in, AllIn}
use Rattle.protobuf_parse_lexer.specs.Scan.{closing}
use Rattle.protobuf_parse_lexer.specs.Tokens.{IsEscape, letter, octal, Decodes, done, as_is}
use Rattle.protobuf_parse_lexer.specs.Tokens.{escape}
use Rattle.protobuf_parse_base.specs.Escapes.{escaped_byte, escaped_bytes}
use Rattle.protobuf_parse_lexer.specs.Laws.{EscapedBytesDecode}
use Rattle.protobuf_parse_lexer.specs.declared.lexer.bytes.ByteClass.TheVariants as class
use Rattle.protobuf_parse_lexer.proofs.Quotes.{unquoted-quoted}
use Rattle.protobuf_parse_lexer.specs.Front.{string_answer, long_string}

-- the ways in which one byte is written
data Written (b : ℕ) : List ℕ → Type 0 where
  short : (c : ℕ) → eqb c 10 ≡ false → eqb c 0 ≡ false
      → ((z : Bytes) → IsEscape (92 ∷ c ∷ z) 2 (b ∷ [])) → Written b (92 ∷ c ∷ [])
  itself : 32 ≤ b → (b ≡ 34 → ⊥) → (b ≡ 92 → ⊥) → Written b (b ∷ [])
  digits : b < 256 → Written b (92 ∷ (48 + b / 64) ∷ (48 + b / 8 % 8) ∷ (48 + b % 8) ∷ [])

abbrev Cases : ℕ → Bool → Bool → Bool → Bool → Bool → Bool → Bool → Type 0
Cases b f r t d s k p =
    Written b
    (cond f (92 ∷ 110 ∷ [])
    (cond r (92 ∷ 114 ∷ [])
    (cond t (92 ∷ 116 ∷ [])
    (cond d (92 ∷ 34 ∷ []) (cond s (92 ∷ 39 ∷ []) (cond k (92 ∷ 92 ∷ []) (cond p (b ∷ [])
    (92 ∷ (48 + b / 64) ∷ (48 + b / 8 % 8) ∷ (48 + b % 8) ∷ []))))))))

short_for : (b c v : ℕ) → eqb c 10 ≡ false → eqb c 0 ≡ false
    → ((z : Bytes) → IsEscape (92 ∷ c ∷ z) 2 (v ∷ [])) → b ≡ v → Written b (92 ∷ c ∷ [])
short_for b c v e f g is = subst (λ x. Written x (92 ∷ c ∷ [])) (sym is) (short c e f g)

written : (b : ℕ) → b < 256 → Written b (escaped_byte b)
written b small = choose (eqb b 10) (eqb b 13) (eqb b 9) (eqb b 34) (eqb b 39) (eqb b 92)
    (leb 32 b && leb b 126)
    (λ e. eqb-true b 10 e) (λ e. eqb-true b 13 e) (λ e. eqb-true b 9 e) (λ e. eqb-true b 34 e)
    (λ e. eqb-true b 39 e) (λ e. eqb-true b 92 e)
    (λ d k p. let parts = and_parts (leb 32 b) (leb b 126) p in
    itself (leb-true 32 b parts.0) (λ e. both d (ap (λ x. eqb x 34) e))
    (λ e. both k (ap (λ x. eqb x 92) e)))
  where
    both : {x : Bool} → x ≡ false → x ≡ true → ⊥
    both p q = false≢true (sym p ∙ q)

    choose : (f r t d s k p : Bool) → (f ≡ true → b ≡ 10) → (r ≡ true → b ≡ 13) → (t ≡ true → b ≡ 9)
        → (d ≡ true → b ≡ 34) → (s ≡ true → b ≡ 39) → (k ≡ true → b ≡ 92) →
        (d ≡ false → k ≡ false → p ≡ true → Written b (b ∷ [])) → Cases b f r t d s k p
    choose true r t d s k p a _ _ _ _ _ _ =
        short_for b 110 10 refl refl (λ z. letter 10 refl) (a refl)
    choose false true t d s k p _ a _ _ _ _ _ =
        short_for b 114 13 refl refl (λ z. letter 13 refl) (a refl)
    choose false false true d s k p _ _ a _ _ _ _ =
        short_for b 116 9 refl refl (λ z. letter 9 refl) (a refl)
    choose false false false true s k p _ _ _ a _ _ _ =
        short_for b 34 34 refl refl (λ z. letter 34 refl) (a refl)
    choose false false false false true k p _ _ _ _ a _ _ =
        short_for b 39 39 refl refl (λ z. letter 39 refl) (a refl)
    choose false false false false false true p _ _ _ _ _ a _ =
        short_for b 92 92 refl refl (λ z. letter 92 refl) (a refl)
    choose false false false false false false true _ _ _ _ _ _ a = a refl refl refl
    choose false false false false false false false _ _ _ _ _ _ _ = digits small

-- ---- where the string closes

module _ (more : List ℕ) where
  digit_goes : (at d : ℕ) → d < 8
      → closing 34 false at ((48 + d) ∷ more) ≡ closing 34 false (at + 1) more
  digit_goes at d small =
      let f : eqb (48 + d) 10 ≡ false = ne_eqb (48 + d) 10 (λ e. omega arith) in
      let n : eqb (48 + d) 0 ≡ false = ne_eqb (48 + d) 0 (λ e. omega arith) in
      let q : eqb (48 + d) 34 ≡ false = ne_eqb (48 + d) 34 (λ e. omega arith) in
      let s : eqb (48 + d) 92 ≡ false = ne_eqb (48 + d) 92 (λ e. omega arith) in
      rw (f, n, q, s) refl

  taken_goes : (at c : ℕ) → eqb c 10 ≡ false → eqb c 0 ≡ false
      → closing 34 true at (c ∷ more) ≡ closing 34 false (at + 1) more
  taken_goes at c f n = rw (f, n) refl

  taken_digit : (at d : ℕ) → d < 8
      → closing 34 true at ((48 + d) ∷ more) ≡ closing 34 false (at + 1) more
  taken_digit at d small =
      taken_goes at (48 + d) (ne_eqb (48 + d) 10 (λ e. omega arith))
      (ne_eqb (48 + d) 0 (λ e. omega arith))

  itself_goes : (at b : ℕ) → 32 ≤ b → (b ≡ 34 → ⊥) → (b ≡ 92 → ⊥)
      → closing 34 false at (b ∷ more) ≡ closing 34 false (at + 1) more
  itself_goes at b large no_quote no_slash =
      let f : eqb b 10 ≡ false = ne_eqb b 10 (λ e. omega arith) in
      let n : eqb b 0 ≡ false = ne_eqb b 0 (λ e. omega arith) in
      let q : eqb b 34 ≡ false = ne_eqb b 34 no_quote in
      let s : eqb b 92 ≡ false = ne_eqb b 92 no_slash in
      rw (f, n, q, s) refl

goes_on : (at b : ℕ) (w more : List ℕ) → Written b w
    → closing 34 false at (w ++ more) ≡ closing 34 false (at + length w) more
goes_on at b w more (short c f n e) = let two : at + 1 + 1 ≡ at + 2 = omega arith in
    taken_goes more (at + 1) c f n ∙ ap (λ k. closing 34 false k more) two
goes_on at b w more (itself large no_quote no_slash) = itself_goes more at b large no_quote no_slash
goes_on at b w more (digits small) =
    let x = 48 + b / 8 % 8 in
    let y = 48 + b % 8 in
    let four : at + 1 + 1 + 1 + 1 ≡ at + 4 = omega arith in
    taken_digit (x ∷ y ∷ more) (at + 1) (b / 64) (omega arith)
    ∙ digit_goes (y ∷ more) (at + 1 + 1) (b / 8 % 8) (omega arith)
    ∙ digit_goes more (at + 1 + 1 + 1) (b % 8) (omega arith)
    ∙ ap (λ k. closing 34 false k more) four

closes : (at : ℕ) (bytes rest : List ℕ) → All (λ b. b < 256) bytes
    → closing 34 false at (escaped_bytes bytes ++ 34 ∷ rest)
    ≡ Some (at + length (escaped_bytes bytes) + 1)
closes at [] rest all = let n : at + 1 ≡ at + 0 + 1 = omega arith in ap (λ k. Some k) n
closes at (b ∷ bytes) rest all =
    let w = escaped_byte b in
    let es = escaped_bytes bytes in
    let n : at + length w + length es + 1
    ≡ at + length (w ++ es) + 1 = omega (arith, length-append w es) in
    ap (closing 34 false at) (append_assoc w es (34 ∷ rest))
    ∙ goes_on at b w (es ++ 34 ∷ rest) (written b (All-head (λ x. x < 256) b bytes all))
    ∙ closes (at + length w) bytes rest (All-tail (λ x. x < 256) b bytes all) ∙ ap (λ k. Some k) n

-- ---- what they stand for

octal_digit : (d : ℕ) → d < 8 → is_in class.Octal (48 + d) ≡ true
octal_digit d small =
    let low : leb 48 (48 + d) ≡ true = le-leb 48 (48 + d) (omega arith) in
    let high : leb (48 + d) 55 ≡ true = le-leb (48 + d) 55 (omega arith) in
    rw (low, high) refl

octal_each : (x y w : ℕ) (more : List ℕ) → x < 8 → y < 8 → w < 8
    → AllIn class.Octal (92 ∷ (48 + x) ∷ (48 + y) ∷ (48 + w) ∷ more) 1 4
octal_each x y w more p q r zero after before = absurd (omega arith)
octal_each x y w more p q r (suc zero) after before = octal_digit x p
octal_each x y w more p q r (suc (suc zero)) after before = octal_digit y q
octal_each x y w more p q r (suc (suc (suc zero))) after before = octal_digit w r
octal_each x y w more p q r (suc (suc (suc (suc k)))) after before = absurd (omega arith)

value_of : (d : ℕ) → d < 8 → digit_value (48 + d) ≡ d
value_of d small = let e = digit_value_digit (48 + d) (omega arith, omega arith) in omega arith

octal_value : (x y w : ℕ) → x < 8 → y < 8 → w < 8
    → digits_value 8 ((48 + x) ∷ (48 + y) ∷ (48 + w) ∷ []) ≡ (x * 8 + y) * 8 + w
octal_value x y w p q r =
    let a = value_of x p in
    let b = value_of y q in
    let c = value_of w r in
    omega (arith, a, b, c)

octal_escape : (b : ℕ) (more : List ℕ) → b < 256
    → IsEscape (92 ∷ (48 + b / 64) ∷ (48 + b / 8 % 8) ∷ (48 + b % 8) ∷ more) 4 (b ∷ [])
octal_escape b more small =
    let x = b / 64 in
    let y = b / 8 % 8 in
    let w = b % 8 in
    let value : digits_value 8 ((48 + x) ∷ (48 + y) ∷ (48 + w) ∷ [])
    ≡ b = octal_value x y w (omega arith) (omega arith) (omega arith) ∙ whole b in
    subst (λ v. IsEscape (92 ∷ (48 + x) ∷ (48 + y) ∷ (48 + w) ∷ more) 4 (v ∷ [])) value
    (octal 4
    (record {
      some = omega arith;
      within = omega arith;
      short = omega arith;
      each =
          octal_each x y w more (omega arith) (omega arith) (omega arith);
      stops = λ less.
          absurd (omega arith);
    })
    (omega (arith, value)))
  where
    whole : (n : ℕ) → (n / 64 * 8 + n / 8 % 8) * 8 + n % 8 ≡ n
    whole n = omega arith

decode_one : (b : ℕ) (w more v : List ℕ) → Written b w → Decodes more v
    → Decodes (w ++ more) (b ∷ v)
decode_one b w more v (short c f n e) d = escape 2 (b ∷ []) refl (e more) d
decode_one b w more v (itself large no_quote no_slash) d = as_is b no_slash d
decode_one b w more v (digits small) d = escape 4 (b ∷ []) refl (octal_escape b more small) d

decodes : (bytes : List ℕ) → All (λ b. b < 256) bytes → Decodes (escaped_bytes bytes) bytes
decodes [] all = done
decodes (b ∷ bytes) all =
    decode_one b (escaped_byte b) (escaped_bytes bytes) bytes
    (written b (All-head (λ x. x < 256) b bytes all))
    (decodes bytes (All-tail (λ x. x < 256) b bytes all))

pub escaped_decode : EscapedBytesDecode
escaped_decode bytes rest all =
    let es = escaped_bytes bytes in
    let z = 34 ∷ (es ++ 34 ∷ rest) in
    let n : 1 + length es + 1 ≡ length es + 2 = omega arith in
    let string = string_answer z (Some (length es + 2)) (omega arith) (inl refl)
    (ap (λ k. Some k) (sym n) ∙ sym (closes 1 bytes rest all)) in (
      (string.0, long_string z (length es + 2) (inl refl) string),
      unquoted-quoted 34 es (inl refl),
      decodes bytes all,
    )
