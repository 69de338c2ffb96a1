-- What follows from what stands at the front of a text: where it may be cut, and that it is the one
-- thing there.
use Rattle.std.proofs.Common.{◌≡◌, ℕ, zero, suc, ◌+◌, ◌-◌, ◌<◌, ◌≤◌, Bool, true, false, eqb, List}
use Rattle.std.proofs.Common.{[], ◌∷◌, ◌++◌, length, take, drop, get_or, slice_index, refl, sym, ap}
use Rattle.std.proofs.Common.{◌∙◌, subst, inl, inr, ⊎_elim, ◌⊎◌, arith, ◌||◌, IsUtf8, length-drop}
use Rattle.std.proofs.Common.{length-take, get_or-drop, get_or-take, map, append_assoc}
use Rattle.std.specs.Str.{IsCharBoundary}
use Rattle.std.proofs.lemmas.Str.{IsUtf8-past_char, IsCharBoundary-from_drop, IsCharBoundary-end}
use Rattle.std.proofs.lemmas.Str.{IsCharBoundary-before_ascii, IsCharBoundary-after_ascii}
use Rattle.std.proofs.lemmas.Bool.{false≢true}
use Rattle.std.proofs.lemmas.List.{map_push}
use Rattle.protobuf_parse_lexer.specs.declared.lexer.token.Token.{Token}
use Rattle.protobuf_parse_lexer.specs.Cut.{Cut, Cuts, done, blank, token, located, error_place}
use Rattle.protobuf_parse_lexer.specs.Cut.{out_of_memory}
use Rattle.protobuf_parse_lexer.specs.Tokens.{Lexeme, lexeme}
use Rattle.protobuf_parse_lexer.specs.Place.{after}
use Rattle.protobuf_parse_lexer.specs.declared.error.ParserError.{ParserError}
use Rattle.protobuf_parse_lexer.specs.declared.error.ParserErrorWithLocation.{ParserErrorWithLocation}
use Rattle.protobuf_parse_lexer.specs.declared.lexer.token.Place.{Place}
use Rattle.std.proofs.lemmas.Bool.Decides.{nat_tests}
use Rattle.std.proofs.lemmas.Bool.{cases_lt}
use Rattle.protobuf_parse_lexer.specs.declared.lexer.bytes.ByteClass.TheVariants as class
use Rattle.protobuf_parse_lexer.specs.declared.lexer.token.TokenKind.{TokenKind}
use Rattle.protobuf_parse_lexer.specs.declared.lexer.token.TokenKind.TheVariants as kind
use Rattle.protobuf_parse_lexer.specs.Escapes.{chosen}
use Rattle.protobuf_parse_lexer.specs.Front.{octal_hex}
use Rattle.protobuf_parse_lexer.proofs.TextKinds.{token_kind}
use Rattle.protobuf_parse_lexer.specs.TokenKinds.{kind_of}
use lib.Utf8.{encode}
use Rattle.protobuf_parse_lexer.specs.Text.{Bytes, is_in, IsSpaces, IsLine, IsBlock, IsBlank}
use Rattle.protobuf_parse_lexer.specs.Text.{IsQuote, IsString, IsFloat, IsIntegerText, is_rest}
use Rattle.protobuf_parse_lexer.specs.Text.{is_empty, is_symbol, IsToken, IsFault}

-- ---- each piece ends after an ASCII byte, or at the end

space_ascii : (b : ℕ) → is_in class.Blank b ≡ true → b < 128
space_ascii b h = grind (arith, nat_tests)

ident_ascii : (b : ℕ) → is_in class.Ident b ≡ true → b < 128
ident_ascii b h = grind (arith, nat_tests)

hex_ascii : (b : ℕ) → is_in class.Hex b ≡ true → b < 128
hex_ascii b h = grind (arith, nat_tests)

digit_ascii : (b : ℕ) → is_in class.Digit b ≡ true → b < 128
digit_ascii b h = grind (arith, nat_tests)

after_ascii : (z : Bytes) (n : ℕ) → IsUtf8 z → 0 < n → n ≤ length z → get_or z (n - 1) 0 < 128
    → IsCharBoundary z n
after_ascii z n utf8 some within ascii =
    let e : n - 1 + 1 ≡ n = omega arith in
    subst (IsCharBoundary z) e (IsCharBoundary-after_ascii z (n - 1) utf8 (omega arith) ascii)

spaces_cut : (z : Bytes) (n : ℕ) → IsUtf8 z → IsSpaces z n → IsCharBoundary z n
spaces_cut z n utf8 s =
    after_ascii z n utf8 s.some s.within
    (space_ascii _ (s.each (n - 1) (omega arith) (omega (arith, s.some))))

block_cut : (z : Bytes) (n : ℕ) → IsUtf8 z → IsBlock z n → IsCharBoundary z n
block_cut z n utf8 s =
    let e : n - 2 + 1 ≡ n - 1 = omega (arith, s.some) in
    after_ascii z n utf8 (omega (arith, s.some)) s.within
    (omega (arith, sym (ap (λ k. get_or z k 0) e) ∙ s.closes.1))

line_byte : (b : ℕ) → is_in class.Line b ≡ false → b ≡ 10
line_byte b h = grind (arith, nat_tests)

line_cut : (z : Bytes) (n : ℕ) → IsUtf8 z → IsLine z n → IsCharBoundary z n
line_cut z n utf8 s =
    ⊎_elim
    (λ more. IsCharBoundary-before_ascii z n more (omega (arith, line_byte _ (s.stops more))))
    (λ no_more. let e : length z ≡ n = omega (arith, s.within) in
    subst (IsCharBoundary z) e (IsCharBoundary-end z))
    (cases_lt n (length z))

pub blank_cut : (z : Bytes) (n : ℕ) → IsUtf8 z → IsBlank z n → IsCharBoundary z n
blank_cut z n utf8 (inl s) = spaces_cut z n utf8 s
blank_cut z n utf8 (inr (inl s)) = line_cut z n utf8 s
blank_cut z n utf8 (inr (inr s)) = block_cut z n utf8 s

-- a string ends with its quote
rest_some : (quote : ℕ) (is_escaped : Bool) (u : Bytes) → is_rest quote is_escaped u ≡ true
    → 0 < length u
rest_some quote true [] e = absurd (false≢true e)
rest_some quote false [] e = absurd (false≢true e)
rest_some quote is_escaped (b ∷ u) e = omega arith

last_of_cons : (quote b n : ℕ) (u : Bytes) → ((m : ℕ) → m + 1 ≡ length u → get_or u m 0 ≡ quote)
    → 0 < length u → n + 1 ≡ length (b ∷ u) → get_or (b ∷ u) n 0 ≡ quote
last_of_cons quote b zero u last some len = absurd (omega arith)
last_of_cons quote b (suc n) u last some len = last n (omega arith)

last_of_one : (b n : ℕ) (u : Bytes) → is_empty u ≡ true → n + 1 ≡ length (b ∷ u)
    → get_or (b ∷ u) n 0 ≡ b
last_of_one b zero u e len = refl
last_of_one b (suc n) [] e len = absurd (omega arith)
last_of_one b (suc n) (x ∷ u) e len = absurd (false≢true e)

same_byte : (b quote : ℕ) → eqb b quote ≡ true → b ≡ quote
same_byte b quote h = grind (arith, nat_tests)

last_quote : (quote : ℕ) (is_escaped : Bool) (u : Bytes) (n : ℕ) → is_rest quote is_escaped u ≡ true
    → n + 1 ≡ length u → get_or u n 0 ≡ quote
last_quote quote is_escaped [] n e len = absurd (omega arith)
last_quote quote true (b ∷ u) n e len =
    elim (chosen (eqb b 10 || eqb b 0) false _ _ e) [
      | inl h ↦ absurd (false≢true h.1)
      | inr h ↦ last_of_cons quote b n u (λ m l. last_quote quote false u m h.1 l)
          (rest_some quote false u h.1) len
    ]
last_quote quote false (b ∷ u) n e len =
    elim (chosen (eqb b 10 || eqb b 0) false _ _ e) [
      | inl h ↦ absurd (false≢true h.1)
      | inr h ↦ elim (chosen (eqb b quote) (is_empty u) _ _ h.1) [
        | inl g ↦ last_of_one b n u g.1 len ∙ same_byte b quote g.0
        | inr g ↦ last_of_cons quote b n u (λ m l. last_quote quote (eqb b 92) u m g.1 l)
            (rest_some quote (eqb b 92) u g.1) len
      ]
    ]

quote_ascii : (b : ℕ) → IsQuote b → b < 128
quote_ascii b (inl e) = omega arith
quote_ascii b (inr e) = omega arith

string_cut : (z : Bytes) (n : ℕ) → IsUtf8 z → IsString z n → IsCharBoundary z n
string_cut z n utf8 t =
    let some = rest_some (slice_index z 0) false (take (n - 1) (drop 1 z)) t.rest in
    let len : length (take (n - 1) (drop 1 z))
    ≡ n - 1 = simp (length-take, length-drop) (omega (arith, t.within, t.some)) in
    let two : 2 ≤ n = omega arith in
    let last = last_quote (slice_index z 0) false (take (n - 1) (drop 1 z)) (n - 2) t.rest
    (omega arith) in
    let there : 1 + (n - 2) ≡ n - 1 = omega arith in
    let at : get_or (take (n - 1) (drop 1 z)) (n - 2) 0
    ≡ get_or z (n - 1) 0 = get_or-take (n - 1) (drop 1 z) (n - 2) 0 (omega arith)
    ∙ get_or-drop 1 z (n - 2) 0 ∙ ap (λ k. get_or z k 0) there in
    after_ascii z n utf8 t.some t.within (omega (arith, quote_ascii _ t.quote, sym at ∙ last))

integer_cut : (z : Bytes) (n v : ℕ) → IsUtf8 z → IsIntegerText z n v → IsCharBoundary z n
integer_cut z n v utf8 (inl d) =
    after_ascii z n utf8 d.0.some d.0.within
    (digit_ascii _ (d.0.each (n - 1) (omega arith) (omega (arith, d.0.some))))
integer_cut z n v utf8 (inr (inl h)) =
    after_ascii z n utf8 (omega (arith, h.0.some)) h.0.within
    (hex_ascii _ (h.0.each (n - 1) (omega (arith, h.0.some)) (omega (arith, h.0.some))))
integer_cut z n v utf8 (inr (inr o)) =
    after_ascii z n utf8 (omega (arith, o.0.some)) o.0.within
    (hex_ascii _ (octal_hex z n o.0 (n - 1) (omega (arith, o.0.some)) (omega (arith, o.0.some))))

float_ascii : (z : Bytes) (n : ℕ) → IsFloat z n → get_or z (n - 1) 0 < 128
float_ascii z n f =
    elim f.exponent [
      | inl e ↦ elim f.fraction [
        | inl p ↦ absurd (omega (arith, f.marked))
        | inr p ↦ elim (cases_lt (f.whole + 1) n) [
          | inl more ↦ digit_ascii _ (p.2 (n - 1) (omega arith) (omega arith))
          | inr less ↦ let is : f.whole ≡ n - 1 = omega (arith, p.1) in
              omega (arith, subst (λ k. get_or z k 0 ≡ 46) is p.0)
        ]
      ]
      | inr x ↦ digit_ascii _ (x.each (n - 1) (omega (arith, x.some)) (omega (arith, x.some)))
    ]

float_cut : (z : Bytes) (n : ℕ) → IsUtf8 z → IsFloat z n → IsCharBoundary z n
float_cut z n utf8 f = after_ascii z n utf8 (omega (arith, f.marked)) f.within (float_ascii z n f)

symbol_ascii : (b : ℕ) → is_symbol b ≡ true → b < 128
symbol_ascii b h = grind (arith, nat_tests)

integer_some : (z : Bytes) (n v : ℕ) → IsIntegerText z n v → (0 < n) × (n ≤ length z)
integer_some z n v (inl d) = (d.0.some, d.0.within)
integer_some z n v (inr (inl h)) = (omega (arith, h.0.some), h.0.within)
integer_some z n v (inr (inr o)) = (omega (arith, o.0.some), o.0.within)

pub token_some : (z : Bytes) (n : ℕ) (k : TokenKind) → IsToken z n k → (0 < n) × (n ≤ length z)
token_some z n kind.Ident t = (t.0.some, t.0.within)
token_some z n kind.Str t = (t.0.some, t.0.within)
token_some z n (kind.Integer v) t = integer_some z n v t.0
token_some z n kind.Float t = (omega (arith, t.0.marked), t.0.within)
token_some z n (kind.Symbol b) t = (omega arith, omega arith)

pub token_cut : (z : Bytes) (n : ℕ) (k : TokenKind) → IsUtf8 z → IsToken z n k → IsCharBoundary z n
token_cut z n kind.Ident utf8 t =
    after_ascii z n utf8 t.0.some t.0.within
    (ident_ascii _ (t.0.each (n - 1) (omega arith) (omega (arith, t.0.some))))
token_cut z n kind.Str utf8 t = string_cut z n utf8 t.0
token_cut z n (kind.Integer v) utf8 t = integer_cut z n v utf8 t.0
token_cut z n kind.Float utf8 t = float_cut z n utf8 t.0
token_cut z n (kind.Symbol b) utf8 t =
    let one : 1 ≡ n = omega arith in
    subst (IsCharBoundary z) one
    (after_ascii z 1 utf8 (omega arith) (omega arith) (omega (arith, symbol_ascii b t.3, t.2)))

-- a byte order mark
three : (z : Bytes) → get_or z 0 0 ≡ 0xef → get_or z 1 0 ≡ 0xbb → get_or z 2 0 ≡ 0xbf
    → z ≡ 0xef ∷ 0xbb ∷ 0xbf ∷ drop 3 z
three [] a b c = absurd (omega arith)
three (x ∷ []) a b c = absurd (omega arith)
three (x ∷ y ∷ []) a b c = absurd (omega arith)
three (x ∷ y ∷ w ∷ z) a b c = cc

pub mark_cut : (z : Bytes) → IsUtf8 z → get_or z 0 0 ≡ 0xef → get_or z 1 0 ≡ 0xbb
    → get_or z 2 0 ≡ 0xbf → 3 ≤ length z → IsCharBoundary z 3
unfolding encode
mark_cut z utf8 a b c within =
    IsCharBoundary-from_drop z 3 within (IsUtf8-past_char z (drop 3 z) 0xfeff utf8 (three z a b c))

-- ---- one step of a cut

pub blank_step : (n : ℕ) (p at q : Place) (z piece rest r : Bytes) (ts : List Lexeme) → IsBlank z n
    → piece ≡ take n z → rest ≡ drop n z → at ≡ after p piece → Cut at rest ts q r → Cut p z ts q r
blank_step n p at q z piece rest r ts is e f g c =
    blank n is
    (subst (λ a. Cut a (drop n z) ts q r) (g ∙ ap (after p) e)
    (subst (λ x. Cut at x ts q r) f c))

pub token_step : (n : ℕ) (k : TokenKind) (p at q : Place) (z word rest r : Bytes) (ts : List Lexeme)
    → IsToken z n k → word ≡ take n z → rest ≡ drop n z → at ≡ after p word → Cut at rest ts q r →
    Cut p z (record { kind = kind_of word; text = word; place = p } ∷ ts) q r
token_step n k p at q z word rest r ts is e f g c =
    subst (λ t. Cut p z (record { kind = kind_of t; text = t; place = p } ∷ ts) q r) (sym e)
    (subst (λ j. Cut p z (record { kind = j; text = take n z; place = p } ∷ ts) q r)
    (sym (token_kind z n k is))
    (token n k is
    (subst (λ a. Cut a (drop n z) ts q r) (g ∙ ap (after p) e)
    (subst (λ x. Cut at x ts q r) f c))))

pub push_step : (ts : List Token) (t : Token) (more : List Lexeme)
    → map lexeme (ts ++ t ∷ []) ++ more ≡ map lexeme ts ++ (lexeme t ∷ more)
push_step ts t more = ap (λ l. l ++ more) (map_push lexeme ts t)
    ∙ append_assoc (map lexeme ts) (lexeme t ∷ []) more

pub nil_at_end : (z : Bytes) → length z ≡ 0 → z ≡ []
nil_at_end [] e = refl
nil_at_end (b ∷ z) e = absurd (omega arith)

pub end_step : (p : Place) (z : Bytes) → length z ≡ 0 → Cut p z [] p []
end_step p z e = subst (λ x. Cut p x [] p []) (sym (nil_at_end z e)) done

pub refused : (text z : Bytes) (ts : List Lexeme) (e : ParserError) (p : Place)
    (r : ParserErrorWithLocation) → r ≡ located e p → Cuts text ts p z → IsFault z e →
    (r ≡ out_of_memory)
    ⊎ ((us : List Lexeme) × (rest : Bytes) × Cuts text us (error_place r) rest
    × IsFault rest r.error)
refused text z ts e p r is cut fault =
    let P : ParserErrorWithLocation → Type 0 = λ x. (x ≡ out_of_memory)
    ⊎ ((us : List Lexeme) × (rest : Bytes) × Cuts text us (error_place x) rest
    × IsFault rest x.error) in
    subst P (sym is) (inr (ts, z, cut, fault))
