-- How many bytes stand behind tokens, a piece of the text at a time.
use Rattle.std.proofs.Common.{◌≡◌, ℕ, zero, suc, ◌+◌, ◌-◌, ◌<◌, ◌≤◌, true, false, List, [], ◌∷◌, length, take, drop, refl, sym, ap, ◌∙◌, subst, arith, length-drop, if◌then◌else◌, cond, Bool, ◌&&◌, ◌==◌}
use Rattle.std.proofs.lemmas.List.{drop-drop, length-take-le}
use Rattle.protobuf_parse_lexer.specs.Ahead.{deepens, counted}
use Rattle.protobuf_parse_lexer.specs.BehindOf.{behind_piece, behind_within, behinds}
use Rattle.protobuf_parse_lexer.specs.Behind.{StandsBefore, EachStands, no_token, one_token}
use Rattle.protobuf_parse_lexer.specs.Cut.{Cut, done, blank, token, mark_len, HasTokens, Stream}
use Rattle.protobuf_parse_lexer.specs.Tokens.{Lexeme}
use Rattle.protobuf_parse_lexer.specs.declared.lexer.token.Place.{Place}
use Rattle.protobuf_parse_lexer.specs.Scan.{Stands}
use Rattle.protobuf_parse_lexer.specs.Text.{Bytes, IsBlank, IsToken}
use Rattle.protobuf_parse_lexer.specs.Text.{AllIn, RunStopsAt}
use Rattle.protobuf_parse_lexer.specs.Tokens.{is_opening, is_closing}
use Rattle.protobuf_parse_lexer.specs.Total.{total}
use Rattle.protobuf_parse_lexer.specs.declared.lexer.bytes.ByteClass.TheVariants as class
use Rattle.protobuf_parse_lexer.specs.declared.lexer.front.Piece.{Piece}
use Rattle.protobuf_parse_lexer.specs.declared.lexer.front.Piece.TheVariants as piece
use Rattle.protobuf_parse_lexer.specs.declared.lexer.token.TokenKind.{TokenKind}
use Rattle.protobuf_parse_lexer.proofs.Ahead.{blank_some, less, ShallowFrom, shallow_here, shallow_next}
use Rattle.protobuf_parse_lexer.proofs.Cuts.{token_some}
use Rattle.protobuf_parse_lexer.proofs.ShortWays.{are_blank}
use Rattle.protobuf_parse_lexer.proofs.Unique.{one}

abbrev Same : (ℕ → ℕ → Bytes → List ℕ) → (ℕ → ℕ → Bytes → List ℕ) → ℕ → Type 0
Same f g n = (o c : ℕ) (z : Bytes) → length z < n → f o c z ≡ g o c z

same_step : (f g : ℕ → ℕ → Bytes → List ℕ) (o c : ℕ) (z : Bytes) (r : Piece) → Stands z r
    → Same f g (length z) → behind_piece f o c z r ≡ behind_piece g o c z r
same_step f g o c z piece.End is same = refl
same_step f g o c z (piece.Blank n) is same =
    same o c (drop n z) (less z n (blank_some z n is))
same_step f g o c z (piece.Token n k) is same =
    ap (λ (ns : List ℕ). if deepens o c k then [] else (length (drop n z) ∷ ns))
    (same (counted (is_opening k) o) (counted (is_closing k) c) (drop n z)
    (less z n (token_some z n k is)))
same_step f g o c z (piece.Fault e) is same = refl

enough : (m n o c : ℕ) (z : Bytes) → length z < m → length z < n
    → behind_within m o c z ≡ behind_within n o c z
unfolding behind_within
enough zero n o c z a b = absurd (omega arith)
enough (suc m) zero o c z a b = absurd (omega arith)
enough (suc m) (suc n) o c z a b =
    same_step (behind_within m) (behind_within n) o c z (total z).0 (total z).1
    (λ o' c' y h. enough m n o' c' y (omega arith) (omega arith))

-- where a piece stands at the front
pub behinds_is : (o c : ℕ) (z : Bytes) (r : Piece) → Stands z r
    → behinds o c z ≡ behind_piece behinds o c z r
unfolding behinds behind_within
behinds_is o c z r is =
    ap (behind_piece (behind_within (length z)) o c z) (one z (total z).0 r (total z).1 is)
    ∙ same_step (behind_within (length z)) behinds o c z r is
    (λ o' c' y h. enough (length z) (suc (length y)) o' c' y h (omega arith))

pub blank_behinds : (o c : ℕ) (z rest : Bytes) (n : ℕ) → IsBlank z n → rest ≡ drop n z
    → behinds o c rest ≡ behinds o c z
blank_behinds o c z rest n is e = ap (behinds o c) e ∙ sym (behinds_is o c z (piece.Blank n) is)

pub blanks_behinds : (o c : ℕ) (z rest : Bytes) (n : ℕ) → n ≤ length z
    → AllIn class.Blank z 0 n → RunStopsAt class.Blank z n → rest ≡ drop n z
    → behinds o c rest ≡ behinds o c z
blanks_behinds o c z rest zero within each stops e = ap (behinds o c) e
blanks_behinds o c z rest (suc n) within each stops e =
    blank_behinds o c z rest (suc n) (are_blank z (suc n) (omega arith) within each stops) e

pub token_behinds : (o c o' c' : ℕ) (z rest : Bytes) (n : ℕ) (k : TokenKind) → IsToken z n k
    → rest ≡ drop n z → deepens o c k ≡ false → o' ≡ counted (is_opening k) o
    → c' ≡ counted (is_closing k) c → (length rest ∷ behinds o' c' rest) ≡ behinds o c z
token_behinds o c o' c' z rest n k is e few more less =
    ap (λ (y : Bytes). length y ∷ behinds o' c' y) e
    ∙ ap (λ (i : ℕ). length (drop n z) ∷ behinds i c' (drop n z)) more
    ∙ ap (λ (i : ℕ). length (drop n z) ∷ behinds (counted (is_opening k) o) i (drop n z)) less
    ∙ sym (behinds_is o c z (piece.Token n k) is ∙ rw few refl)

pub deep_behinds : (o c : ℕ) (z : Bytes) (n : ℕ) (k : TokenKind) → IsToken z n k
    → deepens o c k ≡ true → [] ≡ behinds o c z
deep_behinds o c z n k is deep = sym (behinds_is o c z (piece.Token n k) is ∙ rw deep refl)

-- ---- in a whole text

stands : (text z word : Bytes) (n : ℕ) → n + length z ≡ length text → z ≡ drop n text
    → (k : ℕ) → k ≤ length z → word ≡ take k z → StandsBefore text word (length (drop k z))
stands text z word n all e k within is =
    let front : length word ≡ k = ap length is ∙ length-take-le k z within in
    let back : length (drop k z) ≡ length z - k = length-drop k z in
    let at : length text - (length (drop k z) + length word) ≡ n = omega arith in
    record {
      within = omega arith;
      is =
          ap (λ (i : ℕ). take (length word) (drop i text)) at
          ∙ ap (take (length word)) (sym e)
          ∙ ap (λ (i : ℕ). take i z) front
          ∙ sym is;
    }

left : (text z : Bytes) (n k : ℕ) → z ≡ drop n text → drop k z ≡ drop (n + k) text
left text z n k e = ap (drop k) e ∙ drop-drop k n text

cut_stands : {p q : Place} {z : Bytes} {ts : List Lexeme} (text : Bytes) (o c at : ℕ)
    → Cut p z ts q [] → ShallowFrom o c ts → at + length z ≡ length text → z ≡ drop at text
    → EachStands text ts (behinds o c z)
cut_stands {p} {q} text o c at done shallow all e =
    subst (EachStands text []) (sym (behinds_is o c [] piece.End refl)) no_token
cut_stands {p} {q} {z} text o c at (blank n is cut) shallow all e =
    let some = blank_some z n is in
    let len = length-drop n z in
    subst (EachStands text _) (sym (behinds_is o c z (piece.Blank n) is))
    (cut_stands text o c (at + n) cut shallow (omega (arith, some.1, len, all)) (left text z at n e))
cut_stands {p} {q} {z} text o c at (token {ts = ts} n k is cut) shallow all e =
    let t : Lexeme = record { kind = k; text = take n z; place = p } in
    let flat = shallow_here o c t ts shallow in
    let some = token_some z n k is in
    let len = length-drop n z in
    let goes : behinds o c z ≡ length (drop n z)
    ∷ behinds (counted (is_opening k) o) (counted (is_closing k) c) (drop n z) =
    behinds_is o c z (piece.Token n k) is ∙ rw flat refl in
    subst (EachStands text (t ∷ ts)) (sym goes)
    (one_token (stands text z (take n z) at all e n some.1 refl)
    (cut_stands text (counted (is_opening k) o) (counted (is_closing k) c) (at + n) cut
    (shallow_next o c t ts shallow) (omega (arith, some.1, len, all)) (left text z at n e)))

mark_within : (text : Bytes) → mark_len text + length (drop (mark_len text) text) ≡ length text
mark_within text = go text (mark_len text) (mark_fits text)
  where
    go : (text : Bytes) (n : ℕ) → n ≤ length text → n + length (drop n text) ≡ length text
    go text n h = omega (arith, length-drop n text, h)

    if_three : (t : Bool) (n : ℕ) → 3 ≤ n → cond t 3 0 ≤ n
    if_three true n h = h
    if_three false n h = omega arith

    not_two : (s t : Bool) (n : ℕ) → cond (s && false && t) 3 0 ≤ n
    not_two true t n = omega arith
    not_two false t n = omega arith

    not_three : (s t : Bool) (n : ℕ) → cond (s && t && false) 3 0 ≤ n
    not_three true true n = omega arith
    not_three true false n = omega arith
    not_three false t n = omega arith

    mark_fits : (text : Bytes) → mark_len text ≤ length text
    mark_fits [] = omega arith
    mark_fits (a ∷ []) = not_two (a == 0xef) false 1
    mark_fits (a ∷ b ∷ []) = not_three (a == 0xef) (b == 0xbb) 2
    mark_fits (a ∷ b ∷ c ∷ z) =
        if_three (a == 0xef && b == 0xbb && c == 0xbf) (length (a ∷ b ∷ c ∷ z)) (omega arith)

-- of a text with tokens each stands so far before its end
pub each_stands : (text : Bytes) (s : Stream) → HasTokens text s
    → EachStands text s.tokens (behinds 0 0 (drop (mark_len text) text))
each_stands text s has =
    cut_stands text 0 0 (mark_len text) has.cut (λ n deep. has.shallow n (omega (arith, deep)))
    (mark_within text) refl
