-- A text has its tokens or one fault, and not both.
use Rattle.std.proofs.Common.{◌≡◌, ◌+◌, ◌<◌, List, [], Result, Ok, Err, IfOk, IfErr, refl, sym, ap}
use Rattle.std.proofs.Common.{◌∙◌, subst, inl, inr, ◌⊎◌, arith, length, Some}
use Rattle.std.proofs.lemmas.Bool.{cases_lt}
use Rattle.protobuf_parse_lexer.specs.Text.{Bytes, IsFault}
use Rattle.protobuf_parse_lexer.specs.Place.{start}
use Rattle.protobuf_parse_lexer.specs.Tokens.{Lexeme, IsShallow, DeepensAt}
use Rattle.protobuf_parse_lexer.specs.Cut.{Cuts, IsShort, Stream, stream, HasTokens, IsRefused}
use Rattle.protobuf_parse_lexer.specs.Cut.{located, error_place, out_of_memory, Reads, Refuses}
use Rattle.protobuf_parse_lexer.specs.declared.error.ParserError.{ParserError}
use Rattle.protobuf_parse_lexer.specs.declared.error.ParserError.TheVariants as error
use Rattle.protobuf_parse_lexer.specs.declared.error.ParserErrorWithLocation.{ParserErrorWithLocation}
use Rattle.protobuf_parse_lexer.specs.declared.lexer.token.Place.{Place}
use Rattle.protobuf_parse_lexer.specs.declared.lexer.token.TokenStream.{TokenStream}
use Rattle.protobuf_parse_lexer.proofs.Unique.{one_cut, one_fault, no_fault_at_end}

-- the three ways to be refused
abbrev IsLong : Bytes → ParserError → Place → Type 0
IsLong text e at = (e ≡ error.TextTooLong) × (2147483647 < length text) × (at ≡ start)

abbrev Nests : Bytes → ParserError → Place → Type 0
Nests text e at = (e ≡ error.NestingTooDeep) × IsShort text
    × ((ts : List Lexeme) × (q : Place) × Cuts text ts q [] × DeepensAt ts at)

abbrev Faults : Bytes → ParserError → Place → Type 0
Faults text e at = IsShort text
    × ((ts : List Lexeme) × (rest : Bytes) × Cuts text ts at rest × IsFault rest e)

ways : (text : Bytes) (e : ParserError) (at : Place) → IsRefused text e at
    → IsLong text e at ⊎ Nests text e at ⊎ Faults text e at
ways text error.TextTooLong at h = inl (refl, h.0, h.1)
ways text error.NestingTooDeep at h = inr (inl (refl, h.0, h.1))
ways text e at h = inr (inr h)

one_deepening : (ts : List Lexeme) (p q : Place) → DeepensAt ts p → DeepensAt ts q → p ≡ q
one_deepening ts p q a b =
    elim (cases_lt a.count b.count) [
      | inl less ↦ absurd (b.earlier (a.count + 1) (omega arith) a.deep)
      | inr more ↦ elim (cases_lt b.count a.count) [
        | inl less ↦ absurd (a.earlier (b.count + 1) (omega arith) b.deep)
        | inr also ↦
            let same : a.count ≡ b.count = omega arith in
            let stands = a.stands in
            let stands' = b.stands in
            let tokens : Some a.token ≡ Some b.token = cc in
            let token : a.token ≡ b.token = cc in
            a.place ∙ ap (λ (t : Lexeme). t.place) token ∙ sym b.place
      ]
    ]

one_read : (text : Bytes) (s t : Stream) → HasTokens text s → HasTokens text t → s ≡ t
one_read text s t a b =
    let same = one_cut text s.tokens t.tokens s.end t.end [] [] a.cut (inl refl) b.cut (inl refl) in
    ap (λ ts. record { tokens = ts; end = s.end }) same.0
    ∙ ap (λ at. record { tokens = t.tokens; end = at }) same.1

no_both : (text : Bytes) (s : Stream) (e : ParserError) (at : Place) → HasTokens text s
    → IsLong text e at ⊎ Nests text e at ⊎ Faults text e at → ⊥
no_both text s e at a (inl h) = omega (arith, a.short, h.1)
no_both text s e at a (inr (inl h)) =
    let same = one_cut text s.tokens h.2.0 s.end h.2.1 [] [] a.cut (inl refl) h.2.2 (inl refl) in
    subst IsShallow same.0 a.shallow (h.2.3.count + 1) h.2.3.deep
no_both text s e at a (inr (inr h)) =
    no_fault_at_end h.1.1 e
    (sym (one_cut text s.tokens h.1.0 s.end at [] h.1.1 a.cut (inl refl) h.1.2
    (inr (e, h.1.3))).2) h.1.3

one_refusal : (text : Bytes) (e f : ParserError) (p q : Place)
    → IsLong text e p ⊎ Nests text e p ⊎ Faults text e p
    → IsLong text f q ⊎ Nests text f q ⊎ Faults text f q → (e ≡ f) × (p ≡ q)
one_refusal text e f p q (inl a) (inl b) = (a.0 ∙ sym b.0, a.2 ∙ sym b.2)
one_refusal text e f p q (inl a) (inr (inl b)) = absurd (omega (arith, a.1, b.1))
one_refusal text e f p q (inl a) (inr (inr b)) = absurd (omega (arith, a.1, b.0))
one_refusal text e f p q (inr (inl a)) (inl b) = absurd (omega (arith, a.1, b.1))
one_refusal text e f p q (inr (inl a)) (inr (inl b)) =
    let same = one_cut text a.2.0 b.2.0 a.2.1 b.2.1 [] [] a.2.2 (inl refl) b.2.2 (inl refl) in
    (a.0 ∙ sym b.0, one_deepening b.2.0 p q (subst (λ ts. DeepensAt ts p) same.0 a.2.3) b.2.3)
one_refusal text e f p q (inr (inl a)) (inr (inr b)) =
    absurd (no_fault_at_end b.1.1 f
    (sym (one_cut text a.2.0 b.1.0 a.2.1 q [] b.1.1 a.2.2 (inl refl) b.1.2 (inr (f, b.1.3))).2)
    b.1.3)
one_refusal text e f p q (inr (inr a)) (inl b) = absurd (omega (arith, a.0, b.1))
one_refusal text e f p q (inr (inr a)) (inr (inl b)) =
    absurd (no_fault_at_end a.1.1 e
    (one_cut text a.1.0 b.2.0 p b.2.1 a.1.1 [] a.1.2 (inr (e, a.1.3)) b.2.2 (inl refl)).2 a.1.3)
one_refusal text e f p q (inr (inr a)) (inr (inr b)) =
    let same = one_cut text a.1.0 b.1.0 p q a.1.1 b.1.1 a.1.2 (inr (e, a.1.3)) b.1.2
    (inr (f, b.1.3)) in
    (one_fault b.1.1 e f (subst (λ z. IsFault z e) same.2 a.1.3) b.1.3, same.1)

pub reads : (text : Bytes) (r : Result TokenStream ParserErrorWithLocation)
    → IfOk r (λ s. HasTokens text (stream s))
    → IfErr r (λ e. (e ≡ out_of_memory) ⊎ IsRefused text e.error (error_place e)) → Reads text r
reads text (Ok t) ok err s has = one_read text (stream t) s ok has
reads text (Err e) ok (inl h) s has = h
reads text (Err e) ok (inr h) s has =
    absurd (no_both text s e.error (error_place e) has (ways text e.error (error_place e) h))

pub refuses : (text : Bytes) (r : Result TokenStream ParserErrorWithLocation)
    → IfOk r (λ s. HasTokens text (stream s))
    → IfErr r (λ e. (e ≡ out_of_memory) ⊎ IsRefused text e.error (error_place e)) → Refuses text r
refuses text (Ok t) ok err e at is = no_both text (stream t) e at ok (ways text e at is)
refuses text (Err f) ok (inl h) e at is = inl h
refuses text (Err f) ok (inr h) e at is =
    let same = one_refusal text f.error e (error_place f) at (ways text f.error (error_place f) h)
    (ways text e at is) in
    inr (ap (λ x. located x (error_place f)) same.0 ∙ ap (λ x. located e x) same.1)

-- a text with tokens has no fault
pub read_not_refused : (text : Bytes) (s : Stream) (e : ParserError) (at : Place)
    → HasTokens text s → IsRefused text e at → ⊥
read_not_refused text s e at has is = no_both text s e at has (ways text e at is)

-- the error of a text's fault
pub one_error : (text : Bytes) (f : ParserErrorWithLocation) (e : ParserError) (at : Place)
    → IsRefused text f.error (error_place f) → IsRefused text e at → f ≡ located e at
one_error text f e at h is =
    let same = one_refusal text f.error e (error_place f) at
    (ways text f.error (error_place f) h) (ways text e at is) in
    ap (λ x. located x (error_place f)) same.0 ∙ ap (λ x. located e x) same.1
