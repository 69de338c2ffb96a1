-- What a fault before the end of a text says of its tokens.
use Rattle.std.proofs.Common.{◌≡◌, ◌∙◌, ◌⊎◌, inl, inr, List, [], ◌∷◌, ◌++◌, ap, refl, subst, sym}
use Rattle.std.proofs.Common.{append_assoc, true, false, Bool, ◌&&◌, if◌then◌else◌}
use Rattle.std.proofs.Math.Dec.{eqb}
use Rattle.std.proofs.lemmas.Bool.{eq-eqb}
use Rattle.protobuf_parse_grammar.specs.Relations.{StopsAt, first_mark, head}
use Rattle.protobuf_parse_lexer.specs.Cut.{HasTokens, IsRefused, Stream, error_place, out_of_memory}
use Rattle.protobuf_parse_lexer.specs.Text.{Bytes}
use Rattle.protobuf_parse_lexer.specs.Tokens.{Lexeme}
use Rattle.protobuf_parse_lexer.specs.declared.error.ParserError.{ParserError}
use Rattle.protobuf_parse_lexer.specs.declared.error.ParserError.TheVariants as error
use Rattle.protobuf_parse_lexer.specs.declared.error.ParserErrorWithLocation.{ParserErrorWithLocation}
use Rattle.protobuf_parse_lexer.specs.declared.lexer.token.Place.{Place}
use Rattle.protobuf_parse_syntax.specs.Grammar.{IsFile, place_of}
use Rattle.protobuf_parse_syntax.specs.Parsing.{IsFaultOf, IsGrammarFault}
use Rattle.protobuf_parse_syntax.specs.Trees.{FileSyntax}
use Rattle.protobuf_parse_expected.specs.Expected.{NeverGoesOn, NoFileBegins}
use Rattle.protobuf_parse_expected.specs.Reading.{IsReading, is_at, reading_at, stops}
use Rattle.protobuf_parse_expected.specs.declared.reading.Probed.{Probed}
use Rattle.protobuf_parse_expected.specs.declared.reading.Probed.TheVariants as probed

-- it is one that stops
stopping : (ts : List Lexeme) (last at : Place) (e : ParserError) → stops e ≡ true
    → IsGrammarFault ts last e at → StopsAt place_of IsFile ts last at
stopping ts last at error.IncorrectInput is fault = fault
stopping ts last at error.ExpectConstant is fault = fault.0
stopping ts last at error.LabelNotAllowed is fault = fault.0
stopping ts last at error.LabelRequired is fault = fault.0
stopping ts last at error.GroupNameShouldStartWithUpperCase is fault = fault.0
stopping ts last at error.MapFieldNotAllowed is fault = fault.0
stopping ts last at error.OneOfInGroup is fault = fault.0
stopping ts last at error.OnlyFieldsInGroup is fault = fault.0
stopping ts last at error.Memory is fault = absurd fault
stopping ts last at error.UnexpectedCharacter is fault = absurd fault
stopping ts last at error.UnterminatedComment is fault = absurd fault
stopping ts last at error.UnterminatedString is fault = absurd fault
stopping ts last at error.BadNumber is fault = absurd fault
stopping ts last at error.NestingTooDeep is fault = absurd fault
stopping ts last at error.TextTooLong is fault = absurd fault
stopping ts last at error.IntegerOverflow is fault = absurd cc
stopping ts last at error.OptionNameTooLong is fault = absurd cc
stopping ts last at error.UnknownSyntax is fault = absurd cc
stopping ts last at error.StrLitDecode is fault = absurd cc
stopping ts last at error.FloatConstant is fault = absurd cc
stopping ts last at (error.BadImportPath why) is fault = absurd cc

-- where a list stops before its end, no file begins with it
never : (ts front rest : List Lexeme) → ts ≡ front ++ rest → (rest ≡ [] → ⊥)
    → ((other : List Lexeme) (a : FileSyntax) → head other ≡ head rest → IsFile (front ++ other) a → ⊥)
    → NoFileBegins ts
never ts front [] parts some stop more t is = absurd (some refl)
never ts front (r ∷ rest) parts some stop more t is = stop (r ∷ (rest ++ more)) t refl
    (subst (λ (us : List Lexeme). IsFile us t) (ap (λ us. us ++ more) parts
    ∙ append_assoc front (r ∷ rest) more) is)

-- a fault at the end is at the end
at-end : (e : ParserErrorWithLocation) (end : Place) → error_place e ≡ end → is_at e end ≡ true
at-end e end same = subst (λ (p : Place). is_at e p ≡ true) same
    (ap (λ b. b && eqb e.col e.col) (eq-eqb e.line e.line refl) ∙ eq-eqb e.col e.col refl)

-- a fault before the end that stops
before-end : (text : Bytes) (e : ParserErrorWithLocation) (s : Stream) → ((t : Stream)
    → HasTokens text t → s ≡ t) → ((er : ParserError) (at : Place) → IsRefused text er at → ⊥)
    → IsFaultOf text e.error (error_place e) → is_at e s.end ≡ false → stops e.error ≡ true
    → NeverGoesOn text
before-end text e s only read (inl refused) apart is =
    absurd (read e.error (error_place e) refused)
before-end text e s only read (inr (t, has, fault)) apart is =
    let stop = stopping t.tokens t.end (error_place e) e.error is fault in
    (t, has, never t.tokens stop.front stop.rest stop.parts (some stop) stop.never)
  where
    some : (stop : StopsAt place_of IsFile t.tokens t.end (error_place e)) → stop.rest ≡ [] → ⊥
    some stop nil =
        let there : error_place e ≡ s.end = stop.place
        ∙ ap (λ (rs : List Lexeme). first_mark place_of t.end rs) nil
        ∙ sym (ap (λ (u : Stream). u.end) (only t has)) in
        let wrong : true ≡ false = sym (at-end e s.end there) ∙ apart in
        absurd cc

-- what is known of a text that was refused
pub reading-there : (text : Bytes) (e : ParserErrorWithLocation) (s : Stream) (r : Probed)
    → ((t : Stream) → HasTokens text t → s ≡ t)
    → ((er : ParserError) (at : Place) → IsRefused text er at → ⊥)
    → (e ≡ out_of_memory) ⊎ IsFaultOf text e.error (error_place e)
    → (e.error ≡ error.Memory → ⊥) → r ≡ reading_at e s.end → IsReading text r
reading-there text e s r only read (inl short) other is =
    absurd (other (ap (λ (f : ParserErrorWithLocation). f.error) short))
reading-there text e s r only read (inr fault) other is =
    subst (IsReading text) (sym is) (decide (is_at e s.end) (stops e.error) refl refl)
  where
    decide : (a b : Bool) → is_at e s.end ≡ a → stops e.error ≡ b
        → IsReading text (if a then probed.Open else (if b then probed.Never else probed.Other))
    decide true b p q = tt
    decide false true p q = before-end text e s only read fault p q
    decide false false p q = tt
