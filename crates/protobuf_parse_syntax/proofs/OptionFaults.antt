-- What is wrong in an option, behind the head of its statement, or of the list that it stands in.
use Rattle.std.proofs.Common.{◌≡◌, ◌⊎◌, ℕ, ℤ, List, [], ◌++◌, Option, codes}
use Rattle.std.proofs.Common.{Result, Ok, Err}
use Rattle.std.proofs.Common.{inl, inr, refl, sym, ap, ◌∙◌, append_assoc}
use Rattle.protobuf_parse_base.specs.Characters as char
use Rattle.protobuf_parse_grammar.specs.Conditions.{mark_of}
use Rattle.protobuf_parse_grammar.specs.Readers.{Rest, onto, onto-append, Read, read, bind}
use Rattle.protobuf_parse_grammar.specs.Readers.{Shape, Reader}
use Rattle.protobuf_parse_grammar.specs.Relations.{Then}
use Rattle.protobuf_parse_lexer.specs.Text.{Bytes}
use Rattle.protobuf_parse_lexer.specs.Tokens.{Lexeme}
use Rattle.protobuf_parse_lexer.specs.Classes.{Class}
use Rattle.protobuf_parse_lexer.specs.declared.lexer.token.Place.{Place}
use Rattle.protobuf_parse_lexer.specs.declared.error.ParserError.{ParserError}
use Rattle.protobuf_parse_syntax.specs.ClassLaws.{lexicon}
use Rattle.protobuf_parse_syntax.specs.Grammar.{IsAssignment, IsEnumNumber, IsFieldNumber, IsWord}
use Rattle.protobuf_parse_syntax.specs.Grammar.{IsSymbol, place_of}
use Rattle.protobuf_parse_syntax.specs.Readings.{from_first}
use Rattle.protobuf_parse_syntax.specs.Productions as parse
use Rattle.protobuf_parse_syntax.specs.Nested as nest
use Rattle.protobuf_parse_syntax.specs.Trees as tree
use Rattle.protobuf_parse_syntax.specs.Trees.{OptionSyntax, OptionNameSyntax, TypeSyntax, option_syntax}
use Rattle.protobuf_parse_syntax.specs.Parsing.{OptionHead}
use Rattle.protobuf_parse_syntax.specs.Code.{Fails, GivesOr, fails_first, IsWrong, Behind, Says}
use Rattle.protobuf_parse_syntax.specs.Code.{AreEarlier, IsCommaAlone, IsListFront, IsNameHead, InOption}
use Rattle.protobuf_parse_syntax.specs.Code.{InConstant, LongName}
use Rattle.protobuf_parse_syntax.specs.declared.parser.refusal.Refusal.{Refusal}
use Rattle.protobuf_parse_syntax.specs.declared.tree.field.Label.{Label}
use Rattle.protobuf_parse_syntax.specs.declared.tree.option.ProtobufOption.{ProtobufOption}
use Rattle.protobuf_parse_syntax.proofs.Lists.{wrong_comma}
use Rattle.protobuf_parse_syntax.proofs.Wrongs.{fails_from_first, fails_in, behind_both, wrong_as}
use Rattle.protobuf_parse_syntax.proofs.Wrongs.{wrong_first, wrong_behind}

-- ---- an option

module _ (n : ℕ) (e : Refusal) (ts after : Rest Lexeme Place) where
  -- its name is none
  pub wrong_name : Fails e after (parse.option_name.run ts)
      ⊎ IsWrong LongName ts e after (parse.option_name.run ts)
      → Fails e after ((nest.assignment n).low.run ts)
      ⊎ IsWrong InOption ts e after ((nest.assignment n).low.run ts)
  unfolding nest.assignment
  wrong_name h =
      wrong_first InOption e ts after (parse.option_name.run ts) _
      (wrong_as LongName e ts after (parse.option_name.run ts) InOption (λ x used w. inl w) h)

  -- a float stands in the value
  pub wrong_value : (us vs : Rest Lexeme Place) (name : OptionNameSyntax)
      → parse.option_name.run ts ≡ read name us → (parse.symbol 61).run us ≡ read tt vs
      → Fails e after ((nest.constant n).run vs)
      ⊎ IsWrong InConstant vs e after ((nest.constant n).run vs)
      → Fails e after ((nest.assignment n).low.run ts)
      ⊎ IsWrong InOption ts e after ((nest.assignment n).low.run ts)
  unfolding nest.assignment
  wrong_value us vs name is equals h =
      let a = parse.option_name.sound ts name us is in
      let b = (parse.symbol 61).sound us tt vs equals in
      let head : IsNameHead (a.used ++ b.used) = record {
        value = name;
        front = a.used;
        back = b.used;
        first = a.holds;
        second = b.holds;
        parts = refl;
      } in
      let parts = a.parts ∙ ap (onto a.used) b.parts ∙ sym (onto-append a.used b.used vs) in
      wrong_as (Behind IsNameHead InConstant) e ts after _ InOption (λ x used w. inr w)
      (rw (is, equals)
      (wrong_behind InConstant e vs after _ IsNameHead (a.used ++ b.used) ts parts head
      (wrong_first InConstant e vs after ((nest.constant n).run vs) _ h)))

-- ---- an option that is a statement

abbrev IsOptionWord : List Lexeme → Type 0
IsOptionWord ts = IsWord (codes "option") ts tt

module _ (n : ℕ) (e : Refusal) (ts after : Rest Lexeme Place) where
  pub fails_option_word : Fails e after ((parse.word (codes "option")).run ts)
      → Fails e after ((nest.option n).low.run ts)
  unfolding nest.option_parts
  fails_option_word h =
      fails_from_first (nest.option_parts n).low e ts after
      (fails_first e after ((parse.word (codes "option")).run ts) _ h)

  says_option : (x : ParserError) (used : List Lexeme) → Behind IsOptionWord InOption x used after
      → Says x used after
  says_option x used h = ([], used, refl, inl (h.0, h.1, h.2, inl h.3, h.4))

  pub fails_assignment : (us : Rest Lexeme Place)
      → (parse.word (codes "option")).run ts ≡ read tt us
      → Fails e after ((nest.assignment n).low.run us)
      ⊎ IsWrong InOption us e after ((nest.assignment n).low.run us)
      → Fails e after ((nest.option n).low.run ts)
  unfolding nest.option_parts
  fails_assignment us is h =
      let l = (parse.word (codes "option")).sound ts tt us is in
      fails_in (nest.option_parts n).low (Behind IsOptionWord InOption) e ts after says_option
      (rw is
      (wrong_behind InOption e us after _ IsOptionWord l.used ts l.parts l.holds
      (wrong_first InOption e us after ((nest.assignment n).low.run us) _ h)))

  pub fails_option_end : (us vs : Rest Lexeme Place) (option : OptionSyntax)
      → (parse.word (codes "option")).run ts ≡ read tt us
      → (nest.assignment n).low.run us ≡ read option vs
      → Fails e after ((parse.symbol 59).run vs) → Fails e after ((nest.option n).low.run ts)
  unfolding nest.option_parts
  fails_option_end us vs option is said h =
      fails_from_first (nest.option_parts n).low e ts after
      (rw (is, said) (fails_first e after ((parse.symbol 59).run vs) _ h))

  -- ---- options in brackets

  abbrev IsBracket : List Lexeme → Type 0
  IsBracket vs = IsSymbol char.open_bracket vs tt

  list_front : (vs ws : List Lexeme) → IsBracket vs → AreEarlier (IsAssignment n) ws
      → IsListFront n (vs ++ ws)
  list_front vs ws bracket earlier = (
    earlier.0,
    record {
      value = tt;
      front = vs;
      back = ws;
      first = bracket;
      second = earlier.1;
      parts = refl;
    },
  )

  pub fails_bracketed : (us : Rest Lexeme Place) → (parse.symbol 91).run ts ≡ read tt us
      → Fails e after ((nest.assignments n).low.run us)
      ⊎ IsWrong (Behind (AreEarlier (IsAssignment n)) InOption) us e after
      ((nest.assignments n).low.run us)
      → Fails e after ((nest.bracketed_options n).low.run ts)
      ⊎ IsWrong (Behind (IsListFront n) InOption) ts e after
      ((nest.bracketed_options n).low.run ts)
  unfolding nest.bracketed_options
  fails_bracketed us is h =
      let l = (parse.symbol 91).sound ts tt us is in
      let inside = Behind (AreEarlier (IsAssignment n)) InOption in
      wrong_as (Behind IsBracket inside) e ts after _ (Behind (IsListFront n) InOption)
      (λ x used. behind_both InOption IsBracket (AreEarlier (IsAssignment n)) (IsListFront n)
      list_front x used after)
      (rw is
      (wrong_behind inside e us after _ IsBracket l.used ts l.parts l.holds
      (wrong_first inside e us after ((nest.assignments n).low.run us) _ h)))

-- an option that was read behind a comma, or not
pub comma_option : (n : ℕ) (r : Result ProtobufOption Refusal) (ts us after : Rest Lexeme Place)
    → (parse.symbol 44).run ts ≡ read tt us
    → GivesOr (IsWrong InOption us) option_syntax r after ((nest.assignment n).low.run us)
    → GivesOr (IsWrong (Behind IsCommaAlone InOption) ts) option_syntax r after
    ((nest.comma_assignment n).low.run ts)
comma_option n (Ok o) ts us after is h = rw (is, h) refl
comma_option n (Err e) ts us after is h =
    let l = (parse.symbol 44).sound ts tt us is in
    wrong_comma (nest.assignment n).low InOption e ts after us l.used l.parts l.holds (rw is refl) h

-- ---- the options of a field, or of an enum's value

abbrev AnyTokens : List Lexeme → Type 0
AnyTokens ts = Unit {0}

-- behind `=` and a number
abbrev IsNumbered : ℤ → List Lexeme → Type 0
IsNumbered number ts = Then (IsSymbol char.equals) (λ u. IsEnumNumber) ts number

list_head : (n : ℕ) (number : ℤ) (ts us : List Lexeme) → IsNumbered number ts → IsListFront n us
    → OptionHead (ts ++ us)
list_head n number ts us w h = inr (
  n,
  h.0,
  record {
    value = tt;
    front = w.front;
    back = w.back ++ us;
    first = w.first;
    second =
        record {
          value = number;
          front = w.back;
          back = us;
          first = w.second;
          second = h.1;
          parts = refl;
        };
    parts =
        ap (λ (v : List Lexeme). v ++ us) w.parts ∙ append_assoc w.front w.back us;
  },
)

-- where no options are read in a part, behind `=` and a number
fails_options : {Y : Type 0} {R : List Lexeme → Y → Type 0} {s : Shape Class}
    (p : Reader lexicon R s) (n : ℕ) (e : Refusal) (ts vs us after : Rest Lexeme Place)
    (before numbered : List Lexeme) (number : ℤ)
    (g : List OptionSyntax → Rest Lexeme Place → Read Lexeme Place Y) → ts ≡ onto before vs
    → vs ≡ onto numbered us → IsNumbered number numbered
    → p.run ts ≡ bind ((nest.options n).low.run us) g
    → Fails e after ((nest.options n).low.run us)
    ⊎ IsWrong (Behind (IsListFront n) InOption) us e after ((nest.options n).low.run us)
    → Fails e after ((from_first p).run ts)
fails_options p n e ts vs us after before numbered number g parts more is runs h =
    let in_list = Behind (IsListFront n) InOption in
    let behind_number = Behind (IsNumbered number) in_list in
    let r = bind ((nest.options n).low.run us) g in
    fails_in p (Behind AnyTokens behind_number) e ts after
    (λ x used w. (
      w.0,
      w.1,
      w.2,
      inl (behind_both InOption (IsNumbered number) (IsListFront n) OptionHead
          (list_head n number) x w.1 after w.4),
    ))
    (rw runs
    (wrong_behind behind_number e vs after r AnyTokens before ts parts tt
    (wrong_behind in_list e us after r (IsNumbered number) numbered vs more is
    (wrong_first in_list e us after ((nest.options n).low.run us) g h))))

enum_number_of : (ts : List Lexeme) (number : ℤ) → IsFieldNumber ts number → IsEnumNumber ts number
unfolding IsEnumNumber
enum_number_of ts number h = inl h

numbered_by : (equals digits : List Lexeme) (number : ℤ) → IsSymbol char.equals equals tt
    → IsEnumNumber digits number → IsNumbered number (equals ++ digits)
numbered_by equals digits number eq num = record {
  value = tt;
  front = equals;
  back = digits;
  first = eq;
  second = num;
  parts = refl;
}

module _ (n : ℕ) (e : Refusal) (ts vs ws us after : Rest Lexeme Place) (name : Bytes) (number : ℤ)
  where
    -- those of a field
    pub fails_field_options : (place : Place) (label : Option Label) (type_ : TypeSyntax)
        → parse.ident.run ts ≡ read name vs → (parse.symbol char.equals).run vs ≡ read tt ws
        → parse.field_number.run ws ≡ read number us
        → Fails e after ((nest.options n).low.run us)
        ⊎ IsWrong (Behind (IsListFront n) InOption) us e after ((nest.options n).low.run us)
        → Fails e after ((nest.after_type n place label type_).low.run ts)
    unfolding nest.after_type_parts
    fails_field_options place label type_ is eq num h =
        let a = parse.ident.sound ts name vs is in
        let b = (parse.symbol char.equals).sound vs tt ws eq in
        let c = parse.field_number.sound ws number us num in
        fails_options (nest.after_type_parts n place label type_).low n e ts vs us after
        a.used (b.used ++ c.used) number
        (λ options us'. bind ((parse.symbol char.semicolon).run us')
        (λ v vs'. read (tree.field (record {
          place = place;
          label = label;
          type_ = type_;
          name = name;
          number = number;
          options = options;
        })) vs'))
        a.parts (b.parts ∙ ap (onto b.used) c.parts ∙ sym (onto-append b.used c.used us))
        (numbered_by b.used c.used number b.holds (enum_number_of c.used number c.holds))
        (rw (is, eq, num) refl) h

    -- those of an enum's value
    pub fails_value_options : parse.value_name.run ts ≡ read name vs
        → (parse.symbol char.equals).run vs ≡ read tt ws
        → parse.enum_number.run ws ≡ read number us
        → Fails e after ((nest.options n).low.run us)
        ⊎ IsWrong (Behind (IsListFront n) InOption) us e after ((nest.options n).low.run us)
        → Fails e after ((nest.enum_value n).low.run ts)
    unfolding nest.enum_value_parts
    fails_value_options is eq num h =
        let a = parse.value_name.sound ts name vs is in
        let b = (parse.symbol char.equals).sound vs tt ws eq in
        let c = parse.enum_number.sound ws number us num in
        fails_options (nest.enum_value_parts n).low n e ts vs us after
        a.used (b.used ++ c.used) number
        (λ options us'. read (record {
          place = mark_of place_of ts;
          name = name;
          number = number;
          options = options;
        }) us')
        a.parts (b.parts ∙ ap (onto b.used) c.parts ∙ sym (onto-append b.used c.used us))
        (numbered_by b.used c.used number b.holds c.holds) (rw (is, eq, num) refl) h
