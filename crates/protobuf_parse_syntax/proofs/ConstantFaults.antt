-- A float in a constant: what stands before it, from the constant's first token on.
use Rattle.std.proofs.Common.{◌≡◌, ◌⊎◌, ℕ, true, List, [], ◌∷◌, ◌++◌, inl, inr, refl, sym, ap}
use Rattle.std.proofs.Common.{subst, ◌∙◌, append_assoc, Bool, false, Result, Ok, Err}
use Rattle.protobuf_parse_base.specs.Characters as char
use Rattle.protobuf_parse_grammar.specs.Combinators.{run_many}
use Rattle.protobuf_parse_grammar.specs.Pairs.{both}
use Rattle.protobuf_parse_grammar.specs.Readers.{Rest, end, token, onto, read, starts, all_apart-law}
use Rattle.protobuf_parse_grammar.specs.Relations.{Then, Many}
use Rattle.protobuf_parse_lexer.specs.Tokens.{Lexeme}
use Rattle.protobuf_parse_lexer.specs.Classes.{symbol as symbol_class, float, is_one_of}
use Rattle.protobuf_parse_lexer.specs.declared.error.ParserError.{ParserError}
use Rattle.protobuf_parse_lexer.specs.declared.lexer.token.Place.{Place}
use Rattle.protobuf_parse_syntax.specs.ClassLaws.{lexicon}
use Rattle.protobuf_parse_syntax.specs.Grammar.{IsSymbol, IsConstant, ConstantFieldOf}
use Rattle.protobuf_parse_syntax.specs.Parsing.{ConstantFront, in_list, in_field, in_message}
use Rattle.protobuf_parse_syntax.specs.Parsing.{BeginsWith, ItemHead, FieldHead, ColonHead}
use Rattle.protobuf_parse_syntax.specs.Productions as parse
use Rattle.protobuf_parse_syntax.specs.Nested as nest
use Rattle.protobuf_parse_syntax.specs.Trees as tree
use Rattle.protobuf_parse_syntax.specs.Trees.{ConstantSyntax, ConstantFieldSyntax}
use Rattle.protobuf_parse_syntax.specs.Trees.{ConstantNameSyntax}
use Rattle.protobuf_parse_syntax.specs.Code.{Behind, IsWrong, Fails, fails_first, AreEarlier, AreFields}
use Rattle.protobuf_parse_syntax.specs.Code.{InConstant, InValue, InField, IsColon, IsFieldName, FloatNext}
use Rattle.protobuf_parse_syntax.specs.declared.parser.refusal.Refusal.{Refusal}
use Rattle.protobuf_parse_syntax.specs.Trees.{constant_syntax}
use Rattle.protobuf_parse_syntax.specs.Code.{GivesOr}
use Rattle.protobuf_parse_syntax.specs.declared.tree.constant.ProtobufConstant.{ProtobufConstant}
use Rattle.protobuf_parse_syntax.proofs.Constants.{apart_start, no_other_constant}
use Rattle.protobuf_parse_syntax.proofs.Loops.{listed}
use Rattle.protobuf_parse_syntax.proofs.Wrongs.{behind_both, wrong_as, wrong_behind, wrong_first}

-- a part of a constant in which one stands
enter : (F : List Lexeme → Type 0)
    → ((ts us : List Lexeme) → F ts → ConstantFront us → ConstantFront (ts ++ us))
    → (e : ParserError) (used : List Lexeme) (after : Rest Lexeme Place)
    → Behind F InConstant e used after → InConstant e used after
enter F join e used after h =
    let c = h.4 in
    (c.0, subst ConstantFront (sym h.2) (join h.0 h.1 h.3 c.1), c.2)

module _ (n : ℕ) where
  -- ---- lists

  abbrev IsBracket : List Lexeme → Type 0
  IsBracket ts = IsSymbol char.open_bracket ts tt

  abbrev IsItemHead : List Lexeme → Type 0
  IsItemHead ts = (earlier : List ConstantSyntax) × ItemHead n ts earlier

  item_head : (ts us : List Lexeme) → IsBracket ts → AreEarlier (IsConstant n) us
      → IsItemHead (ts ++ us)
  item_head ts us bracket earlier = (
    earlier.0,
    record {
      value = tt;
      front = ts;
      back = us;
      first = bracket;
      second = earlier.1;
      parts = refl;
    },
  )

  items_in : (e : ParserError) (used : List Lexeme) (after : Rest Lexeme Place)
      → Behind IsBracket (Behind (AreEarlier (IsConstant n)) InConstant) e used after
      → InConstant e used after
  items_in e used after h =
      enter IsItemHead (λ ts us head. in_list n ts us head.0 head.1) e used after
      (behind_both InConstant IsBracket (AreEarlier (IsConstant n)) IsItemHead item_head e used
      after h)

  -- behind the first of them
  pub constants_first : (ts us : Rest Lexeme Place) (a : ConstantSyntax)
      → (nest.constant n).run ts ≡ read a us
      → (nest.constants_of (both (nest.constant n))).low.run ts
      ≡ listed (nest.constant n) (a ∷ []) us
  unfolding nest.constants_of run_many
  constants_first ts us a e = rw e refl

  pub wrong_items : (e : Refusal) (ts us after : Rest Lexeme Place)
      → (parse.symbol 91).run ts ≡ read tt us → starts lexicon nest.item_firsts us ≡ true
      → Fails e after ((nest.constants_of (both (nest.constant n))).low.run us)
      ⊎ IsWrong (Behind (AreEarlier (IsConstant n)) InConstant) us e after
      ((nest.constants_of (both (nest.constant n))).low.run us)
      → Fails e after ((nest.list_of (both (nest.constant n))).low.run ts)
      ⊎ IsWrong InConstant ts e after ((nest.list_of (both (nest.constant n))).low.run ts)
  unfolding nest.list_of nest.items_of
  wrong_items e ts us after is some h =
      let l = (parse.symbol 91).sound ts tt us is in
      let inside = Behind (AreEarlier (IsConstant n)) InConstant in
      wrong_as (Behind IsBracket inside) e ts after _ InConstant
      (λ x used. items_in x used after)
      (rw (is, some)
      (wrong_behind inside e us after _ IsBracket l.used ts l.parts l.holds
      (wrong_first inside e us after
      ((nest.constants_of (both (nest.constant n))).low.run us) _ h)))

  -- where its end is read, or not
  module _ (ts us vs : Rest Lexeme Place) (items : List ConstantSyntax)
      (is : (parse.symbol 91).run ts ≡ read tt us)
      (some : starts lexicon nest.item_firsts us ≡ true)
      (are : (nest.constants_of (both (nest.constant n))).low.run us ≡ read items vs) where
    pub list_reads : (ws : Rest Lexeme Place) → (parse.symbol 93).run vs ≡ read tt ws
        → (nest.list_of (both (nest.constant n))).low.run ts
        ≡ read (tree.list (tree.constants items)) ws
    unfolding nest.list_of nest.items_of
    list_reads ws close = rw (is, some, are, close) refl

    pub fails_list_end : (e : Refusal) (after : Rest Lexeme Place)
        → Fails e after ((parse.symbol 93).run vs)
        → Fails e after ((nest.list_of (both (nest.constant n))).low.run ts)
    unfolding nest.list_of nest.items_of
    fails_list_end e after h =
        rw (is, some, are) (fails_first e after ((parse.symbol 93).run vs) _ h)

  -- ---- message constants

  abbrev IsBrace : List Lexeme → Type 0
  IsBrace ts = IsSymbol char.open_brace ts tt

  abbrev AreBracedFields : List Lexeme → Type 0
  AreBracedFields ts = (fields : List ConstantFieldSyntax)
      × Then (IsSymbol char.open_brace) (λ u. Many (ConstantFieldOf (IsConstant n))) ts fields

  abbrev IsFieldHead : List Lexeme → Type 0
  IsFieldHead ts = (name : ConstantNameSyntax) × FieldHead n ts name

  abbrev IsColonHead : List Lexeme → Type 0
  IsColonHead ts = ColonHead n ts tt

  braced_fields : (ts us : List Lexeme) → IsBrace ts → AreFields n us → AreBracedFields (ts ++ us)
  braced_fields ts us brace fields = (
    fields.0,
    record { value = tt; front = ts; back = us; first = brace; second = fields.1; parts = refl },
  )

  field_head : (ts us : List Lexeme) → AreBracedFields ts → IsFieldName us
      → IsFieldHead (ts ++ us)
  field_head ts us (fields, w) name = (
    name.0,
    record {
      value = tt;
      front = w.front;
      back = w.back ++ us;
      first = w.first;
      second =
          record {
            value = fields;
            front = w.back;
            back = us;
            first = w.second;
            second = name.1;
            parts = refl;
          };
      parts =
          ap (λ (v : List Lexeme). v ++ us) w.parts ∙ append_assoc w.front w.back us;
    },
  )

  colon_head : (ts us : List Lexeme) → IsFieldHead ts → IsColon us → IsColonHead (ts ++ us)
  colon_head ts us head colon = record {
    value = head.0;
    front = ts;
    back = us;
    first = head.1;
    second = colon;
    parts = refl;
  }

  value_in : (e : ParserError) (used : List Lexeme) (after : Rest Lexeme Place)
      → Behind IsFieldHead InValue e used after → InConstant e used after
  value_in e used after (front, back, parts, head, inl value) =
      enter IsColonHead (in_field n) e used after
      (behind_both InConstant IsFieldHead IsColon IsColonHead colon_head e used after
      (front, back, parts, head, value))
  value_in e used after (front, back, parts, head, inr (begins, (is, inside, float_next))) = (
    is,
    subst ConstantFront (sym parts) (in_message n front back head.0 head.1 begins inside),
    float_next,
  )

  fields_in : (e : ParserError) (used : List Lexeme) (after : Rest Lexeme Place)
      → Behind IsBrace (Behind (AreFields n) InField) e used after → InConstant e used after
  fields_in e used after h =
      value_in e used after
      (behind_both InValue AreBracedFields IsFieldName IsFieldHead field_head e used after
      (behind_both InField IsBrace (AreFields n) AreBracedFields braced_fields e used after h))

  pub wrong_fields : (e : Refusal) (ts us after : Rest Lexeme Place)
      → (parse.symbol 123).run ts ≡ read tt us
      → Fails e after ((nest.constant_fields_of (both (nest.constant n))).low.run us)
      ⊎ IsWrong (Behind (AreFields n) InField) us e after
      ((nest.constant_fields_of (both (nest.constant n))).low.run us)
      → Fails e after ((nest.message_constant_of (both (nest.constant n))).low.run ts)
      ⊎ IsWrong InConstant ts e after
      ((nest.message_constant_of (both (nest.constant n))).low.run ts)
  unfolding nest.message_constant_of
  wrong_fields e ts us after is h =
      let l = (parse.symbol 123).sound ts tt us is in
      let inside = Behind (AreFields n) InField in
      wrong_as (Behind IsBrace inside) e ts after _ InConstant (λ x used. fields_in x used after)
      (rw is
      (wrong_behind inside e us after _ IsBrace l.used ts l.parts l.holds
      (wrong_first inside e us after
      ((nest.constant_fields_of (both (nest.constant n))).low.run us) _ h)))

  -- the value of a field, behind its name
  pub wrong_value : (e : Refusal) (ts us after : Rest Lexeme Place) (name : ConstantNameSyntax)
      → parse.constant_name.run ts ≡ read name us
      → Fails e after ((nest.value_of (both (nest.constant n))).low.run us)
      ⊎ IsWrong InValue us e after ((nest.value_of (both (nest.constant n))).low.run us)
      → Fails e after ((nest.constant_field_of (both (nest.constant n))).low.run ts)
      ⊎ IsWrong InField ts e after
      ((nest.constant_field_of (both (nest.constant n))).low.run ts)
  unfolding nest.constant_field_of
  wrong_value e ts us after name is h =
      let l = parse.constant_name.sound ts name us is in
      rw is
      (wrong_behind InValue e us after _ IsFieldName l.used ts l.parts (name, l.holds)
      (wrong_first InValue e us after ((nest.value_of (both (nest.constant n))).low.run us) _ h))

-- ---- the value of a field

false_true : {b : Bool} → b ≡ false → b ≡ true → ⊥
false_true e h = cc

-- what is before a float in a constant that begins with a brace
brace_used : (ts after : Rest Lexeme Place) (used : List Lexeme)
    → starts lexicon (symbol_class 123 ∷ []) ts ≡ true → ts ≡ onto used after → FloatNext after
    → BeginsWith (symbol_class 123 ∷ []) used
unfolding starts
brace_used ts after (u ∷ used) h e f = rw e at h
brace_used ts (end m) [] h e f = absurd f
brace_used ts (token t rest) [] h e f = absurd (no_float rest f)
  where
    brace : is_one_of (symbol_class 123 ∷ []) t ≡ true
    brace = rw e at h

    no_float : (rest : Rest Lexeme Place) → FloatNext (token t rest) → ⊥
    no_float (end m) f =
        false_true (all_apart-law lexicon (symbol_class 123 ∷ []) (float ∷ []) t refl brace) f
    no_float (token u us) (inl f) =
        false_true (all_apart-law lexicon (symbol_class 123 ∷ []) (float ∷ []) t refl brace) f
    no_float (token u us) (inr f) =
        false_true (all_apart-law lexicon (symbol_class 123 ∷ [])
        (symbol_class 43 ∷ symbol_class 45 ∷ []) t refl brace) f.0

-- the value behind a colon, and behind none
value_colon : (n : ℕ) (ts us : Rest Lexeme Place) → starts lexicon (symbol_class 58 ∷ []) ts ≡ true
    → (parse.symbol 58).run ts ≡ read tt us
    → (nest.value_of (both (nest.constant n))).low.run ts ≡ (nest.constant n).run us
unfolding nest.value_of
value_colon n ts us colon is = rw (colon, is) refl

value_message : (n : ℕ) (ts : Rest Lexeme Place) → starts lexicon (symbol_class 123 ∷ []) ts ≡ true
    → (nest.value_of (both (nest.constant n))).low.run ts ≡ (nest.constant n).run ts
unfolding nest.value_of
value_message n ts brace =
    rw (
      apart_start (symbol_class 123 ∷ []) (symbol_class 58 ∷ []) ts refl brace,
      no_other_constant ts brace,
      brace,
    ) refl

module _ (n : ℕ) (r : Result ProtobufConstant Refusal) (ts after : Rest Lexeme Place) where
  pub gives_colon : (us : Rest Lexeme Place) → starts lexicon (symbol_class 58 ∷ []) ts ≡ true
      → (parse.symbol 58).run ts ≡ read tt us
      → GivesOr (IsWrong InConstant us) constant_syntax r after ((nest.constant n).run us)
      → GivesOr (IsWrong InValue ts) constant_syntax r after
      ((nest.value_of (both (nest.constant n))).low.run ts)
  gives_colon us colon is h = go r h
    where
      runs : (nest.value_of (both (nest.constant n))).low.run ts ≡ (nest.constant n).run us
      runs = value_colon n ts us colon is

      go : (r : Result ProtobufConstant Refusal)
          → GivesOr (IsWrong InConstant us) constant_syntax r after ((nest.constant n).run us)
          → GivesOr (IsWrong InValue ts) constant_syntax r after
          ((nest.value_of (both (nest.constant n))).low.run ts)
      go (Ok c) h = runs ∙ h
      go (Err e) h =
          let l = (parse.symbol 58).sound ts tt us is in
          wrong_as (Behind IsColon InConstant) e ts after _ InValue (λ x used w. inl w)
          (rw runs (wrong_behind InConstant e us after _ IsColon l.used ts l.parts l.holds h))

  pub gives_message : starts lexicon (symbol_class 123 ∷ []) ts ≡ true
      → GivesOr (IsWrong InConstant ts) constant_syntax r after ((nest.constant n).run ts)
      → GivesOr (IsWrong InValue ts) constant_syntax r after
      ((nest.value_of (both (nest.constant n))).low.run ts)
  gives_message brace h = go r h
    where
      runs : (nest.value_of (both (nest.constant n))).low.run ts ≡ (nest.constant n).run ts
      runs = value_message n ts brace

      go : (r : Result ProtobufConstant Refusal)
          → GivesOr (IsWrong InConstant ts) constant_syntax r after ((nest.constant n).run ts)
          → GivesOr (IsWrong InValue ts) constant_syntax r after
          ((nest.value_of (both (nest.constant n))).low.run ts)
      go (Ok c) h = runs ∙ h
      go (Err e) (inl h) = inl (rw runs h)
      go (Err e) (inr (x, same, w, (used, parts, inside))) =
          inr (
            x,
            same,
            rw runs w,
            (used, parts, inr (brace_used ts after used brace parts inside.2, inside)),
          )
