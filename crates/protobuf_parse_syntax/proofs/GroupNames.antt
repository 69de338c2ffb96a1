-- The name of a group: what is read behind the word `group`, and what is told with it.
use Rattle.std.proofs.Common.{◌≡◌, [], ◌∷◌, Option, Some, None, Bool, true, false, ◌&&◌, ◌||◌, codes}
use Rattle.std.proofs.Common.{cond, is_none}
use Rattle.std.proofs.Common.{slice_index, refl, sym, ap, ◌∙◌, inl, inr}
use Rattle.protobuf_parse_grammar.specs.Readers.{Rest, end, token, onto, read, stuck, stopped}
use Rattle.protobuf_parse_grammar.specs.Combinators.{taken}
use Rattle.protobuf_parse_lexer.specs.Text.{Bytes}
use Rattle.protobuf_parse_lexer.specs.Tokens.{Lexeme}
use Rattle.protobuf_parse_lexer.specs.Classes.{sees, word as word_class, ident as ident_class}
use Rattle.protobuf_parse_lexer.specs.declared.lexer.token.Place.{Place}
use Rattle.protobuf_parse_lexer.specs.declared.error.ParserError.TheVariants as error
use Rattle.protobuf_parse_syntax.specs.Grammar.{if_so, is_capital, any_ident, capital_ident}
use Rattle.protobuf_parse_syntax.specs.Parsing.{IsLowName}
use Rattle.protobuf_parse_syntax.specs.Productions.{word, ident, group_name, group_parts}
use Rattle.protobuf_parse_syntax.specs.Productions.{names_low, low_stops}
use Rattle.protobuf_parse_syntax.specs.Readings.{told_with}
use Rattle.protobuf_parse_syntax.specs.Code.{Failure, at, failed, Fails, fails_alike, next_ident}
use Rattle.protobuf_parse_syntax.specs.Code.{NextIs}
use Rattle.protobuf_parse_syntax.specs.declared.parser.refusal.Refusal.{Refusal}
use Rattle.protobuf_parse_syntax.specs.declared.parser.refusal.Refusal.TheVariants.{Fault}
use Rattle.protobuf_parse_syntax.proofs.Failures.{failed_as, never_failed}

-- ---- tokens

-- the token is the word `group`
abbrev is_group : Lexeme → Bool
is_group t = sees (word_class (codes "group")) t

so : (b : Bool) → if_so b (tt {0}) ≡ Some tt → b ≡ true
so true e = refl
so false e = absurd cc

-- what was read is that word
group_read : (ts us : Rest Lexeme Place) → (word (codes "group")).run ts ≡ read tt us
    → (t : Lexeme) × (ts ≡ token t us) × (is_group t ≡ true)
group_read ts us is =
    let l = (word (codes "group")).sound ts tt us is in
    let h = l.holds in
    (h.0, l.parts ∙ ap (λ v. onto v us) h.1, so (is_group h.0) h.2)

ident_text : (u : Lexeme) (w : Bytes) → Some w ≡ any_ident u
    → (sees (ident_class []) u ≡ true) × (u.text ≡ w)
ident_text u w e = go (sees (ident_class []) u) e
  where
    go : (b : Bool) → Some w ≡ if_so b u.text → (b ≡ true) × (u.text ≡ w)
    go true e = (refl, cc)
    go false e = absurd cc

no_ident : (u : Lexeme) → None ≡ any_ident u → sees (ident_class []) u ≡ false
no_ident u e = go (sees (ident_class []) u) e
  where
    go : (b : Bool) → (let none : Option Bytes = None in none) ≡ if_so b u.text → b ≡ false
    go true e = absurd cc
    go false e = refl

no_capital : (u : Lexeme) → None ≡ any_ident u → capital_ident u ≡ None
no_capital u e = go (is_capital (slice_index u.text 0))
  where
    go : (b : Bool) → cond b (any_ident u) None ≡ None
    go true = sym e
    go false = refl

one_seen : (b : Bool) → (b || false) ≡ true → b ≡ true
one_seen true h = refl
one_seen false h = absurd cc

-- ---- where the word does not come next

other_word : (t : Lexeme) (us : Rest Lexeme Place) → is_group t ≡ false → names_low t us ≡ false
other_word t (end m) h = refl
other_word t (token u rest) h = rw h refl

group_word : (ts : Rest Lexeme Place) (f : Failure) → (word (codes "group")).run ts ≡ failed f
    → group_name.run ts ≡ failed f
unfolding group_name
group_word (end m) f is = failed_as (at [] (end m)) f is
group_word (token t us) f is = go (is_group t) refl is
  where
    go : (b : Bool) → is_group t ≡ b → taken (if_so b (tt {0})) (token t us) us ≡ failed f
        → group_name.run (token t us) ≡ failed f
    go true h is = absurd (never_failed tt us f is)
    go false h is = rw (h, other_word t us h) (failed_as (at [] (token t us)) f is)

pub fails_group_word : (e : Refusal) (ts after : Rest Lexeme Place)
    → Fails e after ((word (codes "group")).run ts) → Fails e after (group_name.run ts)
fails_group_word e ts after h =
    fails_alike e after ((word (codes "group")).run ts) (group_name.run ts) (group_word ts) h

-- ---- behind the word

capital_at : (t : Lexeme) (us : Rest Lexeme Place) (w : Bytes) → is_group t ≡ true
    → Some w ≡ next_ident us → is_capital (slice_index w 0) ≡ true
    → group_name.run (token t us) ≡ ident.run us
unfolding group_name
capital_at t (end m) w is next capital = absurd cc
capital_at t (token u rest) w is next capital =
    let x = ident_text u w next in
    let first : is_capital (slice_index u.text 0) ≡ true = rw (x.1) capital in
    rw (is, first, x.0) refl

low_comes : (us : Rest Lexeme Place) (w : Bytes) → Some w ≡ next_ident us
    → is_capital (slice_index w 0) ≡ false → NextIs IsLowName us
low_comes (end m) w next low = absurd cc
low_comes (token u rest) w next low =
    let x = ident_text u w next in
    let first : is_capital (slice_index u.text 0) ≡ false = rw (x.1) low in
    (rw (x.0) refl, rw first refl)

-- what cannot stand behind the word, with what is told of it
told_behind : (t : Lexeme) (us : Rest Lexeme Place) (b : Bool) → names_low t us ≡ b
    → group_parts.run (token t us) ≡ stuck us
    → group_name.run (token t us) ≡ stopped (cond b (t ∷ []) []) us
unfolding group_name
told_behind t us b test stops =
    ap (told_with names_low (token t us)) stops
    ∙ ap (λ (v : Bool). stopped (cond v (t ∷ []) []) us) test

both_true : (a b c : Bool) → a ≡ true → b ≡ true → c ≡ true → (a && (b && c)) ≡ true
both_true a b c p q r = rw (p, q, r) refl

second_false : (a b c : Bool) → b ≡ false → (a && (b && c)) ≡ false
second_false true b c q = rw q refl
second_false false b c q = refl

low_at : (t : Lexeme) (us : Rest Lexeme Place) → is_group t ≡ true → NextIs IsLowName us
    → group_name.run (token t us) ≡ stopped (t ∷ []) us
low_at t (end m) is low = absurd low
low_at t (token u rest) is low =
    let test = both_true (is_group t) (sees (ident_class []) u) (is_none (capital_ident u)) is
    (one_seen (sees (ident_class []) u) low.0) (ap is_none low.1) in
    told_behind t (token u rest) true test (low_stops t (token u rest) test)

no_name_at : (t : Lexeme) (us : Rest Lexeme Place) → is_group t ≡ true → None ≡ next_ident us
    → group_name.run (token t us) ≡ stuck us
no_name_at t (end m) is next = told_behind t (end m) false refl (rw is refl)
no_name_at t (token u rest) is next =
    told_behind t (token u rest) false
    (second_false (is_group t) (sees (ident_class []) u) (is_none (capital_ident u))
    (no_ident u next)) (rw (is, no_capital u next) refl)

module _ (ts us : Rest Lexeme Place) (is : (word (codes "group")).run ts ≡ read tt us) where
  pub capital_name : (w : Bytes) → Some w ≡ next_ident us → is_capital (slice_index w 0) ≡ true
      → group_name.run ts ≡ ident.run us
  capital_name w next capital =
      let x = group_read ts us is in
      ap group_name.run x.1 ∙ capital_at x.0 us w x.2 next capital

  pub fails_low : (w : Bytes) → Some w ≡ next_ident us → is_capital (slice_index w 0) ≡ false
      → Fails (Fault error.GroupNameShouldStartWithUpperCase) us (group_name.run ts)
  fails_low w next low =
      let x = group_read ts us is in
      let comes = low_comes us w next low in
      inr (
        at (x.0 ∷ []) us,
        ap group_name.run x.1 ∙ low_at x.0 us x.2 comes,
        inr (inl (refl, (x.0, refl, rw (x.2) refl, comes))),
      )

  pub no_name : None ≡ next_ident us → group_name.run ts ≡ stuck us
  no_name next =
      let x = group_read ts us is in ap group_name.run x.1 ∙ no_name_at x.0 us x.2 next
