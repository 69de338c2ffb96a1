-- What the readers of constants read, where the next tokens are known.
use Rattle.std.proofs.Common.{◌≡◌, ◌⊎◌, ℕ, ℤ, pos, List, [], ◌∷◌, Option, Some, None, Bool, true, false}
use Rattle.std.proofs.Common.{◌||◌, refl, sym, inl, inr, ◌∙◌}
use Rattle.protobuf_parse_grammar.specs.Readers.{Rest, end, token, Read, read, stuck, wrong, bind}
use Rattle.protobuf_parse_grammar.specs.Pairs.{both}
use Rattle.protobuf_parse_grammar.specs.Readers.{starts, starts-append, or_true, or_left, or_right}
use Rattle.protobuf_parse_grammar.specs.Readers.{seen_by, seen_by-append, all_apart}
use Rattle.protobuf_parse_grammar.specs.Relations.{seen}
use Rattle.protobuf_parse_grammar.specs.Combinators.{run_one, taken}
use Rattle.protobuf_parse_grammar.specs.Readers.{all_apart-law}
use Rattle.protobuf_parse_grammar.specs.Conditions.{meaning}
use Rattle.protobuf_parse_lexer.specs.Tokens.{Lexeme}
use Rattle.protobuf_parse_lexer.specs.Text.{Bytes}
use Rattle.protobuf_parse_lexer.specs.Classes.{sees, symbol as symbol_class, integer, float, text}
use Rattle.protobuf_parse_lexer.specs.Classes.{Class, ident}
use Rattle.protobuf_parse_lexer.specs.Classes.{is_one_of, is_floating, is_string}
use Rattle.protobuf_parse_lexer.specs.declared.lexer.token.Place.{Place}
use Rattle.protobuf_parse_lexer.specs.declared.lexer.token.TokenKind.{TokenKind}
use Rattle.protobuf_parse_lexer.specs.declared.lexer.token.TokenKind.TheVariants as kind
use Rattle.protobuf_parse_lexer.specs.declared.error.ParserError.TheVariants as error
use Rattle.protobuf_parse_syntax.specs.ClassLaws.{lexicon}
use Rattle.protobuf_parse_syntax.specs.Grammar.{if_so, number, small_number, negative, piece_at}
use Rattle.protobuf_parse_syntax.specs.Grammar.{other_constants}
use Rattle.protobuf_parse_syntax.specs.Productions.{symbol, signed_by, sign_and, said_of, found}
use Rattle.protobuf_parse_syntax.specs.Productions.{or_floating, plus, minus, number-law, small-law}
use Rattle.protobuf_parse_syntax.specs.Productions.{str, word_constant, integer_constant}
use Rattle.protobuf_parse_syntax.specs.Trees as tree
use Rattle.protobuf_parse_syntax.specs.Code.{Fails, IsWrong, InConstant, FloatNext, floats_second}
use Rattle.protobuf_parse_syntax.specs.Code.{NextIs, is_end}
use Rattle.protobuf_parse_syntax.specs.Parsing.{BeginsNoConstant, nothing}
use Rattle.protobuf_parse_syntax.specs.Nested as nest
use Rattle.protobuf_parse_syntax.specs.Nested.{constant_firsts, item_firsts}
use Rattle.protobuf_parse_syntax.specs.declared.parser.refusal.Refusal.TheVariants.{Fault}

-- ---- floats

-- it fails, since a float comes next
abbrev FailsFloat : {Y : Type 0} → Rest Lexeme Place → Read Lexeme Place Y → Type 0
FailsFloat ts r = Fails (Fault error.FloatConstant) ts r
    ⊎ IsWrong InConstant ts (Fault error.FloatConstant) ts r

float_wrong : {Y : Type 0} (ts : Rest Lexeme Place) (r : Read Lexeme Place Y) → r ≡ wrong ts
    → FloatNext ts → FailsFloat ts r
float_wrong ts r w next =
    inr (error.FloatConstant, refl, (ts, w), ([], refl, (refl, nothing, next)))

float_next : (ts : Rest Lexeme Place) → starts lexicon (float ∷ []) ts ≡ true → FloatNext ts
unfolding starts
float_next (end m) h = absurd cc
float_next (token t (end m)) h = h
float_next (token t (token u rest)) h = inl h

-- ---- signs

one_seen : (b : Bool) → (b || false) ≡ true → b ≡ true
one_seen true h = refl
one_seen false h = absurd cc

module _ (c : ℕ) (says : Lexeme → Option ℕ) (f : ℕ → ℤ)
    (law : (t : Lexeme) (n : ℕ) → says t ≡ Some n → seen sees (integer ∷ []) t ≡ true) where
  -- before a float, `inf` or `nan`
  pub sign_wrong : (ts : Rest Lexeme Place) → starts lexicon (symbol_class c ∷ []) ts ≡ true
      → floats_second ts ≡ true → (signed_by c says f law).run ts ≡ wrong ts
  unfolding starts signed_by
  sign_wrong (end m) h e = absurd cc
  sign_wrong (token t (end m)) h e = absurd cc
  sign_wrong (token t (token u rest)) h e = rw (one_seen (sees (symbol_class c) t) h, e) refl

  after_sign : Bool → Rest Lexeme Place → Rest Lexeme Place → Read Lexeme Place (Unit {0})
  after_sign b ts us = taken (if_so b (tt {0})) ts us

  signed_value : Rest Lexeme Place → Option ℕ → Rest Lexeme Place → Read Lexeme Place ℤ
  signed_value ts o us = meaning (sign_and c says f law) (said_of f) ts (said_of f o) us

  no_number : (b : Bool) (ts : Rest Lexeme Place) (m : Place)
      → bind (bind (after_sign b ts (end m)) (λ a us. run_one (or_floating says) us))
      (signed_value ts) ≡ bind (after_sign b ts (end m))
      (λ a us. bind (run_one says us) (λ n vs. read (f n) vs))
  unfolding after_sign signed_value
  no_number true ts m = refl
  no_number false ts m = refl

  a_number : (ts us vs : Rest Lexeme Place) (p : Option ℕ)
      → bind (taken (found p) us vs) (signed_value ts)
      ≡ bind (taken p us vs) (λ n ws. read (f n) ws)
  unfolding signed_value
  a_number ts us vs None = refl
  a_number ts us vs (Some n) = refl

  then_number : (b : Bool) (ts : Rest Lexeme Place) (u : Lexeme) (vs : Rest Lexeme Place)
      → is_floating u ≡ false
      → bind (bind (after_sign b ts (token u vs)) (λ a us. run_one (or_floating says) us))
      (signed_value ts) ≡ bind (after_sign b ts (token u vs))
      (λ a us. bind (run_one says us) (λ n ws. read (f n) ws))
  unfolding after_sign
  then_number true ts u vs e = rw e (a_number ts (token u vs) vs (says u))
  then_number false ts u vs e = refl

  -- before any other token
  pub sign_plain : (ts : Rest Lexeme Place) → floats_second ts ≡ false
      → (signed_by c says f law).run ts
      ≡ bind ((symbol c).run ts) (λ a us. bind (run_one says us) (λ n vs. read (f n) vs))
  unfolding signed_by after_sign signed_value
  sign_plain (end m) e = refl
  sign_plain (token t (end m)) e = no_number (sees (symbol_class c) t) (token t (end m)) m
  sign_plain (token t (token u rest)) e =
      then_number (sees (symbol_class c) t) (token t (token u rest)) u rest e

  -- where the sign does not come next
  pub sign_absent : (ts : Rest Lexeme Place) → starts lexicon (symbol_class c ∷ []) ts ≡ false
      → (signed_by c says f law).run ts ≡ stuck ts
  unfolding starts signed_by
  sign_absent (end m) h = refl
  sign_absent (token t rest) h = rw (or_left (sees (symbol_class c) t) false h) refl

  floats_at : (ts : Rest Lexeme Place)
      → ((t : Lexeme) → sees (symbol_class c) t ≡ true
      → is_one_of (symbol_class 43 ∷ symbol_class 45 ∷ []) t ≡ true)
      → starts lexicon (symbol_class c ∷ []) ts ≡ true → floats_second ts ≡ true → FloatNext ts
  unfolding starts
  floats_at (end m) is h e = absurd cc
  floats_at (token t (end m)) is h e = absurd cc
  floats_at (token t (token u rest)) is h e = inr (is t (one_seen (sees (symbol_class c) t) h), e)

  sign_fails : (ts : Rest Lexeme Place)
      → ((t : Lexeme) → sees (symbol_class c) t ≡ true
      → is_one_of (symbol_class 43 ∷ symbol_class 45 ∷ []) t ≡ true)
      → starts lexicon (symbol_class c ∷ []) ts ≡ true → floats_second ts ≡ true
      → FailsFloat ts ((signed_by c says f law).run ts)
  sign_fails ts is h e = float_wrong ts _ (sign_wrong ts h e) (floats_at ts is h e)

pub plus_absent : (ts : Rest Lexeme Place) → starts lexicon (symbol_class 43 ∷ []) ts ≡ false
    → plus.run ts ≡ stuck ts
plus_absent = sign_absent 43 number pos number-law

pub plus_fails : (ts : Rest Lexeme Place) → starts lexicon (symbol_class 43 ∷ []) ts ≡ true
    → floats_second ts ≡ true → FailsFloat ts (plus.run ts)
plus_fails ts h e = sign_fails 43 number pos number-law ts (λ t i. rw i refl) h e

pub plus_plain : (ts : Rest Lexeme Place) → floats_second ts ≡ false
    → plus.run ts ≡ bind ((symbol 43).run ts)
    (λ a us. bind (run_one number us) (λ n vs. read (pos n) vs))
plus_plain = sign_plain 43 number pos number-law

abbrev most : ℕ
most = 9223372036854775808

pub minus_absent : (ts : Rest Lexeme Place) → starts lexicon (symbol_class 45 ∷ []) ts ≡ false
    → minus.run ts ≡ stuck ts
minus_absent = sign_absent 45 (small_number most) negative (small-law most)

pub minus_fails : (ts : Rest Lexeme Place) → starts lexicon (symbol_class 45 ∷ []) ts ≡ true
    → floats_second ts ≡ true → FailsFloat ts (minus.run ts)
minus_fails ts h e = sign_fails 45 (small_number most) negative (small-law most) ts
    (λ t i. or_true (sees (symbol_class 43) t) (sees (symbol_class 45) t || false) (rw i refl)) h e

pub minus_plain : (ts : Rest Lexeme Place) → floats_second ts ≡ false
    → minus.run ts ≡ bind ((symbol 45).run ts)
    (λ a us. bind (run_one (small_number most) us) (λ n vs. read (negative n) vs))
minus_plain = sign_plain 45 (small_number most) negative (small-law most)

-- ---- the next token

pub symbol_absent : (c : ℕ) (ts : Rest Lexeme Place)
    → starts lexicon (symbol_class c ∷ []) ts ≡ false → (symbol c).run ts ≡ stuck ts
unfolding starts
symbol_absent c (end m) h = refl
symbol_absent c (token t rest) h = rw (or_left (sees (symbol_class c) t) false h) refl

piece_at_none : (k : TokenKind) (w : Bytes) → is_string k ≡ false → piece_at k w ≡ None
piece_at_none (kind.Integer n) w h = refl
piece_at_none kind.Ident w h = refl
piece_at_none kind.Float w h = refl
piece_at_none kind.Str w h = absurd cc
piece_at_none (kind.Symbol c) w h = refl

pub str_absent : (ts : Rest Lexeme Place) → starts lexicon (text ∷ []) ts ≡ false
    → str.run ts ≡ stuck ts
unfolding starts str
str_absent (end m) h = refl
str_absent (token t rest) h = rw (piece_at_none t.kind t.text (or_left (sees text t) false h)) refl

-- no other constant begins as a message constant does
pub no_other_constant : (ts : Rest Lexeme Place) → starts lexicon (symbol_class 123 ∷ []) ts ≡ true
    → starts lexicon other_constants ts ≡ false
unfolding starts
no_other_constant (end m) h = absurd cc
no_other_constant (token t rest) h =
    all_apart-law lexicon (symbol_class 123 ∷ []) other_constants t refl h

-- the first tokens of constants, apart
pub none_begins : (ts : Rest Lexeme Place) → starts lexicon (symbol_class 123 ∷ []) ts ≡ false
    → starts lexicon (symbol_class 91 ∷ []) ts ≡ false → starts lexicon (ident [] ∷ []) ts ≡ false
    → starts lexicon (integer ∷ symbol_class 43 ∷ symbol_class 45 ∷ []) ts ≡ false
    → starts lexicon (text ∷ []) ts ≡ false → starts lexicon (float ∷ []) ts ≡ false
    → starts lexicon item_firsts ts ≡ false
none_begins ts brace bracket word digits string floats =
    starts-append lexicon (symbol_class 123 ∷ [])
    (symbol_class 91 ∷ ident [] ∷ integer ∷ symbol_class 43 ∷ symbol_class 45 ∷ text ∷ float ∷ [])
    ts
    ∙ rw (
      brace,
      starts-append lexicon (symbol_class 91 ∷ [])
          (ident [] ∷ integer ∷ symbol_class 43 ∷ symbol_class 45 ∷ text ∷ float ∷ []) ts,
      bracket,
      starts-append lexicon (ident [] ∷ [])
          (integer ∷ symbol_class 43 ∷ symbol_class 45 ∷ text ∷ float ∷ []) ts,
      word,
      starts-append lexicon (integer ∷ symbol_class 43 ∷ symbol_class 45 ∷ [])
          (text ∷ float ∷ []) ts,
      digits,
      starts-append lexicon (text ∷ []) (float ∷ []) ts,
      string,
      floats,
    ) refl

pub item_starts : (ts : Rest Lexeme Place) → starts lexicon item_firsts ts
    ≡ (starts lexicon constant_firsts ts || starts lexicon (float ∷ []) ts)
item_starts ts = starts-append lexicon constant_firsts (float ∷ []) ts

-- with the next token no constant begins, and it is no float
pub begins_none : (ts : Rest Lexeme Place) → starts lexicon item_firsts ts ≡ false
    → is_end ts ≡ false → NextIs BeginsNoConstant ts
unfolding starts
begins_none (end m) h e = absurd cc
begins_none (token t rest) h e =
    let both_none : (seen_by lexicon constant_firsts t || seen_by lexicon (float ∷ []) t) ≡ false =
    sym (seen_by-append lexicon constant_firsts (float ∷ []) t) ∙ h in
    let no_float : sees float t ≡ false =
    or_left (sees float t) false
    (or_right (seen_by lexicon constant_firsts t) (seen_by lexicon (float ∷ []) t) both_none) in
    rw no_float
    (or_left (seen_by lexicon constant_firsts t) (seen_by lexicon (float ∷ []) t) both_none)

-- ---- a constant

-- what begins with the first classes does not begin with the second
pub apart_start : (cs ds : List Class) (ts : Rest Lexeme Place) → all_apart lexicon cs ds ≡ true
    → starts lexicon cs ts ≡ true → starts lexicon ds ts ≡ false
unfolding starts
apart_start cs ds (end m) apart h = refl
apart_start cs ds (token t rest) apart h = all_apart-law lexicon cs ds t apart h

module _ (n : ℕ) (ts : Rest Lexeme Place) where
  -- by its first token
  pub runs_message : starts lexicon (symbol_class 123 ∷ []) ts ≡ true
      → (nest.constant_in n).run ts
      ≡ (nest.message_constant_of (both (nest.constant n))).low.run ts
  unfolding nest.constant_of
  runs_message h = rw (apart_start (symbol_class 123 ∷ []) (float ∷ []) ts refl h, h) refl

  pub runs_list : starts lexicon (symbol_class 91 ∷ []) ts ≡ true
      → (nest.constant_in n).run ts ≡ (nest.list_of (both (nest.constant n))).low.run ts
  unfolding nest.constant_of
  runs_list h =
      rw (
        apart_start (symbol_class 91 ∷ []) (float ∷ []) ts refl h,
        apart_start (symbol_class 91 ∷ []) (symbol_class 123 ∷ []) ts refl h,
        h,
      ) refl

  pub runs_word : starts lexicon (ident [] ∷ []) ts ≡ true
      → (nest.constant_in n).run ts ≡ word_constant.run ts
  unfolding nest.constant_of
  runs_word h =
      rw (
        apart_start (ident [] ∷ []) (float ∷ []) ts refl h,
        apart_start (ident [] ∷ []) (symbol_class 123 ∷ []) ts refl h,
        apart_start (ident [] ∷ []) (symbol_class 91 ∷ []) ts refl h,
        h,
      ) refl

  pub runs_integer : starts lexicon (integer ∷ symbol_class 43 ∷ symbol_class 45 ∷ []) ts ≡ true
      → (nest.constant_in n).run ts ≡ integer_constant.run ts
  unfolding nest.constant_of integer_constant
  runs_integer h =
      let cs = integer ∷ symbol_class 43 ∷ symbol_class 45 ∷ [] in
      rw (
        apart_start cs (float ∷ []) ts refl h,
        apart_start cs (symbol_class 123 ∷ []) ts refl h,
        apart_start cs (symbol_class 91 ∷ []) ts refl h,
        apart_start cs (ident [] ∷ []) ts refl h,
        h,
      ) refl

  pub runs_string : starts lexicon (text ∷ []) ts ≡ true
      → (nest.constant_in n).run ts
      ≡ bind (str.run ts) (λ s us. read (tree.string s) us)
  unfolding nest.constant_of
  runs_string h =
      rw (
        apart_start (text ∷ []) (float ∷ []) ts refl h,
        apart_start (text ∷ []) (symbol_class 123 ∷ []) ts refl h,
        apart_start (text ∷ []) (symbol_class 91 ∷ []) ts refl h,
        apart_start (text ∷ []) (ident [] ∷ []) ts refl h,
        apart_start (text ∷ []) (integer ∷ symbol_class 43 ∷ symbol_class 45 ∷ []) ts refl h,
      ) refl

  pub fails_float : starts lexicon (float ∷ []) ts ≡ true
      → FailsFloat ts ((nest.constant_in n).run ts)
  unfolding nest.constant_of
  fails_float h = float_wrong ts _ (rw h refl) (float_next ts h)
