-- What is read of statements and bodies whose readers are given for each version of the language
-- apart: in a form that is the same for both.
use Rattle.std.proofs.Common.{◌≡◌, ℕ, List, [], ◌∷◌, Bool, true, false, ◌||◌, cond, codes, drop}
use Rattle.std.proofs.Common.{refl, sym, ◌∙◌, Option, Some, Result, Ok, Err}
use Rattle.std.proofs.lemmas.Bool.{or_parts}
use Rattle.protobuf_parse_grammar.specs.Relations.{somes}
use Rattle.protobuf_parse_grammar.specs.Readers.{Rest, end, token, Read, read, bind, starts}
use Rattle.protobuf_parse_grammar.specs.Readers.{starts-append}
use Rattle.protobuf_parse_grammar.specs.Combinators.{run_many}
use Rattle.protobuf_parse_grammar.specs.Conditions.{mark_of}
use Rattle.protobuf_parse_lexer.specs.Text.{Bytes}
use Rattle.protobuf_parse_lexer.specs.Tokens.{Lexeme}
use Rattle.protobuf_parse_lexer.specs.Classes.{word, words}
use Rattle.protobuf_parse_lexer.specs.declared.lexer.token.Place.{Place}
use Rattle.protobuf_parse_syntax.specs.Trees as tree
use Rattle.protobuf_parse_syntax.specs.ClassLaws.{lexicon}
use Rattle.protobuf_parse_syntax.specs.Productions as parse
use Rattle.protobuf_parse_syntax.specs.Nested as nest
use Rattle.protobuf_parse_syntax.specs.Grammar.{statement_words}
use Rattle.protobuf_parse_syntax.specs.Code.{Fails, fails_first, Puts, PutsSome}
use Rattle.protobuf_parse_syntax.specs.declared.parser.refusal.Refusal.{Refusal}
use Rattle.protobuf_parse_syntax.specs.declared.tree.Syntax.{Syntax}
use Rattle.protobuf_parse_syntax.specs.declared.tree.Syntax.TheVariants.{Proto2, Proto3}

-- no class sees a token
none_starts : (ts : Rest Lexeme Place) → starts lexicon [] ts ≡ false
unfolding starts
none_starts (end m) = refl
none_starts (token t ts) = refl

-- this word comes next
abbrev pub says : Bytes → Rest Lexeme Place → Bool
says w ts = starts lexicon (word w ∷ []) ts

-- this word comes next, and the version is proto2
abbrev pub says_in_proto2 : Syntax → Bytes → Rest Lexeme Place → Bool
says_in_proto2 Proto2 w ts = says w ts
says_in_proto2 Proto3 w ts = false

-- a value made of what is read
abbrev pub made : {A B : Type 0} → (A → B) → Read Lexeme Place A → Read Lexeme Place B
made f r = bind r (λ a rest. read (f a) rest)

-- what fails first fails
pub made_fails : {A B : Type 0} (f : A → B) (e : Refusal) (after : Rest Lexeme Place)
    (r : Read Lexeme Place A) (total : Read Lexeme Place B) → total ≡ made f r → Fails e after r
    → Fails e after total
made_fails f e after r total h g = rw h (fails_first e after r (λ a rest. read (f a) rest) g)

-- what is read is seen so
pub made_reads : {A B : Type 0} (f : A → B) (a : A) (b : B) (after : Rest Lexeme Place)
    (r : Read Lexeme Place A) (total : Read Lexeme Place B) → total ≡ made f r → r ≡ read a after
    → b ≡ f a → total ≡ read b after
made_reads f a b after r total h e v = h ∙ rw (e, v) refl

-- a statement that was put behind a list, or what fails, where none of them is a semicolon
pub puts_some : {X Y : Type 0} (view : X → Y) (result : Result (Unit {0}) Refusal)
    (old new : List X)
    (after : Rest Lexeme Place) (r : Read Lexeme Place Y) (total : Read Lexeme Place (Option Y))
    → total ≡ made Some r → Puts view result old new after r
    → PutsSome view result old new after total
puts_some view (Ok u) old new after r total h (x, e, f) = (Some x, e, h ∙ rw f refl)
puts_some view (Err e) old new after r total h g = made_fails Some e after r total h g

-- ---- services

pub service_statement_runs : (s : Syntax) (n : ℕ) (ts : Rest Lexeme Place)
    → (nest.service_statement s n).low.run ts ≡
    cond (says (codes "rpc") ts) (made tree.service_method ((nest.rpc n).low.run ts))
    (cond (says_in_proto2 s (codes "stream") ts)
    (made tree.service_method ((nest.stream n).low.run ts))
    (made tree.service_option ((nest.option n).low.run ts)))
unfolding nest.service_statement
service_statement_runs Proto2 n ts = refl
service_statement_runs Proto3 n ts = rw (none_starts ts) refl

pub service_item_runs : (s : Syntax) (n : ℕ) (ts : Rest Lexeme Place)
    → (nest.service_item s n).low.run ts ≡ (nest.item (nest.service_statement s n)).low.run ts
unfolding nest.service_item
service_item_runs Proto2 n ts = refl
service_item_runs Proto3 n ts = refl

pub service_items_run : (s : Syntax) (n : ℕ) (ts : Rest Lexeme Place)
    → (nest.service_items s n).low.run ts ≡ made somes (run_many (nest.service_item s n).low ts)
unfolding nest.service_items
service_items_run Proto2 n ts = refl
service_items_run Proto3 n ts = refl

pub service_runs : (s : Syntax) (n : ℕ) (ts : Rest Lexeme Place)
    → (nest.service s n).low.run ts
    ≡ bind ((parse.word (codes "service")).run ts)
    (λ u us. bind (parse.ident.run us)
    (λ name vs. bind
    (bind ((parse.symbol 123).run vs)
    (λ u ws. bind ((nest.service_items s n).low.run ws)
    (λ body xs. bind ((parse.symbol 125).run xs) (λ u ys. read body ys)))) (λ body ws.
    read (record { place = mark_of lexicon.mark ts; name = name; body = body }) ws)))
unfolding nest.service_pair
service_runs Proto2 n ts = refl
service_runs Proto3 n ts = refl

-- ---- messages

message_statement_runs : (s : Syntax) (n : ℕ) (ts : Rest Lexeme Place)
    → (nest.message_statement s n).low.run ts ≡
    cond (says (codes "reserved") ts) (made tree.message_reserved (parse.reserved.run ts))
    (cond (says (codes "oneof") ts) (made tree.message_oneof ((nest.oneof s n).low.run ts))
    (cond (says (codes "extend") ts) (made tree.message_extend ((nest.extend s n).low.run ts))
    (cond (says (codes "message") ts) (made tree.nested_message ((nest.message s n).run ts))
    (cond (says (codes "enum") ts) (made tree.message_enum ((nest.enumeration n).low.run ts))
    (cond (says_in_proto2 s (codes "extensions") ts)
    (made tree.message_extensions (parse.extensions.run ts))
    (cond (says (codes "option") ts) (made tree.message_option ((nest.option n).low.run ts))
    (made tree.message_field ((nest.field s n).run ts))))))))
unfolding nest.message_statement_of
message_statement_runs Proto2 n ts = refl
message_statement_runs Proto3 n ts = rw (none_starts ts) refl

-- not `extensions`, or not in proto2
no_extensions : (s : Syntax) (ts : Rest Lexeme Place)
    → (s ≡ Proto2 → says (codes "extensions") ts ≡ false)
    → says_in_proto2 s (codes "extensions") ts ≡ false
no_extensions Proto2 ts h = h refl
no_extensions Proto3 ts h = refl

-- each alternative, where the words before it do not come next
module _ (s : Syntax) (n : ℕ) (ts : Rest Lexeme Place) where
  pub message_reserved : says (codes "reserved") ts ≡ true
      → (nest.message_statement s n).low.run ts ≡ made tree.message_reserved (parse.reserved.run ts)
  message_reserved h = message_statement_runs s n ts ∙ rw h refl

  module _ (a : says (codes "reserved") ts ≡ false) where
    pub message_oneof : says (codes "oneof") ts ≡ true
        → (nest.message_statement s n).low.run ts
        ≡ made tree.message_oneof ((nest.oneof s n).low.run ts)
    message_oneof h = message_statement_runs s n ts ∙ rw (a, h) refl

    module _ (b : says (codes "oneof") ts ≡ false) where
      pub message_extend : says (codes "extend") ts ≡ true
          → (nest.message_statement s n).low.run ts
          ≡ made tree.message_extend ((nest.extend s n).low.run ts)
      message_extend h = message_statement_runs s n ts ∙ rw (a, b, h) refl

      module _ (c : says (codes "extend") ts ≡ false) where
        pub message_message : says (codes "message") ts ≡ true
            → (nest.message_statement s n).low.run ts
            ≡ made tree.nested_message ((nest.message s n).run ts)
        message_message h = message_statement_runs s n ts ∙ rw (a, b, c, h) refl

        module _ (d : says (codes "message") ts ≡ false) where
          pub message_enum : says (codes "enum") ts ≡ true
              → (nest.message_statement s n).low.run ts
              ≡ made tree.message_enum ((nest.enumeration n).low.run ts)
          message_enum h = message_statement_runs s n ts ∙ rw (a, b, c, d, h) refl

          module _ (e : says (codes "enum") ts ≡ false) where
            pub message_extensions : s ≡ Proto2 → says (codes "extensions") ts ≡ true
                → (nest.message_statement s n).low.run ts
                ≡ made tree.message_extensions (parse.extensions.run ts)
            message_extensions v h = message_statement_runs s n ts ∙ rw (a, b, c, d, e, v, h) refl

            module _ (f : s ≡ Proto2 → says (codes "extensions") ts ≡ false) where
              pub message_option : says (codes "option") ts ≡ true
                  → (nest.message_statement s n).low.run ts
                  ≡ made tree.message_option ((nest.option n).low.run ts)
              message_option h = message_statement_runs s n ts
                  ∙ rw (a, b, c, d, e, no_extensions s ts f, h) refl

              pub message_field : says (codes "option") ts ≡ false
                  → (nest.message_statement s n).low.run ts
                  ≡ made tree.message_field ((nest.field s n).run ts)
              message_field h = message_statement_runs s n ts
                  ∙ rw (a, b, c, d, e, no_extensions s ts f, h) refl

-- no word of a list begins what comes next
module _ (w : Bytes) (ws : List Bytes) (ts : Rest Lexeme Place)
    (h : starts lexicon (words (w ∷ ws)) ts ≡ false) where
  neither : (says w ts || starts lexicon (words ws) ts) ≡ false
  neither = sym (starts-append lexicon (word w ∷ []) (words ws) ts) ∙ h

  first_no : says w ts ≡ false
  first_no = (or_parts (says w ts) (starts lexicon (words ws) ts) neither).0

  rest_no : starts lexicon (words ws) ts ≡ false
  rest_no = (or_parts (says w ts) (starts lexicon (words ws) ts) neither).1

-- a field, where no statement of another kind begins
pub message_normal : (s : Syntax) (n : ℕ) (ts : Rest Lexeme Place)
    → starts lexicon (words statement_words) ts ≡ false
    → (nest.message_statement s n).low.run ts ≡ made tree.message_field ((nest.field s n).run ts)
message_normal s n ts h =
    let behind = λ (k : ℕ). drop k statement_words in
    let a = rest_no (codes "reserved") (behind 1) ts h in
    let b = rest_no (codes "oneof") (behind 2) ts a in
    let c = rest_no (codes "extend") (behind 3) ts b in
    let d = rest_no (codes "message") (behind 4) ts c in
    let e = rest_no (codes "enum") (behind 5) ts d in
    let f = rest_no (codes "extensions") (behind 6) ts e in
    message_field s n ts (first_no (codes "reserved") (behind 1) ts h)
    (first_no (codes "oneof") (behind 2) ts a) (first_no (codes "extend") (behind 3) ts b)
    (first_no (codes "message") (behind 4) ts c) (first_no (codes "enum") (behind 5) ts d)
    (λ v. first_no (codes "extensions") (behind 6) ts e)
    (first_no (codes "option") (behind 7) ts f)

pub message_item_runs : (s : Syntax) (n : ℕ) (ts : Rest Lexeme Place)
    → (nest.message_item s n).low.run ts ≡ (nest.item (nest.message_statement s n)).low.run ts
unfolding nest.message_item_of
message_item_runs Proto2 n ts = refl
message_item_runs Proto3 n ts = refl

pub message_items_run : (s : Syntax) (n : ℕ) (ts : Rest Lexeme Place)
    → (nest.message_items s n).low.run ts ≡ made somes (run_many (nest.message_item s n).low ts)
unfolding nest.message_items_of
message_items_run Proto2 n ts = refl
message_items_run Proto3 n ts = refl

pub message_in_runs : (s : Syntax) (n : ℕ) (ts : Rest Lexeme Place)
    → (nest.message_in s n).low.run ts
    ≡ bind ((parse.word (codes "message")).run ts)
    (λ u us. bind (parse.ident.run us)
    (λ name vs. bind
    (bind ((parse.symbol 123).run vs)
    (λ u ws. bind ((nest.message_items s n).low.run ws)
    (λ body xs. bind ((parse.symbol 125).run xs) (λ u ys. read body ys)))) (λ body ws.
    read (record { place = mark_of lexicon.mark ts; name = name; body = body }) ws)))
unfolding nest.message_of
message_in_runs Proto2 n ts = refl
message_in_runs Proto3 n ts = refl
