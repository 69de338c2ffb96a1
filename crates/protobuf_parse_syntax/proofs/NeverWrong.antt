-- Parts that are never wrong: the names of the language, in which nothing is looked up.
use Rattle.std.proofs.Common.{◌≡◌, ◌<◌, ℕ, zero, suc, List, [], ◌∷◌, ◌⊎◌, Option, Some, None, Bool}
use Rattle.std.proofs.Common.{true, false, cond, refl, sym, ◌∙◌, inl, inr, arith}
use Rattle.protobuf_parse_grammar.specs.Readers.{Rest, end, token, size, Read, read, wrong}
use Rattle.protobuf_parse_grammar.specs.Readers.{bind, bind_wrong, Shape, Reader}
use Rattle.protobuf_parse_grammar.specs.Combinators.{taken, run_one}
use Rattle.protobuf_parse_grammar.specs.Readers.{starts}
use Rattle.protobuf_parse_grammar.specs.Combinators.{run_many, many-law, shorter, with_first}
use Rattle.protobuf_parse_lexer.specs.Tokens.{Lexeme}
use Rattle.protobuf_parse_lexer.specs.Classes.{Class}
use Rattle.protobuf_parse_lexer.specs.declared.lexer.token.Place.{Place}
use Rattle.protobuf_parse_syntax.specs.ClassLaws.{lexicon}
use Rattle.protobuf_parse_syntax.specs.Grammar.{any_ident}
use Rattle.protobuf_parse_syntax.specs.Productions.{symbol, ident, dot_ident, dotted, root, name}
use Rattle.protobuf_parse_syntax.specs.Productions.{option_part, next_part}

abbrev pub NeverWrong : {A : Type 0} → (Rest Lexeme Place → Read Lexeme Place A) → Type 0
NeverWrong run = (ts rest : Rest Lexeme Place) → run ts ≡ wrong rest → ⊥

read_wrong : {A : Type 0} (a : A) (us rest : Rest Lexeme Place)
    → (let r : Read Lexeme Place A = read a us in r ≡ wrong rest) → ⊥
read_wrong a us rest e = cc

one_wrong : {A : Type 0} (says : Lexeme → Option A) → NeverWrong (run_one says)
one_wrong says (end m) rest e = cc
one_wrong {A = A} says (token t us) rest e = go (says t) e
  where
    go : (o : Option A) → taken o (token t us) us ≡ wrong rest → ⊥
    go None e = cc
    go (Some a) e = cc

module _ {A B : Type 0} (run : Rest Lexeme Place → Read Lexeme Place A)
    (f : A → Rest Lexeme Place → Read Lexeme Place B) where
  then_wrong : NeverWrong run → ((a : A) → NeverWrong (f a)) → NeverWrong (λ ts. bind (run ts) f)
  then_wrong first second ts rest e = go (bind_wrong (run ts) f rest e)
    where
      go : (run ts ≡ wrong rest)
          ⊎ ((a : A) × (us : Rest Lexeme Place) × (run ts ≡ read a us) × (f a us ≡ wrong rest)) → ⊥
      go (inl h) = first ts rest h
      go (inr h) = second h.0 h.1 rest h.3

cond_wrong : {A : Type 0} (b : Bool) (r q : Read Lexeme Place A) (rest : Rest Lexeme Place)
    → (r ≡ wrong rest → ⊥) → (q ≡ wrong rest → ⊥) → cond b r q ≡ wrong rest → ⊥
cond_wrong true r q rest f g e = f e
cond_wrong false r q rest f g e = g e

module _ {A : Type 0} {R : List Lexeme → A → Type 0} {s : Shape Class} (item : Reader lexicon R s)
    (some : s.empty ≡ false) (never : NeverWrong item.run) where
  step_wrong : (ts rest : Rest Lexeme Place)
      → ((us : Rest Lexeme Place) → size us < size ts → run_many item us ≡ wrong rest → ⊥)
      → run_many item ts ≡ wrong rest → ⊥
  step_wrong ts rest again e =
      cond_wrong (starts lexicon s.firsts ts)
      (bind (item.run ts) (λ a vs. with_first a (run_many item vs))) (read [] ts) rest items
      (λ h. read_wrong [] ts rest h) (sym (many-law item some ts) ∙ e)
    where
      others : (a : A) (us : Rest Lexeme Place) → item.run ts ≡ read a us
          → (run_many item us ≡ wrong rest)
          ⊎ ((items : List A) × (vs : Rest Lexeme Place) × (run_many item us ≡ read items vs)
          × (read (a ∷ items) vs ≡ wrong rest)) → ⊥
      others a us is (inl w) = again us (shorter item some ts a us is) w
      others a us is (inr w) = read_wrong (a ∷ w.0) w.1 rest w.3

      go : (item.run ts ≡ wrong rest)
          ⊎ ((a : A) × (us : Rest Lexeme Place) × (item.run ts ≡ read a us)
          × (with_first a (run_many item us) ≡ wrong rest)) → ⊥
      go (inl w) = never ts rest w
      go (inr w) =
          others w.0 w.1 w.2
          (bind_wrong (run_many item w.1) (λ items vs. read (w.0 ∷ items) vs) rest w.3)

      items : bind (item.run ts) (λ a vs. with_first a (run_many item vs)) ≡ wrong rest → ⊥
      items h = go (bind_wrong (item.run ts) (λ a vs. with_first a (run_many item vs)) rest h)

  many_wrong-at : (k : ℕ) (ts rest : Rest Lexeme Place) → size ts < k
      → run_many item ts ≡ wrong rest → ⊥
  many_wrong-at zero ts rest less e = absurd (omega (arith, less))
  many_wrong-at (suc k) ts rest less e =
      step_wrong ts rest (λ us l w. many_wrong-at k us rest (omega (arith, l, less)) w) e

  many_wrong : NeverWrong (run_many item)
  many_wrong ts rest e = many_wrong-at (suc (size ts)) ts rest (omega arith) e

-- ---- names

symbol_wrong : (c : ℕ) → NeverWrong (symbol c).run
symbol_wrong c ts rest e = one_wrong _ ts rest e

ident_wrong : NeverWrong ident.run
ident_wrong ts rest e = one_wrong any_ident ts rest e

dot_ident_wrong : NeverWrong dot_ident.run
dot_ident_wrong = then_wrong (symbol 46).run (λ u us. ident.run us) (symbol_wrong 46)
    (λ u. ident_wrong)

dotted_wrong : NeverWrong dotted.run
unfolding dotted
dotted_wrong = then_wrong ident.run _ ident_wrong
    (λ first. then_wrong (run_many dot_ident) _ (many_wrong dot_ident refl dot_ident_wrong)
    (λ others us rest e. read_wrong _ us rest e))

root_wrong : NeverWrong root.run
unfolding root
root_wrong ts rest e =
    cond_wrong (starts lexicon _ ts) _ _ rest
    (then_wrong (symbol 46).run _ (symbol_wrong 46) (λ u us r h. read_wrong _ us r h) ts rest)
    (λ h. read_wrong _ ts rest h) e

name_wrong : NeverWrong name.run
unfolding name
name_wrong = then_wrong root.run _ root_wrong
    (λ r. then_wrong dotted.run _ dotted_wrong (λ d us rest e. read_wrong _ us rest e))

pub option_part_wrong : NeverWrong option_part.run
unfolding option_part
option_part_wrong ts rest e =
    cond_wrong (starts lexicon _ ts) _ _ rest
    (then_wrong ident.run _ ident_wrong (λ n us r h. read_wrong _ us r h) ts rest)
    (then_wrong (symbol 40).run _ (symbol_wrong 40)
    (λ u. then_wrong name.run _ name_wrong
    (λ n. then_wrong (symbol 41).run _ (symbol_wrong 41) (λ v us r h. read_wrong _ us r h))) ts
    rest) e

pub next_part_wrong : NeverWrong next_part.run
unfolding next_part
next_part_wrong = then_wrong (symbol 46).run _ (symbol_wrong 46) (λ u. option_part_wrong)
