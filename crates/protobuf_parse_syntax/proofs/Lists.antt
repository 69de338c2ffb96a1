-- Items one after the other, or with commas between them: what was read before one in which
-- something is wrong.
use Rattle.std.proofs.Common.{◌≡◌, ◌⊎◌, true, false, List, [], ◌∷◌, ◌++◌, inl, inr, refl, sym, ap}
use Rattle.std.proofs.Common.{subst, ◌∙◌, append_assoc}
use Rattle.std.proofs.lemmas.List.{append-nil}
use Rattle.protobuf_parse_grammar.specs.Combinators.{run_many}
use Rattle.protobuf_parse_grammar.specs.Loops.{with_rest, shows_themselves, ends_wrong}
use Rattle.protobuf_parse_grammar.specs.Readers.{Rest, onto, onto-append, Read, read, bind, Shape}
use Rattle.protobuf_parse_grammar.specs.Readers.{Reader, starts}
use Rattle.protobuf_parse_grammar.specs.Relations.{Many, none, more}
use Rattle.protobuf_parse_lexer.specs.Tokens.{Lexeme}
use Rattle.protobuf_parse_lexer.specs.Classes.{Class, symbol as symbol_class}
use Rattle.protobuf_parse_lexer.specs.declared.lexer.token.Place.{Place}
use Rattle.protobuf_parse_syntax.specs.ClassLaws.{lexicon}
use Rattle.protobuf_parse_syntax.specs.Grammar.{IsComma}
use Rattle.protobuf_parse_syntax.specs.Parsing.{IsEarlier}
use Rattle.protobuf_parse_syntax.specs.Code.{Wrongs, Behind, IsWrong, Fails, AreEarlier}
use Rattle.protobuf_parse_syntax.specs.Code.{IsCommaAlone}
use Rattle.protobuf_parse_syntax.specs.declared.parser.refusal.Refusal.{Refusal}
use Rattle.protobuf_parse_syntax.proofs.Loops.{behind_comma, listed, fails}
use Rattle.protobuf_parse_syntax.proofs.Wrongs.{wrong_first, wrong_behind}

pub many_last : {A : Type 0} {R : List Lexeme → A → Type 0} (ts us : List Lexeme) (as' : List A)
    (a : A) → Many R ts as' → R us a → Many R (ts ++ us) (as' ++ a ∷ [])
many_last {R = R} ts us as' a none h =
    subst (λ (v : List Lexeme). Many R v (a ∷ [])) (append-nil us) (more h none)
many_last {A = A} {R = R} ts us as' a (more {ts = vs} {us = ws} {a = b} {as' = bs} first others) h =
    subst (λ (v : List Lexeme). Many R v (b ∷ (bs ++ a ∷ []))) (sym (append_assoc vs ws us))
    (more first (many_last ws us bs a others h))

-- Items with a comma behind each, and one more, lie between two places.
pub record AreRead {A : Type 0} (R : List Lexeme → A → Type 0) (before now : Rest Lexeme Place) :
    Type 0 where
  pub front : List Lexeme
  pub last : List Lexeme
  pub earlier : List A
  pub item : A
  pub parts : before ≡ onto front (onto last now)
  pub are : Many (IsEarlier R) front earlier
  pub is : R last item

module _ {A : Type 0} {R : List Lexeme → A → Type 0} {s : Shape Class}
    (part : Reader lexicon R s) where
  pub first_read : (ts us : Rest Lexeme Place) (a : A) → part.run ts ≡ read a us → AreRead R ts us
  first_read ts us a e =
      let l = part.sound ts a us e in
      record {
        front = [];
        last = l.used;
        earlier = [];
        item = a;
        parts = l.parts;
        are = none;
        is = l.holds;
      }

  -- an item and a comma behind it
  with_comma : (ts us : List Lexeme) (a : A) → R ts a → IsComma us tt → IsEarlier R (ts ++ us) a
  with_comma ts us a is comma =
      record {
        value = a;
        front = ts;
        back = us;
        first = is;
        second =
            record {
              value = tt;
              front = us;
              back = [];
              first = comma;
              second = (refl, refl);
              parts = sym (append-nil us);
            };
        parts = refl;
      }

  -- those that were read, behind the comma that comes next
  all_earlier : (before now : Rest Lexeme Place) (h : AreRead R before now) (comma : List Lexeme)
      → IsComma comma tt → AreEarlier R (h.front ++ (h.last ++ comma))
  all_earlier before now h comma is = (
    h.earlier ++ h.item ∷ [],
    many_last h.front (h.last ++ comma) h.earlier h.item h.are
        (with_comma h.last comma h.item h.is is),
  )

  regroup : (before now rest : Rest Lexeme Place) (h : AreRead R before now) (comma : List Lexeme)
      → now ≡ onto comma rest → before ≡ onto (h.front ++ (h.last ++ comma)) rest
  regroup before now rest h comma e =
      h.parts ∙ ap (λ (v : Rest Lexeme Place). onto h.front (onto h.last v)) e
      ∙ ap (onto h.front) (sym (onto-append h.last comma rest))
      ∙ sym (onto-append h.front (h.last ++ comma) rest)

  pub next_read : (before now rest : Rest Lexeme Place) (a : A) → AreRead R before now
      → (behind_comma part).run now ≡ read a rest → AreRead R before rest
  next_read before now rest a h e =
      let l = (behind_comma part).sound now a rest e in
      let then' = l.holds in
      let parts : now ≡ onto then'.front (onto then'.back rest) =
      l.parts ∙ ap (λ (v : List Lexeme). onto v rest) then'.parts
      ∙ onto-append then'.front then'.back rest in
      let all = all_earlier before now h then'.front then'.first in
      record {
        front = h.front ++ (h.last ++ then'.front);
        last = then'.back;
        earlier = all.0;
        item = a;
        parts = regroup before now (onto then'.back rest) h then'.front parts;
        are = all.1;
        is = then'.second;
      }

  module _ (P : Wrongs) (e : Refusal) (ts after : Rest Lexeme Place) where
    -- something is wrong in the first
    pub wrong_item : {Z : Type 0} (g : A → Rest Lexeme Place → Read Lexeme Place Z)
        → Fails e after (part.run ts) ⊎ IsWrong P ts e after (part.run ts)
        → Fails e after (bind (part.run ts) g)
        ⊎ IsWrong (Behind (AreEarlier R) P) ts e after (bind (part.run ts) g)
    wrong_item g h =
        wrong_first (Behind (AreEarlier R) P) e ts after (part.run ts) g
        (wrong_behind P e ts after (part.run ts) (AreEarlier R) [] ts refl ([], none) h)

    -- behind a comma
    pub wrong_comma : (us : Rest Lexeme Place) (comma : List Lexeme) → ts ≡ onto comma us
        → IsComma comma tt → (behind_comma part).run ts ≡ part.run us
        → Fails e after (part.run us) ⊎ IsWrong P us e after (part.run us)
        → Fails e after ((behind_comma part).run ts)
        ⊎ IsWrong (Behind IsCommaAlone P) ts e after ((behind_comma part).run ts)
    wrong_comma us comma parts is runs h =
        rw runs (wrong_behind P e us after (part.run us) IsCommaAlone comma ts parts is h)

    -- something is wrong in a later one
    pub wrong_later : (now : Rest Lexeme Place) (items : List A) (total : Read Lexeme Place (List A))
        → starts lexicon (symbol_class 44 ∷ []) now ≡ true → AreRead R ts now
        → total ≡ listed part items now
        → Fails e after ((behind_comma part).run now)
        ⊎ IsWrong (Behind IsCommaAlone P) now e after ((behind_comma part).run now)
        → Fails e after total ⊎ IsWrong (Behind (AreEarlier R) P) ts e after total
    wrong_later now items total comma all so_far (inl h) =
        inl (fails (behind_comma part) refl (λ (v : List A). v) shows_themselves
        (λ (v : List A). v) items now after e total comma h so_far)
    wrong_later now items total comma all so_far (inr h) =
        let w = h.2 in
        let u = h.3 in
        let k = u.2 in
        let read' = all_earlier ts now all k.0 k.3 in
        let parts : now ≡ onto k.0 (onto k.1 after) = u.1
        ∙ ap (λ (v : List Lexeme). onto v after) k.2 ∙ onto-append k.0 k.1 after in
        let front = all.front ++ (all.last ++ k.0) in
        inr (
          h.0,
          h.1,
          (
            w.0,
            ends_wrong (behind_comma part) refl (λ (v : List A). v) shows_themselves
                (λ (v : List A). v) items now w.0 total comma w.1 so_far,
          ),
          (
            front ++ k.1,
            regroup ts now (onto k.1 after) all k.0 parts ∙ sym (onto-append front k.1 after),
            (front, k.1, refl, read', k.4),
          ),
        )

-- ---- items without commas

-- Items lie between two places.
pub record ManyRead {A : Type 0} (R : List Lexeme → A → Type 0) (before now : Rest Lexeme Place) :
    Type 0 where
  pub front : List Lexeme
  pub items : List A
  pub parts : before ≡ onto front now
  pub are : Many R front items

pub none_read : {A : Type 0} {R : List Lexeme → A → Type 0} (ts : Rest Lexeme Place)
    → ManyRead R ts ts
none_read ts = record { front = []; items = []; parts = refl; are = none }

module _ {A : Type 0} {R : List Lexeme → A → Type 0} {s : Shape Class} (item : Reader lexicon R s)
  where
    pub one_more_read : (before now rest : Rest Lexeme Place) (a : A) → ManyRead R before now
        → item.run now ≡ read a rest → ManyRead R before rest
    one_more_read before now rest a h e =
        let l = item.sound now a rest e in
        record {
          front = h.front ++ l.used;
          items = h.items ++ a ∷ [];
          parts =
              h.parts ∙ ap (onto h.front) l.parts ∙ sym (onto-append h.front l.used rest);
          are = many_last h.front l.used h.items a h.are l.holds;
        }

    -- something is wrong in one
    pub wrong_one : (some : s.empty ≡ false) (P : Wrongs) (e : Refusal)
        (ts now after : Rest Lexeme Place) (items : List A) (total : Read Lexeme Place (List A))
        → starts lexicon s.firsts now ≡ true → ManyRead R ts now
        → total ≡ with_rest (λ (v : List A). v) (λ (v : List A). v) items (run_many item now)
        → Fails e after (item.run now) ⊎ IsWrong P now e after (item.run now)
        → Fails e after total
        ⊎ IsWrong (Behind (λ us. (as' : List A) × Many R us as') P) ts e after total
    wrong_one some P e ts now after items total comes all so_far (inl h) =
        inl (fails item some (λ (v : List A). v) shows_themselves (λ (v : List A). v) items now
        after e total comes h so_far)
    wrong_one some P e ts now after items total comes all so_far (inr h) =
        let w = h.2 in
        wrong_behind P e now after total (λ us. (as' : List A) × Many R us as') all.front ts
        all.parts (all.items, all.are)
        (inr (
          h.0,
          h.1,
          (
            w.0,
            ends_wrong item some (λ (v : List A). v) shows_themselves (λ (v : List A). v) items
                now w.0 total comes w.1 so_far,
          ),
          h.3,
        ))
