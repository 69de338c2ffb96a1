-- Loops of the parser: what an iteration keeps, and how a loop ends.
use Rattle.std.proofs.Common.{◌≡◌, List, [], ◌∷◌, ◌++◌, ◌<◌, map, Option, Some, None, true, false}
use Rattle.std.proofs.Common.{refl, sym, ap, ◌∙◌, append_assoc}
use Rattle.std.specs.Option.{option_to_list}
use Rattle.std.proofs.lemmas.List.{map_push, append-nil}
use Rattle.protobuf_parse_grammar.specs.Relations.{Then, somes}
use Rattle.protobuf_parse_grammar.specs.Readers.{Rest, Read, read, stopped, wrong, deep, size, Shape}
use Rattle.protobuf_parse_grammar.specs.Readers.{shape, Reader, starts}
use Rattle.protobuf_parse_grammar.specs.Combinators.{then_shape, run_many, many-law, shorter, ◌>>◌}
use Rattle.protobuf_parse_grammar.specs.Loops.{Shows, shows_themselves, with_rest, goes_on}
use Rattle.protobuf_parse_grammar.specs.Loops.{stops_here, ends_stuck, ends_wrong}
use Rattle.protobuf_parse_lexer.specs.Text.{Bytes}
use Rattle.protobuf_parse_lexer.specs.Tokens.{Lexeme}
use Rattle.protobuf_parse_lexer.specs.Classes.{Class, symbol as symbol_class}
use Rattle.protobuf_parse_lexer.specs.Text.{seen_by}
use Rattle.protobuf_parse_lexer.specs.declared.lexer.token.Place.{Place}
use Rattle.protobuf_parse_syntax.specs.Grammar.{dots, IsComma}
use Rattle.protobuf_parse_syntax.specs.ClassLaws.{lexicon}
use Rattle.protobuf_parse_syntax.specs.Productions.{symbol}
use Rattle.protobuf_parse_syntax.specs.Code.{Fails, fails_first, fails_alike, Failure}
use Rattle.protobuf_parse_syntax.specs.Code.{at, off, too_deep, failed}
use Rattle.protobuf_parse_syntax.specs.declared.parser.refusal.Refusal.{Refusal}

-- a list behind which an item was put, if there was one
pub pushed : {X Y : Type 0} (view : X → Y) (old new : List X) (item : Option X)
    → new ≡ old ++ option_to_list item
    → map view new ≡ map view old ++ somes (seen_by view item ∷ [])
pushed view old new None e = ap (map view) (e ∙ append-nil old) ∙ sym (append-nil (map view old))
pushed view old new (Some x) e = ap (map view) e ∙ map_push view old x

-- a loop fails as its item does
module _ {A B C : Type 0} {R : List Lexeme → A → Type 0} {s : Shape Class}
    (item : Reader lexicon R s) (some : s.empty ≡ false) (shown : List A → List B)
    (law : Shows shown) (make : List B → C) where
  fails_as : (front : List B) (ts : Rest Lexeme Place) (f : Failure) (total : Read Lexeme Place C)
      → starts lexicon s.firsts ts ≡ true → item.run ts ≡ failed f
      → total ≡ with_rest shown make front (run_many item ts) → total ≡ failed f
  fails_as front ts (at before rest) total t h so_far =
      ends_stuck item some shown law make front ts before rest total t h so_far
  fails_as front ts (off m) total t h so_far =
      ends_wrong item some shown law make front ts m total t h so_far
  fails_as front ts too_deep total t h so_far = so_far
      ∙ ap (with_rest shown make front) (many-law item some ts) ∙ rw (t, h) refl

  pub fails : (front : List B) (ts rest : Rest Lexeme Place) (e : Refusal)
      (total : Read Lexeme Place C) → starts lexicon s.firsts ts ≡ true → Fails e rest (item.run ts)
      → total ≡ with_rest shown make front (run_many item ts) → Fails e rest total
  fails front ts rest e total t h so_far =
      fails_alike e rest (item.run ts) total (λ f is. fails_as front ts f total t is so_far) h

-- what is there, and all that many parts are
pub with_all : {A : Type 0} (r : Read Lexeme Place (List A))
    → r ≡ with_rest (λ (v : List A). v) (λ (v : List A). v) [] r
with_all (read items rest) = refl
with_all (stopped before rest) = refl
with_all (wrong rest) = refl
with_all deep = refl

-- ---- parts with commas between them

module _ {A : Type 0} {R : List Lexeme → A → Type 0} {s : Shape Class}
    (part : Reader lexicon R s) where
  -- a comma and a part
  abbrev pub behind_comma : Reader lexicon (Then IsComma (λ u. R))
      (then_shape lexicon (shape (symbol_class 44 ∷ []) false []) s)
  behind_comma = do symbol 44; part

  -- the parts that are there, and those that are still read
  abbrev pub listed : List A → Rest Lexeme Place → Read Lexeme Place (List A)
  listed front ts = with_rest (λ (v : List A). v) (λ (v : List A). v) front
      (run_many behind_comma ts)

  -- where no comma is read
  pub listed_fails_comma : (front : List A) (ts rest : Rest Lexeme Place) (e : Refusal)
      (total : Read Lexeme Place (List A)) → starts lexicon (symbol_class 44 ∷ []) ts ≡ true
      → Fails e rest ((symbol 44).run ts) → total ≡ listed front ts → Fails e rest total
  listed_fails_comma front ts rest e total t h so_far =
      fails behind_comma refl (λ (v : List A). v) shows_themselves
      (λ (v : List A). v) front ts rest e total t
      (fails_first e rest ((symbol 44).run ts) (λ u us. part.run us) h) so_far

  -- where no part is read behind a comma
  pub listed_fails : (front : List A) (ts us rest : Rest Lexeme Place) (e : Refusal)
      (total : Read Lexeme Place (List A)) → starts lexicon (symbol_class 44 ∷ []) ts ≡ true
      → (symbol 44).run ts ≡ read tt us → Fails e rest (part.run us) → total ≡ listed front ts
      → Fails e rest total
  listed_fails front ts us rest e total t c h so_far =
      fails behind_comma refl (λ (v : List A). v) shows_themselves
      (λ (v : List A). v) front ts rest e total t (rw c h) so_far

  pub listed_smaller : (ts us vs : Rest Lexeme Place) (a : A) → (symbol 44).run ts ≡ read tt us
      → part.run us ≡ read a vs → size vs < size ts
  listed_smaller ts us vs a c e = shorter behind_comma refl ts a vs (rw c e)

  -- where a part was read behind a comma
  pub listed_goes_on : (front back : List A) (ts us vs : Rest Lexeme Place) (a : A)
      (total : Read Lexeme Place (List A)) → starts lexicon (symbol_class 44 ∷ []) ts ≡ true
      → (symbol 44).run ts ≡ read tt us → part.run us ≡ read a vs → back ≡ front ++ a ∷ []
      → total ≡ listed front ts → total ≡ listed back vs
  listed_goes_on front back ts us vs a total t c e b so_far =
      goes_on behind_comma refl (λ (v : List A). v) shows_themselves
      (λ (v : List A). v) front back ts a vs total t (rw c e) b so_far

  -- where no comma comes next
  pub listed_stops : (front : List A) (ts : Rest Lexeme Place) (total : Read Lexeme Place (List A))
      → starts lexicon (symbol_class 44 ∷ []) ts ≡ false → total ≡ listed front ts
      → total ≡ read front ts
  listed_stops front ts total t so_far =
      stops_here behind_comma refl (λ (v : List A). v) shows_themselves
      (λ (v : List A). v) front ts total t so_far

-- an item put behind a list
pub put_behind : {X Y : Type 0} (view : X → Y) (old new : List X) (item : X)
    → new ≡ old ++ item ∷ [] → map view new ≡ map view old ++ view item ∷ []
put_behind view old new item e = ap (map view) e ∙ map_push view old item

-- ---- names

pub shows_dots : Shows dots
shows_dots = record { nothing = refl; first = first }
  where
    first : (a : Bytes) (items : List Bytes) → dots (a ∷ items) ≡ dots (a ∷ []) ++ dots items
    first a items = ap (λ (z : Bytes). 46 ∷ z ++ dots items) (sym (append-nil a))

-- a dot and a part put behind a name
pub dotted_more : (name dot new part : Bytes) → dot ≡ name ++ 46 ∷ [] → new ≡ dot ++ part
    → new ≡ name ++ dots (part ∷ [])
dotted_more name dot new part e f = f ∙ ap (λ (z : Bytes). z ++ part) e
    ∙ append_assoc name (46 ∷ []) part ∙ ap (λ (z : Bytes). name ++ 46 ∷ z) (sym (append-nil part))
