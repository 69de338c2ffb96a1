-- No public clause rests on this file.
-- What a loop over the parts of `many` keeps: what is made of the items so far and of those that
-- are still read is what is made of them all.
use Rattle.std.proofs.Common.{◌≡◌, List, [], ◌∷◌, ◌++◌, Option, Some, None, true, false, refl, sym}
use Rattle.std.proofs.Common.{ap, ◌∙◌, append_assoc}
use Rattle.std.proofs.lemmas.List.{append-nil}
use Rattle.protobuf_parse_grammar.specs.Relations.{somes}
use Rattle.protobuf_parse_grammar.specs.Readers.{Rest, Read, read, stopped, wrong, deep, bind}
use Rattle.protobuf_parse_grammar.specs.Readers.{Lexicon, Shape, Reader, starts}
use Rattle.protobuf_parse_grammar.specs.Combinators.{run_many, many-law}

-- with what the items show behind what is there
abbrev pub with_rest : {Tok Mark A B C : Type 0} → (List A → List B) → (List B → C) → List B
    → Read Tok Mark (List A) → Read Tok Mark C
with_rest shown make front r = bind r (λ items rest. read (make (front ++ shown items)) rest)

-- items show one list after another
pub record Shows {A B : Type 0} (shown : List A → List B) : Type 0 where
  pub nothing : shown [] ≡ []
  pub first : (a : A) (items : List A) → shown (a ∷ items) ≡ shown (a ∷ []) ++ shown items

pub shows_themselves : {A : Type 0} → Shows (λ (items : List A). items)
shows_themselves = record { nothing = refl; first = λ a items. refl }

pub shows_somes : {A : Type 0} → Shows (somes {A = A})
shows_somes = record { nothing = refl; first = first }
  where
    first : {A : Type 0} (a : Option A) (items : List (Option A))
        → somes (a ∷ items) ≡ somes (a ∷ []) ++ somes items
    first None items = refl
    first (Some a) items = refl

module _ {Tok Mark Class A B C : Type 0} {L : Lexicon Tok Mark Class} {R : List Tok → A → Type 0}
    {s : Shape Class} (item : Reader L R s) (some : s.empty ≡ false) (shown : List A → List B)
    (law : Shows shown) (make : List B → C) where
  regroup : (front : List B) (a : A) (r : Read Tok Mark (List A))
      → with_rest shown make front (bind r (λ others rest. read (a ∷ others) rest))
      ≡ with_rest shown make (front ++ shown (a ∷ [])) r
  regroup front a (read items rest) =
      ap (λ (bs : List B). read (make bs) rest)
      (ap (λ (bs : List B). front ++ bs) (law.first a items)
      ∙ sym (append_assoc front (shown (a ∷ [])) (shown items)))
  regroup front a (stopped before rest) = refl
  regroup front a (wrong m) = refl
  regroup front a deep = refl

  -- an item was read
  pub goes_on : (front back : List B) (ts : Rest Tok Mark) (a : A) (us : Rest Tok Mark)
      (total : Read Tok Mark C) → starts L s.firsts ts ≡ true → item.run ts ≡ read a us
      → back ≡ front ++ shown (a ∷ []) → total ≡ with_rest shown make front (run_many item ts)
      → total ≡ with_rest shown make back (run_many item us)
  goes_on front back ts a us total t e b so_far = so_far
      ∙ ap (with_rest shown make front) (many-law item some ts)
      ∙ rw (t, e, b) (regroup front a (run_many item us))

  -- an item could not be read
  pub ends_stuck : (front : List B) (ts : Rest Tok Mark) (before : List Tok) (rest : Rest Tok Mark)
      (total : Read Tok Mark C) → starts L s.firsts ts ≡ true → item.run ts ≡ stopped before rest
      → total ≡ with_rest shown make front (run_many item ts) → total ≡ stopped before rest
  ends_stuck front ts before rest total t e so_far = so_far
      ∙ ap (with_rest shown make front) (many-law item some ts) ∙ rw (t, e) refl

  pub ends_wrong : (front : List B) (ts : Rest Tok Mark) (rest : Rest Tok Mark)
      (total : Read Tok Mark C) → starts L s.firsts ts ≡ true → item.run ts ≡ wrong rest
      → total ≡ with_rest shown make front (run_many item ts) → total ≡ wrong rest
  ends_wrong front ts rest total t e so_far = so_far
      ∙ ap (with_rest shown make front) (many-law item some ts) ∙ rw (t, e) refl

  -- no item comes next
  pub stops_here : (front : List B) (ts : Rest Tok Mark) (total : Read Tok Mark C)
      → starts L s.firsts ts ≡ false → total ≡ with_rest shown make front (run_many item ts)
      → total ≡ read (make front) ts
  stops_here front ts total t so_far = so_far
      ∙ ap (with_rest shown make front) (many-law item some ts)
      ∙ rw (t, law.nothing) (ap (λ (bs : List B). read (make bs) ts) (append-nil front))
