-- The parts of an option's name: what a loop over them keeps, and how it ends.
use Rattle.std.proofs.Common.{◌≡◌, ◌⊎◌, ℕ, zero, suc, List, [], ◌∷◌, ◌++◌, length, Bool, true}
use Rattle.std.proofs.Common.{false, ◌||◌, cond, inl, inr, refl, sym, ap, subst, ◌∙◌, append_assoc}
use Rattle.std.proofs.lemmas.List.{append-nil}
use Rattle.protobuf_parse_grammar.specs.Relations.{Many, none, more}
use Rattle.protobuf_parse_grammar.specs.Readers.{Rest, end, token, onto, onto-append, Read, read}
use Rattle.protobuf_parse_grammar.specs.Readers.{stuck, stopped, wrong, deep, bind, bind_read}
use Rattle.protobuf_parse_grammar.specs.Readers.{bind_wrong}
use Rattle.protobuf_parse_grammar.specs.Readers.{read_parts, starts}
use Rattle.protobuf_parse_grammar.specs.Combinators.{with_first}
use Rattle.protobuf_parse_grammar.specs.Loops.{with_rest}
use Rattle.protobuf_parse_lexer.specs.Tokens.{Lexeme}
use Rattle.protobuf_parse_lexer.specs.Classes.{Class, sees, symbol}
use Rattle.protobuf_parse_lexer.specs.declared.lexer.token.Place.{Place}
use Rattle.protobuf_parse_lexer.specs.declared.error.ParserError.TheVariants as error
use Rattle.protobuf_parse_syntax.specs.Trees as tree
use Rattle.protobuf_parse_syntax.specs.Trees.{OptionPartSyntax, OptionNameSyntax}
use Rattle.protobuf_parse_syntax.specs.ClassLaws.{lexicon}
use Rattle.protobuf_parse_syntax.specs.Grammar.{IsNextPart, option_name}
use Rattle.protobuf_parse_syntax.specs.Productions as parse
use Rattle.protobuf_parse_syntax.specs.Productions.{option_part, option_part_firsts, next_part}
use Rattle.protobuf_parse_syntax.specs.Productions.{parts_up_to}
use Rattle.protobuf_parse_syntax.specs.Code.{Failure, at, off, too_deep, failed, comes, begins_part}
use Rattle.protobuf_parse_syntax.specs.Code.{Fails, TooMany, IsWrong, LongName, fails_first}
use Rattle.protobuf_parse_syntax.specs.Code.{fails_alike}
use Rattle.protobuf_parse_syntax.specs.Parsing.{HundredParts}
use Rattle.protobuf_parse_syntax.specs.declared.parser.refusal.Refusal.{Refusal}
use Rattle.protobuf_parse_syntax.specs.declared.parser.refusal.Refusal.TheVariants.{Fault}
use Rattle.protobuf_parse_syntax.proofs.Failures.{failed_as, never_failed}
use Rattle.protobuf_parse_syntax.proofs.NeverWrong.{next_part_wrong}

abbrev Parts : Type 0
Parts = List OptionPartSyntax

abbrev ReadParts : Type 0
ReadParts = Read Lexeme Place Parts

-- a dot comes next
abbrev dotted : Rest Lexeme Place → Type 0
dotted ts = starts lexicon (symbol 46 ∷ []) ts ≡ true

-- with these parts in front
abbrev pub behind : Parts → ReadParts → ReadParts
behind front r = with_rest (λ (v : Parts). v) (λ (v : Parts). v) front r

-- ---- what the reader reads

pub parts_end : (k : ℕ) (ts : Rest Lexeme Place) → starts lexicon (symbol 46 ∷ []) ts ≡ false
    → (parts_up_to k).run ts ≡ read [] ts
unfolding parts_up_to next_part
parts_end zero ts e = rw e refl
parts_end (suc k) ts e = rw e refl

parts_more : (k : ℕ) (ts : Rest Lexeme Place) → dotted ts
    → (parts_up_to (suc k)).run ts
    ≡ bind (next_part.run ts) (λ a us. with_first a ((parts_up_to k).run us))
unfolding parts_up_to next_part
parts_more k ts e = rw e refl

-- ---- a loop over the parts

regroup : (front : Parts) (a : OptionPartSyntax) (r : ReadParts)
    → behind front (with_first a r) ≡ behind (front ++ a ∷ []) r
regroup front a (read items rest) =
    ap (λ (v : Parts). read v rest) (sym (append_assoc front (a ∷ []) items))
regroup front a (stopped before rest) = refl
regroup front a (wrong rest) = refl
regroup front a deep = refl

module _ (front : Parts) (total : ReadParts) (k room : ℕ) (ts : Rest Lexeme Place)
    (is : room ≡ suc k) (so_far : total ≡ behind front ((parts_up_to room).run ts))
    (dot : dotted ts) where
  opened : total
      ≡ behind front (bind (next_part.run ts) (λ a us. with_first a ((parts_up_to k).run us)))
  opened = so_far ∙ ap (λ (n : ℕ). behind front ((parts_up_to n).run ts)) is
      ∙ ap (behind front) (parts_more k ts dot)

  -- a part was read
  pub one_more : (back : Parts) (a : OptionPartSyntax) (us : Rest Lexeme Place)
      → next_part.run ts ≡ read a us → back ≡ front ++ a ∷ []
      → total ≡ behind back ((parts_up_to k).run us)
  one_more back a us e b = opened ∙ rw (e, b) (regroup front a ((parts_up_to k).run us))

  -- a part could not be read
  pub fails_at_part : (e : Refusal) (after : Rest Lexeme Place) → Fails e after (next_part.run ts)
      → Fails e after total
  fails_at_part e after h =
      let inner = fails_first e after (next_part.run ts)
      (λ a us. with_first a ((parts_up_to k).run us)) h in
      rw opened
      (fails_first e after
      (bind (next_part.run ts) (λ a us. with_first a ((parts_up_to k).run us)))
      (λ others rest. read (front ++ others) rest) inner)

-- no part comes next
pub ends_here : (front : Parts) (total : ReadParts) (room : ℕ) (ts us : Rest Lexeme Place)
    → total ≡ behind front ((parts_up_to room).run ts) → (parts_up_to room).run ts ≡ read [] us
    → total ≡ read front us
ends_here front total room ts us so_far e = so_far ∙ ap (behind front) e
    ∙ ap (λ (v : Parts). read v us) (append-nil front)

-- ---- a dot behind the last part

dot_read : (ts : Rest Lexeme Place) → dotted ts
    → (dot : Lexeme) × (us : Rest Lexeme Place) × (ts ≡ token dot us)
    × (sees (symbol 46) dot ≡ true) × ((parse.symbol 46).run ts ≡ read tt us)
unfolding starts
dot_read (end m) e = absurd cc
dot_read (token t us) e = go (sees (symbol 46) t) refl e
  where
    go : (b : Bool) → sees (symbol 46) t ≡ b → (b || false) ≡ true
        → (dot : Lexeme) × (vs : Rest Lexeme Place) × (token t us ≡ token dot vs)
        × (sees (symbol 46) dot ≡ true) × ((parse.symbol 46).run (token t us) ≡ read tt vs)
    go true h e = (t, us, refl, h, rw h refl)
    go false h e = absurd cc

-- a dot that comes next is read, unless memory runs out
pub fails_at_dot : {X : Type 0} (ts after : Rest Lexeme Place) (e : Refusal)
    (r : Read Lexeme Place X) → dotted ts → Fails e after ((parse.symbol 46).run ts)
    → Fails e after r
fails_at_dot ts after e r dot h =
    let x = dot_read ts dot in
    fails_alike e after ((parse.symbol 46).run ts) r
    (λ f is. absurd (never_failed tt x.1 f (sym x.4 ∙ is))) h

starts_comes : (cs : List Class) (ts : Rest Lexeme Place) → starts lexicon cs ts ≡ comes cs ts
unfolding starts
starts_comes cs (end m) = refl
starts_comes cs (token t us) = refl

-- where a dot comes next, and what is behind it
full_runs : (ts us : Rest Lexeme Place) (b : Bool) → dotted ts
    → (parse.symbol 46).run ts ≡ read tt us → begins_part us ≡ b
    → (parts_up_to 0).run ts ≡ cond b (wrong us) (stuck ts)
unfolding parts_up_to
full_runs ts us b dot is e =
    let x = dot_read ts dot in
    let p = read_parts tt tt x.1 us (sym x.4 ∙ is) in
    let same : ts ≡ token x.0 us = x.2 ∙ ap (token x.0) p.1 in
    let t : starts lexicon (symbol 46 ∷ []) (token x.0 us)
    ≡ true = subst (λ (v : Rest Lexeme Place). dotted v) same dot in
    rw same (rw (t, starts_comes option_part_firsts us, e) refl)

-- of no more parts, a dot cannot stand there
pub parts_full : (ts us : Rest Lexeme Place) → dotted ts → (parse.symbol 46).run ts ≡ read tt us
    → begins_part us ≡ false → (parts_up_to 0).run ts ≡ stuck ts
parts_full ts us dot is e = full_runs ts us false dot is e

-- behind a dot begins a part too many
pub tells_full : (ts after : Rest Lexeme Place) → dotted ts
    → (parse.symbol 46).run ts ≡ read tt after → begins_part after ≡ true
    → TooMany (Fault error.OptionNameTooLong) after ((parts_up_to 0).run ts)
tells_full ts after dot is begins = (refl, full_runs ts after true dot is begins, begins)

-- ---- a part too many

-- what stands between where the parts begin and one too many: so many parts and a dot
abbrev Before : ℕ → Rest Lexeme Place → Rest Lexeme Place → Type 0
Before k ts after =
    (used : List Lexeme) × (items : Parts) × (dot : Lexeme) × (ts ≡ onto used (token dot after))
    × Many IsNextPart used items × (length items ≡ k) × (sees (symbol 46) dot ≡ true)

read_some_wrong : {us after : Rest Lexeme Place} (items : Parts)
    → (let r : ReadParts = read items us in r ≡ wrong after) → ⊥
read_some_wrong items e = cc

read_wrong : {us after : Rest Lexeme Place} → (let r : ReadParts = read [] us in r ≡ wrong after)
    → ⊥
read_wrong e = cc

wrong_at : (r : Bool) (dot : Lexeme) (us after : Rest Lexeme Place)
    → (let q : ReadParts = cond r (wrong us) (stuck (token dot us)) in q ≡ wrong after) → us ≡ after
wrong_at true dot us after e = cc
wrong_at false dot us after e = absurd cc

none_wrong : (ts after : Rest Lexeme Place) → (parts_up_to 0).run ts ≡ wrong after
    → Before 0 ts after
none_wrong ts after e = go (starts lexicon (symbol 46 ∷ []) ts) refl
  where
    at_dot : dotted ts → Before 0 ts after
    at_dot dot =
        let x = dot_read ts dot in
        let r = full_runs ts x.1 (begins_part x.1) dot x.4 refl in
        let same : x.1 ≡ after = wrong_at (begins_part x.1) x.0 x.1 after
        (sym (r ∙ ap (λ (v : Rest Lexeme Place). cond (begins_part x.1) (wrong x.1) (stuck v))
        x.2) ∙ e) in
        ([], [], x.0, x.2 ∙ ap (token x.0) same, none, refl, x.3)

    go : (b : Bool) → starts lexicon (symbol 46 ∷ []) ts ≡ b → Before 0 ts after
    go true h = at_dot h
    go false h = let r = parts_end 0 ts h in absurd (read_wrong (sym r ∙ e))

more_wrong : (k : ℕ)
    → ((us after : Rest Lexeme Place) → (parts_up_to k).run us ≡ wrong after → Before k us after)
    → (ts after : Rest Lexeme Place) → (parts_up_to (suc k)).run ts ≡ wrong after
    → Before (suc k) ts after
more_wrong k again ts after e = go (starts lexicon (symbol 46 ∷ []) ts) refl
  where
    join : (a : OptionPartSyntax) (us : Rest Lexeme Place) → next_part.run ts ≡ read a us
        → Before k us after → Before (suc k) ts after
    join a us is (used, items, dot, parts, many, count, seen) =
        let l = next_part.sound ts a us is in (
          l.used ++ used,
          a ∷ items,
          dot,
          l.parts ∙ ap (onto l.used) parts
              ∙ sym (onto-append l.used used (token dot after)),
          more l.holds many,
          ap suc count,
          seen,
        )

    others : (a : OptionPartSyntax) (us : Rest Lexeme Place) → next_part.run ts ≡ read a us
        → ((parts_up_to k).run us ≡ wrong after)
        ⊎ ((items : Parts) × (vs : Rest Lexeme Place) × ((parts_up_to k).run us ≡ read items vs)
        × (read (a ∷ items) vs ≡ wrong after)) → Before (suc k) ts after
    others a us is (inl w) = join a us is (again us after w)
    others a us is (inr w) = absurd (read_some_wrong (a ∷ w.0) w.3)

    parted : (next_part.run ts ≡ wrong after)
        ⊎ ((a : OptionPartSyntax) × (us : Rest Lexeme Place) × (next_part.run ts ≡ read a us)
        × (with_first a ((parts_up_to k).run us) ≡ wrong after)) → Before (suc k) ts after
    parted (inl w) = absurd (next_part_wrong ts after w)
    parted (inr w) =
        others w.0 w.1 w.2
        (bind_wrong ((parts_up_to k).run w.1) (λ items vs. read (w.0 ∷ items) vs) after w.3)

    go : (b : Bool) → starts lexicon (symbol 46 ∷ []) ts ≡ b → Before (suc k) ts after
    go true h =
        parted (bind_wrong (next_part.run ts) (λ a us. with_first a ((parts_up_to k).run us)) after
        (sym (parts_more k ts h) ∙ e))
    go false h = let r = parts_end (suc k) ts h in absurd (read_wrong (sym r ∙ e))

parts_wrong : (k : ℕ) (ts after : Rest Lexeme Place) → (parts_up_to k).run ts ≡ wrong after
    → Before k ts after
parts_wrong zero ts after e = none_wrong ts after e
parts_wrong (suc k) ts after e = more_wrong k (parts_wrong k) ts after e

-- ---- the name of the parts

longer_name : (first a : OptionPartSyntax) (others : Parts)
    → option_name first (a ∷ others) ≡ tree.custom (first ∷ a ∷ others)
longer_name (tree.direct name) a others = refl
longer_name (tree.extension name) a others = refl

abbrev named : OptionPartSyntax → ReadParts → Read Lexeme Place OptionNameSyntax
named first r = bind r (λ others us. read (option_name first others) us)

named_more : (k : ℕ) (us vs : Rest Lexeme Place) (first : OptionPartSyntax) (all : Parts)
    → dotted us → with_first first ((parts_up_to (suc k)).run us) ≡ read all vs
    → named first ((parts_up_to (suc k)).run us) ≡ read (tree.custom all) vs
named_more k us vs first all dot e =
    let x = bind_read ((parts_up_to (suc k)).run us)
    (λ others ws. read (first ∷ others) ws) all vs e in
    let y = bind_read (next_part.run us) (λ a ws. with_first a ((parts_up_to k).run ws)) x.0 x.1
    (sym (parts_more k us dot) ∙ x.2) in
    let z = bind_read ((parts_up_to k).run y.1) (λ others ws. read (y.0 ∷ others) ws) x.0 x.1 y.3 in
    let p = read_parts (y.0 ∷ z.0) x.0 z.1 x.1 z.3 in
    let q = read_parts (first ∷ x.0) all x.1 vs x.3 in
    let long : option_name first x.0
    ≡ tree.custom (first ∷ x.0) =
    subst (λ (v : Parts). option_name first v ≡ tree.custom (first ∷ v)) p.0
    (longer_name first y.0 z.0) in
    rw (x.2, long) (ap (λ (v : Parts). read (tree.custom v) x.1) q.0
    ∙ ap (read (tree.custom all)) q.1)

-- what a name's parts fail with, it fails with
named_as : (first : OptionPartSyntax) (r : ReadParts) (f : Failure) → with_first first r ≡ failed f
    → named first r ≡ failed f
named_as first (read items us) f e = absurd (never_failed (first ∷ items) us f e)
named_as first (stopped before us) f e = failed_as (at before us) f e
named_as first (wrong us) f e = failed_as (off us) f e
named_as first deep f e = failed_as too_deep f e

fails_named : (first : OptionPartSyntax) (e : Refusal) (after : Rest Lexeme Place) (r : ReadParts)
    → Fails e after (with_first first r) → Fails e after (named first r)
fails_named first e after r h =
    fails_alike e after (with_first first r) (named first r) (λ f is. named_as first r f is) h

first_wrong : (first : OptionPartSyntax) (r : ReadParts) (after : Rest Lexeme Place)
    → with_first first r ≡ wrong after → r ≡ wrong after
first_wrong first (read items us) after e = absurd cc
first_wrong first (stopped before us) after e = absurd cc
first_wrong first (wrong us) after e = let p : us ≡ after = cc in
    ap (λ (x : Rest Lexeme Place). wrong x) p
first_wrong first deep after e = absurd cc

module _ (ts us : Rest Lexeme Place) (first : OptionPartSyntax)
    (is : option_part.run ts ≡ read first us) where
  behind_first : parse.option_name.run ts ≡ named first ((parts_up_to 99).run us)
  unfolding parse.option_name
  behind_first = rw is refl

  -- a name of more than one part
  pub name_of_parts : (vs : Rest Lexeme Place) (all : Parts) → dotted us
      → with_first first ((parts_up_to 99).run us) ≡ read all vs
      → parse.option_name.run ts ≡ read (tree.custom all) vs
  name_of_parts vs all dot e = behind_first ∙ named_more 98 us vs first all dot e

  -- a name of one part
  pub name_of_one : starts lexicon (symbol 46 ∷ []) us ≡ false
      → parse.option_name.run ts ≡ read (option_name first []) us
  name_of_one no_dot = behind_first ∙ ap (named first) (parts_end 99 us no_dot)

  -- a name of which the other parts could not be read, or are too many
  pub fails_at_parts : (e : Refusal) (after : Rest Lexeme Place)
      → Fails e after (with_first first ((parts_up_to 99).run us))
      ⊎ TooMany e after (with_first first ((parts_up_to 99).run us))
      → Fails e after (parse.option_name.run ts)
      ⊎ IsWrong LongName ts e after (parse.option_name.run ts)
  fails_at_parts e after (inl h) =
      inl (rw behind_first (fails_named first e after ((parts_up_to 99).run us) h))
  fails_at_parts e after (inr h) =
      let w = first_wrong first ((parts_up_to 99).run us) after h.1 in
      let b = parts_wrong 99 us after w in
      let l = option_part.sound ts first us is in
      let used : List Lexeme = l.used ++ (b.0 ++ b.2 ∷ []) in
      let parts : ts ≡ onto used after = l.parts
      ∙ ap (onto l.used) (b.3 ∙ sym (onto-append b.0 (b.2 ∷ []) after))
      ∙ sym (onto-append l.used (b.0 ++ b.2 ∷ []) after) in
      let hundred : HundredParts used = record {
        first = l.used;
        others = b.0;
        dot = b.2;
        parts = refl;
        part = first;
        is = l.holds;
        more = b.1;
        are = b.4;
        hundred = b.5;
        dotted = rw (b.6) refl;
      } in
      inr (
        error.OptionNameTooLong,
        h.0,
        (after, behind_first ∙ ap (named first) w),
        (used, parts, (refl, hundred, h.2)),
      )

-- a name of which the first part could not be read
pub fails_at_first : (e : Refusal) (ts after : Rest Lexeme Place)
    → Fails e after (option_part.run ts) → Fails e after (parse.option_name.run ts)
unfolding parse.option_name
fails_at_first e ts after h = fails_first e after (option_part.run ts) _ h
