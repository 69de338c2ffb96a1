-- What the reader of a file gives, said of the grammar.
use Rattle.std.proofs.Common.{◌≡◌, ℕ, ◌+◌, List, [], ◌∷◌, ◌++◌, true, false, add-zero}
use Rattle.std.proofs.Common.{refl, sym, ap, subst, ◌∙◌, inl, inr, ◌⊎◌, codes}
use Rattle.std.proofs.lemmas.List.{append-nil}
use Rattle.protobuf_parse_grammar.specs.Readers.{deep, Rest, end, token, onto, onto-append, read}
use Rattle.protobuf_parse_grammar.specs.Readers.{stuck, stopped}
use Rattle.protobuf_parse_grammar.specs.Readers.{wrong, Begins, starts, begins-starts, read_parts}
use Rattle.protobuf_parse_grammar.specs.Relations.{BeginsOtherwise}
use Rattle.protobuf_parse_lexer.specs.Tokens.{Lexeme}
use Rattle.protobuf_parse_grammar.specs.Conditions.{mark_of}
use Rattle.protobuf_parse_grammar.specs.Whole.{whole, left_whole, local_stuck, local_wrong}
use Rattle.protobuf_parse_grammar.specs.Relations.{StopsAt}
use Rattle.protobuf_parse_grammar.specs.Whole.{deep_found, deep_only, deep_wrong}
use Rattle.protobuf_parse_grammar.specs.Whole.{deep_stops, deep_leaves}
use Rattle.protobuf_parse_lexer.specs.Classes.{word, text, is_one_of, is_floating}
use Rattle.protobuf_parse_lexer.specs.Cut.{out_of_memory}
use Rattle.protobuf_parse_lexer.specs.Cut.{error_place as place_at}
use Rattle.protobuf_parse_lexer.specs.declared.error.ParserErrorWithLocation.{ParserErrorWithLocation}
use Rattle.protobuf_parse_lexer.specs.declared.lexer.token.Place.{Place}
use Rattle.protobuf_parse_lexer.specs.declared.error.ParserError.{ParserError}
use Rattle.protobuf_parse_lexer.specs.declared.error.ParserError.TheVariants as error
use Rattle.protobuf_parse_syntax.proofs.Strings.{str_ends}
use Rattle.protobuf_parse_syntax.proofs.Wrongs.{says_behind}
use Rattle.protobuf_parse_syntax.specs.Trees.{Pieces, FileSyntax}
use Rattle.protobuf_parse_syntax.specs.ClassLaws.{lexicon}
use Rattle.protobuf_parse_syntax.specs.Grammar.{IsFile, IsStr, place_of}
use Rattle.protobuf_parse_syntax.specs.Productions as parse
use Rattle.protobuf_parse_syntax.specs.Nested as nest
use Rattle.protobuf_parse_syntax.specs.Readings.{steady-near}
use Rattle.protobuf_parse_syntax.specs.Parsing.{NoTree, StandsAt, TokenAt, IsLarge, NotProto3}
use Rattle.protobuf_parse_syntax.specs.Parsing.{BeginsNoConstant, IsLowName, LowGroupName}
use Rattle.protobuf_parse_syntax.specs.Parsing.{IsLabelWord}
use Rattle.protobuf_parse_syntax.specs.Parsing.{IsUnlabelled, IsTheWord, IsOtherStatement}
use Rattle.protobuf_parse_syntax.specs.Parsing.{EndsWithParts, EndsWithImport, SyntaxHead}
use Rattle.protobuf_parse_syntax.specs.Parsing.{NextPart, FloatValue, IsFloating, StandsBehind, WrongStrings}
use Rattle.protobuf_parse_syntax.specs.Parsing.{EndsWithValue}
use Rattle.protobuf_parse_syntax.specs.Parsing.{SaysNothing, IsGrammarFault}
use Rattle.protobuf_parse_syntax.specs.Code.{Stands, Says, Tells, Fails, Failure, failed, IsWrong}
use Rattle.protobuf_parse_syntax.specs.Code.{NoVersion, NoOption, NoPath, NoName, of_path}
use Rattle.protobuf_parse_syntax.specs.Code.{of_version}
use Rattle.protobuf_parse_syntax.specs.Code.{SaysNot, FloatNext, NextIs, begins_part}
use Rattle.protobuf_parse_syntax.specs.Code.{is_end, RefusesFile, error_at, Unfit, FileFails}
use Rattle.protobuf_parse_syntax.specs.declared.parser.refusal.Refusal.{Refusal}
use Rattle.protobuf_parse_syntax.specs.declared.parser.refusal.Refusal.TheVariants.{Memory, Fault}
use Rattle.protobuf_parse_syntax.specs.declared.parser.refusal.Refusal.TheVariants.{NoField}
use Rattle.protobuf_parse_syntax.specs.declared.parser.refusal.Refusal.TheVariants.{NoGroupField}
use Rattle.protobuf_parse_syntax.specs.declared.parser.refusal.Refusal.TheVariants.{NoOneofField}
use Rattle.protobuf_parse_syntax.specs.declared.tree.Syntax.{Syntax}
use Rattle.protobuf_parse_syntax.specs.declared.tree.Syntax.TheVariants.{Proto2, Proto3}
use Rattle.protobuf_parse_syntax.proofs.TextFaults.{version_runs}
use Rattle.protobuf_parse_syntax.proofs.Words.{nothing_starts}

-- ---- a token at a place

-- what is left begins with a token of the tokens
stands_at : (P : List Lexeme → Lexeme → List Lexeme → Type 0) (ts used : List Lexeme) (m : Place)
    (t : Lexeme) (rest : Rest Lexeme Place) → whole ts m ≡ onto used (token t rest)
    → ((back : List Lexeme) → rest ≡ whole back m → P used t back) → StandsAt P ts t.place
stands_at P ts used m t rest e p = let k = left_whole ts used m (token t rest) e in go k.0 k.1 k.2
  where
    go : (back : List Lexeme) → token t rest ≡ whole back m → ts ≡ used ++ back
        → StandsAt P ts t.place
    go [] f parts = absurd cc
    go (u ∷ us) f parts =
        let q : t ≡ u = cc in
        let r : rest ≡ whole us m = cc in
        record {
          front = used;
          token = t;
          back = us;
          parts = parts
              ∙ ap (λ (x : Lexeme). used ++ x ∷ us) (sym q);
          at = refl;
          is = p us r;
        }

token_at : (P : Lexeme → Type 0) (ts used : List Lexeme) (m : Place) (after : Rest Lexeme Place)
    → whole ts m ≡ onto used after → NextIs P after → TokenAt P ts (mark_of place_of after)
token_at P ts used m (end n) e h = absurd h
token_at P ts used m (token t rest) e h =
    stands_at (λ front u back. P u) ts used m t rest e (λ back f. h)

floating_next : (t : Lexeme) (rest : Rest Lexeme Place) (back : List Lexeme) (m : Place)
    → FloatNext (token t rest) → rest ≡ whole back m → IsFloating t back
floating_next t (end n) [] m h e = h
floating_next t (end n) (u ∷ us) m h e = absurd cc
floating_next t (token u rest) [] m h e = absurd cc
floating_next t (token u rest) (v ∷ vs) m (inl h) e = inl h
floating_next t (token u rest) (v ∷ vs) m (inr h) e = let p : u ≡ v = cc in
    inr (h.0, subst (λ (x : Lexeme). is_floating x ≡ true) p h.1)

float_at : (ts used : List Lexeme) (m : Place) (after : Rest Lexeme Place)
    → whole ts m ≡ onto used after → EndsWithValue used → FloatNext after
    → StandsAt FloatValue ts (mark_of place_of after)
float_at ts used m (end n) e ends h = absurd h
float_at ts used m (token t rest) e ends h =
    stands_at FloatValue ts used m t rest e
    (λ back f. (ends, floating_next t rest back m h f))

part_at : (ts used : List Lexeme) (m : Place) (after : Rest Lexeme Place)
    → whole ts m ≡ onto used after → EndsWithParts used → begins_part after ≡ true
    → StandsAt NextPart ts (mark_of place_of after)
part_at ts used m (end n) e d h = absurd cc
part_at ts used m (token t rest) e d h = stands_at NextPart ts used m t rest e (λ back f. (d, h))

low_at : (ts used : List Lexeme) (m : Place) (after : Rest Lexeme Place)
    → whole ts m ≡ onto used after → NextIs IsLowName after
    → ((before : List Lexeme) × (group : Lexeme) × (used ≡ before ++ group ∷ [])
    × IsTheWord (codes "group") group) → StandsAt LowGroupName ts (mark_of place_of after)
low_at ts used m (end n) e h k = absurd h
low_at ts used m (token t rest) e h k =
    stands_at LowGroupName ts used m t rest e (λ back f. (h, k))

-- what is left does not begin with a string
no_more : (others : List Lexeme) (m : Place) (us : Rest Lexeme Place) → us ≡ whole others m
    → starts lexicon (text ∷ []) us ≡ false → BeginsOtherwise (is_one_of (text ∷ [])) others
unfolding starts
no_more [] m us e h = tt
no_more (t ∷ others) m us e h = rw e at h

strings_next : (used used' : List Lexeme) (m : Place) (e : ParserError) (t : Lexeme)
    (rest us : Rest Lexeme Place) (pieces : Pieces) → token t rest ≡ onto used' us
    → IsStr used' pieces → starts lexicon (text ∷ []) us ≡ false → StandsBehind e used
    → SaysNothing pieces e → (back : List Lexeme) → rest ≡ whole back m → WrongStrings e used t back
strings_next used used' m e t rest us pieces f is ends behind says back g =
    let k = left_whole (t ∷ back) used' m us (sym (ap (token t) g) ∙ f) in
    record {
      behind = behind;
      strings = used';
      others = k.0;
      pieces = pieces;
      parts = k.2;
      is = is;
      last = no_more k.0 m us k.1 ends;
      says = says;
    }

strings_at : (ts used : List Lexeme) (m : Place) (e : ParserError) (after rest : Rest Lexeme Place)
    (pieces : Pieces) → whole ts m ≡ onto used after → parse.str.run after ≡ read pieces rest
    → StandsBehind e used → SaysNothing pieces e
    → StandsAt (WrongStrings e) ts (mark_of place_of after)
strings_at ts used m e (end n) rest pieces parts h behind says =
    let l = parse.str.sound (end n) pieces rest h in
    no_strings l.used l.parts (parse.str.begins l.used pieces l.holds)
  where
    no_strings : (strings : List Lexeme)
        → (let r : Rest Lexeme Place = end n in r ≡ onto strings rest)
        → Begins lexicon (text ∷ []) false strings → StandsAt (WrongStrings e) ts n
    no_strings [] f b = absurd cc
    no_strings (u ∷ us) f b = absurd cc
strings_at ts used m e (token t us) rest pieces parts h behind says =
    let l = parse.str.sound (token t us) pieces rest h in
    stands_at (WrongStrings e) ts used m t us parts
    (strings_next used l.used m e t us rest pieces l.parts l.holds
    (str_ends (token t us) rest pieces h) behind says)

same_fault : (e x : ParserError) → (let r : Refusal = Fault e in r ≡ Fault x) → e ≡ x
same_fault e x h = cc

-- ---- a file

-- A file whose version is proto2 does not begin with a statement that says proto3.
not_proto3 : (ts : List Lexeme) (m : Place) (us : Rest Lexeme Place)
    → parse.version_statement.run (whole ts m) ≡ read Proto2 us → NotProto3 ts
not_proto3 ts m us e front back parts is =
    let w = onto front (whole back m) in
    let same : whole ts m ≡ w = ap (λ (v : List Lexeme). whole v m) parts
    ∙ onto-append front back (end m) in
    let begins = begins-starts lexicon (word (codes "syntax") ∷ []) false front (whole back m)
    refl (parse.syntax.begins front Proto3 is) in
    let reads = parse.syntax.complete refl front Proto3 (whole back m) is
    (nothing_starts (whole back m)) in
    let p = read_parts Proto3 Proto2 (whole back m) us
    (sym (version_runs w begins ∙ reads) ∙ sym (ap parse.version_statement.run same) ∙ e) in
    absurd (let q : Proto3 ≡ Proto2 = p.0 in cc)

no_tree_behind : (ts : List Lexeme) (last place : Place) → StopsAt place_of IsFile ts last place
    → NoTree ts
no_tree_behind ts last place s t w =
    s.never s.rest t refl (subst (λ (v : List Lexeme). IsFile v t) s.parts w)

module _ (ts : List Lexeme) (m : Place) (n : ℕ) where
  pub found : (a : FileSyntax) (after : Rest Lexeme Place)
      → (nest.files n).low.run (whole ts m) ≡ read a after → is_end after ≡ true → IsFile ts a
  found a (end k) e h =
      deep_found (λ i. (nest.file i).low) (steady-near nest.file nest.file-same) refl n ts m k a e
  found a (token t rest) e h = absurd cc

  -- what was read goes on to the end
  pub ends_there : (a : FileSyntax) (after : Rest Lexeme Place)
      → (nest.files n).low.run (whole ts m) ≡ read a after → is_end after ≡ true
      → mark_of place_of after ≡ m
  ends_there a (end k) e h =
      let l = (nest.files n).low.sound (whole ts m) a (end k) e in
      let b = left_whole ts l.used m (end k) l.parts in
      same_end b.0 k b.1
    where
      same_end : (back : List Lexeme) (k : Place)
          → (let r : Rest Lexeme Place = end k in r ≡ whole back m) → k ≡ m
      same_end [] k f = cc
      same_end (t ∷ back) k f = absurd cc
  ends_there a (token t rest) e h = absurd cc

  pub leftover : (a : FileSyntax) (after : Rest Lexeme Place)
      → (nest.files n).low.run (whole ts m) ≡ read a after → is_end after ≡ false
      → StopsAt place_of IsFile ts m (mark_of place_of after)
  leftover a (end k) e h = absurd cc
  leftover a (token t rest) e h =
      deep_leaves (λ i. (nest.file i).low) (steady-near nest.file nest.file-same) refl n ts m a
      (token t rest) t e refl

  -- with so many levels, or more, nothing is too deep
  abbrev pub Enough : Type 0
  Enough = (j : ℕ) → (nest.file (n + j)).low.run (whole ts m) ≡ deep → ⊥

  module _ (enough : Enough) where
    pub only : (a b : FileSyntax) (after : Rest Lexeme Place)
        → (nest.files n).low.run (whole ts m) ≡ read a after → is_end after ≡ true → IsFile ts b
        → b ≡ a
    only a b (end k) e h w =
        deep_only (λ i. (nest.file i).low)
        (steady-near nest.file nest.file-same) refl n ts m k a b enough e w
    only a b (token t rest) e h w = absurd cc

    none_if_wrong : (rest : Rest Lexeme Place) → (nest.files n).low.run (whole ts m) ≡ wrong rest
        → NoTree ts
    none_if_wrong rest e t w =
        deep_wrong (λ i. (nest.file i).low)
        (steady-near nest.file nest.file-same) refl n ts m rest t enough e w

    -- the tokens cannot stand there
    next_fault : (e : ParserError) (after : Rest Lexeme Place)
        → (nest.files n).low.run (whole ts m) ≡ stuck after → Stands e after
        → IsGrammarFault ts m e (mark_of place_of after)
    next_fault e after h stands =
        let stop = deep_stops (λ i. (nest.file i).low)
        (steady-near nest.file nest.file-same) refl n ts m [] after enough h in
        let l = local_stuck (nest.file n).low refl (whole ts m) [] after h in
        go e stop l.used l.parts stands
      where
        go : (e : ParserError) → StopsAt place_of IsFile ts m (mark_of place_of after)
            → (used : List Lexeme) → whole ts m ≡ onto used after → Stands e after
            → IsGrammarFault ts m e (mark_of place_of after)
        go error.IncorrectInput stop used parts s = stop
        go error.ExpectConstant stop used parts s =
            (stop, token_at BeginsNoConstant ts used m after parts s)
        go error.IntegerOverflow stop used parts s =
            (stop, token_at IsLarge ts used m after parts s)
        go _ stop used parts s = absurd s

    -- no statement of a body begins with the next token
    unfit_fault : (e : ParserError) (after us : Rest Lexeme Place) (syntax : Syntax)
        → parse.version_statement.run (whole ts m) ≡ read syntax us
        → (nest.files n).low.run (whole ts m) ≡ stuck after → Unfit syntax e after
        → IsGrammarFault ts m e (mark_of place_of after)
    unfit_fault e after us syntax version h unfit =
        let stop = deep_stops (λ i. (nest.file i).low)
        (steady-near nest.file nest.file-same) refl n ts m [] after enough h in
        let l = local_stuck (nest.file n).low refl (whole ts m) [] after h in
        go e stop l.used l.parts unfit
      where
        go : (e : ParserError) → StopsAt place_of IsFile ts m (mark_of place_of after)
            → (used : List Lexeme) → whole ts m ≡ onto used after → Unfit syntax e after
            → IsGrammarFault ts m e (mark_of place_of after)
        go error.IncorrectInput stop used parts s = stop
        go error.LabelNotAllowed stop used parts s =
            (stop, token_at IsLabelWord ts used m after parts s)
        go error.LabelRequired stop used parts s = (
          stop,
          token_at IsUnlabelled ts used m after parts s.1,
          not_proto3 ts m us (version ∙ ap (λ (v : Syntax). read v us) s.0),
        )
        go error.MapFieldNotAllowed stop used parts s =
            (stop, token_at (IsTheWord (codes "map")) ts used m after parts s)
        go error.OneOfInGroup stop used parts s =
            (stop, token_at (IsTheWord (codes "oneof")) ts used m after parts s)
        go error.OnlyFieldsInGroup stop used parts s =
            (stop, token_at IsOtherStatement ts used m after parts s)
        go _ stop used parts s = absurd s

    -- strings say nothing
    strings_at_fault : (e : ParserError) (used : List Lexeme) (after : Rest Lexeme Place)
        → whole ts m ≡ onto used after → StandsBehind e used → SaysNot e after
        → StandsAt (WrongStrings e) ts (mark_of place_of after)
    strings_at_fault e used after parts behind says =
        strings_at ts used m e after says.1 says.0 parts says.2 behind says.3

    -- strings say nothing behind what an import, or a reserved name, stands behind
    module _ (e : ParserError) (before part used : List Lexeme) (after : Rest Lexeme Place)
        (none : NoTree ts) (parts : whole ts m ≡ onto used after) (is : used ≡ before ++ part)
      where
        behind_head : (head back : List Lexeme) → part ≡ head ++ back → back ≡ []
            → used ≡ before ++ head
        behind_head head back f g = is ∙ ap (λ (v : List Lexeme). before ++ v)
            (f ∙ ap (λ (v : List Lexeme). head ++ v) g ∙ append-nil head)

        path_fault : NoPath e part after → IsGrammarFault ts m e (mark_of place_of after)
        path_fault (head, back, f, vis, (faults, g, says)) = go faults
          where
            ends : EndsWithImport used
            ends = (before, head, vis.0, behind_head head back f g, vis.1)

            go : of_path e → IsGrammarFault ts m e (mark_of place_of after)
            go (inl x) =
                rw x (
                  none,
                  strings_at_fault error.StrLitDecode used after parts (inr (inl ends))
                      (rw x at says),
                )
            go (inr x) =
                rw (x.1) (
                  none,
                  strings_at_fault (error.BadImportPath x.0) used after parts ends
                      (rw (x.1) at says),
                )

        name_fault : NoName e part after → IsGrammarFault ts m e (mark_of place_of after)
        name_fault (head, back, f, names, (x, g, says)) =
            rw x (
              none,
              strings_at_fault error.StrLitDecode used after parts
                  (inr (inr (before, head, names.0, behind_head head back f g, names.1)))
                  (rw x at says),
            )

        option_fault : NoOption e part after → IsGrammarFault ts m e (mark_of place_of after)
        option_fault (head, rest, f, starts, inr (name, front, g, named, (x, inside, next))) =
            rw x (
              none,
              float_at ts used m after parts (
                before,
                head,
                name,
                front,
                is ∙ ap (λ (v : List Lexeme). before ++ v)
                    (f ∙ ap (λ (v : List Lexeme). head ++ v) g),
                starts,
                named,
                inside,
              )
                  next,
            )
        option_fault (head, name, f, starts, inl (x, hundred, begins)) =
            rw x (
              none,
              part_at ts used m after parts (
                before,
                head,
                name,
                is ∙ ap (λ (v : List Lexeme). before ++ v) f,
                starts,
                hundred,
              )
                  begins,
            )

    -- the part that begins there has the fault
    wrong_fault : (e : ParserError) (used : List Lexeme) (after : Rest Lexeme Place) → NoTree ts
        → whole ts m ≡ onto used after → Says e used after
        → IsGrammarFault ts m e (mark_of place_of after)
    wrong_fault e used after none parts (before, part, is, inl h) =
        option_fault e before part used after none parts is h
    wrong_fault e used after none parts (before, part, is, inr (inl h)) =
        path_fault e before part used after none parts is h
    wrong_fault e used after none parts (before, part, is, inr (inr h)) =
        name_fault e before part used after none parts is h

    -- the word `group` stands before a name that does not begin with a capital
    low_fault : (group : Lexeme) (after : Rest Lexeme Place)
        → (nest.files n).low.run (whole ts m) ≡ stopped (group ∷ []) after
        → IsTheWord (codes "group") group → NextIs IsLowName after
        → IsGrammarFault ts m error.GroupNameShouldStartWithUpperCase (mark_of place_of after)
    low_fault group after h is low =
        let l = local_stuck (nest.file n).low refl (whole ts m) (group ∷ []) after h in (
          deep_stops (λ i. (nest.file i).low)
              (steady-near nest.file nest.file-same) refl n ts m (group ∷ []) after enough h,
          low_at ts l.used m after l.parts low (l.front, group, l.ends, is),
        )

    here_fault : (e : ParserError) (after : Rest Lexeme Place) (f : Failure)
        → (nest.files n).low.run (whole ts m) ≡ failed f → Tells e after f
        → IsGrammarFault ts m e (mark_of place_of after)
    here_fault e after f h (inl t) =
        absurd (enough 0 (rw add-zero (rw (t.1) at h)))
    here_fault e after f h (inr (inl t)) =
        rw (t.0) (low_fault (t.1.0) after (h ∙ ap failed (t.1.1)) t.1.2 t.1.3)
    here_fault e after f h (inr (inr t)) =
        let start : Rest Lexeme Place = onto t.0 after in
        let w : (nest.files n).low.run (whole ts m) ≡ wrong start = rw (t.1) at h in
        let l = local_wrong (nest.file n).low (whole ts m) start w in
        wrong_fault e (l.0 ++ t.0) after (none_if_wrong start w)
        (l.1 ∙ sym (onto-append l.0 t.0 after)) (says_behind e l.0 t.0 after t.2)

    -- the string of `syntax` says no version
    version_at : (e : ParserError) (used : List Lexeme) (after : Rest Lexeme Place) → NoTree ts
        → whole ts m ≡ onto used after → NoVersion e used after
        → IsGrammarFault ts m e (mark_of place_of after)
    version_at e used after none parts (head, back, f, is, (faults, g, says)) = go faults
      where
        heads : SyntaxHead used tt
        heads =
            subst (λ (v : List Lexeme). SyntaxHead v tt)
            (sym (f ∙ ap (λ (v : List Lexeme). head ++ v) g ∙ append-nil head)) is

        go : of_version e → IsGrammarFault ts m e (mark_of place_of after)
        go (inl x) =
            rw x (
              none,
              strings_at_fault error.StrLitDecode used after parts (inl heads) (rw x at says),
            )
        go (inr x) =
            rw x (
              none,
              strings_at_fault error.UnknownSyntax used after parts heads (rw x at says),
            )

    version_fault : (e : ParserError) (after : Rest Lexeme Place)
        → IsWrong NoVersion (whole ts m) (Fault e) after ((nest.files n).low.run (whole ts m))
        → IsGrammarFault ts m e (mark_of place_of after)
    version_fault e after h =
        let same : e ≡ h.0 = same_fault e h.0 h.1 in
        let w = h.2 in
        let u = h.3 in
        rw same (version_at h.0 u.0 after (none_if_wrong w.0 w.1) u.1 u.2)

    pub refused : (e : Refusal) (after : Rest Lexeme Place)
        → Fails e after ((nest.files n).low.run (whole ts m))
        ⊎ FileFails (whole ts m) e after ((nest.files n).low.run (whole ts m))
        → RefusesFile ts m e (mark_of place_of after)
    refused Memory after h = tt
    refused (Fault e) after (inl (inl h)) = next_fault e after h.0 h.1
    refused (Fault e) after (inl (inr h)) = here_fault e after h.0 h.1 h.2
    refused (Fault e) after (inr (inl h)) = version_fault e after h
    refused (Fault e) after (inr (inr (x, same, stands, (syntax, us, version, unfit)))) =
        rw (same_fault e x same) (unfit_fault x after us syntax version stands unfit)
    refused NoField after (inl h) = next_fault error.IncorrectInput after h tt
    refused NoGroupField after (inl h) = next_fault error.IncorrectInput after h tt
    refused NoOneofField after (inl h) = next_fault error.IncorrectInput after h tt
    refused _ after (inr (inl h)) = let p = h.1 in absurd cc
    refused _ after (inr (inr h)) = let p = h.1 in absurd cc

-- where a fault stands there is no tree
pub fault_none : (ts : List Lexeme) (last place : Place) (e : ParserError)
    → IsGrammarFault ts last e place → NoTree ts
fault_none ts last place error.IncorrectInput h = no_tree_behind ts last place h
fault_none ts last place error.ExpectConstant h = no_tree_behind ts last place h.0
fault_none ts last place error.LabelNotAllowed h = no_tree_behind ts last place h.0
fault_none ts last place error.LabelRequired h = no_tree_behind ts last place h.0
fault_none ts last place error.GroupNameShouldStartWithUpperCase h =
    no_tree_behind ts last place h.0
fault_none ts last place error.MapFieldNotAllowed h = no_tree_behind ts last place h.0
fault_none ts last place error.OneOfInGroup h = no_tree_behind ts last place h.0
fault_none ts last place error.OnlyFieldsInGroup h = no_tree_behind ts last place h.0
fault_none ts last place error.IntegerOverflow h = no_tree_behind ts last place h.0
fault_none ts last place error.OptionNameTooLong h = h.0
fault_none ts last place error.FloatConstant h = h.0
fault_none ts last place error.UnknownSyntax h = h.0
fault_none ts last place error.StrLitDecode h = h.0
fault_none ts last place (error.BadImportPath e) h = h.0
fault_none ts last place _ h = absurd h

-- what a refusal says, or else
pub told_or : {A : Type 0} (ts : List Lexeme) (m : Place) (e : Refusal) (next : Place)
    (r : ParserErrorWithLocation) → RefusesFile ts m e next → r ≡ error_at e next
    → (r ≡ out_of_memory) ⊎ A ⊎ IsGrammarFault ts m r.error (place_at r)
told_or ts m Memory next r h e = inl e
told_or ts m (Fault x) next r h e = inr (inr (rw e h))
told_or ts m NoField next r h e = inr (inr (rw e h))
told_or ts m NoGroupField next r h e = inr (inr (rw e h))
told_or ts m NoOneofField next r h e = inr (inr (rw e h))
