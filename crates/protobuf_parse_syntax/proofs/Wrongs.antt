-- What is wrong in a part: in its first part, or behind what stands before it; and from the first
-- token of a statement on.
use Rattle.std.proofs.Common.{◌≡◌, List, ◌++◌, ◌⊎◌, Result, Ok, Err, refl, sym, ap, subst, ◌∙◌}
use Rattle.std.proofs.Common.{inl, inr, append_assoc}
use Rattle.protobuf_parse_grammar.specs.Readers.{Rest, onto, onto-append, Read, wrong, bind}
use Rattle.protobuf_parse_grammar.specs.Readers.{Shape, Reader}
use Rattle.protobuf_parse_grammar.specs.Whole.{local_wrong}
use Rattle.protobuf_parse_lexer.specs.Tokens.{Lexeme}
use Rattle.protobuf_parse_lexer.specs.Classes.{Class}
use Rattle.protobuf_parse_lexer.specs.declared.lexer.token.Place.{Place}
use Rattle.protobuf_parse_lexer.specs.declared.error.ParserError.{ParserError}
use Rattle.protobuf_parse_syntax.specs.ClassLaws.{lexicon}
use Rattle.protobuf_parse_syntax.specs.Readings.{from_first, wrong_from}
use Rattle.protobuf_parse_syntax.specs.Code.{Wrongs, Behind, Says, IsWrong, Gives, GivesOr}
use Rattle.protobuf_parse_syntax.specs.Code.{off, too_deep, failed, Fails, fails_first}
use Rattle.protobuf_parse_syntax.specs.declared.parser.refusal.Refusal.{Refusal}
use Rattle.protobuf_parse_syntax.specs.declared.parser.refusal.Refusal.TheVariants.{Memory, Fault}
use Rattle.protobuf_parse_syntax.specs.declared.parser.refusal.Refusal.TheVariants.{NoField}
use Rattle.protobuf_parse_syntax.specs.declared.parser.refusal.Refusal.TheVariants.{NoGroupField}
use Rattle.protobuf_parse_syntax.specs.declared.parser.refusal.Refusal.TheVariants.{NoOneofField}

-- ---- more tokens before

behind : (front before rest used : List Lexeme) → used ≡ before ++ rest
    → front ++ used ≡ (front ++ before) ++ rest
behind front before rest used e = ap (λ (v : List Lexeme). front ++ v) e
    ∙ sym (append_assoc front before rest)

pub says_behind : (e : ParserError) (front used : List Lexeme) (after : Rest Lexeme Place)
    → Says e used after → Says e (front ++ used) after
says_behind e front used after h = (front ++ h.0, h.1, behind front h.0 h.1 used h.2, h.3)

-- two fronts that are one
pub behind_both : (P : Wrongs) (F G H : List Lexeme → Type 0)
    → ((ts us : List Lexeme) → F ts → G us → H (ts ++ us)) → (e : ParserError) (used : List Lexeme)
    (after : Rest Lexeme Place) → Behind F (Behind G P) e used after → Behind H P e used after
behind_both P F G H join e used after h =
    let k = h.4 in (
      h.0 ++ k.0,
      k.1,
      h.2 ∙ behind h.0 k.0 k.1 h.1 k.2,
      join h.0 k.0 h.3 k.3,
      k.4,
    )

-- ---- parts of a part

module _ {Y : Type 0} (P : Wrongs) (e : Refusal) (ts after : Rest Lexeme Place)
    (r : Read Lexeme Place Y) where
  -- it fails, or it is wrong so
  abbrev pub FailsOr : Type 0
  FailsOr = Fails e after r ⊎ IsWrong P ts e after r

  -- what is wrong in the first part is wrong in what begins with it
  pub wrong_first : {Z : Type 0} (g : Y → Rest Lexeme Place → Read Lexeme Place Z) → FailsOr
      → Fails e after (bind r g) ⊎ IsWrong P ts e after (bind r g)
  wrong_first g (inl h) = inl (fails_first e after r g h)
  wrong_first g (inr h) = let w = h.2 in
      inr (h.0, h.1, (w.0, ap (λ (v : Read Lexeme Place Y). bind v g) w.1), h.3)

  -- what is wrong so is wrong in another way too
  pub wrong_as : (Q : Wrongs)
      → ((x : ParserError) (used : List Lexeme) → P x used after → Q x used after) → FailsOr
      → Fails e after r ⊎ IsWrong Q ts e after r
  wrong_as Q to (inl h) = inl h
  wrong_as Q to (inr h) = let w = h.3 in inr (h.0, h.1, h.2, (w.0, w.1, to h.0 w.0 w.2))

  -- it stands behind such tokens
  pub wrong_behind : (Front : List Lexeme → Type 0) (used : List Lexeme) (before : Rest Lexeme Place)
      → before ≡ onto used ts → Front used → FailsOr
      → Fails e after r ⊎ IsWrong (Behind Front P) before e after r
  wrong_behind Front used before parts is (inl h) = inl h
  wrong_behind Front used before parts is (inr h) =
      let w = h.3 in
      inr (
        h.0,
        h.1,
        h.2,
        (
          used ++ w.0,
          parts ∙ ap (onto used) w.1 ∙ sym (onto-append used w.0 after),
          (used, w.0, refl, is, w.2),
        ),
      )

-- what a function gives of a part, it gives of one that reads the same
pub gives_as : {X Y : Type 0} (P : Wrongs) (before : Rest Lexeme Place) (view : X → Y)
    (x : Result X Refusal) (after : Rest Lexeme Place) (r q : Read Lexeme Place Y) → q ≡ r
    → GivesOr (IsWrong P before) view x after r → GivesOr (IsWrong P before) view x after q
gives_as {Y = Y} P before view x after r q e h =
    subst (λ (v : Read Lexeme Place Y). GivesOr (IsWrong P before) view x after v) (sym e) h

-- or refuses it as one in which nothing is wrong
pub gives_too : {X Y : Type 0} (P : Wrongs) (before : Rest Lexeme Place) (view : X → Y)
    (x : Result X Refusal) (after : Rest Lexeme Place) (r : Read Lexeme Place Y)
    → Gives view x after r → GivesOr (IsWrong P before) view x after r
gives_too P before view (Ok x) after r h = h
gives_too P before view (Err e) after r h = inl h

-- ---- a part that is wrong from its first token on

module _ {Y : Type 0} {R : List Lexeme → Y → Type 0} {s : Shape Class}
    (p : Reader lexicon R s) where
  -- it fails as it did
  pub fails_from_first : (e : Refusal) (ts after : Rest Lexeme Place) → Fails e after (p.run ts)
      → Fails e after ((from_first p).run ts)
  fails_from_first Memory ts after h = tt
  fails_from_first (Fault e) ts after (inl h) = inl (ap (wrong_from ts) h.0, h.1)
  fails_from_first (Fault e) ts after (inr (f, is, inl h)) =
      inr (too_deep, ap (wrong_from ts) (is ∙ ap failed h.1), inl (h.0, refl))
  fails_from_first (Fault e) ts after (inr (f, is, inr (inl h))) =
      let k = h.1 in
      inr (f, ap (wrong_from ts) (is ∙ ap failed k.1) ∙ sym (ap failed k.1), inr (inl h))
  fails_from_first (Fault e) ts after (inr (f, is, inr (inr h))) =
      let w : p.run ts ≡ wrong (onto h.0 after) = is ∙ ap failed h.1 in
      let l = local_wrong p ts (onto h.0 after) w in
      inr (
        off ts,
        ap (wrong_from ts) w,
        inr (inr (
          l.0 ++ h.0,
          ap off (l.1 ∙ sym (onto-append l.0 h.0 after)),
          says_behind e l.0 h.0 after h.2,
        )),
      )
  fails_from_first NoField ts after h = ap (wrong_from ts) h
  fails_from_first NoGroupField ts after h = ap (wrong_from ts) h
  fails_from_first NoOneofField ts after h = ap (wrong_from ts) h

  -- or with what is wrong in it
  pub fails_in : (P : Wrongs) (e : Refusal) (ts after : Rest Lexeme Place)
      → ((x : ParserError) (used : List Lexeme) → P x used after → Says x used after)
      → Fails e after (p.run ts) ⊎ IsWrong P ts e after (p.run ts)
      → Fails e after ((from_first p).run ts)
  fails_in P e ts after says (inl h) = fails_from_first e ts after h
  fails_in P e ts after says (inr h) =
      let w = h.2 in
      let u = h.3 in
      rw (h.1)
      (inr (off ts, ap (wrong_from ts) w.1, inr (inr (u.0, ap off u.1, says h.0 u.0 u.2))))
