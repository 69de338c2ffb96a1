-- What a string says, and what it does not.
use Rattle.std.proofs.Common.{◌≡◌, ◌<◌, ℕ, zero, suc, [], ◌∷◌, Bool, true, false, cond, arith, sym}
use Rattle.std.proofs.Common.{Option, Some, None, codes, refl, ap, ◌∙◌, subst, inl, inr, ◌⊎◌, rules}
use Rattle.std.specs.Str.{IsUtf8}
use Rattle.std.proofs.lemmas.Str.{IsUtf8-from_ascii}
use Rattle.protobuf_parse_base.specs.Paths.{IsProtoPath, path_fault}
use Rattle.protobuf_parse_grammar.specs.Readers.{Rest, Read, read, stopped, wrong, deep, bind}
use Rattle.protobuf_parse_grammar.specs.Readers.{bind_read, read_parts, size, starts}
use Rattle.protobuf_parse_grammar.specs.Combinators.{run_many, many-law, shorter, with_first}
use Rattle.protobuf_parse_grammar.specs.Conditions.{meaning}
use Rattle.protobuf_parse_base.specs.declared.proto_path.error.PathError.{PathError}
use Rattle.protobuf_parse_lexer.specs.Text.{Bytes}
use Rattle.protobuf_parse_lexer.specs.Tokens.{Lexeme, DecodesAll}
use Rattle.protobuf_parse_lexer.specs.Decoding.{RefusesText}
use Rattle.protobuf_parse_lexer.specs.Tokens.{StandsFor}
use Rattle.protobuf_parse_lexer.specs.Decoder.{text_of}
use Rattle.protobuf_parse_lexer.specs.DecoderLaws.{text-to, text-from}
use Rattle.protobuf_parse_lexer.specs.Classes.{text as string_token}
use Rattle.protobuf_parse_lexer.specs.declared.lexer.token.Place.{Place}
use Rattle.protobuf_parse_lexer.specs.declared.lexer.str_lit.StrLitDecodeError.{StrLitDecodeError}
use Rattle.protobuf_parse_lexer.specs.declared.lexer.str_lit.StrLitDecodeError.TheVariants as decoding
use Rattle.protobuf_parse_lexer.specs.declared.error.ParserError.{ParserError}
use Rattle.protobuf_parse_lexer.specs.declared.error.ParserError.TheVariants as error
use Rattle.protobuf_parse_lexer.proofs.Escapes.{one_decoding_of_all}
use Rattle.protobuf_parse_syntax.specs.Trees.{Pieces}
use Rattle.protobuf_parse_syntax.specs.Readings.{finding}
use Rattle.protobuf_parse_syntax.specs.Grammar.{SaysVersion, SaysPath, name_of}
use Rattle.protobuf_parse_syntax.specs.Said.{version_of, path_of}
use Rattle.protobuf_parse_syntax.specs.SaidLaws.{version-to, version-from, path-to, path-from}
use Rattle.protobuf_parse_syntax.specs.Productions.{str, piece, reserved_name, version, path}
use Rattle.protobuf_parse_syntax.specs.ClassLaws.{lexicon}
use Rattle.protobuf_parse_syntax.specs.Code.{Failure, at, off, too_deep, failed, Fails, IsWrong}
use Rattle.protobuf_parse_syntax.specs.Code.{Unsaid, of_text, of_version, of_path, refusal_of}
use Rattle.protobuf_parse_syntax.specs.Code.{fails_alike}
use Rattle.protobuf_parse_syntax.specs.declared.parser.refusal.Refusal.{Refusal}
use Rattle.protobuf_parse_syntax.specs.declared.parser.refusal.Refusal.TheVariants.{Fault}
use Rattle.protobuf_parse_syntax.specs.declared.tree.Syntax.{Syntax}
use Rattle.protobuf_parse_syntax.specs.declared.tree.Syntax.TheVariants.{Proto2, Proto3}
use Rattle.protobuf_parse_syntax.proofs.Failures.{failed_as, never_failed}

none_found : {B : Type 0} (o : Option B) → ((b : B) → o ≡ Some b → ⊥) → o ≡ None
none_found None no_value = refl
none_found (Some b) no_value = absurd (no_value b refl)

module _ {B : Type 0} (M : Pieces → B → Type 0) (means : Pieces → Option B)
    (to : (z : Pieces) (b : B) → means z ≡ Some b → M z b)
    (from : (z : Pieces) (b : B) → M z b → means z ≡ Some b) (ts us : Rest Lexeme Place)
    (pieces : Pieces) (is : str.run ts ≡ read pieces us) where
  -- a string that says the value
  pub says : (b : B) → M pieces b → (finding str M means to from).run ts ≡ read b us
  says b h = rw (is, from pieces b h) refl

  -- a string that says none
  pub says_nothing : ((b : B) → M pieces b → ⊥) → (finding str M means to from).run ts ≡ wrong ts
  says_nothing no_value =
      rw (is, none_found (means pieces) (λ b h. no_value b (to pieces b h))) refl

refused_text : (zs : Pieces) (e : StrLitDecodeError) → RefusesText zs e → (e ≡ decoding.Memory → ⊥)
    → (v : Bytes) → StandsFor zs v → ⊥
refused_text zs e (inl (inl h)) other v d = other h
refused_text zs e (inl (inr h)) other v d = h.1 v d.0
refused_text zs e (inr h) other v d = h.1.2 (subst IsUtf8 (one_decoding_of_all d.0 h.1.1) d.1)

-- a string that stands for no text
pub fails_text : (ts us : Rest Lexeme Place) (zs : Pieces) (e : StrLitDecodeError)
    → str.run ts ≡ read zs us → RefusesText zs e
    → Fails (refusal_of e) ts (reserved_name.run ts)
    ⊎ IsWrong (Unsaid of_text) ts (refusal_of e) ts (reserved_name.run ts)
unfolding reserved_name
fails_text ts us zs decoding.Memory is h = inl tt
fails_text ts us zs decoding.BadEscape is h =
    let no_text = refused_text zs decoding.BadEscape h (λ e. cc) in
    inr (
      error.StrLitDecode,
      refl,
      (ts, says_nothing StandsFor text_of text-to text-from ts us zs is no_text),
      ([], refl, (refl, refl, (zs, us, is, no_text))),
    )
fails_text ts us zs decoding.NotUtf8 is h =
    let no_text = refused_text zs decoding.NotUtf8 h (λ e. cc) in
    inr (
      error.StrLitDecode,
      refl,
      (ts, says_nothing StandsFor text_of text-to text-from ts us zs is no_text),
      ([], refl, (refl, refl, (zs, us, is, no_text))),
    )

-- ---- where a string ends

pieces_end : (k : ℕ) (ts us : Rest Lexeme Place) (zs : Pieces) → size ts < k
    → run_many piece ts ≡ read zs us → starts lexicon (string_token ∷ []) us ≡ false
pieces_end zero ts us zs less e = absurd (omega (arith, less))
pieces_end (suc k) ts us zs less e =
    go (starts lexicon (string_token ∷ []) ts) refl (pieces_end k)
    (sym (many-law piece refl ts) ∙ e)
  where
    go : (b : Bool) → starts lexicon (string_token ∷ []) ts ≡ b
        → ((vs ws : Rest Lexeme Place) (ys : Pieces) → size vs < k → run_many piece vs ≡ read ys ws
        → starts lexicon (string_token ∷ []) ws ≡ false)
        → cond b (bind (piece.run ts) (λ a vs. with_first a (run_many piece vs))) (read [] ts)
        ≡ read zs us → starts lexicon (string_token ∷ []) us ≡ false
    go true h again e =
        let x = bind_read (piece.run ts) (λ a vs. with_first a (run_many piece vs)) zs us e in
        let y = bind_read (run_many piece x.1) (λ others ws. read (x.0 ∷ others) ws) zs us x.3 in
        let p = read_parts (x.0 ∷ y.0) zs y.1 us y.3 in
        let l = shorter piece refl ts x.0 x.1 x.2 in
        subst (λ v. starts lexicon (string_token ∷ []) v ≡ false) p.1
        (again x.1 y.1 y.0 (omega (arith, l, less)) y.2)
    go false h again e = let p = read_parts [] zs ts us e in
        subst (λ v. starts lexicon (string_token ∷ []) v ≡ false) p.1 h

-- no string comes behind a string
pub str_ends : (ts us : Rest Lexeme Place) (zs : Pieces) → str.run ts ≡ read zs us
    → starts lexicon (string_token ∷ []) us ≡ false
unfolding str
str_ends ts us zs e =
    let x = bind_read (piece.run ts)
    (λ first vs. bind (run_many piece vs) (λ others ws. read (first ∷ others) ws)) zs us e in
    let y = bind_read (run_many piece x.1) (λ others ws. read (x.0 ∷ others) ws) zs us x.3 in
    let p = read_parts (x.0 ∷ y.0) zs y.1 us y.3 in
    subst (λ v. starts lexicon (string_token ∷ []) v ≡ false) p.1
    (pieces_end (suc (size x.1)) x.1 y.1 y.0 (omega arith) y.2)

-- ---- what is said by the text of a string

meaning-text : (ts us : Rest Lexeme Place) (o : Option Bytes) (rest : Rest Lexeme Place) (v : Bytes)
    → meaning str text_of ts o rest ≡ read v us → (o ≡ Some v) × (rest ≡ us)
meaning-text ts us None rest v e = absurd cc
meaning-text ts us (Some w) rest v e =
    let p = read_parts w v rest us e in (ap (λ (x : Bytes). Some x) p.0, p.1)

text_read-at : (ts us : Rest Lexeme Place) (r : Read Lexeme Place Pieces) (v : Bytes)
    → bind r (λ zs rest. meaning str text_of ts (text_of zs) rest) ≡ read v us
    → (zs : Pieces) × (r ≡ read zs us) × (text_of zs ≡ Some v)
text_read-at ts us r v e =
    let x = bind_read r (λ zs rest. meaning str text_of ts (text_of zs) rest) v us e in
    let y = meaning-text ts us (text_of x.0) x.1 v x.3 in
    (x.0, x.2 ∙ ap (read x.0) y.1, y.0)

-- a text that was read is that of the string's pieces
pub text_read : (ts us : Rest Lexeme Place) (v : Bytes) → reserved_name.run ts ≡ read v us
    → (zs : Pieces) × (str.run ts ≡ read zs us) × StandsFor zs v
unfolding reserved_name
text_read ts us v e = let x = text_read-at ts us (str.run ts) v e in (x.0, x.1, text-to x.0 v x.2)

module _ {B : Type 0} (M : Pieces → B → Type 0) (means : Pieces → Option B)
    (to : (z : Pieces) (b : B) → means z ≡ Some b → M z b)
    (from : (z : Pieces) (b : B) → M z b → means z ≡ Some b)
    (none_too : (z : Pieces) → text_of z ≡ None → means z ≡ None) where
  no_text-at : (ts : Rest Lexeme Place) (f : Failure) (r : Read Lexeme Place Pieces)
      → bind r (λ zs rest. meaning str text_of ts (text_of zs) rest) ≡ failed f
      → bind r (λ zs rest. meaning str means ts (means zs) rest) ≡ failed f
  no_text-at ts f (read zs us) e = go (text_of zs) refl e
    where
      go : (o : Option Bytes) → text_of zs ≡ o → meaning str text_of ts o us ≡ failed f
          → meaning str means ts (means zs) us ≡ failed f
      go None h e = rw (none_too zs h) (failed_as (off ts) f e)
      go (Some v) h e = absurd (never_failed v us f e)
  no_text-at ts f (stopped before m) e = failed_as (at before m) f e
  no_text-at ts f (wrong m) e = failed_as (off m) f e
  no_text-at ts f deep e = failed_as too_deep f e

  -- a string that is no text says nothing else either
  pub fails_as_text : (faults : ParserError → Type 0) → ((x : ParserError) → of_text x → faults x)
      → (e : Refusal) (ts after : Rest Lexeme Place)
      → Fails e after (reserved_name.run ts) ⊎ IsWrong (Unsaid of_text) ts e after (reserved_name.run ts)
      → Fails e after ((finding str M means to from).run ts)
      ⊎ IsWrong (Unsaid faults) ts e after ((finding str M means to from).run ts)
  unfolding reserved_name
  fails_as_text faults among e ts after (inl h) =
      inl (fails_alike e after (reserved_name.run ts) ((finding str M means to from).run ts)
      (λ f is. no_text-at ts f (str.run ts) is) h)
  fails_as_text faults among e ts after (inr (x, here, w, (used, parts, told))) =
      inr (
        x,
        here,
        (w.0, no_text-at ts (off w.0) (str.run ts) w.1),
        (used, parts, (among x told.0, told.1, told.2)),
      )

-- ---- versions and paths

no_version : (z : Pieces) → text_of z ≡ None → version_of z ≡ None
no_version z e = none_found (version_of z) (λ syntax h.
    let says = version-to z syntax h in
    let text = text-from z (name_of syntax) (says, name_utf8 syntax) in cc)
  where
    name_utf8 : (s : Syntax) → IsUtf8 (name_of s)
    name_utf8 Proto2 = IsUtf8-from_ascii (codes "proto2") (search rules)
    name_utf8 Proto3 = IsUtf8-from_ascii (codes "proto3") (search rules)

no_path : (z : Pieces) → text_of z ≡ None → path_of z ≡ None
no_path z e = rw e refl

pub fails_version : (e : Refusal) (ts after : Rest Lexeme Place)
    → Fails e after (reserved_name.run ts) ⊎ IsWrong (Unsaid of_text) ts e after (reserved_name.run ts)
    → Fails e after (version.run ts) ⊎ IsWrong (Unsaid of_version) ts e after (version.run ts)
unfolding version
fails_version = fails_as_text SaysVersion version_of version-to version-from no_version of_version
    (λ x h. inl h)

pub fails_path : (e : Refusal) (ts after : Rest Lexeme Place)
    → Fails e after (reserved_name.run ts) ⊎ IsWrong (Unsaid of_text) ts e after (reserved_name.run ts)
    → Fails e after (path.run ts) ⊎ IsWrong (Unsaid of_path) ts e after (path.run ts)
unfolding path
fails_path = fails_as_text SaysPath path_of path-to path-from no_path of_path (λ x h. inl h)

-- what is said by the text that was read
module _ (ts us : Rest Lexeme Place) (text : Bytes) (is : reserved_name.run ts ≡ read text us) where
  pub says_version : (s : Syntax) → text ≡ name_of s → version.run ts ≡ read s us
  unfolding version
  says_version s e =
      let x = text_read ts us text is in
      says SaysVersion version_of version-to version-from ts us x.0 x.1 s
      (subst (DecodesAll x.0) e x.2.0)

  -- it says neither version
  pub says_no_version : ((s : Syntax) → text ≡ name_of s → ⊥)
      → Fails (Fault error.UnknownSyntax) ts (version.run ts)
      ⊎ IsWrong (Unsaid of_version) ts (Fault error.UnknownSyntax) ts (version.run ts)
  unfolding version
  says_no_version other =
      let x = text_read ts us text is in
      let no_version : (s : Syntax) → SaysVersion x.0 s
      → ⊥ = λ s d. other s (one_decoding_of_all x.2.0 d) in
      inr (
        error.UnknownSyntax,
        refl,
        (
          ts,
          says_nothing SaysVersion version_of version-to version-from ts us x.0 x.1 no_version,
        ),
        ([], refl, (inr refl, refl, (x.0, us, x.1, (text, x.2, other)))),
      )

  pub says_path : IsProtoPath text → path.run ts ≡ read text us
  unfolding path
  says_path h =
      let x = text_read ts us text is in
      says SaysPath path_of path-to path-from ts us x.0 x.1 text (x.2, h)

  pub says_no_path : (fault : PathError) → path_fault text ≡ Some fault → (IsProtoPath text → ⊥)
      → Fails (Fault (error.BadImportPath fault)) ts (path.run ts)
      ⊎ IsWrong (Unsaid of_path) ts (Fault (error.BadImportPath fault)) ts (path.run ts)
  unfolding path
  says_no_path fault its other =
      let x = text_read ts us text is in
      let no_path : (v : Bytes) → DecodesAll x.0 v → IsProtoPath v
      → ⊥ = λ v d h. other (subst IsProtoPath (one_decoding_of_all d x.2.0) h) in
      inr (
        error.BadImportPath fault,
        refl,
        (
          ts,
          says_nothing SaysPath path_of path-to path-from ts us x.0 x.1
              (λ v h. no_path v h.0.0 h.1),
        ),
        ([], refl, (inr (fault, refl), refl, (x.0, us, x.1, (text, x.2, its)))),
      )

-- ---- a string of one token

one_piece : (ts us : Rest Lexeme Place) (z : Bytes) → piece.run ts ≡ read z us
    → starts lexicon (string_token ∷ []) us ≡ false → str.run ts ≡ read (z ∷ []) us
unfolding str
one_piece ts us z e h = rw (e, many-law piece refl us, h) refl

-- which stands for what is written
pub says_itself : (ts us : Rest Lexeme Place) (z : Bytes) → piece.run ts ≡ read z us
    → starts lexicon (string_token ∷ []) us ≡ false → StandsFor (z ∷ []) z
    → reserved_name.run ts ≡ read z us
unfolding reserved_name
says_itself ts us z e h itself =
    says StandsFor text_of text-to text-from ts us (z ∷ []) (one_piece ts us z e h) z itself
