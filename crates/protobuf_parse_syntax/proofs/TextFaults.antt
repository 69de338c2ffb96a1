-- What is wrong in a statement by its strings: behind the head of an `import`, of a `syntax` and of
-- a `reserved`.
use Rattle.std.proofs.Common.{◌≡◌, List, [], ◌∷◌, ◌++◌, ◌⊎◌, true, false, codes, Result, Ok, Err}
use Rattle.std.proofs.Common.{String, Global, string_bytes, refl, inl, inr}
use Rattle.protobuf_parse_grammar.specs.Readers.{Rest, read}
use Rattle.protobuf_parse_grammar.specs.Readers.{shape, Sound, Reader, starts}
use Rattle.protobuf_parse_grammar.specs.Combinators.{then_shape, ◌>>◌}
use Rattle.protobuf_parse_lexer.specs.Text.{Bytes}
use Rattle.protobuf_parse_lexer.specs.Tokens.{Lexeme}
use Rattle.protobuf_parse_lexer.specs.Classes.{symbol as symbol_class, word as word_class}
use Rattle.protobuf_parse_lexer.specs.declared.error.ParserError.{ParserError}
use Rattle.protobuf_parse_lexer.specs.declared.lexer.token.Place.{Place}
use Rattle.protobuf_parse_syntax.specs.ClassLaws.{lexicon}
use Rattle.protobuf_parse_syntax.specs.Grammar.{IsReservedName, IsWord}
use Rattle.protobuf_parse_syntax.specs.Productions as parse
use Rattle.protobuf_parse_syntax.specs.Parsing.{SyntaxHead, ImportHead}
use Rattle.protobuf_parse_syntax.specs.Code.{Fails, fails_first, GivesOr, Says, IsWrong, Behind}
use Rattle.protobuf_parse_syntax.specs.Code.{Unsaid, of_text, of_version, of_path, NoVersion, NoPath}
use Rattle.protobuf_parse_syntax.specs.Code.{AreEarlier, IsCommaAlone, IsImportHead}
use Rattle.protobuf_parse_syntax.specs.Code.{IsSyntaxHead, IsReservedHead}
use Rattle.protobuf_parse_syntax.specs.Trees.{ReservedSyntax}
use Rattle.protobuf_parse_syntax.specs.declared.tree.ImportVis.{ImportVis}
use Rattle.protobuf_parse_syntax.specs.declared.tree.Syntax.{Syntax}
use Rattle.protobuf_parse_syntax.specs.declared.parser.refusal.Refusal.{Refusal}
use Rattle.protobuf_parse_syntax.proofs.Lists.{wrong_comma}
use Rattle.protobuf_parse_syntax.proofs.Wrongs.{behind_both, wrong_behind, wrong_first}
use Rattle.protobuf_parse_syntax.proofs.Wrongs.{fails_from_first, fails_in}

-- ---- reserved names

-- a name that was read behind a comma, or not
pub comma_gives : (r : Result (String Global) Refusal) (ts us after : Rest Lexeme Place)
    → (parse.symbol 44).run ts ≡ read tt us
    → GivesOr (IsWrong (Unsaid of_text) us) string_bytes r after (parse.reserved_name.run us)
    → GivesOr (IsWrong (Behind IsCommaAlone (Unsaid of_text)) ts) string_bytes r after
    (parse.comma_name.run ts)
comma_gives (Ok z) ts us after is h = rw (is, h) refl
comma_gives (Err e) ts us after is h =
    let l = (parse.symbol 44).sound ts tt us is in
    wrong_comma parse.reserved_name (Unsaid of_text) e ts after us l.used l.parts l.holds
    (rw is refl) h

module _ (e : Refusal) (ts us after : Rest Lexeme Place)
    (is : (parse.word (codes "reserved")).run ts ≡ read tt us) where
  abbrev IsReservedWord : List Lexeme → Type 0
  IsReservedWord vs = IsWord (codes "reserved") vs tt

  head_of : (vs ws : List Lexeme) → IsReservedWord vs → AreEarlier IsReservedName ws
      → IsReservedHead (vs ++ ws)
  head_of vs ws word earlier = (
    earlier.0,
    record {
      value = tt;
      front = vs;
      back = ws;
      first = word;
      second = earlier.1;
      parts = refl;
    },
  )

  says_name : (x : ParserError) (used : List Lexeme)
      → Behind IsReservedWord (Behind (AreEarlier IsReservedName) (Unsaid of_text)) x used after
      → Says x used after
  says_name x used h =
      let n = behind_both (Unsaid of_text) IsReservedWord (AreEarlier IsReservedName) IsReservedHead
      head_of x used after h in
      ([], used, refl, inr (inr n))

  pub fails_reserved_items : Fails e after (parse.reserved_items.run us)
      ⊎ IsWrong (Behind (AreEarlier IsReservedName) (Unsaid of_text)) us e after
      (parse.reserved_items.run us)
      → Fails e after (parse.reserved.run ts)
  unfolding parse.reserved_parts
  fails_reserved_items h =
      let l = (parse.word (codes "reserved")).sound ts tt us is in
      let first = wrong_first (Behind (AreEarlier IsReservedName) (Unsaid of_text)) e us after
      (parse.reserved_items.run us) _ h in
      fails_in parse.reserved_parts
      (Behind IsReservedWord (Behind (AreEarlier IsReservedName) (Unsaid of_text))) e ts after
      says_name
      (rw is
      (wrong_behind (Behind (AreEarlier IsReservedName) (Unsaid of_text)) e us after _
      IsReservedWord l.used ts l.parts l.holds first))

-- ---- the string of an import

abbrev import_head : Reader lexicon ImportHead
    (then_shape lexicon (shape (word_class (codes "import") ∷ []) false []) parse.visibility_shape)
import_head = do parse.word (codes "import"); parse.visibility

module _ (e : Refusal) (ts us vs after : Rest Lexeme Place) (vis : ImportVis)
    (is : (parse.word (codes "import")).run ts ≡ read tt us)
    (seen : parse.visibility.run us ≡ read vis vs) where
  its_head : Sound ImportHead ts vis vs
  its_head = import_head.sound ts vis vs (rw is seen)

  pub fails_import_path : Fails e after (parse.path.run vs)
      ⊎ IsWrong (Unsaid of_path) vs e after (parse.path.run vs)
      → Fails e after (parse.imported.run ts)
  unfolding parse.import_parts
  fails_import_path h =
      fails_in parse.import_parts NoPath e ts after
      (λ x used n. ([], used, refl, inr (inl n)))
      (rw (is, seen)
      (wrong_behind (Unsaid of_path) e vs after _ IsImportHead its_head.used ts its_head.parts
      (vis, its_head.holds)
      (wrong_first (Unsaid of_path) e vs after (parse.path.run vs) _ h)))

-- ---- the string of `syntax`

abbrev syntax_head : Reader lexicon SyntaxHead
    (then_shape lexicon (shape (word_class (codes "syntax") ∷ []) false [])
    (shape (symbol_class 61 ∷ []) false []))
syntax_head = do parse.word (codes "syntax"); parse.symbol 61

module _ (e : Refusal) (ts us vs after : Rest Lexeme Place)
    (is : (parse.word (codes "syntax")).run ts ≡ read tt us)
    (equals : (parse.symbol 61).run us ≡ read tt vs) where
  syntaxes : Sound SyntaxHead ts tt vs
  syntaxes = syntax_head.sound ts tt vs (rw is equals)

  pub fails_said : Fails e after (parse.version.run vs)
      ⊎ IsWrong (Unsaid of_version) vs e after (parse.version.run vs)
      → Fails e after (parse.syntax.run ts) ⊎ IsWrong NoVersion ts e after (parse.syntax.run ts)
  unfolding parse.syntax
  fails_said h =
      rw (is, equals)
      (wrong_behind (Unsaid of_version) e vs after _ IsSyntaxHead syntaxes.used ts syntaxes.parts
      syntaxes.holds (wrong_first (Unsaid of_version) e vs after (parse.version.run vs) _ h))

-- where a statement fails behind a word, as what comes next does
module _ (e : Refusal) (ts after : Rest Lexeme Place) where
  pub fails_reserved_word : Fails e after ((parse.word (codes "reserved")).run ts)
      → Fails e after (parse.reserved.run ts)
  unfolding parse.reserved_parts
  fails_reserved_word h =
      fails_from_first parse.reserved_parts e ts after
      (fails_first e after ((parse.word (codes "reserved")).run ts) _ h)

  pub fails_reserved_end : (us vs : Rest Lexeme Place) (items : ReservedSyntax)
      → (parse.word (codes "reserved")).run ts ≡ read tt us
      → parse.reserved_items.run us ≡ read items vs → Fails e after ((parse.symbol 59).run vs)
      → Fails e after (parse.reserved.run ts)
  unfolding parse.reserved_parts
  fails_reserved_end us vs items is said h =
      fails_from_first parse.reserved_parts e ts after
      (rw (is, said) (fails_first e after ((parse.symbol 59).run vs) _ h))

  pub fails_import_word : Fails e after ((parse.word (codes "import")).run ts)
      → Fails e after (parse.imported.run ts)
  unfolding parse.import_parts
  fails_import_word h =
      fails_from_first parse.import_parts e ts after
      (fails_first e after ((parse.word (codes "import")).run ts) _ h)

  pub fails_visibility : (us : Rest Lexeme Place)
      → (parse.word (codes "import")).run ts ≡ read tt us → Fails e after (parse.visibility.run us)
      → Fails e after (parse.imported.run ts)
  unfolding parse.import_parts
  fails_visibility us is h =
      fails_from_first parse.import_parts e ts after
      (rw is (fails_first e after (parse.visibility.run us) _ h))

  pub fails_import_end : (us vs ws : Rest Lexeme Place) (vis : ImportVis) (path : Bytes)
      → (parse.word (codes "import")).run ts ≡ read tt us → parse.visibility.run us ≡ read vis vs
      → parse.path.run vs ≡ read path ws → Fails e after ((parse.symbol 59).run ws)
      → Fails e after (parse.imported.run ts)
  unfolding parse.import_parts
  fails_import_end us vs ws vis path is seen said h =
      fails_from_first parse.import_parts e ts after
      (rw (is, seen, said) (fails_first e after ((parse.symbol 59).run ws) _ h))

  pub fails_syntax_word : Fails e after ((parse.word (codes "syntax")).run ts)
      → Fails e after (parse.syntax.run ts)
  unfolding parse.syntax
  fails_syntax_word h = fails_first e after ((parse.word (codes "syntax")).run ts) _ h

  pub fails_equals : (us : Rest Lexeme Place) → (parse.word (codes "syntax")).run ts ≡ read tt us
      → Fails e after ((parse.symbol 61).run us) → Fails e after (parse.syntax.run ts)
  unfolding parse.syntax
  fails_equals us is h = rw is (fails_first e after ((parse.symbol 61).run us) _ h)

  pub fails_syntax_end : (us vs ws : Rest Lexeme Place) (s : Syntax)
      → (parse.word (codes "syntax")).run ts ≡ read tt us → (parse.symbol 61).run us ≡ read tt vs
      → parse.version.run vs ≡ read s ws → Fails e after ((parse.symbol 59).run ws)
      → Fails e after (parse.syntax.run ts)
  unfolding parse.syntax
  fails_syntax_end us vs ws s is equals said h =
      rw (is, equals, said) (fails_first e after ((parse.symbol 59).run ws) _ h)

-- where the word `syntax` comes next, the file's version is that of its statement
pub version_runs : (ts : Rest Lexeme Place)
    → starts lexicon (word_class (codes "syntax") ∷ []) ts ≡ true
    → parse.version_statement.run ts ≡ parse.syntax.run ts
unfolding parse.version_statement
version_runs ts h = rw h refl
