-- No public clause rests on this file.
-- What functions say of the next token's word.
use Rattle.std.specs.Prelude.{◌≡◌, Bool, true, false, Option, Some, None, List}
use Rattle.protobuf_parse_grammar.specs.Readers.{Rest, end, token, read, starts}
use Rattle.protobuf_parse_grammar.specs.Relations.{seen}
use Rattle.protobuf_parse_lexer.specs.Text.{Bytes}
use Rattle.protobuf_parse_lexer.specs.Tokens.{Lexeme}
use Rattle.protobuf_parse_lexer.specs.Classes.{Class, sees_at, words}
use Rattle.protobuf_parse_lexer.specs.declared.lexer.token.Place.{Place}
use Rattle.protobuf_parse_lexer.specs.declared.lexer.token.TokenKind.TheVariants as kind
use Rattle.protobuf_parse_syntax.specs.ClassLaws.{lexicon}
use Rattle.protobuf_parse_syntax.specs.Grammar.{table_words}
use Rattle.protobuf_parse_syntax.specs.Productions.{one_of}

-- one of the classes sees an identifier with this text
abbrev pub takes : List Class → Bytes → Bool
takes cs w = seen (λ c v. sees_at c kind.Ident v) cs w

-- what a function says that reads a word of a table, if one comes next
abbrev pub Finds : {A : Type 0} → List (Bytes × A) → Option A → Rest Lexeme Place
    → Rest Lexeme Place → Type 0
Finds table None before after = (starts lexicon (words (table_words table)) before ≡ false)
    × (after ≡ before)
Finds table (Some x) before after = (starts lexicon (words (table_words table)) before ≡ true)
    × ((one_of table).run before ≡ read x after)

-- the tokens behind the next one
abbrev pub behind_next : Rest Lexeme Place → Rest Lexeme Place
behind_next (end m) = end m
behind_next (token t rest) = rest
