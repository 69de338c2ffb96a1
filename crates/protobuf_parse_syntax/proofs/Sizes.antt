-- A text has no more tokens than bytes, and its tree no more statements than tokens.
use Rattle.std.proofs.Common.{◌≤◌, List, length, length-drop, arith}
use Rattle.protobuf_parse_lexer.specs.Text.{Bytes}
use Rattle.protobuf_parse_lexer.specs.Tokens.{Lexeme}
use Rattle.protobuf_parse_lexer.specs.Cut.{Cut, done, blank, token, mark_len, Stream, HasTokens}
use Rattle.protobuf_parse_lexer.specs.declared.lexer.token.Place.{Place}
use Rattle.protobuf_parse_lexer.proofs.Cuts.{token_some}
use Rattle.protobuf_parse_syntax.specs.Trees.{FileSyntax}
use Rattle.protobuf_parse_syntax.specs.Counts.{statements_in}
use Rattle.protobuf_parse_syntax.specs.Grammar.{IsFile}
use Rattle.protobuf_parse_syntax.specs.Parsing.{HasTree}
use Rattle.protobuf_parse_syntax.proofs.Counting.{file_cost}

cut_size : {p q : Place} {z rest : Bytes} {ts : List Lexeme} → Cut p z ts q rest →
    length ts ≤ length z
cut_size done = omega arith
cut_size {z = z} (blank n is c) = omega (arith, length-drop n z, cut_size c)
cut_size {z = z} (token n k is c) = omega (arith, length-drop n z, token_some z n k is, cut_size c)

few : (text : Bytes) (s : Stream) (t : FileSyntax) → HasTokens text s → IsFile s.tokens t →
    statements_in t ≤ 2147483647
few text s t tokens is =
    omega (
      arith,
      tokens.short,
      cut_size tokens.cut,
      length-drop (mark_len text) text,
      file_cost s.tokens t is,
    )

-- the tree of a text has at most 2147483647 statements
pub tree_size : (text : Bytes) (t : FileSyntax) → HasTree text t → statements_in t ≤ 2147483647
tree_size text t h = few text h.stream t h.tokens h.file
