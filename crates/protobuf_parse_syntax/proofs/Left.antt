-- What a cursor has left.
use Rattle.std.proofs.Common.{◌≡◌, List, [], ◌∷◌, ◌||◌, refl, Option, Some, None, is_none}
use Rattle.protobuf_parse_grammar.specs.Readers.{Rest, starts, starts-append}
use Rattle.protobuf_parse_grammar.specs.Conditions.{mark_of}
use Rattle.protobuf_parse_grammar.specs.Whole.{whole}
use Rattle.protobuf_parse_lexer.specs.AheadViews.{with_next}
use Rattle.protobuf_parse_lexer.specs.Text.{Bytes}
use Rattle.protobuf_parse_lexer.specs.Tokenizers.{place_before}
use Rattle.protobuf_parse_lexer.specs.Tokens.{Lexeme}
use Rattle.protobuf_parse_lexer.specs.Classes.{Class}
use Rattle.protobuf_parse_lexer.specs.declared.lexer.token.Place.{Place}
use Rattle.protobuf_parse_lexer.specs.declared.lexer.tokenizer.Brackets.{Brackets}
use Rattle.protobuf_parse_lexer.specs.declared.lexer.tokenizer.NextToken.{NextToken}
use Rattle.protobuf_parse_syntax.specs.ClassLaws.{lexicon}
use Rattle.protobuf_parse_syntax.specs.Grammar.{place_of}
use Rattle.protobuf_parse_syntax.specs.Code.{is_end}

-- the next token of these, or their end, stands where they begin
pub place_of_left : (ts : List Lexeme) (m : Place)
    → place_before ts m ≡ mark_of place_of (whole ts m)
place_of_left [] m = refl
place_of_left (t ∷ ts) m = refl

pub ends_none : (next : Option NextToken) (b : Brackets) (p : Place) (z : Bytes)
    → is_end (let s = with_next next b p z in whole s.tokens s.end) ≡ is_none next
ends_none None b p z = refl
ends_none (Some t) b p z = refl

-- a class, or one of the others, comes next
pub starts_more : (c d : Class) (cs : List Class) (rest : Rest Lexeme Place)
    → starts lexicon (c ∷ d ∷ cs) rest
    ≡ (starts lexicon (c ∷ []) rest || starts lexicon (d ∷ cs) rest)
starts_more c d cs rest = starts-append lexicon (c ∷ []) (d ∷ cs) rest
