-- A text with a tree, and one without.
use Rattle.std.proofs.Common.{◌≡◌, inl, inr, ◌⊎◌, ap, sym, subst}
use Rattle.protobuf_parse_lexer.specs.Ahead.{nowhere}
use Rattle.protobuf_parse_lexer.specs.AheadViews.{lies_ahead}
use Rattle.protobuf_parse_lexer.specs.Cut.{Stream, HasTokens, IsRefused, out_of_memory}
use Rattle.protobuf_parse_lexer.specs.Cut.{error_place as place_at}
use Rattle.protobuf_parse_lexer.specs.Text.{Bytes}
use Rattle.protobuf_parse_lexer.specs.Tokenizers.{LiesAhead}
use Rattle.protobuf_parse_lexer.specs.declared.lexer.tokenizer.Tokenizer.{Tokenizer}
use Rattle.protobuf_parse_lexer.specs.Tokens.{IsShallow}
use Rattle.protobuf_parse_lexer.specs.declared.error.ParserErrorWithLocation.{ParserErrorWithLocation}
use Rattle.protobuf_parse_lexer.specs.declared.lexer.token.Place.{Place}
use Rattle.protobuf_parse_lexer.proofs.Ahead.{ends_somewhere, lies_ahead_is, lies_ahead_only}
use Rattle.protobuf_parse_lexer.proofs.Refusals.{read_not_refused}
use Rattle.protobuf_parse_syntax.specs.Grammar.{IsFile}
use Rattle.protobuf_parse_syntax.specs.Parsing.{HasTree, IsGrammarFault, IsFaultOf}
use Rattle.protobuf_parse_syntax.specs.Trees.{FileSyntax}
use Rattle.protobuf_parse_syntax.proofs.File.{fault_none}

-- tokens that go on to the end of a text are its tokens
pub its_tokens : (text : Bytes) (s : Stream) → (s.end ≡ nowhere) ⊎ HasTokens text s
    → (s.end.line ≡ 0 → ⊥) → HasTokens text s
its_tokens text s (inl e) whole = absurd (whole (ap (λ (p : Place). p.line) e))
its_tokens text s (inr has) whole = has

-- what a tokenizer of the text has ahead
module _ (text : Bytes) (t : Tokenizer) where
  pub read_ahead : ((s : Stream) → LiesAhead t s → (s.end ≡ nowhere) ⊎ HasTokens text s)
      → ((lies_ahead t).end ≡ nowhere) ⊎ HasTokens text (lies_ahead t)
  read_ahead read = read (lies_ahead t) (lies_ahead_is t)

  pub reads_ahead : ((s : Stream) → HasTokens text s → LiesAhead t s)
      → (s : Stream) → HasTokens text s → lies_ahead t ≡ s
  reads_ahead reads s has = lies_ahead_only t s (reads s has)

-- tokens that do not nest too deep, or do not go on to there
pub shallow_or : (text : Bytes) (s : Stream) → (s.end ≡ nowhere) ⊎ HasTokens text s
    → (s.end.line ≡ 0) ⊎ IsShallow s.tokens
shallow_or text s (inl e) = inl (ap (λ (p : Place). p.line) e)
shallow_or text s (inr has) = inr has.shallow

-- a text that is refused has no tree
pub refused_none : (text : Bytes) (e : ParserErrorWithLocation)
    → IsRefused text e.error (place_at e) → (u : FileSyntax) → HasTree text u → ⊥
refused_none text e is u w =
    read_not_refused text w.stream e.error (place_at e) w.tokens is

pub refused_none_or : (text : Bytes) (e : ParserErrorWithLocation)
    → (e ≡ out_of_memory) ⊎ IsRefused text e.error (place_at e)
    → (e ≡ out_of_memory) ⊎ ((u : FileSyntax) → HasTree text u → ⊥)
refused_none_or text e (inl h) = inl h
refused_none_or text e (inr is) = inr (refused_none text e is)

module _ (text : Bytes) (s : Stream) (same : (v : Stream) → HasTokens text v → s ≡ v) where
  its_tree : (u : FileSyntax) → HasTree text u → IsFile s.tokens u
  its_tree u w = subst (λ (v : Stream). IsFile v.tokens u) (sym (same w.stream w.tokens)) w.file

  pub only_of : (t : FileSyntax) → ((u : FileSyntax) → IsFile s.tokens u → u ≡ t)
      → (u : FileSyntax) → HasTree text u → u ≡ t
  only_of t h u w = h u (its_tree u w)

  module _ (v : Stream) (has : HasTokens text v) (e : ParserErrorWithLocation) where
    -- what the error says of the tokens it says of the text
    pub fault_of : (e ≡ out_of_memory) ⊎ (s.end.line ≡ 0)
        ⊎ IsGrammarFault s.tokens s.end e.error (place_at e)
        → (e ≡ out_of_memory) ⊎ IsFaultOf text e.error (place_at e)
    fault_of (inl h) = inl h
    fault_of (inr (inl h)) =
        absurd (ends_somewhere text v has
        (subst (λ (w : Stream). w.end.line ≡ 0) (same v has) h))
    fault_of (inr (inr h)) =
        inr (inr (
          v,
          has,
          subst (λ (w : Stream). IsGrammarFault w.tokens w.end e.error (place_at e)) (same v has) h,
        ))

    pub none_of : (e ≡ out_of_memory) ⊎ (s.end.line ≡ 0)
        ⊎ IsGrammarFault s.tokens s.end e.error (place_at e)
        → (e ≡ out_of_memory) ⊎ ((u : FileSyntax) → HasTree text u → ⊥)
    none_of (inl h) = inl h
    none_of (inr (inl h)) =
        absurd (ends_somewhere text v has
        (subst (λ (w : Stream). w.end.line ≡ 0) (same v has) h))
    none_of (inr (inr h)) =
        inr (λ u w. fault_none s.tokens s.end (place_at e) e.error h u (its_tree u w))
