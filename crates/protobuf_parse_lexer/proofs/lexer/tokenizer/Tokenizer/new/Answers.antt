use Rattle.std.proofs.Common.{◌≡◌, ◌⊎◌, ◌≤◌, length, drop, sym, ◌∙◌, subst, ap, arith}
use Rattle.protobuf_parse_lexer.specs.AheadOf.{ahead}
use Rattle.protobuf_parse_lexer.specs.Cut.{Stream, HasTokens, mark_len}
use Rattle.protobuf_parse_lexer.specs.Place.{start}
use Rattle.protobuf_parse_lexer.specs.Tokenizers.{LiesAhead}
use Rattle.protobuf_parse_lexer.specs.Ahead.{nowhere}
use Rattle.protobuf_parse_lexer.proofs.Ahead.{ahead_whole, tokens_ahead, few_in_text}
use Rattle.protobuf_parse_lexer.proofs.Ahead.{lies_ahead_is, lies_ahead_only, text_ahead}
use Rattle.protobuf_parse_lexer.specs.BehindOf.{behinds}
use Rattle.protobuf_parse_lexer.proofs.BehindRelations.{text_behind}
use Rattle.protobuf_parse_lexer.proofs.lexer.tokenizer.Tokenizer.new.Goals as goal

pub returns-clause-text : goal.returns-clause-text
returns-clause-text c =
    text_ahead c.cut_next.new.self 0 0 start (drop (mark_len c.args.text.now) c.args.text.now)
    (c.cut_next.ensures.tokens ∙ ap (ahead 0 0 start) c.past_mark.ensures.rest)

pub returns-clause-read : goal.returns-clause-read
returns-clause-read c = λ s h.
    subst (λ s. (s.end ≡ nowhere) ⊎ HasTokens c.args.text.now s)
    (sym (c.cut_next.ensures.tokens ∙ ap (ahead 0 0 start) c.past_mark.ensures.rest)
    ∙ lies_ahead_only c.cut_next.new.self s h)
    (ahead_whole c.args.text.now (omega arith))

pub returns-clause-reads : goal.returns-clause-reads
returns-clause-reads c = λ s has.
    subst (LiesAhead c.cut_next.new.self)
    (c.cut_next.ensures.tokens ∙ ap (ahead 0 0 start) c.past_mark.ensures.rest
    ∙ tokens_ahead c.args.text.now s has)
    (lies_ahead_is c.cut_next.new.self)

pub returns-clause-few : goal.returns-clause-few
returns-clause-few c = λ s h.
    subst (λ (s : Stream). length s.tokens ≤ length c.args.text.now)
    (sym (c.cut_next.ensures.tokens ∙ ap (ahead 0 0 start) c.past_mark.ensures.rest)
    ∙ lies_ahead_only c.cut_next.new.self s h)
    (few_in_text c.args.text.now)

pub returns-clause-bytes : goal.returns-clause-bytes
returns-clause-bytes c =
    text_behind c.cut_next.new.self 0 0 (drop (mark_len c.args.text.now) c.args.text.now)
    (c.cut_next.ensures.behinds ∙ ap (behinds 0 0) c.past_mark.ensures.rest)
