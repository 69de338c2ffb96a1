use Rattle.std.proofs.Common.{inr, sym, ◌∙◌}
use Rattle.protobuf_parse_lexer.proofs.ShortWays.{same_line}
use Rattle.protobuf_parse_lexer.proofs.lexer.place.place_behind.Goals as goal

pub returns-then-begins_line_comment-clause-value : goal.returns-then-begins_line_comment-clause-value
returns-then-begins_line_comment-clause-value c =
    inr (
      sym c.byte_at.ensures.value ∙ c.if-byte_at-eq10.true,
      sym (same_line c.args.place c.args.blank.now
          (c.requires.comment (sym c.begins_line_comment.ensures ∙ c.if-begins_line_comment.true))),
    )
