use Rattle.std.proofs.Common.{◌∙◌}
use Rattle.protobuf_parse_lexer.proofs.Ahead.{lies_ahead_is}
use Rattle.protobuf_parse_syntax.proofs.Left.{place_of_left}
use Rattle.protobuf_parse_lexer.specs.AheadViews.{lies_ahead}
use Rattle.protobuf_parse_syntax.proofs.parser.cursor.Cursor.place.Goals as goal

pub returns : goal.returns
returns c =
    c.place.ensures (lies_ahead c.args.self.now.tokens) (lies_ahead_is c.args.self.now.tokens)
    ∙ place_of_left (lies_ahead c.args.self.now.tokens).tokens
    (lies_ahead c.args.self.now.tokens).end
