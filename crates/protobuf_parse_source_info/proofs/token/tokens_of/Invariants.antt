use Rattle.std.proofs.Common.{◌≡◌, ◌++◌, length, map}
use Rattle.protobuf_parse_lexer.specs.AheadViews.{lies_ahead}
use Rattle.protobuf_parse_source_info.specs.InnerViews.{spot}
use Rattle.protobuf_parse_source_info.specs.Spots.{spots_in, point}
use Rattle.protobuf_parse_source_info.proofs.Cutting.{behinds}
use Rattle.protobuf_parse_source_info.proofs.token.tokens_of.Given as goal

abbrev pub invariant-cut : goal.invariant-cut
invariant-cut l =
    (l.end ≡ point l.text l.end.byte)
    × (map spot l.tokens.items
    ++ spots_in l.text (lies_ahead l.left).tokens (behinds l.left)
    ≡ spots_in l.text (lies_ahead l.initial.left).tokens (behinds l.initial.left))

abbrev pub decreases-cut : goal.decreases-cut
decreases-cut l = length (lies_ahead l.left).tokens
