use Rattle.std.proofs.Common.{◌≡◌, ◌≤◌, ◌+◌, length}
use denote.Text.{Utf8}
use denote.Shadow.{shadow}
use Rattle.protobuf_parse_lexer.specs.AheadOf.{ahead}
use Rattle.protobuf_parse_lexer.specs.BehindOf.{behinds}
use Rattle.protobuf_parse_lexer.proofs.lexer.tokenizer.Tokenizer.cut_any.Given as goal

-- the same lies ahead of the rest
abbrev pub invariant-pieces : goal.invariant-pieces
invariant-pieces l =
    shadow (Utf8 l.rest)
    × (l.place.line + length l.rest ≤ 2147483648)
    × (l.place.col + length l.rest ≤ 2147483648)
    × (length l.rest ≤ length l.self.rest.now)
    × (ahead l.self.brackets.opened l.self.brackets.closed l.place l.rest
    ≡ ahead l.initial.self.brackets.opened l.initial.self.brackets.closed l.initial.self.after
    l.initial.self.rest.now)
    × (behinds l.self.brackets.opened l.self.brackets.closed l.rest
    ≡ behinds l.initial.self.brackets.opened l.initial.self.brackets.closed
    l.initial.self.rest.now)

abbrev pub decreases-pieces : goal.decreases-pieces
decreases-pieces l = length l.rest
