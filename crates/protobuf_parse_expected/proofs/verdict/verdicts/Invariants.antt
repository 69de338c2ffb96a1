use Rattle.std.proofs.Common.{take}
use Rattle.protobuf_parse_expected.specs.Expected.{AreTold, texts_of}
use Rattle.protobuf_parse_expected.proofs.verdict.verdicts.Given as goal

abbrev pub invariant-loop-token : goal.invariant-loop-token
invariant-loop-token l =
    AreTold l.front (texts_of (take l.token-index l.tokens)) l.verdicts.items
