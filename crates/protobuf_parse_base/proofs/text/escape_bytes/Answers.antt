-- An escaped text says its bytes.
use Rattle.std.proofs.Common.{◌≡◌, ap, ◌∙◌, arith}
use Rattle.std.proofs.lemmas.List.{take_all}
use Rattle.std.specs.List.{flat_map}
use Rattle.std.specs.String.{string_bytes}
use Rattle.protobuf_parse_base.specs.Escapes.{escaped_byte, escaped_bytes, said_bytes}
use Rattle.protobuf_parse_base.proofs.EscapeTexts.{said-escaped_bytes}
use Rattle.protobuf_parse_base.proofs.text.escape_bytes.Goals as goal

pub returns-clause-said : goal.returns-clause-said
returns-clause-said c =
    let text : string_bytes c.loop-byte.escaped ≡ escaped_bytes c.args.bytes.now =
    c.loop-byte.invariant
    ∙ ap (flat_map escaped_byte)
    (take_all c.loop-byte.byte-index c.args.bytes.now (omega arith)) in
    ap said_bytes text
    ∙ said-escaped_bytes c.args.bytes.now (λ i. omega (arith, c.type_inv.bytes i))
