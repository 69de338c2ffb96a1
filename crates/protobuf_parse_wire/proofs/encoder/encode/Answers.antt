use Rattle.std.proofs.Common.{◌++◌, subst, ap, sym, ◌∙◌}
use Rattle.protobuf_parse_wire.specs.Wire.{Spells}
use Rattle.protobuf_parse_wire.specs.Views.{entries_view}
use Rattle.protobuf_parse_wire.specs.Encoded.{encoded}
use Rattle.protobuf_parse_wire.proofs.Encoded.{encoded_spells}
use Rattle.protobuf_parse_wire.proofs.encoder.encode.Goals as goal

pub returns-clause-spells : goal.returns-clause-spells
returns-clause-spells c =
    let es = entries_view c.args.entries.now in
    subst (Spells es)
    (sym (c.in_ok-encode_into.ensures.ok ∙ ap (λ xs. xs ++ encoded es) c.in_ok-out.ensures))
    (encoded_spells es c.requires)
