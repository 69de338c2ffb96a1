use Rattle.std.proofs.Common.{◌≡◌, ℕ, List, take}
use Rattle.std.specs.Prelude.{bytes_eq}
use Rattle.std.specs.BTreeMap.{get_by_text}
use Rattle.protobuf_parse_model.specs.MessageParts.{message_parts}
use Rattle.protobuf_parse_wire.specs.Declarations.{name_within}
use Rattle.protobuf_parse_index.specs.Kept.{first_at}
use Rattle.protobuf_parse_proto_text.proofs.members.positions_of.Given as goal

abbrev pub invariant-nested : goal.invariant-nested
invariant-nested l = (q : List ℕ) → get_by_text l.positions q
    ≡ first_at (λ m. bytes_eq q (name_within l.scope (message_parts m).name))
    (take l.at l.nested)
