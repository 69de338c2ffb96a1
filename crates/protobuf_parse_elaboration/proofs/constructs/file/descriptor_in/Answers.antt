use Rattle.std.proofs.Common.{arith}
use Rattle.protobuf_parse_syntax.proofs.Counts.{file_length}
use Rattle.protobuf_parse_elaboration.proofs.constructs.file.descriptor_in.Goals as goal

pub heading_of-requires : goal.heading_of-requires
heading_of-requires g c =
    record { few = omega (arith, file_length c.args.tree.now.statements.items, c.requires.few) }
