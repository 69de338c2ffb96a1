use Rattle.std.proofs.Common.{◌≡◌, flat_map, take}
use Rattle.protobuf_parse_model.specs.BuiltinOptions.{options_seen}
use Rattle.protobuf_parse_elaboration.proofs.constructs.options.statements.options_in.Given as goal

abbrev pub invariant-loop-statement : goal.invariant-loop-statement
invariant-loop-statement g l = options_seen l.options.items
    ≡ flat_map g.S.MaySetOption.options_set (take l.statement-index l.statements)
