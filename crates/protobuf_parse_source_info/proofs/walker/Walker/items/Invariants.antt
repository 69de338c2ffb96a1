use Rattle.std.proofs.Common.{◌≡◌, map, drop}
use Rattle.protobuf_parse_syntax.specs.Trees.{option_syntax}
use Rattle.protobuf_parse_source_info.specs.Parts.{items}
use Rattle.protobuf_parse_source_info.specs.InnerViews.{doing, ran}
use Rattle.protobuf_parse_source_info.proofs.walker.Walker.items.Given as goal

abbrev pub invariant-items : goal.invariant-items
invariant-items l =
    ran (items l.path l.is_field (map option_syntax (drop l.option-index l.options)))
    (doing l.self)
    ≡ ran (items l.path l.is_field (map option_syntax l.options)) (doing l.initial.self)
