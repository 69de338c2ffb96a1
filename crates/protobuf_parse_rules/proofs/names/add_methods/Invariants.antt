use Rattle.std.proofs.Common.{◌≡◌, ◌++◌, map, take}
use Rattle.protobuf_parse_model.specs.Descriptors.{method_view}
use Rattle.protobuf_parse_rules.specs.KnownNames.{named_view}
use Rattle.protobuf_parse_rules.specs.Names.{methods_named}
use Rattle.protobuf_parse_rules.proofs.names.add_methods.Given as goal

abbrev pub invariant-methods : goal.invariant-methods
invariant-methods l = map named_view l.names.items ≡ map named_view l.fn.names.items
    ++ methods_named l.file l.scope (map method_view (take l.method-index l.methods))
