use Rattle.std.proofs.Common.{◌≡◌, length}
use Rattle.protobuf_parse_model.specs.Environment.{type_named}
use Rattle.protobuf_parse_model.specs.Outward.{later_names, names_of}
use Rattle.protobuf_parse_model.specs.SeenFiles.{names_of_context, seen_types}
use Rattle.protobuf_parse_model.proofs.Scopes.{first_meant}
use Rattle.protobuf_parse_model.proofs.scope.type_named.Given as goal

abbrev pub invariant-names : goal.invariant-names
invariant-names l =
    first_meant (seen_types l.context.seen) (names_of l.names)
    ≡ type_named (names_of_context l.context) l.name

abbrev pub decreases-names : goal.decreases-names
decreases-names l = length (later_names l.names)
