-- What is listed so far and what the parts that are left give are the whole.
use Rattle.std.proofs.Common.{◌≡◌, ◌++◌, [], drop, length, map}
use Rattle.std.specs.Prelude.{string_bytes}
use Rattle.protobuf_parse_base.specs.Names.{dotted_parts}
use Rattle.protobuf_parse_rules.specs.KnownNames.{named_view}
use Rattle.protobuf_parse_rules.specs.Names.{packages_named}
use Rattle.protobuf_parse_rules.proofs.names.add_fronts.Given as goal

abbrev pub invariant-parts : goal.invariant-parts
invariant-parts l = map named_view l.names.items
    ++ packages_named l.file (string_bytes l.scope)
    (drop (length l.yielded) (dotted_parts l.«package»))
    ≡ map named_view l.fn.names.items ++ packages_named l.file [] (dotted_parts l.«package»)
