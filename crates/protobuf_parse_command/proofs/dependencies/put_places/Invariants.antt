-- What is written, and the places that are left, are all of it.
use Rattle.std.proofs.Common.{◌≡◌, ◌++◌, drop, map}
use Rattle.std.specs.Prelude.{string_bytes}
use Rattle.protobuf_parse_command.specs.Dependencies.{places_from}
use Rattle.protobuf_parse_command.proofs.dependencies.put_places.Given as goal

abbrev pub invariant-places : goal.invariant-places
invariant-places l =
    string_bytes l.fn.text ++ places_from 0 (map string_bytes l.places)
    ≡ string_bytes l.text
    ++ places_from l.i (map string_bytes (drop l.i l.places))
