use Rattle.std.proofs.Common.{◌≡◌, flat_map, length}
use Rattle.protobuf_parse_model.specs.Lookup.{declared, meaning}
use Rattle.protobuf_parse_model.specs.Outward.{later_names, names_of}
use Rattle.protobuf_parse_model.specs.SeenFiles.{name_texts}
use Rattle.protobuf_parse_model.proofs.Scopes.{first_meant}
use Rattle.protobuf_parse_wire.specs.Declarations.{declared_extensions}
use Rattle.protobuf_parse_options.specs.Holding.{files_seen}
use Rattle.protobuf_parse_options.proofs.lookup.extension_meant.Given as goal

abbrev pub invariant-names : goal.invariant-names
invariant-names l =
    let es = flat_map declared_extensions (files_seen l.customs.sight) in
    first_meant (declared es) (names_of l.names) ≡ meaning es (name_texts l.fn.scope) l.name

abbrev pub decreases-names : goal.decreases-names
decreases-names l = length (later_names l.names)
