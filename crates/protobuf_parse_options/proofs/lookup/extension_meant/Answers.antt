use Rattle.std.proofs.Common.{◌∙◌, ap, flat_map}
use Rattle.protobuf_parse_model.specs.Lookup.{declared}
use Rattle.protobuf_parse_model.specs.SeenFiles.{name_texts}
use Rattle.protobuf_parse_model.proofs.Scopes.{first_meant, first_meant-full_names}
use Rattle.protobuf_parse_wire.specs.Declarations.{declared_extensions}
use Rattle.protobuf_parse_options.specs.Holding.{files_seen}
use Rattle.protobuf_parse_options.proofs.lookup.extension_meant.Goals as goal

pub names-init : goal.names-init
names-init c =
    let of = declared (flat_map declared_extensions (files_seen c.args.customs.now.sight)) in
    ap (first_meant of) c.in_ok-names.ensures
    ∙ first_meant-full_names of (name_texts c.args.scope.now) c.args.name.now
