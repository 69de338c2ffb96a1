use Rattle.std.proofs.Common.{◌≡◌, ◌++◌, flat_map, map, take}
use Rattle.protobuf_parse_model.specs.Descriptors.{field_view}
use Rattle.protobuf_parse_set_rules.specs.Rules.{extension_breaches}
use Rattle.protobuf_parse_set_rules.specs.Held.{sight_view}
use Rattle.protobuf_parse_set_rules.specs.Views.{told}
use Rattle.protobuf_parse_set_rules.proofs.fields.check_extensions.Given as goal

abbrev pub invariant-extensions : goal.invariant-extensions
invariant-extensions l = told l.found ≡ told l.fn.found
    ++ flat_map (extension_breaches (sight_view l.sight) l.file l.scope)
    (map field_view (take l.extension-index l.extensions))
