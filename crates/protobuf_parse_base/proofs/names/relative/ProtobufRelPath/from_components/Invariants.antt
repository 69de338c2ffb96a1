-- The text so far is that of the identifiers so far.
use Rattle.std.proofs.Common.{◌≡◌, map, take}
use Rattle.std.specs.String.{string_bytes}
use Rattle.protobuf_parse_base.specs.Names.{relative_text}
use Rattle.protobuf_parse_base.specs.NameViews.{ident_ref_text}
use Rattle.protobuf_parse_base.proofs.names.relative.ProtobufRelPath.from_components.Given as goal

abbrev pub invariant-loop-component : goal.invariant-loop-component
invariant-loop-component l = string_bytes l.text
    ≡ relative_text (map ident_ref_text (take l.component-index l.components))
