use Rattle.protobuf_parse_source_info.specs.Parts.{type_tokens}
use Rattle.protobuf_parse_source_info.proofs.Steps.{takes_then}
use Rattle.protobuf_parse_source_info.proofs.Types.{views_scalar, views_map}
use Rattle.protobuf_parse_syntax.proofs.FieldViews.{views_named}
use Rattle.protobuf_parse_source_info.proofs.walker.Walker.+type_tokens.Goals as goal

pub returns-in-Scalar : goal.returns-in-Scalar
unfolding type_tokens
returns-in-Scalar t c = rw (c.in-Scalar.is, views_scalar c.in-Scalar.field-0) c.take.ensures

pub returns-in-Named : goal.returns-in-Named
unfolding type_tokens
returns-in-Named t c = rw (c.in-Named.is, views_named c.in-Named.field-0) c.name.ensures

pub returns-in-Map : goal.returns-in-Map
unfolding type_tokens
returns-in-Map t c =
    rw (c.in-Map.is, views_map c.in-Map.key c.in-Map.value)
    (takes_then (takes_then (takes_then (takes_then (takes_then c.take-in-Map.ensures
    c.take-in-Map-2.ensures) (rw c.deref.ensures at c.type_tokens.ensures))
    c.take-in-Map-3.ensures) (rw c.deref-in-Map.ensures at c.type_tokens-in-Map.ensures))
    c.take-in-Map-4.ensures)
