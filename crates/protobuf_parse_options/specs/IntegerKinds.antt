-- No public clause rests on this file.
-- The kinds of integers that fields take.
use Rattle.std.specs.Prelude.{Option, Some, None}
use Rattle.protobuf_parse_wire.specs.declared.kind.Kind.{Kind}
use Rattle.protobuf_parse_options.specs.OptionFields.{Takes, integers}

-- the kind of the integers that are taken, where any are
abbrev pub integer_kind : Takes → Option Kind
integer_kind (integers k) = Some k
integer_kind other = None
