use Rattle.std.proofs.Common.{◌≡◌, false, take}
use Rattle.std.specs.List.{list_any}
use Rattle.protobuf_parse_options.proofs.custom_parts.any_custom.Given as goal

abbrev pub invariant-loop-part : goal.invariant-loop-part
invariant-loop-part g l =
    list_any g.P.MaySetCustom.custom (take l.part-index l.parts) ≡ false
