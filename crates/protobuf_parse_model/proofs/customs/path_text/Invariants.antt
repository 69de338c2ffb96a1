use Rattle.std.proofs.Common.{◌≡◌, ◌++◌, codes, flat_map, map, string_bytes, take}
use Rattle.protobuf_parse_syntax.specs.Trees.{OptionPartSyntax, option_part_syntax}
use Rattle.protobuf_parse_model.specs.Environment.{part_text}
use Rattle.protobuf_parse_model.proofs.customs.path_text.Given as goal

abbrev pub invariant-loop-part : goal.invariant-loop-part
invariant-loop-part l =
    string_bytes l.text ≡ string_bytes l.initial.text
    ++ flat_map (λ (q : OptionPartSyntax). codes "." ++ part_text q)
    (map option_part_syntax (take l.part-index l.others))
