use Rattle.std.proofs.Common.{ap, subst, sym, List}
use Rattle.std.specs.Prelude.{option_map, option_to_list, string_bytes}
use Rattle.protobuf_parse_model.specs.Descriptors.{Text}
use Rattle.protobuf_parse_rules.specs.KnownUses.{AddsNames}
use Rattle.protobuf_parse_rules.proofs.Linking.{names_none}
use Rattle.protobuf_parse_rules.proofs.links.add_named.Goals as goal

pub returns-in-None : goal.returns-in-None
returns-in-None c = λ all knows.
    subst (λ (ns : List Text). AddsNames all c.args.links.now c.args.links.now c.args.from.now ns)
    (sym (ap (λ o. option_to_list (option_map string_bytes o)) c.in-None.is))
    (names_none all c.args.links.now c.args.from.now)
