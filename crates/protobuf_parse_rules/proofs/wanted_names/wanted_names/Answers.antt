use Rattle.std.proofs.Common.{map, ap, sym, ◌∙◌, arith}
use Rattle.std.proofs.lemmas.Bool.Decides.{nat_tests}
use Rattle.std.proofs.lemmas.List.{nil_from_length}
use Rattle.protobuf_parse_rules.specs.BodyViews.{body_view}
use Rattle.protobuf_parse_rules.specs.KnownNames.{named_view}
use Rattle.protobuf_parse_rules.proofs.WantedNames.{none_named}
use Rattle.protobuf_parse_rules.proofs.wanted_names.wanted_names.Goals as goal

pub returns-then-is_empty : goal.returns-then-is_empty
returns-then-is_empty c =
    ap (map named_view) c.new-names.ensures.items
    ∙ sym (none_named c.args.wanted.now.sorted.items (map body_view c.args.bodies.now)
    (nil_from_length _ (grind (arith, nat_tests, c.is_empty.ensures, c.if-is_empty.true))))
