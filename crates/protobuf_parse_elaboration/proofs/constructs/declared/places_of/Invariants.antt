use Rattle.std.proofs.Common.{◌≡◌, map, take, flat_map}
use Rattle.protobuf_parse_model.specs.Duplicates.{NamedAt}
use Rattle.protobuf_parse_elaboration.proofs.constructs.declared.places_of.Given as goal

abbrev pub invariant-loop-statement : goal.invariant-loop-statement
invariant-loop-statement g l =
    l.places.items ≡ map (λ (d : NamedAt). d.place)
    (flat_map (g.S.Declares.named_as l.declared l.syntax) (take l.statement-index l.statements))
