use Rattle.std.proofs.Common.{◌≡◌, map, take}
use Rattle.protobuf_parse_model.specs.Duplicates.{NamedAt}
use Rattle.protobuf_parse_elaboration.specs.Declaring.{names_at}
use Rattle.protobuf_parse_elaboration.proofs.constructs.told.at_places.Given as goal

abbrev pub invariant-loop-i : goal.invariant-loop-i
invariant-loop-i g l =
    record {
      names : map (λ (d : NamedAt). d.name) (names_at l.names.items)
          ≡ map g.T.Named.name_of (take l.i l.items);
      places : map (λ (d : NamedAt). d.place) (names_at l.names.items) ≡ take l.i l.places;
    }
