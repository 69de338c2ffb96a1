use Rattle.protobuf_parse_model.proofs.NamesWithPlaces.{names_have_places}
use Rattle.protobuf_parse_model.proofs.laws.declared_names_have_places.Goals as goal

pub returns : goal.returns
returns c = names_have_places
