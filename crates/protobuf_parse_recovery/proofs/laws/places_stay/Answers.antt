use Rattle.protobuf_parse_recovery.proofs.Blanks.{after-blanks}
use Rattle.protobuf_parse_recovery.proofs.laws.places_stay.Goals as goal

pub returns : goal.returns
returns c = after-blanks
