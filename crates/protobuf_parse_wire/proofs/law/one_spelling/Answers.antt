use Rattle.protobuf_parse_wire.proofs.Encoded as bytes
use Rattle.protobuf_parse_wire.proofs.law.one_spelling.Goals as goal

pub returns-clause-exists : goal.returns-clause-exists
returns-clause-exists c = bytes.encoded_spells

pub returns-clause-unique : goal.returns-clause-unique
returns-clause-unique c = bytes.spelling_is_encoded
