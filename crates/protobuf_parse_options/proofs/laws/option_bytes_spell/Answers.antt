use Rattle.protobuf_parse_options.proofs.OptionBytes as bytes
use Rattle.protobuf_parse_options.proofs.laws.option_bytes_spell.Goals as goal

pub returns : goal.returns
returns c = bytes.option_bytes_spell
