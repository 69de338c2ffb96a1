-- Values that may be absent, in two versions.
use Rattle.std.specs.Prelude.{Bool, Option, bytes_eq}
use Rattle.std.specs.Bool.{beq}
use Rattle.std.specs.Option.{option_eq}
use Rattle.protobuf_parse_model.specs.Descriptors.{Text}

-- whether both are the same text, or both absent
abbrev pub same_text : Option Text → Option Text → Bool
same_text old new = option_eq bytes_eq old new

-- whether both are the same flag, or both absent
abbrev pub same_flag : Option Bool → Option Bool → Bool
same_flag old new = option_eq beq old new
