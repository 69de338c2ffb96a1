use Rattle.std.proofs.Common.{refl}
use Rattle.protobuf_parse_listing.proofs.OptionLines.{file_lines_are, message_lines_are}
use Rattle.protobuf_parse_listing.proofs.OptionLines.{field_lines_are}
use Rattle.protobuf_parse_listing.proofs.OptionLines.{oneof_lines_are, enum_lines_are}
use Rattle.protobuf_parse_listing.proofs.OptionLines.{enum_value_lines_are, service_lines_are}
use Rattle.protobuf_parse_listing.proofs.OptionLines.{method_lines_are}
use Rattle.protobuf_parse_listing.proofs.laws.builtin_options_are_listed.Goals as goal

pub returns-clause-file : goal.returns-clause-file
returns-clause-file c = record {
  numbered = record { each = refl; no_other = refl; ascending = refl };
  listed = file_lines_are;
}

pub returns-clause-message : goal.returns-clause-message
returns-clause-message c = record {
  numbered = record { each = refl; no_other = refl; ascending = refl };
  listed = message_lines_are;
}

pub returns-clause-field : goal.returns-clause-field
returns-clause-field c = record {
  numbered = record { each = refl; no_other = refl; ascending = refl };
  listed = field_lines_are;
}

pub returns-clause-oneof : goal.returns-clause-oneof
returns-clause-oneof c = record {
  numbered = record { each = refl; no_other = refl; ascending = refl };
  listed = oneof_lines_are;
}

pub returns-clause-enums : goal.returns-clause-enums
returns-clause-enums c = record {
  numbered = record { each = refl; no_other = refl; ascending = refl };
  listed = enum_lines_are;
}

pub returns-clause-value : goal.returns-clause-value
returns-clause-value c = record {
  numbered = record { each = refl; no_other = refl; ascending = refl };
  listed = enum_value_lines_are;
}

pub returns-clause-service : goal.returns-clause-service
returns-clause-service c = record {
  numbered = record { each = refl; no_other = refl; ascending = refl };
  listed = service_lines_are;
}

pub returns-clause-method : goal.returns-clause-method
returns-clause-method c = record {
  numbered = record { each = refl; no_other = refl; ascending = refl };
  listed = method_lines_are;
}

pub returns-clause-values : goal.returns-clause-values
returns-clause-values c = record {
  optimize_for = record { each = refl; no_other = refl; ascending = refl };
  ctype = record { each = refl; no_other = refl; ascending = refl };
  jstype = record { each = refl; no_other = refl; ascending = refl };
  idempotency_level = record { each = refl; no_other = refl; ascending = refl };
}
