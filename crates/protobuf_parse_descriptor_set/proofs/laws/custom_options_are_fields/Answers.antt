use Rattle.protobuf_parse_descriptor_set.proofs.BuiltIn.{one_message}
use Rattle.protobuf_parse_descriptor_set.proofs.BuiltIn as built_in
use Rattle.protobuf_parse_descriptor_set.proofs.laws.custom_options_are_fields.Goals as goal

pub returns-clause-file : goal.returns-clause-file
returns-clause-file c o denoted = one_message (built_in.file_options o) o.custom denoted

pub returns-clause-message : goal.returns-clause-message
returns-clause-message c o denoted = one_message (built_in.message_options o) o.custom denoted

pub returns-clause-field : goal.returns-clause-field
returns-clause-field c o denoted = one_message (built_in.field_options o) o.custom denoted

pub returns-clause-oneof : goal.returns-clause-oneof
returns-clause-oneof c o denoted spells = spells

pub returns-clause-enums : goal.returns-clause-enums
returns-clause-enums c o denoted = one_message (built_in.enum_options o) o.custom denoted

pub returns-clause-value : goal.returns-clause-value
returns-clause-value c o denoted = one_message (built_in.enum_value_options o) o.custom denoted

pub returns-clause-service : goal.returns-clause-service
returns-clause-service c o denoted = one_message (built_in.service_options o) o.custom denoted

pub returns-clause-method : goal.returns-clause-method
returns-clause-method c o denoted = one_message (built_in.method_options o) o.custom denoted
