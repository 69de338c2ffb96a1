-- No public clause rests on this file.
-- Of which kind of thing a claim is, as the code passes it.
use Rattle.protobuf_parse_rules.specs.Alike.{field_alike_rule, value_alike_rule}
use Rattle.protobuf_parse_rules.specs.Claims.{Rules}
use Rattle.protobuf_parse_rules.specs.Enums.{value_rule}
use Rattle.protobuf_parse_rules.specs.JsonNames.{json_rule}
use Rattle.protobuf_parse_rules.specs.Names.{name_rule}
use Rattle.protobuf_parse_rules.specs.Numbers.{number_rule}
use Rattle.protobuf_parse_rules.specs.Repeats.{repeat_rule}
use Rattle.protobuf_parse_rules.specs.declared.claims.Held.{Held}
use Rattle.protobuf_parse_rules.specs.declared.claims.Held.TheVariants as held

abbrev pub rules_of : Held → Rules
rules_of held.Number = number_rule
rules_of held.Value = value_rule
rules_of (held.JsonName proto3) = json_rule proto3
rules_of (held.Text rule) = repeat_rule rule
rules_of held.Name = name_rule
rules_of held.FieldAlike = field_alike_rule
rules_of (held.ValueAlike proto3) = value_alike_rule proto3
