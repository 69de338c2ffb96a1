-- The codes of the rules.
use Rattle.std.specs.Prelude.{codes}
use Rattle.protobuf_parse_model.specs.Descriptors.{Text}
use Rattle.protobuf_parse_set_rules.specs.declared.rule.SetRule.{SetRule}
use Rattle.protobuf_parse_set_rules.specs.declared.rule.SetRule.TheVariants as rule

-- the code by which a rule is told
abbrev pub code_of : SetRule → Text
code_of rule.FileTwice = codes "D1"
code_of rule.ImportNotBefore = codes "D2"
code_of (rule.NoSuchImport index) = codes "D3"
code_of rule.TypeNotSeen = codes "D4"
code_of rule.ExtendeeNotSeen = codes "D5"
code_of rule.ExtendeeOfField = codes "D6"
code_of rule.MethodTypeNotSeen = codes "D7"
code_of (rule.NoSuchOneof index) = codes "D8"
code_of rule.NotIdentifier = codes "D9"
