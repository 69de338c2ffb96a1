-- The codes of the rules of texts, and which of them protoc only warns of.
use Rattle.std.specs.Prelude.{Bool, true, false, codes}
use Rattle.protobuf_parse_lexer.specs.Text.{Bytes}
use Rattle.protobuf_parse_text_rules.specs.declared.rule.TextRule.{TextRule}
use Rattle.protobuf_parse_text_rules.specs.declared.rule.TextRule.TheVariants as rule

-- the code by which a rule is told
abbrev pub code_of : TextRule → Bytes
code_of rule.OptionTwice = codes "T1"
code_of rule.ListAsValue = codes "T2"
code_of rule.PlusSign = codes "T3"
code_of rule.DottedExtension = codes "T4"
code_of rule.PackageTwice = codes "T5"
code_of rule.LabelOfMap = codes "T6"
code_of rule.JsonNameOfExtension = codes "T7"
code_of rule.MapEntrySet = codes "T8"
code_of rule.ExtendWithoutFields = codes "T9"
code_of rule.StatementWithoutSemicolon = codes "T10"
code_of rule.MethodWithoutRpc = codes "T11"
code_of rule.SemicolonAlone = codes "T12"
code_of rule.NameResolvedInside = codes "T13"
code_of rule.CustomOptionTwice = codes "T14"
code_of rule.ConstantFieldTwice = codes "T15"
code_of rule.ListForSingular = codes "T16"
code_of rule.OneofMemberTwice = codes "T17"
code_of rule.RequiredFieldMissing = codes "T18"
code_of rule.SyntaxMissing = codes "T19"

-- whether protoc takes such texts, and only warns of them
abbrev pub is_warning : TextRule → Bool
is_warning rule.SyntaxMissing = true
is_warning _ = false
