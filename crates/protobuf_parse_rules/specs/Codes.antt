-- The codes of the rules, and which of them protoc only warns of.
use Rattle.std.specs.Prelude.{Bool, true, false, codes}
use Rattle.protobuf_parse_model.specs.Descriptors.{Text}
use Rattle.protobuf_parse_rules.specs.declared.rule.Rule.{Rule}
use Rattle.protobuf_parse_rules.specs.declared.rule.Rule.TheVariants as rule

-- the code by which a rule is told
abbrev pub code_of : Rule → Text
code_of (rule.NumberInUse number) = codes "C1"
code_of (rule.NumberInUseElsewhere number) = codes "C1"
code_of (rule.NumberNotPositive number) = codes "C2"
code_of (rule.NumberTooLarge number) = codes "C3"
code_of (rule.NumberOfImplementation number) = codes "C4"
code_of rule.JsonNameInUse = codes "C5"
code_of rule.JsonNameInUseProto2 = codes "C6"
code_of (rule.ValueInUse number) = codes "C7"
code_of (rule.FirstValueNotZero number) = codes "C8"
code_of rule.EnumWithoutValues = codes "C9"
code_of rule.AliasesForbidden = codes "C10"
code_of rule.RequiredInProto3 = codes "C11"
code_of rule.GroupInProto3 = codes "C12"
code_of rule.DefaultInProto3 = codes "C13"
code_of rule.ExtensionRangeInProto3 = codes "C14"
code_of rule.ExtensionInProto3 = codes "C15"
code_of rule.MessageSetInProto3 = codes "C16"
code_of rule.FieldInMessageSet = codes "C17"
code_of rule.RequiredExtension = codes "C18"
code_of rule.PackedNotPackable = codes "C19"
code_of rule.LazyNotMessage = codes "C20"
code_of rule.JsTypeNotLarge = codes "C21"
code_of rule.DefaultOfRepeated = codes "C22"
code_of rule.DefaultOfMessage = codes "C23"
code_of rule.DefaultNotBool = codes "C24"
code_of rule.MapKey = codes "C25"
code_of (rule.RangeNotPositive start) = codes "C26"
code_of (rule.RangeEmpty start) = codes "C27"
code_of (rule.ExtensionRangeTooLarge end) = codes "C28"
code_of (rule.NumberReserved number) = codes "C29"
code_of rule.NameReserved = codes "C30"
code_of (rule.NumberKeptForExtensions number) = codes "C31"
code_of (rule.NumberNotForExtensions number) = codes "C32"
code_of rule.ExtensionOfMessageSet = codes "C33"
code_of rule.EnumOfProto2 = codes "C34"
code_of rule.NoValueOfName = codes "C35"
code_of rule.MapValueNotZero = codes "C36"
code_of rule.ImportedTwice = codes "C37"
code_of rule.NameReservedTwice = codes "C38"
code_of (rule.RangesOverlap start) = codes "C39"
code_of rule.AliasesWithoutNeed = codes "C40"
code_of rule.OneofWithoutFields = codes "C41"
code_of rule.DefaultNotNumber = codes "C42"
code_of rule.DefaultOutOfRange = codes "C43"
code_of rule.DefaultNegative = codes "C44"
code_of (rule.NameInUse kind first) = codes "C45"
code_of rule.ValueNamesAlike = codes "C46"
code_of rule.JsonNamesAlike = codes "C47"
code_of rule.ImportUnused = codes "C48"
code_of rule.LiteImport = codes "C49"
code_of rule.LiteExtension = codes "C50"
code_of rule.LiteService = codes "C51"
code_of rule.ValueNamesAlikeProto2 = codes "C52"
code_of rule.MethodTypeNotMessage = codes "C53"
code_of rule.ExtendeeNotMessage = codes "C54"
code_of rule.NestedTooDeep = codes "C55"

-- protoc warns of these and goes on; of all else it makes an error
abbrev pub is_warning : Rule → Bool
is_warning (rule.NumberInUseElsewhere number) = true
is_warning rule.JsonNameInUseProto2 = true
is_warning rule.ImportUnused = true
is_warning rule.ValueNamesAlikeProto2 = true
is_warning _ = false
