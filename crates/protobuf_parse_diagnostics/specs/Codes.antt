-- The codes of faults. Want of memory has none.
use Rattle.std.specs.Prelude.{[], codes}
use Rattle.protobuf_parse_model.specs.Descriptors.{Text}
use Rattle.protobuf_parse_model.specs.declared.error.ElabErrorKind.{ElabErrorKind}
use Rattle.protobuf_parse_model.specs.declared.error.ElabErrorKind.TheVariants as meaning
use Rattle.protobuf_parse_run.specs.declared.fault.RunFault.{RunFault}
use Rattle.protobuf_parse_run.specs.declared.fault.RunFault.TheVariants as run
use Rattle.protobuf_parse_lexer.specs.declared.error.ParserError.{ParserError}
use Rattle.protobuf_parse_lexer.specs.declared.error.ParserError.TheVariants as syntax

-- of loading: L1 to L11
abbrev pub run_code_of : RunFault → Text
run_code_of run.Memory = []
run_code_of (run.ContentIsNotUtf8 x) = codes "L1"
run_code_of (run.FileNotFoundInImportPath x y) = codes "L2"
run_code_of (run.FileMustResideInImportPath x y) = codes "L3"
run_code_of (run.CouldNotReadFile x y) = codes "L4"
run_code_of (run.Resolver x y) = codes "L5"
run_code_of (run.Shadowed x y) = codes "L6"
run_code_of (run.ImportCycle x) = codes "L7"
run_code_of (run.ImportChainTooLong x) = codes "L8"
run_code_of (run.Parse x y) = codes "L9"
run_code_of (run.Elaborate x y) = codes "L10"
run_code_of (run.InputPath x y) = codes "L11"

-- of a text: S1 to S20
abbrev pub syntax_code_of : ParserError → Text
syntax_code_of syntax.Memory = []
syntax_code_of syntax.UnexpectedCharacter = codes "S1"
syntax_code_of syntax.UnterminatedComment = codes "S2"
syntax_code_of syntax.UnterminatedString = codes "S3"
syntax_code_of syntax.BadNumber = codes "S4"
syntax_code_of syntax.IntegerOverflow = codes "S5"
syntax_code_of syntax.NestingTooDeep = codes "S6"
syntax_code_of syntax.OptionNameTooLong = codes "S7"
syntax_code_of syntax.IncorrectInput = codes "S8"
syntax_code_of syntax.ExpectConstant = codes "S9"
syntax_code_of syntax.UnknownSyntax = codes "S10"
syntax_code_of syntax.LabelNotAllowed = codes "S11"
syntax_code_of syntax.LabelRequired = codes "S12"
syntax_code_of syntax.GroupNameShouldStartWithUpperCase = codes "S13"
syntax_code_of syntax.MapFieldNotAllowed = codes "S14"
syntax_code_of syntax.StrLitDecode = codes "S15"
syntax_code_of syntax.OneOfInGroup = codes "S16"
syntax_code_of syntax.OnlyFieldsInGroup = codes "S17"
syntax_code_of syntax.FloatConstant = codes "S18"
syntax_code_of (syntax.BadImportPath x) = codes "S19"
syntax_code_of syntax.TextTooLong = codes "S20"

-- of meaning: E1 to E28
abbrev pub meaning_code_of : ElabErrorKind → Text
meaning_code_of meaning.DuplicateName = codes "E1"
meaning_code_of meaning.NotFoundByAbsPath = codes "E2"
meaning_code_of meaning.NotFoundByRelPath = codes "E3"
meaning_code_of meaning.DanglingTypeName = codes "E4"
meaning_code_of meaning.TypeDeclaredTwice = codes "E5"
meaning_code_of meaning.ExtensionDeclaredTwice = codes "E6"
meaning_code_of meaning.RangeEndOverflow = codes "E7"
meaning_code_of meaning.DefaultValueIsNotStringLiteral = codes "E8"
meaning_code_of meaning.StrLitDecode = codes "E9"
meaning_code_of meaning.WrongOptionType = codes "E10"
meaning_code_of meaning.BuiltinOptionNotFound = codes "E11"
meaning_code_of meaning.BuiltinOptionPointsToNonSingularField = codes "E12"
meaning_code_of meaning.InconvertibleValue = codes "E13"
meaning_code_of meaning.ExtensionNotFound = codes "E14"
meaning_code_of meaning.WrongExtensionType = codes "E15"
meaning_code_of meaning.ExtensionIsNotMessage = codes "E16"
meaning_code_of meaning.UnknownFieldName = codes "E17"
meaning_code_of meaning.UnknownEnumValue = codes "E18"
meaning_code_of meaning.UnsupportedExtensionType = codes "E19"
meaning_code_of meaning.IntegerOutOfRange = codes "E20"
meaning_code_of meaning.MessageFieldRequiresMessageConstant = codes "E21"
meaning_code_of meaning.FloatOptionValue = codes "E22"
meaning_code_of meaning.OptionFieldNumber = codes "E23"
meaning_code_of meaning.GroupStepInOptionName = codes "E24"
meaning_code_of meaning.TypeUrlInConstant = codes "E26"
meaning_code_of meaning.UninterpretedOptionName = codes "E28"
