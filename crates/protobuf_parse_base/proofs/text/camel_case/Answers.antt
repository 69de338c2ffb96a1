-- A second spelling changes nothing.
use Rattle.std.proofs.lemmas.Result.{IfOk-weaker}
use Rattle.std.proofs.lemmas.Str.{IsUtf8-string_bytes}
use Rattle.std.specs.String.{string_bytes}
use Rattle.protobuf_parse_base.proofs.CaseTexts.{camel_case_text-twice}
use Rattle.protobuf_parse_base.proofs.CaseTexts.{camel_case_text-no_underscore}
use Rattle.protobuf_parse_base.proofs.text.camel_case.Goals as goal

pub returns-clause-no_underscore : goal.returns-clause-no_underscore
returns-clause-no_underscore c =
    IfOk-weaker c.join_words.result _ _
    (λ camel text. camel_case_text-no_underscore (string_bytes camel) c.args.name.now
    (IsUtf8-string_bytes camel) text) c.join_words.ensures

pub returns-clause-idempotent : goal.returns-clause-idempotent
returns-clause-idempotent c =
    IfOk-weaker c.join_words.result _ _
    (λ camel text. camel_case_text-twice (string_bytes camel) c.args.name.now
    (IsUtf8-string_bytes camel) text) c.join_words.ensures
