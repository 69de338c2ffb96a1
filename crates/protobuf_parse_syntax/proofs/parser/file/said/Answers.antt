use Rattle.std.proofs.Common.{◌≡◌, ◌∙◌, codes, sym, string_bytes}
use Rattle.std.proofs.lemmas.Result.{err_from_is_err_and}
use Rattle.protobuf_parse_lexer.specs.Text.{Bytes}
use Rattle.protobuf_parse_syntax.specs.Code.{left}
use Rattle.protobuf_parse_syntax.specs.Grammar.{name_of}
use Rattle.protobuf_parse_syntax.specs.declared.tree.Syntax.{Syntax}
use Rattle.protobuf_parse_syntax.specs.declared.tree.Syntax.TheVariants.{Proto2, Proto3}
use Rattle.protobuf_parse_syntax.proofs.Strings.{fails_version, says_version, says_no_version}
use Rattle.protobuf_parse_syntax.proofs.parser.file.said.Goals as goal

pub returns-in_err-said : goal.returns-in_err-said
returns-in_err-said c =
    let p = err_from_is_err_and c.from_residual.result c.from_residual.ensures.1 in
    rw (p.1, p.2)
    (fails_version c.in_err-said.field-0.0 (left c.args.tokens.now)
    (left c.text.new.tokens) c.in_err-said.ensures)

pub returns-in-proto2 : goal.returns-in-proto2
returns-in-proto2 c =
    says_version (left c.args.tokens.now) (left c.text.new.tokens)
    (string_bytes c.in_ok-said.said) c.in_ok-said.ensures Proto2
    (sym c.as_str.ensures.value ∙ c.in-proto2.is)

pub returns-in-proto3 : goal.returns-in-proto3
returns-in-proto3 c =
    says_version (left c.args.tokens.now) (left c.text.new.tokens)
    (string_bytes c.in_ok-said.said) c.in_ok-said.ensures Proto3
    (sym c.as_str.ensures.value ∙ c.in-proto3.is)

neither : (text : Bytes) → (text ≡ codes "proto2" → ⊥) → (text ≡ codes "proto3" → ⊥) → (s : Syntax)
    → text ≡ name_of s → ⊥
neither text no2 no3 Proto2 e = no2 e
neither text no2 no3 Proto3 e = no3 e

pub returns : goal.returns
returns c =
    let other = neither (string_bytes c.in_ok-said.said)
    (λ e. c.in_default.not-proto2 (c.as_str.ensures.value ∙ e))
    (λ e. c.in_default.not-proto3 (c.as_str.ensures.value ∙ e)) in
    says_no_version (left c.args.tokens.now) (left c.text.new.tokens)
    (string_bytes c.in_ok-said.said) c.in_ok-said.ensures other
