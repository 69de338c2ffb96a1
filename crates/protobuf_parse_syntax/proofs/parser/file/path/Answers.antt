use Rattle.std.proofs.Common.{◌∙◌, refl, sym, ap, string_bytes}
use Rattle.std.proofs.lemmas.Bool.{false≢true}
use Rattle.std.proofs.lemmas.Result.{err_from_is_err_and}
use Rattle.protobuf_parse_grammar.specs.Readers.{read}
use Rattle.protobuf_parse_lexer.specs.Text.{Bytes}
use Rattle.protobuf_parse_syntax.specs.Code.{left}
use Rattle.protobuf_parse_syntax.proofs.Strings.{fails_path, says_path, says_no_path}
use Rattle.protobuf_parse_syntax.proofs.parser.file.path.Goals as goal

pub returns-in_err-text : goal.returns-in_err-text
returns-in_err-text c =
    let p = err_from_is_err_and c.from_residual.result c.from_residual.ensures.1 in
    rw (p.1, p.2)
    (fails_path c.in_err-text.field-0.0 (left c.args.tokens.now)
    (left c.text.new.tokens) c.in_err-text.ensures)

pub returns-in-Ok : goal.returns-in-Ok
returns-in-Ok c =
    says_path (left c.args.tokens.now) (left c.text.new.tokens)
    (string_bytes c.in_ok-text.text) c.in_ok-text.ensures (c.in-Ok.ensures.accepted.0 refl)
    ∙ ap (λ (z : Bytes). read z (left c.text.new.tokens)) (sym c.in-Ok.ensures.text)

pub returns-in-Err : goal.returns-in-Err
returns-in-Err c = says_no_path (left c.args.tokens.now) (left c.text.new.tokens)
    (string_bytes c.in_ok-text.text) c.in_ok-text.ensures c.in-Err.fault c.in-Err.ensures.fault
    (λ h. false≢true (c.in-Err.ensures.accepted.1 h))
