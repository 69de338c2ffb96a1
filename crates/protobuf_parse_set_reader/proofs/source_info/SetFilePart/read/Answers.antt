use Rattle.std.proofs.lemmas.Result.{err_from_is_err_and}
use Rattle.protobuf_parse_set_reader.specs.Reading.{set_file_of}
use Rattle.protobuf_parse_set_reader.proofs.Steps.{fails_first}
use Rattle.protobuf_parse_set_reader.proofs.source_info.SetFilePart.read.Goals as goal

pub returns-in_err-source_code_info : goal.returns-in_err-source_code_info
unfolding set_file_of
returns-in_err-source_code_info c =
    let p = err_from_is_err_and c.from_residual-in_err-source_code_info.result
    c.from_residual-in_err-source_code_info.ensures.1 in
    rw (p.1, p.2, c.in_ok-file.ensures) (fails_first _ _ _ c.in_err-source_code_info.ensures)
