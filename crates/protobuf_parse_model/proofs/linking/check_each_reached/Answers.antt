use Rattle.std.proofs.Common.{get_or}
use Rattle.std.proofs.lemmas.List.{get_or_default}
use Rattle.std.proofs.lemmas.Result.{err_from_is_err_and}
use Rattle.protobuf_parse_model.specs.TableParts.{listed_faults}
use Rattle.protobuf_parse_model.proofs.Blaming.{blames_one, none_more}
use Rattle.protobuf_parse_model.proofs.linking.check_each_reached.Goals as goal

pub returns-in_err-check_file : goal.returns-in_err-check_file
returns-in_err-check_file c =
    let p = err_from_is_err_and c.from_residual.result c.from_residual.ensures.1 in
    let files = c.args.seen.now.reach.now in
    let i = c.loop-file.file-index in
    let lt = c.loop-file-test.true in
    rw (p.1, p.2)
    (blames_one (listed_faults c.args.seen.now) files i (get_or files i 0)
    c.in_err-check_file.field-0.0 lt (get_or_default files i 0 (get_or files i 0) lt)
    c.in_err-check_file.ensures)

pub loop-file-preserved : goal.loop-file-preserved
loop-file-preserved c =
    none_more (listed_faults c.args.seen.now) c.args.seen.now.reach.now c.loop-file.file-index 0
    c.loop-file-test.true c.loop-file.invariant c.in_ok-check_file.ensures
