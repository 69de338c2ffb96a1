use Rattle.std.proofs.Common.{◌∙◌, refl}
use Rattle.std.proofs.lemmas.Result.{err_from_is_err_and}
use Rattle.protobuf_parse_base.specs.PathViews.{path_buf_text}
use Rattle.protobuf_parse_run.specs.declared.fault.RunFault.TheVariants as fault
use Rattle.protobuf_parse_run.specs.Loading.{legal_by, asked_by}
use Rattle.protobuf_parse_run.proofs.Reading.{read_breaks, read_ends}
use Rattle.protobuf_parse_run.proofs.loader.read_tree.Goals as goal

pub returns-in_err-outcome-clause-read : goal.returns-in_err-outcome-clause-read
returns-in_err-outcome-clause-read g c =
    let legal = legal_by g.R.ProtoPathResolver.may_answer g.I.InputReader.may_read
    c.args.sources.now in
    let p = err_from_is_err_and c.from_residual.result c.from_residual.ensures.1 in
    rw p.1 (read_breaks legal _ (asked_by c.args.fs_path)
    (path_buf_text c.args.path.now) _ _ p.0 p.2 refl)

pub returns-then-ran_out-clause-read : goal.returns-then-ran_out-clause-read
returns-then-ran_out-clause-read g c =
    let legal = legal_by g.R.ProtoPathResolver.may_answer g.I.InputReader.may_read
    c.args.sources.now in
    rw (c.ran_out.ensures.memory c.if-ran_out.true)
    (read_breaks legal _ (asked_by c.args.fs_path)
    (path_buf_text c.args.path.now) _ _ fault.Memory refl refl)

pub returns-in_err-note-clause-read : goal.returns-in_err-note-clause-read
returns-in_err-note-clause-read g c =
    let legal = legal_by g.R.ProtoPathResolver.may_answer g.I.InputReader.may_read
    c.args.sources.now in
    let p = err_from_is_err_and c.from_residual-in_err-note.result
    c.from_residual-in_err-note.ensures.1 in
    rw p.1 (read_breaks legal _ (asked_by c.args.fs_path)
    (path_buf_text c.args.path.now) _ _ p.0 p.2 c.in_err-note.ensures.err)

pub returns-clause-read : goal.returns-clause-read
returns-clause-read g c =
    let legal = legal_by g.R.ProtoPathResolver.may_answer g.I.InputReader.may_read
    c.args.sources.now in
    read_ends legal _ (asked_by c.args.fs_path) _ _ _ _ _ c.tree_given-tree.result
    (c.to_str.ensures.text ∙ c.as_path.ensures) c.in_ok-note.ensures.ok c.in_ok-outcome.ensures
    (c.ran_out.ensures.other c.if-ran_out.false) c.tree_given-tree.ensures.tree
    c.tree_given-tree.ensures.treeless c.tree_given-tree.ensures.stands
