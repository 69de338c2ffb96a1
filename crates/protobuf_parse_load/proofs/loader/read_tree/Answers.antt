use Rattle.std.proofs.Common.{refl}
use Rattle.protobuf_parse_base.specs.PathViews.{path_buf_text}
use Rattle.protobuf_parse_run.specs.Run.{rows}
use Rattle.protobuf_parse_run.proofs.Reading.{read_ends}
use Rattle.protobuf_parse_load.specs.Requests.{asked_in, legal_by, path_in}
use Rattle.protobuf_parse_load.proofs.loader.read_tree.Goals as goal

pub returns : goal.returns
returns g c =
    let legal = legal_by g.R.ProtoPathResolver.may_answer g.I.InputReader.may_read
    c.args.sources.now in
    let r = c.in_ok-entry.ensures in
    let e = c.in_ok-entry.field-0.entry in
    read_ends legal (rows c.args.sources.now.bundled.now) (asked_in c.args.request.now)
    (path_in c.args.request.now) (path_buf_text e.path) c.args.reads.now.items
    c.push.new.self.items e.outcome c.in_ok-entry.field-0.tree r.path
    (e, c.in_ok-push.ensures.items, r.path, refl) r.answer
    (c.ran_out.ensures.other c.if-ran_out.false) r.tree r.treeless r.stands
