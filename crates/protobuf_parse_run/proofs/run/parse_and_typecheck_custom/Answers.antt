use Rattle.std.proofs.Common.{◌≡◌, Err, ◌∙◌, ap, map, take, arith}
use Rattle.std.proofs.lemmas.List.{take_all}
use Rattle.std.proofs.lemmas.Result.{err_from_is_err_and}
use Rattle.protobuf_parse_base.specs.PathViews.{path_buf_text}
use Rattle.protobuf_parse_base.specs.declared.proto_path.path.ProtoPathBuf.{ProtoPathBuf}
use Rattle.protobuf_parse_run.specs.declared.fault.ReadInputFault.TheVariants.{NotFound}
use Rattle.protobuf_parse_run.specs.Walks.{named}
use Rattle.protobuf_parse_run.specs.Run.{input_view}
use Rattle.protobuf_parse_run.specs.Shipped.{IsNeverAsked}
use Rattle.protobuf_parse_run.proofs.Causing.{uncaused}
use Rattle.protobuf_parse_run.proofs.Telling.{by-resolver, by-resolver-caused, unstarted}
use Rattle.protobuf_parse_run.proofs.run.parse_and_typecheck_custom.Goals as goal

pub returns-in_err-to_proto_path_buf-clause-told
    : goal.returns-in_err-to_proto_path_buf-clause-told
returns-in_err-to_proto_path_buf-clause-told g c =
    let p = err_from_is_err_and c.from_residual.result c.from_residual.ensures.1 in
    unstarted (g.R.ProtoPathResolver.may_answer c.args.resolver.now)
    (map (λ (b : ProtoPathBuf). named (path_buf_text b)) c.args.input.now) _ p.0 p.1 p.2

pub returns-in_err-to_proto_path_buf-clause-caused
    : goal.returns-in_err-to_proto_path_buf-clause-caused
returns-in_err-to_proto_path_buf-clause-caused g c =
    let p = err_from_is_err_and c.from_residual.result c.from_residual.ensures.1 in
    uncaused (g.R.ProtoPathResolver.may_answer c.args.resolver.now) IsNeverAsked
    _ p.0 p.1 p.2

pub returns-in_err-push-clause-told : goal.returns-in_err-push-clause-told
returns-in_err-push-clause-told g c =
    let r = c.from_residual-in_err-push in
    let p = err_from_is_err_and r.result r.ensures.1 in
    unstarted (g.R.ProtoPathResolver.may_answer c.args.resolver.now)
    (map (λ (b : ProtoPathBuf). named (path_buf_text b)) c.args.input.now) _ p.0 p.1 p.2

pub returns-in_err-push-clause-caused : goal.returns-in_err-push-clause-caused
returns-in_err-push-clause-caused g c =
    let r = c.from_residual-in_err-push in
    let p = err_from_is_err_and r.result r.ensures.1 in
    uncaused (g.R.ProtoPathResolver.may_answer c.args.resolver.now) IsNeverAsked
    _ p.0 p.1 p.2

pub returns-clause-told : goal.returns-clause-told
returns-clause-told g c =
    let whole : take c.loop-path.path-index c.args.input.now
    ≡ c.args.input.now = take_all _ _ (omega arith) in
    let is = ap (map input_view) c.deref.ensures.value
    ∙ (c.loop-path.invariant ∙ ap (map (λ (b : ProtoPathBuf). named (path_buf_text b))) whole)
    in
    by-resolver (g.R.ProtoPathResolver.may_answer c.args.resolver.now)
    (λ own answer. answer ≡ Err NotFound) c.run_inputs.result.reads.items _ c.args.input.now _ _
    is c.bundled_files.ensures c.run_inputs.ensures.trees c.run_inputs.ensures.told

pub returns-clause-caused : goal.returns-clause-caused
returns-clause-caused g c =
    by-resolver-caused (g.R.ProtoPathResolver.may_answer c.args.resolver.now) _ _
    (returns-clause-told g c)
