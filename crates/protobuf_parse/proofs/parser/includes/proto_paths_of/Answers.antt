use Rattle.std.proofs.Common.{map}
use Rattle.std.specs.Prelude.{string_bytes}
use Rattle.std.proofs.lemmas.Result.{err_from_is_err_and}
use Rattle.protobuf_parse_run.specs.Run.{OrMemory}
use Rattle.protobuf_parse.specs.Includes.{StandsAtFirst}
use Rattle.protobuf_parse.proofs.Including.{first-stands}
use Rattle.protobuf_parse.proofs.parser.includes.proto_paths_of.Goals as goal

pub returns-in_err-proto_path_of-clause-first : goal.returns-in_err-proto_path_of-clause-first
returns-in_err-proto_path_of-clause-first c =
    let p = err_from_is_err_and c.from_residual.result c.from_residual.ensures.1 in
    let k = c.in_err-proto_path_of.ensures.stands in
    let told : OrMemory c.in_err-proto_path_of.field-0.0
    (StandsAtFirst (map string_bytes c.args.includes.now)
    (map string_bytes c.args.inputs.now) c.in_err-proto_path_of.field-0.0) =
    first-stands string_bytes (map string_bytes c.args.includes.now) c.args.inputs.now
    c.loop-input.input-index c.input-item.result _ _ c.loop-input-test.true c.input-item.is
    c.loop-input.invariant (rw c.deref.ensures at k) in
    rw (p.1, p.2) told
