use Rattle.std.proofs.Common.{Err, refl}
use Rattle.std.proofs.lemmas.Result.{err_from_is_err_and}
use Rattle.protobuf_parse_run.specs.Run.{input_view}
use Rattle.protobuf_parse_load.specs.Steps.{holds, walks_input}
use Rattle.protobuf_parse_load.proofs.Inputs.{loads-first, loads-then}
use Rattle.protobuf_parse_load.proofs.Machine.{extends-walks}
use Rattle.protobuf_parse_load.proofs.loader.load_input.Goals as goal

pub returns-in_err-hold : goal.returns-in_err-hold
returns-in_err-hold g c =
    let input = input_view c.args.input.now in
    let p = err_from_is_err_and c.from_residual.result c.from_residual.ensures.1 in
    loads-first _ _ c.args.sources.now (λ trees. holds c.args.number input)
    (λ trees. walks_input trees c.args.number input) c.args.loader.now c.hold.new.loader
    c.from_residual.result (Err c.in_err-hold.field-0.0) p.0 c.in_err-hold.field-0.0 p.1 refl
    (λ trees a. extends-walks trees c.args.number input a) c.in_err-hold.ensures

pub returns : goal.returns
returns g c =
    let input = input_view c.args.input.now in
    loads-then _ _ c.args.sources.now (λ trees. holds c.args.number input)
    (λ trees. walks_input trees c.args.number input) c.args.loader.now c.hold.new.loader
    c.load_file.new.loader c.load_file.result c.in_ok-hold.ensures c.load_file.ensures
