use Rattle.std.proofs.Common.{◌∙◌, ap, sym}
use Rattle.std.proofs.lemmas.Result.{err_from_is_err_and}
use Rattle.protobuf_parse_syntax.specs.Trees.{file_syntax}
use Rattle.protobuf_parse_model.specs.Descriptors as described
use Rattle.protobuf_parse_model.specs.Descriptors.{FileDescriptor}
use Rattle.protobuf_parse_model.specs.Tables.{picked}
use Rattle.protobuf_parse_elaboration.specs.FileDescriptor.{environment, file_faults, file_of}
use Rattle.protobuf_parse_options.specs.WithoutOptions.{bare_file}
use Rattle.protobuf_parse_run.specs.Loading.{customs_over, descriptors_with}
use Rattle.protobuf_parse_run.proofs.Catching.{whole-if}
use Rattle.protobuf_parse_run.proofs.Spelling.{options-alike, own-told, some-set}
use Rattle.protobuf_parse_run.proofs.elaborated.with_customs.Goals as goal

pub returns-in_err-plain-clause-elaborates : goal.returns-in_err-plain-clause-elaborates
returns-in_err-plain-clause-elaborates c files told linked =
    let e = err_from_is_err_and c.from_residual.result c.from_residual.ensures.1 in
    rw (e.1, e.2)
    (own-told c.args.loaded.now.entries files c.args.seen.now.reach.now
    c.args.seen.now.sight.now c.args.path.now
    (file_syntax c.args.tree) linked c.in_err-plain.field-0.0
    (c.in_err-plain.ensures files told))

pub returns-clause-elaborates : goal.returns-clause-elaborates
returns-clause-elaborates c files told linked =
    let loaded = c.args.loaded.now.entries in
    let reach = c.args.seen.now.reach.now in
    let sight = c.args.seen.now.sight.now in
    let own = c.in_ok-plain.ensures files told in
    let descriptors = descriptors_with loaded (described.file_view c.in_ok-plain.plain) in
    let same = ap (λ (d : FileDescriptor). customs_over (descriptors_with loaded d) reach sight)
    own.1 in
    some-set loaded files reach sight c.args.path.now (file_syntax c.args.tree) linked
    (customs_over descriptors reach sight) c.spelled.result same own.0
    (c.spelled.ensures files told)

pub returns-clause-begins : goal.returns-clause-begins
returns-clause-begins c files told =
    let loaded = c.args.loaded.now.entries in
    let t = file_syntax c.args.tree in
    let reach = c.args.seen.now.reach.now in
    let sight = c.args.seen.now.sight.now in
    let plain = described.file_view c.in_ok-plain.plain in
    let customs = customs_over (descriptors_with loaded plain) reach sight in
    let env = environment (picked files sight) customs t in
    whole-if c.add_next.new.spots loaded plain (file_of env c.args.path.now t) (file_faults env t)
    c.spelled.result
    (ap bare_file (c.in_ok-plain.ensures files told).1
    ∙ sym (options-alike (picked files sight) customs c.args.path.now t))
    c.in_ok-add_next.ensures (c.spelled.ensures files told)
