use Rattle.std.proofs.Common.{◌∙◌, ap, arith, filter}
use Rattle.std.proofs.lemmas.List.{take_all}
use Rattle.protobuf_parse_model.proofs.DeclaringFiles.{is_there, there-are}
use Rattle.protobuf_parse_model.proofs.declaring.declaring_files.Goals as goal

pub returns : goal.returns
returns c = λ files tells.
    let reach = c.args.seen.now.reach.now in
    let table = c.args.seen.now.declarations.now in
    c.loop-file.invariant
    ∙ ap (filter (is_there c.args.extension table c.args.name.now))
    (take_all c.loop-file.file-index reach (omega (arith, c.loop-file-test.false)))
    ∙ there-are c.args.extension table files tells c.args.name.now reach
