use Rattle.std.proofs.Common.{◌∙◌, ◌++◌, ◌∷◌, [], List, ap, append-nil, arith, get_or, map}
use Rattle.std.proofs.Common.{string_bytes, subst, sym, take, ℕ}
use Rattle.std.proofs.lemmas.List.{take_all, take_more}
use Rattle.protobuf_parse_model.specs.Descriptors.{Text}
use Rattle.protobuf_parse_model.specs.Tables.{listed_names}
use Rattle.protobuf_parse_check.specs.Judging.{BringsNames, listed_for}
use Rattle.protobuf_parse_check.proofs.Placing.{flat-append}
use Rattle.protobuf_parse_check.proofs.repeats.brought_names.Goals as goal

pub loop-file-preserved : goal.loop-file-preserved
loop-file-preserved c trees tells =
    let table = c.args.seen.now.declarations.now in
    let files = c.args.files.now in
    let i = c.loop-file.file-index in
    let so_far = c.loop-file.invariant trees tells in
    let added = c.in_ok-add_names.ensures trees (listed_for table (take i files))
    c.args.bringers.now tells so_far in
    subst (λ (cs : List Text). BringsNames trees c.args.seen.now.reach.now c.args.extension cs
    c.args.own c.args.bringers.now c.add_names.new.bringers
    (map string_bytes c.add_names.new.names.items))
    (sym (ap (listed_for table) (take_more files i 0 c.loop-file-test.true)
    ∙ flat-append (listed_names table) (take i files) (get_or files i 0 ∷ [])
    ∙ ap (λ ns. listed_for table (take i files) ++ ns)
    (append-nil (listed_names table (get_or files i 0))))) added

pub returns : goal.returns
returns c trees tells =
    let table = c.args.seen.now.declarations.now in
    let files = c.args.files.now in
    subst (λ (ns : List ℕ). BringsNames trees c.args.seen.now.reach.now c.args.extension
    (listed_for table ns) c.args.own c.args.bringers.now c.loop-file.bringers
    (map string_bytes c.loop-file.names.items))
    (take_all c.loop-file.file-index files (omega (arith, c.loop-file-test.false)))
    (c.loop-file.invariant trees tells)
