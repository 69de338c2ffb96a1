use Rattle.std.proofs.Common.{◌≡◌, ◌∙◌, List, ap, arith, filter, get_or, length}
use Rattle.protobuf_parse_model.specs.declared.scope.seen.Declaration.{Declaration}
use Rattle.protobuf_parse_model.proofs.FileOrder.{counted_of, is_in, times-le, times_next}
use Rattle.protobuf_parse_model.proofs.FileOrder.{times_of_none}
use Rattle.protobuf_parse_model.proofs.linking.times_by_file.Goals as goal

pub overflow_add-count : goal.overflow_add-count
overflow_add-count c =
    let reach = c.args.seen.now.reach.now in
    let ds = c.args.declarations.now in
    let i = c.loop-file.file-index in
    let extension = c.args.extension in
    let here : c.number_of-count.result
    ≡ length (filter (counted_of extension) (filter (is_in (get_or reach i 0)) ds)) =
    c.number_of-count.ensures
    ∙ ap (λ (xs : List Declaration). length (filter (counted_of extension) xs)) c.in_file.ensures in
    let step =
    times_next extension reach i c.args.seen.now.reach_ascends c.loop-file-test.true ds in
    let so_far = c.loop-file.invariant in
    let most = times-le extension reach ds in
    let few = c.requires.few in
    omega (arith, here, step, so_far, most, few)

pub loop-file-preserved : goal.loop-file-preserved
loop-file-preserved c =
    let reach = c.args.seen.now.reach.now in
    let ds = c.args.declarations.now in
    let i = c.loop-file.file-index in
    let extension = c.args.extension in
    let here : c.number_of-count.result
    ≡ length (filter (counted_of extension) (filter (is_in (get_or reach i 0)) ds)) =
    c.number_of-count.ensures
    ∙ ap (λ (xs : List Declaration). length (filter (counted_of extension) xs)) c.in_file.ensures in
    let step =
    times_next extension reach i c.args.seen.now.reach_ascends c.loop-file-test.true ds in
    let so_far = c.loop-file.invariant in
    omega (arith, here, step, so_far)

pub returns : goal.returns
returns c =
    let none = times_of_none c.args.extension c.args.seen.now.reach.now c.loop-file.file-index
    c.loop-file-test.false c.args.declarations.now in
    let all = c.loop-file.invariant in
    omega (arith, none, all)
