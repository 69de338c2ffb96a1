use Rattle.std.proofs.Common.{◌≡◌, ◌≤◌, ◌+◌, ◌∙◌, arith, length, map, refl, sym}
use Rattle.std.proofs.lemmas.List.{length-map}
use Rattle.protobuf_parse_model.specs.Descriptors as described
use Rattle.protobuf_parse_run.specs.Loading.{descriptor_in}
use Rattle.protobuf_parse_run.proofs.Catching.{next-whole}
use Rattle.protobuf_parse_run.proofs.tables.add_next.Goals as goal

pub returns : goal.returns
returns c =
    let loaded = c.args.loaded.now.entries in
    let spots = c.files.spots in
    let n = c.len-number.result in
    let count = length-map loaded descriptor_in in
    let number : c.len.result ≡ length loaded = c.len.ensures.len in
    let past : length (map descriptor_in loaded) ≤ spots.files = omega (arith, count, number) in
    next-whole spots (record { declared = c.add.new.self; files = n + 1 })
    (map descriptor_in loaded)
    (described.file_view c.args.own.now) n c.files.invariant past
    (count ∙ sym c.len-number.ensures.len)
    (λ files len holds. c.in_ok-add.ensures files len holds) refl
