use Rattle.std.proofs.Common.{◌≡◌, ◌+◌, ◌∙◌, Some, ap, map, option_map, refl, slice_get, sym}
use Rattle.std.proofs.lemmas.Option.{slice_get-map}
use Rattle.protobuf_parse_model.specs.Descriptors as described
use Rattle.protobuf_parse_run.specs.Loading.{descriptor_in}
use Rattle.protobuf_parse_run.proofs.Catching.{begins-next}
use Rattle.protobuf_parse_run.proofs.tables.add_loaded.Goals as goal

pub returns-in_ok-add-clause-begins : goal.returns-in_ok-add-clause-begins
returns-in_ok-add-clause-begins c =
    let loaded = c.args.loaded.now.entries in
    let n = c.args.spots.now.files in
    let d = described.file_view c.in-Some.field-0.now.1.descriptor in
    let entry = rw c.in-Some.is at c.at.ensures in
    let at : slice_get (map descriptor_in loaded) n ≡ Some d = slice_get-map descriptor_in loaded n
    ∙ ap (option_map descriptor_in) (sym entry) in
    begins-next c.args.spots.now (record { declared = c.add.new.self; files = n + 1 })
    (map descriptor_in loaded) d c.requires.begins at
    (λ files len holds. c.in_ok-add.ensures files len holds) refl
