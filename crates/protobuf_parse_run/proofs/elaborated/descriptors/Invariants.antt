use Rattle.std.proofs.Common.{◌≡◌, map, option_map, slice_get, take}
use Rattle.protobuf_parse_model.specs.Descriptors as described
use Rattle.protobuf_parse_run.specs.Loading.{descriptor_seen, descriptors_with}
use Rattle.protobuf_parse_run.proofs.elaborated.descriptors.Given as goal

abbrev pub invariant-files : goal.invariant-files
invariant-files l =
    map (option_map descriptor_seen) l.list.items ≡ map
    (slice_get (descriptors_with l.loaded.entries (described.file_view l.own)))
    (take l.number-index l.numbers)
