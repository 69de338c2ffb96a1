use Rattle.protobuf_parse_model.specs.Descriptors.{file_view}
use Rattle.protobuf_parse_option_paths.specs.Paths.{lead_of}
use Rattle.protobuf_parse_option_paths.specs.Views.{files_view}
use Rattle.protobuf_parse_option_paths.proofs.Leads.{Done}
use Rattle.protobuf_parse_option_paths.proofs.paths.with_option_paths.Given as goal

abbrev pub invariant-locations : goal.invariant-locations
invariant-locations l =
    Done (lead_of (files_view l.files) (file_view l.file)) l.location.items l.counts l.yielded
