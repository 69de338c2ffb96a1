use Rattle.protobuf_parse_model.specs.Descriptors.{file_view}
use Rattle.protobuf_parse_option_paths.specs.Paths.{lead_of}
use Rattle.protobuf_parse_option_paths.specs.Views.{files_view}
use Rattle.protobuf_parse_option_paths.proofs.Leads.{one_done}
use Rattle.protobuf_parse_option_paths.proofs.paths.with_option_paths.Goals as goal

pub locations-preserved : goal.locations-preserved
locations-preserved c =
    one_done (lead_of (files_view c.args.files.now) (file_view c.args.file.now))
    c.locations.location.items c.push.new.self.items c.locations.counts c.with_path.new.counts
    c.locations.yielded c.in-Some.one c.in_ok-with_path.field-0 c.in_ok-push.ensures.items
    c.in_ok-with_path.ensures c.locations.invariant
