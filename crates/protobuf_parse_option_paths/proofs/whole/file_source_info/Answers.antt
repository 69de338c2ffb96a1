use Rattle.std.proofs.Common.{◌∙◌, ap, map, refl}
use Rattle.protobuf_parse_model.specs.Descriptors.{file_view}
use Rattle.protobuf_parse_option_paths.specs.Names.{Files}
use Rattle.protobuf_parse_option_paths.specs.Paths.{full_paths}
use Rattle.protobuf_parse_option_paths.specs.Views.{has_path}
use Rattle.protobuf_parse_option_paths.proofs.whole.file_source_info.Goals as goal

pub returns : goal.returns
returns c = λ spots has.
    let files : Files =
    record { reached = map file_view c.args.index.now; sees = has_path c.in_ok-seen.seen } in
    record {
      files = files;
      reaches = refl;
      full = c.in_ok-with_option_paths.ensures
          ∙ ap (full_paths files (file_view c.args.file.now)) (c.in_ok-info.ensures.found spots has);
    }
