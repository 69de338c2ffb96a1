use Rattle.std.proofs.Common.{◌≡◌, map, take}
use Rattle.std.specs.BTreeSet.{contains_text}
use Rattle.protobuf_parse_model.specs.Descriptors.{Text, file_view}
use Rattle.protobuf_parse_model.specs.SeenFiles.{name_texts}
use Rattle.protobuf_parse_text_rules.specs.Options.{stands_in}
use Rattle.protobuf_parse_name_rules.specs.Lookups.{packages_among, seen_files}
use Rattle.protobuf_parse_name_rules.proofs.files.packages_of_seen.Given as goal

abbrev pub invariant-seen : goal.invariant-seen
invariant-seen l = (name : Text) → contains_text l.packages name
    ≡ stands_in name (packages_among (seen_files (record {
      reached = map file_view l.files.index.now;
      seen = name_texts (take l.path-index l.files.seen.now);
    })))
