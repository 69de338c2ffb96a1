use Rattle.std.proofs.Common.{◌≡◌, take}
use Rattle.protobuf_parse_model.specs.Descriptors.{Text}
use Rattle.protobuf_parse_model.specs.SeenFiles.{name_texts}
use Rattle.protobuf_parse_text_rules.specs.Options.{stands_in}
use Rattle.protobuf_parse_name_rules.specs.InnerViews.{has_text}
use Rattle.protobuf_parse_name_rules.proofs.files.paths_of.Given as goal

abbrev pub invariant-seen : goal.invariant-seen
invariant-seen l = (path : Text)
    → has_text l.paths path ≡ stands_in path (name_texts (take l.path-index l.seen))
