use Rattle.std.proofs.Common.{◌∙◌}
use Rattle.protobuf_parse_rules.specs.KnownFiles.{known_file, path_named}
use Rattle.protobuf_parse_rules.proofs.Naming.{found_copied}
use Rattle.protobuf_parse_rules.proofs.runtimes.file_with.Goals as goal

pub returns : goal.returns
returns c = λ all finds.
    found_copied known_file path_named c.args.files.now all c.args.path c.keyed.result
    c.copied.result c.keyed.ensures (c.copied.ensures ∙ c.get.ensures.value) finds
