use Rattle.std.proofs.Common.{◌∙◌, ap, map}
use Rattle.protobuf_parse_syntax.specs.Trees.{file_syntax, statement_syntax}
use Rattle.protobuf_parse_options.proofs.CustomParts.{custom_in_file}
use Rattle.protobuf_parse_options.proofs.custom_parts.has_custom_option.Goals as goal

pub returns : goal.returns
returns c = c.any_custom.ensures
    ∙ custom_in_file c.deref.result.now (file_syntax c.args.tree.now)
    (ap (map statement_syntax) c.deref.ensures.value)
