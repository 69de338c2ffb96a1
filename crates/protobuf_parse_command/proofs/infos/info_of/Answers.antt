use Rattle.std.proofs.Common.{sym}
use Rattle.protobuf_parse_model.specs.Descriptors.{file_view}
use Rattle.protobuf_parse_source_info.specs.Views.{info_view}
use Rattle.protobuf_parse_syntax.specs.Trees.{file_syntax}
use Rattle.protobuf_parse_command.proofs.infos.info_of.Goals as goal

pub returns-in_ok-source_info_bytes-in-Ok : goal.returns-in_ok-source_info_bytes-in-Ok
returns-in_ok-source_info_bytes-in-Ok c = record {
  path = c.deref.result.now;
  text = c.in-Some.text.now;
  read = sym c.in-Some.ensures;
  file = file_view c.args.file.now;
  tree = file_syntax c.args.tree.now.tree;
  found = info_view c.in-Ok.info;
  info = c.in-Ok.ensures;
  spelled = c.in_ok-source_info_bytes-in-Ok.ensures;
}
