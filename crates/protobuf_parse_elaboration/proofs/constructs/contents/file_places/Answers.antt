use Rattle.std.proofs.Common.{◌∙◌, ap}
use Rattle.protobuf_parse_syntax.specs.Trees.{statement_syntax}
use Rattle.protobuf_parse_elaboration.specs.FileDescriptor.{file_enums_named, file_extensions_named}
use Rattle.protobuf_parse_elaboration.specs.FileDescriptor.{file_messages_named, services_named}
use Rattle.protobuf_parse_elaboration.specs.FileParts.{places}
use Rattle.protobuf_parse_elaboration.proofs.StatedOptions.{set_seen}
use Rattle.protobuf_parse_elaboration.proofs.constructs.contents.file_places.Goals as goal

pub returns : goal.returns
returns c =
    let ss = c.args.statements.now in
    record {
      messages = c.in_ok-messages.ensures
          ∙ ap places (set_seen file_messages_named statement_syntax ss);
      enums = c.in_ok-enums.ensures ∙ ap places (set_seen file_enums_named statement_syntax ss);
      extensions = c.in_ok-extensions.ensures
          ∙ ap places (set_seen file_extensions_named statement_syntax ss);
      services = c.in_ok-services.ensures ∙ ap places (set_seen services_named statement_syntax ss);
    }
