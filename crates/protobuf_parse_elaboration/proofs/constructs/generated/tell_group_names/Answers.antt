use Rattle.std.proofs.Common.{◌∙◌, ◌++◌, ap, map, sym}
use Rattle.protobuf_parse_syntax.specs.Trees.{field_statement_syntax}
use Rattle.protobuf_parse_model.specs.Duplicates.{duplicates}
use Rattle.protobuf_parse_model.specs.Faults.{found}
use Rattle.protobuf_parse_model.specs.SeenFiles.{environment_in}
use Rattle.protobuf_parse_elaboration.specs.Fields.{field_named, of_message}
use Rattle.protobuf_parse_elaboration.specs.NamesOf.{names_of_fields}
use Rattle.protobuf_parse_elaboration.proofs.Gathering.{on_ok}
use Rattle.protobuf_parse_elaboration.proofs.Naming.{fields_named}
use Rattle.protobuf_parse_elaboration.proofs.SameNames.{fields-names}
use Rattle.protobuf_parse_elaboration.proofs.Told.{each_alone, names_of}
use Rattle.protobuf_parse_elaboration.proofs.constructs.generated.tell_group_names.Goals as goal

pub tell_names-requires : goal.tell_names-requires
tell_names-requires g c =
    let env = environment_in (g.C.CustomOptions.customs c.args.at.now.custom.now)
    c.args.at.now.context in
    let ss = map field_statement_syntax c.args.statements.now in
    record {
      named = fields_named _ ∙ ap names_of_fields c.requires ∙ fields-names env of_message ss
          ∙ ap names_of (sym (each_alone field_named field_statement_syntax c.args.statements.now));
    }

pub returns : goal.returns
returns g c =
    on_ok c.tell_names.result (λ h. h ∙ ap (λ ds. found c.args.faults.now ++ duplicates ds)
    (each_alone field_named field_statement_syntax c.args.statements.now)) c.tell_names.ensures
