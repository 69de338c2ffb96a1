use Rattle.std.proofs.Common.{◌∙◌, ◌++◌, ap, flat_map, map, sym}
use Rattle.protobuf_parse_syntax.specs.Trees.{enum_statement_syntax}
use Rattle.protobuf_parse_model.specs.Duplicates.{duplicates}
use Rattle.protobuf_parse_model.specs.Faults.{found}
use Rattle.protobuf_parse_model.specs.SeenFiles.{environment_in}
use Rattle.protobuf_parse_elaboration.specs.Enums.{enum_values, value_named}
use Rattle.protobuf_parse_elaboration.proofs.Gathering.{on_ok}
use Rattle.protobuf_parse_elaboration.proofs.Naming.{values_named}
use Rattle.protobuf_parse_elaboration.proofs.Told.{each_among, names_of, names_seen}
use Rattle.protobuf_parse_elaboration.proofs.constructs.enumeration.tell_value_names.Goals as goal

pub tell_names-requires : goal.tell_names-requires
tell_names-requires g c =
    let env = environment_in (g.C.CustomOptions.customs c.args.at.now.custom.now)
    c.args.at.now.context in
    let vs = flat_map enum_values (map enum_statement_syntax c.args.body.now) in
    record {
      named = values_named env c.args.descriptors.now vs c.requires
          ∙ sym (names_seen value_named vs)
          ∙ ap names_of (sym (each_among value_named enum_values enum_statement_syntax
          c.args.body.now));
    }

pub returns : goal.returns
returns g c =
    on_ok c.tell_names.result (λ h. h ∙ ap (λ ds. found c.args.faults.now ++ duplicates ds)
    (each_among value_named enum_values enum_statement_syntax c.args.body.now))
    c.tell_names.ensures
