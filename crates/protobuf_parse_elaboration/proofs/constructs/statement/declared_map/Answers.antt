use Rattle.std.proofs.Common.{◌++◌, ◌∙◌, ap}
use Rattle.protobuf_parse_syntax.specs.Trees.{field_syntax, map_of, type_syntax}
use Rattle.protobuf_parse_model.specs.Faults.{found, placed}
use Rattle.protobuf_parse_model.specs.SeenFiles.{environment_in}
use Rattle.protobuf_parse_elaboration.specs.Fields.{FieldTypeOf, type_faults}
use Rattle.protobuf_parse_elaboration.proofs.Told.{map_told}
use Rattle.protobuf_parse_elaboration.proofs.constructs.statement.declared_map.Goals as goal

pub returns-clause-faults : goal.returns-clause-faults
returns-clause-faults g c =
    let env = environment_in (g.C.CustomOptions.customs c.args.at.now.custom.now)
    c.args.at.now.context in
    let key = type_syntax c.args.key.now in
    let value = type_syntax c.args.value.now in
    let types = c.in_ok-entry.ensures.faults
    ∙ ap (λ name. found c.args.faults.now
    ++ placed c.args.field.now.place (type_faults env name (map_of key value))) c.deref.ensures in
    map_told env (field_syntax c.args.field.now) key value (found c.args.faults.now)
    (found c.map_entry.new.faults) (found c.field_with.new.faults) c.in_ok-resolved.resolved.kind
    c.requires (ap (λ (t : FieldTypeOf). t.kind) c.in_ok-resolved.ensures) types
    c.in_ok-field.ensures.faults
