use Rattle.std.proofs.Common.{◌∙◌, ◌++◌, ap, flat_map, map, sym}
use Rattle.std.proofs.lemmas.Result.{on_ok_weaker}
use Rattle.protobuf_parse_syntax.specs.Trees.{field_statement_syntax}
use Rattle.protobuf_parse_syntax.proofs.FieldViews.{views_group}
use Rattle.protobuf_parse_text_rules.specs.Fields.{extension_breaches, statement_breaches}
use Rattle.protobuf_parse_text_rules.specs.Views.{told}
use Rattle.protobuf_parse_text_rules.proofs.Levels.{all_listed}
use Rattle.protobuf_parse_text_rules.proofs.fields.check_extension.Goals as goal

pub returns-in-Group : goal.returns-in-Group
returns-in-Group c =
    let before = told c.args.found.now in
    on_ok_weaker c.check_statements.result
    (λ h. h
    ∙ ap (λ xs. before ++ flat_map statement_breaches (map field_statement_syntax xs))
    c.deref-in-Group.ensures.value
    ∙ ap (λ bs. before ++ bs)
    (sym (all_listed (map field_statement_syntax c.in-Group.group.fields.items))
    ∙ sym (ap extension_breaches
    (ap field_statement_syntax c.in-Group.is ∙ views_group c.in-Group.group))))
    c.check_statements.ensures
