use Rattle.std.proofs.Common.{◌∙◌, ◌++◌, ap, flat_map, map, sym}
use Rattle.std.proofs.lemmas.Result.{on_ok_weaker}
use Rattle.protobuf_parse_syntax.specs.Trees.{field_statement_syntax}
use Rattle.protobuf_parse_syntax.proofs.FieldViews.{views_group}
use Rattle.protobuf_parse_text_rules.specs.Fields.{statement_breaches}
use Rattle.protobuf_parse_text_rules.specs.Views.{told}
use Rattle.protobuf_parse_text_rules.proofs.Levels.{all_listed}
use Rattle.protobuf_parse_text_rules.proofs.fields.+statement.Goals as goal

pub check_statement-returns-in-Group : goal.check_statement-returns-in-Group
check_statement-returns-in-Group t c =
    let before = told c.args.found.now in
    on_ok_weaker c.check_statements.result
    (λ h. h
    ∙ ap (λ xs. before ++ flat_map statement_breaches (map field_statement_syntax xs))
    c.deref.ensures.value
    ∙ ap (λ bs. before ++ bs)
    (sym (all_listed (map field_statement_syntax c.in-Group.group.fields.items))
    ∙ sym (ap statement_breaches
    (ap field_statement_syntax c.in-Group.is ∙ views_group c.in-Group.group))))
    c.check_statements.ensures
