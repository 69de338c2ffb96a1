use Rattle.std.proofs.Common.{◌∙◌, ◌++◌, ap, flat_map, map}
use Rattle.std.proofs.lemmas.Result.{on_ok_weaker}
use Rattle.protobuf_parse_base.specs.DeclaredNames.{name_bytes}
use Rattle.protobuf_parse_model.specs.Declarations.{inside}
use Rattle.protobuf_parse_model.specs.SeenFiles.{name_texts}
use Rattle.protobuf_parse_syntax.specs.Trees.{field_statement_syntax}
use Rattle.protobuf_parse_text_rules.specs.Views.{told}
use Rattle.protobuf_parse_name_rules.specs.Files.{statement_breaches}
use Rattle.protobuf_parse_name_rules.specs.InnerViews.{viewpoint_view}
use Rattle.protobuf_parse_name_rules.specs.Lookups.{Viewpoint}
use Rattle.protobuf_parse_name_rules.proofs.Levels.{group_told, within_same}
use Rattle.protobuf_parse_name_rules.proofs.declarations.+statement.Goals as goal

pub check_statement-returns-in_ok-scope-in-Group : goal.check_statement-returns-in_ok-scope-in-Group
check_statement-returns-in_ok-scope-in-Group t c =
    let g = c.in-Group.group in
    let v = viewpoint_view c.args.at.now in
    let t0 = told c.args.found.now in
    let inner : Viewpoint = record { sight = v.sight; scope = name_texts c.deref.result.now } in
    on_ok_weaker c.check_statements.result
    (λ h. group_told v inner c.args.statement.now g t0 (told c.check_statements.new.found)
    c.in-Group.is
    (within_same v (name_bytes g.name) (name_texts c.deref.result.now)
    (ap name_texts c.deref.ensures.value ∙ c.in_ok-scope-in-Group.ensures
    ∙ ap (inside v.scope) c.as_str.ensures))
    (h ∙ ap (λ xs. t0 ++ flat_map (statement_breaches inner) (map field_statement_syntax xs))
    c.deref-in-Group.ensures.value))
    c.check_statements.ensures
