use Rattle.std.proofs.Common.{◌∙◌, ◌++◌, ap, map}
use Rattle.protobuf_parse_syntax.specs.Trees.{file_syntax, statement_syntax}
use Rattle.protobuf_parse_model.specs.SeenFiles.{name_texts}
use Rattle.protobuf_parse_text_rules.specs.Views.{told, violation_view}
use Rattle.protobuf_parse_name_rules.specs.Files.{statements_breaches}
use Rattle.protobuf_parse_name_rules.specs.InnerViews.{sight_view}
use Rattle.protobuf_parse_name_rules.specs.Views.{files_view}
use Rattle.protobuf_parse_name_rules.proofs.Whole.{whole_told}
use Rattle.protobuf_parse_name_rules.proofs.messages.name_violations.Goals as goal

pub returns : goal.returns
returns c =
    let sight = sight_view c.in_ok-sight.sight in
    let t0 = told c.new-found.result in
    whole_told (files_view c.args.files.now) (file_syntax c.args.tree.now) sight
    (name_texts c.in_ok-scope.scope.items) t0 (told c.check_statements.new.found)
    (ap (map violation_view) c.new-found.ensures.items) c.in_ok-sight.ensures c.in_ok-scope.ensures
    (c.in_ok-check_statements.ensures
    ∙ ap (λ xs. t0 ++ statements_breaches (record { sight = sight; scope = name_texts xs })
    (map statement_syntax c.deref-2.result.now)) c.deref.ensures.value
    ∙ ap (λ xs. t0 ++ statements_breaches
    (record { sight = sight; scope = name_texts c.in_ok-scope.scope.items })
    (map statement_syntax xs)) c.deref-2.ensures.value)
