-- What is told of a file.
use Rattle.std.proofs.Common.{◌≡◌, ◌∙◌, ◌++◌, [], List, ap}
use Rattle.protobuf_parse_syntax.specs.Trees.{FileSyntax}
use Rattle.protobuf_parse_model.specs.Declarations.{Scope, file_scope}
use Rattle.protobuf_parse_text_rules.specs.Breaches.{TextBreach}
use Rattle.protobuf_parse_name_rules.specs.Files.{name_breaches, statements_breaches}
use Rattle.protobuf_parse_name_rules.specs.Lookups.{NameFiles, Sight, sight_of}

pub whole_told : (files : NameFiles) (t : FileSyntax) (sight : Sight) (scope : Scope)
    (t0 t2 : List TextBreach) → t0 ≡ [] → sight ≡ sight_of files → scope ≡ file_scope t
    → t2 ≡ t0 ++ statements_breaches (record { sight = sight; scope = scope }) t.statements
    → t2 ≡ name_breaches files t
whole_told files t sight scope t0 t2 none seen around next =
    next
    ∙ ap (λ z. z ++ statements_breaches (record { sight = sight; scope = scope }) t.statements) none
    ∙ ap (λ (s : Sight). statements_breaches (record { sight = s; scope = scope }) t.statements)
    seen
    ∙ ap (λ (s : Scope). statements_breaches (record { sight = sight_of files; scope = s })
    t.statements) around
