-- What holds of the tree of the text holds of what it imports.
use Rattle.std.proofs.Common.{List, map, length, sym, ap, ◌∙◌, arith}
use Rattle.protobuf_parse_syntax.specs.Dependencies.{dependencies_of}
use Rattle.protobuf_parse_syntax.specs.Trees.{FileSyntax, statement_syntax}
use Rattle.protobuf_parse_syntax.specs.declared.tree.FileStatement.{FileStatement}
use Rattle.protobuf_parse_syntax.proofs.Counts.{file_length}
use Rattle.protobuf_parse_syntax.proofs.dependencies.parse_dependencies.Goals as goal

pub imports_of-requires : goal.imports_of-requires
imports_of-requires c =
    let tree = c.in_ok-tree.tree in
    omega (
      arith,
      c.in_ok-tree.ensures.few,
      file_length tree.statements.items,
      ap length c.as_slice.ensures.value,
    )

pub returns-clause-only : goal.returns-clause-only
returns-clause-only c = λ u is.
    c.in_ok-found.ensures
    ∙ (ap (λ (ss : List FileStatement). dependencies_of (map statement_syntax ss))
    c.as_slice.ensures.value
    ∙ ap (λ (t : FileSyntax). dependencies_of t.statements) (sym (c.in_ok-tree.ensures.only u is)))
