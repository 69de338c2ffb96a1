use Rattle.std.proofs.Common.{◌≡◌, map, take, fold, None}
use Rattle.protobuf_parse_lexer.specs.Text.{seen_by}
use Rattle.protobuf_parse_syntax.specs.Trees.{statement_syntax, package_behind}
use Rattle.protobuf_parse_syntax.proofs.tree.FileTree.package.Given as goal

abbrev pub invariant-statements : goal.invariant-statements
invariant-statements l = seen_by (λ z. z.now) l.name
    ≡ fold package_behind None (map statement_syntax
    (take l.statement-index l.self.statements.items))
