use Rattle.std.proofs.Common.{inl}
use Rattle.protobuf_parse_run.proofs.Opening.{content_unparsed, tree_found, tree_lacking}
use Rattle.protobuf_parse_run.proofs.Opening.{tree_of_no_text}
use Rattle.protobuf_parse_run.proofs.asking.tree_of_bytes.Goals as goal

pub returns-clause-tree : goal.returns-clause-tree
returns-clause-tree c =
    tree_found c.tree_of_text.result _ _ c.in-Ok.ensures.cases.0 c.in-Ok.ensures.cases.1
    c.tree_of_text.ensures.tree c.tree_of_text.ensures.only

pub returns-clause-treeless : goal.returns-clause-treeless
returns-clause-treeless c =
    tree_lacking c.tree_of_text.result _ _ c.in-Ok.ensures.cases.0 c.tree_of_text.ensures.treeless

pub returns-clause-stands : goal.returns-clause-stands
returns-clause-stands c =
    content_unparsed c.tree_of_text.result _ _ _ _ c.in-Ok.ensures.cases.0 c.in-Ok.ensures.cases.1
    c.tree_of_text.ensures.stands

pub returns-in_default-clause-treeless : goal.returns-in_default-clause-treeless
returns-in_default-clause-treeless c = inl (tree_of_no_text _ c.in_default.ensures.cases.0)
