use Rattle.std.proofs.Common.{◌∙◌, sym}
use Rattle.protobuf_parse_run.proofs.Reading.{read_stands}
use Rattle.protobuf_parse_run.proofs.one_read.read_one.Goals as goal

pub returns-clause-stands : goal.returns-clause-stands
returns-clause-stands g c =
    read_stands _ _ _ _ _ c.tree_given-tree.result
    (c.to_str.ensures.text ∙ c.as_path.ensures
    ∙ sym (c.in_ok-path.ensures ∙ c.as_path-2.ensures)) c.tree_given-tree.ensures.stands
