use Rattle.std.proofs.Common.{ap, ◌∙◌, lit<}
use Rattle.std.proofs.lemmas.Iterator.Consumers.{YieldsList-end}
use Rattle.std.proofs.lemmas.Iterator.Splits.{YieldsList-from_str_split}
use Rattle.protobuf_parse_base.specs.Paths.{kept_of}
use Rattle.protobuf_parse_base.proofs.proto_path.parts.kept_parts.Goals as goal

pub returns : goal.returns
returns c =
    let end = YieldsList-end
    (YieldsList-from_str_split {s = c.into_iter-part-iterator.result} 47 c.args.path.now
    (lit< tt) (cc) (cc) (cc)) c.loop-part.yielded _ c.loop-part.yielded_by _ _ c.in-None.is
    c.next.ensures.steps in
    c.loop-part.invariant ∙ ap kept_of end.0
