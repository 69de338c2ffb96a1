use Rattle.std.proofs.Common.{map}
use Rattle.protobuf_parse_source_info.specs.Info.{comments_in}
use Rattle.protobuf_parse_source_info.specs.Views.{comment_bytes}
use Rattle.protobuf_parse_source_info.proofs.Gathering.{gather_at, gather_end}
use Rattle.protobuf_parse_source_info.proofs.locate.detached_in.Goals as goal

pub gaps-preserved : goal.gaps-preserved
gaps-preserved c =
    gather_at (λ g. (comments_in c.args.text.now g).detached) c.args.gaps.now c.gaps.gap-index
    _ (map comment_bytes c.gaps.detached.items) _ _ c.gaps-test.true
    c.in_ok-add_detached.ensures c.gaps.invariant

pub returns : goal.returns
returns c =
    gather_end (λ g. (comments_in c.args.text.now g).detached) c.args.gaps.now c.gaps.gap-index
    (map comment_bytes c.gaps.detached.items) _ c.gaps-test.false c.gaps.invariant
