use Rattle.std.proofs.Common.{List, ap, ◌∙◌}
use Rattle.protobuf_parse_source_info.specs.Walks.{Located}
use Rattle.protobuf_parse_source_info.specs.InnerViews.{doing, headed, changed, with_gaps}
use Rattle.protobuf_parse_source_info.specs.declared.found.Between.{Between}
use Rattle.protobuf_parse_source_info.proofs.walker.Walker.head_ends.Goals as goal

pub returns : goal.returns
unfolding headed
returns c =
    let d = doing c.args.self.now in
    ap (λ (f : List Located). record { found = f; ahead = d.ahead })
    (c.put_gaps.ensures
    ∙ ap (λ (g : Between). changed (with_gaps (record {
      skipped = c.args.mark.skipped.items;
      before = c.args.mark.before;
      behind = g;
    })) c.args.at d.found)
    c.gap.ensures)
