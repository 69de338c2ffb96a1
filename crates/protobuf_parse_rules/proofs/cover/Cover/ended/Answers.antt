use Rattle.std.proofs.Common.{rules, arith, subst, List, ℤ, ap, ◌∙◌, IsSorted, sym}
use Rattle.std.specs.Prelude.{int_lt}
use Rattle.std.specs.Ordering.{int_cmp}
use Rattle.std.proofs.lemmas.List.Sorted.{IsPartitionPoint-from_clause}
use Rattle.protobuf_parse_rules.specs.Covers.{ended}
use Rattle.protobuf_parse_rules.proofs.Covering.{parted_below, point_counts}
use Rattle.protobuf_parse_rules.proofs.cover.Cover.ended.Goals as goal

pub returns : goal.returns
returns c =
    let n : ℤ = c.args.number.now in
    let xs : List ℤ = c.deref.result.now in
    let up : IsSorted int_cmp xs =
    subst (λ (l : List ℤ). IsSorted int_cmp l)
    (sym c.deref.ensures.value) c.args.self.now.lasts_rise in
    let point = IsPartitionPoint-from_clause (λ last. int_lt last n) xs _
    c.partition_point.ensures.partitioned (parted_below xs n up) (λ a r q k. search rules) in
    point_counts (λ last. int_lt last n) xs _ c.partition_point.ensures.bound
    (λ k d lt. point.0 k d (omega arith) lt) point.1
    ∙ ap (ended n) c.deref.ensures.value
