use Rattle.std.proofs.Common.{not, rules, arith, subst, List, ℤ, ap, ◌∙◌, IsSorted, sym}
use Rattle.std.specs.Prelude.{int_lt}
use Rattle.std.specs.Ordering.{int_cmp}
use Rattle.std.proofs.lemmas.List.Sorted.{IsPartitionPoint-from_clause}
use Rattle.protobuf_parse_rules.specs.Covers.{begun}
use Rattle.protobuf_parse_rules.proofs.Covering.{parted_from, point_counts}
use Rattle.protobuf_parse_rules.proofs.cover.Cover.begun.Goals as goal

pub returns : goal.returns
returns c =
    let n : ℤ = c.args.number.now in
    let xs : List ℤ = c.deref.result.now in
    let up : IsSorted int_cmp xs =
    subst (λ (l : List ℤ). IsSorted int_cmp l)
    (sym c.deref.ensures.value) c.args.self.now.firsts_rise in
    let point = IsPartitionPoint-from_clause (λ first. not (int_lt n first)) xs _
    c.partition_point.ensures.partitioned (parted_from xs n up) (λ a r q k. search rules) in
    point_counts (λ first. not (int_lt n first)) xs _ c.partition_point.ensures.bound
    (λ k d lt. point.0 k d (omega arith) lt) point.1
    ∙ ap (begun n) c.deref.ensures.value
