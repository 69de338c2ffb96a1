use Rattle.std.proofs.Common.{◌≡◌, ◌-◌, List, arith, drop, leb, length, ltb, rules, subst}
use Rattle.std.proofs.Common.{sym, take}
use Rattle.std.specs.List.Sorted.{IsNonDecreasingBy}
use Rattle.std.proofs.lemmas.List.{length-drop, take_all}
use Rattle.std.proofs.lemmas.List.Sorted.{IsNonDecreasingBy-drop, IsPartitionPoint-from_clause}
use Rattle.std.proofs.lemmas.List.Sorted.{IsPartitionedBy-leb, IsPartitionedBy-ltb}
use Rattle.protobuf_parse_model.specs.declared.scope.seen.Declaration.{Declaration}
use Rattle.protobuf_parse_model.proofs.FileOrder.{in_file_found}
use Rattle.protobuf_parse_model.proofs.scope.ordered.in_file.Goals as goal

pub returns : goal.returns
returns c =
    let file_of = λ (d : Declaration). d.file in
    let n = c.args.file in
    let ds = c.args.declarations.now in
    let i = c.partition_point-start.result in
    let rest = take (length ds - i) (drop i ds) in
    let long = length-drop i ds in
    let is : rest ≡ drop i ds = take_all (length ds - i) (drop i ds) (omega (arith, long)) in
    let ascends : IsNonDecreasingBy file_of rest =
    subst (λ (xs : List Declaration). IsNonDecreasingBy file_of xs) (sym is)
    (IsNonDecreasingBy-drop file_of i ds c.requires) in
    let first = IsPartitionPoint-from_clause (λ (d : Declaration). ltb d.file n) _ _
    c.partition_point-start.ensures.partitioned (IsPartitionedBy-ltb file_of ds n c.requires)
    (λ a r q k. search rules) in
    let last = IsPartitionPoint-from_clause (λ (d : Declaration). leb d.file n) _ _
    c.partition_point-end.ensures.partitioned (IsPartitionedBy-leb file_of rest n ascends)
    (λ a r q k. search rules) in
    in_file_found n ds rest i c.partition_point-end.result is c.partition_point-start.ensures.bound
    c.partition_point-end.ensures.bound first last
