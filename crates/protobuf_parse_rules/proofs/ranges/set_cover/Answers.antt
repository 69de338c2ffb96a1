use Rattle.std.proofs.Common.{◌∙◌, ◌++◌, ◌∷◌, [], List, ap, get_or, map, pos, subst, sym, take}
use Rattle.std.proofs.Common.{ℤ, rules, w32}
use Rattle.std.specs.Int.RustNames.{FitsSigned}
use Rattle.std.proofs.lemmas.Int.{to_z-of_z}
use Rattle.std.proofs.lemmas.List.{map-append}
use Rattle.protobuf_parse_model.specs.declared.descriptor.ExtensionRange.{ExtensionRange}
use Rattle.protobuf_parse_model.specs.Descriptors.{Range, extension_range_view}
use Rattle.protobuf_parse_rules.specs.Covers.{AreEnds}
use Rattle.protobuf_parse_rules.specs.Ranges.{in_range, range_of_set}
use Rattle.protobuf_parse_rules.proofs.Covering.{ends_apart}
use Rattle.protobuf_parse_rules.proofs.Lists.{mapped_all, mapped_next}
use Rattle.protobuf_parse_rules.proofs.ranges.set_cover.Goals as goal

pub kept-init : goal.kept-init
kept-init c = c.no_ends-ends.ensures in_range

pub kept-preserved : goal.kept-preserved
kept-preserved c =
    let ranges : List ExtensionRange = c.args.ranges.now in
    let i = c.kept.range-index in
    let zero : ExtensionRange = record { start = pos 0; end = pos 0 } in
    let seen : List Range = map extension_range_view (take i ranges) in
    let before : List Range = map range_of_set seen in
    let x : Range = extension_range_view (get_or ranges i zero) in
    let fits : FitsSigned w32 c.end_in_set-end.result = search rules in
    subst (λ (rs : List Range). AreEnds in_range rs c.add_open.new.ends.firsts.items
    c.add_open.new.ends.lasts.items)
    (ap (λ (r : Range). before ++ r ∷ [])
    (ap (λ (e : ℤ). let r : Range = record { start = x.start; end = e } in r)
    (to_z-of_z w32 c.end_in_set-end.result fits)
    ∙ c.end_in_set-end.ensures x.start)
    ∙ sym (ap (map range_of_set)
    (mapped_next extension_range_view ranges i zero c.kept-test.true)
    ∙ map-append range_of_set seen (x ∷ [])))
    (c.in_ok-add_open.ensures before c.kept.invariant)

pub of-requires : goal.of-requires
of-requires c =
    ends_apart in_range
    (map range_of_set (map extension_range_view (take c.kept.range-index c.args.ranges.now)))
    c.kept.ends.firsts.items c.kept.ends.lasts.items c.kept.invariant

pub returns : goal.returns
returns c =
    let before : List Range = map range_of_set
    (map extension_range_view (take c.kept.range-index c.args.ranges.now)) in
    subst (λ (rs : List Range). AreEnds in_range (map range_of_set rs) c.of.result.firsts.items
    c.of.result.lasts.items)
    (mapped_all extension_range_view c.args.ranges.now c.kept.range-index c.kept-test.false)
    (c.of.ensures in_range before c.kept.invariant)
