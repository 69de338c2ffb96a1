use Rattle.std.proofs.Common.{◌∙◌, ◌+◌, ◌∷◌, ◌++◌, ap, arith, drop, take}
use Rattle.std.proofs.lemmas.List.{length-take-le}
use Rattle.protobuf_parse_wire.proofs.Appending.{high_bit}
use Rattle.protobuf_parse_descriptor_set.proofs.Lengths.{no_groups, next_group, counted, from_start}
use Rattle.protobuf_parse_descriptor_set.proofs.Lengths.{moved, turned}
use Rattle.protobuf_parse_descriptor_set.proofs.parts.put_long_length.Goals as goal

pub groups-init : goal.groups-init
groups-init c = no_groups _ _

pub groups-preserved : goal.groups-preserved
groups-preserved c = rw c.in_ok-push.ensures.items
    (next_group _ c.groups.rest _ _ c.groups.out.items (omega arith) (high_bit c.groups.rest)
    c.groups.invariant)

pub returns : goal.returns
returns c =
    let old = c.args.out.now.items in
    let start = c.args.start in
    let rest = c.groups.rest in
    let g = c.groups.invariant in
    turned _ _ (take start old) (rest ∷ drop (start + 1) old) g.written _ start _ _
    (c.deref_mut.ensures.value ∙ from_start _ rest old _ start g c.requires.within)
    (length-take-le start old (omega (arith, c.requires.within)))
    (omega (
      arith,
      counted _ _ _ _ g,
      c.len.ensures,
      c.len-end.ensures,
      c.groups.out.ok.0,
      c.args.out.now.ok.0,
    ))
    (omega (arith, c.deref_mut.ensures.len)) c.rotate_right.ensures.after
    ∙ ap (λ z. take start old ++ z)
    (moved _ rest old _ start g c.groups-test.false c.requires.is_length)
