use Rattle.std.proofs.Common.{List, ℕ, ◌-◌, ap, ◌∙◌, arith, length, take, drop}
use Rattle.protobuf_parse_comments.specs.BytePlaces.{after}
use Rattle.protobuf_parse_comments.specs.declared.place.BytePlace.{BytePlace}
use Rattle.protobuf_parse_source_info.proofs.Cutting.{point_little, point_after, part_short}
use Rattle.protobuf_parse_source_info.proofs.token.passed.Goals as goal

pub place_after-requires-clause-line : goal.place_after-requires-clause-line
place_after-requires-clause-line c =
    let text = c.args.text.now in
    let p = c.args.before in
    omega (
      arith,
      (point_little text p c.requires.before).0,
      part_short (c.args.to - p.byte) p.byte c.as_bytes.result.now,
      ap (λ (z : List ℕ). length z) c.as_bytes.ensures.value,
      c.requires.short,
    )

pub place_after-requires-clause-column : goal.place_after-requires-clause-column
place_after-requires-clause-column c =
    let text = c.args.text.now in
    let p = c.args.before in
    omega (
      arith,
      (point_little text p c.requires.before).1,
      part_short (c.args.to - p.byte) p.byte c.as_bytes.result.now,
      ap (λ (z : List ℕ). length z) c.as_bytes.ensures.value,
      c.requires.short,
    )

pub returns : goal.returns
returns c =
    let p = c.args.before in
    let to = c.args.to in
    ap (λ (q : BytePlace). record { byte = to; place = q })
    (c.place_after.ensures.value
    ∙ ap (λ (z : List ℕ). after p.place (take (to - p.byte) (drop p.byte z)))
    c.as_bytes.ensures.value
    ∙ point_after c.args.text.now p to c.requires.before c.requires.order)
