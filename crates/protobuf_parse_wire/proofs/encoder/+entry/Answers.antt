use Rattle.std.proofs.Common.{◌≡◌, ◌+◌, ◌*◌, ◌≤◌, ◌<◌, length, List, ◌∷◌, [], drop, subst, ap, ◌∙◌}
use Rattle.std.proofs.Common.{refl, arith, drop-cons, add-one}
use Rattle.std.proofs.lemmas.List.{drop_all}
use Rattle.protobuf_parse_wire.specs.declared.entry.Entry.{Entry}
use Rattle.protobuf_parse_wire.specs.Trees.{Entries, entry}
use Rattle.protobuf_parse_wire.specs.Views.{WireItem, entries_view}
use Rattle.protobuf_parse_wire.specs.ViewParts.{entry_value_view}
use Rattle.protobuf_parse_wire.proofs.Appending.{entry_is}
use Rattle.protobuf_parse_wire.proofs.Written.{Completes, begins_behind, begins_more, goes_on, is_done}
use Rattle.protobuf_parse_wire.specs.Kinds.{shape_of_kind, wire_type}
use Rattle.protobuf_parse_wire.proofs.encoder.+entry.Goals as goal

pub encode_into-entries-preserved : goal.encode_into-entries-preserved
encode_into-entries-preserved t c =
    let e : Entry = c.entry-item.result in
    let list : List Entry = c.args.entries.now in
    let i = c.entries.entry-index in
    let below : i < length list = omega arith in
    let step : drop i list ≡ e ∷ drop (i + 1) list =
    rw (add-one, drop-cons list i e, ← c.entry-item.is) refl in
    let rest = entries_view (drop (i + 1) list) in
    let seen : entries_view (e ∷ drop (i + 1) list)
    ≡ entry e.number e.kind (entry_value_view e.value) rest =
    ap (λ (x : WireItem). entry x.number x.kind x.value rest) (entry_is e) in
    let is : c.from.result * 8 + c.wire_type_of.result
    ≡ e.number * 8 + wire_type (shape_of_kind e.kind) =
    omega (arith, c.from.ensures, c.wire_type_of.ensures) in
    let left : Completes
    (entry e.number e.kind (entry_value_view e.value) (entries_view (drop (i + 1) list)))
    (entries_view list) c.args.out.now.items c.entries.out.items =
    subst (λ (xs : Entries). Completes xs
    (entries_view list) c.args.out.now.items c.entries.out.items) (ap entries_view step ∙ seen)
    c.entries.invariant.completes in
    record {
      completes = goes_on (c.from.result * 8 + c.wire_type_of.result) e.number e.kind (entry_value_view e.value)
          (entries_view (drop (i + 1) list))
          (entries_view list) c.args.out.now.items c.entries.out.items c.put_varint.new.out.items _
          left is c.in_ok-put_varint.ensures.ok c.in_ok-put_value.ensures.ok;
      begins = begins_more c.args.out.now.items c.entries.out.items _ c.entries.invariant.begins
          (begins_more c.entries.out.items c.put_varint.new.out.items _
          (begins_behind c.entries.out.items _ _ c.in_ok-put_varint.ensures.ok)
          (begins_behind c.put_varint.new.out.items _ _ c.in_ok-put_value.ensures.ok));
    }

pub encode_into-returns-clause-ok : goal.encode_into-returns-clause-ok
encode_into-returns-clause-ok t c =
    let list : List Entry = c.args.entries.now in
    let past : length list ≤ c.entries.entry-index = omega arith in
    let none : drop c.entries.entry-index list ≡ [] = drop_all c.entries.entry-index list past in
    is_done (entries_view list) c.args.out.now.items c.entries.out.items
    (subst (λ (xs : List Entry). Completes (entries_view xs)
    (entries_view list) c.args.out.now.items c.entries.out.items) none c.entries.invariant.completes)
