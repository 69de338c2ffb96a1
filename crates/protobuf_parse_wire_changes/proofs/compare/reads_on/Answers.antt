use Rattle.std.proofs.Common.{◌≡◌, List, [], ◌∷◌, length, map, refl, sym, ◌∙◌, arith}
use Rattle.std.proofs.lemmas.Bool.{eqb-true}
use Rattle.std.proofs.lemmas.Grind.{common_steps}
use Rattle.std.specs.Vec.{vec_len}
use Rattle.protobuf_parse_model.specs.Descriptors.{file_view}
use Rattle.protobuf_parse_wire_changes.specs.declared.change.WireChange.{WireChange}
use Rattle.protobuf_parse_wire_changes.specs.Changes.{wire_changes}
use Rattle.protobuf_parse_wire_changes.specs.Views.{changes_view}
use Rattle.protobuf_parse_wire_changes.proofs.Sound.{old_bytes_are_read}
use Rattle.protobuf_parse_wire_changes.proofs.compare.reads_on.Goals as goal

empty : (xs : List WireChange) → length xs ≡ 0 → changes_view xs ≡ []
empty [] h = refl
empty (x ∷ xs) h = absurd (omega arith)

pub returns : goal.returns
returns c = λ yes.
    let old = map file_view c.args.old.now in
    let new = map file_view c.args.new.now in
    let items = c.in_ok-changes.changes.items in
    let len = eqb-true (vec_len c.in_ok-changes.changes) 0 (sym c.is_empty.ensures ∙ yes) in
    let zero : length items ≡ 0 = grind (arith, common_steps, len) in
    let none : wire_changes c.args.strength old new ≡ [] =
    sym c.in_ok-changes.ensures ∙ empty items zero in
    old_bytes_are_read c.args.strength old new none
