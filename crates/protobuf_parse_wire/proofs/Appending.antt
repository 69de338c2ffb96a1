-- Parts of what is written: the groups of a varint, and an entry.
use Rattle.std.proofs.Common.{◌≡◌, ℕ, ◌+◌, ◌*◌, ◌/◌, ◌%◌, ◌^◌, ◌<◌, ◌≤◌, List, [], ◌∷◌, bit_and}
use Rattle.std.proofs.Common.{bit_or, ◌∙◌, arith}
use Rattle.std.proofs.lemmas.Nat.{and_mask, or_shifted, or_comm}
use Rattle.protobuf_parse_wire.specs.Trees.{EntryTree}
use Rattle.protobuf_parse_wire.specs.Wire.{groups, EndsAboveZero, IsVarint}
use Rattle.protobuf_parse_wire.specs.declared.entry.Entry.{Entry, fold_out-Entry}
use Rattle.protobuf_parse_wire.specs.Views.{WireItem, entry_view}
use Rattle.protobuf_parse_wire.specs.ViewParts.{entry_value_view}
use Rattle.protobuf_parse_wire.specs.Views.{entry_value_step}
use Rattle.protobuf_parse_wire.specs.Views.{entry_step}

ends_above : (c : ℕ) (cs : List ℕ) (u : ℕ) → 0 < u → IsVarint (c ∷ cs) u → EndsAboveZero (c ∷ cs)
ends_above c [] u above h = let is = h.value in omega (arith, h.chain)
ends_above c (d ∷ ds) u above h = h.shortest

-- seven bits and the high bit
pub high_bit : (r : ℕ) → bit_or (bit_and r 127) 128 ≡ r % 128 + 128
high_bit r =
    rw (and_mask r 7) (or_comm (r % 2 ^ 7) (1 * 2 ^ 7) ∙ or_shifted 1 7 (r % 2 ^ 7) (omega arith)
    ∙ omega arith)

pub longer : (byte r : ℕ) (tail : List ℕ) → 128 ≤ r → byte ≡ r % 128 + 128 → IsVarint tail (r / 128)
    → IsVarint (byte ∷ tail) r
longer byte r [] many is h = absurd h.chain
longer byte r (c ∷ cs) many is h =
    let v : r / 128 ≡ groups (c ∷ cs) = h.value in
    record {
      bytes = (omega arith, h.bytes);
      chain = (omega arith, h.chain);
      shortest =
          ends_above c cs (r / 128) (omega arith) h;
      value = omega arith;
    }

pub last : (r : ℕ) → r < 128 → IsVarint (r ∷ []) r
last r lt =
    record { bytes = (omega arith, tt); chain = lt; shortest = tt; value = omega arith }

pub entry_is : (e : Entry)
    → entry_view e ≡ record { number = e.number; kind = e.kind; value = entry_value_view e.value }
entry_is e = fold_out-Entry EntryTree WireItem entry_value_step entry_step e
