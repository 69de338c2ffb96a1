-- What can be written.
use Rattle.protobuf_parse_wire.specs.Kinds.{KindShape, whole, truth, text, octets, message}
use Rattle.protobuf_parse_wire.specs.Kinds.{shape_of_kind}
use Rattle.protobuf_parse_wire.specs.Kinds.{InRange}
use Rattle.protobuf_parse_wire.specs.Trees as trees
use Rattle.protobuf_parse_wire.specs.Trees.{EntryTree, Entries, no_entries, entry}
use Rattle.protobuf_parse_wire.specs.Wire.{HasBytes, HasMessages}

-- such a kind's values are truth values
abbrev pub HasTruth : KindShape → Type 0
HasTruth truth = Unit {0}
HasTruth (whole word w code) = ⊥
HasTruth text = ⊥
HasTruth octets = ⊥
HasTruth message = ⊥

abbrev mutual
  -- Each value is one of its kind.
  pub AreWritable : Entries → Type 0
  AreWritable no_entries = Unit {0}
  AreWritable (entry n k v others) = IsWritable (shape_of_kind k) v × AreWritable others

  -- The value is one of such a kind, and whole numbers are in its range.
  pub IsWritable : KindShape → EntryTree → Type 0
  IsWritable s (trees.number v) = InRange s v
  IsWritable s (trees.truth b) = HasTruth s
  IsWritable s (trees.bytes bs) = HasBytes s
  IsWritable s (trees.message es) = HasMessages s × AreWritable es
