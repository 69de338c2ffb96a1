-- No public clause rests on this file.
-- What each function that writes fields does.
use Rattle.std.specs.Prelude.{◌≡◌, ◌++◌, ℕ, List}
use Rattle.protobuf_parse_wire.specs.Views.{entries_of_list}
use Rattle.protobuf_parse_wire.specs.Writing.{AreWritable}
use Rattle.protobuf_parse_descriptor_set.specs.Items.{Items, bytes_of}

-- The bytes of a message that has them stand behind what was there, and each value is one of its
-- kind, so that these bytes spell the fields.
pub record Writes (items : Items) (old new : List ℕ) : Type 0 where
  pub bytes : new ≡ old ++ bytes_of items
  pub writable : AreWritable (entries_of_list items)
