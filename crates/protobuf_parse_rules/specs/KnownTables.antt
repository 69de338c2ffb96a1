-- No public clause rests on this file.
-- What the tables of the code tell.
use Rattle.std.specs.Prelude.{List}
use Rattle.protobuf_parse_rules.specs.Known.{KnowsTypes}
use Rattle.protobuf_parse_rules.specs.KnownUses.{KnowsUses}
use Rattle.protobuf_parse_rules.specs.Bodies.{BodyParts}
use Rattle.protobuf_parse_rules.specs.declared.tables.Tables.{Tables}

-- The tables tell of these bodies.
pub record Knows (t : Tables) (all : List BodyParts) : Type 0 where
  pub types : KnowsTypes t.types all
  pub uses : KnowsUses t.uses all
