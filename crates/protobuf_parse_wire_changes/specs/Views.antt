-- The code's changes as those of the definitions.
use Rattle.std.specs.Prelude.{List, map}
use Rattle.protobuf_parse_wire_changes.specs.declared.change.WireChange.{WireChange}
use Rattle.protobuf_parse_wire_changes.specs.Changes.{Change}

-- a change
abbrev pub change_view : WireChange → Change
change_view c = record {
  kind = c.kind;
  message = c.message.now;
  old_message = c.old_message.now;
  number = c.number;
}

-- changes in order
abbrev pub changes_view : List WireChange → List Change
changes_view cs = map change_view cs
