-- What the changes say that the code tells.
use Rattle.std.specs.Prelude.{List, map}
use Rattle.std.specs.Global.{Vec}
use Rattle.protobuf_parse_index.specs.Views.{text_found}
use Rattle.protobuf_parse_changes.specs.Changes.{Changed, Site}
use Rattle.protobuf_parse_changes.specs.declared.change.Change.{Change}
use Rattle.protobuf_parse_changes.specs.declared.change.Place.{Place}

-- a place
abbrev pub place_view : Place → Site
place_view p = record {
  file = p.file.now;
  name = p.name.now;
  member = text_found p.member;
  number = p.number;
}

-- a change
abbrev pub change_view : Change → Changed
change_view c = record { kind = c.kind; at = place_view c.place }

-- what those say, in order
abbrev pub told : Vec Change → List Changed
told v = map change_view v.items
