-- The code's entries and fields without where they lie in memory.
use Rattle.std.specs.Prelude.{ℕ, List, [], ◌∷◌, map}
use Rattle.protobuf_parse_wire.specs.declared.kind.Kind.{Kind}
use Rattle.protobuf_parse_wire.specs.declared.entry.Entry.{Entry, fold-Entry}
use Rattle.protobuf_parse_wire.specs.declared.entry.EntryValue.TheOpen.{EntryValue-F, Entry-F}
use Rattle.protobuf_parse_wire.specs.declared.field.ReadField.{ReadField, fold-ReadField}
use Rattle.protobuf_parse_wire.specs.declared.field.ReadValue.{ReadValue, fold-ReadValue}
use Rattle.protobuf_parse_wire.specs.declared.field.ReadValue.TheOpen.{ReadValue-F, ReadField-F}
use Rattle.protobuf_parse_wire.specs.Trees.{EntryTree, Entries, ValueTree, Field, fields_of_list}
use Rattle.protobuf_parse_wire.specs.Trees.{number, truth, bytes, message, no_entries, entry}

-- one entry
pub record WireItem : Type 0 where
  pub number : ℕ
  pub kind : Kind
  pub value : EntryTree

-- a list as entries
abbrev pub entries_of_list : List WireItem → Entries
entries_of_list [] = no_entries
entries_of_list (e ∷ es) = entry e.number e.kind e.value (entries_of_list es)

-- one level, with each value inside already seen
abbrev pub entry_value_step : EntryValue-F EntryTree WireItem → EntryTree
entry_value_step (EntryValue-F.Number v) = number v
entry_value_step (EntryValue-F.Bool b) = truth b
entry_value_step (EntryValue-F.Bytes bs) = bytes bs.items
entry_value_step (EntryValue-F.Message es) = message (entries_of_list es.items)

-- one level, with the value inside already seen
abbrev pub entry_step : Entry-F EntryTree WireItem → WireItem
entry_step e = record { number = e.number; kind = e.kind; value = e.value }

-- an entry that the code writes
abbrev pub entry_view : Entry → WireItem
entry_view = fold-Entry EntryTree WireItem entry_value_step entry_step

-- entries that the code writes
abbrev pub entries_view : List Entry → Entries
entries_view es = entries_of_list (map entry_view es)

-- one level, with the fields inside already seen
abbrev pub value_step : ReadValue-F ValueTree Field → ValueTree
value_step (ReadValue-F.Number v) = number v
value_step (ReadValue-F.Bool b) = truth b
value_step (ReadValue-F.Bytes bs) = bytes bs.items
value_step (ReadValue-F.Message fs) = message (fields_of_list fs.items)

-- the same of a field
abbrev pub field_step : ReadField-F ValueTree Field → Field
field_step f = record { number = f.number; value = f.value }

-- a value that the code has read
abbrev pub read_value_view : ReadValue → ValueTree
read_value_view = fold-ReadValue ValueTree Field value_step field_step

-- a field that the code has read
abbrev pub read_field_view : ReadField → Field
read_field_view = fold-ReadField ValueTree Field value_step field_step
