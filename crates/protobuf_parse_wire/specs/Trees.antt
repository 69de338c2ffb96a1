-- What is written and what is read, without where it lies in memory.
use Rattle.std.specs.Prelude.{ℕ, ℤ, Bool, List, [], ◌∷◌}
use Rattle.protobuf_parse_wire.specs.declared.kind.Kind.{Kind}

mutual
  -- a value that is written: a number, a truth value, the bytes of a text or of bytes, or a
  -- message
  pub data EntryTree : Type 0 where
    number : ℤ → EntryTree
    truth : Bool → EntryTree
    bytes : List ℕ → EntryTree
    message : Entries → EntryTree

  -- a field's number, its kind and its value, and the entries after it
  pub data Entries : Type 0 where
    no_entries : Entries
    entry : ℕ → Kind → EntryTree → Entries → Entries

mutual
  -- a value that was read
  pub data ValueTree : Type 0 where
    number : ℤ → ValueTree
    truth : Bool → ValueTree
    bytes : List ℕ → ValueTree
    message : Fields → ValueTree

  -- a field's number and its value, and the fields after it
  pub data Fields : Type 0 where
    no_fields : Fields
    field : ℕ → ValueTree → Fields → Fields

-- one field that was read
pub record Field : Type 0 where
  pub number : ℕ
  pub value : ValueTree

-- a list as such fields
abbrev pub fields_of_list : List Field → Fields
fields_of_list [] = no_fields
fields_of_list (f ∷ fs) = field f.number f.value (fields_of_list fs)
