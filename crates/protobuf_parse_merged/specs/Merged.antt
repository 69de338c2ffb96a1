-- A message as people mean it: its fields, each once, and what is unknown.
use Rattle.std.specs.Prelude.{ℕ, ℤ, Bool, List, [], ◌∷◌}

-- what is no value of a field: a record's number and all its bytes, or a field's number and the
-- varint of a number that its enum doesn't declare
pub data Unknown : Type 0 where
  record_of : ℕ → List ℕ → Unknown
  word_of : ℕ → ℕ → Unknown

mutual
  -- A value. A number has before it the number that was on the wire; a float and a double are their
  -- bits.
  pub data Value : Type 0 where
    number : ℕ → ℤ → Value
    float : ℕ → Value
    double : ℕ → Value
    truth : Bool → Value
    text : List ℕ → Value
    bytes : List ℕ → Value
    message : Message → Value

  -- values one after another
  pub data Values : Type 0 where
    no_values : Values
    value : Value → Values → Values

  -- a field's number and its values, and the fields after it
  pub data Fields : Type 0 where
    no_fields : Fields
    field : ℕ → Values → Fields → Fields

  -- a message: the fields that are present, and what is unknown
  pub data Message : Type 0 where
    a_message : Fields → List Unknown → Message

-- a list of values
abbrev pub values_of : List Value → Values
values_of [] = no_values
values_of (v ∷ vs) = value v (values_of vs)

-- one field
pub record FieldItem : Type 0 where
  pub number : ℕ
  pub values : List Value

-- a list of fields
abbrev pub fields_of : List FieldItem → Fields
fields_of [] = no_fields
fields_of (f ∷ fs) = field f.number (values_of f.values) (fields_of fs)
