-- What a message's bytes mean: its records in order, known or not.
use Rattle.std.specs.Prelude.{ℕ, ℤ, Bool, List}

mutual
  -- A value. A number and a truth value have beside them the number that was on the wire; a float
  -- and a double are their bits.
  pub data Value : Type 0 where
    number : ℕ → ℤ → Value
    float : ℕ → Value
    double : ℕ → Value
    truth : ℕ → Bool → Value
    text : List ℕ → Value
    bytes : List ℕ → Value
    message : Fields → Value

  -- values one after another, as packed numbers are
  pub data Values : Type 0 where
    no_values : Values
    value : Value → Values → Values

  -- what a record means: values, or nothing that is known
  pub data Meaning : Type 0 where
    unknown : Meaning
    known : Values → Meaning

  -- a record's number, all its bytes and what it means, and the records after it
  pub data Fields : Type 0 where
    no_fields : Fields
    field : ℕ → List ℕ → Meaning → Fields → Fields

-- one value
abbrev pub one_value : Value → Meaning
one_value v = known (value v no_values)
