-- What is left of records, or nothing where messages stand too deep inside one another.
use Rattle.std.specs.Prelude.{◌≡◌, Option, Some, None, Result, Ok, Err}
use Rattle.protobuf_parse_merged.specs.declared.fault.MergeError.{MergeError}
use Rattle.protobuf_parse_merged.specs.declared.fault.MergeError.TheVariants as error

-- what is left, or nothing where messages stand too deep
abbrev pub Answer : Type 0 → Type 0
Answer X = Option X

infixl 20 ◌>>=◌
-- the second step takes what the first one gave
abbrev pub ◌>>=◌ : {A B : Type 0} → Answer A → (A → Answer B) → Answer B
Some x >>= f = f x
None >>= f = None

-- A function's error is this answer. Of want of memory nothing is said.
abbrev pub Fails : {B : Type 0} → MergeError → Answer B → Type 0
Fails error.Memory answer = Unit {0}
Fails error.TooDeep answer = answer ≡ None

-- A function's result, its value seen by `view`, is this answer, unless memory runs out.
abbrev pub Gives : {A B : Type 0} → (A → B) → Result A MergeError → Answer B → Type 0
Gives view (Ok x) answer = answer ≡ Some (view x)
Gives view (Err e) answer = Fails e answer
