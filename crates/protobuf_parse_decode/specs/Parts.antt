-- No public clause rests on this file.
-- The numbers among the sorts, and the records that were read.
use Rattle.std.specs.Prelude.{pos, ◌<◌, ◌^◌, Bool, false, List, Option, Some, None, Ok}
use Rattle.std.specs.List.{AllByRecursion}
use Rattle.protobuf_parse_records.specs.Views.{Content, WireRecord}
use Rattle.protobuf_parse_model.specs.declared.descriptor.FieldType.{FieldType}
use Rattle.protobuf_parse_wire.specs.Kinds.{Word}
use Rattle.protobuf_parse_decode.specs.Answers.{Answer}
use Rattle.protobuf_parse_decode.specs.Fields.{Meaning, number, unknown}
use Rattle.protobuf_parse_decode.specs.Sorts.{Says, Sort, numbers, string, octets, message, group}
use Rattle.protobuf_parse_decode.specs.Sorts.{sort_of}
use Rattle.protobuf_parse_decode.specs.Decoding.{numbers_in}

-- how numbers of that sort stand and what they mean, if there are any
abbrev pub words_of : Sort → Option (Word × Says)
words_of (numbers w says) = Some (w, says)
words_of (string utf8) = None
words_of octets = None
words_of message = None
words_of group = None

-- the same of a type; whether a string has to be UTF-8 makes no number of it
abbrev pub words_of_type : FieldType → Option (Word × Says)
words_of_type t = words_of (sort_of false t)

-- how they stand
abbrev pub value_word : Option (Word × Says) → Option Word
value_word None = None
value_word (Some w) = Some w.0

-- what they mean
abbrev pub says_of : Option (Word × Says) → Says
says_of None u = number 0 (pos 0)
says_of (Some w) u = w.1 u

-- what a payload means as such numbers
abbrev pub numbers_meant : Option (Word × Says) → Bool → Content → Answer Meaning
numbers_meant None repeated p = Ok unknown
numbers_meant (Some w) repeated p = numbers_in w.0 w.1 repeated p

-- the number is below 2^29, as it is of each record that was read
abbrev pub HasSmallNumber : WireRecord → Type 0
HasSmallNumber r = r.number < 2 ^ 29

-- the same of all
abbrev pub HaveSmallNumbers : List WireRecord → Type 0
HaveSmallNumbers rs = AllByRecursion HasSmallNumber rs
