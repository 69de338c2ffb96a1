-- No public clause rests on this file.
-- Values and payloads, one by one.
use Rattle.std.specs.Prelude.{ℕ, ℤ, pos, List, Option, Some, None, Err}
use Rattle.protobuf_parse_model.specs.Descriptors.{Text}
use Rattle.protobuf_parse_wire.specs.declared.fault.ReadFault.TheVariants.{FloatOrGroup}
use Rattle.protobuf_parse_wire.specs.declared.entry.EntryValue.{EntryValue, fold-EntryValue}
use Rattle.protobuf_parse_wire.specs.Kinds as kinds
use Rattle.protobuf_parse_wire.specs.Kinds.{KindShape}
use Rattle.protobuf_parse_wire.specs.Reading.{WireRead, Inner, decoded, payload_at}
use Rattle.protobuf_parse_wire.specs.Trees.{EntryTree, ValueTree}
use Rattle.protobuf_parse_wire.specs.Views.{WireItem, entry_step, entry_value_step}

abbrev pub entry_value_view : EntryValue → EntryTree
entry_value_view = fold-EntryValue EntryTree WireItem entry_value_step entry_step

-- Values of such a type are whole numbers.
abbrev pub HasNumber : Option KindShape → Type 0
HasNumber (Some (kinds.whole word w code)) = Unit {0}
HasNumber (Some kinds.truth) = ⊥
HasNumber (Some kinds.text) = ⊥
HasNumber (Some kinds.octets) = ⊥
HasNumber (Some kinds.message) = ⊥
HasNumber None = ⊥

-- what an unsigned number says of such a type
abbrev pub number_said : Option KindShape → ℕ → ℤ
number_said (Some (kinds.whole word w code)) u = decoded w code u
number_said (Some kinds.truth) u = pos 0
number_said (Some kinds.text) u = pos 0
number_said (Some kinds.octets) u = pos 0
number_said (Some kinds.message) u = pos 0
number_said None u = pos 0

-- the payload of such a type, and the bytes after it
abbrev pub payload_of_type : Inner → Option Text → Option KindShape → List ℕ
    → WireRead (ValueTree × List ℕ)
payload_of_type inner name (Some s) bs = payload_at inner name s bs
payload_of_type inner name None bs = Err FloatOrGroup
