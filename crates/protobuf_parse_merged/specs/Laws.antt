-- What follows for merged messages.
use Rattle.std.specs.Prelude.{◌≡◌, ◌≤◌, ℕ, suc, List, ◌++◌, Some}
use Rattle.protobuf_parse_model.specs.Descriptors.{Text, FileDescriptor}
use Rattle.protobuf_parse_decode.specs.Fields as decoded
use Rattle.protobuf_parse_decode.specs.Laws.{join}
use Rattle.protobuf_parse_merged.specs.Merged.{Message, a_message, Fields, no_fields, field}
use Rattle.protobuf_parse_merged.specs.Declarations.{declared_in}
use Rattle.protobuf_parse_merged.specs.Occurrences.{occurrences, unknown_among}
use Rattle.protobuf_parse_merged.specs.Merging.{merged_message}

-- Of messages that are joined the values are those of the first and behind them those of the second,
-- and so is what is unknown.
abbrev pub ValuesJoin : Type 0
ValuesJoin = (files : List FileDescriptor) (name : Text) (fs gs : decoded.Fields)
    → (occurrences files (declared_in files name) (join fs gs)
    ≡ occurrences files (declared_in files name) fs ++ occurrences files (declared_in files name) gs)
    × (unknown_among files (declared_in files name) (join fs gs)
    ≡ unknown_among files (declared_in files name) fs
    ++ unknown_among files (declared_in files name) gs)

-- the fields of a message
abbrev pub fields_seen : Message → Fields
fields_seen (a_message fs us) = fs

-- The numbers of fields ascend, from that one on, and each stands once.
abbrev pub Ascend : ℕ → Fields → Type 0
Ascend least no_fields = Unit {0}
Ascend least (field n vs fs) = (least ≤ n) × Ascend (suc n) fs

-- The fields of a merged message ascend.
abbrev pub FieldsAscend : Type 0
FieldsAscend = (files : List FileDescriptor) (name : Text) (fs : decoded.Fields) (m : Message)
    → merged_message files name fs ≡ Some m → Ascend 0 (fields_seen m)
