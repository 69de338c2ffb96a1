-- What follows for whole messages.
use Rattle.std.specs.Prelude.{◌≡◌, ℕ, List, [], ◌++◌, Ok}
use Rattle.protobuf_parse_model.specs.Descriptors.{Text, FileDescriptor}
use Rattle.protobuf_parse_decode.specs.Decoding.{decoded_message}
use Rattle.protobuf_parse_decode.specs.Fields.{Fields, no_fields, field}

-- the bytes of fields, known or not, in order
abbrev pub bytes_of : Fields → List ℕ
bytes_of no_fields = []
bytes_of (field n whole meaning fs) = whole ++ bytes_of fs

-- fields, and others behind them
abbrev pub join : Fields → Fields → Fields
join no_fields gs = gs
join (field n whole meaning fs) gs = field n whole meaning (join fs gs)

-- The bytes of what was decoded, joined, are the message.
abbrev pub FieldsAreTheBytes : Type 0
FieldsAreTheBytes = (files : List FileDescriptor) (name : Text) (bs : List ℕ) (fs : Fields)
    → decoded_message files name bs ≡ Ok fs → bytes_of fs ≡ bs

-- The bytes of two messages, joined, mean the fields of the first and behind them those of the
-- second: so messages can be merged (Protocol Buffers Encoding, "Last One Wins").
abbrev pub MessagesJoin : Type 0
MessagesJoin = (files : List FileDescriptor) (name : Text) (xs ys : List ℕ) (fs gs : Fields)
    → decoded_message files name xs ≡ Ok fs → decoded_message files name ys ≡ Ok gs
    → decoded_message files name (xs ++ ys) ≡ Ok (join fs gs)
