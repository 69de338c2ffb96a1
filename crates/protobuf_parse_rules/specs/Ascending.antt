-- No public clause rests on this file.
-- Messages whose numbers are told apart at a glance.
use Rattle.std.specs.Prelude.{ℤ, pos, Bool, true, not, ◌&&◌, ◌||◌, List, [], ◌∷◌, int_lt}
use Rattle.protobuf_parse_model.specs.Descriptors.{Text, FieldDescriptor}
use Rattle.protobuf_parse_rules.specs.Customs.{are_any}
use Rattle.protobuf_parse_rules.specs.Bodies.{Content, BodyParts, extensions_of, fields_of, of_file}
use Rattle.protobuf_parse_rules.specs.Bodies.{of_message}

-- each number is above the one before it, and the first above that one
abbrev pub ascend_from : ℤ → List FieldDescriptor → Bool
ascend_from last [] = true
ascend_from last (f ∷ fs) = int_lt last f.number && ascend_from f.number fs

-- something is extended, or the numbers of the fields don't ascend
abbrev pub is_mixed : BodyParts → Bool
is_mixed p = are_any (extensions_of p.content) || not (ascend_from (pos 0) (fields_of p.content))

-- the full name of a message
abbrev pub scopes_in : (scope : Text) → Content → List Text
scopes_in scope (of_message m) = scope ∷ []
scopes_in scope (of_file f) = []

abbrev pub message_scopes : BodyParts → List Text
message_scopes p = scopes_in p.scope p.content
