-- How deep messages are nested: less than 32 deep. The grammar leaves it open; protoc 3.21 refuses
-- a message inside 31 others.
use Rattle.std.specs.Prelude.{ℕ, ◌+◌, nat_lt, Bool, if◌then◌else◌, List, [], ◌∷◌, ◌++◌, flat_map}
use Rattle.std.specs.Prelude.{Some}
use Rattle.protobuf_parse_model.specs.Descriptors.{Text, MessageDescriptor, MessageDescriptors}
use Rattle.protobuf_parse_model.specs.Descriptors.{a_message, messages, no_messages}
use Rattle.protobuf_parse_wire.specs.Declarations.{name_within}
use Rattle.protobuf_parse_rules.specs.Bodies.{BodyParts, Content, of_file, of_message}
use Rattle.protobuf_parse_rules.specs.Rules.{Breach, breaches_at, broken}
use Rattle.protobuf_parse_rules.specs.declared.rule.Rule.TheVariants as rule

abbrev mutual
  -- C55 at each message in the scope around which 31 others stand; of those inside of it nothing
  -- is told
  pub too_deep : (file scope : Text) → (around : ℕ) → MessageDescriptor → List Breach
  too_deep file scope around (a_message parts nested) = if nat_lt 30 around
      then breaches_at (record { file = file; construct = name_within scope parts.name })
      (Some (broken rule.NestedTooDeep) ∷ [])
      else all_too_deep file (name_within scope parts.name) (around + 1) nested

  -- of messages that stand side by side
  pub all_too_deep : (file scope : Text) → (around : ℕ) → MessageDescriptors → List Breach
  all_too_deep file scope around no_messages = []
  all_too_deep file scope around (messages m ms) =
      too_deep file scope around m ++ all_too_deep file scope around ms

-- of the messages of a file
abbrev pub deep_in : (file scope : Text) → Content → List Breach
deep_in file scope (of_message m) = []
deep_in file scope (of_file f) = flat_map (too_deep file scope 0) f.message_type

-- of a body
abbrev pub deep_messages : BodyParts → List Breach
deep_messages p = deep_in p.file p.scope p.content
