-- What a file's descriptor declares that a text has: all that `declarations_of` lists, but for the
-- messages of maps' entries and what stands in these.
use Rattle.std.specs.Prelude.{◌≡◌, ℕ, Bool, false, List, [], ◌∷◌, ◌++◌, Option, Some, None}
use Rattle.std.specs.Prelude.{if◌then◌else◌, unwrap_or}
use Rattle.protobuf_parse_source_info.specs.Parts.{next, nth}
use Rattle.protobuf_parse_source_info.specs.Walks.{Path}
use Rattle.protobuf_parse_model.specs.Descriptors.{FileDescriptor, MessageDescriptor, Text}
use Rattle.protobuf_parse_model.specs.Descriptors.{MessageDescriptors, a_message}
use Rattle.protobuf_parse_model.specs.Descriptors.{messages, no_messages}
use Rattle.protobuf_parse_model.specs.Options.{MessageOptionValues}
use Rattle.protobuf_parse_wire.specs.Declarations.{name_within, package_scope}
use Rattle.protobuf_parse_locations.specs.Declarations.{DeclarationAt, behind_messages}
use Rattle.protobuf_parse_locations.specs.Declarations.{enum_at, field_at, items, named}
use Rattle.protobuf_parse_locations.specs.Declarations.{service_at}
use Rattle.protobuf_parse_locations.specs.declared.declaration.DeclarationKind.TheVariants as kind

-- these options say that a message is that of a map's entries
abbrev pub says_entry : Option MessageOptionValues → Bool
says_entry None = false
says_entry (Some o) = unwrap_or o.map_entry false

abbrev mutual
  -- a message, and what stands in it; nothing if it is that of a map's entries
  pub written_message : (scope : Text) → Path → MessageDescriptor → List DeclarationAt
  written_message scope p (a_message m nested) =
      if says_entry m.options then []
      else named kind.Message scope m.name p
      ∷ (items (field_at kind.Field (name_within scope m.name)) p 2 0 m.field  -- field
      ++ written_messages (name_within scope m.name) p 0 nested  -- nested_type
      ++ behind_messages (name_within scope m.name) p m)

  -- the messages inside the one at a path, from an index on, of which each takes an index
  pub written_messages :
      (scope : Text) → Path → (index : ℕ) → MessageDescriptors → List DeclarationAt
  written_messages scope p i no_messages = []
  written_messages scope p i (messages m ms) =
      written_message scope (nth p 3 i) m ++ written_messages scope p (next i) ms

-- what stands in a file of that package
abbrev pub written_in_package : (scope : Text) → FileDescriptor → List DeclarationAt
written_in_package scope f =
    items (written_message scope) [] 4 0 f.message_type  -- message_type
    ++ items (enum_at scope) [] 5 0 f.enum_type  -- enum_type
    ++ items (service_at scope) [] 6 0 f.service  -- service
    ++ items (field_at kind.Extension scope) [] 7 0 f.extension  -- extension

-- all that a file declares, where that is written
abbrev pub written_declarations : FileDescriptor → List DeclarationAt
written_declarations f = written_in_package (package_scope f.«package») f

-- ---- where nothing is left out

abbrev mutual
  -- Neither the message nor one inside it is that of a map's entries.
  pub HasNoEntries : MessageDescriptor → Type 0
  HasNoEntries (a_message m nested) = (says_entry m.options ≡ false) × HaveNoEntries nested

  -- None of these is.
  pub HaveNoEntries : MessageDescriptors → Type 0
  HaveNoEntries no_messages = Unit {0}
  HaveNoEntries (messages m ms) = HasNoEntries m × HaveNoEntries ms
