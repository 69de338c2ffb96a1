-- Where in a file its messages, enums and extensions stand, and what stands at such a spot.
use Rattle.std.specs.Prelude.{ℕ, suc, List, [], ◌∷◌, ◌++◌, flat_map}
use Rattle.protobuf_parse_model.specs.Descriptors.{Text, FileDescriptor, FieldDescriptor}
use Rattle.protobuf_parse_model.specs.Descriptors.{EnumDescriptor, MessageDescriptor}
use Rattle.protobuf_parse_model.specs.Descriptors.{MessageDescriptors, a_message, no_messages}
use Rattle.protobuf_parse_model.specs.Descriptors.{messages, messages_list}
use Rattle.protobuf_parse_wire.specs.Declarations.{name_within, package_scope}

-- ---- the way down

-- what stands in a file or in a message
pub record Inside : Type 0 where
  pub messages : List MessageDescriptor
  pub enums : List EnumDescriptor
  pub extensions : List FieldDescriptor

-- what stands in a message
abbrev pub inside_message : MessageDescriptor → Inside
inside_message (a_message parts nested) = record {
  messages = messages_list nested;
  enums = parts.enum_type;
  extensions = parts.extension;
}

-- what stands in a file, in no message
abbrev pub inside_file : FileDescriptor → Inside
inside_file file = record {
  messages = file.message_type;
  enums = file.enum_type;
  extensions = file.extension;
}

-- ---- with their spots

-- What has a full name, the path to the message around it, which is empty where there is none, and
-- its number in its list.
pub record SpottedView (T : Type 0) : Type 0 where
  pub name : Text
  pub path : List ℕ
  pub index : ℕ
  pub what : T

-- the path to a message
abbrev pub path_to : SpottedView MessageDescriptor → List ℕ
path_to m = m.path ++ m.index ∷ []

-- things of one list, of which the first has this number
abbrev pub spotted_each : {T : Type 0} → (T → Text) → Text → List ℕ → ℕ → List T
    → List (SpottedView T)
spotted_each name_of scope path index [] = []
spotted_each name_of scope path index (x ∷ xs) =
    record { name = name_within scope (name_of x); path = path; index = index; what = x }
    ∷ spotted_each name_of scope path (suc index) xs

abbrev mutual
  -- the message and those inside it
  pub spotted_message : Text → List ℕ → ℕ → MessageDescriptor → List (SpottedView MessageDescriptor)
  spotted_message scope path index (a_message parts nested) =
      record {
        name = name_within scope parts.name;
        path = path;
        index = index;
        what = a_message parts nested;
      }
      ∷ spotted_nested (name_within scope parts.name) (path ++ index ∷ []) 0 nested

  -- of messages that stand side by side
  pub spotted_nested : Text → List ℕ → ℕ → MessageDescriptors → List (SpottedView MessageDescriptor)
  spotted_nested scope path index no_messages = []
  spotted_nested scope path index (messages m ms) = spotted_message scope path index m
      ++ spotted_nested scope path (suc index) ms

-- the messages of one list and those inside them
abbrev pub spotted_list : Text → List ℕ → ℕ → List MessageDescriptor
    → List (SpottedView MessageDescriptor)
spotted_list scope path index [] = []
spotted_list scope path index (m ∷ ms) = spotted_message scope path index m
    ++ spotted_list scope path (suc index) ms

-- the messages of a file, each before those inside it
abbrev pub spotted_messages : FileDescriptor → List (SpottedView MessageDescriptor)
spotted_messages file = spotted_list (package_scope file.«package») [] 0 file.message_type

-- what stands in these messages
abbrev pub spotted_inside : {T : Type 0} → (T → Text) → (Inside → List T)
    → List (SpottedView MessageDescriptor) → List (SpottedView T)
spotted_inside name_of list ms =
    flat_map (λ (m : SpottedView MessageDescriptor).
    spotted_each name_of m.name (path_to m) 0 (list (inside_message m.what))) ms

-- what stands in the messages of a file, and then in the file
abbrev pub spotted_in : {T : Type 0} → (T → Text) → (Inside → List T) → FileDescriptor
    → List (SpottedView T)
spotted_in name_of list file = spotted_inside name_of list (spotted_messages file)
    ++ spotted_each name_of
    (package_scope file.«package») [] 0 (list (inside_file file))

-- the name of an enum
abbrev pub enum_name : EnumDescriptor → Text
enum_name e = e.name

-- the name of a field or an extension
abbrev pub field_name : FieldDescriptor → Text
field_name f = f.name

-- the enums of what stands there
abbrev pub enums_inside : Inside → List EnumDescriptor
enums_inside inside = inside.enums

-- the extensions of what stands there
abbrev pub extensions_inside : Inside → List FieldDescriptor
extensions_inside inside = inside.extensions

-- the enums of a file
abbrev pub spotted_enums : FileDescriptor → List (SpottedView EnumDescriptor)
spotted_enums file = spotted_in enum_name enums_inside file

-- the extensions of a file
abbrev pub spotted_extensions : FileDescriptor → List (SpottedView FieldDescriptor)
spotted_extensions file = spotted_in field_name extensions_inside file
