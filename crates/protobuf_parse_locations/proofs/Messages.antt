-- A message, with what stands in it.
use Rattle.std.proofs.Common.{◌≡◌, ◌∙◌, ℕ, List, [], ◌∷◌, ◌++◌, map, refl, sym, ap}
use Rattle.protobuf_parse_base.specs.DeclaredNames.{name_bytes}
use Rattle.protobuf_parse_model.specs.Descriptors.{Text, MessageDescriptor, field_view}
use Rattle.protobuf_parse_model.specs.Descriptors.{message_view, messages_of_list}
use Rattle.protobuf_parse_model.specs.MessageParts.{message_parts}
use Rattle.protobuf_parse_model.specs.declared.descriptor.DescriptorProto.{DescriptorProto}
use Rattle.protobuf_parse_model.specs.declared.descriptor.DescriptorProto.{out-DescriptorProto}
use Rattle.protobuf_parse_model.proofs.Levels.{message_view_is}
use Rattle.protobuf_parse_source_info.specs.Parts.{next, nth}
use Rattle.protobuf_parse_source_info.specs.Walks.{Path}
use Rattle.protobuf_parse_wire.specs.Declarations.{name_within}
use Rattle.protobuf_parse_locations.specs.Adds.{Adds}
use Rattle.protobuf_parse_locations.specs.Declarations.{DeclarationAt, behind_messages, field_at}
use Rattle.protobuf_parse_locations.specs.Declarations.{items, message_at, messages_at, named}
use Rattle.protobuf_parse_locations.specs.declared.declaration.DeclarationKind.TheVariants as kind
use Rattle.protobuf_parse_locations.specs.declared.declaration.Declaration.{Declaration}
use Rattle.protobuf_parse_locations.proofs.Going.{adds_alike, adds_more}

messages_listed : (scope : Text) (p : Path) (i : ℕ) (ms : List MessageDescriptor)
    → messages_at scope p i (messages_of_list ms) ≡ items (message_at scope) p 3 i ms
messages_listed scope p i [] = refl
messages_listed scope p i (m ∷ ms) =
    ap (λ z. message_at scope (nth p 3 i) m ++ z) (messages_listed scope p (next i) ms)

-- what stands in a message, whose name is the scope
abbrev pub body : (inside : Text) → Path → DescriptorProto → List DeclarationAt
body inside p m =
    items (field_at kind.Field inside) p 2 0 (map field_view (out-DescriptorProto m).field.items)
    ++ items (message_at inside) p 3 0
    (map message_view (out-DescriptorProto m).nested_type.items)
    ++ behind_messages inside p (message_parts m)

pub message_apart : (scope inside : Text) (p : Path) (m : DescriptorProto)
    → inside ≡ name_within scope (name_bytes (out-DescriptorProto m).name)
    → named kind.Message scope (name_bytes (out-DescriptorProto m).name) p ∷ body inside p m
    ≡ message_at scope p (message_view m)
message_apart scope inside p m is =
    let name : Text = name_bytes (out-DescriptorProto m).name in
    let nested : List MessageDescriptor =
    map message_view (out-DescriptorProto m).nested_type.items in
    ap (λ (s : Text). named kind.Message scope name p ∷ body s p m) is
    ∙ ap (λ (ds : List DeclarationAt). named kind.Message scope name p
    ∷ (items (field_at kind.Field (name_within scope name)) p 2 0
    (map field_view (out-DescriptorProto m).field.items)
    ++ ds ++ behind_messages (name_within scope name) p (message_parts m)))
    (sym (messages_listed (name_within scope name) p 0 nested))
    ∙ ap (message_at scope p) (sym (message_view_is m))

-- the message itself, its fields, the messages inside it, and what is behind them
pub message_added : (scope inside : Text) (p : Path) (m : DescriptorProto)
    (old a b c new : List Declaration)
    → inside ≡ name_within scope (name_bytes (out-DescriptorProto m).name)
    → Adds old a (named kind.Message scope (name_bytes (out-DescriptorProto m).name) p ∷ [])
    → Adds a b (items (field_at kind.Field inside) p 2 0
    (map field_view (out-DescriptorProto m).field.items))
    → Adds b c (items (message_at inside) p 3 0
    (map message_view (out-DescriptorProto m).nested_type.items))
    → Adds c new (behind_messages inside p (message_parts m))
    → Adds old new (message_at scope p (message_view m))
message_added scope inside p m old a b c new is itself fields nested rest =
    adds_alike old new _ _
    (adds_more old a new (named kind.Message scope (name_bytes (out-DescriptorProto m).name) p ∷ [])
    (body inside p m) itself (adds_more a c new _ _ (adds_more a b c _ _ fields nested) rest))
    (message_apart scope inside p m is)
