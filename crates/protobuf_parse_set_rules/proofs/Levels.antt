-- One level of messages.
use Rattle.std.proofs.Common.{◌≡◌, ◌∙◌, ℕ, List, [], ◌∷◌, ◌++◌, map, refl, sym, ap, append_assoc}
use Rattle.std.specs.List.{flat_map}
use Rattle.protobuf_parse_base.specs.DeclaredNames.{name_bytes}
use Rattle.protobuf_parse_model.specs.Descriptors.{MessageDescriptor, Text, enum_view}
use Rattle.protobuf_parse_model.specs.Descriptors.{message_view, messages_of_list}
use Rattle.protobuf_parse_model.specs.MessageParts.{message_parts}
use Rattle.protobuf_parse_model.specs.declared.descriptor.DescriptorProto.{DescriptorProto}
use Rattle.protobuf_parse_model.specs.declared.descriptor.DescriptorProto.{out-DescriptorProto}
use Rattle.protobuf_parse_model.specs.declared.scope.seen.TypeKind.TheVariants as kind
use Rattle.protobuf_parse_model.proofs.Levels.{message_view_is}
use Rattle.protobuf_parse_set_rules.specs.Breaches.{SetBreach}
use Rattle.protobuf_parse_set_rules.specs.Names.{within}
use Rattle.protobuf_parse_set_rules.specs.Rules.{message_breaches, name_breaches, named}
use Rattle.protobuf_parse_set_rules.specs.Rules.{nested_breaches, parts_breaches}
use Rattle.protobuf_parse_set_rules.specs.Sights.{Sight}
use Rattle.protobuf_parse_set_rules.specs.Types.{DeclaredType, enum_declared, types_around}
use Rattle.protobuf_parse_set_rules.specs.Types.{types_inside}

-- ---- types

all_types : (n : ℕ) (scope : Text) (ms : List MessageDescriptor)
    → types_inside n scope (messages_of_list ms) ≡ flat_map (types_around n scope) ms
all_types n scope [] = refl
all_types n scope (m ∷ ms) = ap (λ ts. types_around n scope m ++ ts) (all_types n scope ms)

-- what a message declares, with those inside it
pub types_of_one : (n : ℕ) (scope : Text) (m : DescriptorProto)
    → types_around n scope (message_view m)
    ≡ record {
      name = within scope (name_bytes (out-DescriptorProto m).name);
      kind = kind.Message;
      file = n;
    }
    ∷ (map (enum_declared n (within scope (name_bytes (out-DescriptorProto m).name)))
    (map enum_view (out-DescriptorProto m).enum_type.items)
    ++ flat_map (types_around n (within scope (name_bytes (out-DescriptorProto m).name)))
    (map message_view (out-DescriptorProto m).nested_type.items))
types_of_one n scope m =
    let own = name_bytes (out-DescriptorProto m).name in
    let enums = map (enum_declared n (within scope own))
    (map enum_view (out-DescriptorProto m).enum_type.items) in
    let itself : DeclaredType = record {
      name = within scope own;
      kind = kind.Message;
      file = n;
    } in
    ap (types_around n scope) (message_view_is m)
    ∙ ap (λ (ts : List DeclaredType). itself ∷ (enums ++ ts))
    (all_types n (within scope own) (map message_view (out-DescriptorProto m).nested_type.items))

-- the same, where its full name is known
pub types_named : (n : ℕ) (scope name : Text) (m : DescriptorProto)
    → name ≡ within scope (name_bytes (out-DescriptorProto m).name)
    → types_around n scope (message_view m)
    ≡ record { name = name; kind = kind.Message; file = n }
    ∷ (map (enum_declared n name) (map enum_view (out-DescriptorProto m).enum_type.items)
    ++ flat_map (types_around n name)
    (map message_view (out-DescriptorProto m).nested_type.items))
types_named n scope name m is =
    types_of_one n scope m
    ∙ ap (λ (s : Text). types_with n s m) (sym is)
  where
    types_with : ℕ → Text → DescriptorProto → List DeclaredType
    types_with n s m =
        record { name = s; kind = kind.Message; file = n }
        ∷ (map (enum_declared n s) (map enum_view (out-DescriptorProto m).enum_type.items)
        ++ flat_map (types_around n s) (map message_view (out-DescriptorProto m).nested_type.items))

-- a message, then its enums, then the messages inside it
pub types_more : (a b e n enums nested all : List DeclaredType) (itself : DeclaredType)
    → b ≡ a ++ itself ∷ [] → e ≡ b ++ enums → n ≡ e ++ nested
    → all ≡ itself ∷ (enums ++ nested) → n ≡ a ++ all
types_more a b e n enums nested all itself p q r is =
    r ∙ ap (λ z. z ++ nested) (q ∙ ap (λ z. z ++ enums) p)
    ∙ ap (λ z. z ++ nested) (append_assoc a (itself ∷ []) enums)
    ∙ append_assoc a (itself ∷ enums) nested
    ∙ ap (λ z. a ++ z) (sym is)

-- ---- rules

all_breaches : (sees : Sight) (file scope : Text) (ms : List MessageDescriptor)
    → nested_breaches sees file scope (messages_of_list ms)
    ≡ flat_map (message_breaches sees file scope) ms
all_breaches sees file scope [] = refl
all_breaches sees file scope (m ∷ ms) =
    ap (λ bs. message_breaches sees file scope m ++ bs) (all_breaches sees file scope ms)

-- what is told of a message and of those inside it
pub breaches_of_one : (sees : Sight) (file scope : Text) (m : DescriptorProto)
    → message_breaches sees file scope (message_view m)
    ≡ name_breaches (named file scope (name_bytes (out-DescriptorProto m).name))
    (name_bytes (out-DescriptorProto m).name)
    ++ (parts_breaches sees file (within scope (name_bytes (out-DescriptorProto m).name))
    (message_parts m)
    ++ flat_map (message_breaches sees file
    (within scope (name_bytes (out-DescriptorProto m).name)))
    (map message_view (out-DescriptorProto m).nested_type.items))
breaches_of_one sees file scope m =
    let own = name_bytes (out-DescriptorProto m).name in
    ap (message_breaches sees file scope) (message_view_is m)
    ∙ ap (λ (bs : List SetBreach). name_breaches (named file scope own) own
    ++ (parts_breaches sees file (within scope own) (message_parts m) ++ bs))
    (all_breaches sees file (within scope own)
    (map message_view (out-DescriptorProto m).nested_type.items))

-- the same, where its full name is known
pub breaches_named : (sees : Sight) (file scope name : Text) (m : DescriptorProto)
    → name ≡ within scope (name_bytes (out-DescriptorProto m).name)
    → message_breaches sees file scope (message_view m)
    ≡ name_breaches (named file scope (name_bytes (out-DescriptorProto m).name))
    (name_bytes (out-DescriptorProto m).name)
    ++ (parts_breaches sees file name (message_parts m)
    ++ flat_map (message_breaches sees file name)
    (map message_view (out-DescriptorProto m).nested_type.items))
breaches_named sees file scope name m is =
    let own = name_bytes (out-DescriptorProto m).name in
    breaches_of_one sees file scope m
    ∙ ap (λ (s : Text). name_breaches (named file scope own) own
    ++ (parts_breaches sees file s (message_parts m)
    ++ flat_map (message_breaches sees file s)
    (map message_view (out-DescriptorProto m).nested_type.items))) (sym is)

-- what is told of a name, then of parts, then of messages inside
pub told_of_three : (a b p n own parts nested all : List SetBreach) → b ≡ a ++ own
    → p ≡ b ++ parts → n ≡ p ++ nested → all ≡ own ++ (parts ++ nested) → n ≡ a ++ all
told_of_three a b p n own parts nested all e f g is =
    g ∙ ap (λ z. z ++ nested) (f ∙ ap (λ z. z ++ parts) e)
    ∙ ap (λ z. z ++ nested) (append_assoc a own parts)
    ∙ append_assoc a (own ++ parts) nested
    ∙ ap (λ z. a ++ z) (append_assoc own parts nested)
    ∙ ap (λ z. a ++ z) (sym is)
