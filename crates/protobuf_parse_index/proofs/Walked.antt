-- A walk that grows by messages, enums and extensions.
use Rattle.std.proofs.Common.{◌≡◌, List, [], ◌∷◌, ◌++◌, map}
use Rattle.std.proofs.Common.{refl, sym, ap, subst, ◌∙◌, append_assoc, append-nil}
use Rattle.std.specs.List.{flat_map}
use Rattle.std.proofs.lemmas.Grind.{flat_map-append}
use Rattle.protobuf_parse_base.specs.DeclaredNames.{name_bytes}
use Rattle.protobuf_parse_model.specs.declared.descriptor.DescriptorProto.{DescriptorProto}
use Rattle.protobuf_parse_model.specs.declared.descriptor.DescriptorProto.{out-DescriptorProto}
use Rattle.protobuf_parse_model.specs.Descriptors.{Text, FieldDescriptor}
use Rattle.protobuf_parse_model.specs.Descriptors.{EnumDescriptor, MessageDescriptor, a_message}
use Rattle.protobuf_parse_model.specs.Descriptors.{messages_of_list, message_view}
use Rattle.protobuf_parse_model.specs.MessageParts.{message_parts}
use Rattle.protobuf_parse_model.specs.Descriptors.{MessageParts}
use Rattle.protobuf_parse_model.proofs.Levels.{message_view_is}
use Rattle.protobuf_parse_model.specs.Descriptors.{parts_seen}
use Rattle.protobuf_parse_wire.specs.Declarations.{name_within}
use Rattle.protobuf_parse_index.specs.Puts.{WalkAdds}
use Rattle.protobuf_parse_index.specs.Puts.{WalkAddsMessages}
use Rattle.protobuf_parse_index.specs.Views.{standing_enum, standing_extension, standing_message}
use Rattle.protobuf_parse_index.specs.Walk.{Standing, enums_inside, extensions_inside}
use Rattle.protobuf_parse_index.specs.Walk.{message_within, enums_within}
use Rattle.protobuf_parse_index.specs.Walk.{extensions_within, messages_within}
use Rattle.protobuf_parse_index.specs.declared.walk.Walk.{Walk}

-- what is behind what was there
behind : {X : Type 0} (a b c xs ys : List X) → b ≡ a ++ xs → c ≡ b ++ ys → c ≡ a ++ (xs ++ ys)
behind a b c xs ys p q = q ∙ ap (λ z. z ++ ys) p ∙ append_assoc a xs ys

pub walk_adds_more : (a b c : Walk) (ms ms' : List (Standing MessageDescriptor))
    (es es' : List (Standing EnumDescriptor)) (xs xs' : List (Standing FieldDescriptor))
    → WalkAdds a b ms es xs → WalkAdds b c ms' es' xs'
    → WalkAdds a c (ms ++ ms') (es ++ es') (xs ++ xs')
walk_adds_more a b c ms ms' es es' xs xs' first second = record {
  messages = behind _ _ _ ms ms' first.messages second.messages;
  enums = behind _ _ _ es es' first.enums second.enums;
  extensions = behind _ _ _ xs xs' first.extensions second.extensions;
}

-- by equal lists
pub walk_adds_alike : (a b : Walk) (ms ms' : List (Standing MessageDescriptor))
    (es es' : List (Standing EnumDescriptor)) (xs xs' : List (Standing FieldDescriptor))
    → WalkAdds a b ms es xs → ms ≡ ms' → es ≡ es' → xs ≡ xs' → WalkAdds a b ms' es' xs'
walk_adds_alike a b ms ms' es es' xs xs' adds m e x = record {
  messages = adds.messages ∙ ap (λ z. map standing_message a.messages.items ++ z) m;
  enums = adds.enums ∙ ap (λ z. map standing_enum a.enums.items ++ z) e;
  extensions = adds.extensions ∙ ap (λ z. map standing_extension a.extensions.items ++ z) x;
}

pub walk_adds_messages : (a b c : Walk) (ms ms' all : List (Standing MessageDescriptor))
    → WalkAddsMessages a b ms → WalkAddsMessages b c ms' → all ≡ ms ++ ms'
    → WalkAddsMessages a c all
walk_adds_messages a b c ms ms' all first second is =
    subst (λ (z : List (Standing MessageDescriptor)). WalkAddsMessages a c z) (sym is)
    (walk_adds_alike a c (ms ++ ms') (ms ++ ms') _ _ _ _
    (walk_adds_more a b c ms ms' _ _ _ _ first second) refl
    (sym (flat_map-append enums_inside ms ms')) (sym (flat_map-append extensions_inside ms ms')))

-- ---- a message, and those inside it

within_list : (path scope : Text) (ms : List MessageDescriptor)
    → messages_within path scope (messages_of_list ms) ≡ flat_map (message_within path scope) ms
within_list path scope [] = refl
within_list path scope (m ∷ ms) =
    ap (λ z. message_within path scope m ++ z) (within_list path scope ms)

-- the message itself
abbrev pub itself : (path name : Text) → DescriptorProto → Standing MessageDescriptor
itself path name m = record { file = path; name = name; what = message_view m }

pub message_apart : (path scope name : Text) (m : DescriptorProto)
    → name ≡ name_within scope (name_bytes (out-DescriptorProto m).name)
    → message_within path scope (message_view m)
    ≡ itself path name m ∷ flat_map (message_within path name)
    (map message_view (out-DescriptorProto m).nested_type.items)
message_apart path scope name m named =
    let inside = map message_view (out-DescriptorProto m).nested_type.items in
    let whole : MessageDescriptor = a_message (message_parts m) (messages_of_list inside) in
    ap (message_within path scope) (message_view_is m)
    ∙ ap (λ (n : Text). record { file = path; name = n; what = whole }
    ∷ messages_within path n (messages_of_list inside)) (sym named)
    ∙ ap (λ (w : MessageDescriptor). record { file = path; name = name; what = w }
    ∷ messages_within path name (messages_of_list inside)) (sym (message_view_is m))
    ∙ ap (λ z. itself path name m ∷ z) (within_list path name inside)

pub parts_are : (m : DescriptorProto) → parts_seen (message_view m) ≡ message_parts m
parts_are m = ap parts_seen (message_view_is m)

-- ---- files

-- a message, what stands in it, and the messages inside it
pub message_walked : (path scope name : Text) (m : DescriptorProto) (old a b new : Walk)
    (es : List EnumDescriptor) (xs : List FieldDescriptor) (inside : List DescriptorProto)
    → name ≡ name_within scope (name_bytes (out-DescriptorProto m).name)
    → WalkAdds old a (itself path name m ∷ []) [] []
    → WalkAdds a b [] (enums_within path name es) (extensions_within path name xs)
    → es ≡ (message_parts m).enum_type → xs ≡ (message_parts m).extension
    → WalkAddsMessages b new (flat_map (message_within path name) (map message_view inside))
    → inside ≡ (out-DescriptorProto m).nested_type.items
    → WalkAddsMessages old new (message_within path scope (message_view m))
message_walked path scope name m old a b new es xs inside named one within e x nested is =
    let d : Standing MessageDescriptor = itself path name m in
    let both : WalkAdds old b (d ∷ []) (enums_within path name es)
    (extensions_within path name xs) =
    walk_adds_more old a b (d ∷ []) [] [] (enums_within path name es) []
    (extensions_within path name xs) one within in
    let own : WalkAddsMessages old b (d ∷ []) =
    walk_adds_alike old b (d ∷ []) (d ∷ []) _ _ _ _ both refl
    (ap (enums_within path name) (e ∙ ap (λ (p : MessageParts). p.enum_type) (sym (parts_are m)))
    ∙ sym (append-nil (enums_inside d)))
    (ap (extensions_within path name)
    (x ∙ ap (λ (p : MessageParts). p.extension) (sym (parts_are m)))
    ∙ sym (append-nil (extensions_inside d))) in
    walk_adds_messages old b new (d ∷ [])
    (flat_map (message_within path name) (map message_view inside)) _ own nested
    (message_apart path scope name m named
    ∙ ap (λ (ms : List DescriptorProto). d
    ∷ flat_map (message_within path name) (map message_view ms)) (sym is))

-- one message put behind the others
pub message_pushed : (path name : Text) (m : DescriptorProto) (old a : Walk)
    → map standing_message a.messages.items
    ≡ map standing_message old.messages.items ++ itself path name m ∷ []
    → a.enums ≡ old.enums → a.extensions ≡ old.extensions
    → WalkAdds old a (itself path name m ∷ []) [] []
message_pushed path name m old a pushed e x = record {
  messages = pushed;
  enums = ap (λ v. map standing_enum v.items) e
      ∙ sym (append-nil (map standing_enum old.enums.items));
  extensions = ap (λ v. map standing_extension v.items) x
      ∙ sym (append-nil (map standing_extension old.extensions.items));
}

-- ---- one file more
