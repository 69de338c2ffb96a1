-- Messages one level deep.
use Rattle.std.proofs.Common.{◌≡◌, ◌∙◌, ℕ, zero, suc, Bool, List, [], ◌∷◌, ap}
use Rattle.std.proofs.Common.{◌++◌, flat_map, length, map, refl}
use Rattle.std.specs.Prelude.{option_map, slice_get}
use Rattle.protobuf_parse_model.specs.Descriptors.{Text, FieldDescriptor, FileDescriptor}
use Rattle.protobuf_parse_model.specs.Descriptors.{field_view, file_view}
use Rattle.protobuf_parse_model.specs.declared.descriptor.FileDescriptorProto.{FileDescriptorProto}
use Rattle.protobuf_parse_model.specs.Descriptors.{message_view, messages_of_list}
use Rattle.protobuf_parse_model.specs.MessageParts.{message_parts}
use Rattle.protobuf_parse_model.specs.declared.descriptor.DescriptorProto.{DescriptorProto}
use Rattle.protobuf_parse_model.specs.declared.descriptor.DescriptorProto.{out-DescriptorProto}
use Rattle.protobuf_parse_model.proofs.Levels.{message_view_is}
use Rattle.protobuf_parse_wire.specs.Declarations.{name_within, package_scope}
use Rattle.protobuf_parse_proto_text.specs.Made.{inner_seen, inside_text, nested_in}
use Rattle.protobuf_parse_proto_text.specs.Made.{text_in_file}
use Rattle.protobuf_parse_proto_text.specs.Order.{Part, extension_members, message_members}
use Rattle.protobuf_parse_proto_text.specs.Order.{parts_of}
use Rattle.protobuf_parse_proto_text.specs.OrderViews.{all_parts}
use Rattle.protobuf_parse_proto_text.specs.ProtoText.{Inner, all_inner, body_of, inner_of}
use Rattle.protobuf_parse_proto_text.specs.ProtoText.{body_front, message_ranges, part_text}
use Rattle.protobuf_parse_proto_text.specs.ProtoText.{file_declared, file_inner}
use Rattle.protobuf_parse_proto_text.specs.ProtoText.{is_proto3, parts_of_inner}

pub length_of_map : {X Y : Type 0} (f : X → Y) (xs : List X) → length (map f xs) ≡ length xs
length_of_map f [] = refl
length_of_map f (x ∷ xs) = ap suc (length_of_map f xs)

pub get_of_map : {X Y : Type 0} (f : X → Y) (xs : List X) (n : ℕ)
    → slice_get (map f xs) n ≡ option_map f (slice_get xs n)
get_of_map f [] n = refl
get_of_map f (x ∷ xs) zero = refl
get_of_map f (x ∷ xs) (suc n) = get_of_map f xs n

module _ (files : List FileDescriptor) (proto3 : Bool) where
  all_of_list : (scope : Text) (ms : List DescriptorProto)
      → all_inner files proto3 scope (messages_of_list (map message_view ms))
      ≡ inner_seen files proto3 scope ms
  all_of_list scope [] = refl
  all_of_list scope (m ∷ ms) =
      ap (λ is. inner_of files proto3 scope (message_view m) ∷ is) (all_of_list scope ms)

  -- a list of messages in a scope
  pub all_inner_is : (scope : Text) (ms : List DescriptorProto)
      → all_inner files proto3 scope (messages_of_list (map message_view ms))
      ≡ inner_seen files proto3 scope ms
  all_inner_is = all_of_list

  -- what a message says itself
  pub parts_are : (scope : Text) (m : DescriptorProto)
      → (inner_of files proto3 scope (message_view m)).parts ≡ message_parts m
  parts_are scope m = ap (λ v. (inner_of files proto3 scope v).parts) (message_view_is m)

  -- and its body
  pub body_is : (scope : Text) (m : DescriptorProto)
      → (inner_of files proto3 scope (message_view m)).body
      ≡ body_of files proto3 (name_within scope (message_parts m).name) (message_parts m)
      (inner_seen files proto3 (name_within scope (message_parts m).name)
      (out-DescriptorProto m).nested_type.items)
  body_is scope m = ap (λ v. (inner_of files proto3 scope v).body) (message_view_is m)
      ∙ ap (body_of files proto3 (name_within scope (message_parts m).name) (message_parts m))
      (all_of_list (name_within scope (message_parts m).name)
      (out-DescriptorProto m).nested_type.items)

  -- what messages say themselves
  pub all_parts_are : (scope : Text) (ms : List DescriptorProto)
      → parts_of_inner (inner_seen files proto3 scope ms) ≡ all_parts ms
  all_parts_are scope [] = refl
  all_parts_are scope (m ∷ ms) =
      ap (λ p. p ∷ parts_of_inner (inner_seen files proto3 scope ms)) (parts_are scope m)
      ∙ ap (λ ps. message_parts m ∷ ps) (all_parts_are scope ms)

  -- the body of a message with its order
  pub body_in_order : (around : Text) (m : DescriptorProto) (level : ℕ)
      → (inner_of files proto3 around (message_view m)).body level
      ≡ body_front files level (message_parts m)
      ++ inside_text files proto3 level (name_within around (message_parts m).name) m
      ++ message_ranges level (message_parts m)
  unfolding body_of
  body_in_order around m level =
      let scope : Text = name_within around (message_parts m).name in
      let inner : List Inner = inner_seen files proto3 scope (nested_in m) in
      let all : List Part → Text = λ parts. body_front files level (message_parts m)
      ++ flat_map (part_text files proto3 level inner) parts
      ++ message_ranges level (message_parts m) in
      ap (λ (b : ℕ → Text). b level) (body_is around m)
      ∙ ap (λ n. all (parts_of n
      (message_members scope (parts_of_inner inner) (message_parts m))))
      (length_of_map _ (nested_in m))
      ∙ ap (λ ps. all (parts_of (length (nested_in m))
      (message_members scope ps (message_parts m)))) (all_parts_are scope (nested_in m))

-- what a file declares, with its order
pub declared_in_order : (files : List FileDescriptor) (f : FileDescriptorProto)
    → file_declared files (file_view f) (file_inner files (file_view f))
    ≡ text_in_file files (package_scope (file_view f).«package») f
declared_in_order files f =
    let proto3 : Bool = is_proto3 (file_view f).syntax in
    let scope : Text = package_scope (file_view f).«package» in
    let ms : List DescriptorProto = f.message_type.items in
    let inner : List Inner = inner_seen files proto3 scope ms in
    let all : List Part → Text = λ parts. flat_map (part_text files proto3 0 inner) parts in
    let extensions : List FieldDescriptor = map field_view f.extension.items in
    ap (λ (is : List Inner). file_declared files (file_view f) is)
    (all_inner_is files proto3 scope ms)
    ∙ ap (λ n. all (parts_of n (extension_members scope (parts_of_inner inner) extensions)))
    (length_of_map _ ms)
    ∙ ap (λ ps. all (parts_of (length ms) (extension_members scope ps extensions)))
    (all_parts_are files proto3 scope ms)
