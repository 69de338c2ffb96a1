-- Messages inside messages, one level.
use Rattle.std.proofs.Common.{◌≡◌, ◌∙◌, ◌+◌, ℕ, Bool, false, List, [], ◌∷◌, ◌++◌, map, refl, sym, ap}
use Rattle.std.specs.List.{flat_map}
use Rattle.std.specs.Prelude.{Some, if◌then◌else◌, nat_lt}
use Rattle.protobuf_parse_base.specs.DeclaredNames.{name_bytes}
use Rattle.protobuf_parse_model.specs.declared.descriptor.DescriptorProto.{DescriptorProto}
use Rattle.protobuf_parse_model.specs.declared.descriptor.DescriptorProto.{out-DescriptorProto}
use Rattle.protobuf_parse_model.specs.Descriptors.{MessageDescriptor, Text, message_view}
use Rattle.protobuf_parse_model.specs.Descriptors.{messages_of_list}
use Rattle.protobuf_parse_model.proofs.Levels.{message_view_is}
use Rattle.protobuf_parse_wire.specs.Declarations.{name_within}
use Rattle.protobuf_parse_rules.specs.Nesting.{all_too_deep, too_deep}
use Rattle.protobuf_parse_rules.specs.Rules.{Breach, breaches_at, broken}
use Rattle.protobuf_parse_rules.specs.declared.rule.Rule.TheVariants as rule

all_listed : (file scope : Text) (around : ℕ) (ms : List MessageDescriptor)
    → all_too_deep file scope around (messages_of_list ms)
    ≡ flat_map (too_deep file scope around) ms
all_listed file scope around [] = refl
all_listed file scope around (m ∷ ms) =
    ap (λ bs. too_deep file scope around m ++ bs) (all_listed file scope around ms)

-- a message around which fewer than 31 stand: what is told of those inside it
pub deep_inside : (file scope name : Text) (around : ℕ) (m : DescriptorProto)
    → nat_lt 30 around ≡ false
    → name ≡ name_within scope (name_bytes (out-DescriptorProto m).name)
    → too_deep file scope around (message_view m)
    ≡ flat_map (too_deep file name (around + 1))
    (map message_view (out-DescriptorProto m).nested_type.items)
deep_inside file scope name around m few named =
    let parts_name = name_bytes (out-DescriptorProto m).name in
    let nested = map message_view (out-DescriptorProto m).nested_type.items in
    let told : List Breach = breaches_at (record {
      file = file;
      construct = name_within scope parts_name;
    }) (Some (broken rule.NestedTooDeep) ∷ []) in
    ap (too_deep file scope around) (message_view_is m)
    ∙ ap (λ (b : Bool). if b then told
    else all_too_deep file (name_within scope parts_name) (around + 1) (messages_of_list nested)) few
    ∙ ap (λ (s : Text). all_too_deep file s (around + 1) (messages_of_list nested)) (sym named)
    ∙ all_listed file name (around + 1) nested
