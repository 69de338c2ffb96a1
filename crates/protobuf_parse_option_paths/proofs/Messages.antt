-- What stands in a message of the code.
use Rattle.std.proofs.Common.{◌≡◌, ℕ, suc, ◌-◌, ◌≤◌, List, [], ◌∷◌, ◌++◌, map, Option, Result}
use Rattle.std.proofs.Common.{arith, drop, get_or, length, take, ap, sym, ◌∙◌}
use Rattle.std.specs.Borrow.{Bor}
use Rattle.std.specs.Result.{IfOk}
use Rattle.std.proofs.lemmas.List.{map-append, take_all}
use Rattle.std.proofs.lemmas.Result.{IfOk-weaker}
use Rattle.protobuf_parse_base.specs.DeclaredNames.{name_bytes}
use Rattle.protobuf_parse_model.specs.declared.customs.Construct.{Construct}
use Rattle.protobuf_parse_model.specs.declared.descriptor.DescriptorProto.{DescriptorProto}
use Rattle.protobuf_parse_model.specs.declared.descriptor.DescriptorProto.{out-DescriptorProto}
use Rattle.protobuf_parse_model.specs.Declarations.{Scope}
use Rattle.protobuf_parse_model.specs.Descriptors.{MessageDescriptor, message_view, parts_seen}
use Rattle.protobuf_parse_model.specs.Descriptors.{Text}
use Rattle.protobuf_parse_model.specs.SeenFiles.{name_texts}
use Rattle.protobuf_parse_model.proofs.Levels.{list_of_is, message_view_is}
use Rattle.protobuf_parse_source_info.specs.Walks.{Path}
use Rattle.protobuf_parse_option_paths.specs.InnerViews.{inside_bearer, bearer_at}
use Rattle.protobuf_parse_option_paths.specs.Bearers.{message_bearer, nested_in}

-- the first number of a path, and the others
pub one_apart : (p : Path) → 1 ≤ length p → p ≡ get_or p 0 0 ∷ take (length p - 1) (drop 1 p)
one_apart [] some = absurd (omega arith)
one_apart (n ∷ p) some =
    ap (λ (q : Path). n ∷ q) (sym (take_all (suc (length p) - 1) p (omega arith)))

-- its name
name_is : (m : DescriptorProto)
    → (parts_seen (message_view m)).name ≡ name_bytes (out-DescriptorProto m).name
name_is m = ap (λ (k : MessageDescriptor). (parts_seen k).name) (message_view_is m)

-- the messages inside it
nested_is : (m : DescriptorProto)
    → nested_in (message_view m) ≡ map message_view (out-DescriptorProto m).nested_type.items
nested_is m =
    ap nested_in (message_view_is m)
    ∙ list_of_is (map message_view (out-DescriptorProto m).nested_type.items)

-- Inside of a message, whose name went to the scope, behind a number and an index.
pub in_message : {E : Type 0} (r : Result (Option Construct) E) (new old pushed : List (Bor Text))
    (name : Bor Text) (m : DescriptorProto) (nested : Bor (List DescriptorProto)) (n i : ℕ)
    (rest path : Path) → path ≡ n ∷ i ∷ rest → pushed ≡ old ++ name ∷ []
    → name.now ≡ name_bytes (out-DescriptorProto m).name
    → nested.now ≡ (out-DescriptorProto m).nested_type.items
    → IfOk r (λ c. bearer_at new c
    ≡ inside_bearer (name_texts pushed) (map message_view nested.now) n i rest)
    → IfOk r (λ c. bearer_at new c ≡ message_bearer (name_texts old) (message_view m) path)
in_message r new old pushed name m nested n i rest path is more named held found =
    let scope : name_texts pushed ≡ name_texts old ++ (parts_seen (message_view m)).name ∷ [] =
    ap name_texts more ∙ map-append (λ (s : Bor (List ℕ)). s.now) old (name ∷ [])
    ∙ ap (λ (t : Text). name_texts old ++ t ∷ []) (named ∙ sym (name_is m)) in
    let messages : map message_view nested.now ≡ nested_in (message_view m) =
    ap (map message_view) held ∙ sym (nested_is m) in
    IfOk-weaker r _ _
    (λ c e. e ∙ ap (λ (s : Scope). inside_bearer s (map message_view nested.now) n i rest) scope
    ∙ ap (λ (ms : List MessageDescriptor).
    inside_bearer (name_texts old ++ (parts_seen (message_view m)).name ∷ []) ms n i rest) messages
    ∙ ap (message_bearer (name_texts old) (message_view m)) (sym is))
    found
