-- Bodies where nothing that is wrong depends on others.
use Rattle.std.proofs.Common.{◌≡◌, Bool, true, false, ◌||◌, List, [], ◌∷◌, ◌++◌, refl, sym, ap, ◌∙◌}
use Rattle.std.proofs.Common.{Option, None, inl, inr}
use Rattle.std.specs.Prelude.{◌&&◌, is_some}
use Rattle.std.specs.List.{flat_map, list_any}
use Rattle.std.proofs.lemmas.Bool.{cases_Bool}
use Rattle.protobuf_parse_model.specs.Descriptors.{FieldDescriptor, Text}
use Rattle.protobuf_parse_rules.specs.Alike.{fields_alike}
use Rattle.protobuf_parse_rules.specs.Asking.{asks, field_asks}
use Rattle.protobuf_parse_rules.specs.Claims.{Claim, conflicts}
use Rattle.protobuf_parse_rules.specs.Customs.{are_any}
use Rattle.protobuf_parse_rules.specs.Defaults.{default_of}
use Rattle.protobuf_parse_rules.specs.Enums.{enum_breaches}
use Rattle.protobuf_parse_rules.specs.EnumUses.{default_value, enum_of_field, enum_of_proto2}
use Rattle.protobuf_parse_rules.specs.EnumUses.{is_enum, map_value, of_enum}
use Rattle.protobuf_parse_rules.specs.FieldOptions.{js_type_option, lazy_option, option_of}
use Rattle.protobuf_parse_rules.specs.FieldOptions.{packed_option}
use Rattle.protobuf_parse_rules.specs.Imports.{import_breaches, unused_imports, unused_in}
use Rattle.protobuf_parse_rules.specs.JsonNames.{json_names_in_use}
use Rattle.protobuf_parse_rules.specs.Limits.{limit}
use Rattle.protobuf_parse_rules.specs.Maps.{is_entry, key_type}
use Rattle.protobuf_parse_rules.specs.MessageSets.{field_of_set}
use Rattle.protobuf_parse_rules.specs.Numbers.{claims, number_rule}
use Rattle.protobuf_parse_rules.specs.Methods.{methods_breaches, service_breaches}
use Rattle.protobuf_parse_rules.specs.Nesting.{deep_messages}
use Rattle.protobuf_parse_rules.specs.Oneofs.{empty_oneofs}
use Rattle.protobuf_parse_rules.specs.Bodies.{Content, BodyParts, enums_of, extensions_of}
use Rattle.protobuf_parse_rules.specs.Bodies.{fields_of}
use Rattle.protobuf_parse_rules.specs.Bodies.{imports_of, of_file, of_message, reserved_names}
use Rattle.protobuf_parse_rules.specs.Bodies.{services_of}
use Rattle.protobuf_parse_rules.specs.Positions.{by_position}
use Rattle.protobuf_parse_rules.specs.Proto3.{default_field, group_field, required_field}
use Rattle.protobuf_parse_rules.specs.Ranges.{kept_number, reserved_name, reserved_number}
use Rattle.protobuf_parse_rules.specs.Repeats.{repeats}
use Rattle.protobuf_parse_rules.specs.Rules.{Breach, Broken, Site, breaches_at}
use Rattle.protobuf_parse_rules.specs.Violations.{breaches_after, breaches_inside}
use Rattle.protobuf_parse_rules.specs.Violations.{breaches_of_body}
use Rattle.protobuf_parse_rules.specs.Violations.{extension_breaches, field_breaches, own_rules}
use Rattle.protobuf_parse_rules.specs.Violations.{range_breaches, site_in, site_of_body}
use Rattle.protobuf_parse_rules.specs.declared.rule.Rule.TheVariants as rule
use Rattle.protobuf_parse_rules.proofs.Passing.{no_enum, no_map_value}
use Rattle.protobuf_parse_rules.proofs.Allowing.{never_proto2, no_default, not_some}

left : (a b : Bool) → (a || b) ≡ false → a ≡ false
left false b h = refl
left true b h = absurd cc

right : (a b : Bool) → (a || b) ≡ false → b ≡ false
right false b h = h
right true b h = absurd cc

behind : (a b : Bool) → (a && b) ≡ false → a ≡ true → b ≡ false
behind true b h so = h
behind false b h so = absurd cc

any_nil : {X : Type 0} (xs : List X) → are_any xs ≡ false → xs ≡ []
any_nil [] h = refl
any_nil (x ∷ xs) h = absurd cc

-- ---- fields

-- what is told of a field, by what the rules say that look at enums
abbrev told : BodyParts → FieldDescriptor → (x y z : Option Broken) → List Breach
told p f x y z =
    breaches_at (site_in p f.name) (limit false f.number
    ∷ reserved_number f.number p.content
    ∷ reserved_name f.name p.content
    ∷ kept_number f.number p.content
    ∷ field_of_set p.content
    ∷ key_type p.content f
    ∷ x
    ∷ [])
    ++ breaches_at (site_in p f.name) (required_field p.proto3 f.label
    ∷ group_field p.proto3 f.type_
    ∷ default_field p.proto3 f.default_value
    ∷ default_of f f.default_value
    ∷ option_of (packed_option f.label f.type_) f
    ∷ option_of (lazy_option f.type_) f
    ∷ option_of (js_type_option f.type_) f
    ∷ y
    ∷ z
    ∷ [])

module _ (all : List BodyParts) (p : BodyParts) (f : FieldDescriptor)
    (h : field_asks p.proto3 p.content f ≡ false) where
  no_value : of_enum all (map_value p.content f) f ≡ None
  no_value =
      elim (cases_Bool (is_enum f.type_)) [
        | inl so ↦ no_map_value all p.content f (enum_of_field all f)
            (right (p.proto3 || is_some f.default_value) (is_entry p.content)
            (behind (is_enum f.type_)
            ((p.proto3 || is_some f.default_value) || is_entry p.content) h so))
        | inr not_so ↦ no_enum all f (map_value p.content f) not_so
      ]

  no_proto2 : of_enum all (enum_of_proto2 p.proto3) f ≡ None
  no_proto2 =
      elim (cases_Bool (is_enum f.type_)) [
        | inl so ↦
            ap (λ b. of_enum all (enum_of_proto2 b) f)
            (left p.proto3 (is_some f.default_value)
            (left (p.proto3 || is_some f.default_value) (is_entry p.content)
            (behind (is_enum f.type_)
            ((p.proto3 || is_some f.default_value) || is_entry p.content) h so)))
            ∙ never_proto2 (enum_of_field all f)
        | inr not_so ↦ no_enum all f (enum_of_proto2 p.proto3) not_so
      ]

  no_value_named : of_enum all (default_value f) f ≡ None
  no_value_named =
      elim (cases_Bool (is_enum f.type_)) [
        | inl so ↦ no_default all f (enum_of_field all f)
            (not_some f.default_value
            (right p.proto3 (is_some f.default_value)
            (left (p.proto3 || is_some f.default_value) (is_entry p.content)
            (behind (is_enum f.type_)
            ((p.proto3 || is_some f.default_value) || is_entry p.content) h so))))
        | inr not_so ↦ no_enum all f (default_value f) not_so
      ]

  field_alone : field_breaches all p f ≡ told p f None None None
  field_alone =
      ap (λ x. told p f x (of_enum all (enum_of_proto2 p.proto3) f)
      (of_enum all (default_value f) f))
      no_value
      ∙ ap (λ y. told p f None y (of_enum all (default_value f) f)) no_proto2
      ∙ ap (λ z. told p f None None z) no_value_named

fields_alone : (all : List BodyParts) (p : BodyParts) (fs : List FieldDescriptor)
    → list_any (field_asks p.proto3 p.content) fs ≡ false
    → flat_map (field_breaches [] p) fs ≡ flat_map (field_breaches all p) fs
fields_alone all p [] h = refl
fields_alone all p (f ∷ fs) h =
    let here = left (field_asks p.proto3 p.content f)
    (list_any (field_asks p.proto3 p.content) fs) h in
    ap (λ bs. bs ++ flat_map (field_breaches [] p) fs)
    (field_alone [] p f here ∙ sym (field_alone all p f here))
    ∙ ap (λ bs. field_breaches all p f ++ bs)
    (fields_alone all p fs (right (field_asks p.proto3 p.content f)
    (list_any (field_asks p.proto3 p.content) fs) h))

-- ---- imports

none_unused : (all : List BodyParts) (site : Site) (content : Content)
    → are_any (imports_of content) ≡ false → unused_in all site content ≡ []
none_unused all site (of_message m) h = refl
none_unused all site (of_file f) h =
    ap (λ (paths : List Text). by_position (import_breaches all site f.public_dependency) 0 paths)
    (any_nil f.dependency h)

-- ---- bodies

-- what is told of a body, by what is told of its fields, its extensions, its imports and its methods
abbrev told_inside : BodyParts → (fields extensions imports methods : List Breach) → List Breach
told_inside p fields extensions imports methods =
    (json_names_in_use p ++ fields_alike p)
    ++ (fields
    ++ (extensions
    ++ ((breaches_at (site_of_body p) (own_rules p.proto3 p.content)
    ++ (empty_oneofs p
    ++ ((repeats rule.ImportedTwice (site_of_body p) (imports_of p.content) ++ imports)
    ++ (repeats rule.NameReservedTwice (site_of_body p) (reserved_names p.content)
    ++ (range_breaches p
    ++ (deep_messages p ++ methods))))))
    ++ flat_map (enum_breaches p) (enums_of p.content))))

body_alone : (all : List BodyParts) (p : BodyParts) → asks p ≡ false
    → breaches_inside [] p ≡ breaches_inside all p
body_alone all p h =
    let fields = fields_of p.content in
    let extensions = extensions_of p.content in
    let services = services_of p.content in
    let others = left (are_any (imports_of p.content) || (are_any extensions || are_any services))
    (list_any (field_asks p.proto3 p.content) fields) h in
    let declared = right (are_any (imports_of p.content)) (are_any extensions || are_any services)
    others in
    let none = any_nil extensions (left (are_any extensions) (are_any services) declared) in
    let no_service = any_nil services (right (are_any extensions) (are_any services) declared) in
    let imports = left (are_any (imports_of p.content)) (are_any extensions || are_any services)
    others in
    ap (λ bs. told_inside p bs (flat_map (extension_breaches [] p) extensions)
    (unused_imports [] p) (methods_breaches [] p))
    (fields_alone all p fields (right
    (are_any (imports_of p.content) || (are_any extensions || are_any services))
    (list_any (field_asks p.proto3 p.content) fields) h))
    ∙ ap (λ bs. told_inside p (flat_map (field_breaches all p) fields) bs (unused_imports [] p)
    (methods_breaches [] p))
    (ap (flat_map (extension_breaches [] p)) none
    ∙ sym (ap (flat_map (extension_breaches all p)) none))
    ∙ ap (λ bs. told_inside p (flat_map (field_breaches all p) fields)
    (flat_map (extension_breaches all p) extensions) bs (methods_breaches [] p))
    (none_unused [] (site_of_body p) p.content imports
    ∙ sym (none_unused all (site_of_body p) p.content imports))
    ∙ ap (λ bs. told_inside p (flat_map (field_breaches all p) fields)
    (flat_map (extension_breaches all p) extensions) (unused_imports all p) bs)
    (ap (flat_map (service_breaches [] p.file p.scope)) no_service
    ∙ sym (ap (flat_map (service_breaches all p.file p.scope)) no_service))

-- Where no body asks, what is told is what would be if there were no others.
pub told_alone : (all : List BodyParts) (before : List Claim) (ps : List BodyParts)
    → list_any asks ps ≡ false → breaches_after [] before ps ≡ breaches_after all before ps
told_alone all before [] h = refl
told_alone all before (p ∷ ps) h =
    ap (λ bs. (conflicts number_rule before (claims p) ++ bs)
    ++ breaches_after [] (before ++ claims p) ps)
    (body_alone all p (left (asks p) (list_any asks ps) h))
    ∙ ap (λ bs. breaches_of_body all before p ++ bs)
    (told_alone all (before ++ claims p) ps (right (asks p) (list_any asks ps) h))
