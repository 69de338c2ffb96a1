-- The keys of full names are those that go on from the scopes'.
use Rattle.std.proofs.Common.{◌≡◌, ℕ, true, false, not, List, [], ◌∷◌, ◌++◌, map, refl, sym, ap}
use Rattle.std.proofs.Common.{◌∙◌, append-nil, cond, Option, Some, None}
use Rattle.std.proofs.lemmas.List.{map-append}
use Rattle.std.specs.List.{flat_map, fold}
use Rattle.std.proofs.lemmas.Grind.{flat_map-append, fold-append}
use Rattle.protobuf_parse_base.specs.Characters as char
use Rattle.protobuf_parse_base.specs.Names.{dotted_parts}
use Rattle.protobuf_parse_model.specs.Descriptors.{Text, EnumDescriptor, EnumValueDescriptor}
use Rattle.protobuf_parse_model.specs.Descriptors.{FieldDescriptor, MethodDescriptor}
use Rattle.protobuf_parse_model.specs.Descriptors.{OneofDescriptor, ServiceDescriptor}
use Rattle.protobuf_parse_wire.specs.Declarations.{name_within}
use Rattle.protobuf_parse_rules.specs.Keys.{enum_keys, field_keys, inner_keys, inside, is_package}
use Rattle.protobuf_parse_rules.specs.Keys.{keys_at, method_keys, mixed, name_key, no_text}
use Rattle.protobuf_parse_rules.specs.Keys.{other_keys, own_keys, packages_at}
use Rattle.protobuf_parse_rules.specs.Keys.{packages_in, service_keys, text_key, value_keys}
use Rattle.protobuf_parse_rules.specs.Names.{Named, enum_named, fields_named, inner_named}
use Rattle.protobuf_parse_rules.specs.Names.{methods_named, named_in, names_at, oneofs_named}
use Rattle.protobuf_parse_rules.specs.Names.{own_named, package_named, packages_named}
use Rattle.protobuf_parse_rules.specs.Names.{service_named, values_named}
use Rattle.protobuf_parse_rules.specs.Bodies.{Content, BodyParts, enums_of, extensions_of, of_file}
use Rattle.protobuf_parse_rules.specs.Bodies.{of_message, services_of}
use Rattle.protobuf_parse_rules.specs.declared.kind.NamedKind.{NamedKind}
use Rattle.protobuf_parse_rules.specs.declared.kind.NamedKind.TheVariants as kind

-- the key of a name in a scope
within : (scope name : Text) → text_key (name_within scope name) ≡ fold mixed (inside scope) name
within scope name = fold-append mixed no_text scope (char.dot ∷ name)

-- keys of packages, and of all others
abbrev packages_of : List Named → List ℕ
packages_of ns = flat_map (keys_at true) ns

abbrev others_of : List Named → List ℕ
others_of ns = flat_map (keys_at false) ns

packages_of-append : (xs ys : List Named)
    → packages_of (xs ++ ys) ≡ packages_of xs ++ packages_of ys
packages_of-append xs ys = flat_map-append (keys_at true) xs ys

others_of-append : (xs ys : List Named) → others_of (xs ++ ys) ≡ others_of xs ++ others_of ys
others_of-append xs ys = flat_map-append (keys_at false) xs ys

-- ---- what are no packages

-- names of a kind in a scope
module _ {X : Type 0} (file scope : Text) (k : NamedKind) (name : X → Text)
    (other : is_package k ≡ false) where
  none_packages : (xs : List X)
      → packages_of (map (λ (x : X). named_in file scope k (name x)) xs) ≡ []
  none_packages [] = refl
  none_packages (x ∷ xs) =
      ap (λ b. cond b (name_key (named_in file scope k (name x)) ∷ []) []
      ++ packages_of (map (λ (y : X). named_in file scope k (name y)) xs)) other
      ∙ none_packages xs

  all_others : (xs : List X)
      → others_of (map (λ (x : X). named_in file scope k (name x)) xs)
      ≡ map (λ (x : X). fold mixed (inside scope) (name x)) xs
  all_others [] = refl
  all_others (x ∷ xs) =
      ap (λ b. cond (not b) (name_key (named_in file scope k (name x)) ∷ []) []
      ++ others_of (map (λ (y : X). named_in file scope k (name y)) xs)) other
      ∙ ap (λ n. n ∷ others_of (map (λ (y : X). named_in file scope k (name y)) xs))
      (within scope (name x))
      ∙ ap (λ ns. fold mixed (inside scope) (name x) ∷ ns) (all_others xs)

abbrev field_name : FieldDescriptor → Text
field_name f = f.name

abbrev oneof_name : OneofDescriptor → Text
oneof_name o = o.name

abbrev value_name : EnumValueDescriptor → Text
value_name v = v.name

abbrev method_name : MethodDescriptor → Text
method_name m = m.name

module _ (file scope : Text) where
  enum_packages : (es : List EnumDescriptor)
      → packages_of (flat_map (enum_named file scope) es) ≡ []
  enum_packages [] = refl
  enum_packages (e ∷ es) =
      packages_of-append (values_named file scope e.value) (flat_map (enum_named file scope) es)
      ∙ ap (λ ks. ks ++ packages_of (flat_map (enum_named file scope) es))
      (none_packages file scope kind.EnumValue value_name refl e.value)
      ∙ enum_packages es

  enum_others : (es : List EnumDescriptor)
      → others_of (flat_map (enum_named file scope) es) ≡ flat_map (enum_keys (inside scope)) es
  enum_others [] = refl
  enum_others (e ∷ es) =
      ap (λ n. n ∷ others_of (values_named file scope e.value
      ++ flat_map (enum_named file scope) es)) (within scope e.name)
      ∙ ap (λ ks. fold mixed (inside scope) e.name ∷ ks)
      (others_of-append (values_named file scope e.value) (flat_map (enum_named file scope) es)
      ∙ ap (λ ks. ks ++ others_of (flat_map (enum_named file scope) es))
      (all_others file scope kind.EnumValue value_name refl e.value)
      ∙ ap (λ ks. value_keys (inside scope) e.value ++ ks) (enum_others es))

  service_packages : (ss : List ServiceDescriptor)
      → packages_of (flat_map (service_named file scope) ss) ≡ []
  service_packages [] = refl
  service_packages (s ∷ ss) =
      packages_of-append (methods_named file (name_within scope s.name) s.method)
      (flat_map (service_named file scope) ss)
      ∙ ap (λ ks. ks ++ packages_of (flat_map (service_named file scope) ss))
      (none_packages file (name_within scope s.name) kind.Method method_name refl s.method)
      ∙ service_packages ss

  service_others : (ss : List ServiceDescriptor)
      → others_of (flat_map (service_named file scope) ss)
      ≡ flat_map (service_keys (inside scope)) ss
  service_others [] = refl
  service_others (s ∷ ss) =
      let rest = flat_map (service_named file scope) ss in
      let methods = methods_named file (name_within scope s.name) s.method in
      let itself = fold mixed (inside scope) s.name in
      ap (λ n. n ∷ others_of (methods ++ rest)) (within scope s.name)
      ∙ ap (λ ks. itself ∷ ks)
      (others_of-append methods rest
      ∙ ap (λ ks. ks ++ others_of rest)
      (all_others file (name_within scope s.name) kind.Method method_name refl s.method
      ∙ ap (λ k. method_keys (mixed k char.dot) s.method) (within scope s.name))
      ∙ ap (λ ks. method_keys (mixed itself char.dot) s.method ++ ks) (service_others ss))

  inner_packages : (c : Content) → packages_of (inner_named file scope c) ≡ []
  inner_packages c =
      let services = flat_map (service_named file scope) (services_of c) in
      let extensions = fields_named file scope kind.Extension (extensions_of c) in
      packages_of-append (flat_map (enum_named file scope) (enums_of c)) (services ++ extensions)
      ∙ ap (λ ks. ks ++ packages_of (services ++ extensions)) (enum_packages (enums_of c))
      ∙ packages_of-append services extensions
      ∙ ap (λ ks. ks ++ packages_of extensions) (service_packages (services_of c))
      ∙ none_packages file scope kind.Extension field_name refl (extensions_of c)

  inner_others : (c : Content)
      → others_of (inner_named file scope c) ≡ inner_keys (inside scope) c
  inner_others c =
      let enums = flat_map (enum_keys (inside scope)) (enums_of c) in
      let services = flat_map (service_named file scope) (services_of c) in
      let extensions = fields_named file scope kind.Extension (extensions_of c) in
      others_of-append (flat_map (enum_named file scope) (enums_of c)) (services ++ extensions)
      ∙ ap (λ ks. ks ++ others_of (services ++ extensions)) (enum_others (enums_of c))
      ∙ ap (λ ks. enums ++ ks)
      (others_of-append services extensions
      ∙ ap (λ ks. ks ++ others_of extensions) (service_others (services_of c))
      ∙ ap (λ ks. flat_map (service_keys (inside scope)) (services_of c) ++ ks)
      (all_others file scope kind.Extension field_name refl (extensions_of c)))

-- ---- packages

-- names of packages have their keys, and no others
all_packages : (file scope : Text) (parts : List Text)
    → packages_of (packages_named file scope parts)
    ≡ map name_key (packages_named file scope parts)
all_packages file scope [] = refl
all_packages file scope (p ∷ ps) =
    ap (λ ks. name_key (named_in file scope kind.Package p) ∷ ks)
    (all_packages file (name_within scope p) ps)

none_others : (file scope : Text) (parts : List Text)
    → others_of (packages_named file scope parts) ≡ []
none_others file scope [] = refl
none_others file scope (p ∷ ps) = none_others file (name_within scope p) ps

own_packages : (file scope : Text) (c : Content)
    → packages_of (own_named file scope c) ≡ map name_key (packages_in file c)
own_packages file scope (of_message m) =
    packages_of-append (fields_named file scope kind.Field m.field)
    (oneofs_named file scope m.oneof_decl)
    ∙ ap (λ ks. ks ++ packages_of (oneofs_named file scope m.oneof_decl))
    (none_packages file scope kind.Field field_name refl m.field)
    ∙ none_packages file scope kind.Oneof oneof_name refl m.oneof_decl
own_packages file scope (of_file f) = named_packages f.«package»
  where
    named_packages : (o : Option Text)
        → packages_of (package_named file o) ≡ map name_key (package_named file o)
    named_packages None = refl
    named_packages (Some name) = all_packages file [] (dotted_parts name)

own_others : (file scope : Text) (c : Content)
    → others_of (own_named file scope c) ≡ own_keys (text_key scope) (inside scope) c
own_others file scope (of_message m) =
    ap (λ ks. text_key scope ∷ ks)
    (others_of-append (fields_named file scope kind.Field m.field)
    (oneofs_named file scope m.oneof_decl)
    ∙ ap (λ ks. ks ++ others_of (oneofs_named file scope m.oneof_decl))
    (all_others file scope kind.Field field_name refl m.field)
    ∙ ap (λ ks. field_keys (inside scope) m.field ++ ks)
    (all_others file scope kind.Oneof oneof_name refl m.oneof_decl))
own_others file scope (of_file f) = no_others f.«package»
  where
    no_others : (o : Option Text) → others_of (package_named file o) ≡ []
    no_others None = refl
    no_others (Some name) = none_others file [] (dotted_parts name)

-- ---- all bodies

pub package_keys_are : (ps : List BodyParts)
    → flat_map (keys_at true) (flat_map names_at ps) ≡ map name_key (flat_map packages_at ps)
package_keys_are [] = refl
package_keys_are (p ∷ ps) =
    let own = own_named p.file p.scope p.content in
    let inner = inner_named p.file p.scope p.content in
    packages_of-append (own ++ inner) (flat_map names_at ps)
    ∙ ap (λ ks. ks ++ packages_of (flat_map names_at ps))
    (packages_of-append own inner
    ∙ ap (λ ks. packages_of own ++ ks) (inner_packages p.file p.scope p.content)
    ∙ append-nil (packages_of own)
    ∙ own_packages p.file p.scope p.content)
    ∙ ap (λ ks. map name_key (packages_at p) ++ ks) (package_keys_are ps)
    ∙ sym (map-append name_key (packages_at p) (flat_map packages_at ps))

pub other_keys_are : (ps : List BodyParts)
    → flat_map (keys_at false) (flat_map names_at ps) ≡ flat_map other_keys ps
other_keys_are [] = refl
other_keys_are (p ∷ ps) =
    let own = own_named p.file p.scope p.content in
    let inner = inner_named p.file p.scope p.content in
    others_of-append (own ++ inner) (flat_map names_at ps)
    ∙ ap (λ ks. ks ++ others_of (flat_map names_at ps))
    (others_of-append own inner
    ∙ ap (λ ks. ks ++ others_of inner) (own_others p.file p.scope p.content)
    ∙ ap (λ ks. own_keys (text_key p.scope) (inside p.scope) p.content ++ ks)
    (inner_others p.file p.scope p.content))
    ∙ ap (λ ks. other_keys p ++ ks) (other_keys_are ps)
