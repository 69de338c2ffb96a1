-- Files in another order: names mean the same by their descriptors, where no name is declared
-- twice.
use Rattle.std.proofs.Common.{◌≡◌, ℕ, ◌<◌, Bool, true, false, cond, ◌||◌, inl, inr, List, [], ◌∷◌}
use Rattle.std.proofs.Common.{◌++◌, map, filter, flat_map, Option, Some, None, is_some, option_map}
use Rattle.std.proofs.Common.{option_to_list, refl, sym, ap, ◌∙◌, subst, bytes_eq}
use Rattle.std.specs.List.{find, list_any}
use Rattle.std.proofs.Math.Path.{fun_ext}
use Rattle.std.proofs.lemmas.Bool.{cases_Bool}
use Rattle.std.proofs.lemmas.Grind.{flat_map-append}
use Rattle.std.proofs.lemmas.List.{append-nil, map-append}
use Rattle.std.proofs.lemmas.List.Elements.{filter-append}
use Rattle.protobuf_parse_syntax.specs.Trees.{FileSyntax, OptionSyntax}
use Rattle.protobuf_parse_model.specs.Descriptors.{Text, FieldDescriptor, EnumValueDescriptor}
use Rattle.protobuf_parse_model.specs.Descriptors.{EnumDescriptor, MessageParts, FileDescriptor}
use Rattle.protobuf_parse_model.specs.Faults.{Among, here, there}
use Rattle.protobuf_parse_model.specs.Declarations.{Scope, Declared}
use Rattle.protobuf_parse_model.specs.Lookup.{Meanings, declared, meant}
use Rattle.protobuf_parse_model.specs.Linking.{type_names, extension_names, occurrences}
use Rattle.protobuf_parse_model.specs.Linking.{link_faults}
use Rattle.protobuf_parse_model.specs.declared.customs.Construct.{Construct}
use Rattle.protobuf_parse_model.specs.Environment.{CustomFaults, CustomBytes, Customs}
use Rattle.protobuf_parse_model.proofs.Blaming.{among_left, among_right}
use Rattle.protobuf_parse_elaboration.specs.FilesByPath.{Trees, among, trees_at}
use Rattle.protobuf_parse_elaboration.proofs.Lookups.{found_is}
use Rattle.protobuf_parse_elaboration.proofs.Orders.{same-text, among-map, counted-from, count-two}
use Rattle.protobuf_parse_elaboration.proofs.Orders.{of_path, of_trees, finds-same, type-once}
use Rattle.protobuf_parse_elaboration.proofs.Orders.{extension-once}
use Rattle.protobuf_parse_wire.specs.Declarations.{Declaration, messages_declared_in}
use Rattle.protobuf_parse_wire.specs.Declarations.{declared_extensions}
use Rattle.protobuf_parse_wire.specs.Declarations.{messages_named}
use Rattle.protobuf_parse_options.specs.OptionFields.{OptionScope, declared_enums}
use Rattle.protobuf_parse_options.specs.OptionFields.{fields_of_message}
use Rattle.protobuf_parse_options.specs.OptionFields.{field_named, values_of_enum, number_of_value}
use Rattle.protobuf_parse_options.specs.OptionFields.{names_message}
use Rattle.protobuf_parse_options.specs.CustomFaults.{custom_statement_faults}
use Rattle.protobuf_parse_wire.specs.Encoded.{encoded}
use Rattle.protobuf_parse_options.specs.OptionBytes.{customs_by_files, option_bytes}
use Rattle.protobuf_parse_options.specs.SameLookups.{SameLookups}
use Rattle.protobuf_parse_options.specs.CountedAlike.{message_names, enum_names, described_types}
use Rattle.protobuf_parse_options.specs.CountedAlike.{described_extensions}
use Rattle.protobuf_parse_options.specs.DescriptorsByPath.{Environments, described_at}
use Rattle.protobuf_parse_options.specs.DescriptorsByPath.{descriptors_at}
use Rattle.protobuf_parse_options.specs.DescriptorsByPath.{HasFileScopes, HaveSameMembers}
use Rattle.protobuf_parse_options.specs.DescriptorsByPath.{AreWithin}
use Rattle.protobuf_parse_options.specs.DescriptorsByPath.{AreReordered, OrderMakesNoDifference}
use Rattle.protobuf_parse_options.proofs.ExtensionsAlike.{extensions_are_counted_alike}
use Rattle.protobuf_parse_options.proofs.NamesAlike.{types_are_counted_alike}
use Rattle.protobuf_parse_options.proofs.SameLookups.{lookups_decide_faults, lookups_decide_meaning}
use Rattle.protobuf_parse_options.specs.OptionBytes.{bytes_unless}
use Rattle.protobuf_parse_options.specs.CustomOptions.{denotes}

-- ---- lists

-- what is done to two lists alike is done to each of many
spread : {A B C : Type 0} (f : List A → List B) → f [] ≡ []
    → ((xs ys : List A) → f (xs ++ ys) ≡ f xs ++ f ys) → (g : C → List A) (cs : List C)
    → f (flat_map g cs) ≡ flat_map (λ (c : C). f (g c)) cs
spread f none both g [] = none
spread f none both g (c ∷ cs) = both (g c) (flat_map g cs)
    ∙ ap (λ zs. f (g c) ++ zs) (spread f none both g cs)

-- whether one passes a test is whether one is found by it
any-found : {A : Type 0} (test : A → Bool) (xs : List A) → list_any test xs ≡ is_some (find test xs)
any-found test [] = refl
any-found {A} test (x ∷ xs) = at (test x) (any-found test xs)
  where
    at : (b : Bool) → list_any test xs ≡ is_some (find test xs)
        → (b || list_any test xs) ≡ is_some (cond b (Some x) (find test xs))
    at true rest = refl
    at false rest = rest

-- ---- who has a name

-- the message that has a field has its name among those of the messages
field-holder : (n : Text) (ds : List Declaration) (f : FieldDescriptor)
    → Among (flat_map (λ (parts : MessageParts). parts.field) (messages_named n ds)) f
    → Among (map (λ (d : Declaration). d.name) ds) n
field-holder n [] f h = elim h [ ]
field-holder n (d ∷ ds) f h = at (bytes_eq n d.name) refl h (field-holder n ds f)
  where
    at : (b : Bool) → bytes_eq n d.name ≡ b
        → Among (flat_map (λ (parts : MessageParts). parts.field)
        (map (λ (x : Declaration). x.parts)
        (cond b (d ∷ filter (λ (x : Declaration). bytes_eq n x.name) ds)
        (filter (λ (x : Declaration). bytes_eq n x.name) ds)))) f
        → (Among (flat_map (λ (parts : MessageParts). parts.field) (messages_named n ds)) f
        → Among (map (λ (x : Declaration). x.name) ds) n)
        → Among (map (λ (x : Declaration). x.name) (d ∷ ds)) n
    at true e k rest = subst (λ (z : Text). Among (d.name ∷ map (λ (x : Declaration). x.name) ds) z)
        (sym (same-text n d.name e)) here
    at false e k rest = there (rest k)

-- the values of the enums that have the name
abbrev values_named : Text → List (Declared EnumDescriptor) → List EnumValueDescriptor
values_named n es =
    flat_map (λ (e : Declared EnumDescriptor). cond (bytes_eq e.name n) e.what.value []) es

-- and an enum that has a value has its name among those of the enums
value-holder : (n : Text) (es : List (Declared EnumDescriptor)) (v : EnumValueDescriptor)
    → Among (values_named n es) v → Among (map (λ (e : Declared EnumDescriptor). e.name) es) n
value-holder n [] v h = elim h [ ]
value-holder n (e ∷ es) v h = at (bytes_eq e.name n) refl h (value-holder n es v)
  where
    at : (b : Bool) → bytes_eq e.name n ≡ b → Among (cond b e.what.value [] ++ values_named n es) v
        → (Among (values_named n es) v → Among (map (λ (x : Declared EnumDescriptor). x.name) es) n)
        → Among (map (λ (x : Declared EnumDescriptor). x.name) (e ∷ es)) n
    at true i k rest =
        subst (λ (z : Text). Among (e.name ∷ map (λ (x : Declared EnumDescriptor). x.name) es) z)
        (same-text e.name n i) here
    at false i k rest = there (rest k)

module _ (trees : Trees) (env : Environments) where
  -- ---- what is found among descriptors

  -- what a path's descriptor has, if there is one
  abbrev of_descriptor : {A : Type 0} → (FileDescriptor → List A) → Text → List A
  of_descriptor h p = flat_map h (map (described_at env p) (option_to_list (trees p)))

  of_descriptors : {A : Type 0} (h : FileDescriptor → List A) (ps : List Text)
      → flat_map h (descriptors_at trees env ps) ≡ flat_map (of_descriptor h) ps
  of_descriptors h ps =
      spread (flat_map h) refl (flat_map-append h)
      (λ (p : Text). map (described_at env p) (option_to_list (trees p))) ps

  -- what is found in the descriptors of files tells a name that they have
  abbrev Tells : {A : Type 0} → (A → Bool) → (FileDescriptor → List A) → (FileSyntax → List Text)
      → Text → Type 0
  Tells {A} test h names n = (p : Text) (t : FileSyntax) (x : A) → trees p ≡ Some t
      → find test (h (described_at env p t)) ≡ Some x → 0 < occurrences n (names t)

  told : {A : Type 0} (test : A → Bool) (h : FileDescriptor → List A)
      (names : FileSyntax → List Text) (n : Text) → Tells test h names n → (p : Text) (x : A)
      → find test (of_descriptor h p) ≡ Some x → 0 < occurrences n (of_path names trees p)
  told {A} test h names n tells p x e = at (trees p) refl e
    where
      at : (o : Option FileSyntax) → trees p ≡ o
          → find test (flat_map h (map (described_at env p) (option_to_list o))) ≡ Some x
          → 0 < occurrences n (flat_map names (option_to_list o))
      at None i k = absurd cc
      at (Some t) i k = subst (λ (ns : List Text). 0 < occurrences n ns)
          (sym (append-nil (names t)))
          (tells p t x i
          (subst (λ (xs : List A). find test xs ≡ Some x)
          (append-nil (h (described_at env p t))) k))

  -- Where a name stands once in a reach, what is found by it is found in any order.
  finds-descriptors : {A : Type 0} (test : A → Bool) (h : FileDescriptor → List A)
      (names : FileSyntax → List Text) (n : Text) (reached xs ys : List Text) → Tells test h names n
      → (1 < occurrences n (flat_map names (trees_at trees reached)) → ⊥) → AreWithin xs reached
      → HaveSameMembers xs ys
      → find test (flat_map h (descriptors_at trees env xs))
      ≡ find test (flat_map h (descriptors_at trees env ys))
  finds-descriptors {A} test h names n reached xs ys tells once within same =
      ap (find test) (of_descriptors h xs)
      ∙ finds-same test (of_descriptor h) xs ys same one
      ∙ ap (find test) (sym (of_descriptors h ys))
    where
      one : (p q : Text) (x y : A) → among p xs ≡ true → among q xs ≡ true
          → find test (of_descriptor h p) ≡ Some x → find test (of_descriptor h q) ≡ Some y → p ≡ q
      one p q x y i j first second =
          elim (cases_Bool (bytes_eq q p)) [
            | inl w ↦ sym (same-text q p w)
            | inr w ↦
                let twice = count-two (of_path names trees) n p q reached (within p i)
                (within q j) w (told test h names n tells p x first)
                (told test h names n tells q y second) in
                absurd (once
                (subst (λ (ns : List Text). 1 < occurrences n ns)
                (sym (of_trees names trees reached)) twice))
          ]

  module _ (files : HasFileScopes trees env) where
    -- ---- what tells which name

    type-told : (p : Text) (t : FileSyntax) (n : Text) → trees p ≡ Some t
        → Among (described_types (described_at env p t)) n → 0 < occurrences n (type_names t)
    type-told p t n e h =
        subst (λ (k : ℕ). 0 < k)
        (types_are_counted_alike (env p t) p t n (files.scope p t e) (files.package_name p t e))
        (counted-from n (described_types (described_at env p t)) h)

    -- a field, of its message
    abbrev named_field : Text → FieldDescriptor → Bool
    named_field name f = bytes_eq f.name name

    abbrev fields_in : Text → FileDescriptor → List FieldDescriptor
    fields_in message file =
        flat_map (λ (parts : MessageParts). parts.field)
        (messages_named message (messages_declared_in file))

    field-tells : (message name : Text)
        → Tells (named_field name) (fields_in message) type_names message
    field-tells message name p t f e k =
        let stands = (found_is (named_field name) (fields_in message (described_at env p t)) f k).0
        in
        type-told p t message e
        (among_left (enum_names (described_at env p t))
        (field-holder message (messages_declared_in (described_at env p t)) f stands))

    -- a value, of its enum
    abbrev named_value : Text → EnumValueDescriptor → Bool
    named_value name v = bytes_eq v.name name

    abbrev enum_values_in : Text → FileDescriptor → List EnumValueDescriptor
    enum_values_in enum_name file = values_named enum_name (declared_enums file)

    value-tells : (enum_name name : Text)
        → Tells (named_value name) (enum_values_in enum_name) type_names enum_name
    value-tells enum_name name p t v e k =
        let stands =
        (found_is (named_value name) (enum_values_in enum_name (described_at env p t)) v k).0 in
        type-told p t enum_name e
        (among_right (message_names (described_at env p t))
        (value-holder enum_name (declared_enums (described_at env p t)) v stands))

    -- a message, of itself
    abbrev is_so_named : Text → Declaration → Bool
    is_so_named name d = bytes_eq name d.name

    message-tells : (name : Text) → Tells (is_so_named name) messages_declared_in type_names name
    message-tells name p t d e k =
        let found = found_is (is_so_named name) (messages_declared_in (described_at env p t)) d k in
        let named : Among (message_names (described_at env p t)) d.name =
        among-map (λ (x : Declaration). x.name)
        (messages_declared_in (described_at env p t)) d found.0 in
        type-told p t name e
        (among_left (enum_names (described_at env p t))
        (subst (λ (z : Text). Among (message_names (described_at env p t)) z)
        (sym (same-text name d.name found.1)) named))

    -- an extension, of itself
    abbrev extends_by : Text → Declared FieldDescriptor → Bool
    extends_by name d = bytes_eq d.name name

    extension-tells : (name : Text)
        → Tells (extends_by name) declared_extensions extension_names name
    extension-tells name p t d e k =
        let found = found_is (extends_by name) (declared_extensions (described_at env p t)) d k in
        let named : Among (described_extensions (described_at env p t)) d.name =
        among-map (λ (x : Declared FieldDescriptor). x.name)
        (declared_extensions (described_at env p t)) d found.0 in
        let stands : Among (described_extensions (described_at env p t)) name =
        subst (λ (z : Text). Among (described_extensions (described_at env p t)) z)
        (same-text d.name name found.1) named in
        subst (λ (k : ℕ). 0 < k)
        (extensions_are_counted_alike (env p t) p t name (files.scope p t e)
        (files.package_name p t e)) (counted-from name
        (described_extensions (described_at env p t)) stands)

    module _ (reached xs ys : List Text) (none : link_faults (trees_at trees reached) ≡ [])
        (within : AreWithin xs reached) (same : HaveSameMembers xs ys) where
      -- ---- what names mean

      -- where the name of a type decides
      by-type : {A : Type 0} (test : A → Bool) (h : FileDescriptor → List A) (n : Text)
          → Tells test h type_names n
          → find test (flat_map h (descriptors_at trees env xs))
          ≡ find test (flat_map h (descriptors_at trees env ys))
      by-type test h n tells =
          finds-descriptors test h type_names n reached xs ys tells
          (type-once trees reached n none) within same

      fields-spread : (message : Text) (ds : List FileDescriptor)
          → fields_of_message ds message ≡ flat_map (fields_in message) ds
      fields-spread message ds =
          spread (λ (d : List Declaration). flat_map (λ (parts : MessageParts). parts.field)
          (messages_named message d)) refl both messages_declared_in ds
        where
          both : (a b : List Declaration)
              → flat_map (λ (parts : MessageParts). parts.field) (messages_named message (a ++ b))
              ≡ flat_map (λ (parts : MessageParts). parts.field) (messages_named message a)
              ++ flat_map (λ (parts : MessageParts). parts.field) (messages_named message b)
          both a b =
              ap (λ (z : List Declaration). flat_map (λ (parts : MessageParts). parts.field)
              (map (λ (x : Declaration). x.parts) z)) (filter-append
              (λ (x : Declaration). bytes_eq message x.name) a b)
              ∙ ap (flat_map (λ (parts : MessageParts). parts.field))
              (map-append (λ (x : Declaration). x.parts)
              (filter (λ (x : Declaration). bytes_eq message x.name) a)
              (filter (λ (x : Declaration). bytes_eq message x.name) b))
              ∙ flat_map-append (λ (parts : MessageParts). parts.field) (messages_named message a)
              (messages_named message b)

      pub fields-same : (message name : Text)
          → field_named (descriptors_at trees env xs) message name
          ≡ field_named (descriptors_at trees env ys) message name
      fields-same message name =
          ap (find (named_field name)) (fields-spread message (descriptors_at trees env xs))
          ∙ by-type (named_field name) (fields_in message) message (field-tells message name)
          ∙ ap (find (named_field name)) (sym (fields-spread message (descriptors_at trees env ys)))

      values-spread : (enum_name : Text) (ds : List FileDescriptor)
          → values_of_enum ds enum_name ≡ flat_map (enum_values_in enum_name) ds
      values-spread enum_name ds =
          spread (values_named enum_name) refl
          (flat_map-append
          (λ (e : Declared EnumDescriptor). cond (bytes_eq e.name enum_name) e.what.value []))
          declared_enums ds

      pub values-same : (enum_name name : Text)
          → number_of_value (descriptors_at trees env xs) enum_name name
          ≡ number_of_value (descriptors_at trees env ys) enum_name name
      values-same enum_name name = ap (option_map (λ (v : EnumValueDescriptor). v.number)) (
          ap (find (named_value name)) (values-spread enum_name (descriptors_at trees env xs))
          ∙ by-type (named_value name) (enum_values_in enum_name) enum_name
          (value-tells enum_name name)
          ∙ ap (find (named_value name))
          (sym (values-spread enum_name (descriptors_at trees env ys)))
          )

      pub messages-same : (name : Text)
          → names_message (descriptors_at trees env xs) name
          ≡ names_message (descriptors_at trees env ys) name
      messages-same name =
          any-found (is_so_named name) (flat_map messages_declared_in (descriptors_at trees env xs))
          ∙ ap is_some (by-type (is_so_named name) messages_declared_in name (message-tells name))
          ∙ sym (any-found (is_so_named name)
          (flat_map messages_declared_in (descriptors_at trees env ys)))

      extensions-same : declared (flat_map declared_extensions (descriptors_at trees env xs))
          ≡ declared (flat_map declared_extensions (descriptors_at trees env ys))
      extensions-same =
          fun_ext (λ (name : Text). finds-descriptors
          (extends_by name) declared_extensions extension_names name reached xs ys
          (extension-tells name) (extension-once trees reached name none) within same)

-- ---- the laws

-- what is seen from a scope of a file that reaches and sees the files of these paths
abbrev pub seen_from : Trees → Environments → (reached seen : List Text) → Scope → OptionScope
seen_from trees env reached seen scope = record {
  files = descriptors_at trees env reached;
  visible = descriptors_at trees env seen;
  scope = scope;
}

-- what its custom options mean
abbrev pub meant_from : Trees → Environments → (reached seen : List Text) → Customs
meant_from trees env reached seen =
    customs_by_files (descriptors_at trees env reached) (descriptors_at trees env seen)

module _ (trees : Trees) (env : Environments) (reached reached' seen seen' : List Text)
    (files : HasFileScopes trees env) (r : AreReordered trees reached reached' seen seen') where
  -- names mean the same
  pub lookups-same : (scope : Scope)
      → SameLookups (seen_from trees env reached seen scope)
      (seen_from trees env reached' seen' scope)
  lookups-same scope = record {
    fields = fields-same trees env files reached reached reached' r.once (λ p h. h) r.reach;
    values = values-same trees env files reached reached reached' r.once (λ p h. h) r.reach;
    messages = messages-same trees env files reached reached reached' r.once (λ p h. h) r.reach;
    extensions = λ name.
        ap (λ (of : Meanings FieldDescriptor). meant of scope name)
        (extensions-same trees env files reached seen seen' r.once r.within r.sight);
  }

  -- the same is wrong
  pub options-same : (scope : Scope) (construct : Construct) (os : List OptionSyntax)
      → custom_statement_faults (seen_from trees env reached seen scope) construct os
      ≡ custom_statement_faults (seen_from trees env reached' seen' scope) construct os
  options-same scope construct os =
      lookups_decide_faults (seen_from trees env reached seen scope)
      (seen_from trees env reached' seen' scope)
      (lookups-same scope) construct os

  -- and the bytes are the same
  pub spelling-same : (scope : Scope) (construct : Construct) (os : List OptionSyntax)
      → (meant_from trees env reached seen).bytes construct scope os
      ≡ (meant_from trees env reached' seen').bytes construct scope os
  spelling-same scope construct os =
      ap (λ fs. bytes_unless fs
      (encoded (denotes (seen_from trees env reached seen scope) construct os)))
      (options-same scope construct os)
      ∙ ap (λ es. bytes_unless
      (custom_statement_faults (seen_from trees env reached' seen' scope) construct os)
      (encoded es))
      (lookups_decide_meaning (seen_from trees env reached seen scope)
      (seen_from trees env reached' seen' scope)
      (lookups-same scope) construct os)

  -- all this as functions
  pub faults-same : (meant_from trees env reached seen).faults
      ≡ (meant_from trees env reached' seen').faults
  faults-same =
      fun_ext (λ (construct : Construct). fun_ext
      (λ (scope : Scope). fun_ext (λ (os : List OptionSyntax). options-same scope construct os)))

  pub bytes-same :
      option_bytes (descriptors_at trees env reached) (descriptors_at trees env seen)
      ≡ option_bytes (descriptors_at trees env reached') (descriptors_at trees env seen')
  bytes-same =
      fun_ext (λ (construct : Construct). fun_ext
      (λ (scope : Scope). fun_ext (λ (os : List OptionSyntax). spelling-same scope construct os)))

  pub customs-same : meant_from trees env reached seen ≡ meant_from trees env reached' seen'
  customs-same =
      let bytes : CustomBytes = (meant_from trees env reached seen).bytes in
      let faults' : CustomFaults = (meant_from trees env reached' seen').faults in
      ap (λ (f : CustomFaults). record { faults = f; bytes = bytes }) faults-same
      ∙ ap (λ (b : CustomBytes). record { faults = faults'; bytes = b }) bytes-same

pub order_makes_no_difference : OrderMakesNoDifference
order_makes_no_difference trees env reached reached' seen seen' files r =
    customs-same trees env reached reached' seen seen' files r
