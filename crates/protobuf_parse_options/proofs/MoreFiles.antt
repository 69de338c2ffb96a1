-- Names keep their meaning where more files are at hand, if no name is declared twice in all of
-- them.
use Rattle.std.proofs.Common.{◌≡◌, ℤ, Bool, true, false, inl, inr, List, [], ◌++◌, map, filter}
use Rattle.std.proofs.Common.{flat_map, cond, Option, Some, None, option_map, option_to_list, refl}
use Rattle.std.proofs.Common.{sym, ap, ◌∙◌, bytes_eq}
use Rattle.std.specs.List.{find, list_any}
use Rattle.std.specs.Option.{option_or}
use Rattle.std.proofs.lemmas.Bool.{or_cases, or_left, or_right}
use Rattle.std.proofs.lemmas.Grind.{flat_map-append}
use Rattle.std.proofs.lemmas.List.{map-append}
use Rattle.std.proofs.lemmas.List.Elements.{filter-append}
use Rattle.std.proofs.lemmas.List.Folds.{find-append, list_any-append}
use Rattle.protobuf_parse_model.specs.Descriptors.{Text, FieldDescriptor, EnumValueDescriptor}
use Rattle.protobuf_parse_model.specs.Descriptors.{EnumDescriptor, MessageParts, FileDescriptor}
use Rattle.protobuf_parse_model.specs.Declarations.{Scope, Declared}
use Rattle.protobuf_parse_model.specs.Linking.{link_faults}
use Rattle.protobuf_parse_elaboration.specs.FilesByPath.{Trees, among, trees_at}
use Rattle.protobuf_parse_wire.specs.Declarations.{Declaration, messages_declared_in}
use Rattle.protobuf_parse_wire.specs.Declarations.{messages_named, messages_with_name}
use Rattle.protobuf_parse_options.specs.OptionFields.{declared_enums, fields_of_message}
use Rattle.protobuf_parse_options.specs.OptionFields.{field_named, values_of_enum, number_of_value}
use Rattle.protobuf_parse_options.specs.OptionFields.{names_message}
use Rattle.protobuf_parse_options.specs.DescriptorsByPath.{Environments, described_at}
use Rattle.protobuf_parse_options.specs.DescriptorsByPath.{descriptors_at, HasFileScopes}
use Rattle.protobuf_parse_options.specs.DescriptorsByPath.{HaveSameMembers, AreWithin}
use Rattle.protobuf_parse_options.specs.MoreFiles.{KeepsLookups, option_scope_at}
use Rattle.protobuf_parse_options.specs.MoreFiles.{MoreFilesKeepMeaning}
use Rattle.protobuf_parse_options.proofs.DescriptorOrders.{fields-same, values-same, messages-same}
use Rattle.protobuf_parse_options.proofs.KeptLookups.{lookups_keep_meaning}

-- ---- files behind others

-- what is found in a list is found where more stands behind it
found_before : {A : Type 0} (test : A → Bool) (xs ys : List A) (x : A) → find test xs ≡ Some x
    → find test (xs ++ ys) ≡ Some x
found_before {A} test xs ys x h = find-append test xs ys
    ∙ ap (λ (o : Option A). option_or o (find test ys)) h

named_append : (message : Text) (xs ys : List Declaration)
    → messages_named message (xs ++ ys) ≡ messages_named message xs ++ messages_named message ys
named_append message xs ys =
    ap (map (λ (d : Declaration). d.parts))
    (filter-append (λ (d : Declaration). bytes_eq message d.name) xs ys)
    ∙ map-append (λ (d : Declaration). d.parts)
    (filter (λ (d : Declaration). bytes_eq message d.name) xs)
    (filter (λ (d : Declaration). bytes_eq message d.name) ys)

fields_append : (files others : List FileDescriptor) (message : Text)
    → fields_of_message (files ++ others) message ≡ fields_of_message files message
    ++ fields_of_message others message
fields_append files others message =
    ap (λ (ds : List Declaration). flat_map (λ (parts : MessageParts). parts.field)
    (messages_named message ds)) (flat_map-append messages_declared_in files others)
    ∙ ap (flat_map (λ (parts : MessageParts). parts.field))
    (named_append message (flat_map messages_declared_in files)
    (flat_map messages_declared_in others))
    ∙ flat_map-append (λ (parts : MessageParts). parts.field) (messages_with_name files message)
    (messages_with_name others message)

field_before : (files others : List FileDescriptor) (message name : Text) (f : FieldDescriptor)
    → field_named files message name ≡ Some f → field_named (files ++ others) message name ≡ Some f
field_before files others message name f h =
    ap (find (λ (g : FieldDescriptor). bytes_eq g.name name)) (fields_append files others message)
    ∙ found_before (λ (g : FieldDescriptor). bytes_eq g.name name) (fields_of_message files message)
    (fields_of_message others message) f h

values_append : (files others : List FileDescriptor) (enum_name : Text)
    → values_of_enum (files ++ others) enum_name ≡ values_of_enum files enum_name
    ++ values_of_enum others enum_name
values_append files others enum_name =
    let values : Declared EnumDescriptor
    → List EnumValueDescriptor = λ e. cond (bytes_eq e.name enum_name) e.what.value [] in
    ap (flat_map values) (flat_map-append declared_enums files others)
    ∙ flat_map-append values (flat_map declared_enums files) (flat_map declared_enums others)

-- the value has the name
abbrev has_value_name : Text → EnumValueDescriptor → Bool
has_value_name name v = bytes_eq v.name name

abbrev numbered : Option EnumValueDescriptor → Option ℤ
numbered o = option_map (λ (v : EnumValueDescriptor). v.number) o

numbered_first : (o p : Option EnumValueDescriptor) (z : ℤ) → numbered o ≡ Some z
    → numbered (option_or o p) ≡ Some z
numbered_first None p z h = absurd cc
numbered_first (Some v) p z h = h

value_before : (files others : List FileDescriptor) (enum_name name : Text) (z : ℤ)
    → number_of_value files enum_name name ≡ Some z
    → number_of_value (files ++ others) enum_name name ≡ Some z
value_before files others enum_name name z h =
    ap (λ (vs : List EnumValueDescriptor). numbered (find (has_value_name name) vs))
    (values_append files others enum_name)
    ∙ ap numbered
    (find-append (has_value_name name) (values_of_enum files enum_name)
    (values_of_enum others enum_name))
    ∙ numbered_first (find (has_value_name name) (values_of_enum files enum_name))
    (find (has_value_name name) (values_of_enum others enum_name)) z h

message_before : (files others : List FileDescriptor) (name : Text)
    → names_message files name ≡ true
    → names_message (files ++ others) name ≡ true
message_before files others name h =
    let is_so_named : Declaration → Bool = λ d. bytes_eq name d.name in
    ap (list_any is_so_named) (flat_map-append messages_declared_in files others)
    ∙ list_any-append is_so_named (flat_map messages_declared_in files)
    (flat_map messages_declared_in others)
    ∙ or_left (names_message files name) (names_message others name) h

-- ---- files among others

-- paths before those that they are among
before_same : (reached more : List Text) → AreWithin reached more
    → HaveSameMembers (reached ++ more) more
before_same reached more within p = by (among p (reached ++ more)) (among p more) refl refl
  where
    inside : among p (reached ++ more) ≡ true → among p more ≡ true
    inside h =
        elim (or_cases (among p reached) (among p more)
        (sym (list_any-append (bytes_eq p) reached more) ∙ h)) [ inl k ↦ within p k | inr k ↦ k ]

    outside : among p more ≡ true → among p (reached ++ more) ≡ true
    outside h = list_any-append (bytes_eq p) reached more
        ∙ or_right (among p reached) (among p more) h

    by : (a b : Bool) → among p (reached ++ more) ≡ a → among p more ≡ b
        → among p (reached ++ more) ≡ among p more
    by true b h k = h ∙ sym (inside h)
    by a true h k = outside k ∙ sym k
    by false false h k = h ∙ sym k

module _ (trees : Trees) (env : Environments) (files : HasFileScopes trees env)
    (reached more : List Text) (within : AreWithin reached more)
    (none : link_faults (trees_at trees more) ≡ []) where
  -- the descriptors of the files, and of all of them
  abbrev own : List FileDescriptor
  own = descriptors_at trees env reached

  abbrev all : List FileDescriptor
  all = descriptors_at trees env more

  -- all of them behind the files
  joined : descriptors_at trees env (reached ++ more) ≡ own ++ all
  joined = flat_map-append (λ (p : Text). map (described_at env p) (option_to_list (trees p)))
      reached more

  members : HaveSameMembers (reached ++ more) more
  members = before_same reached more within

  inside : AreWithin (reached ++ more) more
  inside p h = sym (members p) ∙ h

  pub lookups_kept : (visible : List FileDescriptor) (scope : Scope)
      → KeepsLookups (option_scope_at trees env reached visible scope)
      (option_scope_at trees env more visible scope)
  lookups_kept visible scope = record {
    fields = λ message name f h.
        sym (fields-same trees env files more
        (reached ++ more) more none inside members message name)
        ∙ ap (λ (ds : List FileDescriptor). field_named ds message name) joined
        ∙ field_before own all message name f h;
    values = λ enum_name name z h.
        sym (values-same trees env files more
        (reached ++ more) more none inside members enum_name name)
        ∙ ap (λ (ds : List FileDescriptor). number_of_value ds enum_name name) joined
        ∙ value_before own all enum_name name z h;
    messages = λ name h.
        sym (messages-same trees env files more (reached ++ more) more none inside members name)
        ∙ ap (λ (ds : List FileDescriptor). names_message ds name) joined
        ∙ message_before own all name h;
    extensions = λ name d h. h;
  }

pub more_files_keep_meaning : MoreFilesKeepMeaning
more_files_keep_meaning trees env reached more files within none visible scope construct os clean =
    lookups_keep_meaning (option_scope_at trees env reached visible scope)
    (option_scope_at trees env more visible scope)
    (lookups_kept trees env files reached more within none visible scope) construct os clean
