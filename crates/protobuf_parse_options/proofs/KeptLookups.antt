-- Where names keep their meaning, custom options without faults keep theirs.
use Rattle.std.proofs.Common.{◌≡◌, ℤ, Bool, true, false, not, ◌&&◌, List, [], ◌∷◌, ◌++◌, flat_map}
use Rattle.std.proofs.Common.{Option, Some, None, is_some, option_to_list, if◌then◌else◌, refl, sym}
use Rattle.std.proofs.Common.{ap, subst, ◌∙◌}
use Rattle.protobuf_parse_syntax.specs.Trees.{ConstantNameSyntax, regular_name, extension_name}
use Rattle.protobuf_parse_syntax.specs.Trees.{url_name, ConstantSyntax, integer, truth, dotted}
use Rattle.protobuf_parse_syntax.specs.Trees.{string, list, fields, ConstantList, no_constants}
use Rattle.protobuf_parse_syntax.specs.Trees.{more_constants, ConstantFieldList, no_fields}
use Rattle.protobuf_parse_syntax.specs.Trees.{more_fields, OptionPartSyntax, direct, extension}
use Rattle.protobuf_parse_syntax.specs.Trees.{OptionNameSyntax, builtin, custom, OptionSyntax}
use Rattle.protobuf_parse_model.specs.declared.error.ElabErrorKind.TheVariants.{UnknownFieldName}
use Rattle.protobuf_parse_model.specs.declared.error.ElabErrorKind.TheVariants.{WrongExtensionType}
use Rattle.protobuf_parse_model.specs.Descriptors.{Text, FieldDescriptor, FileDescriptor}
use Rattle.protobuf_parse_model.specs.Faults.{Wrong}
use Rattle.protobuf_parse_model.specs.Declarations.{Declared}
use Rattle.protobuf_parse_model.specs.Duplicates.{fault_when}
use Rattle.protobuf_parse_model.specs.declared.customs.Construct.{Construct}
use Rattle.protobuf_parse_model.specs.Environment.{part_text, option_path_text}
use Rattle.protobuf_parse_wire.specs.Trees as trees
use Rattle.protobuf_parse_wire.specs.Views.{WireItem, entries_of_list}
use Rattle.protobuf_parse_wire.specs.Declarations.{extends}
use Rattle.protobuf_parse_options.specs.OptionFields.{OptionScope, options_message, field_named}
use Rattle.protobuf_parse_options.specs.OptionFields.{number_of_value, names_message}
use Rattle.protobuf_parse_options.specs.OptionFields.{extension_meant, extends_message, if_extends}
use Rattle.protobuf_parse_options.specs.OptionFields.{extension_named, part_field, constant_field}
use Rattle.protobuf_parse_options.specs.OptionFields.{type_name_of, Takes, names_of_values}
use Rattle.protobuf_parse_options.specs.OptionFields.{messages, type_takes}
use Rattle.protobuf_parse_options.specs.CustomOptions.{item_of, item_of_message, value_items}
use Rattle.protobuf_parse_options.specs.CustomOptions.{list_items, field_items, path_items}
use Rattle.protobuf_parse_options.specs.CustomOptions.{named_items, items_of_option}
use Rattle.protobuf_parse_options.specs.CustomFaults.{value_name_faults, message_value_faults}
use Rattle.protobuf_parse_options.specs.CustomFaults.{number_faults, field_name_faults}
use Rattle.protobuf_parse_options.specs.CustomFaults.{extension_name_faults, constant_name_faults}
use Rattle.protobuf_parse_options.specs.CustomFaults.{constant_faults, list_faults, member_faults}
use Rattle.protobuf_parse_options.specs.CustomFaults.{part_faults, step_faults, path_faults}
use Rattle.protobuf_parse_options.specs.CustomFaults.{custom_name_faults}
use Rattle.protobuf_parse_options.specs.MoreFiles.{KeepsLookups, LookupsKeepMeaning}
use Rattle.protobuf_parse_options.proofs.Writable.{no_left, no_right, direct_step_has_fault}
use Rattle.protobuf_parse_options.specs.CustomFaults.{option_faults_at, custom_statement_faults}
use Rattle.protobuf_parse_options.proofs.Refusing.{none_wrong, none_placed}

-- ---- faults and items together

-- no fault stands, and the items are as before
record Kept {A : Type 0} (faults : List A) (items' items : List WireItem) : Type 0 where
  faultless : faults ≡ []
  same : items' ≡ items

nothing_kept : {A : Type 0} → Kept {A = A} [] [] []
nothing_kept = record { faultless = refl; same = refl }

none_both : {A : Type 0} (xs ys : List A) → xs ≡ [] → ys ≡ [] → xs ++ ys ≡ []
none_both xs ys e h = ap (λ zs. zs ++ ys) e ∙ h

both_kept : {A : Type 0} (fs gs : List A) (xs' xs ys' ys : List WireItem) → Kept fs xs' xs
    → Kept gs ys' ys
    → Kept (fs ++ gs) (xs' ++ ys') (xs ++ ys)
both_kept fs gs xs' xs ys' ys k l = record {
  faultless = none_both fs gs k.faultless l.faultless;
  same = ap (λ zs. zs ++ ys') k.same ∙ ap (λ zs. xs ++ zs) l.same;
}

-- faults of the number, which are the same from both, before others
numbered_kept : (own fs fs' : List Wrong) (xs' xs : List WireItem) → (fs ≡ [] → Kept fs' xs' xs)
    → own ++ fs ≡ [] → Kept (own ++ fs') xs' xs
numbered_kept own fs fs' xs' xs each h =
    let k = each (no_right own fs h) in
    record { faultless = none_both own fs' (no_left own fs h) k.faultless; same = k.same }

-- ---- what is found

-- a name with these faults means the same field from both
record IsMeant (faults : List Wrong) (o o' : Option FieldDescriptor) : Type 0 where
  field : FieldDescriptor
  first : o ≡ Some field
  still : o' ≡ Some field
  faultless : faults ≡ []

-- what is given to it
found_kept : (own own' : List Wrong) (o o' : Option FieldDescriptor)
    (faults faults' : FieldDescriptor → List Wrong) (items' items : FieldDescriptor → List WireItem)
    → (own ≡ [] → IsMeant own' o o')
    → ((g : FieldDescriptor) → faults g ≡ [] → Kept (faults' g) (items' g) (items g))
    → own ++ flat_map faults (option_to_list o) ≡ []
    → Kept (own' ++ flat_map faults' (option_to_list o')) (flat_map items' (option_to_list o'))
    (flat_map items (option_to_list o))
found_kept own own' o o' faults faults' items' items meant each h =
    let m = meant (no_left own (flat_map faults (option_to_list o)) h) in
    let given : faults m.field ++ []
    ≡ [] = subst (λ (p : Option FieldDescriptor). flat_map faults (option_to_list p) ≡ [])
    m.first (no_right own (flat_map faults (option_to_list o)) h) in
    let k = each m.field (no_left (faults m.field) [] given) in
    record {
      faultless = none_both own' _ m.faultless
          (ap (λ (p : Option FieldDescriptor). flat_map faults' (option_to_list p)) m.still
          ∙ ap (λ fs. fs ++ []) k.faultless);
      same =
          ap (λ (p : Option FieldDescriptor). flat_map items' (option_to_list p)) m.still
          ∙ ap (λ xs. xs ++ []) k.same
          ∙ sym (ap (λ (p : Option FieldDescriptor). flat_map items (option_to_list p)) m.first);
    }

-- ---- what a field takes

-- an enum's value that has no fault is known
value_known : (name : Text) (t : Takes) (value : Text) (o : Option ℤ)
    → value_name_faults name t value o ≡ [] → (z : ℤ) × (o ≡ Some z)
value_known name names_of_values value None h = absurd cc
value_known name names_of_values value (Some z) h = (z, refl)
value_known name other value o h = absurd cc

-- a message constant without faults is given to a message
message_taken : (name : Text) (t : Takes) (inside : List Wrong)
    → message_value_faults name t inside ≡ [] → (t ≡ messages) × (inside ≡ [])
message_taken name messages inside h = (refl, h)
message_taken name other inside h = absurd cc

-- and so are the parts behind one
step_taken : (part : Text) (t : Takes) (inside : List Wrong) → step_faults part t inside ≡ []
    → (t ≡ messages) × (inside ≡ [])
step_taken part messages inside h = (refl, h)
step_taken part other inside h = absurd cc

message_kept : (name : Text) (t : Takes) (f : FieldDescriptor) (inside inside' : List Wrong)
    (xs' xs : List WireItem) → (inside ≡ [] → Kept inside' xs' xs)
    → message_value_faults name t inside ≡ []
    → Kept (message_value_faults name t inside') (item_of_message f xs') (item_of_message f xs)
message_kept name t f inside inside' xs' xs each h =
    let m = message_taken name t inside h in
    let k = each m.1 in
    record {
      faultless = ap (λ (x : Takes). message_value_faults name x inside') m.0
          ∙ k.faultless;
      same = ap (item_of_message f) k.same;
    }

step_kept : (part : Text) (t : Takes) (f : FieldDescriptor) (inside inside' : List Wrong)
    (xs' xs : List WireItem) → (inside ≡ [] → Kept inside' xs' xs) → step_faults part t inside ≡ []
    → Kept (step_faults part t inside') (item_of_message f xs') (item_of_message f xs)
step_kept part t f inside inside' xs' xs each h =
    let m = step_taken part t inside h in
    let k = each m.1 in
    record {
      faultless = ap (λ (x : Takes). step_faults part x inside') m.0
          ∙ k.faultless;
      same = ap (item_of_message f) k.same;
    }

-- an enum's value
known_kept : (f : FieldDescriptor) (name : Text) (o o' : Option ℤ)
    → ((z : ℤ) → o ≡ Some z → o' ≡ Some z) → value_name_faults f.name (type_takes f.type_) name o
    ≡ []
    → Kept (value_name_faults f.name (type_takes f.type_) name o')
    (flat_map (λ (z : ℤ). item_of f (trees.number z)) (option_to_list o'))
    (flat_map (λ (z : ℤ). item_of f (trees.number z)) (option_to_list o))
known_kept f name o o' keeps h =
    let v = value_known f.name (type_takes f.type_) name o h in
    let same : o' ≡ o = keeps v.0 v.1 ∙ sym v.1 in
    record {
      faultless = ap (value_name_faults f.name (type_takes f.type_) name) same ∙ h;
      same = ap (λ (p : Option ℤ). flat_map (λ (z : ℤ). item_of f (trees.number z))
          (option_to_list p))
          same;
    }

-- ---- extensions

-- an extension that has no fault extends the message
both_true : (name : Text) (a b : Bool) → fault_when (not (a && b)) WrongExtensionType name ≡ []
    → (a ≡ true) × (b ≡ true)
both_true name true true h = (refl, refl)
both_true name true false h = absurd cc
both_true name false b h = absurd cc

and_true : (a b : Bool) → a ≡ true → b ≡ true → (a && b) ≡ true
and_true true b h k = k
and_true false b h k = absurd cc

-- one that extends the message is meant, and has no fault
extension_found : (files : List FileDescriptor) (message name : Text) (d : Declared FieldDescriptor)
    (o : Option (Declared FieldDescriptor)) → o ≡ Some d
    → extends_message files message d.what ≡ true
    → (if_extends files message o ≡ Some d.what) × (extension_name_faults files message name o ≡ [])
extension_found files message name d o e is = (
  ap (if_extends files message) e ∙ ap (λ (b : Bool). if b then Some d.what else None) is,
  ap (extension_name_faults files message name) e
      ∙ ap (λ (b : Bool). fault_when (not b) WrongExtensionType name) is,
)

module _ (at at' : OptionScope) (keeps : KeepsLookups at at') where
  -- ---- names

  field_meant : (message name : Text) → field_name_faults at message name ≡ []
      → IsMeant (field_name_faults at' message name) (field_named at.files message name)
      (field_named at'.files message name)
  field_meant message name h = by (field_named at.files message name) refl h
    where
      by : (o : Option FieldDescriptor) → field_named at.files message name ≡ o
          → fault_when (not (is_some o)) UnknownFieldName name ≡ []
          → IsMeant (field_name_faults at' message name) (field_named at.files message name)
          (field_named at'.files message name)
      by None e k = absurd cc
      by (Some f) e k =
          let still = keeps.fields message name f e in
          record {
            field = f;
            first = e;
            still = still;
            faultless =
                ap (λ (p : Option FieldDescriptor). fault_when
                (not (is_some p)) UnknownFieldName name) still;
          }

  extension_meant_still : (message name : Text)
      → extension_name_faults at.files message name (extension_meant at name) ≡ []
      → IsMeant (extension_name_faults at'.files message name (extension_meant at' name))
      (extension_named at message name) (extension_named at' message name)
  extension_meant_still message name h = by (extension_meant at name) refl h
    where
      by : (o : Option (Declared FieldDescriptor)) → extension_meant at name ≡ o
          → extension_name_faults at.files message name o ≡ []
          → IsMeant (extension_name_faults at'.files message name (extension_meant at' name))
          (extension_named at message name) (extension_named at' message name)
      by None e k = absurd cc
      by (Some d) e k =
          let is = both_true name (extends message d.what) (names_message at.files message) k in
          let was = extension_found at.files message name d (extension_meant at name) e
          (and_true (extends message d.what) (names_message at.files message) is.0 is.1) in
          let still = extension_found at'.files message name d (extension_meant at' name)
          (keeps.extensions name d e)
          (and_true (extends message d.what) (names_message at'.files message) is.0
          (keeps.messages message is.1)) in
          record { field = d.what; first = was.0; still = still.0; faultless = still.1 }

  constant_meant : (message : Text) (name : ConstantNameSyntax)
      → constant_name_faults at message name ≡ []
      → IsMeant (constant_name_faults at' message name) (constant_field at message name)
      (constant_field at' message name)
  constant_meant message (regular_name name) h = field_meant message name h
  constant_meant message (extension_name name) h = extension_meant_still message name h
  constant_meant message (url_name name) h = absurd cc

  part_meant : (message : Text) (p : OptionPartSyntax) → part_faults at message p ≡ []
      → IsMeant (part_faults at' message p) (part_field at message p) (part_field at' message p)
  part_meant message (direct name) h = field_meant message name h
  part_meant message (extension name) h = extension_meant_still message name h

  -- ---- constants

  mutual
    value_kept : (option : Text) (f : FieldDescriptor) (c : ConstantSyntax)
        → constant_faults at option f c ≡ []
        → Kept (constant_faults at' option f c) (value_items at' f c) (value_items at f c)
    value_kept option f (dotted name) h =
        known_kept f name (number_of_value at.files (type_name_of f) name)
        (number_of_value at'.files (type_name_of f) name) (keeps.values (type_name_of f) name) h
    value_kept option f (list cs) h = list_kept option f cs h
    value_kept option f (fields fs) h =
        message_kept f.name (type_takes f.type_) f (member_faults at option (type_name_of f) fs)
        (member_faults at' option (type_name_of f) fs) (field_items at' (type_name_of f) fs)
        (field_items at (type_name_of f) fs)
        (λ k. fields_kept option (type_name_of f) fs k) h
    value_kept option f (integer z) h = record { faultless = h; same = refl }
    value_kept option f (truth b) h = record { faultless = h; same = refl }
    value_kept option f (string pieces) h = record { faultless = h; same = refl }

    list_kept : (option : Text) (f : FieldDescriptor) (cs : ConstantList)
        → list_faults at option f cs ≡ []
        → Kept (list_faults at' option f cs) (list_items at' f cs) (list_items at f cs)
    list_kept option f no_constants h = nothing_kept
    list_kept option f (more_constants c cs) h =
        both_kept (constant_faults at' option f c) (list_faults at' option f cs)
        (value_items at' f c)
        (value_items at f c) (list_items at' f cs) (list_items at f cs)
        (value_kept option f c
        (no_left (constant_faults at option f c) (list_faults at option f cs) h))
        (list_kept option f cs
        (no_right (constant_faults at option f c) (list_faults at option f cs) h))

    fields_kept : (option message : Text) (fs : ConstantFieldList)
        → member_faults at option message fs ≡ []
        → Kept (member_faults at' option message fs) (field_items at' message fs)
        (field_items at message fs)
    fields_kept option message no_fields h = nothing_kept
    fields_kept option message (more_fields name c fs) h =
        let front = no_left
        (constant_name_faults at message name
        ++ flat_map (λ (g : FieldDescriptor). number_faults g ++ constant_faults at option g c)
        (option_to_list (constant_field at message name))) (member_faults at option message fs) h
        in
        let behind = no_right
        (constant_name_faults at message name
        ++ flat_map (λ (g : FieldDescriptor). number_faults g ++ constant_faults at option g c)
        (option_to_list (constant_field at message name))) (member_faults at option message fs) h
        in
        both_kept _ (member_faults at' option message fs) _ _ (field_items at' message fs)
        (field_items at message fs)
        (found_kept (constant_name_faults at message name) (constant_name_faults at' message name)
        (constant_field at message name) (constant_field at' message name)
        (λ (g : FieldDescriptor). number_faults g ++ constant_faults at option g c)
        (λ (g : FieldDescriptor). number_faults g ++ constant_faults at' option g c)
        (λ (g : FieldDescriptor). value_items at' g c)
        (λ (g : FieldDescriptor). value_items at g c)
        (constant_meant message name)
        (λ g. numbered_kept (number_faults g) (constant_faults at option g c)
        (constant_faults at' option g c) (value_items at' g c) (value_items at g c)
        (λ k. value_kept option g c k)) front)
        (fields_kept option message fs behind)

  -- ---- paths

  path_kept : (option : Text) (value : ConstantSyntax) (message : Text)
      (parts : List OptionPartSyntax) → path_faults at option value message parts ≡ []
      → Kept (path_faults at' option value message parts) (path_items at' value message parts)
      (path_items at value message parts)
  path_kept option value message [] h = nothing_kept
  path_kept option value message (p ∷ []) h =
      found_kept (part_faults at message p) (part_faults at' message p) (part_field at message p)
      (part_field at' message p)
      (λ (g : FieldDescriptor). number_faults g ++ constant_faults at option g value)
      (λ (g : FieldDescriptor). number_faults g ++ constant_faults at' option g value)
      (λ (g : FieldDescriptor). value_items at' g value)
      (λ (g : FieldDescriptor). value_items at g value)
      (part_meant message p)
      (λ g. numbered_kept (number_faults g) (constant_faults at option g value)
      (constant_faults at' option g value) (value_items at' g value) (value_items at g value)
      (value_kept option g value)) h
  path_kept option value message (p ∷ q ∷ ps) h =
      found_kept (part_faults at message p) (part_faults at' message p) (part_field at message p)
      (part_field at' message p)
      (λ (g : FieldDescriptor). number_faults g
      ++ step_faults (part_text p) (type_takes g.type_)
      (path_faults at option value (type_name_of g) (q ∷ ps))) (λ
      (g : FieldDescriptor). number_faults g
      ++ step_faults (part_text p) (type_takes g.type_)
      (path_faults at' option value (type_name_of g) (q ∷ ps)))
      (λ (g : FieldDescriptor). item_of_message g (path_items at' value (type_name_of g) (q ∷ ps)))
      (λ (g : FieldDescriptor). item_of_message g (path_items at value (type_name_of g) (q ∷ ps)))
      (part_meant message p)
      (λ g. numbered_kept (number_faults g)
      (step_faults (part_text p) (type_takes g.type_)
      (path_faults at option value (type_name_of g) (q ∷ ps))) (step_faults (part_text p)
      (type_takes g.type_) (path_faults at' option value (type_name_of g) (q ∷ ps))) _ _
      (step_kept (part_text p) (type_takes g.type_) g
      (path_faults at option value (type_name_of g) (q ∷ ps))
      (path_faults at' option value (type_name_of g) (q ∷ ps))
      (path_items at' value (type_name_of g) (q ∷ ps))
      (path_items at value (type_name_of g) (q ∷ ps))
      (λ k. path_kept option value (type_name_of g) (q ∷ ps) k))) h

  -- ---- the statements of a construct

  named_kept : (construct : Construct) (value : ConstantSyntax) (name : OptionNameSyntax)
      → custom_name_faults at construct value name ≡ []
      → Kept (custom_name_faults at' construct value name)
      (named_items at' (options_message construct) value name)
      (named_items at (options_message construct) value name)
  named_kept construct value (builtin name) h = nothing_kept
  named_kept construct value (custom []) h = nothing_kept
  named_kept construct value (custom (direct name ∷ ps)) h =
      absurd (direct_step_has_fault construct name h)
  named_kept construct value (custom (extension name ∷ ps)) h =
      path_kept (option_path_text (extension name ∷ ps)) value (options_message construct)
      (extension name ∷ ps) h

  option_kept : (construct : Construct) (o : OptionSyntax) → option_faults_at at construct o ≡ []
      → Kept (option_faults_at at' construct o) (items_of_option at' construct o)
      (items_of_option at construct o)
  option_kept construct o h =
      let k = named_kept construct o.value o.name
      (none_wrong o.place (custom_name_faults at construct o.value o.name) h) in
      record {
        faultless = none_placed o.place
            (custom_name_faults at' construct o.value o.name) k.faultless;
        same = k.same;
      }

  set_kept : (construct : Construct) (os : List OptionSyntax)
      → custom_statement_faults at construct os ≡ []
      → Kept (custom_statement_faults at' construct os)
      (flat_map (items_of_option at' construct) os) (flat_map (items_of_option at construct) os)
  set_kept construct [] h = nothing_kept
  set_kept construct (o ∷ os) h =
      let first = option_faults_at at construct o in
      let others = custom_statement_faults at construct os in
      both_kept (option_faults_at at' construct o) (custom_statement_faults at' construct os)
      (items_of_option at' construct o) (items_of_option at construct o)
      (flat_map (items_of_option at' construct) os) (flat_map (items_of_option at construct) os)
      (option_kept construct o (no_left first others h))
      (set_kept construct os (no_right first others h))

pub lookups_keep_meaning : LookupsKeepMeaning
lookups_keep_meaning at at' keeps construct os h =
    let k = set_kept at at' keeps construct os h in
    record { faultless = k.faultless; same = ap entries_of_list k.same }
