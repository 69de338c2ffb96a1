-- Where names mean the same but for options, the same is wrong in custom options and they denote
-- the same.
use Rattle.std.proofs.Common.{◌≡◌, ℤ, Bool, true, false, cond, not, ◌&&◌, List, [], ◌∷◌, ◌++◌}
use Rattle.std.proofs.Common.{flat_map, Option, Some, None, is_some, option_map, option_to_list}
use Rattle.std.proofs.Common.{if◌then◌else◌, refl, sym, ap, ◌∙◌}
use Rattle.protobuf_parse_syntax.specs.Trees.{ConstantNameSyntax, regular_name, extension_name}
use Rattle.protobuf_parse_syntax.specs.Trees.{url_name, ConstantSyntax, integer, truth, dotted}
use Rattle.protobuf_parse_syntax.specs.Trees.{string, list, fields, ConstantList, no_constants}
use Rattle.protobuf_parse_syntax.specs.Trees.{more_constants, ConstantFieldList, no_fields}
use Rattle.protobuf_parse_syntax.specs.Trees.{more_fields, OptionPartSyntax, direct, extension}
use Rattle.protobuf_parse_syntax.specs.Trees.{OptionNameSyntax, builtin, custom, OptionSyntax}
use Rattle.protobuf_parse_model.specs.declared.error.ElabErrorKind.TheVariants.{UnknownFieldName}
use Rattle.protobuf_parse_model.specs.declared.error.ElabErrorKind.TheVariants.{WrongExtensionType}
use Rattle.protobuf_parse_model.specs.Descriptors.{Text, FieldDescriptor, FileDescriptor}
use Rattle.protobuf_parse_model.specs.Faults.{Wrong}
use Rattle.protobuf_parse_model.specs.Declarations.{Declared}
use Rattle.protobuf_parse_model.specs.Duplicates.{fault_when}
use Rattle.protobuf_parse_model.specs.declared.customs.Construct.{Construct}
use Rattle.protobuf_parse_model.specs.Environment.{part_text, option_path_text}
use Rattle.protobuf_parse_wire.specs.Trees as trees
use Rattle.protobuf_parse_wire.specs.Views.{entries_of_list}
use Rattle.protobuf_parse_wire.specs.Declarations.{extends}
use Rattle.protobuf_parse_options.specs.OptionFields.{OptionScope, options_message, field_named}
use Rattle.protobuf_parse_options.specs.OptionFields.{number_of_value, names_message}
use Rattle.protobuf_parse_options.specs.OptionFields.{extension_meant}
use Rattle.protobuf_parse_options.specs.OptionFields.{extends_message, if_extends, extension_named}
use Rattle.protobuf_parse_options.specs.OptionFields.{part_field, constant_field, type_name_of}
use Rattle.protobuf_parse_options.specs.OptionFields.{type_takes}
use Rattle.protobuf_parse_options.specs.CustomOptions.{item_of, item_of_message, value_items}
use Rattle.protobuf_parse_options.specs.CustomOptions.{list_items}
use Rattle.protobuf_parse_options.specs.CustomOptions.{field_items, path_items, named_items}
use Rattle.protobuf_parse_options.specs.CustomOptions.{items_of_option, denotes}
use Rattle.protobuf_parse_options.specs.CustomFaults.{value_name_faults, message_value_faults}
use Rattle.protobuf_parse_options.specs.CustomFaults.{number_faults, field_name_faults}
use Rattle.protobuf_parse_options.specs.CustomFaults.{extension_name_faults, constant_name_faults}
use Rattle.protobuf_parse_options.specs.CustomFaults.{constant_faults, list_faults, member_faults}
use Rattle.protobuf_parse_options.specs.CustomFaults.{part_faults, step_faults, path_faults}
use Rattle.protobuf_parse_options.specs.CustomFaults.{custom_faults, custom_name_faults}
use Rattle.protobuf_parse_options.specs.CustomFaults.{custom_statement_faults}
use Rattle.protobuf_parse_options.specs.WithoutOptions.{bare_field}
use Rattle.protobuf_parse_options.proofs.BareDeclarations.{bare_extension}
use Rattle.protobuf_parse_options.specs.CustomFaults.{option_faults_at, first_of}
use Rattle.protobuf_parse_model.specs.Faults.{placed}

-- names mean the same from both, but for options
pub record AlikeLookups (at at' : OptionScope) : Type 0 where
  pub fields : (message name : Text)
      → option_map bare_field (field_named at.files message name)
      ≡ option_map bare_field (field_named at'.files message name)
  pub values : (enum_name name : Text)
      → number_of_value at.files enum_name name ≡ number_of_value at'.files enum_name name
  pub messages : (name : Text) → names_message at.files name ≡ names_message at'.files name
  pub extensions : (name : Text)
      → option_map bare_extension (extension_meant at name)
      ≡ option_map bare_extension (extension_meant at' name)

-- ---- lists

both-same : {A : Type 0} (xs xs' ys ys' : List A) → xs ≡ xs' → ys ≡ ys' → xs ++ ys ≡ xs' ++ ys'
both-same xs xs' ys ys' e h = ap (λ zs. zs ++ ys) e ∙ ap (λ zs. xs' ++ zs) h

flat-same : {A B : Type 0} (f g : A → List B) → ((x : A) → f x ≡ g x) → (xs : List A)
    → flat_map f xs ≡ flat_map g xs
flat-same f g each [] = refl
flat-same f g each (x ∷ xs) =
    both-same (f x) (g x) (flat_map f xs) (flat_map g xs) (each x) (flat-same f g each xs)

-- ---- what asks a field for no option

-- what is said of a field is said of it without its options
abbrev AsksNoOption : {A : Type 0} → (FieldDescriptor → A) → Type 0
AsksNoOption f = (x : FieldDescriptor) → f (bare_field x) ≡ f x

some-bare : (o : Option FieldDescriptor) → is_some (option_map bare_field o) ≡ is_some o
some-bare None = refl
some-bare (Some x) = refl

some-alike : (o o' : Option FieldDescriptor) → option_map bare_field o ≡ option_map bare_field o'
    → is_some o ≡ is_some o'
some-alike o o' e = sym (some-bare o) ∙ ap is_some e ∙ some-bare o'

found-bare : {A : Type 0} (f : FieldDescriptor → List A) → AsksNoOption f
    → (o : Option FieldDescriptor)
    → flat_map f (option_to_list (option_map bare_field o)) ≡ flat_map f (option_to_list o)
found-bare f asks None = refl
found-bare f asks (Some x) = ap (λ ys. ys ++ []) (asks x)

-- of what is found
found-alike : {A : Type 0} (f g : FieldDescriptor → List A) → AsksNoOption f
    → ((x : FieldDescriptor) → f x ≡ g x) → (o o' : Option FieldDescriptor)
    → option_map bare_field o ≡ option_map bare_field o'
    → flat_map f (option_to_list o) ≡ flat_map g (option_to_list o')
found-alike f g asks each o o' e =
    sym (found-bare f asks o)
    ∙ ap (λ (p : Option FieldDescriptor). flat_map f (option_to_list p)) e
    ∙ found-bare f asks o'
    ∙ flat-same f g each (option_to_list o')

module _ (at : OptionScope) where
  mutual
    constant_faults-bare : (option : Text) (f : FieldDescriptor) (c : ConstantSyntax)
        → constant_faults at option (bare_field f) c ≡ constant_faults at option f c
    constant_faults-bare option f (list cs) = list_faults-bare option f cs
    constant_faults-bare option f (dotted name) = refl
    constant_faults-bare option f (fields fs) = refl
    constant_faults-bare option f (integer z) = refl
    constant_faults-bare option f (truth b) = refl
    constant_faults-bare option f (string pieces) = refl

    list_faults-bare : (option : Text) (f : FieldDescriptor) (cs : ConstantList)
        → list_faults at option (bare_field f) cs ≡ list_faults at option f cs
    list_faults-bare option f no_constants = refl
    list_faults-bare option f (more_constants c cs) =
        both-same (constant_faults at option (bare_field f) c) (constant_faults at option f c)
        (list_faults at option (bare_field f) cs) (list_faults at option f cs)
        (constant_faults-bare option f c) (list_faults-bare option f cs)

  mutual
    value_items-bare : (c : ConstantSyntax)
        → AsksNoOption (λ (f : FieldDescriptor). value_items at f c)
    value_items-bare (list cs) f = list_items-bare cs f
    value_items-bare (dotted name) f = refl
    value_items-bare (fields fs) f = refl
    value_items-bare (integer z) f = refl
    value_items-bare (truth b) f = refl
    value_items-bare (string pieces) f = refl

    list_items-bare : (cs : ConstantList)
        → AsksNoOption (λ (f : FieldDescriptor). list_items at f cs)
    list_items-bare no_constants f = refl
    list_items-bare (more_constants c cs) f =
        both-same (value_items at (bare_field f) c) (value_items at f c)
        (list_items at (bare_field f) cs) (list_items at f cs) (value_items-bare c f)
        (list_items-bare cs f)

  -- what is wrong where a value is given to a field
  abbrev given_faults : Text → ConstantSyntax → FieldDescriptor → List Wrong
  given_faults option c g = number_faults g ++ constant_faults at option g c

  given-bare : (option : Text) (c : ConstantSyntax) → AsksNoOption (given_faults option c)
  given-bare option c g =
      ap (λ (xs : List Wrong). number_faults g ++ xs) (constant_faults-bare option g c)

-- an extension that extends the message
if_extends-bare : (files : List FileDescriptor) (message : Text)
    (o : Option (Declared FieldDescriptor))
    → if_extends files message (option_map bare_extension o)
    ≡ option_map bare_field (if_extends files message o)
if_extends-bare files message None = refl
if_extends-bare files message (Some d) = at (extends_message files message d.what)
  where
    at : (b : Bool) → cond b (Some (bare_field d.what)) None
        ≡ option_map bare_field (cond b (Some d.what) None)
    at true = refl
    at false = refl

-- what is wrong in the name of one
meant-bare : (files : List FileDescriptor) (message name : Text)
    (o : Option (Declared FieldDescriptor))
    → extension_name_faults files message name (option_map bare_extension o)
    ≡ extension_name_faults files message name o
meant-bare files message name None = refl
meant-bare files message name (Some d) = refl

module _ (at at' : OptionScope) (same : AlikeLookups at at') where
  -- ---- fields and extensions

  extends-same : (message : Text) (f : FieldDescriptor)
      → extends_message at.files message f ≡ extends_message at'.files message f
  extends-same message f = ap (λ (b : Bool). extends message f && b) (same.messages message)

  if_extends-same : (message : Text) (o : Option (Declared FieldDescriptor))
      → if_extends at.files message o ≡ if_extends at'.files message o
  if_extends-same message None = refl
  if_extends-same message (Some d) =
      ap (λ (b : Bool). if b then Some d.what else None) (extends-same message d.what)

  extension-alike : (message name : Text)
      → option_map bare_field (extension_named at message name)
      ≡ option_map bare_field (extension_named at' message name)
  extension-alike message name =
      sym (if_extends-bare at.files message (extension_meant at name))
      ∙ if_extends-same message (option_map bare_extension (extension_meant at name))
      ∙ ap (if_extends at'.files message) (same.extensions name)
      ∙ if_extends-bare at'.files message (extension_meant at' name)

  part-alike : (message : Text) (p : OptionPartSyntax)
      → option_map bare_field (part_field at message p)
      ≡ option_map bare_field (part_field at' message p)
  part-alike message (direct name) = same.fields message name
  part-alike message (extension name) = extension-alike message name

  constant-alike : (message : Text) (name : ConstantNameSyntax)
      → option_map bare_field (constant_field at message name)
      ≡ option_map bare_field (constant_field at' message name)
  constant-alike message (regular_name name) = same.fields message name
  constant-alike message (extension_name name) = extension-alike message name
  constant-alike message (url_name name) = refl

  -- ---- faults of names

  field_name-same : (message name : Text)
      → field_name_faults at message name ≡ field_name_faults at' message name
  field_name-same message name =
      ap (λ (b : Bool). fault_when (not b) UnknownFieldName name)
      (some-alike (field_named at.files message name) (field_named at'.files message name)
      (same.fields message name))

  meant-same : (message name : Text) (o : Option (Declared FieldDescriptor))
      → extension_name_faults at.files message name o
      ≡ extension_name_faults at'.files message name o
  meant-same message name None = refl
  meant-same message name (Some d) =
      ap (λ (b : Bool). fault_when (not b) WrongExtensionType name) (extends-same message d.what)

  extension_faults-same : (message name : Text)
      → extension_name_faults at.files message name (extension_meant at name)
      ≡ extension_name_faults at'.files message name (extension_meant at' name)
  extension_faults-same message name =
      sym (meant-bare at.files message name (extension_meant at name))
      ∙ meant-same message name (option_map bare_extension (extension_meant at name))
      ∙ ap (extension_name_faults at'.files message name) (same.extensions name)
      ∙ meant-bare at'.files message name (extension_meant at' name)

  constant_name-same : (message : Text) (name : ConstantNameSyntax)
      → constant_name_faults at message name ≡ constant_name_faults at' message name
  constant_name-same message (regular_name name) = field_name-same message name
  constant_name-same message (extension_name name) = extension_faults-same message name
  constant_name-same message (url_name name) = refl

  part_faults-same : (message : Text) (p : OptionPartSyntax)
      → part_faults at message p ≡ part_faults at' message p
  part_faults-same message (direct name) = field_name-same message name
  part_faults-same message (extension name) = extension_faults-same message name

  -- ---- faults of constants

  mutual
    constant_faults-same : (option : Text) (f : FieldDescriptor) (c : ConstantSyntax)
        → constant_faults at option f c ≡ constant_faults at' option f c
    constant_faults-same option f (dotted name) =
        ap (value_name_faults f.name (type_takes f.type_) name) (same.values (type_name_of f) name)
    constant_faults-same option f (list cs) = list_faults-same option f cs
    constant_faults-same option f (fields fs) =
        ap (message_value_faults f.name (type_takes f.type_))
        (member_faults-same option (type_name_of f) fs)
    constant_faults-same option f (integer z) = refl
    constant_faults-same option f (truth b) = refl
    constant_faults-same option f (string pieces) = refl

    list_faults-same : (option : Text) (f : FieldDescriptor) (cs : ConstantList)
        → list_faults at option f cs ≡ list_faults at' option f cs
    list_faults-same option f no_constants = refl
    list_faults-same option f (more_constants c cs) =
        both-same (constant_faults at option f c) (constant_faults at' option f c)
        (list_faults at option f cs) (list_faults at' option f cs) (constant_faults-same option f c)
        (list_faults-same option f cs)

    member_faults-same : (option message : Text) (fs : ConstantFieldList)
        → member_faults at option message fs ≡ member_faults at' option message fs
    member_faults-same option message no_fields = refl
    member_faults-same option message (more_fields name c fs) =
        both-same _ _ (member_faults at option message fs) (member_faults at' option message fs)
        (both-same (constant_name_faults at message name)
        (constant_name_faults at' message name) _ _ (constant_name-same message name)
        (found-alike (given_faults at option c) (given_faults at' option c) (given-bare at option c)
        (λ g. ap (λ (xs : List Wrong). number_faults g ++ xs) (constant_faults-same option g c))
        (constant_field at message name) (constant_field at' message name)
        (constant-alike message name)))
        (member_faults-same option message fs)

  -- ---- faults of paths

  path_faults-same : (option : Text) (value : ConstantSyntax) (message : Text)
      (parts : List OptionPartSyntax)
      → path_faults at option value message parts ≡ path_faults at' option value message parts
  path_faults-same option value message [] = refl
  path_faults-same option value message (p ∷ []) =
      both-same (part_faults at message p) (part_faults at' message p) _ _
      (part_faults-same message p)
      (found-alike (given_faults at option value) (given_faults at' option value)
      (given-bare at option value)
      (λ g. ap (λ (xs : List Wrong). number_faults g ++ xs) (constant_faults-same option g value))
      (part_field at message p) (part_field at' message p) (part-alike message p))
  path_faults-same option value message (p ∷ q ∷ ps) =
      both-same (part_faults at message p) (part_faults at' message p) _ _
      (part_faults-same message p)
      (found-alike (λ (g : FieldDescriptor). number_faults g
      ++ step_faults (part_text p) (type_takes g.type_)
      (path_faults at option value (type_name_of g) (q ∷ ps))) (λ
      (g : FieldDescriptor). number_faults g
      ++ step_faults (part_text p) (type_takes g.type_)
      (path_faults at' option value (type_name_of g) (q ∷ ps)))
      (λ g. refl)
      (λ g. ap (λ (xs : List Wrong). number_faults g
      ++ step_faults (part_text p) (type_takes g.type_) xs) (path_faults-same option value
      (type_name_of g) (q ∷ ps))) (part_field at message p) (part_field at' message
      p) (part-alike message p))

  custom_faults-same : (construct : Construct) (value : ConstantSyntax)
      (parts : List OptionPartSyntax)
      → custom_faults at construct value parts ≡ custom_faults at' construct value parts
  custom_faults-same construct value [] = refl
  custom_faults-same construct value (direct name ∷ ps) = refl
  custom_faults-same construct value (extension name ∷ ps) =
      path_faults-same (option_path_text (extension name ∷ ps)) value (options_message construct)
      (extension name ∷ ps)

  named_faults-same : (construct : Construct) (value : ConstantSyntax) (name : OptionNameSyntax)
      → custom_name_faults at construct value name ≡ custom_name_faults at' construct value name
  named_faults-same construct value (builtin name) = refl
  named_faults-same construct value (custom parts) = custom_faults-same construct value parts

  -- ---- what constants give

  mutual
    value_items-same : (f : FieldDescriptor) (c : ConstantSyntax)
        → value_items at f c ≡ value_items at' f c
    value_items-same f (dotted name) =
        ap (λ (o : Option ℤ). flat_map (λ (z : ℤ). item_of f (trees.number z)) (option_to_list o))
        (same.values (type_name_of f) name)
    value_items-same f (list cs) = list_items-same f cs
    value_items-same f (fields fs) = ap (item_of_message f) (field_items-same (type_name_of f) fs)
    value_items-same f (integer z) = refl
    value_items-same f (truth b) = refl
    value_items-same f (string pieces) = refl

    list_items-same : (f : FieldDescriptor) (cs : ConstantList)
        → list_items at f cs ≡ list_items at' f cs
    list_items-same f no_constants = refl
    list_items-same f (more_constants c cs) =
        both-same (value_items at f c) (value_items at' f c) (list_items at f cs)
        (list_items at' f cs) (value_items-same f c) (list_items-same f cs)

    field_items-same : (message : Text) (fs : ConstantFieldList)
        → field_items at message fs ≡ field_items at' message fs
    field_items-same message no_fields = refl
    field_items-same message (more_fields name c fs) =
        both-same _ _ (field_items at message fs) (field_items at' message fs)
        (found-alike (λ (g : FieldDescriptor). value_items at g c)
        (λ (g : FieldDescriptor). value_items at' g c) (value_items-bare at c)
        (λ g. value_items-same g c) (constant_field at message name)
        (constant_field at' message name) (constant-alike message name))
        (field_items-same message fs)

  -- ---- what paths give

  path_items-same : (value : ConstantSyntax) (message : Text) (parts : List OptionPartSyntax)
      → path_items at value message parts ≡ path_items at' value message parts
  path_items-same value message [] = refl
  path_items-same value message (p ∷ []) =
      found-alike (λ (g : FieldDescriptor). value_items at g value)
      (λ (g : FieldDescriptor). value_items at' g value) (value_items-bare at value)
      (λ g. value_items-same g value) (part_field at message p) (part_field at' message p)
      (part-alike message p)
  path_items-same value message (p ∷ q ∷ ps) =
      found-alike
      (λ (g : FieldDescriptor). item_of_message g (path_items at value (type_name_of g) (q ∷ ps)))
      (λ (g : FieldDescriptor). item_of_message g (path_items at' value (type_name_of g) (q ∷ ps)))
      (λ g. refl) (λ g. ap (item_of_message g) (path_items-same value (type_name_of g) (q ∷ ps)))
      (part_field at message p) (part_field at' message p) (part-alike message p)

  named_items-same : (message : Text) (value : ConstantSyntax) (name : OptionNameSyntax)
      → named_items at message value name ≡ named_items at' message value name
  named_items-same message value (builtin name) = refl
  named_items-same message value (custom parts) = path_items-same value message parts

  -- ---- the statements of a construct

  pub faults-same : (construct : Construct) (os : List OptionSyntax)
      → custom_statement_faults at construct os ≡ custom_statement_faults at' construct os
  faults-same construct os =
      flat-same (option_faults_at at construct) (option_faults_at at' construct)
      (λ o. ap (λ (ws : List Wrong). placed o.place (first_of ws))
      (named_faults-same construct o.value o.name)) os

  pub meaning-same : (construct : Construct) (os : List OptionSyntax)
      → denotes at construct os ≡ denotes at' construct os
  meaning-same construct os =
      ap entries_of_list
      (flat-same (items_of_option at construct) (items_of_option at' construct)
      (λ o. named_items-same (options_message construct) o.value o.name) os)
