-- Where no fault stands in custom options, what they denote can be written.
use Rattle.std.proofs.Common.{◌≡◌, ℕ, ℤ, Bool, true, false, not, cond, List, [], ◌∷◌, ◌++◌, map}
use Rattle.std.proofs.Common.{flat_map, Option, Some, None, refl, bytes_eq, codes}
use Rattle.std.specs.Option.{option_to_list}
use Rattle.std.specs.Int.{w32}
use Rattle.std.specs.Int.RustNames.{FitsSigned}
use Rattle.protobuf_parse_syntax.specs.Trees.{Pieces, ConstantSyntax, integer, truth, dotted}
use Rattle.protobuf_parse_syntax.specs.Trees.{string, list, fields, ConstantList, no_constants}
use Rattle.protobuf_parse_syntax.specs.Trees.{more_constants, ConstantFieldList, no_fields}
use Rattle.protobuf_parse_syntax.specs.Trees.{more_fields, OptionPartSyntax, direct, extension}
use Rattle.protobuf_parse_syntax.specs.Trees.{OptionNameSyntax, builtin, custom, OptionSyntax}
use Rattle.protobuf_parse_model.specs.declared.error.ElabErrorKind.TheVariants.{IntegerOutOfRange}
use Rattle.protobuf_parse_model.specs.declared.error.ElabErrorKind.TheVariants.{UninterpretedOptionName}
use Rattle.protobuf_parse_model.specs.declared.error.ElabErrorKind.TheVariants.{ExtensionIsNotMessage}
use Rattle.protobuf_parse_model.specs.declared.error.ElabErrorKind.TheVariants.{UnknownFieldName}
use Rattle.protobuf_parse_model.specs.declared.descriptor.FieldType.{FieldType}
use Rattle.protobuf_parse_model.specs.declared.descriptor.FieldType.TheVariants as types
use Rattle.protobuf_parse_model.specs.Descriptors.{Text, FieldDescriptor}
use Rattle.protobuf_parse_model.specs.Faults.{Wrong}
use Rattle.protobuf_parse_model.specs.Duplicates.{stands_in}
use Rattle.protobuf_parse_model.specs.declared.customs.Construct.{Construct}
use Rattle.protobuf_parse_wire.specs.declared.kind.Kind.{Kind}
use Rattle.protobuf_parse_wire.specs.declared.kind.Kind.TheVariants as kinds
use Rattle.protobuf_parse_wire.specs.Kinds.{KindShape, shape_of_kind, kind_of_field_type, fits}
use Rattle.protobuf_parse_wire.specs.Kinds.{InRange}
use Rattle.protobuf_parse_wire.specs.Trees as trees
use Rattle.protobuf_parse_wire.specs.Trees.{EntryTree}
use Rattle.protobuf_parse_wire.specs.Views.{WireItem, entries_of_list}
use Rattle.protobuf_parse_wire.proofs.Ranges.{in_range}
use Rattle.protobuf_parse_wire.specs.Writing.{AreWritable}
use Rattle.protobuf_parse_options.specs.OptionFields.{OptionScope, options_message, number_of_value}
use Rattle.protobuf_parse_options.specs.OptionFields.{part_field, constant_field, type_name_of}
use Rattle.protobuf_parse_options.specs.OptionFields.{integers, type_takes}
use Rattle.protobuf_parse_options.specs.Given.{AreFit}
use Rattle.protobuf_parse_options.specs.OptionLaw.{HasSmallValues}
use Rattle.protobuf_parse_options.specs.CustomOptions.{value_items, list_items, field_items}
use Rattle.protobuf_parse_options.specs.CustomOptions.{path_items, item_of_message, named_items}
use Rattle.protobuf_parse_options.specs.CustomOptions.{items_of_option, denotes}
use Rattle.protobuf_parse_options.specs.CustomFaults.{integer_faults, truth_faults}
use Rattle.protobuf_parse_options.specs.CustomFaults.{value_name_faults}
use Rattle.protobuf_parse_options.specs.CustomFaults.{string_value_faults, message_value_faults}
use Rattle.protobuf_parse_options.specs.CustomFaults.{number_faults, constant_name_faults}
use Rattle.protobuf_parse_options.specs.CustomFaults.{constant_faults, list_faults, member_faults}
use Rattle.protobuf_parse_options.specs.CustomFaults.{part_faults, step_faults, path_faults}
use Rattle.protobuf_parse_options.specs.CustomFaults.{table_of}
use Rattle.protobuf_parse_options.specs.CustomFaults.{option_names_in, builtin_step_faults}
use Rattle.protobuf_parse_options.specs.CustomFaults.{custom_faults}
use Rattle.protobuf_parse_options.specs.CustomFaults.{custom_name_faults, custom_statement_faults}
use Rattle.protobuf_parse_model.specs.Environment.{part_text, option_path_text}
use Rattle.protobuf_parse_options.specs.CustomFaults.{option_faults_at}
use Rattle.protobuf_parse_options.proofs.Refusing.{none_wrong}

-- ---- lists

pub no_left : {A : Type 0} (xs ys : List A) → xs ++ ys ≡ [] → xs ≡ []
no_left [] ys e = refl
no_left (x ∷ xs) ys e = absurd cc

pub no_right : {A : Type 0} (xs ys : List A) → xs ++ ys ≡ [] → ys ≡ []
no_right [] ys e = e
no_right (x ∷ xs) ys e = absurd cc

fit_append : (xs ys : List WireItem) → AreFit xs → AreFit ys → AreFit (xs ++ ys)
fit_append [] ys p q = q
fit_append (x ∷ xs) ys p q = (p.0, fit_append xs ys p.1 q)

-- where each has no fault
fit_each : {A B : Type 0} (faults : A → List B) (items : A → List WireItem)
    → ((x : A) → faults x ≡ [] → AreFit (items x)) → (xs : List A) → flat_map faults xs ≡ []
    → AreFit (flat_map items xs)
fit_each faults items each [] e = tt
fit_each faults items each (x ∷ xs) e =
    fit_append (items x) (flat_map items xs) (each x (no_left (faults x) (flat_map faults xs) e))
    (fit_each faults items each xs (no_right (faults x) (flat_map faults xs) e))

-- ---- one value of one field, by the field's type

abbrev item_at : ℕ → FieldType → EntryTree → List WireItem
item_at n t v = map (λ (k : Kind). record { number = n; kind = k; value = v })
    (option_to_list (kind_of_field_type t))

kept : (s : KindShape) (v : ℤ) (b : Bool) (x : Wrong) → fits s v ≡ b → cond (not b) (x ∷ []) [] ≡ []
    → InRange s v
kept s v true x h e = h
kept s v false x h e = absurd cc

pub number_kept : (k : Kind) (name : Text) (v : ℤ) → integer_faults name (integers k) v ≡ []
    → InRange (shape_of_kind k) v
number_kept k name v e =
    kept (shape_of_kind k) v (fits (shape_of_kind k) v)
    (record { kind = IntegerOutOfRange; what = name }) refl e

pub number_fit : (name : Text) (t : FieldType) (n : ℕ) (z : ℤ)
    → integer_faults name (type_takes t) z ≡ []
    → AreFit (item_at n t (trees.number z))
number_fit name types.Int32 n z e = (number_kept kinds.Int32 name z e, tt)
number_fit name types.Int64 n z e = (number_kept kinds.Int64 name z e, tt)
number_fit name types.Uint32 n z e = (number_kept kinds.Uint32 name z e, tt)
number_fit name types.Uint64 n z e = (number_kept kinds.Uint64 name z e, tt)
number_fit name types.Sint32 n z e = (number_kept kinds.Sint32 name z e, tt)
number_fit name types.Sint64 n z e = (number_kept kinds.Sint64 name z e, tt)
number_fit name types.Fixed32 n z e = (number_kept kinds.Fixed32 name z e, tt)
number_fit name types.Sfixed32 n z e = (number_kept kinds.Sfixed32 name z e, tt)
number_fit name types.Fixed64 n z e = (number_kept kinds.Fixed64 name z e, tt)
number_fit name types.Sfixed64 n z e = (number_kept kinds.Sfixed64 name z e, tt)
number_fit name _ n z e = absurd cc

pub truth_fit : (name : Text) (t : FieldType) (n : ℕ) (b : Bool)
    → truth_faults name (type_takes t) ≡ []
    → AreFit (item_at n t (trees.truth b))
truth_fit name types.Bool n b e = (tt, tt)
truth_fit name _ n b e = absurd cc

pub string_fit : (option name : Text) (t : FieldType) (n : ℕ) (pieces : Pieces) (bs : List ℕ)
    → string_value_faults option name (type_takes t) pieces ≡ []
    → AreFit (item_at n t (trees.bytes bs))
string_fit option name types.String n pieces bs e = (tt, tt)
string_fit option name types.Bytes n pieces bs e = (tt, tt)
string_fit option name _ n pieces bs e = absurd cc

message_fit : (name : Text) (t : FieldType) (n : ℕ) (inside : List Wrong) (items : List WireItem)
    → message_value_faults name (type_takes t) inside ≡ [] → (inside ≡ [] → AreFit items)
    → AreFit (item_at n t (trees.message (entries_of_list items)))
message_fit name types.Message n inside items e f = ((tt, f e), tt)
message_fit name _ n inside items e f = absurd cc

step_fit : (part : Text) (t : FieldType) (n : ℕ) (inside : List Wrong) (items : List WireItem)
    → step_faults part (type_takes t) inside ≡ [] → (inside ≡ [] → AreFit items)
    → AreFit (item_at n t (trees.message (entries_of_list items)))
step_fit part types.Message n inside items e f = ((tt, f e), tt)
step_fit part _ n inside items e f = absurd cc

pub value_fits : (name value : Text) (t : FieldType) (n : ℕ) (z : ℤ) → FitsSigned w32 z
    → value_name_faults name (type_takes t) value (Some z) ≡ []
    → AreFit (item_at n t (trees.number z))
value_fits name value types.Enum n z small e =
    (in_range (shape_of_kind kinds.Enum) z small, tt)
value_fits name value _ n z small e = absurd cc

abbrev numbers : ℕ → FieldType → Option ℤ → List WireItem
numbers n t o = flat_map (λ (z : ℤ). item_at n t (trees.number z)) (option_to_list o)

value_name_fit : (name value : Text) (t : FieldType) (n : ℕ) (o : Option ℤ)
    → ((z : ℤ) → o ≡ Some z → FitsSigned w32 z) → value_name_faults name (type_takes t) value o ≡ []
    → AreFit (numbers n t o)
value_name_fit name value t n (Some z) small e =
    fit_append (item_at n t (trees.number z)) [] (value_fits name value t n z (small z refl) e) tt
value_name_fit name value t n None small e = tt

-- ---- constants

mutual
  value_fit : (at : OptionScope) → HasSmallValues at.files
      → (option : Text) (f : FieldDescriptor) (c : ConstantSyntax)
      → constant_faults at option f c ≡ []
      → AreFit (value_items at f c)
  value_fit at small option f (integer z) e = number_fit f.name f.type_ _ z e
  value_fit at small option f (truth b) e = truth_fit f.name f.type_ _ b e
  value_fit at small option f (dotted name) e =
      value_name_fit f.name name f.type_ _ (number_of_value at.files (type_name_of f) name)
      (small (type_name_of f) name) e
  value_fit at small option f (string pieces) e = string_fit option f.name f.type_ _ pieces _ e
  value_fit at small option f (list cs) e = list_fit at small option f cs e
  value_fit at small option f (fields fs) e =
      message_fit f.name f.type_ _ (member_faults at option (type_name_of f) fs)
      (field_items at (type_name_of f) fs) e (λ h. field_fit at small option (type_name_of f) fs h)

  list_fit : (at : OptionScope) → HasSmallValues at.files
      → (option : Text) (f : FieldDescriptor) (cs : ConstantList) → list_faults at option f cs ≡ []
      → AreFit (list_items at f cs)
  list_fit at small option f no_constants e = tt
  list_fit at small option f (more_constants c cs) e =
      fit_append (value_items at f c) (list_items at f cs)
      (value_fit at small option f c
      (no_left (constant_faults at option f c) (list_faults at option f cs) e))
      (list_fit at small option f cs
      (no_right (constant_faults at option f c) (list_faults at option f cs) e))

  field_fit : (at : OptionScope) → HasSmallValues at.files
      → (option message : Text) (fs : ConstantFieldList) → member_faults at option message fs ≡ []
      → AreFit (field_items at message fs)
  field_fit at small option message no_fields e = tt
  field_fit at small option message (more_fields name c fs) e =
      let front = no_left
      (constant_name_faults at message name
      ++ flat_map (λ (g : FieldDescriptor). number_faults g ++ constant_faults at option g c)
      (option_to_list (constant_field at message name))) (member_faults at option message fs) e
      in
      fit_append
      (flat_map (λ (g : FieldDescriptor). value_items at g c)
      (option_to_list (constant_field at message name))) (field_items at message fs)
      (fit_each (λ (g : FieldDescriptor). number_faults g ++ constant_faults at option g c)
      (λ (g : FieldDescriptor). value_items at g c)
      (λ g h. value_fit at small option g c (no_right (number_faults g) _ h))
      (option_to_list (constant_field at message name))
      (no_right (constant_name_faults at message name)
      (flat_map (λ (g : FieldDescriptor). number_faults g ++ constant_faults at option g c)
      (option_to_list (constant_field at message name))) front))
      (field_fit at small option message fs
      (no_right (constant_name_faults at message name
      ++ flat_map (λ (g : FieldDescriptor). number_faults g ++ constant_faults at option g c)
      (option_to_list (constant_field at message name))) (member_faults at option message fs) e))

-- ---- names

path_fit : (at : OptionScope) → HasSmallValues at.files
    → (option : Text) (value : ConstantSyntax) (message : Text) (parts : List OptionPartSyntax)
    → path_faults at option value message parts ≡ [] → AreFit (path_items at value message parts)
path_fit at small option value message [] e = tt
path_fit at small option value message (p ∷ []) e =
    fit_each (λ (g : FieldDescriptor). number_faults g ++ constant_faults at option g value)
    (λ (g : FieldDescriptor). value_items at g value)
    (λ g h. value_fit at small option g value (no_right (number_faults g) _ h)) _
    (no_right (part_faults at message p) _ e)
path_fit at small option value message (p ∷ q ∷ ps) e =
    fit_each (λ (g : FieldDescriptor). number_faults g
    ++ step_faults (part_text p) (type_takes g.type_)
    (path_faults at option value (type_name_of g) (q ∷ ps))) (λ
    (g : FieldDescriptor). item_of_message g (path_items at value (type_name_of g) (q ∷ ps)))
    (λ g h. step_fit (part_text p) g.type_ _ (path_faults at option value (type_name_of g) (q ∷ ps))
    (path_items at value (type_name_of g) (q ∷ ps)) (no_right (number_faults g) _ h)
    (λ k. path_fit at small option value (type_name_of g) (q ∷ ps) k)) (option_to_list
    (part_field at message p)) (no_right (part_faults at message p) _ e)

-- a plain part before others always has a fault
step_has_fault : (a b : Bool) (x y z : Wrong) → cond a (x ∷ []) (cond b (y ∷ []) (z ∷ [])) ≡ [] → ⊥
step_has_fault true b x y z e = absurd cc
step_has_fault false true x y z e = absurd cc
step_has_fault false false x y z e = absurd cc

pub direct_step_has_fault : (construct : Construct) (name : Text)
    → builtin_step_faults (table_of construct) name ≡ [] → ⊥
direct_step_has_fault construct name e =
    step_has_fault (bytes_eq name (codes "uninterpreted_option"))
    (stands_in name (option_names_in (table_of construct)))
    (record { kind = UninterpretedOptionName; what = name })
    (record { kind = ExtensionIsNotMessage; what = name })
    (record { kind = UnknownFieldName; what = name }) e

custom_fit : (at : OptionScope) → HasSmallValues at.files
    → (construct : Construct) (value : ConstantSyntax) (parts : List OptionPartSyntax)
    → custom_faults at construct value parts ≡ []
    → AreFit (path_items at value (options_message construct) parts)
custom_fit at small construct value [] e = tt
custom_fit at small construct value (direct name ∷ ps) e =
    absurd (direct_step_has_fault construct name e)
custom_fit at small construct value (extension name ∷ ps) e =
    path_fit at small (option_path_text (extension name ∷ ps)) value (options_message construct)
    (extension name ∷ ps) e

named_fit : (at : OptionScope) → HasSmallValues at.files
    → (construct : Construct) (value : ConstantSyntax) (name : OptionNameSyntax)
    → custom_name_faults at construct value name ≡ []
    → AreFit (named_items at (options_message construct) value name)
named_fit at small construct value (builtin name) e = tt
named_fit at small construct value (custom parts) e = custom_fit at small construct value parts e

-- what the statements of one construct denote can be written, so that there are bytes which spell
-- it
pub denotes_writable : (at : OptionScope) → HasSmallValues at.files
    → (construct : Construct) (os : List OptionSyntax) → custom_statement_faults at construct os
    ≡ []
    → AreWritable (denotes at construct os)
denotes_writable at small construct os e =
    fit_each (option_faults_at at construct) (items_of_option at construct)
    (λ o h. named_fit at small construct o.value o.name
    (none_wrong o.place (custom_name_faults at construct o.value o.name) h)) os e
