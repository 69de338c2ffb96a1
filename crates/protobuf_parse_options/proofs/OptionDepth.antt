-- What custom options denote is no deeper than their names and their constants.
use Rattle.std.proofs.Common.{ℕ, ◌+◌, ◌≤◌, ℤ, List, [], ◌∷◌, ◌++◌, map, flat_map, length, Option}
use Rattle.std.proofs.Common.{Some, None, unwrap_or, arith}
use Rattle.std.specs.Option.{option_to_list}
use Rattle.protobuf_parse_lexer.specs.Decoder.{decode}
use Rattle.protobuf_parse_syntax.specs.Trees.{ConstantSyntax, integer, truth, dotted, string, list}
use Rattle.protobuf_parse_syntax.specs.Trees.{fields, ConstantList, no_constants, more_constants}
use Rattle.protobuf_parse_syntax.specs.Trees.{ConstantFieldList, no_fields, more_fields}
use Rattle.protobuf_parse_syntax.specs.Trees.{OptionPartSyntax, OptionNameSyntax, builtin, custom}
use Rattle.protobuf_parse_model.specs.Descriptors.{Text, FieldDescriptor}
use Rattle.protobuf_parse_model.specs.Faults.{here, there}
use Rattle.protobuf_parse_wire.specs.declared.kind.Kind.{Kind}
use Rattle.protobuf_parse_wire.specs.Kinds.{kind_of_field_type}
use Rattle.protobuf_parse_wire.specs.Trees as trees
use Rattle.protobuf_parse_wire.specs.Trees.{EntryTree}
use Rattle.protobuf_parse_wire.specs.Views.{WireItem, entries_of_list}
use Rattle.protobuf_parse_wire.specs.Law.{depth, value_depth}
use Rattle.protobuf_parse_options.specs.OptionFields.{OptionScope, options_message, number_of_value}
use Rattle.protobuf_parse_options.specs.OptionFields.{part_field, constant_field, type_name_of}
use Rattle.protobuf_parse_options.specs.CustomOptions.{item_of, item_of_message, value_items}
use Rattle.protobuf_parse_options.specs.CustomOptions.{list_items}
use Rattle.protobuf_parse_options.specs.CustomOptions.{field_items, path_items, named_items}
use Rattle.protobuf_parse_options.specs.CustomOptions.{items_of_option}
use Rattle.protobuf_parse_options.specs.OptionDepth.{message_levels, list_levels, field_levels}
use Rattle.protobuf_parse_options.specs.OptionDepth.{name_parts, NeverTooDeep}

abbrev levels : List WireItem → ℕ
levels items = depth (entries_of_list items)

both_within : (xs ys : List WireItem) (n : ℕ) → levels xs ≤ n → levels ys ≤ n
    → levels (xs ++ ys) ≤ n
both_within [] ys n p q = q
both_within (x ∷ xs) ys n p q =
    let rest : levels (xs ++ ys) ≤ n = both_within xs ys n (omega arith) q in
    omega arith

each_within : {A : Type 0} (items : A → List WireItem) (xs : List A) (n : ℕ) → 1 ≤ n
    → ((x : A) → levels (items x) ≤ n) → levels (flat_map items xs) ≤ n
each_within items [] n some each = some
each_within items (x ∷ xs) n some each =
    both_within (items x) (flat_map items xs) n (each x) (each_within items xs n some each)

one_within : (m : ℕ) (v : EntryTree) (kind : Option Kind) (n : ℕ) → value_depth v + 1 ≤ n
    → levels (map (λ (k : Kind). record { number = m; kind = k; value = v }) (option_to_list kind))
    ≤ n
one_within m v None n le = omega arith
one_within m v (Some k) n le = omega arith

item_within : (f : FieldDescriptor) (v : EntryTree) (n : ℕ) → value_depth v + 1 ≤ n
    → levels (item_of f v) ≤ n
item_within f v n le = one_within _ v (kind_of_field_type f.type_) n le

mutual
  value_within : (at : OptionScope) (f : FieldDescriptor) (c : ConstantSyntax)
      → levels (value_items at f c) ≤ message_levels c + 1
  value_within at f (integer z) = item_within f (trees.number z) 1 (omega arith)
  value_within at f (truth b) = item_within f (trees.truth b) 1 (omega arith)
  value_within at f (dotted name) =
      each_within (λ (z : ℤ). item_of f (trees.number z))
      (option_to_list (number_of_value at.files (type_name_of f) name)) 1 (omega arith)
      (λ z. item_within f (trees.number z) 1 (omega arith))
  value_within at f (string pieces) =
      item_within f (trees.bytes (unwrap_or (decode pieces) [])) 1 (omega arith)
  value_within at f (list cs) = list_within at f cs
  value_within at f (fields fs) =
      let inside : levels (field_items at (type_name_of f) fs)
      ≤ field_levels fs + 1 = fields_within at (type_name_of f) fs in
      item_within f (trees.message (entries_of_list (field_items at (type_name_of f) fs)))
      (message_levels (fields fs) + 1) (omega arith)

  list_within : (at : OptionScope) (f : FieldDescriptor) (cs : ConstantList)
      → levels (list_items at f cs) ≤ list_levels cs + 1
  list_within at f no_constants = omega arith
  list_within at f (more_constants c cs) =
      let first : levels (value_items at f c) ≤ message_levels c + 1 = value_within at f c in
      let others : levels (list_items at f cs) ≤ list_levels cs + 1 = list_within at f cs in
      both_within (value_items at f c) (list_items at f cs) (list_levels (more_constants c cs) + 1)
      (omega arith) (omega arith)

  fields_within : (at : OptionScope) (message : Text) (fs : ConstantFieldList)
      → levels (field_items at message fs) ≤ field_levels fs + 1
  fields_within at message no_fields = omega arith
  fields_within at message (more_fields name c fs) =
      let first : levels
      (flat_map (λ (g : FieldDescriptor). value_items at g c)
      (option_to_list (constant_field at message name))) ≤ message_levels c + 1 =
      each_within (λ (g : FieldDescriptor). value_items at g c)
      (option_to_list (constant_field at message name)) (message_levels c + 1) (omega arith)
      (λ g. value_within at g c) in
      let others : levels (field_items at message fs)
      ≤ field_levels fs + 1 = fields_within at message fs in
      both_within
      (flat_map (λ (g : FieldDescriptor). value_items at g c)
      (option_to_list (constant_field at message name))) (field_items at message
      fs) (field_levels (more_fields name c fs) + 1) (omega arith) (omega arith)

path_within : (at : OptionScope) (value : ConstantSyntax) (message : Text) (p : OptionPartSyntax)
    (ps : List OptionPartSyntax)
    → levels (path_items at value message (p ∷ ps)) ≤ length (p ∷ ps) + message_levels value
path_within at value message p [] =
    each_within (λ (g : FieldDescriptor). value_items at g value)
    (option_to_list (part_field at message p)) (length (p ∷ []) + message_levels value)
    (omega arith)
    (λ g. let one : levels (value_items at g value)
    ≤ message_levels value + 1 = value_within at g value in omega arith)
path_within at value message p (q ∷ ps) =
    each_within
    (λ (g : FieldDescriptor). item_of_message g (path_items at value (type_name_of g) (q ∷ ps)))
    (option_to_list (part_field at message p)) (length (p ∷ q ∷ ps) + message_levels value)
    (omega arith)
    (λ g. let inside : levels (path_items at value (type_name_of g) (q ∷ ps))
    ≤ length (q ∷ ps) + message_levels value = path_within at value (type_name_of g) q ps in
    item_within g (trees.message (entries_of_list (path_items at value (type_name_of g) (q ∷ ps))))
    (length (p ∷ q ∷ ps) + message_levels value) (omega arith))

named_within : (at : OptionScope) (message : Text) (value : ConstantSyntax)
    (name : OptionNameSyntax) → length (name_parts name) ≤ 100 → message_levels value ≤ 100
    → levels (named_items at message value name) ≤ 200
named_within at message value (builtin name) few low = omega arith
named_within at message value (custom []) few low = omega arith
named_within at message value (custom (p ∷ ps)) few low =
    let inside : levels (path_items at value message (p ∷ ps))
    ≤ length (p ∷ ps) + message_levels value = path_within at value message p ps in
    omega arith

pub never_too_deep : NeverTooDeep
never_too_deep at construct [] shallow = omega arith
never_too_deep at construct (o ∷ os) shallow =
    let first = shallow o here in
    both_within (items_of_option at construct o) (flat_map (items_of_option at construct) os) 200
    (named_within at (options_message construct) o.value o.name first.name first.value)
    (never_too_deep at construct os (λ x h. shallow x (there h)))
