-- What lists and message constants give, part by part.
use Rattle.std.proofs.Common.{◌≡◌, ℕ, ◌-◌, ◌==◌, arith, drop, get_or, length, take, List, [], ◌∷◌}
use Rattle.std.proofs.Common.{◌++◌, map, flat_map, Bool, true, false}
use Rattle.std.proofs.Common.{option_to_list, refl, sym, ap, subst, ◌∙◌, Result}
use Rattle.std.specs.Global.{Vec}
use Rattle.std.proofs.lemmas.List.{take_all}
use Rattle.protobuf_parse_syntax.specs.Trees.{ConstantSyntax, ConstantFieldSyntax, list, fields}
use Rattle.protobuf_parse_syntax.specs.Trees.{constants, constant_fields, constant_syntax}
use Rattle.protobuf_parse_syntax.specs.Trees.{option_part_syntax}
use Rattle.protobuf_parse_syntax.specs.InnerViews.{constant_field_syntax}
use Rattle.protobuf_parse_syntax.specs.declared.tree.option.ProtobufOptionNamePart.{ProtobufOptionNamePart}
use Rattle.protobuf_parse_syntax.specs.declared.tree.constant.ConstantField.{ConstantField}
use Rattle.protobuf_parse_syntax.specs.declared.tree.constant.ProtobufConstant.{ProtobufConstant}
use Rattle.protobuf_parse_syntax.specs.declared.tree.constant.ProtobufConstant.TheVariants.{List as Constants}
use Rattle.protobuf_parse_syntax.specs.declared.tree.constant.ProtobufConstant.TheVariants.{Message as Fields}
use Rattle.protobuf_parse_syntax.proofs.Views.{views_list, views_fields}
use Rattle.protobuf_parse_model.specs.declared.descriptor.FieldType.{FieldType}
use Rattle.protobuf_parse_model.specs.declared.descriptor.FieldType.TheVariants.{Message}
use Rattle.protobuf_parse_options.specs.declared.refuse.OptionFailure.{OptionFailure}
use Rattle.protobuf_parse_model.specs.Faults.{Wrong}
use Rattle.protobuf_parse_options.specs.Refusals.{Gives}
use Rattle.protobuf_parse_model.specs.Descriptors.{Text, FieldDescriptor}
use Rattle.protobuf_parse_options.specs.CustomFaults.{constant_faults, list_faults, member_faults}
use Rattle.protobuf_parse_options.specs.CustomFaults.{message_value_faults, number_faults}
use Rattle.protobuf_parse_options.specs.CustomFaults.{part_faults, path_faults, step_faults}
use Rattle.protobuf_parse_options.specs.CustomOptions.{value_items, list_items, field_items}
use Rattle.protobuf_parse_options.specs.CustomOptions.{item_of_message, path_items}
use Rattle.protobuf_parse_options.specs.Given.{bytes_of_items, field_faults_of, given_field_items}
use Rattle.protobuf_parse_options.specs.Given.{through_faults, through_items, value_bytes}
use Rattle.protobuf_parse_options.specs.OptionFields.{OptionScope, messages, part_field}
use Rattle.protobuf_parse_options.specs.OptionFields.{type_name_of, type_takes}
use Rattle.protobuf_parse_wire.specs.Views.{WireItem}
use Rattle.protobuf_parse_options.proofs.ItemBytes.{bytes_flat_map}

pub list_faults_are : (at : OptionScope) (option : Text) (f : FieldDescriptor)
    (cs : List ConstantSyntax) → list_faults at option f (constants cs) ≡ flat_map
    (constant_faults at option f) cs
list_faults_are at option f [] = refl
list_faults_are at option f (c ∷ cs) = ap (λ xs. constant_faults at option f c ++ xs)
    (list_faults_are at option f cs)

pub list_items_are : (at : OptionScope) (f : FieldDescriptor) (cs : List ConstantSyntax)
    → list_items at f (constants cs) ≡ flat_map (value_items at f) cs
list_items_are at f [] = refl
list_items_are at f (c ∷ cs) = ap (λ xs. value_items at f c ++ xs) (list_items_are at f cs)

pub field_faults_are : (at : OptionScope) (option message : Text) (fs : List ConstantFieldSyntax)
    → member_faults at option message (constant_fields fs) ≡ flat_map
    (field_faults_of at option message) fs
field_faults_are at option message [] = refl
field_faults_are at option message (f ∷ fs) = ap
    (λ xs. field_faults_of at option message f ++ xs) (field_faults_are at option message fs)

pub field_items_are : (at : OptionScope) (message : Text) (fs : List ConstantFieldSyntax)
    → field_items at message (constant_fields fs) ≡ flat_map (given_field_items at message) fs
field_items_are at message [] = refl
field_items_are at message (f ∷ fs) = ap (λ xs. given_field_items at message f ++ xs)
    (field_items_are at message fs)

-- ---- messages without faults

pub no_message_fault : (name : Text) (t : FieldType) (inside : List Wrong) → t ≡ Message
    → inside ≡ [] → message_value_faults name (type_takes t) inside ≡ []
no_message_fault name Message inside e h = h
no_message_fault name _ inside e h = absurd cc

pub no_step_fault : (f : FieldDescriptor) (part : Text) (inside : List Wrong)
    → number_faults f ≡ [] → type_takes f.type_ ≡ messages → inside ≡ []
    → number_faults f ++ step_faults part (type_takes f.type_) inside ≡ []
no_step_fault f part inside number takes h = rw (number, takes) h

-- ---- what the code holds of them

pub list_given : {X : Type 0} (view : X → List ℕ) (r : Result X OptionFailure)
    (at : OptionScope) (option : Text) (f : FieldDescriptor) (c : ProtobufConstant)
    (v : Vec ProtobufConstant) (xs : List ProtobufConstant) (old : List ℕ)
    → c ≡ Constants v → xs ≡ v.items
    → Gives view r (flat_map (constant_faults at option f) (map constant_syntax xs))
    (old ++ flat_map (value_bytes at f) (map constant_syntax xs))
    → Gives view r (constant_faults at option f (constant_syntax c))
    (old ++ value_bytes at f (constant_syntax c))
list_given view r at option f c v xs old is same h =
    let cs = map constant_syntax v.items in
    let e : constant_syntax c ≡ list (constants cs) = ap constant_syntax is ∙ views_list v in
    let fs : flat_map (constant_faults at option f) cs ≡ constant_faults at option f
    (constant_syntax c) = sym (ap (constant_faults at option f) e
    ∙ list_faults_are at option f cs) in
    let vs : flat_map (value_bytes at f) cs ≡ value_bytes at f (constant_syntax c) = sym
    (ap (value_bytes at f) e ∙ ap bytes_of_items (list_items_are at f cs)
    ∙ bytes_flat_map (value_items at f) cs) in
    let all = subst (λ (ys : List ProtobufConstant). Gives view r
    (flat_map (constant_faults at option f) (map constant_syntax ys))
    (old ++ flat_map (value_bytes at f) (map constant_syntax ys))) same h in
    subst (λ (bytes : List ℕ). Gives view r
    (constant_faults at option f (constant_syntax c))
    (old ++ bytes)) vs
    (subst (λ (faults : List Wrong). Gives view r faults
    (old ++ flat_map (value_bytes at f) cs)) fs all)

pub message_given : {X : Type 0} (view : X → List ℕ) (r : Result X OptionFailure)
    (at : OptionScope) (option : Text) (f : FieldDescriptor) (c : ProtobufConstant)
    (v : Vec ConstantField) (xs : List ConstantField) (old : List ℕ)
    → c ≡ Fields v → xs ≡ v.items
    → Gives view r (message_value_faults f.name (type_takes f.type_)
    (flat_map (field_faults_of at option (type_name_of f)) (map constant_field_syntax xs)))
    (old ++ bytes_of_items (item_of_message f (flat_map (given_field_items at (type_name_of f))
    (map constant_field_syntax xs))))
    → Gives view r (constant_faults at option f (constant_syntax c))
    (old ++ value_bytes at f (constant_syntax c))
message_given view r at option f c v xs old is same h =
    let cs = map constant_field_syntax v.items in
    let name = type_name_of f in
    let e : constant_syntax c ≡ fields (constant_fields cs) = ap constant_syntax is
    ∙ views_fields v in
    let fs : message_value_faults f.name (type_takes f.type_)
    (flat_map (field_faults_of at option name) cs) ≡ constant_faults at option f
    (constant_syntax c) = sym (ap (constant_faults at option f) e ∙ ap
    (message_value_faults f.name (type_takes f.type_)) (field_faults_are at option name cs)) in
    let vs : bytes_of_items (item_of_message f (flat_map (given_field_items at name) cs))
    ≡ value_bytes at f (constant_syntax c) = sym (ap (value_bytes at f) e
    ∙ ap (λ (items : List WireItem). bytes_of_items (item_of_message f items))
    (field_items_are at name cs)) in
    let all = subst (λ (ys : List ConstantField). Gives view r
    (message_value_faults f.name (type_takes f.type_)
    (flat_map (field_faults_of at option name) (map constant_field_syntax ys)))
    (old ++ bytes_of_items (item_of_message f (flat_map (given_field_items at name)
    (map constant_field_syntax ys))))) same h in
    subst (λ (bytes : List ℕ). Gives view r
    (constant_faults at option f (constant_syntax c))
    (old ++ bytes)) vs
    (subst (λ (faults : List Wrong). Gives view r faults
    (old ++ bytes_of_items (item_of_message f (flat_map (given_field_items at name) cs)))) fs all)

-- whether parts follow
abbrev pub none_follow : List ProtobufOptionNamePart → Bool
none_follow [] = true
none_follow (y ∷ ys) = false

-- a part that others follow
pub path_long : {X : Type 0} (view : X → List ℕ) (r : Result X OptionFailure)
    (at : OptionScope)
    (option : Text) (value : ConstantSyntax) (message : Text) (xs : List ProtobufOptionNamePart)
    (x : ProtobufOptionNamePart) (ys : List ProtobufOptionNamePart) (old : List ℕ)
    → xs ≡ x ∷ ys → none_follow ys ≡ false
    → Gives view r (part_faults at message (option_part_syntax x) ++ flat_map
    (through_faults at option value (option_part_syntax x) (map option_part_syntax ys))
    (option_to_list (part_field at message (option_part_syntax x))))
    (old ++ bytes_of_items (flat_map (through_items at value (map option_part_syntax ys))
    (option_to_list (part_field at message (option_part_syntax x)))))
    → Gives view r (path_faults at option value message (map option_part_syntax xs))
    (old ++ bytes_of_items (path_items at value message (map option_part_syntax xs)))
path_long view r at option value message xs x [] old is some h = absurd cc
path_long view r at option value message xs x (y ∷ zs) old is some h =
    subst (λ (ps : List ProtobufOptionNamePart). Gives view r
    (path_faults at option value message (map option_part_syntax ps))
    (old ++ bytes_of_items (path_items at value message (map option_part_syntax ps)))) (sym is) h

follow : (ys : List ProtobufOptionNamePart) → (length ys == 0) ≡ false → none_follow ys ≡ false
follow [] e = absurd cc
follow (y ∷ ys) e = refl

pub path_given : {X : Type 0} (view : X → List ℕ) (r : Result X OptionFailure)
    (at : OptionScope) (option : Text) (value : ConstantSyntax) (message : Text)
    (xs : List ProtobufOptionNamePart) (x : ProtobufOptionNamePart) (old : List ℕ)
    → x ≡ get_or xs 0 x → (length (take (length xs - 1) (drop 1 xs)) == 0) ≡ false
    → Gives view r (part_faults at message (option_part_syntax x) ++ flat_map
    (through_faults at option value (option_part_syntax x)
    (map option_part_syntax (take (length xs - 1) (drop 1 xs))))
    (option_to_list (part_field at message (option_part_syntax x))))
    (old ++ bytes_of_items (flat_map (through_items at value
    (map option_part_syntax (take (length xs - 1) (drop 1 xs))))
    (option_to_list (part_field at message (option_part_syntax x)))))
    → Gives view r (path_faults at option value message (map option_part_syntax xs))
    (old ++ bytes_of_items (path_items at value message (map option_part_syntax xs)))
path_given view r at option value message [] x old is some h = absurd cc
path_given view r at option value message (z ∷ zs) x old is some h =
    let all : take (length (z ∷ zs) - 1) (drop 1 (z ∷ zs)) ≡ zs = take_all
    (length (z ∷ zs) - 1) zs (omega arith) in
    let rest = subst (λ (ys : List ProtobufOptionNamePart). Gives view r
    (part_faults at message (option_part_syntax x) ++ flat_map
    (through_faults at option value (option_part_syntax x) (map option_part_syntax ys))
    (option_to_list (part_field at message (option_part_syntax x))))
    (old ++ bytes_of_items (flat_map (through_items at value (map option_part_syntax ys))
    (option_to_list (part_field at message (option_part_syntax x)))))) all h in
    path_long view r at option value message (z ∷ zs) x zs old
    (ap (λ (w : ProtobufOptionNamePart). w ∷ zs) (sym is))
    (follow zs (subst (λ (ys : List ProtobufOptionNamePart). (length ys == 0)
    ≡ false) all some)) rest
