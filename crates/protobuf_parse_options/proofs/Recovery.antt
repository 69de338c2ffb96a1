-- What custom options denote is read back in files without faults.
use Rattle.std.proofs.Common.{◌≡◌, ◌≤◌, ◌⊎◌, inl, inr, Bool, true, false, not, ◌&&◌, List, [], ◌∷◌}
use Rattle.std.proofs.Common.{◌++◌, flat_map, Option, Some, None, option_to_list, sym, ap, subst}
use Rattle.std.proofs.Common.{◌∙◌, refl, arith, bytes_eq}
use Rattle.std.specs.List.{list_any}
use Rattle.std.proofs.lemmas.Bool.{or_cases}
use Rattle.protobuf_parse_syntax.specs.Trees.{ConstantSyntax, OptionPartSyntax, direct, extension}
use Rattle.protobuf_parse_syntax.specs.Trees.{OptionNameSyntax, builtin, custom, OptionSyntax}
use Rattle.protobuf_parse_syntax.specs.Trees.{FileSyntax}
use Rattle.protobuf_parse_syntax.proofs.Nesting.{tree_shallow}
use Rattle.protobuf_parse_model.specs.Descriptors.{Text, FieldDescriptor, FileDescriptor}
use Rattle.protobuf_parse_model.specs.declared.error.ElabErrorKind.TheVariants.{WrongExtensionType}
use Rattle.protobuf_parse_model.specs.Duplicates.{fault_when}
use Rattle.protobuf_parse_model.specs.Declarations.{Declared}
use Rattle.protobuf_parse_model.specs.declared.customs.Construct.{Construct}
use Rattle.protobuf_parse_model.specs.Environment.{option_path_text}
use Rattle.protobuf_parse_model.specs.Faults.{Among, here, there}
use Rattle.protobuf_parse_elaboration.specs.FilesByPath.{Trees, among}
use Rattle.protobuf_parse_elaboration.specs.OptionSets.{OptionSet, option_sets}
use Rattle.protobuf_parse_elaboration.proofs.Orders.{same-text}
use Rattle.protobuf_parse_wire.specs.Declarations.{Declaration, messages_declared_in, extends}
use Rattle.protobuf_parse_wire.specs.Law.{depth}
use Rattle.protobuf_parse_options.specs.OptionLaw.{IsEntered, HasSmallValues, IsReadable}
use Rattle.protobuf_parse_options.specs.OptionFields.{OptionScope, options_message, names_message}
use Rattle.protobuf_parse_options.specs.OptionFields.{extension_meant, part_field}
use Rattle.protobuf_parse_options.specs.CustomFaults.{extension_name_faults, number_faults}
use Rattle.protobuf_parse_options.specs.CustomFaults.{constant_faults}
use Rattle.protobuf_parse_options.specs.CustomFaults.{path_faults, custom_faults}
use Rattle.protobuf_parse_options.specs.CustomFaults.{custom_name_faults}
use Rattle.protobuf_parse_options.specs.CustomFaults.{custom_statement_faults}
use Rattle.protobuf_parse_options.specs.CustomOptions.{named_items, items_of_option, denotes}
use Rattle.protobuf_parse_options.specs.CustomOptions.{scope_of}
use Rattle.protobuf_parse_wire.specs.Encoded.{encoded}
use Rattle.protobuf_parse_wire.specs.Views.{entries_of_list}
use Rattle.protobuf_parse_options.specs.NamesAlike.{HasPackageName}
use Rattle.protobuf_parse_options.specs.OptionDepth.{TextsAreNotTooDeep}
use Rattle.protobuf_parse_options.specs.Recovery.{plainly, plain_at, AreReachedFiles, HasCustom}
use Rattle.protobuf_parse_options.specs.Recovery.{OptionsAreRecovered, BuiltinOptionsAreNoBytes}
use Rattle.protobuf_parse_options.proofs.Entered.{declared_entered, held_entered, described}
use Rattle.protobuf_parse_options.proofs.Entered.{describes}
use Rattle.protobuf_parse_options.proofs.Sound.{SoundFile, text_sound, package_named}
use Rattle.protobuf_parse_options.proofs.SoundSets.{set_shallow}
use Rattle.protobuf_parse_options.proofs.EnumNumbers.{SmallFile, file_small, values_small}
use Rattle.protobuf_parse_options.proofs.OptionBytes.{none_of, option_bytes_spell}
use Rattle.protobuf_parse_options.proofs.OptionDepth.{never_too_deep}
use Rattle.protobuf_parse_options.proofs.Options.{options_are_read}
use Rattle.protobuf_parse_options.proofs.Writable.{no_left, direct_step_has_fault}
use Rattle.protobuf_parse_options.specs.CustomFaults.{option_faults_at}
use Rattle.protobuf_parse_options.proofs.Refusing.{none_wrong, unless_empty}

-- ---- the options message

-- of a name that is one of a message, the message
message_stands : (name : Text) (ds : List Declaration)
    → list_any (λ (d : Declaration). bytes_eq name d.name) ds ≡ true
    → (d : Declaration) × Among ds d × (d.name ≡ name)
message_stands name [] h = absurd cc
message_stands name (x ∷ ds) h =
    at (or_cases (bytes_eq name x.name) (list_any (λ (d : Declaration). bytes_eq name d.name) ds) h)
    (message_stands name ds)
  where
    at : (bytes_eq name x.name ≡ true)
        ⊎ (list_any (λ (d : Declaration). bytes_eq name d.name) ds ≡ true)
        → (list_any (λ (d : Declaration). bytes_eq name d.name) ds ≡ true
        → (d : Declaration) × Among ds d × (d.name ≡ name))
        → (d : Declaration) × Among (x ∷ ds) d × (d.name ≡ name)
    at (inl i) rest = (x, here, sym (same-text name x.name i))
    at (inr i) rest = let d = rest i in (d.0, there d.1, d.2)

-- an extension without faults extends a message
extends_one : (files : List FileDescriptor) (message name : Text)
    (o : Option (Declared FieldDescriptor)) → extension_name_faults files message name o ≡ []
    → names_message files message ≡ true
extends_one files message name None h = absurd cc
extends_one files message name (Some d) h =
    at (extends message d.what) (names_message files message) h
  where
    at : (a b : Bool) → fault_when (not (a && b)) WrongExtensionType name ≡ [] → b ≡ true
    at true true k = refl
    at true false k = absurd cc
    at false b k = absurd cc

-- in the first part of a name without faults
first_extends : (at : OptionScope) (option : Text) (value : ConstantSyntax) (message name : Text)
    (ps : List OptionPartSyntax) → path_faults at option value message (extension name ∷ ps) ≡ []
    → names_message at.files message ≡ true
first_extends at option value message name [] h =
    extends_one at.files message name (extension_meant at name)
    (no_left (extension_name_faults at.files message name (extension_meant at name))
    (flat_map (λ (g : FieldDescriptor). number_faults g ++ constant_faults at option g value)
    (option_to_list (part_field at message (extension name)))) h)
first_extends at option value message name (q ∷ ps) h =
    extends_one at.files message name (extension_meant at name)
    (no_left (extension_name_faults at.files message name (extension_meant at name)) _ h)

-- a custom option without faults is one of a message
custom_of_message : (at : OptionScope) (construct : Construct) (value : ConstantSyntax)
    (part : OptionPartSyntax) (parts : List OptionPartSyntax)
    → custom_faults at construct value (part ∷ parts) ≡ []
    → names_message at.files (options_message construct) ≡ true
custom_of_message at construct value (direct name) parts h =
    absurd (direct_step_has_fault construct name h)
custom_of_message at construct value (extension name) parts h =
    first_extends at (option_path_text (extension name ∷ parts)) value
    (options_message construct) name parts h

set_of_message : (at : OptionScope) (construct : Construct) (os : List OptionSyntax)
    → custom_statement_faults at construct os ≡ [] → HasCustom os
    → names_message at.files (options_message construct) ≡ true
set_of_message at construct os none has =
    let o : OptionSyntax = has.0 in
    let clean : custom_name_faults at construct o.value o.name
    ≡ [] = none_wrong o.place (custom_name_faults at construct o.value o.name)
    (none_of (option_faults_at at construct) os o has.1 none) in
    custom_of_message at construct o.value has.2 has.3
    (subst (λ (n : OptionNameSyntax). custom_name_faults at construct o.value n ≡ []) has.4 clean)

-- ---- the law

module _ (trees : Trees) (sees : Text → List Text) (reached : List Text)
    (r : AreReachedFiles trees sees reached) where
  abbrev files : List FileDescriptor
  files = plain_at trees sees reached

  sound : (p : Text) (t : FileSyntax) → among p reached ≡ true → trees p ≡ Some t → SoundFile t
  sound p t h e = let text = r.texts p t h e in text_sound text.0 t text.1

  named : (p : Text) (t : FileSyntax) → among p reached ≡ true → trees p ≡ Some t → HasPackageName t
  named p t h e = package_named t (sound p t h e)

  small : HasSmallValues files
  small = values_small files (λ (file : FileDescriptor) h.
      let d = described trees (plainly trees sees) reached file h in
      subst SmallFile d.is
      (file_small (plainly trees sees d.path d.tree) d.path d.tree
      (sound d.path d.tree d.listed d.has_tree)))

  -- what a file sees is among what is reached
  seen : (p : Text) → among p reached ≡ true → (file : FileDescriptor)
      → Among (plain_at trees sees (sees p)) file → Among files file
  seen p listed file h =
      let d = described trees (plainly trees sees) (sees p) file h in
      subst (λ (x : FileDescriptor). Among files x) d.is
      (describes trees (plainly trees sees) reached d.path d.tree
      (r.sight p listed d.path d.listed) d.has_tree)

  readable : (p : Text) → among p reached ≡ true → (s : OptionSet)
      → IsReadable (scope_of files (plain_at trees sees (sees p)) s)
  readable p listed s =
      record { small = small; seen = seen p listed; held = held_entered trees sees reached r named }

  entered : (message : Text) → names_message files message ≡ true → IsEntered files message
  entered message is =
      let d = message_stands message (flat_map messages_declared_in files) is in
      subst (λ (n : Text). IsEntered files n) d.2
      (declared_entered trees sees reached r named d.0 d.1)

pub options_are_recovered : OptionsAreRecovered
options_are_recovered trees sees reached p t s r listed has_tree none stands has short =
    let files : List FileDescriptor = plain_at trees sees reached in
    let visible : List FileDescriptor = plain_at trees sees (sees p) in
    let at : OptionScope = scope_of files visible s in
    let clean : custom_statement_faults at s.construct s.statements
    ≡ [] = none_of
    (λ (x : OptionSet). custom_statement_faults (scope_of files visible x) x.construct x.statements)
    (option_sets t) s stands none in
    let text = r.texts p t listed has_tree in
    let few : depth (denotes at s.construct s.statements)
    ≤ 200 = never_too_deep at s.construct s.statements
    (set_shallow t (tree_shallow text.0 t text.1)
    (sound trees sees reached r p t listed has_tree) s stands) in
    options_are_read at s.construct s.statements _
    (readable trees sees reached r p listed s)
    (entered trees sees reached r (options_message s.construct)
    (set_of_message at s.construct s.statements clean has))
    clean (omega (arith, few)) short
    (option_bytes_spell files visible t (small trees sees reached r) none s stands)

-- ---- depth

pub texts_are_not_too_deep : TextsAreNotTooDeep
texts_are_not_too_deep text t h s stands at =
    never_too_deep at s.construct s.statements
    (set_shallow t (tree_shallow text t h) (text_sound text t h) s stands)

-- ---- sets without custom options

-- a built-in option denotes nothing
nothing_named : (at : OptionScope) (message : Text) (value : ConstantSyntax)
    (name : OptionNameSyntax)
    → ((part : OptionPartSyntax) (parts : List OptionPartSyntax) → name ≡ custom (part ∷ parts) → ⊥)
    → named_items at message value name ≡ []
nothing_named at message value (builtin name) plain = refl
nothing_named at message value (custom []) plain = refl
nothing_named at message value (custom (part ∷ parts)) plain = absurd (plain part parts refl)

nothing_set : (at : OptionScope) (construct : Construct) (os : List OptionSyntax)
    → (HasCustom os → ⊥) → flat_map (items_of_option at construct) os ≡ []
nothing_set at construct [] plain = refl
nothing_set at construct (o ∷ os) plain =
    ap (λ items. items ++ flat_map (items_of_option at construct) os)
    (nothing_named at (options_message construct) o.value o.name
    (λ part parts e. plain (o, here, part, parts, e)))
    ∙ nothing_set at construct os (λ has. plain (has.0, there has.1, has.2, has.3, has.4))

pub builtin_options_are_no_bytes : BuiltinOptionsAreNoBytes
builtin_options_are_no_bytes files visible s plain =
    let at = scope_of files visible s in
    unless_empty (custom_statement_faults at s.construct s.statements) _
    (ap (λ items. encoded (entries_of_list items))
    (nothing_set at s.construct s.statements plain))
