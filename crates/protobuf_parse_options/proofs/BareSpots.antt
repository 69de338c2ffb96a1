-- What options say makes no difference to where in a file its messages, enums and extensions stand,
-- so an index that holds the spots of files holds those of files that are the same but for options.
use Rattle.std.proofs.Common.{◌≡◌, ℕ, suc, Bool, true, false, List, [], ◌∷◌, ◌++◌, map, refl, sym}
use Rattle.std.proofs.Common.{ap, ◌∙◌, subst, bytes_eq}
use Rattle.std.specs.Int.{w32}
use Rattle.std.specs.Int.RustNames.{FitsSigned}
use Rattle.std.specs.List.{AllByRecursion}
use Rattle.protobuf_parse_model.specs.Descriptors.{Text, EnumDescriptor}
use Rattle.protobuf_parse_model.specs.Descriptors.{EnumValueDescriptor, MessageDescriptor}
use Rattle.protobuf_parse_model.specs.Descriptors.{MessageDescriptors, a_message, no_messages}
use Rattle.protobuf_parse_model.specs.Descriptors.{messages, FileDescriptor}
use Rattle.protobuf_parse_model.specs.Declarations.{Declared}
use Rattle.protobuf_parse_wire.specs.Declarations.{name_within, package_scope}
use Rattle.protobuf_parse_options.specs.declared.spots.Spots.{Spots}
use Rattle.protobuf_parse_options.specs.Holding.{Holds, SpotView, spot_in, spots_in, spots_in_files}
use Rattle.protobuf_parse_options.specs.OptionFields.{declared_enums}
use Rattle.protobuf_parse_options.specs.Positions.{extension_parts, field_names, kept_position}
use Rattle.protobuf_parse_options.specs.Positions.{name_of_value, value_names}
use Rattle.protobuf_parse_options.specs.SmallValues.{AreSmall, HaveSmall}
use Rattle.protobuf_parse_options.specs.Spots.{Inside, SpottedView, enum_name, enums_inside}
use Rattle.protobuf_parse_options.specs.Spots.{extensions_inside, field_name, inside_file}
use Rattle.protobuf_parse_options.specs.Spots.{inside_message, path_to, spotted_each}
use Rattle.protobuf_parse_options.specs.Spots.{spotted_enums, spotted_extensions, spotted_in}
use Rattle.protobuf_parse_options.specs.Spots.{spotted_inside, spotted_list, spotted_message}
use Rattle.protobuf_parse_options.specs.Spots.{spotted_messages, spotted_nested}
use Rattle.protobuf_parse_options.specs.WithoutOptions.{bare_field, bare_value, bare_enum}
use Rattle.protobuf_parse_options.specs.WithoutOptions.{bare_message, bare_messages, bare_file}
use Rattle.protobuf_parse_options.specs.WithoutOptions.{DifferOnlyInOptions}
use Rattle.protobuf_parse_options.proofs.BareDeclarations.{all-become, bare_declared_enum}
use Rattle.protobuf_parse_options.proofs.BareDeclarations.{both-become, enums-bare}

-- what stands at a spot, become another
abbrev spotted_as : {T : Type 0} → (T → T) → SpottedView T → SpottedView T
spotted_as f p = record p { what = f p.what }

-- ---- messages

mutual
  message-spots : (scope : Text) (path : List ℕ) (index : ℕ) (m : MessageDescriptor)
      → spotted_message scope path index (bare_message m)
      ≡ map (spotted_as bare_message) (spotted_message scope path index m)
  message-spots scope path index (a_message parts nested) =
      ap (λ (ps : List (SpottedView MessageDescriptor)). record {
        name = name_within scope parts.name;
        path = path;
        index = index;
        what = bare_message (a_message parts nested);
      } ∷ ps) (nested-spots (name_within scope parts.name) (path ++ index ∷ []) 0 nested)

  nested-spots : (scope : Text) (path : List ℕ) (index : ℕ) (ms : MessageDescriptors)
      → spotted_nested scope path index (bare_messages ms)
      ≡ map (spotted_as bare_message) (spotted_nested scope path index ms)
  nested-spots scope path index no_messages = refl
  nested-spots scope path index (messages m ms) =
      both-become (spotted_as bare_message) (spotted_message scope path index m)
      (spotted_nested scope path (suc index) ms)
      (spotted_message scope path index (bare_message m))
      (spotted_nested scope path (suc index) (bare_messages ms))
      (message-spots scope path index m) (nested-spots scope path (suc index) ms)

list-spots : (scope : Text) (path : List ℕ) (index : ℕ) (ms : List MessageDescriptor)
    → spotted_list scope path index (map bare_message ms)
    ≡ map (spotted_as bare_message) (spotted_list scope path index ms)
list-spots scope path index [] = refl
list-spots scope path index (m ∷ ms) =
    both-become (spotted_as bare_message) (spotted_message scope path index m)
    (spotted_list scope path (suc index) ms)
    (spotted_message scope path index (bare_message m))
    (spotted_list scope path (suc index) (map bare_message ms))
    (message-spots scope path index m) (list-spots scope path (suc index) ms)

file-spots : (file : FileDescriptor)
    → spotted_messages (bare_file file) ≡ map (spotted_as bare_message) (spotted_messages file)
file-spots file = list-spots (package_scope file.«package») [] 0 file.message_type

-- ---- enums and extensions

module _ {T : Type 0} (name_of : T → Text) (bare : T → T) (list : Inside → List T)
    (named : (x : T) → name_of (bare x) ≡ name_of x)
    (in_message : (m : MessageDescriptor)
    → list (inside_message (bare_message m)) ≡ map bare (list (inside_message m)))
    (in_file : (file : FileDescriptor)
    → list (inside_file (bare_file file)) ≡ map bare (list (inside_file file))) where
  each-spots : (scope : Text) (path : List ℕ) (index : ℕ) (xs : List T)
      → spotted_each name_of scope path index (map bare xs)
      ≡ map (spotted_as bare) (spotted_each name_of scope path index xs)
  each-spots scope path index [] = refl
  each-spots scope path index (x ∷ xs) =
      ap (λ (z : Text). record {
        name = name_within scope z;
        path = path;
        index = index;
        what = bare x;
      } ∷ spotted_each name_of scope path (suc index) (map bare xs)) (named x)
      ∙ ap (λ (ps : List (SpottedView T)). record {
        name = name_within scope (name_of x);
        path = path;
        index = index;
        what = bare x;
      } ∷ ps) (each-spots scope path (suc index) xs)

  abbrev inside : SpottedView MessageDescriptor → List (SpottedView T)
  inside m = spotted_each name_of m.name (path_to m) 0 (list (inside_message m.what))

  inside-spots : (m : SpottedView MessageDescriptor)
      → inside (spotted_as bare_message m) ≡ map (spotted_as bare) (inside m)
  inside-spots m =
      ap (spotted_each name_of m.name (path_to m) 0) (in_message m.what)
      ∙ each-spots m.name (path_to m) 0 (list (inside_message m.what))

  in-spots : (file : FileDescriptor)
      → spotted_in name_of list (bare_file file)
      ≡ map (spotted_as bare) (spotted_in name_of list file)
  in-spots file =
      let scope = package_scope file.«package» in
      both-become (spotted_as bare) (spotted_inside name_of list (spotted_messages file))
      (spotted_each name_of scope [] 0 (list (inside_file file)))
      (spotted_inside name_of list (spotted_messages (bare_file file)))
      (spotted_each name_of scope [] 0 (list (inside_file (bare_file file))))
      (ap (spotted_inside name_of list) (file-spots file)
      ∙ all-become (spotted_as bare_message) (spotted_as bare) inside inside inside-spots
      (spotted_messages file))
      (ap (spotted_each name_of scope [] 0) (in_file file)
      ∙ each-spots scope [] 0 (list (inside_file file)))

enums-in-message : (m : MessageDescriptor)
    → enums_inside (inside_message (bare_message m))
    ≡ map bare_enum (enums_inside (inside_message m))
enums-in-message (a_message parts nested) = refl

extensions-in-message : (m : MessageDescriptor)
    → extensions_inside (inside_message (bare_message m))
    ≡ map bare_field (extensions_inside (inside_message m))
extensions-in-message (a_message parts nested) = refl

enums-spots : (file : FileDescriptor)
    → spotted_enums (bare_file file) ≡ map (spotted_as bare_enum) (spotted_enums file)
enums-spots file =
    in-spots enum_name bare_enum enums_inside (λ e. refl) enums-in-message (λ f. refl) file

extensions-spots : (file : FileDescriptor)
    → spotted_extensions (bare_file file) ≡ map (spotted_as bare_field) (spotted_extensions file)
extensions-spots file =
    in-spots field_name bare_field extensions_inside (λ e. refl) extensions-in-message (λ f. refl)
    file

-- ---- the names of parts

names-kept : {T : Type 0} (name_of : T → Text) (bare : T → T)
    → ((x : T) → name_of (bare x) ≡ name_of x) → (xs : List T)
    → map name_of (map bare xs) ≡ map name_of xs
names-kept name_of bare named [] = refl
names-kept name_of bare named (x ∷ xs) =
    ap (λ (z : Text). z ∷ map name_of (map bare xs)) (named x)
    ∙ ap (λ (zs : List Text). name_of x ∷ zs) (names-kept name_of bare named xs)

fields-kept : (m : MessageDescriptor) → field_names (bare_message m) ≡ field_names m
fields-kept (a_message parts nested) = names-kept field_name bare_field (λ f. refl) parts.field

values-kept : (e : EnumDescriptor) → value_names (bare_enum e) ≡ value_names e
values-kept e = names-kept name_of_value bare_value (λ v. refl) e.value

-- ---- under names

module _ {T : Type 0} (parts : T → List Text) (bare : T → T)
    (listed : FileDescriptor → List (SpottedView T))
    (kept : (x : T) → parts (bare x) ≡ parts x)
    (lists : (file : FileDescriptor)
    → listed (bare_file file) ≡ map (spotted_as bare) (listed file))
    (name : Text) where
  spot-same : (n : ℕ) (p : SpottedView T) → spot_in parts n (spotted_as bare p) ≡ spot_in parts n p
  spot-same n p = ap (λ (names : List Text). record {
    file = n;
    path = p.path;
    index = p.index;
    position = kept_position names;
  }) (kept p.what)

  spots-same : (n : ℕ) (ps : List (SpottedView T))
      → spots_in parts n name (map (spotted_as bare) ps) ≡ spots_in parts n name ps
  spots-same n [] = refl
  spots-same n (p ∷ ps) = of (bytes_eq name p.name) refl (spots-same n ps)
    where
      of : (b : Bool) → bytes_eq name p.name ≡ b
          → spots_in parts n name (map (spotted_as bare) ps) ≡ spots_in parts n name ps
          → spots_in parts n name (map (spotted_as bare) (p ∷ ps)) ≡ spots_in parts n name (p ∷ ps)
      of true e h = rw (e, spot-same n p, h) refl
      of false e h = rw (e, h) refl

  files-bare : (n : ℕ) (files : List FileDescriptor)
      → spots_in_files parts listed name n (map bare_file files)
      ≡ spots_in_files parts listed name n files
  files-bare n [] = refl
  files-bare n (f ∷ fs) =
      ap (λ (ps : List SpotView). ps ++ spots_in_files parts listed name (suc n) (map bare_file fs))
      (ap (spots_in parts n name) (lists f) ∙ spots-same n (listed f))
      ∙ ap (λ (ps : List SpotView). spots_in parts n name (listed f) ++ ps) (files-bare (suc n) fs)

  files-same : (files files' : List FileDescriptor) → DifferOnlyInOptions files files'
      → spots_in_files parts listed name 0 files ≡ spots_in_files parts listed name 0 files'
  files-same files files' same =
      sym (files-bare 0 files) ∙ ap (spots_in_files parts listed name 0) same ∙ files-bare 0 files'

-- ---- the numbers of enums' values

values-small : (vs : List EnumValueDescriptor) → AreSmall (map bare_value vs) ≡ AreSmall vs
values-small [] = refl
values-small (v ∷ vs) = ap (λ (R : Type 0). FitsSigned w32 v.number × R) (values-small vs)

enums-small : (es : List (Declared EnumDescriptor))
    → HaveSmall (map bare_declared_enum es) ≡ HaveSmall es
enums-small [] = refl
enums-small (e ∷ es) =
    ap (λ (R : Type 0). R × HaveSmall (map bare_declared_enum es)) (values-small e.what.value)
    ∙ ap (λ (R : Type 0). AreSmall e.what.value × R) (enums-small es)

abbrev AllSmall : List FileDescriptor → Type 0
AllSmall files = AllByRecursion (λ (f : FileDescriptor). HaveSmall (declared_enums f)) files

files-small : (files : List FileDescriptor) → AllSmall (map bare_file files) ≡ AllSmall files
files-small [] = refl
files-small (f ∷ fs) =
    ap (λ (R : Type 0). R × AllSmall (map bare_file fs))
    (ap HaveSmall (enums-bare f) ∙ enums-small (declared_enums f))
    ∙ ap (λ (R : Type 0). HaveSmall (declared_enums f) × R) (files-small fs)

-- ---- the index

pub holds-alike : (spots : Spots) (files files' : List FileDescriptor)
    → DifferOnlyInOptions files files' → Holds spots files → Holds spots files'
holds-alike spots files files' same holds = record {
  messages = λ name. holds.messages name
      ∙ files-same field_names bare_message spotted_messages fields-kept file-spots name files
      files' same;
  enums = λ name. holds.enums name
      ∙ files-same value_names bare_enum spotted_enums values-kept enums-spots name files files'
      same;
  extensions = λ name. holds.extensions name
      ∙ files-same extension_parts bare_field spotted_extensions (λ f. refl) extensions-spots name
      files files' same;
  small = subst (λ (R : Type 0). R)
      (sym (files-small files) ∙ ap AllSmall same ∙ files-small files') holds.small;
}
