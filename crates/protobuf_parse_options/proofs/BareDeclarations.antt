-- Files without their options declare the same, without its options.
use Rattle.std.proofs.Common.{◌≡◌, Bool, true, false, cond, ◌||◌, List, [], ◌∷◌, ◌++◌, map, filter}
use Rattle.std.proofs.Common.{flat_map, Some, option_map, refl, sym, ap, ◌∙◌, bytes_eq}
use Rattle.std.specs.List.{find, list_any}
use Rattle.std.proofs.lemmas.List.{map-append}
use Rattle.protobuf_parse_model.specs.Descriptors.{Text, FieldDescriptor, EnumDescriptor}
use Rattle.protobuf_parse_model.specs.Descriptors.{MessageDescriptor, MessageDescriptors, a_message}
use Rattle.protobuf_parse_model.specs.Descriptors.{no_messages, messages, FileDescriptor}
use Rattle.protobuf_parse_model.specs.Declarations.{Declared}
use Rattle.protobuf_parse_wire.specs.Declarations.{Declaration, name_within, declared_message}
use Rattle.protobuf_parse_wire.specs.Declarations.{declared_messages, package_scope}
use Rattle.protobuf_parse_wire.specs.Declarations.{messages_declared_in}
use Rattle.protobuf_parse_wire.specs.Declarations.{extensions_within, declared_extensions}
use Rattle.protobuf_parse_wire.specs.Declarations.{extensions_declared_in, messages_named, extends}
use Rattle.protobuf_parse_wire.specs.Declarations.{messages_with_name, extensions_extending}
use Rattle.protobuf_parse_options.specs.OptionFields.{enum_in, declared_enums}
use Rattle.protobuf_parse_options.specs.WithoutOptions.{bare_field, bare_enum, bare_parts}
use Rattle.protobuf_parse_options.specs.WithoutOptions.{bare_message, bare_messages, bare_file}

-- ---- lists of which each element becomes another

pub both-become : {A B : Type 0} (g : A → B) (xs ys : List A) (vs ws : List B) → vs ≡ map g xs
    → ws ≡ map g ys → vs ++ ws ≡ map g (xs ++ ys)
both-become g xs ys vs ws e h = ap (λ zs. zs ++ ws) e ∙ ap (λ zs. map g xs ++ zs) h
    ∙ sym (map-append g xs ys)

-- where all that an element gives becomes another
pub all-become : {A B C D : Type 0} (f : A → C) (g : B → D) (h : A → List B) (k : C → List D)
    → ((x : A) → k (f x) ≡ map g (h x)) → (xs : List A)
    → flat_map k (map f xs) ≡ map g (flat_map h xs)
all-become f g h k each [] = refl
all-become f g h k each (x ∷ xs) =
    both-become g (h x) (flat_map h xs) (k (f x)) (flat_map k (map f xs)) (each x)
    (all-become f g h k each xs)

-- and where an element gives one
pub each-becomes : {A B C D : Type 0} (f : A → C) (g : B → D) (h : A → B) (k : C → D)
    → ((x : A) → k (f x) ≡ g (h x)) → (xs : List A) → map k (map f xs) ≡ map g (map h xs)
each-becomes f g h k each [] = refl
each-becomes f g h k each (x ∷ xs) = ap (λ y. y ∷ map k (map f xs)) (each x)
    ∙ ap (λ ys. g (h x) ∷ ys) (each-becomes f g h k each xs)

-- those that pass a test
pub passing-become : {A C : Type 0} (f : A → C) (test : C → Bool) (xs : List A)
    → filter test (map f xs) ≡ map f (filter (λ x. test (f x)) xs)
passing-become f test [] = refl
passing-become f test (x ∷ xs) = at (test (f x)) (passing-become f test xs)
  where
    at : (b : Bool) → filter test (map f xs) ≡ map f (filter (λ y. test (f y)) xs)
        → cond b (f x ∷ filter test (map f xs)) (filter test (map f xs))
        ≡ map f (cond b (x ∷ filter (λ y. test (f y)) xs) (filter (λ y. test (f y)) xs))
    at true e = ap (λ ys. f x ∷ ys) e
    at false e = e

-- the first of these
pub found-becomes : {A C : Type 0} (f : A → C) (test : C → Bool) (xs : List A)
    → find test (map f xs) ≡ option_map f (find (λ x. test (f x)) xs)
found-becomes f test [] = refl
found-becomes f test (x ∷ xs) = at (test (f x)) (found-becomes f test xs)
  where
    at : (b : Bool) → find test (map f xs) ≡ option_map f (find (λ y. test (f y)) xs)
        → cond b (Some (f x)) (find test (map f xs))
        ≡ option_map f (cond b (Some x) (find (λ y. test (f y)) xs))
    at true e = refl
    at false e = e

-- whether there is one
pub any-becomes : {A C : Type 0} (f : A → C) (test : C → Bool) (xs : List A)
    → list_any test (map f xs) ≡ list_any (λ x. test (f x)) xs
any-becomes f test [] = refl
any-becomes f test (x ∷ xs) = ap (λ b. test (f x) || b) (any-becomes f test xs)

-- ---- messages

abbrev pub bare_declaration : Declaration → Declaration
bare_declaration d = record d { parts = bare_parts d.parts }

mutual
  message-bare : (scope : Text) (m : MessageDescriptor)
      → declared_message scope (bare_message m) ≡ map bare_declaration (declared_message scope m)
  message-bare scope (a_message parts nested) =
      ap (λ (ds : List Declaration). record
      { name = name_within scope parts.name; parts = bare_parts parts }
      ∷ ds) (messages-bare (name_within scope parts.name) nested)

  messages-bare : (scope : Text) (ms : MessageDescriptors)
      → declared_messages scope (bare_messages ms)
      ≡ map bare_declaration (declared_messages scope ms)
  messages-bare scope no_messages = refl
  messages-bare scope (messages m ms) =
      both-become bare_declaration (declared_message scope m) (declared_messages scope ms)
      (declared_message scope (bare_message m)) (declared_messages scope (bare_messages ms))
      (message-bare scope m) (messages-bare scope ms)

file-bare : (file : FileDescriptor)
    → messages_declared_in (bare_file file) ≡ map bare_declaration (messages_declared_in file)
file-bare file =
    let scope = package_scope file.«package» in
    all-become bare_message bare_declaration (declared_message scope) (declared_message scope)
    (message-bare scope) file.message_type

pub declared-bare : (files : List FileDescriptor)
    → flat_map messages_declared_in (map bare_file files)
    ≡ map bare_declaration (flat_map messages_declared_in files)
declared-bare files =
    all-become bare_file bare_declaration messages_declared_in messages_declared_in file-bare files

pub messages-of-bare : (files : List FileDescriptor) (name : Text)
    → messages_with_name (map bare_file files) name ≡ map bare_parts (messages_with_name files name)
messages-of-bare files name =
    let ds = flat_map messages_declared_in files in
    ap (messages_named name) (declared-bare files)
    ∙ ap (map (λ (d : Declaration). d.parts))
    (passing-become bare_declaration (λ d. bytes_eq name d.name) ds)
    ∙ each-becomes bare_declaration bare_parts (λ (d : Declaration). d.parts)
    (λ (d : Declaration). d.parts) (λ d. refl)
    (filter (λ (d : Declaration). bytes_eq name d.name) ds)

-- ---- extensions

abbrev pub bare_extension : Declared FieldDescriptor → Declared FieldDescriptor
bare_extension e = record e { what = bare_field e.what }

within-bare : (scope : Text) (fields : List FieldDescriptor)
    → extensions_within scope (map bare_field fields)
    ≡ map bare_extension (extensions_within scope fields)
within-bare scope fields =
    each-becomes bare_field bare_extension
    (λ (f : FieldDescriptor). record { name = name_within scope f.name; what = f })
    (λ (f : FieldDescriptor). record { name = name_within scope f.name; what = f })
    (λ f. refl) fields

-- those of messages
abbrev inside_message : Declaration → List (Declared FieldDescriptor)
inside_message d = extensions_within d.name d.parts.extension

pub extensions-bare : (file : FileDescriptor)
    → declared_extensions (bare_file file) ≡ map bare_extension (declared_extensions file)
extensions-bare file =
    let scope = package_scope file.«package» in
    let inside : flat_map inside_message (messages_declared_in (bare_file file))
    ≡ map bare_extension (flat_map inside_message (messages_declared_in file)) =
    ap (flat_map inside_message) (file-bare file)
    ∙ all-become bare_declaration bare_extension inside_message inside_message
    (λ (d : Declaration). within-bare d.name d.parts.extension) (messages_declared_in file) in
    both-become bare_extension (flat_map inside_message (messages_declared_in file))
    (extensions_within scope file.extension)
    (flat_map inside_message (messages_declared_in (bare_file file)))
    (extensions_within scope (map bare_field file.extension)) inside
    (within-bare scope file.extension)

pub all-extensions-bare : (files : List FileDescriptor)
    → flat_map declared_extensions (map bare_file files)
    ≡ map bare_extension (flat_map declared_extensions files)
all-extensions-bare files =
    all-become bare_file bare_extension declared_extensions declared_extensions extensions-bare
    files

extensions-in-bare : (file : FileDescriptor)
    → extensions_declared_in (bare_file file) ≡ map bare_field (extensions_declared_in file)
extensions-in-bare file =
    ap (map (λ (e : Declared FieldDescriptor). e.what)) (extensions-bare file)
    ∙ each-becomes bare_extension bare_field (λ (e : Declared FieldDescriptor). e.what)
    (λ (e : Declared FieldDescriptor). e.what) (λ e. refl) (declared_extensions file)

pub extensions-of-bare : (files : List FileDescriptor) (name : Text)
    → extensions_extending (map bare_file files) name
    ≡ map bare_field (extensions_extending files name)
extensions-of-bare files name =
    ap (filter (extends name))
    (all-become bare_file bare_field extensions_declared_in extensions_declared_in
    extensions-in-bare files)
    ∙ passing-become bare_field (extends name) (flat_map extensions_declared_in files)

-- ---- enums

abbrev pub bare_declared_enum : Declared EnumDescriptor → Declared EnumDescriptor
bare_declared_enum e = record e { what = bare_enum e.what }

enums-within-bare : (scope : Text) (es : List EnumDescriptor)
    → map (enum_in scope) (map bare_enum es) ≡ map bare_declared_enum (map (enum_in scope) es)
enums-within-bare scope es =
    each-becomes bare_enum bare_declared_enum (enum_in scope) (enum_in scope) (λ e. refl) es

abbrev enums_inside : Declaration → List (Declared EnumDescriptor)
enums_inside d = map (enum_in d.name) d.parts.enum_type

pub enums-bare : (file : FileDescriptor)
    → declared_enums (bare_file file) ≡ map bare_declared_enum (declared_enums file)
enums-bare file =
    let scope = package_scope file.«package» in
    let inside : flat_map enums_inside (messages_declared_in (bare_file file))
    ≡ map bare_declared_enum (flat_map enums_inside (messages_declared_in file)) =
    ap (flat_map enums_inside) (file-bare file)
    ∙ all-become bare_declaration bare_declared_enum enums_inside enums_inside
    (λ (d : Declaration). enums-within-bare d.name d.parts.enum_type) (messages_declared_in file) in
    both-become bare_declared_enum (flat_map enums_inside (messages_declared_in file))
    (map (enum_in scope) file.enum_type)
    (flat_map enums_inside (messages_declared_in (bare_file file)))
    (map (enum_in scope) (map bare_enum file.enum_type)) inside
    (enums-within-bare scope file.enum_type)

pub all-enums-bare : (files : List FileDescriptor)
    → flat_map declared_enums (map bare_file files)
    ≡ map bare_declared_enum (flat_map declared_enums files)
all-enums-bare files =
    all-become bare_file bare_declared_enum declared_enums declared_enums enums-bare files
