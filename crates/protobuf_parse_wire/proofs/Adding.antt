-- An index that grows by messages and extensions.
use Rattle.std.proofs.Common.{◌≡◌, ℕ, ◌+◌, ◌<◌, ◌≤◌, Bool, true, false, cond, List, [], ◌∷◌, ◌++◌}
use Rattle.std.proofs.Common.{map, take, drop, suc, get_or, length, refl, sym, ap}
use Rattle.std.proofs.Common.{subst, ◌∙◌, append_assoc, append-nil}
use Rattle.std.specs.Borrow.{Bor}
use Rattle.std.specs.List.{flat_map, filter}
use Rattle.std.specs.Str.{bytes_eq}
use Rattle.std.proofs.lemmas.List.{take_more, take_all, take-append-drop, map-append}
use Rattle.std.proofs.Math.Seq.{drop-cons}
use Rattle.std.proofs.lemmas.List.Elements.{filter-append}
use Rattle.std.proofs.lemmas.Grind.{flat_map-append}
use Rattle.protobuf_parse_base.specs.DeclaredNames.{name_bytes}
use Rattle.protobuf_parse_model.specs.declared.descriptor.DescriptorProto.{DescriptorProto}
use Rattle.protobuf_parse_model.specs.declared.descriptor.DescriptorProto.{out-DescriptorProto}
use Rattle.protobuf_parse_model.specs.Descriptors.{Text, FileDescriptor, FieldDescriptor}
use Rattle.protobuf_parse_model.specs.Descriptors.{MessageParts, MessageDescriptor, a_message}
use Rattle.protobuf_parse_model.specs.Descriptors.{messages_of_list, message_view}
use Rattle.protobuf_parse_model.specs.MessageParts.{message_parts}
use Rattle.protobuf_parse_model.specs.Descriptors.{field_view, parts_seen}
use Rattle.protobuf_parse_model.proofs.Levels.{message_view_is}
use Rattle.protobuf_parse_model.specs.Declarations.{Declared}
use Rattle.protobuf_parse_wire.specs.declared.reader.index.Index.{Index}
use Rattle.protobuf_parse_base.specs.Multimaps.{values_under}
use Rattle.std.specs.BTreeMap.{IsEmpty}
use Rattle.protobuf_parse_wire.specs.Declarations as declarations
use Rattle.protobuf_parse_wire.specs.Declarations.{Declaration, name_within, declared_message}
use Rattle.protobuf_parse_wire.specs.Declarations.{declared_messages, messages_declared_in}
use Rattle.protobuf_parse_wire.specs.Declarations.{package_scope}
use Rattle.protobuf_parse_wire.specs.Declarations.{extensions_within, messages_named}
use Rattle.protobuf_parse_wire.specs.Declarations.{messages_with_name}
use Rattle.protobuf_parse_wire.specs.Declarations.{extends, extensions_extending}
use Rattle.protobuf_parse_wire.specs.Indexed.{indexed_messages, indexed_extensions}
use Rattle.protobuf_parse_wire.specs.Indexed.{IndexAdds}
use Rattle.protobuf_parse_wire.specs.Indexed.{AddsMessages, Indexes}

-- one more element of a list that is mapped
pub mapped_one_more : {X Y : Type 0} (f : X → Y) (xs : List X) (i : ℕ) (x : X) → i < length xs
    → x ≡ get_or xs i x → map f (take (i + 1) xs) ≡ map f (take i xs) ++ f x ∷ []
mapped_one_more f xs i x lt is = ap (map f) (take_more xs i x lt)
    ∙ map-append f (take i xs) (get_or xs i x ∷ [])
    ∙ ap (λ y. map f (take i xs) ++ f y ∷ []) (sym is)

-- the same of a list of lists
pub joined_one_more : {X Y Z : Type 0} (g : Y → List Z) (f : X → Y) (xs : List X) (i : ℕ) (x : X)
    → i < length xs → x ≡ get_or xs i x
    → flat_map g (map f (take (i + 1) xs)) ≡ flat_map g (map f (take i xs)) ++ g (f x)
joined_one_more g f xs i x lt is = ap (flat_map g) (mapped_one_more f xs i x lt is)
    ∙ flat_map-append g (map f (take i xs)) (f x ∷ [])
    ∙ ap (λ ys. flat_map g (map f (take i xs)) ++ ys) (append-nil (g (f x)))

pub mapped_all : {X Y : Type 0} (f : X → Y) (xs : List X) (i : ℕ) → length xs ≤ i
    → map f (take i xs) ≡ map f xs
mapped_all f xs i le = ap (map f) (take_all i xs le)

pub messages_named-append : (name : Text) (ds es : List Declaration)
    → messages_named name (ds ++ es) ≡ messages_named name ds ++ messages_named name es
messages_named-append name ds es =
    ap (map (λ d. d.parts)) (filter-append (λ d. bytes_eq name d.name) ds es) ∙ map-append _ _ _

pub adds_none : (index : Index) → IndexAdds index index [] []
adds_none index =
    record {
      messages = λ name. sym (append-nil (indexed_messages index name));
      extensions = λ name.
          sym (append-nil (indexed_extensions index name));
    }

pub adds_more : (a b c : Index) (ds ds' : List Declaration) (es es' : List FieldDescriptor)
    → IndexAdds a b ds es → IndexAdds b c ds' es' → IndexAdds a c (ds ++ ds') (es ++ es')
adds_more a b c ds ds' es es' first second = record {
  messages = λ name. second.messages name
      ∙ ap (λ ms. ms ++ messages_named name ds') (first.messages name)
      ∙ append_assoc (indexed_messages a name) (messages_named name ds) (messages_named name ds')
      ∙ ap (λ ms. indexed_messages a name ++ ms) (sym (messages_named-append name ds ds'));
  extensions = λ name. second.extensions name
      ∙ ap (λ fs. fs ++ filter (extends name) es') (first.extensions name)
      ∙ append_assoc (indexed_extensions a name) (filter (extends name) es)
      (filter (extends name) es')
      ∙ ap (λ fs. indexed_extensions a name ++ fs) (sym (filter-append (extends name) es es'));
}

pub adds_messages_more : (a b c : Index) (ds ds' : List Declaration) → AddsMessages a b ds
    → AddsMessages b c ds' → AddsMessages a c (ds ++ ds')
adds_messages_more a b c ds ds' first second =
    subst (λ (es : List FieldDescriptor). IndexAdds a c (ds ++ ds') es)
    (sym (flat_map-append (λ d. d.parts.extension) ds ds'))
    (adds_more a b c ds ds' _ _ first second)

pub declared_list : (scope : Text) (ms : List MessageDescriptor)
    → declared_messages scope (messages_of_list ms) ≡ flat_map (declared_message scope) ms
declared_list scope [] = refl
declared_list scope (m ∷ ms) = ap (λ ds. declared_message scope m ++ ds) (declared_list scope ms)

-- a message put under its name
put_one : (d : Declaration) (r : Bor DescriptorProto) (old a : Index)
    → parts_seen (message_view r.now) ≡ d.parts → indexed_extensions a ≡ indexed_extensions old
    → ((name : Text) → values_under a.messages name
    ≡ cond (bytes_eq name d.name) (values_under old.messages name ++ r ∷ [])
    (values_under old.messages name))
    → IndexAdds old a (d ∷ []) []
put_one d r old a is same put = record {
  messages = λ name. ap (map (λ (m : Bor DescriptorProto). parts_seen (message_view m.now)))
      (put name) ∙ by_test (bytes_eq name d.name) (values_under old.messages name);
  extensions = λ name. ap (λ (f : Text → List FieldDescriptor). f name) same
      ∙ sym (append-nil (indexed_extensions old name));
}
  where
    by_test : (b : Bool) (ms : List (Bor DescriptorProto))
        → map (λ (m : Bor DescriptorProto). parts_seen (message_view m.now))
        (cond b (ms ++ r ∷ []) ms)
        ≡ map (λ (m : Bor DescriptorProto). parts_seen (message_view m.now)) ms
        ++ map (λ (d : Declaration). d.parts) (cond b (d ∷ []) [])
    by_test true ms = map-append (λ (m : Bor DescriptorProto). parts_seen (message_view m.now)) ms
        (r ∷ [])
        ∙ ap (λ p. map (λ (m : Bor DescriptorProto). parts_seen (message_view m.now)) ms ++ p ∷ [])
        is
    by_test false ms =
        sym (append-nil (map (λ (m : Bor DescriptorProto). parts_seen (message_view m.now)) ms))

-- the message with its extensions and the messages inside it, taken apart
added_parts : (scope name : Text) (m : MessageDescriptor) (parts : MessageParts)
    (ms : List MessageDescriptor) (r : Bor DescriptorProto) (old a b new : Index)
    → message_view r.now ≡ m → m ≡ a_message parts (messages_of_list ms)
    → name ≡ name_within scope parts.name
    → indexed_extensions a ≡ indexed_extensions old
    → ((q : Text) → values_under a.messages q
    ≡ cond (bytes_eq q name) (values_under old.messages q ++ r ∷ [])
    (values_under old.messages q))
    → IndexAdds a b [] parts.extension → AddsMessages b new (flat_map (declared_message name) ms)
    → AddsMessages old new (declared_message scope m)
added_parts scope name m parts ms r old a b new is apart named same put extensions nested =
    let d : Declaration = record { name = name; parts = parts } in
    let inner : declared_messages name (messages_of_list ms)
    ≡ flat_map (declared_message name) ms = declared_list name ms in
    let one = put_one d r old a (ap parts_seen (is ∙ apart)) same put in
    let two = adds_more old a b (d ∷ []) [] [] parts.extension one extensions in
    let all : AddsMessages old new (d ∷ flat_map (declared_message name) ms) =
    adds_more old b new (d ∷ []) (flat_map (declared_message name) ms) parts.extension _ two
    nested in
    let here : AddsMessages old new (d ∷ declared_messages name (messages_of_list ms)) =
    subst (λ (ds : List Declaration). AddsMessages old new (d ∷ ds)) (sym inner) all in
    let there : AddsMessages old new
    (declared_message scope (a_message parts (messages_of_list ms))) =
    subst (λ (n : Text). AddsMessages old new
    (record { name = n; parts = parts } ∷ declared_messages n (messages_of_list ms))) named here
    in
    subst (λ (x : MessageDescriptor). AddsMessages old new (declared_message scope x))
    (sym apart) there

-- a message, its extensions and the messages inside it
pub message_added : (scope name : Text) (r : Bor DescriptorProto) (old a b new : Index)
    → name ≡ name_within scope (name_bytes (out-DescriptorProto r.now).name)
    → indexed_extensions a ≡ indexed_extensions old
    → ((q : Text) → values_under a.messages q
    ≡ cond (bytes_eq q name) (values_under old.messages q ++ r ∷ [])
    (values_under old.messages q))
    → IndexAdds a b [] (map field_view (out-DescriptorProto r.now).extension.items)
    → AddsMessages b new
    (flat_map (declared_message name)
    (map message_view (out-DescriptorProto r.now).nested_type.items))
    → AddsMessages old new (declared_message scope (message_view r.now))
message_added scope name r old a b new named same put extensions nested =
    added_parts scope name (message_view r.now) (message_parts r.now)
    (map message_view (out-DescriptorProto r.now).nested_type.items) r old a b new refl
    (message_view_is r.now) named same put extensions nested

-- extensions without their full names

abbrev field_of : Declared FieldDescriptor → FieldDescriptor
field_of e = e.what

fields_within : (scope : Text) (fs : List FieldDescriptor)
    → map field_of (extensions_within scope fs) ≡ fs
fields_within scope [] = refl
fields_within scope (f ∷ fs) = ap (λ (gs : List FieldDescriptor). f ∷ gs) (fields_within scope fs)

fields_inside : (ds : List Declaration)
    → map field_of (flat_map (λ (d : Declaration). extensions_within d.name d.parts.extension) ds)
    ≡ flat_map (λ (d : Declaration). d.parts.extension) ds
fields_inside [] = refl
fields_inside (d ∷ ds) =
    map-append field_of (extensions_within d.name d.parts.extension)
    (flat_map (λ (x : Declaration). extensions_within x.name x.parts.extension) ds)
    ∙ ap (λ (fs : List FieldDescriptor). fs
    ++ map field_of
    (flat_map (λ (x : Declaration). extensions_within x.name x.parts.extension) ds)) (fields_within
    d.name d.parts.extension)
    ∙ ap (λ (fs : List FieldDescriptor). d.parts.extension ++ fs) (fields_inside ds)

extensions_are : (file : FileDescriptor)
    → flat_map (λ (d : Declaration). d.parts.extension) (messages_declared_in file)
    ++ file.extension
    ≡ declarations.extensions_declared_in file
extensions_are file =
    sym (map-append field_of
    (flat_map (λ (d : Declaration). extensions_within d.name d.parts.extension)
    (messages_declared_in file))
    (extensions_within (package_scope file.«package») file.extension)
    ∙ ap (λ (fs : List FieldDescriptor). fs
    ++ map field_of
    (extensions_within (package_scope file.«package») file.extension)) (fields_inside
    (messages_declared_in file))
    ∙ ap (λ (fs : List FieldDescriptor). flat_map (λ (d : Declaration). d.parts.extension)
    (messages_declared_in file) ++ fs)
    (fields_within (package_scope file.«package») file.extension))

-- a file: its messages, then the extensions outside them
pub file_added : (file : FileDescriptor) (scope : Text) (ms : List MessageDescriptor)
    (es : List FieldDescriptor) (old mid new : Index) → scope ≡ package_scope file.«package»
    → ms ≡ file.message_type → es ≡ file.extension
    → AddsMessages old mid (flat_map (declared_message scope) ms) → IndexAdds mid new [] es
    → IndexAdds old new (messages_declared_in file) (declarations.extensions_declared_in file)
file_added file scope ms es old mid new scoped inside outside first second =
    let ds = flat_map (declared_message scope) ms in
    let all : IndexAdds old new ds (flat_map (λ d. d.parts.extension) ds ++ es) =
    subst (λ (xs : List Declaration). IndexAdds old new xs
    (flat_map (λ d. d.parts.extension) ds ++ es)) (append-nil ds) (adds_more old mid new ds
    [] _ es first second) in
    let same : ds ≡ messages_declared_in file = ap (λ s. flat_map (declared_message s) ms) scoped
    ∙ ap (flat_map (declared_message (package_scope file.«package»))) inside in
    let whole : IndexAdds old new (messages_declared_in file)
    (flat_map (λ d. d.parts.extension) (messages_declared_in file) ++ file.extension) =
    subst (λ (fs : List FieldDescriptor). IndexAdds old new (messages_declared_in file)
    (flat_map (λ d. d.parts.extension) (messages_declared_in file) ++ fs))
    outside (subst
    (λ (xs : List Declaration). IndexAdds old new xs (flat_map (λ d. d.parts.extension) xs ++ es))
    same all) in
    subst (λ (fs : List FieldDescriptor). IndexAdds old new (messages_declared_in file) fs)
    (extensions_are file) whole

-- what an index that began empty has
pub indexes_all : (start index : Index) (files : List FileDescriptor) → IsEmpty start.messages
    → IsEmpty start.extensions
    → IndexAdds start index (flat_map messages_declared_in files)
    (flat_map declarations.extensions_declared_in files)
    → Indexes files index
indexes_all start index files no_messages no_extensions adds = record {
  messages = λ name. adds.messages name
      ∙ ap (λ ms. ms ++ messages_with_name files name) (none_of_messages name);
  extensions = λ name. adds.extensions name
      ∙ ap (λ es. es ++ extensions_extending files name) (none_of_extensions name);
}
  where
    none_of_messages : (name : Text) → indexed_messages start name ≡ []
    none_of_messages name = rw no_messages refl

    none_of_extensions : (name : Text) → indexed_extensions start name ≡ []
    none_of_extensions name = rw no_extensions refl

-- a list cut at one of its elements
pub mapped_cut : {X Y : Type 0} (f : X → Y) (xs : List X) (i : ℕ) (x : X) → i < length xs
    → x ≡ get_or xs i x → map f xs ≡ map f (take i xs) ++ f x ∷ map f (drop (suc i) xs)
mapped_cut f xs i x lt is =
    ap (map f) (sym (take-append-drop i xs) ∙ ap (λ ys. take i xs ++ ys) (drop-cons xs i x lt)
    ∙ ap (λ y. take i xs ++ y ∷ drop (suc i) xs) (sym is))
    ∙ map-append f (take i xs) (x ∷ drop (suc i) xs)
