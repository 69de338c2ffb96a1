-- What the options messages of a descriptor hold are the bytes of its file's sets of options.
use Rattle.std.proofs.Common.{◌≡◌, ℕ, ◌+◌, List, [], ◌∷◌, ◌++◌, map, flat_map, length, refl, ap}
use Rattle.std.proofs.Common.{sym, subst, inl, inr, ◌⊎◌, Bool, true, false, nat_lt, cond}
use Rattle.std.proofs.Common.{if◌then◌else◌, filter, IsPermutation, arith}
use Rattle.std.proofs.lemmas.Bool.{lt-ltb}
use Rattle.std.proofs.lemmas.Grind.{flat_map-append}
use Rattle.std.proofs.lemmas.List.{append-nil, append_assoc, map-append}
use Rattle.std.proofs.lemmas.List.Elements.{filter-append, All-from_recursion, recursion_from_All}
use Rattle.std.proofs.lemmas.List.Sorted.{IsPermutation-refl, IsPermutation-sym, All-permutation}
use Rattle.std.proofs.lemmas.List.Sorted.{IsPermutation-trans, IsPermutation-append}
use Rattle.std.proofs.lemmas.List.Sorted.{IsPermutation-append_left, IsPermutation-append_right}
use Rattle.std.proofs.lemmas.List.Sorted.{IsPermutation-append_comm}
use Rattle.protobuf_parse_syntax.specs.Trees.{OptionSyntax, FieldSyntax, FieldStatementSyntax}
use Rattle.protobuf_parse_syntax.specs.Trees.{field, group, TypeSyntax, scalar, map_of, named}
use Rattle.protobuf_parse_syntax.specs.Trees.{EnumValueSyntax, EnumSyntax, MessageStatementSyntax}
use Rattle.protobuf_parse_syntax.specs.Trees.{message_oneof, message_extend, message_message}
use Rattle.protobuf_parse_syntax.specs.Trees.{message_enum, message_field, MessageStatementList}
use Rattle.protobuf_parse_syntax.specs.Trees.{no_statements, more_statements, nested_message}
use Rattle.protobuf_parse_syntax.specs.Trees.{OneofSyntax, MethodSyntax, ServiceSyntax}
use Rattle.protobuf_parse_syntax.specs.Trees.{file_message, file_enum, file_extend, file_service}
use Rattle.protobuf_parse_syntax.specs.Trees.{StatementSyntax, FileSyntax}
use Rattle.protobuf_parse_model.specs.declared.customs.Construct.TheVariants as of
use Rattle.protobuf_parse_model.specs.declared.customs.Construct.{Construct}
use Rattle.protobuf_parse_model.specs.Options.{FileOptionValues, MessageOptionValues}
use Rattle.protobuf_parse_model.specs.Options.{FieldOptionValues, OneofOptionValues}
use Rattle.protobuf_parse_model.specs.Options.{EnumOptionValues, EnumValueOptionValues}
use Rattle.protobuf_parse_model.specs.Options.{ServiceOptionValues, MethodOptionValues}
use Rattle.protobuf_parse_model.specs.Descriptors.{Text, MessageDescriptor, messages_of_list}
use Rattle.protobuf_parse_model.specs.Descriptors.{FieldDescriptor, OneofDescriptor, EnumDescriptor}
use Rattle.protobuf_parse_model.specs.Descriptors.{ServiceDescriptor}
use Rattle.protobuf_parse_model.specs.BuiltinOptions.{where_any}
use Rattle.protobuf_parse_model.specs.Faults.{Among, here, there}
use Rattle.protobuf_parse_model.specs.Statements.{group_body, message_body, oneof_fields, groups}
use Rattle.protobuf_parse_model.specs.Statements.{entry_name}
use Rattle.protobuf_parse_model.specs.Declarations.{Scope, inside, full_name}
use Rattle.protobuf_parse_model.specs.Environment.{Environment, Customs, env_inside, customs_bytes}
use Rattle.protobuf_parse_model.specs.OptionMessages.{message_options}
use Rattle.protobuf_parse_model.proofs.Blaming.{among_left}
use Rattle.protobuf_parse_elaboration.specs.Fields.{FieldOwner, of_message, field_of}
use Rattle.protobuf_parse_elaboration.specs.Fields.{field_statement_of}
use Rattle.protobuf_parse_elaboration.specs.Enums.{enum_values, options_of_enum, value_of, enum_of}
use Rattle.protobuf_parse_elaboration.specs.Services.{methods_in, options_of_service}
use Rattle.protobuf_parse_elaboration.specs.Services.{options_of_method, method_of, service_of}
use Rattle.protobuf_parse_elaboration.specs.Messages as messages
use Rattle.protobuf_parse_elaboration.specs.Messages.{entries_of, messages_behind, own_oneof}
use Rattle.protobuf_parse_elaboration.specs.Messages.{has_own_oneof, oneof_of, options_in_oneof}
use Rattle.protobuf_parse_elaboration.specs.Messages.{at_oneof, fields_of, fields_from, extending}
use Rattle.protobuf_parse_elaboration.specs.Messages.{options_of_body, message_from, nested_of}
use Rattle.protobuf_parse_elaboration.specs.Messages.{nested_in, oneofs_of}
use Rattle.protobuf_parse_elaboration.specs.FileDescriptor as files
use Rattle.protobuf_parse_elaboration.specs.FileDescriptor.{options_of_statements, environment}
use Rattle.protobuf_parse_elaboration.specs.FileDescriptor.{file_messages_of, services_of, file_of}
use Rattle.protobuf_parse_elaboration.specs.OptionSets.{OptionSet, a_set, sets_in_group, field_sets}
use Rattle.protobuf_parse_elaboration.specs.OptionSets.{oneof_sets, extend_sets, value_set}
use Rattle.protobuf_parse_elaboration.specs.OptionSets.{enum_sets, method_set, service_sets}
use Rattle.protobuf_parse_run.specs.StandingBytes.{IsStated, HeldBytes, held, held_in_field}
use Rattle.protobuf_parse_run.specs.StandingBytes.{held_in_oneof, held_in_value, held_in_enum}
use Rattle.protobuf_parse_run.specs.StandingBytes.{held_in_message, held_in_messages}
use Rattle.protobuf_parse_run.specs.StandingBytes.{held_in_method, held_in_service, held_in_file}
use Rattle.protobuf_parse_run.specs.StandingBytes.{stated, held_by_set, held_behind_map}
use Rattle.protobuf_parse_run.specs.StandingBytes.{OptionsStand, NoOthersStand, SetsStandOnce}
use Rattle.protobuf_parse_elaboration.specs.OptionSets.{sets_of, sets_in, statement_sets}
use Rattle.protobuf_parse_elaboration.specs.OptionSets.{option_sets}
use Rattle.protobuf_parse_elaboration.proofs.EachOne.{all-among, all-from}
use Rattle.protobuf_parse_run.proofs.StandingBytes.{in_none, among_parts}

-- ---- lists

-- what a test lets through is kept
filter_keeps : {A : Type 0} (test : A → Bool) {xs : List A} {x : A} → Among xs x → test x ≡ true
    → Among (filter test xs) x
filter_keeps test here e = rw e here
filter_keeps test {xs = y ∷ ys} (there w) e = later (test y) y (filter_keeps test w e)
  where
    later : {A : Type 0} {x : A} {zs : List A} (b : Bool) (z : A) → Among zs x
        → Among (cond b (z ∷ zs) zs) x
    later true z k = there k
    later false z k = k

-- and nothing else
filter_passes : {A : Type 0} (test : A → Bool) (xs : List A) {x : A} → Among (filter test xs) x
    → Among xs x × (test x ≡ true)
filter_passes test [] w = absurd (in_none w)
filter_passes test (y ∷ ys) w =
    elim (at (test y) y (filter test ys) w) [
      | inl f ↦ (rw f.0 here, rw f.0 f.1)
      | inr v ↦ let h = filter_passes test ys v in (there h.0, h.1)
    ]
  where
    at : {A : Type 0} {x : A} (b : Bool) (z : A) (zs : List A) → Among (cond b (z ∷ zs) zs) x
        → ((x ≡ z) × (b ≡ true)) ⊎ Among zs x
    at true z zs here = inl (refl, refl)
    at true z zs (there w) = inr w
    at false z zs w = inr w

-- what an element becomes stands among what all become
map_keeps : {A B : Type 0} (f : A → B) {xs : List A} {x : A} → Among xs x → Among (map f xs) (f x)
map_keeps f here = here
map_keeps f (there w) = there (map_keeps f w)

-- and nothing else
map_from : {A B : Type 0} (f : A → B) (xs : List A) {y : B} → Among (map f xs) y
    → (x : A) × Among xs x × (y ≡ f x)
map_from f [] w = absurd (in_none w)
map_from f (x ∷ xs) here = (x, here, refl)
map_from f (x ∷ xs) (there w) = let h = map_from f xs w in (h.0, there h.1, h.2)

-- ---- lists of what is held

-- what stands there stands there in any order
among_moved : {hs ks : List HeldBytes} {h : HeldBytes} → IsPermutation hs ks → Among hs h
    → Among ks h
among_moved {hs = hs} {ks = ks} p a =
    all-among (Among ks) a (recursion_from_All (Among ks) hs
    (All-permutation (Among ks) ks hs (IsPermutation-sym hs ks p)
    (All-from_recursion (Among ks) ks (all-from (Among ks) ks (λ x w. w)))))

-- the first part behind the second
second_first : (hs ks ls : List HeldBytes) → IsPermutation (hs ++ (ks ++ ls)) (ks ++ hs ++ ls)
second_first hs ks ls =
    rw (← append_assoc hs ks ls)
    (IsPermutation-append_left ls (hs ++ ks) (ks ++ hs) (IsPermutation-append_comm hs ks))

-- Parts of two lists: the first parts together and the last parts together, or those of each list.
both_sorted : (hs ks fore more last : List HeldBytes) → IsPermutation fore (hs ++ ks)
    → IsPermutation (fore ++ (more ++ last)) ((hs ++ more) ++ (ks ++ last))
both_sorted hs ks fore more last p =
    let turned = IsPermutation-append_right hs _ _ (second_first ks more last) in
    IsPermutation-trans _ _ _ (IsPermutation-append_left (more ++ last) _ _ p)
    (rw (append_assoc hs ks (more ++ last), append_assoc hs more (ks ++ last))
    (rw (append_assoc more ks last) at turned))

-- where each has four parts, or five
four_sorted : (xs bs cs ds es fs gs hs : List HeldBytes)
    → IsPermutation ((xs ++ es) ++ (bs ++ fs) ++ (cs ++ gs) ++ (ds ++ hs))
    ((xs ++ bs ++ cs ++ ds) ++ (es ++ fs ++ gs ++ hs))
four_sorted xs bs cs ds es fs gs hs =
    both_sorted (xs ++ bs ++ cs) (es ++ fs ++ gs) ((xs ++ es) ++ (bs ++ fs) ++ (cs ++ gs)) ds hs
    (both_sorted (xs ++ bs) (es ++ fs) ((xs ++ es) ++ (bs ++ fs)) cs gs
    (both_sorted xs es (xs ++ es) bs fs (IsPermutation-refl (xs ++ es))))

five_sorted : (xs bs cs ds is es fs gs hs js : List HeldBytes)
    → IsPermutation ((xs ++ es) ++ (bs ++ fs) ++ (cs ++ gs) ++ (ds ++ hs) ++ (is ++ js))
    ((xs ++ bs ++ cs ++ ds ++ is) ++ (es ++ fs ++ gs ++ hs ++ js))
five_sorted xs bs cs ds is es fs gs hs js =
    both_sorted (xs ++ bs ++ cs ++ ds) (es ++ fs ++ gs ++ hs)
    ((xs ++ es) ++ (bs ++ fs) ++ (cs ++ gs) ++ (ds ++ hs)) is js
    (four_sorted xs bs cs ds es fs gs hs)

-- what the options of the whole hold, before its parts
message_parted : (own fs os es xs ms : List HeldBytes)
    → own ++ (fs ++ os ++ es ++ xs ++ ms) ≡ own ++ fs ++ os ++ es ++ xs ++ ms
message_parted own fs os es xs ms = simp append_assoc refl

file_parted : (own ms es vs xs : List HeldBytes)
    → own ++ (ms ++ es ++ vs ++ xs) ≡ own ++ ms ++ es ++ vs ++ xs
file_parted own ms es vs xs = simp append_assoc refl

-- In the message of a group there are fields alone.
group_parted : (hs : List HeldBytes) → hs ≡ hs ++ [] ++ [] ++ [] ++ [] ++ []
group_parted hs = simp append-nil refl

-- what a statement becomes, among all parts
field_parted : (one own behind : List HeldBytes) → own ≡ []
    → one ++ behind ≡ (one ++ []) ++ own ++ [] ++ [] ++ behind
field_parted one own behind e = simp (e, append-nil) refl

oneof_parted : (ones own behind : List HeldBytes)
    → ones ++ own ++ behind ≡ ones ++ (own ++ []) ++ [] ++ [] ++ behind
oneof_parted ones own behind = simp append-nil refl

enum_parted : (hs : List HeldBytes) → hs ≡ (hs ++ []) ++ [] ++ []
enum_parted hs = simp append-nil refl

first_parted : (hs : List HeldBytes) → hs ≡ hs ++ [] ++ [] ++ []
first_parted hs = simp append-nil refl

service_parted : (hs : List HeldBytes) → hs ≡ (hs ++ []) ++ []
service_parted hs = simp append-nil refl

extend_parted : (hs ks : List HeldBytes) → hs ++ ks ≡ hs ++ [] ++ [] ++ ks
extend_parted hs ks = simp append-nil refl

-- ---- what is held for sets

statement_there : (o : OptionSyntax) (os : List OptionSyntax) → nat_lt 0 (length (o ∷ os)) ≡ true
statement_there o os = lt-ltb 0 (length (o ∷ os)) (omega arith)

module _ (customs : Customs) where
  -- what the sets among these that have a statement are to hold
  abbrev to_hold : List OptionSet → List HeldBytes
  to_hold sets = map (held_by_set customs) (stated sets)

  to_hold-append : (xs ys : List OptionSet) → to_hold (xs ++ ys) ≡ to_hold xs ++ to_hold ys
  to_hold-append xs ys = simp (filter-append, map-append) refl

  -- these are held for just these sets, and behind these maps
  record HeldFor (sets : List OptionSet) (hs : List HeldBytes) : Type 0 where
    behind : List Text
    held_so : IsPermutation hs (to_hold sets ++ map held_behind_map behind)

  none_held : HeldFor [] []
  none_held = record { behind = []; held_so = IsPermutation-refl [] }

  -- what is held for some and what is held for others
  both_held : (xs ys : List OptionSet) (hs ks : List HeldBytes) → HeldFor xs hs → HeldFor ys ks
      → HeldFor (xs ++ ys) (hs ++ ks)
  both_held xs ys hs ks a b =
      let behind = map held_behind_map a.behind in
      let rest = map held_behind_map b.behind in
      record {
        behind = a.behind ++ b.behind;
        held_so =
            rw (to_hold-append xs ys, map-append held_behind_map a.behind b.behind)
            (IsPermutation-trans _ _ _ (IsPermutation-append hs _ ks _ a.held_so b.held_so)
            (both_sorted (to_hold xs) behind (to_hold xs ++ behind) (to_hold ys) rest
            (IsPermutation-refl (to_hold xs ++ behind))));
      }

  -- in whatever order
  moved_held : (sets : List OptionSet) (hs ks : List HeldBytes) → IsPermutation hs ks
      → HeldFor sets hs → HeldFor sets ks
  moved_held sets hs ks p a =
      record {
        behind = a.behind;
        held_so = IsPermutation-trans _ _ _ (IsPermutation-sym hs ks p) a.held_so;
      }

  equal_held : (sets : List OptionSet) (hs ks : List HeldBytes) → hs ≡ ks → HeldFor sets hs
      → HeldFor sets ks
  equal_held sets hs ks e a = subst (HeldFor sets) e a

  turned_held : (sets : List OptionSet) (hs ks ls : List HeldBytes) → hs ++ ks ≡ ls
      → HeldFor sets (ks ++ hs) → HeldFor sets ls
  turned_held sets hs ks ls e a =
      equal_held sets (hs ++ ks) ls e
      (moved_held sets (ks ++ hs) (hs ++ ks) (IsPermutation-append_comm ks hs) a)

  -- behind a map
  map_held : (name : Text) → HeldFor [] (held_behind_map name ∷ [])
  map_held name =
      record { behind = name ∷ []; held_so = IsPermutation-refl (held_behind_map name ∷ []) }

  -- by the options message that is made where a statement stands
  set_held : {A : Type 0} (custom : A → Text) (construct : Construct) (name : Text) (scope : Scope)
      (os : List OptionSyntax) (options : A)
      → custom options ≡ customs.bytes construct scope os
      → HeldFor (a_set construct name scope os ∷ [])
      (held custom construct name (where_any os options))
  set_held custom construct name scope [] options is =
      record { behind = []; held_so = IsPermutation-refl [] }
  set_held custom construct name scope (o ∷ os) options is =
      record { behind = []; held_so = rw (statement_there o os, is) (IsPermutation-refl _) }

  -- each element becomes one
  all_held : {X A : Type 0} (sets : X → List OptionSet) (f : X → A) (g : A → List HeldBytes)
      → ((x : X) → HeldFor (sets x) (g (f x))) → (xs : List X)
      → HeldFor (flat_map sets xs) (flat_map g (map f xs))
  all_held sets f g each [] = none_held
  all_held sets f g each (x ∷ xs) =
      both_held (sets x) (flat_map sets xs) (g (f x)) (flat_map g (map f xs)) (each x)
      (all_held sets f g each xs)

  -- and has one set
  each_held : {X A : Type 0} (set : X → OptionSet) (f : X → A) (g : A → List HeldBytes)
      → ((x : X) → HeldFor (set x ∷ []) (g (f x))) → (xs : List X)
      → HeldFor (map set xs) (flat_map g (map f xs))
  each_held set f g each [] = none_held
  each_held set f g each (x ∷ xs) =
      both_held (set x ∷ []) (map set xs) (g (f x)) (flat_map g (map f xs)) (each x)
      (each_held set f g each xs)

-- ---- fields

-- a field that stands in the scope `within`
field_held : (env : Environment) (within : Scope) (p : FieldOwner) (f : FieldSyntax)
    → HeldFor env.customs (a_set of.Field (full_name within f.name) env.scope f.options ∷ [])
    (held_in_field within (field_of env p f))
field_held env within p f =
    set_held env.customs (λ (o : FieldOptionValues). o.custom) of.Field (full_name within f.name)
    env.scope f.options _ refl

grouped_held : (env : Environment) (within : Scope) (s : FieldStatementSyntax)
    → HeldFor env.customs (sets_in_group env.scope within s)
    (held_in_field within (field_statement_of env of_message s))
grouped_held env within (field f) = field_held env within of_message f
grouped_held env within (group at label name number fields) = none_held env.customs

-- the message behind a map
entries_held : (env : Environment) (name : Text) (t : TypeSyntax)
    → HeldFor env.customs [] (flat_map (held_in_message env.scope) (entries_of env name t))
entries_held env name (map_of key value) =
    map_held env.customs (full_name env.scope (entry_name name))
entries_held env name (scalar s) = none_held env.customs
entries_held env name (named n) = none_held env.customs

-- a field or a group, by its field and by the message behind it
statement_of_field_held : (env : Environment) (p : FieldOwner) (s : FieldStatementSyntax)
    → HeldFor env.customs (field_sets env.scope s)
    (held_in_field env.scope (field_statement_of env p s)
    ++ flat_map (held_in_message env.scope) (messages_behind env s))
statement_of_field_held env p (field f) =
    both_held env.customs (a_set of.Field (full_name env.scope f.name) env.scope f.options ∷ []) []
    (held_in_field env.scope (field_of env p f))
    (flat_map (held_in_message env.scope) (entries_of env f.name f.type_))
    (field_held env env.scope p f) (entries_held env f.name f.type_)
statement_of_field_held env p (group at label name number fields) =
    let within : Scope = inside env.scope name in
    let hs = flat_map (held_in_field within)
    (map (field_statement_of env of_message) (group_body fields)) in
    equal_held env.customs (flat_map (sets_in_group env.scope within) (group_body fields)) hs _
    (group_parted hs)
    (all_held env.customs (sets_in_group env.scope within) (field_statement_of env of_message)
    (held_in_field within) (grouped_held env within) (group_body fields))

-- several in one place
fields_held : (env : Environment) (p : FieldOwner) (ss : List FieldStatementSyntax)
    → HeldFor env.customs (flat_map (field_sets env.scope) ss)
    (flat_map (held_in_field env.scope) (map (field_statement_of env p) ss)
    ++ flat_map (held_in_message env.scope) (flat_map (messages_behind env) ss))
fields_held env p [] = none_held env.customs
fields_held env p (s ∷ ss) =
    let one = held_in_field env.scope (field_statement_of env p s) in
    let more = flat_map (held_in_field env.scope) (map (field_statement_of env p) ss) in
    let behind = flat_map (held_in_message env.scope) (messages_behind env s) in
    let rest = flat_map (held_in_message env.scope) (flat_map (messages_behind env) ss) in
    rw
    (flat_map-append (held_in_message env.scope) (messages_behind env s)
    (flat_map (messages_behind env) ss))
    (moved_held env.customs (flat_map (field_sets env.scope) (s ∷ ss))
    ((one ++ behind) ++ (more ++ rest)) ((one ++ more) ++ (behind ++ rest))
    (IsPermutation-sym _ _ (both_sorted one more (one ++ more) behind rest
    (IsPermutation-refl (one ++ more))))
    (both_held env.customs (field_sets env.scope s) (flat_map (field_sets env.scope) ss)
    (one ++ behind) (more ++ rest) (statement_of_field_held env p s) (fields_held env p ss)))

-- those of an `extend`, with the messages behind its groups
extensions_held : (env : Environment) (p : FieldOwner) (ss : List FieldStatementSyntax)
    → HeldFor env.customs (flat_map (field_sets env.scope) ss)
    (flat_map (held_in_field env.scope) (map (field_statement_of env p) ss)
    ++ flat_map (held_in_message env.scope) (flat_map (messages_behind env) (flat_map groups ss)))
extensions_held env p [] = none_held env.customs
extensions_held env p (field f ∷ ss) =
    let one = held_in_field env.scope (field_of env p f) in
    let more = flat_map (held_in_field env.scope) (map (field_statement_of env p) ss) in
    let rest = flat_map (held_in_message env.scope)
    (flat_map (messages_behind env) (flat_map groups ss)) in
    equal_held env.customs (flat_map (field_sets env.scope) (field f ∷ ss)) (one ++ (more ++ rest))
    ((one ++ more) ++ rest) (sym (append_assoc one more rest))
    (both_held env.customs (field_sets env.scope (field f)) (flat_map (field_sets env.scope) ss)
    one (more ++ rest) (field_held env env.scope p f) (extensions_held env p ss))
extensions_held env p (group at label name number fields ∷ ss) =
    let s = group at label name number fields in
    let later = flat_map (messages_behind env) (flat_map groups ss) in
    let one = held_in_field env.scope (field_statement_of env p s) in
    let more = flat_map (held_in_field env.scope) (map (field_statement_of env p) ss) in
    let behind = flat_map (held_in_message env.scope) (messages_behind env s) in
    let rest = flat_map (held_in_message env.scope) later in
    rw (flat_map-append (held_in_message env.scope) (messages_behind env s) later)
    (moved_held env.customs (flat_map (field_sets env.scope) (s ∷ ss))
    ((one ++ behind) ++ (more ++ rest)) ((one ++ more) ++ (behind ++ rest))
    (IsPermutation-sym _ _ (both_sorted one more (one ++ more) behind rest
    (IsPermutation-refl (one ++ more))))
    (both_held env.customs (field_sets env.scope s) (flat_map (field_sets env.scope) ss)
    (one ++ behind) (more ++ rest) (statement_of_field_held env p s)
    (extensions_held env p ss)))

-- ---- enums and services

enum_held : (env : Environment) (e : EnumSyntax)
    → HeldFor env.customs (enum_sets env.scope e) (held_in_enum env.scope (enum_of env e))
enum_held env e =
    let within : Scope = inside env.scope e.name in
    both_held env.customs
    (a_set of.Enum (full_name env.scope e.name) env.scope (options_of_enum e) ∷ [])
    (map (value_set env.scope within) (flat_map enum_values e.body))
    (held (λ (o : EnumOptionValues). o.custom) of.Enum (full_name env.scope e.name)
    (enum_of env e).options)
    (flat_map (held_in_value within) (enum_of env e).value)
    (set_held env.customs (λ (o : EnumOptionValues). o.custom) of.Enum
    (full_name env.scope e.name) env.scope (options_of_enum e) _ refl)
    (each_held env.customs (value_set env.scope within) (value_of env) (held_in_value within)
    (λ (v : EnumValueSyntax). set_held env.customs (λ (o : EnumValueOptionValues). o.custom)
    of.EnumValue (full_name within v.name) env.scope v.options _ refl)
    (flat_map enum_values e.body))

service_held : (env : Environment) (s : ServiceSyntax)
    → HeldFor env.customs (service_sets env.scope s) (held_in_service env.scope (service_of env s))
service_held env s =
    let within : Scope = inside env.scope s.name in
    both_held env.customs
    (a_set of.Service (full_name env.scope s.name) env.scope (options_of_service s) ∷ [])
    (map (method_set env.scope within) (flat_map methods_in s.body))
    (held (λ (o : ServiceOptionValues). o.custom) of.Service (full_name env.scope s.name)
    (service_of env s).options)
    (flat_map (held_in_method within) (service_of env s).method)
    (set_held env.customs (λ (o : ServiceOptionValues). o.custom) of.Service
    (full_name env.scope s.name) env.scope (options_of_service s) _ refl)
    (each_held env.customs (method_set env.scope within) (method_of env) (held_in_method within)
    (λ (m : MethodSyntax). set_held env.customs (λ (o : MethodOptionValues). o.custom)
    of.Method (full_name within m.name) env.scope (options_of_method m) _ refl)
    (flat_map methods_in s.body))

-- ---- bodies

-- what the parts of a message hold
abbrev held_in_parts : Scope → List FieldDescriptor → List OneofDescriptor → List EnumDescriptor
    → List FieldDescriptor → List MessageDescriptor → List HeldBytes
held_in_parts scope fs os es xs ms =
    flat_map (held_in_field scope) fs ++ flat_map (held_in_oneof scope) os
    ++ flat_map (held_in_enum scope) es ++ flat_map (held_in_field scope) xs
    ++ flat_map (held_in_message scope) ms

-- part by part of two
parts_sorted : (scope : Scope) (fs gs : List FieldDescriptor) (os ps : List OneofDescriptor)
    (es ds : List EnumDescriptor) (xs ys : List FieldDescriptor) (ms ns : List MessageDescriptor)
    → IsPermutation (held_in_parts scope fs os es xs ms ++ held_in_parts scope gs ps ds ys ns)
    (held_in_parts scope (fs ++ gs) (os ++ ps) (es ++ ds) (xs ++ ys) (ms ++ ns))
parts_sorted scope fs gs os ps es ds xs ys ms ns =
    rw (
      flat_map-append (held_in_field scope) fs gs,
      flat_map-append (held_in_oneof scope) os ps,
      flat_map-append (held_in_enum scope) es ds,
      flat_map-append (held_in_field scope) xs ys,
      flat_map-append (held_in_message scope) ms ns,
    )
    (IsPermutation-sym _ _ (five_sorted (flat_map (held_in_field scope) fs)
    (flat_map (held_in_oneof scope) os) (flat_map (held_in_enum scope) es)
    (flat_map (held_in_field scope) xs) (flat_map (held_in_message scope) ms)
    (flat_map (held_in_field scope) gs) (flat_map (held_in_oneof scope) ps)
    (flat_map (held_in_enum scope) ds) (flat_map (held_in_field scope) ys)
    (flat_map (held_in_message scope) ns)))

-- a oneof of a field's own has no options message
own_oneof_holds : (scope : Scope) (f : FieldStatementSyntax) (own : Bool)
    → flat_map (held_in_oneof scope) (if own then own_oneof f ∷ [] else []) ≡ []
own_oneof_holds scope f true = refl
own_oneof_holds scope f false = refl

-- what a statement becomes
abbrev held_in_statement : Environment → ℕ → MessageStatementSyntax → List HeldBytes
held_in_statement env index s =
    held_in_parts env.scope (fields_of env index s) (oneofs_of env s) (messages.enums_of env s)
    (messages.extended_of env s) (nested_of env s)

-- and a body, with the messages inside it
abbrev held_in_body : Environment → ℕ → List MessageStatementSyntax → List MessageDescriptor
    → List HeldBytes
held_in_body env index ss ms =
    held_in_parts env.scope (fields_from env index ss) (flat_map (oneofs_of env) ss)
    (flat_map (messages.enums_of env) ss) (flat_map (messages.extended_of env) ss) ms

-- messages, by their list
held_in_list : (scope : Scope) (ms : List MessageDescriptor)
    → held_in_messages scope (messages_of_list ms) ≡ flat_map (held_in_message scope) ms
held_in_list scope [] = refl
held_in_list scope (m ∷ ms) = rw (held_in_list scope ms) refl

-- the message's own options
abbrev own_set : Environment → Text → List MessageStatementSyntax → OptionSet
own_set env name body =
    a_set of.Message (full_name env.scope name) env.scope (options_of_body body)

-- a message, whose body holds so much
message_from_held : (env : Environment) (name : Text) (body : List MessageStatementSyntax)
    (ms : List MessageDescriptor) (sets : List OptionSet)
    → HeldFor env.customs sets (held_in_body (env_inside env name) 0 body ms)
    → HeldFor env.customs (own_set env name body ∷ sets)
    (held_in_message env.scope (message_from env name body ms))
message_from_held env name body ms sets within =
    let own = held (λ (o : MessageOptionValues). o.custom) of.Message (full_name env.scope name)
    (message_options (customs_bytes env of.Message (options_of_body body))
    (options_of_body body)) in
    rw (held_in_list (inside env.scope name) ms)
    (equal_held env.customs (own_set env name body ∷ sets)
    (own ++ held_in_body (env_inside env name) 0 body ms) _
    (message_parted own _ _ _ _ (flat_map (held_in_message (inside env.scope name)) ms))
    (both_held env.customs (own_set env name body ∷ []) sets
    own (held_in_body (env_inside env name) 0 body ms)
    (set_held env.customs (λ (o : MessageOptionValues). o.custom) of.Message
    (full_name env.scope name) env.scope (options_of_body body) _ refl) within))

-- a statement and those behind it
more_held : (env : Environment) (index : ℕ) (s : MessageStatementSyntax)
    (ss : List MessageStatementSyntax) (ms : List MessageDescriptor)
    (xs ys : List OptionSet) → HeldFor env.customs xs (held_in_statement env index s)
    → HeldFor env.customs ys (held_in_body env (index + length (oneofs_of env s)) ss ms)
    → HeldFor env.customs (xs ++ ys) (held_in_body env index (s ∷ ss) (nested_of env s ++ ms))
more_held env index s ss ms xs ys a b =
    moved_held env.customs (xs ++ ys)
    (held_in_statement env index s
    ++ held_in_body env (index + length (oneofs_of env s)) ss ms)
    (held_in_body env index (s ∷ ss) (nested_of env s ++ ms))
    (parts_sorted env.scope (fields_of env index s) _ (oneofs_of env s) _
    (messages.enums_of env s) _
    (messages.extended_of env s) _ (nested_of env s) ms)
    (both_held env.customs xs ys _ _ a b)

-- a field of a body
field_statement_held : (env : Environment) (index : ℕ) (f : FieldStatementSyntax)
    → HeldFor env.customs (field_sets env.scope f)
    (held_in_statement env index (message_field f))
field_statement_held env index f =
    let p = if has_own_oneof env f then at_oneof index else of_message in
    let one = held_in_field env.scope (field_statement_of env p f) in
    let behind = flat_map (held_in_message env.scope) (messages_behind env f) in
    equal_held env.customs (field_sets env.scope f) (one ++ behind)
    (held_in_statement env index (message_field f))
    (field_parted one (flat_map (held_in_oneof env.scope) (oneofs_of env (message_field f))) behind
    (own_oneof_holds env.scope f (has_own_oneof env f)))
    (statement_of_field_held env p f)

-- a oneof
oneof_held : (env : Environment) (index : ℕ) (o : OneofSyntax)
    → HeldFor env.customs (oneof_sets env.scope o)
    (held_in_statement env index (message_oneof o))
oneof_held env index o =
    let fs = flat_map oneof_fields o.body in
    let own = held_in_oneof env.scope (oneof_of env o) in
    let ones = flat_map (held_in_field env.scope)
    (map (field_statement_of env (at_oneof index)) fs) in
    let behind = flat_map (held_in_message env.scope) (flat_map (messages_behind env) fs) in
    equal_held env.customs (oneof_sets env.scope o) (ones ++ own ++ behind)
    (held_in_statement env index (message_oneof o)) (oneof_parted ones own behind)
    (moved_held env.customs (oneof_sets env.scope o) (own ++ (ones ++ behind))
    (ones ++ own ++ behind) (second_first own ones behind)
    (both_held env.customs
    (a_set of.Oneof (full_name env.scope o.name) env.scope (options_in_oneof o) ∷ [])
    (flat_map (field_sets env.scope) fs) own (ones ++ behind)
    (set_held env.customs (λ (d : OneofOptionValues). d.custom) of.Oneof
    (full_name env.scope o.name) env.scope (options_in_oneof o) _ refl)
    (fields_held env (at_oneof index) fs)))

mutual
  -- a statement of a body
  statement_held : (env : Environment) (index : ℕ) (s : MessageStatementSyntax)
      → HeldFor env.customs (sets_of env.scope s) (held_in_statement env index s)
  statement_held env index (message_message at name body) =
      equal_held env.customs _ _ _ (sym (append-nil _))
      (message_from_held env name (message_body body) (nested_in (env_inside env name) body)
      (sets_in (env_inside env name).scope body) (body_held (env_inside env name) 0 body))
  statement_held env index (message_field f) =
      field_statement_held env index f
  statement_held env index (message_oneof o) =
      oneof_held env index o
  statement_held env index (message_extend e) =
      extensions_held env (extending env e.extendee) e.fields
  statement_held env index (message_enum e) =
      equal_held env.customs _ _ _ (enum_parted (held_in_enum env.scope (enum_of env e)))
      (enum_held env e)
  statement_held env index _ = none_held env.customs

  -- a body
  body_held : (env : Environment) (index : ℕ) (ss : MessageStatementList)
      → HeldFor env.customs (sets_in env.scope ss)
      (held_in_body env index (message_body ss) (nested_in env ss))
  body_held env index no_statements = none_held env.customs
  body_held env index (more_statements s ss) =
      more_held env index s (message_body ss) (nested_in env ss) (sets_of env.scope s)
      (sets_in env.scope ss) (statement_held env index s)
      (body_held env (index + length (oneofs_of env s)) ss)

-- ---- files

-- what the parts of a file hold
abbrev held_in_all : Scope → List MessageDescriptor → List EnumDescriptor
    → List ServiceDescriptor → List FieldDescriptor → List HeldBytes
held_in_all scope ms es vs xs =
    flat_map (held_in_message scope) ms ++ flat_map (held_in_enum scope) es
    ++ flat_map (held_in_service scope) vs ++ flat_map (held_in_field scope) xs

all_sorted : (scope : Scope) (ms ns : List MessageDescriptor) (es ds : List EnumDescriptor)
    (vs ws : List ServiceDescriptor) (xs ys : List FieldDescriptor)
    → IsPermutation (held_in_all scope ms es vs xs ++ held_in_all scope ns ds ws ys)
    (held_in_all scope (ms ++ ns) (es ++ ds) (vs ++ ws) (xs ++ ys))
all_sorted scope ms ns es ds vs ws xs ys =
    rw (
      flat_map-append (held_in_message scope) ms ns,
      flat_map-append (held_in_enum scope) es ds,
      flat_map-append (held_in_service scope) vs ws,
      flat_map-append (held_in_field scope) xs ys,
    )
    (IsPermutation-sym _ _ (four_sorted (flat_map (held_in_message scope) ms)
    (flat_map (held_in_enum scope) es) (flat_map (held_in_service scope) vs)
    (flat_map (held_in_field scope) xs) (flat_map (held_in_message scope) ns)
    (flat_map (held_in_enum scope) ds) (flat_map (held_in_service scope) ws)
    (flat_map (held_in_field scope) ys)))

abbrev held_in_file_statement : Environment → StatementSyntax → List HeldBytes
held_in_file_statement env s =
    held_in_all env.scope (file_messages_of env s) (files.file_enums_of env s) (services_of env s)
    (files.file_extensions_of env s)

file_statement_held : (env : Environment) (s : StatementSyntax)
    → HeldFor env.customs (statement_sets env.scope s) (held_in_file_statement env s)
file_statement_held env (file_message m) =
    let behind = flat_map (held_in_message env.scope) (nested_of env (nested_message m)) in
    equal_held env.customs _ _ _ (first_parted behind) (statement_held env 0 (nested_message m))
file_statement_held env (file_enum e) =
    equal_held env.customs _ _ _ (enum_parted (held_in_enum env.scope (enum_of env e)))
    (enum_held env e)
file_statement_held env (file_extend e) =
    let ones = flat_map (held_in_field env.scope)
    (map (field_statement_of env (extending env e.extendee)) e.fields) in
    let behind = flat_map (held_in_message env.scope)
    (flat_map (messages_behind env) (flat_map groups e.fields)) in
    turned_held env.customs (extend_sets env.scope e) behind ones
    (held_in_file_statement env (file_extend e)) (extend_parted behind ones)
    (extensions_held env (extending env e.extendee) e.fields)
file_statement_held env (file_service s) =
    equal_held env.customs _ _ _ (service_parted (held_in_service env.scope (service_of env s)))
    (service_held env s)
file_statement_held env _ = none_held env.customs

file_statements_held : (env : Environment) (ss : List StatementSyntax)
    → HeldFor env.customs (flat_map (statement_sets env.scope) ss)
    (held_in_all env.scope (flat_map (file_messages_of env) ss)
    (flat_map (files.file_enums_of env) ss)
    (flat_map (services_of env) ss) (flat_map (files.file_extensions_of env) ss))
file_statements_held env [] = none_held env.customs
file_statements_held env (s ∷ ss) =
    moved_held env.customs (flat_map (statement_sets env.scope) (s ∷ ss)) _ _
    (all_sorted env.scope (file_messages_of env s) (flat_map (file_messages_of env) ss)
    (files.file_enums_of env s) (flat_map (files.file_enums_of env) ss) (services_of env s)
    (flat_map (services_of env) ss) (files.file_extensions_of env s)
    (flat_map (files.file_extensions_of env) ss))
    (both_held env.customs (statement_sets env.scope s)
    (flat_map (statement_sets env.scope) ss) _ _ (file_statement_held env s)
    (file_statements_held env ss))

file_held : (seen : List FileSyntax) (customs : Customs) (path : Text) (t : FileSyntax)
    → HeldFor customs (option_sets t)
    (held_in_file (file_of (environment seen customs t) path t))
file_held seen customs path t =
    let env = environment seen customs t in
    let own = held (λ (o : FileOptionValues). o.custom) of.File [] (file_of env path t).options in
    equal_held customs (option_sets t)
    (own ++ held_in_all env.scope (file_of env path t).message_type (file_of env path t).enum_type
    (file_of env path t).service (file_of env path t).extension) _ (file_parted own _ _ _ _)
    (both_held customs (a_set of.File [] env.scope (options_of_statements t.statements) ∷ [])
    (flat_map (statement_sets env.scope) t.statements) own _
    (set_held customs (λ (o : FileOptionValues). o.custom) of.File [] env.scope
    (options_of_statements t.statements) _ refl)
    (file_statements_held env t.statements))

-- ---- the laws

abbrev has_statement : OptionSet → Bool
has_statement s = nat_lt 0 (length s.statements)

-- the test tells that a statement stands there
told_stated : (s : OptionSet) → IsStated s → has_statement s ≡ true
told_stated s is = at s.statements is
  where
    at : (os : List OptionSyntax) → (os ≡ [] → ⊥) → nat_lt 0 (length os) ≡ true
    at [] is = absurd (is refl)
    at (o ∷ os) is = statement_there o os

-- and nothing else
stated_told : (s : OptionSet) → has_statement s ≡ true → IsStated s
stated_told s e none = let h : has_statement s ≡ false = rw none refl in cc

pub sets_stand_once : SetsStandOnce
sets_stand_once seen customs path t =
    let h = file_held seen customs path t in
    (h.behind, h.held_so)

pub options_stand : OptionsStand
options_stand seen customs path t s a is =
    let h = file_held seen customs path t in
    among_moved (IsPermutation-sym _ _ h.held_so)
    (among_left (map held_behind_map h.behind)
    (map_keeps (held_by_set customs) (filter_keeps has_statement a (told_stated s is))))

pub no_others_stand : NoOthersStand
no_others_stand seen customs path t k a =
    let h = file_held seen customs path t in
    elim (among_parts (to_hold customs (option_sets t)) (map held_behind_map h.behind)
    (among_moved h.held_so a)) [
      | inl v ↦
          let f = map_from (held_by_set customs) (stated (option_sets t)) v in
          let g = filter_passes has_statement (option_sets t) f.1 in
          inr (f.0, g.0, stated_told f.0 g.1, f.2)
      | inr v ↦ inl (ap (λ (z : HeldBytes). z.bytes) (map_from held_behind_map h.behind v).2)
    ]
