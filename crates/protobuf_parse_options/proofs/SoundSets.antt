-- In the tree of a text each statement of each set of options is shallow.
use Rattle.std.proofs.Common.{ℕ, ◌≤◌, List, [], ◌∷◌, ◌++◌, map, flat_map, All, arith, max}
use Rattle.std.specs.List.{AllByRecursion}
use Rattle.std.proofs.lemmas.List.Elements.{All-head, All-tail}
use Rattle.protobuf_parse_syntax.specs.Trees as tree
use Rattle.protobuf_parse_syntax.specs.Trees.{ConstantSyntax, ConstantList, ConstantFieldList}
use Rattle.protobuf_parse_syntax.specs.Trees.{OptionSyntax, OptionStatementSyntax}
use Rattle.protobuf_parse_syntax.specs.Trees.{FieldStatementSyntax, FieldStatementList}
use Rattle.protobuf_parse_syntax.specs.Trees.{OneofStatementSyntax, OneofSyntax, ExtendSyntax}
use Rattle.protobuf_parse_syntax.specs.Trees.{EnumValueSyntax, EnumStatementSyntax, EnumSyntax}
use Rattle.protobuf_parse_syntax.specs.Trees.{MessageStatementSyntax, MessageStatementList}
use Rattle.protobuf_parse_syntax.specs.Trees.{MethodSyntax, ServiceStatementSyntax, ServiceSyntax}
use Rattle.protobuf_parse_syntax.specs.Trees.{StatementSyntax, FileSyntax}
use Rattle.protobuf_parse_syntax.specs.Nesting as nesting
use Rattle.protobuf_parse_syntax.specs.Nesting.{ShallowOption, ShallowOptionStatement, ShallowField}
use Rattle.protobuf_parse_syntax.specs.Nesting.{ShallowFields, ShallowOneofStatement, ShallowOneof}
use Rattle.protobuf_parse_syntax.specs.Nesting.{ShallowExtend, ShallowEnumStatement, ShallowEnum}
use Rattle.protobuf_parse_syntax.specs.Nesting.{ShallowMessageStatement, ShallowBody}
use Rattle.protobuf_parse_syntax.specs.Nesting.{ShallowServiceStatement, ShallowService}
use Rattle.protobuf_parse_syntax.specs.Nesting.{ShallowStatement, ShallowFile}
use Rattle.protobuf_parse_model.specs.Faults.{Among, here, there}
use Rattle.protobuf_parse_model.specs.Statements.{group_body, message_body, oneof_fields}
use Rattle.protobuf_parse_model.specs.Statements.{oneof_statement_options}
use Rattle.protobuf_parse_model.specs.Declarations.{Scope, inside, file_scope}
use Rattle.protobuf_parse_elaboration.specs.Enums.{enum_values, options_in_enum}
use Rattle.protobuf_parse_elaboration.specs.Services.{methods_in, statement_option}
use Rattle.protobuf_parse_elaboration.specs.Services.{options_in_service, options_of_method}
use Rattle.protobuf_parse_elaboration.specs.Messages.{options_in_message, options_of_body}
use Rattle.protobuf_parse_elaboration.specs.FileDescriptor.{options_in_file}
use Rattle.protobuf_parse_elaboration.specs.OptionSets.{OptionSet, sets_in_group, field_sets}
use Rattle.protobuf_parse_elaboration.specs.OptionSets.{oneof_sets, extend_sets, value_set}
use Rattle.protobuf_parse_elaboration.specs.OptionSets.{enum_sets, sets_of, sets_in, method_set}
use Rattle.protobuf_parse_elaboration.specs.OptionSets.{service_sets, statement_sets, option_sets}
use Rattle.protobuf_parse_options.specs.OptionDepth.{message_levels, list_levels, field_levels}
use Rattle.protobuf_parse_options.specs.OptionDepth.{OptionIsShallow}
use Rattle.protobuf_parse_options.proofs.Sound.{SoundOption, SoundOptionStatement, SoundField}
use Rattle.protobuf_parse_options.proofs.Sound.{SoundFields, SoundOneofStatement, SoundOneof}
use Rattle.protobuf_parse_options.proofs.Sound.{SoundExtend, SoundEnumStatement, SoundEnum}
use Rattle.protobuf_parse_options.proofs.Sound.{SoundMessageStatement, SoundBody}
use Rattle.protobuf_parse_options.proofs.Sound.{SoundServiceStatement, SoundService, SoundStatement}
use Rattle.protobuf_parse_options.proofs.Sound.{SoundFile}

-- ---- constants

less : (a b c d : ℕ) → a ≤ c → b ≤ d → max a b ≤ max c d
less a b c d h k = omega (arith, h, k)

mutual
  -- here lists count too
  depth_less : (c : ConstantSyntax) → message_levels c ≤ nesting.constant_depth c
  depth_less (tree.integer z) = omega arith
  depth_less (tree.truth b) = omega arith
  depth_less (tree.dotted n) = omega arith
  depth_less (tree.string s) = omega arith
  depth_less (tree.list cs) = let l = list_less cs in omega (arith, l)
  depth_less (tree.fields fs) = let l = fields_less fs in omega (arith, l)

  list_less : (cs : ConstantList) → list_levels cs ≤ nesting.constants_depth cs
  list_less tree.no_constants = omega arith
  list_less (tree.more_constants c cs) =
      less (message_levels c) (list_levels cs) (nesting.constant_depth c)
      (nesting.constants_depth cs) (depth_less c) (list_less cs)

  fields_less : (fs : ConstantFieldList) → field_levels fs ≤ nesting.constant_fields_depth fs
  fields_less tree.no_fields = omega arith
  fields_less (tree.more_fields name c fs) =
      less (message_levels c) (field_levels fs) (nesting.constant_depth c)
      (nesting.constant_fields_depth fs) (depth_less c) (fields_less fs)

-- ---- lists

pub both : {A : Type 0} (P : A → Type 0) (xs ys : List A) → AllByRecursion P xs
    → AllByRecursion P ys → AllByRecursion P (xs ++ ys)
both P [] ys h k = k
both P (x ∷ xs) ys h k = (h.0, both P xs ys h.1 k)

-- what holds of all that each element becomes holds of all that the list becomes
each : {A B : Type 0} (f : A → List B) (Q : B → Type 0) (S N : A → Type 0)
    → ((x : A) → S x → N x → AllByRecursion Q (f x)) → (xs : List A) → All S xs
    → AllByRecursion N xs → AllByRecursion Q (flat_map f xs)
each f Q S N g [] h k = tt
each f Q S N g (x ∷ xs) h k =
    both Q (f x) (flat_map f xs) (g x (All-head S x xs h) k.0)
    (each f Q S N g xs (All-tail S x xs h) k.1)

pub flat : {A B : Type 0} (f : A → List B) (Q : B → Type 0) (P : A → Type 0)
    → ((x : A) → P x → AllByRecursion Q (f x)) → (xs : List A) → AllByRecursion P xs
    → AllByRecursion Q (flat_map f xs)
flat f Q P g [] h = tt
flat f Q P g (x ∷ xs) h = both Q (f x) (flat_map f xs) (g x h.0) (flat f Q P g xs h.1)

pub mapped : {A B : Type 0} (f : A → B) (Q : B → Type 0) (xs : List A)
    → AllByRecursion (λ x. Q (f x)) xs → AllByRecursion Q (map f xs)
mapped f Q [] h = tt
mapped f Q (x ∷ xs) h = (h.0, mapped f Q xs h.1)

pub of_one : {A : Type 0} (P : A → Type 0) (xs : List A) (x : A) → AllByRecursion P xs → Among xs x
    → P x
of_one P [] x h k = elim k [ ]
of_one P (x ∷ xs) _ h here = h.0
of_one P (y ∷ xs) x h (there k) = of_one P xs x h.1 k

-- ---- options

abbrev AreShallow : List OptionSyntax → Type 0
AreShallow os = AllByRecursion OptionIsShallow os

abbrev SetIsShallow : OptionSet → Type 0
SetIsShallow s = AreShallow s.statements

abbrev AllShallow : List OptionSet → Type 0
AllShallow sets = AllByRecursion SetIsShallow sets

option : (o : OptionSyntax) → ShallowOption o → SoundOption o → OptionIsShallow o
option o h k = let l = depth_less o.value in record { name = k; value = omega (arith, l, h) }

options : (os : List OptionSyntax) → All ShallowOption os → AllByRecursion SoundOption os
    → AreShallow os
options [] h k = tt
options (o ∷ os) h k = (
  option o (All-head ShallowOption o os h) k.0,
  options os (All-tail ShallowOption o os h) k.1,
)

-- ---- fields

abbrev FieldIs : FieldStatementSyntax → Type 0
FieldIs f = ShallowField f × SoundField f

group_field : (scope within : Scope) (f : FieldStatementSyntax) → ShallowField f → SoundField f
    → AllShallow (sets_in_group scope within f)
group_field scope within (tree.field f) h k = (options f.options h k, tt)
group_field scope within (tree.group place label name number fields) h k = tt

group_fields : (scope within : Scope) (fs : FieldStatementList) → ShallowFields fs
    → SoundFields fs → AllShallow (flat_map (sets_in_group scope within) (group_body fs))
group_fields scope within tree.no_field_statements h k = tt
group_fields scope within (tree.more_field_statements f fs) h k =
    both SetIsShallow (sets_in_group scope within f)
    (flat_map (sets_in_group scope within) (group_body fs))
    (group_field scope within f h.0 k.0) (group_fields scope within fs h.1 k.1)

field : (scope : Scope) (f : FieldStatementSyntax) → ShallowField f → SoundField f
    → AllShallow (field_sets scope f)
field scope (tree.field f) h k = (options f.options h k, tt)
field scope (tree.group place label name number fields) h k =
    group_fields scope (inside scope name) fields h k

-- ---- oneofs, extends and enums

oneof_option : (s : OneofStatementSyntax) → ShallowOneofStatement s → SoundOneofStatement s
    → AreShallow (oneof_statement_options s)
oneof_option (tree.oneof_option o) h k = (option o.option h k, tt)
oneof_option (tree.oneof_field f) h k = tt

oneof_field : (s : OneofStatementSyntax) → ShallowOneofStatement s → SoundOneofStatement s
    → AllByRecursion FieldIs (oneof_fields s)
oneof_field (tree.oneof_option o) h k = tt
oneof_field (tree.oneof_field f) h k = ((h, k), tt)

oneof : (scope : Scope) (o : OneofSyntax) → ShallowOneof o → SoundOneof o
    → AllShallow (oneof_sets scope o)
oneof scope o h k = (
  each oneof_statement_options OptionIsShallow ShallowOneofStatement SoundOneofStatement
      oneof_option o.body h k,
  flat (field_sets scope) SetIsShallow FieldIs (λ f w. field scope f w.0 w.1)
      (flat_map oneof_fields o.body)
      (each oneof_fields FieldIs ShallowOneofStatement SoundOneofStatement oneof_field o.body h k),
)

extend : (scope : Scope) (e : ExtendSyntax) → ShallowExtend e → SoundExtend e
    → AllShallow (extend_sets scope e)
extend scope e h k = each (field_sets scope) SetIsShallow ShallowField SoundField
    (field scope) e.fields h k

enum_option : (s : EnumStatementSyntax) → ShallowEnumStatement s → SoundEnumStatement s
    → AreShallow (options_in_enum s)
enum_option (tree.enum_reserved r) h k = tt
enum_option (tree.enum_option o) h k = (option o.option h k, tt)
enum_option (tree.enum_value v) h k = tt

enum_value : (s : EnumStatementSyntax) → ShallowEnumStatement s → SoundEnumStatement s
    → AllByRecursion (λ (v : EnumValueSyntax). AreShallow v.options) (enum_values s)
enum_value (tree.enum_reserved r) h k = tt
enum_value (tree.enum_option o) h k = tt
enum_value (tree.enum_value v) h k = (options v.options h k.short, tt)

enum : (scope : Scope) (e : EnumSyntax) → ShallowEnum e → SoundEnum e
    → AllShallow (enum_sets scope e)
enum scope e h k = (
  each options_in_enum OptionIsShallow ShallowEnumStatement SoundEnumStatement enum_option e.body h
      k,
  mapped (value_set scope (inside scope e.name)) SetIsShallow (flat_map enum_values e.body)
      (each enum_values (λ (v : EnumValueSyntax). AreShallow v.options) ShallowEnumStatement
      SoundEnumStatement enum_value e.body h k),
)

-- ---- messages

message_option : (s : MessageStatementSyntax) → ShallowMessageStatement s → SoundMessageStatement s
    → AreShallow (options_in_message s)
message_option (tree.message_option o) h k = (option o.option h k, tt)
message_option _ h k = tt

body_options : (ss : MessageStatementList) → ShallowBody ss → SoundBody ss
    → AreShallow (options_of_body (message_body ss))
body_options tree.no_statements h k = tt
body_options (tree.more_statements s ss) h k =
    both OptionIsShallow (options_in_message s) (options_of_body (message_body ss))
    (message_option s h.0 k.0) (body_options ss h.1 k.1)

mutual
  message_statement : (scope : Scope) (s : MessageStatementSyntax) → ShallowMessageStatement s
      → SoundMessageStatement s → AllShallow (sets_of scope s)
  message_statement scope (tree.message_message place name body) h k =
      (body_options body h k, statements_in (inside scope name) body h k)
  message_statement scope (tree.message_field f) h k = field scope f h k
  message_statement scope (tree.message_oneof o) h k = oneof scope o h k
  message_statement scope (tree.message_extend e) h k = extend scope e h k
  message_statement scope (tree.message_enum e) h k = enum scope e h k
  message_statement scope _ h k = tt

  statements_in : (scope : Scope) (ss : MessageStatementList) → ShallowBody ss → SoundBody ss
      → AllShallow (sets_in scope ss)
  statements_in scope tree.no_statements h k = tt
  statements_in scope (tree.more_statements s ss) h k =
      both SetIsShallow (sets_of scope s) (sets_in scope ss) (message_statement scope s h.0 k.0)
      (statements_in scope ss h.1 k.1)

body_shallow : (ss : List MessageStatementSyntax) → All ShallowMessageStatement ss
    → ShallowBody (tree.message_statements ss)
body_shallow [] h = tt
body_shallow (s ∷ ss) h = (
  All-head ShallowMessageStatement s ss h,
  body_shallow ss (All-tail ShallowMessageStatement s ss h),
)

-- ---- services

method_options : (os : List OptionStatementSyntax) → All ShallowOptionStatement os
    → AllByRecursion SoundOptionStatement os → AreShallow (map statement_option os)
method_options [] h k = tt
method_options (o ∷ os) h k = (
  option o.option (All-head ShallowOptionStatement o os h) k.0,
  method_options os (All-tail ShallowOptionStatement o os h) k.1,
)

service_option : (s : ServiceStatementSyntax) → ShallowServiceStatement s → SoundServiceStatement s
    → AreShallow (options_in_service s)
service_option (tree.service_method m) h k = tt
service_option (tree.service_option o) h k = (option o.option h k, tt)

method : (s : ServiceStatementSyntax) → ShallowServiceStatement s → SoundServiceStatement s
    → AllByRecursion (λ (m : MethodSyntax). AreShallow (options_of_method m)) (methods_in s)
method (tree.service_method m) h k = (method_options m.options h k, tt)
method (tree.service_option o) h k = tt

service : (scope : Scope) (s : ServiceSyntax) → ShallowService s → SoundService s
    → AllShallow (service_sets scope s)
service scope s h k = (
  each options_in_service OptionIsShallow ShallowServiceStatement SoundServiceStatement
      service_option
      s.body h k,
  mapped (method_set scope (inside scope s.name)) SetIsShallow (flat_map methods_in s.body)
      (each methods_in (λ (m : MethodSyntax). AreShallow (options_of_method m))
      ShallowServiceStatement SoundServiceStatement method s.body h k),
)

-- ---- files

file_option : (s : StatementSyntax) → ShallowStatement s → SoundStatement s
    → AreShallow (options_in_file s)
file_option (tree.file_option o) h k = (option o.option h k, tt)
file_option _ h k = tt

statement : (scope : Scope) (s : StatementSyntax) → ShallowStatement s → SoundStatement s
    → AllShallow (statement_sets scope s)
statement scope (tree.file_message m) h k =
    message_statement scope (tree.nested_message m) (body_shallow m.body h) k
statement scope (tree.file_enum e) h k = enum scope e h k
statement scope (tree.file_extend e) h k = extend scope e h k
statement scope (tree.file_service s) h k = service scope s h k
statement scope _ h k = tt

sets : (t : FileSyntax) → ShallowFile t → SoundFile t → AllShallow (option_sets t)
sets t h k = (
  each options_in_file OptionIsShallow ShallowStatement SoundStatement file_option t.statements
      h.constants k,
  each (statement_sets (file_scope t)) SetIsShallow ShallowStatement SoundStatement
      (statement (file_scope t)) t.statements h.constants k,
)

pub set_shallow : (t : FileSyntax) → ShallowFile t → SoundFile t → (s : OptionSet)
    → Among (option_sets t) s → (o : OptionSyntax) → Among s.statements o → OptionIsShallow o
set_shallow t h k s i o j =
    of_one OptionIsShallow s.statements o (of_one SetIsShallow (option_sets t) s (sets t h k) i) j
