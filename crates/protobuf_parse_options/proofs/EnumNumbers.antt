-- The values of the enums of a descriptor have the numbers that the tree gives them.
use Rattle.std.proofs.Common.{◌≡◌, ℤ, Bool, true, false, cond, List, [], ◌∷◌, map, flat_map, Option}
use Rattle.std.proofs.Common.{Some, None, option_map, refl, subst, bytes_eq}
use Rattle.std.specs.List.{AllByRecursion, find}
use Rattle.std.specs.Int.{w32}
use Rattle.std.specs.Int.RustNames.{FitsSigned}
use Rattle.protobuf_parse_syntax.specs.Trees as tree
use Rattle.protobuf_parse_syntax.specs.Trees.{TypeSyntax, FieldStatementSyntax, EnumStatementSyntax}
use Rattle.protobuf_parse_syntax.specs.Trees.{EnumValueSyntax, EnumSyntax, MessageStatementSyntax}
use Rattle.protobuf_parse_syntax.specs.Trees.{MessageStatementList, StatementSyntax}
use Rattle.protobuf_parse_syntax.specs.Trees.{FileSyntax}
use Rattle.protobuf_parse_model.specs.Descriptors.{Text, EnumValueDescriptor, EnumDescriptor}
use Rattle.protobuf_parse_model.specs.Descriptors.{MessageDescriptor, MessageDescriptors, a_message}
use Rattle.protobuf_parse_model.specs.Descriptors.{no_messages, messages, messages_of_list}
use Rattle.protobuf_parse_model.specs.Descriptors.{FileDescriptor}
use Rattle.protobuf_parse_model.specs.Faults.{Among}
use Rattle.protobuf_parse_model.specs.Statements.{message_body, oneof_fields, groups}
use Rattle.protobuf_parse_model.specs.Declarations.{Declared}
use Rattle.protobuf_parse_model.specs.Environment.{Environment, env_inside}
use Rattle.protobuf_parse_elaboration.specs.Enums.{enum_values, value_of, enum_of}
use Rattle.protobuf_parse_elaboration.specs.Messages as bodies
use Rattle.protobuf_parse_elaboration.specs.Messages.{entries_of, messages_behind}
use Rattle.protobuf_parse_elaboration.specs.Messages.{nested_of, nested_in}
use Rattle.protobuf_parse_elaboration.specs.FileDescriptor as files
use Rattle.protobuf_parse_elaboration.specs.FileDescriptor.{file_of}
use Rattle.protobuf_parse_elaboration.proofs.Lookups.{found_is}
use Rattle.protobuf_parse_wire.specs.Declarations.{Declaration, name_within, package_scope}
use Rattle.protobuf_parse_wire.specs.Declarations.{declared_message, declared_messages}
use Rattle.protobuf_parse_wire.specs.Declarations.{messages_declared_in}
use Rattle.protobuf_parse_options.specs.OptionFields.{enum_in, declared_enums, values_of_enum}
use Rattle.protobuf_parse_options.specs.OptionLaw.{HasSmallValues}
use Rattle.protobuf_parse_options.proofs.Entered.{from_one, mapped_from}
use Rattle.protobuf_parse_options.proofs.Options.{SplitAmong, left, right, split_among}
use Rattle.protobuf_parse_options.proofs.Sound.{SoundEnumStatement, SoundEnum}
use Rattle.protobuf_parse_options.proofs.Sound.{SoundMessageStatement}
use Rattle.protobuf_parse_options.proofs.Sound.{SoundBody, SoundStatement, SoundFile}
use Rattle.protobuf_parse_options.proofs.SoundSets.{both, flat, mapped, of_one}

-- ---- descriptors

abbrev SmallValue : EnumValueDescriptor → Type 0
SmallValue v = FitsSigned w32 v.number

abbrev SmallEnum : EnumDescriptor → Type 0
SmallEnum e = AllByRecursion SmallValue e.value

abbrev mutual
  -- all enums of a message, and of those inside it
  SmallMessage : MessageDescriptor → Type 0
  SmallMessage (a_message parts ms) = AllByRecursion SmallEnum parts.enum_type × SmallMessages ms

  SmallMessages : MessageDescriptors → Type 0
  SmallMessages no_messages = Unit {0}
  SmallMessages (messages m ms) = SmallMessage m × SmallMessages ms

of_list : (ms : List MessageDescriptor) → AllByRecursion SmallMessage ms
    → SmallMessages (messages_of_list ms)
of_list [] h = tt
of_list (m ∷ ms) h = (h.0, of_list ms h.1)

abbrev SmallDeclaration : Declaration → Type 0
SmallDeclaration d = AllByRecursion SmallEnum d.parts.enum_type

mutual
  declared_small : (scope : Text) (m : MessageDescriptor) → SmallMessage m
      → AllByRecursion SmallDeclaration (declared_message scope m)
  declared_small scope (a_message parts ms) h =
      (h.0, all_small (name_within scope parts.name) ms h.1)

  all_small : (scope : Text) (ms : MessageDescriptors) → SmallMessages ms
      → AllByRecursion SmallDeclaration (declared_messages scope ms)
  all_small scope no_messages h = tt
  all_small scope (messages m ms) h =
      both SmallDeclaration (declared_message scope m) (declared_messages scope ms)
      (declared_small scope m h.0) (all_small scope ms h.1)

-- ---- what statements become

values : (env : Environment) (s : EnumStatementSyntax) → SoundEnumStatement s
    → AllByRecursion (λ (v : EnumValueSyntax). FitsSigned w32 v.number) (enum_values s)
values env (tree.enum_reserved r) h = tt
values env (tree.enum_option o) h = tt
values env (tree.enum_value v) h = (h.small, tt)

enum_small : (env : Environment) (e : EnumSyntax) → SoundEnum e → SmallEnum (enum_of env e)
enum_small env e h = mapped (value_of env) SmallValue (flat_map enum_values e.body)
    (flat enum_values (λ (v : EnumValueSyntax). FitsSigned w32 v.number) SoundEnumStatement
    (values env) e.body h)

entry_small : (env : Environment) (name : Text) (t : TypeSyntax)
    → AllByRecursion SmallMessage (entries_of env name t)
entry_small env name (tree.map_of key value) = ((tt, tt), tt)
entry_small env name (tree.scalar s) = tt
entry_small env name (tree.named n) = tt

behind_small : (env : Environment) (f : FieldStatementSyntax)
    → AllByRecursion SmallMessage (messages_behind env f)
behind_small env (tree.field f) = entry_small env f.name f.type_
behind_small env (tree.group place label name number fields) = ((tt, tt), tt)

behinds_small : (env : Environment) (fs : List FieldStatementSyntax)
    → AllByRecursion SmallMessage (flat_map (messages_behind env) fs)
behinds_small env [] = tt
behinds_small env (f ∷ fs) =
    both SmallMessage (messages_behind env f) (flat_map (messages_behind env) fs)
    (behind_small env f) (behinds_small env fs)

enums_small : (env : Environment) (s : MessageStatementSyntax) → SoundMessageStatement s
    → AllByRecursion SmallEnum (bodies.enums_of env s)
enums_small env (tree.message_enum e) h = (enum_small env e h, tt)
enums_small env _ h = tt

body_enums : (env : Environment) (ss : MessageStatementList) → SoundBody ss
    → AllByRecursion SmallEnum (flat_map (bodies.enums_of env) (message_body ss))
body_enums env tree.no_statements h = tt
body_enums env (tree.more_statements s ss) h =
    both SmallEnum (bodies.enums_of env s) (flat_map (bodies.enums_of env) (message_body ss))
    (enums_small env s h.0) (body_enums env ss h.1)

mutual
  nested_small : (env : Environment) (s : MessageStatementSyntax) → SoundMessageStatement s
      → AllByRecursion SmallMessage (nested_of env s)
  nested_small env (tree.message_message place name body) h = (
    (
      body_enums (env_inside env name) body h,
      of_list (nested_in (env_inside env name) body) (list_small (env_inside env name) body h),
    ),
    tt,
  )
  nested_small env (tree.message_field f) h = behind_small env f
  nested_small env (tree.message_oneof o) h = behinds_small env (flat_map oneof_fields o.body)
  nested_small env (tree.message_extend e) h = behinds_small env (flat_map groups e.fields)
  nested_small env _ h = tt

  list_small : (env : Environment) (ss : MessageStatementList) → SoundBody ss
      → AllByRecursion SmallMessage (nested_in env ss)
  list_small env tree.no_statements h = tt
  list_small env (tree.more_statements s ss) h =
      both SmallMessage (nested_of env s) (nested_in env ss) (nested_small env s h.0)
      (list_small env ss h.1)

messages_small : (env : Environment) (s : StatementSyntax) → SoundStatement s
    → AllByRecursion SmallMessage (files.file_messages_of env s)
messages_small env (tree.file_message m) h = nested_small env (tree.nested_message m) h
messages_small env (tree.file_extend e) h = behinds_small env (flat_map groups e.fields)
messages_small env _ h = tt

file_enums : (env : Environment) (s : StatementSyntax) → SoundStatement s
    → AllByRecursion SmallEnum (files.file_enums_of env s)
file_enums env (tree.file_enum e) h = (enum_small env e h, tt)
file_enums env _ h = tt

-- ---- files

-- the enums of a descriptor
abbrev pub SmallFile : FileDescriptor → Type 0
SmallFile file = AllByRecursion SmallMessage file.message_type
    × AllByRecursion SmallEnum file.enum_type

pub file_small : (env : Environment) (path : Text) (t : FileSyntax) → SoundFile t
    → SmallFile (file_of env path t)
file_small env path t h = (
  flat (files.file_messages_of env) SmallMessage SoundStatement (messages_small env) t.statements h,
  flat (files.file_enums_of env) SmallEnum SoundStatement (file_enums env) t.statements h,
)

declared_enum : (file : FileDescriptor) → SmallFile file → (e : Declared EnumDescriptor)
    → Among (declared_enums file) e → SmallEnum e.what
declared_enum file h e k =
    at (split_among
    (flat_map (λ (d : Declaration). map (enum_in d.name) d.parts.enum_type)
    (messages_declared_in file))
    (map (enum_in (package_scope file.«package»)) file.enum_type) e k)
  where
    all : AllByRecursion SmallDeclaration (messages_declared_in file)
    all = flat (declared_message (package_scope file.«package»)) SmallDeclaration SmallMessage
        (declared_small (package_scope file.«package»)) file.message_type h.0

    of_mapped : (scope : Text) (es : List EnumDescriptor) → AllByRecursion SmallEnum es
        → Among (map (enum_in scope) es) e → SmallEnum e.what
    of_mapped scope es s i =
        let m = mapped_from (enum_in scope) es e i in
        subst (λ (d : Declared EnumDescriptor). SmallEnum d.what) m.is
        (of_one SmallEnum es m.one s m.stands)

    at : SplitAmong
        (flat_map (λ (d : Declaration). map (enum_in d.name) d.parts.enum_type)
        (messages_declared_in file))
        (map (enum_in (package_scope file.«package»)) file.enum_type) e → SmallEnum e.what
    at (left i) =
        let d = from_one (λ (x : Declaration). map (enum_in x.name) x.parts.enum_type)
        (messages_declared_in file) e i in
        of_mapped d.one.name d.one.parts.enum_type
        (of_one SmallDeclaration (messages_declared_in file) d.one all d.stands) d.inside
    at (right i) = of_mapped (package_scope file.«package») file.enum_type h.1 i

-- the numbers of values in files
pub values_small : (files : List FileDescriptor)
    → ((file : FileDescriptor) → Among files file → SmallFile file) → HasSmallValues files
values_small files small enum_name name z e =
    at (find (λ (v : EnumValueDescriptor). bytes_eq v.name name) (values_of_enum files enum_name))
    (λ v k. found_is (λ (v : EnumValueDescriptor). bytes_eq v.name name)
    (values_of_enum files enum_name) v k) e
  where
    in_enum : (v : EnumValueDescriptor) (x : Declared EnumDescriptor) (b : Bool)
        → Among (cond b x.what.value []) v → Among x.what.value v
    in_enum v x true k = k
    in_enum v x false k = elim k [ ]

    value : (v : EnumValueDescriptor) → Among (values_of_enum files enum_name) v → SmallValue v
    value v k =
        let x = from_one
        (λ (x : Declared EnumDescriptor). cond (bytes_eq x.name enum_name) x.what.value [])
        (flat_map declared_enums files) v k in
        let file = from_one declared_enums files x.one x.stands in
        of_one SmallValue x.one.what.value v
        (declared_enum file.one (small file.one file.stands) x.one file.inside)
        (in_enum v x.one (bytes_eq x.one.name enum_name) x.inside)

    at : (o : Option EnumValueDescriptor)
        → ((v : EnumValueDescriptor) → o ≡ Some v
        → Among (values_of_enum files enum_name) v × (bytes_eq v.name name ≡ true))
        → option_map (λ (v : EnumValueDescriptor). v.number) o ≡ Some z → FitsSigned w32 z
    at None found k = absurd cc
    at (Some v) found k = let p : v.number ≡ z = cc in
        subst (λ (n : ℤ). FitsSigned w32 n) p (value v (found v refl).0)
