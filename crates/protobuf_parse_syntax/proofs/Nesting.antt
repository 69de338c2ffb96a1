-- In a file whose tokens nest at most 100 deep so do the parts of its tree.
use Rattle.std.proofs.Common.{◌≡◌, ℕ, zero, suc, ◌+◌, ◌≤◌, Bool, true, false, List, [], ◌∷◌, ◌++◌}
use Rattle.std.proofs.Common.{Option, Some, None, refl, ap, arith, All, cond, append-nil, ℤ}
use Rattle.std.proofs.Common.{slice_index, codes}
use Rattle.std.proofs.lemmas.List.Elements.{All-nil, All-tail, All-head}
use Rattle.protobuf_parse_grammar.specs.Relations.{Level, One}
use Rattle.protobuf_parse_lexer.specs.Tokens.{Lexeme}
use Rattle.protobuf_parse_lexer.specs.declared.lexer.token.Place.{Place}
use Rattle.protobuf_parse_lexer.specs.Text.{Bytes}
use Rattle.protobuf_parse_lexer.specs.Classes.{is_one_of, words}
use Rattle.protobuf_parse_syntax.specs.declared.tree.Syntax.{Syntax}
use Rattle.protobuf_parse_syntax.specs.declared.tree.Syntax.TheVariants.{Proto2, Proto3}
use Rattle.protobuf_parse_syntax.specs.declared.tree.field.Label.{Label}
use Rattle.protobuf_parse_syntax.specs.Grammar.{table_words, statement_words, IsWord, IsWordOf}
use Rattle.protobuf_parse_syntax.specs.Grammar.{IsNumber, IsNumberUpTo, IsComma, IsStr, IsIdent}
use Rattle.protobuf_parse_syntax.specs.Grammar.{IsDotted, IsRoot, IsName, IsInteger, AfterSlash}
use Rattle.protobuf_parse_syntax.specs.Grammar.{IsBracketedName, IsConstantName, IsFieldEnd}
use Rattle.protobuf_parse_syntax.specs.Grammar.{ConstantFieldOf, MessageConstantOf, ListOf}
use Rattle.protobuf_parse_syntax.specs.Grammar.{IsWordConstant, ConstantOf, IsConstant}
use Rattle.protobuf_parse_syntax.specs.Grammar.{IsOptionPart, IsNextPart, IsOptionName}
use Rattle.protobuf_parse_syntax.specs.Grammar.{IsAssignment, IsOption, AreOptions, scalars, MapOf}
use Rattle.protobuf_parse_syntax.specs.Grammar.{TypeOf, IsType, labels, labels3, IsFieldNumber}
use Rattle.protobuf_parse_syntax.specs.Grammar.{is_capital, capital_ident, NormalFieldOf, GroupOf}
use Rattle.protobuf_parse_syntax.specs.Grammar.{IsGroupName}
use Rattle.protobuf_parse_syntax.specs.Grammar.{AfterLabel, FieldOf, IsField, IsOneofField}
use Rattle.protobuf_parse_syntax.specs.Grammar.{IsOneofStatement, IsOneof, IsExtend, IsRangeEnd}
use Rattle.protobuf_parse_syntax.specs.Grammar.{IsRange, IsReservedName, AreReserved, IsReserved}
use Rattle.protobuf_parse_syntax.specs.Grammar.{IsExtensions, IsEnumNumber, IsEnumValue}
use Rattle.protobuf_parse_syntax.specs.Grammar.{IsEnumStatement, IsEnum, IsExtensionsIn}
use Rattle.protobuf_parse_syntax.specs.Grammar.{MessageStatementOf, MessageOf, IsMessage}
use Rattle.protobuf_parse_syntax.specs.Grammar.{IsMethodEnd, IsStreamed, IsRpc, IsStream}
use Rattle.protobuf_parse_syntax.specs.Grammar.{IsStreamIn, IsServiceStatement, IsService}
use Rattle.protobuf_parse_syntax.specs.Grammar.{IsVersion, IsSyntax, IsVisibility, IsPath, IsImport}
use Rattle.protobuf_parse_syntax.specs.Grammar.{IsPackage, IsFileStatement, IsFileOf}
use Rattle.protobuf_parse_syntax.specs.Trees as tree
use Rattle.protobuf_parse_syntax.specs.Trees.{ConstantSyntax, ConstantFieldSyntax, TypeSyntax}
use Rattle.protobuf_parse_syntax.specs.Trees.{FieldStatementSyntax, MessageStatementSyntax}
use Rattle.protobuf_parse_syntax.specs.Trees.{MessageSyntax, FileSyntax, file_syntax}
use Rattle.protobuf_parse_syntax.specs.Parsing.{HasTree}
use Rattle.std.specs.Prelude.{max}
use Rattle.protobuf_parse_syntax.specs.Trees.{StatementSyntax}
use Rattle.protobuf_parse_syntax.specs.Nesting.{constant_depth, constants_depth}
use Rattle.protobuf_parse_syntax.specs.Nesting.{constant_fields_depth, deepest, field_depth}
use Rattle.protobuf_parse_syntax.specs.Nesting.{fields_depth, oneof_statement_depth, oneof_depth}
use Rattle.protobuf_parse_syntax.specs.Nesting.{extend_depth, message_statement_depth, body_depth}
use Rattle.protobuf_parse_syntax.specs.Nesting.{message_depth, statement_depth, ShallowOption}
use Rattle.protobuf_parse_syntax.specs.Nesting.{ShallowOptionStatement, ShallowField, ShallowFields}
use Rattle.protobuf_parse_syntax.specs.Nesting.{ShallowOneofStatement, ShallowOneof, ShallowExtend}
use Rattle.protobuf_parse_syntax.specs.Nesting.{ShallowEnumStatement, ShallowEnum}
use Rattle.protobuf_parse_syntax.specs.Nesting.{ShallowMessageStatement, ShallowBody}
use Rattle.protobuf_parse_syntax.specs.Nesting.{ShallowMessage, ShallowMethod}
use Rattle.protobuf_parse_syntax.specs.Nesting.{ShallowServiceStatement, ShallowService}
use Rattle.protobuf_parse_syntax.specs.Nesting.{ShallowStatement, ShallowFile, TreesAreShallow}
use Rattle.protobuf_parse_syntax.proofs.Balance.{fits-start, Keeps, Any, ◌>>=◌, ◌>>◌, nothing, done}
use Rattle.protobuf_parse_syntax.proofs.Balance.{such, never, weaker, either, many, unless}
use Rattle.protobuf_parse_syntax.proofs.Balance.{at_place, one, symbol, opening, closing, low}
use Rattle.protobuf_parse_syntax.proofs.Balance.{separated, one_or_more, at_most, statements}
use Rattle.protobuf_parse_syntax.proofs.Balance.{braced}

-- ---- lists of parts

-- What stands where n brackets are open has the property, and is at most 100 deep with them.
abbrev Both : {A : Type 0} → (A → Type 0) → (A → ℕ) → ℕ → A → Type 0
Both P depth n a = P a × (depth a + n ≤ 100)

abbrev FieldIn : ℕ → FieldStatementSyntax → Type 0
FieldIn n = Both ShallowField field_depth n

abbrev MessageIn : ℕ → MessageSyntax → Type 0
MessageIn n = Both ShallowMessage message_depth n

abbrev StatementIn : ℕ → MessageStatementSyntax → Type 0
StatementIn n = Both ShallowMessageStatement message_statement_depth n

all_have : {A : Type 0} (P : A → Type 0) (depth : A → ℕ) (n : ℕ) (xs : List A) →
    All (Both P depth n) xs → All P xs
all_have P depth n xs h = λ k d less. (h k d less).0

all_deep : {A : Type 0} (P : A → Type 0) (depth : A → ℕ) (n : ℕ) (xs : List A) → n ≤ 100 →
    All (Both P depth n) xs → deepest depth xs + n ≤ 100
all_deep P depth n [] l h = omega (arith, l)
all_deep P depth n (x ∷ xs) l h =
    let first = (All-head (Both P depth n) x xs h).1 in
    let others = all_deep P depth n xs l (All-tail (Both P depth n) x xs h) in
    omega (arith, first, others)

-- between brackets
inside : {A : Type 0} (P : A → Type 0) (depth : A → ℕ) (n : ℕ) (xs : List A) → suc n ≤ 100 →
    All (Both P depth (suc n)) xs → All P xs × (deepest depth xs + n ≤ 100)
inside P depth n xs l h =
    let deep = all_deep P depth (suc n) xs l h in (
      all_have P depth (suc n) xs h,
      omega (arith, deep),
    )

below : {A : Type 0} (P : A → Type 0) (depth : A → ℕ) (n : ℕ) (xs : List A) → suc n ≤ 100 →
    All (Both P depth (suc n)) xs → All P xs × (suc (deepest depth xs) + n ≤ 100)
below P depth n xs l h =
    let deep = all_deep P depth (suc n) xs l h in (
      all_have P depth (suc n) xs h,
      omega (arith, deep),
    )

fields_in : (n : ℕ) (fs : List FieldStatementSyntax) → n ≤ 100 → All (FieldIn n) fs →
    ShallowFields (tree.field_statements fs) × (fields_depth (tree.field_statements fs) + n ≤ 100)
fields_in n [] l h = (tt, omega (arith, l))
fields_in n (f ∷ fs) l h =
    let first = All-head (FieldIn n) f fs h in
    let others = fields_in n fs l (All-tail (FieldIn n) f fs h) in
    let here = first.1 in
    let there = others.1 in
    ((first.0, others.0), omega (arith, here, there))

body_shallow : (ss : List MessageStatementSyntax) → All ShallowMessageStatement ss →
    ShallowBody (tree.message_statements ss)
body_shallow [] h = tt
body_shallow (s ∷ ss) h = (
  All-head ShallowMessageStatement s ss h,
  body_shallow ss (All-tail ShallowMessageStatement s ss h),
)

pub body_deepest : (ss : List MessageStatementSyntax) → body_depth (tree.message_statements ss) ≡
    deepest message_statement_depth ss
body_deepest [] = refl
body_deepest (s ∷ ss) = ap (max (message_statement_depth s)) (body_deepest ss)

nested_in : (n : ℕ) (m : MessageSyntax) → MessageIn n m → StatementIn n (tree.nested_message m)
nested_in n m h =
    let deep = h.1 in (body_shallow m.body h.0, omega (arith, deep, body_deepest m.body))

shallow_file : (s : Syntax) (ss : List StatementSyntax) →
    All (Both ShallowStatement statement_depth 0) ss →
    ShallowFile (record { syntax = s; statements = ss })
shallow_file s ss h =
    let deep = all_deep ShallowStatement statement_depth 0 ss (omega arith) h in
    record {
      constants = all_have ShallowStatement statement_depth 0 ss h;
      depth = omega (arith, deep);
    }

-- ---- names

pub ident : {n : ℕ} → Keeps n n IsIdent Any
ident = one (λ c text place. refl)

pub word : {n : ℕ} {w : Bytes} → Keeps n n (IsWord w) Any
word = one (λ c text place. refl)

pub word_of_table : {A : Type 0} {n : ℕ} (table : List (Bytes × A)) → Keeps n n (IsWordOf table) Any
word_of_table table = one (λ c text place. refl)

pub number : {n : ℕ} → Keeps n n IsNumber Any
number = one (λ c text place. refl)

pub small_number : {n : ℕ} (limit : ℕ) → Keeps n n (IsNumberUpTo limit) Any
small_number limit = one (λ c text place. refl)

pub comma : {n : ℕ} → Keeps n n IsComma (λ a. n ≤ 100)
comma = symbol 44 refl

pub str : {n : ℕ} → Keeps n n IsStr (All Any)
unfolding IsStr
str = one_or_more (one (λ c text place. refl))

pub dotted : {n : ℕ} → Keeps n n IsDotted Any
unfolding IsDotted
dotted = do first ← ident; others ← many (do symbol 46 refl; ident); done

pub root : {n : ℕ} → Keeps n n IsRoot Any
unfolding IsRoot
root = either (do symbol 46 refl; done) (done)

pub name : {n : ℕ} → Keeps n n IsName Any
unfolding IsName
name = do root ← root; rest ← dotted; done

-- ---- constants

-- where n brackets are open, the constant's are at most 100 with them
abbrev Within : ℕ → ConstantSyntax → Type 0
Within n c = constant_depth c + n ≤ 100

pub integer : {n : ℕ} → Keeps n n IsInteger Any
unfolding IsInteger
integer =
    either
    (do i ← number; done)
    (either
    (do symbol 43 refl; i ← number; done)
    (do symbol 45 refl; i ← small_number 9223372036854775808; done))

pub after_slash : {n : ℕ} (w : Bytes) → Keeps n n (AfterSlash w) Any
unfolding AfterSlash
after_slash w = either (do symbol 47 refl; rest ← name; done) (done)

pub bracketed_name : {n : ℕ} → Keeps n n IsBracketedName Any
unfolding IsBracketedName
bracketed_name =
    do opening 91 refl refl; first ← name; name ← after_slash first.0; closing 93 refl refl; done

pub constant_name : {n : ℕ} → Keeps n n IsConstantName Any
unfolding IsConstantName
constant_name = either (do name ← ident; done) bracketed_name

pub field_end : {n : ℕ} → Keeps n n IsFieldEnd Any
unfolding IsFieldEnd
field_end =
    either
    (weaker (λ a h. tt) (symbol 44 refl))
    (either (weaker (λ a h. tt) (symbol 59 refl)) (done))

pub constant_field : {n : ℕ} {C : List Lexeme → ConstantSyntax → Type 0} → Keeps n n C (Within n) →
    Keeps n n (ConstantFieldOf C) (λ f. Within n f.value)
unfolding ConstantFieldOf
constant_field c = do
  name ← constant_name
  value ← either (do symbol 58 refl; c) (unless c)
  field_end
  nothing value.1

pub fields_within : (n : ℕ) (fs : List ConstantFieldSyntax) → n ≤ 100 →
    All (λ f. Within n f.value) fs → constant_fields_depth (tree.constant_fields fs) + n ≤ 100
fields_within n [] l h = omega (arith, l)
fields_within n (f ∷ fs) l h =
    let first = All-head (λ (f : ConstantFieldSyntax). Within n f.value) f fs h in
    let others =
    fields_within n fs l (All-tail (λ (f : ConstantFieldSyntax). Within n f.value) f fs h) in
    omega (arith, first, others)

pub constants_within : (n : ℕ) (cs : List ConstantSyntax) → n ≤ 100 → All (Within n) cs →
    constants_depth (tree.constants cs) + n ≤ 100
constants_within n [] l h = omega (arith, l)
constants_within n (c ∷ cs) l h =
    let first = All-head (Within n) c cs h in
    let others = constants_within n cs l (All-tail (Within n) c cs h) in
    omega (arith, first, others)

pub message_constant : {n : ℕ} {C : List Lexeme → ConstantSyntax → Type 0} →
    Keeps (suc n) (suc n) C (Within (suc n)) → Keeps n n (MessageConstantOf C) (Within n)
unfolding MessageConstantOf
message_constant {n = n} c = do
  inside ← opening 123 refl refl
  fields ← many (constant_field c)
  closing 125 refl refl
  nothing (let each = fields_within (suc n) fields.0 inside.1 fields.1 in omega (arith, each))

pub list_constant : {n : ℕ} {C : List Lexeme → ConstantSyntax → Type 0} →
    Keeps (suc n) (suc n) C (Within (suc n)) → Keeps n n (ListOf C) (Within n)
unfolding ListOf
list_constant {n = n} c = do
  inside ← opening 91 refl refl
  items ← either (separated comma c) (nothing (All-nil (Within (suc n))))
  closing 93 refl refl
  nothing (let each = constants_within (suc n) items.0 inside.1 items.1 in omega (arith, each))

pub word_constant : {n : ℕ} → Keeps n n IsWordConstant (Within n)
unfolding IsWordConstant
word_constant =
    low (λ l. either (do word; nothing (omega (arith, l)))
    (either (do word; nothing (omega (arith, l)))
    (do name ← unless dotted; nothing (omega (arith, l)))))

pub constant_of : {n : ℕ} {C : List Lexeme → ConstantSyntax → Type 0} →
    Keeps (suc n) (suc n) C (Within (suc n)) → Keeps n n (ConstantOf C) (Within n)
unfolding ConstantOf
constant_of c =
    low (λ l. either (message_constant c)
    (either (list_constant c)
    (either word_constant
    (either (do i ← integer; nothing (omega (arith, l)))
    (do s ← str; nothing (omega (arith, l)))))))

pub constant : (d : ℕ) {n : ℕ} → Keeps n n (IsConstant d) (Within n)
unfolding Level
constant zero = never
constant (suc d) = constant_of (constant d)

-- ---- options

pub option_part : {n : ℕ} → Keeps n n IsOptionPart Any
unfolding IsOptionPart
option_part = either (do name ← ident; done) (do symbol 40 refl; name ← name; symbol 41 refl; done)

pub option_name : {n : ℕ} → Keeps n n IsOptionName Any
unfolding IsOptionName IsNextPart
option_name = do first ← option_part; others ← at_most (do symbol 46 refl; option_part); done

pub assignment : {n : ℕ} (d : ℕ) → Keeps n n (IsAssignment d) ShallowOption
unfolding IsAssignment
assignment {n = n} d = at_place (λ t. do
  name ← option_name
  symbol 61 refl
  value ← constant d
  nothing (let v = value.1 in omega (arith, v)))

pub option : {n : ℕ} (d : ℕ) → Keeps n n (IsOption d) ShallowOptionStatement
unfolding IsOption
option d = at_place (λ t. do word; option ← assignment d; symbol 59 refl; nothing option.1)

pub options : {n : ℕ} (d : ℕ) → Keeps n n (AreOptions d) (All ShallowOption)
unfolding AreOptions
options d =
    either
    (do
      opening 91 refl refl
      options ← separated comma (assignment d)
      closing 93 refl refl
      nothing options.1)
    (nothing (All-nil ShallowOption))

-- ---- types

pub map_of : {n : ℕ} {T : List Lexeme → TypeSyntax → Type 0} → Keeps (suc n) (suc n) T Any →
    Keeps n n (MapOf T) Any
unfolding MapOf
map_of t = do word; opening 60 refl refl; key ← t; comma; value ← t; closing 62 refl refl; done

pub type_ : (d : ℕ) {n : ℕ} → Keeps n n (IsType d) Any
unfolding Level TypeOf
type_ zero = never
type_ (suc d) =
    either
    (do s ← word_of_table scalars; done)
    (either (map_of (type_ d)) (do name ← unless name; done))

-- ---- fields

pub field_number : {n : ℕ} → Keeps n n IsFieldNumber Any
unfolding IsFieldNumber
field_number = do i ← small_number 2147483647; done

pub capital_none : (b : Bool) → cond b (let none : Option Bytes = None in none) None ≡ None
capital_none true = refl
capital_none false = refl

pub capital : {n : ℕ} → Keeps n n (One capital_ident) Any
capital = one (λ c text place. capital_none (is_capital (slice_index text 0)))

pub group_name : {n : ℕ} → Keeps n n IsGroupName Any
group_name = do word; capital

pub normal_field : {n : ℕ} (d : ℕ) {T : List Lexeme → TypeSyntax →
    Type 0} (place : Place) (label : Option Label) → Keeps n n T Any →
    Keeps n n (NormalFieldOf d T place label) (FieldIn n)
unfolding NormalFieldOf
normal_field d place label t = do
  type_ ← t
  name ← ident
  symbol 61 refl
  number ← field_number
  options ← options d
  last ← symbol 59 refl
  nothing (options.1, let few = last.1 in omega (arith, few))

pub group_of : {n : ℕ} {F : List Lexeme → FieldStatementSyntax →
    Type 0} (place : Place) (label : Option Label) → Keeps (suc n) (suc n) F (FieldIn (suc n)) →
    Keeps n n (GroupOf F place label) (FieldIn n)
unfolding GroupOf
group_of {n = n} place label f = do
  name ← group_name
  symbol 61 refl
  number ← field_number
  fields ← braced f
  nothing (let each = fields_in (suc n) fields.0 fields.1.0 fields.1.1 in
      let deep = each.1 in
      (each.0, omega (arith, deep)))

pub after_label : {n : ℕ} (d : ℕ) {F : List Lexeme → FieldStatementSyntax →
    Type 0} (place : Place) (label : Option Label) → Keeps (suc n) (suc n) F (FieldIn (suc n)) →
    Keeps n n (AfterLabel d F place label) (FieldIn n)
unfolding AfterLabel
after_label d place label f =
    either (group_of place label f) (normal_field d place label (unless (type_ d)))

pub field_of : {n : ℕ} (syntax : Syntax) (d : ℕ) {F : List Lexeme → FieldStatementSyntax → Type 0} →
    Keeps (suc n) (suc n) F (FieldIn (suc n)) → Keeps n n (FieldOf syntax d F) (FieldIn n)
unfolding FieldOf
field_of Proto2 d f =
    at_place (λ t. either
    (do l ← word_of_table labels; after_label (suc d) t.place (Some l.0) f)
    (normal_field (suc d) t.place None (map_of (type_ d))))
field_of Proto3 d f =
    at_place (λ t. either
    (do l ← word_of_table labels3; after_label (suc d) t.place (Some l.0) f)
    (unless {test = is_one_of (words (table_words labels ++ statement_words))}
    (after_label (suc d) t.place None f)))

pub field : (syntax : Syntax) (d : ℕ) {n : ℕ} → Keeps n n (IsField syntax d) (FieldIn n)
unfolding Level
field syntax zero = never
field syntax (suc d) = field_of syntax d (field syntax d)

-- ---- oneofs and extends

pub oneof_field : {n : ℕ} (syntax : Syntax) (d : ℕ) → Keeps n n (IsOneofField syntax d) (FieldIn n)
unfolding IsOneofField
oneof_field syntax d =
    at_place (λ t.
    unless {test = is_one_of (words (codes "map" ∷ table_words labels ++ statement_words))}
    (after_label d t.place None (field syntax d)))

pub oneof_statement : {n : ℕ} (syntax : Syntax) (d : ℕ) →
    Keeps n n (IsOneofStatement syntax d) (Both ShallowOneofStatement oneof_statement_depth n)
unfolding IsOneofStatement
oneof_statement syntax d =
    low (λ l. either
    (do o ← option d; nothing (o.1, omega (arith, l)))
    (do f ← oneof_field syntax d; nothing f.1))

pub oneof : {n : ℕ} (syntax : Syntax) (d : ℕ) →
    Keeps n n (IsOneof syntax d) (Both ShallowOneof oneof_depth n)
unfolding IsOneof
oneof {n = n} syntax d =
    at_place (λ t. do
      word
      name ← ident
      body ← braced (oneof_statement syntax d)
      nothing (inside ShallowOneofStatement oneof_statement_depth n body.0 body.1.0 body.1.1))

pub extend : {n : ℕ} (syntax : Syntax) (d : ℕ) →
    Keeps n n (IsExtend syntax d) (Both ShallowExtend extend_depth n)
unfolding IsExtend
extend {n = n} syntax d =
    at_place (λ t. do
      word
      extendee ← name
      fields ← braced (field syntax d)
      nothing (inside ShallowField field_depth n fields.0 fields.1.0 fields.1.1))

-- ---- ranges and reserved

pub range_end : {n : ℕ} (from : ℤ) → Keeps n n (IsRangeEnd from) Any
unfolding IsRangeEnd
range_end from = either (do word; either field_number (do word; done)) (done)

pub range : {n : ℕ} → Keeps n n IsRange Any
unfolding IsRange
range = do from ← field_number; to ← range_end from.0; done

pub reserved_name : {n : ℕ} → Keeps n n IsReservedName Any
unfolding IsReservedName
reserved_name = do pieces ← str; text ← such; done

pub are_reserved : {n : ℕ} → Keeps n n AreReserved Any
unfolding AreReserved
are_reserved =
    either
    (do names ← separated comma reserved_name; done)
    (do ranges ← separated comma range; done)

pub reserved : {n : ℕ} → Keeps n n IsReserved Any
unfolding IsReserved
reserved = at_place (λ t. do word; reserved ← are_reserved; symbol 59 refl; done)

pub extensions : {n : ℕ} → Keeps n n IsExtensions Any
unfolding IsExtensions
extensions = at_place (λ t. do word; ranges ← separated comma range; done)

-- ---- enums

pub enum_number : {n : ℕ} → Keeps n n IsEnumNumber Any
unfolding IsEnumNumber
enum_number = either field_number (do symbol 45 refl; i ← small_number 2147483648; done)

pub enum_value : {n : ℕ} (d : ℕ) → Keeps n n (IsEnumValue d) (λ v. All ShallowOption v.options)
unfolding IsEnumValue
enum_value d =
    at_place (λ t. do
      name ← unless ident
      symbol 61 refl
      number ← enum_number
      options ← options d
      nothing options.1)

pub enum_statement : {n : ℕ} (d : ℕ) → Keeps n n (IsEnumStatement d) ShallowEnumStatement
unfolding IsEnumStatement
enum_statement d =
    either
    (do r ← reserved; nothing tt)
    (either (do o ← option d; nothing o.1) (do v ← enum_value d; nothing v.1))

pub enum : {n : ℕ} (d : ℕ) → Keeps n n (IsEnum d) ShallowEnum
unfolding IsEnum
enum d = at_place (λ t. do word; name ← ident; body ← braced (enum_statement d); nothing body.1.1)

-- ---- messages

pub extensions_in : {n : ℕ} (syntax : Syntax) → Keeps n n (IsExtensionsIn syntax) Any
unfolding IsExtensionsIn
extensions_in Proto2 = extensions
extensions_in Proto3 = never

pub message_statement : {n : ℕ} (syntax : Syntax)
    (d : ℕ) {M : List Lexeme → MessageSyntax → Type 0} →
    Keeps n n M (MessageIn n) → Keeps n n (MessageStatementOf syntax d M) (StatementIn n)
unfolding MessageStatementOf
message_statement {n = n} syntax d m =
    low (λ l. either (do r ← reserved; nothing (tt, omega (arith, l)))
    (either (do o ← oneof syntax d; nothing o.1)
    (either (do e ← extend syntax d; nothing e.1)
    (either (do m ← m; nothing (nested_in n m.0 m.1))
    (either (do e ← enum d; nothing (e.1, omega (arith, l)))
    (either (do e ← extensions_in syntax; nothing (tt, omega (arith, l)))
    (either (do o ← option d; nothing (o.1, omega (arith, l)))
    (do f ← field syntax d; nothing f.1))))))))

pub message_of : {n : ℕ} (syntax : Syntax) (d : ℕ) {M : List Lexeme → MessageSyntax → Type 0} →
    Keeps (suc n) (suc n) M (MessageIn (suc n)) → Keeps n n (MessageOf syntax d M) (MessageIn n)
unfolding MessageOf
message_of {n = n} syntax d m =
    at_place (λ t. do
      word
      name ← ident
      body ← braced (message_statement syntax d m)
      nothing (below ShallowMessageStatement message_statement_depth n body.0 body.1.0 body.1.1))

pub message : (syntax : Syntax) (d : ℕ) {n : ℕ} → Keeps n n (IsMessage syntax d) (MessageIn n)
unfolding Level
message syntax zero = never
message syntax (suc d) = message_of syntax d (message syntax d)

-- ---- services

pub method_end : {n : ℕ} (d : ℕ) → Keeps n n (IsMethodEnd d) (All ShallowOptionStatement)
unfolding IsMethodEnd
method_end d =
    either
    (do symbol 59 refl; nothing (All-nil ShallowOptionStatement))
    (weaker (λ a h. h.1) (braced (option d)))

pub streamed : {n : ℕ} → Keeps n n IsStreamed Any
unfolding IsStreamed
streamed = do
  symbol 40 refl
  type_ ← either (do word; name ← name; done) (do name ← unless name; done)
  symbol 41 refl
  done

pub rpc : {n : ℕ} (d : ℕ) → Keeps n n (IsRpc d) ShallowMethod
unfolding IsRpc
rpc d =
    at_place (λ t. do
      word
      name ← ident
      input ← streamed
      word
      output ← streamed
      options ← method_end d
      nothing options.1)

pub stream : {n : ℕ} (d : ℕ) → Keeps n n (IsStream d) ShallowMethod
unfolding IsStream
stream d =
    at_place (λ t. do
      word
      called ← ident
      symbol 40 refl
      input ← name
      comma
      output ← name
      symbol 41 refl
      options ← method_end d
      nothing options.1)

pub stream_in : {n : ℕ} (syntax : Syntax) (d : ℕ) → Keeps n n (IsStreamIn syntax d) ShallowMethod
unfolding IsStreamIn
stream_in Proto2 d = stream d
stream_in Proto3 d = never

pub service_statement : {n : ℕ} (syntax : Syntax) (d : ℕ) →
    Keeps n n (IsServiceStatement syntax d) ShallowServiceStatement
unfolding IsServiceStatement
service_statement syntax d =
    either
    (do m ← rpc d; nothing m.1)
    (either (do m ← stream_in syntax d; nothing m.1) (do o ← option d; nothing o.1))

pub service : {n : ℕ} (syntax : Syntax) (d : ℕ) → Keeps n n (IsService syntax d) ShallowService
unfolding IsService
service syntax d =
    at_place (λ t. do
      word
      name ← ident
      body ← braced (service_statement syntax d)
      nothing body.1.1)

-- ---- files

pub version : {n : ℕ} → Keeps n n IsVersion Any
unfolding IsVersion
version = do pieces ← str; syntax ← such; done

pub syntax_statement : {n : ℕ} → Keeps n n IsSyntax Any
unfolding IsSyntax
syntax_statement = do word; symbol 61 refl; syntax ← version; symbol 59 refl; done

pub visibility : {n : ℕ} → Keeps n n IsVisibility Any
unfolding IsVisibility
visibility = either (do word; done) (either (do word; done) (done))

pub path : {n : ℕ} → Keeps n n IsPath Any
unfolding IsPath
path = do pieces ← str; path ← such; done

pub import_statement : {n : ℕ} → Keeps n n IsImport Any
unfolding IsImport
import_statement = at_place (λ t. do word; vis ← visibility; path ← path; symbol 59 refl; done)

pub package_statement : {n : ℕ} → Keeps n n IsPackage Any
unfolding IsPackage
package_statement = at_place (λ t. do word; name ← dotted; symbol 59 refl; done)

pub file_statement : {n : ℕ} (syntax : Syntax) (d : ℕ) →
    Keeps n n (IsFileStatement syntax d) (Both ShallowStatement statement_depth n)
unfolding IsFileStatement
file_statement syntax d =
    low (λ l. either (do i ← import_statement; nothing (tt, omega (arith, l)))
    (either (do p ← package_statement; nothing (tt, omega (arith, l)))
    (either (do o ← option d; nothing (o.1, omega (arith, l)))
    (either (do m ← message syntax d; nothing m.1)
    (either (do e ← enum d; nothing (e.1, omega (arith, l)))
    (either (do e ← extend syntax d; nothing e.1)
    (do s ← service syntax d; nothing (s.1, omega (arith, l)))))))))

pub file : (d : ℕ) → Keeps 0 0 (IsFileOf d) ShallowFile
unfolding IsFileOf
file d = do
  syntax ← either syntax_statement (done)
  body ← statements (file_statement syntax.0 d)
  nothing (shallow_file syntax.0 body.0 body.1)

pub trees_shallow : TreesAreShallow
trees_shallow ts t h shallow =
    ((file h.0).keep ts [] t h.1 (rw append-nil (fits-start ts shallow))).1

-- so in the tree of a text
pub tree_shallow : (text : Bytes) (t : FileSyntax) → HasTree text t → ShallowFile t
tree_shallow text t h = trees_shallow h.stream.tokens t h.file h.tokens.shallow
