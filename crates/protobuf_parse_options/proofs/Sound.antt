-- What a text's grammar says of its tree: option names of at most 100 parts, numbers of enum values
-- of 32 bits, and names of packages.
use Rattle.std.proofs.Common.{◌≡◌, ℕ, zero, suc, ◌<◌, ◌≤◌, ◌⊎◌, inl, inr, Bool, true, false, cond}
use Rattle.std.proofs.Common.{List, [], ◌∷◌, ◌++◌, length, Option, Some, None, refl, sym, subst}
use Rattle.std.proofs.Common.{arith, nat_le, take, fold, codes}
use Rattle.std.specs.Prelude.{⊤, IfSome}
use Rattle.std.specs.List.{AllByRecursion}
use Rattle.std.specs.Int.{w32}
use Rattle.std.specs.Int.RustNames.{FitsSigned}
use Rattle.std.proofs.lemmas.Bool.{leb-true}
use Rattle.std.proofs.lemmas.List.{length-take-le}
use Rattle.protobuf_parse_grammar.specs.Relations.{Nothing, Never, Level, Then, Either, Many}
use Rattle.protobuf_parse_grammar.specs.Relations.{Separated, none, more, Unless, At, somes}
use Rattle.protobuf_parse_lexer.specs.Tokens.{Lexeme}
use Rattle.protobuf_parse_lexer.specs.declared.lexer.token.Place.{Place}
use Rattle.protobuf_parse_lexer.specs.declared.lexer.token.TokenKind.{TokenKind}
use Rattle.protobuf_parse_lexer.specs.declared.lexer.token.TokenKind.TheVariants as kind
use Rattle.protobuf_parse_lexer.specs.Text.{Bytes}
use Rattle.protobuf_parse_lexer.specs.Classes.{sees_at, ident, is_one_of, words}
use Rattle.protobuf_parse_lexer.specs.Text.{IsToken}
use Rattle.protobuf_parse_lexer.specs.Cut.{Cut, done, blank, token}
use Rattle.protobuf_parse_syntax.specs.declared.tree.Syntax.{Syntax}
use Rattle.protobuf_parse_syntax.specs.declared.tree.Syntax.TheVariants.{Proto2, Proto3}
use Rattle.protobuf_parse_syntax.specs.declared.tree.field.Label.{Label}
use Rattle.protobuf_parse_syntax.specs.Grammar.{table_words, statement_words, labels, if_so}
use Rattle.protobuf_parse_syntax.specs.Grammar.{small_at, negative, AtMost, Item, Statements}
use Rattle.protobuf_parse_syntax.specs.Grammar.{Braced, IsIdent, IsDotted, option_name}
use Rattle.protobuf_parse_syntax.specs.Grammar.{IsOptionName, IsAssignment, IsOption, AreOptions}
use Rattle.protobuf_parse_syntax.specs.Grammar.{IsFieldNumber, IsNumberUpTo, NormalFieldOf, GroupOf}
use Rattle.protobuf_parse_syntax.specs.Grammar.{AfterLabel, FieldOf, IsField, IsOneofField}
use Rattle.protobuf_parse_syntax.specs.Grammar.{IsOneofStatement, IsOneof, IsExtend, IsEnumNumber}
use Rattle.protobuf_parse_syntax.specs.Grammar.{IsEnumValue, IsEnumStatement, IsEnum}
use Rattle.protobuf_parse_syntax.specs.Grammar.{MessageStatementOf, MessageOf, IsMessage}
use Rattle.protobuf_parse_syntax.specs.Grammar.{IsMethodEnd, IsRpc, IsStream, IsStreamIn}
use Rattle.protobuf_parse_syntax.specs.Grammar.{IsServiceStatement, IsService, IsPackage}
use Rattle.protobuf_parse_syntax.specs.Grammar.{IsFileStatement, IsFileOf, IsFile}
use Rattle.protobuf_parse_syntax.specs.Trees as tree
use Rattle.protobuf_parse_syntax.specs.Trees.{OptionPartSyntax, OptionSyntax, OptionStatementSyntax}
use Rattle.protobuf_parse_syntax.specs.Trees.{FieldStatementSyntax, FieldStatementList}
use Rattle.protobuf_parse_syntax.specs.Trees.{OneofStatementSyntax, OneofSyntax, ExtendSyntax}
use Rattle.protobuf_parse_syntax.specs.Trees.{EnumValueSyntax, EnumStatementSyntax, EnumSyntax}
use Rattle.protobuf_parse_syntax.specs.Trees.{MessageStatementSyntax, MessageStatementList}
use Rattle.protobuf_parse_syntax.specs.Trees.{MessageSyntax, MethodSyntax, ServiceStatementSyntax}
use Rattle.protobuf_parse_model.specs.Faults.{Among, here, there}
use Rattle.protobuf_parse_syntax.specs.Trees.{ServiceSyntax, PackageSyntax, StatementSyntax}
use Rattle.protobuf_parse_syntax.specs.Trees.{FileSyntax}
use Rattle.protobuf_parse_syntax.specs.Parsing.{HasTree}
use Rattle.protobuf_parse_options.specs.NamesAlike.{HasPackageName}
use Rattle.protobuf_parse_options.specs.OptionDepth.{name_parts}
use Rattle.protobuf_parse_options.proofs.Options.{among_left, among_right}

-- ---- parts of trees

abbrev pub SoundOption : OptionSyntax → Type 0
SoundOption o = length (name_parts o.name) ≤ 100

abbrev pub SoundOptionStatement : OptionStatementSyntax → Type 0
SoundOptionStatement s = SoundOption s.option

abbrev mutual
  pub SoundField : FieldStatementSyntax → Type 0
  SoundField (tree.field f) = AllByRecursion SoundOption f.options
  SoundField (tree.group place label name number fields) = SoundFields fields

  pub SoundFields : FieldStatementList → Type 0
  SoundFields tree.no_field_statements = ⊤
  SoundFields (tree.more_field_statements f fs) = SoundField f × SoundFields fs

abbrev pub SoundOneofStatement : OneofStatementSyntax → Type 0
SoundOneofStatement (tree.oneof_option o) = SoundOptionStatement o
SoundOneofStatement (tree.oneof_field f) = SoundField f

abbrev pub SoundOneof : OneofSyntax → Type 0
SoundOneof o = AllByRecursion SoundOneofStatement o.body

abbrev pub SoundExtend : ExtendSyntax → Type 0
SoundExtend e = AllByRecursion SoundField e.fields

pub record SoundValue (v : EnumValueSyntax) : Type 0 where
  pub small : FitsSigned w32 v.number
  pub short : AllByRecursion SoundOption v.options

abbrev pub SoundEnumStatement : EnumStatementSyntax → Type 0
SoundEnumStatement (tree.enum_reserved r) = ⊤
SoundEnumStatement (tree.enum_option o) = SoundOptionStatement o
SoundEnumStatement (tree.enum_value v) = SoundValue v

abbrev pub SoundEnum : EnumSyntax → Type 0
SoundEnum e = AllByRecursion SoundEnumStatement e.body

abbrev mutual
  pub SoundMessageStatement : MessageStatementSyntax → Type 0
  SoundMessageStatement (tree.message_reserved r) = ⊤
  SoundMessageStatement (tree.message_oneof o) = SoundOneof o
  SoundMessageStatement (tree.message_extend e) = SoundExtend e
  SoundMessageStatement (tree.message_message place name body) = SoundBody body
  SoundMessageStatement (tree.message_enum e) = SoundEnum e
  SoundMessageStatement (tree.message_extensions e) = ⊤
  SoundMessageStatement (tree.message_option o) = SoundOptionStatement o
  SoundMessageStatement (tree.message_field f) = SoundField f

  pub SoundBody : MessageStatementList → Type 0
  SoundBody tree.no_statements = ⊤
  SoundBody (tree.more_statements s ss) = SoundMessageStatement s × SoundBody ss

abbrev pub SoundMessage : MessageSyntax → Type 0
SoundMessage m = AllByRecursion SoundMessageStatement m.body

abbrev pub SoundMethod : MethodSyntax → Type 0
SoundMethod m = AllByRecursion SoundOptionStatement m.options

abbrev pub SoundServiceStatement : ServiceStatementSyntax → Type 0
SoundServiceStatement (tree.service_method m) = SoundMethod m
SoundServiceStatement (tree.service_option o) = SoundOptionStatement o

abbrev pub SoundService : ServiceSyntax → Type 0
SoundService s = AllByRecursion SoundServiceStatement s.body

pub record SoundPackage (p : PackageSyntax) : Type 0 where
  pub full : 0 < length p.name

abbrev pub SoundStatement : StatementSyntax → Type 0
SoundStatement (tree.file_import i) = ⊤
SoundStatement (tree.file_package p) = SoundPackage p
SoundStatement (tree.file_option o) = SoundOptionStatement o
SoundStatement (tree.file_message m) = SoundMessageStatement (tree.nested_message m)
SoundStatement (tree.file_enum e) = SoundEnum e
SoundStatement (tree.file_extend e) = SoundExtend e
SoundStatement (tree.file_service s) = SoundService s

abbrev pub SoundFile : FileSyntax → Type 0
SoundFile t = AllByRecursion SoundStatement t.statements

-- ---- what parts of a production say

-- no identifier is empty
abbrev pub HasTexts : List Lexeme → Type 0
HasTexts ts = (t : Lexeme) → Among ts t → t.kind ≡ kind.Ident → 0 < length t.text

-- what such tokens say by the relation has the property
pub record Says {A : Type 0} (R : List Lexeme → A → Type 0) (P : A → Type 0) : Type 0 where
  pub says : (ts : List Lexeme) (a : A) → HasTexts ts → R ts a → P a

abbrev Any : {A : Type 0} → A → Type 0
Any a = ⊤

-- where it says nothing
any : {A : Type 0} {R : List Lexeme → A → Type 0} → Says R Any
any = record { says = λ ts a full h. tt }

infixl 10 ◌>>=◌
◌>>=◌ : {A B : Type 0} {R : List Lexeme → A → Type 0} {S : A → List Lexeme → B → Type 0}
    {P : A → Type 0} {Q : B → Type 0} → Says R P → ((x : (a : A) × P a) → Says (S x.0) Q)
    → Says (Then R S) Q
r >>= s = record {
  says = λ ts b full h.
      let both : HasTexts (h.front ++ h.back) = subst HasTexts h.parts full in
      (s (h.value, r.says h.front h.value (λ t k. both t (among_left h.back k)) h.first)).says
      h.back b (λ t k. both t (among_right h.front k)) h.second;
}

infixl 10 ◌>>◌
◌>>◌ : {A B : Type 0} {R : List Lexeme → A → Type 0} {S : List Lexeme → B → Type 0} {P : A → Type 0}
    {Q : B → Type 0} → Says R P → Says S Q → Says (Then R (λ a. S)) Q
r >> s = r >>= (λ x. s)

nothing : {A : Type 0} {a : A} {P : A → Type 0} → P a → Says (Nothing a) P
nothing {P = P} p = record { says = λ ts b full h. subst P (sym h.1) p }

never : {A : Type 0} {P : A → Type 0} → Says Never P
never = record { says = λ ts a full h. absurd h }

either : {A : Type 0} {R S : List Lexeme → A → Type 0} {P : A → Type 0} → Says R P → Says S P
    → Says (Either R S) P
either {A = A} {R = R} {S = S} {P = P} r s = record { says = go }
  where
    go : (ts : List Lexeme) (a : A) → HasTexts ts → R ts a ⊎ S ts a → P a
    go ts a full (inl h) = r.says ts a full h
    go ts a full (inr h) = s.says ts a full h

many : {A : Type 0} {R : List Lexeme → A → Type 0} {P : A → Type 0} → Says R P
    → Says (Many R) (AllByRecursion P)
many {A = A} {R = R} {P = P} r = record { says = go }
  where
    go : (ts : List Lexeme) (as' : List A) → HasTexts ts → Many R ts as' → AllByRecursion P as'
    go _ _ full none = tt
    go _ _ full (more {ts = ts} {us = us} {a = a} {as' = as'} h hs) = (
      r.says ts a (λ t k. full t (among_left us k)) h,
      go us as' (λ t k. full t (among_right ts k)) hs,
    )

unless : {A : Type 0} {test : Lexeme → Bool} {R : List Lexeme → A → Type 0} {P : A → Type 0}
    → Says R P → Says (Unless test R) P
unless r = record { says = λ ts a full h. r.says ts a full h.0 }

-- a part that may depend on the place of its first token
at_place : {A : Type 0} {R : Lexeme → List Lexeme → A → Type 0} {P : A → Type 0}
    → ((t : Lexeme) → Says (R t) P) → Says (At (λ (t : Lexeme). t) R) P
at_place {A = A} {R = R} {P = P} r = record { says = go }
  where
    go : (ts : List Lexeme) (a : A) → HasTexts ts → At (λ (t : Lexeme). t) R ts a → P a
    go [] a full h = absurd h
    go (t ∷ ts) a full h = (r t).says (t ∷ ts) a full h

separated : {A B : Type 0} {S : List Lexeme → B → Type 0} {R : List Lexeme → A → Type 0}
    {P : A → Type 0} → Says R P → Says (Separated S R) (AllByRecursion P)
separated r = do first ← r; others ← many (do any; r); nothing (first.1, others.1)

-- the statements that are there
somes_have : {A : Type 0} (P : A → Type 0) (items : List (Option A))
    → AllByRecursion (λ o. IfSome o P) items → AllByRecursion P (somes items)
somes_have P [] h = tt
somes_have P (None ∷ items) h = somes_have P items h.1
somes_have P (Some a ∷ items) h = (h.0, somes_have P items h.1)

statements : {A : Type 0} {R : List Lexeme → A → Type 0} {P : A → Type 0} → Says R P
    → Says (Statements R) (AllByRecursion P)
statements {A = A} {R = R} {P = P} r = do items ← many item; nothing (somes_have P items.0 items.1)
  where
    item : Says (Item R) (λ (o : Option A). IfSome o P)
    item = either (do any; nothing tt) (do s ← r; nothing s.1)

braced : {A : Type 0} {R : List Lexeme → A → Type 0} {P : A → Type 0} → Says R P
    → Says (Braced R) (AllByRecursion P)
braced r = do any; body ← statements r; any; nothing body.1

-- ---- numbers and names

-- an integer of at most so much
small : (limit : ℕ) → Says (IsNumberUpTo limit) (λ n. n ≤ limit)
small limit = record { says = λ ts n full h. go h.0.kind n h.2 }
  where
    go : (k : TokenKind) (n : ℕ) → small_at limit k ≡ Some n → n ≤ limit
    go (kind.Integer i) n e = is (nat_le i limit) refl e
      where
        is : (b : Bool) → nat_le i limit ≡ b → cond b (Some i) None ≡ Some n → n ≤ limit
        is true p e = let q : i ≡ n = cc in subst (λ v. v ≤ limit) q (leb-true i limit p)
        is false p e = absurd cc
    go _ n e = absurd cc

field_number : Says IsFieldNumber (FitsSigned w32)
unfolding IsFieldNumber
field_number = do n ← small 2147483647; nothing (let l = n.1 in record { sfits = omega (arith, l) })

below_zero : (n : ℕ) → n ≤ 2147483648 → FitsSigned w32 (negative n)
below_zero zero l = record { sfits = omega arith }
below_zero (suc n) l = record { sfits = omega (arith, l) }

enum_number : Says IsEnumNumber (FitsSigned w32)
unfolding IsEnumNumber
enum_number = either field_number (do any; n ← small 2147483648; nothing (below_zero n.0 n.1))

-- a name with some bytes
full_ident : Says IsIdent (λ w. 0 < length w)
full_ident =
    record {
      says = λ ts w full h. go h.0.kind h.0.text w
          (full h.0 (subst (λ us. Among us h.0) (sym h.1) here)) h.2;
    }
  where
    at : (text w : Bytes) (b : Bool) → 0 < length text → if_so b text ≡ Some w → 0 < length w
    at text w true l e = let p : text ≡ w = cc in subst (λ v. 0 < length v) p l
    at text w false l e = absurd cc

    go : (k : TokenKind) (text w : Bytes) → (k ≡ kind.Ident → 0 < length text)
        → if_so (sees_at (ident []) k text) text ≡ Some w → 0 < length w
    go kind.Ident text w full e = at text w (sees_at (ident []) kind.Ident text) (full refl) e
    go _ text w full e = absurd cc

full_append : (xs ys : Bytes) → 0 < length xs → 0 < length (xs ++ ys)
full_append [] ys l = absurd (omega (arith, l))
full_append (x ∷ xs) ys l = omega arith

dotted : Says IsDotted (λ w. 0 < length w)
unfolding IsDotted
dotted = do first ← full_ident; others ← any; nothing (full_append first.0 _ first.1)

-- ---- options

at_most : {A : Type 0} {R : List Lexeme → A → Type 0} (limit : ℕ)
    → Says (AtMost limit R) (λ as'. length as' ≤ limit)
at_most limit = record { says = λ ts a full h. h.1 }

few_parts : (part : OptionPartSyntax) (parts : List OptionPartSyntax) → length parts ≤ 99
    → length (name_parts (option_name part parts)) ≤ 100
few_parts (tree.direct name) [] l = omega arith
few_parts (tree.direct name) (p ∷ ps) l = omega (arith, l)
few_parts (tree.extension name) ps l = omega (arith, l)

name_of_option : Says IsOptionName (λ n. length (name_parts n) ≤ 100)
unfolding IsOptionName
name_of_option = do first ← any; others ← at_most 99; nothing (few_parts first.0 others.0 others.1)

assignment : (d : ℕ) → Says (IsAssignment d) SoundOption
unfolding IsAssignment
assignment d = at_place (λ t. do name ← name_of_option; any; value ← any; nothing name.1)

option : (d : ℕ) → Says (IsOption d) SoundOptionStatement
unfolding IsOption
option d = at_place (λ t. do any; option ← assignment d; any; nothing option.1)

options : (d : ℕ) → Says (AreOptions d) (AllByRecursion SoundOption)
unfolding AreOptions
options d = either (do any; options ← separated (assignment d); any; nothing options.1) (nothing tt)

-- ---- fields

normal_field : (d : ℕ) (T : List Lexeme → tree.TypeSyntax → Type 0) (place : Place)
    (label : Option Label) → Says (NormalFieldOf d T place label) SoundField
unfolding NormalFieldOf
normal_field d T place label =
    do type_ ← any; name ← any; any; number ← any; options ← options d; any; nothing options.1

fields_sound : (fs : List FieldStatementSyntax) → AllByRecursion SoundField fs
    → SoundFields (tree.field_statements fs)
fields_sound [] h = tt
fields_sound (f ∷ fs) h = (h.0, fields_sound fs h.1)

group_of : {F : List Lexeme → FieldStatementSyntax → Type 0} (place : Place) (label : Option Label)
    → Says F SoundField → Says (GroupOf F place label) SoundField
unfolding GroupOf
group_of place label f = do
  name ← any
  any
  number ← any
  fields ← braced f
  nothing (fields_sound fields.0 fields.1)

after_label : (d : ℕ) {F : List Lexeme → FieldStatementSyntax → Type 0} (place : Place)
    (label : Option Label) → Says F SoundField → Says (AfterLabel d F place label) SoundField
unfolding AfterLabel
after_label d place label f = either (group_of place label f) (normal_field d _ place label)

field_of : (syntax : Syntax) (d : ℕ) {F : List Lexeme → FieldStatementSyntax → Type 0}
    → Says F SoundField → Says (FieldOf syntax d F) SoundField
unfolding FieldOf
field_of Proto2 d f =
    at_place (λ t. either (do l ← any; after_label (suc d) t.place (Some l.0) f)
    (normal_field (suc d) _ t.place None))
field_of Proto3 d f =
    at_place (λ t. either (do l ← any; after_label (suc d) t.place (Some l.0) f)
    (unless {test = is_one_of (words (table_words labels ++ statement_words))}
    (after_label (suc d) t.place None f)))

field : (syntax : Syntax) (d : ℕ) → Says (IsField syntax d) SoundField
unfolding Level
field syntax zero = never
field syntax (suc d) = field_of syntax d (field syntax d)

-- ---- oneofs, extends and enums

oneof_field : (syntax : Syntax) (d : ℕ) → Says (IsOneofField syntax d) SoundField
unfolding IsOneofField
oneof_field syntax d =
    at_place
    (λ t. unless {test = is_one_of (words (codes "map" ∷ table_words labels ++ statement_words))}
    (after_label d t.place None (field syntax d)))

oneof_statement : (syntax : Syntax) (d : ℕ) → Says (IsOneofStatement syntax d) SoundOneofStatement
unfolding IsOneofStatement
oneof_statement syntax d =
    either (do o ← option d; nothing o.1) (do f ← oneof_field syntax d; nothing f.1)

oneof : (syntax : Syntax) (d : ℕ) → Says (IsOneof syntax d) SoundOneof
unfolding IsOneof
oneof syntax d =
    at_place (λ t. do any; name ← any; body ← braced (oneof_statement syntax d); nothing body.1)

extend : (syntax : Syntax) (d : ℕ) → Says (IsExtend syntax d) SoundExtend
unfolding IsExtend
extend syntax d =
    at_place (λ t. do any; name ← any; fields ← braced (field syntax d); nothing fields.1)

enum_value : (d : ℕ) → Says (IsEnumValue d) SoundValue
unfolding IsEnumValue
enum_value d = at_place (λ t. do
  name ← any
  any
  number ← enum_number
  options ← options d
  nothing (record { small = number.1; short = options.1 }))

enum_statement : (d : ℕ) → Says (IsEnumStatement d) SoundEnumStatement
unfolding IsEnumStatement
enum_statement d =
    either (do r ← any; nothing tt)
    (either (do o ← option d; nothing o.1) (do v ← enum_value d; nothing v.1))

enum : (d : ℕ) → Says (IsEnum d) SoundEnum
unfolding IsEnum
enum d = at_place (λ t. do any; name ← any; body ← braced (enum_statement d); nothing body.1)

-- ---- messages

body_sound : (ss : List MessageStatementSyntax) → AllByRecursion SoundMessageStatement ss
    → SoundBody (tree.message_statements ss)
body_sound [] h = tt
body_sound (s ∷ ss) h = (h.0, body_sound ss h.1)

message_statement : (syntax : Syntax) (d : ℕ) {M : List Lexeme → MessageSyntax → Type 0}
    → Says M SoundMessage → Says (MessageStatementOf syntax d M) SoundMessageStatement
unfolding MessageStatementOf
message_statement syntax d m =
    either (do r ← any; nothing tt)
    (either (do o ← oneof syntax d; nothing o.1)
    (either (do e ← extend syntax d; nothing e.1)
    (either (do m ← m; nothing (body_sound m.0.body m.1))
    (either (do e ← enum d; nothing e.1)
    (either (do e ← any; nothing tt)
    (either (do o ← option d; nothing o.1)
    (do f ← field syntax d; nothing f.1)))))))

message : (syntax : Syntax) (d : ℕ) → Says (IsMessage syntax d) SoundMessage
unfolding Level MessageOf
message syntax zero = never
message syntax (suc d) = at_place (λ t. do
  any
  name ← any
  body ← braced (message_statement syntax d (message syntax d))
  nothing body.1)

-- ---- services

method_end : (d : ℕ) → Says (IsMethodEnd d) (AllByRecursion SoundOptionStatement)
unfolding IsMethodEnd
method_end d = either (do any; nothing tt) (braced (option d))

rpc : (d : ℕ) → Says (IsRpc d) SoundMethod
unfolding IsRpc
rpc d = at_place (λ t. do
  any
  name ← any
  input ← any
  any
  output ← any
  options ← method_end d
  nothing options.1)

stream : (d : ℕ) → Says (IsStream d) SoundMethod
unfolding IsStream
stream d = at_place (λ t. do
  any
  name ← any
  any
  input ← any
  any
  output ← any
  any
  options ← method_end d
  nothing options.1)

stream_in : (syntax : Syntax) (d : ℕ) → Says (IsStreamIn syntax d) SoundMethod
unfolding IsStreamIn
stream_in Proto2 d = stream d
stream_in Proto3 d = never

service_statement : (syntax : Syntax) (d : ℕ)
    → Says (IsServiceStatement syntax d) SoundServiceStatement
unfolding IsServiceStatement
service_statement syntax d =
    either (do m ← rpc d; nothing m.1)
    (either (do m ← stream_in syntax d; nothing m.1) (do o ← option d; nothing o.1))

service : (syntax : Syntax) (d : ℕ) → Says (IsService syntax d) SoundService
unfolding IsService
service syntax d = at_place (λ t. do
  any
  name ← any
  body ← braced (service_statement syntax d)
  nothing body.1)

-- ---- files

package_statement : Says IsPackage SoundPackage
unfolding IsPackage
package_statement = at_place (λ t. do any; name ← dotted; any; nothing (record { full = name.1 }))

file_statement : (syntax : Syntax) (d : ℕ) → Says (IsFileStatement syntax d) SoundStatement
unfolding IsFileStatement
file_statement syntax d =
    either (do i ← any; nothing tt)
    (either (do p ← package_statement; nothing p.1)
    (either (do o ← option d; nothing o.1)
    (either (do m ← message syntax d; nothing (body_sound m.0.body m.1))
    (either (do e ← enum d; nothing e.1)
    (either (do e ← extend syntax d; nothing e.1)
    (do s ← service syntax d; nothing s.1))))))

file : (d : ℕ) → Says (IsFileOf d) SoundFile
unfolding IsFileOf
file d = do syntax ← any; body ← statements (file_statement syntax.0 d); nothing body.1

pub tokens_sound : (ts : List Lexeme) (t : FileSyntax) → HasTexts ts → IsFile ts t → SoundFile t
tokens_sound ts t full h = (file h.0).says ts t full h.1

-- ---- the tokens of a text

-- an identifier has a byte
ident_full : (z : Bytes) (n : ℕ) (k : TokenKind) → IsToken z n k → k ≡ kind.Ident
    → 0 < length (take n z)
ident_full z n kind.Ident is e =
    let some = is.0.some in
    let within = is.0.within in
    subst (λ v. 0 < v) (sym (length-take-le n z within)) some
ident_full z n _ is e = absurd cc

cut_full : {p q : Place} {z rest : Bytes} {ts : List Lexeme} → Cut p z ts q rest → HasTexts ts
cut_full done t h e = elim h [ ]
cut_full (blank n is c) t h e = cut_full c t h e
cut_full (token {z = z} n k is c) _ here e = ident_full z n k is e
cut_full (token n k is c) t (there h) e = cut_full c t h e

-- the tree of a text
pub text_sound : (text : Bytes) (t : FileSyntax) → HasTree text t → SoundFile t
text_sound text t h = tokens_sound h.stream.tokens t (cut_full h.tokens.cut) h.file

-- ---- packages

abbrev IsFull : Option Bytes → Type 0
IsFull o = (name : Bytes) → o ≡ Some name → 0 < length name

behind : (before : Option Bytes) (s : StatementSyntax) → IsFull before → SoundStatement s
    → IsFull (tree.package_behind before s)
behind before (tree.file_import i) f h = f
behind before (tree.file_package p) f h = λ name e. let q : p.name ≡ name = cc in
    subst (λ v. 0 < length v) q h.full
behind before (tree.file_option o) f h = f
behind before (tree.file_message m) f h = f
behind before (tree.file_enum e) f h = f
behind before (tree.file_extend e) f h = f
behind before (tree.file_service s) f h = f

all_behind : (before : Option Bytes) (ss : List StatementSyntax) → IsFull before
    → AllByRecursion SoundStatement ss → IsFull (fold tree.package_behind before ss)
all_behind before [] f h = f
all_behind before (s ∷ ss) f h =
    all_behind (tree.package_behind before s) ss (behind before s f h.0) h.1

pub package_named : (t : FileSyntax) → SoundFile t → HasPackageName t
package_named t h = all_behind None t.statements (λ name e. absurd cc) h
