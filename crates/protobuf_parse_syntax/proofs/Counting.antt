-- A part of a file has no more statements than tokens.
use Rattle.std.proofs.Common.{◌≡◌, ℕ, suc, zero, ◌+◌, ◌≤◌, Bool, List, [], ◌∷◌, ◌++◌, Option, Some}
use Rattle.std.proofs.Common.{None, length, length-append, refl, ap, inl, inr, ◌⊎◌, arith, codes}
use Rattle.std.proofs.Common.{sum_by}
use Rattle.std.proofs.lemmas.List.Sums.{sum_by-cons}
use Rattle.protobuf_parse_grammar.specs.Relations.{Nothing, Never, Level, One, Then, Either, Many}
use Rattle.protobuf_parse_grammar.specs.Relations.{none, more, Unless, At, somes}
use Rattle.protobuf_parse_lexer.specs.Tokens.{Lexeme}
use Rattle.protobuf_parse_lexer.specs.declared.lexer.token.Place.{Place}
use Rattle.protobuf_parse_lexer.specs.Classes.{is_one_of, words}
use Rattle.protobuf_parse_syntax.specs.declared.tree.Syntax.{Syntax}
use Rattle.protobuf_parse_syntax.specs.declared.tree.Syntax.TheVariants.{Proto2, Proto3}
use Rattle.protobuf_parse_syntax.specs.declared.tree.field.Label.{Label}
use Rattle.protobuf_parse_syntax.specs.Grammar.{table_words, statement_words, labels, Item}
use Rattle.protobuf_parse_syntax.specs.Grammar.{Statements, Braced, IsOption, NormalFieldOf}
use Rattle.protobuf_parse_syntax.specs.Grammar.{GroupOf, AfterLabel, FieldOf, IsField, IsOneofField}
use Rattle.protobuf_parse_syntax.specs.Grammar.{IsOneofStatement, IsOneof, IsExtend, IsReserved}
use Rattle.protobuf_parse_syntax.specs.Grammar.{IsExtensions, IsEnumValue, IsEnumStatement, IsEnum}
use Rattle.protobuf_parse_syntax.specs.Grammar.{IsExtensionsIn, MessageStatementOf, MessageOf}
use Rattle.protobuf_parse_syntax.specs.Grammar.{IsMessage, IsMethodEnd, IsRpc, IsStream, IsStreamIn}
use Rattle.protobuf_parse_syntax.specs.Grammar.{IsServiceStatement, IsService, IsImport, IsPackage}
use Rattle.protobuf_parse_syntax.specs.Grammar.{IsFileStatement, IsFileOf, IsFile}
use Rattle.protobuf_parse_syntax.specs.Trees as tree
use Rattle.protobuf_parse_syntax.specs.Trees.{TypeSyntax, FieldStatementSyntax}
use Rattle.protobuf_parse_syntax.specs.Trees.{MessageStatementSyntax, MessageSyntax, FileSyntax}
use Rattle.protobuf_parse_syntax.specs.Counts.{field_count, in_group, oneof_statement_count}
use Rattle.protobuf_parse_syntax.specs.Counts.{in_oneof, in_extend, in_enum}
use Rattle.protobuf_parse_syntax.specs.Counts.{message_statement_count, in_body, in_message}
use Rattle.protobuf_parse_syntax.specs.Counts.{in_method, service_statement_count, in_service}
use Rattle.protobuf_parse_syntax.specs.Counts.{statement_count, statements_in}

-- ---- parts

-- What a part says counts at most n and its tokens.
pub record Costs {A : Type 0} (n : ℕ) (R : List Lexeme → A → Type 0) (count : A → ℕ) : Type 0 where
  pub cost : (ts : List Lexeme) (a : A) → R ts a → count a ≤ n + length ts

infixl 10 ◌>>=◌
pub ◌>>=◌ : {A B : Type 0} {n : ℕ} {R : List Lexeme → A → Type 0}
    {S : A → List Lexeme → B → Type 0} {f : A → ℕ} {g : B → ℕ} →
    Costs n R f → ((a : A) → Costs (f a) (S a) g) → Costs n (Then R S) g
◌>>=◌ r s = record {
  cost = λ ts b h.
      let x = r.cost h.front h.value h.first in
      let y = (s h.value).cost h.back b h.second in
      omega (arith, x, y, ap length h.parts, length-append h.front h.back);
}

-- of a part whose value says nothing of the next
infixl 10 ◌>>◌
pub ◌>>◌ : {A B : Type 0} {n m : ℕ} {R : List Lexeme → A → Type 0}
    {S : List Lexeme → B → Type 0} {g : B → ℕ} →
    Costs n R (λ a. m) → Costs m S g → Costs n (Then R (λ a. S)) g
r >> s = r >>= (λ x. s)

-- any part
skip : {A : Type 0} {n : ℕ} {R : List Lexeme → A → Type 0} → Costs n R (λ a. n)
skip = record { cost = λ ts a h. omega arith }

nothing : {A : Type 0} {n : ℕ} {a : A} {f : A → ℕ} → f a ≤ n → Costs n (Nothing a) f
nothing {n = n} {f = f} p = record { cost = λ ts b h. omega (arith, p, ap f h.1) }

never : {A : Type 0} {n : ℕ} {f : A → ℕ} → Costs n Never f
never = record { cost = λ ts a h. absurd h }

either : {A : Type 0} {n : ℕ} {R S : List Lexeme → A → Type 0} {f : A → ℕ} → Costs n R f →
    Costs n S f → Costs n (Either R S) f
either {A = A} {n = n} {R = R} {S = S} {f = f} r s = record { cost = λ ts a h. go ts a h }
  where
    go : (ts : List Lexeme) (a : A) → R ts a ⊎ S ts a → f a ≤ n + length ts
    go ts a (inl h) = r.cost ts a h
    go ts a (inr h) = s.cost ts a h

unless : {A : Type 0} {n : ℕ} {test : Lexeme → Bool} {R : List Lexeme → A → Type 0} {f : A → ℕ} →
    Costs n R f → Costs n (Unless test R) f
unless r = record { cost = λ ts a h. r.cost ts a h.0 }

one : {A : Type 0} {n : ℕ} {says : Lexeme → Option A} → Costs n (One says) (λ a. suc n)
one = record { cost = λ ts a h. omega (arith, ap length h.1) }

-- a part that may depend on the place of its first token
at_place : {A : Type 0} {n : ℕ} {R : Lexeme → List Lexeme → A → Type 0} {f : A → ℕ} →
    ((t : Lexeme) → Costs n (R t) f) → Costs n (At (λ (t : Lexeme). t) R) f
at_place {A = A} {n = n} {R = R} {f = f} r = record { cost = λ ts a h. go ts a h }
  where
    go : (ts : List Lexeme) (a : A) → At (λ (t : Lexeme). t) R ts a → f a ≤ n + length ts
    go [] a h = absurd h
    go (t ∷ ts) a h = (r t).cost (t ∷ ts) a h

many : {A : Type 0} {n : ℕ} {R : List Lexeme → A → Type 0} {f : A → ℕ} → Costs 0 R f →
    Costs n (Many R) (λ as'. n + sum_by f as')
many {A = A} {n = n} {R = R} {f = f} r =
    record { cost = λ ts as' h. let x = go ts as' h in omega (arith, x) }
  where
    go : (ts : List Lexeme) (as' : List A) → Many R ts as' → sum_by f as' ≤ length ts
    go _ _ none = omega arith
    go _ _ (more {ts = ts} {us = us} {a = a} {as' = as'} h hs) =
        omega (arith, sum_by-cons f a as', r.cost ts a h, go us as' hs, length-append ts us)

-- ---- bodies

abbrev option_count : {A : Type 0} → (A → ℕ) → Option A → ℕ
option_count f None = 0
option_count f (Some a) = f a

item : {A : Type 0} {R : List Lexeme → A → Type 0} {f : A → ℕ} → Costs 0 R f →
    Costs 0 (Item R) (option_count f)
item {f = f} r = either (do skip; nothing (omega arith)) (do statement ← r; nothing (omega arith))

somes_count : {A : Type 0} (f : A → ℕ) (items : List (Option A)) →
    sum_by (option_count f) items ≡ sum_by f (somes items)
somes_count f [] = refl
somes_count f (None ∷ items) =
    omega (arith, sum_by-cons (option_count f) None items, somes_count f items)
somes_count f (Some a ∷ items) =
    omega (
      arith,
      sum_by-cons (option_count f) (Some a) items,
      sum_by-cons f a (somes items),
      somes_count f items,
    )

statements : {A : Type 0} {n : ℕ} {R : List Lexeme → A → Type 0} {f : A → ℕ} → Costs 0 R f →
    Costs n (Statements R) (λ as'. n + sum_by f as')
statements {f = f} r = do
  items ← many (item r)
  nothing (omega (arith, somes_count f items))

braced : {A : Type 0} {n : ℕ} {R : List Lexeme → A → Type 0} {f : A → ℕ} → Costs 0 R f →
    Costs n (Braced R) (λ as'. n + sum_by f as')
braced r = do
  skip
  body ← statements r
  skip
  nothing (omega arith)

-- ---- fields

field_list : (fs : List FieldStatementSyntax) →
    in_group (tree.field_statements fs) ≡ sum_by field_count fs
field_list [] = refl
field_list (f ∷ fs) = omega (arith, sum_by-cons field_count f fs, field_list fs)

option : {n : ℕ} (d : ℕ) → Costs n (IsOption d) (λ o. suc n)
unfolding IsOption
option d = at_place (λ t. do w ← one; skip)

normal_field : {n : ℕ} (d : ℕ) (T : List Lexeme → TypeSyntax →
    Type 0) (place : Place) (label : Option Label) →
    Costs n (NormalFieldOf d T place label) field_count
unfolding NormalFieldOf
normal_field d T place label = do
  type_ ← skip
  name ← one
  skip
  number ← skip
  options ← skip
  skip
  nothing (omega arith)

group_of : {n : ℕ} {F : List Lexeme → FieldStatementSyntax →
    Type 0} (place : Place) (label : Option Label) → Costs 0 F field_count →
    Costs n (GroupOf F place label) field_count
unfolding GroupOf
group_of place label f = do
  name ← (do skip; one)
  skip
  number ← skip
  fields ← braced f
  nothing (omega (arith, field_list fields))

after_label : {n : ℕ} (d : ℕ) {F : List Lexeme → FieldStatementSyntax →
    Type 0} (place : Place) (label : Option Label) → Costs 0 F field_count →
    Costs n (AfterLabel d F place label) field_count
unfolding AfterLabel
after_label d place label f = either (group_of place label f) (normal_field d _ place label)

field_of : {n : ℕ} (syntax : Syntax) (d : ℕ) {F : List Lexeme → FieldStatementSyntax → Type 0} →
    Costs 0 F field_count → Costs n (FieldOf syntax d F) field_count
unfolding FieldOf
field_of Proto2 d f =
    at_place (λ t. either
    (do l ← skip; after_label (suc d) t.place (Some l) f)
    (normal_field (suc d) _ t.place None))
field_of Proto3 d f =
    at_place (λ t. either
    (do l ← skip; after_label (suc d) t.place (Some l) f)
    (unless {test = is_one_of (words (table_words labels ++ statement_words))}
    (after_label (suc d) t.place None f)))

field : (syntax : Syntax) (d : ℕ) {n : ℕ} → Costs n (IsField syntax d) field_count
unfolding Level
field syntax zero = never
field syntax (suc d) = field_of syntax d (field syntax d)

-- ---- oneofs and extends

oneof_field : {n : ℕ} (syntax : Syntax) (d : ℕ) → Costs n (IsOneofField syntax d) field_count
unfolding IsOneofField
oneof_field syntax d =
    at_place (λ t.
    unless {test = is_one_of (words (codes "map" ∷ table_words labels ++ statement_words))}
    (after_label d t.place None (field syntax d)))

oneof_statement : {n : ℕ} (syntax : Syntax) (d : ℕ) →
    Costs n (IsOneofStatement syntax d) oneof_statement_count
unfolding IsOneofStatement
oneof_statement syntax d =
    either
    (do o ← option d; nothing (omega arith))
    (do f ← oneof_field syntax d; nothing (omega arith))

oneof : {n : ℕ} (syntax : Syntax) (d : ℕ) → Costs n (IsOneof syntax d) (λ o. suc n + in_oneof o)
unfolding IsOneof
oneof syntax d =
    at_place (λ t. do
      skip
      name ← one
      body ← braced (oneof_statement syntax d)
      nothing (omega arith))

extend : {n : ℕ} (syntax : Syntax) (d : ℕ) → Costs n (IsExtend syntax d) (λ e. suc n + in_extend e)
unfolding IsExtend
extend syntax d =
    at_place (λ t. do
      w ← one
      extendee ← skip
      fields ← braced (field syntax d)
      nothing (omega arith))

-- ---- reserved, extensions and enums

reserved : {n : ℕ} → Costs n IsReserved (λ r. suc n)
unfolding IsReserved
reserved = at_place (λ t. do w ← one; skip)

extensions : {n : ℕ} → Costs n IsExtensions (λ e. suc n)
unfolding IsExtensions
extensions = at_place (λ t. do w ← one; skip)

extensions_in : {n : ℕ} (syntax : Syntax) → Costs n (IsExtensionsIn syntax) (λ e. suc n)
unfolding IsExtensionsIn
extensions_in Proto2 = extensions
extensions_in Proto3 = never

enum_value : {n : ℕ} (d : ℕ) → Costs n (IsEnumValue d) (λ v. suc n)
unfolding IsEnumValue
enum_value d = at_place (λ t. do name ← unless one; skip)

enum_statement : {n : ℕ} (d : ℕ) → Costs n (IsEnumStatement d) (λ s. suc n)
unfolding IsEnumStatement
enum_statement d =
    either (do r ← reserved; nothing (omega arith))
    (either (do o ← option d; nothing (omega arith))
    (do v ← enum_value d; nothing (omega arith)))

ones : {A : Type 0} (items : List A) → sum_by (λ (a : A). 1) items ≡ length items
ones [] = refl
ones {A = A} (a ∷ items) = omega (arith, sum_by-cons (λ (a : A). 1) a items, ones items)

enum : {n : ℕ} (d : ℕ) → Costs n (IsEnum d) (λ e. suc n + in_enum e)
unfolding IsEnum
enum d =
    at_place (λ t. do
      skip
      name ← one
      body ← braced (enum_statement d)
      nothing (omega (arith, ones body)))

-- ---- messages

statement_list : (ss : List MessageStatementSyntax) →
    in_body (tree.message_statements ss) ≡ sum_by message_statement_count ss
statement_list [] = refl
statement_list (s ∷ ss) = omega (arith, sum_by-cons message_statement_count s ss, statement_list ss)

message_statement : (syntax : Syntax) (d : ℕ) {M : List Lexeme → MessageSyntax → Type 0} →
    Costs 0 M (λ m. 1 + in_message m) →
    Costs 0 (MessageStatementOf syntax d M) message_statement_count
unfolding MessageStatementOf
message_statement syntax d m =
    either (do r ← reserved; nothing (omega arith))
    (either (do o ← oneof syntax d; nothing (omega arith))
    (either (do e ← extend syntax d; nothing (omega arith))
    (either (do m ← m; nothing (omega (arith, statement_list m.body)))
    (either (do e ← enum d; nothing (omega arith))
    (either (do e ← extensions_in syntax; nothing (omega arith))
    (either (do o ← option d; nothing (omega arith))
    (do f ← field syntax d; nothing (omega arith))))))))

message_of : {n : ℕ} (syntax : Syntax) (d : ℕ) {M : List Lexeme → MessageSyntax → Type 0} →
    Costs 0 M (λ m. 1 + in_message m) → Costs n (MessageOf syntax d M) (λ m. suc n + in_message m)
unfolding MessageOf
message_of syntax d m =
    at_place (λ t. do
      skip
      name ← one
      body ← braced (message_statement syntax d m)
      nothing (omega arith))

message : (syntax : Syntax) (d : ℕ) {n : ℕ} →
    Costs n (IsMessage syntax d) (λ m. suc n + in_message m)
unfolding Level
message syntax zero = never
message syntax (suc d) = message_of syntax d (message syntax d)

-- ---- services

method_end : {n : ℕ} (d : ℕ) → Costs n (IsMethodEnd d) (λ os. n + length os)
unfolding IsMethodEnd
method_end d =
    either
    (do skip; nothing (omega arith))
    (do skip; options ← statements (option d); skip; nothing (omega (arith, ones options)))

rpc : {n : ℕ} (d : ℕ) → Costs n (IsRpc d) (λ m. suc n + in_method m)
unfolding IsRpc
rpc d =
    at_place (λ t. do
      skip
      name ← one
      input ← skip
      skip
      output ← skip
      options ← method_end d
      nothing (omega arith))

stream : {n : ℕ} (d : ℕ) → Costs n (IsStream d) (λ m. suc n + in_method m)
unfolding IsStream
stream d =
    at_place (λ t. do
      skip
      called ← one
      skip
      input ← skip
      skip
      output ← skip
      skip
      options ← method_end d
      nothing (omega arith))

stream_in : {n : ℕ} (syntax : Syntax) (d : ℕ) →
    Costs n (IsStreamIn syntax d) (λ m. suc n + in_method m)
unfolding IsStreamIn
stream_in Proto2 d = stream d
stream_in Proto3 d = never

service_statement : (syntax : Syntax) (d : ℕ) →
    Costs 0 (IsServiceStatement syntax d) service_statement_count
unfolding IsServiceStatement
service_statement syntax d =
    either (do m ← rpc d; nothing (omega arith))
    (either (do m ← stream_in syntax d; nothing (omega arith))
    (do o ← option d; nothing (omega arith)))

service : {n : ℕ} (syntax : Syntax) (d : ℕ) →
    Costs n (IsService syntax d) (λ s. suc n + in_service s)
unfolding IsService
service syntax d =
    at_place (λ t. do
      skip
      name ← one
      body ← braced (service_statement syntax d)
      nothing (omega arith))

-- ---- files

import_statement : {n : ℕ} → Costs n IsImport (λ i. suc n)
unfolding IsImport
import_statement = at_place (λ t. do w ← one; skip)

package_statement : {n : ℕ} → Costs n IsPackage (λ p. suc n)
unfolding IsPackage
package_statement = at_place (λ t. do w ← one; skip)

file_statement : (syntax : Syntax) (d : ℕ) → Costs 0 (IsFileStatement syntax d) statement_count
unfolding IsFileStatement
file_statement syntax d =
    either (do i ← import_statement; nothing (omega arith))
    (either (do p ← package_statement; nothing (omega arith))
    (either (do o ← option d; nothing (omega arith))
    (either (do m ← message syntax d; nothing (omega arith))
    (either (do e ← enum d; nothing (omega arith))
    (either (do e ← extend syntax d; nothing (omega arith))
    (do s ← service syntax d; nothing (omega arith)))))))

file : (d : ℕ) → Costs 0 (IsFileOf d) statements_in
unfolding IsFileOf
file d = do
  syntax ← skip
  body ← statements (file_statement syntax d)
  nothing (omega arith)

-- a file has no more statements than tokens
pub file_cost : (ts : List Lexeme) (t : FileSyntax) → IsFile ts t → statements_in t ≤ length ts
file_cost ts t h = omega (arith, (file h.0).cost ts t h.1)
