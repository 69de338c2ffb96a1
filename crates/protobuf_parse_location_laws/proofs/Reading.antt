-- In the tree that tokens say no field of a oneof has a label.
use Rattle.std.proofs.Common.{◌⊎◌, inl, inr, ℕ, zero, suc, Bool, List, [], ◌∷◌, ◌++◌, flat_map}
use Rattle.std.proofs.Common.{Option, Some, None, codes, refl, subst, sym}
use Rattle.std.specs.Prelude.{⊤, IfSome}
use Rattle.std.specs.List.{AllByRecursion}
use Rattle.protobuf_parse_grammar.specs.Relations.{At, Either, Level, Many, Never, Nothing, Then}
use Rattle.protobuf_parse_grammar.specs.Relations.{Unless, more, none, somes}
use Rattle.protobuf_parse_lexer.specs.Classes.{is_one_of, words}
use Rattle.protobuf_parse_lexer.specs.Tokens.{Lexeme}
use Rattle.protobuf_parse_lexer.specs.declared.lexer.token.Place.{Place}
use Rattle.protobuf_parse_syntax.specs.Grammar.{AfterLabel, Braced, GroupOf, IsField, IsFile}
use Rattle.protobuf_parse_syntax.specs.Grammar.{IsFileOf, IsFileStatement, IsMessage, IsOneof}
use Rattle.protobuf_parse_syntax.specs.Grammar.{IsOneofField, IsOneofStatement, Item, MessageOf}
use Rattle.protobuf_parse_syntax.specs.Grammar.{MessageStatementOf, NormalFieldOf, Statements}
use Rattle.protobuf_parse_syntax.specs.Grammar.{labels, statement_words, table_words}
use Rattle.protobuf_parse_syntax.specs.Trees.{FieldStatementSyntax, FileSyntax, MessageSyntax}
use Rattle.protobuf_parse_syntax.specs.Trees.{MessageStatementSyntax, OneofStatementSyntax}
use Rattle.protobuf_parse_syntax.specs.Trees.{TypeSyntax}
use Rattle.protobuf_parse_syntax.specs.Trees.{message_oneof, message_statements}
use Rattle.protobuf_parse_syntax.specs.declared.tree.Syntax.{Syntax}
use Rattle.protobuf_parse_model.specs.Statements.{oneof_fields}
use Rattle.protobuf_parse_location_laws.specs.Standing.{HasNoLabel, InBody, InFileStatement}
use Rattle.protobuf_parse_location_laws.specs.Standing.{InStatement, OneofHasNoLabels}

-- ---- what parts of a production say

-- What tokens say by the relation has the property.
record Says {A : Type 0} (R : List Lexeme → A → Type 0) (P : A → Type 0) : Type 0 where
  says : (ts : List Lexeme) (a : A) → R ts a → P a

abbrev Any : {A : Type 0} → A → Type 0
Any a = ⊤

any : {A : Type 0} {R : List Lexeme → A → Type 0} → Says R Any
any = record { says = λ ts a h. tt }

infixl 10 ◌>>=◌
◌>>=◌ : {A B : Type 0} {R : List Lexeme → A → Type 0} {S : A → List Lexeme → B → Type 0}
    {P : A → Type 0} {Q : B → Type 0} → Says R P → ((x : (a : A) × P a) → Says (S x.0) Q)
    → Says (Then R S) Q
r >>= s = record {
  says = λ ts b h. (s (h.value, r.says h.front h.value h.first)).says h.back b h.second;
}

infixl 10 ◌>>◌
◌>>◌ : {A B : Type 0} {R : List Lexeme → A → Type 0} {S : List Lexeme → B → Type 0} {P : A → Type 0}
    {Q : B → Type 0} → Says R P → Says S Q → Says (Then R (λ a. S)) Q
r >> s = r >>= (λ x. s)

nothing : {A : Type 0} {a : A} {P : A → Type 0} → P a → Says (Nothing a) P
nothing {P = P} p = record { says = λ ts b h. subst P (sym h.1) p }

never : {A : Type 0} {P : A → Type 0} → Says Never P
never = record { says = λ ts a h. absurd h }

either : {A : Type 0} {R S : List Lexeme → A → Type 0} {P : A → Type 0} → Says R P → Says S P
    → Says (Either R S) P
either {A = A} {R = R} {S = S} {P = P} r s = record { says = go }
  where
    go : (ts : List Lexeme) (a : A) → R ts a ⊎ S ts a → P a
    go ts a (inl h) = r.says ts a h
    go ts a (inr h) = s.says ts a h

many : {A : Type 0} {R : List Lexeme → A → Type 0} {P : A → Type 0} → Says R P
    → Says (Many R) (AllByRecursion P)
many {A = A} {R = R} {P = P} r = record { says = go }
  where
    go : (ts : List Lexeme) (as' : List A) → Many R ts as' → AllByRecursion P as'
    go _ _ none = tt
    go _ _ (more {ts = ts} {us = us} {a = a} {as' = as'} h hs) = (r.says ts a h, go us as' hs)

unless : {A : Type 0} {test : Lexeme → Bool} {R : List Lexeme → A → Type 0} {P : A → Type 0}
    → Says R P → Says (Unless test R) P
unless r = record { says = λ ts a h. r.says ts a h.0 }

-- a part that may depend on its first token
at_first : {A : Type 0} {R : Lexeme → List Lexeme → A → Type 0} {P : A → Type 0}
    → ((t : Lexeme) → Says (R t) P) → Says (At (λ (t : Lexeme). t) R) P
at_first {A = A} {R = R} {P = P} r = record { says = go }
  where
    go : (ts : List Lexeme) (a : A) → At (λ (t : Lexeme). t) R ts a → P a
    go [] a h = absurd h
    go (t ∷ ts) a h = (r t).says (t ∷ ts) a h

-- the statements that are there
somes_have : {A : Type 0} (P : A → Type 0) (items : List (Option A))
    → AllByRecursion (λ o. IfSome o P) items → AllByRecursion P (somes items)
somes_have P [] h = tt
somes_have P (None ∷ items) h = somes_have P items h.1
somes_have P (Some a ∷ items) h = (h.0, somes_have P items h.1)

statements : {A : Type 0} {R : List Lexeme → A → Type 0} {P : A → Type 0} → Says R P
    → Says (Statements R) (AllByRecursion P)
statements {A = A} {R = R} {P = P} r = do items ← many item; nothing (somes_have P items.0 items.1)
  where
    item : Says (Item R) (λ (o : Option A). IfSome o P)
    item = either (do any; nothing tt) (do s ← r; nothing s.1)

braced : {A : Type 0} {R : List Lexeme → A → Type 0} {P : A → Type 0} → Says R P
    → Says (Braced R) (AllByRecursion P)
braced r = do any; body ← statements r; any; nothing body.1

-- ---- oneofs

normal_field : (d : ℕ) (T : List Lexeme → TypeSyntax → Type 0) (place : Place)
    → Says (NormalFieldOf d T place None) HasNoLabel
unfolding NormalFieldOf
normal_field d T place =
    do type_ ← any; name ← any; any; number ← any; options ← any; any; nothing refl

group_field : (F : List Lexeme → FieldStatementSyntax → Type 0) (place : Place)
    → Says (GroupOf F place None) HasNoLabel
unfolding GroupOf
group_field F place = do name ← any; any; number ← any; fields ← any; nothing refl

without_label : (d : ℕ) (F : List Lexeme → FieldStatementSyntax → Type 0) (place : Place)
    → Says (AfterLabel d F place None) HasNoLabel
unfolding AfterLabel
without_label d F place = either (group_field F place) (normal_field d _ place)

field_in_oneof : (syntax : Syntax) (d : ℕ) → Says (IsOneofField syntax d) HasNoLabel
unfolding IsOneofField
field_in_oneof syntax d =
    at_first
    (λ t. unless {test = is_one_of (words (codes "map" ∷ table_words labels ++ statement_words))}
    (without_label d (IsField syntax d) t.place))

-- the fields of a statement of a oneof have no label
abbrev FieldsHaveNoLabels : OneofStatementSyntax → Type 0
FieldsHaveNoLabels s = AllByRecursion HasNoLabel (oneof_fields s)

oneof_statement : (syntax : Syntax) (d : ℕ) → Says (IsOneofStatement syntax d) FieldsHaveNoLabels
unfolding IsOneofStatement
oneof_statement syntax d =
    either (do o ← any; nothing tt) (do f ← field_in_oneof syntax d; nothing (f.1, tt))

all_of_both : {A : Type 0} (P : A → Type 0) (xs ys : List A) → AllByRecursion P xs
    → AllByRecursion P ys → AllByRecursion P (xs ++ ys)
all_of_both P [] ys h k = k
all_of_both P (x ∷ xs) ys h k = (h.0, all_of_both P xs ys h.1 k)

fields_of_all : (ss : List OneofStatementSyntax) → AllByRecursion FieldsHaveNoLabels ss
    → AllByRecursion HasNoLabel (flat_map oneof_fields ss)
fields_of_all [] h = tt
fields_of_all (s ∷ ss) h = all_of_both HasNoLabel (oneof_fields s) _ h.0 (fields_of_all ss h.1)

oneof : (syntax : Syntax) (d : ℕ)
    → Says (IsOneof syntax d) (λ o. OneofHasNoLabels (message_oneof o))
unfolding IsOneof
oneof syntax d = at_first (λ t. do
  any
  name ← any
  body ← braced (oneof_statement syntax d)
  nothing (fields_of_all body.0 body.1))

-- ---- messages

abbrev InMessage : MessageSyntax → Type 0
InMessage m = AllByRecursion (InStatement OneofHasNoLabels) m.body

in_body : (ss : List MessageStatementSyntax) → AllByRecursion (InStatement OneofHasNoLabels) ss
    → InBody OneofHasNoLabels (message_statements ss)
in_body [] h = tt
in_body (s ∷ ss) h = (h.0, in_body ss h.1)

message_statement : (syntax : Syntax) (d : ℕ) {M : List Lexeme → MessageSyntax → Type 0}
    → Says M InMessage → Says (MessageStatementOf syntax d M) (InStatement OneofHasNoLabels)
unfolding MessageStatementOf
message_statement syntax d m =
    either (do r ← any; nothing tt)
    (either (do o ← oneof syntax d; nothing o.1)
    (either (do e ← any; nothing tt)
    (either (do m ← m; nothing (in_body m.0.body m.1))
    (either (do e ← any; nothing tt)
    (either (do e ← any; nothing tt)
    (either (do o ← any; nothing tt)
    (do f ← any; nothing tt)))))))

message : (syntax : Syntax) (d : ℕ) → Says (IsMessage syntax d) InMessage
unfolding Level MessageOf
message syntax zero = never
message syntax (suc d) = at_first (λ t. do
  any
  name ← any
  body ← braced (message_statement syntax d (message syntax d))
  nothing body.1)

-- ---- files

file_statement : (syntax : Syntax) (d : ℕ)
    → Says (IsFileStatement syntax d) (InFileStatement OneofHasNoLabels)
unfolding IsFileStatement
file_statement syntax d =
    either (do i ← any; nothing tt)
    (either (do p ← any; nothing tt)
    (either (do o ← any; nothing tt)
    (either (do m ← message syntax d; nothing (in_body m.0.body m.1))
    (either (do e ← any; nothing tt)
    (either (do e ← any; nothing tt)
    (do s ← any; nothing tt))))))

file : (d : ℕ)
    → Says (IsFileOf d) (λ t. AllByRecursion (InFileStatement OneofHasNoLabels) t.statements)
unfolding IsFileOf
file d = do syntax ← any; body ← statements (file_statement syntax.0 d); nothing body.1

pub oneofs_have_no_labels : (ts : List Lexeme) (t : FileSyntax) → IsFile ts t
    → AllByRecursion (InFileStatement OneofHasNoLabels) t.statements
oneofs_have_no_labels ts t h = (file h.0).says ts t h.1
