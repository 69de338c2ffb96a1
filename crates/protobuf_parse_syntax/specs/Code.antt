-- No public clause rests on this file.
-- What the parser's functions say of readers.
use Rattle.std.specs.Prelude.{◌≡◌, ◌⊎◌, ℕ, Bool, true, false, Option, Some, None, List, [], ◌∷◌}
use Rattle.std.specs.Prelude.{◌++◌, Result, Ok, Err, codes}
use Rattle.std.specs.Option.{option_to_list}
use Rattle.std.proofs.Common.{ap, ◌∙◌, refl, inl, inr}
use Rattle.protobuf_parse_base.specs.Characters as char
use Rattle.protobuf_parse_grammar.specs.Readers.{Rest, end, token, onto, Read, read, stuck, wrong}
use Rattle.protobuf_parse_grammar.specs.Readers.{stopped, deep, bind}
use Rattle.protobuf_parse_grammar.specs.Relations.{Rel, Many}
use Rattle.protobuf_parse_grammar.specs.Whole.{whole}
use Rattle.protobuf_parse_base.specs.declared.proto_path.error.PathError.{PathError}
use Rattle.protobuf_parse_lexer.specs.Text.{Bytes, seen_by}
use Rattle.protobuf_parse_lexer.specs.AheadViews.{lies_ahead}
use Rattle.protobuf_parse_lexer.specs.Tokens.{Lexeme}
use Rattle.protobuf_parse_lexer.specs.Classes.{Class, symbol, ident, is_one_of, float, is_floating}
use Rattle.protobuf_parse_lexer.specs.Cut.{Stream, out_of_memory, error_place}
use Rattle.protobuf_parse_lexer.specs.Cut.{located as located_at}
use Rattle.protobuf_parse_lexer.specs.declared.lexer.token.Place.{Place}
use Rattle.protobuf_parse_lexer.specs.declared.error.ParserError.{ParserError}
use Rattle.protobuf_parse_lexer.specs.declared.error.ParserErrorWithLocation.{ParserErrorWithLocation}
use Rattle.protobuf_parse_lexer.specs.declared.error.ParserError.TheVariants as error
use Rattle.protobuf_parse_lexer.specs.declared.lexer.str_lit.StrLitDecodeError.{StrLitDecodeError}
use Rattle.protobuf_parse_lexer.specs.declared.lexer.str_lit.StrLitDecodeError.TheVariants as decoding
use Rattle.protobuf_parse_syntax.specs.Trees.{Pieces, OptionSyntax, ConstantNameSyntax}
use Rattle.protobuf_parse_syntax.specs.Trees.{ConstantFieldSyntax}
use Rattle.protobuf_parse_syntax.specs.Grammar.{any_ident, IsComma, IsSymbol, IsConstantName}
use Rattle.protobuf_parse_syntax.specs.Grammar.{ConstantFieldOf, IsConstant}
use Rattle.protobuf_parse_syntax.specs.Parsing.{IsLarge, SaysNothing, HundredParts, OptionHead}
use Rattle.protobuf_parse_syntax.specs.Parsing.{ImportHead, SyntaxHead, ReservedHead, IsEarlier}
use Rattle.protobuf_parse_syntax.specs.Parsing.{ListFront, IsGrammarFault, BeginsNoConstant}
use Rattle.protobuf_parse_syntax.specs.Parsing.{IsLabelWord, IsUnlabelled, IsLowName, IsTheWord}
use Rattle.protobuf_parse_syntax.specs.Parsing.{IsOtherStatement, ConstantFront, BeginsWith}
use Rattle.protobuf_parse_syntax.specs.Parsing.{NameHead}
use Rattle.protobuf_parse_syntax.specs.Productions as parse
use Rattle.protobuf_parse_syntax.specs.declared.tree.ImportVis.{ImportVis}
use Rattle.protobuf_parse_syntax.specs.declared.tree.Syntax.{Syntax}
use Rattle.protobuf_parse_syntax.specs.declared.tree.Syntax.TheVariants.{Proto2}
use Rattle.protobuf_parse_syntax.specs.declared.parser.refusal.Refusal.{Refusal}
use Rattle.protobuf_parse_syntax.specs.declared.parser.refusal.Refusal.TheVariants.{Memory, Fault}
use Rattle.protobuf_parse_syntax.specs.declared.parser.refusal.Refusal.TheVariants.{NoField}
use Rattle.protobuf_parse_syntax.specs.declared.parser.refusal.Refusal.TheVariants.{NoGroupField}
use Rattle.protobuf_parse_syntax.specs.declared.parser.refusal.Refusal.TheVariants.{NoOneofField}
use Rattle.protobuf_parse_syntax.specs.declared.parser.cursor.Cursor.{Cursor}

-- the tokens that are left, and the place of the end
abbrev pub left : Cursor → Rest Lexeme Place
left c = whole (lies_ahead c.tokens).tokens (lies_ahead c.tokens).end

-- no token is left
abbrev pub is_end : Rest Lexeme Place → Bool
is_end (end m) = true
is_end (token t rest) = false

-- ---- why nothing is read

-- Tokens from one on that cannot stand there, and those before it that are told with it; tokens from
-- the first one on of a part that says nothing; or parts that nest deeper than was looked at.
pub data Failure : Type 0 where
  at : List Lexeme → Rest Lexeme Place → Failure
  off : Rest Lexeme Place → Failure
  too_deep : Failure

abbrev pub failed : {Y : Type 0} → Failure → Read Lexeme Place Y
failed (at before rest) = stopped before rest
failed (off rest) = wrong rest
failed too_deep = deep

-- the next token is one of these
abbrev pub comes : List Class → Rest Lexeme Place → Bool
comes cs (end m) = false
comes cs (token t rest) = is_one_of cs t

-- a token comes next of which this holds
abbrev pub NextIs : (Lexeme → Type 0) → Rest Lexeme Place → Type 0
NextIs P (end m) = ⊥
NextIs P (token t rest) = P t

-- a float comes next; or a sign, and a float, `inf` or `nan` second
abbrev pub FloatNext : Rest Lexeme Place → Type 0
FloatNext (end m) = ⊥
FloatNext (token t (end m)) = is_one_of (float ∷ []) t ≡ true
FloatNext (token t (token u rest)) =
    (is_one_of (float ∷ []) t ≡ true)
    ⊎ ((is_one_of (symbol char.plus ∷ symbol char.minus ∷ []) t ≡ true) × (is_floating u ≡ true))

-- a float, `inf` or `nan` comes second
abbrev pub floats_second : Rest Lexeme Place → Bool
floats_second (token t (token u rest)) = is_floating u
floats_second _ = false

-- the identifier that comes next
abbrev pub next_ident : Rest Lexeme Place → Option Bytes
next_ident (end m) = None
next_ident (token t rest) = any_ident t

-- strings come next that say nothing
abbrev pub SaysNot : ParserError → Rest Lexeme Place → Type 0
SaysNot e after = (pieces : Pieces) × (rest : Rest Lexeme Place)
    × (parse.str.run after ≡ read pieces rest) × SaysNothing pieces e

-- the first token of a part of an option's name comes next
abbrev pub begins_part : Rest Lexeme Place → Bool
begins_part after = comes (ident [] ∷ symbol char.open_paren ∷ []) after

-- what a fault at the next token says of it
abbrev pub Stands : ParserError → Rest Lexeme Place → Type 0
Stands error.IncorrectInput after = Unit {0}
Stands error.ExpectConstant after = NextIs BeginsNoConstant after
Stands error.IntegerOverflow after = NextIs IsLarge after
Stands _ after = ⊥

-- refusals that say no more of the next token than that it cannot stand there
abbrev pub IsNextRefused : Refusal → Type 0
IsNextRefused Memory = ⊥
IsNextRefused (Fault error.IncorrectInput) = Unit {0}
IsNextRefused (Fault _) = ⊥
IsNextRefused NoField = Unit {0}
IsNextRefused NoGroupField = Unit {0}
IsNextRefused NoOneofField = Unit {0}

-- ---- a fault in a part

-- What a fault says of a part: of its tokens up to the fault, and of those from there on.
abbrev pub Wrongs : Type 1
Wrongs = ParserError → List Lexeme → Rest Lexeme Place → Type 0

-- behind such tokens something is wrong
abbrev pub Behind : (List Lexeme → Type 0) → Wrongs → Wrongs
Behind Front P e used after = (front : List Lexeme) × (back : List Lexeme)
    × (used ≡ front ++ back) × Front front × P e back after

-- A string says nothing: it has one of these faults.
abbrev pub Unsaid : (ParserError → Type 0) → Wrongs
Unsaid faults e used after = faults e × (used ≡ []) × SaysNot e after

-- the faults of a string of which the text, the version or the path is wanted
abbrev pub of_text : ParserError → Type 0
of_text e = e ≡ error.StrLitDecode

abbrev pub of_version : ParserError → Type 0
of_version e = (e ≡ error.StrLitDecode) ⊎ (e ≡ error.UnknownSyntax)

abbrev pub of_path : ParserError → Type 0
of_path e = (e ≡ error.StrLitDecode) ⊎ ((p : PathError) × (e ≡ error.BadImportPath p))

-- an option's name has more than a hundred parts
abbrev pub LongName : Wrongs
LongName e used after =
    (e ≡ error.OptionNameTooLong) × HundredParts used × (begins_part after ≡ true)

-- the items of a list before one of them, each with the comma behind it
abbrev pub AreEarlier : {A : Type 0} → Rel Lexeme A → List Lexeme → Type 0
AreEarlier {A = A} R ts = (earlier : List A) × Many (IsEarlier R) ts earlier

-- a comma
abbrev pub IsCommaAlone : List Lexeme → Type 0
IsCommaAlone ts = IsComma ts tt

-- a colon
abbrev pub IsColon : List Lexeme → Type 0
IsColon ts = IsSymbol char.colon ts tt

-- A float stands where a constant begins, or where one inside of it does.
abbrev pub InConstant : Wrongs
InConstant e used after =
    (e ≡ error.FloatConstant) × ConstantFront used × FloatNext after

-- in the value of a field of a message constant, behind a colon or behind none
abbrev pub InValue : Wrongs
InValue e used after = Behind IsColon InConstant e used after
    ⊎ (BeginsWith (symbol char.open_brace ∷ []) used × InConstant e used after)

-- the name of such a field
abbrev pub IsFieldName : List Lexeme → Type 0
IsFieldName ts = (name : ConstantNameSyntax) × IsConstantName ts name

-- in such a field
abbrev pub InField : Wrongs
InField = Behind IsFieldName InValue

-- fields of a message constant
abbrev pub AreFields : ℕ → List Lexeme → Type 0
AreFields n ts = (fields : List ConstantFieldSyntax) × Many (ConstantFieldOf (IsConstant n)) ts fields

-- an option's name and the `=` behind it
abbrev pub IsNameHead : List Lexeme → Type 0
IsNameHead ts = NameHead ts tt

-- what is wrong in an option: its name is too long, or a float stands in its value
abbrev pub InOption : Wrongs
InOption e used after = LongName e used after ⊎ Behind IsNameHead InConstant e used after

-- with what statements begin in which something may be wrong: `syntax`, an import, reserved names,
-- and options in brackets
abbrev pub IsSyntaxHead : List Lexeme → Type 0
IsSyntaxHead ts = SyntaxHead ts tt

abbrev pub IsImportHead : List Lexeme → Type 0
IsImportHead ts = (vis : ImportVis) × ImportHead ts vis

abbrev pub IsReservedHead : List Lexeme → Type 0
IsReservedHead ts = (names : List Bytes) × ReservedHead ts names

abbrev pub IsListFront : ℕ → List Lexeme → Type 0
IsListFront n ts = (earlier : List OptionSyntax) × ListFront n ts earlier

-- what is wrong in these statements
abbrev pub NoVersion : Wrongs
NoVersion = Behind IsSyntaxHead (Unsaid of_version)

abbrev pub NoPath : Wrongs
NoPath = Behind IsImportHead (Unsaid of_path)

abbrev pub NoName : Wrongs
NoName = Behind IsReservedHead (Unsaid of_text)

abbrev pub NoOption : Wrongs
NoOption = Behind OptionHead InOption

-- What a fault of the part that begins next says of it, and of the tokens before it: they end with
-- the head of a statement.
abbrev pub Says : Wrongs
Says e used after = (before : List Lexeme) × (part : List Lexeme) × (used ≡ before ++ part)
    × (NoOption e part after ⊎ NoPath e part after ⊎ NoName e part after)

-- the word `group` stands directly before a name that does not begin with a capital
abbrev pub LowBehind : ParserError → Rest Lexeme Place → Failure → Type 0
LowBehind e after f = (e ≡ error.GroupNameShouldStartWithUpperCase)
    × ((group : Lexeme) × (f ≡ at (group ∷ []) after) × IsTheWord (codes "group") group
    × NextIs IsLowName after)

-- what such a fault says of why nothing is read
abbrev pub Tells : ParserError → Rest Lexeme Place → Failure → Type 0
Tells e after f =
    ((e ≡ error.NestingTooDeep) × (f ≡ too_deep))
    ⊎ LowBehind e after f
    ⊎ ((used : List Lexeme) × (f ≡ off (onto used after)) × Says e used after)

-- Memory ran out; or the tokens from the next one on cannot stand there; or nothing is read of the
-- part that begins there, and why.
abbrev pub Fails : {Y : Type 0} → Refusal → Rest Lexeme Place → Read Lexeme Place Y → Type 0
Fails Memory after r = Unit {0}
Fails (Fault e) after r =
    ((r ≡ stuck after) × Stands e after)
    ⊎ ((f : Failure) × (r ≡ failed f) × Tells e after f)
Fails NoField after r = r ≡ stuck after
Fails NoGroupField after r = r ≡ stuck after
Fails NoOneofField after r = r ≡ stuck after

-- What a function returned, seen by view, is what was read, and the cursor stands behind it or at
-- the fault, unless memory ran out.
abbrev pub Gives : {X Y : Type 0} → (X → Y) → Result X Refusal → Rest Lexeme Place
    → Read Lexeme Place Y → Type 0
Gives view (Ok x) after r = r ≡ read (view x) after
Gives view (Err e) after r = Fails e after r

-- What a function returned, if it returned anything, seen by view, is what was read, and the cursor
-- stands behind it; else it stands where it stood.
abbrev pub GivesSome : {X Y : Type 0} → (X → Y) → Option X → Rest Lexeme Place → Rest Lexeme Place
    → Read Lexeme Place Y → Type 0
GivesSome view (Some x) before after r = r ≡ read (view x) after
GivesSome view None before after r = after ≡ before

-- What a function put behind a list, seen by view, is what was read, and the cursor stands behind
-- it or at the fault, unless memory ran out.
abbrev pub Puts : {X Y : Type 0} → (X → Y) → Result (Unit {0}) Refusal → List X → List X
    → Rest Lexeme Place → Read Lexeme Place Y → Type 0
Puts {X = X} view (Ok u) old new after r =
    (x : X) × (new ≡ old ++ x ∷ []) × (r ≡ read (view x) after)
Puts view (Err e) old new after r = Fails e after r

-- the same where perhaps nothing was to be put
abbrev pub PutsSome : {X Y : Type 0} → (X → Y) → Result (Unit {0}) Refusal → List X → List X
    → Rest Lexeme Place → Read Lexeme Place (Option Y) → Type 0
PutsSome {X = X} view (Ok u) old new after r =
    (x : Option X) × (new ≡ old ++ option_to_list x) × (r ≡ read (seen_by view x) after)
PutsSome view (Err e) old new after r = Fails e after r

-- Or it is refused in another way too.
abbrev pub GivesOr : {X Y : Type 0} → (Refusal → Rest Lexeme Place → Read Lexeme Place Y → Type 0)
    → (X → Y) → Result X Refusal → Rest Lexeme Place → Read Lexeme Place Y → Type 0
GivesOr P view (Ok x) after r = r ≡ read (view x) after
GivesOr P view (Err e) after r = Fails e after r ⊎ P e after r

-- The part that begins at `before` is wrong somewhere in it, and what is wrong there.
abbrev pub IsWrong : Wrongs → Rest Lexeme Place → {Y : Type 0} → Refusal → Rest Lexeme Place
    → Read Lexeme Place Y → Type 0
IsWrong P before e after r = (x : ParserError) × (e ≡ Fault x)
    × ((start : Rest Lexeme Place) × (r ≡ wrong start))
    × ((used : List Lexeme) × (before ≡ onto used after) × P x used after)

-- behind a dot comes a part too many
abbrev pub TooMany : {Y : Type 0} → Refusal → Rest Lexeme Place → Read Lexeme Place Y → Type 0
TooMany e after r = (e ≡ Fault error.OptionNameTooLong) × (r ≡ wrong after)
    × (begins_part after ≡ true)

-- what a string's error is to the parser
abbrev pub refusal_of : StrLitDecodeError → Refusal
refusal_of decoding.Memory = Memory
refusal_of decoding.BadEscape = Fault error.StrLitDecode
refusal_of decoding.NotUtf8 = Fault error.StrLitDecode

-- ---- what fails first fails

-- what has each of the failures of another part fails as that does
pub fails_alike : {Y Z : Type 0} (e : Refusal) (after : Rest Lexeme Place) (r : Read Lexeme Place Y)
    (q : Read Lexeme Place Z) → ((f : Failure) → r ≡ failed f → q ≡ failed f) → Fails e after r
    → Fails e after q
fails_alike Memory after r q same h = tt
fails_alike (Fault e) after r q same (inl h) = inl (same (at [] after) h.0, h.1)
fails_alike (Fault e) after r q same (inr h) = inr (h.0, same h.0 h.1, h.2)
fails_alike NoField after r q same h = same (at [] after) h
fails_alike NoGroupField after r q same h = same (at [] after) h
fails_alike NoOneofField after r q same h = same (at [] after) h

failed_bind : {Y Z : Type 0} (f : Failure) (g : Y → Rest Lexeme Place → Read Lexeme Place Z)
    → bind (failed f) g ≡ failed f
failed_bind (at before rest) g = refl
failed_bind (off rest) g = refl
failed_bind too_deep g = refl

pub fails_first : {Y Z : Type 0} (e : Refusal) (after : Rest Lexeme Place) (r : Read Lexeme Place Y)
    (g : Y → Rest Lexeme Place → Read Lexeme Place Z) → Fails e after r → Fails e after (bind r g)
fails_first {Y = Y} e after r g =
    fails_alike e after r (bind r g)
    (λ f is. ap (λ (x : Read Lexeme Place Y). bind x g) is ∙ failed_bind f g)

-- ---- the file

-- What a fault says of the next token, with which no statement of a body begins, in a file of this
-- version.
abbrev pub Unfit : Syntax → ParserError → Rest Lexeme Place → Type 0
Unfit syntax error.IncorrectInput after = Unit {0}
Unfit syntax error.LabelNotAllowed after = NextIs IsLabelWord after
Unfit syntax error.LabelRequired after = (syntax ≡ Proto2) × NextIs IsUnlabelled after
Unfit syntax error.MapFieldNotAllowed after = NextIs (IsTheWord (codes "map")) after
Unfit syntax error.OneOfInGroup after = NextIs (IsTheWord (codes "oneof")) after
Unfit syntax error.OnlyFieldsInGroup after = NextIs IsOtherStatement after
Unfit syntax _ after = ⊥

-- in a file of either version
abbrev pub UnfitInBoth : ParserError → Rest Lexeme Place → Type 0
UnfitInBoth e after = (syntax : Syntax) → Unfit syntax e after

-- the fault of a refusal where these tokens are left, in a file of this version
abbrev pub ToldAs : Syntax → Refusal → Rest Lexeme Place → Refusal → Type 0
ToldAs syntax Memory after told = told ≡ Memory
ToldAs syntax (Fault e) after told = told ≡ Fault e
ToldAs syntax _ after told = (e : ParserError) × (told ≡ Fault e) × Unfit syntax e after

-- A file is refused in two ways more: its version is none, or the next token begins no statement of
-- a body, in its version.
abbrev pub FileFails : Rest Lexeme Place → {Y : Type 0} → Refusal → Rest Lexeme Place
    → Read Lexeme Place Y → Type 0
FileFails before e after r = IsWrong NoVersion before e after r
    ⊎ ((x : ParserError) × (e ≡ Fault x) × (r ≡ stuck after)
    × ((syntax : Syntax) × (us : Rest Lexeme Place)
    × (parse.version_statement.run before ≡ read syntax us) × Unfit syntax x after))

-- what a refusal says of the tokens, where the next one, or the end, stands at `next`
abbrev pub RefusesFile : List Lexeme → Place → Refusal → Place → Type 0
RefusesFile ts last Memory next = Unit {0}
RefusesFile ts last (Fault e) next = IsGrammarFault ts last e next
RefusesFile ts last _ next = IsGrammarFault ts last error.IncorrectInput next

-- the error of a refusal, where the next token stands at this place
abbrev pub error_at : Refusal → Place → ParserErrorWithLocation
error_at Memory next = out_of_memory
error_at (Fault e) next = located_at e next
error_at _ next = located_at error.IncorrectInput next

-- the error says of these tokens what cannot stand there
abbrev pub IsFaultOfTokens : Stream → ParserErrorWithLocation → Type 0
IsFaultOfTokens s e = IsGrammarFault s.tokens s.end e.error (error_place e)
