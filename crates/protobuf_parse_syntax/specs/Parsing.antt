-- What is promised of a file's tokens, and of its text.
use Rattle.std.specs.Prelude.{◌≡◌, ◌<◌, ◌⊎◌, ℕ, List, [], ◌∷◌, ◌++◌, length, Some, None, true}
use Rattle.std.specs.Prelude.{false, codes}
use Rattle.std.specs.Prelude.{Result, MatchResult}
use Rattle.protobuf_parse_base.specs.Paths.{path_fault}
use Rattle.protobuf_parse_grammar.specs.Relations.{Rel, Many, Nothing, BeginsOtherwise, StopsAt}
use Rattle.protobuf_parse_grammar.specs.Relations.{◌>>=◌, ◌>>◌}
use Rattle.protobuf_parse_lexer.specs.Text.{Bytes}
use Rattle.protobuf_parse_base.specs.Characters as char
use Rattle.protobuf_parse_lexer.specs.Tokens.{Lexeme}
use Rattle.protobuf_parse_lexer.specs.Cut.{Stream, HasTokens, IsRefused, out_of_memory, located}
use Rattle.protobuf_parse_lexer.specs.Classes.{Class, symbol, word, words, ident, float}
use Rattle.protobuf_parse_lexer.specs.Classes.{text as string_token, is_one_of, is_floating}
use Rattle.protobuf_parse_lexer.specs.Tokens.{StandsFor}
use Rattle.protobuf_parse_lexer.specs.declared.error.ParserError.{ParserError}
use Rattle.protobuf_parse_lexer.specs.declared.error.ParserError.TheVariants as error
use Rattle.protobuf_parse_lexer.specs.declared.error.ParserErrorWithLocation.{ParserErrorWithLocation}
use Rattle.protobuf_parse_lexer.specs.declared.lexer.token.Place.{Place}
use Rattle.protobuf_parse_lexer.specs.declared.lexer.token.TokenKind.{TokenKind}
use Rattle.protobuf_parse_lexer.specs.declared.lexer.token.TokenKind.TheVariants as kind
use Rattle.protobuf_parse_syntax.specs.Trees.{Pieces, OptionPartSyntax, OptionSyntax, FileSyntax}
use Rattle.protobuf_parse_syntax.specs.Trees.{ConstantSyntax, ConstantNameSyntax}
use Rattle.protobuf_parse_syntax.specs.Grammar.{IsWord, IsSymbol, IsComma, IsOptionPart, IsNextPart}
use Rattle.protobuf_parse_syntax.specs.Grammar.{IsAssignment, IsEnumNumber, IsVisibility}
use Rattle.protobuf_parse_syntax.specs.Grammar.{IsReservedName, IsStr, IsFile, name_of, place_of}
use Rattle.protobuf_parse_syntax.specs.Grammar.{other_constants, labels, table_words, IsSyntax}
use Rattle.protobuf_parse_syntax.specs.Grammar.{IsOptionName, IsConstant, ConstantFieldOf}
use Rattle.protobuf_parse_syntax.specs.Grammar.{IsConstantName}
use Rattle.protobuf_parse_syntax.specs.Grammar.{statement_words, capital_ident}
use Rattle.protobuf_parse_syntax.specs.declared.tree.ImportVis.{ImportVis}
use Rattle.protobuf_parse_syntax.specs.declared.tree.Syntax.{Syntax}
use Rattle.protobuf_parse_syntax.specs.declared.tree.Syntax.TheVariants.{Proto3}

-- ---- tokens without a tree

-- the tokens say no tree
abbrev pub NoTree : List Lexeme → Type 0
NoTree ts = (t : FileSyntax) → IsFile ts t → ⊥

-- a token at the place, of which, with what stands before and behind it, P holds
pub record StandsAt (P : List Lexeme → Lexeme → List Lexeme → Type 0)
    (ts : List Lexeme) (place : Place) : Type 0 where
  pub front : List Lexeme
  pub token : Lexeme
  pub back : List Lexeme
  pub parts : ts ≡ front ++ token ∷ back
  pub at : place ≡ token.place
  pub is : P front token back

-- such a token at the place
abbrev pub TokenAt : (Lexeme → Type 0) → List Lexeme → Place → Type 0
TokenAt P = StandsAt (λ front t back. P t)

-- an integer of over 2147483647
abbrev pub IsLargeKind : TokenKind → Type 0
IsLargeKind (kind.Integer n) = 2147483647 < n
IsLargeKind _ = ⊥

-- a token that is one
abbrev pub IsLarge : Lexeme → Type 0
IsLarge t = IsLargeKind t.kind

-- a token with which no constant begins, and which is no float
abbrev pub BeginsNoConstant : Lexeme → Type 0
BeginsNoConstant t = is_one_of (float ∷ symbol char.open_brace ∷ other_constants) t ≡ false

-- a label's word
abbrev pub IsLabelWord : Lexeme → Type 0
IsLabelWord t = is_one_of (words (table_words labels)) t ≡ true

-- a dot, or an identifier that is neither a label's word nor one with which another statement
-- begins
abbrev pub IsUnlabelled : Lexeme → Type 0
IsUnlabelled t =
    is_one_of (symbol char.dot ∷ ident (table_words labels ++ statement_words) ∷ []) t ≡ true

-- an identifier that does not begin with an ASCII capital
abbrev pub IsLowName : Lexeme → Type 0
IsLowName t = (is_one_of (ident [] ∷ []) t ≡ true) × (capital_ident t ≡ None)

-- this word
abbrev pub IsTheWord : Bytes → Lexeme → Type 0
IsTheWord w t = is_one_of (word w ∷ []) t ≡ true

-- such an identifier directly behind the word `group`
abbrev pub LowGroupName : List Lexeme → Lexeme → List Lexeme → Type 0
LowGroupName front t back =
    IsLowName t × ((before : List Lexeme) × (group : Lexeme) × (front ≡ before ++ group ∷ [])
    × IsTheWord (codes "group") group)

-- a word with which a statement begins that is neither a field nor a oneof
abbrev pub IsOtherStatement : Lexeme → Type 0
IsOtherStatement t = (is_one_of (words statement_words) t ≡ true)
    × (is_one_of (word (codes "oneof") ∷ []) t ≡ false)

-- The file does not begin with a `syntax` statement that says proto3.
abbrev pub NotProto3 : List Lexeme → Type 0
NotProto3 ts = (front : List Lexeme) (back : List Lexeme) → ts ≡ front ++ back
    → IsSyntax front Proto3 → ⊥

-- a hundred parts of an option's name, each but the first behind a dot, and one more dot
pub record HundredParts (ts : List Lexeme) : Type 0 where
  pub first : List Lexeme
  pub others : List Lexeme
  pub dot : Lexeme
  pub parts : ts ≡ first ++ (others ++ dot ∷ [])
  pub part : OptionPartSyntax
  pub is : IsOptionPart first part
  pub more : List OptionPartSyntax
  pub are : Many IsNextPart others more
  pub hundred : length more ≡ 99
  pub dotted : is_one_of (symbol char.dot ∷ []) dot ≡ true

-- an item of a list, and the comma behind it
abbrev pub IsEarlier : {A : Type 0} → Rel Lexeme A → Rel Lexeme A
IsEarlier R = do item ← R; IsComma; Nothing item

-- The bracket that opens a list of options, whose constants nest in so many levels, and the options
-- that stand before one of them.
abbrev pub ListFront : ℕ → Rel Lexeme (List OptionSyntax)
ListFront n = do IsSymbol char.open_bracket; Many (IsEarlier (IsAssignment n))

-- `=`, the number of a field or of an enum's value, and these
abbrev pub ListHead : ℕ → Rel Lexeme (List OptionSyntax)
ListHead n = do IsSymbol char.equals; number ← IsEnumNumber; ListFront n

-- The tokens directly behind which an option's name begins: the word `option`; or in a list of
-- options what stands before it, from the `=` of its field or its enum's value on.
abbrev pub OptionHead : List Lexeme → Type 0
OptionHead ts = IsWord (codes "option") ts tt
    ⊎ ((n : ℕ) × (earlier : List OptionSyntax) × ListHead n ts earlier)

-- The tokens end with the first hundred parts of an option's name and their dots.
abbrev pub EndsWithParts : List Lexeme → Type 0
EndsWithParts ts =
    (before : List Lexeme) × (head : List Lexeme) × (name : List Lexeme)
    × (ts ≡ before ++ (head ++ name)) × OptionHead head × HundredParts name

-- the first token of part 101 of an option's name
abbrev pub NextPart : List Lexeme → Lexeme → List Lexeme → Type 0
NextPart front t back =
    EndsWithParts front × (is_one_of (ident [] ∷ symbol char.open_paren ∷ []) t ≡ true)

-- an option's name, and the `=` behind it
abbrev pub NameHead : Rel Lexeme (Unit {0})
NameHead = do name ← IsOptionName; IsSymbol char.equals

-- The bracket that opens a list of constants, which nest in so many levels, and those that stand
-- before one of them.
abbrev pub ItemHead : ℕ → Rel Lexeme (List ConstantSyntax)
ItemHead n = do IsSymbol char.open_bracket; Many (IsEarlier (IsConstant n))

-- The brace that opens a message constant, whole fields, and the name of one more.
abbrev pub FieldHead : ℕ → Rel Lexeme ConstantNameSyntax
FieldHead n = do
  IsSymbol char.open_brace
  fields ← Many (ConstantFieldOf (IsConstant n))
  IsConstantName

-- these, and a colon
abbrev pub ColonHead : ℕ → Rel Lexeme (Unit {0})
ColonHead n = do name ← FieldHead n; IsSymbol char.colon

-- the first token is one of these
abbrev pub BeginsWith : List Class → List Lexeme → Type 0
BeginsWith cs [] = ⊥
BeginsWith cs (t ∷ ts) = is_one_of cs t ≡ true

-- From the first token of a constant on, what stands before one that is inside of it, however deep;
-- nothing stands before the constant itself. Without a colon a field's value is a message constant.
pub data ConstantFront : List Lexeme → Type 0 where
  nothing : ConstantFront []
  in_list : (n : ℕ) (ts us : List Lexeme) (earlier : List ConstantSyntax) → ItemHead n ts earlier
      → ConstantFront us → ConstantFront (ts ++ us)
  in_field : (n : ℕ) (ts us : List Lexeme) → ColonHead n ts tt → ConstantFront us
      → ConstantFront (ts ++ us)
  in_message : (n : ℕ) (ts us : List Lexeme) (name : ConstantNameSyntax) → FieldHead n ts name
      → BeginsWith (symbol char.open_brace ∷ []) us → ConstantFront us → ConstantFront (ts ++ us)

-- The tokens end with what a constant of an option stands behind: what the option begins behind,
-- its name and `=`, and what stands before the constant in the option's value.
abbrev pub EndsWithValue : List Lexeme → Type 0
EndsWithValue ts =
    (before : List Lexeme) × (head : List Lexeme) × (name : List Lexeme) × (front : List Lexeme)
    × (ts ≡ before ++ (head ++ (name ++ front))) × OptionHead head × NameHead name tt
    × ConstantFront front

-- a float; or a sign, and a float, `inf` or `nan` behind it
abbrev pub IsFloating : Lexeme → List Lexeme → Type 0
IsFloating t [] = is_one_of (float ∷ []) t ≡ true
IsFloating t (u ∷ back) =
    (is_one_of (float ∷ []) t ≡ true)
    ⊎ ((is_one_of (symbol char.plus ∷ symbol char.minus ∷ []) t ≡ true) × (is_floating u ≡ true))

-- such a token where a constant begins
abbrev pub FloatValue : List Lexeme → Lexeme → List Lexeme → Type 0
FloatValue front t back = EndsWithValue front × IsFloating t back

-- Why neighbouring strings say nothing that may stand there: they stand for a text that is no
-- version (S10), for no text at all (S15), or for a text that has this fault as a proto path (S19).
abbrev pub SaysNothing : Pieces → ParserError → Type 0
SaysNothing pieces error.UnknownSyntax =
    (text : Bytes) × StandsFor pieces text × ((syntax : Syntax) → text ≡ name_of syntax → ⊥)
SaysNothing pieces error.StrLitDecode = (text : Bytes) → StandsFor pieces text → ⊥
SaysNothing pieces (error.BadImportPath e) =
    (text : Bytes) × StandsFor pieces text × (path_fault text ≡ Some e)
SaysNothing pieces _ = ⊥

-- `syntax` `=`
abbrev pub SyntaxHead : Rel Lexeme (Unit {0})
SyntaxHead = do IsWord (codes "syntax"); IsSymbol char.equals

-- `import`, `import weak` or `import public`
abbrev pub ImportHead : Rel Lexeme ImportVis
ImportHead = do IsWord (codes "import"); IsVisibility

-- The tokens end with those.
abbrev pub EndsWithImport : List Lexeme → Type 0
EndsWithImport ts =
    (before : List Lexeme) × (head : List Lexeme) × (vis : ImportVis)
    × (ts ≡ before ++ head) × ImportHead head vis

-- `reserved`, and the names that stand before one of its list
abbrev pub ReservedHead : Rel Lexeme (List Bytes)
ReservedHead = do IsWord (codes "reserved"); Many (IsEarlier IsReservedName)

-- The tokens end with those.
abbrev pub EndsWithReserved : List Lexeme → Type 0
EndsWithReserved ts =
    (before : List Lexeme) × (head : List Lexeme) × (names : List Bytes)
    × (ts ≡ before ++ head) × ReservedHead head names

-- What stands before strings with a fault: S10 is that of `syntax`, with which the file begins, S19
-- that of an `import`, S15 that of either, or a name of a `reserved`.
abbrev pub StandsBehind : ParserError → List Lexeme → Type 0
StandsBehind error.UnknownSyntax front = SyntaxHead front tt
StandsBehind error.StrLitDecode front =
    SyntaxHead front tt ⊎ EndsWithImport front ⊎ EndsWithReserved front
StandsBehind (error.BadImportPath e) front = EndsWithImport front
StandsBehind _ front = ⊥

-- Strings that say nothing begin with the token, behind what the fault wants; no string stands
-- behind them.
pub record WrongStrings (e : ParserError)
    (front : List Lexeme) (t : Lexeme) (back : List Lexeme) : Type 0 where
  pub behind : StandsBehind e front
  pub strings : List Lexeme
  pub others : List Lexeme
  pub pieces : Pieces
  pub parts : t ∷ back ≡ strings ++ others
  pub is : IsStr strings pieces
  pub last : BeginsOtherwise (is_one_of (string_token ∷ [])) others
  pub says : SaysNothing pieces e

-- What a fault of the grammar at a place says of the tokens, which end at `last`.
--
-- S5, S8, S9, S11 to S14, S16, S17: no list of tokens that begins with those up to and with the one
-- at the place has a tree, or none has that ends there; but for S8, the token of the fault stands
-- there. S7, S10, S15, S18, S19: there is no tree, and the token of the fault stands at the place.
abbrev pub IsGrammarFault : List Lexeme → Place → ParserError → Place → Type 0
IsGrammarFault ts last error.IncorrectInput place = StopsAt place_of IsFile ts last place
IsGrammarFault ts last error.ExpectConstant place =
    StopsAt place_of IsFile ts last place × TokenAt BeginsNoConstant ts place
IsGrammarFault ts last error.LabelNotAllowed place =
    StopsAt place_of IsFile ts last place × TokenAt IsLabelWord ts place
IsGrammarFault ts last error.LabelRequired place =
    StopsAt place_of IsFile ts last place × TokenAt IsUnlabelled ts place × NotProto3 ts
IsGrammarFault ts last error.GroupNameShouldStartWithUpperCase place =
    StopsAt place_of IsFile ts last place × StandsAt LowGroupName ts place
IsGrammarFault ts last error.MapFieldNotAllowed place =
    StopsAt place_of IsFile ts last place × TokenAt (IsTheWord (codes "map")) ts place
IsGrammarFault ts last error.OneOfInGroup place =
    StopsAt place_of IsFile ts last place × TokenAt (IsTheWord (codes "oneof")) ts place
IsGrammarFault ts last error.OnlyFieldsInGroup place =
    StopsAt place_of IsFile ts last place × TokenAt IsOtherStatement ts place
IsGrammarFault ts last error.IntegerOverflow place =
    StopsAt place_of IsFile ts last place × TokenAt IsLarge ts place
IsGrammarFault ts last error.OptionNameTooLong place = NoTree ts × StandsAt NextPart ts place
IsGrammarFault ts last error.FloatConstant place = NoTree ts × StandsAt FloatValue ts place
IsGrammarFault ts last error.UnknownSyntax place =
    NoTree ts × StandsAt (WrongStrings error.UnknownSyntax) ts place
IsGrammarFault ts last error.StrLitDecode place =
    NoTree ts × StandsAt (WrongStrings error.StrLitDecode) ts place
IsGrammarFault ts last (error.BadImportPath e) place =
    NoTree ts × StandsAt (WrongStrings (error.BadImportPath e)) ts place
IsGrammarFault ts last _ place = ⊥

-- ---- texts

-- The text has at most 2147483647 bytes, is cut whole, nests at most 100 deep, and its tokens say
-- the tree.
pub record HasTree (text : Bytes) (t : FileSyntax) : Type 0 where
  pub stream : Stream
  pub tokens : HasTokens text stream
  pub file : IsFile stream.tokens t

-- What a fault at a place says of a text: it has no tokens, and why; or it has tokens, and what the
-- fault says of them.
abbrev pub IsFaultOf : Bytes → ParserError → Place → Type 0
IsFaultOf text e place =
    IsRefused text e place
    ⊎ ((s : Stream) × HasTokens text s × IsGrammarFault s.tokens s.end e place)

-- a text that has no tokens is refused with its fault there, unless memory runs out
abbrev pub TellsFaults : {A : Type 0} → Bytes → Result A ParserErrorWithLocation → Type 0
TellsFaults text r =
    (e : ParserError) (at : Place) → IsRefused text e at →
    MatchResult r (λ _. ⊥) (λ f. (f ≡ out_of_memory) ⊎ (f ≡ located e at))
