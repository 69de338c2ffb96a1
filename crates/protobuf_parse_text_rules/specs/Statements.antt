-- What only the tokens of a text tell: that no `syntax` statement begins it, a `+`, an enum's value and an `extensions` statement without
-- their `;`, a method that begins with `stream`, and a `;` alone in a oneof or an `extend` (Protocol
-- Buffers Language Specification (proto2), "Enum definition", "Extensions", "Service definition",
-- "Oneof and oneof field", "Extend", https://protobuf.dev, have none of these). Tokens are told apart
-- by their texts: that of a string has its quotes.
use Rattle.std.specs.Prelude.{ℕ, ◌+◌, ◌-◌, nat_eq, nat_le, Bool, true, false, not, ◌||◌, ◌&&◌}
use Rattle.std.specs.Prelude.{if◌then◌else◌, List, [], ◌∷◌, ◌++◌, drop, flat_map, bytes_eq, codes}
use Rattle.protobuf_parse_lexer.specs.Text.{Bytes}
use Rattle.protobuf_parse_lexer.specs.Tokens.{Lexeme}
use Rattle.protobuf_parse_lexer.specs.declared.lexer.token.Place.{Place}
use Rattle.protobuf_parse_syntax.specs.Trees.{FileSyntax}
use Rattle.protobuf_parse_text_rules.specs.Breaches.{TextBreach, breach, breach_if}
use Rattle.protobuf_parse_text_rules.specs.Files.{tree_breaches}
use Rattle.protobuf_parse_text_rules.specs.declared.bodies.BodySeen.{BodySeen}
use Rattle.protobuf_parse_text_rules.specs.declared.rule.TextRule.{TextRule}
use Rattle.protobuf_parse_text_rules.specs.declared.rule.TextRule.TheVariants as rule

-- ---- tokens

-- whether that is the token's text
abbrev pub is_text : Bytes → Lexeme → Bool
is_text word t = bytes_eq t.text word

-- whether that is the text of the first
abbrev pub first_is : Bytes → List Lexeme → Bool
first_is word [] = false
first_is word (t ∷ ts) = is_text word t

-- the place of the first, or else this one
abbrev pub first_place : Place → List Lexeme → Place
first_place place [] = place
first_place place (t ∷ ts) = t.place

-- whether both are one
abbrev pub same_place : Place → Place → Bool
same_place a b = nat_eq a.line b.line && nat_eq a.col b.col

-- the tokens from the one at the place on
abbrev pub from : Place → List Lexeme → List Lexeme
from place [] = []
from place (t ∷ ts) = if same_place t.place place then t ∷ ts else from place ts

-- the tokens from the first of that text on
abbrev pub from_text : Bytes → List Lexeme → List Lexeme
from_text word [] = []
from_text word (t ∷ ts) = if is_text word t then t ∷ ts else from_text word ts

-- without the first, if that is its text
abbrev pub past_if : Bytes → List Lexeme → List Lexeme
past_if word [] = []
past_if word (t ∷ ts) = if is_text word t then ts else t ∷ ts

-- ---- where a statement ends

-- the tokens behind the `]` that closes a bracket in which so many others are open
abbrev pub past_closing : (inner : ℕ) → List Lexeme → List Lexeme
past_closing inner [] = []
past_closing inner (t ∷ ts) = if is_text (codes "[") t then past_closing (inner + 1) ts
    else (if not (is_text (codes "]") t) then past_closing inner ts
    else (if nat_eq inner 0 then ts else past_closing (inner - 1) ts))

-- the tokens behind options in brackets, if they stand there
abbrev pub past_options : List Lexeme → List Lexeme
past_options [] = []
past_options (t ∷ ts) = if is_text (codes "[") t then past_closing 0 ts else t ∷ ts

-- the tokens behind those of a value: its name, `=`, a number that may be negative, and options
abbrev pub behind_value : List Lexeme → List Lexeme
behind_value ts = past_options (drop 1 (past_if (codes "-") (drop 2 ts)))

-- whether a text begins with a digit
abbrev pub begins_with_digit : Bytes → Bool
begins_with_digit [] = false
begins_with_digit (b ∷ bs) = nat_le 48 b && nat_le b 57

-- whether ranges have such a token: a number, `to`, `max` and a comma
abbrev pub is_of_ranges : Lexeme → Bool
is_of_ranges t = begins_with_digit t.text
    || (is_text (codes "to") t || (is_text (codes "max") t || is_text (codes ",") t))

-- the tokens behind ranges
abbrev pub past_ranges : List Lexeme → List Lexeme
past_ranges [] = []
past_ranges (t ∷ ts) = if is_of_ranges t then past_ranges ts else t ∷ ts

-- the tokens behind those of a value, or of an `extensions` statement, but for the `;`
abbrev pub behind_statement : List Lexeme → List Lexeme
behind_statement ts =
    if first_is (codes "=") (drop 1 ts) then behind_value ts else past_ranges (drop 1 ts)

-- ---- `;` alone

-- with one token more of a body, where no brace is open in it: one behind `=` is a value's
abbrev pub seen_outside : (equals : Bool) → Lexeme → BodySeen
seen_outside equals t = if is_text (codes "{") t
    then record { inner = 1; in_value = equals; begins = false; equals = false }
    else record {
      inner = 0;
      in_value = false;
      begins = is_text (codes ";") t;
      equals = is_text (codes "=") t;
    }

-- with one token more: the statement of a value goes on behind its braces
abbrev pub seen_with : BodySeen → Lexeme → BodySeen
seen_with b t = if nat_eq b.inner 0 then seen_outside b.equals t
    else (if is_text (codes "{") t then record b { inner = b.inner + 1 }
    else (if not (is_text (codes "}") t) then b
    else (if nat_eq b.inner 1
    then record { inner = 0; in_value = false; begins = not b.in_value; equals = false }
    else record b { inner = b.inner - 1 })))

-- whether the token closes the body
abbrev pub closes : BodySeen → Lexeme → Bool
closes b t = nat_eq b.inner 0 && is_text (codes "}") t

-- whether the token is a `;` with which a statement would begin
abbrev pub is_alone : BodySeen → Lexeme → Bool
is_alone b t = nat_eq b.inner 0 && (b.begins && is_text (codes ";") t)

-- T12 at each `;` alone, up to the brace that closes the body
abbrev pub alone_in : (name : Bytes) → BodySeen → List Lexeme → List TextBreach
alone_in name b [] = []
alone_in name b (t ∷ ts) = if closes b t then []
    else breach_if (is_alone b t) rule.SemicolonAlone t.place name
    ++ alone_in name (seen_with b t) ts

-- at the beginning of a body
abbrev pub begun : BodySeen
begun = record { inner = 0; in_value = false; begins = true; equals = false }

-- of a statement with that name, whose body is behind its first brace
abbrev pub alone_breaches : (name : Bytes) → List Lexeme → List TextBreach
alone_breaches name ts = alone_in name begun (drop 1 (from_text (codes "{") ts))

-- ---- rules

-- whether the rule asks for the tokens of its statement
abbrev pub asks_tokens : TextRule → Bool
asks_tokens rule.ExtendWithoutFields = true
asks_tokens rule.StatementWithoutSemicolon = true
asks_tokens rule.MethodWithoutRpc = true
asks_tokens rule.SemicolonAlone = true
asks_tokens _ = false

-- what is broken of it where its statement begins with these tokens: T9 stands at the brace that
-- closes the `extend`, T10 where the `;` is missing, T12 at each `;`
abbrev pub broken_by : TextBreach → TextRule → List Lexeme → List TextBreach
broken_by b rule.ExtendWithoutFields ts =
    breach b.rule (first_place b.place (from_text (codes "}") ts)) b.name ∷ []
broken_by b rule.StatementWithoutSemicolon ts =
    breach_if (not (first_is (codes ";") (behind_statement ts))) b.rule
    (first_place b.place (behind_statement ts)) b.name
broken_by b rule.MethodWithoutRpc ts = breach_if (first_is (codes "stream") ts) b.rule b.place b.name
broken_by b rule.SemicolonAlone ts = alone_breaches b.name ts
broken_by b _ ts = b ∷ []

-- what is broken of all, where the statements stand one after the other among these tokens
abbrev pub broken_among : List Lexeme → List TextBreach → List TextBreach
broken_among ts [] = []
broken_among ts (b ∷ bs) = if asks_tokens b.rule
    then broken_by b b.rule (from b.place ts) ++ broken_among (from b.place ts) bs
    else b ∷ broken_among ts bs

-- T3 at a token that is a `+`
abbrev pub plus_breaches : Lexeme → List TextBreach
plus_breaches t = breach_if (is_text (codes "+") t) rule.PlusSign t.place []

-- where a text begins
abbrev pub beginning : Place
beginning = record { line = 1; col = 1 }

-- T19 at the first token, where that isn't the word of the statement that tells the version
abbrev pub version_breaches : List Lexeme → List TextBreach
version_breaches tokens = breach_if (not (first_is (codes "syntax") tokens)) rule.SyntaxMissing
    (first_place beginning tokens) []

-- what is broken in a text with these tokens and this tree
abbrev pub text_breaches : List Lexeme → FileSyntax → List TextBreach
text_breaches tokens tree = version_breaches tokens
    ++ (flat_map plus_breaches tokens ++ broken_among tokens (tree_breaches tree))
