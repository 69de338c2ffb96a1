-- How a walk over tokens is put together: which tokens it takes, and which locations it finds.
use Rattle.std.specs.Prelude.{ℕ, ◌+◌, ◌-◌, ◌==◌, ◌&&◌, ◌||◌, Bool, false, List, [], ◌∷◌, ◌++◌}
use Rattle.std.specs.Prelude.{Option, Some, None, if◌then◌else◌, bytes_eq, codes}
use Rattle.protobuf_parse_lexer.specs.Text.{Bytes}
use Rattle.protobuf_parse_syntax.specs.Trees.{OptionNameSyntax}
use Rattle.protobuf_parse_source_info.specs.Spots.{Spot}
use Rattle.protobuf_parse_source_info.specs.declared.found.Between.{Between}
use Rattle.protobuf_parse_source_info.specs.declared.token.Point.{Point}

-- the numbers of fields, and indexes in their lists, that lead from a file's descriptor to a part
abbrev pub Path : Type 0
Path = List ℕ

-- What is left of a text: the gaps before the empty statements that stand directly before the next
-- token; where the token before it ends; the tokens; and where the text ends.
pub record Ahead : Type 0 where
  pub skipped : List Between
  pub last : Point
  pub tokens : List Spot
  pub end : Point

-- the gaps around a declaration: those before the empty statements directly before it, the one
-- before it, and the one behind its head
pub record GapsAround : Type 0 where
  pub skipped : List Between
  pub before : Between
  pub behind : Between

-- A location: its path, where its first token begins and its last one ends, the option's name if it
-- is an option's, and the gaps if it is a declaration's.
pub record Located : Type 0 where
  pub path : Path
  pub from : Point
  pub to : Point
  pub option : Option OptionNameSyntax
  pub gaps : Option GapsAround

-- what was found, and what is left
pub record Walked : Type 0 where
  pub found : List Located
  pub left : Ahead

-- what a walk finds and leaves, by what lies ahead of it
abbrev pub Walk : Type 0
Walk = Ahead → Walked

-- ---- one token

-- the next token, if one is left
abbrev pub first : List Spot → Option Spot
first [] = None
first (t ∷ ts) = Some t

-- where the next token begins, or the text ends
abbrev pub front_of : Point → Option Spot → Point
front_of end None = end
front_of end (Some t) = t.from

-- the same of what lies ahead
abbrev pub front : Ahead → Point
front a = front_of a.end (first a.tokens)

-- the gap before the next token
abbrev pub gap : Ahead → Between
gap a = record { from = a.last.byte; to = (front a).byte }

-- the next token has this text
abbrev pub first_is : Bytes → Option Spot → Bool
first_is w None = false
first_is w (Some t) = bytes_eq t.text w

-- the same of what lies ahead
abbrev pub sees : Bytes → Ahead → Bool
sees w a = first_is w (first a.tokens)

-- behind a token, with those left, and with these gaps of empty statements
abbrev pub behind : Ahead → List Between → Spot → List Spot → Ahead
behind a gaps t ts = record { skipped = gaps; last = t.to; tokens = ts; end = a.end }

-- what lies ahead, with these tokens left
abbrev pub with_left : Ahead → List Spot → Ahead
with_left a ts = record { skipped = a.skipped; last = a.last; tokens = ts; end = a.end }

-- behind the first of these tokens, if there is one
abbrev pub past_first : Ahead → List Spot → Ahead
past_first a [] = with_left a []
past_first a (t ∷ ts) = behind a [] t ts

-- behind the next token
abbrev pub past : Ahead → Ahead
past a = past_first a a.tokens

-- ---- walks

-- it takes this and finds nothing
abbrev pub taking : (Ahead → Ahead) → Walk
taking f a = record { found = []; left = f a }

-- the next token
unfoldable pub one : Walk
one = taking past

-- no token
unfoldable pub nothing : Walk
nothing = taking (λ a. a)

infixl 10 ◌>>◌
-- one walk and then another
unfoldable pub ◌>>◌ : Walk → Walk → Walk
◌>>◌ v w a =
    record { found = (v a).found ++ (w (v a).left).found; left = (w (v a).left).left }

-- the one where this token is next, else the other
unfoldable pub if_next : Bytes → Walk → Walk → Walk
if_next w v u a = if sees w a then v a else u a

-- a walk that depends on what lies ahead of it
unfoldable pub seeing : (Ahead → Walk) → Walk
seeing w a = w a a

-- ---- locations

-- all that the walk takes, an option's or not
unfoldable pub located : Path → Option OptionNameSyntax → Walk → Walk
located p o w a = record {
  found =
      record { path = p; from = front a; to = (w a).left.last; option = o; gaps = None }
      ∷ (w a).found;
  left = (w a).left;
}

-- a part: all that the walk takes
abbrev pub part : Path → Walk → Walk
part p w = located p None w

-- what a location says of where it begins
pub record Mark : Type 0 where
  pub skipped : List Between
  pub before : Between
  pub from : Point

-- before the next token
abbrev pub mark : Ahead → Mark
mark a = record { skipped = a.skipped; before = gap a; from = front a }

-- the gaps of a declaration that begins there and whose head ends before the next token
abbrev pub around : Mark → Ahead → GapsAround
around m a = record { skipped = m.skipped; before = m.before; behind = gap a }

-- A declaration that began there: its head, up to the `{` or `;` that ends it, and what stands
-- behind that.
unfoldable pub declared_from : Mark → Path → Option OptionNameSyntax → Walk → Walk → Walk
declared_from m p o head body a = record {
  found =
      record {
        path = p;
        from = m.from;
        to = ((head >> body) a).left.last;
        option = o;
        gaps = Some (around m (head a).left);
      }
      ∷ ((head >> body) a).found;
  left = ((head >> body) a).left;
}

-- a declaration that begins with the next token
unfoldable pub declared : Path → Walk → Walk → Walk
declared p head body a = declared_from (mark a) p None head body a

-- ---- tokens with more than one location

-- tokens that stand side by side
pub record Range : Type 0 where
  pub from : Point
  pub to : Point

-- another location of tokens that were taken before
unfoldable pub again : Path → Range → Walk
again p r a = record {
  found = record { path = p; from = r.from; to = r.to; option = None; gaps = None } ∷ [];
  left = a;
}

-- a walk, and then one that knows which tokens it took
unfoldable pub noting : Walk → (Range → Walk) → Walk
noting v w a = (v >> w (record { from = front a; to = (v a).left.last })) a

-- the tokens that the one walk takes behind those of another
abbrev pub range_behind : Walk → Walk → Ahead → Range
range_behind v w a = record { from = front (v a).left; to = (w (v a).left).left.last }

-- ---- runs of tokens

-- the same, where that token is an empty statement
abbrev pub past_first_empty : Ahead → List Spot → Ahead
past_first_empty a [] = with_left a []
past_first_empty a (t ∷ ts) = behind a (a.skipped ++ gap (with_left a (t ∷ ts)) ∷ []) t ts

-- behind the empty statements at the front of these tokens
abbrev pub past_empties : Ahead → List Spot → Ahead
past_empties a [] = with_left a []
past_empties a (t ∷ ts) =
    if bytes_eq t.text (codes ";") then past_empties (past_first_empty a (t ∷ ts)) ts
    else with_left a (t ∷ ts)

-- the empty statements that come next
unfoldable pub empties : Walk
empties = taking (λ a. past_empties a a.tokens)

-- behind the dots at the front of these tokens, each with the token behind it
abbrev pub past_dots : Ahead → List Spot → Ahead
past_dots a [] = with_left a []
past_dots a (t ∷ []) =
    if bytes_eq t.text (codes ".") then behind a [] t [] else with_left a (t ∷ [])
past_dots a (t ∷ u ∷ ts) =
    if bytes_eq t.text (codes ".") then past_dots (behind a [] u ts) ts
    else with_left a (t ∷ u ∷ ts)

-- dots, each with the identifier behind it
unfoldable pub dots : Walk
dots = taking (λ a. past_dots a a.tokens)

-- `{` or `[`
abbrev pub opens : Bytes → Bool
opens w = bytes_eq w (codes "{") || bytes_eq w (codes "[")

-- `}` or `]`
abbrev pub closes : Bytes → Bool
closes w = bytes_eq w (codes "}") || bytes_eq w (codes "]")

-- how many brackets are open behind a token
abbrev pub deeper : ℕ → Bytes → ℕ
deeper d w = if opens w then d + 1 else (if closes w then d - 1 else d)

-- one of these ends an item of a list, or a statement
abbrev pub ends_item : Bytes → Bool
ends_item w = bytes_eq w (codes ",") || bytes_eq w (codes ";") || bytes_eq w (codes "]")

-- before the end of an item, where so many brackets are open that it stands in
abbrev pub past_item : ℕ → Ahead → List Spot → Ahead
past_item d a [] = with_left a []
past_item d a (t ∷ ts) =
    if d == 0 && ends_item t.text then with_left a (t ∷ ts)
    else past_item (deeper d t.text) (behind a [] t ts) ts

-- the same inside of so many brackets
unfoldable pub up_to_end_in : ℕ → Walk
up_to_end_in d = taking (λ a. past_item d a a.tokens)

-- the tokens before the next `,`, `;` or `]` that stands in no further brackets
unfoldable pub up_to_end : Walk
up_to_end = up_to_end_in 0
