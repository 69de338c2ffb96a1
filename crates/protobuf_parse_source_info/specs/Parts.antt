-- Parts of declarations, as walks: which locations they have, in order. The numbers in paths are
-- those of the fields in descriptor.proto. A production writes its own location first and then
-- those of its parts, a line a part.
use Rattle.std.specs.Prelude.{ℕ, ◌+◌, ◌-◌, ◌^◌, min, Bool, true, false, List, [], ◌∷◌, ◌++◌}
use Rattle.std.specs.Prelude.{Some, if◌then◌else◌, bytes_eq, codes}
use Rattle.protobuf_parse_lexer.specs.Text.{Bytes}
use Rattle.protobuf_parse_syntax.specs.Trees.{OptionNameSyntax, builtin, custom, OptionSyntax}
use Rattle.protobuf_parse_syntax.specs.Trees.{OptionStatementSyntax, TypeSyntax, scalar, map_of}
use Rattle.protobuf_parse_syntax.specs.Trees.{named, RangeSyntax, ReservedSyntax}
use Rattle.protobuf_parse_syntax.specs.Trees.{reserved_ranges, reserved_names}
use Rattle.protobuf_parse_source_info.specs.Walks.{Path, Walk, nothing, ◌>>◌, if_next, seeing}
use Rattle.protobuf_parse_source_info.specs.Walks.{one as token, located, part, mark, declared}
use Rattle.protobuf_parse_source_info.specs.Walks.{declared_from, Range, again, noting, empties}
use Rattle.protobuf_parse_source_info.specs.Walks.{dots, up_to_end}

-- ---- paths

-- a field of the message at a path
abbrev pub at : Path → ℕ → Path
at p n = p ++ n ∷ []

-- an item of a repeated field
abbrev pub nth : Path → ℕ → ℕ → Path
nth p n i = p ++ n ∷ i ∷ []

-- the index behind an index; no text has as many items as would reach the last one
abbrev pub next : ℕ → ℕ
next i = min (i + 1) (2 ^ 32 - 1)

-- ---- names

-- name = [ "." ] ident { "." ident }
unfoldable pub name : Walk
name = if_next (codes ".") token nothing >> token >> dots

-- the word, the name and `{`
unfoldable pub head : Path → Walk
head p =
    token  -- `message`, `enum`, ..
    >> part (at p 1) token  -- name
    >> token  -- `{`

-- ---- options

-- "option" optname "=" constant ";", in the options message at the path. The option's own path goes
-- on with what its name is resolved to.
unfoldable pub option_declared : Path → OptionStatementSyntax → Walk
option_declared p s = seeing (λ a.
    declared_from (mark a) p (Some s.option.name)
    (token  -- `option`
    >> up_to_end
    >> token)  -- `;`
    nothing)

-- the same, inside of the location of the options message
unfoldable pub option_statement : Path → OptionStatementSyntax → Walk
option_statement p s = part p (option_declared p s)

-- optname "=" constant, in brackets
unfoldable pub option_item : Path → OptionSyntax → Walk
option_item p o = located p (Some o.name) up_to_end

-- `default` and `json_name` are fields of a field's descriptor. `default` has the location of its
-- value; `json_name` has two, that of all and that of its value.
unfoldable pub default_item : Path → Walk
default_item field =
    token  -- `default`
    >> token  -- `=`
    >> part (at field 7) up_to_end  -- default_value

-- "json_name" "=" str
unfoldable pub json_name_item : Path → Walk
json_name_item field =
    part (at field 10)  -- json_name
    (token  -- `json_name`
    >> token  -- `=`
    >> part (at field 10) up_to_end)  -- json_name

-- the name of an option is this word
abbrev pub is_word : Bytes → OptionNameSyntax → Bool
is_word w (builtin n) = bytes_eq n w
is_word w (custom parts) = false

-- an option in the brackets of a field
unfoldable pub field_item : Path → OptionSyntax → Walk
field_item field o =
    if is_word (codes "default") o.name then default_item field
    else (if is_word (codes "json_name") o.name then json_name_item field
    else option_item (at field 8) o)

-- an option in the brackets of a field or of an enum's value
unfoldable pub item : (owner : Path) (is_field : Bool) → OptionSyntax → Walk
item p true o = field_item p o
item p false o = option_item (at p 3) o

-- each, with the `,` or the `]` behind it
unfoldable pub items : (owner : Path) (is_field : Bool) → List OptionSyntax → Walk
items p f [] = nothing
items p f (o ∷ os) = item p f o >> token >> items p f os

-- the number of the options of a field, or of an enum's value
abbrev pub options_number : (is_field : Bool) → ℕ
options_number true = 8
options_number false = 3

-- "[" item { "," item } "]"
unfoldable pub brackets : (owner : Path) (is_field : Bool) → List OptionSyntax → Walk
brackets p f os = part (at p (options_number f)) (token >> items p f os)

-- the same, where it stands
unfoldable pub options : (owner : Path) (is_field : Bool) → List OptionSyntax → Walk
options p f [] = nothing
options p f (o ∷ os) = brackets p f (o ∷ os)

-- the options of a block, with empty statements between them
unfoldable pub option_block : Path → List OptionStatementSyntax → Walk
option_block p [] = empties
option_block p (o ∷ os) = empties >> option_statement p o >> option_block p os

-- ---- types

-- the tokens of a type
unfoldable pub type_tokens : TypeSyntax → Walk
type_tokens (scalar s) = token
type_tokens (named n) = name
type_tokens (map_of k v) =
    token  -- `map`
    >> token  -- `<`
    >> type_tokens k
    >> token  -- `,`
    >> type_tokens v
    >> token  -- `>`

-- Only a scalar word is `type`; a map is a name as any.
abbrev pub type_number : TypeSyntax → ℕ
type_number (scalar s) = 5  -- type
type_number (map_of k v) = 6  -- type_name
type_number (named n) = 6  -- type_name

-- the type of a field
unfoldable pub type_walk : Path → TypeSyntax → Walk
type_walk p t = part (at p (type_number t)) (type_tokens t)

-- ---- numbers

-- [ "-" ] int
unfoldable pub number : Path → Walk
number p = part p (if_next (codes "-") token nothing >> token)

-- [ "to" ( int | "max" ) ] behind the start of a range, which is the end too if it stands alone
unfoldable pub range_end : Path → Range → Walk
range_end r start =
    if_next (codes "to")
    (token  -- `to`
    >> part (at r 2) token)  -- end
    (again (at r 2) start)  -- end

-- int [ "to" ( int | "max" ) ]
unfoldable pub range : Path → Walk
range r = part r (noting (part (at r 1) token) (range_end r))  -- start

-- range { "," range }, as the items from this one on
unfoldable pub ranges : Path → ℕ → ℕ → List RangeSyntax → Walk
ranges p n i [] = nothing
ranges p n i (r ∷ rs) =
    range (nth p n i) >> if_next (codes ",") token nothing >> ranges p n (next i) rs

-- str { "," str }
unfoldable pub names : Path → ℕ → ℕ → List Bytes → Walk
names p n i [] = nothing
names p n i (s ∷ ss) =
    part (nth p n i) up_to_end >> if_next (codes ",") token nothing >> names p n (next i) ss

-- "reserved" range { "," range } ";"
unfoldable pub reserved_ranges_walk : Path → ℕ → ℕ → List RangeSyntax → Walk
reserved_ranges_walk p n i rs = declared (at p n) (token >> ranges p n i rs >> token) nothing

-- "reserved" str { "," str } ";"
unfoldable pub reserved_names_walk : Path → ℕ → ℕ → List Bytes → Walk
reserved_names_walk p n i ss = declared (at p n) (token >> names p n i ss >> token) nothing

-- A `reserved` statement, by the numbers of its ranges and of its names. So many of each stand
-- before it.
unfoldable pub reserved : Path → ℕ → ℕ → ℕ → ℕ → ReservedSyntax → Walk
reserved p n m i j (reserved_ranges rs) = reserved_ranges_walk p n i rs
reserved p n m i j (reserved_names ss) = reserved_names_walk p m j ss
