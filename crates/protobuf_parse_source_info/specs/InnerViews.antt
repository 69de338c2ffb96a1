-- No public clause rests on this file.
-- What a walker has found and has left to do.
use Rattle.std.specs.Prelude.{◌≡◌, ℕ, zero, suc, List, [], ◌∷◌, ◌++◌, map, Option, Some, None}
use Rattle.std.specs.Prelude.{option_map, drop}
use Rattle.protobuf_parse_syntax.specs.Trees.{OptionNameSyntax}
use Rattle.protobuf_parse_source_info.specs.Spots.{Spot}
use Rattle.protobuf_parse_source_info.specs.Fields as fields
use Rattle.protobuf_parse_source_info.specs.Walks as walks
use Rattle.protobuf_parse_source_info.specs.Walks.{Path, Ahead, GapsAround, Located, Walk, around}
use Rattle.protobuf_parse_source_info.specs.Walks.{taking, past_first_empty}
use Rattle.protobuf_parse_source_info.specs.Views.{name_seen}
use Rattle.protobuf_parse_source_info.specs.declared.found.Found.{Found}
use Rattle.protobuf_parse_source_info.specs.declared.found.Gaps.{Gaps}
use Rattle.protobuf_parse_source_info.specs.declared.found.Mark.{Mark}
use Rattle.protobuf_parse_source_info.specs.declared.found.Range.{Range}
use Rattle.protobuf_parse_source_info.specs.declared.token.Point.{Point}
use Rattle.protobuf_parse_source_info.specs.declared.token.Token.{Token}
use Rattle.protobuf_parse_source_info.specs.declared.walker.Walker.{Walker}
use Rattle.protobuf_parse_source_info.specs.declared.walker.fields.Owner.{Owner}

-- a token
abbrev pub spot : Token → Spot
spot t = record { text = t.text.now; from = t.from; to = t.to }

-- the gaps of a declaration
abbrev pub gaps_view : Gaps → GapsAround
gaps_view g = record { skipped = g.skipped.items; before = g.before; behind = g.behind }

-- a location
abbrev pub found_view : Found → Located
found_view f = record {
  path = f.path.items;
  from = f.from;
  to = f.to;
  option = option_map name_seen f.option;
  gaps = option_map gaps_view f.gaps;
}

-- where a location begins
abbrev pub mark_view : Mark → walks.Mark
mark_view m = record { skipped = m.skipped.items; before = m.before; from = m.from }

-- tokens side by side
abbrev pub range_view : Range → walks.Range
range_view r = record { from = r.from; to = r.to }

-- where the fields of a body go
abbrev pub owner_view : Owner → fields.Owner
owner_view o = record { path = o.path.now; fields = o.fields; messages = o.messages }

-- what was found, and what lies ahead
pub record Doing : Type 0 where
  pub found : List Located
  pub ahead : Ahead

abbrev pub doing : Walker → Doing
doing w = record {
  found = map found_view w.found.items;
  ahead = record {
    skipped = w.skipped.items;
    last = w.last;
    tokens = map spot (drop w.taken w.tokens.now);
    end = w.end;
  };
}

-- the next token, which is an empty statement
unfoldable pub one_empty : Walk
one_empty = taking (λ a. past_first_empty a a.tokens)

-- after this walk
unfoldable pub ran : Walk → Doing → Doing
ran w d = record { found = d.found ++ (w d.ahead).found; ahead = (w d.ahead).left }

-- From the one to the other the walk was taken. A record, so that its parts are found by inference.
pub record Takes (w : Walk) (old new : Doing) : Type 0 where
  pub is : new ≡ ran w old

-- a location that begins there and has no end yet
abbrev pub begun : Point → Option OptionNameSyntax → Path → Located
begun from o p = record { path = p; from = from; to = from; option = o; gaps = None }

-- with it
unfoldable pub opened : Point → Option OptionNameSyntax → Path → Doing → Doing
opened from o p d = record { found = d.found ++ begun from o p ∷ []; ahead = d.ahead }

-- with this location changed
abbrev pub changed : (Located → Located) → ℕ → List Located → List Located
changed f n [] = []
changed f zero (l ∷ ls) = f l ∷ ls
changed f (suc n) (l ∷ ls) = l ∷ changed f n ls

abbrev pub with_gaps : GapsAround → Located → Located
with_gaps g l = record l { gaps = Some g }

abbrev pub with_end : Point → Located → Located
with_end p l = record l { to = p }

-- with the gaps of this declaration, which began there and whose head ends here
unfoldable pub headed : ℕ → walks.Mark → Doing → Doing
headed n m d =
    record { found = changed (with_gaps (around m d.ahead)) n d.found; ahead = d.ahead }

-- with this location ended
unfoldable pub closed : ℕ → Doing → Doing
closed n d = record { found = changed (with_end d.ahead.last) n d.found; ahead = d.ahead }
