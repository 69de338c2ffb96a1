-- No public clause rests on this file.
-- The same a piece at a time, with what a loop remembers.
use Rattle.std.specs.Prelude.{List, [], ◌∷◌, ◌++◌, Option, Some, None, Bool, true, false}
use Rattle.protobuf_parse_comments.specs.Gaps.{Bytes, Piece, Divided, block, feed, line}
use Rattle.protobuf_parse_comments.specs.declared.divide.Pending.{Pending}
use Rattle.protobuf_parse_comments.specs.declared.divide.Pending.TheVariants as pending

-- what is known of the pieces so far
pub record Doing : Type 0 where
  pub trailing : Option Bytes
  pub detached : List Bytes
  pub may_trail : Bool
  pub pending : Pending
  pub text : Bytes

-- the comment that is being read is the token's before, or nobody's
abbrev pub given : Bool → Doing → Doing
given true d = record {
  trailing = Some d.text;
  detached = d.detached;
  may_trail = false;
  pending = pending.Nothing;
  text = [];
}
given false d = record {
  trailing = d.trailing;
  detached = d.detached ++ d.text ∷ [];
  may_trail = false;
  pending = pending.Nothing;
  text = [];
}

-- it is closed, if there is one
abbrev pub closed_by : Pending → Doing → Doing
closed_by pending.Nothing d = d
closed_by pending.Line d = given d.may_trail d
closed_by pending.Block d = given d.may_trail d
closed_by pending.Fed d = given d.may_trail d

abbrev pub closed : Doing → Doing
closed d = closed_by d.pending d

-- another one is being read
abbrev pub begun : Pending → Bytes → Doing → Doing
begun p t d = record {
  trailing = d.trailing;
  detached = d.detached;
  may_trail = d.may_trail;
  pending = p;
  text = t;
}

-- none may be the token's before any more
abbrev pub no_trail : Doing → Doing
no_trail d = record {
  trailing = d.trailing;
  detached = d.detached;
  may_trail = false;
  pending = d.pending;
  text = d.text;
}

abbrev pub on_line : Pending → Bytes → Doing → Doing
on_line pending.Line t d = begun pending.Line (d.text ++ t) d
on_line _ t d = begun pending.Line t (closed d)

abbrev pub on_feed : Pending → Doing → Doing
on_feed pending.Block d = begun pending.Fed d.text d
on_feed _ d = no_trail (closed d)

-- with one piece more
abbrev pub step : Doing → Piece → Doing
step d (line t) = on_line d.pending t d
step d (block t) = begun pending.Block t (closed d)
step d feed = on_feed d.pending d

-- with several
abbrev pub steps : Doing → List Piece → Doing
steps d [] = d
steps d (p ∷ ps) = steps (step d p) ps

-- the comment that is open at the end
abbrev pub left_open : Pending → Bytes → Option Bytes
left_open pending.Nothing t = None
left_open _ t = Some t

-- the comments, where what stands behind the gap closes the last one, or not
abbrev pub finished : Bool → Doing → Divided
finished true d = record {
  trailing = (closed d).trailing;
  detached = (closed d).detached;
  leading = None;
}
finished false d = record {
  trailing = d.trailing;
  detached = d.detached;
  leading = left_open d.pending d.text;
}

-- nothing was seen
abbrev pub begin : Bool → Doing
begin may_trail = record {
  trailing = None;
  detached = [];
  may_trail = may_trail;
  pending = pending.Nothing;
  text = [];
}
