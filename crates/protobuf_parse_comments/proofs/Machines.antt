-- What is given a piece at a time is what the definition says. The induction is over the pieces, with
-- what is being read put back in front of them.
use Rattle.std.proofs.Common.{◌≡◌, ◌∙◌, List, [], ◌∷◌, ◌++◌, Option, Some, None, Bool, true, false}
use Rattle.std.proofs.Common.{ap, append_assoc, refl, sym}
use Rattle.std.proofs.lemmas.List.{append-nil}
use Rattle.protobuf_parse_comments.specs.Gaps.{Bytes, Piece, line, block, feed, line_before, joined, marks}
use Rattle.protobuf_parse_comments.specs.Gaps.{Divided, closed_of, comments_in, divided, open_of}
use Rattle.protobuf_parse_comments.specs.Machine.{Doing, given, begun, no_trail}
use Rattle.protobuf_parse_comments.specs.Machine.{steps, finished, begin}
use Rattle.protobuf_parse_comments.specs.declared.divide.Pending.{Pending}
use Rattle.protobuf_parse_comments.specs.declared.divide.Pending.TheVariants as pending

abbrev Mark : Type 0
Mark = Option Bytes

abbrev Marks : Type 0
Marks = List (Option Bytes)

-- what is being read, in front of the parts to come
abbrev ahead : Pending → Bytes → List Piece → List Piece
ahead pending.Nothing t ps = ps
ahead pending.Line t ps = line t ∷ ps
ahead pending.Block t ps = block t ∷ ps
ahead pending.Fed t ps = block t ∷ feed ∷ ps

abbrev or_else : Mark → Mark → Mark
or_else None o = o
or_else (Some t) o = Some t

-- with what was given before
abbrev onto : Mark → List Bytes → Divided → Divided
onto o ds x = record {
  trailing = or_else x.trailing o;
  detached = ds ++ x.detached;
  leading = x.leading;
}

abbrev state : Mark → List Bytes → Bool → Pending → Bytes → Doing
state o ds may p b =
    record { trailing = o; detached = ds; may_trail = may; pending = p; text = b }

abbrev trail : Bool → Mark → Bytes → Mark
trail true o b = Some b
trail false o b = o

abbrev detach : Bool → List Bytes → Bytes → List Bytes
detach true ds b = ds
detach false ds b = ds ++ b ∷ []

given_is : (may : Bool) (o : Mark) (ds : List Bytes) (p : Pending) (b : Bytes)
    → given may (state o ds may p b)
    ≡ state (trail may o b) (detach may ds b) false pending.Nothing []
given_is true o ds p b = refl
given_is false o ds p b = refl

same_list : (o : Mark) (ds : List Bytes) (l : Mark)
    → (let x : Divided = record { trailing = o; detached = ds; leading = l } in
    let y : Divided = record { trailing = o; detached = ds ++ []; leading = l } in x ≡ y)
same_list o ds l =
    ap (λ (d : List Bytes). record { trailing = o; detached = d; leading = l })
    (sym (append-nil ds))

-- a comment with a mark behind it is closed
close_one : (closes may : Bool) (o : Mark) (ds : List Bytes) (b : Bytes) (m : Mark) (ms : Marks)
    → onto o ds (divided may closes (Some b ∷ m ∷ ms))
    ≡ onto (trail may o b) (detach may ds b) (divided false closes (m ∷ ms))
close_one true true o ds b m ms = refl
close_one false true o ds b m ms = refl
close_one true false o ds b m ms =
    ap (λ (d : List Bytes). record { trailing = o; detached = d; leading = open_of true (m ∷ ms) })
    (sym (append_assoc ds (b ∷ []) (comments_in (closed_of true (m ∷ ms)))))
close_one false false o ds b m ms =
    ap (λ (d : List Bytes). record { trailing = o; detached = d; leading = open_of false (m ∷ ms) })
    (sym (append_assoc ds (b ∷ []) (comments_in (closed_of false (m ∷ ms)))))

closes_one : (closes may : Bool) (o : Mark) (ds : List Bytes) (b : Bytes) (all others : Marks)
    (m : Mark) (ms : Marks) → others ≡ m ∷ ms → all ≡ Some b ∷ others
    → onto (trail may o b) (detach may ds b) (divided false closes others)
    ≡ onto o ds (divided may closes all)
closes_one closes may o ds b all others m ms e f =
    ap (λ (x : Marks). onto (trail may o b) (detach may ds b) (divided false closes x)) e
    ∙ sym (ap (λ (x : Marks). onto o ds (divided may closes x))
    (f ∙ ap (λ (x : Marks). Some b ∷ x) e) ∙ close_one closes may o ds b m ms)

-- a blank line first: nothing behind it is trailing
blank_line : (closes may : Bool) (o : Mark) (ds : List Bytes) (ms : Marks)
    → onto o ds (divided false closes ms) ≡ onto o ds (divided may closes (None ∷ ms))
blank_line true true o ds [] = refl
blank_line true false o ds [] = refl
blank_line false true o ds [] = refl
blank_line false false o ds [] = refl
blank_line true true o ds (m ∷ ms) = refl
blank_line true false o ds (m ∷ ms) = refl
blank_line false true o ds (m ∷ ms) = refl
blank_line false false o ds (m ∷ ms) = refl

-- ---- shapes

line_line : (b u : Bytes) (ps : List Piece)
    → line_before (b ++ u) ps ≡ line_before b (line_before u ps)
line_line b u [] = refl
line_line b u (line v ∷ ps) = ap (λ (t : Bytes). line t ∷ ps) (append_assoc b u v)
line_line b u (block v ∷ ps) = refl
line_line b u (feed ∷ ps) = refl

line_mark : (u : Bytes) (ps : List Piece)
    → (m : Mark) × (ms : Marks) × (marks (line_before u ps) ≡ m ∷ ms)
line_mark u [] = (Some u, [], refl)
line_mark u (line v ∷ ps) = (Some (u ++ v), marks ps, refl)
line_mark u (block v ∷ ps) = (Some u, marks (block v ∷ ps), refl)
line_mark u (feed ∷ ps) = (Some u, None ∷ marks ps, refl)

block_mark : (u : Bytes) (ps : List Piece)
    → (m : Mark) × (ms : Marks) × (marks (block u ∷ ps) ≡ m ∷ ms)
block_mark u [] = (Some u, [], refl)
block_mark u (line v ∷ ps) = (Some u, Some v ∷ marks ps, refl)
block_mark u (block v ∷ ps) = (Some u, marks (block v ∷ ps), refl)
block_mark u (feed ∷ ps) = (Some u, marks ps, refl)

block_line : (b u : Bytes) (ps : List Piece)
    → marks (block b ∷ line_before u ps) ≡ Some b ∷ marks (line_before u ps)
block_line b u [] = refl
block_line b u (line v ∷ ps) = refl
block_line b u (block v ∷ ps) = refl
block_line b u (feed ∷ ps) = refl

-- ---- the end

at_end : (closes may : Bool) (o : Mark) (ds : List Bytes) (p : Pending) (b : Bytes)
    → finished closes (state o ds may p b)
    ≡ onto o ds (divided may closes (marks (joined (ahead p b []))))
at_end true true o ds pending.Nothing b = same_list o ds None
at_end true false o ds pending.Nothing b = same_list o ds None
at_end false true o ds pending.Nothing b = same_list o ds None
at_end false false o ds pending.Nothing b = same_list o ds None
at_end true true o ds pending.Line b = same_list (Some b) ds None
at_end true true o ds pending.Block b = same_list (Some b) ds None
at_end true true o ds pending.Fed b = same_list (Some b) ds None
at_end true false o ds pending.Line b = refl
at_end true false o ds pending.Block b = refl
at_end true false o ds pending.Fed b = refl
at_end false true o ds pending.Line b = same_list o ds (Some b)
at_end false true o ds pending.Block b = same_list o ds (Some b)
at_end false true o ds pending.Fed b = same_list o ds (Some b)
at_end false false o ds pending.Line b = same_list o ds (Some b)
at_end false false o ds pending.Block b = same_list o ds (Some b)
at_end false false o ds pending.Fed b = same_list o ds (Some b)

-- ---- a part at a time

pub steps_are : (closes : Bool) (ps : List Piece) (may : Bool) (o : Mark) (ds : List Bytes)
    (p : Pending) (b : Bytes) → finished closes (steps (state o ds may p b) ps)
    ≡ onto o ds (divided may closes (marks (joined (ahead p b ps))))
steps_are closes [] may o ds p b = at_end closes may o ds p b
steps_are closes (line u ∷ ps) may o ds pending.Nothing b =
    steps_are closes ps may o ds pending.Line u
steps_are closes (line u ∷ ps) may o ds pending.Line b =
    steps_are closes ps may o ds pending.Line (b ++ u)
    ∙ ap (λ (x : List Piece). onto o ds (divided may closes (marks x))) (line_line b u (joined ps))
steps_are closes (line u ∷ ps) may o ds pending.Block b =
    let s = line_mark u (joined ps) in
    ap (λ (d : Doing). finished closes (steps (begun pending.Line u d) ps))
    (given_is may o ds pending.Block b)
    ∙ steps_are closes ps false (trail may o b) (detach may ds b) pending.Line u
    ∙ closes_one closes may o ds b _ _ s.0 s.1 s.2 (block_line b u (joined ps))
steps_are closes (line u ∷ ps) may o ds pending.Fed b =
    let s = line_mark u (joined ps) in
    ap (λ (d : Doing). finished closes (steps (begun pending.Line u d) ps))
    (given_is may o ds pending.Fed b)
    ∙ steps_are closes ps false (trail may o b) (detach may ds b) pending.Line u
    ∙ closes_one closes may o ds b _ _ s.0 s.1 s.2 refl
steps_are closes (block u ∷ ps) may o ds pending.Nothing b =
    steps_are closes ps may o ds pending.Block u
steps_are closes (block u ∷ ps) may o ds pending.Line b =
    let s = block_mark u (joined ps) in
    ap (λ (d : Doing). finished closes (steps (begun pending.Block u d) ps))
    (given_is may o ds pending.Line b)
    ∙ steps_are closes ps false (trail may o b) (detach may ds b) pending.Block u
    ∙ closes_one closes may o ds b _ _ s.0 s.1 s.2 refl
steps_are closes (block u ∷ ps) may o ds pending.Block b =
    let s = block_mark u (joined ps) in
    ap (λ (d : Doing). finished closes (steps (begun pending.Block u d) ps))
    (given_is may o ds pending.Block b)
    ∙ steps_are closes ps false (trail may o b) (detach may ds b) pending.Block u
    ∙ closes_one closes may o ds b _ _ s.0 s.1 s.2 refl
steps_are closes (block u ∷ ps) may o ds pending.Fed b =
    let s = block_mark u (joined ps) in
    ap (λ (d : Doing). finished closes (steps (begun pending.Block u d) ps))
    (given_is may o ds pending.Fed b)
    ∙ steps_are closes ps false (trail may o b) (detach may ds b) pending.Block u
    ∙ closes_one closes may o ds b _ _ s.0 s.1 s.2 refl
steps_are closes (feed ∷ ps) may o ds pending.Nothing b =
    steps_are closes ps false o ds pending.Nothing b
    ∙ blank_line closes may o ds (marks (joined ps))
steps_are closes (feed ∷ ps) may o ds pending.Line b =
    ap (λ (d : Doing). finished closes (steps (no_trail d) ps)) (given_is may o ds pending.Line b)
    ∙ steps_are closes ps false (trail may o b) (detach may ds b) pending.Nothing []
    ∙ blank_line closes false (trail may o b) (detach may ds b) (marks (joined ps))
    ∙ closes_one closes may o ds b _ _ None (marks (joined ps)) refl refl
steps_are closes (feed ∷ ps) may o ds pending.Block b =
    steps_are closes ps may o ds pending.Fed b
steps_are closes (feed ∷ ps) may o ds pending.Fed b =
    ap (λ (d : Doing). finished closes (steps (no_trail d) ps)) (given_is may o ds pending.Fed b)
    ∙ steps_are closes ps false (trail may o b) (detach may ds b) pending.Nothing []
    ∙ blank_line closes false (trail may o b) (detach may ds b) (marks (joined ps))
    ∙ closes_one closes may o ds b _ _ None (marks (joined ps)) refl refl

onto_none : (x : Divided) → onto None [] x ≡ x
onto_none x = ap (λ (o : Mark). record { trailing = o; detached = x.detached; leading = x.leading })
    (or_none x.trailing)
  where
    or_none : (o : Mark) → or_else o None ≡ o
    or_none None = refl
    or_none (Some t) = refl

-- the whole
pub all_steps : (closes may_trail : Bool) (ps : List Piece)
    → finished closes (steps (begin may_trail) ps) ≡ divided may_trail closes (marks (joined ps))
all_steps closes may_trail ps =
    steps_are closes ps may_trail None [] pending.Nothing []
    ∙ onto_none (divided may_trail closes (marks (joined ps)))
