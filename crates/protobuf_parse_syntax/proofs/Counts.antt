-- How many statements stand in a part of a tree: no more than in the whole, and no fewer than its
-- body is long.
use Rattle.std.proofs.Common.{◌≡◌, ℕ, suc, zero, ◌<◌, ◌≤◌, List, [], ◌∷◌, Some}
use Rattle.std.proofs.Common.{length, map, get_or, slice_get, refl, ap, ◌∙◌, arith}
use Rattle.std.proofs.Common.{sum_by}
use Rattle.std.proofs.lemmas.List.Sums.{sum_by-cons}
use Rattle.protobuf_parse_syntax.specs.Trees as tree
use Rattle.protobuf_parse_syntax.specs.Trees.{FieldStatementSyntax}
use Rattle.protobuf_parse_syntax.specs.Trees.{MessageStatementSyntax}
use Rattle.protobuf_parse_syntax.specs.Trees.{StatementSyntax}
use Rattle.protobuf_parse_syntax.specs.Trees.{message_syntax}
use Rattle.protobuf_parse_syntax.specs.InnerViews.{message_statement_syntax}
use Rattle.protobuf_parse_syntax.specs.Trees.{statement_syntax}
use Rattle.protobuf_parse_syntax.specs.Counts.{field_count, in_group}
use Rattle.protobuf_parse_syntax.specs.Counts.{message_statement_count, in_body, in_message}
use Rattle.protobuf_parse_syntax.specs.Counts.{statement_count}
use Rattle.protobuf_parse_syntax.specs.declared.tree.FileStatement.{FileStatement}
use Rattle.protobuf_parse_syntax.specs.declared.tree.declaration.Message.{Message}
use Rattle.protobuf_parse_syntax.specs.declared.tree.declaration.MessageStatement.{MessageStatement}
use Rattle.protobuf_parse_syntax.specs.declared.tree.declaration.MessageStatement.TheVariants as statement
use Rattle.protobuf_parse_syntax.proofs.Messages.{view_parts}
use Rattle.protobuf_parse_syntax.proofs.Messages.{views_message}

-- ---- any list

module _ {X S : Type 0} (view : X → S) (count : S → ℕ) where
  -- the same of a list in memory, seen
  pub seen_counts : (xs : List X) (i : ℕ) (x : X) → slice_get xs i ≡ Some x →
      count (view x) ≤ sum_by count (map view xs)
  seen_counts [] i x e = absurd cc
  seen_counts (y ∷ ys) zero x e =
      let same : y ≡ x = cc in
      omega (arith, sum_by-cons count (view y) (map view ys), ap (λ (z : X). count (view z)) same)
  seen_counts (y ∷ ys) (suc i) x e =
      omega (arith, sum_by-cons count (view y) (map view ys), seen_counts ys i x e)

  -- at an index within
  pub item_counts : (xs : List X) (i : ℕ) (d : X) → i < length xs →
      count (view (get_or xs i d)) ≤ sum_by count (map view xs)
  item_counts [] i d h = omega (arith, h)
  item_counts (y ∷ ys) zero d h = omega (arith, sum_by-cons count (view y) (map view ys))
  item_counts (y ∷ ys) (suc i) d h =
      omega (arith, sum_by-cons count (view y) (map view ys), item_counts ys i d (omega (arith, h)))

  -- a list is no longer than what it counts, where each counts one at least
  pub length_counts : ((s : S) → 0 < count s) → (xs : List X) →
      length xs ≤ sum_by count (map view xs)
  length_counts some [] = omega arith
  length_counts some (x ∷ xs) =
      omega (arith, sum_by-cons count (view x) (map view xs), some (view x), length_counts some xs)

-- ---- each statement counts itself

pub field_counts : (f : FieldStatementSyntax) → 0 < field_count f
field_counts (tree.field f) = omega arith
field_counts (tree.group place label name number fields) = omega arith

pub message_statement_counts : (s : MessageStatementSyntax) → 0 < message_statement_count s
message_statement_counts (tree.message_reserved r) = omega arith
message_statement_counts (tree.message_oneof o) = omega arith
message_statement_counts (tree.message_extend e) = omega arith
message_statement_counts (tree.message_message place name body) = omega arith
message_statement_counts (tree.message_enum e) = omega arith
message_statement_counts (tree.message_extensions e) = omega arith
message_statement_counts (tree.message_option o) = omega arith
message_statement_counts (tree.message_field f) = field_counts f

pub statement_counts : (s : StatementSyntax) → 0 < statement_count s
statement_counts (tree.file_import i) = omega arith
statement_counts (tree.file_package p) = omega arith
statement_counts (tree.file_option o) = omega arith
statement_counts (tree.file_message m) = omega arith
statement_counts (tree.file_enum e) = omega arith
statement_counts (tree.file_extend e) = omega arith
statement_counts (tree.file_service s) = omega arith

-- ---- bodies as lists of data

pub group_body : (fs : List FieldStatementSyntax) →
    in_group (tree.field_statements fs) ≡ sum_by field_count fs
group_body [] = refl
group_body (f ∷ fs) = omega (arith, sum_by-cons field_count f fs, group_body fs)

pub message_body : (ss : List MessageStatementSyntax) →
    in_body (tree.message_statements ss) ≡ sum_by message_statement_count ss
message_body [] = refl
message_body (s ∷ ss) = omega (arith, sum_by-cons message_statement_count s ss, message_body ss)

-- ---- what stands in a part of a tree

pub in_message_of : (m : Message) →
    in_message (message_syntax m) ≡
    sum_by message_statement_count (map message_statement_syntax m.body.items)
in_message_of m = ap in_message (view_parts m)

-- a body in memory is no longer than what stands in it
pub file_length : (ss : List FileStatement) →
    length ss ≤ sum_by statement_count (map statement_syntax ss)
file_length ss = length_counts statement_syntax statement_count statement_counts ss

pub body_length : (ss : List MessageStatement) →
    length ss ≤ sum_by message_statement_count (map message_statement_syntax ss)
body_length ss =
    length_counts message_statement_syntax message_statement_count message_statement_counts ss

pub message_counts : (m : Message) →
    message_statement_count (message_statement_syntax (statement.Message m)) ≡
    suc (in_message (message_syntax m))
message_counts m =
    ap message_statement_count (views_message m) ∙ ap suc (message_body (message_syntax m).body)
