-- No public clause rests on this file.
-- The members of oneofs among values that stand behind.
use Rattle.std.specs.Prelude.{◌≡◌, ℕ, ◌==◌, Bool, true, false, not, List, [], ◌∷◌, Option, Some, None}
use Rattle.std.specs.Prelude.{if◌then◌else◌}
use Rattle.std.specs.BTreeMap.{BTreeMap, get}
use Rattle.std.specs.Ordering.{nat_cmp}
use Rattle.protobuf_parse_merged.specs.declared.oneofs.Members.{Members}
use Rattle.protobuf_parse_merged.specs.declared.oneofs.Members.TheVariants.{One, Several}
use Rattle.protobuf_parse_merged.specs.Occurrences.{Occurrence}
use Rattle.protobuf_parse_merged.specs.Oneofs.{same_oneof}

-- members, and one more in front of them
abbrev pub with_member : Option Members → ℕ → Members
with_member None n = One n
with_member (Some (One m)) n = if m == n then One m else Several
with_member (Some Several) n = Several

-- whether there is another member among them
abbrev pub replaced_by : Option Members → ℕ → Bool
replaced_by None n = false
replaced_by (Some (One m)) n = not (m == n)
replaced_by (Some Several) n = true

-- the members of a oneof, with a value in front that is one of its members or not
abbrev pub next_members : (is_member : Bool) → ℕ → Option Members → Option Members
next_members is_member n members = if is_member then Some (with_member members n) else members

-- the members of the oneof at that position
abbrev pub members_of : ℕ → List Occurrence → Option Members
members_of k [] = None
members_of k (o ∷ os) = next_members (same_oneof (Some k) o.oneof) o.number (members_of k os)

-- The map has the members of each oneof.
pub record HasMembers (behind : BTreeMap ℕ Members) (os : List Occurrence) : Type 0 where
  pub at : (k : ℕ) → get nat_cmp behind k ≡ members_of k os
