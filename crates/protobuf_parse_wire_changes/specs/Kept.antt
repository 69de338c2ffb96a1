-- No public clause rests on this file.
-- The code's pairs as those of the definitions, and what keeps them by their old names.
use Rattle.std.specs.Prelude.{◌≡◌, ℕ, List, map, Some, None, String, option_map, bytes_eq}
use Rattle.std.specs.Prelude.{if◌then◌else◌}
use Rattle.std.specs.Option.{option_or}
use Rattle.std.specs.Borrow.{Bor}
use Rattle.std.specs.BTreeMap.{BTreeMap, get_by_text}
use Rattle.std.specs.Global.{Global}
use Rattle.protobuf_parse_model.specs.Descriptors.{Text}
use Rattle.protobuf_parse_wire_changes.specs.declared.partners.Pair as codepair
use Rattle.protobuf_parse_wire_changes.specs.declared.partners.Pairs.{Pairs}
use Rattle.protobuf_parse_wire_changes.specs.Partners.{Pair, Partners, partner_in}

-- a pair
abbrev pub pair_of : codepair.Pair → Pair
pair_of p = record { old = p.old.now; new = p.new.now }

-- pairs in order
abbrev pub pairs_view : Pairs → List Pair
pairs_view p = map pair_of p.list.items

-- what a map has
abbrev pub partner_seen : BTreeMap (String Global) (Bor (List ℕ)) → Partners
partner_seen m name = option_map (λ (t : Bor (List ℕ)). t.now) (get_by_text m name)

-- The map has one more, unless there was one of that name.
abbrev pub PutsPartner : BTreeMap (String Global) (Bor (List ℕ))
    → BTreeMap (String Global) (Bor (List ℕ)) → (name partner : Text) → Type 0
PutsPartner old new name partner = (q : Text)
    → partner_seen new q
    ≡ option_or (partner_seen old q) (if bytes_eq q name then Some partner else None)

-- The map has of each name what the first pair with it has.
pub record IsKept (pairs : Pairs) : Type 0 where
  pub at : (name : Text) → partner_seen pairs.by_old name ≡ partner_in (pairs_view pairs) name
