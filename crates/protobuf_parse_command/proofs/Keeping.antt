-- A map that gets one entry more.
use Rattle.std.proofs.Common.{Bool, true, false, Option, Some, cond, subst, sym}
use Rattle.std.specs.Prelude.{IfSome, String, bytes_eq, string_bytes}
use Rattle.std.specs.BTreeMap.{BTreeMap, UpdatesBy, get_by_text}
use Rattle.std.specs.Cmp.Lexicographic.{slice_cmp}
use Rattle.std.specs.Global.{Global}
use Rattle.std.specs.Ordering.{nat_cmp}
use Rattle.std.specs.String.{string_cmp}
use Rattle.std.proofs.lemmas.Map.Text.{btree_map_updates_text}
use Rattle.protobuf_parse_model.specs.Descriptors.{Text}

of_either : {X : Type 0} (P : X → Type 0) (b : Bool) (x : X) (o : Option X) → P x → IfSome o P
    → IfSome (cond b (Some x) o) P
of_either P true x o h k = h
of_either P false x o h k = k

-- what holds of the new value and of all that were there holds of all
pub all_kept : {X : Type 0} (P : X → Type 0) (old new : BTreeMap (String Global) X)
    (key : String Global) (x : X)
    → UpdatesBy string_cmp (λ k. slice_cmp nat_cmp (string_bytes key) (string_bytes k)) old new
    (Some x)
    → P x → ((q : Text) → IfSome (get_by_text old q) P)
    → (q : Text) → IfSome (get_by_text new q) P
all_kept P old new key x updates h before q =
    subst (λ (o : Option _). IfSome o P)
    (sym (btree_map_updates_text (string_bytes key) old new (Some x) updates q))
    (of_either P (bytes_eq (string_bytes key) q) x (get_by_text old q) h (before q))
