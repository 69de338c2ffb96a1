-- A location that is changed in its list.
use Rattle.std.proofs.Common.{◌≡◌, ℕ, zero, suc, ◌<◌, ◌≤◌, List, [], ◌∷◌, ◌++◌, length, map}
use Rattle.std.proofs.Common.{refl, ap, arith, get_or}
use Rattle.std.proofs.Math.ListN.{set}
use Rattle.protobuf_parse_source_info.specs.Walks.{Located}
use Rattle.protobuf_parse_source_info.specs.InnerViews.{found_view, changed}
use Rattle.protobuf_parse_source_info.specs.declared.found.Found.{Found}

pub changed_set : (f : Located → Located) (ls : List Found) (n : ℕ) (l x : Found) → n < length ls
    → l ≡ get_or ls n l → found_view x ≡ f (found_view l)
    → map found_view (set ls n x) ≡ changed f n (map found_view ls)
changed_set f [] n l x h e is = absurd (omega arith)
changed_set f (y ∷ ys) zero l x h e is =
    ap (λ (s : Located). s ∷ map found_view ys) (rw (← e) is)
changed_set f (y ∷ ys) (suc n) l x h e is =
    ap (λ (s : List Located). found_view y ∷ s) (changed_set f ys n l x (omega arith) e is)

pub changed_none : (f : Located → Located) (ls : List Located) (n : ℕ) → length ls ≤ n
    → changed f n ls ≡ ls
changed_none f [] n h = refl
changed_none f (l ∷ ls) zero h = absurd (omega arith)
changed_none f (l ∷ ls) (suc n) h =
    ap (λ (s : List Located). l ∷ s) (changed_none f ls n (omega arith))

pub changed_seam : (f : Located → Located) (ls : List Located) (l : Located) (ms : List Located)
    → changed f (length ls) (ls ++ l ∷ ms) ≡ ls ++ f l ∷ ms
changed_seam f [] l ms = refl
changed_seam f (k ∷ ks) l ms = ap (λ (s : List Located). k ∷ s) (changed_seam f ks l ms)
