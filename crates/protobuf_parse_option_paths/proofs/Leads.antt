-- Locations with full paths, one by one.
use Rattle.std.proofs.Common.{◌≡◌, ℕ, Bool, true, false, List, [], ◌∷◌, ◌++◌, refl, sym, ap, ◌∙◌}
use Rattle.std.proofs.Common.{map, subst, unwrap_or, Vec}
use Rattle.std.specs.BTreeMap.{is_at}
use Rattle.std.specs.Cmp.Lexicographic.{slice_cmp}
use Rattle.std.specs.Global.{Global}
use Rattle.std.specs.Map.{lookup}
use Rattle.std.specs.Ordering.{nat_cmp}
use Rattle.std.proofs.lemmas.List.{map-append}
use Rattle.protobuf_parse_source_info.specs.declared.info.Location.{Location}
use Rattle.protobuf_parse_source_info.specs.Views.{location_view}
use Rattle.std.proofs.Common.{bytes_eq, if◌then◌else◌}
use Rattle.protobuf_parse_source_info.specs.Info.{LocationSyntax}
use Rattle.protobuf_parse_source_info.specs.Parts.{next}
use Rattle.protobuf_parse_source_info.specs.Walks.{Path}
use Rattle.protobuf_parse_option_paths.specs.Paths.{Lead, count, with_lead, with_path, with_paths}
use Rattle.protobuf_parse_option_paths.specs.InnerViews.{Counts, IsCounted, PutsLead, counted}

module _ (lead : LocationSyntax → Lead) where
  -- the paths of repeated options, with those of these locations
  abbrev pub all_before : List Path → List LocationSyntax → List Path
  all_before before [] = before
  all_before before (l ∷ ls) = all_before (with_lead before (lead l)) ls

  pub all_before-last : (before : List Path) (ls : List LocationSyntax) (l : LocationSyntax)
      → all_before before (ls ++ l ∷ []) ≡ with_lead (all_before before ls) (lead l)
  all_before-last before [] l = refl
  all_before-last before (m ∷ ls) l = all_before-last (with_lead before (lead m)) ls l

  -- one more behind others
  pub with_paths-last : (before : List Path) (ls : List LocationSyntax) (l : LocationSyntax)
      → with_paths lead before (ls ++ l ∷ [])
      ≡ with_paths lead before ls ++ with_path (all_before before ls) (lead l) l ∷ []
  with_paths-last before [] l = refl
  with_paths-last before (m ∷ ls) l =
      ap (λ (all : List LocationSyntax). with_path before (lead m) m ∷ all)
      (with_paths-last (with_lead before (lead m)) ls l)

-- one more is counted
pub counted_more : (p : Path) (before : List Path) (old new : Counts) → IsCounted old before
    → ((q : Path) → counted new q ≡ (if bytes_eq p q then next (counted old q) else counted old q))
    → IsCounted new (p ∷ before)
counted_more p before old new is more q =
    more q ∙ ap (λ (n : ℕ). if bytes_eq p q then next n else n) (is q)

-- ---- one location after another

-- These have the full paths of those, and what is repeated among them is counted.
pub record Done (lead : LocationSyntax → Lead) (items : List Location) (now : Counts)
    (yielded : List Location) : Type 0 where
  pub paths : map location_view items ≡ with_paths lead [] (map location_view yielded)
  pub counts : IsCounted now (all_before lead [] (map location_view yielded))

-- none at the beginning
pub none_done : (lead : LocationSyntax → Lead) (items : List Location) (now : Counts)
    → items ≡ [] → now.entries ≡ [] → Done lead items now []
none_done lead items now none empty = record {
  paths = ap (map location_view) none;
  counts = λ (p : Path). ap (λ (es : List (Vec ℕ Global × ℕ)).
      unwrap_or (lookup (is_at (λ (k : Vec ℕ Global). slice_cmp nat_cmp p k.items)) es) 0) empty;
}

-- one more
pub one_done : (lead : LocationSyntax → Lead) (items more : List Location) (old new : Counts)
    (yielded : List Location) (one put : Location) → more ≡ items ++ put ∷ []
    → ((before : List Path) → IsCounted old before
    → PutsLead new before (location_view put) (location_view one) (lead (location_view one)))
    → Done lead items old yielded → Done lead more new (yielded ++ one ∷ [])
one_done lead items more old new yielded one put is puts done =
    let before = all_before lead [] (map location_view yielded) in
    let this = puts before done.counts in
    let all : map location_view (yielded ++ one ∷ [])
    ≡ map location_view yielded ++ location_view one ∷ [] =
    map-append location_view yielded (one ∷ []) in
    record {
      paths = ap (map location_view) is ∙ map-append location_view items (put ∷ [])
          ∙ ap (λ (ls : List LocationSyntax). ls ++ location_view put ∷ []) done.paths
          ∙ ap (λ (l : LocationSyntax).
          with_paths lead [] (map location_view yielded) ++ l ∷ []) this.location
          ∙ sym (with_paths-last lead [] (map location_view yielded) (location_view one))
          ∙ ap (with_paths lead []) (sym all);
      counts = subst (IsCounted new)
          (sym (all_before-last lead [] (map location_view yielded) (location_view one))
          ∙ ap (all_before lead []) (sym all)) this.counts;
    }

-- all at the end
pub all_done : (lead : LocationSyntax → Lead) (items : List Location) (now : Counts)
    (yielded all : List Location) → yielded ≡ all → Done lead items now yielded
    → map location_view items ≡ with_paths lead [] (map location_view all)
all_done lead items now yielded all is done =
    done.paths ∙ ap (λ (ls : List Location). with_paths lead [] (map location_view ls)) is

-- ---- one location

-- what one more at a path changes
abbrev CountsOne : Path → Counts → Counts → Type 0
CountsOne p old new = (q : Path)
    → counted new q ≡ (if bytes_eq p q then next (counted old q) else counted old q)

-- A name that leads nowhere changes nothing.
pub puts_none : (now : Counts) (before : List Path) (l : LocationSyntax) → IsCounted now before
    → PutsLead now before l l (record { path = l.path; repeated = false })
puts_none now before l is = record { location = refl; counts = is }

-- The path of one that is not repeated has no index.
pub puts_single : (now : Counts) (before : List Path) (l : LocationSyntax) (p q : Path) (b : Bool)
    → b ≡ false → q ≡ p → IsCounted now before
    → PutsLead now before (record l { path = q }) l (record { path = p; repeated = b })
puts_single now before l p q b e same is =
    subst (λ (r : Bool). PutsLead now before (record l { path = q }) l
    (record { path = p; repeated = r })) (sym e)
    (record {
      location = ap (λ (path : Path). record l { path = path }) same;
      counts = is;
    })

-- One that is repeated goes on with an index.
pub puts_repeated : (old new : Counts) (before : List Path) (l : LocationSyntax) (p m q : Path)
    (b : Bool) → b ≡ true → m ≡ p → q ≡ m ++ counted old m ∷ [] → CountsOne m old new
    → IsCounted old before
    → PutsLead new before (record l { path = q }) l (record { path = p; repeated = b })
puts_repeated old new before l p m q b e same pushed more is =
    subst (λ (r : Bool). PutsLead new before (record l { path = q }) l
    (record { path = p; repeated = r })) (sym e)
    (record {
      location = ap (λ (path : Path). record l { path = path })
          (pushed ∙ ap (λ (n : ℕ). m ++ n ∷ []) (is m)
          ∙ ap (λ (path : Path). path ++ count before path ∷ []) same);
      counts = counted_more p before old new is
          (subst (λ (path : Path). CountsOne path old new) same more);
    })
