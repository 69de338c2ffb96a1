-- What is found by the positions of parts, and that it is what going through the parts finds.
use Rattle.std.proofs.Common.{◌≡◌, ℕ, suc, Bool, true, false, cond, if◌then◌else◌, List, [], ◌∷◌}
use Rattle.std.proofs.Common.{map, filter, length, Option, Some, None, option_map, refl, sym, ap}
use Rattle.std.proofs.Common.{◌∙◌, subst, bytes_eq, nat_eq, nat_lt, slice_get, append-nil}
use Rattle.std.specs.Prelude.{option_to_list, IfSome}
use Rattle.std.specs.List.{AllByRecursion, find, list_any}
use Rattle.std.specs.Option.{option_or}
use Rattle.std.proofs.lemmas.List.{length-map}
use Rattle.protobuf_parse_model.specs.Descriptors.{Text, FileDescriptor, parts_seen}
use Rattle.protobuf_parse_model.specs.Descriptors.{EnumDescriptor}
use Rattle.protobuf_parse_model.specs.Descriptors.{MessageDescriptor}
use Rattle.protobuf_parse_options.specs.declared.spots.picked.PickedFiles.{PickedFiles}
use Rattle.protobuf_parse_options.specs.ByName.{values_of_all}
use Rattle.protobuf_parse_options.specs.Holding.{Picks, SpotView}
use Rattle.protobuf_parse_options.specs.HoldingParts.{at_spot, at_spots, field_there}
use Rattle.protobuf_parse_options.specs.HoldingParts.{found_by}
use Rattle.protobuf_parse_options.specs.Holding.{spot_in}
use Rattle.protobuf_parse_options.specs.HoldingParts.{inside_of, number_there}
use Rattle.protobuf_parse_options.specs.Holding.{spots_in, spots_in_files}
use Rattle.protobuf_parse_options.specs.Views.{field_among, number_among}
use Rattle.protobuf_parse_options.specs.Spots.{Inside, SpottedView, enums_inside, field_name}
use Rattle.protobuf_parse_options.specs.SpotsInside.{messages_inside, one_inside}
use Rattle.protobuf_parse_options.specs.Positions.{most_walked, field_names}
use Rattle.protobuf_parse_options.specs.Positioned.{field_inside}
use Rattle.protobuf_parse_options.specs.Positions.{kept_position, name_of_value}
use Rattle.protobuf_parse_options.specs.Positions.{position_from}
use Rattle.protobuf_parse_options.specs.Positioned.{number_inside, part_in}
use Rattle.protobuf_parse_options.specs.Positions.{value_names}
use Rattle.protobuf_parse_options.specs.Positioned.{value_number}
use Rattle.protobuf_parse_options.proofs.ByName.{fields_more, fields_of, values_more}
use Rattle.protobuf_parse_options.proofs.Holding.{numbered_is}
use Rattle.protobuf_parse_options.proofs.Spotting.{Rest, StandsIn, all_rest, rest_first, rest_next}
use Rattle.protobuf_parse_options.proofs.SoundSets.{both}

-- ---- in a list

module _ {T : Type 0} (name_of : T → Text) (name : Text) (all : List T) where
  abbrev is_it : T → Bool
  is_it x = bytes_eq (name_of x) name

  from_position : (n : ℕ) (rest : List T) → Rest all n rest
      → part_in all (position_from n (map name_of rest) name) ≡ find is_it rest
  from_position n [] h = refl
  from_position n (x ∷ rest) h = by_test (is_it x)
      (from_position (suc n) rest (rest_next all n x rest h))
    where
      by_test : (b : Bool)
          → part_in all (position_from (suc n) (map name_of rest) name) ≡ find is_it rest
          → part_in all (cond b (Some n) (position_from (suc n) (map name_of rest) name))
          ≡ cond b (Some x) (find is_it rest)
      by_test true later = rest_first all n x rest h
      by_test false later = later

  -- the first of the name stands at its position
  position_of_first : part_in all (position_from 0 (map name_of all) name) ≡ find is_it all
  position_of_first = from_position 0 all (all_rest all)

  -- where there are more than a few
  by_position : {A : Type 0} (f : Option T → A) (position : Text → Option ℕ)
      → position ≡ kept_position (map name_of all)
      → (if nat_lt most_walked (length all) then f (part_in all (position name))
      else f (find is_it all))
      ≡ f (find is_it all)
  by_position f position is =
      ap (λ (p : Text → Option ℕ). cond (nat_lt most_walked (length all)) (f (part_in all (p name)))
      (f (find is_it all))) is
      ∙ ap (λ n. cond (nat_lt most_walked (length all)) (f (part_in all (cond (nat_lt most_walked n)
      (position_from 0 (map name_of all) name) None))) (f (find is_it all)))
      (length-map all name_of)
      ∙ by_test (nat_lt most_walked (length all))
    where
      by_test : (b : Bool)
          → cond b (f (part_in all (cond b (position_from 0 (map name_of all) name) None)))
          (f (find is_it all)) ≡ f (find is_it all)
      by_test true = ap f position_of_first
      by_test false = refl

field_found : (position : Text → Option ℕ) (name : Text) (o : Option MessageDescriptor)
    → IfSome o (λ m. position ≡ kept_position (field_names m))
    → field_inside position o name ≡ field_among (fields_of (option_to_list o)) name
field_found position name None h = refl
field_found position name (Some m) h =
    by_position field_name name (parts_seen m).field (λ o. o) position h
    ∙ sym (ap (λ fs. field_among fs name) (append-nil (parts_seen m).field))

number_found : (position : Text → Option ℕ) (name : Text) (o : Option EnumDescriptor)
    → IfSome o (λ e. position ≡ kept_position (value_names e))
    → number_inside position o name ≡ number_among (values_of_all (option_to_list o)) name
number_found position name None h = refl
number_found position name (Some e) h =
    by_position name_of_value name e.value (option_map value_number) position h
    ∙ sym (ap (λ vs. number_among vs name) (append-nil e.value))

-- ---- at spots

-- At the spot are kept the positions of the parts of what stands there.
abbrev pub KeepsPositions : {T : Type 0} → (T → List Text) → (Inside → List T) → PickedFiles
    → SpotView
    → Type 0
KeepsPositions parts list picks s =
    IfSome (at_spot list picks s) (λ x. s.position ≡ kept_position (parts x))

all_spots : {A B : Type 0} (P : A → Type 0) (Q : B → Type 0) (f : A → B) (test : A → Bool)
    → ((x : A) → P x → Q (f x)) → (xs : List A) → AllByRecursion P xs
    → AllByRecursion Q (map f (filter test xs))
all_spots P Q f test each [] h = tt
all_spots {A = A} P Q f test each (x ∷ xs) h =
    by_test (test x) (all_spots P Q f test each xs h.1)
  where
    by_test : (b : Bool) → AllByRecursion Q (map f (filter test xs))
        → AllByRecursion Q (map f (cond b (x ∷ filter test xs) (filter test xs)))
    by_test true rest = (each x h.0, rest)
    by_test false rest = rest

module _ {T : Type 0} (parts : T → List Text) (list : Inside → List T)
    (listed : FileDescriptor → List (SpottedView T))
    (stand : (file : FileDescriptor) → AllByRecursion (StandsIn list file) (listed file))
    (name : Text) (picks : PickedFiles) (files : List FileDescriptor) (is : Picks files picks) where
  abbrev has : ℕ → Bool
  has n = list_any (nat_eq n) picks.numbers.now

  abbrev tells_of : SpottedView T → Option T → Type 0
  tells_of p o = IfSome o (λ x. kept_position (parts p.what) ≡ kept_position (parts x))

  abbrev there : SpottedView T → Option FileDescriptor → Option T
  there p o = one_inside list (inside_of o p.path) p.index

  one_told : (n : ℕ) (file : FileDescriptor) → slice_get files n ≡ Some file → (p : SpottedView T)
      → StandsIn list file p → KeepsPositions parts list picks (spot_in parts n p)
  one_told n file e p stands = by_test (has n) refl
    where
      by_test : (b : Bool) → has n ≡ b → KeepsPositions parts list picks (spot_in parts n p)
      by_test true h = subst (tells_of p) (sym (ap (there p) (numbered_is files picks is n
          ∙ ap (λ b. if b then slice_get files n else None) h ∙ e) ∙ stands)) refl
      by_test false h = subst (tells_of p) (sym (ap (there p) (numbered_is files picks is n
          ∙ ap (λ b. if b then slice_get files n else None) h))) tt

  from_told : (n : ℕ) (fs : List FileDescriptor) → Rest files n fs
      → AllByRecursion (KeepsPositions parts list picks) (spots_in_files parts listed name n fs)
  from_told n [] h = tt
  from_told n (f ∷ fs) h =
      both (KeepsPositions parts list picks) (spots_in parts n name (listed f))
      (spots_in_files parts listed name (suc n) fs)
      (all_spots (StandsIn list f) (KeepsPositions parts list picks) (spot_in parts n)
      (λ (p : SpottedView T). bytes_eq name p.name) (one_told n f (rest_first files n f fs h))
      (listed f)
      (stand f))
      (from_told (suc n) fs (rest_next files n f fs h))

  pub all_told : AllByRecursion (KeepsPositions parts list picks)
      (spots_in_files parts listed name 0 files)
  all_told = from_told 0 files (all_rest files)

pub fields_found : (picks : PickedFiles) (name : Text) (ss : List SpotView)
    → AllByRecursion (KeepsPositions field_names messages_inside picks) ss
    → found_by (field_there picks name) ss
    ≡ field_among (fields_of (at_spots messages_inside picks ss)) name
fields_found picks name [] h = refl
fields_found picks name (s ∷ ss) h =
    let there = at_spot messages_inside picks s in
    let later = at_spots messages_inside picks ss in
    ap (λ o. option_or o (found_by (field_there picks name) ss))
    (field_found s.position name there h.0)
    ∙ ap (option_or (field_among (fields_of (option_to_list there)) name))
    (fields_found picks name ss h.1)
    ∙ sym (fields_more name (option_to_list there) later)

pub numbers_found : (picks : PickedFiles) (name : Text) (ss : List SpotView)
    → AllByRecursion (KeepsPositions value_names enums_inside picks) ss
    → found_by (number_there picks name) ss
    ≡ number_among (values_of_all (at_spots enums_inside picks ss)) name
numbers_found picks name [] h = refl
numbers_found picks name (s ∷ ss) h =
    let there = at_spot enums_inside picks s in
    let later = at_spots enums_inside picks ss in
    ap (λ o. option_or o (found_by (number_there picks name) ss))
    (number_found s.position name there h.0)
    ∙ ap (option_or (number_among (values_of_all (option_to_list there)) name))
    (numbers_found picks name ss h.1)
    ∙ sym (values_more name (option_to_list there) later)
