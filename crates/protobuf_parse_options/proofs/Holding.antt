-- What stands at the spots that the index holds, in the files that are picked.
use Rattle.std.specs.Prelude.{String}
use Rattle.std.proofs.Common.{◌≡◌, ℕ, suc, ◌+◌, Bool, true, false, cond, if◌then◌else◌, List, []}
use Rattle.std.proofs.Common.{◌∷◌, ◌++◌, map, flat_map, filter, length, Option, Some, None, refl}
use Rattle.std.proofs.Common.{sym, ap, ◌∙◌, arith, bytes_eq, nat_eq, slice_get, zero-add}
use Rattle.std.proofs.Common.{append_assoc, append-nil, string_bytes, ◌<◌, drop, get_or}
use Rattle.std.specs.Prelude.{option_to_list}
use Rattle.std.specs.Borrow.{Bor}
use Rattle.std.specs.Global.{Global, Vec}
use Rattle.std.specs.BTreeMap.{BTreeMap, IsEmpty}
use Rattle.std.specs.List.{AllByRecursion, list_any}
use Rattle.std.proofs.lemmas.Bool.{eqb-true}
use Rattle.std.proofs.lemmas.Grind.{flat_map-append}
use Rattle.std.proofs.lemmas.List.{map-append}
use Rattle.std.proofs.lemmas.List.Elements.{filter-append}
use Rattle.protobuf_parse_model.specs.Declarations.{Declared}
use Rattle.protobuf_parse_model.specs.Descriptors.{Text, FileDescriptor, MessageDescriptor}
use Rattle.protobuf_parse_options.specs.declared.spots.declared.Spotted.{Spotted}
use Rattle.protobuf_parse_options.specs.declared.spots.picked.PickedFiles.{PickedFiles}
use Rattle.protobuf_parse_options.specs.declared.spots.Spot.{Spot}
use Rattle.protobuf_parse_options.specs.ByName.{named}
use Rattle.protobuf_parse_wire.specs.Declarations.{Declaration, messages_declared_in}
use Rattle.protobuf_parse_wire.specs.Declarations.{messages_named}
use Rattle.protobuf_parse_options.specs.Holding.{Picks, SpotView}
use Rattle.protobuf_parse_options.specs.HoldingParts.{AddsSpots, at_spot, at_spots}
use Rattle.protobuf_parse_options.specs.HoldingParts.{beside}
use Rattle.protobuf_parse_options.specs.Holding.{files_seen}
use Rattle.protobuf_parse_options.specs.HoldingParts.{file_numbered, inside_of, spotted_view}
use Rattle.protobuf_parse_options.specs.Holding.{spot_in, spot_view, spots_in}
use Rattle.protobuf_parse_options.specs.HoldingParts.{spot_of}
use Rattle.protobuf_parse_options.specs.HoldingParts.{spots_of_list}
use Rattle.protobuf_parse_options.specs.Holding.{spots_in_files, spots_under}
use Rattle.protobuf_parse_base.specs.Multimaps.{values_under}
use Rattle.protobuf_parse_model.specs.Descriptors.{parts_seen}
use Rattle.protobuf_parse_options.specs.Spots.{Inside, SpottedView, spotted_messages}
use Rattle.protobuf_parse_options.specs.SpotsInside.{one_inside}
use Rattle.protobuf_parse_wire.proofs.Adding.{messages_named-append}
use Rattle.protobuf_parse_options.proofs.Found.{mapped_rest}
use Rattle.protobuf_parse_options.proofs.Spotting.{StandsIn, declared_of, message_of}
use Rattle.protobuf_parse_options.proofs.Spotting.{messages_without}
use Rattle.protobuf_parse_model.specs.Tables.{picked}
use Rattle.protobuf_parse_model.proofs.Picks.{among, picked_among}

-- ---- the files that are picked

-- a number among those that stand beside the files with these numbers
beside_picked : (files : List FileDescriptor) (ns : List ℕ) (n : ℕ)
    → beside ns (map (slice_get files) ns) n
    ≡ (if list_any (nat_eq n) ns then slice_get files n else None)
beside_picked files [] n = refl
beside_picked files (m ∷ ms) n = by_test (nat_eq n m) refl (beside_picked files ms n)
  where
    by_test : (b : Bool) → nat_eq n m ≡ b
        → beside ms (map (slice_get files) ms) n
        ≡ (if list_any (nat_eq n) ms then slice_get files n else None)
        → beside (m ∷ ms) (map (slice_get files) (m ∷ ms)) n
        ≡ (if list_any (nat_eq n) (m ∷ ms) then slice_get files n else None)
    by_test true e rest = rw e (ap (slice_get files) (sym (eqb-true n m e)))
    by_test false e rest = rw e rest

pub numbered_is : (files : List FileDescriptor) (p : PickedFiles) → Picks files p → (n : ℕ)
    → file_numbered p n
    ≡ (if list_any (nat_eq n) p.numbers.now then slice_get files n else None)
numbered_is files p h n = ap (λ fs. beside p.numbers.now fs n) h
    ∙ beside_picked files p.numbers.now n

joined_is : (files : List FileDescriptor) (ns : List ℕ)
    → flat_map option_to_list (map (slice_get files) ns) ≡ picked files ns
joined_is files [] = refl
joined_is files (n ∷ ns) = ap (λ fs. option_to_list (slice_get files n) ++ fs) (joined_is files ns)

pub seen_is : (files : List FileDescriptor) (p : PickedFiles) → Picks files p
    → files_seen p ≡ picked files p.numbers.now
seen_is files p h = ap (flat_map option_to_list) h ∙ joined_is files p.numbers.now

-- ---- what stands at the spots

-- what has the name in a file
abbrev pub named_in : {T : Type 0} → (FileDescriptor → List (SpottedView T)) → Text → FileDescriptor
    → List T
named_in {T = T} listed name file = map (λ (p : SpottedView T). p.what)
    (filter (λ (p : SpottedView T). bytes_eq name p.name) (listed file))

module _ {T : Type 0} (parts : T → List Text) (list : Inside → List T)
    (listed : FileDescriptor → List (SpottedView T))
    (stand : (file : FileDescriptor) → AllByRecursion (StandsIn list file) (listed file))
    (name : Text) (picks : PickedFiles) where
  abbrev is_named : SpottedView T → Bool
  is_named p = bytes_eq name p.name

  abbrev what_of : SpottedView T → T
  what_of p = p.what

  abbrev look : SpotView → List T
  look s = option_to_list (at_spot list picks s)

  -- a file that is picked
  kept : (n : ℕ) (file : FileDescriptor) → file_numbered picks n ≡ Some file
      → (ps : List (SpottedView T)) → AllByRecursion (StandsIn list file) ps
      → flat_map look (spots_in parts n name ps) ≡ map what_of (filter is_named ps)
  kept n file e [] h = refl
  kept n file e (p ∷ ps) h = by_test (is_named p) (kept n file e ps h.1)
    where
      here : look (spot_in parts n p) ≡ p.what ∷ []
      here = ap (λ o. option_to_list (one_inside list (inside_of o p.path) p.index)) e
          ∙ ap option_to_list h.0

      by_test : (b : Bool)
          → flat_map look (spots_in parts n name ps) ≡ map what_of (filter is_named ps)
          → flat_map look (map (spot_in parts n)
          (cond b (p ∷ filter is_named ps) (filter is_named ps)))
          ≡ map what_of (cond b (p ∷ filter is_named ps) (filter is_named ps))
      by_test true rest = ap (λ xs. xs ++ flat_map look (spots_in parts n name ps)) here
          ∙ ap (λ xs. p.what ∷ xs) rest
      by_test false rest = rest

  -- one that isn't
  left_out : (n : ℕ) → file_numbered picks n ≡ None → (ps : List (SpottedView T))
      → flat_map look (map (spot_in parts n) ps) ≡ []
  left_out n e [] = refl
  left_out n e (p ∷ ps) =
      ap (λ o. option_to_list (one_inside list (inside_of o p.path) p.index)
      ++ flat_map look (map (spot_in parts n) ps)) e ∙ left_out n e ps

  module _ (files : List FileDescriptor) (is : Picks files picks) where
    abbrev has : ℕ → Bool
    has n = list_any (nat_eq n) picks.numbers.now

    one_file : (n : ℕ) (file : FileDescriptor) → slice_get files n ≡ Some file
        → flat_map look (spots_in parts n name (listed file))
        ≡ flat_map (named_in listed name) (if has n then file ∷ [] else [])
    one_file n file e = by_test (has n) refl
      where
        by_test : (b : Bool) → has n ≡ b → flat_map look (spots_in parts n name (listed file))
            ≡ flat_map (named_in listed name) (if b then file ∷ [] else [])
        by_test true h =
            let found = numbered_is files picks is n
            ∙ ap (λ b. if b then slice_get files n else None) h ∙ e in
            kept n file found (listed file) (stand file)
            ∙ sym (append-nil (named_in listed name file))
        by_test false h =
            let none = numbered_is files picks is n
            ∙ ap (λ b. if b then slice_get files n else None) h in
            left_out n none (filter is_named (listed file))

    from : (n : ℕ) (fs : List FileDescriptor)
        → ((i : ℕ) → slice_get files (n + i) ≡ slice_get fs i)
        → flat_map look (spots_in_files parts listed name n fs)
        ≡ flat_map (named_in listed name) (among picks.numbers.now n fs)
    from n [] h = refl
    from n (f ∷ fs) h =
        let zero_more : n ≡ n + 0 = omega arith in
        flat_map-append look (spots_in parts n name (listed f))
        (spots_in_files parts listed name (suc n) fs)
        ∙ ap (λ xs. xs ++ flat_map look (spots_in_files parts listed name (suc n) fs))
        (one_file n f (ap (slice_get files) zero_more ∙ h 0))
        ∙ ap (λ xs. flat_map (named_in listed name) (if has n then f ∷ [] else []) ++ xs)
        (from (suc n) fs (λ i. let e : suc n + i ≡ n + suc i = omega arith in
        ap (slice_get files) e ∙ h (suc i)))
        ∙ sym (flat_map-append (named_in listed name) (if has n then f ∷ [] else [])
        (among picks.numbers.now (suc n) fs))

    -- what stands at the spots of the name is what has the name in the files that are picked
    pub stands_there : at_spots list picks (spots_in_files parts listed name 0 files)
        ≡ flat_map (named_in listed name) (files_seen picks)
    stands_there =
        from 0 files (λ i. ap (slice_get files) (zero-add i))
        ∙ ap (flat_map (named_in listed name)) (picked_among files picks.numbers.now picks.ascends
        ∙ sym (seen_is files picks is))

-- ---- the index as it grows

pub spots_of_known : {T U : Type 0} (seen : T → U) (parts : U → List Text) (file : ℕ) (name : Text)
    (ks : List (Spotted (Bor T)))
    → spots_in parts file name (map (spotted_view (λ (b : Bor T). seen b.now)) ks)
    ≡ spots_of_list (λ t. parts (seen t)) file name ks
spots_of_known seen parts file name [] = refl
spots_of_known {T = T} {U = U} seen parts file name (k ∷ ks) =
    by_test (bytes_eq name (string_bytes k.name)) refl (spots_of_known seen parts file name ks)
  where
    placed : Spotted (Bor T) → SpottedView U
    placed = spotted_view (λ (b : Bor T). seen b.now)

    of_parts : T → List Text
    of_parts t = parts (seen t)

    by_test : (b : Bool) → bytes_eq name (string_bytes k.name) ≡ b
        → spots_in parts file name (map placed ks) ≡ spots_of_list of_parts file name ks
        → spots_in parts file name (map placed (k ∷ ks)) ≡ spots_of_list of_parts file name (k ∷ ks)
    by_test true e rest = rw e (ap (λ (ss : List SpotView). spot_of of_parts file k ∷ ss) rest)
    by_test false e rest = rw e rest

pub spots_push : {T : Type 0} (parts : T → List Text)
    (listed : FileDescriptor → List (SpottedView T))
    (name : Text) (n : ℕ) (fs : List FileDescriptor) (f : FileDescriptor)
    → spots_in_files parts listed name n (fs ++ f ∷ [])
    ≡ spots_in_files parts listed name n fs ++ spots_in parts (n + length fs) name (listed f)
spots_push parts listed name n [] f = let e : n ≡ n + 0 = omega arith in
    append-nil (spots_in parts n name (listed f)) ∙ ap (λ i. spots_in parts i name (listed f)) e
spots_push parts listed name n (x ∷ fs) f = let e : suc n + length fs
    ≡ n + suc (length fs) = omega arith in
    ap (λ ss. spots_in parts n name (listed x) ++ ss)
    (spots_push parts listed name (suc n) fs f
    ∙ ap (λ i. spots_in_files parts listed name (suc n) fs ++ spots_in parts i name (listed f)) e)
    ∙ sym (append_assoc (spots_in parts n name (listed x))
    (spots_in_files parts listed name (suc n) fs)
    (spots_in parts (n + suc (length fs)) name (listed f)))

-- the spots of what the next file declares
pub more_held : {T U : Type 0} (seen : T → U) (parts : U → List Text)
    (listed : FileDescriptor → List (SpottedView U))
    (old new : BTreeMap (String Global) (Vec Spot)) (files : List FileDescriptor)
    (f : FileDescriptor) (n : ℕ) (ks : List (Spotted (Bor T))) → length files ≡ n
    → map (spotted_view (λ (b : Bor T). seen b.now)) ks ≡ listed f
    → AddsSpots old new (λ name. spots_of_list (λ t. parts (seen t)) n name ks)
    → ((name : Text) → spots_under old name ≡ spots_in_files parts listed name 0 files)
    → (name : Text) → spots_under new name ≡ spots_in_files parts listed name 0 (files ++ f ∷ [])
more_held seen parts listed old new files f n ks len is adds before name =
    adds name ∙ ap (λ ss. ss ++ spots_of_list (λ t. parts (seen t)) n name ks) (before name)
    ∙ ap (λ ss. spots_in_files parts listed name 0 files ++ ss)
    (sym (spots_of_known seen parts n name ks) ∙ ap (spots_in parts n name) is
    ∙ ap (λ i. spots_in parts i name (listed f)) (sym len ∙ sym (zero-add (length files))))
    ∙ sym (spots_push parts listed name 0 files f)

-- ---- what has a name in files

pub named-append : {T : Type 0} (name : Text) (ds es : List (Declared T))
    → named name (ds ++ es) ≡ named name ds ++ named name es
named-append {T = T} name ds es =
    ap (map (λ (d : Declared T). d.what))
    (filter-append (λ (d : Declared T). bytes_eq name d.name) ds es)
    ∙ map-append (λ (d : Declared T). d.what) _ _

named_without : {T : Type 0} (name : Text) (ps : List (SpottedView T))
    → map (λ (p : SpottedView T). p.what) (filter (λ (p : SpottedView T). bytes_eq name p.name) ps)
    ≡ named name (map declared_of ps)
named_without name [] = refl
named_without {T = T} name (p ∷ ps) = by_test (bytes_eq name p.name) (named_without name ps)
  where
    by_test : (b : Bool)
        → map (λ (q : SpottedView T). q.what)
        (filter (λ (q : SpottedView T). bytes_eq name q.name) ps)
        ≡ named name (map declared_of ps)
        → map (λ (q : SpottedView T). q.what)
        (cond b (p ∷ filter (λ (q : SpottedView T). bytes_eq name q.name)
        ps) (filter (λ (q : SpottedView T). bytes_eq name q.name) ps))
        ≡ map (λ (d : Declared T). d.what) (cond b (declared_of p ∷ filter
        (λ (d : Declared T). bytes_eq name d.name) (map declared_of ps))
        (filter (λ (d : Declared T). bytes_eq name d.name) (map declared_of ps)))
    by_test true rest = ap (λ xs. p.what ∷ xs) rest
    by_test false rest = rest

pub all_named : {T : Type 0} (listed : FileDescriptor → List (SpottedView T))
    (declared : FileDescriptor → List (Declared T))
    → ((file : FileDescriptor) → map declared_of (listed file) ≡ declared file)
    → (name : Text) (fs : List FileDescriptor)
    → flat_map (named_in listed name) fs ≡ named name (flat_map declared fs)
all_named listed declared without name [] = refl
all_named listed declared without name (f ∷ fs) =
    ap (λ xs. xs ++ flat_map (named_in listed name) fs)
    (named_without name (listed f) ∙ ap (named name) (without f))
    ∙ ap (λ xs. named name (declared f) ++ xs) (all_named listed declared without name fs)
    ∙ sym (named-append name (declared f) (flat_map declared fs))

parts_without : (name : Text) (ps : List (SpottedView MessageDescriptor))
    → map parts_seen (map (λ (p : SpottedView MessageDescriptor). p.what)
    (filter (λ (p : SpottedView MessageDescriptor). bytes_eq name p.name) ps))
    ≡ messages_named name (map message_of ps)
parts_without name [] = refl
parts_without name (p ∷ ps) = by_test (bytes_eq name p.name) (parts_without name ps)
  where
    by_test : (b : Bool)
        → map parts_seen (map (λ (q : SpottedView MessageDescriptor). q.what)
        (filter (λ (q : SpottedView MessageDescriptor). bytes_eq name q.name) ps))
        ≡ messages_named name (map message_of ps)
        → map parts_seen (map (λ (q : SpottedView MessageDescriptor). q.what) (cond b
        (p ∷ filter (λ (q : SpottedView MessageDescriptor). bytes_eq name q.name) ps)
        (filter (λ (q : SpottedView MessageDescriptor). bytes_eq name q.name) ps)))
        ≡ map (λ (d : Declaration). d.parts) (cond b (message_of p ∷ filter
        (λ (d : Declaration). bytes_eq name d.name) (map message_of ps))
        (filter (λ (d : Declaration). bytes_eq name d.name) (map message_of ps)))
    by_test true rest = ap (λ xs. parts_seen p.what ∷ xs) rest
    by_test false rest = rest

pub parts_named : (name : Text) (fs : List FileDescriptor)
    → map parts_seen (flat_map (named_in spotted_messages name) fs)
    ≡ messages_named name (flat_map messages_declared_in fs)
parts_named name [] = refl
parts_named name (f ∷ fs) =
    map-append parts_seen (named_in spotted_messages name f)
    (flat_map (named_in spotted_messages name) fs)
    ∙ ap (λ xs. xs ++ map parts_seen (flat_map (named_in spotted_messages name) fs))
    (parts_without name (spotted_messages f) ∙ ap (messages_named name) (messages_without f))
    ∙ ap (λ xs. messages_named name (messages_declared_in f) ++ xs) (parts_named name fs)
    ∙ sym (messages_named-append name (messages_declared_in f) (flat_map messages_declared_in fs))

-- a spot put under a name
pub put_spot : {T : Type 0} (parts : T → List Text)
    (old new : BTreeMap (String Global) (Vec Spot)) (k : Spotted (Bor T))
    (item : Spot) (file : ℕ)
    (text name : Text) → spot_view item ≡ spot_of parts file k
    → text ≡ string_bytes k.name
    → values_under new name
    ≡ (if bytes_eq name text then values_under old name ++ item ∷ [] else values_under old name)
    → spots_under new name ≡ spots_under old name ++ spots_of_list parts file name (k ∷ [])
put_spot {T = T} parts old new k item file text name is named put =
    ap (map spot_view) put ∙ ap (λ (t : Text). map spot_view (if bytes_eq name t then
    values_under old name ++ item ∷ [] else values_under old name)) named
    ∙ by_test (bytes_eq name (string_bytes k.name))
  where
    by_test : (b : Bool)
        → map spot_view (cond b (values_under old name ++ item ∷ []) (values_under old name))
        ≡ spots_under old name ++ map (spot_of parts file) (cond b (k ∷ []) [])
    by_test true = map-append spot_view (values_under old name) (item ∷ [])
        ∙ ap (λ (s : SpotView). spots_under old name ++ s ∷ []) is
    by_test false = sym (append-nil (spots_under old name))

-- ---- further spots

module _ {T : Type 0} (list : Inside → List T) (picks : PickedFiles)
    (spots : List Spot) (i : ℕ) (spot : Spot) (lt : i < length spots)
    (is : spot ≡ get_or spots i spot) where
  abbrev at_place : Option T
  at_place = at_spot list picks (spot_view spot)

  abbrev later : List T
  later = at_spots list picks (map spot_view (drop (i + 1) spots))

  pub opened : at_spots list picks (map spot_view (drop i spots)) ≡ option_to_list at_place
      ++ later
  opened = ap (at_spots list picks) (mapped_rest spot_view spots i spot lt is)

-- ---- no spots

pub none_under : (spots : BTreeMap (String Global) (Vec Spot)) → IsEmpty spots
    → (name : Text)
    → spots_under spots name ≡ []
none_under spots none name = rw none refl
