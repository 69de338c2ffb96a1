-- The next file of a load, whose imports are judged.
use Rattle.std.proofs.Common.{◌≡◌, ◌∙◌, ℕ, Bool, true, false, List, [], ◌∷◌, ◌++◌, Option, None, Some}
use Rattle.std.proofs.Common.{ap, append_assoc, flat_map, map, refl, subst, sym, inl, inr}
use Rattle.std.specs.Prelude.{bytes_eq, option_map, option_to_list, slice_get, string_bytes}
use Rattle.std.specs.List.Sorted.{IsStrictlyIncreasing}
use Rattle.std.proofs.lemmas.List.{map-append}
use Rattle.std.proofs.lemmas.Option.{slice_get-map}
use Rattle.protobuf_parse_syntax.specs.Dependencies.{imports}
use Rattle.protobuf_parse_syntax.specs.Trees.{FileSyntax}
use Rattle.protobuf_parse_model.specs.Descriptors.{Text}
use Rattle.protobuf_parse_model.specs.Tables.{picked}
use Rattle.protobuf_parse_elaboration.specs.FilesByPath.{AreDistinct}
use Rattle.protobuf_parse_options.specs.WithoutOptions.{DifferOnlyInOptions}
use Rattle.protobuf_parse_run.specs.declared.reach.Held.TheVariants as held_as
use Rattle.protobuf_parse_run.specs.declared.tables.Tables.{Tables}
use Rattle.protobuf_parse_run.specs.Loading.{Agrees, AreJoined, AreKnown, FilesAreNumbered}
use Rattle.protobuf_parse_run.specs.Loading.{LoadedEntry, Named, descriptor_in, file_at}
use Rattle.protobuf_parse_run.specs.Loading.{named_trees, paths_in}
use Rattle.protobuf_parse_run.specs.Walks.{among, import_paths, public_paths}
use Rattle.protobuf_parse_run.proofs.Elaborating.{IsNext, paths_by, same-reach}
use Rattle.protobuf_parse_run.proofs.Elaborating.{same-sight}
use Rattle.protobuf_parse_run.proofs.Keeping.{bool_cases, among-append, never_both, or_left, or_right}
use Rattle.protobuf_parse_run.proofs.Keeping.{text-same, text-true}
use Rattle.protobuf_parse_run.proofs.Reordering.{packages-have}
use Rattle.protobuf_parse_load.specs.Steps.{closed_paths}
use Rattle.protobuf_parse_check.specs.Judging.{import_number, public_number}
use Rattle.protobuf_parse_check.specs.Reports.{Checked, files_of}
use Rattle.protobuf_parse_check.specs.SoFar.{IsOrdered, plain_named}
use Rattle.protobuf_parse_check.specs.Trimmed.{AreInOrder}
use Rattle.protobuf_parse_check.proofs.InOrder.{in-longer, ordered-same, picked-in-order}
use Rattle.protobuf_parse_check.proofs.Placing.{all-numbered, publicly-numbered}
use Rattle.protobuf_parse_check.proofs.Trimming.{packages-trimmed}

-- What is known where a file comes next, with this tree.
pub record Stands (c : Checked) (loaded : List LoadedEntry) (tables : Tables)
    (before after : List Text) (p : Text) (t : FileSyntax) : Type 0 where
  pub ordered : IsOrdered c
  pub order : closed_paths c.steps ≡ before ++ p ∷ after
  pub paths : paths_in (named_trees loaded) ≡ before
  pub known : AreKnown loaded tables c.reads
  pub agrees : Agrees (files_of c).trees (named_trees loaded)
  pub rising : (n : ℕ) (e : LoadedEntry) → slice_get loaded n ≡ Some e
      → IsStrictlyIncreasing e.1.reach.items
  pub alike : DifferOnlyInOptions (map descriptor_in loaded)
      (map (plain_named c) (named_trees loaded))
  pub is : (files_of c).trees p ≡ Some t

-- a path that isn't among those that are loaded isn't loaded
not-there : (p : Text) (loaded : List LoadedEntry)
    → among p (paths_in (named_trees loaded)) ≡ false → file_at p loaded ≡ None
not-there p [] m = refl
not-there p (e ∷ loaded) m =
    elim (bool_cases (bytes_eq p (string_bytes e.0))) [
      | inl h ↦
          absurd (never_both (among p (paths_in (named_trees (e ∷ loaded))))
          (or_left (bytes_eq p (string_bytes e.0)) (among p (paths_in (named_trees loaded))) h) m)
      | inr h ↦ rw h (not-there p loaded (rw h at m))
    ]

-- the front of a list whose members are distinct
pub front-distinct : (xs ys : List Text) → AreDistinct (xs ++ ys) → AreDistinct xs
front-distinct [] ys d = tt
front-distinct (x ∷ xs) ys d = (none (among x xs) refl, front-distinct xs ys d.1)
  where
    none : (b : Bool) → among x xs ≡ b → among x xs ≡ false
    none false h = h
    none true h = absurd (never_both (among x (xs ++ ys))
        (among-append x xs ys ∙ or_left (among x xs) (among x ys) h) d.0)

-- the one behind a front is none of it
pub not-before : (xs ys : List Text) (p : Text) → AreDistinct (xs ++ p ∷ ys)
    → among p xs ≡ false
not-before [] ys p d = refl
not-before (x ∷ xs) ys p d = at (bytes_eq p x) refl (not-before xs ys p d.1)
  where
    at : (b : Bool) → bytes_eq p x ≡ b → among p xs ≡ false → among p (x ∷ xs) ≡ false
    at false h more = rw h more
    at true h more =
        let there : among x (xs ++ p ∷ ys) ≡ true =
        among-append x xs (p ∷ ys)
        ∙ or_right (among x xs) (among x (p ∷ ys))
        (or_left (bytes_eq x p) (among x ys) (same h)) in
        absurd (never_both (among x (xs ++ p ∷ ys)) there d.0)
      where
        same : bytes_eq p x ≡ true → bytes_eq x p ≡ true
        same h = let e : p ≡ x = text-true p x h in
            subst (λ (z : Text). bytes_eq z p ≡ true) e (text-same p)

-- the paths with these numbers
pub paths-picked : (files : List Named) (ns : List ℕ)
    → paths_by files ns ≡ picked (paths_in files) ns
paths-picked files [] = refl
paths-picked files (n ∷ ns) =
    ap (λ (ps : List Text). ps ++ paths_by files ns) (one (slice_get files n) refl)
    ∙ ap (λ (ps : List Text). option_to_list (slice_get (paths_in files) n) ++ ps)
    (paths-picked files ns)
  where
    one : (o : Option Named) → slice_get files n ≡ o
        → map (λ (f : Named). f.0) (option_to_list (slice_get files n))
        ≡ option_to_list (slice_get (paths_in files) n)
    one None h = ap (λ (z : Option Named). map (λ (f : Named). f.0) (option_to_list z)) h
        ∙ sym (ap option_to_list (slice_get-map (λ (f : Named). f.0) files n
        ∙ ap (option_map (λ (f : Named). f.0)) h))
    one (Some f) h = ap (λ (z : Option Named). map (λ (f : Named). f.0) (option_to_list z)) h
        ∙ sym (ap option_to_list (slice_get-map (λ (f : Named). f.0) files n
        ∙ ap (option_map (λ (f : Named). f.0)) h))

module _ (c : Checked) (loaded : List LoadedEntry) (tables : Tables) (before after : List Text)
    (p : Text) (t : FileSyntax) (s : Stands c loaded tables before after p t) where
  abbrev pub below : List ℕ
  below = flat_map (import_number loaded) (imports t.statements)

  abbrev pub with_next_path : List Named
  with_next_path = named_trees loaded ++ (p, t) ∷ []

  distinct : AreDistinct (before ++ p ∷ after)
  distinct = subst AreDistinct s.order s.ordered.once

  pub imports-loaded : (q : Text) → among q (import_paths t) ≡ true
      → among q (paths_in (named_trees loaded)) ≡ true
  imports-loaded q m =
      subst (λ (ps : List Text). among q ps ≡ true) (sym s.paths)
      (s.ordered.imports before p after t s.order s.is q m)

  pub none : file_at p loaded ≡ None
  none = not-there p loaded
      (subst (λ (ps : List Text). among p ps ≡ false) (sym s.paths)
      (not-before before after p distinct))

  pub numbered : FilesAreNumbered (named_trees loaded) below (import_paths t)
  numbered = all-numbered loaded t imports-loaded

  pub publicly : FilesAreNumbered (named_trees loaded)
      (flat_map (public_number loaded) (imports t.statements)) (public_paths t)
  publicly = publicly-numbered loaded t imports-loaded

  pub next : IsNext (files_of c) loaded tables c.reads p t below
  next = record {
    listed = s.ordered.listed.just;
    packages = packages-trimmed c.steps c.whole (packages-have c.bundled c.reads c.whole
        s.ordered.trees);
    known = s.known;
    agrees = s.agrees;
    alike = s.alike;
    is = s.is;
    none = none;
    numbered = numbered;
  }

  pub paths-next : paths_in with_next_path ≡ before ++ p ∷ []
  paths-next =
      map-append (λ (f : Named). f.0) (named_trees loaded)
      ((p, t) ∷ [])
      ∙ ap (λ (ps : List Text). ps ++ p ∷ []) s.paths

  seam : (before ++ p ∷ []) ++ after ≡ before ++ p ∷ after
  seam = append_assoc before (p ∷ []) after

  -- lists by ascending numbers stand in the order of loading
  pub by-order : (ns : List ℕ) → IsStrictlyIncreasing ns
      → AreInOrder (closed_paths c.steps) (paths_by with_next_path ns)
  by-order ns up =
      let d : AreDistinct ((before ++ p ∷ []) ++ after) = subst AreDistinct (sym seam) distinct in
      let front : AreInOrder (before ++ p ∷ []) (paths_by with_next_path ns) =
      subst (AreInOrder (before ++ p ∷ [])) (sym (paths-picked with_next_path ns))
      (subst (λ (ps : List Text). AreInOrder (before ++ p ∷ []) (picked ps ns)) (sym paths-next)
      (picked-in-order (before ++ p ∷ []) ns (front-distinct (before ++ p ∷ []) after d) up)) in
      subst (λ (ps : List Text). AreInOrder ps (paths_by with_next_path ns))
      (seam ∙ sym s.order)
      (in-longer (before ++ p ∷ []) after (paths_by with_next_path ns) d front)

  own-there : among p (closed_paths c.steps) ≡ true
  own-there = subst (λ (ps : List Text). among p ps ≡ true) (sym s.order)
      (among-append p before (p ∷ after)
      ∙ or_right (among p before) (among p (p ∷ after))
      (or_left (bytes_eq p p) (among p after) (text-same p)))

  -- the files that it reaches and sees, in that order
  module _ (reach sight : List ℕ) (reaches : AreJoined held_as.Reach loaded below reach)
      (sees : AreJoined held_as.HandedOn loaded below sight) where
    pub reach-is : paths_by with_next_path reach ≡ c.reached p
    reach-is = ordered-same (closed_paths c.steps) (paths_by with_next_path reach) (c.reached p)
        (by-order reach reaches.ascending) (s.ordered.listed.reached_in_order p own-there)
        (same-reach (files_of c) loaded tables c.reads p t below next reach sight reaches sees)

    pub sight-is : paths_by with_next_path sight ≡ c.seen p
    sight-is = ordered-same (closed_paths c.steps) (paths_by with_next_path sight) (c.seen p)
        (by-order sight sees.ascending) (s.ordered.listed.seen_in_order p own-there)
        (same-sight (files_of c) loaded tables c.reads p t below next reach sight reaches sees)
