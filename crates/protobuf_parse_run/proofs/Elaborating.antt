-- What a file becomes over numbered files is what it becomes over the files that it reaches and
-- sees, however these are listed.
use Rattle.std.proofs.Common.{◌≡◌, ℕ, zero, suc, ◌≤◌, Bool, true, false, ◌||◌, inl, inr}
use Rattle.std.proofs.Common.{List, [], ◌∷◌, ◌++◌, flat_map, map, Option, Some, None, option_map}
use Rattle.std.proofs.Common.{refl, sym, ◌∙◌, ap, subst, arith, Result, Ok, Err, append_assoc}
use Rattle.std.proofs.Common.{Contains}
use Rattle.std.specs.Prelude.{bytes_eq, slice_get, option_to_list, string_bytes}
use Rattle.std.specs.Prelude.{nat_eq}
use Rattle.protobuf_parse_lexer.specs.declared.lexer.token.Place.{Place}
use Rattle.std.specs.List.{AllByRecursion, list_any}
use Rattle.std.specs.List.Sorted.{IsStrictlyIncreasing}
use Rattle.std.proofs.lemmas.Bool.Decides.{Decides-eqb}
use Rattle.std.proofs.lemmas.Option.{slice_get-map}
use Rattle.std.proofs.lemmas.List.{map-append}
use Rattle.std.proofs.lemmas.List.Elements.{Contains-append_left, Contains-append_right}
use Rattle.std.proofs.lemmas.List.Elements.{Contains-append_cases}
use Rattle.protobuf_parse_syntax.specs.Trees.{FileSyntax}
use Rattle.protobuf_parse_model.specs.Descriptors.{Text, FileDescriptor}
use Rattle.protobuf_parse_model.specs.Declarations.{DeclaredType, file_scope}
use Rattle.protobuf_parse_model.specs.Environment.{Customs, Environment, no_customs}
use Rattle.protobuf_parse_model.specs.Faults.{Among, there, fault_view}
use Rattle.protobuf_parse_model.specs.Faults as elaborating
use Rattle.protobuf_parse_model.specs.Linking.{before_others, declares_name, link_faults}
use Rattle.protobuf_parse_model.specs.Tables.{picked}
use Rattle.protobuf_parse_model.proofs.Picks.{Rises, rises}
use Rattle.protobuf_parse_elaboration.specs.FileDescriptor.{environment, file_faults, file_of}
use Rattle.protobuf_parse_run.specs.declared.tables.Tables.{Tables}
use Rattle.protobuf_parse_elaboration.specs.FilesByPath.{AreDistinct, AreJust, leads, stays}
use Rattle.protobuf_parse_elaboration.specs.FilesByPath.{trees_at}
use Rattle.protobuf_parse_elaboration.proofs.Orders.{SameMembers, just-same, link-none, link-told}
use Rattle.protobuf_parse_elaboration.proofs.Orders.{types-same}
use Rattle.protobuf_parse_options.specs.WithoutOptions.{bare_file, DifferOnlyInOptions}
use Rattle.protobuf_parse_options.proofs.BareDeclarations.{both-become}
use Rattle.protobuf_parse_options.proofs.WithoutOptions.{customs_ignore_options}
use Rattle.protobuf_parse_run.specs.Walks.{Trees, Reaches, HandsOn, Sees, sees_itself, by_import}
use Rattle.protobuf_parse_run.specs.Walks.{among, import_paths}
use Rattle.protobuf_parse_run.specs.Run.{Files, FilesAreListed, StandsInElab, customs_of}
use Rattle.protobuf_parse_run.specs.Run.{IsToldAt, environment_of, faults_at}
use Rattle.protobuf_parse_run.specs.Run.{origin_given, own_faults, plains_at}
use Rattle.protobuf_parse_run.specs.PlainRuns.{plain_of}
use Rattle.protobuf_parse_run.specs.Repeats.{declaring, repeat_faults, repeat_place, told_at}
use Rattle.protobuf_parse_run.specs.Loading.{Agrees, AreJoined, AreKnown, FilesAreNumbered}
use Rattle.protobuf_parse_run.specs.Loading.{AreNumbersOf, LoadedEntry, IsLoaded, IsNumbered, Named}
use Rattle.protobuf_parse_run.specs.Loading.{ElaboratesFile, ElaboratesOver}
use Rattle.protobuf_parse_run.specs.Loading.{customs_over}
use Rattle.protobuf_parse_run.specs.Loading.{IsToldOver, faults_over, file_at}
use Rattle.protobuf_parse_run.specs.Loading.{own_over, file_over, named_trees}
use Rattle.protobuf_parse_run.specs.Loading.{paths_in, picked_descriptors, descriptor_in}
use Rattle.protobuf_parse_run.specs.Loading.{plain_over, descriptors_next, tree_in, trees_of}
use Rattle.protobuf_parse_run.specs.Loading.{with_next, declaring_numbers, reach_in, reaches_number}
use Rattle.protobuf_parse_run.specs.Loading.{repeat_place_over, repeats_over}
use Rattle.protobuf_parse_run.specs.declared.loader.LoadedFile.{LoadedFile}
use Rattle.protobuf_parse_run.specs.declared.fault.RunFault.{RunFault}
use Rattle.protobuf_parse_run.specs.declared.fault.RunFault.TheVariants as fault
use Rattle.protobuf_parse_run.specs.declared.loader.LoadedAs.{LoadedAs}
use Rattle.protobuf_parse_run.specs.declared.log.ReadEntry.{ReadEntry}
use Rattle.protobuf_parse_run.specs.declared.reach.Held.TheVariants as held_as
use Rattle.protobuf_parse_run.proofs.Keeping.{or_cases, or_left, or_right, among-append, text-same}
use Rattle.protobuf_parse_run.proofs.Keeping.{text-true}
use Rattle.protobuf_parse_run.proofs.Knowing.{agrees-push, next-trees, leads-out, once-push}
use Rattle.protobuf_parse_run.proofs.Knowing.{sees-out, sees-reaches}
use Rattle.protobuf_parse_run.proofs.Numbers.{numbered-more, numbers-joined, only-one}
use Rattle.protobuf_parse_run.proofs.Numbers.{path-in}
use Rattle.protobuf_parse_run.proofs.FirstFaults.{no-others, none-after, none-before}
use Rattle.protobuf_parse_run.proofs.ToldFirst.{told-moved}
use Rattle.protobuf_parse_run.proofs.Faulty.{any-number, entry-at}
use Rattle.protobuf_parse_run.proofs.Faulty.{number-any, same-bool}
use Rattle.protobuf_parse_run.proofs.Reordering.{HavePackages, customs-same}
use Rattle.protobuf_parse_run.proofs.Repeating.{AgreeAt, AreAlike, among-number, among-path}
use Rattle.protobuf_parse_run.proofs.Repeating.{found-at}
use Rattle.protobuf_parse_run.proofs.Repeating.{kept, kept-from, none-of, number-among, path-among}
use Rattle.protobuf_parse_run.proofs.Repeating.{repeat_place-same, told-same}
use Rattle.protobuf_parse_run.proofs.Spelling.{others, others_by, told_by}

-- ** files by numbers and by paths

abbrev path_of : Option Named → List Text
path_of o = map (λ (f : Named). f.0) (option_to_list o)

-- the paths of the files with these numbers
abbrev pub paths_by : List Named → List ℕ → List Text
paths_by files ns = flat_map (λ (n : ℕ). path_of (slice_get files n)) ns

one-tree : (trees : Trees) (o : Option Named)
    → ((q : Text) (u : FileSyntax) → o ≡ Some (q, u) → trees q ≡ Some u)
    → option_to_list (option_map (λ (f : Named). f.1) o) ≡ trees_at trees (path_of o)
one-tree trees None agrees = refl
one-tree trees (Some f) agrees =
    sym (ap (λ (o : Option FileSyntax). option_to_list o ++ []) (agrees f.0 f.1 refl))

pub trees_at-append : (trees : Trees) (ps qs : List Text)
    → trees_at trees (ps ++ qs) ≡ trees_at trees ps ++ trees_at trees qs
trees_at-append trees [] qs = refl
trees_at-append trees (p ∷ ps) qs =
    ap (λ ts. option_to_list (trees p) ++ ts) (trees_at-append trees ps qs)
    ∙ sym (append_assoc (option_to_list (trees p)) (trees_at trees ps) (trees_at trees qs))

pub picked-are : (trees : Trees) (files : List Named) (ns : List ℕ) → Agrees trees files
    → picked (trees_of files) ns ≡ trees_at trees (paths_by files ns)
picked-are trees files [] agrees = refl
picked-are trees files (n ∷ ns) agrees =
    let first : option_to_list (slice_get (trees_of files) n)
    ≡ trees_at trees (path_of (slice_get files n)) =
    ap option_to_list (slice_get-map (λ (f : Named). f.1) files n)
    ∙ one-tree trees (slice_get files n) (λ q u h. agrees n q u h) in
    ap (λ ts. ts ++ picked (trees_of files) ns) first
    ∙ ap (λ ts. trees_at trees (path_of (slice_get files n)) ++ ts)
    (picked-are trees files ns agrees)
    ∙ sym (trees_at-append trees (path_of (slice_get files n)) (paths_by files ns))

-- ** descriptors by numbers and by paths

plains_at-append : (files : Files) (ps qs : List Text)
    → plains_at files (ps ++ qs) ≡ plains_at files ps ++ plains_at files qs
plains_at-append files [] qs = refl
plains_at-append files (p ∷ ps) qs =
    let first = map (plain_of files p) (option_to_list (files.trees p)) in
    ap (λ ds. first ++ ds) (plains_at-append files ps qs)
    ∙ sym (append_assoc first (plains_at files ps) (plains_at files qs))

-- a file's descriptor without custom options
abbrev pub described_by : Files → Named → FileDescriptor
described_by files f = plain_of files f.0 f.1

one-plain : (files : Files) (o : Option Named)
    → ((q : Text) (u : FileSyntax) → o ≡ Some (q, u) → files.trees q ≡ Some u)
    → option_to_list (option_map (described_by files) o) ≡ plains_at files (path_of o)
one-plain files None agrees = refl
one-plain files (Some f) agrees =
    sym (ap (λ (o : Option FileSyntax). map (plain_of files f.0) (option_to_list o) ++ [])
    (agrees f.0 f.1 refl))

pub plains-are : (files : Files) (named : List Named) (ns : List ℕ) → Agrees files.trees named
    → picked_descriptors (map (described_by files) named) ns ≡ plains_at files (paths_by named ns)
plains-are files named [] agrees = refl
plains-are files named (n ∷ ns) agrees =
    let at = path_of (slice_get named n) in
    let first : option_to_list (slice_get (map (described_by files) named) n) ≡ plains_at files at =
    ap option_to_list (slice_get-map (described_by files) named n)
    ∙ one-plain files (slice_get named n) (λ q u h. agrees n q u h) in
    ap (λ ds. ds ++ picked_descriptors (map (described_by files) named) ns) first
    ∙ ap (λ ds. plains_at files at ++ ds) (plains-are files named ns agrees)
    ∙ sym (plains_at-append files at (paths_by named ns))

-- but for options, the loaded files have the descriptors of their trees
pub made-alike : (files : Files) (log : List ReadEntry)
    (loaded : List LoadedEntry)
    → AllByRecursion (λ (e : LoadedEntry). IsLoaded files log (string_bytes e.0) e.1) loaded
    → DifferOnlyInOptions (map descriptor_in loaded)
    (map (described_by files) (named_trees loaded))
made-alike files log [] made = refl
made-alike files log (e ∷ loaded) made =
    ap (λ d. d ∷ map bare_file (map descriptor_in loaded)) made.0.alike
    ∙ ap (λ ds. bare_file (plain_of files (string_bytes e.0) (tree_in e.1)) ∷ ds)
    (made-alike files log loaded made.1)

pub bare-one : (o : Option FileDescriptor)
    → option_to_list (option_map bare_file o) ≡ map bare_file (option_to_list o)
bare-one None = refl
bare-one (Some d) = refl

bare-picked : (ds : List FileDescriptor) (ns : List ℕ)
    → picked_descriptors (map bare_file ds) ns ≡ map bare_file (picked_descriptors ds ns)
bare-picked ds [] = refl
bare-picked ds (n ∷ ns) =
    both-become bare_file (option_to_list (slice_get ds n)) (picked_descriptors ds ns)
    (option_to_list (slice_get (map bare_file ds) n)) (picked_descriptors (map bare_file ds) ns)
    (ap option_to_list (slice_get-map bare_file ds n) ∙ bare-one (slice_get ds n))
    (bare-picked ds ns)

pub picked-alike : (ds es : List FileDescriptor) (ns : List ℕ) → DifferOnlyInOptions ds es
    → DifferOnlyInOptions (picked_descriptors ds ns) (picked_descriptors es ns)
picked-alike ds es ns same =
    sym (bare-picked ds ns) ∙ ap (λ bs. picked_descriptors bs ns) same ∙ bare-picked es ns

-- ** each of them once

or_false : (b : Bool) → (b || false) ≡ true → b ≡ true
or_false true h = refl
or_false false h = h

path-is : (p : Text) (o : Option Named) → among p (path_of o) ≡ true
    → (u : FileSyntax) × (o ≡ Some (p, u))
path-is p None h = cc
path-is p (Some f) h =
    (f.1, ap (λ (z : Text). Some (z, f.1)) (sym (text-true p f.0 (or_false (bytes_eq p f.0) h))))

path-there : (p : Text) (u : FileSyntax) (o : Option Named) → o ≡ Some (p, u)
    → among p (path_of o) ≡ true
path-there p u o h = rw h (or_left _ _ (text-same p))

one-in : (n : ℕ) → Contains (n ∷ []) n
one-in n = (0, omega arith, refl)

none-in : (n : ℕ) → Contains [] n → ⊥
none-in n (k, lt, is) = omega (arith, lt)

-- a path among them has one of the numbers
pub by-number : (files : List Named) (ns : List ℕ) (p : Text) → among p (paths_by files ns) ≡ true
    → (n : ℕ) × Contains ns n × IsNumbered files n p
by-number files [] p h = cc
by-number files (n ∷ ns) p h =
    elim (or_cases (among p (path_of (slice_get files n))) (among p (paths_by files ns))
    (sym (among-append p (path_of (slice_get files n)) (paths_by files ns)) ∙ h)) [
      | inl w ↦ (n, Contains-append_left (n ∷ []) ns n (one-in n), path-is p (slice_get files n) w)
      | inr w ↦ let r = by-number files ns p w in
          (r.0, Contains-append_right (n ∷ []) ns r.0 r.1, r.2)
    ]

pub by-path : (files : List Named) (ns : List ℕ) (p : Text) (n : ℕ) → Contains ns n
    → IsNumbered files n p → among p (paths_by files ns) ≡ true
by-path files [] p n c i = absurd (none-in n c)
by-path files (m ∷ ns) p n c i =
    among-append p (path_of (slice_get files m)) (paths_by files ns)
    ∙ elim (Contains-append_cases (m ∷ []) ns n c) [
      | inl w ↦ or_left _ _
          (path-there p i.0 (slice_get files m)
          (subst (λ (k : ℕ). slice_get files k ≡ Some (p, i.0)) (only-one m n w) i.1))
      | inr w ↦ or_right _ _ (by-path files ns p n w i)
    ]

-- a path has one number, where each stands once
pub among-at : (files : List Named) (n : ℕ) (p : Text) → IsNumbered files n p
    → among p (paths_in files) ≡ true
among-at [] n p i = cc
among-at (f ∷ files) zero p i =
    or_left (bytes_eq p f.0) (among p (paths_in files))
    (let same : f ≡ (p, i.0) = some_is f (p, i.0) i.1 in
    let path : f.0 ≡ p = ap (λ (g : Named). g.0) same in rw path (text-same p))
  where
    some_is : (a b : Named) → Some a ≡ Some b → a ≡ b
    some_is a b h = cc
among-at (f ∷ files) (suc n) p i =
    or_right (bytes_eq p f.0) (among p (paths_in files)) (among-at files n p i)

-- the first path is none of the others
first-apart : (f : Named) (files : List Named) (m : ℕ) (p : Text)
    → among f.0 (paths_in files) ≡ false → IsNumbered (f ∷ files) 0 p → IsNumbered files m p → ⊥
first-apart f files m p apart i j =
    let same : f ≡ (p, i.0) = some_is f (p, i.0) i.1 in
    let path : f.0 ≡ p = ap (λ (g : Named). g.0) same in
    let there : among f.0 (paths_in files)
    ≡ true = subst (λ (z : Text). among z (paths_in files) ≡ true) (sym path)
    (among-at files m p j) in
    cc
  where
    some_is : (a b : Named) → Some a ≡ Some b → a ≡ b
    some_is a b h = cc

pub one-number : (files : List Named) (n m : ℕ) (p : Text) → AreDistinct (paths_in files)
    → IsNumbered files n p → IsNumbered files m p → n ≡ m
one-number [] n m p d i j = cc
one-number (f ∷ files) zero zero p d i j = refl
one-number (f ∷ files) (suc n) (suc m) p d i j = ap suc (one-number files n m p d.1 i j)
one-number (f ∷ files) zero (suc m) p d i j = absurd (first-apart f files m p d.0 i j)
one-number (f ∷ files) (suc n) zero p d i j = absurd (first-apart f files n p d.0 j i)

above : (n : ℕ) (rs : List ℕ) (m : ℕ) → Rises n rs → Contains rs m → n ≤ m
above n [] m h c = absurd (none-in m c)
above n (r ∷ rs) m h c =
    elim (Contains-append_cases (r ∷ []) rs m c) [
      | inl w ↦ let same = only-one r m w in omega (arith, same, h.0)
      | inr w ↦ let more = above (suc r) rs m h.1 w in omega (arith, h.0, more)
    ]

-- a file whose number is below theirs is none of them
apart-from : (files : List Named) (m : ℕ) (ns : List ℕ) → AreDistinct (paths_in files)
    → Rises (suc m) ns → (p : Text) (u : FileSyntax) (b : Bool) → slice_get files m ≡ Some (p, u)
    → among p (paths_by files ns) ≡ b → b ≡ false
apart-from files m ns d h p u false at e = refl
apart-from files m ns d h p u true at e =
    let r = by-number files ns p e in
    let same = one-number files m r.0 p d (u, at) r.2 in
    let more = above (suc m) ns r.0 h r.1 in
    absurd (omega (arith, same, more))

with-first : (files : List Named) (m : ℕ) (ns : List ℕ) → AreDistinct (paths_in files)
    → Rises (suc m) ns → AreDistinct (paths_by files ns) → (o : Option Named)
    → slice_get files m ≡ o → AreDistinct (path_of o ++ paths_by files ns)
with-first files m ns d h rest None at = rest
with-first files m ns d h rest (Some f) at =
    (apart-from files m ns d h f.0 f.1 (among f.0 (paths_by files ns)) at refl, rest)

distinct-by : (files : List Named) (n : ℕ) (ns : List ℕ) → AreDistinct (paths_in files) → Rises n ns
    → AreDistinct (paths_by files ns)
distinct-by files n [] d h = tt
distinct-by files n (m ∷ ns) d h =
    with-first files m ns d h.1 (distinct-by files (suc m) ns d h.1) (slice_get files m) refl

-- what stands at a number has one path
pub one-path : (o : Option Named) (q p : Text) (u v : FileSyntax) → o ≡ Some (q, u)
    → o ≡ Some (p, v) → q ≡ p
one-path o q p u v h k = some_is (q, u) (p, v) (sym h ∙ k)
  where
    some_is : (a b : Named) → Some a ≡ Some b → a.0 ≡ b.0
    some_is a b h = ap (λ (o : Option Named). name (path_of o)) h
      where
        name : List Text → Text
        name [] = []
        name (z ∷ zs) = z

pub just-by : (Has : Text → Type 0) (files : List Named) (ns : List ℕ)
    → AreDistinct (paths_in files) → IsStrictlyIncreasing ns → AreNumbersOf Has files ns
    → AreJust Has (paths_by files ns)
just-by Has files ns d up are = record {
  once = distinct-by files 0 ns d (rises 0 ns up (λ some. omega arith));
  only = λ p h.
      let r = by-number files ns p h in
      let s = are.sound r.0 r.1 in
      let same : s.0 ≡ p = one-path (slice_get files r.0) s.0 p s.1.0 r.2.0 s.1.1 r.2.1 in
      subst Has same s.2;
  all = λ p h. let s = are.complete p h in by-path files ns p s.0 s.1 s.2;
}

-- ** names that files declare

named-of : (o : Option Named) (u : FileSyntax) → option_map (λ (f : Named). f.1) o ≡ Some u
    → (q : Text) × (v : FileSyntax) × (o ≡ Some (q, v))
named-of None u h = cc
named-of (Some f) u h = (f.0, f.1, refl)

declared-some : (extension : Bool) (name : Text) (o : Option FileSyntax)
    → declares_name extension name o ≡ true → (u : FileSyntax) × (o ≡ Some u)
declared-some extension name None h = cc
declared-some extension name (Some u) h = (u, refl)

-- ** the next file

-- What is known where a file is elaborated whose imports are loaded.
pub record IsNext (files : Files) (loaded : List LoadedEntry) (tables : Tables)
    (log : List ReadEntry)
    (p : Text) (t : FileSyntax) (below : List ℕ) : Type 0 where
  pub listed : FilesAreListed files.trees files.reached files.seen
  pub packages : HavePackages files.trees
  pub known : AreKnown loaded tables log
  pub agrees : Agrees files.trees (named_trees loaded)
  pub alike : DifferOnlyInOptions (map descriptor_in loaded)
      (map (described_by files) (named_trees loaded))
  pub is : files.trees p ≡ Some t
  pub none : file_at p loaded ≡ None
  pub numbered : FilesAreNumbered (named_trees loaded) below (import_paths t)

module _ (files : Files) (loaded : List LoadedEntry) (tables : Tables) (log : List ReadEntry)
    (p : Text)
    (t : FileSyntax) (below : List ℕ) (n : IsNext files loaded tables log p t below)
    (reach sight : List ℕ) (reaches : AreJoined held_as.Reach loaded below reach)
    (sees : AreJoined held_as.HandedOn loaded below sight) where
  abbrev pub with_p : List Named
  with_p = named_trees loaded ++ (p, t) ∷ []

  abbrev pub rs : List Text
  rs = paths_by with_p reach

  abbrev pub ss : List Text
  ss = paths_by with_p sight

  pub agrees-p : Agrees files.trees with_p
  agrees-p = agrees-push files.trees (named_trees loaded) p t n.agrees n.is

  pub once-p : AreDistinct (paths_in with_p)
  once-p = once-push loaded p t n.known.once n.none

  pub reached-by : AreJust (Reaches files.trees p) rs
  reached-by = just-by (Reaches files.trees p) with_p reach once-p reaches.ascending
      (numbers-joined held_as.Reach loaded p t (Reaches files.trees p)
      (λ r q. Reaches files.trees r q) (import_paths t) below reach
      (n.known.reach files.trees n.agrees) (stays p) (λ r q i rest. leads p r q t n.is i rest)
      (λ q h. leads-out import_paths files.trees p q t n.is h) n.numbered reaches)

  pub seen-by : AreJust (Sees files.trees p) ss
  seen-by = just-by (Sees files.trees p) with_p sight once-p sees.ascending
      (numbers-joined held_as.HandedOn loaded p t (Sees files.trees p)
      (λ r q. HandsOn files.trees r q) (import_paths t) below sight
      (n.known.handed_on files.trees n.agrees) (sees_itself p)
      (λ r q i rest. by_import p r q t n.is i rest)
      (λ q h. sees-out files.trees p q t n.is h) n.numbered sees)

  abbrev linked : List elaborating.Fault
  linked = link_faults (trees_at files.trees rs)

  abbrev linked_in : List elaborating.Fault
  linked_in = link_faults (trees_at files.trees (files.reached p))

  pub same-reach : SameMembers rs (files.reached p)
  same-reach = just-same (Reaches files.trees p) rs (files.reached p) reached-by
      (n.listed.reaches p)

  pub same-sight : SameMembers ss (files.seen p)
  same-sight = just-same (Sees files.trees p) ss (files.seen p) seen-by (n.listed.sees p)

  sight-within : (q : Text) → among q ss ≡ true → among q rs ≡ true
  sight-within q m = reached-by.all q (sees-reaches files.trees p q (seen-by.only q m))

  linked-is : link_faults (picked (with_next loaded t) reach) ≡ linked
  linked-is =
      ap link_faults (ap (λ (ts : List FileSyntax). picked ts reach) (next-trees loaded p t)
      ∙ picked-are files.trees with_p reach agrees-p)

  link-again : linked ≡ [] → linked_in ≡ []
  link-again h = link-none files.trees rs (files.reached p) reached-by.once
      (n.listed.reaches p).once same-reach h

  -- ** where names are told that are declared twice

  -- the number is that of the path
  abbrev IsOf : ℕ → Text → Type 0
  IsOf m q = IsNumbered with_p m q

  -- a file that is imported reaches by numbers what it reaches by paths
  reaches-same : (q : Text) → among q (import_paths t) ≡ true
      → AgreeAt (reaches_number loaded) (λ r s. among s (files.reached r)) IsOf q
  reaches-same q i m r is =
      let b = path-in (named_trees loaded) below (import_paths t) q n.numbered i in
      let e = entry-at loaded b.0 (q, b.2.0) b.2.1 in
      let named : string_bytes e.0.0 ≡ q = ap (λ (f : Named). f.0) e.2 in
      let found : file_at q loaded ≡ Some e.0.1 =
      subst (λ (z : Text). file_at z loaded ≡ Some e.0.1) named
      (found-at loaded b.0 e.0 n.known.once e.1) in
      let numbers = e.0.1.reach.items in
      let holds : AreNumbersOf (Reaches files.trees q) (named_trees loaded) numbers =
      subst (λ (z : Text). AreNumbersOf (Reaches files.trees z) (named_trees loaded) numbers)
      named (n.known.reach files.trees n.agrees b.0 e.0 e.1) in
      ap (λ (o : Option LoadedFile). list_any (λ (k : ℕ). nat_eq k m) (reach_in o)) found
      ∙ same-bool (list_any (λ (k : ℕ). nat_eq k m) numbers) (among r (files.reached q))
      (λ h.
      let k = number-any (λ (z : ℕ). nat_eq z m) numbers h in
      let s = holds.sound m (subst (λ (z : ℕ). Contains numbers z)
      ((Decides-eqb k.0 m).0 k.2) k.1) in
      let at = numbered-more (named_trees loaded) ((p, t) ∷ []) m s.0 s.1 in
      subst (λ (z : Text). among z (files.reached q) ≡ true)
      (one-path (slice_get with_p m) s.0 r at.0 is.0 at.1 is.1)
      ((n.listed.reaches q).all s.0 s.2))
      (λ h.
      let s = holds.complete r ((n.listed.reaches q).only r h) in
      let at = numbered-more (named_trees loaded) ((p, t) ∷ []) s.0 r s.2 in
      any-number (λ (z : ℕ). nat_eq z m) numbers m
      (subst (λ (k : ℕ). Contains numbers k) (one-number with_p s.0 m r once-p at is) s.1)
      ((Decides-eqb m m).1 refl))

  tree-at : (m : ℕ) (q : Text) → IsOf m q → slice_get (with_next loaded t) m ≡ files.trees q
  tree-at m q is =
      ap (λ (ts : List FileSyntax). slice_get ts m) (next-trees loaded p t)
      ∙ slice_get-map (λ (f : Named). f.1) with_p m
      ∙ ap (option_map (λ (f : Named). f.1)) is.1
      ∙ sym (agrees-p m q is.0 is.1)

  numbered-here : (m : ℕ) (u : FileSyntax) → slice_get (with_next loaded t) m ≡ Some u
      → (q : Text) × IsOf m q
  numbered-here m u is =
      let r = named-of (slice_get with_p m) u
      (sym (slice_get-map (λ (f : Named). f.1) with_p m)
      ∙ ap (λ (ts : List FileSyntax). slice_get ts m) (sym (next-trees loaded p t)) ∙ is) in
      (r.0, (r.1, r.2))

  -- the same files declare a name
  declared-alike : (extension : Bool) (name : Text)
      → AreAlike IsOf (declaring_numbers (with_next loaded t) extension name reach)
      (declaring files.trees extension name (files.reached p))
  declared-alike extension name = record {
    into = λ m h.
        let k = kept-from
        (λ (z : ℕ). declares_name extension name (slice_get (with_next loaded t) z)) reach h in
        let some = declared-some extension name (slice_get (with_next loaded t) m) k.1 in
        let at = numbered-here m some.0 some.1 in (
          at.0,
          kept (λ (q : Text). declares_name extension name (files.trees q)) (files.reached p)
              (path-among (files.reached p) at.0 (sym (same-reach at.0)
              ∙ by-path with_p reach at.0 m (among-number reach k.0) at.1))
              (ap (declares_name extension name) (sym (tree-at m at.0 at.1)) ∙ k.1),
          at.1,
        );
    back = λ q h.
        let k = kept-from (λ (z : Text). declares_name extension name (files.trees z))
        (files.reached p) h in
        let r = by-number with_p reach q (same-reach q ∙ among-path (files.reached p) k.0) in (
          r.0,
          kept (λ (z : ℕ). declares_name extension name (slice_get (with_next loaded t) z)) reach
              (number-among reach r.0 r.1)
              (ap (declares_name extension name) (tree-at r.0 q r.2) ∙ k.1),
          r.2,
        );
  }

  abbrev pub place_over : Bool → Text → Place
  place_over = repeat_place_over loaded (with_next loaded t) reach t

  abbrev pub place_in : Bool → Text → Place
  place_in extension name = repeat_place (λ q r. among r (files.reached q))
      (declaring files.trees extension name (files.reached p)) t extension name

  pub places-same : (extension : Bool) (name : Text) → place_over extension name
      ≡ place_in extension name
  places-same extension name =
      repeat_place-same (reaches_number loaded) (λ q r. among r (files.reached q)) IsOf t
      reaches-same (declaring_numbers (with_next loaded t) extension name reach)
      (declaring files.trees extension name (files.reached p)) (declared-alike extension name)
      extension name

  abbrev repeats : List elaborating.Fault
  repeats = repeats_over loaded (with_next loaded t) reach t

  abbrev repeats_in : List elaborating.Fault
  repeats_in = repeat_faults files.trees files.reached p t

  repeats-none : repeats ≡ [] → linked ≡ []
  repeats-none h = sym linked-is
      ∙ none-of (told_at place_over) (link_faults (picked (with_next loaded t) reach)) h

  repeats-again : repeats ≡ [] → repeats_in ≡ []
  repeats-again h = ap (map (told_at place_in)) (link-again (repeats-none h))

  repeats-told : (f : elaborating.Fault) → Among repeats f → Among repeats_in f
  repeats-told f m =
      told-same place_over place_in (link_faults (picked (with_next loaded t) reach)) linked_in f
      places-same
      (λ (x : elaborating.Fault) h.
      link-told files.trees rs (files.reached p) x reached-by.once (n.listed.reaches p).once
      same-reach (subst (λ (fs : List elaborating.Fault). Among fs x) linked-is h)) m

  pub sight-is : picked (with_next loaded t) sight ≡ trees_at files.trees ss
  sight-is = ap (λ (ts : List FileSyntax). picked ts sight) (next-trees loaded p t)
      ∙ picked-are files.trees with_p sight agrees-p

  -- ** where no name is declared twice

  abbrev sees_types : Customs → (Text → Option DeclaredType) → Environment
  sees_types c types =
      record { syntax = t.syntax; types = types; scope = file_scope t; customs = c }

  same-types : linked ≡ [] → (c : Customs)
      → environment (picked (with_next loaded t) sight) c t
      ≡ environment (trees_at files.trees (files.seen p)) c t
  same-types h c =
      ap (λ (ts : List FileSyntax). environment ts c t) sight-is
      ∙ ap (sees_types c)
      (types-same files.trees rs ss (files.seen p) reached-by.once same-sight sight-within h)

  abbrev descriptors : List FileDescriptor
  descriptors = descriptors_next loaded sight p t

  own-is : linked ≡ [] → plain_over (with_next loaded t) sight p t ≡ plain_of files p t
  own-is h = ap (λ (env : Environment). file_of env p t) (same-types h no_customs)

  plains-with : linked ≡ [] → DifferOnlyInOptions descriptors (map (described_by files) with_p)
  plains-with h =
      let plains = map (described_by files) (named_trees loaded) in
      let own = plain_over (with_next loaded t) sight p t in
      map-append bare_file (map descriptor_in loaded) (own ∷ [])
      ∙ ap (λ bs. bs ++ bare_file own ∷ []) n.alike
      ∙ ap (λ d. map bare_file plains ++ bare_file d ∷ []) (own-is h)
      ∙ sym (map-append bare_file plains (plain_of files p t ∷ []))
      ∙ ap (map bare_file) (sym (map-append (described_by files) (named_trees loaded)
      ((p, t) ∷ [])))

  plains-at : linked ≡ [] → (ns : List ℕ)
      → DifferOnlyInOptions (picked_descriptors descriptors ns)
      (plains_at files (paths_by with_p ns))
  plains-at h ns =
      picked-alike descriptors (map (described_by files) with_p) ns (plains-with h)
      ∙ ap (map bare_file) (plains-are files with_p ns agrees-p)

  same-customs : linked ≡ [] → customs_over descriptors reach sight ≡ customs_of files p
  same-customs h =
      customs_ignore_options (picked_descriptors descriptors reach) (plains_at files rs)
      (picked_descriptors descriptors sight) (plains_at files ss) (plains-at h reach)
      (plains-at h sight)
      ∙ customs-same files rs (files.reached p) ss
      (files.seen p) n.packages same-reach same-sight sight-within h

  -- ** faults

  abbrev others_over : List elaborating.Fault
  others_over = others_by (picked (with_next loaded t) sight)
      (customs_over descriptors reach sight) t

  others-same : linked ≡ [] → others_over ≡ others files p t
  others-same h =
      ap (λ (env : Environment). before_others (file_faults env t)
      (told_by (customs_over descriptors reach sight) t)) (same-types h no_customs)
      ∙ ap (λ (c : Customs). others_by (trees_at files.trees (files.seen p)) c t) (same-customs h)

  pub over-linked : faults_over loaded (with_next loaded t) descriptors reach sight t ≡ []
      → linked ≡ []
  over-linked h = repeats-none (none-before repeats others_over h)

  pub over-faultless : faults_over loaded (with_next loaded t) descriptors reach sight t ≡ []
      → faults_at files p (Some t) ≡ []
  over-faultless h =
      let first = none-before repeats others_over h in
      no-others repeats_in (others files p t) (repeats-again first)
      (sym (others-same (repeats-none first)) ∙ none-after repeats others_over h)

  pub over-descriptor : linked ≡ []
      → file_over (with_next loaded t) descriptors reach sight p t
      ≡ file_of (environment_of files p t) p t
  over-descriptor h =
      ap (λ (env : Environment). file_of env p t)
      (same-types h (customs_over descriptors reach sight))
      ∙ ap (λ (c : Customs). file_of (environment (trees_at files.trees (files.seen p)) c t) p t)
      (same-customs h)

  pub over-plain : linked ≡ []
      → plain_over (with_next loaded t) sight p t ≡ plain_of files p t
  over-plain h = own-is h

  -- ** which of them is told

  pub own-same : linked ≡ [] → own_over (with_next loaded t) sight t ≡ own_faults files p (Some t)
  own-same h = ap (λ (env : Environment). file_faults env t) (same-types h no_customs)

  pub customs-told-same : linked ≡ []
      → file_faults (environment (picked (with_next loaded t) sight)
      (customs_over descriptors reach sight) t) t ≡ file_faults (environment_of files p t) t
  customs-told-same h =
      ap (λ (env : Environment). file_faults env t)
      (same-types h (customs_over descriptors reach sight))
      ∙ ap (λ (c : Customs). file_faults (environment (trees_at files.trees (files.seen p)) c t) t)
      (same-customs h)

  told-equal : linked ≡ []
      → before_others (own_over (with_next loaded t) sight t)
      (file_faults (environment (picked (with_next loaded t) sight)
      (customs_over descriptors reach sight) t) t)
      ≡ before_others (own_faults files p (Some t)) (file_faults (environment_of files p t) t)
  told-equal h =
      ap (λ (fs : List elaborating.Fault). before_others fs
      (file_faults (environment (picked (with_next loaded t) sight)
      (customs_over descriptors reach sight) t) t)) (own-same h)
      ∙ ap (before_others (own_faults files p (Some t))) (customs-told-same h)

  pub over-told : (f : elaborating.Fault)
      → IsToldOver loaded (with_next loaded t) descriptors reach sight t f
      → IsToldAt files p (Some t) f
  over-told f h =
      told-moved repeats repeats_in _ _ f repeats-told
      (λ none. (repeats-again none, told-equal (repeats-none none))) h

-- a fault of elaboration stands wherever its fault does
stands-more : (origin : Text) (Over At : elaborating.Fault → Type 0) (f : RunFault)
    → ((g : elaborating.Fault) → Over g → At g) → StandsInElab origin Over f
    → StandsInElab origin At f
stands-more origin Over At (fault.Elaborate file error) more s =
    (s.0, more (fault_view error) s.1)
stands-more origin Over At (fault.Memory) more s = absurd s
stands-more origin Over At _ more s = absurd s

-- what an elaboration over numbered files leaves
pub settled-in : (files : Files) (loaded new : List LoadedEntry)
    (tables after : Tables) (p : Text)
    (t : FileSyntax) (height read : ℕ) (below public : List ℕ) (log : List ReadEntry)
    (r : Result LoadedAs RunFault)
    → IsNext files loaded tables log p t below
    → ElaboratesOver p t height read below public log loaded new after r
    → ElaboratesFile files p t height read log loaded new r
settled-in files loaded new tables after p t height read below public log
    (Ok placed) n over =
    λ missing.
    let a = over missing in
    let reach = a.file.reach.items in
    let linked = over-linked files loaded tables log p t below n reach a.sight a.reaches a.sees
    a.faultless in
    record {
      key = a.key;
      file = a.file;
      entries = a.entries;
      named = a.named;
      tree_is = a.tree_is;
      height_is = a.height_is;
      read_is = a.read_is;
      faultless =
          over-faultless files loaded tables log p t below n reach a.sight a.reaches a.sees
          a.faultless;
      descriptor = a.descriptor
          ∙ over-descriptor files loaded tables log p t below n reach a.sight a.reaches a.sees
          linked;
      alike = a.alike
          ∙ ap bare_file (over-plain files loaded tables log p t below n reach a.sight a.reaches
          a.sees linked);
      placed_is = a.height_placed;
    }
settled-in files loaded new tables after p t height read below public log (Err f) n over =
    λ e found named.
    elim (over e found named) [
      | inl w ↦
          inl (stands-more (origin_given p (Some e.outcome))
          (IsToldOver loaded (with_next loaded t) (descriptors_next loaded w.1 p t) w.0 w.1
          t)
          (IsToldAt files p (Some t)) f
          (λ g m. over-told files loaded tables log p t below n w.0 w.1 w.2 w.3 g m) w.4)
      | inr w ↦ inr w
    ]

-- the loaded files have the trees of their paths
pub agrees-made : (files : Files) (log : List ReadEntry)
    (loaded : List LoadedEntry)
    → AllByRecursion (λ (e : LoadedEntry). IsLoaded files log (string_bytes e.0) e.1) loaded
    → Agrees files.trees (named_trees loaded)
agrees-made files log [] made n q u h = cc
agrees-made files log (e ∷ loaded) made zero q u h =
    let same : (string_bytes e.0, tree_in e.1)
    ≡ (q, u) = some_is (string_bytes e.0, tree_in e.1) (q, u) h in
    subst (λ (f : Named). files.trees f.0 ≡ Some f.1) same made.0.is
  where
    some_is : (a b : Named) → Some a ≡ Some b → a ≡ b
    some_is a b h = cc
agrees-made files log (e ∷ loaded) made (suc n) q u h =
    agrees-made files log loaded made.1 n q u h
