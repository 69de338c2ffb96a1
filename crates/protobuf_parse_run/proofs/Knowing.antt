-- What is known of the loaded files, when one more is loaded.
use Rattle.std.proofs.Common.{◌≡◌, ◌⊎◌, ℕ, zero, suc, Bool, true, false, ◌||◌, inl, inr, List, []}
use Rattle.std.proofs.Common.{◌∷◌, ◌++◌, flat_map, map, length, Some, None, refl, sym, ◌∙◌, ap}
use Rattle.std.proofs.Common.{subst, if◌then◌else◌}
use Rattle.std.specs.Global.{Global}
use Rattle.std.specs.Prelude.{String, bytes_eq, slice_get, string_bytes}
use Rattle.std.proofs.lemmas.List.{map-append}
use Rattle.protobuf_parse_base.specs.PathViews.{path_buf_text}
use Rattle.protobuf_parse_syntax.specs.Dependencies.{imported, imports}
use Rattle.protobuf_parse_syntax.specs.Trees.{FileSyntax, ImportSyntax, StatementSyntax}
use Rattle.protobuf_parse_model.specs.Descriptors.{Text}
use Rattle.protobuf_parse_model.specs.Tables.{TableTells}
use Rattle.protobuf_parse_elaboration.specs.FilesByPath.{AreDistinct, Leads, leads, stays}
use Rattle.protobuf_parse_run.specs.declared.tables.Tables.{Tables}
use Rattle.protobuf_parse_run.specs.Walks.{Trees, Reaches, HandsOn, Sees, sees_itself, by_import}
use Rattle.protobuf_parse_run.specs.Walks.{among}
use Rattle.protobuf_parse_run.specs.Walks.{import_paths, public_path, public_paths, public_paths_of}
use Rattle.protobuf_parse_run.specs.Loading.{Agrees, AllHold, AreKnown, FilesAreNumbered}
use Rattle.protobuf_parse_run.specs.Loading.{AreJoined, AreNumbersOf}
use Rattle.protobuf_parse_run.specs.Loading.{AreUnloaded, IndexBegins, LoadedEntry, Grows}
use Rattle.protobuf_parse_run.specs.Loading.{IsAddedOver}
use Rattle.protobuf_parse_run.specs.Loading.{IsMetAt}
use Rattle.protobuf_parse_run.specs.Loading.{Named, file_at, held, named_trees, paths_in}
use Rattle.protobuf_parse_run.specs.Loading.{descriptor_in}
use Rattle.protobuf_parse_run.specs.Loading.{read_paths, tree_in, trees_of, with_next}
use Rattle.protobuf_parse_run.specs.declared.loader.LoadedAs.{LoadedAs}
use Rattle.protobuf_parse_run.specs.declared.loader.LoadedFile.{LoadedFile}
use Rattle.protobuf_parse_run.specs.declared.log.ReadEntry.{ReadEntry}
use Rattle.protobuf_parse_run.specs.declared.reach.Held.{Held}
use Rattle.protobuf_parse_run.specs.declared.reach.Held.TheVariants as held_as
use Rattle.protobuf_parse_run.proofs.Keeping.{some_same, bool_cases, or_cases, or_left, or_right}
use Rattle.protobuf_parse_run.proofs.Keeping.{among-append, among-left, text-same, text-true}
use Rattle.protobuf_parse_run.proofs.Numbers.{name_of, named-length, named-push, numbers-joined}
use Rattle.protobuf_parse_run.proofs.Numbers.{numbers-more}
use Rattle.protobuf_parse_run.proofs.Steps.{entry-in, get-more, get-seam}

-- ** what a file stands to

pub leads-out : (next : FileSyntax → List Text) (trees : Trees) (p q : Text) (t : FileSyntax)
    → trees p ≡ Some t → Leads next trees p q
    → (p ≡ q) ⊎ ((r : Text) × (among r (next t) ≡ true) × Leads next trees r q)
leads-out next trees p q t is (stays _) = inl refl
leads-out next trees p q t is (leads _ r _ u h a rest) =
    inr (
      r,
      subst (λ (z : FileSyntax). among r (next z) ≡ true) (some_same u t (sym h ∙ is)) a,
      rest,
    )

pub sees-out : (trees : Trees) (p q : Text) (t : FileSyntax) → trees p ≡ Some t → Sees trees p q
    → (p ≡ q) ⊎ ((r : Text) × (among r (import_paths t) ≡ true) × HandsOn trees r q)
sees-out trees p q t is (sees_itself _) = inl refl
sees-out trees p q t is (by_import _ r _ u h a rest) =
    inr (
      r,
      subst (λ (z : FileSyntax). among r (import_paths z) ≡ true)
          (some_same u t (sym h ∙ is)) a,
      rest,
    )

-- what is imported publicly is imported
public-in : (r : Text) (is : List ImportSyntax) → among r (flat_map public_path is) ≡ true
    → among r (map (λ (i : ImportSyntax). i.path) is) ≡ true
public-in r [] h = h
public-in r (i ∷ is) h =
    elim (or_cases (among r (public_path i)) (among r (flat_map public_path is))
    (sym (among-append r (public_path i) (flat_map public_path is)) ∙ h)) [
      | inl w ↦ or_left _ _ (here i w)
      | inr w ↦ or_right _ _ (public-in r is w)
    ]
  where
    or_nothing : (b : Bool) → (b || false) ≡ true → b ≡ true
    or_nothing true h = refl
    or_nothing false h = h

    at : (i : ImportSyntax) (b : Bool) → among r (if b then i.path ∷ [] else []) ≡ true
        → bytes_eq r i.path ≡ true
    at i true h = or_nothing (bytes_eq r i.path) h
    at i false h = cc

    here : (i : ImportSyntax) → among r (public_path i) ≡ true → bytes_eq r i.path ≡ true
    here i h = at i _ h

statements-in : (r : Text) (ss : List StatementSyntax)
    → among r (flat_map public_paths_of ss) ≡ true
    → among r (map (λ (i : ImportSyntax). i.path) (imports ss)) ≡ true
statements-in r [] h = h
statements-in r (s ∷ ss) h =
    ap (among r) (map-append (λ (i : ImportSyntax). i.path) (imported s) (imports ss))
    ∙ among-append r (map (λ (i : ImportSyntax). i.path) (imported s))
    (map (λ (i : ImportSyntax). i.path) (imports ss))
    ∙ elim (or_cases (among r (public_paths_of s)) (among r (flat_map public_paths_of ss))
    (sym (among-append r (public_paths_of s) (flat_map public_paths_of ss)) ∙ h)) [
      | inl w ↦ or_left _ _ (public-in r (imported s) w)
      | inr w ↦ or_right _ _ (statements-in r ss w)
    ]

pub public-imported : (r : Text) (t : FileSyntax) → among r (public_paths t) ≡ true
    → among r (import_paths t) ≡ true
public-imported r t h = statements-in r t.statements h

hands-reaches : (trees : Trees) (p q : Text) → HandsOn trees p q → Reaches trees p q
hands-reaches trees p q (stays _) = stays p
hands-reaches trees p q (leads _ r _ t h a rest) =
    leads p r q t h (public-imported r t a) (hands-reaches trees r q rest)

-- a file reaches what it sees
pub sees-reaches : (trees : Trees) (p q : Text) → Sees trees p q → Reaches trees p q
sees-reaches trees p q (sees_itself _) = stays p
sees-reaches trees p q (by_import _ r _ t h a rest) =
    leads p r q t h a (hands-reaches trees r q rest)

-- ** one file more

get-last : {A : Type 0} (xs : List A) (x e : A) (n : ℕ) → slice_get (xs ++ x ∷ []) n ≡ Some e
    → (slice_get xs n ≡ Some e) ⊎ (x ≡ e)
get-last [] x e zero h = inr (some_is x e h)
  where
    some_is : {A : Type 0} (a b : A) → Some a ≡ Some b → a ≡ b
    some_is a b h = cc
get-last [] x e (suc n) h = cc
get-last (y ∷ xs) x e zero h = inl h
get-last (y ∷ xs) x e (suc n) h = get-last xs x e n h

pub agrees-push : (trees : Trees) (files : List Named) (p : Text) (t : FileSyntax)
    → Agrees trees files → trees p ≡ Some t → Agrees trees (files ++ (p, t) ∷ [])
agrees-push trees files p t agrees is n q u h =
    elim (get-last files (p, t) (q, u) n h) [
      | inl w ↦ agrees n q u w
      | inr w ↦ subst (λ (f : Named). trees f.0 ≡ Some f.1) w is
    ]

agrees-less : (trees : Trees) (files more : List Named) → Agrees trees (files ++ more)
    → Agrees trees files
agrees-less trees files more agrees n q u h = agrees n q u (get-more files more n (q, u) h)

agrees-last : (trees : Trees) (files : List Named) (p : Text) (t : FileSyntax)
    → Agrees trees (files ++ (p, t) ∷ []) → trees p ≡ Some t
agrees-last trees files p t agrees = agrees (length files) p t (get-seam files [] (p, t))

all-hold-push : (R : Trees → Text → Text → Type 0) (which : Held) (loaded : List LoadedEntry)
    (x : LoadedEntry)
    → AllHold R which loaded
    → ((trees : Trees) → Agrees trees (named_trees loaded ++ name_of x ∷ [])
    → AreNumbersOf (R trees (string_bytes x.0)) (named_trees loaded ++ name_of x ∷ [])
    (held which x.1))
    → AllHold R which (loaded ++ x ∷ [])
all-hold-push R which loaded x all new trees agrees n e h =
    let more : Agrees trees (named_trees loaded ++ name_of x ∷ []) =
    subst (λ (fs : List Named). Agrees trees fs) (named-push loaded x) agrees in
    subst (λ (fs : List Named). AreNumbersOf (R trees (string_bytes e.0)) fs (held which e.1))
    (sym (named-push loaded x)) (
    elim (get-last loaded x e n h) [
      | inl w ↦ numbers-more (R trees (string_bytes e.0)) (named_trees loaded) (name_of x ∷ [])
          (held which e.1)
          (all trees (agrees-less trees (named_trees loaded) (name_of x ∷ []) more) n e w)
      | inr w ↦ subst
          (λ (z : LoadedEntry). AreNumbersOf (R trees (string_bytes z.0))
          (named_trees loaded ++ name_of x ∷ []) (held which z.1)) w (new trees more)
    ])

pub distinct-push : (p : Text) (ps : List Text) → AreDistinct ps → among p ps ≡ false
    → AreDistinct (ps ++ p ∷ [])
distinct-push p [] d h = (refl, tt)
distinct-push p (q ∷ ps) d h = (apart, distinct-push p ps d.1 (right (bytes_eq p q) (among p ps) h))
  where
    left : (a b : Bool) → (a || b) ≡ false → a ≡ false
    left true b h = cc
    left false b h = refl

    right : (a b : Bool) → (a || b) ≡ false → b ≡ false
    right true b h = cc
    right false b h = h

    none : (a b : Bool) → a ≡ false → b ≡ false → (a || b) ≡ false
    none true b h k = cc
    none false b h k = k

    other : (b : Bool) → bytes_eq q p ≡ b → b ≡ false
    other false e = refl
    other true e = let same : q ≡ p = text-true q p e in
        let z : bytes_eq p q ≡ true = rw same (text-same p) in
        let w = left (bytes_eq p q) (among p ps) h in cc

    apart : among q (ps ++ p ∷ []) ≡ false
    apart = among-append q ps (p ∷ [])
        ∙ none (among q ps) (bytes_eq q p || false) d.0
        (none (bytes_eq q p) false (other (bytes_eq q p) refl) refl)

pub not-loaded : (p : Text) (loaded : List LoadedEntry) → file_at p loaded ≡ None
    → among p (paths_in (named_trees loaded)) ≡ false
not-loaded p [] h = refl
not-loaded p (e ∷ loaded) h =
    elim (bool_cases (bytes_eq p (string_bytes e.0))) [
      | inl w ↦ absurd (let z : Some e.1 ≡ None = (rw w at h) in cc)
      | inr w ↦ rw w (not-loaded p loaded (rw w at h))
    ]

pub once-push : (loaded : List LoadedEntry) (p : Text) (t : FileSyntax)
    → AreDistinct (paths_in (named_trees loaded)) → file_at p loaded ≡ None
    → AreDistinct (paths_in (named_trees loaded ++ (p, t) ∷ []))
once-push loaded p t once none =
    subst AreDistinct (sym (map-append (λ (f : Named). f.0) (named_trees loaded) ((p, t) ∷ [])))
    (distinct-push p (paths_in (named_trees loaded)) once (not-loaded p loaded none))

pub next-trees : (loaded : List LoadedEntry) (p : Text) (t : FileSyntax)
    → with_next loaded t ≡ trees_of (named_trees loaded ++ (p, t) ∷ [])
next-trees loaded p t = sym (map-append (λ (f : Named). f.1) (named_trees loaded) ((p, t) ∷ []))

-- What is known where a file comes behind those that are loaded.
module _ (path : Text) (tree : FileSyntax) (imports public : List ℕ)
    (old : List LoadedEntry) (before after : Tables) (log : List ReadEntry)
    (key : String Global) (file : LoadedFile)
    (known : AreKnown old before log) (was_read : among path (read_paths log) ≡ true)
    (numbered : FilesAreNumbered (named_trees old) imports (import_paths tree))
    (publicly : FilesAreNumbered (named_trees old) public (public_paths tree))
    (none : file_at path old ≡ None)
    (named : string_bytes key ≡ path) (tree_is : tree_in file ≡ tree)
    (reaches : AreJoined held_as.Reach old imports file.reach.items)
    (hands_on : AreJoined held_as.HandedOn old public file.handed_on.items)
    (tells : TableTells after.names (with_next old tree))
    (begins : IndexBegins after.spots (map descriptor_in (old ++ (key, file) ∷ []))) where
  abbrev x : LoadedEntry
  x = (key, file)

  pub name-is : name_of x ≡ (path, tree)
  name-is = ap (λ (z : Text). (z, tree_in file)) named
      ∙ ap (λ (z : FileSyntax). (path, z)) tree_is

  module _ (trees : Trees) (agrees : Agrees trees (named_trees old ++ (path, tree) ∷ [])) where
    is : trees path ≡ Some tree
    is = agrees-last trees (named_trees old) path tree agrees

    before_it : Agrees trees (named_trees old)
    before_it = agrees-less trees (named_trees old) ((path, tree) ∷ []) agrees

    reach-is : AreNumbersOf (Reaches trees path)
        (named_trees old ++ (path, tree) ∷ []) file.reach.items
    reach-is = numbers-joined held_as.Reach old path tree (Reaches trees path)
        (λ r q. Reaches trees r q) (import_paths tree) imports file.reach.items
        (known.reach trees before_it) (stays path) (λ r q i rest. leads path r q tree is i rest)
        (λ q h. leads-out import_paths trees path q tree is h) numbered reaches

    handed-is : AreNumbersOf (HandsOn trees path)
        (named_trees old ++ (path, tree) ∷ []) file.handed_on.items
    handed-is = numbers-joined held_as.HandedOn old path tree (HandsOn trees path)
        (λ r q. HandsOn trees r q) (public_paths tree) public file.handed_on.items
        (known.handed_on trees before_it) (stays path) (λ r q i rest. leads path r q tree is i rest)
        (λ q h. leads-out public_paths trees path q tree is h) publicly hands_on

  -- the same of the entry
  of-entry : (R : Trees → Text → Text → Type 0) (which : Held)
      → ((trees : Trees) → Agrees trees (named_trees old ++ (path, tree) ∷ [])
      → AreNumbersOf (R trees path) (named_trees old ++ (path, tree) ∷ []) (held which file))
      → (trees : Trees) → Agrees trees (named_trees old ++ name_of x ∷ [])
      → AreNumbersOf (R trees (string_bytes key)) (named_trees old ++ name_of x ∷ [])
      (held which file)
  of-entry R which new trees agrees =
      let there = new trees
      (subst (λ (f : Named). Agrees trees (named_trees old ++ f ∷ [])) name-is agrees) in
      subst (λ (z : Text). AreNumbersOf (R trees z) (named_trees old ++ name_of x ∷ [])
      (held which file)) (sym named)
      (subst (λ (f : Named). AreNumbersOf (R trees path) (named_trees old ++ f ∷ [])
      (held which file)) (sym name-is) there)

  trees-are : trees_of (named_trees (old ++ x ∷ [])) ≡ with_next old tree
  trees-are = ap trees_of (named-push old x)
      ∙ (ap (λ (f : Named). trees_of (named_trees old ++ f ∷ [])) name-is
      ∙ sym (next-trees old path tree))

  paths-are : paths_in (named_trees (old ++ x ∷ []))
      ≡ paths_in (named_trees old ++ (path, tree) ∷ [])
  paths-are = ap paths_in (named-push old x ∙ ap (λ (f : Named). named_trees old ++ f ∷ []) name-is)

  pub known-add : AreKnown (old ++ x ∷ []) after log
  known-add = record {
    tells = subst (TableTells after.names) (sym trees-are) tells;
    begins = begins;
    once = subst AreDistinct (sym paths-are) (once-push old path tree known.once none);
    reach = all-hold-push Reaches held_as.Reach old x known.reach
        (of-entry Reaches held_as.Reach reach-is);
    handed_on = all-hold-push HandsOn held_as.HandedOn old x known.handed_on
        (of-entry HandsOn held_as.HandedOn handed-is);
    read = λ p e h. elim (entry-in p x e old h) [
      | inl w ↦ known.read p e w
      | inr w ↦ subst (λ (z : Text). among z (read_paths log) ≡ true)
          (sym (w.0 ∙ named)) was_read
    ];
  }

module _ (path : Text) (tree : FileSyntax) (height read : ℕ)
    (imports public : List ℕ)
    (old new : List LoadedEntry) (before after : Tables) (log : List ReadEntry) (placed : LoadedAs)
    (known : AreKnown old before log) (was_read : among path (read_paths log) ≡ true)
    (numbered : FilesAreNumbered (named_trees old) imports (import_paths tree))
    (publicly : FilesAreNumbered (named_trees old) public (public_paths tree))
    (none : file_at path old ≡ None)
    (a : IsAddedOver path tree height read imports public old new after placed) where
  pub known-push : AreKnown new after log
  known-push = subst (λ (es : List LoadedEntry). AreKnown es after log) (sym a.entries)
      (known-add path tree imports public old before after log a.key a.file known was_read numbered
      publicly none a.named a.tree_is a.reaches a.hands_on a.tells
      (subst (λ (es : List LoadedEntry). IndexBegins after.spots (map descriptor_in es)) a.entries
      a.begins))

  pub met-push : IsMetAt path old new placed
  met-push = rw a.entries (record {
    number =
        rw a.number_placed
        (rw (named-push old (a.key, a.file), is_named) (
          tree,
          subst (λ (k : ℕ). slice_get (named_trees old ++ (path, tree) ∷ []) k
              ≡ Some (path, tree)) (named-length old) (get-seam (named_trees old) [] (path, tree)),
        ));
    more = ((a.key, a.file) ∷ [], refl);
  })
    where
      is_named : name_of (a.key, a.file) ≡ (path, tree)
      is_named = ap (λ (z : Text). (z, tree_in a.file)) a.named
          ∙ ap (λ (z : FileSyntax). (path, z)) a.tree_is

-- a log that grew has all that was read
pub known-grows : (loaded : List LoadedEntry) (tables : Tables) (old new : List ReadEntry)
    → Grows old new
    → AreKnown loaded tables old → AreKnown loaded tables new
known-grows loaded tables old new grows known = record {
  tells = known.tells;
  begins = known.begins;
  once = known.once;
  reach = known.reach;
  handed_on = known.handed_on;
  read = λ p e h. rw grows.1 (read-more p (known.read p e h));
}
  where
    read-more : (p : Text) → among p (read_paths old) ≡ true
        → among p (read_paths (old ++ grows.0)) ≡ true
    read-more p h = ap (among p) (map-append (λ (e : ReadEntry). path_buf_text e.path) old grows.0)
        ∙ among-left p (read_paths old) (read_paths grows.0) h

-- ** files that aren't loaded

still-none : (p : Text) (loaded : List LoadedEntry) (x : LoadedEntry) → file_at p loaded ≡ None
    → bytes_eq p (string_bytes x.0) ≡ false → file_at p (loaded ++ x ∷ []) ≡ None
still-none p [] x h other = rw other refl
still-none p (e ∷ loaded) x h other =
    elim (bool_cases (bytes_eq p (string_bytes e.0))) [
      | inl w ↦ absurd (let z : Some e.1 ≡ None = (rw w at h) in cc)
      | inr w ↦ rw w (still-none p loaded x (rw w at h) other)
    ]

pub unloaded-push : (chain : List Text) (loaded : List LoadedEntry) (x : LoadedEntry) (q : Text)
    → AreUnloaded chain loaded → string_bytes x.0 ≡ q → among q chain ≡ false
    → AreUnloaded chain (loaded ++ x ∷ [])
unloaded-push chain loaded x q u is off p on =
    still-none p loaded x (u p on) (rw is (other (bytes_eq p q) refl))
  where
    other : (b : Bool) → bytes_eq p q ≡ b → b ≡ false
    other false e = refl
    other true e = let same : p ≡ q = text-true p q e in
        let z : among q chain ≡ true = subst (λ (z : Text). among z chain ≡ true) same on in cc

-- ** no file

pub known-none : (loaded : List LoadedEntry) (tables : Tables) (log : List ReadEntry) → loaded ≡ []
    → TableTells tables.names [] → IndexBegins tables.spots [] → AreKnown loaded tables log
known-none loaded tables log none tells begins = rw none (record {
  tells = tells;
  begins = begins;
  once = tt;
  reach = λ trees agrees n e h. cc;
  handed_on = λ trees agrees n e h. cc;
  read = λ p e h. cc;
})

-- ** a read

-- a path that was read stands in a log that grew since
pub read-since : (p : Text) (old first now : List ReadEntry) (e : ReadEntry) → first ≡ old ++ e ∷ []
    → path_buf_text e.path ≡ p → Grows first now → among p (read_paths now) ≡ true
read-since p old first now e read_now named grows =
    let same : bytes_eq p (path_buf_text e.path) ≡ true = rw named (text-same p) in
    let last : among p (path_buf_text e.path ∷ [])
    ≡ true = or_left (bytes_eq p (path_buf_text e.path)) false same in
    let here : among p (read_paths (old ++ e ∷ []))
    ≡ true = ap (among p) (map-append (λ (e : ReadEntry). path_buf_text e.path) old (e ∷ []))
    ∙ (among-append p (read_paths old) (path_buf_text e.path ∷ [])
    ∙ or_right (among p (read_paths old)) (among p (path_buf_text e.path ∷ [])) last) in
    let there : among p (read_paths first)
    ≡ true = subst (λ (z : List ReadEntry). among p (read_paths z) ≡ true)
    (sym read_now) here in
    rw grows.1 (ap (among p) (map-append (λ (e : ReadEntry). path_buf_text e.path) first grows.0)
    ∙ among-left p (read_paths first) (read_paths grows.0) there)
