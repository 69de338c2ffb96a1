-- Numbers of loaded files, and lists of them.
use Rattle.std.proofs.Common.{◌≡◌, ◌⊎◌, ℕ, zero, suc, ◌+◌, ◌<◌, get_or, take, Bool, true, false}
use Rattle.std.proofs.Common.{◌||◌, inl, inr, List, [], ◌∷◌, ◌++◌, flat_map, length, Option, Some}
use Rattle.std.proofs.Common.{None, option_map, Contains, refl, sym, ◌∙◌, ap, subst, arith}
use Rattle.std.specs.Prelude.{bytes_eq, slice_get, string_bytes}
use Rattle.std.proofs.lemmas.List.{flat_map_more, take_more, map-append, length-map}
use Rattle.std.proofs.lemmas.List.Elements.{Contains-append_left, Contains-append_right}
use Rattle.std.proofs.lemmas.List.Elements.{Contains-append_cases, Contains-push}
use Rattle.std.proofs.lemmas.Option.{slice_get-map}
use Rattle.protobuf_parse_syntax.specs.Trees.{FileSyntax}
use Rattle.protobuf_parse_model.specs.Descriptors.{Text}
use Rattle.protobuf_parse_run.specs.Walks.{among}
use Rattle.protobuf_parse_run.specs.Loading.{AreJoined, FilesAreNumbered, AreNumbersOf, LoadedEntry}
use Rattle.protobuf_parse_run.specs.Loading.{IsNumbered, tree_in}
use Rattle.protobuf_parse_run.specs.Loading.{Named, held, held_at, named_trees}
use Rattle.protobuf_parse_run.specs.declared.reach.Held.{Held}
use Rattle.protobuf_parse_run.proofs.Keeping.{bool_cases, or_left, text-same, text-true}
use Rattle.protobuf_parse_run.proofs.Steps.{get-more, get-seam}

-- ** names and trees of loaded files

abbrev pub name_of : LoadedEntry → Named
name_of e = (string_bytes e.0, tree_in e.1)

pub named-push : (loaded : List LoadedEntry) (x : LoadedEntry)
    → named_trees (loaded ++ x ∷ []) ≡ named_trees loaded ++ name_of x ∷ []
named-push loaded x = map-append name_of loaded (x ∷ [])

pub named-length : (loaded : List LoadedEntry) → length (named_trees loaded) ≡ length loaded
named-length loaded = length-map loaded name_of

entry-of : (o : Option LoadedEntry) (f : Named) → option_map name_of o ≡ Some f
    → (e : LoadedEntry) × (o ≡ Some e) × (name_of e ≡ f)
entry-of None f h = cc
entry-of (Some e) f h = (e, refl, some_is (name_of e) f h)
  where
    some_is : (a b : Named) → Some a ≡ Some b → a ≡ b
    some_is a b h = cc

-- the loaded file that a number names
pub entry-at : (loaded : List LoadedEntry) (n : ℕ) (p : Text) (t : FileSyntax)
    → slice_get (named_trees loaded) n ≡ Some (p, t)
    → (e : LoadedEntry) × (slice_get loaded n ≡ Some e) × (name_of e ≡ (p, t))
entry-at loaded n p t h =
    entry-of (slice_get loaded n) (p, t) (sym (slice_get-map name_of loaded n) ∙ h)

pub name-at : (loaded : List LoadedEntry) (n : ℕ) (e : LoadedEntry) → slice_get loaded n ≡ Some e
    → slice_get (named_trees loaded) n ≡ Some (name_of e)
name-at loaded n e h = slice_get-map name_of loaded n ∙ ap (option_map name_of) h

-- ** numbers

pub numbered-at : (loaded : List LoadedEntry) (n : ℕ) (e : LoadedEntry) (p : Text)
    → slice_get loaded n ≡ Some e
    → string_bytes e.0 ≡ p → IsNumbered (named_trees loaded) n p
numbered-at loaded n e p there is = (
  tree_in e.1,
  name-at loaded n e there
      ∙ ap (λ (z : Text). Some (z, tree_in e.1)) is,
)

pub numbered-more : (files more : List Named) (n : ℕ) (q : Text) → IsNumbered files n q
    → IsNumbered (files ++ more) n q
numbered-more files more n q h = (h.0, get-more files more n (q, h.0) h.1)

pub are-more : (files more : List Named) (ns : List ℕ) (ps : List Text)
    → FilesAreNumbered files ns ps
    → FilesAreNumbered (files ++ more) ns ps
are-more files more [] [] h = tt
are-more files more (n ∷ ns) (p ∷ ps) h =
    (numbered-more files more n p h.0, are-more files more ns ps h.1)
are-more files more [] (p ∷ ps) h = absurd h
are-more files more (n ∷ ns) [] h = absurd h

pub are-append : (files : List Named) (ns ms : List ℕ) (ps qs : List Text)
    → FilesAreNumbered files ns ps
    → FilesAreNumbered files ms qs → FilesAreNumbered files (ns ++ ms) (ps ++ qs)
are-append files [] ms [] qs h g = g
are-append files (n ∷ ns) ms (p ∷ ps) qs h g = (h.0, are-append files ns ms ps qs h.1 g)
are-append files [] ms (p ∷ ps) qs h g = absurd h
are-append files (n ∷ ns) ms [] qs h g = absurd h

none-in : (n : ℕ) → Contains [] n → ⊥
none-in n (k, lt, is) = omega (arith, lt)

one-in : (n : ℕ) → Contains (n ∷ []) n
one-in n = (0, omega arith, refl)

pub only-one : (x n : ℕ) → Contains (x ∷ []) n → n ≡ x
only-one x n (zero, lt, is) = sym is
only-one x n (suc k, lt, is) = absurd (omega (arith, lt))

or_true : (b : Bool) → (b || true) ≡ true
or_true true = refl
or_true false = refl

-- each of these numbers is that of one of the paths
pub numbered-in : (files : List Named) (ns : List ℕ) (ps : List Text) (b : ℕ)
    → FilesAreNumbered files ns ps → Contains ns b
    → (q : Text) × (among q ps ≡ true) × IsNumbered files b q
numbered-in files [] [] b h c = absurd (none-in b c)
numbered-in files (n ∷ ns) (p ∷ ps) b h c =
    elim (Contains-append_cases (n ∷ []) ns b c) [
      | inl w ↦ (
        p,
        or_left _ _ (text-same p),
        subst (λ (m : ℕ). IsNumbered files m p) (sym (only-one n b w)) h.0,
      )
      | inr w ↦
          let r = numbered-in files ns ps b h.1 w in
          (r.0, rw r.1 (or_true (bytes_eq r.0 p)), r.2)
    ]
numbered-in files [] (p ∷ ps) b h c = absurd h
numbered-in files (n ∷ ns) [] b h c = absurd h

-- each of these paths has one of the numbers
pub path-in : (files : List Named) (ns : List ℕ) (ps : List Text) (q : Text)
    → FilesAreNumbered files ns ps → among q ps ≡ true → (b : ℕ) × Contains ns b
    × IsNumbered files b q
path-in files [] [] q h a = cc
path-in files (n ∷ ns) (p ∷ ps) q h a =
    elim (bool_cases (bytes_eq q p)) [
      | inl w ↦ (
        n,
        Contains-append_left (n ∷ []) ns n (one-in n),
        subst (λ (z : Text). IsNumbered files n z) (sym (text-true q p w)) h.0,
      )
      | inr w ↦
          let r = path-in files ns ps q h.1 (rw w at a) in
          (r.0, Contains-append_right (n ∷ []) ns r.0 r.1, r.2)
    ]
path-in files [] (p ∷ ps) q h a = absurd h
path-in files (n ∷ ns) [] q h a = absurd h

-- ** lists of lists

pub out-of : (f : ℕ → List ℕ) (ns : List ℕ) (n : ℕ) → Contains (flat_map f ns) n
    → (b : ℕ) × Contains ns b × Contains (f b) n
out-of f [] n c = absurd (none-in n c)
out-of f (b ∷ ns) n c =
    elim (Contains-append_cases (f b) (flat_map f ns) n c) [
      | inl w ↦ (b, Contains-append_left (b ∷ []) ns b (one-in b), w)
      | inr w ↦ let r = out-of f ns n w in (r.0, Contains-append_right (b ∷ []) ns r.0 r.1, r.2)
    ]

pub into : (f : ℕ → List ℕ) (ns : List ℕ) (b n : ℕ) → Contains ns b → Contains (f b) n
    → Contains (flat_map f ns) n
into f [] b n there c = absurd (none-in b there)
into f (m ∷ ns) b n there c =
    elim (Contains-append_cases (m ∷ []) ns b there) [
      | inl w ↦ Contains-append_left (f m) (flat_map f ns) n
          (subst (λ (z : ℕ). Contains (f z) n) (only-one m b w) c)
      | inr w ↦ Contains-append_right (f m) (flat_map f ns) n (into f ns b n w c)
    ]

-- one number more
pub gathered-next : (f : ℕ → List ℕ) (ns : List ℕ) (k : ℕ) (old new more : List ℕ) → k < length ns
    → old ≡ flat_map f (take k ns) → more ≡ f (get_or ns k 0) → new ≡ old ++ more
    → new ≡ flat_map f (take (k + 1) ns)
gathered-next f ns k old new more lt before one is = is
    ∙ (rw (before, one) (flat_map_more f [] (take k ns) (get_or ns k 0)
    ∙ ap (flat_map f) (sym (take_more ns k 0 lt))))

-- ** the numbers of files that have a property

pub numbers-more : (Has : Text → Type 0) (files more : List Named) (ns : List ℕ)
    → AreNumbersOf Has files ns → AreNumbersOf Has (files ++ more) ns
numbers-more Has files more ns r = record {
  sound = λ n c. let s = r.sound n c in (s.0, numbered-more files more n s.0 s.1, s.2);
  complete = λ q h. let s = r.complete q h in (s.0, s.1, numbered-more files more s.0 q s.2);
}

-- A file p is put behind the others; it has the property itself, and besides it those have it that
-- have another property of one of the paths. The files with these paths hold the numbers of those
-- with that other property.
module _ (which : Held) (loaded : List LoadedEntry) (p : Text) (t : FileSyntax)
    (Has : Text → Type 0)
    (Of : Text → Text → Type 0) (paths : List Text) (below ns : List ℕ)
    (holds : (n : ℕ) (e : LoadedEntry) → slice_get loaded n ≡ Some e
    → AreNumbersOf (Of (string_bytes e.0)) (named_trees loaded)
    (held which e.1)) (self : Has p) (via : (r q : Text) → among r paths ≡ true → Of r q
    → Has q) (out : (q : Text) → Has q → (p ≡ q)
    ⊎ ((r : Text) × (among r paths ≡ true) × Of r q)) (numbered : FilesAreNumbered
    (named_trees loaded) below paths) (joined : AreJoined which loaded below ns) where
  abbrev at : ℕ → List ℕ
  at n = held_at which (slice_get loaded n)

  abbrev with_p : List Named
  with_p = named_trees loaded ++ (p, t) ∷ []

  last : IsNumbered with_p (length loaded) p
  last = (
    t,
    subst (λ (k : ℕ). slice_get with_p k ≡ Some (p, t)) (named-length loaded)
        (get-seam (named_trees loaded) [] (p, t)),
  )

  -- the file with that number holds those numbers
  holds-at : (b : ℕ) (r : Text) → IsNumbered (named_trees loaded) b r
      → AreNumbersOf (Of r) (named_trees loaded) (at b)
  holds-at b r i =
      let e = entry-at loaded b r i.0 i.1 in
      let path : string_bytes e.0.0 ≡ r = ap (λ (f : Named). f.0) e.2 in
      subst (λ (o : Option LoadedEntry). AreNumbersOf (Of r) (named_trees loaded) (held_at which o))
      (sym e.1)
      (subst (λ (z : Text). AreNumbersOf (Of z) (named_trees loaded) (held which e.0.1)) path
      (holds b e.0 e.1))

  sound-joined : (n : ℕ) → Contains ns n → (q : Text) × IsNumbered with_p n q × Has q
  sound-joined n c =
      elim (Contains-append_cases (flat_map at below) (length loaded ∷ []) n (joined.only n c)) [
        | inl w ↦
            let b = out-of at below n w in
            let i = numbered-in (named_trees loaded) below paths b.0 numbered b.1 in
            let s = (holds-at b.0 i.0 i.2).sound n b.2 in
            (s.0, numbered-more (named_trees loaded) ((p, t) ∷ []) n s.0 s.1, via i.0 s.0 i.1 s.2)
        | inr w ↦ (
          p,
          subst (λ (m : ℕ). IsNumbered with_p m p) (sym (only-one (length loaded) n w)) last,
          self,
        )
      ]

  complete-joined : (q : Text) → Has q → (n : ℕ) × Contains ns n × IsNumbered with_p n q
  complete-joined q h =
      elim (out q h) [
        | inl same ↦ (
          length loaded,
          joined.all (length loaded)
              (Contains-push (flat_map at below) (length loaded)),
          subst (λ (z : Text). IsNumbered with_p (length loaded) z) same last,
        )
        | inr r ↦
            let i = path-in (named_trees loaded) below paths r.0 numbered r.1 in
            let s = (holds-at i.0 r.0 i.2).complete q r.2 in (
              s.0,
              joined.all s.0
                  (Contains-append_left (flat_map at below) (length loaded ∷ []) s.0
                  (into at below i.0 s.0 i.1 s.1)),
              numbered-more (named_trees loaded) ((p, t) ∷ []) s.0 q s.2,
            )
      ]

  pub numbers-joined : AreNumbersOf Has with_p ns
  numbers-joined = record { sound = sound-joined; complete = complete-joined }
