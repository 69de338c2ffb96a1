-- The names that the next file brings together, by the names that are listed.
use Rattle.std.proofs.Common.{◌≡◌, ◌∙◌, ◌<◌, ◌≤◌, ℕ, zero, suc, Bool, true, false, not, ◌&&◌}
use Rattle.std.proofs.Common.{List, [], ◌∷◌, ◌++◌, Some, ap, append_assoc, arith, cond}
use Rattle.std.proofs.Common.{filter, flat_map, length, nat_eq, refl, subst, sym}
use Rattle.std.proofs.Common.{inl, inr, if◌then◌else◌, Contains}
use Rattle.std.specs.Prelude.{bytes_eq, nat_lt, slice_get, string_bytes}
use Rattle.std.specs.List.{list_any}
use Rattle.std.specs.List.Sorted.{IsStrictlyIncreasing}
use Rattle.std.proofs.lemmas.Bool.{eq-eqb, eqb-true, ltb-false, ltb-true}
use Rattle.std.proofs.lemmas.List.Elements.{Contains-append_cases, Contains-append_left}
use Rattle.std.proofs.lemmas.List.Elements.{Contains-append_right, Contains-push}
use Rattle.std.proofs.lemmas.List.Sums.{count_by-le-length, length-filter}
use Rattle.protobuf_parse_base.specs.Multimaps.{values_under}
use Rattle.protobuf_parse_syntax.specs.Trees.{FileSyntax}
use Rattle.protobuf_parse_model.specs.Descriptors.{Text}
use Rattle.protobuf_parse_model.specs.Linking.{full_names, occurrences}
use Rattle.protobuf_parse_model.specs.SeenFiles.{declared_as}
use Rattle.protobuf_parse_model.specs.TableParts.{times}
use Rattle.protobuf_parse_model.specs.Tables.{TableTells, is_of, listed_names, picked}
use Rattle.protobuf_parse_model.specs.declared.scope.seen.Declaration.{Declaration}
use Rattle.protobuf_parse_model.specs.declared.scope.seen.Declarations.{Declarations}
use Rattle.protobuf_parse_model.proofs.Links.{times_over}
use Rattle.protobuf_parse_elaboration.specs.FilesByPath.{AreDistinct, AreJust, trees_at}
use Rattle.protobuf_parse_elaboration.proofs.Orders.{just-same}
use Rattle.protobuf_parse_run.specs.declared.reach.Held.TheVariants as held_as
use Rattle.protobuf_parse_run.specs.declared.tables.Tables.{Tables}
use Rattle.protobuf_parse_run.specs.Loading.{AreJoined, IsNumbered, LoadedEntry, Named, named_trees}
use Rattle.protobuf_parse_run.specs.Loading.{paths_in, tree_in, with_next}
use Rattle.protobuf_parse_run.specs.Run.{Files}
use Rattle.protobuf_parse_run.specs.Walks.{Reaches, among, import_paths}
use Rattle.protobuf_parse_run.proofs.Elaborating.{agrees-p, among-at, by-number, by-path, just-by}
use Rattle.protobuf_parse_run.proofs.Elaborating.{once-p, one-number, paths_by, picked-are}
use Rattle.protobuf_parse_run.proofs.Faulty.{any-number, any-text, number-any, same-bool, text-any}
use Rattle.protobuf_parse_run.proofs.Keeping.{among-append, bool_cases, never_both}
use Rattle.protobuf_parse_run.proofs.Keeping.{none_some, or_left, or_right, text-same}
use Rattle.protobuf_parse_run.proofs.Keeping.{text-true}
use Rattle.protobuf_parse_run.proofs.Knowing.{next-trees}
use Rattle.protobuf_parse_run.proofs.Numbers.{name-at, name_of, numbered-more, only-one}
use Rattle.protobuf_parse_run.proofs.Numbers.{named-push, numbers-more}
use Rattle.protobuf_parse_load.specs.Steps.{closed_paths}
use Rattle.protobuf_parse_check.specs.Gathered.{brings, others_reached}
use Rattle.protobuf_parse_check.specs.Gathered.{reaches_twice}
use Rattle.protobuf_parse_check.specs.Judging.{Bringers, BringsNew, IsBelow, any_of, is_new}
use Rattle.protobuf_parse_check.specs.Judging.{listed_for}
use Rattle.protobuf_parse_check.specs.Reports.{Checked, files_of}
use Rattle.protobuf_parse_check.specs.SoFar.{KeepsBringers}
use Rattle.protobuf_parse_check.proofs.InOrder.{ordered-same}
use Rattle.protobuf_parse_check.proofs.NextFile.{Stands, below, by-order, next, not-before}
use Rattle.protobuf_parse_check.proofs.NextFile.{reach-is, with_next_path}
use Rattle.protobuf_parse_check.proofs.Orders.{kept-path, leads-through}
use Rattle.protobuf_parse_check.proofs.Orders.{other-before, reaches-before, some-brings, split-at}
use Rattle.protobuf_parse_check.proofs.OverPaths.{twice-same}
use Rattle.protobuf_parse_check.proofs.Verdicts.{Place_of, among_them, beyond, place-of, the_last}

-- ** numbers and names

-- where fewer pass one test than the other, one passes just the other
fewer : {A : Type 0} (f g : A → Bool) (xs : List A)
    → length (filter g xs) < length (filter f xs)
    → (x : A) × Contains xs x × (f x ≡ true) × (g x ≡ false)
fewer f g [] lt = absurd (omega (arith, lt))
fewer {A} f g (x ∷ xs) lt = at (f x) (g x) refl refl lt (fewer f g xs)
  where
    Result : Type 0
    Result = (y : A) × Contains (x ∷ xs) y × (f y ≡ true) × (g y ≡ false)

    later : (y : A) × Contains xs y × (f y ≡ true) × (g y ≡ false) → Result
    later r = (r.0, Contains-append_right (x ∷ []) xs r.0 r.1, r.2, r.3)

    at : (a b : Bool) → f x ≡ a → g x ≡ b
        → length (cond b (x ∷ filter g xs) (filter g xs))
        < length (cond a (x ∷ filter f xs) (filter f xs))
        → (length (filter g xs) < length (filter f xs)
        → (y : A) × Contains xs y × (f y ≡ true) × (g y ≡ false)) → Result
    at true true h k lt more = later (more (omega (arith, lt)))
    at true false h k lt more =
        (x, Contains-append_left (x ∷ []) xs x (0, omega arith, refl), h, k)
    at false true h k lt more = later (more (omega (arith, lt)))
    at false false h k lt more = later (more lt)

-- no declaration stands in no file
times-none : (extension : Bool) (ds : List Declaration) → times extension [] ds ≡ 0
times-none extension [] = refl
times-none extension (d ∷ ds) =
    ap (λ (b : Bool). length (cond b
    (d ∷ filter (λ (x : Declaration). is_of extension x.kind && false) ds)
    (filter (λ (x : Declaration). is_of extension x.kind && false) ds)))
    (and_false (is_of extension d.kind))
    ∙ times-none extension ds
  where
    and_false : (b : Bool) → (b && false) ≡ false
    and_false true = refl
    and_false false = refl

and_parts : (a b : Bool) → (a && b) ≡ true → (a ≡ true) × (b ≡ true)
and_parts true b h = (refl, h)
and_parts false b h = cc

and_other : (a b : Bool) → a ≡ true → (a && b) ≡ false → b ≡ false
and_other true b h k = k
and_other false b h k = cc

not_more : (n : ℕ) → nat_lt 1 n ≡ false → n ≤ 1
not_more n h = ltb-false 1 n h

was_not : (b : Bool) → not b ≡ true → b ≡ false
was_not true h = cc
was_not false h = refl

number-listed : (n : ℕ) (ns : List ℕ) → list_any (nat_eq n) ns ≡ true → Contains ns n
number-listed n ns h =
    let r = number-any (nat_eq n) ns h in
    subst (λ (k : ℕ). Contains ns k) (sym (eqb-true n r.0 r.2)) r.1

listed-number : (n : ℕ) (ns : List ℕ) → Contains ns n → list_any (nat_eq n) ns ≡ true
listed-number n ns h = any-number (nat_eq n) ns n h
    (eq-eqb n n refl)

name-listed : (name : Text) (names : List Text) → Contains names name → among name names ≡ true
name-listed name [] (k, lt, is) = absurd (omega (arith, lt))
name-listed name (x ∷ names) h =
    elim (Contains-append_cases (x ∷ []) names name h) [
      | inl w ↦ or_left (bytes_eq name x) (among name names) (same w)
      | inr w ↦ or_right (bytes_eq name x) (among name names) (name-listed name names w)
    ]
  where
    same : Contains (x ∷ []) name → bytes_eq name x ≡ true
    same (zero, lt, is) = subst (λ (z : Text). bytes_eq name z ≡ true) (sym is) (text-same name)
    same (suc k, lt, is) = absurd (omega (arith, lt))

for-listed : (table : Declarations) (n : ℕ) (name : Text) (ns : List ℕ) → Contains ns n
    → among name (listed_names table n) ≡ true → among name (listed_for table ns) ≡ true
for-listed table n name [] (k, lt, is) m = absurd (omega (arith, lt))
for-listed table n name (x ∷ ns) h m =
    among-append name (listed_names table x) (listed_for table ns)
    ∙ elim (Contains-append_cases (x ∷ []) ns n h) [
      | inl w ↦ or_left (among name (listed_names table x)) (among name (listed_for table ns))
          (subst (λ (k : ℕ). among name (listed_names table k) ≡ true) (only-one x n w) m)
      | inr w ↦ or_right (among name (listed_names table x)) (among name (listed_for table ns))
          (for-listed table n name ns w m)
    ]

module _ (c : Checked) (loaded : List LoadedEntry) (tables : Tables) (before after : List Text)
    (p : Text) (t : FileSyntax) (s : Stands c loaded tables before after p t)
    (reach sight : List ℕ)
    (reaches : AreJoined held_as.Reach loaded (below c loaded tables before after p t s) reach)
    (sees : AreJoined held_as.HandedOn loaded (below c loaded tables before after p t s) sight)
  where
    abbrev files : Files
    files = files_of c

    abbrev with_p : List Named
    with_p = with_next_path c loaded tables before after p t s

    once : AreDistinct (paths_in with_p)
    once = once-p files loaded tables c.reads p t (below c loaded tables before after p t s)
        (next c loaded tables before after p t s) reach sight reaches sees

    -- a number among these is that of a path that is reached
    path-reached : (n : ℕ) (q : Text) → IsNumbered with_p n q → Contains reach n
        → among q (c.reached p) ≡ true
    path-reached n q is h =
        subst (λ (ps : List Text). among q ps ≡ true)
        (reach-is c loaded tables before after p t s reach sight reaches sees)
        (by-path with_p reach q n h is)

    -- and the other way round
    number-reached : (n : ℕ) (q : Text) → IsNumbered with_p n q → among q (c.reached p) ≡ true
        → Contains reach n
    number-reached n q is m =
        let r = by-number with_p reach q
        (subst (λ (ps : List Text). among q ps ≡ true)
        (sym (reach-is c loaded tables before after p t s reach sight reaches sees)) m) in
        subst (λ (k : ℕ). Contains reach k) (one-number with_p r.0 n q once r.2 is) r.1

    -- a loaded file is another than the next
    loaded-other : (n : ℕ) (q : Text) → IsNumbered (named_trees loaded) n q
        → not (bytes_eq q p) ≡ true
    loaded-other n q is = at (bytes_eq q p) refl
      where
        there : among q before ≡ true
        there = subst (λ (ps : List Text). among q ps ≡ true) s.paths
            (among-at (named_trees loaded) n q is)

        at : (b : Bool) → bytes_eq q p ≡ b → not (bytes_eq q p) ≡ true
        at false h = ap not h
        at true h =
            absurd (never_both (among p before)
            (subst (λ (z : Text). among z before ≡ true) (text-true q p h) there)
            (not-before before after p
            (subst AreDistinct s.order
            s.ordered.once)))

    other-reached : (n : ℕ) (q : Text) → IsNumbered (named_trees loaded) n q → Contains reach n
        → among q (others_reached files p) ≡ true
    other-reached n q is h =
        kept-path (λ (z : Text). not (bytes_eq z p)) q (c.reached p)
        (path-reached n q (numbered-more (named_trees loaded) ((p, t) ∷ []) n q is) h)
        (loaded-other n q is)

    -- the number of a file that stands before
    number-of : (q : Text) → among q before ≡ true → (n : ℕ) × IsNumbered (named_trees loaded) n q
    number-of q m =
        let r = numbered-at-path (named_trees loaded)
        (subst (λ (ps : List Text). among q ps ≡ true) (sym s.paths) m) in r
      where
        numbered-at-path : (fs : List Named) → among q (paths_in fs) ≡ true
            → (n : ℕ) × IsNumbered fs n q
        numbered-at-path [] m = cc
        numbered-at-path (f ∷ fs) m =
            elim (bool_cases (bytes_eq q f.0)) [
              | inl w ↦ (0, (f.1, ap (λ (z : Text). Some (z, f.1)) (sym (text-true q f.0 w))))
              | inr w ↦ let r = numbered-at-path fs (rw w at m) in (suc r.0, r.1)
            ]

    -- what a file that is reached reaches is reached
    reached-through : (q r : Text) → among q (c.reached p) ≡ true → among r (c.reached q) ≡ true
        → among r (c.reached p) ≡ true
    reached-through q r m k =
        (s.ordered.listed.just.reaches p).all r
        (leads-through import_paths files.trees p q r
        ((s.ordered.listed.just.reaches p).only q m)
        ((s.ordered.listed.just.reaches q).only r k))

    module _ (extension : Bool) (bringers : Bringers)
        (keeps : KeepsBringers c extension loaded bringers) where
      -- one of the files is noted where one of the others reaches the name twice
      noted-same : (name : Text) → any_of (values_under bringers name) reach
          ≡ list_any (reaches_twice files extension name) (others_reached files p)
      noted-same name =
          same-bool (any_of (values_under bringers name) reach)
          (list_any (reaches_twice files extension name) (others_reached files p)) into back
        where
          into : any_of (values_under bringers name) reach ≡ true
              → list_any (reaches_twice files extension name) (others_reached files p) ≡ true
          into h =
              let n = number-any (λ (n : ℕ). list_any (nat_eq n) reach)
              (values_under bringers name) h in
              let q = keeps.only name n.0 n.1 in
              any-text (reaches_twice files extension name) (others_reached files p) q.0
              (other-reached n.0 q.0 q.1 (number-listed n.0 reach n.2))
              (and_parts (reaches_twice files extension name q.0)
              (not (list_any (reaches_twice files extension name) (others_reached files q.0)))
              q.2).0

          back : list_any (reaches_twice files extension name) (others_reached files p) ≡ true
              → any_of (values_under bringers name) reach ≡ true
          back h =
              let q = text-any (reaches_twice files extension name) (others_reached files p) h in
              let b = other-before c s.ordered p q.0 before after s.order q.1 in
              let split = split-at q.0 before b.1 in
              let seam : closed_paths c.steps
              ≡ split.0 ++ q.0 ∷ (split.1 ++ p ∷ after) =
              s.order ∙ ap (λ zs. zs ++ p ∷ after) split.2
              ∙ append_assoc split.0 (q.0 ∷ split.1) (p ∷ after) in
              let r = some-brings c s.ordered extension name q.0 split.0
              (split.1 ++ p ∷ after) seam q.2 in
              let front : among r.0 before ≡ true =
              elim (reaches-before c s.ordered q.0 r.0 split.0 (split.1 ++ p ∷ after) seam
              ((s.ordered.listed.just.reaches q.0).only r.0 r.1)) [
                | inl w ↦ subst (λ (z : Text). among z before ≡ true) w b.1
                | inr w ↦ subst (λ (zs : List Text). among r.0 zs ≡ true) (sym split.2)
                    (among-append r.0 split.0 (q.0 ∷ split.1)
                    ∙ or_left (among r.0 split.0) (among r.0 (q.0 ∷ split.1)) w)
              ] in
              let n = number-of r.0 front in
              any-number (λ (k : ℕ). list_any (nat_eq k) reach) (values_under bringers name) n.0
              (keeps.all name n.0 r.0 n.1 r.2)
              (listed-number n.0 reach
              (number-reached n.0 r.0
              (numbered-more (named_trees loaded) ((p, t) ∷ []) n.0 r.0 n.1)
              (reached-through q.0 r.0 b.0 r.1)))

      pub new-same : (name : Text) → is_new (with_next loaded t) reach extension bringers name
          ≡ brings files extension p name
      new-same name =
          ap (λ (b : Bool). b && not (any_of (values_under bringers name) reach))
          (twice-same c loaded tables before after p t s reach sight reaches sees extension name)
          ∙ ap (λ (b : Bool). reaches_twice files extension name p && not b) (noted-same name)

    -- what a loaded file reaches, by numbers
    loaded-reach : (n : ℕ) (e : LoadedEntry) → slice_get loaded n ≡ Some e
        → picked (with_next loaded t) e.1.reach.items
        ≡ trees_at files.trees (c.reached (string_bytes e.0))
    loaded-reach n e is =
        let q = string_bytes e.0 in
        let up = s.rising n e is in
        let there : among q (closed_paths c.steps) ≡ true =
        subst (λ (ps : List Text). among q ps ≡ true) (sym s.order)
        (among-append q before (p ∷ after)
        ∙ or_left (among q before) (among q (p ∷ after))
        (subst (λ (ps : List Text). among q ps ≡ true) s.paths
        (among-at (named_trees loaded) n q (
          tree_in e.1,
          name-at loaded n e is,
        )))) in
        let just : AreJust (Reaches files.trees q) (paths_by with_p e.1.reach.items) =
        just-by (Reaches files.trees q) with_p e.1.reach.items once up
        (numbers-more (Reaches files.trees q) (named_trees loaded) ((p, t) ∷ []) e.1.reach.items
        (s.known.reach files.trees s.agrees n e is)) in
        let same : paths_by with_p e.1.reach.items ≡ c.reached q =
        ordered-same (closed_paths c.steps) (paths_by with_p e.1.reach.items) (c.reached q)
        (by-order c loaded tables before after p t s e.1.reach.items up)
        (s.ordered.listed.reached_in_order q there)
        (just-same (Reaches files.trees q) (paths_by with_p e.1.reach.items) (c.reached q) just
        (s.ordered.listed.just.reaches q)) in
        ap (λ (ts : List FileSyntax). picked ts e.1.reach.items) (next-trees loaded p t)
        ∙ picked-are files.trees with_p e.1.reach.items
        (agrees-p files loaded tables c.reads p t (below c loaded tables before after p t s)
        (next c loaded tables before after p t s) reach sight reaches sees)
        ∙ ap (trees_at files.trees) same

    module _ (table : Declarations) (tells : TableTells table (with_next loaded t))
        (extension : Bool) (name : Text) (h : brings files extension p name ≡ true) where
      abbrev declared : List Declaration
      declared = declared_as table name

      -- what one of the others reaches declares it at most once
      below-few : (numbers : List ℕ) → IsBelow loaded reach numbers
          → times extension numbers declared ≤ 1
      below-few numbers (inl w) =
          let nothing : times extension numbers declared ≡ 0 =
          ap (λ (ns : List ℕ). times extension ns declared) w ∙ times-none extension declared in
          omega (arith, nothing)
      below-few numbers (inr (n, e, m, is, same)) =
          let q = string_bytes e.0 in
          let other : among q (others_reached files p) ≡ true =
          other-reached n q (
            tree_in e.1,
            name-at loaded n e is,
          ) (number-listed n reach m) in
          let parts = and_parts (reaches_twice files extension name p)
          (not (list_any (reaches_twice files extension name) (others_reached files p))) h in
          let not-twice : reaches_twice files extension name q ≡ false =
          elim (bool_cases (reaches_twice files extension name q)) [
            | inl w ↦ absurd (never_both
                (list_any (reaches_twice files extension name) (others_reached files p))
                (any-text (reaches_twice files extension name) (others_reached files p) q other w)
                (was_not (list_any (reaches_twice files extension name) (others_reached files p))
                parts.1))
            | inr w ↦ w
          ] in
          let by-numbers : nat_lt 1 (times extension e.1.reach.items declared)
          ≡ reaches_twice files extension name q =
          ap (nat_lt 1) (times_over table (with_next loaded t) tells e.1.reach.items
          (s.rising n e is) extension name)
          ∙ ap (λ (ts : List FileSyntax). nat_lt 1
          (occurrences name
          (flat_map (full_names extension) ts)))
          (loaded-reach n e is) in
          subst (λ (ns : List ℕ). times extension ns declared ≤ 1) (sym same)
          (not_more (times extension e.1.reach.items declared) (by-numbers ∙ not-twice))

      below-rises : (numbers : List ℕ) → IsBelow loaded reach numbers
          → IsStrictlyIncreasing numbers
      below-rises numbers (inl w) =
          subst IsStrictlyIncreasing (sym w) (λ i lt. absurd (omega (arith, lt)))
      below-rises numbers (inr (n, e, m, is, same)) =
          subst IsStrictlyIncreasing (sym same) (s.rising n e is)

      -- so it is listed for a file that they don't reach
      candidate : (numbers listed : List ℕ) → IsBelow loaded reach numbers
          → (IsStrictlyIncreasing numbers → (n : ℕ) → list_any (nat_eq n) reach ≡ true
          → list_any (nat_eq n) numbers ≡ false → list_any (nat_eq n) listed ≡ true)
          → among name (listed_for table listed) ≡ true
      candidate numbers listed is-below all =
          let parts = and_parts (reaches_twice files extension name p)
          (not (list_any (reaches_twice files extension name) (others_reached files p))) h in
          let over : nat_lt 1 (times extension reach declared) ≡ true =
          ap (nat_lt 1) (times_over table (with_next loaded t) tells reach reaches.ascending
          extension name)
          ∙ twice-same c loaded tables before after p t s reach sight reaches sees extension name
          ∙ parts.0 in
          let more : 1 < times extension reach declared =
          ltb-true 1 (times extension reach declared) over in
          let few = below-few numbers is-below in
          let f : Declaration → Bool =
          λ d. is_of extension d.kind && list_any (nat_eq d.file) reach in
          let g : Declaration → Bool =
          λ d. is_of extension d.kind && list_any (nat_eq d.file) numbers in
          let d = fewer f g declared (omega (arith, more, few)) in
          let there = and_parts (is_of extension d.0.kind) (list_any (nat_eq d.0.file) reach)
          d.2 in
          let not-below = and_other (is_of extension d.0.kind)
          (list_any (nat_eq d.0.file) numbers) there.0 d.3 in
          let count = length-filter f declared in
          let most = count_by-le-length f declared in
          let listed-name = tells.lists name (omega (arith, more, count, most)) d.0 d.1 in
          for-listed table d.0.file name listed
          (number-listed d.0.file listed
          (all (below-rises numbers is-below) d.0.file there.1 not-below))
          (name-listed name (listed_names table d.0.file) listed-name)

    module _ (table : Declarations) (tells : TableTells table (with_next loaded t))
        (extension : Bool) (old new : Bringers) (keeps : KeepsBringers c extension loaded old)
        (names : List Text)
        (b : BringsNew loaded (with_next loaded t) table reach extension old new names) where
      -- these are just the names that it brings together
      pub names-are : AreJust (λ (name : Text). brings files extension p name ≡ true) names
      names-are = record {
        once = b.brings.once;
        only = λ name m. sym (new-same extension old keeps name) ∙ b.brings.only name m;
        all = λ name h. b.brings.all name
            (candidate table tells extension name h b.beside.below b.listed b.beside.is_below
            b.beside.all)
            (new-same extension old keeps name ∙ h);
      }

      noted : (name : Text) (n : ℕ) (there : Bool)
          → Contains (if there then length loaded ∷ [] else []) n
          → (there ≡ true) × (n ≡ length loaded)
      noted name n true h = (refl, only-one (length loaded) n h)
      noted name n false (k, lt, is) = absurd (omega (arith, lt))

      -- it is noted for them, and no other file more than before
      pub still-kept : (e : LoadedEntry) → name_of e ≡ (p, t)
          → KeepsBringers c extension (loaded ++ e ∷ []) new
      still-kept e is = record {
        only = λ name n h.
            let there = subst (λ (ns : List ℕ). Contains ns n) (b.brings.keeps name) h in
            elim (Contains-append_cases (values_under old name)
            (if among name names then length loaded ∷ [] else []) n there) [
              | inl w ↦
                  let q = keeps.only name n w in (
                    q.0,
                    subst (λ (fs : List Named). IsNumbered fs n q.0) (sym trees)
                        (numbered-more (named_trees loaded) ((p, t) ∷ []) n q.0 q.1),
                    q.2,
                  )
              | inr w ↦
                  let r = noted name n (among name names) w in (
                    p,
                    subst (λ (fs : List Named). IsNumbered fs n p) (sym trees)
                        (subst (λ (k : ℕ). IsNumbered with_p k p) (sym r.1) (t, last)),
                    names-are.only name r.0,
                  )
            ];
        all = λ name n q at h.
            subst (λ (ns : List ℕ). Contains ns n) (sym (b.brings.keeps name))
            (found name n q
            (subst (λ (fs : List Named). IsNumbered fs n q) trees at) h
            (place-of loaded (p, t) n));
      }
        where
          trees : named_trees (loaded ++ e ∷ []) ≡ with_p
          trees = named-push loaded e
              ∙ ap (λ (f : Named). named_trees loaded ++ f ∷ []) is

          last : slice_get with_p (length loaded) ≡ Some (p, t)
          last = at_last (place-of loaded (p, t) (length loaded))
            where
              at_last : Place_of loaded (p, t) (length loaded)
                  → slice_get with_p (length loaded) ≡ Some (p, t)
              at_last (among_them d there lt at) = absurd (omega (arith, lt))
              at_last (the_last same at) = at
              at_last (beyond lt at) = absurd (omega (arith, lt))

          some_is : (x y : Named) → Some x ≡ Some y → x ≡ y
          some_is x y h = cc

          found : (name : Text) (n : ℕ) (q : Text) → IsNumbered with_p n q
              → brings files extension q name ≡ true → Place_of loaded (p, t) n
              → Contains (values_under old name
              ++ (if among name names then length loaded ∷ [] else [])) n
          found name n q at h (among_them d there lt here) =
              let same : name_of d ≡ (q, at.0) = some_is (name_of d) (q, at.0) (sym here ∙ at.1) in
              let numbered : IsNumbered (named_trees loaded) n q = (
                at.0,
                name-at loaded n d there ∙ ap (λ (f : Named). Some f) same,
              ) in
              Contains-append_left (values_under old name)
              (if among name names then length loaded ∷ [] else []) n
              (keeps.all name n q numbered h)
          found name n q at h (the_last same here) =
              let path : p ≡ q = ap (λ (f : Named). f.0)
              (some_is (p, t) (q, at.0) (sym here ∙ at.1)) in
              let there : among name names ≡ true = names-are.all name
              (subst (λ (z : Text). brings files extension z name ≡ true) (sym path) h) in
              Contains-append_right (values_under old name)
              (if among name names then length loaded ∷ [] else []) n
              (rw there (subst (λ (k : ℕ). Contains (length loaded ∷ []) k) (sym same)
              (Contains-push [] (length loaded))))
          found name n q at h (beyond lt here) =
              absurd (none_some (q, at.0) (sym here ∙ at.1))
