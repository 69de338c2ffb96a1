-- The state of a run, step by step.
use Rattle.std.proofs.Common.{◌≡◌, ℕ, zero, suc, ◌-◌, ◌<◌, ◌≤◌, true, false, ◌⊎◌, inl, inr, List}
use Rattle.std.proofs.Common.{[], ◌∷◌, ◌++◌, Option, Some, None, refl, sym, ◌∙◌, ap, subst}
use Rattle.std.proofs.Common.{append_assoc, append-nil, length, arith}
use Rattle.std.specs.Prelude.{bytes_eq, string_bytes, slice_get}
use Rattle.std.specs.List.{AllByRecursion}
use Rattle.std.proofs.lemmas.Bool.{or_from}
use Rattle.std.proofs.lemmas.List.{map-append, length_push}
use Rattle.std.proofs.lemmas.Option.{slice_get_read}
use Rattle.std.proofs.Math.Seq.{get_or-append_seam}
use Rattle.protobuf_parse_base.specs.PathViews.{path_buf_text}
use Rattle.protobuf_parse_syntax.specs.Trees.{FileSyntax}
use Rattle.protobuf_parse_model.specs.Descriptors.{Text}
use Rattle.protobuf_parse_run.specs.declared.fault.RunFault.{RunFault}
use Rattle.protobuf_parse_run.specs.declared.fault.RunFault.TheVariants as fault
use Rattle.protobuf_parse_run.specs.declared.loader.LoadedFile.{LoadedFile}
use Rattle.protobuf_parse_run.specs.declared.log.ReadEntry.{ReadEntry}
use Rattle.protobuf_parse_run.specs.declared.log.ReadOutcome.{ReadOutcome}
use Rattle.protobuf_parse_run.specs.Walks.{Asked, the_resolver, Event, cycle, long, load, elab, has}
use Rattle.protobuf_parse_run.specs.Walks.{keep, among, import_paths, walk, FileRead, reads_in}
use Rattle.protobuf_parse_run.specs.Run.{StandsAtEvent, fails, faults_at}
use Rattle.protobuf_parse_run.specs.Run.{Files, HasTrees, IsTree, IsTheTree}
use Rattle.protobuf_parse_run.specs.Run.{text_given, first_read, AreAnswered}
use Rattle.protobuf_parse_run.specs.Run.{Legal}
use Rattle.protobuf_parse_run.specs.Loading.{LoadedEntry, paths_of, file_at, read_paths, Grows}
use Rattle.protobuf_parse_run.specs.Loading.{Settled, path_shape, imports_shape, IsLoaded, Good}
use Rattle.protobuf_parse_run.specs.Loading.{Halts, Stops}
use Rattle.protobuf_parse_run.specs.Run.{OrMemory}
use Rattle.protobuf_parse_run.proofs.Keeping.{never_both, false_true, some_same, none_some}
use Rattle.protobuf_parse_run.proofs.Keeping.{text-true, text-same, cycle-same, long-same, or_left}
use Rattle.protobuf_parse_run.proofs.Keeping.{bool_cases, not_true, has-append, has-in, has-left}
use Rattle.protobuf_parse_run.proofs.Keeping.{has-right, has-one, has-last, has-like, keep-extends}
use Rattle.protobuf_parse_run.proofs.Keeping.{keep-all, keep-but_long, keep-fresh, reads_in-append}
use Rattle.protobuf_parse_run.proofs.Keeping.{elab_paths-append, has-elab, among-last, among-left}
use Rattle.protobuf_parse_run.proofs.Keeping.{among-in, find-none, clean-has, Apart-within}
use Rattle.protobuf_parse_run.proofs.Walking.{lt_yes, lt_no, walk-on_chain, walk-no_room, walk-load}
use Rattle.protobuf_parse_run.proofs.Walking.{settled-more, settled-file}

-- ** lists of what was read and loaded

pub read_paths-append : (xs ys : List ReadEntry)
    → read_paths (xs ++ ys) ≡ read_paths xs ++ read_paths ys
read_paths-append xs ys = map-append (λ (e : ReadEntry). path_buf_text e.path) xs ys

pub paths_of-append : (xs ys : List LoadedEntry) → paths_of (xs ++ ys) ≡ paths_of xs ++ paths_of ys
paths_of-append xs ys = map-append (λ (e : LoadedEntry). string_bytes e.0) xs ys

first_read-new : (p : Text) (log more : List ReadEntry) (e : ReadEntry)
    → among p (read_paths log) ≡ false → path_buf_text e.path ≡ p
    → first_read p (log ++ e ∷ more) ≡ Some e.outcome
first_read-new p [] more e h is = rw (is, text-same p) refl
first_read-new p (x ∷ log) more e h is =
    elim (bool_cases (bytes_eq p (path_buf_text x.path))) [
      | inl w ↦ absurd (let z : true ≡ false = (rw w at h) in cc)
      | inr w ↦ let z : among p (read_paths log) ≡ false = (rw w at h) in
          rw w (first_read-new p log more e z is)
    ]

pub get-more : {A : Type 0} (xs ys : List A) (n : ℕ) (x : A) → slice_get xs n ≡ Some x
    → slice_get (xs ++ ys) n ≡ Some x
get-more [] ys n x h = cc
get-more (y ∷ xs) ys zero x h = h
get-more (y ∷ xs) ys (suc n) x h = get-more xs ys n x h

pub get-grown : (old new : List ReadEntry) (n : ℕ) (x : ReadEntry) → Grows old new
    → slice_get old n ≡ Some x → slice_get new n ≡ Some x
get-grown old new n x g h = rw g.1 (get-more old g.0 n x h)

pub get-seam : {A : Type 0} (xs ys : List A) (x : A) → slice_get (xs ++ x ∷ ys) (length xs) ≡ Some x
get-seam {A = A} xs ys x =
    slice_get_read (xs ++ x ∷ ys) (length (xs ++ x ∷ ys)) (length xs) x refl (longer xs)
    (sym (get_or-append_seam xs x ys x))
  where
    longer : (xs : List A) → length xs < length (xs ++ x ∷ ys)
    longer [] = omega arith
    longer (z ∷ zs) = let h = longer zs in omega arith

pub file-none : (p : Text) (loaded : List LoadedEntry) → file_at p loaded ≡ None
    → among p (paths_of loaded) ≡ false
file-none p [] h = refl
file-none p (x ∷ loaded) h =
    elim (bool_cases (bytes_eq p (string_bytes x.0))) [
      | inl w ↦ absurd (let z : Some x.1 ≡ None = (rw w at h) in cc)
      | inr w ↦ let z : file_at p loaded ≡ None = (rw w at h) in rw w (file-none p loaded z)
    ]

pub entry-in : (q : Text) (n : LoadedEntry) (e : LoadedFile) (loaded : List LoadedEntry)
    → file_at q (loaded ++ n ∷ []) ≡ Some e
    → (file_at q loaded ≡ Some e) ⊎ ((q ≡ string_bytes n.0) × (n.1 ≡ e))
entry-in q n e [] h =
    elim (bool_cases (bytes_eq q (string_bytes n.0))) [
      | inl w ↦ let z : Some n.1 ≡ Some e = (rw w at h) in
          inr (text-true q (string_bytes n.0) w, some_same n.1 e z)
      | inr w ↦ absurd (none_some e (rw w at h))
    ]
entry-in q n e (x ∷ loaded) h =
    elim (bool_cases (bytes_eq q (string_bytes x.0))) [
      | inl w ↦ inl (rw w (rw w at h))
      | inr w ↦
          let z : file_at q (loaded ++ n ∷ []) ≡ Some e = (rw w at h) in
          rw w (entry-in q n e loaded z)
    ]

all-push : (P : LoadedEntry → Type 0) (xs : List LoadedEntry) (y : LoadedEntry)
    → AllByRecursion P xs → P y
    → AllByRecursion P (xs ++ y ∷ [])
all-push P [] y a p = (p, tt)
all-push P (x ∷ xs) y a p = (a.0, all-push P xs y a.1 p)

pub all-into : (P Q : LoadedEntry → Type 0) → ((x : LoadedEntry) → P x → Q x)
    → (xs : List LoadedEntry)
    → AllByRecursion P xs → AllByRecursion Q xs
all-into P Q f [] a = tt
all-into P Q f (x ∷ xs) a = (f x a.0, all-into P Q f xs a.1)

pub answers-more : (legal : Legal) (rs : List FileRead) (log : List ReadEntry) (r : FileRead)
    (e : ReadEntry) → AreAnswered legal rs log → path_buf_text e.path ≡ r.path
    → legal r.asked r.path e.outcome → AreAnswered legal (rs ++ r ∷ []) (log ++ e ∷ [])
answers-more legal [] [] r e a is ok = (is, ok, tt)
answers-more legal (x ∷ xs) (y ∷ ys) r e a is ok =
    (a.0, a.1, answers-more legal xs ys r e a.2 is ok)
answers-more legal [] (y ∷ ys) r e a is ok = absurd a
answers-more legal (x ∷ xs) [] r e a is ok = absurd a

pub Grows-trans : (a b c : List ReadEntry) → Grows a b → Grows b c → Grows a c
Grows-trans a b c g h = (g.0 ++ h.0, h.1 ∙ (ap (λ z. z ++ h.0) g.1 ∙ append_assoc a g.0 h.0))

pub room-is : (chain : List Text) (p : Text) → length chain < 100
    → 100 - length chain ≡ suc (100 - length (chain ++ p ∷ []))
room-is chain p h = let e = length_push chain p in omega arith

pub has-asked : (a : Asked) (p : Text) (xs : List Event)
    → has (load a p) xs ≡ has (load the_resolver p) xs
has-asked a p xs = has-like (load the_resolver p) (load a p) xs (text-same p)

module _ (legal : Legal) (files : Files) where
  pub loaded-more : (log : List ReadEntry) (e : ReadEntry) (x : LoadedEntry)
      → IsLoaded files log (string_bytes x.0) x.1
      → IsLoaded files (log ++ e ∷ []) (string_bytes x.0) x.1
  loaded-more log e x l = record {
    low = l.low;
    is = l.is;
    descriptor = l.descriptor;
    alike = l.alike;
    entry = l.entry;
    read = get-more log (e ∷ []) x.1.read l.entry l.read;
    named = l.named;
    first = l.first;
  }

  pub loaded-at : (p : Text) (e : LoadedFile) (log : List ReadEntry) (loaded : List LoadedEntry)
      → file_at p loaded ≡ Some e
      → AllByRecursion (λ (x : LoadedEntry). IsLoaded files log
      (string_bytes x.0) x.1) loaded
      → IsLoaded files log p e
  loaded-at p e log [] h a = absurd (none_some e h)
  loaded-at p e log (x ∷ loaded) h a =
      elim (bool_cases (bytes_eq p (string_bytes x.0))) [
        | inl w ↦ let z : Some x.1 ≡ Some e = (rw w at h) in
            let y = some_same x.1 e z in rw (← y, text-true p (string_bytes x.0) w) a.0
        | inr w ↦ let z : file_at p loaded ≡ Some e = (rw w at h) in loaded-at p e log loaded z a.1
      ]

  -- a file that is neither on the chain nor loaded was not read
  unread : (kept : List Event) (loaded : List LoadedEntry) (log : List ReadEntry)
      (chain : List Text)
      (p : Text) → Good legal files kept loaded log chain → among p chain ≡ false
      → file_at p loaded ≡ None → (has (load the_resolver p) kept ≡ false)
      × (has (elab p) kept ≡ false) × (among p (read_paths log) ≡ false)
  unread kept loaded log chain p g off none =
      let e : has (elab p) kept ≡ false = has-elab p kept
      ∙ (rw g.elabs (file-none p loaded none)) in
      let l : has (load the_resolver p) kept
      ≡ false =
      not_true _
      (λ v. elim (g.known p v) [ inl w ↦ never_both _ w off | inr w ↦ never_both _ w e ]) in
      (l, e, not_true _ (λ v. never_both _ (g.read p v) l))

  first-is : (log : List ReadEntry) (e : ReadEntry) (p : Text) → among p (read_paths log) ≡ false
      → path_buf_text e.path ≡ p → Grows (log ++ e ∷ []) files.reads
      → first_read p files.reads ≡ Some e.outcome
  first-is log e p n is g =
      rw (g.1, append_assoc log (e ∷ []) g.0) (first_read-new p log g.0 e n is)

  -- a file that is neither on the chain nor loaded is read
  pub fresh-load : (kept : List Event) (loaded : List LoadedEntry) (log : List ReadEntry)
      (chain : List Text) (a : Asked) (p : Text) → Good legal files kept loaded log chain
      → among p chain ≡ false → file_at p loaded ≡ None → has (load a p) kept ≡ false
  fresh-load kept loaded log chain a p g off none = has-asked a p kept
      ∙ (unread kept loaded log chain p g off none).0

  pub good-load : (kept : List Event) (loaded : List LoadedEntry) (log : List ReadEntry)
      (chain : List Text) (a : Asked) (p : Text) (e : ReadEntry) (t : FileSyntax)
      → Good legal files kept loaded log chain → among p chain ≡ false → file_at p loaded
      ≡ None
      → path_buf_text e.path ≡ p → legal a p e.outcome → files.trees p ≡ Some t
      → Good legal files (kept ++ load a p ∷ []) loaded (log ++ e ∷ []) (chain ++ p ∷ [])
  good-load kept loaded log chain a p e t g off none named ok is =
      let u = unread kept loaded log chain p g off none in
      let r : List Event = kept ++ load a p ∷ [] in
      record {
        answers = rw (reads_in-append kept (load a p ∷ []))
            (answers-more legal (reads_in kept) log
            (record { asked = a; path = p }) e g.answers named ok);
        elabs = rw (elab_paths-append kept (load a p ∷ []), append-nil) g.elabs;
        clean = find-none (fails files) kept (load a p ∷ []) g.clean (rw is refl);
        settled = λ q f w. settled-more kept r f.height _ (g.settled q f w)
            (λ x v. has-left x kept (load a p ∷ []) v);
        made = all-into _ _ (loaded-more log e) loaded g.made;
        known = λ q v. elim (has-in (load the_resolver q) kept (load a p ∷ []) v) [
          | inl w ↦ elim (g.known q w) [
            | inl y ↦ inl (among-left q chain (p ∷ []) y)
            | inr y ↦ inr
                (has-left (elab q) kept (load a p ∷ []) y)
          ]
          | inr w ↦ inl
              (let z : q ≡ p = text-true q p (has-one (load the_resolver q) (load a p) w) in
              rw z (among-last p chain))
        ];
        read = λ q v. elim
            (among-in q (path_buf_text e.path) (read_paths log)
            (rw (read_paths-append log (e ∷ [])) at v)) [
              | inl w ↦ has-left (load the_resolver q) kept (load a p ∷ []) (g.read q w)
              | inr w ↦ has-right (load the_resolver q) kept (load a p ∷ [])
                  (rw (w, named) (or_left _ _ (text-same p)))
            ];
        apart = λ q v. rw (has-append (elab q) kept (load a p ∷ []))
            (or_from _ _ (elim (among-in q p chain v) [ inl w ↦ g.apart q w | inr w ↦ rw w u.1 ])
            refl);
      }

  -- a file whose imports are loaded is elaborated
  pub good-elab : (kept : List Event) (loaded : List LoadedEntry) (log : List ReadEntry)
      (chain : List Text) (p : Text) (t : FileSyntax) (h : ℕ) (n : LoadedEntry)
      → Good legal files kept loaded log (chain ++ p ∷ []) → among p chain ≡ false
      → has (load the_resolver p) kept ≡ true → files.trees p ≡ Some t
      → faults_at files p (Some t) ≡ []
      → Settled kept h (imports_shape files.trees (import_paths t)) → string_bytes n.0 ≡ p
      → n.1.height ≡ suc h → IsLoaded files log p n.1
      → Good legal files (kept ++ elab p ∷ []) (loaded ++ n ∷ []) log chain
      × Settled (kept ++ elab p ∷ []) (suc h) (path_shape files.trees p)
  good-elab kept loaded log chain p t h n g off read is faultless s named tall m =
      let e : has (elab p) kept ≡ false = g.apart p (among-last p chain) in
      let set : Settled (kept ++ elab p ∷ []) (suc h) (path_shape files.trees p) =
      settled-file files.trees kept p t h is s e read in (
        record {
          answers = rw (reads_in-append kept (elab p ∷ []), append-nil) g.answers;
          elabs = rw (
            elab_paths-append kept (elab p ∷ []),
            paths_of-append loaded (n ∷ []),
            g.elabs,
            named,
          ) refl;
          clean = find-none (fails files) kept (elab p ∷ []) g.clean
              (rw (is, faultless) refl);
          settled = λ q x w. elim (entry-in q n x loaded w) [
            | inl v ↦ settled-more kept (kept ++ elab p ∷ []) x.height _ (g.settled q x v)
                (λ x y. has-left x kept (elab p ∷ []) y)
            | inr v ↦ rw (v.0, named, ← v.1, tall) set
          ];
          made = all-push _ loaded n g.made (rw named m);
          known = λ q v. elim (has-in (load the_resolver q) kept (elab p ∷ []) v) [
            | inl w ↦ elim (g.known q w) [
              | inl y ↦ elim (among-in q p chain y)
                  [ inl z ↦ inl z | inr z ↦ inr (rw z (has-last (elab p) kept)) ]
              | inr y ↦ inr (has-left (elab q) kept (elab p ∷ []) y)
            ]
            | inr w ↦ absurd (false_true (has-one (load the_resolver q) (elab p) w))
          ];
          read = λ q v. has-left (load the_resolver q) kept (elab p ∷ []) (g.read q v);
          apart = λ q v. rw (has-append (elab q) kept (elab p ∷ []))
              (or_from _ _ (g.apart q (among-left q chain (p ∷ []) v))
              (not_true _ (λ w. let z : q ≡ p = text-true q p (has-one (elab q) (elab p) w) in
              let x : among p chain ≡ true = (rw z at v) in never_both _ x off)));
        },
        set,
      )

  -- ** where a run stops

  -- memory runs out
  pub breaks-now : (kept more : List Event) (loaded : List LoadedEntry) (log : List ReadEntry)
      (chain : List Text) (f : RunFault) → Good legal files kept loaded log chain → f
      ≡ fault.Memory
      → Stops legal files (keep kept more) log f
  breaks-now kept more loaded log chain f g m =
      let r = keep-extends kept more in
      inr (record {
        memory = m;
        before = kept;
        after = r.0;
        split = r.1;
        clean = g.clean;
        answers =
            g.answers;
      })

  pub halts-at : (kept : List Event) (loaded : List LoadedEntry) (log : List ReadEntry)
      (chain : List Text) (events : List Event) (e : Event) (f : RunFault)
      → Good legal files kept loaded log chain → fails files e ≡ true
      → reads_in (e ∷ []) ≡ []
      → events ≡ kept ++ e ∷ [] → StandsAtEvent files e f
      → Halts legal files events log f
  halts-at kept loaded log chain events e f g bad n is s = record {
    before = kept;
    event = e;
    after = [];
    split = is;
    clean = g.clean;
    failing = bad;
    answers = rw (reads_in-append kept (e ∷ []), n, append-nil) g.answers;
    stands = s;
  }

  pub stops-cycle : (kept : List Event) (loaded : List LoadedEntry) (log : List ReadEntry)
      (chain : List Text) (i : Text) (a : Asked) (room : ℕ) (p : Text) (f : RunFault)
      → Good legal files kept loaded log chain → among p chain ≡ true
      → OrMemory f (StandsAtEvent files (cycle p) f)
      → Stops legal files (keep kept (walk files.trees i a room chain p)) log f
  stops-cycle kept loaded log chain i a room p f g on (inl s) =
      inl (halts-at kept loaded log chain _ (cycle p) f g refl refl
      (rw (walk-on_chain files.trees i a room chain p on)
      (keep-fresh kept [] (cycle p)
      (clean-has (fails files) kept (cycle p) (cycle-same p) g.clean refl))) s)
  stops-cycle kept loaded log chain i a room p f g on (inr m) =
      breaks-now kept (walk files.trees i a room chain p) loaded log chain f g m

  pub stops-no_room : (kept : List Event) (loaded : List LoadedEntry) (log : List ReadEntry)
      (chain : List Text) (i : Text) (a : Asked) (p : Text) (f : RunFault)
      → Good legal files kept loaded log chain → among p chain ≡ false
      → OrMemory f (StandsAtEvent files (long i) f)
      → Stops legal files (keep kept (walk files.trees i a 0 chain p)) log f
  stops-no_room kept loaded log chain i a p f g off (inl s) =
      inl (halts-at kept loaded log chain _ (long i) f g refl refl
      (rw (walk-no_room files.trees i a chain p off)
      (keep-fresh kept [] (long i)
      (clean-has (fails files) kept (long i) (long-same i) g.clean refl))) s)
  stops-no_room kept loaded log chain i a p f g off (inr m) =
      breaks-now kept (walk files.trees i a 0 chain p) loaded log chain f g m

  -- a loaded file that is too tall for the chain
  pub stops-tall : (kept : List Event) (loaded : List LoadedEntry) (log : List ReadEntry)
      (chain : List Text) (i : Text) (a : Asked) (room : ℕ) (p : Text) (e : LoadedFile)
      (f : RunFault) → Good legal files kept loaded log chain → file_at p loaded ≡ Some e
      → room < e.height → OrMemory f (StandsAtEvent files (long i) f)
      → Stops legal files (keep kept (walk files.trees i a room chain p)) log f
  stops-tall kept loaded log chain i a room p e f g w lt (inl stands) =
      let s = g.settled p e w in
      let apart = Apart-within s.before kept chain s.within g.apart in
      let t : has (long i) (walk files.trees i a room chain p) ≡ true = s.tall i a room chain apart
      ∙ lt_yes room e.height lt in
      inl (halts-at kept loaded log chain _ (long i) f g refl refl
      (keep-but_long kept (walk files.trees i a room chain p) i
      (clean-has (fails files) kept (long i) (long-same i) g.clean refl) t
      (s.only i a room chain apart)) stands)
  stops-tall kept loaded log chain i a room p e f g w lt (inr m) =
      breaks-now kept (walk files.trees i a room chain p) loaded log chain f g m

  -- a loaded file that is not adds nothing
  pub loaded-again : (kept : List Event) (loaded : List LoadedEntry) (log : List ReadEntry)
      (chain : List Text) (i : Text) (a : Asked) (room : ℕ) (p : Text) (e : LoadedFile)
      → Good legal files kept loaded log chain → file_at p loaded ≡ Some e → e.height ≤ room
      → keep kept (walk files.trees i a room chain p) ≡ kept
  loaded-again kept loaded log chain i a room p e g w le =
      let s = g.settled p e w in
      let apart = Apart-within s.before kept chain s.within g.apart in
      let t : has (long i) (walk files.trees i a room chain p) ≡ false = s.tall i a room chain apart
      ∙ lt_no room e.height le in
      keep-all kept (walk files.trees i a room chain p)
      (λ x v. elim (s.only i a room chain apart x v) [
        | inl y ↦ y
        | inr y ↦ absurd
            (never_both _
            (subst (λ (d : Event). has d (walk files.trees i a room chain p) ≡ true) y v) t)
      ])

  pub halts-load : (kept : List Event) (loaded : List LoadedEntry) (log : List ReadEntry)
      (chain : List Text) (i : Text) (a : Asked) (room : ℕ) (p : Text) (e : ReadEntry)
      (f : RunFault) → Good legal files kept loaded log chain → among p chain ≡ false
      → file_at p loaded ≡ None → path_buf_text e.path ≡ p → legal a p e.outcome
      → files.trees p ≡ None → StandsAtEvent files (load a p) f
      → Halts legal files (keep kept (walk files.trees i a (suc room) chain p))
      (log ++ e ∷ []) f
  halts-load kept loaded log chain i a room p e f g off none named ok is s =
      let u = unread kept loaded log chain p g off none in
      let w : walk files.trees i a (suc room) chain p ≡ load a p
      ∷ [] = walk-load files.trees i a room chain p off ∙ (rw is refl) in
      record {
        before = kept;
        event = load a p;
        after = [];
        split = rw w (keep-fresh kept [] (load a p) (has-asked a p kept ∙ u.0));
        clean = g.clean;
        failing = rw is refl;
        answers = rw (reads_in-append kept (load a p ∷ []))
            (answers-more legal (reads_in kept) log
            (record { asked = a; path = p }) e g.answers named ok);
        stands = s;
      }

  pub unread-first : (kept : List Event) (loaded : List LoadedEntry) (log : List ReadEntry)
      (chain : List Text) (p : Text) (e : ReadEntry)
      → Good legal files kept loaded log chain
      → among p chain ≡ false → file_at p loaded ≡ None → path_buf_text e.path ≡ p
      → Grows (log ++ e ∷ []) files.reads → first_read p files.reads ≡ Some e.outcome
  unread-first kept loaded log chain p e g off none named grown =
      first-is log e p (unread kept loaded log chain p g off none).2 named grown

  pub stops-more : (events more : List Event) (log : List ReadEntry) (f : RunFault)
      → Stops legal files events log f → Stops legal files (keep events more) log f
  stops-more events more log f (inl h) =
      let r = keep-extends events more in
      inl (record {
        before = h.before;
        event = h.event;
        after = h.after ++ r.0;
        split = r.1 ∙ (ap (λ z. z ++ r.0) h.split ∙ append_assoc h.before (h.event ∷ h.after) r.0);
        clean = h.clean;
        failing = h.failing;
        answers = h.answers;
        stands = h.stands;
      })
  stops-more events more log f (inr h) =
      let r = keep-extends events more in
      inr (record {
        memory = h.memory;
        before = h.before;
        after = h.after ++ r.0;
        split = r.1 ∙ (ap (λ z. z ++ r.0) h.split ∙ append_assoc h.before h.after r.0);
        clean = h.clean;
        answers = h.answers;
      })

  -- the tree that was read is that of the path
  pub tree-read : (kept : List Event) (loaded : List LoadedEntry) (log : List ReadEntry)
      (chain : List Text) (p : Text) (e : ReadEntry) (t : Option FileSyntax)
      → Good legal files kept loaded log chain → among p chain ≡ false → file_at p loaded
      ≡ None
      → HasTrees files.bundled files.reads files.trees → Grows (log ++ e ∷ []) files.reads
      → path_buf_text e.path ≡ p → IsTheTree (text_given files.bundled p (Some e.outcome)) t
      → files.trees p ≡ t
  tree-read kept loaded log chain p e t g off none has grown named the =
      let first = unread-first kept loaded log chain p e g off none named grown in
      the.1 (files.trees p)
      (subst (λ (o : Option ReadOutcome). IsTree (text_given files.bundled p o) (files.trees p))
      first (has p))
