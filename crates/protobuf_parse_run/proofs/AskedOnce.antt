-- Nothing is asked twice, and no reader is asked where no input lies at a path of its own.
use Rattle.std.proofs.Common.{◌≡◌, ℕ, zero, suc, Bool, true, false, ◌||◌, inl, inr, length, List}
use Rattle.std.proofs.Common.{[], ◌∷◌, ◌++◌, map, Option, Some, None, Result, Ok, Err, refl, sym}
use Rattle.std.proofs.Common.{◌∙◌, ap, subst, append_assoc, append-nil, if◌then◌else◌}
use Rattle.std.specs.Prelude.{bytes_eq}
use Rattle.std.specs.Global.{Vec}
use Rattle.std.proofs.lemmas.Grind.{flat_map-append}
use Rattle.protobuf_parse_base.specs.PathViews.{path_buf_text}
use Rattle.protobuf_parse_base.specs.declared.proto_path.path.ProtoPathBuf.{ProtoPathBuf}
use Rattle.protobuf_parse_syntax.specs.Trees.{FileSyntax}
use Rattle.protobuf_parse_model.specs.Descriptors.{Text}
use Rattle.protobuf_parse_model.specs.declared.descriptor.FileDescriptorProto.{FileDescriptorProto}
use Rattle.protobuf_parse_elaboration.specs.FilesByPath.{AreDistinct}
use Rattle.protobuf_parse_run.specs.declared.fault.RunFault.{RunFault}
use Rattle.protobuf_parse_run.specs.declared.log.ReadEntry.{ReadEntry}
use Rattle.protobuf_parse_run.specs.declared.log.ReadOutcome.{ReadOutcome}
use Rattle.protobuf_parse_run.specs.Walks.{Asked, the_resolver, the_reader, Input, named, at, Event}
use Rattle.protobuf_parse_run.specs.Walks.{cycle, long, load, check, elab, has, keep, among, Trees}
use Rattle.protobuf_parse_run.specs.Walks.{import_paths, walks_joined, events_inside, walk}
use Rattle.protobuf_parse_run.specs.Walks.{FileRead}
use Rattle.protobuf_parse_run.specs.Walks.{reads_in, checks}
use Rattle.protobuf_parse_run.specs.Walks.{input_walk, events_after, events, until}
use Rattle.protobuf_parse_run.specs.Run.{AreAnswered, AreAskedOnce, RunEnds, Files, IsAskedOnce}
use Rattle.protobuf_parse_run.specs.Run.{RunsAsTold, Legal}
use Rattle.protobuf_parse_run.specs.Run.{fails, if_placed, if_reader, placed, placed_reads}
use Rattle.protobuf_parse_run.specs.Run.{resolved_in}
use Rattle.protobuf_parse_run.proofs.Following.{AllFollow, all-follow, follows-front}
use Rattle.protobuf_parse_run.proofs.Keeping.{bool_cases, has-last, keep-fresh, has-left}
use Rattle.protobuf_parse_run.proofs.Keeping.{never_both}
use Rattle.protobuf_parse_run.proofs.Keeping.{reads_in-append, text-true}
use Rattle.protobuf_parse_run.proofs.Listed.{have-lists}
use Rattle.protobuf_parse_run.proofs.Steps.{has-asked}
use Rattle.protobuf_parse_run.proofs.Walking.{walk-load, walk-no_room, walk-on_chain}

-- ** what the resolver is asked

neither : (a b : Bool) → (a ≡ true → ⊥) → b ≡ false → (a || b) ≡ false
neither true b h k = absurd (h refl)
neither false b h k = k

-- for a path that is loaded it is not asked again
loaded-unasked : (p : Text) (acc es : List Event) → AllFollow acc es
    → has (load the_resolver p) acc ≡ true → among p (resolved_in (reads_in es)) ≡ false
loaded-unasked p acc [] h k = refl
loaded-unasked p acc (load the_resolver q ∷ es) h k =
    neither (bytes_eq p q) (among p (resolved_in (reads_in es)))
    (λ w. never_both _
    (subst (λ (z : Text). has (load the_resolver z) acc ≡ true) (text-true p q w) k) h.0)
    (loaded-unasked p (acc ++ load the_resolver q ∷ []) es h.1
    (has-left (load the_resolver p) acc _ k))
loaded-unasked p acc (load (the_reader own) q ∷ es) h k =
    loaded-unasked p (acc ++ load (the_reader own) q ∷ []) es h.1
    (has-left (load the_resolver p) acc _ k)
loaded-unasked p acc (check n f q ∷ es) h k = loaded-unasked p (acc ++ check n f q ∷ []) es h.1
    (has-left (load the_resolver p) acc _ k)
loaded-unasked p acc (cycle q ∷ es) h k = loaded-unasked p (acc ++ cycle q ∷ []) es h.1
    (has-left (load the_resolver p) acc _ k)
loaded-unasked p acc (long q ∷ es) h k = loaded-unasked p (acc ++ long q ∷ []) es h.1
    (has-left (load the_resolver p) acc _ k)
loaded-unasked p acc (elab q ∷ es) h k = loaded-unasked p (acc ++ elab q ∷ []) es h.1
    (has-left (load the_resolver p) acc _ k)

distinct : (acc es : List Event) → AllFollow acc es → AreDistinct (resolved_in (reads_in es))
distinct acc [] h = tt
distinct acc (load the_resolver q ∷ es) h = (
  loaded-unasked q (acc ++ load the_resolver q ∷ []) es h.1 (has-last (load the_resolver q) acc),
  distinct (acc ++ load the_resolver q ∷ []) es h.1,
)
distinct acc (load (the_reader own) q ∷ es) h =
    distinct (acc ++ load (the_reader own) q ∷ []) es h.1
distinct acc (check n f q ∷ es) h = distinct (acc ++ check n f q ∷ []) es h.1
distinct acc (cycle q ∷ es) h = distinct (acc ++ cycle q ∷ []) es h.1
distinct acc (long q ∷ es) h = distinct (acc ++ long q ∷ []) es h.1
distinct acc (elab q ∷ es) h = distinct (acc ++ elab q ∷ []) es h.1

-- ** events that ask no reader

abbrev AsksNoReader : Event → Type 0
AsksNoReader (load (the_reader own) p) = ⊥
AsksNoReader (check n f p) = ⊥
AsksNoReader _ = Unit {0}

abbrev pub AskNoReader : List Event → Type 0
AskNoReader [] = Unit {0}
AskNoReader (e ∷ es) = AsksNoReader e × AskNoReader es

none-append : (xs ys : List Event) → AskNoReader xs → AskNoReader ys → AskNoReader (xs ++ ys)
none-append [] ys h k = k
none-append (x ∷ xs) ys h k = (h.0, none-append xs ys h.1 k)

none-front : (xs ys : List Event) → AskNoReader (xs ++ ys) → AskNoReader xs
none-front [] ys h = tt
none-front (x ∷ xs) ys h = (h.0, none-front xs ys h.1)

none-joined : (f : Text → List Event) (ps : List Text) → ((p : Text) → AskNoReader (f p))
    → AskNoReader (walks_joined f ps)
none-joined f [] each = tt
none-joined f (p ∷ ps) each =
    none-append (f p) (walks_joined f ps) (each p) (none-joined f ps each)

none-inside : (o : Option FileSyntax) (f : Text → List Event) (p : Text)
    → ((q : Text) → AskNoReader (f q)) → AskNoReader (events_inside o f p)
none-inside None f p each = tt
none-inside (Some t) f p each = none-append (walks_joined f (import_paths t)) (elab p ∷ [])
    (none-joined f (import_paths t) each) (tt, tt)

-- the walks of imports
none-walk : (trees : Trees) (i : Text) (room : ℕ) (chain : List Text) (p : Text)
    → AskNoReader (walk trees i the_resolver room chain p)
none-walk trees i zero chain p =
    elim (bool_cases (among p chain)) [
      | inl w ↦ subst AskNoReader (sym (walk-on_chain trees i the_resolver 0 chain p w)) (tt, tt)
      | inr w ↦ subst AskNoReader (sym (walk-no_room trees i the_resolver chain p w)) (tt, tt)
    ]
none-walk trees i (suc room) chain p =
    elim (bool_cases (among p chain)) [
      | inl w ↦ subst AskNoReader (sym (walk-on_chain trees i the_resolver (suc room) chain p w))
          (tt, tt)
      | inr w ↦ subst AskNoReader (sym (walk-load trees i the_resolver room chain p w)) (
        tt,
        none-inside (trees p) (walk trees i the_resolver room (chain ++ p ∷ [])) p
            (none-walk trees i room (chain ++ p ∷ [])),
      )
    ]

none-one : (kept : List Event) (x : Event) (b : Bool) → AskNoReader kept → AsksNoReader x
    → AskNoReader (if b then kept else kept ++ x ∷ [])
none-one kept x true k h = k
none-one kept x false k h = none-append kept (x ∷ []) k (h, tt)

none-keep : (kept xs : List Event) → AskNoReader kept → AskNoReader xs → AskNoReader (keep kept xs)
none-keep kept [] k h = k
none-keep kept (x ∷ xs) k h = none-keep (if has x kept then kept else kept ++ x ∷ []) xs
    (none-one kept x (has x kept) k h.0) h.1

-- ** inputs that the resolver finds

abbrev IsNamed : Input → Type 0
IsNamed (named p) = Unit {0}
IsNamed (at p own) = ⊥

abbrev pub AllAreNamed : List Input → Type 0
AllAreNamed [] = Unit {0}
AllAreNamed (i ∷ is) = IsNamed i × AllAreNamed is

pub paths-named : (paths : List ProtoPathBuf)
    → AllAreNamed (map (λ (b : ProtoPathBuf). named (path_buf_text b)) paths)
paths-named [] = tt
paths-named (b ∷ paths) = (tt, paths-named paths)

none-after : (trees : Trees) (kept : List Event) (is : List Input) → AllAreNamed is
    → AskNoReader kept → AskNoReader (events_after trees kept is)
unfolding events_after
none-after trees kept [] n k = k
none-after trees kept (named p ∷ is) n k = none-after trees
    (keep (kept ++ []) (input_walk trees (named p))) is n.1
    (none-keep (kept ++ []) (input_walk trees (named p)) (none-append kept [] k tt)
    (none-walk trees p 100 [] p))
none-after trees kept (at p own ∷ is) n k = absurd n.0

-- ** up to an event

until-one : (b : Bool) (e : Event) (es front : List Event)
    → ((rest : List Event) × (es ≡ front ++ rest))
    → (rest : List Event) × (e ∷ es ≡ (e ∷ (if b then [] else front)) ++ rest)
until-one true e es front r = (es, refl)
until-one false e es front r = (r.0, ap (λ z. e ∷ z) r.1)

until-front : (test : Event → Bool) (es : List Event)
    → (rest : List Event) × (es ≡ until test es ++ rest)
until-front test [] = ([], refl)
until-front test (e ∷ es) = until-one (test e) e es (until test es) (until-front test es)

-- the log has the reads of a beginning of these events
pub record HasReads (legal : Legal) (all : List Event) (log : List ReadEntry) : Type 0 where
  pub done : List Event
  pub rest : List Event
  pub beginning : all ≡ done ++ rest
  pub answers : AreAnswered legal (reads_in done) log

has-reads : (legal : Legal) (files : Files) (all : List Event)
    (r : Result (Vec FileDescriptorProto) RunFault) → RunEnds legal files all r
    → HasReads legal all files.reads
has-reads legal files all (Ok ds) h = record {
  done = all;
  rest = [];
  beginning = sym (append-nil all);
  answers = h.reads;
}
has-reads legal files all (Err f) (inl h) = record {
  done = until (fails files) all;
  rest = (until-front (fails files) all).0;
  beginning = (until-front (fails files) all).1;
  answers = h.reads;
}
has-reads legal files all (Err f) (inr h) =
    let u = until-front (fails files) all in
    record {
      done = h.done;
      rest = h.rest ++ u.0;
      beginning = u.1 ∙ (ap (λ z. z ++ u.0) h.beginning ∙ append_assoc h.done h.rest u.0);
      answers = h.reads;
    }

-- ** what the reader is asked

abbrev owned : List Event → List Input
owned es = placed_reads (reads_in es)

owned-append : (xs ys : List Event) → owned (xs ++ ys) ≡ owned xs ++ owned ys
owned-append xs ys = ap placed_reads (reads_in-append xs ys)
    ∙ flat_map-append (λ (r : FileRead). if_reader r.asked r.path) (reads_in xs) (reads_in ys)

owned-none : (x : Event) → AsksNoReader x → owned (x ∷ []) ≡ []
owned-none (load the_resolver p) h = refl
owned-none (load (the_reader own) p) h = absurd h
owned-none (check n f p) h = absurd h
owned-none (cycle p) h = refl
owned-none (long p) h = refl
owned-none (elab p) h = refl

owned-one : (kept : List Event) (x : Event) (b : Bool) → AsksNoReader x
    → owned (if b then kept else kept ++ x ∷ []) ≡ owned kept
owned-one kept x true h = refl
owned-one kept x false h = owned-append kept (x ∷ [])
    ∙ (ap (λ z. owned kept ++ z) (owned-none x h) ∙ append-nil (owned kept))

owned-keep : (kept xs : List Event) → AskNoReader xs → owned (keep kept xs) ≡ owned kept
owned-keep kept [] h = refl
owned-keep kept (x ∷ xs) h = owned-keep (if has x kept then kept else kept ++ x ∷ []) xs h.1
    ∙ owned-one kept x (has x kept) h.0

-- what comes of an input at a path of its own: it is checked, or else loaded
owned-at : (kept inner : List Event) (p own : Text) (b : Bool)
    → has (load the_resolver p) kept ≡ b → AskNoReader inner
    → owned (keep (kept ++ (if b then check (length (reads_in kept)) own p ∷ [] else []))
    (load (the_reader own) p ∷ inner)) ≡ owned kept ++ at p own ∷ []
owned-at kept inner p own true h none =
    let checked : List Event = kept ++ check (length (reads_in kept)) own p ∷ [] in
    let there = has-asked (the_reader own) p checked
    ∙ has-left (load the_resolver p) kept (check (length (reads_in kept)) own p ∷ []) h in
    rw there (owned-keep checked inner none
    ∙ owned-append kept (check (length (reads_in kept)) own p ∷ []))
owned-at kept inner p own false h none =
    let same : kept ++ [] ≡ kept = append-nil kept in
    ap (λ z. owned (keep z (load (the_reader own) p ∷ inner))) same
    ∙ (ap owned (keep-fresh kept inner (load (the_reader own) p)
    (has-asked (the_reader own) p kept ∙ h))
    ∙ (owned-keep (kept ++ load (the_reader own) p ∷ []) inner none
    ∙ owned-append kept (load (the_reader own) p ∷ [])))

walk-input : (trees : Trees) (i : Text) (a : Asked) (p : Text)
    → walk trees i a 100 [] p
    ≡ load a p ∷ events_inside (trees p) (walk trees i the_resolver 99 (p ∷ [])) p
walk-input trees i a p = walk-load trees i a 99 [] p refl

owned-input : (trees : Trees) (kept : List Event) (i : Input)
    → owned (keep (kept ++ checks kept i) (input_walk trees i)) ≡ owned kept ++ if_placed i
owned-input trees kept (named p) = owned-keep (kept ++ []) (input_walk trees (named p))
    (none-walk trees p 100 [] p)
    ∙ owned-append kept []
owned-input trees kept (at p own) =
    ap (λ z. owned (keep (kept ++ checks kept (at p own)) z))
    (walk-input trees p (the_reader own) p)
    ∙ owned-at kept (events_inside (trees p) (walk trees p the_resolver 99 (p ∷ [])) p) p own
    (has (load the_resolver p) kept) refl
    (none-inside (trees p) (walk trees p the_resolver 99 (p ∷ [])) p
    (none-walk trees p 99 (p ∷ [])))

owned-after : (trees : Trees) (kept : List Event) (is : List Input)
    → owned (events_after trees kept is) ≡ owned kept ++ placed is
unfolding events_after
owned-after trees kept [] = sym (append-nil (owned kept))
owned-after trees kept (i ∷ is) =
    owned-after trees (keep (kept ++ checks kept i) (input_walk trees i)) is
    ∙ (ap (λ z. z ++ placed is) (owned-input trees kept i)
    ∙ append_assoc (owned kept) (if_placed i) (placed is))

-- ** a run

asked-once : (legal : Legal) (trees : Trees) (inputs : List Input) (log : List ReadEntry)
    → HasReads legal (events trees inputs) log → IsAskedOnce legal trees inputs log
asked-once legal trees inputs log h = record {
  reads = reads_in h.done;
  later = reads_in h.rest;
  first = ap reads_in h.beginning ∙ reads_in-append h.done h.rest;
  answers = h.answers;
  resolver = distinct [] h.done (follows-front [] h.done h.rest
      (subst (λ (es : List Event). AllFollow [] es) h.beginning (all-follow trees inputs)));
  unasked = owned h.rest;
  reader = sym (owned-after trees [] inputs)
      ∙ (ap owned h.beginning ∙ owned-append h.done h.rest);
}

pub all-asked-once : (legal : Legal) (inputs : List Input) (bundled : List (Text × Text))
    (log : List ReadEntry) (result : Result (Vec FileDescriptorProto) RunFault)
    → RunsAsTold legal inputs bundled log result → AreAskedOnce legal inputs bundled log
all-asked-once legal inputs bundled log result told trees has =
    let l = have-lists bundled log trees has in
    asked-once legal trees inputs log (has-reads legal _ (events trees inputs) result
    (told trees l.0 l.1 has l.2))

-- ** where no reader is asked, it may answer whatever

module _ (old new : Legal)
    (same : (p : Text) (o : ReadOutcome) → old the_resolver p o → new the_resolver p o) where
  answers-of : (es : List Event) (log : List ReadEntry) → AskNoReader es
      → AreAnswered old (reads_in es) log → AreAnswered new (reads_in es) log
  answers-of [] [] h a = tt
  answers-of [] (e ∷ log) h a = absurd a
  answers-of (load the_resolver p ∷ es) [] h a = absurd a
  answers-of (load the_resolver p ∷ es) (e ∷ log) h a =
      (a.0, same p e.outcome a.1, answers-of es log h.1 a.2)
  answers-of (load (the_reader own) p ∷ es) log h a = absurd h.0
  answers-of (check n f p ∷ es) log h a = absurd h.0
  answers-of (cycle p ∷ es) log h a = answers-of es log h.1 a
  answers-of (long p ∷ es) log h a = answers-of es log h.1 a
  answers-of (elab p ∷ es) log h a = answers-of es log h.1 a

  ends-of : (files : Files) (es : List Event) (r : Result (Vec FileDescriptorProto) RunFault)
      → AskNoReader es → RunEnds old files es r → RunEnds new files es r
  ends-of files es (Ok ds) none h = record {
    none_fails = h.none_fails;
    reads = answers-of es files.reads none h.reads;
    descriptors = h.descriptors;
  }
  ends-of files es (Err f) none (inl h) =
      let u = until-front (fails files) es in
      inl (record {
        event = h.event;
        first = h.first;
        reads = answers-of (until (fails files) es) files.reads
            (none-front (until (fails files) es) u.0 (subst AskNoReader u.1 none)) h.reads;
        stands = h.stands;
      })
  ends-of files es (Err f) none (inr h) =
      let u = until-front (fails files) es in
      let front = none-front (until (fails files) es) u.0 (subst AskNoReader u.1 none) in
      inr (record {
        memory = h.memory;
        done = h.done;
        rest = h.rest;
        beginning = h.beginning;
        reads = answers-of h.done files.reads
            (none-front h.done h.rest (subst AskNoReader h.beginning front)) h.reads;
      })

  pub told-of : (inputs : List Input) (bundled : List (Text × Text)) (log : List ReadEntry)
      (r : Result (Vec FileDescriptorProto) RunFault) → AllAreNamed inputs
      → RunsAsTold old inputs bundled log r → RunsAsTold new inputs bundled log r
  told-of inputs bundled log r all told = λ trees reached seen has listed.
      ends-of _ (events trees inputs) r (none-after trees [] inputs all tt)
      (told trees reached seen has listed)
