-- Inputs at paths of their own, held against what was loaded.
use Rattle.std.proofs.Common.{◌≡◌, ◌∙◌, ℕ, Bool, true, false, List, [], ◌∷◌, ◌++◌, Option, None}
use Rattle.std.proofs.Common.{Some, ap, inl, inr, refl, subst, sym, if◌then◌else◌, Result, Ok, Err}
use Rattle.std.proofs.Common.{append-nil, arith, get_or, length, take, zero, suc, ◌+◌, ◌<◌}
use Rattle.std.proofs.lemmas.List.{map-append, take_more}
use Rattle.std.proofs.lemmas.Bool.{ltb-true}
use Rattle.std.specs.Prelude.{IfErr, IfOk, OnOk, nat_lt, option_map, slice_get}
use Rattle.std.proofs.lemmas.Option.{slice_get-get_or}
use Rattle.protobuf_parse_base.specs.PathViews.{path_buf_text}
use Rattle.protobuf_parse_model.specs.Descriptors.{Text}
use Rattle.protobuf_parse_run.specs.declared.fault.RunFault.{RunFault}
use Rattle.protobuf_parse_run.specs.declared.fault.RunFault.TheVariants as fault
use Rattle.protobuf_parse_run.specs.declared.log.ReadEntry.{ReadEntry}
use Rattle.protobuf_parse_run.specs.Run.{Files, OrMemory, StandsInCheck, answer_at, are_same_bytes}
use Rattle.protobuf_parse_run.specs.Run.{first_read, text_for}
use Rattle.protobuf_parse_run.specs.Run.{text_given}
use Rattle.protobuf_parse_run.specs.Walks.{Input, at}
use Rattle.protobuf_parse_run.specs.Loading.{LoadedEntry}
use Rattle.protobuf_parse_load.specs.declared.step.LoadStep.{LoadStep}
use Rattle.protobuf_parse_load.specs.Loads.{IsFirstRead, step_view, steps_view}
use Rattle.protobuf_parse_check.specs.declared.report.InputFault.{InputFault}
use Rattle.protobuf_parse_check.specs.Judging.{HasReads, HoldSteps, HoldsStep, IsClashOf, IsFaultOf}
use Rattle.protobuf_parse_load.specs.Steps.{held}
use Rattle.protobuf_parse_check.specs.Reports.{AreClashes, Clash, IsClash, clash_in, clashes_in}
use Rattle.protobuf_parse_check.specs.Reports.{is_same_file}
use Rattle.protobuf_parse_check.proofs.Placing.{flat-append}

-- what a comparison says
abbrev pub told-so : Bool → (RunFault → Type 0) → Option RunFault → Type 0
told-so same Stands None = same ≡ true
told-so same Stands (Some f) = (same ≡ false) × Stands f

but-memory : {P : Type 0} (f : RunFault) → (f ≡ fault.Memory → ⊥) → OrMemory f P → P
but-memory f other (inl h) = h
but-memory f other (inr m) = absurd (other m)

pub clash-is : {E : Type 0} (r : Result (Unit {0}) RunFault) (q : Result (Option RunFault) E)
    (same : Bool) (Stands : RunFault → Type 0) → OnOk r (same ≡ true)
    → IfErr r (λ f. OrMemory f (same ≡ false)) → IfErr r (λ f. OrMemory f (Stands f))
    → IfOk q (λ o. IsFaultOf r o) → IfOk q (λ o. told-so same Stands o)
clash-is (Ok u) (Ok o) same Stands is other stands told =
    subst (told-so same Stands) (sym told) is
clash-is (Err f) (Ok o) same Stands is other stands told =
    subst (told-so same Stands) (sym told.0)
    (but-memory f told.1 other, but-memory f told.1 stands)
clash-is r (Err e) same Stands is other stands told = tt

-- the bytes that were loaded for a path
pub loaded-text : (files : Files) (bundled : List (Text × Text)) (log : List ReadEntry) (p : Text)
    (read : ℕ) (loaded : Option Text) → HasReads files bundled log → IsFirstRead log p read
    → ((e : ReadEntry) → slice_get log read ≡ Some e
    → loaded ≡ text_given bundled (path_buf_text e.path) (Some e.outcome))
    → loaded ≡ text_for files p
loaded-text files bundled log p read loaded has is gives =
    gives is.entry is.at
    ∙ ap (λ q. text_given bundled q (Some is.entry.outcome)) is.named
    ∙ ap (text_given bundled p) (sym is.first)
    ∙ ap (λ b. text_given b p (first_read p log)) (sym has.bundled_are)
    ∙ ap (λ l. text_given files.bundled p (first_read p l)) (sym has.reads_are)

-- and those of the read
pub answer-is : (files : Files) (bundled : List (Text × Text)) (log : List ReadEntry) (read : ℕ)
    (e : ReadEntry) → HasReads files bundled log → slice_get log read ≡ Some e
    → answer_at files read ≡ Some e.outcome
answer-is files bundled log read e has is =
    ap (λ l. option_map (λ (x : ReadEntry). x.outcome) (slice_get l read)) has.reads_are
    ∙ ap (option_map (λ (x : ReadEntry). x.outcome)) is

some_is : {A : Type 0} (a b : A) → Some a ≡ Some b → a ≡ b
some_is a b h = cc

at_parts : (p q own other : Text) → at p own ≡ at q other → (p ≡ q) × (own ≡ other)
at_parts p q own other h = (ap name h, ap place h)
  where
    name : Input → Text
    name (at a b) = a
    name _ = []

    place : Input → Text
    place (at a b) = b
    place _ = []

-- the fault that is told of an input is that of the read
pub clash-of : (files : Files) (bundled : List (Text × Text)) (log : List ReadEntry)
    (inputs : List Input) (n : ℕ) (p own name place : Text) (read : ℕ) (e : ReadEntry)
    (loaded : Option Text) (o : Option RunFault) → HasReads files bundled log
    → slice_get inputs n ≡ Some (at p own) → slice_get inputs n ≡ Some (at name place)
    → slice_get log read ≡ Some e → loaded ≡ text_for files p
    → told-so (are_same_bytes (text_given [] [] (Some e.outcome)) loaded)
    (StandsInCheck place name (Some e.outcome)) o
    → IsClashOf files inputs n p read o
clash-of files bundled log inputs n p own name place read e loaded o has is here found text told =
    at_fault o (subst (λ (t : Option Text).
    told-so (are_same_bytes (text_given [] [] (Some e.outcome)) t)
    (StandsInCheck place name (Some e.outcome)) o) text told)
  where
    parts : (p ≡ name) × (own ≡ place)
    parts = at_parts p name own place (some_is (at p own) (at name place) (sym is ∙ here))

    answer : answer_at files read ≡ Some e.outcome
    answer = answer-is files bundled log read e has found

    same : are_same_bytes (text_given [] [] (Some e.outcome)) (text_for files p)
        ≡ is_same_file files p read
    same = ap (λ a. are_same_bytes (text_given [] [] a) (text_for files p)) (sym answer)

    at_fault : (o : Option RunFault)
        → told-so (are_same_bytes (text_given [] [] (Some e.outcome)) (text_for files p))
        (StandsInCheck place name (Some e.outcome)) o → IsClashOf files inputs n p read o
    at_fault None h = sym same ∙ h
    at_fault (Some f) h = (
      sym same ∙ h.0,
      (
        own,
        is,
        subst (λ a. StandsInCheck own p a f) (sym answer)
            (subst (λ (z : Text). StandsInCheck z p (Some e.outcome) f) (sym parts.1)
            (subst (λ (z : Text). StandsInCheck place z (Some e.outcome) f) (sym parts.0) h.1)),
      ),
    )

-- ** lists of them

pub clashes-push : (files : Files) (inputs : List Input) (cs : List Clash) (fs : List InputFault)
    (c : Clash) (f : InputFault) → AreClashes files inputs cs fs → IsClash files inputs c f
    → AreClashes files inputs (cs ++ c ∷ []) (fs ++ f ∷ [])
clashes-push files inputs [] [] c f a is = (is, tt)
clashes-push files inputs (d ∷ cs) (g ∷ fs) c f a is =
    (a.0, clashes-push files inputs cs fs c f a.1 is)
clashes-push files inputs [] (g ∷ fs) c f a is = absurd a
clashes-push files inputs (d ∷ cs) [] c f a is = absurd a

-- what stands at a place
pub got : {A : Type 0} (xs : List A) (i : ℕ) (x : A) → nat_lt i (length xs) ≡ true
    → x ≡ get_or xs i x → slice_get xs i ≡ Some x
got xs i x lt is =
    slice_get-get_or xs i x (ltb-true i (length xs) lt) ∙ ap Some (sym is)

pub clash-told : {E : Type 0} (files : Files) (bundled : List (Text × Text)) (log : List ReadEntry)
    (inputs : List Input) (n : ℕ) (p own name place : Text) (read : ℕ) (e : ReadEntry)
    (loaded : Option Text) (q : Result (Option RunFault) E) → HasReads files bundled log
    → slice_get inputs n ≡ Some (at p own) → slice_get inputs n ≡ Some (at name place)
    → slice_get log read ≡ Some e → loaded ≡ text_for files p
    → IfOk q (λ o. told-so (are_same_bytes (text_given [] [] (Some e.outcome)) loaded)
    (StandsInCheck place name (Some e.outcome)) o)
    → IfOk q (λ o. IsClashOf files inputs n p read o)
clash-told files bundled log inputs n p own name place read e loaded (Ok o) has is here found text
    told =
    clash-of files bundled log inputs n p own name place read e loaded o has is here found text told
clash-told files bundled log inputs n p own name place read e loaded (Err x) has is here found text
    told = tt

-- a fault more
pub clash-pushed : (files : Files) (inputs : List Input) (before : List Clash)
    (old new : List InputFault) (n : ℕ) (p : Text) (read : ℕ) (f : RunFault)
    → AreClashes files inputs before old → IsClashOf files inputs n p read (Some f)
    → new ≡ old ++ record { input = n; fault = f } ∷ []
    → AreClashes files inputs (before ++ clash_in files (held n p read)) new
clash-pushed files inputs before old new n p read f a is more =
    subst (AreClashes files inputs (before ++ clash_in files (held n p read))) (sym more)
    (subst (λ cs. AreClashes files inputs (before ++ cs)
    (old ++ record { input = n; fault = f } ∷ []))
    (sym (ap (λ (b : Bool). if b then [] else record { input = n; path = p; read = read } ∷ [])
    is.0))
    (clashes-push files inputs before old (record { input = n; path = p; read = read })
    (record { input = n; fault = f }) a
    (record { own = is.1.0; input = is.1.1; input_is = refl; stands = is.1.2 })))

-- and none
pub clash-none : (files : Files) (inputs : List Input) (before : List Clash)
    (old : List InputFault) (n : ℕ) (p : Text) (read : ℕ) → AreClashes files inputs before old
    → IsClashOf files inputs n p read None
    → AreClashes files inputs (before ++ clash_in files (held n p read)) old
clash-none files inputs before old n p read a is =
    subst (λ cs. AreClashes files inputs (before ++ cs) old)
    (sym (ap (λ (b : Bool). if b then [] else record { input = n; path = p; read = read } ∷ [])
    is))
    (subst (λ cs. AreClashes files inputs cs old) (sym (append-nil before)) a)

-- a step more
pub clashes-more : (files : Files) (steps : List LoadStep) (i : ℕ) (x : LoadStep)
    → i < length steps → x ≡ get_or steps i x
    → clashes_in files (steps_view (take (i + 1) steps))
    ≡ clashes_in files (steps_view (take i steps)) ++ clash_in files (step_view x)
clashes-more files steps i x lt is =
    ap (λ xs. clashes_in files (steps_view xs))
    (take_more steps i x lt ∙ ap (λ y. take i steps ++ y ∷ []) (sym is))
    ∙ ap (clashes_in files) (map-append step_view (take i steps) (x ∷ []))
    ∙ flat-append (clash_in files) (steps_view (take i steps)) (step_view x ∷ [])
    ∙ ap (λ cs. clashes_in files (steps_view (take i steps)) ++ cs)
    (append-nil (clash_in files (step_view x)))

-- what a step of these holds
pub holds-at : (inputs : List Input) (log : List ReadEntry) (loaded : List LoadedEntry)
    (steps : List LoadStep) (i : ℕ) (x : LoadStep) → i < length steps → x ≡ get_or steps i x
    → HoldSteps inputs log loaded (steps_view steps)
    → HoldsStep inputs log loaded (step_view x)
holds-at inputs log loaded [] i x lt is h = absurd (omega (arith, lt))
holds-at inputs log loaded (y ∷ steps) zero x lt is h =
    subst (λ (s : LoadStep). HoldsStep inputs log loaded (step_view s)) (sym is) h.0
holds-at inputs log loaded (y ∷ steps) (suc i) x lt is h =
    holds-at inputs log loaded steps i x (omega (arith, lt)) is h.1
