-- A run over further inputs, whose trees agree on the files of an accepted run.
use Rattle.std.proofs.Common.{◌≡◌, ℕ, zero, suc, true, false, inl, inr, List, [], ◌∷◌, ◌++◌, map}
use Rattle.std.proofs.Common.{Option, Some, None, refl, sym, ◌∙◌, ap, subst}
use Rattle.std.specs.Prelude.{not}
use Rattle.protobuf_parse_syntax.specs.Trees.{FileSyntax}
use Rattle.protobuf_parse_model.specs.Descriptors as described
use Rattle.protobuf_parse_model.specs.Descriptors.{Text, FileDescriptor}
use Rattle.protobuf_parse_model.specs.Faults.{Fault}
use Rattle.protobuf_parse_model.specs.declared.descriptor.FileDescriptorProto.{FileDescriptorProto}
use Rattle.protobuf_parse_elaboration.specs.FileDescriptor.{file_of}
use Rattle.protobuf_parse_run.specs.Walks.{Asked, the_resolver, Input, Event, load, elab, keep}
use Rattle.protobuf_parse_run.specs.Walks.{among, Trees, Reaches, import_paths, walks_joined}
use Rattle.protobuf_parse_run.specs.Walks.{events_inside, walk, checks, input_walk, events_after}
use Rattle.protobuf_parse_run.specs.Walks.{events, elab_paths, input_name, asked_of}
use Rattle.protobuf_parse_run.specs.Run.{Files, AreDescriptors, environment_of, fails, faults_at}
use Rattle.protobuf_parse_run.specs.Run.{is_nothing}
use Rattle.protobuf_parse_run.specs.Loading.{Within}
use Rattle.protobuf_parse_run.specs.Stability.{AgreeOn, DeclaresOnce, WereRead, IsAlike, IsClean}
use Rattle.protobuf_parse_run.specs.Stability.{IsFileOfRun, order}
use Rattle.protobuf_parse_run.proofs.Keeping.{bool_cases, clean-has, elab_paths-append, has-elab}
use Rattle.protobuf_parse_run.proofs.Keeping.{has-left, never_both, or_left, or_right, some_same}
use Rattle.protobuf_parse_run.proofs.Keeping.{text-same}
use Rattle.protobuf_parse_run.proofs.Walking.{walk-load, walk-no_room, walk-on_chain}
use Rattle.protobuf_parse_run.proofs.Inputs.{events-append}
use Rattle.protobuf_parse_run.proofs.Repeating.{once-told}
use Rattle.protobuf_parse_run.proofs.Spelling.{others}
use Rattle.protobuf_parse_run.proofs.Agreeing.{alike}
use Rattle.protobuf_parse_run.proofs.Joining.{events-extend, events-keep, has-joined, joined-same}
use Rattle.protobuf_parse_run.proofs.Joining.{keep-new}
use Rattle.protobuf_parse_run.proofs.Ordering.{Loads, accepted-walked, elab-same}
use Rattle.protobuf_parse_run.proofs.Ordering.{loaded-is as loaded-of, reached-is as reached-of}

-- ** walks whose files have the same trees

inside-same : (f g : Text → List Event) (p : Text) (o : Option FileSyntax)
    → ((x : Text) → Within (g x) (events_inside o g p) → f x ≡ g x)
    → events_inside o f p ≡ events_inside o g p
inside-same f g p None each = refl
inside-same f g p (Some t) each =
    ap (λ z. z ++ elab p ∷ [])
    (joined-same f g (import_paths t)
    (λ x m. each x
    (λ e h. has-left e (walks_joined g (import_paths t)) (elab p ∷ [])
    (has-joined g (import_paths t) x e m h))))

walk-same : (old new : Trees) (i : Text) (a : Asked) (room : ℕ) (chain : List Text) (p : Text)
    → AgreeOn (Loads (walk old i a room chain p)) old new
    → walk new i a room chain p ≡ walk old i a room chain p
walk-same old new i a zero chain p agree =
    elim (bool_cases (among p chain)) [
      | inl w ↦ walk-on_chain new i a 0 chain p w ∙ sym (walk-on_chain old i a 0 chain p w)
      | inr w ↦ walk-no_room new i a chain p w ∙ sym (walk-no_room old i a chain p w)
    ]
walk-same old new i a (suc room) chain p agree =
    elim (bool_cases (among p chain)) [
      | inl w ↦ walk-on_chain new i a (suc room) chain p w
          ∙ sym (walk-on_chain old i a (suc room) chain p w)
      | inr w ↦
          let f = walk new i the_resolver room (chain ++ p ∷ []) in
          let g = walk old i the_resolver room (chain ++ p ∷ []) in
          let opened : walk old i a (suc room) chain p ≡ load a p ∷ events_inside (old p) g p =
          walk-load old i a room chain p w in
          let into : AgreeOn (Loads (load a p ∷ events_inside (old p) g p)) old new = subst
          (λ (es : List Event). AgreeOn (Loads es) old new) opened agree in
          let here : new p ≡ old p = into p (or_left _ _ (text-same p)) in
          walk-load new i a room chain p w
          ∙ ap (λ (o : Option FileSyntax). load a p ∷ events_inside o f p) here
          ∙ ap (λ es. load a p ∷ es)
          (inside-same f g p (old p)
          (λ x within. walk-same old new i the_resolver room (chain ++ p ∷ []) x
          (λ q h. into q (or_right _ _ (within (load the_resolver q) h)))))
          ∙ sym opened
    ]

-- ** the events of inputs

events-same : (old new : Trees) (kept : List Event) (is : List Input)
    → AgreeOn (Loads (events_after old kept is)) old new
    → events_after new kept is ≡ events_after old kept is
unfolding events_after
events-same old new kept [] agree = refl
events-same old new kept (i ∷ is) agree =
    let k = kept ++ checks kept i in
    let one : input_walk new i ≡ input_walk old i = walk-same old new (input_name i) (asked_of i)
    100 [] (input_name i)
    (λ q h. agree q (events-keep old (keep k (input_walk old i)) is (load the_resolver q)
    (keep-new k (input_walk old i) (load the_resolver q) h))) in
    ap (λ z. events_after new (keep k z) is) one ∙ events-same old new (keep k (input_walk old i))
    is agree

-- ** an accepted run

nothing-there : (fs : List Fault) → not (is_nothing fs) ≡ false → fs ≡ []
nothing-there [] h = refl
nothing-there (f ∷ fs) h = cc

module _ (files : Files) (inputs : List Input) (clean : IsClean files inputs) where
  abbrev all : List Event
  all = events files.trees inputs

  loaded-is : (q : Text) → Loads all q → IsFileOfRun files.trees inputs q
  loaded-is = loaded-of files.trees inputs (accepted-walked files inputs clean)

  pub reached-is : (p q : Text) → Reaches files.trees p q → IsFileOfRun files.trees inputs p
      → IsFileOfRun files.trees inputs q
  reached-is = reached-of files.trees inputs (accepted-walked files inputs clean)

  -- no fault stands in them
  pub faultless-file : (p : Text) (t : FileSyntax) → files.trees p ≡ Some t
      → IsFileOfRun files.trees inputs p → faults_at files p (Some t) ≡ []
  faultless-file p t is h =
      elim (bool_cases (fails files (elab p))) [
        | inl w ↦ absurd
            (never_both _ (has-elab p all ∙ h)
            (clean-has (fails files) all (elab p) (elab-same p) clean w))
        | inr w ↦ nothing-there (faults_at files p (Some t))
            (subst (λ (o : Option FileSyntax). not (is_nothing (faults_at files p o)) ≡ false)
            is w)
      ]

  -- and none of them declares a name twice
  pub declared-once : (p : Text) (t : FileSyntax) → files.trees p ≡ Some t
      → IsFileOfRun files.trees inputs p → DeclaresOnce files p
  declared-once p t is h = once-told files p t (others files p t) (faultless-file p t is h)

-- ** further inputs

pub order-stays : (old : Files) (new : Trees) (inputs more : List Input) → IsClean old inputs
    → AgreeOn (IsFileOfRun old.trees inputs) old.trees new → (rest : List Text)
    × (order new (inputs ++ more) ≡ order old.trees inputs ++ rest)
order-stays old new inputs more clean agree =
    let alike : events new inputs ≡ events old.trees inputs = events-same old.trees new [] inputs
    (λ q h. agree q (loaded-is old inputs clean q h)) in
    let r = events-extend new (events new inputs) more in (
      elab_paths r.0,
      ap elab_paths
          (events-append new [] inputs more ∙ (r.1 ∙ ap (λ z. z ++ r.0) alike)) ∙ elab_paths-append
          (events old.trees inputs) r.0,
    )

-- a descriptor of the longer run
descriptor-stays : (old new : Files) (p : Text) (d e : FileDescriptorProto) (t u : FileSyntax)
    → IsAlike old new p → DeclaresOnce old p → old.trees p ≡ Some t → new.trees p ≡ Some u
    → described.file_view d ≡ file_of (environment_of old p t) p t → described.file_view e
    ≡ file_of (environment_of new p u) p u → described.file_view e ≡ described.file_view d
descriptor-stays old new p d e t u alike once is now was becomes =
    let same_event : u ≡ t = some_same u t (sym now ∙ (alike.tree ∙ is)) in
    becomes ∙ (ap (λ (z : FileSyntax). file_of (environment_of new p z) p z) same_event
    ∙ (alike.becomes t once ∙ sym was))

begins-with : (old new : Files) (ps qs : List Text) (first both : List FileDescriptorProto)
    → ((p : Text) (t : FileSyntax) → among p ps ≡ true → old.trees p ≡ Some t → IsAlike old new p
    × DeclaresOnce old p)
    → AreDescriptors old ps first → AreDescriptors new (ps ++ qs) both
    → (rest : List FileDescriptor)
    × (map described.file_view both ≡ map described.file_view first ++ rest)
begins-with old new [] qs [] both each h k = (map described.file_view both, refl)
begins-with old new [] qs (d ∷ first) both each h k = absurd h
begins-with old new (p ∷ ps) qs [] both each h k = absurd h
begins-with old new (p ∷ ps) qs (d ∷ first) [] each h k = absurd k
begins-with old new (p ∷ ps) qs (d ∷ first) (e ∷ both) each h k =
    let a = each p h.0.0 (or_left _ _ (text-same p)) h.0.1 in
    let one = descriptor-stays old new p d e h.0.0 k.0.0 a.0 a.1 h.0.1 k.0.1 h.0.2 k.0.2 in
    let more = begins-with old new ps qs first both (λ q t m. each q t (or_right _ _ m))
    h.1 k.1 in (
      more.0,
      ap (λ z. z ∷ map described.file_view both) one
          ∙ ap (λ zs. described.file_view d ∷ zs) more.1,
    )

pub descriptors-stay : (old new : Files) (inputs more : List Input)
    (first both : List FileDescriptorProto) → WereRead old → WereRead new → IsClean old inputs
    → AgreeOn (IsFileOfRun old.trees inputs) old.trees new.trees
    → AreDescriptors old (order old.trees inputs) first
    → AreDescriptors new (order new.trees (inputs ++ more)) both → (rest : List FileDescriptor)
    × (map described.file_view both ≡ map described.file_view first ++ rest)
descriptors-stay old new inputs more first both listed relisted clean agree h k =
    let r = order-stays old new.trees inputs more clean agree in
    begins-with old new (order old.trees inputs) r.0 first both
    (λ p t m is. (
      alike old new p listed relisted
          (λ q reach. agree q (reached-is old inputs clean p q reach m)),
      declared-once old inputs
          clean p t is m,
    ))
    h (subst (λ (ps : List Text). AreDescriptors new ps both) r.1 k)
