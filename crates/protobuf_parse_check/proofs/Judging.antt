-- What is told of the next file by numbers is what is told of it by paths.
use Rattle.std.proofs.Common.{◌≡◌, ◌∙◌, ℕ, Bool, true, false, not, ◌&&◌, ◌||◌, List, [], ◌∷◌, ◌++◌}
use Rattle.std.proofs.Common.{Option, None, Some, ap, cond, filter, length, map, nat_eq, refl}
use Rattle.std.proofs.Common.{sym, inl, inr, if◌then◌else◌}
use Rattle.std.specs.List.{list_any}
use Rattle.protobuf_parse_syntax.specs.Dependencies.{imports, is_public}
use Rattle.protobuf_parse_syntax.specs.Trees.{FileSyntax, ImportSyntax}
use Rattle.protobuf_parse_model.specs.Descriptors as described
use Rattle.protobuf_parse_model.specs.Descriptors.{FileDescriptor, Text}
use Rattle.protobuf_parse_model.specs.Faults.{Fault, found}
use Rattle.protobuf_parse_model.specs.Tables.{TableTells}
use Rattle.protobuf_parse_model.specs.declared.descriptor.FileDescriptorProto.{FileDescriptorProto}
use Rattle.protobuf_parse_model.specs.declared.scope.seen.Declarations.{Declarations}
use Rattle.protobuf_parse_model.proofs.DeclaringFiles.{filter-alike}
use Rattle.protobuf_parse_elaboration.specs.FileDescriptor.{file_faults, file_of}
use Rattle.protobuf_parse_elaboration.specs.FilesByPath.{stays}
use Rattle.protobuf_parse_run.specs.PlainRuns.{plain_of}
use Rattle.protobuf_parse_run.specs.Repeats.{is_nothing}
use Rattle.protobuf_parse_run.specs.Run.{Files, environment_of, own_faults}
use Rattle.protobuf_parse_run.specs.Walks.{among}
use Rattle.protobuf_parse_run.specs.declared.reach.Held.TheVariants as held_as
use Rattle.protobuf_parse_run.specs.declared.reach.Sights.{Sights}
use Rattle.protobuf_parse_run.specs.declared.tables.Tables.{Tables}
use Rattle.protobuf_parse_run.specs.Loading.{AreJoined, LoadedEntry, own_over, plain_over}
use Rattle.protobuf_parse_run.specs.Loading.{with_next}
use Rattle.protobuf_parse_run.proofs.Elaborating.{places-same}
use Rattle.protobuf_parse_run.proofs.Faulty.{any-text, text-any}
use Rattle.protobuf_parse_run.proofs.Keeping.{bool_cases, never_both, or_left, or_right}
use Rattle.protobuf_parse_run.proofs.Knowing.{sees-reaches}
use Rattle.protobuf_parse_check.specs.declared.judge.Losses.{Losses}
use Rattle.protobuf_parse_check.specs.declared.repeats.Brought.{Brought}
use Rattle.protobuf_parse_check.specs.declared.verdict.Verdict.{Verdict}
use Rattle.protobuf_parse_check.specs.Gathered.{AreBrought, brings_any, brought_fault}
use Rattle.protobuf_parse_check.specs.Gathered.{brought_faults}
use Rattle.protobuf_parse_check.specs.Judging.{GivesVerdict, any_with, has_fault, has_lost}
use Rattle.protobuf_parse_check.specs.Judging.{has_trouble, is_faulty_state, is_hidden_by}
use Rattle.protobuf_parse_check.specs.Judging.{is_wrong, looks_over}
use Rattle.protobuf_parse_check.specs.Judging.{repeat_over, repeats_over, shown_by}
use Rattle.protobuf_parse_check.specs.Reports.{Checked, descriptor_of, faults_of}
use Rattle.protobuf_parse_check.specs.Reports.{files_of, is_faulty, is_faulty_tree}
use Rattle.protobuf_parse_check.specs.Reports.{is_hidden}
use Rattle.protobuf_parse_check.specs.Reports.{is_of_duplicate, is_of_unfound, is_settled}
use Rattle.protobuf_parse_check.specs.Reports.{is_troubled, loses, loses_public, misses_names}
use Rattle.protobuf_parse_check.specs.Reports.{stands_at, state_by, state_of}
use Rattle.protobuf_parse_check.specs.SoFar.{AreVerdicts, IsVerdict, KeepsBringers}
use Rattle.protobuf_parse_check.specs.Trimmed.{has_told, has_told_public, is_told, trimmed}
use Rattle.protobuf_parse_check.proofs.Bringing.{names-are}
use Rattle.protobuf_parse_check.proofs.Deciding.{told-any, told-stands}
use Rattle.protobuf_parse_check.proofs.NextFile.{Stands, below, next, reach-is, sight-is}
use Rattle.protobuf_parse_check.proofs.OverPaths.{descriptor-same, faults-same, own-same}
use Rattle.protobuf_parse_check.proofs.OverPaths.{plain-same}
use Rattle.protobuf_parse_check.proofs.Verdicts.{any-same}

-- ** plain values

settled-by : (wrong under nothing : Bool)
    → ((not wrong && not under) && nothing) ≡ not (under || (wrong || not nothing))
settled-by true true true = refl
settled-by true true false = refl
settled-by true false true = refl
settled-by true false false = refl
settled-by false true true = refl
settled-by false true false = refl
settled-by false false true = refl
settled-by false false false = refl

or_assoc : (a b k : Bool) → ((a || b) || k) ≡ (a || (b || k))
or_assoc true b k = refl
or_assoc false b k = refl

-- what implies the first adds nothing
more-losses : (any under own : Bool) → (own ≡ true → any ≡ true)
    → (any || under) ≡ (any || (under || own))
more-losses true under own h = refl
more-losses false true own h = refl
more-losses false false true h = h refl
more-losses false false false h = refl

state-same : (own under : Bool) → state_by own under ≡ state_by own (under || own)
state-same true under = refl
state-same false true = refl
state-same false false = refl

pub faulty-state : (own under : Bool) → is_faulty_state (state_by own under) ≡ own
faulty-state true under = refl
faulty-state false true = refl
faulty-state false false = refl

not_true : (b : Bool) → not b ≡ true → b ≡ false
not_true true h = cc
not_true false h = refl

or_none : (a b : Bool) → (a || b) ≡ false → (a ≡ false) × (b ≡ false)
or_none true b h = cc
or_none false b h = (refl, h)

map-alike : {A B : Type 0} (f g : A → B) → ((x : A) → f x ≡ g x) → (xs : List A)
    → map f xs ≡ map g xs
map-alike f g same [] = refl
map-alike f g same (x ∷ xs) =
    ap (λ y. y ∷ map f xs) (same x) ∙ ap (λ ys. g x ∷ ys) (map-alike f g same xs)

none-filtered : (test : Fault → Bool) → ((f : Fault) → test f ≡ true) → (fs : List Fault)
    → filter test fs ≡ fs
none-filtered test all [] = refl
none-filtered test all (f ∷ fs) =
    ap (λ (b : Bool). cond b (f ∷ filter test fs) (filter test fs)) (all f)
    ∙ ap (λ gs. f ∷ gs) (none-filtered test all fs)

-- a public import that is told is told
public-told : (test : ImportSyntax → Bool) (is : List ImportSyntax)
    → list_any (λ (i : ImportSyntax). is_public i.vis && test i) is ≡ true
    → list_any test is ≡ true
public-told test [] h = cc
public-told test (i ∷ is) h =
    elim (bool_cases (test i)) [
      | inl w ↦ or_left (test i) (list_any test is) w
      | inr w ↦ or_right (test i) (list_any test is)
          (public-told test is (rest (is_public i.vis) (test i) _ h w))
    ]
  where
    rest : (a b k : Bool) → ((a && b) || k) ≡ true → b ≡ false → k ≡ true
    rest true true k h e = cc
    rest true false k h e = h
    rest false b k h e = h

-- no member passes where none does
none-of-any : (test : Text → Bool) (xs : List Text) (q : Text) → list_any test xs ≡ false
    → among q xs ≡ true → test q ≡ false
none-of-any test xs q none m =
    elim (bool_cases (test q)) [
      | inl w ↦ absurd (never_both (list_any test xs) (any-text test xs q m w) none)
      | inr w ↦ w
    ]

none-any : (test : Text → Bool) (xs : List Text)
    → ((q : Text) → among q xs ≡ true → test q ≡ false) → list_any test xs ≡ false
none-any test xs none =
    elim (bool_cases (list_any test xs)) [
      | inl w ↦ let r = text-any test xs w in
          absurd (never_both (test r.0) r.2 (none r.0 r.1))
      | inr w ↦ w
    ]

module _ (c : Checked) (loaded : List LoadedEntry) (tables : Tables) (before after : List Text)
    (p : Text) (u : FileSyntax) (whole : c.whole p ≡ Some u)
    (s : Stands c loaded tables before after p (trimmed c.steps p u))
    (sights : Sights)
    (reaches : AreJoined held_as.Reach loaded
    (below c loaded tables before after p (trimmed c.steps p u) s) sights.reach.items)
    (sees : AreJoined held_as.HandedOn loaded
    (below c loaded tables before after p (trimmed c.steps p u) s) sights.sight.items)
    (own_reached : list_any (nat_eq (length loaded)) sights.reach.items ≡ true)
    (own_seen : list_any (nat_eq (length loaded)) sights.sight.items ≡ true)
    (verdicts : List Verdict) (are : AreVerdicts c before loaded verdicts)
    (losses : Losses) (any_lost : losses.any ≡ has_told c.steps p u)
    (public_lost : losses.public ≡ has_told_public c.steps p u)
    (table : Declarations) (tells : TableTells table (with_next loaded (trimmed c.steps p u)))
    (old new : Brought) (types : KeepsBringers c false loaded old.types)
    (extensions : KeepsBringers c true loaded old.extensions)
    (descriptor : FileDescriptorProto) (v : Verdict)
    (g : GivesVerdict loaded (with_next loaded (trimmed c.steps p u)) table sights losses p
    (trimmed c.steps p u) verdicts old new descriptor v) where
  abbrev t : FileSyntax
  t = trimmed c.steps p u

  abbrev files : Files
  files = files_of c

  abbrev reach : List ℕ
  reach = sights.reach.items

  abbrev sight : List ℕ
  sight = sights.sight.items

  -- ** E5 and E6

  one-repeat : (extension : Bool) (name : Text)
      → repeat_over loaded (with_next loaded t) reach t extension name
      ≡ brought_fault files p t extension name
  one-repeat extension name =
      ap (λ place. record {
        place = place;
        wrong = (brought_fault files p t extension name).wrong;
      }) (places-same files loaded tables c.reads p t (below c loaded tables before after p t s)
      (next c loaded tables before after p t s) reach sight reaches sees extension name)

  repeats-same : (extension : Bool) (names : List Text)
      → repeats_over loaded (with_next loaded t) reach t extension names
      ≡ brought_faults files p t extension names
  repeats-same extension names =
      map-alike (repeat_over loaded (with_next loaded t) reach t extension)
      (brought_fault files p t extension) (one-repeat extension) names

  pub brought-is : AreBrought files p t (found v.repeats)
  brought-is =
      let r = g.repeats in
      record {
        types = r.types;
        extensions = r.extensions;
        types_are = names-are c loaded tables before after p t s reach sight reaches sees table
            tells false old.types new.types types r.types r.types_are;
        extensions_are = names-are c loaded tables before after p t s reach sight reaches sees
            table tells true old.extensions new.extensions extensions r.extensions
            r.extensions_are;
        told_are = r.told_are
            ∙ ap (λ (fs : List Fault). fs
            ++ repeats_over loaded (with_next loaded t) reach t true r.extensions)
            (repeats-same false r.types)
            ∙ ap (λ (fs : List Fault). brought_faults files p t false r.types ++ fs)
            (repeats-same true r.extensions);
      }

  -- ** what is wrong

  loses-is : losses.any ≡ loses c p (c.whole p)
  loses-is = any_lost ∙ ap (loses c p) (sym whole)

  public-is : losses.public ≡ loses_public c p (c.whole p)
  public-is = public_lost ∙ ap (loses_public c p) (sym whole)

  wrong-is : is_wrong losses (found v.repeats)
      ≡ (loses c p (c.whole p) || brings_any files p)
  wrong-is = ap (λ (b : Bool). b || not (is_nothing (found v.repeats))) loses-is
      ∙ ap (λ (b : Bool). loses c p (c.whole p) || b)
      (told-any files p t (found v.repeats) brought-is)

  own-is : own_over (with_next loaded t) sight t ≡ own_faults files p (files.trees p)
  own-is = own-same c loaded tables before after p t s reach sight reaches sees
      ∙ ap (own_faults files p) (sym s.is)

  pub troubled-same : v.troubled ≡ is_troubled c p
  troubled-same =
      g.troubled
      ∙ ap (λ (b : Bool). is_wrong losses (found v.repeats) || b) (g.is_judged.faulty
      ∙ ap (λ (fs : List Fault). not (is_nothing fs)) own-is)
      ∙ ap (λ (b : Bool). b || not (is_nothing (own_faults files p (files.trees p)))) wrong-is
      ∙ or_assoc (loses c p (c.whole p)) (brings_any files p)
      (not (is_nothing (own_faults files p (files.trees p))))

  true-and : (b k : Bool) → b ≡ true → (b && k) ≡ k
  true-and true k h = refl
  true-and false k h = cc

  -- a test of what it reaches
  any-reached : (test : Text → Bool) (has : Option Verdict → Bool) → has None ≡ false
      → ((q : Text) (e : LoadedEntry) (w : Verdict) → IsVerdict c q e w
      → has (Some w) ≡ test q)
      → list_any test (c.reached p) ≡ (any_with has verdicts reach || test p)
  any-reached test has none says =
      ap (list_any test)
      (sym (reach-is c loaded tables before after p t s reach sight reaches sees))
      ∙ any-same c before loaded verdicts are p t test has none says reach
      ∙ ap (λ (b : Bool). any_with has verdicts reach || b)
      (true-and (list_any (nat_eq (length loaded)) reach) (test p) own_reached)

  any-seen : (test : Text → Bool) (has : Option Verdict → Bool) → has None ≡ false
      → ((q : Text) (e : LoadedEntry) (w : Verdict) → IsVerdict c q e w
      → has (Some w) ≡ test q)
      → list_any test (c.seen p) ≡ (any_with has verdicts sight || test p)
  any-seen test has none says =
      ap (list_any test)
      (sym (sight-is c loaded tables before after p t s reach sight reaches sees))
      ∙ any-same c before loaded verdicts are p t test has none says sight
      ∙ ap (λ (b : Bool). any_with has verdicts sight || b)
      (true-and (list_any (nat_eq (length loaded)) sight) (test p) own_seen)

  settled-is : looks_over (with_next loaded t) sight t
      (not (is_wrong losses (found v.repeats)) && not (any_with has_trouble verdicts reach))
      ≡ is_settled c p
  settled-is =
      settled-by (is_wrong losses (found v.repeats)) (any_with has_trouble verdicts reach)
      (is_nothing (own_over (with_next loaded t) sight t))
      ∙ ap (λ (b : Bool). not (any_with has_trouble verdicts reach || b))
      (ap (λ (b : Bool). is_wrong losses (found v.repeats) || b) (sym g.is_judged.faulty)
      ∙ sym g.troubled ∙ troubled-same)
      ∙ ap not (sym (any-reached (is_troubled c) has_trouble refl
      (λ q e w is. is.troubled)))

  judged-faults : found g.judged.faults
      ≡ (if is_settled c p then file_faults (environment_of files p t) t
      else own_faults files p (Some t))
  judged-faults =
      g.is_judged.told
      ∙ ap (λ (fs : List Fault). if looks_over (with_next loaded t) sight t
      (not (is_wrong losses (found v.repeats)) && not (any_with has_trouble verdicts reach))
      then fs else own_over (with_next loaded t) sight t)
      (faults-same c loaded tables before after p t s reach sight reaches sees)
      ∙ ap (λ (fs : List Fault). if looks_over (with_next loaded t) sight t
      (not (is_wrong losses (found v.repeats)) && not (any_with has_trouble verdicts reach))
      then file_faults (environment_of files p t) t else fs)
      (own-same c loaded tables before after p t s reach sight reaches sees)
      ∙ ap (λ (b : Bool). if b then file_faults (environment_of files p t) t
      else own_faults files p (Some t)) settled-is

  pub descriptor-is : described.file_view descriptor ≡ descriptor_of c p t
  descriptor-is =
      ap described.file_view g.descriptor_is
      ∙ g.is_judged.descriptor
      ∙ ap (λ (d : FileDescriptor). if looks_over (with_next loaded t) sight t
      (not (is_wrong losses (found v.repeats)) && not (any_with has_trouble verdicts reach))
      then d else plain_over (with_next loaded t) sight p t)
      (descriptor-same c loaded tables before after p t s reach sight reaches sees)
      ∙ ap (λ (d : FileDescriptor). if looks_over (with_next loaded t) sight t
      (not (is_wrong losses (found v.repeats)) && not (any_with has_trouble verdicts reach))
      then file_of (environment_of files p t) p t else d)
      (plain-same c loaded tables before after p t s reach sight reaches sees)
      ∙ ap (λ (b : Bool). if b then file_of (environment_of files p t) p t
      else plain_of files p t) settled-is

  -- ** what is hidden

  lost-public : loses_public c p (c.whole p) ≡ true → loses c p (c.whole p) ≡ true
  lost-public h =
      ap (loses c p) whole
      ∙ public-told (λ (i : ImportSyntax). is_told c.steps p i.place) (imports u.statements)
      (ap (loses_public c p) (sym whole) ∙ h)

  misses-is : (losses.any || any_with has_lost verdicts sight) ≡ misses_names c p
  misses-is =
      ap (λ (b : Bool). b || any_with has_lost verdicts sight) loses-is
      ∙ more-losses (loses c p (c.whole p)) (any_with has_lost verdicts sight)
      (loses_public c p (c.whole p)) lost-public
      ∙ ap (λ (b : Bool). loses c p (c.whole p) || b)
      (sym (any-seen (λ q. loses_public c q (c.whole q)) has_lost refl
      (λ q e w is. is.loses_public_is)))

  hidden-is : (f : Fault)
      → is_hidden_by (losses.any || any_with has_lost verdicts sight) (found v.repeats) f
      ≡ is_hidden c p t f
  hidden-is f =
      ap (λ (b : Bool). (b && is_of_unfound f.wrong.kind)
      || (is_of_duplicate f.wrong.kind && stands_at f (found v.repeats))) misses-is
      ∙ ap (λ (b : Bool). (misses_names c p && is_of_unfound f.wrong.kind)
      || (is_of_duplicate f.wrong.kind && b))
      (told-stands files p t (found v.repeats) brought-is f)

  -- where custom options are looked at, nothing is
  module _ (settled : is_settled c p ≡ true) where
    none-troubled : (q : Text) → among q (c.reached p) ≡ true → is_troubled c q ≡ false
    none-troubled q m = none-of-any (is_troubled c) (c.reached p) q
        (not_true (list_any (is_troubled c) (c.reached p)) settled) m

    none-lost : (q : Text) → among q (c.reached p) ≡ true → loses c q (c.whole q) ≡ false
    none-lost q m =
        (or_none (loses c q (c.whole q)) (brings_any files q
        || not (is_nothing (own_faults files q (files.trees q)))) (none-troubled q m)).0

    own-there : among p (c.reached p) ≡ true
    own-there = (s.ordered.listed.just.reaches p).all p (stays p)

    not-public : (q : Text) → loses c q (c.whole q) ≡ false
        → loses_public c q (c.whole q) ≡ false
    not-public q h = at (c.whole q) h
      where
        at : (o : Option FileSyntax) → loses c q o ≡ false → loses_public c q o ≡ false
        at None k = refl
        at (Some w) k =
            elim (bool_cases (has_told_public c.steps q w)) [
              | inl y ↦ absurd (never_both (has_told c.steps q w)
                  (public-told (λ (i : ImportSyntax). is_told c.steps q i.place)
                  (imports w.statements) y) k)
              | inr y ↦ y
            ]

    none-missed : misses_names c p ≡ false
    none-missed =
        ap (λ (b : Bool). b || list_any (λ q. loses_public c q (c.whole q)) (c.seen p))
        (none-lost p own-there)
        ∙ none-any (λ q. loses_public c q (c.whole q)) (c.seen p)
        (λ q m. not-public q (none-lost q ((s.ordered.listed.just.reaches p).all q
        (sees-reaches files.trees p q ((s.ordered.listed.just.sees p).only q m)))))

    none-told : found v.repeats ≡ []
    none-told = nothing (found v.repeats)
        (told-any files p t (found v.repeats) brought-is
        ∙ (or_none (brings_any files p)
        (not (is_nothing (own_faults files p (files.trees p))))
        (or_none (loses c p (c.whole p)) (brings_any files p
        || not (is_nothing (own_faults files p (files.trees p))))
        (none-troubled p own-there)).1).0)
      where
        nothing : (fs : List Fault) → not (is_nothing fs) ≡ false → fs ≡ []
        nothing [] h = refl
        nothing (f ∷ fs) h = cc

    none-hidden : (f : Fault)
        → not (is_hidden_by (losses.any || any_with has_lost verdicts sight) (found v.repeats) f)
        ≡ true
    none-hidden f =
        ap (λ (b : Bool). not ((b && is_of_unfound f.wrong.kind)
        || (is_of_duplicate f.wrong.kind && stands_at f (found v.repeats))))
        (misses-is ∙ none-missed)
        ∙ ap (λ (fs : List Fault). not (is_of_duplicate f.wrong.kind && stands_at f fs)) none-told
        ∙ ap not (and_false (is_of_duplicate f.wrong.kind))
      where
        and_false : (b : Bool) → (b && false) ≡ false
        and_false true = refl
        and_false false = refl

  pub faults-are : found v.faults ≡ faults_of c p t
  faults-are =
      g.faults
      ∙ ap (shown_by (losses.any || any_with has_lost verdicts sight) (found v.repeats))
      judged-faults
      ∙ shown (is_settled c p) refl
    where
      hides : Fault → Bool
      hides f = not (is_hidden_by (losses.any || any_with has_lost verdicts sight)
          (found v.repeats) f)

      shown : (b : Bool) → is_settled c p ≡ b
          → shown_by (losses.any || any_with has_lost verdicts sight) (found v.repeats)
          (if b then file_faults (environment_of files p t) t else own_faults files p (Some t))
          ≡ (if b then file_faults (environment_of files p t) t
          else filter (λ (f : Fault). not (is_hidden c p t f)) (own_faults files p (Some t)))
      shown true h = none-filtered hides (none-hidden h) (file_faults (environment_of files p t) t)
      shown false h = filter-alike hides (λ (f : Fault). not (is_hidden c p t f))
          (λ f. ap not (hidden-is f)) (own_faults files p (Some t))

  -- ** what became of it

  faulty-is : (is_wrong losses (found v.repeats) || not (is_nothing (found v.faults)))
      ≡ is_faulty c p
  faulty-is =
      ap (λ (b : Bool). b || not (is_nothing (found v.faults))) wrong-is
      ∙ or_assoc (loses c p (c.whole p)) (brings_any files p)
      (not (is_nothing (found v.faults)))
      ∙ ap (λ (fs : List Fault). loses c p (c.whole p)
      || (brings_any files p || not (is_nothing fs))) faults-are
      ∙ ap (λ (b : Bool). b || (brings_any files p || not (is_nothing (faults_of c p t))))
      (ap (loses c p) whole)
      ∙ sym (ap (is_faulty_tree c p) whole)

  pub state-is : v.state ≡ state_of c p
  state-is =
      g.state
      ∙ ap (λ (b : Bool). state_by b (any_with has_fault verdicts reach)) faulty-is
      ∙ state-same (is_faulty c p) (any_with has_fault verdicts reach)
      ∙ ap (state_by (is_faulty c p)) (sym (any-reached (is_faulty c) has_fault refl
      (λ q e w is. ap is_faulty_state is.state
      ∙ faulty-state (is_faulty c q) (list_any (is_faulty c) (c.reached q)))))

  pub public-lost-is : v.loses_public ≡ loses_public c p (c.whole p)
  public-lost-is = g.loses_public ∙ public-is
