-- Of which files a check tells nothing, and which faults stand in these.
use Rattle.std.proofs.Common.{◌≡◌, ◌∙◌, Bool, true, false, not, ◌&&◌, ◌||◌, List, [], ◌∷◌, ◌++◌}
use Rattle.std.proofs.Common.{Option, None, Some, ap, filter, inl, inr, map, refl, subst, sym}
use Rattle.std.proofs.Common.{if◌then◌else◌}
use Rattle.std.specs.Prelude.{option_map}
use Rattle.std.specs.List.{list_any}
use Rattle.protobuf_parse_syntax.specs.Trees.{FileSyntax}
use Rattle.protobuf_parse_model.specs.Descriptors.{FileDescriptor, Text}
use Rattle.protobuf_parse_model.specs.Faults.{Among, Fault, here}
use Rattle.protobuf_parse_model.specs.Linking.{before_others, link_faults}
use Rattle.protobuf_parse_elaboration.specs.FileDescriptor.{file_faults}
use Rattle.protobuf_parse_elaboration.specs.FilesByPath.{stays, trees_at}
use Rattle.protobuf_parse_options.specs.CustomFaults.{custom_option_faults}
use Rattle.protobuf_parse_run.specs.Repeats.{declaring, is_nothing, repeat_faults, repeat_place}
use Rattle.protobuf_parse_run.specs.Repeats.{told_at}
use Rattle.protobuf_parse_run.specs.Run.{Files, environment_of, faults_at, own_faults, plains_at}
use Rattle.protobuf_parse_run.specs.Walks.{Trees, among}
use Rattle.protobuf_parse_run.proofs.Faulty.{any-text, text-any}
use Rattle.protobuf_parse_run.proofs.FirstFaults.{no-others, none-after, none-before}
use Rattle.protobuf_parse_run.proofs.Keeping.{bool_cases, never_both}
use Rattle.protobuf_parse_run.proofs.Repeating.{once-told}
use Rattle.protobuf_parse_run.proofs.Spelling.{option-told, options-faultless}
use Rattle.protobuf_parse_load.specs.Steps.{closed_paths}
use Rattle.protobuf_parse_check.specs.Gathered.{brings_any, brought, brought_faults}
use Rattle.protobuf_parse_check.specs.Reports.{Checked, all_brought, faults_of, files_of}
use Rattle.protobuf_parse_check.specs.Reports.{is_faulty, is_faulty_tree, is_hidden}
use Rattle.protobuf_parse_check.specs.Reports.{is_of_duplicate}
use Rattle.protobuf_parse_check.specs.Reports.{is_of_unfound, is_settled, is_troubled, loses}
use Rattle.protobuf_parse_check.specs.Reports.{loses_public, misses_names, stands_at}
use Rattle.protobuf_parse_check.specs.SoFar.{IsOrdered}
use Rattle.protobuf_parse_check.specs.Trimmed.{has_told, told_places, trimmed}
use Rattle.protobuf_parse_check.proofs.Linked.{brings-none, linked-once}
use Rattle.protobuf_parse_check.proofs.Plainly.{all-kept}
use Rattle.protobuf_parse_check.proofs.Untrimmed.{loses-none, loses-public-none}

-- ** plain values

pub or_none : (a b : Bool) → (a || b) ≡ false → (a ≡ false) × (b ≡ false)
or_none true b h = cc
or_none false b h = (refl, h)

pub both_none : (a b : Bool) → a ≡ false → b ≡ false → (a || b) ≡ false
both_none a b h k = rw (h, k) refl

second_some : (a b d : Bool) → a ≡ false → b ≡ false → d ≡ true → (a || (b || d)) ≡ true
second_some a b d h k l = rw (h, k, l) refl

pub nothing-is : {A : Type 0} (xs : List A) → not (is_nothing xs) ≡ false → xs ≡ []
nothing-is [] h = refl
nothing-is (x ∷ xs) h = cc

pub none-is : {A : Type 0} (xs : List A) → xs ≡ [] → not (is_nothing xs) ≡ false
none-is [] h = refl
none-is (x ∷ xs) h = cc

pub none-stands : (fs : List Fault) → ((f : Fault) → Among fs f → ⊥) → fs ≡ []
none-stands [] h = refl
none-stands (f ∷ fs) h = absurd (h f here)

pub nothing-in : {A : Type 0} (xs : List A) (x : A) → xs ≡ [] → Among xs x → ⊥
nothing-in {A} xs x h m = elim (subst (λ (ys : List A). Among ys x) h m) [ ]

-- no member passes where none does, and the other way round
pub none-among : (test : Text → Bool) (xs : List Text)
    → ((q : Text) → among q xs ≡ true → test q ≡ false) → list_any test xs ≡ false
none-among test xs none =
    elim (bool_cases (list_any test xs)) [
      | inl w ↦ let r = text-any test xs w in absurd (never_both (test r.0) r.2 (none r.0 r.1))
      | inr w ↦ w
    ]

pub none-of-any : (test : Text → Bool) (xs : List Text) (q : Text) → list_any test xs ≡ false
    → among q xs ≡ true → test q ≡ false
none-of-any test xs q none m =
    elim (bool_cases (test q)) [
      | inl w ↦ absurd (never_both (list_any test xs) (any-text test xs q m w) none)
      | inr w ↦ w
    ]

and_false : (b : Bool) → (b && false) ≡ false
and_false true = refl
and_false false = refl

hidden-by : (m u d s : Bool) → m ≡ false → s ≡ false → ((m && u) || (d && s)) ≡ false
hidden-by m u d s h k = rw (h, k) (and_false d)

-- where no name is declared twice none is told
pub repeats-none : (trees : Trees) (reached : Text → List Text) (p : Text) (t : FileSyntax)
    → link_faults (trees_at trees (reached p)) ≡ [] → repeat_faults trees reached p t ≡ []
repeats-none trees reached p t h =
    ap (λ (fs : List Fault). map (told_at (λ extension name.
    repeat_place (λ q r. among r (reached q)) (declaring trees extension name (reached p))
    t extension name)) fs) h

module _ (c : Checked) (ordered : IsOrdered c) (p : Text) (t : FileSyntax)
    (whole : c.whole p ≡ Some t) where
  abbrev files : Files
  files = files_of c

  -- the file without its imports that are told
  abbrev u : FileSyntax
  u = trimmed c.steps p t

  abbrev reach : List FileDescriptor
  reach = plains_at files (c.reached p)

  abbrev sight : List FileDescriptor
  sight = plains_at files (c.seen p)

  abbrev customs : List Fault
  customs = custom_option_faults reach sight u

  abbrev own : List Fault
  own = own_faults files p (Some u)

  abbrev repeats : List Fault
  repeats = repeat_faults files.trees files.reached p u

  cut : files.trees p ≡ Some u
  cut = ap (option_map (trimmed c.steps p)) whole

  faulty-is : is_faulty c p
      ≡ (has_told c.steps p t || (brings_any files p || not (is_nothing (faults_of c p u))))
  faulty-is = ap (is_faulty_tree c p) whole

  troubled-is : is_troubled c p
      ≡ (has_told c.steps p t || (brings_any files p || not (is_nothing own)))
  troubled-is =
      ap (λ (o : Option FileSyntax). loses c p o
      || (brings_any files p || not (is_nothing (own_faults files p (files.trees p))))) whole
      ∙ ap (λ (o : Option FileSyntax). has_told c.steps p t
      || (brings_any files p || not (is_nothing (own_faults files p o)))) cut

  itself : among p (c.reached p) ≡ true
  itself = (ordered.listed.just.reaches p).all p (stays p)

  -- ** where no import of what it sees is told

  module _ (clear : told_places c.steps p ≡ [])
      (sees : (q : Text) → among q (c.seen p) ≡ true → told_places c.steps q ≡ []) where
    loses-path : (o : Option FileSyntax) → loses c p o ≡ false
    loses-path None = refl
    loses-path (Some x) = loses-none c.steps p clear x

    public-path : (q : Text) → told_places c.steps q ≡ [] → (o : Option FileSyntax)
        → loses_public c q o ≡ false
    public-path q none None = refl
    public-path q none (Some x) = loses-public-none c.steps q none x

    misses-none : misses_names c p ≡ false
    misses-none =
        both_none (loses c p (c.whole p)) (list_any (λ q. loses_public c q (c.whole q)) (c.seen p))
        (loses-path (c.whole p))
        (none-among (λ (q : Text). loses_public c q (c.whole q)) (c.seen p)
        (λ q m. public-path q (sees q m) (c.whole q)))

    hidden-none : brings_any files p ≡ false → (f : Fault) → is_hidden c p u f ≡ false
    hidden-none none f =
        let parts = or_none (not (is_nothing (brought files false p)))
        (not (is_nothing (brought files true p))) none in
        let first : brought files false p ≡ [] = nothing-is (brought files false p) parts.0 in
        let later : brought files true p ≡ [] = nothing-is (brought files true p) parts.1 in
        let all : all_brought files p u ≡ [] =
        ap (λ (names : List Text). brought_faults files p u false names
        ++ brought_faults files p u true (brought files true p)) first
        ∙ ap (λ (names : List Text). brought_faults files p u true names) later in
        hidden-by (misses_names c p) (is_of_unfound f.wrong.kind) (is_of_duplicate f.wrong.kind)
        (stands_at f (all_brought files p u)) misses-none
        (ap (λ (fs : List Fault). stands_at f fs) all)

    told-own : is_settled c p ≡ false → brings_any files p ≡ false → faults_of c p u ≡ own
    told-own unset none =
        ap (λ (b : Bool). if b then file_faults (environment_of files p u) u
        else filter (λ (f : Fault). not (is_hidden c p u f)) own) unset
        ∙ all-kept (λ (f : Fault). not (is_hidden c p u f)) (λ f. ap not (hidden-none none f)) own

    -- a file of which nothing is told has no faults of its own
    pub untroubled : is_faulty c p ≡ false → is_troubled c p ≡ false
    untroubled calm =
        let parts = or_none (has_told c.steps p t)
        (brings_any files p || not (is_nothing (faults_of c p u))) (sym faulty-is ∙ calm) in
        let more = or_none (brings_any files p) (not (is_nothing (faults_of c p u))) parts.1 in
        let own_none : not (is_nothing own) ≡ false =
        elim (bool_cases (not (is_nothing own))) [
          | inl w ↦
              let troubled : is_troubled c p ≡ true = troubled-is
              ∙ second_some (has_told c.steps p t) (brings_any files p) (not (is_nothing own))
              parts.0 more.0 w in
              let unset : is_settled c p ≡ false =
              ap not (any-text (is_troubled c) (c.reached p) p itself troubled) in
              absurd (never_both (not (is_nothing own)) w
              (ap (λ (fs : List Fault). not (is_nothing fs)) (sym (told-own unset more.0))
              ∙ more.1))
          | inr w ↦ w
        ] in
        troubled-is
        ∙ both_none (has_told c.steps p t) (brings_any files p || not (is_nothing own)) parts.0
        (both_none (brings_any files p) (not (is_nothing own)) more.0 own_none)

  -- ** where no file that it reaches is in trouble

  module _ (all : (q : Text) → among q (c.reached p) ≡ true → is_troubled c q ≡ false) where
    pub settled : is_settled c p ≡ true
    settled = ap not (none-among (is_troubled c) (c.reached p) all)

    pub told-known : faults_of c p u ≡ file_faults (environment_of files p u) u
    told-known =
        ap (λ (b : Bool). if b then file_faults (environment_of files p u) u
        else filter (λ (f : Fault). not (is_hidden c p u f)) own) settled

    brings-of : (q : Text) → is_troubled c q ≡ false → brings_any files q ≡ false
    brings-of q h =
        let own_so : Bool = not (is_nothing (own_faults files q (files.trees q))) in
        (or_none (brings_any files q) own_so
        (or_none (loses c q (c.whole q)) (brings_any files q || own_so) h).1).0

    pub told-none : is_faulty c p ≡ false → faults_of c p u ≡ []
    told-none calm =
        let parts = or_none (has_told c.steps p t)
        (brings_any files p || not (is_nothing (faults_of c p u))) (sym faulty-is ∙ calm) in
        nothing-is (faults_of c p u)
        (or_none (brings_any files p) (not (is_nothing (faults_of c p u))) parts.1).1

    -- and nothing is told of it, no fault stands there
    pub faultless : (front back : List Text) → closed_paths c.steps ≡ front ++ p ∷ back
        → is_faulty c p ≡ false → faults_at files p (files.trees p) ≡ []
    faultless front back at calm =
        let known : file_faults (environment_of files p u) u ≡ [] =
        sym told-known ∙ told-none calm in
        let parts = or_none (has_told c.steps p t)
        (brings_any files p || not (is_nothing own)) (sym troubled-is ∙ all p itself) in
        let own_none : own ≡ [] =
        nothing-is own (or_none (brings_any files p) (not (is_nothing own)) parts.1).1 in
        let customs_none : customs ≡ [] =
        options-faultless (trees_at files.trees (c.seen p)) reach sight u known in
        let linked = linked-once c ordered p front back at (λ q m. brings-of q (all q m)) in
        ap (faults_at files p) cut
        ∙ no-others repeats (before_others own customs)
        (repeats-none files.trees files.reached p u linked)
        (no-others own customs own_none customs_none)

  -- ** where no fault stands there

  module _ (none : faults_at files p (files.trees p) ≡ []) (kept : has_told c.steps p t ≡ false)
    where
      standing : before_others repeats (before_others own customs) ≡ []
      standing = sym (ap (faults_at files p) cut) ∙ none

      others-none : before_others own customs ≡ []
      others-none = none-after repeats (before_others own customs) standing

      brings-nothing : brings_any files p ≡ false
      brings-nothing =
          brings-none c ordered p (once-told files p u (before_others own customs) standing)

      pub untroubled-by : is_troubled c p ≡ false
      untroubled-by =
          troubled-is
          ∙ both_none (has_told c.steps p t) (brings_any files p || not (is_nothing own)) kept
          (both_none (brings_any files p) (not (is_nothing own)) brings-nothing
          (none-is own (none-before own customs others-none)))

      pub calm-by : ((q : Text) → among q (c.reached p) ≡ true → is_troubled c q ≡ false)
          → is_faulty c p ≡ false
      calm-by all =
          let own_none : own ≡ [] = none-before own customs others-none in
          let customs_none : customs ≡ [] = none-after own customs others-none in
          let known : file_faults (environment_of files p u) u ≡ [] =
          none-stands (file_faults (environment_of files p u) u)
          (λ f m. nothing-in customs f customs_none
          (option-told (trees_at files.trees (c.seen p)) reach sight u f own_none m)) in
          faulty-is
          ∙ both_none (has_told c.steps p t)
          (brings_any files p || not (is_nothing (faults_of c p u))) kept
          (both_none (brings_any files p) (not (is_nothing (faults_of c p u))) brings-nothing
          (none-is (faults_of c p u) (told-known all ∙ known)))
