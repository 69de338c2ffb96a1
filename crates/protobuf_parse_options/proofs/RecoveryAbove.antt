-- What custom options denote is read back by the descriptors of more files than those that their
-- file reaches.
use Rattle.std.proofs.Common.{◌≡◌, ◌<◌, ◌^◌, Bool, true, false, cond, List, [], ◌∷◌, ◌++◌, map}
use Rattle.std.proofs.Common.{flat_map, length, Option, Some, None, Ok, option_to_list, refl, ap}
use Rattle.std.proofs.Common.{subst, ◌∙◌, bytes_eq}
use Rattle.std.proofs.lemmas.Bool.{or_right}
use Rattle.protobuf_parse_syntax.specs.Trees.{FileSyntax}
use Rattle.protobuf_parse_model.specs.Descriptors.{Text, FileDescriptor}
use Rattle.protobuf_parse_model.specs.Declarations.{Scope}
use Rattle.protobuf_parse_model.specs.Faults.{Fault}
use Rattle.protobuf_parse_model.specs.Linking.{link_faults}
use Rattle.protobuf_parse_elaboration.specs.FilesByPath.{Trees, among, trees_at}
use Rattle.protobuf_parse_elaboration.specs.OptionSets.{OptionSet, option_sets}
use Rattle.protobuf_parse_elaboration.proofs.Orders.{first-among}
use Rattle.protobuf_parse_options.specs.CustomFaults.{custom_statement_faults, custom_option_faults}
use Rattle.protobuf_parse_options.specs.CustomOptions.{scope_of}
use Rattle.protobuf_parse_options.specs.DescriptorsByPath.{Environments, described_at}
use Rattle.protobuf_parse_options.specs.DescriptorsByPath.{descriptors_at}
use Rattle.protobuf_parse_options.specs.DescriptorsByPath.{HasFileScopes, AreWithin}
use Rattle.protobuf_parse_wire.specs.Encoded.{encoded}
use Rattle.protobuf_parse_wire.specs.Law.{said}
use Rattle.protobuf_parse_options.specs.MoreFiles.{KeepsLookups, KeepsMeaning}
use Rattle.protobuf_parse_options.specs.OptionFields.{OptionScope, options_message}
use Rattle.protobuf_parse_wire.specs.Reading.{reader}
use Rattle.protobuf_parse_options.specs.Recovery.{plainly, plain_at, AreReachedFiles}
use Rattle.protobuf_parse_options.specs.Recovery.{OptionsAreRecoveredAbove}
use Rattle.protobuf_parse_wire.specs.Trees.{Entries}
use Rattle.protobuf_parse_options.proofs.KeptLookups.{lookups_keep_meaning}
use Rattle.protobuf_parse_options.proofs.MoreFiles.{lookups_kept}
use Rattle.protobuf_parse_options.proofs.OptionBytes.{none_of}
use Rattle.protobuf_parse_options.proofs.Recovery.{options_are_recovered}
use Rattle.protobuf_parse_options.proofs.Sound.{text_sound, package_named}
use Rattle.protobuf_parse_options.proofs.Writable.{no_left, no_right}
use Rattle.protobuf_parse_options.proofs.Refusing.{unless_none}
use Rattle.protobuf_parse_options.specs.CustomOptions.{denotes}
use Rattle.std.proofs.Common.{sym, ℕ}

-- ---- lists

-- two ways to join lists that agree on the paths of a list do so on paths among these
agree_within : {A : Type 0} (g h : Text → List A) (all : List Text)
    → ((p : Text) → among p all ≡ true → g p ≡ h p) → (paths : List Text) → AreWithin paths all
    → flat_map g paths ≡ flat_map h paths
agree_within g h all each [] within = refl
agree_within g h all each (p ∷ paths) within =
    ap (λ xs. xs ++ flat_map g paths) (each p (within p (first-among p paths)))
    ∙ ap (λ xs. h p ++ xs)
    (agree_within g h all each paths (λ q k. within q (or_right (bytes_eq q p) (among q paths) k)))

-- what makes one without faults makes all so
none_each : {A : Type 0} (f g : A → List Fault) → ((x : A) → f x ≡ [] → g x ≡ []) → (xs : List A)
    → flat_map f xs ≡ [] → flat_map g xs ≡ []
none_each f g each [] h = refl
none_each f g each (x ∷ xs) h =
    ap (λ fs. fs ++ flat_map g xs) (each x (no_left (f x) (flat_map f xs) h))
    ∙ none_each f g each xs (no_right (f x) (flat_map f xs) h)

-- ---- the trees of some paths alone

module _ (trees : Trees) (paths : List Text) where
  abbrev only : Trees
  only = λ p. cond (among p paths) (trees p) None

  only_at : (p : Text) → among p paths ≡ true → only p ≡ trees p
  only_at p h = ap (λ (b : Bool). cond b (trees p) None) h

  only_some : (p : Text) (t : FileSyntax) → only p ≡ Some t
      → (among p paths ≡ true) × (trees p ≡ Some t)
  only_some p t h = by (among p paths) refl h
    where
      by : (b : Bool) → among p paths ≡ b → cond b (trees p) None ≡ Some t
          → (among p paths ≡ true) × (trees p ≡ Some t)
      by true e k = (e, k)
      by false e k = absurd cc

  descriptors_only : (env : Environments) (some : List Text) → AreWithin some paths
      → descriptors_at only env some ≡ descriptors_at trees env some
  descriptors_only env some within =
      agree_within (λ (p : Text). map (described_at env p) (option_to_list (only p)))
      (λ (p : Text). map (described_at env p) (option_to_list (trees p))) paths
      (λ p h. ap (λ (o : Option FileSyntax). map (described_at env p) (option_to_list o))
      (only_at p h)) some within

  trees_only : trees_at only paths ≡ trees_at trees paths
  trees_only = agree_within (λ (p : Text). option_to_list (only p))
      (λ (p : Text). option_to_list (trees p)) paths
      (λ p h. ap (λ (o : Option FileSyntax). option_to_list o) (only_at p h)) paths (λ p h. h)

-- ---- the law

module _ (trees : Trees) (sees : Text → List Text) (reached more : List Text)
    (r : AreReachedFiles trees sees more) (within : AreWithin reached more) where
  scopes : HasFileScopes (only trees more) (plainly trees sees)
  scopes = record {
    scope = λ p t e. refl;
    package_name = λ p t e.
        let is = only_some trees more p t e in
        let text = r.texts p t is.0 is.1 in
        package_named t (text_sound text.0 t text.1);
  }

  -- by these descriptors
  abbrev by_files : List FileDescriptor → Scope → List FileDescriptor → OptionScope
  by_files visible scope files = record { files = files; visible = visible; scope = scope }

  keeps : (visible : List FileDescriptor) (scope : Scope)
      → KeepsLookups (by_files visible scope (plain_at trees sees reached))
      (by_files visible scope (plain_at trees sees more))
  keeps visible scope =
      let env : Environments = plainly trees sees in
      let bare : List FileDescriptor = descriptors_at (only trees more) env reached in
      subst (λ (fs : List FileDescriptor). KeepsLookups (by_files visible scope fs)
      (by_files visible scope (plain_at trees sees more))) (descriptors_only trees more env
      reached within)
      (subst (λ (fs : List FileDescriptor). KeepsLookups (by_files visible scope bare)
      (by_files visible scope fs)) (descriptors_only trees more env more (λ p h. h))
      (lookups_kept (only trees more) env scopes reached more within
      (ap link_faults (trees_only trees more) ∙ r.once) visible scope))

  keeps_set : (visible : List FileDescriptor) (s : OptionSet)
      → custom_statement_faults (scope_of (plain_at trees sees reached) visible s) s.construct
      s.statements
      ≡ [] → KeepsMeaning (scope_of (plain_at trees sees reached) visible s)
      (scope_of (plain_at trees sees more) visible s) s.construct s.statements
  keeps_set visible s clean =
      lookups_keep_meaning (scope_of (plain_at trees sees reached) visible s)
      (scope_of (plain_at trees sees more) visible s)
      (keeps visible s.scope) s.construct s.statements clean

pub options_are_recovered_above : OptionsAreRecoveredAbove
options_are_recovered_above trees sees reached more p t s r within listed has_tree none stands has
    short =
    let files : List FileDescriptor = plain_at trees sees reached in
    let all : List FileDescriptor = plain_at trees sees more in
    let visible : List FileDescriptor = plain_at trees sees (sees p) in
    let was : OptionSet → List Fault = λ x.
    custom_statement_faults (scope_of files visible x) x.construct x.statements in
    let still : OptionSet → List Fault = λ x.
    custom_statement_faults (scope_of all visible x) x.construct x.statements in
    let clean : custom_option_faults all visible t
    ≡ [] = none_each was still
    (λ x h. (keeps_set trees sees reached more r within visible x h).faultless)
    (option_sets t) none in
    let kept = keeps_set trees sees reached more r within visible s
    (none_of was (option_sets t) s stands none) in
    let at = scope_of files visible s in
    let above = scope_of all visible s in
    let spelled = unless_none (custom_statement_faults at s.construct s.statements) _
    (none_of was (option_sets t) s stands none) in
    let spelled_above = unless_none (custom_statement_faults above s.construct s.statements) _
    kept.faultless in
    let read = subst (λ (bs : List ℕ). length bs < 2 ^ 64
    → reader all (options_message s.construct) bs
    ≡ Ok (said (denotes above s.construct s.statements))) spelled_above
    (options_are_recovered trees sees more p t s r listed has_tree clean stands has) in
    subst (λ (bs : List ℕ). length bs < 2 ^ 64
    → reader all (options_message s.construct) bs
    ≡ Ok (said (denotes at s.construct s.statements))) (sym spelled)
    (subst (λ (es : Entries). length (encoded es) < 2 ^ 64
    → reader all (options_message s.construct) (encoded es) ≡ Ok (said es)) kept.same read) short
