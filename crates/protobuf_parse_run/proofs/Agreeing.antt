-- Two runs that agree on the files that a file reaches: the file is alike in both.
use Rattle.std.proofs.Common.{◌≡◌, Bool, true, inl, inr, List, [], ◌∷◌, ◌++◌, Option, Some, None}
use Rattle.std.proofs.Common.{refl}
use Rattle.std.proofs.Common.{sym, ◌∙◌, ap, subst}
use Rattle.std.specs.Prelude.{map, option_to_list}
use Rattle.protobuf_parse_lexer.specs.declared.lexer.token.Place.{Place}
use Rattle.protobuf_parse_syntax.specs.Trees.{FileSyntax}
use Rattle.protobuf_parse_model.specs.Descriptors.{Text, FileDescriptor}
use Rattle.protobuf_parse_model.specs.Declarations.{DeclaredType, file_scope}
use Rattle.protobuf_parse_model.specs.Environment.{Customs, Environment, no_customs}
use Rattle.protobuf_parse_model.specs.Faults.{Among, Fault}
use Rattle.protobuf_parse_model.specs.Linking.{before_others, declares_name, link_faults}
use Rattle.protobuf_parse_elaboration.specs.FileDescriptor.{environment, file_faults, file_of}
use Rattle.protobuf_parse_elaboration.specs.FilesByPath.{AreDistinct, AreJust, leads, stays}
use Rattle.protobuf_parse_elaboration.specs.FilesByPath.{trees_at}
use Rattle.protobuf_parse_elaboration.proofs.Orders.{SameMembers, first-among, just-same, link-none}
use Rattle.protobuf_parse_elaboration.proofs.Orders.{link-told, types-same}
use Rattle.protobuf_parse_options.specs.OptionBytes.{customs_by_files}
use Rattle.protobuf_parse_run.specs.Walks.{Trees, Reaches, HandsOn, Sees, sees_itself, by_import}
use Rattle.protobuf_parse_run.specs.Walks.{among, import_paths}
use Rattle.protobuf_parse_run.specs.Repeats.{declaring, repeat_faults, repeat_place, told_at}
use Rattle.protobuf_parse_run.specs.Run.{Files, HasTrees, HaveTrees, IsTree, customs_of}
use Rattle.protobuf_parse_run.specs.Run.{environment_of, faults_at, plains_at, text_for}
use Rattle.protobuf_parse_run.specs.PlainRuns.{plain_of}
use Rattle.protobuf_parse_run.specs.Stability.{AgreeOn, DeclaresOnce, IsAlike, WereRead}
use Rattle.protobuf_parse_run.proofs.Keeping.{or_right}
use Rattle.protobuf_parse_run.proofs.Knowing.{public-imported, sees-reaches}
use Rattle.protobuf_parse_run.proofs.Reordering.{customs-same, packages-have}
use Rattle.protobuf_parse_run.proofs.Repeating.{AreAlike, among-path, kept, kept-from, none-of}
use Rattle.protobuf_parse_run.proofs.Repeating.{path-among, repeat_place-same, told-same}
use Rattle.protobuf_parse_run.proofs.Spelling.{others, others_by, told_by}
use Rattle.protobuf_parse_run.proofs.FirstFaults.{told-after, told-before, which-told}

-- ** what is reached and seen

reaches-to : (old new : Trees) (p q : Text) → AgreeOn (Reaches old p) old new → Reaches old p q
    → Reaches new p q
reaches-to old new p q agree (stays _) = stays p
reaches-to old new p q agree (leads _ m _ t is a rest) = leads p m q t (agree p (stays p) ∙ is) a
    (reaches-to old new m q (λ r h. agree r (leads p m r t is a h)) rest)

pub reaches-from : (old new : Trees) (p q : Text) → AgreeOn (Reaches old p) old new
    → Reaches new p q → Reaches old p q
reaches-from old new p q agree (stays _) = stays p
reaches-from old new p q agree (leads _ m _ t is a rest) =
    let before : old p ≡ Some t = sym (agree p (stays p)) ∙ is in
    leads p m q t before a (reaches-from old new m q (λ r h. agree r (leads p m r t before a h))
    rest)

hands-to : (old new : Trees) (p q : Text) → AgreeOn (Reaches old p) old new → HandsOn old p q
    → HandsOn new p q
hands-to old new p q agree (stays _) = stays p
hands-to old new p q agree (leads _ m _ t is a rest) = leads p m q t (agree p (stays p) ∙ is) a
    (hands-to old new m q (λ r h. agree r (leads p m r t is (public-imported m t a) h)) rest)

sees-to : (old new : Trees) (p q : Text) → AgreeOn (Reaches old p) old new → Sees old p q
    → Sees new p q
sees-to old new p q agree (sees_itself _) = sees_itself p
sees-to old new p q agree (by_import _ m _ t is a rest) = by_import p m q t
    (agree p (stays p) ∙ is) a (hands-to old new m q (λ r h. agree r (leads p m r t is a h)) rest)

pub reaches-on : (trees : Trees) (p q r : Text) → Reaches trees p q → Reaches trees q r
    → Reaches trees p r
reaches-on trees p q r (stays _) h = h
reaches-on trees p q r (leads _ m _ t is a rest) h =
    leads p m r t is a (reaches-on trees m q r rest h)

-- they agree the other way round
pub agree-back : (old new : Trees) (p : Text) → AgreeOn (Reaches old p) old new
    → AgreeOn (Reaches new p) new old
agree-back old new p agree q h = sym (agree q (reaches-from old new p q agree h))

-- the trees of paths on which they agree
trees-alike : (old new : Trees) (ps : List Text) → AgreeOn (λ q. among q ps ≡ true) old new
    → trees_at new ps ≡ trees_at old ps
trees-alike old new [] agree = refl
trees-alike old new (p ∷ ps) agree =
    ap (λ (o : Option FileSyntax). option_to_list o ++ trees_at new ps)
    (agree p (first-among p ps))
    ∙ ap (λ (ts : List FileSyntax). option_to_list (old p) ++ ts)
    (trees-alike old new ps (λ q h. agree q (or_right _ _ h)))

-- the descriptors of files that are alike
plains-alike : (old new : Files) (ps : List Text)
    → ((q : Text) (u : FileSyntax) → among q ps ≡ true → plain_of new q u ≡ plain_of old q u)
    → AgreeOn (λ q. among q ps ≡ true) old.trees new.trees → plains_at new ps ≡ plains_at old ps
plains-alike old new [] same agree = refl
plains-alike old new (p ∷ ps) same agree =
    ap (λ (o : Option FileSyntax). map (plain_of new p) (option_to_list o) ++ plains_at new ps)
    (agree p (first-among p ps))
    ∙ (ap (λ (ds : List FileDescriptor). ds ++ plains_at new ps)
    (one (old.trees p))
    ∙ ap (λ (ds : List FileDescriptor). map (plain_of old p) (option_to_list (old.trees p)) ++ ds)
    (plains-alike old new ps (λ q u h. same q u (or_right _ _ h))
    (λ q h. agree q (or_right _ _ h))))
  where
    one : (o : Option FileSyntax)
        → map (plain_of new p) (option_to_list o) ≡ map (plain_of old p) (option_to_list o)
    one None = refl
    one (Some u) = ap (λ (d : FileDescriptor). d ∷ []) (same p u (first-among p ps))

-- ** the files that it sees

module _ (old new : Files) (p : Text) (was : WereRead old) (is : WereRead new)
    (agree : AgreeOn (Reaches old.trees p) old.trees new.trees) where
  seen-again : AreJust (Sees old.trees p) (new.seen p)
  seen-again = record {
    once = (is.listed.sees p).once;
    only = λ q h. sees-to new.trees old.trees p q (agree-back old.trees new.trees p agree)
        ((is.listed.sees p).only q h);
    all = λ q h. (is.listed.sees p).all q (sees-to old.trees new.trees p q agree h);
  }

  same-sight : SameMembers (old.seen p) (new.seen p)
  same-sight = just-same (Sees old.trees p) (old.seen p) (new.seen p) (was.listed.sees p) seen-again

  sight-is : trees_at new.trees (new.seen p) ≡ trees_at old.trees (new.seen p)
  sight-is = trees-alike old.trees new.trees (new.seen p)
      (λ q h. agree q (sees-reaches old.trees p q (seen-again.only q h)))

  abbrev sees_types : FileSyntax → Customs → (Text → Option DeclaredType) → Environment
  sees_types t c types =
      record { syntax = t.syntax; types = types; scope = file_scope t; customs = c }

  -- within a reach in which no name is declared twice it sees the same types
  same-types : (reached : List Text) → AreDistinct reached
      → ((q : Text) → Reaches old.trees p q → among q reached ≡ true)
      → link_faults (trees_at old.trees reached) ≡ [] → (c : Customs) (t : FileSyntax)
      → environment (trees_at new.trees (new.seen p)) c t
      ≡ environment (trees_at old.trees (old.seen p)) c t
  same-types reached once all none c t =
      ap (λ (ts : List FileSyntax). environment ts c t) sight-is
      ∙ sym (ap (sees_types t c)
      (types-same old.trees reached (old.seen p) (new.seen p) once same-sight
      (λ q m. all q (sees-reaches old.trees p q ((was.listed.sees p).only q m))) none))

-- ** the files that it reaches

module _ (old new : Files) (p : Text) (was : WereRead old) (is : WereRead new)
    (agree : AgreeOn (Reaches old.trees p) old.trees new.trees) where
  reached-again : AreJust (Reaches old.trees p) (new.reached p)
  reached-again = record {
    once = (is.listed.reaches p).once;
    only = λ q h. reaches-from old.trees new.trees p q agree ((is.listed.reaches p).only q h);
    all = λ q h. (is.listed.reaches p).all q (reaches-to old.trees new.trees p q agree h);
  }

  same-reach : SameMembers (old.reached p) (new.reached p)
  same-reach = just-same (Reaches old.trees p) (old.reached p) (new.reached p)
      (was.listed.reaches p) reached-again

-- ** faults and descriptors

module _ (old new : Files) (p : Text) (was : WereRead old) (is : WereRead new)
    (agree : AgreeOn (Reaches old.trees p) old.trees new.trees) where
  abbrev again : AreJust (Reaches old.trees p) (new.reached p)
  again = reached-again old new p was is agree

  abbrev same : SameMembers (old.reached p) (new.reached p)
  same = same-reach old new p was is agree

  reach-is : trees_at new.trees (new.reached p) ≡ trees_at old.trees (new.reached p)
  reach-is = trees-alike old.trees new.trees (new.reached p)
      (λ q h. agree q (again.only q h))

  abbrev linked : List Fault
  linked = link_faults (trees_at old.trees (old.reached p))

  abbrev relinked : List Fault
  relinked = link_faults (trees_at new.trees (new.reached p))

  relinked-is : relinked ≡ link_faults (trees_at old.trees (new.reached p))
  relinked-is = ap link_faults reach-is

  link-stays : (f : Fault) → Among linked f → Among relinked f
  link-stays f m = subst (λ (fs : List Fault). Among fs f) (sym relinked-is)
      (link-told old.trees (old.reached p) (new.reached p) f (was.listed.reaches p).once
      (is.listed.reaches p).once same m)

  once-again : linked ≡ [] → relinked ≡ []
  once-again none = relinked-is ∙ link-none old.trees (old.reached p) (new.reached p)
      (was.listed.reaches p).once (is.listed.reaches p).once same none

  -- a file that it reaches sees the same types
  same-at : linked ≡ [] → (q : Text) → Reaches old.trees p q → (c : Customs) (t : FileSyntax)
      → environment (trees_at new.trees (new.seen q)) c t
      ≡ environment (trees_at old.trees (old.seen q)) c t
  same-at none q reached c t =
      same-types old new q was is (λ r h. agree r (reaches-on old.trees p q r reached h))
      (old.reached p) (was.listed.reaches p).once
      (λ r h. (was.listed.reaches p).all r (reaches-on old.trees p q r reached h)) none c t

  -- and has the same descriptor without its custom options
  plains-same : linked ≡ [] → (ps : List Text)
      → ((q : Text) → among q ps ≡ true → Reaches old.trees p q)
      → plains_at new ps ≡ plains_at old ps
  plains-same none ps reached = plains-alike old new ps
      (λ q u h. ap (λ (env : Environment). file_of env q u)
      (same-at none q (reached q h) no_customs u))
      (λ q h. agree q (reached q h))

  same-customs : linked ≡ [] → customs_of new p ≡ customs_of old p
  same-customs none =
      let sight = seen-again old new p was is agree in
      let within : (q : Text) → among q (old.seen p) ≡ true → among q (old.reached p) ≡ true =
      λ q m. (was.listed.reaches p).all q
      (sees-reaches old.trees p q ((was.listed.sees p).only q m)) in
      ap (λ ds. customs_by_files ds (plains_at new (new.seen p)))
      (plains-same none (new.reached p) again.only)
      ∙ ap (λ ds. customs_by_files (plains_at old (new.reached p)) ds)
      (plains-same none (new.seen p)
      (λ q m. sees-reaches old.trees p q (sight.only q m)))
      ∙ sym (customs-same old (old.reached p) (new.reached p) (old.seen p) (new.seen p)
      (packages-have old.bundled old.reads old.trees was.trees) same
      (same-sight old new p was is agree) within none)

  module _ (t : FileSyntax) where
    pub becomes-same : DeclaresOnce old p
        → file_of (environment_of new p t) p t ≡ file_of (environment_of old p t) p t
    becomes-same none =
        ap (λ (env : Environment). file_of env p t)
        (same-at none p (stays p) (customs_of new p) t)
        ∙ ap (λ (c : Customs).
        file_of (environment (trees_at old.trees (old.seen p)) c t) p t) (same-customs none)

    others-same : linked ≡ [] → others new p t ≡ others old p t
    others-same none =
        ap (λ (env : Environment).
        before_others (file_faults env t) (told_by (customs_of new p) t))
        (same-at none p (stays p) no_customs t)
        ∙ ap (λ (c : Customs). others_by (trees_at old.trees (old.seen p)) c t)
        (same-customs none)

    -- ** where names are told that are declared twice

    -- a file that is imported reaches the same files
    reaches-alike : old.trees p ≡ Some t → (q : Text) → among q (import_paths t) ≡ true
        → (x y : Text) → x ≡ y → among x (old.reached q) ≡ among y (new.reached q)
    reaches-alike at q i x y e =
        let on : Reaches old.trees p q = leads p q q t at i (stays q) in
        same-reach old new q was is (λ r h. agree r (reaches-on old.trees p q r on h)) x
        ∙ ap (λ (z : Text). among z (new.reached q)) e

    -- the same files declare a name
    declared-alike : (extension : Bool) (name : Text)
        → AreAlike (λ (x : Text) y. x ≡ y) (declaring old.trees extension name (old.reached p))
        (declaring new.trees extension name (new.reached p))
    declared-alike extension name = record {
      into = λ x h.
          let k = kept-from (λ (z : Text). declares_name extension name (old.trees z))
          (old.reached p) h in
          let m = among-path (old.reached p) k.0 in (
            x,
            kept (λ (z : Text). declares_name extension name (new.trees z)) (new.reached p)
                (path-among (new.reached p) x (sym (same x) ∙ m))
                (ap (declares_name extension name) (agree x ((was.listed.reaches p).only x m))
                ∙ k.1),
            refl,
          );
      back = λ x h.
          let k = kept-from (λ (z : Text). declares_name extension name (new.trees z))
          (new.reached p) h in
          let m = among-path (new.reached p) k.0 in (
            x,
            kept (λ (z : Text). declares_name extension name (old.trees z)) (old.reached p)
                (path-among (old.reached p) x (same x ∙ m))
                (ap (declares_name extension name) (sym (agree x (again.only x m))) ∙ k.1),
            refl,
          );
    }

    abbrev place_in : Files → Bool → Text → Place
    place_in files extension name = repeat_place (λ q r. among r (files.reached q))
        (declaring files.trees extension name (files.reached p)) t extension name

    places-same : old.trees p ≡ Some t → (extension : Bool) (name : Text)
        → place_in old extension name ≡ place_in new extension name
    places-same at extension name =
        repeat_place-same (λ q r. among r (old.reached q)) (λ q r. among r (new.reached q))
        (λ (x : Text) y. x ≡ y) t (reaches-alike at)
        (declaring old.trees extension name (old.reached p))
        (declaring new.trees extension name (new.reached p)) (declared-alike extension name)
        extension name

    abbrev repeats : Files → List Fault
    repeats files = repeat_faults files.trees files.reached p t

    repeats-none : repeats old ≡ [] → linked ≡ []
    repeats-none none = none-of (told_at (place_in old)) linked none

    repeats-again : repeats old ≡ [] → repeats new ≡ []
    repeats-again none = ap (map (told_at (place_in new))) (once-again (repeats-none none))

    faults-some : old.trees p ≡ Some t → (f : Fault) → Among (faults_at old p (Some t)) f
        → Among (faults_at new p (Some t)) f
    faults-some at f m =
        elim (which-told (repeats old) (others old p t) f m) [
          | inl w ↦ told-before (repeats new) (others new p t) f
              (told-same (place_in old) (place_in new) linked relinked f (places-same at)
              link-stays w)
          | inr w ↦ told-after (repeats new) (others new p t) f (repeats-again w.0)
              (subst (λ (fs : List Fault). Among fs f) (sym (others-same (repeats-none w.0))) w.1)
        ]

  faults-at : (o : Option FileSyntax) → old.trees p ≡ o → (f : Fault)
      → Among (faults_at old p o) f → Among (faults_at new p o) f
  faults-at None at f m = m
  faults-at (Some t) at f m = faults-some t at f m

  pub faults-stay : (f : Fault) → Among (faults_at old p (old.trees p)) f
      → Among (faults_at new p (new.trees p)) f
  faults-stay f m = subst (λ (o : Option FileSyntax). Among (faults_at new p o) f)
      (sym (agree p (stays p))) (faults-at (old.trees p) refl f m)

pub alike : (old new : Files) (p : Text) → WereRead old → WereRead new
    → AgreeOn (Reaches old.trees p) old.trees new.trees → IsAlike old new p
alike old new p was is agree = record {
  tree = agree p (stays p);
  stay = faults-stay old new p was is agree;
  only = faults-stay new old p is was (agree-back old.trees new.trees p agree);
  becomes = becomes-same old new p was is agree;
}

-- ** texts

pub same-tree : (old new : Files) (q : Text) → HaveTrees old.bundled old.reads
    → HasTrees old.bundled old.reads old.trees → HasTrees new.bundled new.reads new.trees
    → text_for new q ≡ text_for old q → new.trees q ≡ old.trees q
same-tree old new q have has relates same =
    let there : IsTree (text_for old q) (new.trees q) =
    subst (λ (x : Option Text). IsTree x (new.trees q)) same (relates q) in
    (have.1 q).1 (new.trees q) there ∙ sym ((have.1 q).1 (old.trees q) (has q))
