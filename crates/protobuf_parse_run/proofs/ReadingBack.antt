-- What the descriptors of an accepted run hold of custom options.
use Rattle.std.proofs.Common.{◌≡◌, true, false, Bool, List, [], ◌∷◌, ◌++◌, map, filter}
use Rattle.std.proofs.Common.{Option, Some, Result, Ok, Err, inl, inr, refl, sym, ◌∙◌, ap}
use Rattle.std.proofs.Common.{subst, ◌||◌}
use Rattle.std.specs.Prelude.{bytes_eq, option_to_list}
use Rattle.std.specs.Global.{Vec}
use Rattle.protobuf_parse_syntax.specs.Trees.{FileSyntax, OptionSyntax}
use Rattle.protobuf_parse_model.specs.Descriptors.{Text, FileDescriptor, file_view}
use Rattle.protobuf_parse_model.specs.Faults.{Among, here, there}
use Rattle.protobuf_parse_model.specs.declared.descriptor.FileDescriptorProto.{FileDescriptorProto}
use Rattle.protobuf_parse_elaboration.specs.FileDescriptor.{file_of}
use Rattle.protobuf_parse_elaboration.specs.FilesByPath.{AreDistinct, among, trees_at}
use Rattle.protobuf_parse_elaboration.specs.OptionSets.{OptionSet, option_sets}
use Rattle.protobuf_parse_options.specs.DescriptorsByPath.{AreWithin, described_at}
use Rattle.protobuf_parse_options.specs.CustomOptions.{denotes, scope_of}
use Rattle.protobuf_parse_options.specs.OptionFields.{options_message}
use Rattle.protobuf_parse_options.specs.Recovery.{HasCustom, HaveDistinctNumbers}
use Rattle.protobuf_parse_wire.specs.Law.{said}
use Rattle.protobuf_parse_wire.specs.Reading.{reader}
use Rattle.protobuf_parse_wire.specs.Trees.{Entries}
use Rattle.protobuf_parse_wire.specs.Wire.{Spells}
use Rattle.protobuf_parse_run.specs.Walks.{Input}
use Rattle.protobuf_parse_run.specs.Run.{AreDescriptors, Files, Legal, RunsAsTold, customs_of}
use Rattle.protobuf_parse_run.specs.Run.{environment_of}
use Rattle.protobuf_parse_run.specs.Recovered.{handed_out, bytes_in}
use Rattle.protobuf_parse_run.specs.ReadBack.{HasReadableOptions, IsReadable, OptionsAreReadable}
use Rattle.protobuf_parse_run.specs.ReadBack.{bears, descriptors_of}
use Rattle.protobuf_parse_run.specs.Stability.{IsClean, IsFileOfRun, WereRead, order}
use Rattle.protobuf_parse_run.specs.StandingBytes.{IsStated, held_in_file}
use Rattle.protobuf_parse_run.specs.declared.fault.RunFault.{RunFault}
use Rattle.protobuf_parse_run.specs.declared.log.ReadEntry.{ReadEntry}
use Rattle.protobuf_parse_run.proofs.HeldBytes.{options_stand}
use Rattle.protobuf_parse_run.proofs.Keeping.{bool_cases, false_true, some_same}
use Rattle.protobuf_parse_run.proofs.Keeping.{or_left, or_right, text-same, text-true}
use Rattle.protobuf_parse_run.proofs.Knowing.{sees-reaches}
use Rattle.protobuf_parse_run.proofs.Ordering.{none-comes-twice}
use Rattle.protobuf_parse_run.proofs.Recovering.{holds-options, reached-file}

-- a construct with a custom option has a statement
stated : (s : OptionSet) → HasCustom s.statements → IsStated s
stated s custom none = no-one s.statements custom.0 custom.1 none
  where
    no-one : (os : List OptionSyntax) (o : OptionSyntax) → Among os o → os ≡ [] → ⊥
    no-one [] o a e = elim a [ ]
    no-one (x ∷ os) o a e = cc

-- the descriptors that bear a path
abbrev borne : Text → List FileDescriptor → List FileDescriptor
borne p ds = filter (λ (d : FileDescriptor). bears p d.name) ds

module _ (files : Files) where
  -- what the file of a path becomes, where it has a tree
  abbrev becomes : Text → List FileDescriptor
  becomes p = map (described_at (environment_of files) p) (option_to_list (files.trees p))

  -- a path that is none of these is borne by none
  none-borne : (p : Text) (paths : List Text) (ds : List FileDescriptorProto)
      → AreDescriptors files paths ds → among p paths ≡ false
      → borne p (map file_view ds) ≡ []
  none-borne p [] [] h none = refl
  none-borne p [] (d ∷ ds) h none = absurd h
  none-borne p (q ∷ paths) [] h none = absurd h
  none-borne p (q ∷ paths) (d ∷ ds) h none =
      let other : bytes_eq p q ≡ false = left-false (bytes_eq p q) (among p paths) none in
      let rest = right-false (bytes_eq p q) (among p paths) none in
      let passed : bears p (file_view d).name ≡ false =
      ap (λ (f : FileDescriptor). bears p f.name) h.0.2 ∙ other in
      rw (passed, none-borne p paths ds h.1 rest) refl
    where
      left-false : (a b : Bool) → (a || b) ≡ false → a ≡ false
      left-false true b e = absurd cc
      left-false false b e = refl

      right-false : (a b : Bool) → (a || b) ≡ false → b ≡ false
      right-false true b e = absurd cc
      right-false false b e = e

  -- one of these is borne by what its file becomes alone
  one-borne : (p : Text) (paths : List Text) (ds : List FileDescriptorProto)
      → AreDescriptors files paths ds → AreDistinct paths → among p paths ≡ true
      → borne p (map file_view ds) ≡ becomes p
  one-borne p [] ds h once m = absurd (false_true m)
  one-borne p (q ∷ paths) [] h once m = absurd h
  one-borne p (q ∷ paths) (d ∷ ds) h once m =
      elim (bool_cases (bytes_eq p q)) [
        | inl w ↦
            let is : p ≡ q = text-true p q w in
            let test : bears p (file_view d).name ≡ true =
            ap (λ (f : FileDescriptor). bears p f.name) h.0.2 ∙ w in
            let none = none-borne p paths ds h.1
            (subst (λ (t : Text). among t paths ≡ false) (sym is) once.0) in
            let made : becomes p ≡ file_view d ∷ [] =
            ap becomes is
            ∙ ap (λ (o : Option FileSyntax).
            map (described_at (environment_of files) q) (option_to_list o)) h.0.1
            ∙ ap (λ (f : FileDescriptor). f ∷ []) (sym h.0.2) in
            rw (test, none) (sym made)
        | inr w ↦
            let test : bears p (file_view d).name ≡ false =
            ap (λ (f : FileDescriptor). bears p f.name) h.0.2 ∙ w in
            rw test
            (one-borne p paths ds h.1 once.1 (later (bytes_eq p q) (among p paths) w m))
      ]
    where
      later : (a b : Bool) → a ≡ false → (a || b) ≡ true → b ≡ true
      later true b e h = absurd cc
      later false b e h = h

  -- so the descriptors that bear some of the paths are what the files of these become
  all-borne : (run : List Text) (ds : List FileDescriptorProto) → AreDescriptors files run ds
      → AreDistinct run → (paths : List Text) → AreWithin paths run
      → descriptors_of (map file_view ds) paths ≡ handed_out files paths
  all-borne run ds h once [] within = refl
  all-borne run ds h once (p ∷ paths) within =
      rw (
        one-borne p run ds h once (within p (or_left _ _ (text-same p))),
        all-borne run ds h once paths (λ q m. within q (or_right _ _ m)),
      ) refl

  -- what is handed out is what the files become, in order
  pub handed-are : (paths : List Text) (ds : List FileDescriptorProto)
      → AreDescriptors files paths ds → map file_view ds ≡ handed_out files paths
  handed-are [] [] h = refl
  handed-are [] (d ∷ ds) h = absurd h
  handed-are (p ∷ paths) [] h = absurd h
  handed-are (p ∷ paths) (d ∷ ds) h =
      let made : becomes p ≡ file_view d ∷ [] =
      ap (λ (o : Option FileSyntax).
      map (described_at (environment_of files) p) (option_to_list o)) h.0.1
      ∙ ap (λ (f : FileDescriptor). f ∷ []) (sym h.0.2) in
      ap (λ (rest : List FileDescriptor). file_view d ∷ rest) (handed-are paths ds h.1)
      ∙ ap (λ (front : List FileDescriptor). front ++ handed_out files paths) (sym made)

  -- a descriptor, by the file that became it
  record Became (paths : List Text) (d : FileDescriptor) : Type 0 where
    path : Text
    listed : among path paths ≡ true
    tree : FileSyntax
    has_tree : files.trees path ≡ Some tree
    is : d ≡ file_of (environment_of files path tree) path tree

  became : (paths : List Text) (ds : List FileDescriptorProto) (d : FileDescriptor)
      → AreDescriptors files paths ds → Among (map file_view ds) d → Became paths d
  became [] [] d h a = elim a [ ]
  became [] (x ∷ ds) d h a = absurd h
  became (q ∷ paths) [] d h a = absurd h
  became (q ∷ paths) (x ∷ ds) _ h here =
      record {
        path = q;
        listed = or_left _ _ (text-same q);
        tree = h.0.0;
        has_tree = h.0.1;
        is = h.0.2;
      }
  became (q ∷ paths) (x ∷ ds) d h (there a) =
      let b = became paths ds d h.1 a in
      record {
        path = b.path;
        listed = or_right _ _ b.listed;
        tree = b.tree;
        has_tree = b.has_tree;
        is = b.is;
      }

module _ (files : Files) (inputs : List Input) (clean : IsClean files inputs)
    (read : WereRead files) (handed : List FileDescriptorProto)
    (become : AreDescriptors files (order files.trees inputs) handed) where
  abbrev run : List Text
  run = order files.trees inputs

  abbrev ds : List FileDescriptor
  ds = map file_view handed

  pub within-reach : (p : Text) → IsFileOfRun files.trees inputs p → AreWithin (files.reached p) run
  within-reach p m q h = reached-file files inputs clean read p q m h

  within-sight : (p : Text) → IsFileOfRun files.trees inputs p → AreWithin (files.seen p) run
  within-sight p m q h =
      within-reach p m q
      ((read.listed.reaches p).all q
      (sees-reaches files.trees p q ((read.listed.sees p).only q h)))

  pub reach-is : (p : Text) → IsFileOfRun files.trees inputs p
      → descriptors_of ds (files.reached p) ≡ handed_out files (files.reached p)
  reach-is p m =
      all-borne files run handed become (none-comes-twice files.trees inputs) (files.reached p)
      (within-reach p m)

  sight-is : (p : Text) → IsFileOfRun files.trees inputs p
      → descriptors_of ds (files.seen p) ≡ handed_out files (files.seen p)
  sight-is p m =
      all-borne files run handed become (none-comes-twice files.trees inputs) (files.seen p)
      (within-sight p m)

  -- a file that is handed out by that name is one of the run
  pub is-of-run : (e : FileDescriptor) (q : Text) → Among ds e → e.name ≡ Some q
      → IsFileOfRun files.trees inputs q
  is-of-run e q a named =
      let b = became files run handed e become a in
      let same : b.path ≡ q =
      some_same b.path q (sym (ap (λ (f : FileDescriptor). f.name) b.is) ∙ named) in
      subst (λ (t : Text). among t run ≡ true) same b.listed

  readable : (d : FileDescriptor) (b : Became files run d) (s : OptionSet)
      → Among (option_sets b.tree) s → HasCustom s.statements
      → IsReadable ds files.reached files.seen b.path d s
  readable d b s a custom =
      let p : Text = b.path in
      let m : IsFileOfRun files.trees inputs p = b.listed in
      let holds = holds-options files inputs clean read p b.tree b.has_tree m s a in
      let same = ap (λ (fs : List FileDescriptor). denotes
      (scope_of fs (descriptors_of ds (files.seen p)) s) s.construct s.statements) (reach-is p m)
      ∙ ap (λ (fs : List FileDescriptor). denotes
      (scope_of (handed_out files (files.reached p)) fs s) s.construct s.statements)
      (sight-is p m) in
      record {
        bytes = bytes_in files p s;
        stand = subst (λ (f : FileDescriptor). Among (held_in_file f)
            (record { construct = s.construct; name = s.name; bytes = bytes_in files p s }))
            (sym b.is)
            (options_stand (trees_at files.trees (files.seen p)) (customs_of files p) p b.tree s a
            (stated s custom));
        spelled = subst (λ (es : Entries). Spells es (bytes_in files p s)) (sym same) holds.spelled;
        read = λ e q stands named reaches numbers v is.
            let n = is-of-run e q stands named in
            let by = reach-is q n in
            ap (λ (fs : List FileDescriptor). reader fs (options_message s.construct) v.items) by
            ∙ holds.read custom q n reaches (subst HaveDistinctNumbers by numbers) v is
            ∙ ap (λ (es : Entries). Ok (said es)) (sym same);
      }

  pub readable-options : (d : FileDescriptor) → Among ds d
      → HasReadableOptions ds files.trees files.reached files.seen d
  readable-options d a =
      let b = became files run handed d become a in
      record {
        path = b.path;
        is_named = ap (λ (f : FileDescriptor). f.name) b.is;
        tree = b.tree;
        has_tree = b.has_tree;
        each = readable d b;
      }

pub all-readable : (legal : Legal) (inputs : List Input)
    (bundled : List (Text × Text)) (log : List ReadEntry)
    (result : Result (Vec FileDescriptorProto) RunFault)
    → RunsAsTold legal inputs bundled log result → OptionsAreReadable inputs bundled log result
all-readable legal inputs bundled log (Ok handed) told = λ trees reached seen has listed d a.
    let files : Files = record
    { bundled = bundled; reads = log; trees = trees; reached = reached; seen = seen } in
    let accepted = told trees reached seen has listed in
    readable-options files inputs accepted.none_fails
    (record { trees = has; listed = listed }) handed.items accepted.descriptors d a
all-readable legal inputs bundled log (Err f) told = tt
