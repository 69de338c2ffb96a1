-- What stands for the custom options of an accepted run's files, and what is read back.
use Rattle.std.proofs.Common.{◌≡◌, ℕ, ◌<◌, ◌^◌, true, length, List, [], Option, Some, None, Result}
use Rattle.std.proofs.Common.{Ok, Err, refl, sym, ◌∙◌, ap, subst, arith}
use Rattle.std.specs.Global.{Vec}
use Rattle.protobuf_parse_lexer.specs.Text.{Bytes}
use Rattle.protobuf_parse_syntax.specs.Parsing.{HasTree}
use Rattle.protobuf_parse_syntax.specs.Trees.{FileSyntax}
use Rattle.protobuf_parse_model.specs.Descriptors.{Text}
use Rattle.protobuf_parse_model.specs.Faults.{Among}
use Rattle.protobuf_parse_model.specs.Environment.{no_customs}
use Rattle.protobuf_parse_model.specs.declared.descriptor.FileDescriptorProto.{FileDescriptorProto}
use Rattle.protobuf_parse_elaboration.specs.FileDescriptor.{environment, file_faults}
use Rattle.protobuf_parse_elaboration.specs.FilesByPath.{among, leads, stays, trees_at}
use Rattle.protobuf_parse_elaboration.specs.OptionSets.{OptionSet, option_sets}
use Rattle.protobuf_parse_options.specs.CustomFaults.{custom_option_faults}
use Rattle.protobuf_parse_options.specs.CustomOptions.{denotes, scope_of}
use Rattle.protobuf_parse_wire.specs.Law.{said}
use Rattle.protobuf_parse_options.specs.OptionFields.{options_message}
use Rattle.protobuf_parse_options.specs.OptionLaw.{HasSmallValues}
use Rattle.protobuf_parse_wire.specs.Reading.{reader}
use Rattle.protobuf_parse_options.specs.Recovery.{AreReachedFiles, HasCustom, HaveDistinctNumbers}
use Rattle.protobuf_parse_wire.specs.Trees.{Entries}
use Rattle.protobuf_parse_wire.specs.Wire.{Spells}
use Rattle.protobuf_parse_options.proofs.Entered.{described}
use Rattle.protobuf_parse_options.proofs.EnumNumbers.{SmallFile, file_small, values_small}
use Rattle.protobuf_parse_options.proofs.OptionBytes.{option_bytes_spell}
use Rattle.protobuf_parse_options.proofs.BareNumbers.{numbers_ignore_options}
use Rattle.protobuf_parse_options.proofs.Recovery.{builtin_options_are_no_bytes}
use Rattle.protobuf_parse_options.proofs.Recovery.{texts_are_not_too_deep}
use Rattle.protobuf_parse_options.proofs.RecoveryAbove.{options_are_recovered_above}
use Rattle.protobuf_parse_options.proofs.Sound.{text_sound}
use Rattle.protobuf_parse_options.proofs.WithoutOptions.{customs_are_options}
use Rattle.protobuf_parse_options.proofs.WithoutOptions.{customs_make_no_difference}
use Rattle.protobuf_parse_options.proofs.WithoutOptions.{meaning_ignores_options}
use Rattle.protobuf_parse_run.specs.Walks.{Input, Reaches}
use Rattle.protobuf_parse_run.specs.Repeats.{repeat_faults}
use Rattle.protobuf_parse_run.specs.Run.{Files, IsTree, Legal, RunsAsTold, environment_of}
use Rattle.protobuf_parse_run.specs.Run.{plains_at, text_read}
use Rattle.protobuf_parse_run.specs.PlainRuns.{plain_environments}
use Rattle.protobuf_parse_run.specs.Recovered.{HoldsOptions, IsReadBack, OptionsAreHeld, bytes_in}
use Rattle.protobuf_parse_run.specs.Recovered.{AreFilesTogether, AreNumberedApart, denoted_in}
use Rattle.protobuf_parse_run.specs.Recovered.{handed_out}
use Rattle.protobuf_parse_run.specs.Stability.{IsClean, IsFileOfRun, WereRead, order}
use Rattle.protobuf_parse_run.specs.declared.fault.RunFault.{RunFault}
use Rattle.protobuf_parse_run.specs.declared.log.ReadEntry.{ReadEntry}
use Rattle.protobuf_parse_run.proofs.Agreeing.{reaches-on}
use Rattle.protobuf_parse_run.proofs.Further.{faultless-file, reached-is}
use Rattle.protobuf_parse_run.proofs.Knowing.{sees-reaches}
use Rattle.protobuf_parse_run.proofs.FirstFaults.{none-after, none-before}
use Rattle.protobuf_parse_run.proofs.Repeating.{once-told}
use Rattle.protobuf_parse_run.proofs.Spelling.{others}

-- a `Vec` has fewer bytes than there are addresses
small-bytes : (bytes : Vec ℕ) → length bytes.items < 2 ^ 64
small-bytes bytes = omega (arith, bytes.ok.0, bytes.ok.1, bytes.small)

module _ (files : Files) (inputs : List Input) (clean : IsClean files inputs)
    (read : WereRead files) where
  -- a file that a file of the run reaches is one of the run
  pub reached-file : (p q : Text) → IsFileOfRun files.trees inputs p → among q (files.reached p)
      ≡ true
      → IsFileOfRun files.trees inputs q
  reached-file p q m h = reached-is files inputs clean p q ((read.listed.reaches p).only q h) m

  -- in which no fault stands
  no-others : (q : Text) (u : FileSyntax) → files.trees q ≡ Some u
      → IsFileOfRun files.trees inputs q
      → others files q u ≡ []
  no-others q u at h = none-after (repeat_faults files.trees files.reached q u)
      (others files q u) (faultless-file files inputs clean q u at h)

  pub own-faultless : (q : Text) (u : FileSyntax) → files.trees q ≡ Some u
      → IsFileOfRun files.trees inputs q
      → file_faults (environment (trees_at files.trees (files.seen q)) no_customs u) u ≡ []
  own-faultless q u at h = none-before
      (file_faults (environment (trees_at files.trees (files.seen q)) no_customs u) u) _
      (no-others q u at h)

  options-faultless : (q : Text) (u : FileSyntax) → files.trees q ≡ Some u
      → IsFileOfRun files.trees inputs q
      → custom_option_faults (plains_at files (files.reached q)) (plains_at files (files.seen q)) u
      ≡ []
  options-faultless q u at h = none-after
      (file_faults (environment (trees_at files.trees (files.seen q)) no_customs u) u) _
      (no-others q u at h)

  text-at : (q : Text) (u : FileSyntax) → files.trees q ≡ Some u → (text : Bytes) × HasTree text u
  text-at q u at = of (text_read files.bundled files.reads q)
      (subst (λ (o : Option FileSyntax). IsTree (text_read files.bundled files.reads q) o) at
      (read.trees q))
    where
      of : (text : Option Bytes) → IsTree text (Some u) → (bytes : Bytes) × HasTree bytes u
      of (Some text) h = (text, h.1)
      of None h = absurd h

  -- by the descriptors without custom options numbers are distinct, too
  plain-numbers : (by_files : List Text) → AreNumberedApart files by_files
      → HaveDistinctNumbers (plains_at files by_files)
  plain-numbers by_files =
      numbers_ignore_options (handed_out files by_files) (plains_at files by_files)
      (customs_are_options files.trees (environment_of files) (plain_environments files) by_files
      (λ q u. refl))

  -- files of the run, with all that each of them reaches
  are-together : (by_files : List Text) → AreFilesTogether files (order files.trees inputs) by_files
      → AreNumberedApart files by_files → AreReachedFiles files.trees files.seen by_files
  are-together by_files h numbers = record {
    texts = λ r v k at. text-at r v at;
    sight = λ r k x seen. h.whole r k x ((read.listed.reaches r).all x
        (sees-reaches files.trees r x ((read.listed.sees r).only x seen)));
    once = h.once;
    faultless = λ r v k at. own-faultless r v at (h.of_run r k);
    numbers = plain-numbers by_files numbers;
  }

  -- a file of the run, and all that it reaches
  reached-together : (q : Text) (u : FileSyntax) → files.trees q ≡ Some u
      → IsFileOfRun files.trees inputs q
      → AreFilesTogether files (order files.trees inputs) (files.reached q)
  reached-together q u is m = record {
    of_run = λ r h. reached-file q r m h;
    whole = λ r h x k. (read.listed.reaches q).all x
        (reaches-on files.trees q r x ((read.listed.reaches q).only r h)
        ((read.listed.reaches r).only x k));
    once = once-told files q u (others files q u) (faultless-file files inputs clean q u is m);
  }

  -- enums' values have 32 bits, as the grammar says
  small : (p : Text) → HasSmallValues (plains_at files (files.reached p))
  small p = values_small (plains_at files (files.reached p)) (λ file h.
      let d = described files.trees (plain_environments files) (files.reached p) file h in
      let text = text-at d.path d.tree d.has_tree in
      subst SmallFile d.is (file_small (plain_environments files d.path d.tree) d.path d.tree
      (text_sound text.0 d.tree text.1)))

  module _ (p : Text) (t : FileSyntax) (is : files.trees p ≡ Some t)
      (m : IsFileOfRun files.trees inputs p) (s : OptionSet)
      (stands : Among (option_sets t) s) where
    abbrev reached : List Text
    reached = files.reached p

    abbrev seen : List Text
    seen = files.seen p

    -- custom options make no difference to what is denoted
    same : denoted_in files p s
        ≡ denotes (scope_of (plains_at files reached) (plains_at files seen) s) s.construct
        s.statements
    same = meaning_ignores_options (handed_out files reached) (plains_at files reached)
        (handed_out files seen) (plains_at files seen)
        (customs_are_options files.trees (environment_of files) (plain_environments files) reached
        (λ q u. refl))
        (customs_are_options files.trees (environment_of files) (plain_environments files) seen
        (λ q u. refl))
        s.scope s.construct s.statements

    -- a file that reaches it has a tree
    tree-of : (q : Text) → Reaches files.trees q p → (u : FileSyntax) × (files.trees q ≡ Some u)
    tree-of q (stays _) = (t, is)
    tree-of q (leads _ r _ u at a rest) = (u, at)

    read-together : HasCustom s.statements → (by_files : List Text)
        → AreFilesTogether files (order files.trees inputs) by_files → among p by_files ≡ true
        → AreNumberedApart files by_files → IsReadBack files by_files p s
    read-together custom by_files h listed numbers bytes held =
        let alike = customs_make_no_difference files.trees (environment_of files)
        (plain_environments files) by_files seen (λ r v. refl) in
        let short = subst (λ (bs : Text). length bs < 2 ^ 64) held (small-bytes bytes) in
        ap (λ (bs : Text). reader (handed_out files by_files) (options_message s.construct) bs)
        held
        ∙ (alike.0 (options_message s.construct) (bytes_in files p s)
        ∙ (options_are_recovered_above files.trees files.seen reached by_files p t s
        (are-together by_files h numbers) (h.whole p listed) listed is
        (options-faultless p t is m) stands custom short
        ∙ sym (ap (λ (es : Entries). Ok (said es)) same)))

    read-back : HasCustom s.statements → (q : Text) → among q (order files.trees inputs) ≡ true
        → among p (files.reached q) ≡ true → AreNumberedApart files (files.reached q)
        → IsReadBack files (files.reached q) p s
    read-back custom q n h =
        let u = tree-of q ((read.listed.reaches q).only p h) in
        read-together custom (files.reached q) (reached-together q u.0 u.1 n) h

    text : (bytes : Bytes) × HasTree bytes t
    text = text-at p t is

    pub holds-options : HoldsOptions files (order files.trees inputs) p s
    holds-options = record {
      spelled = subst (λ (es : Entries). Spells es (bytes_in files p s)) (sym same)
          (option_bytes_spell (plains_at files reached) (plains_at files seen) t (small p)
          (options-faultless p t is m) s stands);
      nothing = builtin_options_are_no_bytes (plains_at files reached) (plains_at files seen) s;
      shallow = texts_are_not_too_deep text.0 t text.1 s stands
          (scope_of (handed_out files reached) (handed_out files seen) s);
      read = read-back;
      read_together = read-together;
    }

pub all-held : (legal : Legal) (inputs : List Input)
    (bundled : List (Text × Text)) (log : List ReadEntry)
    (result : Result (Vec FileDescriptorProto) RunFault)
    → RunsAsTold legal inputs bundled log result → OptionsAreHeld inputs bundled log result
all-held legal inputs bundled log (Ok ds) told = λ trees reached seen has listed p t s m is among.
    let files : Files = record
    { bundled = bundled; reads = log; trees = trees; reached = reached; seen = seen } in
    holds-options files inputs (told trees reached seen has listed).none_fails
    (record { trees = has; listed = listed }) p t is m s among
all-held legal inputs bundled log (Err f) told = tt
