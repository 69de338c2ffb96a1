use Rattle.std.proofs.Common.{ℕ, ◌≡◌, ◌∙◌, ◌++◌, ◌∷◌, [], List, ap, length, refl, subst, sym}
use Rattle.std.specs.Global.{Vec}
use Rattle.std.proofs.lemmas.List.{length-map}
use Rattle.protobuf_parse_base.specs.Multimaps.{values_under}
use Rattle.protobuf_parse_syntax.specs.Trees.{file_syntax}
use Rattle.protobuf_parse_model.specs.Descriptors.{Text}
use Rattle.protobuf_parse_model.specs.Tables.{TableTells}
use Rattle.protobuf_parse_run.specs.declared.loader.LoadedFile.{LoadedFile}
use Rattle.protobuf_parse_run.specs.declared.reach.Held.TheVariants as held_as
use Rattle.protobuf_parse_run.specs.Loaded.{LoadedList}
use Rattle.protobuf_parse_model.specs.declared.scope.seen.Declarations.{Declarations}
use Rattle.protobuf_parse_run.specs.Loading.{AreJoined, LoadedEntry, Named}
use Rattle.protobuf_parse_run.specs.Loading.{named_trees, trees_of, with_next}
use Rattle.protobuf_parse_run.proofs.Numbers.{named-length}
use Rattle.protobuf_parse_check.specs.declared.verdict.Verdict.{Verdict}
use Rattle.protobuf_parse_check.specs.Judging.{GivesVerdict, IsTrimmed}
use Rattle.protobuf_parse_check.proofs.Advancing.{begins-next, next-so-far, own-joined, trees-next}
use Rattle.protobuf_parse_check.proofs.Trimming.{loses-is, loses-public-is, tree-is, trimmed-few}
use Rattle.protobuf_parse_check.proofs.judge.judge_file.Goals as goal

pub verdict_of-requires-clause-few : goal.verdict_of-requires-clause-few
verdict_of-requires-clause-few c =
    trimmed-few _ (file_syntax c.args.file.tree) c.in_ok-tree.field-0 c.in_ok-tree.ensures
    c.requires.few

pub verdict_of-requires-clause-own : goal.verdict_of-requires-clause-own
verdict_of-requires-clause-own c =
    own-joined held_as.Reach c.args.judge.now.loaded.entries c.numbers.result.all.now
    c.in_ok-sights.sights.reach.items c.in_ok-sights.ensures.reach

pub returns-clause-tells : goal.returns-clause-tells
returns-clause-tells c =
    let loaded = c.args.judge.now.loaded.entries in
    let t = file_syntax c.in_ok-tree.field-0.tree in
    let files = trees_of (named_trees loaded) in
    let number : length files ≡ c.len.result = length-map (named_trees loaded) (λ (f : Named). f.1)
    ∙ (named-length loaded ∙ sym c.len.ensures.len) in
    let tells = c.in_ok-add.ensures files number c.requires.tells in
    let entry : LoadedFile = record {
      tree = c.of-kept.result;
      height = 0;
      reach = c.in_ok-sights.sights.reach;
      handed_on = c.in_ok-sights.sights.handed_on;
      read = c.args.file.read;
      descriptor = c.in_ok-descriptor.descriptor;
    } in
    let x : LoadedEntry = (c.args.file.path, entry) in
    subst (λ (names : Declarations). TableTells names
    (trees_of (named_trees c.add-2.new.self.entries))) (sym c.in_ok-descriptor.ensures.names)
    (subst (TableTells c.add.new.self)
    (sym (trees-next loaded c.add-2.new.self.entries x t
    (c.in_ok-add-2.ensures.added
    ∙ ap (λ (l : LoadedList). l.entries ++ x ∷ []) c.in_ok-descriptor.ensures.loaded)
    (ap file_syntax c.of-kept.ensures))) tells)

pub returns-clause-begins : goal.returns-clause-begins
returns-clause-begins c =
    let loaded = c.args.judge.now.loaded.entries in
    let t = file_syntax c.in_ok-tree.field-0.tree in
    let files = trees_of (named_trees loaded) in
    let number : length files ≡ c.len.result = length-map (named_trees loaded) (λ (f : Named). f.1)
    ∙ (named-length loaded ∙ sym c.len.ensures.len) in
    let tells = c.in_ok-add.ensures files number c.requires.tells in
    let entry : LoadedFile = record {
      tree = c.of-kept.result;
      height = 0;
      reach = c.in_ok-sights.sights.reach;
      handed_on = c.in_ok-sights.sights.handed_on;
      read = c.args.file.read;
      descriptor = c.in_ok-descriptor.descriptor;
    } in
    let x : LoadedEntry = (c.args.file.path, entry) in
    begins-next c.verdict_of.new.judge.tables.spots loaded c.add-2.new.self.entries x
    c.in_ok-descriptor.descriptor
    (c.in_ok-add-2.ensures.added
    ∙ ap (λ (l : LoadedList). l.entries ++ x ∷ []) c.in_ok-descriptor.ensures.loaded) refl
    (c.in_ok-descriptor.ensures.begins (with_next loaded t) tells)

pub returns-clause-judged : goal.returns-clause-judged
returns-clause-judged c k path before after ordered cuts is so_far =
    let loaded = c.args.judge.now.loaded.entries in
    let t = file_syntax c.in_ok-tree.field-0.tree in
    let u = file_syntax c.args.file.tree in
    let files = trees_of (named_trees loaded) in
    let number : length files ≡ c.len.result = length-map (named_trees loaded) (λ (f : Named). f.1)
    ∙ (named-length loaded ∙ sym c.len.ensures.len) in
    let tells = c.in_ok-add.ensures files number c.requires.tells in
    let e = c.in_ok-descriptor.ensures.verdict (with_next loaded t) tells in
    let b = c.in_ok-descriptor.ensures.begins (with_next loaded t) tells in
    let trimmed_so = subst (λ (q : Text). IsTrimmed (values_under c.args.cuts.now.places q) u
    c.in_ok-tree.field-0) (c.deref.ensures ∙ is.path) c.in_ok-tree.ensures in
    let entry : LoadedFile = record {
      tree = c.of-kept.result;
      height = 0;
      reach = c.in_ok-sights.sights.reach;
      handed_on = c.in_ok-sights.sights.handed_on;
      read = c.args.file.read;
      descriptor = c.in_ok-descriptor.descriptor;
    } in
    let x : LoadedEntry = (c.args.file.path, entry) in
    next-so-far k c.args.judge.now _ before after path u c.args.file.path entry
    c.in_ok-descriptor.verdict c.in_ok-descriptor.descriptor t
    (tree-is k.steps c.args.cuts.now cuts path u c.in_ok-tree.field-0
    trimmed_so)
    (record {
      ordered = ordered;
      so_far = so_far;
      whole = is.tree;
      named = is.path;
      read = is.read;
      losses = record {
        any = c.in_ok-tree.field-0.loses;
        public = c.in_ok-tree.field-0.loses_public;
      };
      any_lost = loses-is k.steps c.args.cuts.now cuts path u c.in_ok-tree.field-0 trimmed_so;
      public_lost = loses-public-is k.steps c.args.cuts.now cuts path u c.in_ok-tree.field-0
          trimmed_so;
      imported = c.in_ok-imports.imports;
      numbers = c.in_ok-imports.ensures;
      sights = c.in_ok-sights.sights;
      reaches = subst (λ (ns : List ℕ). AreJoined held_as.Reach loaded ns
          c.in_ok-sights.sights.reach.items) c.numbers.ensures.all c.in_ok-sights.ensures.reach;
      sees = subst (λ (ns : List ℕ). AreJoined held_as.HandedOn loaded ns
          c.in_ok-sights.sights.sight.items) c.numbers.ensures.all c.in_ok-sights.ensures.sight;
      hands_on = subst (λ (ns : List ℕ). AreJoined held_as.HandedOn loaded ns
          c.in_ok-sights.sights.handed_on.items) c.numbers.ensures.public
          c.in_ok-sights.ensures.handed_on;
      tells = subst (λ (names : Declarations). TableTells names (with_next loaded t))
          (sym c.in_ok-descriptor.ensures.names) tells;
      gives = subst (λ (names : Declarations). GivesVerdict loaded (with_next loaded t) names
          c.in_ok-sights.sights
          (record {
            any = c.in_ok-tree.field-0.loses;
            public = c.in_ok-tree.field-0.loses_public;
          }) path t
          c.args.judge.now.verdicts.items c.args.judge.now.brought
          c.verdict_of.new.judge.brought c.in_ok-descriptor.descriptor
          c.in_ok-descriptor.verdict) (sym c.in_ok-descriptor.ensures.names)
          (subst (λ (q : Text). GivesVerdict loaded (with_next loaded t) c.add.new.self
          c.in_ok-sights.sights
          (record {
            any = c.in_ok-tree.field-0.loses;
            public = c.in_ok-tree.field-0.loses_public;
          }) q t
          c.args.judge.now.verdicts.items c.args.judge.now.brought
          c.verdict_of.new.judge.brought c.in_ok-descriptor.descriptor
          c.in_ok-descriptor.verdict) (c.deref-2.ensures ∙ is.path) e);
      begins = b;
      tree_is = ap file_syntax c.of-kept.ensures;
      reach_is = refl;
      handed_is = refl;
      descriptor_is = refl;
      entries = c.in_ok-add-2.ensures.added
          ∙ ap (λ (l : LoadedList). l.entries ++ x ∷ []) c.in_ok-descriptor.ensures.loaded;
      verdicts = c.in_ok-push.ensures.items
          ∙ ap (λ (vs : Vec Verdict). vs.items ++ c.in_ok-descriptor.verdict ∷ [])
          c.in_ok-descriptor.ensures.verdicts;
    })
