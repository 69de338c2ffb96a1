-- What a run promises, from what its loading left.
use Rattle.std.proofs.Common.{◌≡◌, Bool, true, ◌⊎◌, inl, inr, List, [], ◌∷◌, ◌++◌, map, Some}
use Rattle.std.proofs.Common.{None, Result, Err, refl, sym, ◌∙◌, ap, append-nil, find, subst}
use Rattle.std.specs.Prelude.{IfErr, string_bytes}
use Rattle.std.specs.Global.{Vec}
use Rattle.std.specs.List.{AllByRecursion}
use Rattle.protobuf_parse_model.specs.Descriptors.{Text}
use Rattle.protobuf_parse_model.specs.declared.descriptor.FileDescriptorProto.{FileDescriptorProto}
use Rattle.protobuf_parse_run.specs.declared.fault.RunFault.{RunFault}
use Rattle.protobuf_parse_run.specs.declared.fault.RunFault.TheVariants as fault
use Rattle.protobuf_parse_run.specs.declared.log.ReadEntry.{ReadEntry}
use Rattle.protobuf_parse_run.specs.declared.log.ReadOutcome.{ReadOutcome}
use Rattle.protobuf_parse_run.specs.Walks.{the_resolver, Event, Input, named, events, until}
use Rattle.protobuf_parse_run.specs.Run.{Files, AreDescriptors, HasTrees, IsAccepted, IsCaused}
use Rattle.protobuf_parse_run.specs.Run.{RunIsRefused, IsBroken, MayRead, MayResolve, fails, Legal}
use Rattle.protobuf_parse_run.specs.Run.{shipped, HaveTrees, RunsAsTold, MayAnswer}
use Rattle.protobuf_parse_run.specs.Shipped.{IsNeverAsked, RunsByResolver, RunsWithTable}
use Rattle.protobuf_parse_run.specs.Loading.{LoadedEntry, Good, Stops, IsLoaded, paths_of, tree_in}
use Rattle.protobuf_parse_base.specs.PathViews.{path_buf_text}
use Rattle.protobuf_parse_base.specs.declared.proto_path.path.ProtoPathBuf.{ProtoPathBuf}
use Rattle.protobuf_parse_run.proofs.AskedOnce.{all-asked-once, paths-named, told-of}
use Rattle.protobuf_parse_run.proofs.Causing.{caused}
use Rattle.protobuf_parse_run.proofs.Deciding.{untold, run-files}
use Rattle.protobuf_parse_run.proofs.Following.{all-follow}
use Rattle.protobuf_parse_run.proofs.ReadingBack.{all-readable}
use Rattle.protobuf_parse_run.proofs.Recovering.{all-held}
use Rattle.protobuf_parse_run.proofs.Listed.{have-lists}
use Rattle.protobuf_parse_run.proofs.Keeping.{bool_cases}

pub find-after : (test : Event → Bool) (xs ys : List Event) (e : Event) → find test xs ≡ None
    → test e ≡ true → find test (xs ++ e ∷ ys) ≡ Some e
find-after test [] ys e h t = rw t refl
find-after test (x ∷ xs) ys e h t =
    elim (bool_cases (test x)) [
      | inl w ↦ absurd (let z : Some x ≡ None = (rw w at h) in cc)
      | inr w ↦ let z : find test xs ≡ None = (rw w at h) in rw w (find-after test xs ys e z t)
    ]

pub until-after : (test : Event → Bool) (xs ys : List Event) → find test xs ≡ None
    → until test (xs ++ ys) ≡ xs ++ until test ys
until-after test [] ys h = refl
until-after test (x ∷ xs) ys h =
    elim (bool_cases (test x)) [
      | inl w ↦ absurd (let z : Some x ≡ None = (rw w at h) in cc)
      | inr w ↦ let z : find test xs ≡ None = (rw w at h) in
          rw w (ap (λ r. x ∷ r) (until-after test xs ys z))
    ]

module _ (legal : Legal) (files : Files) (told : List Event) where
  are-descriptors : (log : List ReadEntry) (loaded : List LoadedEntry)
      → AllByRecursion (λ (e : LoadedEntry). IsLoaded files log (string_bytes e.0) e.1) loaded
      → AreDescriptors files (paths_of loaded) (map (λ (e : LoadedEntry). e.1.descriptor) loaded)
  are-descriptors log [] h = tt
  are-descriptors log (e ∷ loaded) h =
      ((tree_in e.1, h.0.is, h.0.descriptor), are-descriptors log loaded h.1)

  pub accepted : (loaded : List LoadedEntry) (ds : List FileDescriptorProto)
      → Good legal files told loaded files.reads []
      → ds ≡ map (λ (e : LoadedEntry). e.1.descriptor) loaded → IsAccepted legal files told ds
  accepted loaded ds g is = record {
    none_fails = g.clean;
    reads = g.answers;
    descriptors = rw (g.elabs, is) (are-descriptors files.reads loaded g.made);
  }

  -- memory runs out once all is loaded
  pub broken : (loaded : List LoadedEntry) (f : RunFault)
      → Good legal files told loaded files.reads []
      → f ≡ fault.Memory → IsBroken legal files told f
  broken loaded f g m = record {
    memory = m;
    done = told;
    rest = [];
    beginning = ap (until (fails files)) (sym (append-nil told))
        ∙ until-after (fails files) told [] g.clean;
    reads = g.answers;
  }

  pub stopped : (f : RunFault) → Stops legal files told files.reads f
      → RunIsRefused legal files told f ⊎ IsBroken legal files told f
  stopped f (inl h) = inl (record {
    event = h.event;
    first = rw h.split (find-after (fails files) h.before h.after h.event h.clean h.failing);
    reads = rw (h.split, until-after (fails files) h.before (h.event ∷ h.after) h.clean, h.failing)
        h.answers;
    stands = h.stands;
  })
  stopped f (inr h) = inr (record {
    memory = h.memory;
    done = h.before;
    rest = until (fails files) h.after;
    beginning = rw h.split (until-after (fails files) h.before h.after h.clean);
    reads = h.answers;
  })

-- ** runs with a table of bundled files

-- all of it, from what the run was told
pub with-table : (resolve : MayResolve) (read : MayRead) (table : List (Text × Text))
    (inputs : List Input) (log : List ReadEntry) (r : Result (Vec FileDescriptorProto) RunFault)
    → HaveTrees table log → RunsAsTold (MayAnswer resolve read) inputs table log r
    → RunsWithTable resolve read table inputs r
with-table resolve read table inputs log r trees told = record {
  log = log;
  trees = trees;
  lists = have-lists table log;
  told = told;
  once = all-asked-once (MayAnswer resolve read) inputs table log r told;
  options = all-held (MayAnswer resolve read) inputs table log r told;
  readable = all-readable (MayAnswer resolve read) inputs table log r told;
}

-- memory runs out before the first input
pub unstarted : (resolve : MayResolve) (inputs : List Input)
    (r : Result (Vec FileDescriptorProto) RunFault) (f : RunFault) → r ≡ Err f
    → f ≡ fault.Memory → RunsByResolver resolve inputs r
unstarted resolve inputs r f is m = with-table resolve IsNeverAsked shipped inputs [] r
    (λ p. None, λ p. untold)
    (λ trees reached seen has listed. rw is (inr (record {
      memory = m;
      done = [];
      rest = until (fails (run-files shipped [] trees reached seen)) (events trees inputs);
      beginning = refl;
      reads = tt;
    })))

-- a run over the inputs of these paths, with the files that this library brings
pub by-resolver : (resolve : MayResolve) (read : MayRead) (log : List ReadEntry)
    (given : List Input) (paths : List ProtoPathBuf) (table : List (Text × Text))
    (r : Result (Vec FileDescriptorProto) RunFault)
    → given ≡ map (λ (b : ProtoPathBuf). named (path_buf_text b)) paths → table ≡ shipped
    → HaveTrees table log → RunsAsTold (MayAnswer resolve read) given table log r
    → RunsByResolver resolve (map (λ (b : ProtoPathBuf). named (path_buf_text b)) paths) r
by-resolver resolve read log given paths table r is same trees told =
    with-table resolve IsNeverAsked shipped inputs log r (rw same at trees)
    (told-of (MayAnswer resolve read) (MayAnswer resolve IsNeverAsked) legal inputs shipped log r
    (paths-named paths)
    (subst (λ (z : List Input). RunsAsTold (MayAnswer resolve read) z shipped log r) is
    (rw same at told)))
  where
    inputs : List Input
    inputs = map (λ (b : ProtoPathBuf). named (path_buf_text b)) paths

    legal : (p : Text) (o : ReadOutcome) → MayAnswer resolve read the_resolver p o
        → MayAnswer resolve IsNeverAsked the_resolver p o
    legal p o h = h

-- where its faults of a resolver come from, and that none is a reader's
pub by-resolver-caused : (resolve : MayResolve) (inputs : List Input)
    (r : Result (Vec FileDescriptorProto) RunFault) → RunsByResolver resolve inputs r
    → IfErr r (λ f. IsCaused resolve IsNeverAsked f)
by-resolver-caused resolve inputs r run =
    let t = run.trees in
    let has : HasTrees shipped run.log t.0 = λ p. (t.1 p).0 in
    let l = run.lists t.0 has in
    caused resolve IsNeverAsked _ (events t.0 inputs) r (all-follow t.0 inputs)
    (run.told t.0 l.0 l.1 has l.2)
