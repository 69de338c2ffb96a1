use Rattle.std.proofs.Common.{◌≡◌, ◌∙◌, ◌++◌, ◌∷◌, [], List, ap, append_assoc, map, subst, sym}
use Rattle.std.specs.List.{AllByRecursion}
use Rattle.std.proofs.lemmas.Iterator.Adapters.{YieldsList-from_vec}
use Rattle.std.proofs.lemmas.Iterator.Consumers.{YieldsList-end}
use Rattle.std.proofs.lemmas.List.{map-append, map-id}
use Rattle.protobuf_parse_model.specs.Descriptors.{Text}
use Rattle.protobuf_parse_load.specs.declared.log.LoadedFile.{LoadedFile}
use Rattle.protobuf_parse_load.specs.Loads.{IsLoadedFile}
use Rattle.protobuf_parse_load.specs.Steps.{closed_paths}
use Rattle.protobuf_parse_check.specs.Reports.{read_files}
use Rattle.protobuf_parse_check.specs.SoFar.{AreFew, IsSoFar}
use Rattle.protobuf_parse_check.specs.Judging.{HasCuts}
use Rattle.protobuf_parse_check.proofs.Finishing.{all-at, each-loaded, nil-behind, path_of}
use Rattle.protobuf_parse_check.proofs.Finishing.{paths-of, so-far-none}
use Rattle.protobuf_parse_check.proofs.check.judged_files.Goals as goal

pub loop-file-init : goal.loop-file-init
loop-file-init c = (
  subst AreFew (sym c.into_iter-file-iterator.ensures.into_iter_gives.0) c.requires.few,
  c.new-judge.ensures.tells,
  c.new-judge.ensures.begins,
  c.into_iter-file-iterator.ensures.into_iter_gives.0,
  λ k ordered cuts paths all.
      so-far-none k c.new-judge.result _ paths c.new-judge.ensures.loaded c.new-judge.ensures.tells
      c.new-judge.ensures.begins c.new-judge.ensures.types c.new-judge.ensures.extensions
      c.new-judge.ensures.verdicts,
)

pub judge_file-requires-clause-few : goal.judge_file-requires-clause-few
judge_file-requires-clause-few c =
    (subst AreFew c.in-Some.ensures.steps.0 c.loop-file.invariant.0).0

pub loop-file-preserved : goal.loop-file-preserved
loop-file-preserved c =
    let steps = c.in-Some.ensures.steps.0 in
    let file = c.in-Some.file in
    let rest = c.next.new.self.rest.items in
    let front = c.loop-file.yielded in
    let same : (front ++ file ∷ []) ++ rest ≡ front ++ c.loop-file.file-iterator.rest.items =
    append_assoc front (file ∷ []) rest ∙ ap (λ r. front ++ r) (sym steps) in
    let old = c.loop-file.invariant in (
      (subst AreFew steps old.0).1,
      c.in_ok-judge_file.ensures.tells,
      c.in_ok-judge_file.ensures.begins,
      same ∙ old.3,
      λ k ordered cuts paths all.
          let all_old = subst (AllByRecursion
          (λ (f : LoadedFile). IsLoadedFile (read_files k) (path_of f) f)) same all in
          let so_far = old.4 k ordered cuts (paths ∙ ap (map path_of) same) all_old in
          let here = all-at (λ (f : LoadedFile). IsLoadedFile (read_files k) (path_of f) f) front
          file rest (subst (AllByRecursion
          (λ (f : LoadedFile). IsLoadedFile (read_files k) (path_of f) f))
          (ap (λ r. front ++ r) steps) all_old) in
          subst (λ (ps : List Text). IsSoFar k c.judge_file.new.judge ps (map path_of rest))
          (sym (map-append path_of front (file ∷ [])))
          (c.in_ok-judge_file.ensures.judged k (path_of file) (map path_of front)
          (map path_of rest) ordered cuts here
          (subst (λ r. IsSoFar k c.loop-file.judge (map path_of front) (map path_of r)) steps
          so_far)),
    )

pub returns : goal.returns
returns c k ordered steps loaded =
    let files = c.args.files.items in
    let end = YieldsList-end
    (YieldsList-from_vec {s = c.into_iter-file-iterator.result} files (cc) (cc))
    c.loop-file.yielded c.loop-file.file-iterator c.loop-file.yielded_by _ c.next.new.self
    c.in-None.is c.next.ensures.steps in
    let all : c.loop-file.yielded ≡ files = sym (map-id c.loop-file.yielded) ∙ end.0 in
    let old = c.loop-file.invariant in
    let none : c.loop-file.file-iterator.rest.items ≡ [] =
    nil-behind files c.loop-file.file-iterator.rest.items
    (ap (λ xs. xs ++ c.loop-file.file-iterator.rest.items) (sym all) ∙ old.3) in
    let paths = paths-of (read_files k) (closed_paths k.steps) files loaded in
    let so_far = old.4 k ordered
    (subst (λ ss. HasCuts ss c.in_ok-cuts.cuts) steps c.in_ok-cuts.ensures)
    (paths ∙ ap (map path_of) (sym old.3))
    (subst (AllByRecursion (λ (f : LoadedFile). IsLoadedFile (read_files k) (path_of f) f))
    (sym old.3) (each-loaded (read_files k) (closed_paths k.steps) files loaded)) in
    subst (λ (ps : List Text). IsSoFar k c.loop-file.judge ps []) (ap (map path_of) all ∙ sym paths)
    (subst (λ r. IsSoFar k c.loop-file.judge (map path_of c.loop-file.yielded) (map path_of r)) none
    so_far)
