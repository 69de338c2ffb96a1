use Rattle.std.proofs.Common.{[], List, map, refl, subst, sym}
use Rattle.protobuf_parse_run.specs.Run.{HasTrees, MayAnswer, input_view, rows}
use Rattle.protobuf_parse_run.specs.declared.log.ReadEntry.{ReadEntry}
use Rattle.protobuf_parse_load.specs.Loads.{LoadEnds}
use Rattle.protobuf_parse_load.specs.Steps.{closed_paths, load_of}
use Rattle.protobuf_parse_check.specs.Judging.{HasReads}
use Rattle.protobuf_parse_check.specs.Reports.{CheckEnds, files_of, loaded_of, read_files}
use Rattle.protobuf_parse_check.specs.SoFar.{HoldReads, IsLoadOf}
use Rattle.protobuf_parse_check.proofs.Ending.{ends-so, load-holds}
use Rattle.protobuf_parse_check.proofs.Finishing.{files-few}
use Rattle.protobuf_parse_check.proofs.Ordered.{is-ordered, ordered-lists}
use Rattle.protobuf_parse_check.proofs.check.check_inputs.Goals.{in-Ok, in-Err}
use Rattle.protobuf_parse_check.proofs.check.check_inputs.Goals as goal

pub returns-clause-lists : goal.returns-clause-lists
returns-clause-lists g c trees has =
    ordered-lists (rows c.args.bundled.now) c.load_inputs-reads.result.reads.items trees has
    (map input_view c.args.inputs.now)

pub checked-result-requires : goal.checked-result-requires
checked-result-requires g c =
    let legal = MayAnswer (g.R.ProtoPathResolver.may_answer c.args.resolver.now)
    (g.I.InputReader.may_read c.args.reader.now) in
    let bundled = rows c.args.bundled.now in
    let inputs = map input_view c.args.inputs.now in
    let log = c.load_inputs-reads.result.reads.items in
    let there = c.load_inputs-reads.ensures.trees in
    let has : HasTrees bundled log there.0 = λ p. (there.1 p).0 in
    let k = loaded_of bundled log there.0 inputs (λ p. []) (λ p. []) in
    let so = subst (LoadEnds legal (read_files k) (load_of there.0 inputs)) c.in-Ok.is
    (c.load_inputs-reads.ensures.told there.0 has) in
    record {
      few = files-few k has (closed_paths k.steps) c.in-Ok.load.files.items so.loaded_are;
    }

pub returns-clause-told : goal.returns-clause-told
returns-clause-told g c trees reached seen has listed =
    let resolve = g.R.ProtoPathResolver.may_answer c.args.resolver.now in
    let read = g.I.InputReader.may_read c.args.reader.now in
    let legal = MayAnswer resolve read in
    let bundled = rows c.args.bundled.now in
    let inputs = map input_view c.args.inputs.now in
    let log = c.load_inputs-reads.result.reads.items in
    let k = loaded_of bundled log trees inputs reached seen in
    let ends = c.load_inputs-reads.ensures.told trees has in
    elim c.match-result.branch [
      | in-Ok w ↦
          let so = subst (LoadEnds legal (read_files k) (load_of trees inputs)) w.in-Ok.is ends in
          let ordered = is-ordered bundled log trees has inputs reached seen listed in
          let of_load : IsLoadOf k w.in-Ok.load = record { steps = so.steps_are; files = so.loaded_are } in
          let has_reads : HasReads (files_of k) bundled w.deref.result.now =
          record { bundled_are = refl; reads_are = sym w.deref.ensures.value } in
          let holds = load-holds resolve read trees inputs log so.answers in
          subst (CheckEnds legal k inputs (load_of trees inputs)) (sym w.result-is)
          (ends-so legal bundled log trees inputs reached seen w.in-Ok.load w.checked-result.result so
          w.checked-result.ensures.steps w.checked-result.ensures.unread
          (w.checked-result.ensures.clashes k ordered of_load has_reads
          (subst (λ (rs : List ReadEntry). HoldReads inputs rs (closed_paths k.steps) k.steps)
          (sym w.deref.ensures.value) holds))
          (w.checked-result.ensures.files k ordered of_load))
      | in-Err w ↦
          subst (CheckEnds legal k inputs (load_of trees inputs)) (sym w.result-is)
          (subst (LoadEnds legal (read_files k) (load_of trees inputs)) w.in-Err.is ends)
    ]
