use Rattle.std.proofs.Common.{◌∙◌, ◌++◌, ap, refl, sym, append-nil, rules}
use Rattle.std.proofs.lemmas.Result.{err_from_is_err_and}
use Rattle.protobuf_parse_base.specs.PathViews.{path_buf_text}
use Rattle.protobuf_parse_run.specs.Walks.{named, at, checks}
use Rattle.protobuf_parse_run.specs.Run.{input_view}
use Rattle.protobuf_parse_run.specs.Loading.{legal_by}
use Rattle.protobuf_parse_run.proofs.Knowing.{known-grows}
use Rattle.protobuf_parse_run.proofs.Inputs.{input-ends, check-stops}
use Rattle.protobuf_parse_run.proofs.Leaving.{goes-back}
use Rattle.protobuf_parse_run.proofs.Steps.{Grows-trans}
use Rattle.protobuf_parse_run.proofs.Counting.{count-check, count-input}
use Rattle.protobuf_parse_run.proofs.loader.load_input.Goals as goal

pub returns-in-Named : goal.returns-in-Named
returns-in-Named g c = record {
  grows = search rules;
  chain = search rules;
  bound = search rules;
  goes = λ files kept go good.
      input-ends
      (legal_by g.R.ProtoPathResolver.may_answer g.I.InputReader.may_read c.args.sources.now)
      files _ kept kept (named (path_buf_text c.in-Named.name)) _ _ _
      (ap input_view c.in-Named.is) (sym (append-nil kept))
      (c.load_file.ensures.goes files kept go good);
  count = λ files kept go good.
      count-input
      (legal_by g.R.ProtoPathResolver.may_answer g.I.InputReader.may_read c.args.sources.now)
      files _ kept kept (named (path_buf_text c.in-Named.name)) _ _ _ _
      (ap input_view c.in-Named.is) (sym (append-nil kept)) refl
      (c.load_file.ensures.count files kept go good);
  decided = search rules;
  known = search rules;
}

pub load_file-requires-in-At-clause-known : goal.load_file-requires-in-At-clause-known
load_file-requires-in-At-clause-known g c =
    known-grows _ _ c.args.loader.now.reads.items _ c.check_loaded.ensures.grows
    (rw (ap (λ m. m.entries) c.check_loaded.ensures.loaded, c.check_loaded.ensures.tables)
    c.requires.known)

pub returns-in_err-check_loaded-in-At : goal.returns-in_err-check_loaded-in-At
returns-in_err-check_loaded-in-At g c = record {
  grows = search rules;
  chain = search rules;
  bound = search rules;
  goes = λ files kept go good.
      let name = path_buf_text c.in-At.name in
      let p = err_from_is_err_and c.from_residual.result c.from_residual.ensures.1 in
      rw (p.1, p.2)
      (check-stops _ files kept (at name c.deref.result.now) _ _
      c.in_err-check_loaded-in-At.field-0.0
      (ap input_view c.in-At.is ∙ ap (at name) (sym c.deref.ensures))
      (c.in_err-check_loaded-in-At.ensures.goes files kept go good));
  count = λ files kept go good.
      let p = err_from_is_err_and c.from_residual.result c.from_residual.ensures.1 in
      rw p.1 (count-check files.trees kept
      (input_view c.args.input.now) _ _ c.check_loaded.ensures.meets);
  decided = search rules;
  known = search rules;
}

pub returns-in_ok-check_loaded-in-At : goal.returns-in_ok-check_loaded-in-At
returns-in_ok-check_loaded-in-At g c = record {
  grows = Grows-trans _ _ _ c.check_loaded.ensures.grows c.load_file-in-At.ensures.grows;
  chain = search rules;
  bound = search rules;
  goes = λ files kept go good.
      let name = path_buf_text c.in-At.name in
      let back = goes-back files _ _ _ c.load_file-in-At.ensures.grows go in
      let base = ap (λ z. kept ++ checks kept (at name z))
      (c.deref.ensures ∙ sym c.as_str.ensures.value) in
      input-ends
      (legal_by g.R.ProtoPathResolver.may_answer g.I.InputReader.may_read c.args.sources.now)
      files _ kept _ (at name c.as_str.result.now) _ _ _
      (ap input_view c.in-At.is ∙ ap (at name) (sym c.as_str.ensures.value)) base
      (c.load_file-in-At.ensures.goes files _ go
      (c.in_ok-check_loaded-in-At.ensures.goes files kept back good));
  count = λ files kept go good.
      let name = path_buf_text c.in-At.name in
      let back = goes-back files _ _ _ c.load_file-in-At.ensures.grows go in
      let base = ap (λ z. kept ++ checks kept (at name z))
      (c.deref.ensures ∙ sym c.as_str.ensures.value) in
      count-input
      (legal_by g.R.ProtoPathResolver.may_answer g.I.InputReader.may_read c.args.sources.now)
      files _ kept _ (at name c.as_str.result.now) _ _ _ _
      (ap input_view c.in-At.is ∙ ap (at name) (sym c.as_str.ensures.value)) base
      c.check_loaded.ensures.meets
      (c.load_file-in-At.ensures.count files _ go
      (c.in_ok-check_loaded-in-At.ensures.goes files kept back good));
  decided = λ d. c.load_file-in-At.ensures.decided (c.in_ok-check_loaded-in-At.ensures.decided d);
  known = search rules;
}
