use Rattle.std.proofs.Common.{◌∙◌, ap, inl, inr, subst, Ok}
use Rattle.protobuf_parse_base.specs.PathViews.{path_text}
use Rattle.protobuf_parse_command.specs.Finding.{IsOfSets}
use Rattle.protobuf_parse_command.proofs.Found.{found_in}
use Rattle.protobuf_parse_command.proofs.reading.FoldersProtoPathResolver.resolve.Goals as goal

pub returns-in-Ok-None : goal.returns-in-Ok-None
returns-in-Ok-None g c = record {
  legal = inr (
    found_in c.deref.result.now _ (path_text c.args.path) _ _ c.deref.ensures.value
        (c.in-Ok-None.is ∙ ap Ok c.in-Ok-None.field-0-is) c.first_found.ensures,
    subst (λ p. IsOfSets p c.found_in_sets.result) c.to_str.ensures.text c.found_in_sets.ensures,
  );
}

pub returns-in-Ok-Some : goal.returns-in-Ok-Some
returns-in-Ok-Some g c = record {
  legal = inl (found_in c.deref.result.now _ (path_text c.args.path) _ _ c.deref.ensures.value
      (c.in-Ok-Some.is ∙ ap Ok c.in-Ok-Some.field-0-is) c.first_found.ensures);
}

pub returns-in-Err : goal.returns-in-Err
returns-in-Err g c = record {
  legal = inl (found_in c.deref.result.now _ (path_text c.args.path) _ _ c.deref.ensures.value
      c.in-Err.is c.first_found.ensures);
}
