use Rattle.std.proofs.Common.{refl, ◌∙◌}
use Rattle.protobuf_parse_run.proofs.loader.note.Goals as goal

pub returns-clause-ok : goal.returns-clause-ok
returns-clause-ok c = (
  _,
  c.in_ok-push.ensures.items,
  c.in_ok-path.ensures
      ∙ c.as_path.ensures,
  refl,
)
