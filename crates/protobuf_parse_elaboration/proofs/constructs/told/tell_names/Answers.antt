use Rattle.std.proofs.Common.{◌∙◌, flat_map}
use Rattle.protobuf_parse_model.specs.Faults.{found}
use Rattle.protobuf_parse_elaboration.proofs.Told.{same_length, told_none}
use Rattle.protobuf_parse_elaboration.proofs.constructs.told.tell_names.Goals as goal

pub returns-then-branch : goal.returns-then-branch
returns-then-branch g c =
    let declared = flat_map (g.S.Declares.named_as c.args.declared c.args.syntax)
    c.args.statements.now in
    told_none (found c.args.faults.now) declared
    (c.in_ok-are_unlike.ensures c.if-branch.true declared c.requires.named)

pub tell_at-requires : goal.tell_at-requires
tell_at-requires g c = record {
  same = same_length g.T.Named.name_of c.args.items.now _ _ c.requires.named
      (c.deref.ensures.value ∙ c.in_ok-places.ensures);
}

pub returns : goal.returns
returns g c =
    c.tell_at.ensures _ c.requires.named (c.deref.ensures.value ∙ c.in_ok-places.ensures)
