use Rattle.std.proofs.Common.{◌∙◌, ◌++◌, ap}
use Rattle.protobuf_parse_model.specs.Duplicates.{duplicates}
use Rattle.protobuf_parse_model.specs.Faults.{found}
use Rattle.protobuf_parse_elaboration.specs.Declaring.{names_at}
use Rattle.protobuf_parse_elaboration.proofs.Gathering.{on_ok}
use Rattle.protobuf_parse_elaboration.proofs.Told.{same_declared}
use Rattle.protobuf_parse_elaboration.proofs.constructs.told.tell_at.Goals as goal

pub returns : goal.returns
returns g c = λ declared named at.
    on_ok c.tell_repeats.result (λ h. h ∙ ap (λ ds. found c.args.faults.now ++ duplicates ds)
    (ap names_at c.deref.ensures.value
    ∙ same_declared (names_at c.in_ok-names.names.items) declared
    (c.in_ok-names.ensures.names ∙ named) (c.in_ok-names.ensures.places ∙ at)))
    c.tell_repeats.ensures
