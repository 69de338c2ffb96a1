-- No public clause rests on this file.
-- What functions that tell one fault after another add.
use Rattle.std.specs.Prelude.{◌≡◌, ◌++◌, List, Option, Some, None}
use Rattle.protobuf_parse_model.specs.Descriptors.{Text}
use Rattle.protobuf_parse_diagnostics.specs.Later.{AreLaterOf}
use Rattle.protobuf_parse_diagnostics.specs.Told.{AreTold, Line, Spot}
use Rattle.protobuf_parse_diagnostics.specs.declared.diagnostic.Diagnostic.{Diagnostic}
use Rattle.protobuf_parse_diagnostics.specs.declared.imports.Importer.{Importer}

-- what is told of the lines was added
pub record Tells (lines : List Line) (old new : List Diagnostic) : Type 0 where
  pub more : List Diagnostic
  pub added : new ≡ old ++ more
  pub told : AreTold lines more

-- where the statement stands that asks, if one does
abbrev pub importer_spot : Option Importer → Option Spot
importer_spot None = None
importer_spot (Some i) = Some (record { file = i.origin.now; place = i.place })

-- what is told of the faults of a text behind the first one was added
pub record TellsLater (text : Option Text) (origin : Text) (old new : List Diagnostic)
    : Type 0 where
  pub more : List Diagnostic
  pub added : new ≡ old ++ more
  pub later : AreLaterOf text origin more
