-- No public clause rests on this file.
-- From where the code sees a construct, as an environment.
use Rattle.protobuf_parse_model.specs.Environment.{Customs, Environment}
use Rattle.protobuf_parse_model.specs.SeenFiles.{environment_in}
use Rattle.protobuf_parse_elaboration.specs.declared.constructs.viewpoint.Viewpoint.{Viewpoint}

-- The function gives what is said of custom options by the one who says it.
abbrev pub seen_from : {C : Type 0} → (C → Customs) → Viewpoint C → Environment
seen_from customs at = environment_in (customs at.custom.now) at.context
