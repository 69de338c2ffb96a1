-- No public clause rests on this file.
-- The steps of a load so far, and a map of what they say of each path.
use Rattle.std.specs.Prelude.{◌≡◌, List, Option, Some, None, String, bytes_eq}
use Rattle.std.specs.Prelude.{Bool, true, false, if◌then◌else◌}
use Rattle.std.specs.BTreeMap.{BTreeMap, get_by_text}
use Rattle.std.specs.Global.{Global}
use Rattle.protobuf_parse_model.specs.Descriptors.{Text}
use Rattle.protobuf_parse_load.specs.declared.known.Known.{Known}
use Rattle.protobuf_parse_load.specs.declared.known.Known.TheVariants.{Unreadable, Loaded}
use Rattle.protobuf_parse_load.specs.declared.step.LoadStep.{LoadStep}
use Rattle.protobuf_parse_load.specs.Loads.{steps_view}
use Rattle.protobuf_parse_load.specs.Steps.{Step, known, known_by}

-- what contracts see of the steps so far
pub record StepList : Type 0 where
  pub list : List LoadStep

abbrev pub PathMap : Type 0
PathMap = BTreeMap (String Global) Known

-- whether the file of a path is loaded, by what is known of it
abbrev pub is_loaded : Option Known → Bool
is_loaded None = false
is_loaded (Some (Unreadable n)) = false
is_loaded (Some (Loaded h)) = true

-- the map says of each path what the steps say
pub record HasKnown (paths : PathMap) (steps : List LoadStep) : Type 0 where
  pub found : (p : Text) → get_by_text paths p ≡ known p (steps_view steps)

-- the one, or else the other
abbrev pub or_else : Option Known → Option Known → Option Known
or_else None o = o
or_else (Some k) o = Some k

-- of each path it says what it said, or else what the step says
abbrev pub Learns : PathMap → PathMap → Step → Type 0
Learns old new step = (p : Text)
    → get_by_text new p ≡ or_else (get_by_text old p) (known_by p step None)

-- the same of one path
abbrev pub LearnsOf : PathMap → PathMap → Text → Known → Type 0
LearnsOf old new q k = (p : Text)
    → get_by_text new p ≡ or_else (get_by_text old p) (if bytes_eq p q then Some k else None)
