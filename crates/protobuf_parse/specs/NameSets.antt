-- No public clause rests on this file.
-- Names in a set, as the code holds it.
use Rattle.std.specs.Prelude.{◌≡◌, List, String, bytes_eq}
use Rattle.std.specs.BTreeSet.{BTreeSet, contains_text}
use Rattle.std.specs.Global.{Global}
use Rattle.std.specs.List.{list_any}
use Rattle.protobuf_parse_model.specs.Descriptors.{Text}

-- the set has just these names
abbrev pub HasNames : BTreeSet (String Global) → List Text → Type 0
HasNames set names = (name : Text)
    → contains_text set name ≡ list_any (λ (n : Text). bytes_eq n name) names
