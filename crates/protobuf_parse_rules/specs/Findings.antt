-- No public clause rests on this file.
-- What the code found, before its texts are copied.
use Rattle.std.specs.Prelude.{option_map}
use Rattle.std.specs.Borrow.{Bor}
use Rattle.protobuf_parse_model.specs.Descriptors.{Text}
use Rattle.protobuf_parse_rules.specs.ClaimsKept.{holder_view, spot_name}
use Rattle.protobuf_parse_rules.specs.Rules.{Broken, Site}
use Rattle.protobuf_parse_rules.specs.declared.claims.Holder.{Holder}
use Rattle.protobuf_parse_rules.specs.declared.finding.Finding.{Finding}
use Rattle.protobuf_parse_rules.specs.declared.finding.Spot.{Spot}

abbrev pub holder_name : Holder → Text
holder_name h = (holder_view h).name

abbrev pub finding_view : Finding → Broken
finding_view f = record {
  rule = f.rule;
  name = option_map (λ (t : Bor Text). t.now) f.name;
  by = option_map holder_name f.by;
}

-- where something was found
abbrev pub site_of : Spot → Site
site_of s = record { file = s.file.now; construct = spot_name s.scope.now s.name }
