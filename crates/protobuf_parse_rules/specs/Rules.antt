-- What a rule says that is broken, and where.
use Rattle.std.specs.Prelude.{List, map, flat_map, Option, Some, None, option_map, option_to_list}
use Rattle.std.specs.Prelude.{string_bytes, Bool, if◌then◌else◌}
use Rattle.std.specs.Global.{Vec}
use Rattle.protobuf_parse_model.specs.Descriptors.{Text}
use Rattle.protobuf_parse_rules.specs.declared.rule.Rule.{Rule}
use Rattle.protobuf_parse_rules.specs.declared.violation.Violation.{Violation}

-- a rule with its numbers, what it speaks of beside the construct, and the full name of who has
-- already what only one may have
pub record Broken : Type 0 where
  pub rule : Rule
  pub name : Option Text
  pub by : Option Text

-- a rule that speaks of the construct alone
abbrev pub broken : Rule → Broken
broken rule = record { rule = rule; name = None; by = None }

-- a rule that speaks of that name beside it
abbrev pub broken_by : Rule → (name : Text) → Broken
broken_by rule name = record { rule = rule; name = Some name; by = None }

-- where the test says so
abbrev pub broken_if : Bool → Rule → Option Broken
broken_if test rule = if test then Some (broken rule) else None

-- a construct, by the path of its file and its full name
pub record Site : Type 0 where
  pub file : Text
  pub construct : Text

-- a construct that breaks a rule
pub record Breach : Type 0 where
  pub site : Site
  pub broken : Broken

-- what is broken at a construct, where each rule says at most one thing of it
abbrev pub breaches_at : Site → List (Option Broken) → List Breach
breaches_at site found =
    map (λ (b : Broken). record { site = site; broken = b }) (flat_map option_to_list found)

-- what the Rust value says
abbrev pub violation_view : Violation → Breach
violation_view v = record {
  site = record { file = string_bytes v.file; construct = string_bytes v.construct };
  broken = record {
    rule = v.rule;
    name = option_map string_bytes v.name;
    by = option_map string_bytes v.by;
  };
}

-- what the violations that the code tells say, in order
abbrev pub breaches_told : Vec Violation → List Breach
breaches_told v = map violation_view v.items
