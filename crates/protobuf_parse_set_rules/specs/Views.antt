-- What the violations say that the code tells.
use Rattle.std.specs.Prelude.{List, map, string_bytes}
use Rattle.std.specs.Global.{Vec}
use Rattle.protobuf_parse_set_rules.specs.Breaches.{SetBreach}
use Rattle.protobuf_parse_set_rules.specs.declared.violation.SetViolation.{SetViolation}

-- what the Rust value says
abbrev pub violation_view : SetViolation → SetBreach
violation_view v = record {
  at = record { file = string_bytes v.file; construct = string_bytes v.construct };
  rule = v.rule;
  name = string_bytes v.name;
}

-- what those say, in order
abbrev pub told : Vec SetViolation → List SetBreach
told v = map violation_view v.items
