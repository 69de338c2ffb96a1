-- What the violations say that the code tells.
use Rattle.std.specs.Prelude.{List, map, string_bytes}
use Rattle.std.specs.Global.{Vec}
use Rattle.protobuf_parse_text_rules.specs.Breaches.{TextBreach}
use Rattle.protobuf_parse_text_rules.specs.declared.violation.TextViolation.{TextViolation}

-- what the Rust value says
abbrev pub violation_view : TextViolation → TextBreach
violation_view v = record { rule = v.rule; place = v.place; name = string_bytes v.name }

-- what those say, in order
abbrev pub told : Vec TextViolation → List TextBreach
told v = map violation_view v.items
