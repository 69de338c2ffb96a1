-- What a rule of texts says that is broken, and where.
use Rattle.std.specs.Prelude.{Bool, if◌then◌else◌, List, [], ◌∷◌}
use Rattle.protobuf_parse_lexer.specs.Text.{Bytes}
use Rattle.protobuf_parse_lexer.specs.declared.lexer.token.Place.{Place}
use Rattle.protobuf_parse_text_rules.specs.declared.rule.TextRule.{TextRule}

-- a rule, where the text breaks it, and what is named there; nothing, where nothing is
pub record TextBreach : Type 0 where
  pub rule : TextRule
  pub place : Place
  pub name : Bytes

-- a rule broken there
abbrev pub breach : TextRule → Place → (name : Bytes) → TextBreach
breach rule place name = record { rule = rule; place = place; name = name }

-- where the test says so
abbrev pub breach_if : Bool → TextRule → Place → (name : Bytes) → List TextBreach
breach_if test rule place name = if test then breach rule place name ∷ [] else []
