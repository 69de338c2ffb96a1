-- What is told of a set: that a construct of a file breaks a rule.
use Rattle.std.specs.Prelude.{Bool, if◌then◌else◌, List, [], ◌∷◌}
use Rattle.protobuf_parse_model.specs.Descriptors.{Text}
use Rattle.protobuf_parse_set_rules.specs.declared.rule.SetRule.{SetRule}

-- the path of the file, and the full name of the construct; of a file its package
pub record Site : Type 0 where
  pub file : Text
  pub construct : Text

-- a construct that breaks a rule, and what the rule speaks of beside it, or nothing
pub record SetBreach : Type 0 where
  pub at : Site
  pub rule : SetRule
  pub name : Text

-- that rule, broken there
abbrev pub breach : Site → SetRule → Text → SetBreach
breach at rule name = record { at = at; rule = rule; name = name }

-- that, where the test says so
abbrev pub breach_if : Bool → Site → SetRule → Text → List SetBreach
breach_if test at rule name = if test then breach at rule name ∷ [] else []
