-- Texts that may stand once in a list: the paths that a file imports, and the names that a message
-- or an enum reserves. Protocol Buffers Language Guide (proto3), "Importing Definitions", "Reserved
-- Fields" (https://protobuf.dev).
use Rattle.std.specs.Prelude.{pos, List, [], map, None, Some}
use Rattle.protobuf_parse_model.specs.Descriptors.{Text}
use Rattle.protobuf_parse_rules.specs.Claims.{Claim, Rules, conflicts}
use Rattle.protobuf_parse_rules.specs.Rules.{Breach, Site, broken_by}
use Rattle.protobuf_parse_rules.specs.declared.rule.Rule.{Rule}

-- what a text of the construct claims
abbrev pub repeat_claim : Site → Text → Claim
repeat_claim site text = record {
  thing = record { number = pos 0; name = text; scope = [] };
  who = record { file = site.file; name = site.construct; number = pos 0; kind = None };
}

-- the rule is broken by the text
abbrev pub repeat_rule : Rule → Rules
repeat_rule rule c other = Some (broken_by rule c.thing.name)

-- each of the texts of the construct that stands before
abbrev pub repeats : Rule → Site → List Text → List Breach
repeats rule site texts = conflicts (repeat_rule rule) [] (map (repeat_claim site) texts)
