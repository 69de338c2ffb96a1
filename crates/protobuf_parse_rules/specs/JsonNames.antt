-- The names of a message's fields in JSON are distinct. Protocol Buffers Language Guide (proto3),
-- "JSON Mapping" (https://protobuf.dev). In proto2 a name that isn't is only warned of.
use Rattle.std.specs.Prelude.{pos, Bool, if◌then◌else◌, List, [], map, None, Some}
use Rattle.protobuf_parse_model.specs.Descriptors.{Text, FieldDescriptor}
use Rattle.protobuf_parse_wire.specs.Declarations.{name_within}
use Rattle.protobuf_parse_rules.specs.Bodies.{BodyParts, fields_of}
use Rattle.protobuf_parse_rules.specs.Claims.{Claim, Rules, conflicts}
use Rattle.protobuf_parse_rules.specs.Rules.{Breach}
use Rattle.protobuf_parse_rules.specs.declared.rule.Rule.TheVariants as rule

-- what a field of the scope claims: its name in JSON
abbrev pub json_claim : (file scope : Text) → FieldDescriptor → Claim
json_claim file scope f = record {
  thing = record { number = pos 0; name = f.json_name; scope = [] };
  who = record { file = file; name = name_within scope f.name; number = f.number; kind = None };
}

-- C5, and C6 in proto2: the name is another field's
abbrev pub json_rule : (proto3 : Bool) → Rules
json_rule proto3 c other = Some (record {
  rule = if proto3 then rule.JsonNameInUse else rule.JsonNameInUseProto2;
  name = Some c.thing.name;
  by = Some other.name;
})

-- C5 or C6 at each field whose name in JSON an earlier one has
abbrev pub json_names_in_use : BodyParts → List Breach
json_names_in_use p =
    conflicts (json_rule p.proto3) [] (map (json_claim p.file p.scope) (fields_of p.content))
