-- The numbers of a message: those of its fields and of the extensions of it are distinct, in
-- whichever files these stand. Protocol Buffers Language Guide (proto2), "Assigning Field Numbers",
-- "Extensions" (https://protobuf.dev).
use Rattle.std.specs.Prelude.{List, [], ◌++◌, map, flat_map, option_to_list, None, Some}
use Rattle.std.specs.Prelude.{bytes_eq, if◌then◌else◌}
use Rattle.protobuf_parse_model.specs.Descriptors.{Text, FieldDescriptor}
use Rattle.protobuf_parse_wire.specs.Declarations.{name_within}
use Rattle.protobuf_parse_rules.specs.Bodies.{BodyParts, fields_of, extensions_of}
use Rattle.protobuf_parse_rules.specs.Claims.{Claim, Rules}
use Rattle.protobuf_parse_rules.specs.declared.rule.Rule.TheVariants as rule

-- what a field or an extension of the scope claims of that message
abbrev pub claim_of : (file scope message : Text) → FieldDescriptor → Claim
claim_of file scope message f = record {
  thing = record { number = f.number; name = message; scope = [] };
  who = record { file = file; name = name_within scope f.name; number = f.number; kind = None };
}

-- those of the fields of the message that is the scope
abbrev pub field_claims : (file scope : Text) → List FieldDescriptor → List Claim
field_claims file scope fields = map (claim_of file scope scope) fields

-- that of an extension, of the message that it extends
abbrev pub extension_claim : (file scope : Text) → FieldDescriptor → List Claim
extension_claim file scope e =
    map (λ (m : Text). claim_of file scope m e) (option_to_list e.extendee)

-- those of extensions of the scope
abbrev pub extension_claims : (file scope : Text) → List FieldDescriptor → List Claim
extension_claims file scope extensions = flat_map (extension_claim file scope) extensions

-- which numbers the fields and the extensions that stand there claim, and of which message
abbrev pub claims : BodyParts → List Claim
claims p = field_claims p.file p.scope (fields_of p.content)
    ++ extension_claims p.file p.scope (extensions_of p.content)

-- C1: the number of that message is another one's, in the same file or in another one
abbrev pub number_rule : Rules
number_rule c other = Some (record {
  rule = if bytes_eq c.who.file other.file then rule.NumberInUse c.thing.number
      else rule.NumberInUseElsewhere c.thing.number;
  name = Some c.thing.name;
  by = Some other.name;
})
