-- Fields as they are written: a map has no label, since it is repeated by itself (Protocol Buffers
-- Language Guide (proto3), "Maps", https://protobuf.dev); an extension has no name in JSON of its
-- own, since its name there is in brackets ("JSON Mapping"); an `extend` has a field.
use Rattle.std.specs.Prelude.{Bool, true, false, ◌&&◌, is_some, List, [], ◌∷◌, ◌++◌, flat_map}
use Rattle.protobuf_parse_syntax.specs.Trees.{ExtendSyntax, FieldStatementList}
use Rattle.protobuf_parse_syntax.specs.Trees.{FieldStatementSyntax, FieldSyntax, TypeSyntax, field}
use Rattle.protobuf_parse_syntax.specs.Trees.{group, map_of, more_field_statements}
use Rattle.protobuf_parse_syntax.specs.Trees.{no_field_statements}
use Rattle.protobuf_parse_text_rules.specs.Breaches.{TextBreach, breach, breach_if}
use Rattle.protobuf_parse_text_rules.specs.Options.{json_breaches, option_breaches}
use Rattle.protobuf_parse_text_rules.specs.declared.rule.TextRule.TheVariants as rule

-- whether a type is a map
abbrev pub is_map : TypeSyntax → Bool
is_map (map_of k v) = true
is_map _ = false

-- T6 at a map with a label, and what is wrong with the options
abbrev pub field_breaches : FieldSyntax → List TextBreach
field_breaches f =
    breach_if (is_map f.type_ && is_some f.label) rule.LabelOfMap f.place f.name
    ++ option_breaches f.options

abbrev mutual
  -- of a field, or of those in a group
  pub statement_breaches : FieldStatementSyntax → List TextBreach
  statement_breaches (field f) = field_breaches f
  statement_breaches (group place label name number fs) = all_breaches fs

  -- of all of these
  pub all_breaches : FieldStatementList → List TextBreach
  all_breaches no_field_statements = []
  all_breaches (more_field_statements f fs) = statement_breaches f ++ all_breaches fs

-- of an extension
abbrev pub extension_breaches : FieldStatementSyntax → List TextBreach
extension_breaches (field f) = json_breaches f.options ++ field_breaches f
extension_breaches (group place label name number fs) = all_breaches fs

-- whether there is none
abbrev pub is_nil : {X : Type 0} → List X → Bool
is_nil [] = true
is_nil (x ∷ xs) = false

-- T12 of an `extend`, T9 where it has no fields, and what is wrong with its extensions
abbrev pub extend_breaches : ExtendSyntax → List TextBreach
extend_breaches e = breach rule.SemicolonAlone e.place e.extendee
    ∷ (breach_if (is_nil e.fields) rule.ExtendWithoutFields e.place e.extendee
    ++ flat_map extension_breaches e.fields)
