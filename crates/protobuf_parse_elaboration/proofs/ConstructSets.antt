-- What custom options add to the faults of fields, oneofs, extensions, enums and services.
use Rattle.std.proofs.Common.{◌≡◌, List, [], ◌∷◌, ◌++◌, map, flat_map, ap, refl}
use Rattle.std.proofs.Common.{bytes_eq}
use Rattle.protobuf_parse_syntax.specs.Trees.{FieldSyntax, FieldStatementSyntax, field, group}
use Rattle.protobuf_parse_syntax.specs.Trees.{OneofSyntax, ExtendSyntax, EnumValueSyntax}
use Rattle.protobuf_parse_syntax.specs.Trees.{EnumSyntax, MethodSyntax, ServiceSyntax}
use Rattle.protobuf_parse_model.specs.declared.customs.Construct.TheVariants as of
use Rattle.protobuf_parse_model.specs.Descriptors.{Text}
use Rattle.protobuf_parse_model.specs.Declarations.{Scope, inside}
use Rattle.protobuf_parse_model.specs.Duplicates.{fault, duplicates}
use Rattle.protobuf_parse_model.specs.Faults.{placed}
use Rattle.protobuf_parse_model.specs.declared.error.ElabErrorKind.TheVariants.{DanglingTypeName}
use Rattle.protobuf_parse_model.specs.Statements.{group_body, group_field_name, oneof_fields}
use Rattle.protobuf_parse_model.specs.Environment.{Environment, Customs, type_missing}
use Rattle.protobuf_parse_model.specs.BuiltinOptions.{oneof_table, enum_table, enum_value_table}
use Rattle.protobuf_parse_model.specs.BuiltinOptions.{service_table, method_table}
use Rattle.protobuf_parse_elaboration.specs.Fields.{type_of, type_faults, default_faults}
use Rattle.protobuf_parse_elaboration.specs.Fields.{if_not_told}
use Rattle.protobuf_parse_elaboration.specs.Fields.{json_name_faults, field_options_faults}
use Rattle.protobuf_parse_elaboration.specs.Fields.{field_faults, field_named, map_faults}
use Rattle.protobuf_parse_elaboration.specs.Fields.{grouped_faults, group_faults}
use Rattle.protobuf_parse_elaboration.specs.Fields.{field_statement_faults, extension_faults}
use Rattle.protobuf_parse_elaboration.specs.Enums.{enum_values, options_of_enum, value_faults}
use Rattle.protobuf_parse_elaboration.specs.Enums.{enum_faults, value_named}
use Rattle.protobuf_parse_elaboration.specs.Services.{methods_in, options_of_method}
use Rattle.protobuf_parse_elaboration.specs.Services.{options_of_service, method_faults}
use Rattle.protobuf_parse_elaboration.specs.Services.{method_named, service_faults}
use Rattle.protobuf_parse_elaboration.specs.Messages.{options_in_oneof, extendee_faults}
use Rattle.protobuf_parse_elaboration.specs.Messages.{extend_faults, oneof_faults}
use Rattle.protobuf_parse_elaboration.specs.OptionSets.{a_set, sets_in_group, field_sets}
use Rattle.protobuf_parse_elaboration.specs.OptionSets.{oneof_sets, extend_sets, value_set}
use Rattle.protobuf_parse_elaboration.specs.OptionSets.{enum_sets, method_set, service_sets}
use Rattle.protobuf_parse_elaboration.proofs.SameNames.{with_customs}
use Rattle.protobuf_parse_elaboration.proofs.AddedFaults.{bare, Adds, adds-none, adds-nothing}
use Rattle.protobuf_parse_elaboration.proofs.AddedFaults.{adds-own, adds-both, adds-alone}
use Rattle.protobuf_parse_elaboration.proofs.AddedFaults.{adds-turned, adds-flat, adds-each}
use Rattle.protobuf_parse_elaboration.proofs.AddedFaults.{adds-options}

module _ (customs : Customs) where
  -- ---- fields

  -- a field
  field-adds : {name : Text} (env : Environment) (f : FieldSyntax)
      → Adds customs (field_faults (with_customs customs env) f) (field_faults (bare env) f)
      (a_set of.Field name env.scope f.options ∷ [])
  field-adds env f =
      let os = f.options in
      let named = default_faults (type_of env f.name f.type_).kind f.name os
      ++ json_name_faults os in
      adds-both customs (adds-nothing customs (placed f.place (type_faults env f.name f.type_)))
      (adds-both customs (adds-nothing customs named)
      (adds-both customs (adds-nothing customs (field_options_faults os))
      (adds-own customs of.Field env.scope os)))

  -- one of a group
  grouped-adds : (env : Environment) (within : Scope) (s : FieldStatementSyntax)
      → Adds customs (grouped_faults (with_customs customs env) s) (grouped_faults (bare env) s)
      (sets_in_group env.scope within s)
  grouped-adds env within (field f) =
      adds-both customs (adds-nothing customs (placed f.place (map_faults f))) (field-adds env f)
  grouped-adds env within (group at label name number fields) =
      adds-nothing customs (placed at (fault DanglingTypeName (group_field_name name)))

  -- those of a group
  group-adds : (env : Environment) (within : Scope) (ss : List FieldStatementSyntax)
      → Adds customs (group_faults (with_customs customs env) ss) (group_faults (bare env) ss)
      (flat_map (sets_in_group env.scope within) ss)
  group-adds env within ss =
      adds-alone customs
      (adds-flat customs (grouped_faults (with_customs customs env)) (grouped_faults (bare env))
      (sets_in_group env.scope within) ss (grouped-adds env within))
      (duplicates (map field_named ss))

  -- a field or a group in a message
  pub field-statement-adds : (env : Environment) (s : FieldStatementSyntax)
      → Adds customs (field_statement_faults (with_customs customs env) s)
      (field_statement_faults (bare env) s) (field_sets env.scope s)
  field-statement-adds env (field f) = field-adds env f
  field-statement-adds env (group at label name number fields) =
      group-adds env (inside env.scope name) (group_body fields)

  -- one in an `extend`
  extension-adds : (env : Environment) (s : FieldStatementSyntax)
      → Adds customs (extension_faults (with_customs customs env) s) (extension_faults (bare env) s)
      (field_sets env.scope s)
  extension-adds env (field f) =
      adds-both customs (adds-nothing customs (placed f.place (map_faults f))) (field-adds env f)
  extension-adds env (group at label name number fields) =
      group-adds env (inside env.scope name) (group_body fields)

  -- ---- oneofs and extensions

  -- a oneof, whose own options come first among its sets
  pub oneof-adds : (env : Environment) (o : OneofSyntax)
      → Adds customs (oneof_faults (with_customs customs env) o) (oneof_faults (bare env) o)
      (oneof_sets env.scope o)
  oneof-adds env o =
      adds-turned customs
      (adds-flat customs (field_statement_faults (with_customs customs env))
      (field_statement_faults (bare env)) (field_sets env.scope) (flat_map oneof_fields o.body)
      (field-statement-adds env))
      (adds-options customs env of.Oneof oneof_table (options_in_oneof o))

  -- custom options say nothing of an extendee
  extendee-same : (env : Environment) (extendee : Text) (ss : List FieldStatementSyntax)
      → extendee_faults (with_customs customs env) extendee ss
      ≡ extendee_faults (bare env) extendee ss
  extendee-same env extendee [] = refl
  extendee-same env extendee (s ∷ ss) = refl

  -- an `extend`
  pub extend-adds : (env : Environment) (e : ExtendSyntax)
      → Adds customs (extend_faults (with_customs customs env) e) (extend_faults (bare env) e)
      (extend_sets env.scope e)
  extend-adds env e =
      adds-both customs
      (adds-none customs (ap (placed e.place) (extendee-same env e.extendee e.fields)))
      (adds-flat customs (extension_faults (with_customs customs env)) (extension_faults (bare env))
      (field_sets env.scope) e.fields (extension-adds env))

  -- ---- enums and services

  -- a value
  value-adds : (env : Environment) (within : Scope) (v : EnumValueSyntax)
      → Adds customs (value_faults (with_customs customs env) v) (value_faults (bare env) v)
      (value_set env.scope within v ∷ [])
  value-adds env within v = adds-options customs env of.EnumValue enum_value_table v.options

  -- an enum
  pub enum-adds : (env : Environment) (e : EnumSyntax)
      → Adds customs (enum_faults (with_customs customs env) e) (enum_faults (bare env) e)
      (enum_sets env.scope e)
  enum-adds env e =
      let values = flat_map enum_values e.body in
      adds-turned customs
      (adds-alone customs
      (adds-each customs (value_faults (with_customs customs env)) (value_faults (bare env))
      (value_set env.scope (inside env.scope e.name)) values
      (value-adds env (inside env.scope e.name))) (duplicates (map value_named values)))
      (adds-options customs env of.Enum enum_table (options_of_enum e))

  -- a method
  method-adds : (env : Environment) (within : Scope) (m : MethodSyntax)
      → Adds customs (method_faults (with_customs customs env) m) (method_faults (bare env) m)
      (method_set env.scope within m ∷ [])
  method-adds env within m =
      adds-both customs
      (adds-nothing customs (placed m.place
      (type_missing env m.input
      ++ if_not_told (bytes_eq m.output m.input) (type_missing env m.output))))
      (adds-options customs env of.Method method_table (options_of_method m))

  -- a service
  pub service-adds : (env : Environment) (s : ServiceSyntax)
      → Adds customs (service_faults (with_customs customs env) s) (service_faults (bare env) s)
      (service_sets env.scope s)
  service-adds env s =
      let methods = flat_map methods_in s.body in
      adds-turned customs
      (adds-both customs (adds-nothing customs (duplicates (map method_named methods)))
      (adds-each customs (method_faults (with_customs customs env)) (method_faults (bare env))
      (method_set env.scope (inside env.scope s.name)) methods
      (method-adds env (inside env.scope s.name))))
      (adds-options customs env of.Service service_table (options_of_service s))
