-- What custom options add to the faults of messages.
use Rattle.std.proofs.Common.{List, [], ◌∷◌, flat_map}
use Rattle.protobuf_parse_syntax.specs.Trees.{MessageStatementSyntax, message_oneof, message_extend}
use Rattle.protobuf_parse_syntax.specs.Trees.{message_message, message_enum, message_field}
use Rattle.protobuf_parse_syntax.specs.Trees.{MessageStatementList, no_statements, more_statements}
use Rattle.protobuf_parse_model.specs.Declarations.{full_name}
use Rattle.protobuf_parse_model.specs.declared.customs.Construct.TheVariants as of
use Rattle.protobuf_parse_model.specs.Descriptors.{Text}
use Rattle.protobuf_parse_model.specs.Statements.{message_body}
use Rattle.protobuf_parse_model.specs.Environment.{Environment, Customs, env_inside}
use Rattle.protobuf_parse_model.specs.BuiltinOptions.{message_table}
use Rattle.protobuf_parse_elaboration.specs.Messages.{range_faults, options_of_body}
use Rattle.protobuf_parse_elaboration.specs.Messages.{body_duplicates, whole_faults}
use Rattle.protobuf_parse_elaboration.specs.Messages.{statement_faults, faults_in}
use Rattle.protobuf_parse_elaboration.specs.OptionSets.{a_set, sets_of, sets_in}
use Rattle.protobuf_parse_elaboration.proofs.SameNames.{with_customs}
use Rattle.protobuf_parse_elaboration.proofs.AddedFaults.{bare, Adds, adds-nothing, adds-both}
use Rattle.protobuf_parse_elaboration.proofs.AddedFaults.{adds-turned, adds-options}
use Rattle.protobuf_parse_elaboration.proofs.ConstructSets.{field-statement-adds, oneof-adds}
use Rattle.protobuf_parse_elaboration.proofs.ConstructSets.{extend-adds, enum-adds}

module _ (customs : Customs) where
  -- a message but for its statements
  whole-adds : (env : Environment) (name : Text) (body : List MessageStatementSyntax)
      → Adds customs (whole_faults (with_customs customs env) name body)
      (whole_faults (bare env) name body)
      (a_set of.Message (full_name env.scope name) env.scope (options_of_body body) ∷ [])
  whole-adds env name body =
      adds-both customs (adds-nothing customs (body_duplicates env.syntax body))
      (adds-both customs (adds-nothing customs (flat_map (range_faults name) body))
      (adds-options customs env of.Message message_table (options_of_body body)))

  mutual
    -- a statement of a body
    pub statement-adds : (env : Environment) (s : MessageStatementSyntax)
        → Adds customs (statement_faults (with_customs customs env) s)
        (statement_faults (bare env) s) (sets_of env.scope s)
    statement-adds env (message_message at name body) =
        adds-turned customs (statements-add (env_inside env name) body)
        (whole-adds env name (message_body body))
    statement-adds env (message_field f) = field-statement-adds customs env f
    statement-adds env (message_oneof o) = oneof-adds customs env o
    statement-adds env (message_extend e) = extend-adds customs env e
    statement-adds env (message_enum e) = enum-adds customs env e
    statement-adds env _ = adds-nothing customs []

    -- all statements of a body
    statements-add : (env : Environment) (ss : MessageStatementList)
        → Adds customs (faults_in (with_customs customs env) ss) (faults_in (bare env) ss)
        (sets_in env.scope ss)
    statements-add env no_statements = adds-nothing customs []
    statements-add env (more_statements s ss) =
        adds-both customs (statement-adds env s) (statements-add env ss)
