use Rattle.std.proofs.Common.{◌≡◌, ◌≤◌, ◌+◌, ◌*◌, ◌++◌, length, map, sum_by, take, flat_map}
use Rattle.protobuf_parse_model.specs.Faults.{found}
use Rattle.protobuf_parse_syntax.specs.Counts.{in_message, message_statement_count}
use Rattle.protobuf_parse_syntax.specs.Trees.{message_syntax}
use Rattle.protobuf_parse_syntax.specs.InnerViews.{message_statement_syntax}
use Rattle.protobuf_parse_model.specs.SeenFiles.{environment_in}
use Rattle.protobuf_parse_elaboration.specs.Parts.{body_of, body_view}
use Rattle.protobuf_parse_elaboration.specs.Messages.{statement_faults}
use Rattle.protobuf_parse_elaboration.proofs.constructs.message.+message.Given as goal

abbrev pub invariant-body_of-loop-statement : goal.invariant-body_of-loop-statement
invariant-body_of-loop-statement g l =
    let env = environment_in (g.C.CustomOptions.customs l.at.custom.now) l.at.context in
    let seen = map message_statement_syntax (take l.statement-index l.statements) in
    record {
      told : found l.faults ≡ found l.initial.faults ++ flat_map (statement_faults env) seen;
      all : body_view l.body ≡ body_of env seen;
      few : length l.body.oneof_decl.items ≤ l.statement-index;
    }

-- how many statements there are, and how near the call is to the next statement's
abbrev pub decreases-message_descriptor : goal.decreases-message_descriptor
decreases-message_descriptor g l = 6 * in_message (message_syntax l.message.now) + 4

abbrev pub decreases-message_of_body : goal.decreases-message_of_body
decreases-message_of_body g l =
    6 * sum_by message_statement_count (map message_statement_syntax l.body.now) + 3

abbrev pub decreases-body_inside : goal.decreases-body_inside
decreases-body_inside g l =
    6 * sum_by message_statement_count (map message_statement_syntax l.body.now) + 2

abbrev pub decreases-body_of : goal.decreases-body_of
decreases-body_of g l =
    6 * sum_by message_statement_count (map message_statement_syntax l.statements.now) + 1

abbrev pub decreases-add_statement : goal.decreases-add_statement
decreases-add_statement g l = 6 * message_statement_count (message_statement_syntax l.statement.now)

abbrev pub decreases-add_message : goal.decreases-add_message
decreases-add_message g l = 6 * in_message (message_syntax l.message.now) + 5
