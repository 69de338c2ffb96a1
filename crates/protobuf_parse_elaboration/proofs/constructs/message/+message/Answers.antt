use Rattle.std.proofs.Common.{◌≡◌, ◌∙◌, ◌+◌, ◌++◌, ◌<◌, ◌≤◌, [], ◌∷◌, List, ap, arith, flat_map}
use Rattle.std.proofs.Common.{length, map, sym, sum_by, take}
use Rattle.std.proofs.lemmas.List.{map_more}
use Rattle.protobuf_parse_base.specs.DeclaredNames.{name_bytes}
use Rattle.protobuf_parse_syntax.specs.Trees.{MessageStatementSyntax, MessageSyntax, nested_message}
use Rattle.protobuf_parse_syntax.specs.Trees.{message_syntax}
use Rattle.protobuf_parse_syntax.specs.InnerViews.{message_statement_syntax}
use Rattle.protobuf_parse_syntax.specs.Counts.{message_statement_count}
use Rattle.protobuf_parse_syntax.specs.declared.tree.declaration.MessageStatement.{MessageStatement}
use Rattle.protobuf_parse_syntax.proofs.Counts.{body_length, in_message_of, item_counts}
use Rattle.protobuf_parse_syntax.proofs.Counts.{message_counts}
use Rattle.protobuf_parse_syntax.proofs.Messages.{view_parts}
use Rattle.protobuf_parse_model.specs.SeenFiles.{environment_in, seen_types, name_texts}
use Rattle.protobuf_parse_model.specs.Declarations.{Scope}
use Rattle.protobuf_parse_model.specs.Descriptors.{Text, MessageDescriptor}
use Rattle.protobuf_parse_model.specs.Environment.{Environment, env_inside}
use Rattle.protobuf_parse_model.specs.Faults.{Fault, found}
use Rattle.protobuf_parse_model.proofs.TreeViews.{views_nested}
use Rattle.protobuf_parse_elaboration.specs.Parts.{body_of, body_view, with_body_statement}
use Rattle.protobuf_parse_elaboration.specs.Messages.{message_from, nested_of, statement_faults}
use Rattle.protobuf_parse_elaboration.specs.Messages.{whole_faults}
use Rattle.protobuf_parse_elaboration.proofs.Bodies.{body_more, few_more}
use Rattle.protobuf_parse_elaboration.proofs.Gathering.{if_ok, on_ok, told_more}
use Rattle.protobuf_parse_elaboration.proofs.Levels.{faults_of_message, nested_of_message}
use Rattle.protobuf_parse_elaboration.proofs.constructs.message.+message.Goals as goal

-- a message, by the body that its statements are
abbrev from_body : Environment → Text → List MessageStatementSyntax → MessageDescriptor
from_body env name body =
    message_from env name body (flat_map (nested_of (env_inside env name)) body)

abbrev faults_of_body : Environment → Text → List MessageStatementSyntax → List Fault
faults_of_body env name body =
    flat_map (statement_faults (env_inside env name)) body ++ whole_faults env name body

pub message_descriptor-returns-clause-value : goal.message_descriptor-returns-clause-value
message_descriptor-returns-clause-value g t c =
    let env = environment_in (g.C.CustomOptions.customs c.args.at.now.custom.now)
    c.args.at.now.context in
    let m = c.args.message.now in
    let named = ap (λ n. from_body env n (map message_statement_syntax c.deref-2.result.now))
    c.deref.ensures in
    let whole = ap (λ ss. from_body env (name_bytes m.name) (map message_statement_syntax ss))
    c.deref-2.ensures.value in
    let viewed = ap (λ (x : MessageSyntax). from_body env x.name x.body) (sym (view_parts m)) in
    if_ok c.message_of_body.result (λ d h. ap (λ x. x ∷ []) (h ∙ named ∙ whole ∙ viewed)
    ∙ sym (nested_of_message env (message_syntax m))) c.message_of_body.ensures.value

pub message_descriptor-returns-clause-faults : goal.message_descriptor-returns-clause-faults
message_descriptor-returns-clause-faults g t c =
    let env = environment_in (g.C.CustomOptions.customs c.args.at.now.custom.now)
    c.args.at.now.context in
    let m = c.args.message.now in
    let named = ap (λ n. faults_of_body env n (map message_statement_syntax c.deref-2.result.now))
    c.deref.ensures in
    let whole = ap (λ ss. faults_of_body env (name_bytes m.name) (map message_statement_syntax ss))
    c.deref-2.ensures.value in
    let viewed = ap (λ (x : MessageSyntax). faults_of_body env x.name x.body)
    (sym (view_parts m)) in
    on_ok c.message_of_body.result (λ h. h ∙ ap (λ fs. found c.args.faults.now ++ fs)
    (named ∙ whole ∙ viewed ∙ sym (faults_of_message env (message_syntax m))))
    c.message_of_body.ensures.faults

pub body_inside-returns-clause-value : goal.body_inside-returns-clause-value
body_inside-returns-clause-value g t c =
    let seen = c.args.at.now.context in
    let ss = map message_statement_syntax c.args.body.now in
    let at : Scope → Environment = λ s.
    record {
      syntax = seen.syntax;
      types = seen_types seen.seen;
      scope = s;
      customs =
          g.C.CustomOptions.customs c.args.at.now.custom.now;
    } in
    if_ok c.body_of.result (λ b h. h ∙ ap (λ s. body_of (at s) ss)
    (ap name_texts c.deref.ensures.value ∙ c.in_ok-scope.ensures)) c.body_of.ensures.value

pub body_inside-returns-clause-faults : goal.body_inside-returns-clause-faults
body_inside-returns-clause-faults g t c =
    let seen = c.args.at.now.context in
    let ss = map message_statement_syntax c.args.body.now in
    let at : Scope → Environment = λ s.
    record {
      syntax = seen.syntax;
      types = seen_types seen.seen;
      scope = s;
      customs =
          g.C.CustomOptions.customs c.args.at.now.custom.now;
    } in
    on_ok c.body_of.result (λ h. h
    ∙ ap (λ s. found c.args.faults.now ++ flat_map (statement_faults (at s)) ss)
    (ap name_texts c.deref.ensures.value ∙ c.in_ok-scope.ensures)) c.body_of.ensures.faults

pub body_of-loop-statement-preserved : goal.body_of-loop-statement-preserved
body_of-loop-statement-preserved g t c =
    let env = environment_in (g.C.CustomOptions.customs c.args.at.now.custom.now)
    c.args.at.now.context in
    let xs = c.args.statements.now in
    let i = c.loop-statement.statement-index in
    let s = c.statement-item.result in
    let seen = map message_statement_syntax (take i xs) in
    let more : map message_statement_syntax (take (i + 1) xs) ≡ seen ++ message_statement_syntax s
    ∷ [] = map_more message_statement_syntax xs i s c.loop-statement-test.true
    ∙ ap (λ z. seen ++ message_statement_syntax z ∷ []) (sym c.statement-item.is) in
    let added = c.in_ok-add_statement.ensures in
    record {
      told = told_more (statement_faults env) (found c.args.faults.now) _ _ seen
          (message_statement_syntax s) _ c.loop-statement.invariant.told added.faults more;
      few = few_more env c.loop-statement.body c.add_statement.new.body
          (message_statement_syntax s) i added.value c.loop-statement.invariant.few;
      all = added.value
          ∙ (ap (λ b. with_body_statement env b (message_statement_syntax s))
          c.loop-statement.invariant.all
          ∙ (body_more env seen (message_statement_syntax s) ∙ sym (ap (body_of env) more)));
    }

pub add_statement-returns-in-Message-clause-value : goal.add_statement-returns-in-Message-clause-value
add_statement-returns-in-Message-clause-value g t c =
    let env = environment_in (g.C.CustomOptions.customs c.args.at.now.custom.now)
    c.args.at.now.context in
    let is : message_statement_syntax c.args.statement.now
    ≡ nested_message (message_syntax c.in-Message.message) =
    ap message_statement_syntax c.in-Message.is ∙ views_nested c.in-Message.message in
    on_ok c.add_message.result (λ h. h
    ∙ ap (with_body_statement env (body_view c.args.body.now)) (sym is))
    c.add_message.ensures.value

pub add_statement-returns-in-Message-clause-faults : goal.add_statement-returns-in-Message-clause-faults
add_statement-returns-in-Message-clause-faults g t c =
    let env = environment_in (g.C.CustomOptions.customs c.args.at.now.custom.now)
    c.args.at.now.context in
    let is : message_statement_syntax c.args.statement.now
    ≡ nested_message (message_syntax c.in-Message.message) =
    ap message_statement_syntax c.in-Message.is ∙ views_nested c.in-Message.message in
    on_ok c.add_message.result (λ h. h
    ∙ ap (λ s. found c.args.faults.now ++ statement_faults env s) (sym is))
    c.add_message.ensures.faults

-- ---- each part has fewer statements than the whole

pub message_descriptor-message_of_body-requires : goal.message_descriptor-message_of_body-requires
message_descriptor-message_of_body-requires g t c =
    let same =
    ap (λ (ss : List MessageStatement). sum_by message_statement_count
    (map message_statement_syntax ss)) c.deref-2.ensures.value
    ∙ sym (in_message_of c.args.message.now) in
    λ κs l. (omega (arith, same, c.decreases), (l, omega (arith, same, c.requires.few)))

pub message_of_body-body_inside-requires : goal.message_of_body-body_inside-requires
message_of_body-body_inside-requires g t c =
    λ κs l. (omega (arith, c.requires.1.0), (l, c.requires.1.1.1))

pub body_inside-body_of-requires : goal.body_inside-body_of-requires
body_inside-body_of-requires g t c = λ κs l. (omega (arith, c.requires.1.0), (l, c.requires.1.1.1))

pub body_of-add_statement-requires : goal.body_of-add_statement-requires
body_of-add_statement-requires g t c =
    let xs = c.args.statements.now in
    let index = c.loop-statement.statement-index in
    let s = c.statement-item.result in
    let counted = item_counts message_statement_syntax message_statement_count xs index s
    c.loop-statement-test.true in
    let same = ap (λ (x : MessageStatement). message_statement_count (message_statement_syntax x))
    c.statement-item.is in
    let few : message_statement_count (message_statement_syntax s)
    ≤ 2147483647 = omega (arith, counted, same, c.requires.few) in
    let room : length c.loop-statement.body.oneof_decl.items
    < 2147483648 =
    omega (
      arith,
      body_length xs,
      c.loop-statement-test.true,
      c.loop-statement.invariant.few,
      c.requires.few,
    ) in
    λ κs l. (omega (arith, counted, same, c.decreases), (l, (room, few)))

pub add_statement-add_message-requires : goal.add_statement-add_message-requires
add_statement-add_message-requires g t c =
    let same = ap (λ (x : MessageStatement). message_statement_count (message_statement_syntax x))
    c.in-Message.is ∙ message_counts c.in-Message.message in
    λ κs l. (omega (arith, same, c.decreases), (l, omega (arith, same, c.requires.few)))

pub add_message-message_descriptor-requires : goal.add_message-message_descriptor-requires
add_message-message_descriptor-requires g t c =
    λ κs l. (omega (arith, c.decreases), (l, c.requires.few))
