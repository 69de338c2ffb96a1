use Rattle.std.proofs.Common.{sym, ◌∙◌, subst, ap}
use Rattle.protobuf_parse_lexer.specs.Place.{after}
use Rattle.protobuf_parse_lexer.specs.Scan.{IsNarrow}
use Rattle.protobuf_parse_lexer.proofs.Ahead.{token_step, deep_step}
use Rattle.protobuf_parse_lexer.proofs.Cuts.{token_cut}
use Rattle.protobuf_parse_lexer.proofs.BehindSteps.{token_behinds, deep_behinds}
use Rattle.protobuf_parse_lexer.proofs.Narrow.{token_narrow}
use Rattle.protobuf_parse_lexer.proofs.lexer.tokenizer.Tokenizer.take.Goals as goal

pub returns-in_default-clause-tokens : goal.returns-in_default-clause-tokens
returns-in_default-clause-tokens c =
    c.end.ensures.tokens
    ∙ deep_step c.args.self.now.brackets.opened c.args.self.now.brackets.closed c.args.place
    c.args.front.now c.args.len c.args.kind c.requires.token c.in_default.ensures

pub split_at-requires : goal.split_at-requires
split_at-requires c =
    token_cut c.args.front.now c.args.len c.args.kind c.utf8.front c.requires.token

pub place_past-self-requires-clause-narrow : goal.place_past-self-requires-clause-narrow
place_past-self-requires-clause-narrow c =
    subst (IsNarrow c.args.kind) (sym (c.as_bytes.ensures.value ∙ c.split_at.ensures.front))
    (token_narrow c.args.front.now c.args.len c.args.kind c.requires.token)

pub returns-clause-tokens : goal.returns-clause-tokens
returns-clause-tokens c =
    token_step c.args.self.now.brackets.opened c.args.self.now.brackets.closed
    c.in-Some.brackets.opened c.in-Some.brackets.closed c.args.place c.place_past-self.result
    c.args.front.now c.split_at.result.0.now c.split_at.result.1.now c.args.len c.args.kind
    c.requires.token c.split_at.ensures.front c.split_at.ensures.back
    (c.place_past-self.ensures.value ∙ ap (after c.args.place) c.as_bytes.ensures.value)
    c.in-Some.ensures.0 c.in-Some.ensures.1 c.in-Some.ensures.2

pub returns-in_default-clause-behinds : goal.returns-in_default-clause-behinds
returns-in_default-clause-behinds c =
    c.end.ensures.behinds
    ∙ deep_behinds c.args.self.now.brackets.opened c.args.self.now.brackets.closed
    c.args.front.now c.args.len c.args.kind c.requires.token c.in_default.ensures

pub returns-clause-behinds : goal.returns-clause-behinds
returns-clause-behinds c =
    token_behinds c.args.self.now.brackets.opened c.args.self.now.brackets.closed
    c.in-Some.brackets.opened c.in-Some.brackets.closed
    c.args.front.now c.split_at.result.1.now c.args.len c.args.kind
    c.requires.token c.split_at.ensures.back
    c.in-Some.ensures.0 c.in-Some.ensures.1 c.in-Some.ensures.2
