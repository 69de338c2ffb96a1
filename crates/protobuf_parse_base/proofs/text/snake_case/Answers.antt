-- Each turn looks at the next character.
use Rattle.std.specs.Prelude.{encode_utf8_all}
use Rattle.std.proofs.Common.{◌≡◌, ◌++◌, length, drop, sym, ap, ◌∙◌}
use Rattle.std.proofs.lemmas.Iterator.{YieldsList-from_chars}
use Rattle.std.proofs.lemmas.Iterator.Consumers.{YieldsList-turn, YieldsList-end}
use Rattle.std.proofs.lemmas.List.{length_push}
use Rattle.std.proofs.lemmas.Str.{IsUtf8-string_bytes}
use Rattle.std.specs.Str.{chars}
use Rattle.std.specs.String.{string_bytes}
use Rattle.protobuf_parse_base.specs.Cases.{split_words, snake_case_text}
use Rattle.protobuf_parse_base.proofs.CaseTexts.{split_words-more, split_words-end}
use Rattle.protobuf_parse_base.proofs.CaseTexts.{snake_case_text-twice}
use Rattle.protobuf_parse_base.proofs.text.snake_case.Goals as goal

pub loop-character-preserved : goal.loop-character-preserved
loop-character-preserved c =
    let turn = YieldsList-turn (YieldsList-from_chars c.args.name.now c.utf8.name (cc))
    c.loop-character.yielded _ c.loop-character.yielded_by _ _ c.in-Some.character c.in-Some.is
    c.next.ensures.steps in
    ap (λ n. string_bytes c.push_lowered.new.split
    ++ encode_utf8_all
    (split_words c.is_lowercase-after_lower.result (drop n (chars c.args.name.now)))) (length_push
    c.loop-character.yielded c.in-Some.character)
    ∙ split_words-more c.loop-character.after_lower c.is_lowercase-after_lower.result
    (chars c.args.name.now) (length c.loop-character.yielded) c.in-Some.character
    (string_bytes c.loop-character.split)
    (string_bytes c.push_lowered.new.split) _ turn c.in_ok-push_lowered.ensures
    c.is_lowercase-after_lower.ensures c.loop-character.invariant

pub returns-clause-text : goal.returns-clause-text
returns-clause-text c =
    let end = YieldsList-end (YieldsList-from_chars c.args.name.now c.utf8.name (cc))
    c.loop-character.yielded _ c.loop-character.yielded_by _ _ c.in-None.is c.next.ensures.steps
    in
    split_words-end c.loop-character.after_lower (chars c.args.name.now)
    (length c.loop-character.yielded) (string_bytes c.loop-character.split) _
    (sym end.1) c.loop-character.invariant

pub returns-clause-idempotent : goal.returns-clause-idempotent
returns-clause-idempotent c =
    let text : string_bytes c.loop-character.split
    ≡ snake_case_text c.args.name.now = returns-clause-text c in
    snake_case_text-twice (string_bytes c.loop-character.split) c.args.name.now
    (IsUtf8-string_bytes c.loop-character.split) text
