use Rattle.std.specs.Prelude.{encode_utf8_all}
use Rattle.std.proofs.Common.{◌≡◌, ◌++◌, ℕ, List, Some, length, drop, sym, ap, ◌∙◌}
use Rattle.std.proofs.lemmas.Iterator.{YieldsList-from_chars}
use Rattle.std.proofs.lemmas.Iterator.Consumers.{YieldsList-turn, YieldsList-end}
use Rattle.std.proofs.lemmas.List.{length_push}
use Rattle.std.specs.Str.{chars}
use Rattle.std.proofs.lemmas.Str.{IsUtf8-string_bytes}
use Rattle.std.specs.String.{string_bytes}
use Rattle.protobuf_parse_index.proofs.Spelled.{spelled-end, spelled-more, spelled-twice}
use Rattle.protobuf_parse_index.proofs.Spelled.{spelled_rest}
use Rattle.protobuf_parse_index.proofs.spellings.spelled.Goals as goal

pub characters-preserved : goal.characters-preserved
characters-preserved c =
    let turn = YieldsList-turn (YieldsList-from_chars c.args.name.now c.utf8.name (cc))
    c.characters.yielded _ c.characters.yielded_by _ _ c.in-Some.character c.in-Some.is
    c.next.ensures.steps in
    ap (λ n. string_bytes c.push_held.new.text
    ++ encode_utf8_all (spelled_rest c.args.upper c.characters.held (Some c.in-Some.character)
    (drop n (chars c.args.name.now)))) (length_push c.characters.yielded c.in-Some.character)
    ∙ spelled-more c.args.upper c.characters.before c.characters.held (chars c.args.name.now)
    (length c.characters.yielded) c.in-Some.character (string_bytes c.characters.text)
    (string_bytes c.push_held.new.text) _ turn c.in_ok-push_held.ensures c.characters.invariant

pub returns-clause-text : goal.returns-clause-text
returns-clause-text c =
    let end = YieldsList-end (YieldsList-from_chars c.args.name.now c.utf8.name (cc))
    c.characters.yielded _ c.characters.yielded_by _ _ c.in-None.is c.next.ensures.steps
    in
    spelled-end c.args.upper c.characters.before c.characters.held (chars c.args.name.now)
    (length c.characters.yielded) (string_bytes c.characters.text)
    (string_bytes c.push_held-2.new.text) _ (sym end.1) c.in_ok-push_held-2.ensures
    c.characters.invariant

pub returns-clause-idempotent : goal.returns-clause-idempotent
returns-clause-idempotent c =
    let text : List ℕ = string_bytes c.push_held-2.new.text in
    spelled-twice c.args.upper text c.args.name.now (IsUtf8-string_bytes c.push_held-2.new.text)
    (returns-clause-text c)
