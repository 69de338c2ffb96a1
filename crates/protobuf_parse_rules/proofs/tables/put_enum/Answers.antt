use Rattle.std.proofs.Common.{sym, ◌∙◌}
use Rattle.protobuf_parse_rules.specs.Known.{enum_name, known_enum, owned_enum}
use Rattle.protobuf_parse_rules.proofs.Naming.{finds_held, finds_new, same_enum}
use Rattle.protobuf_parse_rules.proofs.tables.put_enum.Goals as goal

pub returns-in-Some : goal.returns-in-Some
returns-in-Some c = λ before finds.
    finds_held known_enum enum_name c.args.known.now before c.as_str-name.result c.keyed-key.result
    c.keyed-key.ensures (owned_enum c.args.each.now) (sym c.as_str-name.ensures.value) finds
    c.in-Some._first.now (sym c.in-Some.ensures.value)

pub returns-in_ok-insert-in-None : goal.returns-in_ok-insert-in-None
returns-in_ok-insert-in-None c = λ before finds.
    let facts = c.in_ok-one-in-None.ensures in
    finds_new known_enum enum_name c.args.known.now before c.as_str-name.result c.keyed-key.result
    c.keyed-key.ensures (owned_enum c.args.each.now) (sym c.as_str-name.ensures.value) finds
    c.insert.new.self c.in_ok-one-in-None.one
    (same_enum (known_enum c.in_ok-one-in-None.one) (owned_enum c.args.each.now)
    facts.0 (facts.1 ∙ c.as_str-name.ensures.value) facts.2 facts.3)
    (sym c.in-None.ensures.value) c.in_ok-insert-in-None.ensures.updates
