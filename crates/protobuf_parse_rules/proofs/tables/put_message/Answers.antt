use Rattle.std.proofs.Common.{refl, sym}
use Rattle.protobuf_parse_rules.specs.Known.{known_message, message_name}
use Rattle.protobuf_parse_rules.specs.Lookups.{NamedMessage}
use Rattle.protobuf_parse_rules.specs.BodyViews.{content_view}
use Rattle.protobuf_parse_rules.proofs.Naming.{finds_held, finds_new, same_message}
use Rattle.protobuf_parse_rules.proofs.tables.put_message.Goals as goal

pub returns-in-Some : goal.returns-in-Some
returns-in-Some c = λ before finds.
    let x : NamedMessage = record {
      file = c.args.file.now;
      name = c.args.name.now;
      what = content_view c.args.holds;
    } in
    finds_held known_message message_name c.args.messages.now before c.args.name c.keyed-key.result
    c.keyed-key.ensures x refl finds
    c.in-Some._first.now (sym c.in-Some.ensures.value)

pub returns-in_ok-insert-in-None : goal.returns-in_ok-insert-in-None
returns-in_ok-insert-in-None c = λ before finds.
    let x : NamedMessage = record {
      file = c.args.file.now;
      name = c.args.name.now;
      what = content_view c.args.holds;
    } in
    let made = c.in_ok-message-in-None.message in
    let facts = c.in_ok-message-in-None.ensures in
    finds_new known_message message_name c.args.messages.now before c.args.name c.keyed-key.result
    c.keyed-key.ensures x refl finds
    c.insert.new.self made (same_message (known_message made) x facts.0 facts.1 facts.2)
    (sym c.in-None.ensures.value) c.in_ok-insert-in-None.ensures.updates
