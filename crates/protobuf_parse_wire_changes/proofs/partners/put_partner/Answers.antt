use Rattle.std.proofs.Common.{◌∙◌, ap, sym}
use Rattle.std.specs.Option.{option_copied}
use Rattle.protobuf_parse_wire_changes.proofs.Keeping.{Seen, partner_put, partner_stays}
use Rattle.protobuf_parse_wire_changes.proofs.partners.put_partner.Goals as goal

pub returns-in_ok-insert-in-None : goal.returns-in_ok-insert-in-None
returns-in_ok-insert-in-None c =
    partner_put c.args.by_old.now c.insert.new.self c.in_ok-from_str-in-None.field-0 _ c.args.new
    c.in_ok-from_str-in-None.ensures.ok
    (sym (ap Seen (ap option_copied (sym c.in-None.is) ∙ c.get.ensures.value)))
    c.in_ok-insert-in-None.ensures.updates

pub returns-in-Some : goal.returns-in-Some
returns-in-Some c =
    partner_stays c.args.by_old.now c.args.old.now c.args.new.now c.in-Some.field-0.now.now
    (sym (ap Seen (ap option_copied (sym c.in-Some.is) ∙ c.get.ensures.value)))
