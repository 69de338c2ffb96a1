use Rattle.std.proofs.Common.{◌≡◌, ◌++◌, ◌∷◌, [], List, Option, Some, None, cond, map, ap, sym}
use Rattle.std.proofs.Common.{◌∙◌}
use Rattle.std.specs.Prelude.{bytes_eq}
use Rattle.std.specs.Option.{option_or}
use Rattle.std.proofs.lemmas.List.{map_push}
use Rattle.protobuf_parse_model.specs.Descriptors.{Text}
use Rattle.protobuf_parse_wire_changes.specs.Kept.{pair_of, pairs_view}
use Rattle.protobuf_parse_wire_changes.specs.Partners.{Pair, partner_in}
use Rattle.protobuf_parse_wire_changes.proofs.Keeping.{one_more}
use Rattle.protobuf_parse_wire_changes.proofs.partners.add_pair.Goals as goal

pub returns-clause-kept : goal.returns-clause-kept
returns-clause-kept c =
    let before = pairs_view c.args.pairs.now in
    let pair : Pair = record { old = c.args.old.now; new = c.args.new.now } in
    let more : map pair_of c.push.new.self.items ≡ before ++ pair ∷ [] =
    rw c.in_ok-push.ensures.items (map_push pair_of c.args.pairs.now.list.items _) in
    record {
      at = λ name. c.in_ok-put_partner.ensures name
          ∙ ap (λ (o : Option Text).
          option_or o (cond (bytes_eq name pair.old) (Some pair.new) None)) (c.requires.at name)
          ∙ sym (ap (λ (ps : List Pair). partner_in ps name) more ∙ one_more before pair name);
    }
