use Rattle.std.proofs.Common.{◌≡◌, ◌∙◌, [], Some, None, cond, ap, sym}
use Rattle.std.specs.Prelude.{bytes_eq}
use Rattle.std.specs.Option.{option_or}
use Rattle.std.proofs.lemmas.Result.{on_ok_weaker}
use Rattle.std.proofs.lemmas.List.{nil_from_length}
use Rattle.protobuf_parse_source_info.specs.Parts.{at}
use Rattle.protobuf_parse_locations.specs.Kept.{part_kept}
use Rattle.protobuf_parse_locations.proofs.Putting.{or_none, part_eq, part_none}
use Rattle.protobuf_parse_locations.proofs.positions.put_location.Goals as goal

pub returns-in-Some : goal.returns-in-Some
returns-in-Some c =
    let number = c.in-Some.number.now in
    let before = c.in-Some.before.now in
    let old = c.args.positions.now in
    on_ok_weaker c.put_part.result
    (λ puts. λ q n. puts q n
    ∙ ap (λ b. option_or (part_kept old q n) (cond b (Some c.args.at) None))
    (sym (part_eq q before n number)
    ∙ ap (bytes_eq (at q n)) (sym c.in-Some.ensures.cases.0)))
    c.put_part.ensures

pub returns-in-None : goal.returns-in-None
returns-in-None c =
    let old = c.args.positions.now in
    let none : c.args.path.now ≡ [] = nil_from_length c.args.path.now c.in-None.ensures.cases in
    λ q n. sym (ap (λ b. option_or (part_kept old q n) (cond b (Some c.args.at) None))
    (ap (bytes_eq (at q n)) none ∙ part_none q n)
    ∙ or_none (part_kept old q n))
