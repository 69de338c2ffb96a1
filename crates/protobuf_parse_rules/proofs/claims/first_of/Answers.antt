use Rattle.std.proofs.Common.{◌≡◌, ℤ, sym, subst, ap, ◌∙◌, Some, None, Option, w32, rules}
use Rattle.std.proofs.Common.{to_z, of_z}
use Rattle.std.specs.Prelude.{option_map}
use Rattle.std.specs.Int.RustNames.{FitsSigned}
use Rattle.std.proofs.lemmas.Int.{to_z-of_z}
use Rattle.protobuf_parse_rules.specs.Claims.{Thing, Who, first_claim}
use Rattle.protobuf_parse_rules.specs.ClaimsKept.{Key, holder_view}
use Rattle.protobuf_parse_rules.proofs.Claiming.{who_of}
use Rattle.protobuf_parse_rules.proofs.claims.first_of.Goals as goal

pub returns-in-Some : goal.returns-in-Some
returns-in-Some c = λ before knows.
    let number = c.args.thing.number in
    let key : Key = (to_z w32 (of_z w32 number), c.args.thing.name, c.args.thing.scope) in
    let fits : FitsSigned w32 number = search rules in
    let thing = λ (n : ℤ). let t : Thing = record {
      number = n;
      name = c.args.thing.name.now;
      scope = c.args.thing.scope.now;
    } in t in
    subst (λ (n : ℤ). Some (holder_view c.in-Some.other.now)
    ≡ option_map who_of (first_claim before (thing n))) (to_z-of_z w32 number fits)
    (sym (ap (option_map holder_view) (sym c.in-Some.ensures.value)) ∙ knows key)

pub returns-in-None : goal.returns-in-None
returns-in-None c = λ before knows.
    let number = c.args.thing.number in
    let key : Key = (to_z w32 (of_z w32 number), c.args.thing.name, c.args.thing.scope) in
    let fits : FitsSigned w32 number = search rules in
    let nobody : Option Who = None in
    let thing = λ (n : ℤ). let t : Thing = record {
      number = n;
      name = c.args.thing.name.now;
      scope = c.args.thing.scope.now;
    } in t in
    subst (λ (n : ℤ). nobody ≡ option_map who_of (first_claim before (thing n)))
    (to_z-of_z w32 number fits)
    (sym (ap (option_map holder_view) (sym c.in-None.ensures.value)) ∙ knows key)
