use Rattle.std.proofs.Common.{◌≡◌, ℤ, [], ◌∷◌, ◌++◌, sym, subst, ap, ◌∙◌, Some, None, Option, w32}
use Rattle.std.proofs.Common.{rules}
use Rattle.std.proofs.Common.{to_z, of_z}
use Rattle.std.specs.Prelude.{option_map}
use Rattle.std.specs.Int.RustNames.{FitsSigned}
use Rattle.std.proofs.lemmas.Int.{to_z-of_z}
use Rattle.protobuf_parse_rules.specs.Claims.{Thing, Who, first_claim}
use Rattle.protobuf_parse_rules.specs.ClaimsKept.{Key, Knows, holder_view}
use Rattle.protobuf_parse_rules.proofs.Claiming.{knows_new, knows_held, who_of}
use Rattle.protobuf_parse_rules.proofs.claims.holder_of.Goals as goal

pub returns-in-Some : goal.returns-in-Some
returns-in-Some c = λ before knows.
    let number = c.args.thing.number in
    let key : Key = (to_z w32 (of_z w32 number), c.args.thing.name, c.args.thing.scope) in
    let fits : FitsSigned w32 number = search rules in
    let held = sym c.in-Some.ensures.value in
    let thing = λ (n : ℤ). let t : Thing = record {
      number = n;
      name = c.args.thing.name.now;
      scope = c.args.thing.scope.now;
    } in t in
    subst (λ (n : ℤ). Knows c.args.holders.now
    (before ++ record { thing = thing n; who = holder_view c.args.by } ∷ [])
    × (Some (holder_view c.in-Some.other.now)
    ≡ option_map who_of (first_claim before (thing n)))) (to_z-of_z w32 number fits) (
      knows_held c.args.holders.now key c.args.by before c.in-Some.other.now held knows,
      sym (ap (option_map holder_view) held) ∙ knows key,
    )

pub returns-in_ok-insert-in-None : goal.returns-in_ok-insert-in-None
returns-in_ok-insert-in-None c = λ before knows.
    let number = c.args.thing.number in
    let key : Key = (to_z w32 (of_z w32 number), c.args.thing.name, c.args.thing.scope) in
    let fits : FitsSigned w32 number = search rules in
    let absent = sym c.in-None.ensures.value in
    let thing = λ (n : ℤ). let t : Thing = record {
      number = n;
      name = c.args.thing.name.now;
      scope = c.args.thing.scope.now;
    } in t in
    let nobody : Option Who = None in
    subst (λ (n : ℤ). Knows c.insert.new.self
    (before ++ record { thing = thing n; who = holder_view c.args.by } ∷ [])
    × (nobody ≡ option_map who_of (first_claim before (thing n)))) (to_z-of_z w32 number fits) (
      knows_new c.args.holders.now key c.args.by before c.insert.new.self absent
          c.in_ok-insert-in-None.ensures.updates knows,
      sym (ap (option_map holder_view) absent) ∙ knows key,
    )
