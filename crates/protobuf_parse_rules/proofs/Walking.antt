-- All bodies.
use Rattle.std.proofs.Common.{◌≡◌, ℕ, List, [], ◌∷◌, ◌++◌, refl, sym, ap, ◌∙◌, append_assoc, subst}
use Rattle.std.proofs.Common.{append-nil}
use Rattle.std.specs.List.{flat_map}
use Rattle.std.specs.BTreeMap.{BTreeMap}
use Rattle.std.specs.Global.{Vec}
use Rattle.std.proofs.lemmas.Grind.{flat_map-append}
use Rattle.protobuf_parse_rules.specs.Bodies.{BodyParts}
use Rattle.protobuf_parse_rules.specs.Claims.{Claim, conflicts}
use Rattle.protobuf_parse_rules.specs.ClaimsKept.{Claims, Key, Knows}
use Rattle.protobuf_parse_rules.specs.Numbers.{claims, number_rule}
use Rattle.protobuf_parse_rules.specs.Rules.{breaches_told}
use Rattle.protobuf_parse_rules.specs.Violations.{breaches_after}
use Rattle.protobuf_parse_rules.specs.ClaimsKept.{Checks, breaches_wanted}
use Rattle.protobuf_parse_rules.specs.Violations.{breaches_inside}
use Rattle.protobuf_parse_rules.specs.Wanted.{claims_wanted}
use Rattle.protobuf_parse_rules.specs.declared.claims.Holder.{Holder}
use Rattle.protobuf_parse_rules.specs.declared.violation.Violation.{Violation}
use Rattle.protobuf_parse_rules.proofs.Claiming.{conflicts-append, told_more}
use Rattle.protobuf_parse_rules.proofs.Counting.{nil_left, nil_right}

breaches_wanted-append : (keys : List ℕ) (all : List BodyParts) (before : List Claim)
    (ps qs : List BodyParts)
    → breaches_wanted keys all before (ps ++ qs)
    ≡ breaches_wanted keys all before ps
    ++ breaches_wanted keys all (before ++ flat_map (claims_wanted keys) ps) qs
breaches_wanted-append keys all before [] qs =
    ap (λ b. breaches_wanted keys all b qs) (sym (append-nil before))
breaches_wanted-append keys all before (p ∷ ps) qs =
    let there = claims_wanted keys p in
    let here = conflicts number_rule before there ++ breaches_inside all p in
    ap (λ bs. here ++ bs)
    (breaches_wanted-append keys all (before ++ there) ps qs
    ∙ ap (λ b. breaches_wanted keys all (before ++ there) ps ++ breaches_wanted keys all b qs)
    (append_assoc before there (flat_map (claims_wanted keys) ps)))
    ∙ sym (append_assoc here (breaches_wanted keys all (before ++ there) ps)
    (breaches_wanted keys all (before ++ flat_map (claims_wanted keys) (p ∷ ps)) qs))

-- Where no number is in use, what is told of bodies is what is wrong in each by itself.
pub inside_alone : (all : List BodyParts) (before : List Claim) (ps : List BodyParts)
    → conflicts number_rule before (flat_map claims ps) ≡ []
    → flat_map (breaches_inside all) ps ≡ breaches_after all before ps
inside_alone all before [] e = refl
inside_alone all before (p ∷ ps) e =
    let there = conflicts number_rule before (claims p) in
    let behind = conflicts number_rule (before ++ claims p) (flat_map claims ps) in
    let none : there ++ behind ≡ [] =
    sym (conflicts-append number_rule before (claims p) (flat_map claims ps)) ∙ e in
    ap (λ bs. breaches_inside all p ++ bs)
    (inside_alone all (before ++ claims p) ps (nil_right there behind none))
    ∙ ap (λ bs. (bs ++ breaches_inside all p) ++ breaches_after all (before ++ claims p) ps)
    (sym (nil_left there behind none))

module _ (keys : List ℕ) (all : List BodyParts) where
  pub checks_none : (m : BTreeMap Key Holder) (told : Vec Violation)
      → Checks keys all m m told told []
  checks_none m told = record {
    at = λ before knows. (
      subst (λ b. Knows m b) (sym (append-nil before)) knows,
      sym (append-nil (breaches_told told)),
    );
  }

  pub checks_more : (a b c : BTreeMap Key Holder) (t u v : Vec Violation) (ps qs : List BodyParts)
      → Checks keys all a b t u ps → Checks keys all b c u v qs
      → Checks keys all a c t v (ps ++ qs)
  checks_more a b c t u v ps qs p q = record {
    at = λ before knows.
        let first = p.at before knows in
        let second = q.at (before ++ flat_map (claims_wanted keys) ps) first.0 in (
          subst (λ b. Knows c b) (append_assoc before (flat_map (claims_wanted keys) ps)
              (flat_map (claims_wanted keys) qs)
              ∙ ap (λ z. before ++ z) (sym (flat_map-append (claims_wanted keys) ps qs))) second.0,
          told_more (breaches_told t) (breaches_told u) (breaches_told v) _ _ first.1 second.1
              ∙ ap (λ bs. breaches_told t ++ bs)
              (sym (breaches_wanted-append keys all before ps qs)),
        );
  }

  -- a body: its numbers, and then what is in it
  pub checks_one : (m n : BTreeMap Key Holder) (t u v : Vec Violation) (p : BodyParts)
      → Claims number_rule m n t u (claims_wanted keys p)
      → breaches_told v ≡ breaches_told u ++ breaches_inside all p
      → Checks keys all m n t v (p ∷ [])
  checks_one m n t u v p there inside = record {
    at = λ before knows.
        let both = there.at before knows in (
          subst (λ z. Knows n (before ++ z)) (sym (append-nil (claims_wanted keys p))) both.0,
          told_more (breaches_told t) (breaches_told u) (breaches_told v)
              (conflicts number_rule before (claims_wanted keys p)) (breaches_inside all p) both.1
              inside
              ∙ ap (λ bs. breaches_told t ++ bs)
              (sym (append-nil (conflicts number_rule before (claims_wanted keys p)
              ++ breaches_inside all p))),
        );
  }
