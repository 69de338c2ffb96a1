use Rattle.std.proofs.Common.{◌≡◌, [], ◌++◌, List, ℕ, map, ap, sym, ◌∙◌, append-nil, arith}
use Rattle.std.specs.List.{flat_map}
use Rattle.std.proofs.lemmas.Bool.Decides.{nat_tests}
use Rattle.std.proofs.lemmas.List.{nil_from_length}
use Rattle.std.proofs.lemmas.Result.{on_ok_weaker}
use Rattle.protobuf_parse_rules.specs.BodyViews.{body_view}
use Rattle.protobuf_parse_rules.specs.Claims.{conflicts}
use Rattle.protobuf_parse_rules.specs.KnownNames.{named_view}
use Rattle.protobuf_parse_rules.specs.Names.{Named, name_claim, name_rule, names_at}
use Rattle.protobuf_parse_rules.specs.Rules.{breaches_told}
use Rattle.protobuf_parse_rules.specs.Runtimes.{runtime_breaches, runtimes_among}
use Rattle.protobuf_parse_rules.specs.Wanted.{has_key}
use Rattle.protobuf_parse_rules.proofs.Lite.{nothing_lite}
use Rattle.protobuf_parse_rules.proofs.Lone.{lone_names}
use Rattle.protobuf_parse_rules.proofs.WantedNames.{declared_same}
use Rattle.protobuf_parse_rules.proofs.walk.check_declared.Goals as goal

pub returns-then-not-have_lite : goal.returns-then-not-have_lite
returns-then-not-have_lite c =
    let all = map body_view c.args.bodies.now in
    let told = breaches_told c.args.told.now in
    let none : c.in_ok-doubled.doubled.items ≡ [] =
    nil_from_length _ (grind (arith, nat_tests, c.is_empty.ensures, c.if-is_empty.true)) in
    sym (append-nil told)
    ∙ ap (λ bs. told ++ ([] ++ bs))
    (sym (nothing_lite all (sym c.have_lite.ensures ∙ c.if-not-have_lite.true)))
    ∙ ap (λ bs. told ++ (bs ++ flat_map (runtime_breaches all) all))
    (sym (lone_names (flat_map names_at all)
    (λ k. c.in_ok-doubled.ensures k (ap (λ (ks : List ℕ). has_key ks k) none))))

pub returns : goal.returns
returns c =
    let all = map body_view c.args.bodies.now in
    let told = breaches_told c.args.told.now in
    let doubled : List ℕ = c.in_ok-doubled.doubled.items in
    let keys : List ℕ = c.in_ok-wanted.wanted.sorted.items in
    on_ok_weaker c.check_named.result
    (λ named. named
    ∙ ap (λ (ns : List Named). told ++ (conflicts name_rule [] (map name_claim ns)
    ++ flat_map (runtimes_among ns all) all))
    (ap (map named_view) c.deref.ensures.value ∙ c.in_ok-names.ensures)
    ∙ ap (λ bs. told ++ bs)
    (declared_same doubled keys all c.in_ok-doubled.ensures c.in_ok-wanted.ensures))
    c.check_named.ensures
