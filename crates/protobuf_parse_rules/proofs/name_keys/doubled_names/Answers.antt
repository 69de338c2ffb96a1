use Rattle.std.proofs.Common.{◌++◌, List, ℕ, flat_map, map, false, sym, ap, ◌∙◌, subst}
use Rattle.protobuf_parse_rules.specs.BodyViews.{body_view}
use Rattle.protobuf_parse_rules.specs.Crowds.{HasTwice}
use Rattle.protobuf_parse_rules.specs.Keys.{keys_at}
use Rattle.protobuf_parse_rules.specs.Names.{Named, names_at}
use Rattle.protobuf_parse_rules.specs.Wanted.{has_key}
use Rattle.protobuf_parse_rules.proofs.Crowding.{once_of}
use Rattle.protobuf_parse_rules.proofs.Keyed.{other_keys_are, package_keys_are}
use Rattle.protobuf_parse_rules.proofs.Lone.{kept_once, lone_of}
use Rattle.protobuf_parse_rules.proofs.name_keys.doubled_names.Goals as goal

pub returns : goal.returns
returns c = λ k e.
    let once : List ℕ = c.dedup.new.self.items in
    let all = map body_view c.args.bodies.now in
    let named : List Named = flat_map names_at all in
    let keys : List ℕ = flat_map (keys_at false) named ++ once in
    let found : List ℕ = c.in_ok-found.found.items in
    let twice : HasTwice keys found = subst (λ (ks : List ℕ). HasTwice ks found)
    (c.deref.ensures.value ∙ c.in_ok-append.ensures.items
    ∙ ap (λ ks. ks ++ once) (c.in_ok-keys.ensures ∙ sym (other_keys_are all)))
    c.in_ok-found.ensures in
    lone_of named once k (once_of keys found twice k e)
    (λ there. kept_once c.in_ok-packages.packages.items c.sort_unstable.new.self.items once
    c.sort_unstable.ensures.permutation c.dedup.ensures.filtered k
    (ap (λ (ks : List ℕ). has_key ks k) (c.in_ok-packages.ensures ∙ sym (package_keys_are all))
    ∙ there))
