use Rattle.std.proofs.Common.{List, ℕ, ap, sym, ◌∙◌, map}
use Rattle.std.specs.List.{list_any}
use Rattle.protobuf_parse_rules.specs.BodyViews.{body_view}
use Rattle.protobuf_parse_rules.specs.Keys.{name_key, packages_at}
use Rattle.protobuf_parse_rules.specs.KnownNames.{named_view}
use Rattle.protobuf_parse_rules.specs.Wanted.{has_key}
use Rattle.protobuf_parse_rules.proofs.WantedNames.{any_key}
use Rattle.protobuf_parse_rules.proofs.wanted_names.has_wanted_package.Goals as goal

pub returns : goal.returns
returns c =
    let keys : List ℕ = c.args.wanted.now.sorted.items in
    c.has_any.ensures
    ∙ ap (list_any (has_key keys))
    (c.deref-2.ensures.value
    ∙ c.in_ok-keys.ensures
    ∙ ap (λ ns. map name_key (map named_view ns)) c.deref.ensures.value
    ∙ ap (map name_key) c.in_ok-packages.ensures)
    ∙ sym (any_key keys (packages_at (body_view c.args.body.now)))
