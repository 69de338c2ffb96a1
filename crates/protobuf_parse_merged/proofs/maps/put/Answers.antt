use Rattle.std.proofs.Common.{◌∙◌, ap, refl}
use Rattle.std.specs.BTreeMap.{insert_entry}
use Rattle.protobuf_parse_merged.specs.Maps as spec
use Rattle.protobuf_parse_merged.specs.Inside.{value_view}
use Rattle.protobuf_parse_merged.specs.Keyed.{entries_seen}
use Rattle.protobuf_parse_merged.proofs.Keys.{seen_put}
use Rattle.protobuf_parse_merged.proofs.maps.put.Goals as goal

pub returns : goal.returns
returns c =
    ap entries_seen c.in_ok-insert.ensures.entries
    ∙ seen_put _ (λ a b. refl) c.args.entries.now.entries c.key_of-key.result c.args.value
    ∙ ap (λ (k : spec.Key). insert_entry spec.key_cmp (entries_seen c.args.entries.now.entries) k
    (value_view c.args.value)) c.key_of-key.ensures
