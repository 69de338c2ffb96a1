use Rattle.std.proofs.Common.{ℕ, ◌+◌, List, [], get_or, map, take}
use Rattle.std.specs.Borrow.{Bor}
use Rattle.std.proofs.lemmas.List.{map_more}
use Rattle.protobuf_parse_model.specs.Descriptors.{file_view}
use Rattle.protobuf_parse_model.specs.SeenFiles.{name_texts}
use Rattle.protobuf_parse_name_rules.proofs.Packages.{packages_more}
use Rattle.protobuf_parse_name_rules.proofs.files.packages_of_seen.Goals as goal

pub seen-preserved : goal.seen-preserved
seen-preserved c = λ name.
    let seen = c.args.files.now.seen.now in
    let i = c.seen.path-index in
    let x = get_or seen i (record { ref_ptr = (0, 0); now = [] }) in
    packages_more name (map file_view c.args.files.now.index.now) (name_texts (take i seen)) x.now
    (name_texts (take (i + 1) seen)) _ _ (c.in_ok-add_seen.ensures name) (c.seen.invariant name)
    (map_more (λ (s : Bor (List ℕ)). s.now) seen i _ c.seen-test.true)
