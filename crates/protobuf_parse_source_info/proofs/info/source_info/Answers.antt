use Rattle.std.proofs.Common.{List, ap, ap₂, ◌∙◌, map}
use Rattle.protobuf_parse_syntax.specs.Trees.{statement_syntax}
use Rattle.protobuf_parse_source_info.specs.Files.{file_walk, whole}
use Rattle.protobuf_parse_source_info.specs.Info.{location}
use Rattle.protobuf_parse_source_info.specs.Spots.{Spot}
use Rattle.protobuf_parse_source_info.specs.declared.token.Point.{Point}
use Rattle.protobuf_parse_source_info.proofs.info.source_info.Goals as goal

pub returns-clause-found : goal.returns-clause-found
returns-clause-found c = λ spots has.
    let text = c.args.text.now in
    let body = map statement_syntax c.args.tree.now.statements.items in
    let walked =
    rw (c.as_slice.ensures.value, c.as_slice-2.ensures.value) at c.in_ok-found.ensures in
    rw c.as_bytes.ensures.value at c.in_ok-location.ensures
    ∙ ap (map (location text))
    (walked
    ∙ ap₂ (λ (e : Point) (s : List Spot). (file_walk body (whole e s)).found)
    c.in_ok-tokens.ensures.end
    (c.in_ok-tokens.ensures.found spots has))
