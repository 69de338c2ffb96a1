use Rattle.std.proofs.Common.{◌≡◌, ◌∙◌, ap, map, subst, sym}
use Rattle.std.specs.Prelude.{IfErr, string_bytes}
use Rattle.protobuf_parse_base.specs.PathViews.{path_buf_text}
use Rattle.protobuf_parse.specs.Includes.{part_views}
use Rattle.protobuf_parse.specs.Folders.{MayFind}
use Rattle.protobuf_parse.specs.Outcomes.{RanOverFolders}
use Rattle.protobuf_parse.specs.Parsers.{MayReadAnything, bundled_of, includes_of, inputs_at}
use Rattle.protobuf_parse.specs.Parsers.{inputs_of}
use Rattle.protobuf_parse_run.specs.Run.{IsCaused, input_view}
use Rattle.protobuf_parse.proofs.Building.{caused-over, ran-over}
use Rattle.protobuf_parse.proofs.Sourcing.{caused-run}
use Rattle.protobuf_parse.proofs.parser.builder.Parser.run_with_reads.Goals as goal

pub returns-clause-ran : goal.returns-clause-ran
returns-clause-ran g c =
    let folders : map string_bytes c.in_ok-resolver.resolver.includes.items
    ≡ includes_of c.args.self.now =
    c.in_ok-resolver.ensures.includes
    ∙ (ap part_views c.deref-2.ensures.value
    ∙ (c.in_ok-folders.ensures ∙ ap (map string_bytes) c.deref.ensures.value)) in
    let is = ap (map input_view) c.deref-4.ensures.value
    ∙ (c.in_ok-given.ensures
    ∙ ap (λ z. inputs_at (map path_buf_text c.args.names.now) (map string_bytes z))
    c.deref-3.ensures.value) in
    subst (RanOverFolders (bundled_of c.args.self.now) (includes_of c.args.self.now)
    (inputs_of c.args.self.now) (map path_buf_text c.args.names.now)) (sym c.with_reads.ensures)
    (ran-over _ _ _ _ c.run_inputs.result.reads.items _ _ _ _ folders is c.bundled.ensures
    c.run_inputs.ensures.trees c.run_inputs.ensures.told)

pub returns-clause-caused : goal.returns-clause-caused
returns-clause-caused g c =
    let folders : map string_bytes c.in_ok-resolver.resolver.includes.items
    ≡ includes_of c.args.self.now =
    c.in_ok-resolver.ensures.includes
    ∙ (ap part_views c.deref-2.ensures.value
    ∙ (c.in_ok-folders.ensures ∙ ap (map string_bytes) c.deref.ensures.value)) in
    caused-run _ c.with_reads.result
    (subst (λ r. IfErr r (IsCaused (MayFind (includes_of c.args.self.now)) MayReadAnything))
    (sym c.with_reads.ensures)
    (caused-over _ _ c.run_inputs.result.result folders c.run_inputs.ensures.caused))
