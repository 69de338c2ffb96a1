use Rattle.std.proofs.Common.{◌≡◌, ◌∙◌, ap, map}
use Rattle.std.specs.Prelude.{string_bytes}
use Rattle.protobuf_parse_base.specs.PathViews.{path_buf_text}
use Rattle.protobuf_parse.specs.Includes.{part_views}
use Rattle.protobuf_parse.specs.Parsers.{includes_of, inputs_at}
use Rattle.protobuf_parse_run.specs.Run.{input_view}
use Rattle.protobuf_parse.proofs.Checking.{checked-over}
use Rattle.protobuf_parse.proofs.parser.builder.Parser.check_over_folders.Goals as goal

pub returns-in-Ok : goal.returns-in-Ok
returns-in-Ok g c =
    let folders : map string_bytes c.in_ok-resolver.resolver.includes.items
    ≡ includes_of c.args.self.now =
    c.in_ok-resolver.ensures.includes
    ∙ (ap part_views c.deref-2.ensures.value
    ∙ (c.in_ok-folders.ensures ∙ ap (map string_bytes) c.deref.ensures.value)) in
    let is = ap (map input_view) c.deref-4.ensures.value
    ∙ (c.in_ok-given.ensures
    ∙ ap (λ z. inputs_at (map path_buf_text c.args.names.now) (map string_bytes z))
    c.deref-3.ensures.value) in
    record {
      checked = checked-over _ _ _ _ c.check_inputs-log.result.reads.items _ _ _ c.in-Ok.check
          folders is c.bundled.ensures c.check_inputs-log.ensures.trees
          c.check_inputs-log.ensures.lists
          (rw c.in-Ok.is at c.check_inputs-log.ensures.told);
    }
