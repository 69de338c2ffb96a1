use Rattle.std.proofs.Common.{◌∙◌, ◌++◌, ◌∷◌, [], ap, append_assoc, sym}
use Rattle.std.proofs.lemmas.Grind.{flat_map-append}
use Rattle.protobuf_parse_model.specs.TableParts.{reached_faults}
use Rattle.protobuf_parse_model.proofs.linking.check_each_listed.Goals as goal

pub loop-file-preserved : goal.loop-file-preserved
loop-file-preserved c =
    let before = c.loop-file.invariant in
    let file = c.in-Some.file.now in
    let faults = reached_faults c.args.seen.now in
    record {
      seen = before.seen ++ file ∷ [];
      order = before.order ∙ ap (λ rest. before.seen ++ rest) c.in-Some.ensures.steps
          ∙ sym (append_assoc before.seen (file ∷ []) c.next.new.self);
      none = flat_map-append faults before.seen (file ∷ [])
          ∙ ap (λ fs. fs ++ (faults file ++ [])) before.none
          ∙ ap (λ fs. fs ++ []) c.in_ok-check_if_reached.ensures;
    }
