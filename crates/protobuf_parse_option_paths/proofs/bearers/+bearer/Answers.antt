use Rattle.std.proofs.Common.{◌∷◌, ◌∙◌, ap, get_or}
use Rattle.protobuf_parse_source_info.specs.Walks.{Path}
use Rattle.protobuf_parse_option_paths.proofs.Messages.{in_message, one_apart}
use Rattle.protobuf_parse_option_paths.proofs.bearers.+bearer.Goals as goal

pub message_bearer-returns : goal.message_bearer-returns
message_bearer-returns t c =
    in_message c.inside_bearer.result c.inside_bearer.new.scope.items c.args.scope.now.items
    c.push.new.self.items c.deref.result c.args.message.now c.deref-2.result _ _ _
    c.args.path.now
    (one_apart c.args.path.now c.in-len1-up.len_at_least
    ∙ ap (λ (q : Path). get_or c.args.path.now 0 0 ∷ q)
    (one_apart _ c.in-len1-up-inner.len_at_least))
    c.in_ok-push.ensures.items c.deref.ensures c.deref-2.ensures.value c.inside_bearer.ensures
