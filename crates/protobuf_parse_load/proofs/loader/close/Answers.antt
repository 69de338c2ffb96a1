use Rattle.std.proofs.Common.{◌≡◌, ◌+◌, suc, refl, ap, ◌∙◌, arith}
use Rattle.protobuf_parse_load.specs.declared.step.LoadStep.TheVariants as step
use Rattle.protobuf_parse_load.specs.Frames.{frame_path}
use Rattle.protobuf_parse_load.specs.Steps.{closed}
use Rattle.protobuf_parse_load.proofs.Adding.{popped-texts}
use Rattle.protobuf_parse_load.proofs.loader.close.Goals as goal

pub returns : goal.returns
returns c =
    let next : c.args.frame.height + 1 ≡ suc c.args.frame.height = omega arith in
    record {
      reads = refl;
      unread = refl;
      step = (
        step.Closed c.in_ok-path.path (c.args.frame.height + 1),
        c.in_ok-push.ensures.ok,
        ap (λ z. closed z (c.args.frame.height + 1)) c.in_ok-path.ensures.cases
            ∙ ap (closed (frame_path c.args.frame)) next,
      );
      files = c.in_ok-push-2.ensures.items;
      chain = λ chain is.
          popped-texts c.args.loader.now.chain.items c.pop.new.self.items _ chain
          (frame_path c.args.frame) c.pop.ensures.rest
          (omega (arith, c.args.loader.now.chain.ok.0)) is;
      height = next;
    }
