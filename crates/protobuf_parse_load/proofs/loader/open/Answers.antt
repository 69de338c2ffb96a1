use Rattle.std.proofs.Common.{refl, ap, ◌∙◌}
use Rattle.std.specs.Prelude.{string_bytes}
use Rattle.protobuf_parse_run.specs.Loading.{chain_texts}
use Rattle.protobuf_parse_load.specs.declared.step.LoadStep.TheVariants as step
use Rattle.protobuf_parse_load.specs.Requests.{asker_in, path_in}
use Rattle.protobuf_parse_load.specs.Steps.{opened}
use Rattle.protobuf_parse_load.proofs.Adding.{texts-push}
use Rattle.protobuf_parse_load.proofs.loader.open.Goals as goal

pub returns : goal.returns
returns c = record {
  reads = refl;
  files = refl;
  unread = refl;
  step = (
    step.Opened c.in_ok-asker.asker c.in_ok-from_str.field-0,
    c.in_ok-push.ensures.ok,
    ap (λ z. opened z (string_bytes c.in_ok-from_str.field-0)) c.in_ok-asker.ensures
        ∙ ap (λ z. opened (asker_in c.args.request.now) z)
        (c.in_ok-from_str.ensures.ok ∙ c.path_of-path.ensures),
  );
  chain = ap chain_texts c.in_ok-push-2.ensures.items
      ∙ texts-push c.args.loader.now.chain.items c.in_ok-from_str-2.field-0
      (path_in c.args.request.now) (c.in_ok-from_str-2.ensures.ok ∙ c.path_of-path.ensures);
  file = (_, refl, c.in_ok-path.ensures.ok ∙ c.path_of-path.ensures, refl, refl);
}
