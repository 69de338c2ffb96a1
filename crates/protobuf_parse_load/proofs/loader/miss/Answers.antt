use Rattle.std.proofs.Common.{◌≡◌, ℕ, refl, subst, ◌∙◌, length, arith}
use Rattle.std.specs.Prelude.{OnOk}
use Rattle.protobuf_parse_load.specs.Frames.{AddsStep}
use Rattle.protobuf_parse_load.specs.Requests.{asker_in, path_in}
use Rattle.protobuf_parse_load.specs.Steps.{is_unread, told}
use Rattle.protobuf_parse_load.proofs.Adding.{on_ok}
use Rattle.protobuf_parse_load.proofs.loader.miss.Goals as goal

pub returns : goal.returns
returns c =
    let count : c.len.result ≡ length c.args.loader.now.unread.items =
    omega (arith, c.len.ensures, c.args.loader.now.unread.ok.0) in record {
      reads = refl;
      files = refl;
      chain = refl;
      step = subst (λ (z : ℕ). OnOk c.tell.result
          (AddsStep c.args.loader.now.steps.list c.tell.new.steps.list
          (told (asker_in c.args.request.now) (path_in c.args.request.now) (is_unread z))))
          count c.tell.ensures.step;
      joined = c.tell.ensures.joined;
      file = on_ok c.tell.result
          (_, c.in_ok-push.ensures.items, c.in_ok-path.ensures.ok ∙ c.path_of.ensures, refl, refl);
    }
