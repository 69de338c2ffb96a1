use Rattle.std.proofs.Common.{◌≡◌, ◌∙◌, ◌∷◌, ap, drop, false, sym}
use Rattle.protobuf_parse_model.specs.Lookup.{begins_with_dot}
use Rattle.protobuf_parse_model.specs.Outward.{names_outward}
use Rattle.protobuf_parse_model.specs.SeenFiles.{name_texts}
use Rattle.protobuf_parse_model.proofs.Scopes.{names_outward-first}
use Rattle.protobuf_parse_model.proofs.scope.outward.Outward.new.Goals as goal

pub returns : goal.returns
returns c =
    let scope = name_texts c.args.scope.now in
    let name = c.args.name.now in
    let relative : begins_with_dot name ≡ false = sym c.is_absolute.ensures
    ∙ c.if-is_absolute.false in
    rw relative (ap (λ first. first ∷ drop 1 (names_outward scope name)) c.in_ok-first-2.ensures
    ∙ sym (names_outward-first scope name))
