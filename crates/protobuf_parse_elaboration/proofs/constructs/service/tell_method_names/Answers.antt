use Rattle.std.proofs.Common.{◌∙◌, Bor, List, ap, map, sym}
use Rattle.protobuf_parse_syntax.specs.Trees.{method_syntax}
use Rattle.protobuf_parse_syntax.specs.declared.tree.declaration.Method.{Method}
use Rattle.protobuf_parse_model.specs.Duplicates.{NamedAt}
use Rattle.protobuf_parse_elaboration.specs.Services.{method_named}
use Rattle.protobuf_parse_elaboration.specs.Parts.{methods_seen}
use Rattle.protobuf_parse_elaboration.proofs.Naming.{methods_named}
use Rattle.protobuf_parse_elaboration.proofs.Told.{each_alone, names_seen, same_length}
use Rattle.protobuf_parse_elaboration.proofs.constructs.service.tell_method_names.Goals as goal

-- what the methods declare
abbrev declared : List (Bor Method) → List NamedAt
declared xs = map method_named (methods_seen xs)

pub tell_repeated-requires : goal.tell_repeated-requires
tell_repeated-requires g c =
    let xs = c.args.methods.now in
    record {
      same = same_length (λ (m : Bor Method). (method_syntax m.now).name) xs _ (declared xs)
          (methods_named xs ∙ sym (names_seen method_named (methods_seen xs)))
          (c.deref.ensures.value ∙ c.in_ok-places.ensures
          ∙ ap (map (λ (d : NamedAt). d.place))
          (each_alone method_named (λ (x : Bor Method). method_syntax x.now) xs));
    }

pub returns : goal.returns
returns g c =
    let xs = c.args.methods.now in
    c.tell_repeated.ensures (declared xs)
    (methods_named xs ∙ sym (names_seen method_named (methods_seen xs)))
    (c.deref.ensures.value ∙ c.in_ok-places.ensures
    ∙ ap (map (λ (d : NamedAt). d.place))
    (each_alone method_named (λ (x : Bor Method). method_syntax x.now) xs))
