use Rattle.std.proofs.Common.{List, [], ◌∷◌, ◌++◌, length, drop, map, sym, ap, ◌∙◌, lit<, arith}
use Rattle.std.proofs.Common.{append-nil}
use Rattle.std.proofs.Common.{string_bytes}
use Rattle.std.proofs.lemmas.Iterator.Consumers.{YieldsList-turn, YieldsList-end}
use Rattle.std.proofs.lemmas.Iterator.Splits.{YieldsList-from_str_split}
use Rattle.std.proofs.lemmas.List.{drop_all, length_push}
use Rattle.protobuf_parse_base.specs.Names.{dotted_parts}
use Rattle.protobuf_parse_rules.specs.KnownNames.{named_view}
use Rattle.protobuf_parse_model.specs.Descriptors.{Text}
use Rattle.protobuf_parse_wire.specs.Declarations.{name_within}
use Rattle.protobuf_parse_rules.specs.Names.{named_in, packages_named}
use Rattle.protobuf_parse_rules.specs.declared.kind.NamedKind.TheVariants as kind
use Rattle.protobuf_parse_rules.proofs.Packages.{fronts_turn}
use Rattle.protobuf_parse_rules.proofs.names.add_fronts.Goals as goal

pub parts-preserved : goal.parts-preserved
parts-preserved c =
    let whole = c.args.«package».now in
    let turn = YieldsList-turn
    (YieldsList-from_str_split {s = c.into_iter-part-iterator.result} 46 whole
    (lit< tt) (cc) (cc) (cc)) c.parts.yielded _ c.parts.yielded_by _ _ c.in-Some.part c.in-Some.is
    c.next.ensures.steps in
    let file = c.args.file.now in
    let scope = string_bytes c.parts.scope in
    let part = c.in-Some.part.now in
    let old = map named_view c.parts.names.items in
    let new = map named_view c.add.new.names.items in
    ap (λ n. new ++ packages_named file (string_bytes c.in_ok-inside.inside)
    (drop n (dotted_parts whole))) (length_push c.parts.yielded c.in-Some.part)
    ∙ fronts_turn file scope (string_bytes c.in_ok-inside.inside) (dotted_parts whole)
    (length c.parts.yielded) part old new _ turn
    (c.in_ok-add.ensures
    ∙ ap (λ (s : Text). old ++ named_in file s kind.Package part ∷ []) c.deref.ensures)
    (c.in_ok-inside.ensures ∙ ap (λ (s : Text). name_within s part) c.deref-in-parts.ensures)
    c.parts.invariant

pub returns : goal.returns
returns c =
    let whole = c.args.«package».now in
    let end = YieldsList-end
    (YieldsList-from_str_split {s = c.into_iter-part-iterator.result} 46 whole
    (lit< tt) (cc) (cc) (cc)) c.parts.yielded _ c.parts.yielded_by _ _ c.in-None.is
    c.next.ensures.steps in
    let names = map named_view c.parts.names.items in
    sym (append-nil names)
    ∙ ap (λ (ps : List Text).
    names ++ packages_named c.args.file.now (string_bytes c.parts.scope) ps)
    (sym (drop_all (length c.parts.yielded) (dotted_parts whole) (omega (arith, end.1))))
    ∙ c.parts.invariant
