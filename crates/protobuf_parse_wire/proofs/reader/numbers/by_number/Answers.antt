use Rattle.std.proofs.Common.{◌≡◌, ◌+◌, ◌≤◌, ◌++◌, ◌∷◌, [], List, suc, length, map, take, drop, ap}
use Rattle.std.proofs.Common.{subst, sym, ◌∙◌, append_assoc, arith}
use Rattle.std.proofs.lemmas.Result.{err_from_is_err_and}
use Rattle.protobuf_parse_model.specs.Descriptors.{FieldDescriptor, field_view}
use Rattle.protobuf_parse_wire.specs.Indexed.{IsByNumber}
use Rattle.protobuf_parse_wire.proofs.Adding.{mapped_one_more, mapped_all, mapped_cut}
use Rattle.protobuf_parse_wire.proofs.Distinct.{seen, numbers_are}
use Rattle.protobuf_parse_wire.proofs.reader.numbers.by_number.Goals as goal

pub returns-in_err-add_field : goal.returns-in_err-add_field
returns-in_err-add_field c =
    let fields = c.args.fields.now in
    let i = c.fields.field-index in
    let rest = map seen c.args.extensions.now in
    let cut = mapped_cut field_view fields i c.field-item.result c.fields-test.true c.field-item.is
    in
    let all : map field_view fields ++ rest ≡ map field_view (take i fields)
    ++ field_view c.field-item.result ∷ (map field_view (drop (suc i) fields) ++ rest) =
    ap (λ (xs : List FieldDescriptor). xs ++ rest) cut
    ∙ append_assoc (map field_view (take i fields))
    (field_view c.field-item.result ∷ map field_view (drop (suc i) fields)) rest in
    let p = err_from_is_err_and c.from_residual.result c.from_residual.ensures.1 in
    rw (p.1, p.2)
    (λ other.
    rw all (c.in_err-add_field.ensures
    (map field_view (take i fields)) c.fields.invariant other _))

pub returns-in_err-add_field-2 : goal.returns-in_err-add_field-2
returns-in_err-add_field-2 c =
    let extensions = c.args.extensions.now in
    let i = c.extensions.extension-index in
    let front = map field_view c.args.fields.now in
    let cut = mapped_cut seen extensions i c.extension-item.result c.extensions-test.true
    c.extension-item.is in
    let all : front ++ map seen extensions ≡ (front ++ map seen (take i extensions))
    ++ seen c.extension-item.result ∷ map seen (drop (suc i) extensions) =
    ap (λ (xs : List FieldDescriptor). front ++ xs) cut
    ∙ sym (append_assoc front (map seen (take i extensions))
    (seen c.extension-item.result ∷ map seen (drop (suc i) extensions))) in
    let p = err_from_is_err_and c.from_residual-in_err-add_field-2.result
    c.from_residual-in_err-add_field-2.ensures.1 in
    rw (p.1, p.2)
    (λ other.
    rw all (c.in_err-add_field-2.ensures
    (front ++ map seen (take i extensions)) c.extensions.invariant other _))

pub extensions-preserved : goal.extensions-preserved
extensions-preserved c =
    let extensions = c.args.extensions.now in
    let i = c.extensions.extension-index in
    let front = map field_view c.args.fields.now in
    let more = mapped_one_more seen extensions i c.extension-item.result c.extensions-test.true
    c.extension-item.is in
    let e : front ++ map seen (take i extensions) ++ seen c.extension-item.result ∷ [] ≡ front
    ++ map seen (take (i + 1) extensions) =
    append_assoc front (map seen (take i extensions)) (seen c.extension-item.result ∷ [])
    ∙ ap (λ (xs : List FieldDescriptor). front ++ xs) (sym more) in
    subst (λ (fs : List FieldDescriptor). IsByNumber c.add_field-in-extensions.new.numbers fs) e
    (c.in_ok-add_field-2.ensures (front ++ map seen (take i extensions)) c.extensions.invariant)

pub returns : goal.returns
returns c =
    let past : length c.args.extensions.now ≤ c.extensions.extension-index = omega arith in
    let all = mapped_all seen c.args.extensions.now c.extensions.extension-index past in
    numbers_are c.extensions.numbers _
    (subst (λ (fs : List FieldDescriptor). IsByNumber c.extensions.numbers
    (map field_view c.args.fields.now ++ fs)) all c.extensions.invariant)
