-- The path is cut at its last dot.
use Rattle.std.proofs.Common.{◌≡◌, ◌∷◌, ◌++◌, [], sym, ap, ◌∙◌, refl, take, length}
use Rattle.std.specs.String.{string_bytes}
use Rattle.std.proofs.lemmas.List.{take_at}
use Rattle.protobuf_parse_base.specs.Names.{is_absolute, absolute_idents, dotted_parts}
use Rattle.protobuf_parse_base.proofs.NameTexts.{IsCutAbsolute-from_dot, relative-one}
use Rattle.protobuf_parse_base.proofs.NameTexts.{absolute-one_part}
use Rattle.protobuf_parse_base.proofs.names.absolute.ProtobufAbsPath.pop.Goals as goal

pub returns-in_default-clause-root : goal.returns-in_default-clause-root
returns-in_default-clause-root c =
    let one : dotted_parts (string_bytes c.args.self.now.text) ≡ string_bytes c.args.self.now.text
    ∷ [] =
    rw c.as_str.ensures.value at c.in_default.ensures in
    absolute-one_part _ c.args.self.now.well_formed one

pub new-requires : goal.new-requires
new-requires c =
    let cut = IsCutAbsolute-from_dot c.in-Some.front.now c.in-Some.last.now _
    (sym c.as_str.ensures.value ∙ c.in-Some.ensures.0) c.args.self.now.well_formed in
    (relative-one c.in-Some.last.now cut.rest_is cut.nonempty c.in-Some.ensures.1).0

pub invariant_of-self : goal.invariant_of-self
invariant_of-self c =
    let whole : string_bytes c.args.self.now.text ≡ c.in-Some.front.now
    ++ (46 ∷ c.in-Some.last.now) = sym c.as_str.ensures.value ∙ c.in-Some.ensures.0 in
    let cut = IsCutAbsolute-from_dot c.in-Some.front.now c.in-Some.last.now _ whole
    c.args.self.now.well_formed in
    let left : string_bytes c.truncate.new.self ≡ c.in-Some.front.now =
    c.truncate.ensures.bytes
    ∙ (ap (λ text. take (length c.in-Some.front.now) text) whole
    ∙ take_at c.in-Some.front.now (46 ∷ c.in-Some.last.now) _ refl) in
    record { well_formed = ap is_absolute left ∙ cut.front_is }

pub returns-clause-popped : goal.returns-clause-popped
returns-clause-popped c =
    let whole : string_bytes c.args.self.now.text ≡ c.in-Some.front.now
    ++ (46 ∷ c.in-Some.last.now) = sym c.as_str.ensures.value ∙ c.in-Some.ensures.0 in
    let cut = IsCutAbsolute-from_dot c.in-Some.front.now c.in-Some.last.now _ whole
    c.args.self.now.well_formed in
    let left : string_bytes c.truncate.new.self ≡ c.in-Some.front.now =
    c.truncate.ensures.bytes
    ∙ (ap (λ text. take (length c.in-Some.front.now) text) whole
    ∙ take_at c.in-Some.front.now (46 ∷ c.in-Some.last.now) _ refl) in
    let one = relative-one c.in-Some.last.now cut.rest_is cut.nonempty c.in-Some.ensures.1 in
    cut.idents ∙ (ap (λ ids. absolute_idents c.in-Some.front.now ++ ids) one.1
    ∙ (ap (λ text. absolute_idents text ++ (c.in-Some.last.now ∷ [])) (sym left)
    ∙ ap (λ last. absolute_idents (string_bytes c.truncate.new.self) ++ (last ∷ []))
    (sym c.in_ok-last.ensures)))
