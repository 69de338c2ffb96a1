-- A back is cut off where a dot precedes it.
use Rattle.std.proofs.Common.{◌≡◌, ◌∷◌, ◌++◌, [], None, Some, sym, ap, ◌∙◌, append_assoc, lit<}
use Rattle.std.specs.String.{string_bytes}
use Rattle.std.proofs.lemmas.Str.Pattern.{strip_suffix_char}
use Rattle.protobuf_parse_base.specs.Names.{absolute_idents, relative_idents}
use Rattle.protobuf_parse_base.proofs.NameTexts.{IsCutAbsolute-from_dot, back-none, back-no_dot}
use Rattle.protobuf_parse_base.proofs.NameTexts.{nonempty-from_idents}
use Rattle.protobuf_parse_base.proofs.names.absolute.ProtobufAbsPath.remove_suffix.Goals as goal

pub returns-in_err-front : goal.returns-in_err-front
returns-in_err-front c =
    let nonempty = nonempty-from_idents c.args.suffix.text.now c.if-is_empty.ensures.1 in
    rw c.from_residual.ensures
    (λ ids. back-none _ c.args.suffix.text.now ids c.args.self.now.well_formed nonempty
    (λ front e. c.in_err-front.ensures.cases front
    (c.as_str.ensures.value ∙ (e ∙ ap (λ back. front ++ back) (sym c.as_str-2.ensures.text)))))

pub returns-in_err-before_dot : goal.returns-in_err-before_dot
returns-in_err-before_dot c =
    let nonempty = nonempty-from_idents c.args.suffix.text.now c.if-is_empty.ensures.1 in
    let cut : string_bytes c.args.self.now.text ≡ c.in_ok-front.front.now ++ c.as_str-2.result.now =
    sym c.as_str.ensures.value
    ∙ (c.in_ok-front.ensures.cases.1.1
    ∙ ap (λ front. front ++ c.as_str-2.result.now) (sym c.in_ok-front.ensures.cases.2)) in
    rw c.from_residual-in_err-before_dot.ensures
    (λ ids. back-no_dot _ c.in_ok-front.front.now c.args.suffix.text.now ids
    c.args.self.now.well_formed nonempty
    (cut ∙ ap (λ back. c.in_ok-front.front.now ++ back) c.as_str-2.ensures.text)
    (strip_suffix_char 46 c.in_ok-front.front.now None c.in_err-before_dot.ensures.cases (lit< tt)))

pub new-requires : goal.new-requires
new-requires c =
    let cut : string_bytes c.args.self.now.text ≡ c.in_ok-front.front.now ++ c.as_str-2.result.now =
    sym c.as_str.ensures.value
    ∙ (c.in_ok-front.ensures.cases.1.1
    ∙ ap (λ front. front ++ c.as_str-2.result.now) (sym c.in_ok-front.ensures.cases.2)) in
    let dot = strip_suffix_char 46 c.in_ok-front.front.now
    (Some c.in_ok-before_dot.before_dot) c.in_ok-before_dot.ensures.cases (lit< tt) in
    let whole : string_bytes c.args.self.now.text ≡ c.in_ok-before_dot.before_dot.now
    ++ (46 ∷ c.as_str-2.result.now) =
    cut ∙ (ap (λ front. front ++ c.as_str-2.result.now) dot
    ∙ append_assoc c.in_ok-before_dot.before_dot.now (46 ∷ []) c.as_str-2.result.now) in
    (IsCutAbsolute-from_dot _ _ _ whole c.args.self.now.well_formed).front_is

pub returns : goal.returns
returns c =
    let cut : string_bytes c.args.self.now.text ≡ c.in_ok-front.front.now ++ c.as_str-2.result.now =
    sym c.as_str.ensures.value
    ∙ (c.in_ok-front.ensures.cases.1.1
    ∙ ap (λ front. front ++ c.as_str-2.result.now) (sym c.in_ok-front.ensures.cases.2)) in
    let dot = strip_suffix_char 46 c.in_ok-front.front.now
    (Some c.in_ok-before_dot.before_dot) c.in_ok-before_dot.ensures.cases (lit< tt) in
    let whole : string_bytes c.args.self.now.text ≡ c.in_ok-before_dot.before_dot.now
    ++ (46 ∷ c.as_str-2.result.now) =
    cut ∙ (ap (λ front. front ++ c.as_str-2.result.now) dot
    ∙ append_assoc c.in_ok-before_dot.before_dot.now (46 ∷ []) c.as_str-2.result.now) in
    (IsCutAbsolute-from_dot _ _ _ whole c.args.self.now.well_formed).idents
    ∙ (ap (λ back. absolute_idents c.in_ok-before_dot.before_dot.now ++ relative_idents back)
    c.as_str-2.ensures.text
    ∙ ap (λ front. absolute_idents front ++ relative_idents c.args.suffix.text.now)
    (sym c.new.ensures))
