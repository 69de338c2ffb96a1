-- A front is cut off where a dot follows it.
use Rattle.std.proofs.Common.{◌≡◌, ◌∷◌, ◌++◌, None, Some, sym, ap, ◌∙◌, lit<}
use Rattle.std.proofs.lemmas.Str.Pattern.{strip_prefix_char}
use Rattle.protobuf_parse_base.specs.Names.{absolute_idents, relative_idents}
use Rattle.protobuf_parse_base.proofs.NameTexts.{IsCutAbsolute, IsCutAbsolute-from_dot, front-none}
use Rattle.protobuf_parse_base.proofs.NameTexts.{front-no_dot, nonempty-from_test}
use Rattle.protobuf_parse_base.proofs.names.absolute.ProtobufAbsPathRef.remove_prefix.Goals as goal

pub returns-in_err-rest : goal.returns-in_err-rest
returns-in_err-rest c = rw c.from_residual.ensures
    (λ ids. front-none _ _ ids c.args.self.well_formed c.args.prefix.well_formed
    c.in_err-rest.ensures.cases)

pub returns-in_err-after_dot : goal.returns-in_err-after_dot
returns-in_err-after_dot c =
    let cut : c.args.self.text.now ≡ c.args.prefix.text.now ++ c.in_ok-rest.rest.now =
    c.in_ok-rest.ensures.cases.1.1
    ∙ ap (λ rest. c.args.prefix.text.now ++ rest) (sym c.in_ok-rest.ensures.cases.2) in
    rw c.from_residual-in_err-after_dot.ensures
    (λ ids. front-no_dot _ _ _ ids c.args.self.well_formed c.args.prefix.well_formed cut
    (nonempty-from_test _ c.if-is_empty.ensures)
    (strip_prefix_char 46 c.in_ok-rest.rest.now None c.in_err-after_dot.ensures.cases (lit< tt)))

-- the path is the front, a dot and the rest
cut : (c : goal.In_ok-after_dot)
    → IsCutAbsolute c.args.prefix.text.now c.in_ok-after_dot.after_dot.now c.args.self.text.now
cut c =
    let dot = strip_prefix_char 46 c.in_ok-rest.rest.now
    (Some c.in_ok-after_dot.after_dot) c.in_ok-after_dot.ensures.cases (lit< tt) in
    let whole : c.args.self.text.now ≡ c.args.prefix.text.now
    ++ (46 ∷ c.in_ok-after_dot.after_dot.now) =
    c.in_ok-rest.ensures.cases.1.1
    ∙ ap (λ rest. c.args.prefix.text.now ++ rest) (sym c.in_ok-rest.ensures.cases.2 ∙ dot) in
    IsCutAbsolute-from_dot _ _ _ whole c.args.self.well_formed

pub new-requires : goal.new-requires
new-requires c = (cut c).rest_is

pub returns : goal.returns
returns c =
    let dot = strip_prefix_char 46 c.in_ok-rest.rest.now
    (Some c.in_ok-after_dot.after_dot) c.in_ok-after_dot.ensures.cases (lit< tt) in
    let whole : c.args.self.text.now ≡ c.args.prefix.text.now
    ++ (46 ∷ c.in_ok-after_dot.after_dot.now) =
    c.in_ok-rest.ensures.cases.1.1
    ∙ ap (λ rest. c.args.prefix.text.now ++ rest) (sym c.in_ok-rest.ensures.cases.2 ∙ dot) in
    (IsCutAbsolute-from_dot _ _ _ whole c.args.self.well_formed).idents
    ∙ ap (λ rest. absolute_idents c.args.prefix.text.now ++ relative_idents rest)
    (sym c.new.ensures)
