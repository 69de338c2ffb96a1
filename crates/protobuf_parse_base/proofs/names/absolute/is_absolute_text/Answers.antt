-- A path that is not empty begins with a dot.
use Rattle.std.proofs.Common.{◌≡◌, None, Some, sym, ap, ◌∙◌, lit<}
use Rattle.std.proofs.lemmas.Str.Pattern.{strip_prefix_char}
use Rattle.protobuf_parse_base.specs.Names.{is_absolute}
use Rattle.protobuf_parse_base.proofs.NameTexts.{IsAbsolute-from_test, is_absolute-from_fact}
use Rattle.protobuf_parse_base.proofs.NameTexts.{is_absolute-no_dot}
use Rattle.protobuf_parse_base.proofs.names.absolute.is_absolute_text.Goals.{After-parts_are_idents}
use Rattle.protobuf_parse_base.proofs.names.absolute.is_absolute_text.Goals as goal

-- what the parts after the dot say of the whole
test : (c : After-parts_are_idents) → c.parts_are_idents.result ≡ is_absolute c.args.text.now
test c =
    let dot = strip_prefix_char 46 c.args.text.now (Some c.in-Some.rest) c.in-Some.ensures.cases
    (lit< tt) in
    c.parts_are_idents.ensures ∙ ap is_absolute (sym dot)

pub returns-in-Some-clause-meaning : goal.returns-in-Some-clause-meaning
returns-in-Some-clause-meaning c = (
  λ accepted. IsAbsolute-from_test c.args.text.now (sym (test c) ∙ accepted),
  λ fact. test c
      ∙ is_absolute-from_fact c.args.text.now fact,
)

pub returns-in-None-clause-test : goal.returns-in-None-clause-test
returns-in-None-clause-test c =
    c.is_empty.ensures
    ∙ is_absolute-no_dot c.args.text.now
    (strip_prefix_char 46 c.args.text.now None c.in-None.ensures.cases (lit< tt))

pub returns-in-None-clause-meaning : goal.returns-in-None-clause-meaning
returns-in-None-clause-meaning c =
    let test : c.is_empty.result ≡ is_absolute c.args.text.now = returns-in-None-clause-test c in (
      λ accepted. IsAbsolute-from_test c.args.text.now (sym test ∙ accepted),
      λ fact. test
          ∙ is_absolute-from_fact c.args.text.now fact,
    )
