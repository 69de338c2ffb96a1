use Rattle.std.proofs.Common.{◌∙◌, ap, sym, subst, IsSorted, List, Bor, ℕ}
use Rattle.protobuf_parse_rules.specs.Ranges.{is_among}
use Rattle.protobuf_parse_rules.specs.Sets.{text_cmp, texts_of}
use Rattle.protobuf_parse_rules.proofs.Searching.{searched}
use Rattle.protobuf_parse_rules.proofs.words.Words.contains.Goals as goal

pub returns : goal.returns
returns c =
    let words : List (Bor (List ℕ)) = c.deref.result.now in
    let up : IsSorted text_cmp words = subst (λ (l : List (Bor (List ℕ))). IsSorted text_cmp l)
    (sym c.deref.ensures.value) c.args.self.now.rises in
    c.is_ok.ensures.value
    ∙ searched words c.args.text c.binary_search.result up c.binary_search.ensures.bound
    c.binary_search.ensures.position
    ∙ ap (λ (l : List (Bor (List ℕ))). is_among c.args.text.now (texts_of l)) c.deref.ensures.value
