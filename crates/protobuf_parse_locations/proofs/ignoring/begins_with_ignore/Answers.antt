use Rattle.std.proofs.Common.{◌∙◌, List, ℕ, ap, not, rules, sym, tests}
use Rattle.std.specs.Borrow.{Bor}
use Rattle.std.specs.List.{slice_split}
use Rattle.std.specs.Prelude.{bytes_eq, option_map}
use Rattle.std.proofs.lemmas.Iterator.Search.{find_from_yields_List}
use Rattle.std.proofs.lemmas.Iterator.Splits.{YieldsList-from_slice_split}
use Rattle.protobuf_parse_lexer.specs.Text.{Bytes}
use Rattle.protobuf_parse_locations.specs.Ignoring.{is_blank, is_empty}
use Rattle.protobuf_parse_locations.proofs.Words.{asks_first, first_word}
use Rattle.protobuf_parse_locations.proofs.ignoring.begins_with_ignore.Goals as goal

pub returns-in-Some : goal.returns-in-Some
returns-in-Some c =
    let test = λ (w : Bytes). not (is_empty w) in
    c.eq.ensures ∙ ap (bytes_eq c.in-Some.first.now) c.as_slice.ensures
    ∙ ap asks_first
    (ap (option_map (λ (w : Bor (List ℕ)). w.now)) (sym c.in-Some.is)
    ∙ find_from_yields_List test _ _ c.find-first.result c.find-first.ensures.ran
    (YieldsList-from_slice_split _ is_blank c.args.line.now c.split.ensures.rest
    c.split.ensures.done c.split.ensures.closure (λ x b q k. search (rules, tests)))
    (λ x b q k. search (rules, tests)))
    ∙ sym (first_word test (slice_split is_blank c.args.line.now))

pub returns-in-None : goal.returns-in-None
returns-in-None c =
    let test = λ (w : Bytes). not (is_empty w) in
    ap asks_first
    (ap (option_map (λ (w : Bor (List ℕ)). w.now)) (sym c.in-None.is)
    ∙ find_from_yields_List test _ _ c.find-first.result c.find-first.ensures.ran
    (YieldsList-from_slice_split _ is_blank c.args.line.now c.split.ensures.rest
    c.split.ensures.done c.split.ensures.closure (λ x b q k. search (rules, tests)))
    (λ x b q k. search (rules, tests)))
    ∙ sym (first_word test (slice_split is_blank c.args.line.now))
