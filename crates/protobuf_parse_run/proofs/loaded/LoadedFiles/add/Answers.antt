use Rattle.std.proofs.Common.{◌≡◌, List, ◌++◌, ◌∷◌, [], ◌∙◌, ap, arith, unwrap_or, length, sym}
use Rattle.std.proofs.Common.{string_bytes}
use Rattle.std.specs.BTreeMap.Entry.{map_with_value}
use Rattle.std.specs.BTreeMap.{get_by_text}
use Rattle.protobuf_parse_run.specs.Loaded.{LoadedList, number_in}
use Rattle.protobuf_parse_run.specs.Loading.{LoadedEntry}
use Rattle.protobuf_parse_run.proofs.Finding.{few-push, numbers-push}
use Rattle.protobuf_parse_run.proofs.loaded.LoadedFiles.add.Goals as goal

pub invariant_of-self-2 : goal.invariant_of-self-2
invariant_of-self-2 c =
    let old = c.self.inside in
    let e : LoadedEntry = (c.args.path, c.args.file) in
    let items : c.push_reserved.new.self.items ≡ old.entries.items ++ e ∷ [] =
    c.push_reserved.ensures.items ∙ ap (λ es. es ++ e ∷ []) c.reserve.ensures.items in
    let n = c.or_insert.result.now in
    let new = map_with_value c.in_ok-self-inside.field-0 n in
    let count : c.len-number.result ≡ length old.entries.items = c.len-number.ensures.len
    ∙ ap (λ (m : LoadedList). length m.entries) (sym c.self.view_is) in
    let had = get_by_text old.numbers (string_bytes c.in_ok-key.key) in
    let is : n ≡ unwrap_or had (length old.entries.items) =
    c.or_insert.ensures.value
    ∙ ap (λ o. unwrap_or o c.len-number.result) c.in_ok-self-inside.ensures.value
    ∙ ap (unwrap_or had) count in
    let has = numbers-push old.numbers new old.entries.items e c.in_ok-key.key n
    c.self.invariant.found c.in_ok-key.ensures.cases is (c.in_ok-self-inside.ensures.update.0 n) in
    record {
      found = rw items (λ q.
          let fact : get_by_text new q ≡ number_in q (old.entries.items ++ e ∷ []) = has q in
          grind (arith, fact));
      few = few-push old.entries.items e c.len-number.result _ count c.len-number.ensures.small
          c.if-number-eq-MOST.false items;
    }

pub returns-clause-added : goal.returns-clause-added
returns-clause-added c =
    c.push_reserved.ensures.items
    ∙ ap (λ (es : List LoadedEntry). es ++ (c.args.path, c.args.file) ∷ [])
    (c.reserve.ensures.items ∙ ap (λ (m : LoadedList). m.entries) c.self.view_is)
