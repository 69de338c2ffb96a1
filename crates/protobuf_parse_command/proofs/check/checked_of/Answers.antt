use Rattle.std.proofs.Common.{◌∙◌, ◌++◌, List, ap, refl, subst}
use Rattle.protobuf_parse_base.specs.declared.proto_path.path.ProtoPathBuf.{ProtoPathBuf}
use Rattle.protobuf_parse_diagnostics.specs.Arranged.{IsArranged}
use Rattle.protobuf_parse_diagnostics.specs.Later.{AreLater}
use Rattle.protobuf_parse_diagnostics.specs.declared.diagnostic.Diagnostic.{Diagnostic}
use Rattle.protobuf_parse_command.proofs.check.checked_of.Goals as goal

pub returns : goal.returns
returns g c =
    let faults = c.in_ok-check_diagnostics.field-0.items in
    let later = c.in_ok-later_diagnostics.field-0.items in
    let texts = c.in_ok-told_texts.field-0.items in
    let unsound = c.in_ok-unsound.unsound.items in
    let rules = c.in_ok-told_rules.field-0.items in
    let names = c.in_ok-told_names.field-0.items in
    let added = c.in_ok-append-6.ensures.items
    ∙ ap (λ (z : List Diagnostic). z ++ names) (c.in_ok-append-5.ensures.items
    ∙ ap (λ (z : List Diagnostic). z ++ rules) (c.in_ok-append-4.ensures.items
    ∙ ap (λ (z : List Diagnostic). z ++ unsound) (c.in_ok-append-3.ensures.items
    ∙ ap (λ (z : List Diagnostic). z ++ texts) (c.in_ok-append-2.ensures.items
    ∙ ap (λ (z : List Diagnostic). z ++ later) c.in_ok-append.ensures.items)))) in
    record {
      check = c.in_ok-check.check;
      done = c.in_ok-check.was;
      sources = c.in_ok-sources.sources;
      faults = faults;
      faults_told = c.in_ok-check_diagnostics.ensures;
      later = later;
      later_told = subst (λ u. AreLater c.in_ok-sources.sources u later)
          c.deref-2.ensures.value c.in_ok-later_diagnostics.ensures;
      texts = texts;
      texts_told = c.in_ok-told_texts.ensures;
      unsound = unsound;
      unsound_told = c.in_ok-unsound.ensures;
      rules = rules;
      rules_told = c.in_ok-told_rules.ensures;
      names = names;
      names_told = c.in_ok-told_names.ensures;
      told = subst (λ (z : List Diagnostic). IsArranged _ z c.arrange.new.diagnostics.items) added
          c.in_ok-arrange.ensures;
      files = c.in_ok-files.ensures.files;
      named = refl {A = List ProtoPathBuf};
    }
