use Rattle.std.proofs.Common.{◌≡◌, ◌∙◌, ◌++◌, List, ap, string_bytes}
use Rattle.std.proofs.lemmas.Result.{on_ok_weaker}
use Rattle.protobuf_parse_model.specs.Descriptors.{FileDescriptor, Text, file_view}
use Rattle.protobuf_parse_set_rules.specs.Breaches.{SetBreach, Site}
use Rattle.protobuf_parse_set_rules.specs.Names.{package_scope}
use Rattle.protobuf_parse_set_rules.specs.Rules.{declared_breaches, file_site, own_breaches}
use Rattle.protobuf_parse_set_rules.specs.Sights.{Known, Sight, path_of, sight_of}
use Rattle.protobuf_parse_set_rules.specs.Held.{known_view, sight_view}
use Rattle.protobuf_parse_set_rules.specs.Views.{told}
use Rattle.protobuf_parse_set_rules.proofs.Lists.{told_more}
use Rattle.protobuf_parse_set_rules.proofs.files.check_file.Goals as goal

pub returns : goal.returns
returns c =
    let f : FileDescriptor = file_view c.args.file.now in
    let known : Known = known_view c.args.known.now in
    let n = c.args.position in
    let path : Text = path_of f in
    let scope : Text = package_scope f.«package» in
    let site : Text → Site = λ s. record { file = path; construct = s } in
    let sees : Sight = sight_view c.in_ok-sight.sight in
    let before : List SetBreach = told c.args.found.now in
    let own : List SetBreach = told c.check_own.new.found in
    let said : string_bytes c.in_ok-scope.scope ≡ scope = c.in_ok-scope.ensures in
    on_ok_weaker c.check_declared.result
    (λ added. told_more before own (told c.check_declared.new.found)
    (own_breaches known.paths n (file_site f) f)
    (declared_breaches (sight_of known n f) path scope f)
    (c.in_ok-check_own.ensures
    ∙ ap (λ (s : Text). before ++ own_breaches known.paths n (site s) f) (c.deref.ensures ∙ said))
    (added
    ∙ ap (λ (s : Text). own ++ declared_breaches sees path s f) (c.deref-2.ensures ∙ said)
    ∙ ap (λ (v : Sight). own ++ declared_breaches v path scope f) c.in_ok-sight.ensures))
    c.check_declared.ensures
