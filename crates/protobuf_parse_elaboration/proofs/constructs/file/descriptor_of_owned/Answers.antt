use Rattle.std.proofs.Common.{◌≡◌, ◌∙◌, ◌++◌, ℕ, List, Option, Some, None, ap, option_map, refl}
use Rattle.std.specs.Borrow.{Bor}
use Rattle.protobuf_parse_lexer.specs.Text.{seen_by}
use Rattle.protobuf_parse_model.specs.Declarations.{scope_of_package}
use Rattle.protobuf_parse_syntax.specs.Trees.{file_syntax}
use Rattle.protobuf_parse_model.specs.SeenFiles.{seen_types, name_texts}
use Rattle.protobuf_parse_model.specs.Descriptors.{Text}
use Rattle.protobuf_parse_model.specs.Environment.{Environment}
use Rattle.protobuf_parse_model.specs.Faults.{found}
use Rattle.protobuf_parse_elaboration.specs.FileDescriptor.{file_faults, file_of}
use Rattle.protobuf_parse_elaboration.proofs.Gathering.{if_ok, on_ok}
use Rattle.protobuf_parse_elaboration.proofs.constructs.file.descriptor_of_owned.Goals as goal

-- what a lent text says
seen_is_map : (o : Option (Bor (List ℕ)))
    → seen_by (λ (z : Bor (List ℕ)). z.now) o ≡ option_map (λ (z : Bor (List ℕ)). z.now) o
seen_is_map None = refl
seen_is_map (Some z) = refl

pub returns-clause-value : goal.returns-clause-value
returns-clause-value g c =
    let t = file_syntax c.args.tree in
    let within : List Text → Environment = λ scope.
    record {
      syntax = t.syntax;
      types = seen_types c.args.seen.now;
      scope = scope;
      customs = g.C.CustomOptions.customs c.args.custom.now;
    } in
    if_ok c.owned_in.result (λ d h. h ∙ ap (λ scope. file_of (within scope) c.args.name.now t)
    (ap name_texts c.deref.ensures.value ∙ c.in_ok-scope.ensures
    ∙ ap scope_of_package (seen_is_map c.as_deref.result ∙ c.as_deref.ensures.value
    ∙ c.in_ok-package_name.ensures))) c.owned_in.ensures.value

pub returns-clause-faults : goal.returns-clause-faults
returns-clause-faults g c =
    let t = file_syntax c.args.tree in
    let within : List Text → Environment = λ scope.
    record {
      syntax = t.syntax;
      types = seen_types c.args.seen.now;
      scope = scope;
      customs = g.C.CustomOptions.customs c.args.custom.now;
    } in
    on_ok c.owned_in.result (λ h. h
    ∙ ap (λ scope. found c.args.faults.now ++ file_faults (within scope) t)
    (ap name_texts c.deref.ensures.value ∙ c.in_ok-scope.ensures
    ∙ ap scope_of_package (seen_is_map c.as_deref.result ∙ c.as_deref.ensures.value
    ∙ c.in_ok-package_name.ensures))) c.owned_in.ensures.faults
