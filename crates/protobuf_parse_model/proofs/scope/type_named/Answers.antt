use Rattle.std.proofs.Common.{◌∙◌, ap, rules}
use Rattle.protobuf_parse_model.specs.SeenFiles.{name_texts, seen_types}
use Rattle.protobuf_parse_model.proofs.Scopes.{first_meant, first_meant-full_names}
use Rattle.protobuf_parse_model.proofs.Sights.{named_by_files}
use Rattle.protobuf_parse_model.proofs.scope.type_named.Goals as goal

pub names-init : goal.names-init
names-init c =
    let of = seen_types c.args.context.now.seen in
    ap (first_meant of) c.in_ok-names.ensures
    ∙ first_meant-full_names of (name_texts c.args.context.now.scope.now) c.args.name.now

pub returns-in-Some-clause-by_files : goal.returns-in-Some-clause-by_files
returns-in-Some-clause-by_files c files tells =
    named_by_files c.args.context.now c.args.name.now files tells _ (search rules)

pub returns-in-None-clause-by_files : goal.returns-in-None-clause-by_files
returns-in-None-clause-by_files c files tells =
    named_by_files c.args.context.now c.args.name.now files tells _ (search rules)
