use Rattle.std.proofs.Common.{◌≡◌, ◌∙◌, ap, map, Some, rules}
use Rattle.std.specs.Prelude.{string_bytes}
use Rattle.protobuf_parse.specs.Includes.{left_of, naming_of_rest, part_views}
use Rattle.protobuf_parse.proofs.Including.{misnamed-stands}
use Rattle.protobuf_parse.proofs.parser.includes.proto_path_of.Goals as goal

pub returns-in-Some-clause-stands : goal.returns-in-Some-clause-stands
returns-in-Some-clause-stands c =
    let is : left_of (map string_bytes c.args.includes.now) c.args.input.now
    ≡ Some (part_views c.in-Some.rest.now) = search rules in
    misnamed-stands _ _ c.in-Err.why _
    (λ other. ap naming_of_rest is ∙ c.in-Err.ensures.refused other) c.misnamed.ensures
