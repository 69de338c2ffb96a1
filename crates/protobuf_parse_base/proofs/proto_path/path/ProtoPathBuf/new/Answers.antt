-- A text has no fault exactly if it is a proto path.
use Rattle.std.proofs.Common.{◌≡◌, None, Some, refl, rules}
use Rattle.std.specs.String.{string_bytes}
use Rattle.protobuf_parse_base.specs.Paths.{path_fault}
use Rattle.protobuf_parse_base.proofs.PathTexts.{IsProtoPath-from_fault, path_fault-proto_path}
use Rattle.protobuf_parse_base.proofs.proto_path.path.ProtoPathBuf.new.Goals as goal

pub returns-in-Some-clause-accepted : goal.returns-in-Some-clause-accepted
returns-in-Some-clause-accepted c =
    let found : path_fault (string_bytes c.args.text) ≡ Some c.in-Some.fault = search rules in (
      λ ok. cc ok,
      λ fact. let none = path_fault-proto_path (string_bytes c.args.text) fact in
          cc (found, none),
    )

pub returns-in-None-clause-accepted : goal.returns-in-None-clause-accepted
returns-in-None-clause-accepted c =
    let none : path_fault (string_bytes c.args.text) ≡ None = search rules in
    (λ ok. IsProtoPath-from_fault (string_bytes c.args.text) none, λ fact. refl)
