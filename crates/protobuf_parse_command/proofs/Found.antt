-- What is found first in the includes, as they are lent.
use Rattle.std.proofs.Common.{◌≡◌, List, map, string_bytes, Option, Result, String, Global, subst}
use Rattle.protobuf_parse_model.specs.Descriptors.{Text}
use Rattle.protobuf_parse_run.specs.declared.fault.ResolveFault.{ResolveFault}
use Rattle.protobuf_parse_run.specs.declared.source.ResolvedProtoFile.{ResolvedProtoFile}
use Rattle.protobuf_parse_command.specs.Finding.{MayFind}

-- the same of the includes themselves, and of the answer as it is known
pub found_in : (lent includes : List (String Global)) (path : Text)
    (answer known : Result (Option ResolvedProtoFile) ResolveFault)
    → lent ≡ includes → answer ≡ known
    → MayFind (map string_bytes lent) path answer → MayFind (map string_bytes includes) path known
found_in lent includes path answer known same is h =
    subst (λ is. MayFind (map string_bytes is) path known) same
    (subst (λ r. MayFind (map string_bytes lent) path r) is h)
