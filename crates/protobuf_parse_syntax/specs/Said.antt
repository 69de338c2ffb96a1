-- No public clause rests on this file.
-- Which version of the language and which path of a file a string says, as functions.
use Rattle.std.proofs.Common.{Bool, true, false, cond, List, Option, Some, None, bytes_eq, codes}
use Rattle.protobuf_parse_base.specs.Paths.{path_fault}
use Rattle.protobuf_parse_base.specs.declared.proto_path.error.PathError.{PathError}
use Rattle.protobuf_parse_lexer.specs.Decoder.{decode, text_of}
use Rattle.protobuf_parse_lexer.specs.Text.{Bytes}
use Rattle.protobuf_parse_syntax.specs.declared.tree.Syntax.{Syntax}
use Rattle.protobuf_parse_syntax.specs.declared.tree.Syntax.TheVariants.{Proto2, Proto3}

abbrev pub version_when : Option Bytes → Option Syntax
version_when None = None
version_when (Some v) =
    cond (bytes_eq v (codes "proto2")) (Some Proto2)
    (cond (bytes_eq v (codes "proto3")) (Some Proto3) None)

abbrev pub version_of : List Bytes → Option Syntax
version_of zs = version_when (decode zs)

abbrev pub is_path : Option PathError → Bool
is_path None = true
is_path (Some e) = false

abbrev pub path_when : Option Bytes → Option Bytes
path_when None = None
path_when (Some v) = cond (is_path (path_fault v)) (Some v) None

abbrev pub path_of : List Bytes → Option Bytes
path_of zs = path_when (text_of zs)
