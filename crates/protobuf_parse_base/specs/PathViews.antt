-- What a clause reads of a proto path, its text, and of parts.
use Rattle.std.specs.Prelude.{ℕ, List, map}
use Rattle.std.specs.Borrow.{Bor}
use Rattle.std.specs.String.{string_bytes}
use Rattle.protobuf_parse_base.specs.declared.proto_path.path.ProtoPath.{ProtoPath}
use Rattle.protobuf_parse_base.specs.declared.proto_path.path.ProtoPathBuf.{ProtoPathBuf}

-- the text of a lent proto path
abbrev pub path_text : ProtoPath → List ℕ
path_text path = path.text.now

-- the text of a proto path
abbrev pub path_buf_text : ProtoPathBuf → List ℕ
path_buf_text path = string_bytes path.text

-- parts that are lent
abbrev pub part_texts : List (Bor (List ℕ)) → List (List ℕ)
part_texts parts = map (λ (p : Bor (List ℕ)). p.now) parts
