-- The files that C hands over, and what a run may be answered for a path.
use Rattle.std.specs.Prelude.{◌≡◌, ℕ, List, [], ◌∷◌, Option, Some, None, Result, Ok, Err}
use Rattle.std.specs.Prelude.{bytes_eq, if◌then◌else◌}
use Rattle.protobuf_parse_model.specs.Descriptors.{Text}
use Rattle.protobuf_parse_run.specs.declared.fault.ResolveFault.{ResolveFault}
use Rattle.protobuf_parse_run.specs.declared.fault.ResolveFault.TheVariants as refused
use Rattle.protobuf_parse_run.specs.declared.source.ResolvedProtoFile.{ResolvedProtoFile}
use Rattle.protobuf_parse_c.specs.declared.shapes.PbFile.{PbFile}
use Rattle.protobuf_parse_c.specs.declared.shapes.PbText.{PbText}

-- a file in memory
pub record FileBytes : Type 0 where
  pub path : Text
  pub content : Text

-- its bytes, as C hands them over
abbrev pub file_bytes : PbFile → FileBytes
file_bytes f = record { path = f.path.now; content = f.content.now }

-- the bytes of a text that C hands over
abbrev pub text_bytes : PbText → Text
text_bytes t = t.bytes.now

-- the content of the first of the files that has the path
abbrev pub content_in : List FileBytes → (path : Text) → Option Text
content_in [] path = None
content_in (f ∷ fs) path =
    if bytes_eq f.path path then Some f.content else content_in fs path

-- What may be answered for a path: the file that was handed over, or that there is none, unless
-- memory is short.
abbrev pub IsOfHanded : Option Text → Result (Option ResolvedProtoFile) ResolveFault → Type 0
IsOfHanded (Some content) (Ok (Some file)) = file.content.items ≡ content
IsOfHanded (Some content) (Ok None) = ⊥
IsOfHanded (Some content) (Err (refused.CouldNotRead file)) = ⊥
IsOfHanded (Some content) (Err (refused.Refused reason)) = ⊥
IsOfHanded (Some content) (Err refused.Memory) = Unit {0}
IsOfHanded None (Ok (Some file)) = ⊥
IsOfHanded None (Ok None) = Unit {0}
IsOfHanded None (Err (refused.CouldNotRead file)) = ⊥
IsOfHanded None (Err (refused.Refused reason)) = ⊥
IsOfHanded None (Err refused.Memory) = Unit {0}
