-- What a clause reads of each type of a name: its text, and for a path its identifiers.
use Rattle.std.specs.Prelude.{ℕ, List}
use Rattle.std.specs.String.{string_bytes}
use Rattle.protobuf_parse_base.specs.declared.names.ident.ProtobufIdentRef.{ProtobufIdentRef}
use Rattle.protobuf_parse_base.specs.declared.names.ident.ProtobufIdent.{ProtobufIdent}
use Rattle.protobuf_parse_base.specs.declared.names.relative.ProtobufRelPathRef.{ProtobufRelPathRef}
use Rattle.protobuf_parse_base.specs.declared.names.relative.ProtobufRelPath.{ProtobufRelPath}
use Rattle.protobuf_parse_base.specs.declared.names.absolute.ProtobufAbsPathRef.{ProtobufAbsPathRef}
use Rattle.protobuf_parse_base.specs.declared.names.absolute.ProtobufAbsPath.{ProtobufAbsPath}
use Rattle.protobuf_parse_base.specs.declared.names.components.Components.{Components}
use Rattle.protobuf_parse_base.specs.Names.{relative_idents, absolute_idents}

-- the text of a lent identifier
abbrev pub ident_ref_text : ProtobufIdentRef → List ℕ
ident_ref_text ident = ident.text.now

-- the text of an identifier
abbrev pub ident_text : ProtobufIdent → List ℕ
ident_text ident = string_bytes ident.text

-- the text of a lent relative path
abbrev pub rel_ref_text : ProtobufRelPathRef → List ℕ
rel_ref_text path = path.text.now

-- the identifiers of a lent relative path, in order
abbrev pub rel_ref_idents : ProtobufRelPathRef → List (List ℕ)
rel_ref_idents path = relative_idents (rel_ref_text path)

-- the text of a relative path
abbrev pub rel_text : ProtobufRelPath → List ℕ
rel_text path = string_bytes path.text

-- the identifiers of a relative path, in order
abbrev pub rel_idents : ProtobufRelPath → List (List ℕ)
rel_idents path = relative_idents (rel_text path)

-- the text of a lent absolute path, with its first dot
abbrev pub abs_ref_text : ProtobufAbsPathRef → List ℕ
abs_ref_text path = path.text.now

-- the identifiers of a lent absolute path, in order
abbrev pub abs_ref_idents : ProtobufAbsPathRef → List (List ℕ)
abs_ref_idents path = absolute_idents (abs_ref_text path)

-- the text of an absolute path, with its first dot
abbrev pub abs_text : ProtobufAbsPath → List ℕ
abs_text path = string_bytes path.text

-- the identifiers of an absolute path, in order
abbrev pub abs_idents : ProtobufAbsPath → List (List ℕ)
abs_idents path = absolute_idents (abs_text path)

-- the identifiers that are still to come
abbrev pub components_left : Components → List (List ℕ)
components_left components = rel_ref_idents components.rest
