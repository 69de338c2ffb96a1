-- No public clause rests on this file.
-- The functions that say which version and which path a string says agree with the relations of
-- `Grammar`, both ways.
use Rattle.std.proofs.Common.{◌≡◌, Bool, true, false, cond, List, Option, Some, None, bytes_eq}
use Rattle.std.proofs.Common.{codes, refl, ap, subst, ◌∙◌}
use Rattle.std.proofs.lemmas.Slice.Eq.{bytes_eq-Decides}
use Rattle.protobuf_parse_base.proofs.PathTexts.{IsProtoPath-from_fault, path_fault-proto_path}
use Rattle.protobuf_parse_base.specs.Paths.{path_fault, IsProtoPath}
use Rattle.protobuf_parse_base.specs.declared.proto_path.error.PathError.{PathError}
use Rattle.protobuf_parse_lexer.specs.Decoder.{decode, text_of}
use Rattle.protobuf_parse_lexer.specs.DecoderLaws.{decode-to, decode-from, text-to, text-from}
use Rattle.protobuf_parse_lexer.specs.Text.{Bytes}
use Rattle.protobuf_parse_syntax.specs.Grammar.{SaysVersion, SaysPath}
use Rattle.protobuf_parse_syntax.specs.Said.{version_when, version_of, is_path, path_when, path_of}
use Rattle.protobuf_parse_syntax.specs.declared.tree.Syntax.{Syntax}
use Rattle.protobuf_parse_syntax.specs.declared.tree.Syntax.TheVariants.{Proto2, Proto3}

pub version-to : (zs : List Bytes) (s : Syntax) → version_of zs ≡ Some s → SaysVersion zs s
version-to zs s e = go (decode zs) refl e
  where
    at3 : (w : Bytes) (b : Bool) → decode zs ≡ Some w → bytes_eq w (codes "proto3") ≡ b
        → cond b (Some Proto3) None ≡ Some s → SaysVersion zs s
    at3 w true h k e =
        let p : w ≡ codes "proto3" = (bytes_eq-Decides w (codes "proto3")).0 k in
        let q : Proto3 ≡ s = cc in
        subst (SaysVersion zs) q (decode-to zs (codes "proto3") (h ∙ ap (λ (z : Bytes). Some z) p))
    at3 w false h k e = absurd cc

    at2 : (w : Bytes) (b : Bool) → decode zs ≡ Some w → bytes_eq w (codes "proto2") ≡ b
        → cond b (Some Proto2) (cond (bytes_eq w (codes "proto3")) (Some Proto3) None) ≡ Some s
        → SaysVersion zs s
    at2 w true h k e =
        let p : w ≡ codes "proto2" = (bytes_eq-Decides w (codes "proto2")).0 k in
        let q : Proto2 ≡ s = cc in
        subst (SaysVersion zs) q (decode-to zs (codes "proto2") (h ∙ ap (λ (z : Bytes). Some z) p))
    at2 w false h k e = at3 w (bytes_eq w (codes "proto3")) h refl e

    go : (o : Option Bytes) → decode zs ≡ o → version_when o ≡ Some s → SaysVersion zs s
    go None h e = absurd cc
    go (Some w) h e = at2 w (bytes_eq w (codes "proto2")) h refl e

pub version-from : (zs : List Bytes) (s : Syntax) → SaysVersion zs s → version_of zs ≡ Some s
version-from zs Proto2 h = rw (decode-from zs (codes "proto2") h) refl
version-from zs Proto3 h = rw (decode-from zs (codes "proto3") h) refl

pub path-to : (zs : List Bytes) (v : Bytes) → path_of zs ≡ Some v → SaysPath zs v
path-to zs v e = go (text_of zs) refl e
  where
    at : (w : Bytes) (o : Option PathError) → text_of zs ≡ Some w → path_fault w ≡ o
        → cond (is_path o) (Some w) None ≡ Some v → SaysPath zs v
    at w None h k e = let p : w
        ≡ v = cc in (
          text-to zs v (h ∙ ap (λ (z : Bytes). Some z) p),
          subst IsProtoPath p (IsProtoPath-from_fault w k),
        )
    at w (Some f) h k e = absurd cc

    go : (o : Option Bytes) → text_of zs ≡ o → path_when o ≡ Some v → SaysPath zs v
    go None h e = absurd cc
    go (Some w) h e = at w (path_fault w) h refl e

pub path-from : (zs : List Bytes) (v : Bytes) → SaysPath zs v → path_of zs ≡ Some v
path-from zs v h = rw (text-from zs v h.0, path_fault-proto_path v h.1) refl
