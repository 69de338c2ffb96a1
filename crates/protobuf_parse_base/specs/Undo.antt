-- Laws of the clauses of the calls on paths: what undoes what.
use Rattle.std.specs.Prelude.{◌≡◌, ◌≢◌, ℕ, List, [], ◌∷◌, ◌++◌, Option, Some, IfNone, IfSome}
use Rattle.std.specs.Prelude.{MatchOption}
use Rattle.protobuf_parse_base.specs.NameViews.{ident_ref_text, ident_text, rel_ref_text}
use Rattle.protobuf_parse_base.specs.NameViews.{rel_ref_idents, rel_idents}
use Rattle.protobuf_parse_base.specs.NameViews.{abs_ref_text, abs_ref_idents, abs_text, abs_idents}
use Rattle.protobuf_parse_base.specs.declared.names.ident.ProtobufIdentRef.{ProtobufIdentRef}
use Rattle.protobuf_parse_base.specs.declared.names.ident.ProtobufIdent.{ProtobufIdent}
use Rattle.protobuf_parse_base.specs.declared.names.relative.ProtobufRelPathRef.{ProtobufRelPathRef}
use Rattle.protobuf_parse_base.specs.declared.names.relative.ProtobufRelPath.{ProtobufRelPath}
use Rattle.protobuf_parse_base.specs.declared.names.absolute.ProtobufAbsPathRef.{ProtobufAbsPathRef}
use Rattle.protobuf_parse_base.specs.declared.names.absolute.ProtobufAbsPath.{ProtobufAbsPath}

-- what `pop` says of a path before and after, and of the identifier that it gives
pub record IsPopped (before after : ProtobufAbsPath) (last : Option ProtobufIdent) : Type 0 where
  pub root : IfNone last (abs_idents before ≡ [])
  pub popped : IfSome last (λ id. abs_idents before ≡ abs_idents after ++ ident_text id ∷ [])

-- what `remove_prefix` says, and what `remove_suffix` does
abbrev pub IsBehind : List (List ℕ) → List (List ℕ) → Option ProtobufRelPathRef → Type 0
IsBehind whole prefix answer =
    MatchOption answer
    ((rest : List (List ℕ)) → whole ≢ prefix ++ rest)
    (λ rest. whole ≡ prefix ++ rel_ref_idents rest)

-- what `remove_suffix` says
abbrev pub IsBefore : List (List ℕ) → List (List ℕ) → Option ProtobufAbsPathRef → Type 0
IsBefore whole suffix answer =
    MatchOption answer
    ((front : List (List ℕ)) → whole ≢ front ++ suffix)
    (λ front. whole ≡ abs_ref_idents front ++ suffix)

-- An identifier that was pushed is popped, and the path is as it was.
abbrev pub PopUndoesPush : Type 0
PopUndoesPush =
    (path pushed popped : ProtobufAbsPath) (id : ProtobufIdentRef) (answer : Option ProtobufIdent) →
    abs_idents pushed ≡ abs_idents path ++ ident_ref_text id ∷ [] →
    IsPopped pushed popped answer →
    (last : ProtobufIdent) × (answer ≡ Some last) × (ident_text last ≡ ident_ref_text id)
    × (abs_text popped ≡ abs_text path)

-- Of a path that was put behind another, what stands before it is removed, and it is left.
abbrev pub RemovePrefixUndoesConcat : Type 0
RemovePrefixUndoesConcat =
    (front joined : ProtobufAbsPathRef) (back : ProtobufRelPathRef)
    (answer : Option ProtobufRelPathRef) →
    abs_ref_idents joined ≡ abs_ref_idents front ++ rel_ref_idents back →
    IsBehind (abs_ref_idents joined) (abs_ref_idents front) answer →
    (rest : ProtobufRelPathRef) × (answer ≡ Some rest) × (rel_ref_text rest ≡ rel_ref_text back)

-- It is removed, and what stood before it is left.
abbrev pub RemoveSuffixUndoesConcat : Type 0
RemoveSuffixUndoesConcat =
    (front joined : ProtobufAbsPathRef) (back : ProtobufRelPathRef)
    (answer : Option ProtobufAbsPathRef) →
    abs_ref_idents joined ≡ abs_ref_idents front ++ rel_ref_idents back →
    IsBefore (abs_ref_idents joined) (rel_ref_idents back) answer →
    (rest : ProtobufAbsPathRef) × (answer ≡ Some rest) × (abs_ref_text rest ≡ abs_ref_text front)

-- The relative path with the same identifiers becomes the path again.
abbrev pub IntoAbsoluteUndoesToRootRel : Type 0
IntoAbsoluteUndoesToRootRel =
    (path again : ProtobufAbsPath) (relative : ProtobufRelPath) →
    rel_idents relative ≡ abs_idents path → abs_idents again ≡ rel_idents relative →
    abs_text again ≡ abs_text path
