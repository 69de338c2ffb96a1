-- What undoes what, among the calls on paths.
use Rattle.std.proofs.Common.{◌≡◌, ℕ, List, [], ◌∷◌, ◌++◌, Some, None}
use Rattle.std.proofs.Common.{true, refl, sym, ap, ◌∙◌}
use Rattle.std.proofs.lemmas.List.{append_cancel_left, append_cancel_right}
use Rattle.protobuf_parse_base.specs.Names.{absolute_text, relative_text, absolute_idents}
use Rattle.protobuf_parse_base.specs.Names.{relative_idents, is_absolute}
use Rattle.protobuf_parse_base.specs.NameViews.{ident_ref_text, ident_text, rel_ref_text}
use Rattle.protobuf_parse_base.specs.NameViews.{rel_ref_idents, abs_ref_text}
use Rattle.protobuf_parse_base.specs.NameViews.{abs_ref_idents, abs_text, abs_idents}
use Rattle.protobuf_parse_base.specs.Undo.{PopUndoesPush}
use Rattle.protobuf_parse_base.specs.Undo.{RemovePrefixUndoesConcat, RemoveSuffixUndoesConcat}
use Rattle.protobuf_parse_base.specs.Undo.{IntoAbsoluteUndoesToRootRel}
use Rattle.protobuf_parse_base.proofs.NameTexts.{absolute_text-idents, relative_text-idents}

-- two texts of the same identifiers
one_absolute : (s t : List ℕ) → is_absolute s ≡ true → is_absolute t ≡ true → absolute_idents s ≡
    absolute_idents t → s ≡ t
one_absolute s t a b e =
    sym (absolute_text-idents s a) ∙ ap absolute_text e ∙ absolute_text-idents t b

one_relative : (s t : List ℕ) → relative_idents s ≡ relative_idents t → s ≡ t
one_relative s t e = sym (relative_text-idents s) ∙ ap relative_text e ∙ relative_text-idents t

nonempty : (ids : List (List ℕ)) (id : List ℕ) → ids ++ id ∷ [] ≡ [] → ⊥
nonempty [] id e = cc
nonempty (x ∷ ids) id e = cc

same_last : (xs ys : List (List ℕ)) (x y : List ℕ) → xs ++ x ∷ [] ≡ ys ++ y ∷ [] →
    (xs ≡ ys) × (x ≡ y)
same_last [] [] x y e = (refl, cc)
same_last [] (b ∷ ys) x y e = let no : [] ≡ ys ++ y ∷ [] = cc in absurd (nonempty ys y (sym no))
same_last (a ∷ xs) [] x y e = let no : xs ++ x ∷ [] ≡ [] = cc in absurd (nonempty xs x no)
same_last (a ∷ xs) (b ∷ ys) x y e =
    let first : a ≡ b = cc in
    let rest : xs ++ x ∷ [] ≡ ys ++ y ∷ [] = cc in
    let both = same_last xs ys x y rest in
    (ap (λ (v : List (List ℕ)). a ∷ v) both.0 ∙ ap (λ (v : List ℕ). v ∷ ys) first, both.1)

pub pop_after_push : PopUndoesPush
pop_after_push path pushed popped id None is h =
    absurd (nonempty (abs_idents path) (ident_ref_text id) (sym is ∙ h.root))
pop_after_push path pushed popped id (Some last) is h =
    let same =
    same_last (abs_idents path) (abs_idents popped) (ident_ref_text id) (ident_text last)
    (sym is ∙ h.popped) in (
      last,
      refl,
      sym same.1,
      one_absolute (abs_text popped) (abs_text path)
          popped.well_formed path.well_formed (sym same.0),
    )

pub prefix_after_concat : RemovePrefixUndoesConcat
prefix_after_concat front joined back None is h = absurd (h (rel_ref_idents back) is)
prefix_after_concat front joined back (Some rest) is h =
    let same =
    append_cancel_left (abs_ref_idents front) (rel_ref_idents rest) (rel_ref_idents back)
    (sym h ∙ is) in
    (rest, refl, one_relative (rel_ref_text rest) (rel_ref_text back) same)

pub suffix_after_concat : RemoveSuffixUndoesConcat
suffix_after_concat front joined back None is h = absurd (h (abs_ref_idents front) is)
suffix_after_concat front joined back (Some rest) is h =
    let same =
    append_cancel_right (abs_ref_idents rest) (abs_ref_idents front) (rel_ref_idents back)
    (sym h ∙ is) in (
      rest,
      refl,
      one_absolute (abs_ref_text rest) (abs_ref_text front)
          rest.well_formed front.well_formed same,
    )

pub absolute_after_relative : IntoAbsoluteUndoesToRootRel
absolute_after_relative path again relative e f =
    one_absolute (abs_text again) (abs_text path) again.well_formed path.well_formed (f ∙ e)
