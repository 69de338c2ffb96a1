-- Lists of lent identifiers are lists of identifiers.
use Rattle.std.specs.Prelude.{if◌then◌else◌}
use Rattle.std.proofs.Common.{◌≡◌, ◌==◌, ◌<◌, ◌+◌, ◌++◌, ℕ, List, [], ◌∷◌, length, get_or, map}
use Rattle.std.proofs.Common.{take, true, refl, sym, ap, ◌∙◌}
use Rattle.std.proofs.lemmas.Bool.{and_from}
use Rattle.std.proofs.lemmas.List.{map_push, take_more}
use Rattle.protobuf_parse_base.specs.Names.{is_ident, are_idents, relative_text}
use Rattle.protobuf_parse_base.specs.NameViews.{ident_ref_text}
use Rattle.protobuf_parse_base.specs.declared.names.ident.ProtobufIdentRef.{ProtobufIdentRef}
use Rattle.protobuf_parse_base.proofs.NameTexts.{relative_text-push}

pub are_idents-map : (xs : List ProtobufIdentRef) → are_idents (map ident_ref_text xs) ≡ true
are_idents-map [] = refl
are_idents-map (x ∷ xs) =
    and_from (is_ident (ident_ref_text x)) (are_idents (map ident_ref_text xs)) x.well_formed
    (are_idents-map xs)

-- one identifier more in the text of a list
pub relative_text-more : (xs : List ProtobufIdentRef) (i : ℕ) (x : ProtobufIdentRef)
    (text next part : List ℕ)
    → i < length xs → x ≡ get_or xs i x → part ≡ ident_ref_text x
    → text ≡ relative_text (map ident_ref_text (take i xs))
    → next ≡ (if length text == 0 then part else text ++ (46 ∷ part))
    → next ≡ relative_text (map ident_ref_text (take (i + 1) xs))
relative_text-more xs i x text next part inside at part_is before step =
    let ids : List (List ℕ) = map ident_ref_text (take i xs) in
    let longer : take (i + 1) xs ≡ take i xs ++ x ∷ [] = take_more xs i x inside
    ∙ ap (λ y. take i xs ++ y ∷ []) (sym at) in
    step ∙ (ap (λ p. if length text == 0 then p else text ++ (46 ∷ p)) part_is
    ∙ (ap (λ t. if length t == 0 then ident_ref_text x else t ++ (46 ∷ ident_ref_text x)) before
    ∙ (relative_text-push ids (ident_ref_text x) (are_idents-map (take i xs))
    ∙ ap relative_text (sym (map_push ident_ref_text (take i xs) x)
    ∙ ap (λ ys. map ident_ref_text ys) (sym longer)))))
