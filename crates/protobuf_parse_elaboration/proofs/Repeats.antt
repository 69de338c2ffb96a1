-- Whether a name stands among names.
use Rattle.std.proofs.Common.{◌≡◌, List, [], ◌∷◌, ◌++◌, refl, ap, ◌∙◌}
use Rattle.std.specs.Prelude.{◌||◌, bytes_eq}
use Rattle.protobuf_parse_model.proofs.OrTests.{or_left_comm}
use Rattle.protobuf_parse_model.specs.Descriptors.{Text}
use Rattle.protobuf_parse_model.specs.Duplicates.{stands_in}

pub stands_in-push : (n x : Text) (xs : List Text)
    → stands_in n (xs ++ x ∷ []) ≡ (bytes_eq x n || stands_in n xs)
stands_in-push n x [] = refl
stands_in-push n x (y ∷ xs) = ap (λ b. bytes_eq y n || b) (stands_in-push n x xs)
    ∙ or_left_comm (bytes_eq y n) (bytes_eq x n) (stands_in n xs)
