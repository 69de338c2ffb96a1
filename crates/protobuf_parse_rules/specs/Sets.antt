-- No public clause rests on this file.
-- Texts as they are kept in order.
use Rattle.std.specs.Prelude.{◌≡◌, ℕ, List, map}
use Rattle.std.specs.Borrow.{Bor}
use Rattle.std.specs.Cmp.Lexicographic.{slice_cmp}
use Rattle.std.specs.Ordering.{nat_cmp}
use Rattle.std.specs.declared.cmp.Ordering.{Ordering}
use Rattle.protobuf_parse_model.specs.Descriptors.{Text}
use Rattle.protobuf_parse_rules.specs.Ranges.{is_among}

abbrev pub text_cmp : Bor (List ℕ) → Bor (List ℕ) → Ordering
text_cmp a b = slice_cmp nat_cmp a.now b.now

abbrev pub texts_of : List (Bor (List ℕ)) → List Text
texts_of words = map (λ (w : Bor (List ℕ)). w.now) words

-- The same texts stand there, in whichever order.
abbrev pub AreTexts : List (Bor (List ℕ)) → List Text → Type 0
AreTexts words names = (t : Text) → is_among t (texts_of words) ≡ is_among t names
