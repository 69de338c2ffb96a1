-- Maps that grow.
use Rattle.std.proofs.Common.{◌≡◌, ℕ, ℤ, ◌+◌, ◌<◌, Bool, true, false, cond, List, [], ◌∷◌, map}
use Rattle.std.proofs.Common.{length, take, get_or, refl, sym, ap, ◌∙◌, Option, Some, None}
use Rattle.std.specs.Prelude.{bytes_eq, find, option_map, string_bytes, unwrap_or, ◌&&◌, String}
use Rattle.std.specs.Borrow.{Bor}
use Rattle.std.specs.BTreeMap.{BTreeMap, IsEmpty, UpdatesBy, get, get_by_text, is_at}
use Rattle.std.specs.Cmp.Lexicographic.{slice_cmp}
use Rattle.std.specs.Global.{Global}
use Rattle.std.specs.Map.{lookup}
use Rattle.std.specs.Option.{option_and_then, option_or}
use Rattle.std.specs.Ordering.{int_cmp, int_eq, nat_cmp}
use Rattle.std.specs.String.{string_cmp}
use Rattle.std.proofs.lemmas.List.Folds.{find-append}
use Rattle.std.proofs.lemmas.Map.Text.{btree_map_updates_text}
use Rattle.std.proofs.lemmas.Slice.Eq.{bytes_eq-Decides}
use Rattle.protobuf_parse_model.specs.Descriptors.{Text}
use Rattle.protobuf_parse_wire.proofs.Adding.{mapped_one_more}
use Rattle.protobuf_parse_index.specs.Kept.{Extended}
use Rattle.protobuf_parse_index.specs.Puts.{PutsNumber, PutsPosition}
use Rattle.protobuf_parse_index.specs.Kept.{at_number, extended_at}
use Rattle.protobuf_parse_index.proofs.Positions.{put_absent}

same_bools : (a b : Bool) → (a ≡ true → b ≡ true) → (b ≡ true → a ≡ true) → a ≡ b
same_bools true true f g = refl
same_bools false false f g = refl
same_bools true false f g = sym (f refl)
same_bools false true f g = g refl

flipped : (a b : Text) → bytes_eq a b ≡ bytes_eq b a
flipped a b = same_bools (bytes_eq a b) (bytes_eq b a)
    (λ e. (bytes_eq-Decides b a).1 (sym ((bytes_eq-Decides a b).0 e)))
    (λ e. (bytes_eq-Decides a b).1 (sym ((bytes_eq-Decides b a).0 e)))

pub or_none : {X : Type 0} (o : Option X) → option_or o None ≡ o
or_none None = refl
or_none (Some x) = refl

-- ---- names

pub position_put : (old new : BTreeMap (String Global) ℕ) (key : String Global) (name : Text)
    (at : ℕ) → string_bytes key ≡ name → get_by_text old name ≡ None
    → UpdatesBy string_cmp (λ k. slice_cmp nat_cmp (string_bytes key) (string_bytes k)) old new
    (Some at)
    → PutsPosition old new name at
position_put old new key name at is absent updates q =
    btree_map_updates_text (string_bytes key) old new (Some at) updates q
    ∙ ap (λ (t : Text). cond (bytes_eq t q) (Some at) (get_by_text old q)) is
    ∙ ap (λ b. cond b (Some at) (get_by_text old q)) (flipped name q)
    ∙ put_absent (get_by_text old q) (bytes_eq q name) at
    (λ e. ap (get_by_text old) ((bytes_eq-Decides q name).0 e) ∙ absent)

-- ---- numbers

mapped_or : {T X : Type 0} (f : T → X) (a b : Option T)
    → option_map f (option_or a b) ≡ option_or (option_map f a) (option_map f b)
mapped_or f None b = refl
mapped_or f (Some x) b = refl

mapped_if : {T X : Type 0} (f : T → X) (b : Bool) (t : T)
    → option_map f (cond b (Some t) None) ≡ cond b (Some (f t)) None
mapped_if f true t = refl
mapped_if f false t = refl

-- one more of what has numbers
pub numbers_more : {T X : Type 0} (view : T → X) (test : X → Bool) (xs : List T) (i : ℕ) (x : T)
    (t : Bor T) (old new : Option (Bor T)) → i < length xs → x ≡ get_or xs i x → t.now ≡ x
    → new ≡ option_or old (cond (test (view x)) (Some t) None)
    → option_map (λ (s : Bor T). view s.now) old ≡ find test (map view (take i xs))
    → option_map (λ (s : Bor T). view s.now) new ≡ find test (map view (take (i + 1) xs))
numbers_more {T} view test xs i x t old new lt is now put before =
    let seen : Bor T → _ = λ (s : Bor T). view s.now in
    ap (option_map seen) put ∙ mapped_or seen old (cond (test (view x)) (Some t) None)
    ∙ ap (option_or (option_map seen old)) (mapped_if seen (test (view x)) t
    ∙ ap (λ y. cond (test (view x)) (Some (view y)) None) now)
    ∙ ap (λ o. option_or o (cond (test (view x)) (Some (view x)) None)) before
    ∙ sym (find-append test (map view (take i xs)) (view x ∷ []))
    ∙ ap (find test) (sym (mapped_one_more view xs i x lt is))

-- the same of a map that has them by their numbers
pub numbers_put : {T X : Type 0} (view : T → X) (number : X → ℤ) (xs : List T) (i : ℕ) (x : T)
    (old new : BTreeMap ℤ (Bor T)) (n : ℤ) (t : Bor T) → i < length xs → x ≡ get_or xs i x
    → PutsNumber old new n t → n ≡ number (view x) → t.now ≡ x
    → ((q : ℤ) → at_number view old q
    ≡ find (λ (y : X). int_eq q (number y)) (map view (take i xs)))
    → (q : ℤ) → at_number view new q
    ≡ find (λ (y : X). int_eq q (number y)) (map view (take (i + 1) xs))
numbers_put {T} {X} view number xs i x old new n t lt is puts same now before q =
    numbers_more view (λ (y : X). int_eq q (number y)) xs i x t (get int_cmp old q)
    (get int_cmp new q) lt is now
    (puts q ∙ ap (λ (m : ℤ). option_or (get int_cmp old q) (cond (int_eq q m) (Some t) None)) same)
    (before q)

-- ---- extensions

nothing_there : (m : BTreeMap ℤ ℕ) (n : ℤ) → IsEmpty m → get int_cmp m n ≡ None
nothing_there m n empty = ap (lookup (is_at (int_cmp n))) empty

unwrapped : (o : Option (BTreeMap ℤ ℕ)) (m : BTreeMap ℤ ℕ) (n : ℤ) → IsEmpty m
    → get int_cmp (unwrap_or o m) n
    ≡ option_and_then (λ (inside : BTreeMap ℤ ℕ). get int_cmp inside n) o
unwrapped None m n empty = nothing_there m n empty
unwrapped (Some x) m n empty = refl

extended_by : (b c : Bool) (w : BTreeMap ℤ ℕ) (old : Option (BTreeMap ℤ ℕ)) (n : ℤ) (at : ℕ)
    → (b ≡ true → get int_cmp w n
    ≡ option_or (option_and_then (λ (inside : BTreeMap ℤ ℕ). get int_cmp inside n) old)
    (cond c (Some at) None))
    → option_and_then (λ (inside : BTreeMap ℤ ℕ). get int_cmp inside n) (cond b (Some w) old)
    ≡ option_or (option_and_then (λ (inside : BTreeMap ℤ ℕ). get int_cmp inside n) old)
    (cond (b && c) (Some at) None)
extended_by true c w old n at e = e refl
extended_by false c w old n at e =
    sym (or_none (option_and_then (λ (inside : BTreeMap ℤ ℕ). get int_cmp inside n) old))

pub extended_put : (old : Extended) (key : String Global) (name q : Text) (n : ℤ)
    (inside w none : BTreeMap ℤ ℕ) (number : ℤ) (at : ℕ) (now : Option (BTreeMap ℤ ℕ))
    → string_bytes key ≡ name → IsEmpty none
    → now ≡ cond (bytes_eq q (string_bytes key)) (Some w) (get_by_text old q)
    → inside ≡ unwrap_or (get_by_text old (string_bytes key)) none
    → PutsNumber inside w number at
    → option_and_then (λ (m : BTreeMap ℤ ℕ). get int_cmp m n) now
    ≡ option_or (extended_at old q n) (cond (bytes_eq q name && int_eq n number) (Some at) None)
extended_put old key name q n inside w none number at now is empty set had puts =
    let found : Option (BTreeMap ℤ ℕ) → Option ℕ =
    option_and_then (λ (m : BTreeMap ℤ ℕ). get int_cmp m n) in
    ap found (set
    ∙ ap (λ (t : Text). cond (bytes_eq q t) (Some w) (get_by_text old q)) is)
    ∙ extended_by (bytes_eq q name) (int_eq n number) w (get_by_text old q) n at
    (λ e. puts n
    ∙ ap (λ o. option_or o (cond (int_eq n number) (Some at) None))
    (ap (λ m. get int_cmp m n) had
    ∙ unwrapped (get_by_text old (string_bytes key)) none n empty
    ∙ ap (λ (t : Text). found (get_by_text old t)) (is ∙ sym ((bytes_eq-Decides q name).0 e))))
