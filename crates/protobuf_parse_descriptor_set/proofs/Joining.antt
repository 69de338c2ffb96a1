-- Fields written one behind the other.
use Rattle.std.proofs.Common.{◌≡◌, ◌∙◌, ℕ, ◌+◌, ◌*◌, ◌<◌, ◌≤◌, List, [], ◌∷◌, ◌++◌, ap, sym, refl}
use Rattle.std.proofs.Common.{subst, ap₂, append_assoc, flat_map, get_or, length, map, take, arith}
use mir.Val.{bool_byte}
use Rattle.std.specs.Prelude.{if◌then◌else◌, true, false, ℤ, Bool, Result, Ok, Err, OnOk}
use Rattle.std.proofs.lemmas.List.{append-nil, map-append, take_all, take_more}
use Rattle.std.proofs.lemmas.Grind.{flat_map-append}
use Rattle.std.proofs.lemmas.Simd.{map-map}
use Rattle.protobuf_parse_wire.specs.declared.kind.Kind.TheVariants as kinds
use Rattle.protobuf_parse_wire.specs.Kinds.{shape_of_kind, wire_type}
use Rattle.protobuf_parse_wire.specs.Encoded.{varint_of, delimited, payload, truth_bytes}
use Rattle.protobuf_parse_descriptor_set.specs.Items.{Items, bytes_of, text, int, choice, flag}
use Rattle.protobuf_parse_descriptor_set.specs.Items.{part, whole}
use Rattle.protobuf_parse_descriptor_set.specs.Writing.{Writes}
use Rattle.protobuf_parse_wire.specs.Writing.{AreWritable}
use Rattle.protobuf_parse_wire.specs.Views.{entries_of_list}
use Rattle.protobuf_parse_wire.specs.Wire.{Spells}
use Rattle.protobuf_parse_wire.proofs.Encoded.{encoded_spells}
use Rattle.protobuf_parse_wire.proofs.Ranges.{in_range}
use Rattle.std.specs.Int.{w32, w64, cast_unsigned}
use Rattle.std.specs.Int.RustNames.{FitsSigned}

-- what follows from a fact under Ok holds under Ok
pub on_ok_then : {X E P Q : Type 0} (r : Result X E) → (P → Q) → OnOk r P → OnOk r Q
on_ok_then (Ok x) f h = f h
on_ok_then (Err e) f h = tt

-- ---- one field

pub text_is : (n : ℕ) (t : List ℕ)
    → bytes_of (text n t) ≡ varint_of (n * 8 + 2) ++ delimited t
unfolding bytes_of text
text_is n t = ap (λ z. varint_of (n * 8 + 2) ++ z) (append-nil (delimited t))

pub whole_is : (n : ℕ) (t : List ℕ)
    → bytes_of (whole n t) ≡ varint_of (n * 8 + 2) ++ delimited t
unfolding bytes_of whole
whole_is n t = ap (λ z. varint_of (n * 8 + 2) ++ z) (append-nil (delimited t))

pub part_is : (n : ℕ) (inside : Items)
    → bytes_of (part n inside) ≡ varint_of (n * 8 + 2) ++ delimited (bytes_of inside)
unfolding bytes_of part
part_is n inside =
    ap (λ z. varint_of (n * 8 + 2) ++ z) (append-nil (delimited (bytes_of inside)))

no_more : (u : ℕ) → u + 0 ≡ u
no_more u = omega arith

pub int_is : (n : ℕ) (v : ℤ)
    → bytes_of (int n v) ≡ varint_of (n * 8) ++ varint_of (cast_unsigned w64 v)
unfolding bytes_of int
int_is n v = ap₂ (λ u z. varint_of u ++ z) (no_more (n * 8))
    (append-nil (varint_of (cast_unsigned w64 v)))

pub choice_is : (n : ℕ) (v : ℤ)
    → bytes_of (choice n v) ≡ varint_of (n * 8) ++ varint_of (cast_unsigned w64 v)
unfolding bytes_of choice
choice_is n v = ap₂ (λ u z. varint_of u ++ z) (no_more (n * 8))
    (append-nil (varint_of (cast_unsigned w64 v)))

pub flag_is : (n : ℕ) (b : Bool)
    → bytes_of (flag n b) ≡ varint_of (n * 8) ++ truth_bytes b
unfolding bytes_of flag
flag_is n b = ap₂ (λ u z. varint_of u ++ z) (no_more (n * 8)) (append-nil (truth_bytes b))

-- ---- one behind the other

pub bytes_of-append : (xs ys : Items) → bytes_of (xs ++ ys) ≡ bytes_of xs ++ bytes_of ys
unfolding bytes_of
bytes_of-append [] ys = refl
bytes_of-append (x ∷ xs) ys =
    let tag = varint_of (x.number * 8 + wire_type (shape_of_kind x.kind)) in
    let value = payload (shape_of_kind x.kind) x.value in
    let rest = bytes_of xs in
    let others = bytes_of ys in
    ap (λ (bs : List ℕ). tag ++ (value ++ bs)) (bytes_of-append xs ys)
    ∙ sym (append_assoc tag (value ++ rest) others
    ∙ ap (λ (bs : List ℕ). tag ++ bs) (append_assoc value rest others))

pub are_writable-append : (xs ys : Items) → AreWritable (entries_of_list xs)
    → AreWritable (entries_of_list ys) → AreWritable (entries_of_list (xs ++ ys))
are_writable-append [] ys a b = b
are_writable-append (x ∷ xs) ys a b = (a.0, are_writable-append xs ys a.1 b)

pub joined : {a b : Items} {old mid new : List ℕ} → Writes a old mid → Writes b mid new
    → Writes (a ++ b) old new
joined {a} {b} {old} {mid} {new} p q = record {
  bytes = q.bytes ∙ ap (λ z. z ++ bytes_of b) p.bytes
      ∙ append_assoc old (bytes_of a) (bytes_of b)
      ∙ ap (λ z. old ++ z) (sym (bytes_of-append a b));
  writable = are_writable-append a b p.writable q.writable;
}

-- of equal fields
same : {a b : Items} (old new : List ℕ) → a ≡ b → Writes a old new → Writes b old new
same old new e w = subst (λ z. Writes z old new) e w

-- ---- one field

pub writes_text : (n : ℕ) (t old new : List ℕ)
    → new ≡ old ++ (varint_of (n * 8 + 2) ++ delimited t) → Writes (text n t) old new
unfolding text
writes_text n t old new e =
    record { bytes = e ∙ ap (λ z. old ++ z) (sym (text_is n t)); writable = (tt, tt) }

pub writes_whole : (n : ℕ) (t old new : List ℕ)
    → new ≡ old ++ (varint_of (n * 8 + 2) ++ delimited t) → Writes (whole n t) old new
unfolding whole
writes_whole n t old new e =
    record { bytes = e ∙ ap (λ z. old ++ z) (sym (whole_is n t)); writable = (tt, tt) }

pub writes_int : (n : ℕ) (v : ℤ) (old new : List ℕ) → FitsSigned w32 v
    → new ≡ old ++ (varint_of (n * 8) ++ varint_of (cast_unsigned w64 v)) → Writes (int n v) old new
unfolding int
writes_int n v old new fits e = record {
  bytes = e ∙ ap (λ z. old ++ z) (sym (int_is n v));
  writable = (in_range (shape_of_kind kinds.Int32) v fits, tt);
}

pub writes_choice : (n : ℕ) (v : ℤ) (old new : List ℕ) → FitsSigned w32 v
    → new ≡ old ++ (varint_of (n * 8) ++ varint_of (cast_unsigned w64 v))
    → Writes (choice n v) old new
unfolding choice
writes_choice n v old new fits e = record {
  bytes = e ∙ ap (λ z. old ++ z) (sym (choice_is n v));
  writable = (in_range (shape_of_kind kinds.Enum) v fits, tt);
}

pub truth_is : (b : Bool) → bool_byte b ≡ (if b then 1 else 0)
truth_is true = refl
truth_is false = refl

pub writes_flag : (n : ℕ) (b : Bool) (old new : List ℕ)
    → new ≡ old ++ (varint_of (n * 8) ++ truth_bytes b) → Writes (flag n b) old new
unfolding flag
writes_flag n b old new e =
    record { bytes = e ∙ ap (λ z. old ++ z) (sym (flag_is n b)); writable = (tt, tt) }

-- ---- lists

pub none_yet : (old : List ℕ) → Writes [] old old
unfolding bytes_of
none_yet old = record { bytes = sym (append-nil old); writable = tt }

-- two lists, one behind the other
pub both_lists : {X : Type 0} (f : X → Items) (xs ys : List X) {old mid new : List ℕ}
    → Writes (flat_map f xs) old mid → Writes (flat_map f ys) mid new
    → Writes (flat_map f (xs ++ ys)) old new
both_lists f xs ys {old} {mid} {new} p q =
    same old new (sym (flat_map-append f xs ys)) (joined p q)

-- one more at the end of a list
pub at_end : {X : Type 0} (f : X → Items) (xs ys : List X) (x : X) {old mid new : List ℕ}
    → ys ≡ xs ++ x ∷ [] → Writes (flat_map f xs) old mid → Writes (f x) mid new
    → Writes (flat_map f ys) old new
at_end f xs ys x {old} {mid} {new} e before one =
    let all : flat_map f ys ≡ flat_map f xs ++ f x = ap (flat_map f) e
    ∙ flat_map-append f xs (x ∷ []) ∙ ap (λ z. flat_map f xs ++ z) (append-nil (f x)) in
    same old new (sym all) (joined before one)

-- the same of equal lists
pub of_same : {X : Type 0} (f : X → Items) {xs ys : List X} (old new : List ℕ) → xs ≡ ys
    → Writes (flat_map f xs) old new → Writes (flat_map f ys) old new
of_same f old new e w = same old new (ap (flat_map f) e) w

-- one element more, as it stands and by its view
pub next_item : {X : Type 0} (f : X → Items) (xs : List X) (k : ℕ) (x : X)
    (start old new : List ℕ) → k < length xs → Writes (flat_map f (take k xs)) start old
    → Writes (f (get_or xs k x)) old new → Writes (flat_map f (take (k + 1) xs)) start new
next_item f xs k x start old new lt before one =
    let all : flat_map f (take (k + 1) xs) ≡ flat_map f (take k xs) ++ f (get_or xs k x) =
    ap (flat_map f) (take_more xs k x lt) ∙ flat_map-append f (take k xs) (get_or xs k x ∷ [])
    ∙ ap (λ z. flat_map f (take k xs) ++ z) (append-nil (f (get_or xs k x))) in
    same start new (sym all) (joined before one)

pub one_more : {X Y : Type 0} (f : Y → Items) (v : X → Y) (xs : List X) (k : ℕ) (x : X)
    (start old new : List ℕ) → k < length xs → x ≡ get_or xs k x
    → Writes (flat_map f (map v (take k xs))) start old → Writes (f (v x)) old new
    → Writes (flat_map f (map v (take (k + 1) xs))) start new
one_more f v xs k x start old new lt is before one =
    let next : map v (take (k + 1) xs) ≡ map v (take k xs) ++ v x ∷ [] =
    ap (map v) (take_more xs k x lt) ∙ map-append v (take k xs) (get_or xs k x ∷ [])
    ∙ ap (λ z. map v (take k xs) ++ v z ∷ []) (sym is) in
    let all : flat_map f (map v (take (k + 1) xs)) ≡ flat_map f (map v (take k xs)) ++ f (v x) =
    ap (flat_map f) next ∙ flat_map-append f (map v (take k xs)) (v x ∷ [])
    ∙ ap (λ z. flat_map f (map v (take k xs)) ++ z) (append-nil (f (v x))) in
    same start new (sym all) (joined before one)

pub all_items : {X : Type 0} (f : X → Items) (xs : List X) (k : ℕ) (start out : List ℕ)
    → length xs ≤ k → Writes (flat_map f (take k xs)) start out → Writes (flat_map f xs) start out
all_items f xs k start out le h =
    same start out (ap (flat_map f) (take_all k xs le)) h

pub all_of : {X Y : Type 0} (f : Y → Items) (v : X → Y) (xs : List X) (k : ℕ)
    (start out : List ℕ) → length xs ≤ k → Writes (flat_map f (map v (take k xs))) start out
    → Writes (flat_map f (map v xs)) start out
all_of f v xs k start out le h =
    same start out (ap (λ z. flat_map f (map v z)) (take_all k xs le)) h

-- the same where what is seen of each is changed before it is written
pub all_changed : {X Y Z : Type 0} (f : Y → Items) (g : Z → Y) (v : X → Z) (xs : List X) (k : ℕ)
    (start out : List ℕ) → length xs ≤ k
    → Writes (flat_map f (map (λ x. g (v x)) (take k xs))) start out
    → Writes (flat_map f (map g (map v xs))) start out
all_changed f g v xs k start out le h =
    same start out (sym (ap (flat_map f) (map-map g v xs)))
    (all_of f (λ x. g (v x)) xs k start out le h)

-- ---- a whole message

pub spelled : (items : Items) (old new : List ℕ) → old ≡ [] → Writes items old new
    → Spells (entries_of_list items) new
unfolding bytes_of
spelled items old new none w =
    subst (Spells (entries_of_list items)) (sym (w.bytes ∙ ap (λ z. z ++ bytes_of items) none))
    (encoded_spells (entries_of_list items) w.writable)
