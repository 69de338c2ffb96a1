-- Declarations in the order of their files, file by file.
use Rattle.std.proofs.Common.{◌≡◌, ℕ, zero, suc, ◌+◌, ◌-◌, ◌<◌, ◌≤◌, List, [], ◌∷◌, ◌++◌, Bool}
use Rattle.std.proofs.Common.{true, false, ◌&&◌, ◌||◌, cond, if◌then◌else◌, refl, sym, ap, ◌∙◌}
use Rattle.std.proofs.Common.{filter, length, take, drop, get_or, subst, arith, nat_eq, bytes_eq}
use Rattle.std.proofs.Common.{append-nil, drop-cons, leb-true, Option, None, Some}
use Rattle.std.specs.Prelude.{nat_lt, nat_le, Contains}
use Rattle.std.specs.List.{list_any}
use Rattle.std.specs.List.Sorted.{IsPartitionPoint, IsStrictlyIncreasing}
use Rattle.std.specs.Option.{option_or}
use Rattle.std.proofs.lemmas.Bool.{leb-false, ltb-false, ltb-true}
use Rattle.std.proofs.lemmas.Bool.Decides.{Decides-eqb}
use Rattle.std.proofs.lemmas.List.{get_or-take, get_or-drop, length-drop, length-take-le}
use Rattle.std.proofs.lemmas.List.{drop_all, take-append-drop}
use Rattle.std.proofs.lemmas.List.Elements.{filter-append}
use Rattle.std.proofs.lemmas.List.Sums.{length-filter, count_by-le-length}
use Rattle.std.proofs.lemmas.List.Sorted.{IsNonDecreasingBy-drop, IsNonDecreasingBy-push}
use Rattle.std.proofs.lemmas.Map.Keys.{below_from_sorted, sorted_from_strictly_increasing}
use Rattle.std.proofs.lemmas.Map.Views.{Contains-from_any}
use Rattle.std.proofs.lemmas.Slice.Eq.{bytes_eq-Decides}
use Rattle.protobuf_parse_model.specs.declared.scope.seen.Declaration.{Declaration}
use Rattle.protobuf_parse_model.specs.Descriptors.{Text}
use Rattle.protobuf_parse_model.specs.FileOrder.{FilesAscend}
use Rattle.protobuf_parse_model.specs.SeenFiles.{first_type, type_kind}
use Rattle.protobuf_parse_model.specs.SeenParts.{first_kind}
use Rattle.protobuf_parse_model.specs.Tables.{is_of}
use Rattle.protobuf_parse_model.specs.TableParts.{times}

get_or_other : {A : Type 0} (xs : List A) (k : ℕ) (c d : A) → k < length xs
    → get_or xs k c ≡ get_or xs k d
get_or_other [] k c d less = absurd (omega (arith, less))
get_or_other (x ∷ xs) zero c d less = refl
get_or_other (x ∷ xs) (suc k) c d less = get_or_other xs k c d (omega (arith, less))

-- ---- a declaration more

pub ascend_more : (of : Text → List Declaration) → ((text : Text) → FilesAscend (of text))
    → (full : Text) (d : Declaration)
    → ((x : Declaration) → 0 < length (of full) → (get_or (of full) (length (of full) - 1) x).file
    ≤ d.file)
    → (text : Text) → FilesAscend (of text ++ (if bytes_eq full text then d ∷ [] else []))
ascend_more of ascend full d last text = at (bytes_eq full text) refl
  where
    at : (b : Bool) → bytes_eq full text ≡ b
        → FilesAscend (of text ++ (if b then d ∷ [] else []))
    at false e = subst FilesAscend (sym (append-nil (of text))) (ascend text)
    at true e =
        subst (λ (t : Text). FilesAscend (of t ++ d ∷ [])) ((bytes_eq-Decides full text).0 e)
        (IsNonDecreasingBy-push (λ (x : Declaration). x.file) (of full) d (ascend full) last)

pub last_is : (ds : List Declaration) (default : Declaration) (file : ℕ)
    → (get_or ds (length ds - 1) default).file ≤ file
    → (x : Declaration) → 0 < length ds → (get_or ds (length ds - 1) x).file ≤ file
last_is ds default file le x some =
    let last : length ds - 1 < length ds = omega (arith, some) in
    let e = ap (λ (d : Declaration). d.file) (get_or_other ds (length ds - 1) x default last) in
    omega (arith, e, le)

-- ---- the declarations of one file

abbrev pub is_in : ℕ → Declaration → Bool
is_in n d = nat_eq d.file n

same : (x y : ℕ) → x ≡ y → nat_eq x y ≡ true
same x y e = (Decides-eqb x y).1 e

differ : (x y : ℕ) → (x ≡ y → ⊥) → nat_eq x y ≡ false
differ x y apart = at (nat_eq x y) refl
  where
    at : (b : Bool) → nat_eq x y ≡ b → nat_eq x y ≡ false
    at false e = e
    at true e = absurd (apart ((Decides-eqb x y).0 e))

all_in : (n : ℕ) (ds : List Declaration)
    → ((k : ℕ) (x : Declaration) → k < length ds → (get_or ds k x).file ≡ n)
    → filter (is_in n) ds ≡ ds
all_in n [] each = refl
all_in n (d ∷ ds) each =
    let rest = filter (is_in n) ds in
    ap (λ b. cond b (d ∷ rest) rest) (same d.file n (each 0 d (omega arith)))
    ∙ ap (λ xs. d ∷ xs) (all_in n ds (λ k x lt. each (suc k) x (omega (arith, lt))))

none_in : (n : ℕ) (ds : List Declaration)
    → ((k : ℕ) (x : Declaration) → k < length ds → (get_or ds k x).file ≡ n → ⊥)
    → filter (is_in n) ds ≡ []
none_in n [] each = refl
none_in n (d ∷ ds) each =
    let rest = filter (is_in n) ds in
    ap (λ b. cond b (d ∷ rest) rest) (differ d.file n (each 0 d (omega arith)))
    ∙ none_in n ds (λ k x lt. each (suc k) x (omega (arith, lt)))

-- between the first that isn't below the number and the first above it
pub in_file_is : (n : ℕ) (ds : List Declaration) (i j : ℕ) → i ≤ length ds
    → j ≤ length (drop i ds)
    → ((k : ℕ) (x : Declaration) → k < i → (get_or ds k x).file < n)
    → ((k : ℕ) (x : Declaration) → i ≤ k → k < length ds → n ≤ (get_or ds k x).file)
    → ((k : ℕ) (x : Declaration) → k < j → (get_or (drop i ds) k x).file ≤ n)
    → ((k : ℕ) (x : Declaration) → j ≤ k → k < length (drop i ds)
    → n < (get_or (drop i ds) k x).file)
    → take j (drop i ds) ≡ filter (is_in n) ds
in_file_is n ds i j i_in j_in below from upto above =
    let rest = drop i ds in
    let rest_long = length-drop i ds in
    let front : filter (is_in n) (take i ds) ≡ [] = none_in n (take i ds)
    (λ k x lt e. let long = length-take-le i ds i_in in
    let less : k < i = omega (arith, lt, long) in
    let at = ap (λ (d : Declaration). d.file) (get_or-take i ds k x less) in
    let small = below k x less in
    omega (arith, e, at, small)) in
    let middle : filter (is_in n) (take j rest) ≡ take j rest = all_in n (take j rest)
    (λ k x lt. let long = length-take-le j rest j_in in
    let less : k < j = omega (arith, lt, long) in
    let at = ap (λ (d : Declaration). d.file) (get_or-take j rest k x less) in
    let there = ap (λ (d : Declaration). d.file) (get_or-drop i ds k x) in
    let most = upto k x less in
    let least = from (i + k) x (omega arith) (omega (arith, less, j_in, rest_long, i_in)) in
    omega (arith, at, there, most, least)) in
    let back : filter (is_in n) (drop j rest) ≡ [] = none_in n (drop j rest)
    (λ k x lt e. let long = length-drop j rest in
    let at = ap (λ (d : Declaration). d.file) (get_or-drop j rest k x) in
    let more = above (j + k) x (omega arith) (omega (arith, lt, long, j_in)) in
    omega (arith, e, at, more)) in
    let halves : filter (is_in n) rest ≡ take j rest =
    ap (filter (is_in n)) (sym (take-append-drop j rest))
    ∙ filter-append (is_in n) (take j rest) (drop j rest)
    ∙ ap (λ xs. filter (is_in n) (take j rest) ++ xs) back
    ∙ append-nil (filter (is_in n) (take j rest)) ∙ middle in
    let whole : filter (is_in n) ds ≡ take j rest =
    ap (filter (is_in n)) (sym (take-append-drop i ds))
    ∙ filter-append (is_in n) (take i ds) rest
    ∙ ap (λ xs. xs ++ filter (is_in n) rest) front ∙ halves in
    sym whole

-- the same, by the tests that say where the file begins and ends
pub in_file_found : (n : ℕ) (ds rest : List Declaration) (i j : ℕ) → rest ≡ drop i ds
    → i ≤ length ds → j ≤ length rest
    → IsPartitionPoint (λ (d : Declaration). nat_lt d.file n ≡ true)
    (λ (d : Declaration). nat_lt d.file n ≡ false) ds i
    → IsPartitionPoint (λ (d : Declaration). nat_le d.file n ≡ true)
    (λ (d : Declaration). nat_le d.file n ≡ false) rest j
    → take j rest ≡ filter (is_in n) ds
in_file_found n ds rest i j is i_in j_in first last =
    ap (take j) is
    ∙ in_file_is n ds i j i_in (subst (λ (xs : List Declaration). j ≤ length xs) is j_in)
    (λ k x lt. ltb-true (get_or ds k x).file n (first.0 k x (omega arith) lt))
    (λ k x le lt. ltb-false (get_or ds k x).file n (first.1 k x le lt))
    (λ k x lt. leb-true (get_or (drop i ds) k x).file n
    (subst (λ (xs : List Declaration). nat_le (get_or xs k x).file n ≡ true) is
    (last.0 k x (omega arith) lt)))
    (λ k x le lt. leb-false (get_or (drop i ds) k x).file n
    (subst (λ (xs : List Declaration). nat_le (get_or xs k x).file n ≡ false) is
    (last.1 k x le (subst (λ (xs : List Declaration). k < length xs) (sym is) lt))))

-- ---- numbers that ascend

pub contains_number : (n : ℕ) (ns : List ℕ) → list_any (nat_eq n) ns ≡ true → Contains ns n
contains_number n ns e = Contains-from_any (λ x y. (Decides-eqb x y).0) n ns e

-- a number is below those behind it
unfoldable pub AllAbove : ℕ → List ℕ → Type 0
AllAbove n ns = (m : ℕ) → list_any (nat_eq m) ns ≡ true → n < m

pub above_here : (ns : List ℕ) (i : ℕ) → IsStrictlyIncreasing ns → i < length ns
    → AllAbove (get_or ns i 0) (drop (suc i) ns)
unfolding AllAbove
above_here ns i rises lt = λ m e.
    let h = contains_number m (drop (suc i) ns) e in
    let k = h.0 in
    let long = length-drop (suc i) ns in
    let less : k < length (drop (suc i) ns) = h.1 in
    let at : get_or (drop (suc i) ns) k m ≡ get_or ns (suc i + k) m = get_or-drop (suc i) ns k m in
    let is : get_or (drop (suc i) ns) k m ≡ m = h.2 in
    let up = below_from_sorted ns i (suc i + k) m (sorted_from_strictly_increasing ns rises)
    (omega arith) (omega (arith, less, long, lt)) in
    let first = get_or_other ns i 0 m lt in
    omega (arith, at, is, up, first)

is_above : (n : ℕ) (ns : List ℕ) → AllAbove n ns → (m : ℕ) → list_any (nat_eq m) ns ≡ true → n < m
unfolding AllAbove
is_above n ns above m e = above m e

not_among : (n : ℕ) (ns : List ℕ) → AllAbove n ns → list_any (nat_eq n) ns ≡ false
unfolding AllAbove
not_among n ns above = at (list_any (nat_eq n) ns) refl
  where
    at : (b : Bool) → list_any (nat_eq n) ns ≡ b → list_any (nat_eq n) ns ≡ false
    at false e = e
    at true e = absurd (let lt = above n e in omega (arith, lt))

-- ---- counting, file by file

module _ {A : Type 0} (p q r s : A → Bool)
    (inside : (x : A) → r x ≡ true → (p x ≡ q x) × (s x ≡ false))
    (outside : (x : A) → r x ≡ false → p x ≡ s x) where
  -- what passes p passes q and is one of r, or passes s
  in_parts : (xs : List A)
      → length (filter p xs) ≡ length (filter q (filter r xs)) + length (filter s xs)
  in_parts [] = refl
  in_parts (x ∷ xs) = at (r x) refl (in_parts xs)
    where
      passed : List A
      passed = filter p xs

      among : List A
      among = filter q (filter r xs)

      others : List A
      others = filter s xs

      step : (c : Bool) → length passed ≡ length among + length others
          → length (cond c (x ∷ passed) passed)
          ≡ length (cond c (x ∷ among) among) + length others
      step true e = omega (arith, e)
      step false e = e

      later : (c : Bool) → length passed ≡ length among + length others
          → length (cond c (x ∷ passed) passed)
          ≡ length among + length (cond c (x ∷ others) others)
      later true e = omega (arith, e)
      later false e = e

      at : (b : Bool) → r x ≡ b → length passed ≡ length among + length others
          → length (cond (p x) (x ∷ passed) passed)
          ≡ length (filter q (cond b (x ∷ filter r xs) (filter r xs)))
          + length (cond (s x) (x ∷ others) others)
      at true e more =
          let h = inside x e in
          ap (λ c. length (cond c (x ∷ passed) passed)) h.0
          ∙ step (q x) more
          ∙ sym (ap (λ c. length (cond (q x) (x ∷ among) among)
          + length (cond c (x ∷ others) others)) h.1)
      at false e more =
          ap (λ c. length (cond c (x ∷ passed) passed)) (outside x e) ∙ later (s x) more

and_true : (b : Bool) → (b && true) ≡ b
and_true true = refl
and_true false = refl

and_false : (b : Bool) → (b && false) ≡ false
and_false true = refl
and_false false = refl

abbrev pub counted_of : Bool → Declaration → Bool
counted_of extension d = is_of extension d.kind

times_more : (extension : Bool) (n : ℕ) (ns : List ℕ) → AllAbove n ns → (ds : List Declaration)
    → times extension (n ∷ ns) ds
    ≡ length (filter (counted_of extension) (filter (is_in n) ds)) + times extension ns ds
times_more extension n ns above ds =
    in_parts
    (λ (d : Declaration). is_of extension d.kind && list_any (nat_eq d.file) (n ∷ ns))
    (counted_of extension) (is_in n)
    (λ (d : Declaration). is_of extension d.kind && list_any (nat_eq d.file) ns)
    (λ d e. (
      ap (λ b. is_of extension d.kind && (b || list_any (nat_eq d.file) ns)) e
          ∙ and_true (is_of extension d.kind),
      ap (λ b. is_of extension d.kind && b)
          (ap (λ k. list_any (nat_eq k) ns) ((Decides-eqb d.file n).0 e) ∙ not_among n ns above)
          ∙ and_false (is_of extension d.kind),
    ))
    (λ d e. ap (λ b. is_of extension d.kind && (b || list_any (nat_eq d.file) ns)) e) ds

pub times_next : (extension : Bool) (reach : List ℕ) (i : ℕ) → IsStrictlyIncreasing reach
    → i < length reach → (ds : List Declaration)
    → times extension (drop i reach) ds
    ≡ length (filter (counted_of extension) (filter (is_in (get_or reach i 0)) ds))
    + times extension (drop (i + 1) reach) ds
times_next extension reach i rises lt ds =
    let next : suc i ≡ i + 1 = omega arith in
    ap (λ ns. times extension ns ds) (drop-cons reach i 0 lt)
    ∙ times_more extension (get_or reach i 0) (drop (suc i) reach) (above_here reach i rises lt) ds
    ∙ ap (λ k. length (filter (counted_of extension) (filter (is_in (get_or reach i 0)) ds))
    + times extension (drop k reach) ds) next

pub times_of_none : (extension : Bool) (reach : List ℕ) (i : ℕ) → length reach ≤ i
    → (ds : List Declaration) → times extension (drop i reach) ds ≡ 0
times_of_none extension reach i le ds =
    ap (λ ns. times extension ns ds) (drop_all i reach le) ∙ none ds
  where
    none : (xs : List Declaration) → times extension [] xs ≡ 0
    none [] = refl
    none (x ∷ xs) =
        let rest = filter (λ (d : Declaration). is_of extension d.kind && false) xs in
        ap (λ b. length (cond b (x ∷ rest) rest)) (and_false (is_of extension x.kind)) ∙ none xs

pub times-le : (extension : Bool) (reach : List ℕ) (ds : List Declaration)
    → times extension reach ds ≤ length ds
times-le extension reach ds =
    let count = length-filter
    (λ (d : Declaration). is_of extension d.kind && list_any (nat_eq d.file) reach) ds in
    let below = count_by-le-length
    (λ (d : Declaration). is_of extension d.kind && list_any (nat_eq d.file) reach) ds in
    omega (arith, count, below)

-- ---- the first type, file by file

or_assoc : {A : Type 0} (x y z : Option A)
    → option_or x (option_or y z) ≡ option_or (option_or x y) z
or_assoc None y z = refl
or_assoc (Some x) y z = refl

first_more : (n : ℕ) (ns : List ℕ) → AllAbove n ns → (ds : List Declaration) → FilesAscend ds
    → first_type (n ∷ ns) ds ≡ option_or (first_kind (filter (is_in n) ds)) (first_type ns ds)
first_more n ns above [] ascend = refl
first_more n ns above (d ∷ ds) ascend =
    at (nat_eq d.file n) (list_any (nat_eq d.file) ns) refl refl
    (first_more n ns above ds
    (IsNonDecreasingBy-drop (λ (x : Declaration). x.file) 1 (d ∷ ds) ascend))
  where
    here : List Declaration
    here = filter (is_in n) ds

    none : n < d.file → here ≡ []
    none less = none_in n ds
        (λ k x lt e. let le : d.file ≤ (get_or ds k x).file =
        ascend 0 (suc k) x (omega arith) (omega (arith, lt)) in
        omega (arith, less, e, le))

    at : (b e : Bool) → nat_eq d.file n ≡ b → list_any (nat_eq d.file) ns ≡ e
        → first_type (n ∷ ns) ds ≡ option_or (first_kind here) (first_type ns ds)
        → (if b || e then option_or (type_kind d.kind) (first_type (n ∷ ns) ds)
        else first_type (n ∷ ns) ds)
        ≡ option_or (first_kind (cond b (d ∷ here) here))
        (if e then option_or (type_kind d.kind) (first_type ns ds) else first_type ns ds)
    at true true eb ee more =
        let out = ap (λ k. list_any (nat_eq k) ns) ((Decides-eqb d.file n).0 eb)
        ∙ not_among n ns above in
        absurd cc
    at true false eb ee more =
        ap (option_or (type_kind d.kind)) more
        ∙ or_assoc (type_kind d.kind) (first_kind here) (first_type ns ds)
    at false true eb ee more =
        let gone = none (is_above n ns above d.file ee) in
        ap (option_or (type_kind d.kind))
        (more ∙ ap (λ xs. option_or (first_kind xs) (first_type ns ds)) gone)
        ∙ sym (ap (λ xs. option_or (first_kind xs)
        (option_or (type_kind d.kind) (first_type ns ds))) gone)
    at false false eb ee more = more

pub first_next : (sight : List ℕ) (i : ℕ) → IsStrictlyIncreasing sight → i < length sight
    → (ds : List Declaration) → FilesAscend ds
    → first_type (drop i sight) ds
    ≡ option_or (first_kind (filter (is_in (get_or sight i 0)) ds))
    (first_type (drop (i + 1) sight) ds)
first_next sight i rises lt ds ascend =
    let next : suc i ≡ i + 1 = omega arith in
    ap (λ ns. first_type ns ds) (drop-cons sight i 0 lt)
    ∙ first_more (get_or sight i 0) (drop (suc i) sight) (above_here sight i rises lt) ds ascend
    ∙ ap (λ k. option_or (first_kind (filter (is_in (get_or sight i 0)) ds))
    (first_type (drop k sight) ds)) next

pub first_of_none : (sight : List ℕ) (i : ℕ) → length sight ≤ i → (ds : List Declaration)
    → first_type (drop i sight) ds ≡ None
first_of_none sight i le ds = ap (λ ns. first_type ns ds) (drop_all i sight le) ∙ none ds
  where
    none : (xs : List Declaration) → first_type [] xs ≡ None
    none [] = refl
    none (x ∷ xs) = none xs
