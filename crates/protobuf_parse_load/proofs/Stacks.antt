-- Stacks of frames: one frame more or less, the imports of statements, and the measure.
use Rattle.std.proofs.Common.{◌≡◌, ℕ, zero, suc, ◌+◌, ◌-◌, ◌*◌, ◌^◌, ◌<◌, ◌≤◌, List, [], ◌∷◌, ◌++◌}
use Rattle.std.proofs.Common.{Some, refl, sym, ◌∙◌, ap, flat_map, length, map, arith, drop, get_or}
use Rattle.std.proofs.Common.{slice_get}
use Rattle.std.proofs.Math.Seq.{drop-cons}
use Rattle.std.proofs.Math.Nat.{mul-lt-mul_of_pos_right, suc-mul, pow-succ', pow-zero}
use Rattle.std.proofs.lemmas.Grind.{flat_map-append}
use Rattle.std.proofs.lemmas.Nat.{pow_pos}
use Rattle.std.proofs.lemmas.List.{length_push, drop_all, map-append}
use Rattle.std.proofs.lemmas.Option.{slice_get_within, get_or_from_slice_get}
use Rattle.std.specs.List.{AllByRecursion}
use Rattle.protobuf_parse_syntax.specs.Dependencies.{imported}
use Rattle.protobuf_parse_syntax.specs.Trees.{import_syntax, statement_syntax}
use Rattle.protobuf_parse_syntax.specs.declared.tree.FileStatement.{FileStatement}
use Rattle.protobuf_parse_syntax.specs.declared.tree.FileStatement.TheVariants as file_statement
use Rattle.protobuf_parse_syntax.specs.declared.tree.Import.{Import}
use Rattle.protobuf_parse_model.specs.Descriptors.{Text}
use Rattle.protobuf_parse_run.specs.Walks.{Trees}
use Rattle.protobuf_parse_load.specs.declared.loader.LoadFrame.{LoadFrame}
use Rattle.protobuf_parse_load.specs.declared.log.LoadedFile.{LoadedFile}
use Rattle.protobuf_parse_load.specs.Frames.{AreLow, chain_of, frame_path, imports_in, imports_left}
use Rattle.protobuf_parse_load.specs.Frames.{left_over, meets_at, unwinds, weight, weight_of}
use Rattle.protobuf_parse_load.specs.Steps.{At, back}

-- ** one frame more

pub chain_of-push : (c : List Text) (fs : List LoadFrame) (g : LoadFrame)
    → chain_of c (fs ++ g ∷ []) ≡ chain_of c fs ++ frame_path g ∷ []
chain_of-push c [] g = refl
chain_of-push c (f ∷ fs) g = chain_of-push (c ++ frame_path f ∷ []) fs g

pub length-chain_of : (c : List Text) (fs : List LoadFrame)
    → length (chain_of c fs) ≡ length c + length fs
length-chain_of c [] = omega arith
length-chain_of c (f ∷ fs) =
    omega (arith, length-chain_of (c ++ frame_path f ∷ []) fs, length_push c (frame_path f))

pub unwinds-push : (trees : Trees) (input : Text) (c : List Text) (fs : List LoadFrame)
    (g : LoadFrame) (b : At) → unwinds trees input c (fs ++ g ∷ []) b
    ≡ unwinds trees input c fs
    (meets_at trees input (chain_of c fs ++ frame_path g ∷ []) (frame_path g) (imports_left g)
    (back g.height b))
unwinds-push trees input c [] g b = refl
unwinds-push trees input c (f ∷ fs) g b =
    ap (λ x. meets_at trees input (c ++ frame_path f ∷ []) (frame_path f) (imports_left f)
    (back f.height x)) (unwinds-push trees input (c ++ frame_path f ∷ []) fs g b)

pub frames-push : (P : LoadFrame → Type 0) (fs : List LoadFrame) (g : LoadFrame)
    → AllByRecursion P fs → P g → AllByRecursion P (fs ++ g ∷ [])
frames-push P [] g a h = (h, tt)
frames-push P (f ∷ fs) g a h = (a.0, frames-push P fs g a.1 h)

pub frames-pop : (P : LoadFrame → Type 0) (fs : List LoadFrame) (g : LoadFrame)
    → AllByRecursion P (fs ++ g ∷ []) → AllByRecursion P fs × P g
frames-pop P [] g a = (tt, a.0)
frames-pop P (f ∷ fs) g a = let r = frames-pop P fs g a.1 in ((a.0, r.0), r.1)

low-push-from : (n : ℕ) (fs : List LoadFrame) (g : LoadFrame) → AreLow n fs
    → suc (n + length fs) + g.height ≤ 100 → AreLow n (fs ++ g ∷ [])
low-push-from n [] g a h = (omega arith, tt)
low-push-from n (f ∷ fs) g a h = (a.0, low-push-from (suc n) fs g a.1 (omega arith))

pub low-push : (fs : List LoadFrame) (g : LoadFrame) → AreLow 0 fs
    → length fs + 1 + g.height ≤ 100 → AreLow 0 (fs ++ g ∷ [])
low-push fs g a h = low-push-from 0 fs g a (omega arith)

low-pop-from : (n : ℕ) (fs : List LoadFrame) (g : LoadFrame) → AreLow n (fs ++ g ∷ [])
    → AreLow n fs × (suc (n + length fs) + g.height ≤ 100)
low-pop-from n [] g a = (tt, omega (arith, a.0))
low-pop-from n (f ∷ fs) g a =
    let r = low-pop-from (suc n) fs g a.1 in ((a.0, r.0), omega (arith, r.1))

pub low-pop : (fs : List LoadFrame) (g : LoadFrame) → AreLow 0 (fs ++ g ∷ [])
    → AreLow 0 fs × (length fs + 1 + g.height ≤ 100)
low-pop fs g a = let r = low-pop-from 0 fs g a in (r.0, omega (arith, r.1))

pub none_of : (fs : List LoadFrame) → length fs ≡ 0 → fs ≡ []
none_of [] h = refl
none_of (f ∷ fs) h = absurd (omega arith)

-- ** the measure

weight-push : (n : ℕ) (fs : List LoadFrame) (g : LoadFrame)
    → weight n (fs ++ g ∷ []) ≡ weight n fs + weight_of (n + length fs) g
weight-push n [] g = let e : n + 0 ≡ n = omega arith in rw e (omega arith)
weight-push n (f ∷ fs) g =
    let e : n + suc (length fs) ≡ suc n + length fs = omega arith in
    let h = weight-push (suc n) fs g in
    rw (e, h) (omega arith)

weight-below : (fs : List LoadFrame) (g : LoadFrame)
    → weight 0 (fs ++ g ∷ []) ≡ weight 0 fs + weight_of (length fs) g
weight-below fs g =
    let e : 0 + length fs ≡ length fs = omega arith in
    weight-push 0 fs g ∙ ap (λ k. weight 0 fs + weight_of k g) e

pow_above : (b n : ℕ) → zero < b → zero < b ^ n
pow_above b zero h = rw pow-zero (omega arith)
pow_above b (suc n) h = let e : zero * b ^ n
    < b * b ^ n = mul-lt-mul_of_pos_right h (pow_above b n h) in
    rw (pow-succ' b n) (omega (arith, e))

fewer : (a b p rest : ℕ) → a < b → zero < p → rest + a * p < rest + b * p
fewer a b p rest h pos = let e : a * p < b * p = mul-lt-mul_of_pos_right h pos in omega (arith, e)

-- a frame of k statements above one that had one more to go
above : (b k q rest m : ℕ) → suc k < b → zero < q
    → rest + m * (b * q) + suc k * q < rest + suc m * (b * q)
above b k q rest m lt pos =
    let e : suc k * q < b * q = mul-lt-mul_of_pos_right lt pos in
    rw (suc-mul m (b * q)) (omega (arith, e))

-- the next statement is passed
pub less-next : (stack : List LoadFrame) (old new : LoadFrame) → new.file ≡ old.file
    → new.next ≡ old.next + 1 → old.next < length old.file.tree.statements.items
    → left_over stack new < left_over stack old
less-next stack old new file_is next_is lt =
    rw (file_is, next_is)
    (fewer (suc (length old.file.tree.statements.items - (old.next + 1)))
    (suc (length old.file.tree.statements.items - old.next)) ((2 ^ 65) ^ (100 - length stack))
    (weight 0 stack) (omega arith) (pow_above (2 ^ 65) (100 - length stack) (pow_pos 65)))

-- and a frame is pushed
pub less-new : (stack : List LoadFrame) (old parent frame : LoadFrame)
    → parent.file ≡ old.file → parent.next ≡ old.next + 1
    → old.next < length old.file.tree.statements.items
    → length frame.file.tree.statements.items < 2 ^ 64 → frame.next ≡ 0 → length stack + 1 < 100
    → left_over (stack ++ parent ∷ []) frame < left_over stack old
less-new stack old parent frame file_is next_is lt small start room =
    let base : ℕ = 2 ^ 65 in
    let q : ℕ = base ^ (100 - (length stack + 1)) in
    let m : ℕ = length old.file.tree.statements.items - old.next in
    let k : ℕ = length frame.file.tree.statements.items - frame.next in
    let power : base ^ (100 - length stack) ≡ base * q =
    ap (λ z. base ^ z) (let e : 100 - length stack ≡ suc (100 - (length stack + 1)) = omega arith in
    e)
    ∙ pow-succ' base (100 - (length stack + 1)) in
    let size : length parent.file.tree.statements.items ≡ length old.file.tree.statements.items =
    ap (λ (z : LoadedFile). length z.tree.statements.items) file_is in
    let count : suc (length parent.file.tree.statements.items - parent.next) ≡ m =
    omega (arith, size, next_is, lt) in
    let waits : weight_of (length stack) parent ≡ m * (base * q) =
    ap (λ z. z * base ^ (100 - length stack)) count ∙ ap (λ z. m * z) power in
    let opens : weight_of (length (stack ++ parent ∷ [])) frame ≡ suc k * q =
    ap (λ z. suc k * base ^ (100 - z)) (length_push stack parent) in
    let had : weight_of (length stack) old ≡ suc m * (base * q) = ap (λ z. suc m * z) power in
    by_parts (weight 0 (stack ++ parent ∷ [])) (weight 0 stack)
    (weight_of (length stack) parent) (weight_of (length (stack ++ parent ∷ [])) frame)
    (weight_of (length stack) old) (m * (base * q)) (suc k * q) (suc m * (base * q))
    (weight-below stack parent) waits opens had
    (above base k q (weight 0 stack) m (omega (arith, small, start))
    (pow_above base (100 - (length stack + 1)) (pow_pos 65)))
  where
    by_parts : (a b c d e x y z : ℕ) → a ≡ b + c → c ≡ x → d ≡ y → e ≡ z → b + x + y < b + z
        → a + d < b + e
    by_parts a b c d e x y z h i j k l = omega arith

-- a frame is popped
pub less-close : (stack : List LoadFrame) (frame old new : LoadFrame) → new.file ≡ old.file
    → new.next ≡ old.next → left_over stack new < left_over (stack ++ old ∷ []) frame
less-close stack frame old new file_is next_is =
    let q : ℕ = (2 ^ 65) ^ (100 - length (stack ++ old ∷ [])) in
    let e : zero * q < suc (length frame.file.tree.statements.items - frame.next) * q =
    mul-lt-mul_of_pos_right (omega arith)
    (pow_above (2 ^ 65) (100 - length (stack ++ old ∷ [])) (pow_pos 65)) in
    rw (file_is, next_is, weight-below stack old) (omega (arith, e))

-- ** the imports of statements

at-drop : (xs : List FileStatement) (n : ℕ) (x : FileStatement) → slice_get xs n ≡ Some x
    → drop n xs ≡ x ∷ drop (suc n) xs
at-drop xs n x h = drop-cons xs n x (slice_get_within xs n x h)
    ∙ ap (λ z. z ∷ drop (suc n) xs) (get_or_from_slice_get xs n x x h)

imports_in-append : (xs ys : List FileStatement)
    → imports_in (xs ++ ys) ≡ imports_in xs ++ imports_in ys
imports_in-append xs ys =
    ap (flat_map imported) (map-append statement_syntax xs ys)
    ∙ flat_map-append imported (map statement_syntax xs) (map statement_syntax ys)

-- the import that is next
pub left-import : (xs : List FileStatement) (n : ℕ) (i : Import)
    → slice_get xs n ≡ Some (file_statement.Import i)
    → imports_in (drop n xs) ≡ import_syntax i ∷ imports_in (drop (n + 1) xs)
left-import xs n i h =
    let e : suc n ≡ n + 1 = omega arith in
    ap imports_in (at-drop xs n (file_statement.Import i) h)
    ∙ ap (λ z. import_syntax i ∷ imports_in (drop z xs)) e

imports-none : (x : FileStatement) → ((i : Import) → x ≡ file_statement.Import i → ⊥)
    → imports_in (x ∷ []) ≡ []
imports-none (file_statement.Import i) other = absurd (other i refl)
imports-none (file_statement.Package p) other = refl
imports-none (file_statement.Option o) other = refl
imports-none (file_statement.Message m) other = refl
imports-none (file_statement.Enumeration e) other = refl
imports-none (file_statement.Extend e) other = refl
imports-none (file_statement.Service s) other = refl

-- a statement that is no import
pub left-other : (xs : List FileStatement) (n : ℕ) (x : FileStatement) → slice_get xs n ≡ Some x
    → ((i : Import) → x ≡ file_statement.Import i → ⊥)
    → imports_in (drop n xs) ≡ imports_in (drop (n + 1) xs)
left-other xs n x h other =
    let e : suc n ≡ n + 1 = omega arith in
    ap imports_in (at-drop xs n x h)
    ∙ (imports_in-append (x ∷ []) (drop (suc n) xs)
    ∙ (ap (λ z. z ++ imports_in (drop (suc n) xs)) (imports-none x other)
    ∙ ap (λ z. imports_in (drop z xs)) e))

pub at_get : (xs : List FileStatement) (n : ℕ) (x : FileStatement) → n < length xs
    → x ≡ get_or xs n x → slice_get xs n ≡ Some x
at_get [] n x lt is = absurd (omega arith)
at_get (y ∷ xs) zero x lt is = ap Some (sym is)
at_get (y ∷ xs) (suc n) x lt is = at_get xs n x (omega arith) is

pub none-left : (f : LoadFrame) → length f.file.tree.statements.items ≤ f.next
    → imports_left f ≡ []
none-left f le = rw (drop_all f.next f.file.tree.statements.items le) refl

-- those of a file none of whose statements is passed
pub all-left : (f : LoadFrame) (file : LoadedFile) → f.file ≡ file → f.next ≡ 0
    → imports_left f ≡ imports_in file.tree.statements.items
all-left f file is start = rw (is, start) refl
