-- Stacks of frames: one frame more or less, the imports of statements, and the measure.
use Rattle.std.proofs.Common.{◌≡◌, ℕ, zero, suc, ◌+◌, ◌-◌, ◌*◌, ◌^◌, ◌<◌, ◌≤◌, List, [], ◌∷◌, ◌++◌}
use Rattle.std.proofs.Common.{Some, refl, sym, ◌∙◌, ap, append_assoc, append-nil, flat_map, length}
use Rattle.std.proofs.Common.{map, arith, take, drop, get_or, slice_get}
use Rattle.std.proofs.Math.Seq.{take-suc, drop-cons}
use Rattle.std.proofs.Math.Nat.{mul-lt-mul_of_pos_right, suc-mul, pow-succ', pow-zero}
use Rattle.std.proofs.lemmas.Grind.{flat_map-append}
use Rattle.std.proofs.lemmas.Nat.{pow_pos}
use Rattle.std.proofs.lemmas.List.{length_push, drop_all, map-append}
use Rattle.std.proofs.lemmas.Option.{slice_get_within, get_or_from_slice_get}
use Rattle.std.specs.Prelude.{String}
use Rattle.std.specs.Global.{Global}
use Rattle.std.specs.List.{AllByRecursion}
use Rattle.protobuf_parse_base.specs.PathViews.{path_buf_text}
use Rattle.protobuf_parse_syntax.specs.Dependencies.{imported, imports}
use Rattle.protobuf_parse_syntax.specs.Trees.{ImportSyntax, import_syntax, statement_syntax}
use Rattle.protobuf_parse_syntax.specs.declared.tree.FileStatement.{FileStatement}
use Rattle.protobuf_parse_syntax.specs.declared.tree.FileStatement.TheVariants as file_statement
use Rattle.protobuf_parse_syntax.specs.declared.tree.Import.{Import}
use Rattle.protobuf_parse_model.specs.Descriptors.{Text}
use Rattle.protobuf_parse_run.specs.declared.frame.LoadFrame.{LoadFrame}
use Rattle.protobuf_parse_run.specs.declared.loader.LoadedAs.{LoadedAs}
use Rattle.protobuf_parse_run.specs.Walks.{Event, Trees, public_path, public_paths_of}
use Rattle.protobuf_parse_run.specs.Loading.{chain_texts}
use Rattle.protobuf_parse_run.specs.Frames.{AreWaiting, IsWaiting, Joined, chain_of, first_path}
use Rattle.protobuf_parse_run.specs.Frames.{imports_in, later_in, left_in, left_over, owed}
use Rattle.protobuf_parse_run.specs.Frames.{frame_path}
use Rattle.protobuf_parse_run.specs.Frames.{public_in, to_meet, todo, weight}

-- ** one frame more

pub chain_of-push : (c : List Text) (fs : List LoadFrame) (g : LoadFrame)
    → chain_of c (fs ++ g ∷ []) ≡ chain_of c fs ++ frame_path g ∷ []
chain_of-push c [] g = refl
chain_of-push c (f ∷ fs) g = chain_of-push (c ++ frame_path f ∷ []) fs g

pub length-chain_of : (c : List Text) (fs : List LoadFrame)
    → length (chain_of c fs) ≡ length c + length fs
length-chain_of c [] = omega arith
length-chain_of c (f ∷ fs) =
    omega (arith, length-chain_of (c ++ frame_path f ∷ []) fs, length_push c (frame_path f))

pub first_path-push : (fs : List LoadFrame) (g : LoadFrame) (path : Text)
    → first_path (fs ++ g ∷ []) path ≡ first_path fs (frame_path g)
first_path-push [] g path = refl
first_path-push (f ∷ fs) g path = refl

pub todo-push : (trees : Trees) (i : Text) (c : List Text) (fs : List LoadFrame) (g : LoadFrame)
    → todo trees i c (fs ++ g ∷ []) ≡ owed trees i (chain_of c fs) (frame_path g) (later_in g)
    ++ todo trees i c fs
todo-push trees i c [] g = sym (append-nil _)
todo-push trees i c (f ∷ fs) g =
    let later : List Event = owed trees i c (frame_path f) (later_in f) in
    ap (λ z. z ++ later) (todo-push trees i (c ++ frame_path f ∷ []) fs g)
    ∙ append_assoc (owed trees i (chain_of (c ++ frame_path f ∷ []) fs) (frame_path g) (later_in g))
    (todo trees i (c ++ frame_path f ∷ []) fs) later

pub to_meet-push : (fs : List LoadFrame) (g : LoadFrame)
    → to_meet (fs ++ g ∷ []) ≡ length (later_in g) + to_meet fs
to_meet-push [] g = refl
to_meet-push (f ∷ fs) g = omega (arith, to_meet-push fs g)

pub frames-push : (P : LoadFrame → Type 0) (fs : List LoadFrame) (g : LoadFrame)
    → AllByRecursion P fs → P g → AllByRecursion P (fs ++ g ∷ [])
frames-push P [] g a h = (h, tt)
frames-push P (f ∷ fs) g a h = (a.0, frames-push P fs g a.1 h)

pub frames-pop : (P : LoadFrame → Type 0) (fs : List LoadFrame) (g : LoadFrame)
    → AllByRecursion P (fs ++ g ∷ []) → AllByRecursion P fs × P g
frames-pop P [] g a = (tt, a.0)
frames-pop P (f ∷ fs) g a = let r = frames-pop P fs g a.1 in ((a.0, r.0), r.1)

pub frames-into : (P Q : LoadFrame → Type 0) → ((f : LoadFrame) → P f → Q f) → (fs : List LoadFrame)
    → AllByRecursion P fs → AllByRecursion Q fs
frames-into P Q into [] a = tt
frames-into P Q into (f ∷ fs) a = (into f a.0, frames-into P Q into fs a.1)

pub waiting-push : (c : List Text) (fs : List LoadFrame) (g : LoadFrame) (path : Text)
    → AreWaiting c fs (frame_path g) → IsWaiting (chain_of c fs) g path
    → AreWaiting c (fs ++ g ∷ []) path
waiting-push c [] g path a w = (w, tt)
waiting-push c (f ∷ fs) g path a w =
    (rw (first_path-push fs g path) a.0, waiting-push (c ++ frame_path f ∷ []) fs g path a.1 w)

pub waiting-pop : (c : List Text) (fs : List LoadFrame) (g : LoadFrame) (path : Text)
    → AreWaiting c (fs ++ g ∷ []) path → AreWaiting c fs (frame_path g)
    × IsWaiting (chain_of c fs) g path
waiting-pop c [] g path a = (tt, a.0)
waiting-pop c (f ∷ fs) g path a =
    let r = waiting-pop (c ++ frame_path f ∷ []) fs g path a.1 in
    (((rw (first_path-push fs g path) at a.0), r.0), r.1)

pub none_of : (fs : List LoadFrame) → length fs ≡ 0 → fs ≡ []
none_of [] h = refl
none_of (f ∷ fs) h = absurd (omega arith)

pub none-texts : (chain : List (String Global)) → chain_texts chain ≡ [] → chain ≡ []
none-texts [] h = refl
none-texts (x ∷ chain) h = cc

-- ** the measure

weight-push : (n : ℕ) (fs : List LoadFrame) (g : LoadFrame)
    → weight n (fs ++ g ∷ []) ≡ weight n fs + (length g.tree.statements.items - g.next) * (2 ^ 65) ^
    (100 - (n + length fs))
weight-push n [] g = let e : n + 0 ≡ n = omega arith in rw e (omega arith)
weight-push n (f ∷ fs) g =
    let e : n + suc (length fs) ≡ suc n + length fs = omega arith in
    let h = weight-push (suc n) fs g in
    rw (e, h) (omega arith)

weight-below : (fs : List LoadFrame) (g : LoadFrame)
    → weight 0 (fs ++ g ∷ []) ≡ weight 0 fs + (length g.tree.statements.items - g.next) * (2 ^ 65) ^
    (100 - length fs)
weight-below fs g =
    let e : 0 + length fs ≡ length fs = omega arith in
    weight-push 0 fs g
    ∙ ap (λ k. weight 0 fs + (length g.tree.statements.items - g.next) * (2 ^ 65) ^ (100 - k)) e

pow_above : (b n : ℕ) → zero < b → zero < b ^ n
pow_above b zero h = rw pow-zero (omega arith)
pow_above b (suc n) h = let e : zero * b ^ n
    < b * b ^ n = mul-lt-mul_of_pos_right h (pow_above b n h) in
    rw (pow-succ' b n) (omega (arith, e))

fewer : (a b p rest : ℕ) → a < b → zero < p → rest + a * p < rest + b * p
fewer a b p rest h pos = let e : a * p < b * p = mul-lt-mul_of_pos_right h pos in omega (arith, e)

-- a frame of k statements above one that had one more to go
above : (b k q rest m : ℕ) → suc k < b → zero < q
    → rest + m * (b * q) + suc k * q < rest + suc m * (b * q)
above b k q rest m lt pos =
    let e : suc k * q < b * q = mul-lt-mul_of_pos_right lt pos in
    rw (suc-mul m (b * q)) (omega (arith, e))

-- the next statement is passed, or its import taken
pub less-next : (stack : List LoadFrame) (old new : LoadFrame) → new.tree ≡ old.tree
    → new.next ≡ suc old.next → old.next < length old.tree.statements.items
    → left_over stack new < left_over stack old
less-next stack old new tree_is next_is lt =
    rw (tree_is, next_is)
    (fewer (suc (length old.tree.statements.items - suc old.next))
    (suc (length old.tree.statements.items - old.next)) ((2 ^ 65) ^ (100 - length stack))
    (weight 0 stack) (omega arith) (pow_above (2 ^ 65) (100 - length stack) (pow_pos 65)))

-- a frame is pushed
pub less-new : (stack : List LoadFrame) (old frame : LoadFrame)
    → length frame.tree.statements.items < 2 ^ 64 → frame.next ≡ 0 → length stack + 1 < 100
    → left_over (stack ++ old ∷ []) frame < left_over stack old
less-new stack old frame small start room =
    let q : ℕ = (2 ^ 65) ^ (100 - length (stack ++ old ∷ [])) in
    let l : length (stack ++ old ∷ []) ≡ length stack + 1 = length_push stack old in
    let m : 100 - length stack ≡ suc (100 - length (stack ++ old ∷ [])) = omega arith in
    rw (weight-below stack old, m, pow-succ' (2 ^ 65) (100 - length (stack ++ old ∷ [])))
    (above (2 ^ 65) (length frame.tree.statements.items - frame.next) q (weight 0 stack)
    (length old.tree.statements.items - old.next) (omega arith)
    (pow_above (2 ^ 65) (100 - length (stack ++ old ∷ [])) (pow_pos 65)))

-- a frame is popped
pub less-close : (stack : List LoadFrame) (frame old new : LoadFrame) (placed : LoadedAs)
    → Joined old placed new → old.next < length old.tree.statements.items
    → left_over stack new < left_over (stack ++ old ∷ []) frame
less-close stack frame old new placed j lt =
    let q : ℕ = (2 ^ 65) ^ (100 - length (stack ++ old ∷ [])) in
    let k : suc (length old.tree.statements.items - suc old.next)
    ≡ length old.tree.statements.items - old.next = omega arith in
    let e : zero * q < suc (length frame.tree.statements.items - frame.next) * q =
    mul-lt-mul_of_pos_right (omega arith)
    (pow_above (2 ^ 65) (100 - length (stack ++ old ∷ [])) (pow_pos 65)) in
    rw (j.tree_is, j.next, k, weight-below stack old) (omega (arith, e))

-- ** the imports of statements

at-drop : (xs : List FileStatement) (n : ℕ) (x : FileStatement) → slice_get xs n ≡ Some x
    → drop n xs ≡ x ∷ drop (suc n) xs
at-drop xs n x h = drop-cons xs n x (slice_get_within xs n x h)
    ∙ ap (λ z. z ∷ drop (suc n) xs) (get_or_from_slice_get xs n x x h)

at-take : (xs : List FileStatement) (n : ℕ) (x : FileStatement) → slice_get xs n ≡ Some x
    → take (suc n) xs ≡ take n xs ++ x ∷ []
at-take xs n x h = take-suc xs n x (slice_get_within xs n x h)
    ∙ ap (λ z. take n xs ++ z ∷ []) (get_or_from_slice_get xs n x x h)

imports_in-append : (xs ys : List FileStatement)
    → imports_in (xs ++ ys) ≡ imports_in xs ++ imports_in ys
imports_in-append xs ys =
    ap (λ z. map (λ (i : ImportSyntax). i.path) (imports z)) (map-append statement_syntax xs ys)
    ∙ (ap (map (λ (i : ImportSyntax). i.path))
    (flat_map-append imported (map statement_syntax xs) (map statement_syntax ys))
    ∙ map-append (λ (i : ImportSyntax). i.path) (imports (map statement_syntax xs))
    (imports (map statement_syntax ys)))

pub imports_in-shorter : (xs : List FileStatement) → length (imports_in xs) ≤ length xs
imports_in-shorter [] = omega arith
imports_in-shorter (file_statement.Import i ∷ xs) = omega (arith, imports_in-shorter xs)
imports_in-shorter (file_statement.Package p ∷ xs) = omega (arith, imports_in-shorter xs)
imports_in-shorter (file_statement.Option o ∷ xs) = omega (arith, imports_in-shorter xs)
imports_in-shorter (file_statement.Message m ∷ xs) = omega (arith, imports_in-shorter xs)
imports_in-shorter (file_statement.Enumeration e ∷ xs) = omega (arith, imports_in-shorter xs)
imports_in-shorter (file_statement.Extend e ∷ xs) = omega (arith, imports_in-shorter xs)
imports_in-shorter (file_statement.Service s ∷ xs) = omega (arith, imports_in-shorter xs)

-- the import that is next, among those left and those done
pub left-import : (xs : List FileStatement) (n : ℕ) (i : Import)
    → slice_get xs n ≡ Some (file_statement.Import i)
    → imports_in (drop n xs) ≡ path_buf_text i.path ∷ imports_in (drop (suc n) xs)
left-import xs n i h = ap imports_in (at-drop xs n (file_statement.Import i) h)

pub done-import : (xs : List FileStatement) (n : ℕ) (i : Import)
    → slice_get xs n ≡ Some (file_statement.Import i)
    → imports_in (take (suc n) xs) ≡ imports_in (take n xs) ++ path_buf_text i.path ∷ []
done-import xs n i h = ap imports_in (at-take xs n (file_statement.Import i) h)
    ∙ imports_in-append (take n xs) (file_statement.Import i ∷ [])

-- a statement that is no import
imports-none : (x : FileStatement) → ((i : Import) → x ≡ file_statement.Import i → ⊥)
    → imports_in (x ∷ []) ≡ []
imports-none (file_statement.Import i) other = absurd (other i refl)
imports-none (file_statement.Package p) other = refl
imports-none (file_statement.Option o) other = refl
imports-none (file_statement.Message m) other = refl
imports-none (file_statement.Enumeration e) other = refl
imports-none (file_statement.Extend e) other = refl
imports-none (file_statement.Service s) other = refl

pub left-other : (xs : List FileStatement) (n : ℕ) (x : FileStatement) → slice_get xs n ≡ Some x
    → ((i : Import) → x ≡ file_statement.Import i → ⊥)
    → imports_in (drop n xs) ≡ imports_in (drop (suc n) xs)
left-other xs n x h other = ap imports_in (at-drop xs n x h)
    ∙ (imports_in-append (x ∷ []) (drop (suc n) xs)
    ∙ ap (λ z. z ++ imports_in (drop (suc n) xs)) (imports-none x other))

pub done-other : (xs : List FileStatement) (n : ℕ) (x : FileStatement) → slice_get xs n ≡ Some x
    → ((i : Import) → x ≡ file_statement.Import i → ⊥)
    → imports_in (take (suc n) xs) ≡ imports_in (take n xs)
done-other xs n x h other = ap imports_in (at-take xs n x h)
    ∙ (imports_in-append (take n xs) (x ∷ [])
    ∙ (ap (λ z. imports_in (take n xs) ++ z) (imports-none x other) ∙ append-nil _))

-- ** the public imports

public_in-append : (xs ys : List FileStatement)
    → public_in (xs ++ ys) ≡ public_in xs ++ public_in ys
public_in-append xs ys = ap (flat_map public_paths_of) (map-append statement_syntax xs ys)
    ∙ flat_map-append public_paths_of (map statement_syntax xs) (map statement_syntax ys)

pub public-import : (xs : List FileStatement) (n : ℕ) (i : Import)
    → slice_get xs n ≡ Some (file_statement.Import i)
    → public_in (take (suc n) xs) ≡ public_in (take n xs) ++ public_path (import_syntax i)
public-import xs n i h =
    ap public_in (at-take xs n (file_statement.Import i) h)
    ∙ (public_in-append (take n xs) (file_statement.Import i ∷ [])
    ∙ ap (λ z. public_in (take n xs) ++ z)
    (append-nil (public_path (import_syntax i) ++ []) ∙ append-nil (public_path (import_syntax i))))

public-none : (x : FileStatement) → ((i : Import) → x ≡ file_statement.Import i → ⊥)
    → public_in (x ∷ []) ≡ []
public-none (file_statement.Import i) other = absurd (other i refl)
public-none (file_statement.Package p) other = refl
public-none (file_statement.Option o) other = refl
public-none (file_statement.Message m) other = refl
public-none (file_statement.Enumeration e) other = refl
public-none (file_statement.Extend e) other = refl
public-none (file_statement.Service s) other = refl

pub public-other : (xs : List FileStatement) (n : ℕ) (x : FileStatement) → slice_get xs n ≡ Some x
    → ((i : Import) → x ≡ file_statement.Import i → ⊥)
    → public_in (take (suc n) xs) ≡ public_in (take n xs)
public-other xs n x h other = ap public_in (at-take xs n x h)
    ∙ (public_in-append (take n xs) (x ∷ [])
    ∙ (ap (λ z. public_in (take n xs) ++ z) (public-none x other) ∙ append-nil _))

pub at_get : (xs : List FileStatement) (n : ℕ) (x : FileStatement) → n < length xs
    → x ≡ get_or xs n x → slice_get xs n ≡ Some x
at_get [] n x lt is = absurd (omega arith)
at_get (y ∷ xs) zero x lt is = ap Some (sym is)
at_get (y ∷ xs) (suc n) x lt is = at_get xs n x (omega arith) is

pub none-left : (f : LoadFrame) → length f.tree.statements.items ≤ f.next → left_in f ≡ []
none-left f le = rw (drop_all f.next f.tree.statements.items le) refl

-- what is left behind the import that was taken
pub left-joined : (old new : LoadFrame) (placed : LoadedAs) → Joined old placed new
    → left_in new ≡ later_in old
left-joined old new placed j = rw (j.tree_is, j.next) refl
