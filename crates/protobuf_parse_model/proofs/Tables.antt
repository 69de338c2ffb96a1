-- The table of declarations, step by step.
use Rattle.std.proofs.Common.{◌≡◌, ℕ, zero, suc, List, [], ◌∷◌, ◌++◌, Bool, true, false, cond}
use Rattle.std.proofs.Common.{if◌then◌else◌, Option, Some, None, refl, sym, ap, ◌∙◌, bytes_eq}
use Rattle.std.proofs.Common.{append-nil, append_assoc, map, filter, ◌+◌, ◌<◌, length}
use Rattle.std.proofs.Common.{length-append, get_or, subst, arith, nat_eq}
use Rattle.std.proofs.Common.{inl, inr}
use Rattle.std.specs.Prelude.{String, string_bytes, unwrap_or, Contains, Result, Ok, Err, IfOk}
use Rattle.std.specs.declared.alloc.AllocError.{AllocError}
use Rattle.std.specs.Global.{Global, Vec}
use Rattle.std.specs.Cmp.Lexicographic.{slice_cmp}
use Rattle.std.specs.Ordering.{nat_cmp, is_eq}
use Rattle.std.specs.String.{string_cmp}
use Rattle.std.specs.BTreeMap.{BTreeMap, UpdatesBy, get, get_by_text}
use Rattle.std.proofs.lemmas.Slice.Eq.{bytes_eq-Decides}
use Rattle.std.proofs.lemmas.Map.Text.{btree_map_updates_text}
use Rattle.std.proofs.lemmas.List.{map-append}
use Rattle.std.proofs.lemmas.List.Elements.{filter-append, Contains-append_left, Contains-push}
use Rattle.std.proofs.lemmas.List.Elements.{Contains-get_or, Contains-push_cases}
use Rattle.std.proofs.lemmas.Bool.Decides.{Decides-eqb}
use Rattle.std.specs.Cmp.{unsigned_tied}
use Rattle.protobuf_parse_syntax.specs.Trees.{FileSyntax}
use Rattle.protobuf_parse_model.specs.declared.scope.seen.Declaration.{Declaration}
use Rattle.protobuf_parse_model.specs.declared.scope.seen.Declarations.{Declarations}
use Rattle.protobuf_parse_model.specs.Descriptors.{Text}
use Rattle.protobuf_parse_model.specs.DeclaredAt.{DeclaredAt, file_at}
use Rattle.protobuf_parse_model.specs.ByHash.{listed}
use Rattle.protobuf_parse_model.specs.SeenFiles.{declared_as}
use Rattle.protobuf_parse_model.specs.TableParts.{AddsOne, SaysSame}
use Rattle.protobuf_parse_model.specs.TableParts.{KeepsListed, ListsOne}
use Rattle.protobuf_parse_model.specs.Tables.{ListsRepeated, TableTells, name_list, names_listed}
use Rattle.protobuf_parse_model.specs.Tables.{declared_by, declared_in, listed_names}

-- ---- a declaration more

module _ (old new : BTreeMap (String Global) (Vec Declaration)) (name : String Global)
    (empty list : Vec Declaration) (d : Declaration) where
  abbrev before : Text → List Declaration
  before text = listed (get_by_text old text)

  here : (text : Text) (b : Bool) → bytes_eq (string_bytes name) text ≡ b
      → list.items ≡ before (string_bytes name) ++ d ∷ []
      → listed (cond b (Some list) (get_by_text old text)) ≡ before text
      ++ (if b then d ∷ [] else [])
  here text false e is = sym (append-nil (before text))
  here text true e is = is
      ∙ ap (λ t. before t ++ d ∷ []) ((bytes_eq-Decides (string_bytes name) text).0 e)

  or_empty : (o : Option (Vec Declaration)) → empty.items ≡ []
      → (unwrap_or o empty).items ≡ listed o
  or_empty None e = e
  or_empty (Some v) e = refl

  pub put_last : UpdatesBy string_cmp
      (λ k. slice_cmp nat_cmp (string_bytes name) (string_bytes k)) old new (Some list)
      → empty.items ≡ []
      → list.items ≡ (unwrap_or (get_by_text old (string_bytes name)) empty).items ++ d ∷ []
      → (text : Text) → listed (get_by_text new text) ≡ listed (get_by_text old text)
      ++ (if bytes_eq (string_bytes name) text then d ∷ [] else [])
  put_last updates nil is text =
      ap listed (btree_map_updates_text (string_bytes name) old new (Some list) updates text)
      ∙ here text (bytes_eq (string_bytes name) text) refl
      (is ∙ ap (λ l. l ++ d ∷ []) (or_empty (get_by_text old (string_bytes name)) nil))

-- ---- names that are declared more than once

pub same_number : (x y : ℕ) → is_eq (nat_cmp x y) ≡ nat_eq x y
same_number x y = unsigned_tied x y

module _ (old new : BTreeMap ℕ (Vec (String Global))) (file : ℕ)
    (empty list : Vec (String Global)) (name : String Global) where
  at_file : (n : ℕ) (b : Bool) → nat_eq file n ≡ b
      → map string_bytes list.items ≡ names_listed old file ++ string_bytes name ∷ []
      → name_list (cond b (Some list) (get nat_cmp old n)) ≡ names_listed old n
      ++ (if b then string_bytes name ∷ [] else [])
  at_file n false e is = sym (append-nil (names_listed old n))
  at_file n true e is = is
      ∙ ap (λ k. names_listed old k ++ string_bytes name ∷ []) ((Decides-eqb file n).0 e)

  or_no_name : (o : Option (Vec (String Global))) → empty.items ≡ []
      → map string_bytes (unwrap_or o empty).items ≡ name_list o
  or_no_name None e = ap (map string_bytes) e
  or_no_name (Some v) e = refl

  pub names_more : (text : Text) → UpdatesBy nat_cmp (nat_cmp file) old new (Some list)
      → empty.items ≡ []
      → list.items ≡ (unwrap_or (get nat_cmp old file) empty).items ++ name ∷ []
      → string_bytes name ≡ text
      → (n : ℕ) → names_listed new n ≡ names_listed old n
      ++ (if nat_eq file n then text ∷ [] else [])
  names_more text updates nil is bytes n =
      ap name_list (updates.0 n)
      ∙ ap (λ b. name_list (cond b (Some list) (get nat_cmp old n))) (same_number file n)
      ∙ at_file n (nat_eq file n) refl
      (ap (map string_bytes) is
      ∙ map-append string_bytes (unwrap_or (get nat_cmp old file) empty).items (name ∷ [])
      ∙ ap (λ l. l ++ string_bytes name ∷ []) (or_no_name (get nat_cmp old file) nil))
      ∙ ap (λ t. names_listed old n ++ (if nat_eq file n then t ∷ [] else [])) bytes

-- what a list that has one more name for a file says
module _ (old new : BTreeMap ℕ (Vec (String Global))) (file : ℕ) (text : Text)
    (more : (n : ℕ) → names_listed new n ≡ names_listed old n
    ++ (if nat_eq file n then text ∷ [] else [])) where
  pub keeps_listed : KeepsListed old new
  keeps_listed n x h = subst (λ (xs : List Text). Contains xs x) (sym (more n))
      (Contains-append_left (names_listed old n) (if nat_eq file n then text ∷ [] else []) x h)

  pub is_listed : Contains (names_listed new file) text
  is_listed =
      let itself : nat_eq file file ≡ true = (Decides-eqb file file).1 refl in
      let here : names_listed new file ≡ names_listed old file ++ text ∷ [] = more file
      ∙ ap (λ b. names_listed old file ++ (if b then text ∷ [] else [])) itself in
      subst (λ (xs : List Text). Contains xs text) (sym here)
      (Contains-push (names_listed old file) text)

contains_none : {A : Type 0} (xs : List A) (x : A) → xs ≡ [] → Contains xs x → ⊥
contains_none xs x e h =
    let lt : h.0 < length xs = h.1 in
    let none : length xs ≡ 0 = ap length e in
    omega (arith, lt, none)

-- a name that isn't declared yet
pub lists_none : (old : Declarations) (new : BTreeMap ℕ (Vec (String Global))) (full : Text)
    (file : ℕ) → declared_as old full ≡ [] → new ≡ old.repeated → ListsOne old new full file
lists_none old new full file none same = record {
  kept = λ n name h. subst (λ (m : BTreeMap ℕ (Vec (String Global))).
      Contains (names_listed m n) name) (sym same) h;
  earlier = λ was d h. absurd (contains_none (declared_as old full) d none h);
  again = λ was some. absurd (empty some);
}
  where
    empty : 0 < length (declared_as old full) → ⊥
    empty some = let zero : length (declared_as old full) ≡ 0 = ap length none in
        omega (arith, zero, some)

in_one : (ds : List Declaration) (k : ℕ) (default d : Declaration) → length ds < 2 → k < length ds
    → Contains ds d → get_or ds k default ≡ d
in_one [] k default d few lt h = absurd (omega (arith, lt))
in_one (x ∷ []) zero default d few lt h = elim (Contains-push_cases [] x d h) [
  | inl g ↦ absurd (contains_none [] d refl g)
  | inr e ↦ e
]
in_one (x ∷ []) (suc k) default d few lt h = absurd (omega (arith, lt))
in_one (x ∷ y ∷ ds) k default d few lt h = absurd (omega (arith, few))

module _ (old : Declarations) (full : Text) (ds : List Declaration) (k : ℕ) (default : Declaration)
    (are : ds ≡ declared_as old full) (lt : k < length ds) where
  -- the declaration at an index of the list
  abbrev at_index : Declaration
  at_index = get_or ds k default

  -- a name that is declared once
  pub lists_second : (between new : BTreeMap ℕ (Vec (String Global))) (file : ℕ) → length ds < 2
      → KeepsListed old.repeated between → Contains (names_listed between at_index.file) full
      → KeepsListed between new
      → (Contains (names_listed between at_index.file) full
      → Contains (names_listed new file) full)
      → ListsOne old new full file
  lists_second between new file few first is second next = record {
    kept = λ n name h. second n name (first n name h);
    earlier = λ was d h. subst (λ (x : Declaration). Contains (names_listed new x.file) full)
        (in_one ds k default d few lt
        (subst (λ (xs : List Declaration). Contains xs d) (sym are) h))
        (second at_index.file full is);
    again = λ was some. next is;
  }

  -- a name that is declared more than once
  pub lists_more : (new : BTreeMap ℕ (Vec (String Global))) (file : ℕ) → 1 < length ds
      → KeepsListed old.repeated new
      → (Contains (listed_names old at_index.file) full → Contains (names_listed new file) full)
      → ListsOne old new full file
  lists_more new file more kept next =
      let two : 1 < length (declared_as old full) =
      subst (λ (xs : List Declaration). 1 < length xs) are more in
      let member : Contains (declared_as old full) at_index =
      subst (λ (xs : List Declaration). Contains xs at_index) are
      (Contains-get_or ds k default lt) in
      record {
        kept = kept;
        earlier = λ was d h. kept d.file full (was full two d h);
        again = λ was some. next (was full two at_index member);
      }

-- a name that is declared is listed, where it gets a declaration more
pub adds_one : (old new : Declarations) (full : Text) (d : Declaration)
    → ((text : Text) → declared_as new text ≡ declared_as old text
    ++ (if bytes_eq full text then d ∷ [] else []))
    → ListsOne old new.repeated full d.file → AddsOne old new full d
adds_one old new full d adds lists = record {
  declares = adds;
  lists = λ was text more x h. at was text more x h (bytes_eq full text) refl;
}
  where
    at : ListsRepeated old → (text : Text) → 1 < length (declared_as new text) → (x : Declaration)
        → Contains (declared_as new text) x → (b : Bool) → bytes_eq full text ≡ b
        → Contains (listed_names new x.file) text
    at was text more x h false e =
        let same : declared_as new text ≡ declared_as old text = adds text
        ∙ ap (λ b. declared_as old text ++ (if b then d ∷ [] else [])) e
        ∙ append-nil (declared_as old text) in
        lists.kept x.file text
        (was text (subst (λ (ds : List Declaration). 1 < length ds) same more) x
        (subst (λ (ds : List Declaration). Contains ds x) same h))
    at was text more x h true e =
        let is : full ≡ text = (bytes_eq-Decides full text).0 e in
        let one : declared_as new text ≡ declared_as old text ++ d ∷ [] = adds text
        ∙ ap (λ b. declared_as old text ++ (if b then d ∷ [] else [])) e in
        let long : length (declared_as new text) ≡ length (declared_as old text) + 1 = ap length one
        ∙ length-append (declared_as old text) (d ∷ []) in
        let some : 0 < length (declared_as old text) = omega (arith, long, more) in
        elim (Contains-push_cases (declared_as old text) d x
        (subst (λ (ds : List Declaration). Contains ds x) one h)) [
          | inl g ↦ subst (λ (t : Text). Contains (listed_names new x.file) t) is
              (lists.earlier was x
              (subst (λ (t : Text). Contains (declared_as old t) x) (sym is) g))
          | inr s ↦ subst (λ (y : Declaration). Contains (listed_names new y.file) text) s
              (subst (λ (t : Text). Contains (listed_names new d.file) t) is
              (lists.again was
              (subst (λ (t : Text). 0 < length (declared_as old t)) (sym is) some)))
        ]

-- the same, where it was put if it is the first of its name
pub adds_if_first : (old new : Declarations) (full : Text) (d : Declaration)
    (r : Result (Option (String Global)) AllocError) → new.repeated ≡ old.repeated
    → IfOk r (λ taken. taken ≡ None → declared_as old full ≡ [])
    → IfOk r (λ taken. taken ≡ None → (text : Text) → declared_as new text
    ≡ declared_as old text ++ (if bytes_eq full text then d ∷ [] else []))
    → IfOk r (λ taken. taken ≡ None → AddsOne old new full d)
adds_if_first old new full d (Ok taken) same none adds =
    λ e. adds_one old new full d (adds e) (lists_none old new.repeated full d.file (none e) same)
adds_if_first old new full d (Err x) same none adds = tt

-- the same, where the table was first made one that says the same
pub adds_after_same : (old between new : Declarations) (full : Text) (d : Declaration)
    → SaysSame old between → AddsOne between new full d → AddsOne old new full d
adds_after_same old between new full d same adds = record {
  declares = λ text. adds.declares text
      ∙ ap (λ ds. ds ++ (if bytes_eq full text then d ∷ [] else [])) (same.declares text);
  lists = λ was. adds.lists (λ text more x h.
      subst (λ (m : BTreeMap ℕ (Vec (String Global))). Contains (names_listed m x.file) text)
      (sym same.lists)
      (was text (subst (λ (ds : List Declaration). 1 < length ds) (same.declares text) more) x
      (subst (λ (ds : List Declaration). Contains ds x) (same.declares text) h)));
}

-- ---- declarations of a file, one after another

-- what the file declares was added at the end of each name's declarations
pub record Adds (old new : Declarations) (file : ℕ) (ds : List DeclaredAt) : Type 0 where
  pub declares : (name : Text)
      → declared_as new name ≡ declared_as old name ++ declared_by name file ds
  pub lists : ListsRepeated old → ListsRepeated new

abbrev made : ℕ → DeclaredAt → Declaration
made file d = record { file = file; kind = d.what.kind }

one_is : (d : DeclaredAt) (file : ℕ) (b : Bool)
    → (if b then made file d ∷ [] else []) ≡ map (made file) (cond b (d ∷ []) [])
one_is d file false = refl
one_is d file true = refl

declared_by-append : (text : Text) (file : ℕ) (xs ys : List DeclaredAt)
    → declared_by text file (xs ++ ys) ≡ declared_by text file xs ++ declared_by text file ys
declared_by-append text file xs ys =
    ap (map (made file)) (filter-append (λ (d : DeclaredAt). bytes_eq d.name text) xs ys)
    ∙ map-append (made file) (filter (λ (d : DeclaredAt). bytes_eq d.name text) xs)
    (filter (λ (d : DeclaredAt). bytes_eq d.name text) ys)

pub adds_none : (table : Declarations) (file : ℕ) → Adds table table file []
adds_none table file =
    record { declares = λ text. sym (append-nil (declared_as table text)); lists = λ h. h }

-- one more
pub adds_next : (old between new : Declarations) (file : ℕ) (ds : List DeclaredAt) (d : DeclaredAt)
    → Adds old between file ds → AddsOne between new d.name (made file d)
    → Adds old new file (ds ++ d ∷ [])
adds_next old between new file ds d so_far one = record {
  declares = λ text. one.declares text
      ∙ ap (λ es. es ++ (if bytes_eq d.name text then made file d ∷ [] else []))
      (so_far.declares text)
      ∙ append_assoc (declared_as old text) (declared_by text file ds)
      (if bytes_eq d.name text then made file d ∷ [] else [])
      ∙ ap (λ es. declared_as old text ++ (declared_by text file ds ++ es))
      (one_is d file (bytes_eq d.name text))
      ∙ ap (λ es. declared_as old text ++ es) (sym (declared_by-append text file ds (d ∷ [])));
  lists = λ h. one.lists (so_far.lists h);
}

-- ---- files, one after another

declared_in-push : (text : Text) (n file : ℕ) (files : List FileSyntax) (t : FileSyntax)
    → n + length files ≡ file → declared_in text n (files ++ t ∷ []) ≡ declared_in text n files
    ++ declared_by text file (file_at t)
declared_in-push text n file [] t at =
    let here : n ≡ file = omega arith in
    append-nil (declared_by text n (file_at t)) ∙ ap (λ k. declared_by text k (file_at t)) here
declared_in-push text n file (f ∷ files) t at =
    let next : suc n + length files ≡ file = omega arith in
    ap (λ ds. declared_by text n (file_at f) ++ ds)
    (declared_in-push text (suc n) file files t next)
    ∙ sym (append_assoc (declared_by text n (file_at f)) (declared_in text (suc n) files)
    (declared_by text file (file_at t)))

pub tells_more : (old new : Declarations) (files : List FileSyntax) (t : FileSyntax) (file : ℕ)
    → Adds old new file (file_at t) → length files ≡ file → TableTells old files
    → TableTells new (files ++ t ∷ [])
tells_more old new files t file adds at tells =
    let number : 0 + length files ≡ file = omega arith in
    record {
      declares = λ text. adds.declares text
          ∙ ap (λ ds. ds ++ declared_by text file (file_at t)) (tells.declares text)
          ∙ sym (declared_in-push text 0 file files t number);
      lists = adds.lists tells.lists;
    }
