-- Full names by their hashes.
use Rattle.std.proofs.Common.{◌≡◌, ◌⊎◌, inl, inr, ℕ, List, [], ◌∷◌, ◌++◌, Bool, true, false, cond}
use Rattle.std.proofs.Common.{ap, sym, refl, ◌∙◌, if◌then◌else◌, Option, Some, None, bytes_eq}
use Rattle.std.proofs.Common.{nat_eq, append-nil, ◌<◌, ◌≤◌, ◌-◌, zero, suc, arith, get_or, length}
use Rattle.std.proofs.Common.{subst, slice_set}
use Rattle.std.specs.Prelude.{String, string_bytes, slice_get, IsSome, Result, Ok, Err, IfOk, OnErr}
use Rattle.std.specs.Prelude.{OnOk}
use Rattle.std.specs.declared.alloc.AllocError.{AllocError}
use Rattle.std.specs.Cmp.Lexicographic.{slice_cmp}
use Rattle.std.specs.Global.{Global, Vec}
use Rattle.std.specs.BTreeMap.{BTreeMap, Updates, get, is_at}
use Rattle.std.specs.Map.{lookup}
use Rattle.std.specs.Ordering.{nat_cmp, is_eq}
use Rattle.std.proofs.lemmas.Bool.{false≢true}
use Rattle.std.proofs.lemmas.Bool.Decides.{Decides-eqb}
use Rattle.std.proofs.lemmas.Map.Text.{btree_map_updates_text}
use Rattle.std.proofs.lemmas.Option.{slice_get_within}
use Rattle.std.proofs.lemmas.Slice.Eq.{bytes_eq-Decides}
use Rattle.std.specs.String.{string_cmp}
use Rattle.protobuf_parse_model.specs.declared.scope.seen.Declaration.{Declaration}
use Rattle.protobuf_parse_model.specs.declared.scope.seen.DeclaredName.{DeclaredName}
use Rattle.protobuf_parse_model.specs.declared.scope.seen.OneHash.{OneHash}
use Rattle.protobuf_parse_model.specs.declared.scope.seen.OneHash.TheVariants.{Name, Names}
use Rattle.protobuf_parse_model.specs.ByHash.{declarations_in}
use Rattle.protobuf_parse_model.specs.AddsByHash.{AddsByHash, AddsInMap, IsWith}
use Rattle.protobuf_parse_model.specs.ByHash.{declared_by_hash, declared_of}
use Rattle.protobuf_parse_model.specs.AddsByHash.{declared_in_map, MayForget, MayForgetInMap}
use Rattle.protobuf_parse_model.specs.ByHash.{hash_of, map_of, names_in, names_of_hash}
use Rattle.protobuf_parse_model.specs.declared.scope.seen.Declarations.{Declarations}
use Rattle.protobuf_parse_model.specs.Descriptors.{Text}
use Rattle.protobuf_parse_model.specs.FileOrder.{FilesAscend}
use Rattle.protobuf_parse_model.specs.ByHash.{listed}
use Rattle.protobuf_parse_model.specs.SeenFiles.{declared_as}
use Rattle.protobuf_parse_model.proofs.FileOrder.{ascend_more}
use Rattle.protobuf_parse_model.proofs.Tables.{same_number}

-- the declaration, where the name is that
abbrev pub one_more : Text → Declaration → Text → List Declaration
one_more full d text = if bytes_eq full text then d ∷ [] else []

-- a declaration more, where the names of its hash have it
module _ (old new : BTreeMap ℕ OneHash) (full : Text) (d : Declaration) (names : OneHash)
    (updates : (q : ℕ) → get nat_cmp new q
    ≡ cond (is_eq (nat_cmp (hash_of full) q)) (Some names) (get nat_cmp old q))
    (more : (text : Text) → declared_of (Some names) text
    ≡ declared_of (get nat_cmp old (hash_of full)) text ++ one_more full d text) where
  at : (text : Text) (b e : Bool) → nat_eq (hash_of full) (hash_of text) ≡ b
      → bytes_eq full text ≡ e
      → declared_of (cond b (Some names) (get nat_cmp old (hash_of text))) text
      ≡ declared_in_map old text ++ one_more full d text
  at text true e same is = more text
      ∙ ap (λ h. declared_of (get nat_cmp old h) text ++ one_more full d text)
      ((Decides-eqb (hash_of full) (hash_of text)).0 same)
  at text false false apart is = sym (append-nil (declared_in_map old text))
      ∙ ap (λ b. declared_in_map old text ++ (if b then d ∷ [] else [])) (sym is)
  at text false true apart is = absurd (false≢true (sym apart
      ∙ (Decides-eqb (hash_of full) (hash_of text)).1
      (ap hash_of ((bytes_eq-Decides full text).0 is))))

  adds_in_map : AddsInMap old new full d
  adds_in_map text =
      ap (λ o. declared_of o text) (updates (hash_of text)
      ∙ ap (λ b. cond b (Some names) (get nat_cmp old (hash_of text)))
      (same_number (hash_of full) (hash_of text)))
      ∙ at text (nat_eq (hash_of full) (hash_of text)) (bytes_eq full text) refl refl

-- The declarations are still in the order of the files, whether the name was put first or not.
pub stays_ordered : (old : Declarations) (new : List (BTreeMap ℕ OneHash)) (full : Text)
    (d : Declaration) (taken : Option (String Global))
    → (taken ≡ None → declared_by_hash old.by_hash.items full ≡ [])
    → (taken ≡ None → AddsByHash old.by_hash.items new full d)
    → (IsSome taken
    → (text : Text) → declared_by_hash new text ≡ declared_by_hash old.by_hash.items text)
    → old.in_order ≡ true → (text : Text) → FilesAscend (declared_by_hash new text)
stays_ordered old new full d None none adds same e text =
    subst FilesAscend (sym (adds refl text))
    (ascend_more (declared_as old) (old.ordered e) full d last text)
  where
    last : (x : Declaration) → 0 < length (declared_as old full)
        → (get_or (declared_as old full) (length (declared_as old full) - 1) x).file ≤ d.file
    last x some =
        let zero : length (declared_as old full) ≡ 0 =
        ap (λ (ds : List Declaration). length ds) (none refl) in
        absurd (omega (arith, zero, some))
stays_ordered old new full d (Some n) none adds same e text =
    subst FilesAscend (sym (same refl text)) (old.ordered e text)

-- where a hash has lost its names, each full name is declared as it was, or no more
pub may_forget_one : (old between new : BTreeMap ℕ OneHash) (hash : ℕ)
    → Updates nat_cmp old between hash None → new.entries ≡ between.entries
    → MayForgetInMap old new
may_forget_one old between new hash removes same text =
    at (is_eq (nat_cmp hash (hash_of text))) refl
  where
    now : get nat_cmp new (hash_of text)
        ≡ cond (is_eq (nat_cmp hash (hash_of text))) None (get nat_cmp old (hash_of text))
    now = ap (lookup (is_at (nat_cmp (hash_of text)))) same ∙ removes.0 (hash_of text)

    at : (b : Bool) → is_eq (nat_cmp hash (hash_of text)) ≡ b
        → (declared_in_map new text ≡ declared_in_map old text) ⊎ (declared_in_map new text ≡ [])
    at true is = inr (ap (λ o. declared_of o text) (now
        ∙ ap (λ b. cond b None (get nat_cmp old (hash_of text))) is))
    at false is = inl (ap (λ o. declared_of o text) (now
        ∙ ap (λ b. cond b None (get nat_cmp old (hash_of text))) is))

-- What is still declared is in the order of the files.
pub forgets_ordered : (old : Declarations) (new : List (BTreeMap ℕ OneHash))
    → MayForget old.by_hash.items new → old.in_order ≡ true → (text : Text)
    → FilesAscend (declared_by_hash new text)
forgets_ordered old new forgets e text = at (forgets text)
  where
    at : (declared_by_hash new text ≡ declared_as old text) ⊎ (declared_by_hash new text ≡ [])
        → FilesAscend (declared_by_hash new text)
    at (inl same) = subst FilesAscend (sym same) (old.ordered e text)
    at (inr none) = subst FilesAscend (sym none) (λ i j d le less. absurd (omega (arith, less)))

-- The same, however putting a name first ended.
pub still_ordered : (old : Declarations) (new : List (BTreeMap ℕ OneHash)) (full : Text)
    (d : Declaration) (r : Result (Option (String Global)) AllocError)
    → IfOk r (λ taken. taken ≡ None → declared_by_hash old.by_hash.items full ≡ [])
    → IfOk r (λ taken. taken ≡ None → AddsByHash old.by_hash.items new full d)
    → IfOk r (λ taken. IsSome taken
    → (text : Text) → declared_by_hash new text ≡ declared_by_hash old.by_hash.items text)
    → OnErr r ((text : Text) → declared_by_hash new text ≡ declared_by_hash old.by_hash.items text)
    → old.in_order ≡ true → (text : Text) → FilesAscend (declared_by_hash new text)
still_ordered old new full d (Ok taken) none adds same kept e =
    stays_ordered old new full d taken none adds same e
still_ordered old new full d (Err x) none adds same kept e =
    λ text. subst FilesAscend (sym (kept text)) (old.ordered e text)

-- The same, however adding a declaration to others ended.
pub ordered_again : (old : Declarations) (new : List (BTreeMap ℕ OneHash)) (full : Text)
    (d : Declaration) (r : Result (Unit {0}) AllocError)
    → OnOk r (AddsByHash old.by_hash.items new full d)
    → OnErr r (MayForget old.by_hash.items new)
    → ((text : Text)
    → FilesAscend (declared_as old text ++ (if bytes_eq full text then d ∷ [] else [])))
    → old.in_order ≡ true → (text : Text) → FilesAscend (declared_by_hash new text)
ordered_again old new full d (Ok x) adds forgets ascend e text =
    subst FilesAscend (sym (adds text)) (ascend text)
ordered_again old new full d (Err x) adds forgets ascend e text =
    forgets_ordered old new forgets e text

-- a declaration more, behind those of the names of its hash
pub adds_alike : (old between new : BTreeMap ℕ OneHash) (full : Text) (d : Declaration) (hash : ℕ)
    (after : OneHash) → hash ≡ hash_of full → IsWith (get nat_cmp old hash) full d after
    → Updates nat_cmp old between hash None → Updates nat_cmp between new hash (Some after)
    → AddsInMap old new full d
adds_alike old between new full d hash after is more removes inserts =
    adds_in_map old new full d after
    (λ q. inserts.0 q
    ∙ ap (λ o. cond (is_eq (nat_cmp hash q)) (Some after) o) (removes.0 q)
    ∙ twice q (is_eq (nat_cmp hash q))
    ∙ ap (λ h. cond (is_eq (nat_cmp h q)) (Some after) (get nat_cmp old q)) is)
    (λ text. more text ∙ ap (λ h. declared_of (get nat_cmp old h) text ++ one_more full d text) is)
  where
    twice : (q : ℕ) (b : Bool) → cond b (Some after) (cond b None (get nat_cmp old q))
        ≡ cond b (Some after) (get nat_cmp old q)
    twice q true = refl
    twice q false = refl

-- the only name of its hash, in a map of names
pub only_listed : (only : DeclaredName) (none names : BTreeMap (String Global) (Vec Declaration))
    (list : Vec Declaration) → none.entries ≡ []
    → Updates string_cmp none names only.name (Some list)
    → list.items ≡ declarations_in only.declared
    → (text : Text) → declared_of (Some (Names names)) text ≡ declared_of (Some (Name only)) text
only_listed only none names list empty updates is text =
    ap listed (btree_map_updates_text (string_bytes only.name) none names (Some list) updates text)
    ∙ ap (λ es. listed (cond (bytes_eq (string_bytes only.name) text) (Some list)
    (lookup (is_at (λ k. slice_cmp nat_cmp text (string_bytes k))) es))) empty
    ∙ at (bytes_eq (string_bytes only.name) text)
  where
    at : (b : Bool) → listed (cond b (Some list) None)
        ≡ (if b then declarations_in only.declared else [])
    at true = is
    at false = refl

-- ---- one of the maps in place of another

set_here : {X : Type 0} (xs : List X) (i : ℕ) (y : X) → i < length xs
    → slice_get (slice_set xs i y) i ≡ Some y
set_here [] i y within = absurd (omega (arith, within))
set_here (x ∷ xs) zero y within = refl
set_here (x ∷ xs) (suc i) y within = set_here xs i y (omega (arith, within))

set_elsewhere : {X : Type 0} (xs : List X) (i j : ℕ) (y : X) → (j ≡ i → ⊥)
    → slice_get (slice_set xs i y) j ≡ slice_get xs j
set_elsewhere [] i j y other = refl
set_elsewhere (x ∷ xs) zero zero y other = absurd (other refl)
set_elsewhere (x ∷ xs) zero (suc j) y other = refl
set_elsewhere (x ∷ xs) (suc i) zero y other = refl
set_elsewhere (x ∷ xs) (suc i) (suc j) y other = set_elsewhere xs i j y (λ e. other (ap suc e))

module _ (start maps : List (BTreeMap ℕ OneHash)) (before after : BTreeMap ℕ OneHash) (full : Text)
    (i : ℕ) (same : (hash : ℕ) → names_of_hash maps hash ≡ names_of_hash start hash)
    (is : i ≡ map_of (hash_of full)) (there : slice_get maps i ≡ Some before) where
  abbrev changed : List (BTreeMap ℕ OneHash)
  changed = slice_set maps i after

  -- the declarations of a name, by whether its hash is of that map
  in_changed : (text : Text) (b : Bool) → nat_eq (map_of (hash_of text)) i ≡ b
      → declared_by_hash changed text
      ≡ cond b (declared_in_map after text) (declared_by_hash start text)
  in_changed text true here =
      let at = (Decides-eqb (map_of (hash_of text)) i).0 here in
      ap (λ k. declared_of (names_in (slice_get changed k) (hash_of text)) text) at
      ∙ ap (λ m. declared_of (names_in m (hash_of text)) text)
      (set_here maps i after (slice_get_within maps i before there))
  in_changed text false elsewhere =
      ap (λ m. declared_of (names_in m (hash_of text)) text)
      (set_elsewhere maps i (map_of (hash_of text)) after
      (λ e. false≢true (sym elsewhere ∙ (Decides-eqb (map_of (hash_of text)) i).1 e)))
      ∙ ap (λ o. declared_of o text) (same (hash_of text))

  in_start : (text : Text) → nat_eq (map_of (hash_of text)) i ≡ true
      → declared_in_map before text ≡ declared_by_hash start text
  in_start text here =
      let at = (Decides-eqb (map_of (hash_of text)) i).0 here in
      ap (λ m. declared_of (names_in m (hash_of text)) text) (sym there)
      ∙ ap (λ k. declared_of (names_in (slice_get maps k) (hash_of text)) text) (sym at)
      ∙ ap (λ o. declared_of o text) (same (hash_of text))

  -- what is the same in both maps is the same in all
  pub keeps_all : ((text : Text) → declared_in_map after text ≡ declared_in_map before text)
      → (text : Text) → declared_by_hash changed text ≡ declared_by_hash start text
  keeps_all keeps text = go (nat_eq (map_of (hash_of text)) i) refl
    where
      go : (b : Bool) → nat_eq (map_of (hash_of text)) i ≡ b
          → declared_by_hash changed text ≡ declared_by_hash start text
      go true here = in_changed text true here ∙ keeps text ∙ in_start text here
      go false elsewhere = in_changed text false elsewhere

  -- what was added in the one was added in all
  pub adds_in_all : (d : Declaration) → AddsInMap before after full d
      → AddsByHash start changed full d
  adds_in_all d adds text = go (nat_eq (map_of (hash_of text)) i) (bytes_eq full text) refl refl
    where
      go : (b e : Bool) → nat_eq (map_of (hash_of text)) i ≡ b → bytes_eq full text ≡ e
          → declared_by_hash changed text ≡ declared_by_hash start text ++ one_more full d text
      go true e here eq = in_changed text true here ∙ adds text
          ∙ ap (λ ds. ds ++ one_more full d text) (in_start text here)
      go false false elsewhere eq = in_changed text false elsewhere
          ∙ sym (append-nil (declared_by_hash start text))
          ∙ ap (λ b. declared_by_hash start text ++ (if b then d ∷ [] else [])) (sym eq)
      go false true elsewhere eq = absurd (false≢true (sym elsewhere
          ∙ (Decides-eqb (map_of (hash_of text)) i).1
          (ap (λ t. map_of (hash_of t)) (sym ((bytes_eq-Decides full text).0 eq)) ∙ sym is)))

  -- what may be gone from the one may be gone from all
  pub may_forget_in_all : MayForgetInMap before after → MayForget start changed
  may_forget_in_all forgets text = go (nat_eq (map_of (hash_of text)) i) refl
    where
      at : nat_eq (map_of (hash_of text)) i ≡ true
          → (declared_in_map after text ≡ declared_in_map before text)
          ⊎ (declared_in_map after text ≡ [])
          → (declared_by_hash changed text ≡ declared_by_hash start text)
          ⊎ (declared_by_hash changed text ≡ [])
      at here (inl same) = inl (in_changed text true here ∙ same ∙ in_start text here)
      at here (inr none) = inr (in_changed text true here ∙ none)

      go : (b : Bool) → nat_eq (map_of (hash_of text)) i ≡ b
          → (declared_by_hash changed text ≡ declared_by_hash start text)
          ⊎ (declared_by_hash changed text ≡ [])
      go true here = at here (forgets text)
      go false elsewhere = inl (in_changed text false elsewhere)
