-- Where names that are declared twice are told, however the files are listed.
use Rattle.std.proofs.Common.{◌≡◌, ℕ, zero, suc, Bool, true, false, not, cond, List, [], ◌∷◌}
use Rattle.std.proofs.Common.{Option, None, Some, filter, map, refl, sym, ap, subst, ◌∙◌, arith}
use Rattle.std.proofs.Common.{Contains, inl, inr}
use Rattle.std.specs.Prelude.{bytes_eq, if◌then◌else◌, slice_get, string_bytes}
use Rattle.std.proofs.lemmas.List.Elements.{Contains-append_cases, Contains-append_left}
use Rattle.std.proofs.lemmas.List.Elements.{Contains-append_right}
use Rattle.protobuf_parse_lexer.specs.declared.lexer.token.Place.{Place}
use Rattle.protobuf_parse_syntax.specs.Dependencies.{imports}
use Rattle.protobuf_parse_syntax.specs.Trees.{FileSyntax, ImportSyntax}
use Rattle.protobuf_parse_model.specs.Descriptors.{Text}
use Rattle.protobuf_parse_model.specs.Faults.{Among, here, there, Blames, Fault, Wrong, fault_view}
use Rattle.protobuf_parse_model.specs.declared.error.ElabError.{ElabError}
use Rattle.protobuf_parse_model.specs.declared.error.ElabFailure.{ElabFailure}
use Rattle.protobuf_parse_model.specs.declared.error.ElabFailure.TheVariants as failure
use Rattle.protobuf_parse_model.specs.LastDeclared.{last_declared}
use Rattle.protobuf_parse_model.specs.Linking.{before_others, beginning, link_faults}
use Rattle.protobuf_parse_elaboration.specs.FilesByPath.{AreDistinct, among, trees_at}
use Rattle.protobuf_parse_run.specs.Repeats.{completing_import, is_nothing, is_of_extension}
use Rattle.protobuf_parse_run.specs.Repeats.{or_place, declaring, out_of_reach, repeat_faults}
use Rattle.protobuf_parse_run.specs.Repeats.{repeat_place, told_at}
use Rattle.protobuf_parse_run.specs.Run.{Files}
use Rattle.protobuf_parse_run.specs.Loading.{LoadedEntry, file_at, named_trees, paths_in}
use Rattle.protobuf_parse_run.specs.Walks.{import_paths}
use Rattle.protobuf_parse_run.proofs.FirstFaults.{none-before}
use Rattle.protobuf_parse_run.proofs.Keeping.{bool_cases, or_left, or_right, text-same, text-true}
use Rattle.protobuf_parse_run.proofs.Numbers.{only-one}

-- ** lists that were mapped

pub none-of : {A B : Type 0} (f : A → B) (xs : List A) → map f xs ≡ [] → xs ≡ []
none-of f [] h = refl
none-of f (x ∷ xs) h = cc

map-among : {A B : Type 0} {x : A} (f : A → B) (xs : List A) → Among xs x → Among (map f xs) (f x)
map-among f [] h = elim h [ ]
map-among f (x ∷ xs) here = here
map-among f (x ∷ xs) (there h) = there (map-among f xs h)

among-map : {A B : Type 0} {y : B} (f : A → B) (xs : List A) → Among (map f xs) y
    → (x : A) × Among xs x × (y ≡ f x)
among-map f [] h = elim h [ ]
among-map f (x ∷ xs) here = (x, here, refl)
among-map f (x ∷ xs) (there h) = let r = among-map f xs h in (r.0, there r.1, r.2)

-- ** lists that were filtered

later : {A : Type 0} {x : A} (b : Bool) (y : A) (ys : List A) → Among ys x
    → Among (cond b (y ∷ ys) ys) x
later true y ys h = there h
later false y ys h = h

pub kept : {A : Type 0} {x : A} (test : A → Bool) (xs : List A) → Among xs x → test x ≡ true
    → Among (filter test xs) x
kept test [] h e = elim h [ ]
kept test (y ∷ xs) here e =
    subst (λ (b : Bool). Among (cond b (y ∷ filter test xs) (filter test xs)) y) (sym e) here
kept test (y ∷ xs) (there h) e = later (test y) y (filter test xs) (kept test xs h e)

first-kept : {A : Type 0} {x : A} (test : A → Bool) (b : Bool) (y : A) (xs ys : List A)
    → test y ≡ b → (Among ys x → Among xs x × (test x ≡ true)) → Among (cond b (y ∷ ys) ys) x
    → Among (y ∷ xs) x × (test x ≡ true)
first-kept test true y xs ys is more here = (here, is)
first-kept test true y xs ys is more (there h) = let r = more h in (there r.0, r.1)
first-kept test false y xs ys is more h = let r = more h in (there r.0, r.1)

pub kept-from : {A : Type 0} {x : A} (test : A → Bool) (xs : List A) → Among (filter test xs) x
    → Among xs x × (test x ≡ true)
kept-from test [] h = elim h [ ]
kept-from test (y ∷ xs) h =
    first-kept test (test y) y xs (filter test xs) refl (kept-from test xs) h

-- ** files that are listed otherwise

-- each of these has its like among those, and each of those among these
pub record AreAlike {A B : Type 0} (Same : A → B → Type 0) (xs : List A)
    (ys : List B) : Type 0 where
  pub into : (x : A) → Among xs x → (y : B) × Among ys y × Same x y
  pub back : (y : B) → Among ys y → (x : A) × Among xs x × Same x y

nothing-alike : {A B : Type 0} (Same : A → B → Type 0) (xs : List A) (ys : List B)
    → AreAlike Same xs ys → is_nothing xs ≡ is_nothing ys
nothing-alike Same [] [] a = refl
nothing-alike Same [] (y ∷ ys) a = let r = a.back y here in elim r.1 [ ]
nothing-alike Same (x ∷ xs) [] a = let r = a.into x here in elim r.1 [ ]
nothing-alike Same (x ∷ xs) (y ∷ ys) a = refl

module _ {A B : Type 0} (f : Text → A → Bool) (g : Text → B → Bool) (Same : A → B → Type 0) where
  -- the file at the path reaches one where it reaches its like
  abbrev pub AgreeAt : Text → Type 0
  AgreeAt p = (x : A) (y : B) → Same x y → f p x ≡ g p y

  out-alike : (p : Text) → AgreeAt p → (xs : List A) (ys : List B) → AreAlike Same xs ys
      → AreAlike Same (out_of_reach f p xs) (out_of_reach g p ys)
  out-alike p agree xs ys a = record {
    into = λ x h.
        let k = kept-from (λ z. not (f p z)) xs h in
        let r = a.into x k.0 in
        (r.0, kept (λ z. not (g p z)) ys r.1 (ap not (sym (agree x r.0 r.2)) ∙ k.1), r.2);
    back = λ y h.
        let k = kept-from (λ z. not (g p z)) ys h in
        let r = a.back y k.0 in
        (r.0, kept (λ z. not (f p z)) xs r.1 (ap not (agree r.0 y r.2) ∙ k.1), r.2);
  }

  completing-same : (is : List ImportSyntax)
      → ((p : Text) → among p (map (λ (i : ImportSyntax). i.path) is) ≡ true → AgreeAt p)
      → (xs : List A) (ys : List B) → AreAlike Same xs ys
      → completing_import f xs is ≡ completing_import g ys is
  completing-same [] agree xs ys a = refl
  completing-same (i ∷ is) agree xs ys a =
      let ps = map (λ (j : ImportSyntax). j.path) is in
      let out = out-alike i.path
      (agree i.path (or_left (bytes_eq i.path i.path) (among i.path ps) (text-same i.path)))
      xs ys a in
      ap (λ (b : Bool). if b then Some i.place
      else completing_import f (out_of_reach f i.path xs) is)
      (nothing-alike Same (out_of_reach f i.path xs) (out_of_reach g i.path ys) out)
      ∙ ap (λ (o : Option Place). if is_nothing (out_of_reach g i.path ys) then Some i.place else o)
      (completing-same is
      (λ p m. agree p (or_right (bytes_eq p i.path) (among p ps) m))
      (out_of_reach f i.path xs) (out_of_reach g i.path ys) out)

  pub repeat_place-same : (t : FileSyntax)
      → ((p : Text) → among p (import_paths t) ≡ true → AgreeAt p)
      → (xs : List A) (ys : List B) → AreAlike Same xs ys → (extension : Bool) (name : Text)
      → repeat_place f xs t extension name ≡ repeat_place g ys t extension name
  repeat_place-same t agree xs ys a extension name =
      ap (or_place (last_declared extension name t))
      (completing-same (imports t.statements) agree xs ys a)

abbrev pub wrong_at : Wrong → Place → Fault
wrong_at w p = record { place = p; wrong = w }

-- a place that isn't the file's own is that of the import, or else the beginning
pub place-behind : (own other : Option Place) (p : Place) → own ≡ None → other ≡ Some p
    → p ≡ or_place own other
place-behind own other p none is = rw (none, is) refl

pub no-place : (own other : Option Place) → own ≡ None → other ≡ None
    → beginning ≡ or_place own other
no-place own other none nor = rw (none, nor) refl

-- faults that stand among others stand there at their places
pub told-same : (f g : Bool → Text → Place) (xs ys : List Fault) (y : Fault)
    → ((extension : Bool) (name : Text) → f extension name ≡ g extension name)
    → ((x : Fault) → Among xs x → Among ys x) → Among (map (told_at f) xs) y
    → Among (map (told_at g) ys) y
told-same f g xs ys y same more h =
    let r = among-map (told_at f) xs h in
    let moved : told_at g r.0 ≡ y =
    ap (wrong_at r.0.wrong)
    (sym (same (is_of_extension r.0.wrong.kind) r.0.wrong.what)) ∙ sym r.2 in
    subst (Among (map (told_at g) ys)) moved (map-among (told_at g) ys (more r.0 r.1))

one-among : {A : Type 0} (x y : A) → Among (x ∷ []) y → y ≡ x
one-among x y here = refl
one-among x y (there h) = elim h [ ]

-- what blames a fault at its place blames one of those that stand
pub blames-told : (place : Bool → Text → Place) (faults : List Fault) (f : Fault) (e : ElabFailure)
    → Among faults f → Blames e (told_at place f ∷ []) → Blames e (map (told_at place) faults)
blames-told place faults f (failure.Memory) m h = tt
blames-told place faults f (failure.Fault error) m h =
    subst (λ (z : Fault). Among (map (told_at place) faults) z)
    (sym (one-among (told_at place f) (fault_view error) h)) (map-among (told_at place) faults m)

-- the fault at its place is the one that is told
pub told-here : (place : Bool → Text → Place) (error : ElabError) (p : Place)
    → p ≡ place (is_of_extension error.kind) (string_bytes error.what)
    → Among (told_at place (fault_view error) ∷ []) (wrong_at (fault_view error).wrong p)
told-here place error p is =
    subst (λ (q : Place). Among (told_at place (fault_view error) ∷ [])
    (wrong_at (fault_view error).wrong q)) (sym is) here

-- where none is told of a file no name is declared twice in what it reaches
pub once-told : (files : Files) (p : Text) (t : FileSyntax) (others : List Fault)
    → before_others (repeat_faults files.trees files.reached p t) others ≡ []
    → link_faults (trees_at files.trees (files.reached p)) ≡ []
once-told files p t others h =
    none-of
    (told_at (λ extension name. repeat_place (λ q r. among r (files.reached q))
    (declaring files.trees extension name (files.reached p)) t extension name))
    (link_faults (trees_at files.trees (files.reached p)))
    (none-before (repeat_faults files.trees files.reached p t) others h)

-- ** numbers and paths

pub number-among : (ns : List ℕ) (n : ℕ) → Contains ns n → Among ns n
number-among [] n (k, lt, is) = absurd (omega (arith, lt))
number-among (m ∷ ns) n c =
    elim (Contains-append_cases (m ∷ []) ns n c) [
      | inl w ↦ subst (λ (k : ℕ). Among (m ∷ ns) k) (sym (only-one m n w)) here
      | inr w ↦ there (number-among ns n w)
    ]

pub among-number : {n : ℕ} (ns : List ℕ) → Among ns n → Contains ns n
among-number [] h = elim h [ ]
among-number (m ∷ ns) here = Contains-append_left (m ∷ []) ns m (0, omega arith, refl)
among-number {n} (m ∷ ns) (there h) = Contains-append_right (m ∷ []) ns n (among-number ns h)

pub path-among : (ps : List Text) (p : Text) → among p ps ≡ true → Among ps p
path-among [] p h = cc
path-among (q ∷ ps) p h =
    elim (bool_cases (bytes_eq p q)) [
      | inl w ↦ subst (λ (z : Text). Among (q ∷ ps) z) (sym (text-true p q w)) here
      | inr w ↦ there (path-among ps p (rw w at h))
    ]

pub among-path : {p : Text} (ps : List Text) → Among ps p → among p ps ≡ true
among-path [] h = elim h [ ]
among-path (q ∷ ps) here = or_left (bytes_eq q q) (among q ps) (text-same q)
among-path {p} (q ∷ ps) (there h) = or_right (bytes_eq p q) (among p ps) (among-path ps h)

-- the path of a loaded file stands among theirs
entry-path : (loaded : List LoadedEntry) (n : ℕ) (e : LoadedEntry) → slice_get loaded n ≡ Some e
    → among (string_bytes e.0) (paths_in (named_trees loaded)) ≡ true
entry-path [] n e is = cc
entry-path (x ∷ loaded) zero e is =
    let same : x ≡ e = some_is x e is in
    subst (λ (z : LoadedEntry). among (string_bytes z.0)
    (paths_in (named_trees (x ∷ loaded))) ≡ true) same
    (or_left (bytes_eq (string_bytes x.0) (string_bytes x.0))
    (among (string_bytes x.0) (paths_in (named_trees loaded))) (text-same (string_bytes x.0)))
  where
    some_is : (a b : LoadedEntry) → Some a ≡ Some b → a ≡ b
    some_is a b h = cc
entry-path (x ∷ loaded) (suc n) e is =
    or_right (bytes_eq (string_bytes e.0) (string_bytes x.0))
    (among (string_bytes e.0) (paths_in (named_trees loaded))) (entry-path loaded n e is)

-- the loaded file with this number is found by its path
pub found-at : (loaded : List LoadedEntry) (n : ℕ) (e : LoadedEntry)
    → AreDistinct (paths_in (named_trees loaded)) → slice_get loaded n ≡ Some e
    → file_at (string_bytes e.0) loaded ≡ Some e.1
found-at [] n e d is = cc
found-at (x ∷ loaded) zero e d is =
    let same : x ≡ e = some_is x e is in
    subst (λ (z : LoadedEntry). file_at (string_bytes z.0) (x ∷ loaded) ≡ Some z.1) same
    (rw (text-same (string_bytes x.0)) refl)
  where
    some_is : (a b : LoadedEntry) → Some a ≡ Some b → a ≡ b
    some_is a b h = cc
found-at (x ∷ loaded) (suc n) e d is =
    elim (bool_cases (bytes_eq (string_bytes e.0) (string_bytes x.0))) [
      | inl w ↦ absurd (let same : string_bytes e.0 ≡ string_bytes x.0 =
          text-true (string_bytes e.0) (string_bytes x.0) w in
          let there : among (string_bytes x.0) (paths_in (named_trees loaded)) ≡ true =
          subst (λ (z : Text). among z (paths_in (named_trees loaded)) ≡ true) same
          (entry-path loaded n e is) in
          let apart = d.0 in cc)
      | inr w ↦ rw w (found-at loaded n e d.1 is)
    ]
