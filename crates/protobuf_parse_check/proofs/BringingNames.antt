-- Names that a file brings together, one candidate after another.
use Rattle.std.proofs.Common.{◌≡◌, ℕ, Bool, true, false, not, ◌&&◌, ◌||◌, List, [], ◌∷◌, ◌++◌}
use Rattle.std.proofs.Common.{refl, sym, ◌∙◌, ap, subst, inl, inr, if◌then◌else◌, append-nil}
use Rattle.std.proofs.Common.{append_assoc, get_or, length, map, nat_eq, take, ◌+◌, ◌<◌, ◌≤◌}
use Rattle.std.specs.Global.{Global}
use Rattle.std.specs.Prelude.{String, bytes_eq, string_bytes}
use Rattle.std.specs.List.{list_any}
use Rattle.std.proofs.lemmas.List.{map-append, take_all, take_more}
use Rattle.std.proofs.lemmas.List.Folds.{list_any-append}
use Rattle.protobuf_parse_base.specs.Multimaps.{values_under}
use Rattle.protobuf_parse_syntax.specs.Trees.{FileSyntax}
use Rattle.protobuf_parse_model.specs.Descriptors.{Text}
use Rattle.protobuf_parse_elaboration.specs.FilesByPath.{among}
use Rattle.protobuf_parse_run.proofs.Keeping.{among-append, among-in, or_left}
use Rattle.protobuf_parse_run.proofs.Keeping.{never_both, or_right, text-same, text-true}
use Rattle.protobuf_parse_run.proofs.Knowing.{distinct-push}
use Rattle.protobuf_parse_check.specs.Judging.{Bringers, BringsNames, any_of, is_new, twice_over}

-- ** tests of two

and_true : (a b : Bool) → (a && b) ≡ true → (a ≡ true) × (b ≡ true)
and_true true b h = (refl, h)
and_true false b h = cc

both_true : (a b : Bool) → a ≡ true → b ≡ true → (a && b) ≡ true
both_true true b h k = k
both_true false b h k = cc

not_or_left : (a b : Bool) → not (a || b) ≡ true → not a ≡ true
not_or_left true b h = h
not_or_left false b h = refl

not_or_right : (a b : Bool) → not (a || b) ≡ true → b ≡ false
not_or_right true b h = cc
not_or_right false true h = cc
not_or_right false false h = refl

neither : (a b : Bool) → not a ≡ true → b ≡ false → not (a || b) ≡ true
neither true b h k = cc
neither false true h k = cc
neither false false h k = refl

module _ (files : List FileSyntax) (reach : List ℕ) (extension : Bool) (own : ℕ)
    (reached : list_any (nat_eq own) reach ≡ true) (first mid : Bringers) (names : List Text)
    (candidates : List Text)
    (b : BringsNames files reach extension candidates own first mid names) where
  noted : (there : Bool) → any_of (if there then own ∷ [] else []) reach ≡ there
  noted false = refl
  noted true = rw reached refl

  -- who is noted for a name now
  any-now : (name : Text) → any_of (values_under mid name) reach
      ≡ (any_of (values_under first name) reach || among name names)
  any-now name =
      ap (λ ns. any_of ns reach) (b.keeps name)
      ∙ list_any-append (λ (n : ℕ). list_any (nat_eq n) reach) (values_under first name)
      (if among name names then own ∷ [] else [])
      ∙ ap (λ t. any_of (values_under first name) reach || t) (noted (among name names))

  -- a name is new where it was, and it is none of these
  new-was : (name : Text) → is_new files reach extension mid name ≡ true
      → (is_new files reach extension first name ≡ true) × (among name names ≡ false)
  new-was name h =
      let p = and_true (twice_over files reach extension name)
      (not (any_of (values_under mid name) reach)) h in
      let q : not (any_of (values_under first name) reach || among name names) ≡ true =
      ap not (sym (any-now name)) ∙ p.1 in (
        both_true (twice_over files reach extension name)
            (not (any_of (values_under first name) reach)) p.0
            (not_or_left (any_of (values_under first name) reach) (among name names) q),
        not_or_right (any_of (values_under first name) reach) (among name names) q,
      )

  new-still : (name : Text) → is_new files reach extension first name ≡ true
      → among name names ≡ false → is_new files reach extension mid name ≡ true
  new-still name h apart =
      let p = and_true (twice_over files reach extension name)
      (not (any_of (values_under first name) reach)) h in
      both_true (twice_over files reach extension name)
      (not (any_of (values_under mid name) reach)) p.0
      (ap not (any-now name)
      ∙ neither (any_of (values_under first name) reach) (among name names) p.1 apart)

  -- a candidate that isn't new
  pub brings-old : (name : Text) → is_new files reach extension mid name ≡ false
      → BringsNames files reach extension (candidates ++ name ∷ []) own first mid names
  brings-old name old = record {
    once = b.once;
    only = b.only;
    all = λ q c h.
        elim (among-in q name candidates c) [
          | inl w ↦ b.all q w h
          | inr w ↦ there q (among q names) refl
              (subst (λ (z : Text). is_new files reach extension mid z ≡ false) (sym w) old) h
        ];
    keeps = b.keeps;
  }
    where
      there : (q : Text) (t : Bool) → among q names ≡ t
          → is_new files reach extension mid q ≡ false
          → is_new files reach extension first q ≡ true → among q names ≡ true
      there q true e o h = e
      there q false e o h =
          absurd (never_both (is_new files reach extension mid q) (new-still q h e) o)

  -- and one that is, which is noted then
  pub brings-new : (name : Text) (new : Bringers) → is_new files reach extension mid name ≡ true
      → ((q : Text) → values_under new q
      ≡ (if bytes_eq q name then values_under mid q ++ own ∷ [] else values_under mid q))
      → BringsNames files reach extension (candidates ++ name ∷ []) own first new
      (names ++ name ∷ [])
  brings-new name new is put =
      let was = new-was name is in
      record {
        once = distinct-push name names b.once was.1;
        only = λ q m.
            elim (among-in q name names m) [
              | inl w ↦ b.only q w
              | inr w ↦ subst (λ (z : Text). is_new files reach extension first z ≡ true)
                  (sym w) was.0
            ];
        all = λ q c h.
            among-append q names (name ∷ [])
            ∙ elim (among-in q name candidates c) [
              | inl w ↦ or_left (among q names) (bytes_eq q name || false) (b.all q w h)
              | inr w ↦ or_right (among q names) (bytes_eq q name || false)
                  (or_left (bytes_eq q name) false
                  (subst (λ (z : Text). bytes_eq q z ≡ true) w (text-same q)))
            ];
        keeps = λ q. put q ∙ kept q (bytes_eq q name) refl (among q names) refl;
      }
    where
      last : (q : Text) (e t : Bool) → bytes_eq q name ≡ e → among q names ≡ t
          → among q (names ++ name ∷ []) ≡ (t || (e || false))
      last q e t h k =
          among-append q names (name ∷ [])
          ∙ ap (λ z. among q names || (z || false)) h ∙ ap (λ z. z || (e || false)) k

      kept : (q : Text) (e : Bool) → bytes_eq q name ≡ e → (t : Bool) → among q names ≡ t
          → (if bytes_eq q name then values_under mid q ++ own ∷ [] else values_under mid q)
          ≡ values_under first q ++ (if among q (names ++ name ∷ []) then own ∷ [] else [])
      kept q true h true k =
          let was = new-was name is in
          let same : q ≡ name = text-true q name h in
          let m : among name names ≡ true = subst (λ (z : Text). among z names ≡ true) same k in
          absurd (clash (among name names) m was.1)
        where
          clash : (c : Bool) → c ≡ true → c ≡ false → ⊥
          clash c x y = cc
      kept q true h false k =
          ap (λ z. if z then values_under mid q ++ own ∷ [] else values_under mid q) h
          ∙ ap (λ ns. ns ++ own ∷ []) (b.keeps q
          ∙ ap (λ z. values_under first q ++ (if z then own ∷ [] else [])) k
          ∙ append-nil (values_under first q))
          ∙ ap (λ z. values_under first q ++ (if z then own ∷ [] else []))
          (sym (last q true false h k))
      kept q false h true k =
          ap (λ z. if z then values_under mid q ++ own ∷ [] else values_under mid q) h
          ∙ b.keeps q ∙ ap (λ z. values_under first q ++ (if z then own ∷ [] else [])) k
          ∙ ap (λ z. values_under first q ++ (if z then own ∷ [] else []))
          (sym (last q false true h k))
      kept q false h false k =
          ap (λ z. if z then values_under mid q ++ own ∷ [] else values_under mid q) h
          ∙ b.keeps q ∙ ap (λ z. values_under first q ++ (if z then own ∷ [] else [])) k
          ∙ ap (λ z. values_under first q ++ (if z then own ∷ [] else []))
          (sym (last q false false h k))

-- ** lists of names

-- a candidate more
pub named-more : (candidates : List Text) (listed : List (String Global)) (i : ℕ)
    (x : String Global) → i < length listed → x ≡ get_or listed i x
    → candidates ++ map string_bytes (take (i + 1) listed)
    ≡ (candidates ++ map string_bytes (take i listed)) ++ string_bytes x ∷ []
named-more candidates listed i x lt is =
    ap (λ xs. candidates ++ map string_bytes xs)
    (take_more listed i x lt ∙ ap (λ y. take i listed ++ y ∷ []) (sym is))
    ∙ ap (λ xs. candidates ++ xs) (map-append string_bytes (take i listed) (x ∷ []))
    ∙ sym (append_assoc candidates (map string_bytes (take i listed)) (string_bytes x ∷ []))

-- all of them
pub named-whole : (candidates : List Text) (listed : List (String Global)) (i : ℕ)
    → length listed ≤ i
    → candidates ++ map string_bytes (take i listed) ≡ candidates ++ map string_bytes listed
named-whole candidates listed i all =
    ap (λ xs. candidates ++ map string_bytes xs) (take_all i listed all)

-- a name more
pub pushed-name : (old new : List (String Global)) (x : String Global) (q : Text)
    → new ≡ old ++ x ∷ [] → string_bytes x ≡ q
    → map string_bytes new ≡ map string_bytes old ++ q ∷ []
pushed-name old new x q is same =
    ap (map string_bytes) is ∙ map-append string_bytes old (x ∷ [])
    ∙ ap (λ y. map string_bytes old ++ y ∷ []) same
