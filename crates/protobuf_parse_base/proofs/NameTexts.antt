-- The text of a list of identifiers, and the identifiers of a text.
use Rattle.std.specs.Prelude.{if◌then◌else◌}
use Rattle.std.proofs.Common.{◌≡◌, ℕ, ◌==◌, ◌++◌, ◌&&◌, ◌<◌, List, [], ◌∷◌, true, false, length}
use Rattle.std.proofs.Common.{ltb, refl, sym, ap, ◌∙◌, append_assoc, append-nil, arith}
use Rattle.std.proofs.lemmas.List.{append_cancel_left, append_cancel_right}
use Rattle.std.proofs.lemmas.Bool.{and_parts, and_from, and_left, cond-false, eqb-true, ne_eqb}
use Rattle.std.proofs.lemmas.List.Folds.{list_all-append}
use Rattle.std.proofs.lemmas.List.Splits.{slice_split-cons_yes, slice_split-cons_no}
use Rattle.std.proofs.lemmas.List.Splits.{join_with_byte-slice_split}
use Rattle.std.specs.List.{list_all, join_with_byte}
use Rattle.protobuf_parse_base.specs.Names.{is_ident_byte, is_ident, are_idents, absolute_text}
use Rattle.protobuf_parse_base.specs.Names.{relative_text, dotted_parts, relative_idents}
use Rattle.protobuf_parse_base.specs.Names.{absolute_idents, is_relative, is_absolute, IsAbsolute}
use Rattle.protobuf_parse_base.specs.Names.{IsRelative}
use Rattle.protobuf_parse_base.proofs.Splits.{HasFirst, slice_split-HasFirst, slice_split-append}

-- a byte of an identifier is no dot
byte-not_dot : (b : ℕ) → is_ident_byte b ≡ true → (b == 46) ≡ false
byte-not_dot b h = grind arith

-- bytes of an identifier are one part
dotted_parts-one : (text : List ℕ) → list_all is_ident_byte text ≡ true
    → dotted_parts text ≡ text ∷ []
dotted_parts-one [] h = refl
dotted_parts-one (b ∷ bs) h =
    let both = and_parts (is_ident_byte b) (list_all is_ident_byte bs) h in
    rw (slice_split-cons_no (λ c. c == 46) b bs (byte-not_dot b both.0), dotted_parts-one bs both.1)
    refl

ident-bytes : (text : List ℕ) → is_ident text ≡ true → list_all is_ident_byte text ≡ true
ident-bytes text h = (and_parts (ltb 0 (length text)) (list_all is_ident_byte text) h).1

pub are_idents-append : (xs ys : List (List ℕ))
    → are_idents (xs ++ ys) ≡ (are_idents xs && are_idents ys)
are_idents-append xs ys = list_all-append is_ident xs ys

-- the parts of the text of some identifiers are those
pub dotted_parts-text : (id : List ℕ) (ids : List (List ℕ)) → is_ident id ≡ true
    → are_idents ids ≡ true
    → dotted_parts (id ++ absolute_text ids) ≡ id ∷ ids
dotted_parts-text id [] h hs = rw (append-nil id) (dotted_parts-one id (ident-bytes id h))
dotted_parts-text id (next ∷ ids) h hs =
    let both = and_parts (is_ident next) (are_idents ids) hs in
    slice_split-append (λ c. c == 46) id 46 (next ++ absolute_text ids) refl
    ∙ rw (dotted_parts-one id (ident-bytes id h), dotted_parts-text next ids both.0 both.1) refl

-- parts with dots between them
join_dots : (parts : List (List ℕ)) → join_with_byte 46 parts ≡ relative_text parts
join_dots [] = refl
join_dots (part ∷ []) = sym (append-nil part)
join_dots (part ∷ next ∷ parts) = ap (λ rest. part ++ (46 ∷ rest)) (join_dots (next ∷ parts))

pub relative_text-parts : (text : List ℕ) → relative_text (dotted_parts text) ≡ text
relative_text-parts text = sym (join_dots (dotted_parts text)) ∙ join_with_byte-slice_split 46 text

-- parts with a dot before each
absolute_text-HasFirst : (parts : List (List ℕ)) → HasFirst parts
    → absolute_text parts ≡ 46 ∷ relative_text parts
absolute_text-HasFirst [] h = cc h.is
absolute_text-HasFirst (part ∷ parts) h = refl

pub absolute_text-parts : (text : List ℕ) → absolute_text (dotted_parts text) ≡ 46 ∷ text
absolute_text-parts text =
    absolute_text-HasFirst (dotted_parts text) (slice_split-HasFirst (λ c. c == 46) text)
    ∙ ap (λ rest. 46 ∷ rest) (relative_text-parts text)

-- the identifiers of a path's text make the text again
pub relative_text-idents : (text : List ℕ) → relative_text (relative_idents text) ≡ text
relative_text-idents [] = refl
relative_text-idents (b ∷ bs) = relative_text-parts (b ∷ bs)

pub absolute_text-idents : (text : List ℕ) → is_absolute text ≡ true
    → absolute_text (absolute_idents text) ≡ text
absolute_text-idents [] h = refl
absolute_text-idents (b ∷ bs) h =
    let dot : b ≡ 46 = eqb-true b 46 (and_parts (b == 46) (are_idents (dotted_parts bs)) h).0 in
    absolute_text-parts bs ∙ ap (λ c. c ∷ bs) (sym dot)

-- they are identifiers
pub absolute_idents-are : (text : List ℕ) → is_absolute text ≡ true
    → are_idents (absolute_idents text) ≡ true
absolute_idents-are [] h = refl
absolute_idents-are (b ∷ bs) h = (and_parts (b == 46) (are_idents (dotted_parts bs)) h).1

-- the text of some identifiers has just those
pub relative_idents-text : (ids : List (List ℕ)) → are_idents ids ≡ true
    → relative_idents (relative_text ids) ≡ ids
relative_idents-text [] h = refl
relative_idents-text ([] ∷ ids) h = cc h
relative_idents-text ((b ∷ bs) ∷ ids) h =
    let both = and_parts (is_ident (b ∷ bs)) (are_idents ids) h in
    dotted_parts-text (b ∷ bs) ids both.0 both.1

pub is_relative-text : (ids : List (List ℕ)) → are_idents ids ≡ true
    → is_relative (relative_text ids) ≡ true
is_relative-text ids h = ap are_idents (relative_idents-text ids h) ∙ h

pub is_absolute-text : (ids : List (List ℕ)) → are_idents ids ≡ true
    → is_absolute (absolute_text ids) ≡ true
is_absolute-text [] h = refl
is_absolute-text (id ∷ ids) h =
    let both = and_parts (is_ident id) (are_idents ids) h in
    ap are_idents (dotted_parts-text id ids both.0 both.1) ∙ h

-- the tests are the facts
pub IsRelative-from_test : (text : List ℕ) → is_relative text ≡ true → IsRelative text
IsRelative-from_test text h = (relative_idents text, h, sym (relative_text-idents text))

pub is_relative-from_fact : (text : List ℕ) → IsRelative text → is_relative text ≡ true
is_relative-from_fact text h = ap is_relative h.2 ∙ is_relative-text h.0 h.1

pub IsAbsolute-from_test : (text : List ℕ) → is_absolute text ≡ true → IsAbsolute text
IsAbsolute-from_test text h =
    (absolute_idents text, absolute_idents-are text h, sym (absolute_text-idents text h))

pub is_absolute-from_fact : (text : List ℕ) → IsAbsolute text → is_absolute text ≡ true
is_absolute-from_fact text h = ap is_absolute h.2 ∙ is_absolute-text h.0 h.1

-- two paths of the same identifiers have the same text
pub absolute_text-append : (xs ys : List (List ℕ))
    → absolute_text (xs ++ ys) ≡ absolute_text xs ++ absolute_text ys
absolute_text-append [] ys = refl
absolute_text-append (x ∷ xs) ys =
    ap (λ rest. 46 ∷ (x ++ rest)) (absolute_text-append xs ys)
    ∙ ap (λ rest. 46 ∷ rest) (sym (append_assoc x (absolute_text xs) (absolute_text ys)))

-- ---- a path that is joined at a dot, or cut at one

-- the front of a path, and what follows a dot in it
pub record IsCutAbsolute (front rest text : List ℕ) : Type 0 where
  pub front_is : is_absolute front ≡ true
  pub rest_is : is_relative rest ≡ true
  pub idents : absolute_idents text ≡ absolute_idents front ++ relative_idents rest
  pub nonempty : 0 < length rest

-- what has identifiers for parts is a path that is not empty
parts-relative : (text : List ℕ) → are_idents (dotted_parts text) ≡ true
    → (is_relative text ≡ true) × (dotted_parts text ≡ relative_idents text) × (0 < length text)
parts-relative [] h = cc h
parts-relative (b ∷ bs) h = (h, refl, omega arith)

pub IsCutAbsolute-from_dot : (front rest text : List ℕ) → text ≡ front ++ (46 ∷ rest)
    → is_absolute text ≡ true → IsCutAbsolute front rest text
IsCutAbsolute-from_dot [] rest text e h =
    let cut : is_absolute (46 ∷ rest) ≡ true = ap is_absolute (sym e) ∙ h in
    let after = parts-relative rest cut in
    record {
      front_is = refl;
      rest_is = after.0;
      idents = ap absolute_idents e
          ∙ after.1;
      nonempty = after.2;
    }
IsCutAbsolute-from_dot (b ∷ bs) rest text e h =
    let cut : is_absolute (b ∷ (bs ++ (46 ∷ rest))) ≡ true = ap is_absolute (sym e) ∙ h in
    let parts : dotted_parts (bs ++ (46 ∷ rest)) ≡ dotted_parts bs
    ++ dotted_parts rest = slice_split-append (λ c. c == 46) bs 46 rest refl in
    let both = and_parts (b == 46) (are_idents (dotted_parts (bs ++ (46 ∷ rest)))) cut in
    let all : (are_idents (dotted_parts bs) && are_idents (dotted_parts rest)) ≡ true =
    sym (are_idents-append (dotted_parts bs) (dotted_parts rest))
    ∙ (ap are_idents (sym parts) ∙ both.1) in
    let sides = and_parts (are_idents (dotted_parts bs)) (are_idents (dotted_parts rest)) all in
    let after = parts-relative rest sides.1 in
    record {
      front_is = and_from (b == 46) (are_idents (dotted_parts bs)) both.0 sides.0;
      rest_is = after.0;
      idents = ap absolute_idents e ∙ (parts ∙ ap (λ more. dotted_parts bs ++ more) after.1);
      nonempty = after.2;
    }

-- a path with a dot and a path that is not empty after it
pub record IsJoined (text : List ℕ) (ids : List (List ℕ)) : Type 0 where
  pub well_formed : is_absolute text ≡ true
  pub idents : absolute_idents text ≡ ids

pub IsJoined-from_dot : (front rest : List ℕ) → is_absolute front ≡ true → is_relative rest ≡ true
    → 0 < length rest
    → IsJoined (front ++ (46 ∷ rest)) (absolute_idents front ++ relative_idents rest)
IsJoined-from_dot front [] h hs n = absurd (omega arith)
IsJoined-from_dot [] (r ∷ rs) h hs n = record { well_formed = hs; idents = refl }
IsJoined-from_dot (b ∷ bs) (r ∷ rs) h hs n =
    let parts : dotted_parts (bs ++ (46 ∷ r ∷ rs)) ≡ dotted_parts bs
    ++ dotted_parts (r ∷ rs) = slice_split-append (λ c. c == 46) bs 46 (r ∷ rs) refl in
    let both = and_parts (b == 46) (are_idents (dotted_parts bs)) h in
    let all : are_idents (dotted_parts (bs ++ (46 ∷ r ∷ rs))) ≡ true =
    ap are_idents parts
    ∙ (are_idents-append (dotted_parts bs) (dotted_parts (r ∷ rs))
    ∙ and_from (are_idents (dotted_parts bs)) (are_idents (dotted_parts (r ∷ rs))) both.1 hs) in
    record {
      well_formed =
          and_from (b == 46) (are_idents (dotted_parts (bs ++ (46 ∷ r ∷ rs)))) both.0 all;
      idents =
          parts;
    }

-- ---- paths with no identifier

pub relative-empty : (text : List ℕ) → relative_idents text ≡ [] → text ≡ []
relative-empty [] e = refl
relative-empty (b ∷ bs) e = let h = slice_split-HasFirst (λ c. c == 46) (b ∷ bs) in cc (e, h.is)

pub absolute-empty : (text : List ℕ) → absolute_idents text ≡ [] → text ≡ []
absolute-empty [] e = refl
absolute-empty (b ∷ bs) e = let h = slice_split-HasFirst (λ c. c == 46) bs in cc (e, h.is)

-- ---- one identifier

pub ident-relative : (text : List ℕ) → is_ident text ≡ true
    → (is_relative text ≡ true) × (relative_idents text ≡ text ∷ [])
ident-relative [] h = cc h
ident-relative (b ∷ bs) h =
    let parts : dotted_parts (b ∷ bs) ≡ (b ∷ bs)
    ∷ [] = dotted_parts-one (b ∷ bs) (ident-bytes (b ∷ bs) h) in
    (ap are_idents parts ∙ and_from (is_ident (b ∷ bs)) true h refl, parts)

-- a path that is one part
pub relative-one : (text : List ℕ) → is_relative text ≡ true → 0 < length text
    → dotted_parts text ≡ text ∷ []
    → (is_ident text ≡ true) × (relative_idents text ≡ text ∷ [])
relative-one [] h n e = absurd (omega arith)
relative-one (b ∷ bs) h n e =
    ((and_parts (is_ident (b ∷ bs)) true (ap are_idents (sym e) ∙ h)).0, e)

-- ---- relative paths that are joined or cut at a dot

pub record IsCutRelative (front rest text : List ℕ) : Type 0 where
  pub front_is : is_relative front ≡ true
  pub rest_is : is_relative rest ≡ true
  pub idents : relative_idents text ≡ relative_idents front ++ relative_idents rest
  pub front_nonempty : 0 < length front
  pub rest_nonempty : 0 < length rest

relative_idents-parts : (front rest : List ℕ)
    → relative_idents (front ++ (46 ∷ rest)) ≡ dotted_parts front ++ dotted_parts rest
relative_idents-parts [] rest = slice_split-append (λ c. c == 46) [] 46 rest refl
relative_idents-parts (b ∷ bs) rest = slice_split-append (λ c. c == 46) (b ∷ bs) 46 rest refl

pub IsCutRelative-from_dot : (front rest text : List ℕ) → text ≡ front ++ (46 ∷ rest)
    → is_relative text ≡ true → IsCutRelative front rest text
IsCutRelative-from_dot front rest text e h =
    let parts : relative_idents text ≡ dotted_parts front
    ++ dotted_parts rest = ap relative_idents e ∙ relative_idents-parts front rest in
    let all : (are_idents (dotted_parts front) && are_idents (dotted_parts rest)) ≡ true =
    sym (are_idents-append (dotted_parts front) (dotted_parts rest))
    ∙ (ap are_idents (sym parts) ∙ h) in
    let sides = and_parts (are_idents (dotted_parts front)) (are_idents (dotted_parts rest)) all in
    let before = parts-relative front sides.0 in
    let after = parts-relative rest sides.1 in
    record {
      front_is = before.0;
      rest_is = after.0;
      idents = parts
          ∙ (ap (λ xs. xs ++ dotted_parts rest) before.1
          ∙ ap (λ ys. relative_idents front ++ ys) after.1);
      front_nonempty = before.2;
      rest_nonempty = after.2;
    }

pub relative-parts : (text : List ℕ) → 0 < length text → relative_idents text ≡ dotted_parts text
relative-parts [] n = absurd (omega arith)
relative-parts (b ∷ bs) n = refl

pub record IsJoinedRelative (text : List ℕ) (ids : List (List ℕ)) : Type 0 where
  pub well_formed : is_relative text ≡ true
  pub idents : relative_idents text ≡ ids

pub IsJoinedRelative-from_dot : (front rest : List ℕ) → is_relative front ≡ true
    → is_relative rest ≡ true → 0 < length front → 0 < length rest
    → IsJoinedRelative (front ++ (46 ∷ rest)) (relative_idents front ++ relative_idents rest)
IsJoinedRelative-from_dot front rest h hs n m =
    let parts : relative_idents (front ++ (46 ∷ rest)) ≡ relative_idents front
    ++ relative_idents rest =
    relative_idents-parts front rest
    ∙ (ap (λ xs. xs ++ dotted_parts rest) (sym (relative-parts front n))
    ∙ ap (λ ys. relative_idents front ++ ys) (sym (relative-parts rest m))) in
    record {
      well_formed = ap are_idents parts
          ∙ (are_idents-append (relative_idents front) (relative_idents rest)
          ∙ and_from (is_relative front) (is_relative rest) h hs);
      idents = parts;
    }

-- ---- fronts and backs of absolute paths, as texts

pub absolute-front : (text front : List ℕ) (ids : List (List ℕ)) → is_absolute text ≡ true
    → is_absolute front ≡ true
    → absolute_idents text ≡ absolute_idents front ++ ids → text ≡ front ++ absolute_text ids
absolute-front text front ids h hf e =
    sym (absolute_text-idents text h)
    ∙ (ap absolute_text e ∙ (absolute_text-append (absolute_idents front) ids
    ∙ ap (λ t. t ++ absolute_text ids) (absolute_text-idents front hf)))

absolute_text-relative : (text : List ℕ) → 0 < length text
    → absolute_text (relative_idents text) ≡ 46 ∷ text
absolute_text-relative [] n = absurd (omega arith)
absolute_text-relative (b ∷ bs) n = absolute_text-parts (b ∷ bs)

pub absolute-back : (text back : List ℕ) (ids : List (List ℕ)) → is_absolute text ≡ true
    → 0 < length back
    → absolute_idents text ≡ ids ++ relative_idents back → text ≡ absolute_text ids ++ (46 ∷ back)
absolute-back text back ids h n e =
    sym (absolute_text-idents text h)
    ∙ (ap absolute_text e ∙ (absolute_text-append ids (relative_idents back)
    ∙ ap (λ t. absolute_text ids ++ t) (absolute_text-relative back n)))

-- where a text does not begin with another, nor do the identifiers
pub front-none : (text front : List ℕ) (ids : List (List ℕ)) → is_absolute text ≡ true
    → is_absolute front ≡ true
    → ((rest : List ℕ) → text ≡ front ++ rest → ⊥)
    → absolute_idents text ≡ absolute_idents front ++ ids → ⊥
front-none text front ids h hf none e =
    none (absolute_text ids) (absolute-front text front ids h hf e)

-- the same where what follows does not begin with a dot
not_dotted : (ids : List (List ℕ)) (rest : List ℕ) → rest ≡ absolute_text ids → 0 < length rest
    → ((more : List ℕ) → rest ≡ 46 ∷ more → ⊥) → ⊥
not_dotted [] rest e n none = absurd (omega (arith, ap length e))
not_dotted (id ∷ ids) rest e n none = none (id ++ absolute_text ids) e

pub front-no_dot : (text front rest : List ℕ) (ids : List (List ℕ)) → is_absolute text ≡ true
    → is_absolute front ≡ true
    → text ≡ front ++ rest → 0 < length rest → ((more : List ℕ) → rest ≡ 46 ∷ more → ⊥)
    → absolute_idents text ≡ absolute_idents front ++ ids → ⊥
front-no_dot text front rest ids h hf cut n none e =
    not_dotted ids rest
    (append_cancel_left front rest (absolute_text ids)
    (sym cut ∙ absolute-front text front ids h hf e)) n none

-- the same at the back
pub back-none : (text back : List ℕ) (ids : List (List ℕ)) → is_absolute text ≡ true
    → 0 < length back
    → ((front : List ℕ) → text ≡ front ++ back → ⊥)
    → absolute_idents text ≡ ids ++ relative_idents back → ⊥
back-none text back ids h n none e =
    none (absolute_text ids ++ (46 ∷ []))
    (absolute-back text back ids h n e ∙ sym (append_assoc (absolute_text ids) (46 ∷ []) back))

pub back-no_dot : (text front back : List ℕ) (ids : List (List ℕ)) → is_absolute text ≡ true
    → 0 < length back
    → text ≡ front ++ back → ((more : List ℕ) → front ≡ more ++ (46 ∷ []) → ⊥)
    → absolute_idents text ≡ ids ++ relative_idents back → ⊥
back-no_dot text front back ids h n cut none e =
    none (absolute_text ids) (append_cancel_right front (absolute_text ids ++ (46 ∷ [])) back
    (sym cut
    ∙ (absolute-back text back ids h n e
    ∙ sym (append_assoc (absolute_text ids) (46 ∷ []) back))))

-- an absolute path without a dot is the root
pub absolute-one_part : (text : List ℕ) → is_absolute text ≡ true → dotted_parts text ≡ text ∷ []
    → absolute_idents text ≡ []
absolute-one_part [] h e = refl
absolute-one_part (b ∷ bs) h e =
    let dot : (b == 46) ≡ true = (and_parts (b == 46) (are_idents (dotted_parts bs)) h).0 in
    cc (slice_split-cons_yes (λ c. c == 46) b bs dot, e)

-- a text that begins with no dot is no absolute path, unless it is empty
pub is_absolute-no_dot : (text : List ℕ) → ((rest : List ℕ) → text ≡ 46 ∷ rest → ⊥)
    → (length text == 0) ≡ is_absolute text
is_absolute-no_dot [] none = refl
is_absolute-no_dot (b ∷ bs) none =
    let full : (length (b ∷ bs) == 0)
    ≡ false = ne_eqb (length (b ∷ bs)) 0 (λ same. absurd (omega arith)) in
    full ∙ sym
    (and_left (b == 46) (are_idents (dotted_parts bs))
    (ne_eqb b 46 (λ same. none bs (ap (λ c. c ∷ bs) same))))

-- what a test of emptiness says
pub nonempty-from_test : (text : List ℕ) → false ≡ (length text == 0) → 0 < length text
nonempty-from_test [] e = cc e
nonempty-from_test (b ∷ bs) e = omega arith

-- an absolute path that begins with no dot is the root
pub absolute-no_dot : (text : List ℕ) → is_absolute text ≡ true
    → ((rest : List ℕ) → text ≡ 46 ∷ rest → ⊥) → absolute_idents text ≡ []
absolute-no_dot [] h none = refl
absolute-no_dot (b ∷ bs) h none =
    absurd (none bs
    (ap (λ c. c ∷ bs) (eqb-true b 46 (and_parts (b == 46) (are_idents (dotted_parts bs)) h).0)))

pub nonempty-from_idents : (text : List ℕ) → (relative_idents text ≡ [] → false ≡ true)
    → 0 < length text
nonempty-from_idents [] h = cc (h refl)
nonempty-from_idents (b ∷ bs) h = omega arith

-- one identifier more at the end of a relative path
pub relative_text-push : (ids : List (List ℕ)) (id : List ℕ) → are_idents ids ≡ true
    → (if length (relative_text ids) == 0 then id else relative_text ids ++ (46 ∷ id))
    ≡ relative_text (ids ++ id ∷ [])
relative_text-push [] id h = sym (append-nil id)
relative_text-push ([] ∷ ids) id h = cc h
relative_text-push ((b ∷ bs) ∷ ids) id h =
    let full : (length ((b ∷ bs) ++ absolute_text ids) == 0)
    ≡ false = ne_eqb (length ((b ∷ bs) ++ absolute_text ids)) 0
    (λ same. absurd (omega arith)) in
    cond-false _ _ _ full ∙ (append_assoc (b ∷ bs) (absolute_text ids) (46 ∷ id)
    ∙ ap (λ rest. (b ∷ bs) ++ rest)
    (ap (λ last. absolute_text ids ++ (46 ∷ last)) (sym (append-nil id))
    ∙ sym (absolute_text-append ids (id ∷ []))))
