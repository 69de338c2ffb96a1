-- No public clause rests on this file.
-- The laws of classes: which see no token both, and which see what others see.
use Rattle.std.proofs.Common.{◌≡◌, ℕ, List, [], ◌∷◌, Bool, true, false, not, ◌&&◌, ◌||◌, cond, eqb}
use Rattle.std.proofs.Common.{bytes_eq, eq-eqb, refl, sym, ◌∙◌, subst}
use Rattle.std.proofs.lemmas.Bool.{eqb-true}
use Rattle.std.proofs.lemmas.Slice.Eq.{bytes_eq-Decides}
use Rattle.protobuf_parse_grammar.specs.Readers.{Lexicon, and_left, and_right, false_by}
use Rattle.protobuf_parse_grammar.specs.Relations.{seen}
use Rattle.protobuf_parse_grammar.specs.Readers.{not_true}
use Rattle.protobuf_parse_lexer.specs.Text.{Bytes}
use Rattle.protobuf_parse_lexer.specs.Tokens.{Lexeme}
use Rattle.protobuf_parse_lexer.specs.Classes.{Class, symbol, word, ident, integer, float, text}
use Rattle.protobuf_parse_lexer.specs.Classes.{is_among, is_ident_token}
use Rattle.protobuf_parse_lexer.specs.Classes.{sees_at, sees}
use Rattle.protobuf_parse_lexer.specs.declared.lexer.token.Place.{Place}
use Rattle.protobuf_parse_lexer.specs.declared.lexer.token.TokenKind.{TokenKind}
use Rattle.protobuf_parse_lexer.specs.declared.lexer.token.TokenKind.TheVariants as kind

abbrev pub sort : Class → ℕ
sort (symbol c) = 0
sort (word v) = 1
sort (ident vs) = 1
sort integer = 2
sort float = 3
sort text = 4

kind_sort : TokenKind → ℕ
kind_sort (kind.Symbol c) = 0
kind_sort kind.Ident = 1
kind_sort (kind.Integer n) = 2
kind_sort kind.Float = 3
kind_sort kind.Str = 4

sees-sort : (c : Class) (k : TokenKind) (w : Bytes) → sees_at c k w ≡ true → sort c ≡ kind_sort k
unfolding kind_sort
sees-sort (symbol c) (kind.Symbol d) w e = refl
sees-sort (word v) kind.Ident w e = refl
sees-sort (ident vs) kind.Ident w e = refl
sees-sort integer (kind.Integer n) w e = refl
sees-sort float kind.Float w e = refl
sees-sort text kind.Str w e = refl
sees-sort c k w e = absurd cc

abbrev pub apart_same : Class → Class → Bool
apart_same (symbol c) (symbol d) = not (eqb c d)
apart_same (word v) (word w) = not (bytes_eq v w)
apart_same (word v) (ident ws) = is_among v ws
apart_same (ident vs) (word w) = is_among w vs
apart_same c d = false

abbrev pub apart : Class → Class → Bool
apart c d = not (eqb (sort c) (sort d)) || apart_same c d

no_both : (b : Bool) → not b ≡ true → b ≡ true → ⊥
no_both true h e = cc
no_both false h e = cc

not_both : (b : Bool) → b ≡ true → not b ≡ true → ⊥
not_both b h e = no_both b e h

-- of one sort, one tests more
apart_same-law : (c d : Class) (k : TokenKind) (w : Bytes) → apart_same c d ≡ true
    → sees_at c k w ≡ true → sees_at d k w ≡ true → ⊥
apart_same-law (symbol c) (symbol d) (kind.Symbol x) w h e f =
    let p : x ≡ c = eqb-true x c e in
    let q : x ≡ d = eqb-true x d f in
    let r : eqb c d ≡ true = eq-eqb c d (sym p ∙ q) in absurd cc
apart_same-law (word u) (word v) k w h e f =
    let p : w ≡ u = (bytes_eq-Decides w u).0 (and_right (is_ident_token k) (bytes_eq w u) e) in
    let q : bytes_eq w v ≡ true = and_right (is_ident_token k) (bytes_eq w v) f in
    no_both (bytes_eq u v) h (subst (λ x. bytes_eq x v ≡ true) p q)
apart_same-law (word u) (ident vs) k w h e f =
    let p : w ≡ u = (bytes_eq-Decides w u).0 (and_right (is_ident_token k) (bytes_eq w u) e) in
    let q : not (is_among w vs) ≡ true = and_right (is_ident_token k) (not (is_among w vs)) f in
    not_both (is_among u vs) h (subst (λ x. not (is_among x vs) ≡ true) p q)
apart_same-law (ident us) (word v) k w h e f =
    let p : w ≡ v = (bytes_eq-Decides w v).0 (and_right (is_ident_token k) (bytes_eq w v) f) in
    let q : not (is_among w us) ≡ true = and_right (is_ident_token k) (not (is_among w us)) e in
    not_both (is_among v us) h (subst (λ x. not (is_among x us) ≡ true) p q)
apart_same-law c d k w h e f = absurd cc

pub apart-law : (c d : Class) (t : Lexeme) → apart c d ≡ true → sees c t ≡ true → sees d t ≡ false
apart-law c d t h e = false_by _ (λ f. go (eqb (sort c) (sort d)) refl h f)
  where
    go : (b : Bool) → eqb (sort c) (sort d) ≡ b → (not b || apart_same c d) ≡ true → sees d t ≡ true
        → ⊥
    go true i h f = apart_same-law c d t.kind t.text h e f
    go false i h f = let p : eqb (sort c) (sort d)
        ≡ true = eq-eqb (sort c) (sort d)
        (sees-sort c t.kind t.text e ∙ sym (sees-sort d t.kind t.text f)) in cc

abbrev pub are_among : List Bytes → List Bytes → Bool
are_among [] ws = true
are_among (v ∷ vs) ws = is_among v ws && are_among vs ws

abbrev pub within : Class → Class → Bool
within (symbol c) (symbol d) = eqb c d
within (word v) (word w) = bytes_eq v w
within (word v) (ident ws) = not (is_among v ws)
within (ident vs) (ident ws) = are_among ws vs
within integer integer = true
within float float = true
within text text = true
within c d = false

are_among-law : (w : Bytes) (us vs : List Bytes) → are_among us vs ≡ true → is_among w vs ≡ false
    → is_among w us ≡ false
are_among-law w [] vs h e = refl
are_among-law w (u ∷ us) vs h e = go (bytes_eq w u) refl (are_among-law w us vs (and_right _ _ h) e)
  where
    go : (b : Bool) → bytes_eq w u ≡ b → is_among w us ≡ false → (b || is_among w us) ≡ false
    go true i f =
        let p : w ≡ u = (bytes_eq-Decides w u).0 i in
        let q : is_among u vs ≡ true = and_left _ _ h in
        let r : is_among w vs ≡ true = rw p q in absurd cc
    go false i f = f

pub within-law : (c d : Class) (t : Lexeme) → within c d ≡ true → sees c t ≡ true → sees d t ≡ true
within-law (symbol c) (symbol d) t h e = rw (← eqb-true c d h) e
within-law (word v) (word w) t h e = rw (← (bytes_eq-Decides v w).0 h) e
within-law (word v) (ident ws) t h e =
    let p : t.text ≡ v = (bytes_eq-Decides t.text v).0 (and_right _ _ e) in
    let q : not (is_among t.text ws) ≡ true = rw p h in
    let r : is_ident_token t.kind ≡ true = and_left _ _ e in rw (r, q) refl
within-law (ident vs) (ident ws) t h e =
    let n : is_among t.text vs ≡ false = not_true _ (and_right _ _ e) in
    let q : is_among t.text ws ≡ false = are_among-law t.text ws vs h n in
    let r : is_ident_token t.kind ≡ true = and_left _ _ e in rw (r, q) refl
within-law integer integer t h e = e
within-law float float t h e = e
within-law text text t h e = e
within-law c d t h e = absurd cc

abbrev pub but : Class → Class → List Class
but (ident vs) (word w) = ident (w ∷ vs) ∷ []
but c d = cond (within c d) [] (c ∷ [])

but-rest : (c d : Class) (t : Lexeme) → sees c t ≡ true → sees d t ≡ false
    → seen sees (cond (within c d) [] (c ∷ [])) t ≡ true
but-rest c d t h e = go (within c d) refl
  where
    go : (b : Bool) → within c d ≡ b → seen sees (cond b [] (c ∷ [])) t ≡ true
    go true i = let f : sees d t ≡ true = within-law c d t i h in absurd cc
    go false i = rw h refl

pub but-law : (c d : Class) (t : Lexeme) → sees c t ≡ true → sees d t ≡ false
    → seen sees (but c d) t ≡ true
but-law (ident vs) (word w) t h e =
    let r : is_ident_token t.kind ≡ true = and_left _ _ h in
    let n : is_among t.text vs ≡ false = not_true _ (and_right _ _ h) in
    let q : bytes_eq t.text w ≡ false = rw r at e in rw (r, q, n) refl
but-law (symbol c) d t h e = but-rest (symbol c) d t h e
but-law (word v) d t h e = but-rest (word v) d t h e
but-law (ident vs) d t h e = but-rest (ident vs) d t h e
but-law integer d t h e = but-rest integer d t h e
but-law float d t h e = but-rest float d t h e
but-law text d t h e = but-rest text d t h e

abbrev pub lexicon : Lexicon Lexeme Place Class
lexicon =
    record {
      mark = λ t. t.place;
      sees = sees;
      apart = apart;
      within = within;
      but = but;
      apart-law = apart-law;
      within-law = within-law;
      but-law = but-law;
    }
