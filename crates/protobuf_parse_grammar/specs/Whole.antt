-- No public clause rests on this file.
-- What a reader of whole lists says of its relation: the one value, no other, and where none can
-- be.
use Rattle.std.proofs.Common.{◌≡◌, ℕ, zero, suc, ◌+◌, List, [], ◌∷◌, ◌++◌, length, true, false}
use Rattle.std.proofs.Common.{Result, Ok, refl, sym, ap, subst, ◌∙◌, inl, inr, ◌⊎◌, arith, add-zero}
use Rattle.std.proofs.Common.{zero-add}
use Rattle.std.proofs.Math.Nat.{add-suc}
use Rattle.std.proofs.lemmas.List.{append_cancel_right}
use Rattle.protobuf_parse_grammar.specs.Readers.{Rest, end, token, onto, onto-append, size, next}
use Rattle.protobuf_parse_grammar.specs.Readers.{Read, read, stopped, wrong, deep, read_parts}
use Rattle.protobuf_parse_grammar.specs.Readers.{Lexicon, Shape, Reader, LocalAt, LocalRead}
use Rattle.protobuf_parse_grammar.specs.Readers.{LocalStuck, starts}
use Rattle.protobuf_parse_grammar.specs.Conditions.{mark_of}
use Rattle.protobuf_parse_grammar.specs.Depth.{Near, NearAt}
use Rattle.protobuf_parse_grammar.specs.Relations.{AtSomeDepth, StopsAt, first_mark, head}

-- a list as what is left before the end
abbrev pub whole : {Tok Mark : Type 0} → List Tok → Mark → Rest Tok Mark
whole ts m = onto ts (end m)

starts-end : {Tok Mark Class : Type 0} (L : Lexicon Tok Mark Class) (cs : List Class) (m : Mark)
    → starts L cs (end m) ≡ false
unfolding starts
starts-end L cs m = refl

module _ {Tok Mark : Type 0} where
  -- the list that was read and the one that is left
  pub size-whole : (ts : List Tok) (m : Mark) → size (whole ts m) ≡ length ts
  size-whole [] m = refl
  size-whole (t ∷ ts) m = ap suc (size-whole ts m)

  pub onto-same : (ts us : List Tok) (m n : Mark) → whole ts m ≡ whole us n → (ts ≡ us) × (m ≡ n)
  onto-same [] [] m n e = (refl, cc)
  onto-same [] (u ∷ us) m n e = absurd cc
  onto-same (t ∷ ts) [] m n e = absurd cc
  onto-same (t ∷ ts) (u ∷ us) m n e =
      let p : t ≡ u = cc in
      let q : whole ts m ≡ whole us n = cc in
      let r = onto-same ts us m n q in
      let s = r.0 in
      (cc, r.1)

  -- what is left of a list before its end is a list before that end
  pub left_whole : (ts used : List Tok) (m : Mark) (rest : Rest Tok Mark)
      → whole ts m ≡ onto used rest → (back : List Tok) × (rest ≡ whole back m)
      × (ts ≡ used ++ back)
  left_whole ts [] m rest e = (ts, sym e, refl)
  left_whole [] (u ∷ us) m rest e = absurd cc
  left_whole (t ∷ ts) (u ∷ us) m rest e =
      let q : whole ts m ≡ onto us rest = cc in
      let l = left_whole ts us m rest q in
      let p : t ≡ u = cc in
      let k = l.2 in
      (l.0, l.1, cc)

  next-whole : (ts us : List Tok) (m : Mark) → head ts ≡ head us
      → next (whole ts m) ≡ next (whole us m)
  next-whole [] [] m e = refl
  next-whole [] (u ∷ us) m e = absurd cc
  next-whole (t ∷ ts) [] m e = absurd cc
  next-whole (t ∷ ts) (u ∷ us) m e = cc

  pub mark-whole : (mark : Tok → Mark) (ts : List Tok) (m : Mark)
      → mark_of mark (whole ts m) ≡ first_mark mark m ts
  mark-whole mark [] m = refl
  mark-whole mark (t ∷ ts) m = refl

  no_end : (t : Tok) (m : Mark) (rest : Rest Tok Mark) → rest ≡ end m
      → (let r : Result Tok Mark = Ok t in next rest ≡ r) → ⊥
  no_end t m (end n) e h = absurd cc
  no_end t m (token u us) e h = absurd cc

-- ---- a reader

module _ {Tok Mark Class A : Type 0} {L : Lexicon Tok Mark Class} {R : List Tok → A → Type 0}
    {s : Shape Class} (p : Reader L R s) where
  local_read-at : (ts : Rest Tok Mark) (r : Read Tok Mark A) (a : A) (rest : Rest Tok Mark)
      → r ≡ read a rest → LocalAt p.run ts r → LocalRead p.run ts a rest
  local_read-at ts (read b us) a rest e l = let q = read_parts b a us rest e in
      subst (λ v. LocalRead p.run ts a v) q.1 (subst (λ v. LocalRead p.run ts v us) q.0 l)
  local_read-at ts (stopped before us) a rest e l = absurd cc
  local_read-at ts (wrong m) a rest e l = absurd cc
  local_read-at ts deep a rest e l = absurd cc

  pub local_read : (ts : Rest Tok Mark) (a : A) (rest : Rest Tok Mark) → p.run ts ≡ read a rest
      → LocalRead p.run ts a rest
  local_read ts a rest e = local_read-at ts (p.run ts) a rest e (p.local ts)

  local_wrong-at : (ts : Rest Tok Mark) (r : Read Tok Mark A) (rest : Rest Tok Mark)
      → r ≡ wrong rest → LocalAt p.run ts r → (used : List Tok) × (ts ≡ onto used rest)
  local_wrong-at ts (read a us) rest e l = absurd cc
  local_wrong-at ts (stopped before us) rest e l = absurd cc
  local_wrong-at ts (wrong us) rest e l = let q : us ≡ rest = cc in (l.0, l.1 ∙ ap (onto l.0) q)
  local_wrong-at ts deep rest e l = absurd cc

  -- a part that says nothing begins behind some tokens
  pub local_wrong : (ts : Rest Tok Mark) (rest : Rest Tok Mark) → p.run ts ≡ wrong rest
      → (used : List Tok) × (ts ≡ onto used rest)
  local_wrong ts rest e = local_wrong-at ts (p.run ts) rest e (p.local ts)

module _ {Tok Mark Class A : Type 0} {L : Lexicon Tok Mark Class} {R : List Tok → A → Type 0}
    {s : Shape Class} (p : Reader L R s) (fine : s.fine ≡ true) where
  pub reads_whole : (ts : List Tok) (m : Mark) (a : A) → R ts a
      → p.run (whole ts m) ≡ read a (end m)
  reads_whole ts m a h = p.complete fine ts a (end m) h (starts-end L s.goes m)

  pub whole_read : (ts : List Tok) (m n : Mark) (a : A) → p.run (whole ts m) ≡ read a (end n)
      → R ts a
  whole_read ts m n a e =
      let l = p.sound (whole ts m) a (end n) e in
      let k = onto-same ts l.used m n l.parts in
      subst (λ v. R v a) (sym k.0) l.holds

  stuck-local : (ts : Rest Tok Mark) (r : Read Tok Mark A) (before : List Tok)
      (rest : Rest Tok Mark) → r ≡ stopped before rest → LocalAt p.run ts r
      → LocalStuck p.run ts before rest
  stuck-local ts (read a us) before rest e l = absurd cc
  stuck-local ts (stopped ks us) before rest e l =
      let k : ks ≡ before = cc in
      let q : us ≡ rest = cc in
      subst (LocalStuck p.run ts before) q (subst (λ v. LocalStuck p.run ts v us) k l)
  stuck-local ts (wrong m) before rest e l = absurd cc
  stuck-local ts deep before rest e l = absurd cc

  pub local_stuck : (ts : Rest Tok Mark) (before : List Tok) (rest : Rest Tok Mark)
      → p.run ts ≡ stopped before rest → LocalStuck p.run ts before rest
  local_stuck ts before rest e = stuck-local ts (p.run ts) before rest e (p.local ts)

  pub stops : (ts : List Tok) (m : Mark) (before : List Tok) (rest : Rest Tok Mark)
      → p.run (whole ts m) ≡ stopped before rest → StopsAt L.mark R ts m (mark_of L.mark rest)
  stops ts m before rest e =
      let l = local_stuck (whole ts m) before rest e in
      let k = left_whole ts l.used m rest l.parts in
      record {
        front = l.used;
        rest = k.0;
        parts = k.2;
        place = ap (mark_of L.mark) k.1 ∙ mark-whole L.mark k.0 m;
        never = λ other a h r.
            let i : next (whole other m) ≡ next rest = next-whole other k.0 m h
            ∙ ap next (sym k.1) in
            l.again (whole other m) i a (end m)
            (sym (ap p.run (onto-append l.used other (end m)))
            ∙ reads_whole (l.used ++ other) m a r);
      }

-- ---- a reader for each depth

module _ {Tok Mark Class A : Type 0} {L : Lexicon Tok Mark Class} {R : ℕ → List Tok → A → Type 0}
    {s : Shape Class} (p : (n : ℕ) → Reader L (R n) s)
    (near : (n : ℕ) → Near n (p n).run (p (suc n)).run) (fine : s.fine ≡ true) where
  grown : (n : ℕ) (ts : Rest Tok Mark) (r : Read Tok Mark A) → (r ≡ deep → ⊥)
      → NearAt n ts r ((p (suc n)).run ts) → (p (suc n)).run ts ≡ r
  grown n ts r not_deep (inl e) = sym e.0
  grown n ts r not_deep (inr e) = absurd (not_deep e.0)

  -- what is read at a depth is read at every greater one
  pub grows : (j n : ℕ) (ts : Rest Tok Mark) (a : A) (rest : Rest Tok Mark)
      → (p n).run ts ≡ read a rest → (p (n + j)).run ts ≡ read a rest
  grows zero n ts a rest e = rw add-zero e
  grows (suc j) n ts a rest e =
      let i : (p (n + j)).run ts ≡ read a rest = grows j n ts a rest e in
      rw add-suc
      (grown (n + j) ts (read a rest) (λ h. cc)
      (subst (λ r. NearAt (n + j) ts r ((p (suc (n + j))).run ts)) i (near (n + j) ts)))

  -- from this depth on nothing is too deep
  abbrev pub CalmFrom : ℕ → Rest Tok Mark → Type 0
  CalmFrom n ts = (j : ℕ) → (p (n + j)).run ts ≡ deep → ⊥

  -- and then everything is read as at every greater depth
  pub settles : (j n : ℕ) (ts : Rest Tok Mark) → CalmFrom n ts
      → (p (n + j)).run ts ≡ (p n).run ts
  settles zero n ts calm = rw add-zero refl
  settles (suc j) n ts calm =
      rw add-suc
      (grown (n + j) ts ((p (n + j)).run ts) (calm j) (near (n + j) ts) ∙ settles j n ts calm)

  -- of two depths one is so much greater
  either_way : (n k : ℕ) → ((j : ℕ) × (k ≡ n + j)) ⊎ ((j : ℕ) × (n ≡ k + j))
  either_way n zero = inr (n, sym (zero-add n))
  either_way zero (suc k) = inl (suc k, sym (zero-add (suc k)))
  either_way (suc n) (suc k) = go (either_way n k)
    where
      go : ((j : ℕ) × (k ≡ n + j)) ⊎ ((j : ℕ) × (n ≡ k + j))
          → ((j : ℕ) × (suc k ≡ suc n + j)) ⊎ ((j : ℕ) × (suc n ≡ suc k + j))
      go (inl e) = inl (e.0, omega (arith, e.1))
      go (inr e) = inr (e.0, omega (arith, e.1))

  -- what is read at any depth is read there
  pub read_at : (n k : ℕ) (ts : Rest Tok Mark) (a : A) (rest : Rest Tok Mark) → CalmFrom n ts
      → (p k).run ts ≡ read a rest → (p n).run ts ≡ read a rest
  read_at n k ts a rest h e = go (either_way n k)
    where
      go : ((j : ℕ) × (k ≡ n + j)) ⊎ ((j : ℕ) × (n ≡ k + j)) → (p n).run ts ≡ read a rest
      go (inl x) = sym (settles x.0 n ts h) ∙ subst (λ v. (p v).run ts ≡ read a rest) x.1 e
      go (inr x) = subst (λ v. (p v).run ts ≡ read a rest) (sym x.1) (grows x.0 k ts a rest e)

  pub deep_found : (n : ℕ) (ts : List Tok) (m k : Mark) (a : A)
      → (p n).run (whole ts m) ≡ read a (end k) → AtSomeDepth R ts a
  deep_found n ts m k a e = (n, whole_read (p n) fine ts m k a e)

  pub deep_only : (n : ℕ) (ts : List Tok) (m k : Mark) (a b : A) → CalmFrom n (whole ts m)
      → (p n).run (whole ts m) ≡ read a (end k) → AtSomeDepth R ts b → b ≡ a
  deep_only n ts m k a b h e r =
      let i = read_at n r.0 (whole ts m) b (end m) h (reads_whole (p r.0) fine ts m b r.1) in
      (read_parts b a (end m) (end k) (sym i ∙ e)).0

  pub deep_wrong : (n : ℕ) (ts : List Tok) (m : Mark) (rest : Rest Tok Mark) (a : A)
      → CalmFrom n (whole ts m) → (p n).run (whole ts m) ≡ wrong rest → AtSomeDepth R ts a → ⊥
  deep_wrong n ts m rest a h e r =
      let i = read_at n r.0 (whole ts m) a (end m) h (reads_whole (p r.0) fine ts m a r.1) in cc

  same_used : (ts used used' : List Tok) (m : Mark) (rest : Rest Tok Mark)
      → whole ts m ≡ onto used rest → whole ts m ≡ onto used' rest → used' ≡ used
  same_used ts used used' m rest e e' =
      let k = left_whole ts used m rest e in
      let k' = left_whole ts used' m rest e' in
      let same = onto-same k'.0 k.0 m m (sym k'.1 ∙ k.1) in
      append_cancel_right used' used k.0
      (ap (λ (x : List Tok). used' ++ x) (sym same.0) ∙ sym k'.2 ∙ k.2)

  never_deep : (n k : ℕ) (ts other before : List Tok) (m : Mark) (rest : Rest Tok Mark) (a : A)
      → CalmFrom n (whole ts m) → (p n).run (whole ts m) ≡ stopped before rest
      → (l : LocalStuck (p n).run (whole ts m) before rest) → next (whole other m) ≡ next rest
      → (p k).run (whole (l.used ++ other) m) ≡ read a (end m) → ⊥
  never_deep n k ts other before m rest a h e l g r = go (either_way n k)
    where
      go : ((j : ℕ) × (k ≡ n + j)) ⊎ ((j : ℕ) × (n ≡ k + j)) → ⊥
      go (inl x) =
          let e' : (p k).run (whole ts m)
          ≡ stopped before rest = subst (λ v. (p v).run (whole ts m) ≡ stopped before rest)
          (sym x.1) (settles x.0 n (whole ts m) h ∙ e) in
          let l' = local_stuck (p k) fine (whole ts m) before rest e' in
          let same = same_used ts l.used l'.used m rest l.parts l'.parts in
          l'.again (whole other m) g a (end m)
          (subst (λ v. (p k).run (onto v (whole other m)) ≡ read a (end m)) (sym same)
          (sym (ap (p k).run (onto-append l.used other (end m))) ∙ r))
      go (inr x) =
          let r' : (p n).run (whole (l.used ++ other) m)
          ≡ read a (end m) =
          subst (λ v. (p v).run (whole (l.used ++ other) m) ≡ read a (end m)) (sym x.1)
          (grows x.0 k (whole (l.used ++ other) m) a (end m) r) in
          l.again (whole other m) g a (end m)
          (sym (ap (p n).run (onto-append l.used other (end m))) ∙ r')

  pub deep_stops : (n : ℕ) (ts : List Tok) (m : Mark) (before : List Tok) (rest : Rest Tok Mark)
      → CalmFrom n (whole ts m) → (p n).run (whole ts m) ≡ stopped before rest
      → StopsAt L.mark (AtSomeDepth R) ts m (mark_of L.mark rest)
  deep_stops n ts m before rest h e =
      let l = local_stuck (p n) fine (whole ts m) before rest e in
      let k = left_whole ts l.used m rest l.parts in
      record {
        front = l.used;
        rest = k.0;
        parts = k.2;
        place = ap (mark_of L.mark) k.1 ∙ mark-whole L.mark k.0 m;
        never = λ other a g r. never_deep n r.0 ts other before m rest a h e l
            (next-whole other k.0 m g ∙ ap next (sym k.1))
            (reads_whole (p r.0) fine (l.used ++ other) m a r.1);
      }

  read_on : (n k : ℕ) (ts : Rest Tok Mark) (a c : A) (us vs : Rest Tok Mark)
      → (p n).run ts ≡ read c us → (p k).run ts ≡ read a vs → vs ≡ us
  read_on n k ts a c us vs e f = go (either_way n k)
    where
      go : ((j : ℕ) × (k ≡ n + j)) ⊎ ((j : ℕ) × (n ≡ k + j)) → vs ≡ us
      go (inl x) =
          (read_parts a c vs us
          (sym f ∙ subst (λ v. (p v).run ts ≡ read c us) (sym x.1) (grows x.0 n ts c us e))).1
      go (inr x) =
          (read_parts a c vs us
          (sym (subst (λ v. (p v).run ts ≡ read a vs) (sym x.1) (grows x.0 k ts a vs f)) ∙ e)).1

  -- a value was read before a token
  pub deep_leaves : (n : ℕ) (ts : List Tok) (m : Mark) (c : A) (rest : Rest Tok Mark) (t : Tok)
      → (p n).run (whole ts m) ≡ read c rest → (let r : Result Tok Mark = Ok t in next rest ≡ r)
      → StopsAt L.mark (AtSomeDepth R) ts m (mark_of L.mark rest)
  deep_leaves n ts m c rest t e left =
      let l = local_read (p n) (whole ts m) c rest e in
      let k = left_whole ts l.used m rest l.parts in
      record {
        front = l.used;
        rest = k.0;
        parts = k.2;
        place = ap (mark_of L.mark) k.1 ∙ mark-whole L.mark k.0 m;
        never = λ other a g r.
            let i : next (whole other m) ≡ next rest = next-whole other k.0 m g
            ∙ ap next (sym k.1) in
            let o : (p n).run (whole (l.used ++ other) m)
            ≡ read c (whole other m) = ap (p n).run (onto-append l.used other (end m))
            ∙ l.again (whole other m) i in
            let w : (p r.0).run (whole (l.used ++ other) m)
            ≡ read a (end m) = reads_whole (p r.0) fine (l.used ++ other) m a r.1 in
            no_end t m (whole other m)
            (sym (read_on n r.0 (whole (l.used ++ other) m) a c (whole other m) (end m) o w))
            (i ∙ left);
      }
