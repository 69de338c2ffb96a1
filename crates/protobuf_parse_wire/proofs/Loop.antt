-- Reading records one after the other, as a loop does.
use Rattle.std.proofs.Common.{◌≡◌, ℕ, zero, suc, ◌≤◌, ◌<◌, List, [], ◌∷◌, ◌++◌, length, Ok, Err}
use Rattle.std.proofs.Common.{refl, sym, ap, ◌∙◌, append_assoc, arith}
use Rattle.std.proofs.lemmas.List.{append-nil}
use Rattle.protobuf_parse_wire.specs.declared.fault.ReadFault.{ReadFault}
use Rattle.protobuf_parse_wire.specs.Trees.{Field}
use Rattle.protobuf_parse_wire.specs.Reading.{◌>>=◌, WireRead, Inner, FieldsByNumber, record_at}
use Rattle.protobuf_parse_wire.specs.Reading.{records}

-- what was read before, and what is still read
abbrev pub with_front : List Field → WireRead (List Field) → WireRead (List Field)
with_front front read = read >>= λ fs. Ok (front ++ fs)

-- The front and what the rest says are all.
pub record Left (inner : Inner) (numbers : FieldsByNumber) (front : List Field) (rest : List ℕ)
    (total : WireRead (List Field)) : Type 0 where
  pub most : ℕ
  pub enough : length rest ≤ most
  pub so_far : with_front front (records inner numbers most rest) ≡ total

regroup : (front : List Field) (f : Field) (read : WireRead (List Field))
    → with_front front (read >>= λ fs. Ok (f ∷ fs)) ≡ with_front (front ++ f ∷ []) read
regroup front f (Ok fs) = ap (λ (x : List Field). Ok x) (sym (append_assoc front (f ∷ []) fs))
regroup front f (Err e) = refl

pub begins : (inner : Inner) (numbers : FieldsByNumber) (bs : List ℕ)
    → Left inner numbers [] bs (records inner numbers (length bs) bs)
begins inner numbers bs =
    record {
      most = length bs;
      enough = omega arith;
      so_far =
          front_none (records inner numbers (length bs) bs);
    }
  where
    front_none : (read : WireRead (List Field)) → with_front [] read ≡ read
    front_none (Ok fs) = refl
    front_none (Err e) = refl

goes_on_at : (inner : Inner) (numbers : FieldsByNumber) (front : List Field) (n : ℕ) (bs : List ℕ)
    (f : Field) (after : List ℕ) (total : WireRead (List Field)) → length bs ≤ n
    → length after < length bs → record_at inner numbers bs ≡ Ok (f, after)
    → with_front front (records inner numbers n bs) ≡ total
    → Left inner numbers (front ++ f ∷ []) after total
unfolding records
goes_on_at inner numbers front n [] f after total le less e so_far = absurd (omega arith)
goes_on_at inner numbers front zero (b ∷ bs) f after total le less e so_far = absurd (omega arith)
goes_on_at inner numbers front (suc n) (b ∷ bs) f after total le less e so_far =
    let one : with_front front (records inner numbers (suc n) (b ∷ bs))
    ≡ with_front (front ++ f ∷ []) (records inner numbers n after) =
    rw e (regroup front f (records inner numbers n after)) in
    record { most = n; enough = omega arith; so_far = sym one ∙ so_far }

pub goes_on : (inner : Inner) (numbers : FieldsByNumber) (front : List Field) (bs : List ℕ)
    (f : Field)
    (after : List ℕ) (total : WireRead (List Field)) → length after < length bs
    → record_at inner numbers bs ≡ Ok (f, after)
    → Left inner numbers front bs total → Left inner numbers (front ++ f ∷ []) after total
goes_on inner numbers front bs f after total less e so_far =
    goes_on_at inner numbers front so_far.most bs f after total so_far.enough less e so_far.so_far

ends_at : (inner : Inner) (numbers : FieldsByNumber) (front : List Field) (n : ℕ) (bs : List ℕ)
    (e : ReadFault) (total : WireRead (List Field)) → length bs ≤ n → 0 < length bs
    → record_at inner numbers bs ≡ Err e
    → with_front front (records inner numbers n bs) ≡ total → total ≡ Err e
unfolding records
ends_at inner numbers front n [] e total le some stops so_far = absurd (omega arith)
ends_at inner numbers front zero (b ∷ bs) e total le some stops so_far = absurd (omega arith)
ends_at inner numbers front (suc n) (b ∷ bs) e total le some stops so_far =
    let one : with_front front (records inner numbers (suc n) (b ∷ bs)) ≡ Err e = rw stops refl in
    sym so_far ∙ one

pub ends : (inner : Inner) (numbers : FieldsByNumber) (front : List Field) (bs : List ℕ)
    (e : ReadFault)
    (total : WireRead (List Field)) → 0 < length bs → record_at inner numbers bs ≡ Err e
    → Left inner numbers front bs total → total ≡ Err e
ends inner numbers front bs e total some stops so_far =
    ends_at inner numbers front so_far.most bs e total so_far.enough some stops so_far.so_far

pub is_done : (inner : Inner) (numbers : FieldsByNumber) (front : List Field) (bs : List ℕ)
    (total : WireRead (List Field)) → length bs ≡ 0 → Left inner numbers front bs total
    → total ≡ Ok front
unfolding records
is_done inner numbers front [] total none so_far = sym so_far.so_far
    ∙ ap (λ (fs : List Field). Ok fs) (append-nil front)
is_done inner numbers front (b ∷ bs) total none so_far = absurd (omega arith)
