-- Values one after the other, as a loop takes them.
use Rattle.std.proofs.Common.{◌≡◌, ℕ, ◌+◌, ◌<◌, List, [], ◌∷◌, ◌++◌, length, get_or, drop, map, Some}
use Rattle.std.proofs.Common.{None, refl, sym, ap, ◌∙◌, append_assoc, append-nil, drop-cons, add-one}
use Rattle.protobuf_parse_model.specs.Descriptors.{Text}
use Rattle.protobuf_parse_merged.specs.declared.fault.MergeError.{MergeError}
use Rattle.protobuf_parse_merged.specs.declared.fault.MergeError.TheVariants as error
use Rattle.protobuf_parse_merged.specs.declared.occurrences.Occurrence as code
use Rattle.protobuf_parse_merged.specs.Answers.{Answer, ◌>>=◌, Fails}
use Rattle.protobuf_parse_merged.specs.Merged.{Value}
use Rattle.protobuf_parse_merged.specs.Occurrences.{Held}
use Rattle.protobuf_parse_merged.specs.Merging.{Inner, each_value, value_of}
use Rattle.protobuf_parse_merged.specs.Inside.{held_in, held_view, occurrence_view}

-- an answer behind values that were found
abbrev pub with_front : List Value → Answer (List Value) → Answer (List Value)
with_front front answer = answer >>= λ (vs : List Value). Some (front ++ vs)

-- The front and what the rest gives are all.
pub record ToValue (inner : Inner) (name : Text) (front : List Value) (rest : List Held)
    (total : Answer (List Value)) : Type 0 where
  pub so_far : with_front front (each_value inner name rest) ≡ total

-- what stands there next
pub next_held : (xs : List code.Occurrence) (i : ℕ) (x : code.Occurrence) → i < length xs
    → x ≡ get_or xs i x
    → held_in (map occurrence_view (drop i xs))
    ≡ held_view x.held ∷ held_in (map occurrence_view (drop (i + 1) xs))
next_held xs i x below is =
    let step : drop i xs ≡ x ∷ drop (i + 1) xs = rw (add-one, drop-cons xs i x, ← is) refl in
    ap (λ (ys : List code.Occurrence). held_in (map occurrence_view ys)) step

regroup : (front : List Value) (v : Value) (answer : Answer (List Value))
    → with_front front (answer >>= λ (vs : List Value). Some (v ∷ vs))
    ≡ with_front (front ++ v ∷ []) answer
regroup front v (Some vs) = ap (λ (x : List Value). Some x) (sym (append_assoc front (v ∷ []) vs))
regroup front v None = refl

nothing_found : (answer : Answer (List Value)) → with_front [] answer ≡ answer
nothing_found (Some vs) = refl
nothing_found None = refl

module _ (inner : Inner) (name : Text) where
  pub begins : (hs : List Held) → ToValue inner name [] hs (each_value inner name hs)
  begins hs = record { so_far = nothing_found (each_value inner name hs) }

  -- one value more
  pub goes_on : (front : List Value) (h : Held) (hs : List Held) (v : Value)
      (total : Answer (List Value)) → value_of inner name h ≡ Some v
      → ToValue inner name front (h ∷ hs) total → ToValue inner name (front ++ v ∷ []) hs total
  goes_on front h hs v total e left =
      let one : with_front front (each_value inner name (h ∷ hs))
      ≡ with_front (front ++ v ∷ []) (each_value inner name hs) =
      ap (λ (x : Answer Value). with_front front (x >>= λ (v : Value).
      each_value inner name hs >>= λ (vs : List Value). Some (v ∷ vs))) e
      ∙ regroup front v (each_value inner name hs) in
      record { so_far = sym one ∙ left.so_far }

  -- Where the next value is none, there are none at all.
  pub ends : (front : List Value) (h : Held) (hs : List Held) (e : MergeError)
      (total : Answer (List Value)) → Fails e (value_of inner name h)
      → ToValue inner name front (h ∷ hs) total → Fails e total
  ends front h hs error.Memory total fails left = tt
  ends front h hs error.TooDeep total fails left =
      sym left.so_far
      ∙ ap (λ (x : Answer Value). with_front front (x >>= λ (v : Value).
      each_value inner name hs >>= λ (vs : List Value). Some (v ∷ vs))) fails

  -- Nothing is left.
  pub is_done : (front : List Value) (total : Answer (List Value))
      → ToValue inner name front [] total → total ≡ Some front
  is_done front total left = sym left.so_far ∙ ap (λ (x : List Value). Some x) (append-nil front)
