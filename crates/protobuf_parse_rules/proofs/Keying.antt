-- Claims whose keys differ.
use Rattle.std.proofs.Common.{◌≡◌, ℕ, false, cond, List, [], ◌∷◌, ◌++◌, map}
use Rattle.std.proofs.Common.{refl, sym, ap, subst, ◌∙◌, append_assoc, append-nil, inl, inr}
use Rattle.std.proofs.Common.{Some, None}
use Rattle.std.proofs.Math.Dec.{eqb}
use Rattle.std.specs.Prelude.{option_to_list}
use Rattle.std.specs.List.{IsDistinct, AllByRecursion, flat_map}
use Rattle.std.proofs.lemmas.Bool.{cases_Bool, eqb-false}
use Rattle.std.proofs.lemmas.Map.Keys.{IsDistinct-head, IsDistinct-tail}
use Rattle.std.proofs.lemmas.List.{map-append}
use Rattle.protobuf_parse_model.specs.ByHash.{hash_of}
use Rattle.protobuf_parse_model.specs.Descriptors.{Text, FieldDescriptor}
use Rattle.protobuf_parse_rules.specs.Claims.{Claim, Rules, Thing, conflict, conflicts}
use Rattle.protobuf_parse_rules.specs.Claims.{first_claim, same_thing}
use Rattle.protobuf_parse_rules.specs.Keys.{claim_key, extension_keys, field_key, text_key}
use Rattle.protobuf_parse_rules.specs.Keys.{thing_key}
use Rattle.protobuf_parse_rules.specs.Numbers.{claim_of, claims, extension_claim, extension_claims}
use Rattle.protobuf_parse_rules.specs.Numbers.{field_claims}
use Rattle.protobuf_parse_rules.specs.Bodies.{BodyParts, extensions_of, fields_of}
use Rattle.protobuf_parse_rules.specs.Rules.{Breach}
use Rattle.protobuf_parse_rules.proofs.Claiming.{thing_is}

-- ---- no claim of what is claimed already

module _ (key : Claim → ℕ) (alike : (c d : Claim) → c.thing ≡ d.thing → key c ≡ key d) where
  things_differ : (c d : Claim) → eqb (key c) (key d) ≡ false
      → same_thing c.thing d.thing ≡ false
  things_differ c d h =
      elim (cases_Bool (same_thing c.thing d.thing)) [
        | inl same ↦
            absurd (eqb-false (key c) (key d) h
            (alike c d (thing_is c.thing d.thing same)))
        | inr other ↦ other
      ]

  holds_of : (P : ℕ → Type 0) (before cs : List Claim) (c : Claim)
      → AllByRecursion P (map key (before ++ c ∷ cs)) → P (key c)
  holds_of P [] cs c h = h.0
  holds_of P (b ∷ bs) cs c h = holds_of P bs cs c h.1

  unclaimed : (before cs : List Claim) (c : Claim)
      → IsDistinct eqb (map key (before ++ c ∷ cs)) → first_claim before c.thing ≡ None
  unclaimed [] cs c h = refl
  unclaimed (b ∷ bs) cs c h =
      ap (λ s. cond s (Some b) (first_claim bs c.thing))
      (things_differ b c (holds_of (λ y. eqb (key b) y ≡ false) bs cs c
      (IsDistinct-head eqb (key b) (map key (bs ++ c ∷ cs)) h)))
      ∙ unclaimed bs cs c (IsDistinct-tail eqb (key b) (map key (bs ++ c ∷ cs)) h)

  pub none_after : (rules : Rules) (before cs : List Claim)
      → IsDistinct eqb (map key (before ++ cs)) → conflicts rules before cs ≡ []
  none_after rules before [] h = refl
  none_after rules before (c ∷ cs) h =
      ap (λ first. conflict rules c first ++ conflicts rules (before ++ c ∷ []) cs)
      (unclaimed before cs c h)
      ∙ none_after rules (before ++ c ∷ []) cs
      (subst (λ (xs : List Claim). IsDistinct eqb (map key xs))
      (sym (append_assoc before (c ∷ []) cs)) h)

  -- Where the keys differ, no claim is in conflict.
  pub keys_apart : (rules : Rules) (cs : List Claim) (keys : List ℕ)
      → keys ≡ map key cs → IsDistinct eqb keys → conflicts rules [] cs ≡ []
  keys_apart rules cs keys is apart =
      none_after rules [] cs (subst (IsDistinct eqb) is apart)

  all_keys : {X : Type 0} (claim : X → Claim) (xs : List X)
      → map (λ (x : X). key (claim x)) xs ≡ map key (map claim xs)
  all_keys claim [] = refl
  all_keys claim (x ∷ xs) = ap (λ ks. key (claim x) ∷ ks) (all_keys claim xs)

  -- The same of claims of what stands in a list: nothing is told of them.
  pub nothing_claimed : {X : Type 0} (rules : Rules) (told : List Breach) (claim : X → Claim)
      (xs : List X) (keys : List ℕ) → keys ≡ map (λ (x : X). key (claim x)) xs
      → IsDistinct eqb keys → told ≡ told ++ conflicts rules [] (map claim xs)
  nothing_claimed rules told claim xs keys is apart =
      sym (append-nil told)
      ∙ ap (λ bs. told ++ bs)
      (sym (keys_apart rules (map claim xs) keys (is ∙ all_keys claim xs) apart))

-- the key of a thing by its number and its name
pub by_thing : (c d : Claim) → c.thing ≡ d.thing → claim_key c ≡ claim_key d
by_thing c d e = ap thing_key e

fused : {X : Type 0} (claim : X → Claim) (xs : List X)
    → map (λ (x : X). claim_key (claim x)) xs ≡ map claim_key (map claim xs)
fused claim xs = all_keys claim_key by_thing claim xs

pub nothing_told : {X : Type 0} (rules : Rules) (told : List Breach) (claim : X → Claim)
    (xs : List X) (keys : List ℕ) → keys ≡ map (λ (x : X). claim_key (claim x)) xs
    → IsDistinct eqb keys → told ≡ told ++ conflicts rules [] (map claim xs)
nothing_told rules told claim xs keys is apart =
    nothing_claimed claim_key by_thing rules told claim xs keys is apart

-- the key of a thing by its name, byte by byte
abbrev name_text_key : Claim → ℕ
name_text_key c = text_key c.thing.name

by_name : (c d : Claim) → c.thing ≡ d.thing → name_text_key c ≡ name_text_key d
by_name c d e = ap (λ (t : Thing). text_key t.name) e

pub no_text_told : {X : Type 0} (rules : Rules) (told : List Breach) (claim : X → Claim)
    (xs : List X) (keys : List ℕ) → keys ≡ map (λ (x : X). name_text_key (claim x)) xs
    → IsDistinct eqb keys → told ≡ told ++ conflicts rules [] (map claim xs)
no_text_told rules told claim xs keys is apart =
    nothing_claimed name_text_key by_name rules told claim xs keys is apart

-- the hash of a thing's name
abbrev name_hash : Claim → ℕ
name_hash c = hash_of c.thing.name

by_hash : (c d : Claim) → c.thing ≡ d.thing → name_hash c ≡ name_hash d
by_hash c d e = ap (λ (t : Thing). hash_of t.name) e

pub no_hash_told : {X : Type 0} (rules : Rules) (told : List Breach) (claim : X → Claim)
    (xs : List X) (keys : List ℕ) → keys ≡ map (λ (x : X). name_hash (claim x)) xs
    → IsDistinct eqb keys → told ≡ told ++ conflicts rules [] (map claim xs)
no_hash_told rules told claim xs keys is apart =
    nothing_claimed name_hash by_hash rules told claim xs keys is apart

-- ---- the numbers that a body claims

extension_keys_are : (file scope : Text) (es : List FieldDescriptor)
    → flat_map extension_keys es ≡ map claim_key (extension_claims file scope es)
extension_keys_are file scope [] = refl
extension_keys_are file scope (e ∷ es) =
    ap (λ ks. extension_keys e ++ ks) (extension_keys_are file scope es)
    ∙ ap (λ ks. ks ++ map claim_key (extension_claims file scope es))
    (fused (λ m. claim_of file scope m e) (option_to_list e.extendee))
    ∙ sym (map-append claim_key (extension_claim file scope e) (extension_claims file scope es))

pub number_keys : (p : BodyParts) (keys mid new : List ℕ)
    → mid ≡ keys ++ map (field_key (text_key p.scope)) (fields_of p.content)
    → new ≡ mid ++ flat_map extension_keys (extensions_of p.content)
    → new ≡ keys ++ map claim_key (claims p)
number_keys p keys mid new fields extensions =
    let fs = fields_of p.content in
    let es = extensions_of p.content in
    extensions
    ∙ ap (λ ks. ks ++ flat_map extension_keys es) fields
    ∙ append_assoc keys (map (field_key (text_key p.scope)) fs) (flat_map extension_keys es)
    ∙ ap (λ ks. keys ++ (ks ++ flat_map extension_keys es))
    (fused (claim_of p.file p.scope p.scope) fs)
    ∙ ap (λ ks. keys ++ (map claim_key (field_claims p.file p.scope fs) ++ ks))
    (extension_keys_are p.file p.scope es)
    ∙ ap (λ ks. keys ++ ks)
    (sym (map-append claim_key (field_claims p.file p.scope fs)
    (extension_claims p.file p.scope es)))
