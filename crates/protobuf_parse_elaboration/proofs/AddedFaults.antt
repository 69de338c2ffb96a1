-- What custom options add to the faults of a construct, by its sets of options.
use Rattle.std.proofs.Common.{◌≡◌, ◌⊎◌, inl, inr, List, [], ◌∷◌, ◌++◌, map, flat_map, refl, sym}
use Rattle.std.proofs.Common.{subst}
use Rattle.std.proofs.lemmas.Grind.{flat_map-append}
use Rattle.std.proofs.lemmas.List.{append-nil}
use Rattle.protobuf_parse_syntax.specs.Trees.{OptionSyntax}
use Rattle.protobuf_parse_model.specs.Descriptors.{Text}
use Rattle.protobuf_parse_model.specs.declared.customs.Construct.{Construct}
use Rattle.protobuf_parse_model.specs.Faults.{Among, here, there, Fault}
use Rattle.protobuf_parse_model.specs.Declarations.{Scope}
use Rattle.protobuf_parse_model.specs.Environment.{Environment, Customs, no_customs}
use Rattle.protobuf_parse_model.specs.BuiltinOptions.{Table, options_faults}
use Rattle.protobuf_parse_model.proofs.Blaming.{among_left, among_right}
use Rattle.protobuf_parse_elaboration.specs.ConstructOptions.{construct_faults}
use Rattle.protobuf_parse_elaboration.specs.OptionSets.{OptionSet, a_set}
use Rattle.protobuf_parse_elaboration.specs.CustomSets.{faults_of_set}
use Rattle.protobuf_parse_elaboration.proofs.SameNames.{with_customs}

-- the environment without custom options
abbrev pub bare : Environment → Environment
bare env = with_customs no_customs env

-- what stands in two lists stands in one of them
in_either : {A : Type 0} {x : A} (xs ys : List A) → Among (xs ++ ys) x → Among xs x ⊎ Among ys x
in_either [] ys h = inr h
in_either (z ∷ xs) ys here = inl here
in_either (z ∷ xs) ys (there h) = elim (in_either xs ys h) [ inl w ↦ inl (there w) | inr w ↦ inr w ]

-- nothing stands in the empty list
in_none : {A : Type 0} {x : A} → Among [] x → ⊥
in_none h = elim h [ ]

module _ (customs : Customs) where
  -- what is wrong in the custom options of these sets
  abbrev pub custom_faults : List OptionSet → List Fault
  custom_faults sets = flat_map (faults_of_set customs) sets

  -- the faults of the first list are those of the second and those of the sets
  pub record Adds (whole plain : List Fault) (sets : List OptionSet) : Type 0 where
    pub told : (f : Fault) → Among whole f → Among plain f ⊎ Among (custom_faults sets) f
    pub stays : (f : Fault) → Among plain f → Among whole f
    pub added : (f : Fault) → Among (custom_faults sets) f → Among whole f

  -- what is wrong in two lists of sets is wrong in one of them
  in-sets : (xs ys : List OptionSet) {f : Fault} → Among (custom_faults (xs ++ ys)) f
      → Among (custom_faults xs) f ⊎ Among (custom_faults ys) f
  in-sets xs ys {f} h =
      in_either (custom_faults xs) (custom_faults ys)
      (subst (λ (fs : List Fault). Among fs f) (flat_map-append (faults_of_set customs) xs ys) h)

  -- and what is wrong in the first of them or in the second is wrong in both together
  left-of-sets : (xs ys : List OptionSet) {f : Fault} → Among (custom_faults xs) f
      → Among (custom_faults (xs ++ ys)) f
  left-of-sets xs ys {f} h =
      subst (λ (fs : List Fault). Among fs f) (sym (flat_map-append (faults_of_set customs) xs ys))
      (among_left (custom_faults ys) h)

  right-of-sets : (xs ys : List OptionSet) {f : Fault} → Among (custom_faults ys) f
      → Among (custom_faults (xs ++ ys)) f
  right-of-sets xs ys {f} h =
      subst (λ (fs : List Fault). Among fs f) (sym (flat_map-append (faults_of_set customs) xs ys))
      (among_right (custom_faults xs) h)

  -- ---- lists of faults

  -- where the lists are equal
  pub adds-none : {whole plain : List Fault} → whole ≡ plain → Adds whole plain []
  adds-none e = record {
    told = λ (f : Fault) h. inl (subst (λ (fs : List Fault). Among fs f) e h);
    stays = λ (f : Fault) h. subst (λ (fs : List Fault). Among fs f) (sym e) h;
    added = λ (f : Fault) h. absurd (in_none h);
  }

  -- where they are one
  pub adds-nothing : (faults : List Fault) → Adds faults faults []
  adds-nothing faults = adds-none refl

  -- the faults of one set
  pub adds-own : {name : Text} (construct : Construct) (scope : Scope) (os : List OptionSyntax)
      → Adds (customs.faults construct scope os) [] (a_set construct name scope os ∷ [])
  adds-own construct scope os = record {
    told = λ (f : Fault) h. inr (among_left [] h);
    stays = λ (f : Fault) h. absurd (in_none h);
    added = λ (f : Fault) h. subst (λ (fs : List Fault). Among fs f)
        (append-nil (customs.faults construct scope os)) h;
  }

  -- two lists, one after the other
  pub adds-both : {v w p q : List Fault} {xs ys : List OptionSet} → Adds v p xs → Adds w q ys
      → Adds (v ++ w) (p ++ q) (xs ++ ys)
  adds-both {v} {w} {p} {q} {xs} {ys} a b = record {
    told = λ (f : Fault) h. elim (in_either v w h) [
      | inl k ↦ elim (a.told f k)
          [ inl m ↦ inl (among_left q m) | inr m ↦ inr (left-of-sets xs ys m) ]
      | inr k ↦ elim (b.told f k)
          [ inl m ↦ inl (among_right p m) | inr m ↦ inr (right-of-sets xs ys m) ]
    ];
    stays = λ (f : Fault) h. elim (in_either p q h)
        [ inl k ↦ among_left w (a.stays f k) | inr k ↦ among_right v (b.stays f k) ];
    added = λ (f : Fault) h. elim (in-sets xs ys h)
        [ inl k ↦ among_left w (a.added f k) | inr k ↦ among_right v (b.added f k) ];
  }

  -- a list, and faults behind it that are the same in both
  pub adds-alone : {v p : List Fault} {xs : List OptionSet} → Adds v p xs → (faults : List Fault)
      → Adds (v ++ faults) (p ++ faults) xs
  adds-alone {v} {p} {xs} a faults =
      subst (λ (sets : List OptionSet). Adds (v ++ faults) (p ++ faults) sets) (append-nil xs)
      (adds-both a (adds-nothing faults))

  -- two lists of which the second's sets come first
  pub adds-turned : {v w p q : List Fault} {xs ys : List OptionSet} → Adds v p xs → Adds w q ys
      → Adds (v ++ w) (p ++ q) (ys ++ xs)
  adds-turned {v} {w} {p} {q} {xs} {ys} a b =
      let c = adds-both a b in
      record {
        told = λ (f : Fault) h. elim (c.told f h) [
          | inl k ↦ inl k
          | inr k ↦ inr
              (elim (in-sets xs ys k)
              [ inl m ↦ right-of-sets ys xs m | inr m ↦ left-of-sets ys xs m ])
        ];
        stays = c.stays;
        added = λ (f : Fault) h. c.added f
            (elim (in-sets ys xs h)
            [ inl m ↦ right-of-sets xs ys m | inr m ↦ left-of-sets xs ys m ]);
      }

  -- a list for each element
  pub adds-flat : {X : Type 0} (whole plain : X → List Fault) (sets : X → List OptionSet)
      (xs : List X) → ((x : X) → Adds (whole x) (plain x) (sets x))
      → Adds (flat_map whole xs) (flat_map plain xs) (flat_map sets xs)
  adds-flat whole plain sets [] each = adds-nothing []
  adds-flat whole plain sets (x ∷ xs) each = adds-both (each x) (adds-flat whole plain sets xs each)

  -- where each element has one set
  pub adds-each : {X : Type 0} (whole plain : X → List Fault) (set : X → OptionSet) (xs : List X)
      → ((x : X) → Adds (whole x) (plain x) (set x ∷ []))
      → Adds (flat_map whole xs) (flat_map plain xs) (map set xs)
  adds-each whole plain set [] each = adds-nothing []
  adds-each whole plain set (x ∷ xs) each = adds-both (each x) (adds-each whole plain set xs each)

  -- the options of a construct that has those of a table
  pub adds-options : {name : Text} (env : Environment) (construct : Construct) (table : Table)
      (os : List OptionSyntax)
      → Adds (construct_faults (with_customs customs env) construct table os)
      (construct_faults (bare env) construct table os) (a_set construct name env.scope os ∷ [])
  adds-options env construct table os =
      adds-both (adds-nothing (options_faults table os)) (adds-own construct env.scope os)
