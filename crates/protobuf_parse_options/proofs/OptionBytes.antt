-- The bytes of custom options spell what these denote.
use Rattle.std.proofs.Common.{◌≡◌, List, [], ◌∷◌, flat_map, subst, sym}
use Rattle.protobuf_parse_model.specs.Faults.{Among, here, there}
use Rattle.protobuf_parse_elaboration.specs.OptionSets.{OptionSet, option_sets}
use Rattle.protobuf_parse_options.specs.CustomOptions.{denotes, scope_of}
use Rattle.protobuf_parse_options.specs.CustomFaults.{custom_statement_faults}
use Rattle.protobuf_parse_options.specs.OptionBytes.{OptionBytesSpell}
use Rattle.protobuf_parse_wire.specs.Wire.{Spells}
use Rattle.protobuf_parse_wire.proofs.Encoded.{encoded_spells}
use Rattle.protobuf_parse_options.proofs.Refusing.{unless_none}
use Rattle.protobuf_parse_options.proofs.Writable.{no_left, no_right, denotes_writable}

-- where none of a list has a fault
pub none_of : {A B : Type 0} (faults : A → List B) (xs : List A) (x : A) → Among xs x
    → flat_map faults xs ≡ [] → faults x ≡ []
none_of faults [] x h e = elim h [ ]
none_of faults (x ∷ xs) _ here e = no_left (faults x) (flat_map faults xs) e
none_of faults (y ∷ xs) x (there h) e =
    none_of faults xs x h (no_right (faults y) (flat_map faults xs) e)

pub option_bytes_spell : OptionBytesSpell
option_bytes_spell files visible t small none s h =
    let at = scope_of files visible s in
    let clean : custom_statement_faults at s.construct s.statements ≡ [] = none_of
    (λ (x : OptionSet). custom_statement_faults (scope_of files visible x) x.construct x.statements)
    (option_sets t) s h none in
    subst (Spells (denotes at s.construct s.statements))
    (sym (unless_none (custom_statement_faults at s.construct s.statements) _ clean))
    (encoded_spells (denotes at s.construct s.statements)
    (denotes_writable at small s.construct s.statements clean))
