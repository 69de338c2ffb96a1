-- What the first claims of full names say of who has them.
use Rattle.std.proofs.Common.{◌≡◌, pos, Bool, true, false, cond, List, [], ◌∷◌, ◌++◌, refl, ap}
use Rattle.std.proofs.Common.{◌∙◌, map, Option, Some, None}
use Rattle.std.specs.Prelude.{◌&&◌, option_map, find, bytes_eq, flat_map}
use Rattle.protobuf_parse_model.specs.Descriptors.{Text}
use Rattle.protobuf_parse_rules.specs.Claims.{Claim, Thing, Who, conflicts, first_claim}
use Rattle.protobuf_parse_rules.specs.ClaimsKept.{Knows}
use Rattle.protobuf_parse_rules.specs.ClaimsKept.{holder_view}
use Rattle.protobuf_parse_rules.specs.Known.{Finds}
use Rattle.protobuf_parse_rules.specs.KnownFiles.{Surroundings, Tells, known_file, path_named}
use Rattle.protobuf_parse_rules.specs.Names.{Named, name_claim, name_rule}
use Rattle.protobuf_parse_rules.specs.Bodies.{BodyParts}
use Rattle.protobuf_parse_rules.specs.Rules.{Breach}
use Rattle.protobuf_parse_rules.specs.Runtimes.{declaring_file, file_at, runtimes_among}
use Rattle.protobuf_parse_rules.specs.declared.claims.Holder.{Holder}
use Rattle.protobuf_parse_rules.specs.declared.runtimes.Declared.{Declared}
use Rattle.protobuf_parse_rules.proofs.Claiming.{told_more, who_of}

abbrev pub name_thing : Text → Thing
name_thing name = record { number = pos 0; name = name; scope = [] }

-- the first claim of a full name is that of the first that has it
first_is : (ns : List Named) (name : Text)
    → first_claim (map name_claim ns) (name_thing name)
    ≡ option_map name_claim (find (λ (n : Named). bytes_eq n.name name) ns)
first_is [] name = refl
first_is (n ∷ ns) name = at (bytes_eq n.name name) (first_is ns name)
  where
    at : (b : Bool) → first_claim (map name_claim ns) (name_thing name)
        ≡ option_map name_claim (find (λ (x : Named). bytes_eq x.name name) ns)
        → cond (b && true) (Some (name_claim n)) (first_claim (map name_claim ns) (name_thing name))
        ≡ option_map name_claim
        (cond b (Some n) (find (λ (x : Named). bytes_eq x.name name) ns))
    at true more = refl
    at false more = more

abbrev file_of_who : Who → Text
file_of_who w = w.file

abbrev pub file_of_holder : Holder → Text
file_of_holder h = h.file.now

files_are : (x : Option Named)
    → option_map file_of_who (option_map who_of (option_map name_claim x))
    ≡ option_map (λ (n : Named). n.file) x
files_are None = refl
files_are (Some n) = refl

holders_are : (h : Option Holder)
    → option_map file_of_holder h ≡ option_map file_of_who (option_map holder_view h)
holders_are None = refl
holders_are (Some h) = refl

pub file_found : (named : List Named) (name : Text) (found : Option Holder)
    → option_map holder_view found
    ≡ option_map who_of (first_claim (map name_claim named) (name_thing name))
    → option_map file_of_holder found ≡ declaring_file named name
file_found named name found is =
    holders_are found
    ∙ ap (option_map file_of_who) is
    ∙ ap (λ (c : Option Claim). option_map file_of_who (option_map who_of c))
    (first_is named name)
    ∙ files_are (find (λ (n : Named). bytes_eq n.name name) named)

-- names, and then runtimes
pub declared_told : (old mid new : List Breach) (all ps : List BodyParts) (named : List Named)
    (d : Declared) → Knows d.first (map name_claim named)
    → Finds known_file path_named d.files (flat_map file_at all)
    → mid ≡ old ++ conflicts name_rule [] (map name_claim named)
    → ((s : Surroundings) → Tells d s → new ≡ mid ++ flat_map (runtimes_among s.named s.all) ps)
    → new ≡ old ++ (conflicts name_rule [] (map name_claim named)
    ++ flat_map (runtimes_among named all) ps)
declared_told old mid new all ps named d knows files names runtimes =
    let s : Surroundings = record { named = named; all = all } in
    let tells : Tells d s = record { names = knows; files = files } in
    told_more old mid new (conflicts name_rule [] (map name_claim named))
    (flat_map (runtimes_among named all) ps) names (runtimes s tells)
