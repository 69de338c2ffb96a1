-- No public clause rests on this file.
-- What the code knows of what files need of each other.
use Rattle.std.specs.Prelude.{◌≡◌, ℕ, Bool, ◌||◌, List, flat_map}
use Rattle.std.specs.Borrow.{Bor}
use Rattle.std.specs.BTreeSet.{BTreeSet, contains}
use Rattle.std.specs.Cmp.Lexicographic.{slice_cmp}
use Rattle.std.specs.Hash.FoldHasher.{initial, write, finish}
use Rattle.std.specs.Ordering.{nat_cmp, ordering_then}
use Rattle.std.specs.declared.cmp.Ordering.{Ordering}
use Rattle.protobuf_parse_model.specs.Descriptors.{Text}
use Rattle.protobuf_parse_rules.specs.Imports.{extending_path, file_names, names_there}
use Rattle.protobuf_parse_rules.specs.Imports.{setting_path}
use Rattle.protobuf_parse_rules.specs.Known.{Finds}
use Rattle.protobuf_parse_rules.specs.KnownFiles.{known_file, path_named}
use Rattle.protobuf_parse_rules.specs.Bodies.{BodyParts}
use Rattle.protobuf_parse_rules.specs.Runtimes.{file_at}
use Rattle.protobuf_parse_rules.specs.Sets.{AreTexts}
use Rattle.protobuf_parse_rules.specs.declared.uses.Uses.{Uses}

-- the path of a file that names a type, and that of the file that declares it
abbrev pub Link : Type 0
Link = Bor (List ℕ) × Bor (List ℕ)

abbrev pub link_cmp : Link → Link → Ordering
link_cmp a b =
    ordering_then (slice_cmp nat_cmp a.0.now b.0.now) (slice_cmp nat_cmp a.1.now b.1.now)

-- the hash of two texts, of the one behind the other
abbrev pub hash_of_both : (first second : Text) → ℕ
hash_of_both first second = finish (write (write initial first) second)

-- a link behind the hash of its paths
abbrev pub KeyedLink : Type 0
KeyedLink = ℕ × Link

abbrev pub keyed_link : Link → KeyedLink
keyed_link k = (hash_of_both k.0.now k.1.now, k)

abbrev pub keyed_link_cmp : KeyedLink → KeyedLink → Ordering
keyed_link_cmp a b = ordering_then (nat_cmp a.0 b.0) (link_cmp a.1 b.1)

-- whether the link is one of them
abbrev pub has_link : BTreeSet KeyedLink → Link → Bool
has_link links k = contains keyed_link_cmp links (keyed_link k)

-- The set has, beside the old ones, those that the test says.
abbrev pub Adds : (old new : BTreeSet KeyedLink) → (Link → Bool) → Type 0
Adds old new test = (k : Link) → has_link new k ≡ (has_link old k || test k)

-- It has in addition the files of these types, which something with that path names.
abbrev pub AddsNames : List BodyParts → (old new : BTreeSet KeyedLink) → (file : Text) → List Text
    → Type 0
AddsNames all old new file names =
    Adds old new (λ (k : Link). names_there all file names k.0.now k.1.now)

-- It tells of the files of these bodies.
pub record KnowsUses (u : Uses) (all : List BodyParts) : Type 0 where
  pub files : Finds known_file path_named u.files (flat_map file_at all)
  pub links : (k : Link) → has_link u.links k ≡ file_names all k.0.now k.1.now
  pub setting : AreTexts u.setting.sorted.items (flat_map setting_path all)
  pub extending : AreTexts u.extending.sorted.items (flat_map extending_path all)
