-- Each name of a type in the descriptors of an accepted run is declared by a file that is reached.
use Rattle.std.proofs.Common.{◌≡◌, ◌⊎◌, inl, inr, true, List, [], ◌∷◌, ◌++◌, map, Option}
use Rattle.std.proofs.Common.{Some, None, option_to_list, refl, subst, bytes_eq, sym}
use Rattle.std.proofs.lemmas.Bool.{or_right}
use Rattle.std.proofs.lemmas.List.{map-append, append-nil}
use Rattle.protobuf_parse_syntax.specs.Trees.{FileSyntax}
use Rattle.protobuf_parse_model.specs.Descriptors.{Text}
use Rattle.protobuf_parse_model.specs.Declarations.{DeclaredType, file_types, file_generated}
use Rattle.protobuf_parse_model.specs.Environment.{no_customs}
use Rattle.protobuf_parse_model.specs.Faults.{Among}
use Rattle.protobuf_parse_elaboration.specs.FilesByPath.{among, trees_at}
use Rattle.protobuf_parse_elaboration.specs.FileDescriptor.{types_of_files}
use Rattle.protobuf_parse_elaboration.specs.NamedTypes.{names_declared}
use Rattle.protobuf_parse_elaboration.proofs.NamedTypes.{names_are_declared}
use Rattle.protobuf_parse_elaboration.proofs.Orders.{first-among}
use Rattle.protobuf_parse_run.specs.Walks.{Trees}
use Rattle.protobuf_parse_run.specs.Run.{customs_of}
use Rattle.protobuf_parse_run.specs.TypeNames.{NamesAreReached}
use Rattle.protobuf_parse_run.proofs.Knowing.{sees-reaches}
use Rattle.protobuf_parse_run.proofs.Recovering.{own-faultless}
use Rattle.protobuf_parse_run.proofs.StandingBytes.{among_parts}

abbrev name_of_type : DeclaredType → Text
name_of_type d = d.name

-- the first file declares the name, or one of the others
first-or-rest : (u : FileSyntax) (us : List FileSyntax) (name : Text)
    → Among (names_declared (u ∷ us)) name
    → Among (names_declared (u ∷ [])) name ⊎ Among (names_declared us) name
first-or-rest u us name h =
    elim (among_parts (map name_of_type (file_types u)) (map name_of_type (types_of_files us))
    (subst (λ (ns : List Text). Among ns name)
    (map-append name_of_type (file_types u) (types_of_files us)) h)) [
      | inl w ↦ inl (subst (λ (ds : List DeclaredType). Among (map name_of_type ds) name)
          (sym (append-nil (file_types u))) w)
      | inr w ↦ inr w
    ]

-- The file at one of these paths declares the name.
record IsDeclaredAt (trees : Trees) (paths : List Text) (name : Text) : Type 0 where
  path : Text
  tree : FileSyntax
  listed : among path paths ≡ true
  has_tree : trees path ≡ Some tree
  declares : Among (names_declared (tree ∷ [])) name

behind : (trees : Trees) (p : Text) (paths : List Text) (name : Text)
    → IsDeclaredAt trees paths name → IsDeclaredAt trees (p ∷ paths) name
behind trees p paths name d = record {
  path = d.path;
  tree = d.tree;
  listed = or_right (bytes_eq d.path p) (among d.path paths) d.listed;
  has_tree = d.has_tree;
  declares = d.declares;
}

declared-at : (trees : Trees) (paths : List Text) (name : Text)
    → Among (names_declared (trees_at trees paths)) name → IsDeclaredAt trees paths name
declared-at trees [] name h = elim h [ ]
declared-at trees (p ∷ paths) name h =
    at (trees p) refl h (λ k. behind trees p paths name (declared-at trees paths name k))
  where
    at : (o : Option FileSyntax) → trees p ≡ o
        → Among (names_declared (option_to_list o ++ trees_at trees paths)) name
        → (Among (names_declared (trees_at trees paths)) name → IsDeclaredAt trees (p ∷ paths) name)
        → IsDeclaredAt trees (p ∷ paths) name
    at None e k rest = rest k
    at (Some u) e k rest = elim (first-or-rest u (trees_at trees paths) name k) [
      | inl w ↦ record {
        path = p;
        tree = u;
        listed = first-among p paths;
        has_tree = e;
        declares = w;
      }
      | inr w ↦ rest w
    ]

pub names_are_reached : NamesAreReached
names_are_reached files inputs read clean p t m is name h =
    elim (among_parts (names_declared (trees_at files.trees (files.seen p))) (file_generated t)
    (names_are_declared (trees_at files.trees (files.seen p)) no_customs (customs_of files p) p t
    name (own-faultless files inputs clean read p t is m) h)) [
      | inl w ↦
          let d = declared-at files.trees (files.seen p) name w in
          inl (record {
            path = d.path;
            tree = d.tree;
            is_reached = sees-reaches files.trees p d.path
                ((read.listed.sees p).only d.path d.listed);
            has_tree = d.has_tree;
            declares = d.declares;
          })
      | inr w ↦ inr w
    ]
