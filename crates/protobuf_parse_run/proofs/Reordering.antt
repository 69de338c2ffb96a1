-- In which order files are listed makes no difference to what custom options become.
use Rattle.std.proofs.Common.{◌≡◌, true, List, [], Option, Some, None, refl, subst}
use Rattle.protobuf_parse_syntax.specs.Trees.{FileSyntax}
use Rattle.protobuf_parse_model.specs.Descriptors.{Text}
use Rattle.protobuf_parse_model.specs.Linking.{link_faults}
use Rattle.protobuf_parse_elaboration.specs.FilesByPath.{among, trees_at}
use Rattle.protobuf_parse_elaboration.proofs.Orders.{SameMembers}
use Rattle.protobuf_parse_syntax.proofs.PackageNames.{package_has_name}
use Rattle.protobuf_parse_options.specs.NamesAlike.{HasPackageName}
use Rattle.protobuf_parse_options.specs.OptionBytes.{customs_by_files}
use Rattle.protobuf_parse_options.proofs.DescriptorOrders.{order_makes_no_difference}
use Rattle.protobuf_parse_run.specs.Walks.{Trees}
use Rattle.protobuf_parse_run.specs.Run.{Files, HasTrees, IsTree, plains_at}
use Rattle.protobuf_parse_run.specs.PlainRuns.{plain_environments}
use Rattle.protobuf_parse_run.specs.Run.{text_read}
use Rattle.protobuf_parse_run.specs.declared.log.ReadEntry.{ReadEntry}
use Rattle.protobuf_parse_run.specs.Loading.{GoesOn}

abbrev pub HavePackages : Trees → Type 0
HavePackages trees = (q : Text) (t : FileSyntax) → trees q ≡ Some t → HasPackageName t

-- and so has that of each tree of a text
pub packages-have : (table : List (Text × Text)) (log : List ReadEntry) (trees : Trees)
    → HasTrees table log trees → HavePackages trees
packages-have table log trees has q t is =
    at (text_read table log q) (subst (λ (o : Option FileSyntax).
    IsTree (text_read table log q) o) is (has q))
  where
    at : (text : Option Text) → IsTree text (Some t) → HasPackageName t
    at (Some text) h = package_has_name text t h.1
    at None h = absurd h

pub packages-read : (files : Files) (table : List (Text × Text)) (log : List ReadEntry)
    → GoesOn files table log → HavePackages files.trees
packages-read files table log go = packages-have files.bundled files.reads files.trees go.trees

pub customs-same : (files : Files) (reached reached' seen seen' : List Text)
    → HavePackages files.trees
    → SameMembers reached reached'
    → SameMembers seen seen'
    → ((q : Text) → among q seen ≡ true → among q reached ≡ true)
    → link_faults (trees_at files.trees reached) ≡ []
    → customs_by_files (plains_at files reached) (plains_at files seen)
    ≡ customs_by_files (plains_at files reached') (plains_at files seen')
customs-same files reached reached' seen seen' named same sees within none =
    order_makes_no_difference files.trees (plain_environments files) reached reached' seen seen'
    (record { scope = λ p t is. refl; package_name = λ p t is. named p t is })
    (record { reach = same; sight = sees; within = within; once = none })
