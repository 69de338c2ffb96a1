-- What stays where other texts are read: a file stands on what it reaches, and a run on its files.
use Rattle.std.specs.Prelude.{◌≡◌, true, List, [], ◌++◌, map, Some, None, find}
use Rattle.protobuf_parse_syntax.specs.Trees.{FileSyntax}
use Rattle.protobuf_parse_model.specs.Descriptors as described
use Rattle.protobuf_parse_model.specs.Descriptors.{Text, FileDescriptor}
use Rattle.protobuf_parse_model.specs.Faults.{Among, Fault}
use Rattle.protobuf_parse_model.specs.Linking.{link_faults}
use Rattle.protobuf_parse_model.specs.declared.descriptor.FileDescriptorProto.{FileDescriptorProto}
use Rattle.protobuf_parse_elaboration.specs.FileDescriptor.{file_of}
use Rattle.protobuf_parse_elaboration.specs.FilesByPath.{trees_at}
use Rattle.protobuf_parse_run.specs.declared.log.ReadEntry.{ReadEntry}
use Rattle.protobuf_parse_run.specs.Walks.{Input, Trees, Reaches, among, elab_paths, events}
use Rattle.protobuf_parse_run.specs.Run.{Files, AreDescriptors, FilesAreListed, HasTrees, HaveLists}
use Rattle.protobuf_parse_run.specs.Run.{HaveTrees}
use Rattle.protobuf_parse_run.specs.Run.{environment_of, fails, faults_at, text_for}

-- these paths have the same trees, or none, in both
abbrev pub AgreeOn : (Text → Type 0) → Trees → Trees → Type 0
AgreeOn Has old new = (q : Text) → Has q → new q ≡ old q

-- Where two runs gave a path the same text, or none, it has the same tree in both.
abbrev pub TreesAreOfTexts : Type 0
TreesAreOfTexts =
    (old new : Files) (q : Text) → HaveTrees old.bundled old.reads
    → HasTrees old.bundled old.reads old.trees → HasTrees new.bundled new.reads new.trees
    → text_for new q ≡ text_for old q → new.trees q ≡ old.trees q

-- Whatever was read, there are lists of just the files that each file reaches and sees.
abbrev pub ListsAreThere : Type 0
ListsAreThere = (bundled : List (Text × Text)) (log : List ReadEntry) → HaveLists bundled log

-- What a run read: each path has the tree of its text, and the lists are of just the files that
-- each file reaches and sees.
pub record WereRead (files : Files) : Type 0 where
  pub trees : HasTrees files.bundled files.reads files.trees
  pub listed : FilesAreListed files.trees files.reached files.seen

-- the files that it reaches declare no full name twice
abbrev pub DeclaresOnce : Files → Text → Type 0
DeclaresOnce files p = link_faults (trees_at files.trees (files.reached p)) ≡ []

-- The path has the same tree, the same faults stand in it, and where no name is declared twice it
-- becomes the same.
pub record IsAlike (old new : Files) (p : Text) : Type 0 where
  pub tree : new.trees p ≡ old.trees p
  pub stay : (f : Fault) → Among (faults_at old p (old.trees p)) f
      → Among (faults_at new p (new.trees p)) f
  pub only : (f : Fault) → Among (faults_at new p (new.trees p)) f
      → Among (faults_at old p (old.trees p)) f
  pub becomes : (t : FileSyntax) → DeclaresOnce old p
      → file_of (environment_of new p t) p t ≡ file_of (environment_of old p t) p t

-- Where two runs agree on the files that a file reaches in one of them, the file is alike in both.
abbrev pub StandsOnItsReach : Type 0
StandsOnItsReach =
    (old new : Files) (p : Text) → WereRead old → WereRead new
    → AgreeOn (Reaches old.trees p) old.trees new.trees → IsAlike old new p

-- the files of a run, in the order in which it hands them out
abbrev pub order : Trees → List Input → List Text
order trees inputs = elab_paths (events trees inputs)

-- no event of a run over these inputs fails
abbrev pub IsClean : Files → List Input → Type 0
IsClean files inputs = find (fails files) (events files.trees inputs) ≡ None

-- a file of the run over these inputs
abbrev pub IsFileOfRun : Trees → List Input → Text → Type 0
IsFileOfRun trees inputs q = among q (order trees inputs) ≡ true

-- The files that a file of an accepted run reaches declare no full name twice, so that it becomes
-- the same wherever these files agree.
abbrev pub AcceptedDeclareOnce : Type 0
AcceptedDeclareOnce =
    (files : Files) (inputs : List Input) (p : Text) (t : FileSyntax) → IsClean files inputs
    → IsFileOfRun files.trees inputs p → files.trees p ≡ Some t → DeclaresOnce files p

-- Where other trees agree on all files of an accepted run, further inputs append to its order.
abbrev pub OrderStays : Type 0
OrderStays =
    (old : Files) (new : Trees) (inputs more : List Input) → IsClean old inputs
    → AgreeOn (IsFileOfRun old.trees inputs) old.trees new
    → (rest : List Text) × (order new (inputs ++ more) ≡ order old.trees inputs ++ rest)

-- And where the longer run is accepted too, its descriptors begin with those of the first.
abbrev pub DescriptorsStay : Type 0
DescriptorsStay =
    (old new : Files) (inputs more : List Input) (first both : List FileDescriptorProto)
    → WereRead old → WereRead new
    → IsClean old inputs → AgreeOn (IsFileOfRun old.trees inputs) old.trees new.trees
    → AreDescriptors old (order old.trees inputs) first
    → AreDescriptors new (order new.trees (inputs ++ more)) both
    → (rest : List FileDescriptor)
    × (map described.file_view both ≡ map described.file_view first ++ rest)
