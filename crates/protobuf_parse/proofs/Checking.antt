-- Checks over real files.
use Rattle.std.specs.Prelude.{IfErr, IfOk, String, string_bytes}
use Rattle.std.proofs.Common.{◌≡◌, subst, inr, List, map, Result, Ok, Err}
use Rattle.std.specs.Global.{Global}
use Rattle.protobuf_parse_base.specs.PathViews.{path_buf_text}
use Rattle.protobuf_parse_base.specs.declared.proto_path.path.ProtoPathBuf.{ProtoPathBuf}
use Rattle.protobuf_parse_model.specs.Descriptors.{Text}
use Rattle.protobuf_parse_run.specs.declared.fault.RunFault.{RunFault}
use Rattle.protobuf_parse_run.specs.declared.log.ReadEntry.{ReadEntry}
use Rattle.protobuf_parse_run.specs.Walks.{Input}
use Rattle.protobuf_parse_run.specs.Run.{HaveTrees, MayAnswer}
use Rattle.protobuf_parse_check.specs.declared.report.Check.{Check}
use Rattle.protobuf_parse_check.specs.Reports.{ChecksAsTold, HaveOrderedLists}
use Rattle.protobuf_parse.specs.Includes.{AreNamed}
use Rattle.protobuf_parse.specs.Folders.{MayFind}
use Rattle.protobuf_parse.specs.Parsers.{MayReadAnything, inputs_at}
use Rattle.protobuf_parse.specs.Checking.{ChecksOverFolders, IsCheckOfInputs, TellsCheckFault}
use Rattle.protobuf_parse.specs.Checking.{done}
use Rattle.protobuf_parse.specs.Outcomes.{CheckedOverFolders}

-- the check that was made is one over these folders
pub checked-over : (folders includes inputs names : List Text) (log : List ReadEntry)
    (taken : List Input) (table bundled : List (Text × Text)) (check : Check)
    → folders ≡ includes → taken ≡ inputs_at names inputs → table ≡ bundled → HaveTrees table log
    → HaveOrderedLists taken table log
    → ChecksAsTold (MayAnswer (MayFind folders) MayReadAnything) taken table log (done check)
    → ChecksOverFolders bundled includes inputs names check
checked-over folders includes inputs names log taken table bundled check f i t trees lists told =
    record {
      log = log;
      trees = subst (λ (z : List (Text × Text)). HaveTrees z log) t trees;
      lists = subst (λ (z : List Input). HaveOrderedLists z bundled log) i
          (subst (λ (z : List (Text × Text)). HaveOrderedLists taken z log) t lists);
      told = subst (λ (z : List Text). ChecksAsTold
          (MayAnswer (MayFind z) MayReadAnything) (inputs_at names inputs) bundled log (done check))
          f
          (subst (λ (z : List Input). ChecksAsTold
          (MayAnswer (MayFind folders) MayReadAnything) z bundled log (done check)) i
          (subst (λ (z : List (Text × Text)). ChecksAsTold
          (MayAnswer (MayFind folders) MayReadAnything) taken z log (done check)) t told));
    }

-- ---- the parser

-- what it tells, where the check is done
pub check-told : (bundled : List (Text × Text)) (includes i1 inputs j1 : List (String Global))
    (names n1 : List ProtoPathBuf) (r : Result Check RunFault) → i1 ≡ includes
    → j1 ≡ inputs → n1 ≡ names
    → AreNamed (map string_bytes i1) (map string_bytes j1) (map path_buf_text names)
    → CheckedOverFolders bundled (map string_bytes includes) (map string_bytes inputs)
    (map path_buf_text n1) r
    → IfOk r (IsCheckOfInputs bundled (map string_bytes includes) (map string_bytes inputs))
check-told bundled includes i1 inputs j1 names n1 (Ok check) a c e named h =
    (map path_buf_text names, (rw (a, c) at named), (rw e at h))
check-told bundled includes i1 inputs j1 names n1 (Err f) a c e named h = tt

-- its fault, where memory runs out
pub memory-told : (bundled : List (Text × Text)) (includes inputs names : List Text)
    (i1 j1 : List Text) (r : Result Check RunFault)
    → CheckedOverFolders bundled includes inputs names r
    → IfErr r (TellsCheckFault i1 j1)
memory-told bundled includes inputs names i1 j1 (Ok check) h = tt
memory-told bundled includes inputs names i1 j1 (Err f) h = inr h
