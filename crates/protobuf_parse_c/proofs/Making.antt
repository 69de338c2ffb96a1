-- Answers of runs.
use Rattle.std.proofs.Common.{◌≡◌, ℕ, List, map, subst}
use Rattle.std.specs.Prelude.{Option, Some, None, IfSome, Result, Ok, Err, IfOk}
use Rattle.std.specs.Global.{Vec}
use Rattle.std.specs.declared.alloc.AllocError.{AllocError}
use Rattle.protobuf_parse_model.specs.Descriptors.{Text}
use Rattle.protobuf_parse_model.specs.declared.descriptor.FileDescriptorProto.{FileDescriptorProto}
use Rattle.protobuf_parse_google.specs.Google.{google}
use Rattle.protobuf_parse_run.specs.declared.fault.RunFault.{RunFault}
use Rattle.protobuf_parse_run.specs.declared.log.ReadEntry.{ReadEntry}
use Rattle.protobuf_parse_run.specs.ReadBack.{OptionsAreReadable}
use Rattle.protobuf_parse_run.specs.Recovered.{OptionsAreHeld}
use Rattle.protobuf_parse_run.specs.Run.{AreAskedOnce, HaveLists, HaveTrees, MayAnswer, MayRead}
use Rattle.protobuf_parse_run.specs.Run.{MayResolve, RunsAsTold}
use Rattle.protobuf_parse_run.specs.Shipped.{RunsWithTable}
use Rattle.protobuf_parse_run.specs.Walks.{Input}
use Rattle.protobuf_parse_c.specs.declared.compile.Answer.{Answer}

set_more : (P Q : Vec ℕ → Type 0) → ((s : Vec ℕ) → P s → Q s) → (o : Option (Vec ℕ))
    → IfSome o P → IfSome o Q
set_more P Q more (Some s) h = more s h
set_more P Q more None h = h

-- what holds of the set of an answer implies more
pub answer_more : (P Q : Vec ℕ → Type 0) → ((s : Vec ℕ) → P s → Q s)
    → (r : Result Answer AllocError)
    → IfOk r (λ (a : Answer). IfSome a.set P) → IfOk r (λ (a : Answer). IfSome a.set Q)
answer_more P Q more (Ok a) h = set_more P Q more a.set h
answer_more P Q more (Err e) h = h

-- a run that ended so, with this table
pub run_ended : (resolve : MayResolve) (read : MayRead) (inputs : List Input)
    (table : List (Text × Text)) (log : List ReadEntry)
    (result : Result (Vec FileDescriptorProto) RunFault) (files : Vec FileDescriptorProto)
    → table ≡ google → result ≡ Ok files
    → HaveTrees table log → HaveLists table log
    → RunsAsTold (MayAnswer resolve read) inputs table log result
    → AreAskedOnce (MayAnswer resolve read) inputs table log
    → OptionsAreHeld inputs table log result → OptionsAreReadable inputs table log result
    → RunsWithTable resolve read google inputs (Ok files)
run_ended resolve read inputs table log result files is ended trees lists told once options readable =
    subst (λ (t : List (Text × Text)). RunsWithTable resolve read t inputs (Ok files)) is
    (subst (λ (r : Result (Vec FileDescriptorProto) RunFault).
    RunsWithTable resolve read table inputs r) ended
    (record {
      log = log;
      trees = trees;
      lists = lists;
      told = told;
      once = once;
      options = options;
      readable = readable;
    }))

-- what holds of the value of a result, which is this one
pub ok_of : {X E : Type 0} (P : X → Type 0) (r : Result X E) (x : X) → r ≡ Ok x → IfOk r P → P x
ok_of P r x is h = subst (λ (o : Result _ _). IfOk o P) is h
