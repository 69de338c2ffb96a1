-- Which fault of a file is told, over files that are listed otherwise; that one stands there.
use Rattle.std.proofs.Common.{◌≡◌, true, not, List, [], ◌∷◌, Option, Some, None, refl}
use Rattle.std.proofs.Common.{sym, subst}
use Rattle.protobuf_parse_syntax.specs.Trees.{FileSyntax}
use Rattle.protobuf_parse_model.specs.Descriptors.{Text}
use Rattle.protobuf_parse_model.specs.Faults.{Among, here, Blames, Fault, IsFirst}
use Rattle.protobuf_parse_model.specs.Linking.{before_others}
use Rattle.protobuf_parse_model.specs.declared.error.ElabFailure.{ElabFailure}
use Rattle.protobuf_parse_model.specs.declared.error.ElabFailure.TheVariants as failure
use Rattle.protobuf_parse_elaboration.specs.FilesByPath.{trees_at}
use Rattle.protobuf_parse_elaboration.specs.FileDescriptor.{file_faults}
use Rattle.protobuf_parse_options.specs.CustomFaults.{custom_option_faults}
use Rattle.protobuf_parse_run.specs.Loading.{TellsSuch}
use Rattle.protobuf_parse_run.specs.Repeats.{is_nothing, repeat_faults}
use Rattle.protobuf_parse_run.specs.Run.{Files, IsToldAt, IsToldOf, environment_of, faults_at}
use Rattle.protobuf_parse_run.specs.Run.{own_faults, plains_at}
use Rattle.protobuf_parse_run.proofs.Spelling.{option-told}

first-among : (xs : List Fault) (x : Fault) → IsFirst xs x → Among xs x
first-among [] x h = absurd h
first-among (y ∷ ys) x h = subst (λ (z : Fault). Among (y ∷ ys) z) (sym h) here

some-among : (xs : List Fault) (x : Fault) → Among xs x → not (is_nothing xs) ≡ true
some-among [] x h = elim h [ ]
some-among (y ∷ ys) x h = refl

-- one of a name that is declared twice may be told, whatever the others are
pub told-repeat : (repeats others : List Fault) (f : Fault) → Among repeats f
    → IsToldOf repeats others f
told-repeat [] others f h = elim h [ ]
told-repeat (r ∷ rs) others f h = h

pub repeat-blamed : (repeats others : List Fault) (e : ElabFailure) → Blames e repeats
    → TellsSuch e (IsToldOf repeats others)
repeat-blamed repeats others (failure.Memory) h = tt
repeat-blamed repeats others (failure.Fault error) h = told-repeat repeats others _ h

-- over lists of names that are declared twice which have the same members
pub told-moved : (over at : List Fault) (others others' : List Fault) (f : Fault)
    → ((g : Fault) → Among over g → Among at g) → (over ≡ [] → (at ≡ []) × (others ≡ others'))
    → IsToldOf over others f → IsToldOf at others' f
told-moved [] at others others' f more same h =
    let s = same refl in
    subst (λ (rs : List Fault). IsToldOf rs others' f) (sym s.0)
    (subst (λ (os : List Fault). IsFirst os f) s.1 h)
told-moved (r ∷ rs) at others others' f more same h = told-repeat at others' f (more f h)

failing : (repeats own known customs : List Fault)
    → ((g : Fault) → own ≡ [] → Among known g → Among customs g) → (f : Fault)
    → IsToldOf repeats (before_others own known) f
    → not (is_nothing (before_others repeats (before_others own customs))) ≡ true
failing [] [] known customs more f h = some-among customs f (more f refl (first-among known f h))
failing [] (o ∷ os) known customs more f h = refl
failing (r ∷ rs) own known customs more f h = refl

-- where a fault is told one ends the run
pub told-failing : (files : Files) (p : Text) (o : Option FileSyntax) (f : Fault)
    → IsToldAt files p o f → not (is_nothing (faults_at files p o)) ≡ true
told-failing files p None f h = absurd h
told-failing files p (Some t) f h =
    failing (repeat_faults files.trees files.reached p t) (own_faults files p (Some t))
    (file_faults (environment_of files p t) t)
    (custom_option_faults (plains_at files (files.reached p)) (plains_at files (files.seen p)) t)
    (λ g own known. option-told (trees_at files.trees (files.seen p))
    (plains_at files (files.reached p)) (plains_at files (files.seen p)) t g own known) f h
