-- What one read leaves.
use Rattle.std.proofs.Common.{◌≡◌, ◌≤◌, inl, inr, List, [], ◌∷◌, ◌++◌, Option, Some, None, Result}
use Rattle.std.proofs.Common.{Ok, Err, sym, subst, ap}
use Rattle.std.specs.Prelude.{IfOk, IfErr}
use Rattle.protobuf_parse_base.specs.PathViews.{path_buf_text}
use Rattle.protobuf_parse_syntax.specs.Counts.{statements_in}
use Rattle.protobuf_parse_syntax.specs.Trees.{FileSyntax, file_syntax}
use Rattle.protobuf_parse_syntax.proofs.Sizes.{tree_size}
use Rattle.protobuf_parse_syntax.specs.declared.tree.FileTree.{FileTree}
use Rattle.protobuf_parse_model.specs.Descriptors.{Text}
use Rattle.protobuf_parse_run.specs.declared.fault.RunFault.{RunFault}
use Rattle.protobuf_parse_run.specs.declared.fault.RunFault.TheVariants as fault
use Rattle.protobuf_parse_run.specs.declared.log.ReadEntry.{ReadEntry}
use Rattle.protobuf_parse_run.specs.declared.log.ReadOutcome.{ReadOutcome}
use Rattle.protobuf_parse_run.specs.Walks.{Asked}
use Rattle.protobuf_parse_run.specs.Run.{IsTheTree, StandsInLoad, Legal}
use Rattle.protobuf_parse_run.specs.Run.{text_given}
use Rattle.protobuf_parse_run.specs.Loading.{ReadsTree}
use Rattle.protobuf_parse_run.specs.Run.{OrMemory}

abbrev pub Noted : Text → ReadOutcome → List ReadEntry → List ReadEntry → Type 0
Noted p o old new = (e : ReadEntry) × (new ≡ old ++ e ∷ []) × (path_buf_text e.path ≡ p)
    × (e.outcome ≡ o)

tree_moved : (table : List (Text × Text)) (p q : Text) (x o : ReadOutcome) (t : Option FileSyntax)
    → q ≡ p → x ≡ o → IsTheTree (text_given table q (Some o)) t
    → IsTheTree (text_given table p (Some x)) t
tree_moved table p q x o t e n h =
    subst (λ (y : ReadOutcome). IsTheTree (text_given table p (Some y)) t) (sym n)
    (subst (λ (z : Text). IsTheTree (text_given table z (Some o)) t) e h)

pub read_found : (legal : Legal) (table : List (Text × Text)) (asked : Asked) (p q : Text)
    (old new : List ReadEntry) (o : ReadOutcome) (tree : FileTree) → q ≡ p → Noted p o old new
    → legal asked p o → IsTheTree (text_given table q (Some o)) (Some (file_syntax tree))
    → ReadsTree legal table asked p old new (Ok tree)
read_found legal table asked p q old new o tree e n ok t =
    (n.0, n.1, n.2, rw n.3 ok, tree_moved table p q n.0.outcome o (Some (file_syntax tree)) e n.3 t)

-- a tree that was read has no more statements than a text has bytes
pub few_statements : (text : Option Text) (t : FileSyntax) → IsTheTree text (Some t)
    → statements_in t ≤ 2147483647
few_statements (Some text) t h = tree_size text t h.0.1
few_statements None t h = absurd h.0

pub but_memory : {P : Type 0} (f : RunFault) → (f ≡ fault.Memory → ⊥) → OrMemory f P → P
but_memory f other (inl h) = h
but_memory f other (inr m) = absurd (other m)

pub read_refused : (legal : Legal) (table : List (Text × Text)) (asked : Asked) (p q : Text)
    (old new : List ReadEntry) (o : ReadOutcome) (f : RunFault) → q ≡ p → Noted p o old new
    → legal asked p o → (f ≡ fault.Memory → ⊥)
    → OrMemory f (IsTheTree (text_given table q (Some o)) None)
    → OrMemory f (StandsInLoad asked q (Some o) (text_given table q (Some o)) f)
    → ReadsTree legal table asked p old new (Err f)
read_refused legal table asked p q old new o f e n ok other t s =
    inl (
      n.0,
      n.1,
      n.2,
      rw n.3 ok,
      tree_moved table p q n.0.outcome o None e n.3 (but_memory f other t),
      subst (λ (y : ReadOutcome). StandsInLoad asked p (Some y) (text_given table p (Some y)) f)
          (sym n.3)
          (subst (λ (z : Text). StandsInLoad asked z (Some o) (text_given table z (Some o)) f) e
          (but_memory f other s)),
    )

-- what opening the file that was read gave, unless memory ran out
pub read_ends : (legal : Legal) (table : List (Text × Text)) (asked : Asked) (p q : Text)
    (old new : List ReadEntry) (o : ReadOutcome) (r : Result FileTree RunFault) → q ≡ p
    → Noted p o old new → legal asked p o → (r ≡ Err fault.Memory → ⊥)
    → IfOk r (λ t. IsTheTree (text_given table q (Some o)) (Some (file_syntax t)))
    → IfErr r (λ f. OrMemory f (IsTheTree (text_given table q (Some o)) None))
    → IfErr r (λ f. OrMemory f (StandsInLoad asked q (Some o) (text_given table q (Some o)) f))
    → ReadsTree legal table asked p old new r
read_ends legal table asked p q old new o (Ok tree) e n ok other found t s =
    read_found legal table asked p q old new o tree e n ok found
read_ends legal table asked p q old new o (Err f) e n ok other found t s =
    read_refused legal table asked p q old new o f e n ok (λ m. other (ap Err m)) t s

-- the fault stands at the path of the entry, where that is the path that was asked
pub read_stands : (table : List (Text × Text)) (asked : Asked) (p q : Text) (o : ReadOutcome)
    (r : Result FileTree RunFault) → q ≡ p
    → IfErr r (λ f. OrMemory f (StandsInLoad asked q (Some o) (text_given table q (Some o)) f))
    → IfErr r (λ f. OrMemory f (StandsInLoad asked p (Some o) (text_given table p (Some o)) f))
read_stands table asked p q o r e s =
    subst (λ z. IfErr r
    (λ f. OrMemory f (StandsInLoad asked z (Some o) (text_given table z (Some o)) f))) e s

-- memory ran out before the read was noted
pub read_breaks : (legal : Legal) (table : List (Text × Text)) (asked : Asked) (p : Text)
    (old new : List ReadEntry) (f : RunFault) → f ≡ fault.Memory → new ≡ old
    → ReadsTree legal table asked p old new (Err f)
read_breaks legal table asked p old new f m same = inr (m, same)
