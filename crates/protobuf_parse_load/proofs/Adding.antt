-- A step more, and a file more or less at the end of the chain.
use Rattle.std.proofs.Common.{◌≡◌, ℕ, zero, suc, ◌-◌, List, [], ◌∷◌, ◌++◌, Result, Ok, Err, refl}
use Rattle.std.proofs.Common.{sym}
use Rattle.std.proofs.Common.{◌∙◌, ap, length, take, arith, Bool, Option}
use Rattle.std.specs.Prelude.{OnOk, String, string_bytes}
use Rattle.std.specs.Global.{Global}
use Rattle.std.proofs.lemmas.List.{length-map, length_push, map-append, take_at}
use Rattle.protobuf_parse_model.specs.Descriptors.{Text}
use Rattle.protobuf_parse_run.specs.Loading.{chain_texts}
use Rattle.protobuf_parse_run.specs.Walks.{among}
use Rattle.protobuf_parse_load.specs.declared.known.Known.{Known}
use Rattle.protobuf_parse_load.specs.declared.step.LoadStep.{LoadStep}
use Rattle.protobuf_parse_load.specs.Frames.{AddsStep}
use Rattle.protobuf_parse_load.specs.Loads.{step_view, steps_view}
use Rattle.protobuf_parse_load.specs.Steps.{Step, known}

pub on_ok : {X E P : Type 0} (r : Result X E) → P → OnOk r P
on_ok (Ok x) h = h
on_ok (Err e) h = tt

pub adds-ok : {X E : Type 0} (r : Result X E) (old new : List LoadStep) (x : LoadStep) (s : Step)
    → OnOk r (new ≡ old ++ x ∷ []) → step_view x ≡ s → OnOk r (AddsStep old new s)
adds-ok (Ok y) old new x s h e = (x, h, e)
adds-ok (Err y) old new x s h e = tt

pub texts-length : (chain : List (String Global)) → length (chain_texts chain) ≡ length chain
texts-length chain = length-map chain string_bytes

pub texts-push : (chain : List (String Global)) (s : String Global) (p : Text) → string_bytes s ≡ p
    → chain_texts (chain ++ s ∷ []) ≡ chain_texts chain ++ p ∷ []
texts-push chain s p h = map-append string_bytes chain (s ∷ [])
    ∙ ap (λ z. chain_texts chain ++ z ∷ []) h

texts-take : (k : ℕ) (chain : List (String Global))
    → chain_texts (take k chain) ≡ take k (chain_texts chain)
texts-take zero chain = refl
texts-take (suc k) [] = refl
texts-take (suc k) (s ∷ chain) = ap (λ z. string_bytes s ∷ z) (texts-take k chain)

-- the last is taken off
pub popped-texts : (old new : List (String Global)) (n : ℕ) (chain : List Text) (p : Text)
    → new ≡ take (n - 1) old → n ≡ length old → chain_texts old ≡ chain ++ p ∷ []
    → chain_texts new ≡ chain
popped-texts old new n chain p rest is pushed =
    let k = ap length pushed ∙ length_push chain p in
    let e : n - 1 ≡ length chain = omega (arith, k, is, texts-length old) in
    ap chain_texts rest ∙ texts-take (n - 1) old
    ∙ (rw (e, pushed) (take_at chain (p ∷ []) (length chain) refl))

-- whether a path is on the chain, as a call told it
pub chain-told : (p q : Text) (chain held : List (String Global)) (r b : Bool) → q ≡ p
    → held ≡ chain → r ≡ among q (chain_texts held) → r ≡ b → among p (chain_texts chain) ≡ b
chain-told p q chain held r b e same is at = rw (← e, ← same) (sym is ∙ at)

-- what is known of a path, as a call told it
pub known-told : (p q : Text) (steps : List LoadStep) (k : Option Known) → q ≡ p
    → k ≡ known q (steps_view steps) → known p (steps_view steps) ≡ k
known-told p q steps k e is = rw (← e) (sym is)
