-- Why nothing is read, of readers of different things.
use Rattle.std.proofs.Common.{◌≡◌, List, refl, ap, subst}
use Rattle.protobuf_parse_grammar.specs.Readers.{Rest, Read, read, stopped, wrong}
use Rattle.protobuf_parse_lexer.specs.Tokens.{Lexeme}
use Rattle.protobuf_parse_lexer.specs.declared.lexer.token.Place.{Place}
use Rattle.protobuf_parse_syntax.specs.Code.{Failure, at, off, too_deep, failed}

-- the same failure of a reader of something else
pub failed_as : {X Y : Type 0} (f : Failure) (g : Failure)
    → (let r : Read Lexeme Place X = failed f in r ≡ failed g)
    → (let s : Read Lexeme Place Y = failed f in s ≡ failed g)
failed_as {Y = Y} (at ks m) (at ls n) e =
    let k : ks ≡ ls = cc in
    let p : m ≡ n = cc in
    subst (λ (v : List Lexeme). (let s : Read Lexeme Place Y = stopped ks m in s ≡ stopped v n)) k
    (ap (λ (x : Rest Lexeme Place). stopped ks x) p)
failed_as (at ks m) (off n) e = absurd cc
failed_as (at ks m) too_deep e = absurd cc
failed_as (off m) (at ls n) e = absurd cc
failed_as (off m) (off n) e = let p : m ≡ n = cc in ap (λ (x : Rest Lexeme Place). wrong x) p
failed_as (off m) too_deep e = absurd cc
failed_as too_deep (at ls n) e = absurd cc
failed_as too_deep (off n) e = absurd cc
failed_as too_deep too_deep e = refl

-- what was read did not fail
pub never_failed : {X : Type 0} (x : X) (us : Rest Lexeme Place) (f : Failure)
    → (let r : Read Lexeme Place X = read x us in r ≡ failed f) → ⊥
never_failed x us (at ls n) e = cc
never_failed x us (off n) e = cc
never_failed x us too_deep e = cc
