use Rattle.std.proofs.Common.{◌≡◌, ◌∙◌, ◌∷◌, [], List, ap, get_or, inl, inr, nat_eq, subst, sym}
use Rattle.std.proofs.Common.{true, ℕ}
use Rattle.std.specs.List.{list_any}
use Rattle.protobuf_parse_run.proofs.Keeping.{never_both}
use Rattle.protobuf_parse_check.proofs.Besides.{any-last, any-left, any-more, found-there}
use Rattle.protobuf_parse_check.proofs.repeats.beside_largest.Goals as goal
use Rattle.protobuf_parse_check.proofs.repeats.beside_largest.Goals.{then-is_err+in_ok-push}
use Rattle.protobuf_parse_check.proofs.repeats.beside_largest.Goals.{else-is_err}

pub loop-file-preserved : goal.loop-file-preserved
loop-file-preserved c up n m apart =
    let reach = c.args.reach.now in
    let i = c.loop-file.file-index in
    let more = any-more n reach i c.loop-file-test.true m in
    elim c.if-is_err.branch [
      | then-is_err+in_ok-push w ↦
          ap (λ (v : List ℕ). list_any (nat_eq n) v) (ap (λ v. v.items) w.files-is
          ∙ w.in_ok-push.ensures.items)
          ∙ elim more [
            | inl k ↦ any-left n c.loop-file.files.items (get_or reach i 0 ∷ [])
                (c.loop-file.invariant up n k apart)
            | inr k ↦ any-last n (get_or reach i 0) c.loop-file.files.items k
          ]
      | else-is_err w ↦
          ap (λ v. list_any (nat_eq n) v.items) w.files-is
          ∙ elim more [
            | inl k ↦ c.loop-file.invariant up n k apart
            | inr k ↦
                let below = c.largest_reach-below.result.now in
                let there : list_any (nat_eq n) below ≡ true =
                subst (λ (m : ℕ). list_any (nat_eq m) below ≡ true) (sym k)
                (found-there below (get_or reach i 0) c.binary_search.result up
                c.binary_search.ensures.position
                (sym c.is_err.ensures.value ∙ w.if-is_err.false)) in
                absurd (never_both (list_any (nat_eq n) below) there apart)
          ]
    ]
