use Rattle.std.proofs.Common.{◌≡◌, ◌∙◌, ap, refl, sym, List, [], ◌∷◌, ◌++◌, map, take}
use Rattle.std.specs.Prelude.{Bool, cond, true, false, ◌||◌, ◌==◌}
use Rattle.std.specs.Cmp.{unsigned_tied}
use Rattle.std.proofs.lemmas.List.{map_more}
use Rattle.std.proofs.lemmas.List.Folds.{list_any-append}
use Rattle.protobuf_parse_model.specs.Faults.{Fault, fault_view}
use Rattle.protobuf_parse_check.specs.Places.{has_place, place_number}
use Rattle.protobuf_parse_check.specs.Reports.{stands_at}
use Rattle.protobuf_parse_check.specs.Trimmed.{same_place}
use Rattle.protobuf_parse_check.proofs.PlaceNumbers.{numbers_tie}
use Rattle.protobuf_parse_check.proofs.places.places_of.Goals as goal

or_of : (a b : Bool) → cond a true b ≡ (b || (a || false))
or_of true true = refl
or_of true false = refl
or_of false true = refl
or_of false false = refl

stands_more : (f : Fault) (told : List Fault) (g : Fault)
    → stands_at f (told ++ g ∷ []) ≡ (stands_at f told || (same_place f.place g.place || false))
stands_more f told g = list_any-append _ told (g ∷ [])

pub faults-preserved : goal.faults-preserved
faults-preserved c = λ f small.
    let faults = c.args.faults.now in
    let at = c.faults.fault-index in
    let fault = c.fault-item.result in
    c.in_ok-insert.ensures.updates.0 (place_number f.place)
    ∙ or_of _ _
    ∙ ap (λ b. has_place c.faults.places f.place || (b || false))
    (unsigned_tied c.place_number.result (place_number f.place)
    ∙ ap (λ n. n == place_number f.place) c.place_number.ensures.number
    ∙ numbers_tie f.place.line f.place.col fault.place.line fault.place.col small
    c.place_number.ensures.bound)
    ∙ ap (λ b. b || (same_place f.place fault.place || false)) (c.faults.invariant f small)
    ∙ sym (ap (stands_at f) (map_more fault_view faults at fault c.faults-test.true
    ∙ ap (λ e. map fault_view (take at faults) ++ fault_view e ∷ []) (sym c.fault-item.is))
    ∙ stands_more f (map fault_view (take at faults)) (fault_view fault))
