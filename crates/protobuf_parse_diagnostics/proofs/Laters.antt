-- Faults behind the first of each text, told one file after another.
use Rattle.std.proofs.Common.{◌≡◌, ◌∙◌, ℕ, List, [], ◌∷◌, ◌++◌, Option, None, Some, ap, append-nil}
use Rattle.std.proofs.Common.{arith, get_or, inl, length, map, refl, subst, suc, sym, take, zero}
use Rattle.std.proofs.Common.{◌+◌, ◌<◌}
use Rattle.std.specs.Prelude.{drop, string_bytes}
use Rattle.std.proofs.lemmas.List.{append_assoc, take_more}
use Rattle.protobuf_parse_lexer.specs.declared.error.ParserErrorWithLocation.{ParserErrorWithLocation}
use Rattle.protobuf_parse_load.specs.declared.log.UnreadFile.{UnreadFile}
use Rattle.protobuf_parse_recovery.specs.Recovery.{ReadsOn}
use Rattle.protobuf_parse_diagnostics.specs.Codes.{syntax_code_of}
use Rattle.protobuf_parse_diagnostics.specs.Later.{AreLater, AreLaterOf}
use Rattle.protobuf_parse_diagnostics.specs.Later.{fault_line, faulty_text}
use Rattle.protobuf_parse_diagnostics.specs.Telling.{Tells, TellsLater}
use Rattle.protobuf_parse_diagnostics.specs.Told.{IsOfCode, IsTold, origin_in, text_place}
use Rattle.protobuf_parse_diagnostics.specs.declared.diagnostic.Diagnostic.{Diagnostic}
use Rattle.protobuf_parse_diagnostics.specs.declared.sources.Sources.{Sources}

-- ---- one fault

pub fault_told : (e : ParserErrorWithLocation) (origin : List ℕ) (d : Diagnostic)
    → IsOfCode (syntax_code_of e.error) d → string_bytes d.file ≡ origin
    → d.place ≡ Some (text_place e) → IsTold (fault_line origin e) d
fault_told e origin d code file place = inl (code, (file, place))

-- what stands at a place, whatever is given for none
pub same_there : {X : Type 0} (xs : List X) (i : ℕ) (x y : X) → i < length xs
    → get_or xs i x ≡ get_or xs i y
same_there [] i x y lt = absurd (omega arith)
same_there (z ∷ zs) zero x y lt = refl
same_there (z ∷ zs) (suc i) x y lt = same_there zs i x y (omega arith)

-- ---- one file

-- nothing is told where there is no text
pub no_later : (text : Option (List ℕ)) (origin : List ℕ) (old : List Diagnostic) → text ≡ None
    → TellsLater text origin old old
no_later None origin old is = record { more = []; added = sym (append-nil old); later = refl }
no_later (Some t) origin old is = cc

-- nothing where the text has a tree
pub none_found : (text : Option (List ℕ)) (z origin : List ℕ) (old : List Diagnostic)
    (found : List ParserErrorWithLocation) → text ≡ Some z → found ≡ [] → ReadsOn 20 z found
    → TellsLater text origin old old
none_found text z origin old [] is none h = rw is (record {
  more = [];
  added = sym (append-nil old);
  later = record { faults = []; found = h; each = tt };
})
none_found text z origin old (e ∷ es) is none h = cc

-- those behind the first
pub some_later : (text : Option (List ℕ)) (z origin : List ℕ) (old new : List Diagnostic)
    (found : List ParserErrorWithLocation) → text ≡ Some z → ReadsOn 20 z found
    → Tells (map (fault_line origin) (drop 1 found)) old new → TellsLater text origin old new
some_later text z origin old new found is h told = rw is (record {
  more = told.more;
  added = told.added;
  later = record { faults = found; found = h; each = told.told };
})

-- ---- one file more

later_one : (s : Sources) (fs : List UnreadFile) (f : UnreadFile) (old new more : List Diagnostic)
    → AreLater s fs old → new ≡ old ++ more
    → AreLaterOf (faulty_text s f f.fault) (origin_in s (string_bytes f.path)) more
    → AreLater s (fs ++ f ∷ []) new
later_one s [] f old new more h added k =
    (more, ([], (added ∙ ap (λ z. z ++ more) h ∙ sym (append-nil more), (k, refl))))
later_one s (g ∷ gs) f old new more h added k = (
  h.0,
  (
    h.1.0 ++ more,
    (
      added ∙ ap (λ z. z ++ more) h.1.1.0 ∙ append_assoc h.0 h.1.0 more,
      (h.1.1.1.0, later_one s gs f h.1.0 (h.1.0 ++ more) more h.1.1.1.1 refl k),
    ),
  ),
)

pub later_next : (s : Sources) (fs : List UnreadFile) (i : ℕ) (f : UnreadFile)
    (old new : List Diagnostic) → i < length fs → f ≡ get_or fs i f → AreLater s (take i fs) old
    → TellsLater (faulty_text s f f.fault) (origin_in s (string_bytes f.path)) old new
    → AreLater s (take (i + 1) fs) new
later_next s fs i f old new lt is h told =
    subst (λ (gs : List UnreadFile). AreLater s gs new) (sym seam)
    (later_one s (take i fs) f old new told.more h told.added told.later)
  where
    seam : take (i + 1) fs ≡ take i fs ++ f ∷ []
    seam = take_more fs i f lt ∙ ap (λ w. take i fs ++ w ∷ []) (sym is)
