-- Postings of full shape.
use Rattle.std.proofs.Common.{◌≡◌, ℕ, zero, suc, ◌+◌, ◌<◌, ◌≤◌, Bool, true, false, cond, List, [], ◌∷◌, ◌++◌, length, Some, None, Option, sym, ap, subst, arith}
use mathlib.Core.Bool.{true≢false}
use Rattle.std.specs.Prelude.{◌==◌, is_some}
use Rattle.std.specs.List.{AllByRecursion}
pub use Rattle.seg_common.proofs.Lists.{all_both as each-append}
use Rattle.seg_values.specs.declared.schema.IndexOption.{IndexOption}
use Rattle.seg_model.specs.Operations.{kept}
use Rattle.seg_model.specs.DocumentTerms.{Recorded, Posting, listed, postings_from, if_any}
use Rattle.seg_model.specs.Join.{recorded_at, all_recorded}
use Rattle.seg_model.specs.Shape.{IsRecordOf, ArePostings}

-- what is recorded, if anything, has the form of an option
abbrev pub IsMaybeRecordOf : IndexOption → Option Recorded → Type 0
IsMaybeRecordOf option None = Unit {0}
IsMaybeRecordOf option (Some r) = IsRecordOf option r

abbrev pub AreRecordsOf : IndexOption → List (Option Recorded) → Type 0
AreRecordsOf option rs = AllByRecursion (IsMaybeRecordOf option) rs

pub each-kept : {X : Type 0} (P : X → Type 0) (bs : List Bool) (xs : List X) → AllByRecursion P xs → AllByRecursion P (kept bs xs)
each-kept P [] xs h = tt
each-kept P (b ∷ bs) [] h = tt
each-kept P (true ∷ bs) (x ∷ xs) h = (h.0, each-kept P bs xs h.1)
each-kept P (false ∷ bs) (x ∷ xs) h = each-kept P bs xs h.1

later : (option : IndexOption) (first second last : ℕ) (ps : List Posting) → first ≤ second → ArePostings option second last ps → ArePostings option first last ps
later option first second last [] le h = tt
later option first second last (p ∷ ps) le h = (omega (arith, h.0), h.1, h.2, h.3)

wider : (option : IndexOption) (first last wide : ℕ) (ps : List Posting) → last ≤ wide → ArePostings option first last ps → ArePostings option first wide ps
wider option first last wide [] le h = tt
wider option first last wide (p ∷ ps) le h = (h.0, omega (arith, h.1), h.2, wider option (p.document + 1) last wide ps le h.3)

listed_first : (option : IndexOption) (first last : ℕ) (r : Option Recorded) (ps : List Posting) → first < last → IsMaybeRecordOf option r → ArePostings option (first + 1) last ps → ArePostings option first last (listed first r ++ ps)
listed_first option first last None ps lt h k = later option first (first + 1) last ps (omega arith) k
listed_first option first last (Some r) ps lt h k = (omega arith, lt, h, k)

pub ArePostings-from : (option : IndexOption) (first : ℕ) (rs : List (Option Recorded)) → AreRecordsOf option rs → ArePostings option first (first + length rs) (postings_from first rs)
ArePostings-from option first [] h = tt
ArePostings-from option first (r ∷ rs) h =
    let P : ℕ → Type 0 = λ last. ArePostings option (first + 1) last (postings_from (first + 1) rs) in
    listed_first option first (first + suc (length rs)) r _ (omega arith) h.0 (subst P (let z : first + 1 + length rs ≡ first + suc (length rs) = omega arith in z) (ArePostings-from option (first + 1) rs h.1))

IsMaybeRecordOf-recorded_at : (option : IndexOption) (d first last : ℕ) (ps : List Posting) → ArePostings option first last ps → IsMaybeRecordOf option (recorded_at d ps)
IsMaybeRecordOf-recorded_at option d first last [] h = tt
IsMaybeRecordOf-recorded_at option d first last (p ∷ ps) h = by (p.document == d) (IsMaybeRecordOf-recorded_at option d (p.document + 1) last ps h.3)
  where
    by : (b : Bool) → IsMaybeRecordOf option (recorded_at d ps) → IsMaybeRecordOf option (cond b (Some p.recorded) (recorded_at d ps))
    by true k = h.2
    by false k = k

pub AreRecordsOf-all_recorded : (option : IndexOption) (i n first last : ℕ) (ps : List Posting) → ArePostings option first last ps → AreRecordsOf option (all_recorded i n ps)
AreRecordsOf-all_recorded option i zero first last ps h = tt
AreRecordsOf-all_recorded option i (suc n) first last ps h = (IsMaybeRecordOf-recorded_at option i first last ps h, AreRecordsOf-all_recorded option (i + 1) n first last ps h)

pub some_if_any : (ps got : List Posting) → if_any ps ≡ Some got → (got ≡ ps) × (0 < length got)
some_if_any [] got e = absurd (true≢false (sym (ap is_some e)))
some_if_any (p ∷ ps) got e = (is, subst (λ l. 0 < length l) (sym is) (omega arith))
  where
    is : got ≡ p ∷ ps
    is = cc
