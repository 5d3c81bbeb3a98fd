-- Positions that are passed.
use Rattle.std.proofs.Common.{◌≡◌, ℕ, ◌+◌, ◌-◌, ◌^◌, ◌<◌, ◌≤◌, List, ◌∷◌, Option, Some, None, refl, sym, ap, ◌∙◌, arith}
use Rattle.std.specs.Prelude.{option_map}
use Rattle.seg_common.proofs.Numbers.{one_left}
use Rattle.seg_postings.specs.PassedBytes.{Passed, Passes}
use Rattle.seg_model.specs.DocumentTerms.{presence, frequency, positions}
use Rattle.seg_postings.specs.declared.record_kind.RecordKind.{RecordKind}
use Rattle.seg_postings.specs.declared.record_kind.RecordKind.TheVariants.{Documents, Counts, Positions}
use Rattle.seg_postings.specs.Postings.{number_at, positions_at}
use Rattle.seg_postings.specs.RemainingPostings.{recorded_at}

-- what is left after what was read
abbrev pub after : Option (List ℕ × List ℕ) → Option (List ℕ)
after o = option_map (λ x. x.1) o

after-front : (p : ℕ) (o : Option (List ℕ × List ℕ)) → after (option_map (λ r. (p ∷ r.0, r.1)) o) ≡ after o
after-front p None = refl
after-front p (Some x) = refl

pub step : (count i before d : ℕ) (bytes rest : List ℕ) → i < count → number_at 0 (2 ^ 32 - before) bytes ≡ Some (d, rest) → after (positions_at (count - (i + 1)) (before + d) rest) ≡ after (positions_at (count - i) before bytes)
unfolding positions_at
step count i before d bytes rest lt e = sym (rw (one_left count i lt, e) (after-front (before + d) (positions_at (count - (i + 1)) (before + d) rest)))

stuck : (count i before : ℕ) (bytes : List ℕ) → i < count → number_at 0 (2 ^ 32 - before) bytes ≡ None → after (positions_at (count - i) before bytes) ≡ None
unfolding positions_at
stuck count i before bytes lt e = rw (one_left count i lt, e) refl

none_after : (o : Option (List ℕ × List ℕ)) → after o ≡ None → o ≡ None
none_after None e = refl
none_after (Some x) e = absurd cc

some_after : (read : List ℕ → Option (List ℕ × List ℕ)) (bytes rest : List ℕ) (o : Option (List ℕ × List ℕ)) → read bytes ≡ o → after o ≡ Some rest → Passed read bytes rest
some_after read bytes rest None is e = absurd cc
some_after read bytes rest (Some x) is e = let same : x.1 ≡ rest = cc in record { value = x.0; is = is ∙ ap (λ (r : List ℕ). Some (x.0, r)) same }

pub ends_early : (count i before : ℕ) (bytes old : List ℕ) → i < count → after (positions_at (count - i) before bytes) ≡ after (positions_at count 0 old) → number_at 0 (2 ^ 32 - before) bytes ≡ None → positions_at count 0 old ≡ None
ends_early count i before bytes old lt standing e = none_after (positions_at count 0 old) (sym standing ∙ stuck count i before bytes lt e)

none_left : (before : ℕ) (bytes : List ℕ) → after (positions_at 0 before bytes) ≡ Some bytes
unfolding positions_at
none_left before bytes = refl

pub ends : (count i before : ℕ) (bytes old : List ℕ) → count ≤ i → after (positions_at (count - i) before bytes) ≡ after (positions_at count 0 old) → Passed (positions_at count 0) old bytes
ends count i before bytes old past standing =
    let none : count - i ≡ 0 = omega (arith, past) in
    some_after (positions_at count 0) old bytes (positions_at count 0 old) refl (sym standing ∙ ap (λ n. after (positions_at n before bytes)) none ∙ none_left before bytes)

-- ---- what is recorded of a document

pub presence_passed : (kind : RecordKind) (count : ℕ) (bytes : List ℕ) → kind ≡ Documents → Passed (recorded_at kind count) bytes bytes
unfolding recorded_at
presence_passed kind count bytes is = rw is (record { value = presence; is = refl })

pub frequency_passed : (kind : RecordKind) (count : ℕ) (bytes : List ℕ) → kind ≡ Counts → Passed (recorded_at kind count) bytes bytes
unfolding recorded_at
frequency_passed kind count bytes is = rw is (record { value = frequency count; is = refl })

pub positions_passed : {B : Type 0} (kind : RecordKind) (count : ℕ) (bytes rest : List ℕ) (r : Option B) → kind ≡ Positions → Passes (positions_at count 0) bytes rest r → Passes (recorded_at kind count) bytes rest r
unfolding recorded_at
positions_passed kind count bytes rest (Some done) is p = rw is (record { value = positions p.value; is = rw p.is refl })
positions_passed kind count bytes rest None is p = rw is (rw p refl)
