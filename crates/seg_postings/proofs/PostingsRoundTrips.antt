-- The bytes that postings are written as are read as these postings.
use Rattle.std.proofs.Common.{◌≡◌, ℕ, ◌+◌, ◌-◌, ◌<◌, ◌≤◌, ◌^◌, List, [], ◌∷◌, ◌++◌, length, map, Some, refl, ap, sym, ◌∙◌, arith}
use Rattle.std.specs.Prelude.{option_and_then}
use Rattle.std.specs.List.{flat_map}
use Rattle.std.proofs.lemmas.List.{append_assoc}
use Rattle.std.proofs.lemmas.Bool.{lt-ltb, le-leb}
use Rattle.seg_common.specs.Varint.{varint}
use Rattle.seg_common.proofs.VarintSteps.{reads_back, u64_has_ten}
use Rattle.seg_model.specs.DocumentTerms.{Recorded, presence, frequency, positions, Posting}
use Rattle.seg_postings.specs.declared.record_kind.RecordKind.{RecordKind}
use Rattle.seg_postings.specs.declared.record_kind.RecordKind.TheVariants.{Documents, Counts, Positions}
use Rattle.seg_postings.specs.PostingsBytes.{differences, count_form, position_form, documents_form, postings_form, positions_form}
use Rattle.seg_postings.specs.Postings.{Counted, in_bounds, number_at, count_at, counts_at, positions_at, with_positions, postings_by, postings_of_kind, term_postings}
use Rattle.seg_postings.specs.OpenPostings.{count_of}
use Rattle.seg_postings.specs.WritablePostings.{Rise, IsOfKind, AreWritable}
use Rattle.seg_postings.proofs.RecordKinds.{kind_back}

-- a number in its bounds is read back
number_back : (least limit n : ℕ) (rest : List ℕ) → n < 2 ^ 64 → least ≤ n → n < limit → number_at least limit (varint n ++ rest) ≡ Some (n, rest)
number_back least limit n rest small low high =
    ap (option_and_then (in_bounds least limit)) (reads_back 10 n rest (u64_has_ten n small) small)
    ∙ rw (le-leb least n low, lt-ltb n limit high) refl

abbrev counted : Posting → Counted
counted p = record { document = p.document; count = count_of p.recorded }

count_back : (kind : RecordKind) (r : Recorded) (rest : List ℕ) → IsOfKind kind r → count_at kind (count_form r ++ rest) ≡ Some (count_of r, rest)
count_back Documents r rest fits = rw fits refl
count_back Counts r rest (n, some, few, is) = rw is (number_back 1 (2 ^ 32) n rest (omega (arith, few)) some few)
count_back Positions r rest (ps, some, few, rise, is) = rw is (number_back 1 (2 ^ 32) (length ps) rest (omega (arith, few)) some few)

pub counts_back : (kind : RecordKind) (before least : ℕ) (ps : List Posting) → AreWritable kind before least ps → counts_at kind (length ps) before least (documents_form before ps) ≡ Some (map counted ps)
unfolding counts_at
counts_back kind before least [] fits = refl
counts_back kind before least (p ∷ ps) (behind, small, of_kind, rest) =
    let gap = p.document - before in
    let low : least ≤ gap = omega (arith, behind) in
    let high : gap < 2 ^ 32 - 1 - before = omega (arith, small, behind) in
    let back : before + gap ≡ p.document = omega (arith, behind) in
    let later = documents_form p.document ps in
    let number : number_at least (2 ^ 32 - 1 - before) ((varint gap ++ count_form p.recorded) ++ later) ≡ Some (gap, count_form p.recorded ++ later) = ap (number_at least (2 ^ 32 - 1 - before)) (append_assoc (varint gap) (count_form p.recorded) later) ∙ number_back least (2 ^ 32 - 1 - before) gap (count_form p.recorded ++ later) (omega (arith, small)) low high in
    let others = counts_back kind p.document 1 ps rest in
    rw (number, count_back kind p.recorded later of_kind, back, others) refl

pub positions_back : (before : ℕ) (ps rest : List ℕ) → Rise before ps → positions_at (length ps) before (flat_map varint (differences before ps) ++ rest) ≡ Some (ps, rest)
unfolding positions_at
positions_back before [] rest rise = refl
positions_back before (p ∷ ps) rest (behind, small, more) =
    let gap = p - before in
    let back : before + gap ≡ p = omega (arith, behind) in
    let later = flat_map varint (differences p ps) in
    let number : number_at 0 (2 ^ 32 - before) ((varint gap ++ later) ++ rest) ≡ Some (gap, later ++ rest) = ap (number_at 0 (2 ^ 32 - before)) (append_assoc (varint gap) later rest) ∙ number_back 0 (2 ^ 32 - before) gap (later ++ rest) (omega (arith, small)) (omega arith) (omega (arith, small, behind)) in
    rw (number, back, positions_back p ps rest more) refl

one_back : (d : ℕ) (r : Recorded) (ps : List Posting) (qs : List ℕ) → Rise 0 qs → r ≡ positions qs → with_positions (map counted ps) (positions_form ps) ≡ Some ps → with_positions (counted (record { document = d; recorded = r }) ∷ map counted ps) (position_form r ++ positions_form ps) ≡ Some (record { document = d; recorded = r } ∷ ps)
unfolding with_positions
one_back d r ps qs rise is others = rw is (rw (positions_back 0 qs (positions_form ps) rise, others) refl)

with_positions_back : (before least : ℕ) (ps : List Posting) → AreWritable Positions before least ps → with_positions (map counted ps) (positions_form ps) ≡ Some ps
unfolding with_positions
with_positions_back before least [] fits = refl
with_positions_back before least (p ∷ ps) (behind, small, (qs, some, few, rise, is), rest) =
    one_back p.document p.recorded ps qs rise is (with_positions_back p.document 1 ps rest)

-- positions, where none are kept
no_position : (r : Recorded) → r ≡ presence → position_form r ≡ []
no_position r is = rw is refl

documents_have_none : (before least : ℕ) (ps : List Posting) → AreWritable Documents before least ps → positions_form ps ≡ []
documents_have_none before least [] fits = refl
documents_have_none before least (p ∷ ps) (behind, small, is, rest) = rw (no_position p.recorded is) (documents_have_none p.document 1 ps rest)

documents_are : (before least : ℕ) (ps : List Posting) → AreWritable Documents before least ps → map (λ (c : Counted). record { document = c.document; recorded = presence }) (map counted ps) ≡ ps
documents_are before least [] fits = refl
documents_are before least (p ∷ ps) (behind, small, is, rest) =
    ap (λ r. record { document = p.document; recorded = r } ∷ map (λ (c : Counted). record { document = c.document; recorded = presence }) (map counted ps)) (sym is)
    ∙ ap (λ xs. p ∷ xs) (documents_are p.document 1 ps rest)

no_position_counted : (r : Recorded) (n : ℕ) → r ≡ frequency n → position_form r ≡ []
no_position_counted r n is = rw is refl

counts_have_none : (before least : ℕ) (ps : List Posting) → AreWritable Counts before least ps → positions_form ps ≡ []
counts_have_none before least [] fits = refl
counts_have_none before least (p ∷ ps) (behind, small, (n, some, few, is), rest) = rw (no_position_counted p.recorded n is) (counts_have_none p.document 1 ps rest)

abbrev posting : ℕ → Recorded → Posting
posting d r = record { document = d; recorded = r }

frequency_is : (d : ℕ) (r : Recorded) (n : ℕ) → r ≡ frequency n → posting d (frequency (count_of r)) ≡ posting d r
frequency_is d r n is = rw is refl

counts_are : (before least : ℕ) (ps : List Posting) → AreWritable Counts before least ps → map (λ (c : Counted). record { document = c.document; recorded = frequency c.count }) (map counted ps) ≡ ps
counts_are before least [] fits = refl
counts_are before least (p ∷ ps) (behind, small, (n, some, few, is), rest) =
    ap (λ q. q ∷ map (λ (c : Counted). record { document = c.document; recorded = frequency c.count }) (map counted ps)) (frequency_is p.document p.recorded n is)
    ∙ ap (λ xs. p ∷ xs) (counts_are p.document 1 ps rest)

postings_back : (kind : RecordKind) (ps : List Posting) → AreWritable kind 0 0 ps → postings_by kind (map counted ps) (positions_form ps) ≡ Some ps
postings_back Documents ps fits = rw (documents_have_none 0 0 ps fits) (ap (λ xs. Some xs) (documents_are 0 0 ps fits))
postings_back Counts ps fits = rw (counts_have_none 0 0 ps fits) (ap (λ xs. Some xs) (counts_are 0 0 ps fits))
postings_back Positions ps fits = with_positions_back 0 0 ps fits

-- what is written of a term is read as that
pub term_back : (kind : RecordKind) (ps : List Posting) → AreWritable kind 0 0 ps → term_postings (length ps) (postings_form kind ps) (positions_form ps) ≡ Some (record { kind = kind; postings = ps })
term_back kind ps fits =
    ap (option_and_then (postings_of_kind (length ps) (documents_form 0 ps) (positions_form ps))) (kind_back kind)
    ∙ rw (counts_back kind 0 0 ps fits, postings_back kind ps fits) refl
