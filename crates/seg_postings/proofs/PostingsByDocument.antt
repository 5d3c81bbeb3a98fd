-- The postings of a term, document by document.
use Rattle.std.proofs.Common.{◌≡◌, ℕ, suc, ◌+◌, ◌-◌, ◌^◌, ◌<◌, ◌≤◌, ◌&&◌, true, false, List, [], ◌∷◌, length, Option, Some, None, refl, sym, ap, ◌∙◌, arith}
use Rattle.std.specs.Prelude.{nat_eq, nat_lt, option_map, option_and_then}
use Rattle.seg_common.proofs.Numbers.{one_left}
use Rattle.seg_model.specs.DocumentTerms.{Recorded, positions, Posting}
use Rattle.seg_postings.specs.declared.record_kind.RecordKind.{RecordKind}
use Rattle.seg_postings.specs.declared.record_kind.RecordKind.TheVariants.{Documents, Counts, Positions}
use Rattle.seg_postings.specs.Postings.{Counted, number_at, count_at, counts_at, positions_at, with_positions, postings_by}
use Rattle.seg_postings.specs.RemainingPostings.{counted_at, recorded_at, postings_at, postings_from, are_low}
use Rattle.seg_postings.proofs.CountedDocuments.{filled}

-- the first document is read, and then the others
pub first_document : (kind : RecordKind) (n before least : ℕ) (bytes qs : List ℕ) → postings_at kind (suc n) before least bytes qs ≡ option_and_then (λ t. postings_from kind t.0 t.1 n t.2 qs) (counted_at kind before least bytes)
unfolding postings_at postings_from counted_at counts_at
first_document kind n before least bytes qs = from_number (number_at least (2 ^ 32 - 1 - before) bytes)
  where
    from_rest : (document count : ℕ) (o : Option (List Counted)) → option_and_then (λ cs. postings_by kind cs qs) (option_map (λ rest. record { document = document; count = count } ∷ rest) o) ≡ option_and_then (λ cs. postings_by kind (record { document = document; count = count } ∷ cs) qs) o
    from_rest document count None = refl
    from_rest document count (Some cs) = refl

    from_count : (d : ℕ) (o : Option (ℕ × List ℕ)) → option_and_then (λ cs. postings_by kind cs qs) (option_and_then (λ c. option_map (λ rest. record { document = before + d; count = c.0 } ∷ rest) (counts_at kind n (before + d) 1 c.1)) o) ≡ option_and_then (λ (t : ℕ × ℕ × List ℕ). option_and_then (λ cs. postings_by kind (record { document = t.0; count = t.1 } ∷ cs) qs) (counts_at kind n t.0 1 t.2)) (option_map (λ c. (before + d, c.0, c.1)) o)
    from_count d None = refl
    from_count d (Some c) = from_rest (before + d) c.0 (counts_at kind n (before + d) 1 c.1)

    from_number : (o : Option (ℕ × List ℕ)) → option_and_then (λ cs. postings_by kind cs qs) (option_and_then (λ d. option_and_then (λ c. option_map (λ rest. record { document = before + d.0; count = c.0 } ∷ rest) (counts_at kind n (before + d.0) 1 c.1)) (count_at kind d.1)) o) ≡ option_and_then (λ (t : ℕ × ℕ × List ℕ). option_and_then (λ cs. postings_by kind (record { document = t.0; count = t.1 } ∷ cs) qs) (counts_at kind n t.0 1 t.2)) (option_and_then (λ d. option_map (λ c. (before + d.0, c.0, c.1)) (count_at kind d.1)) o)
    from_number None = refl
    from_number (Some d) = from_count d.0 (count_at kind d.1)

abbrev pub with_first : ℕ → Recorded → List Posting → List Posting
with_first document recorded ps = record { document = document; recorded = recorded } ∷ ps

-- what is recorded of it is read, and then the others
one_more : (kind : RecordKind) (document count : ℕ) (cs : List Counted) (qs : List ℕ) → postings_by kind (record { document = document; count = count } ∷ cs) qs ≡ option_and_then (λ r. option_map (λ ps. with_first document r.0 ps) (postings_by kind cs r.1)) (recorded_at kind count qs)
unfolding recorded_at with_positions
one_more Documents document count cs [] = refl
one_more Documents document count cs (q ∷ qs) = refl
one_more Counts document count cs [] = refl
one_more Counts document count cs (q ∷ qs) = refl
one_more Positions document count cs qs = from_positions (positions_at count 0 qs)
  where
    from_positions : (o : Option (List ℕ × List ℕ)) → option_and_then (λ ps. option_map (λ rest. record { document = document; recorded = positions ps.0 } ∷ rest) (with_positions cs ps.1)) o ≡ option_and_then (λ (r : Recorded × List ℕ). option_map (λ ps. with_first document r.0 ps) (with_positions cs r.1)) (option_map (λ r. (positions r.0, r.1)) o)
    from_positions None = refl
    from_positions (Some x) = refl

none_more : {A B : Type 0} (o : Option A) → ◌≡◌ {A = Option B} None (option_and_then (λ x. None) o)
none_more None = refl
none_more (Some x) = refl

pub first_recorded : (kind : RecordKind) (document count n : ℕ) (bytes qs : List ℕ) → postings_from kind document count n bytes qs ≡ option_and_then (λ r. option_map (λ ps. with_first document r.0 ps) (postings_at kind n document 1 bytes r.1)) (recorded_at kind count qs)
unfolding postings_at postings_from
first_recorded kind document count n bytes qs = from_rest (counts_at kind n document 1 bytes)
  where
    from_rest : (o : Option (List Counted)) → option_and_then (λ cs. postings_by kind (record { document = document; count = count } ∷ cs) qs) o ≡ option_and_then (λ r. option_map (λ ps. with_first document r.0 ps) (option_and_then (λ cs. postings_by kind cs r.1) o)) (recorded_at kind count qs)
    from_rest None = none_more {B = List Posting} (recorded_at kind count qs)
    from_rest (Some cs) = one_more kind document count cs qs

-- ---- the check

module _ (kind : RecordKind) (max_doc count i before least : ℕ) (bytes qs : List ℕ) (lt : i < count) where
  here : postings_at kind (count - i) before least bytes qs ≡ option_and_then (λ t. postings_from kind t.0 t.1 (count - (i + 1)) t.2 qs) (counted_at kind before least bytes)
  here = ap (λ n. postings_at kind n before least bytes qs) (one_left count i lt) ∙ first_document kind (count - (i + 1)) before least bytes qs

  pub no_document : counted_at kind before least bytes ≡ None → are_low max_doc (postings_at kind (count - i) before least bytes qs) ≡ false
  no_document e = ap (are_low max_doc) (here ∙ ap (option_and_then (λ (t : ℕ × ℕ × List ℕ). postings_from kind t.0 t.1 (count - (i + 1)) t.2 qs)) e)

  module _ (document n : ℕ) (rest : List ℕ) (e : counted_at kind before least bytes ≡ Some (document, n, rest)) where
    there : postings_at kind (count - i) before least bytes qs ≡ option_and_then (λ r. option_map (λ ps. with_first document r.0 ps) (postings_at kind (count - (i + 1)) document 1 rest r.1)) (recorded_at kind n qs)
    there = here ∙ ap (option_and_then (λ (t : ℕ × ℕ × List ℕ). postings_from kind t.0 t.1 (count - (i + 1)) t.2 qs)) e ∙ first_recorded kind document n (count - (i + 1)) rest qs

    pub high : nat_lt document max_doc ≡ false → are_low max_doc (postings_at kind (count - i) before least bytes qs) ≡ false
    high h = ap (are_low max_doc) there ∙ stops (recorded_at kind n qs)
      where
        last : (r : Recorded) (o : Option (List Posting)) → are_low max_doc (option_map (λ ps. with_first document r ps) o) ≡ false
        last r None = refl
        last r (Some ps) = rw h refl

        stops : (o : Option (Recorded × List ℕ)) → are_low max_doc (option_and_then (λ r. option_map (λ ps. with_first document r.0 ps) (postings_at kind (count - (i + 1)) document 1 rest r.1)) o) ≡ false
        stops None = refl
        stops (Some r) = last r.0 (postings_at kind (count - (i + 1)) document 1 rest r.1)

    pub no_positions : recorded_at kind n qs ≡ None → are_low max_doc (postings_at kind (count - i) before least bytes qs) ≡ false
    no_positions none = ap (are_low max_doc) (there ∙ ap (option_and_then (λ (r : Recorded × List ℕ). option_map (λ ps. with_first document r.0 ps) (postings_at kind (count - (i + 1)) document 1 rest r.1))) none)

    pub turn : (recorded : Recorded) (left : List ℕ) → nat_lt document max_doc ≡ true → recorded_at kind n qs ≡ Some (recorded, left) → are_low max_doc (postings_at kind (count - (i + 1)) document 1 rest left) ≡ are_low max_doc (postings_at kind (count - i) before least bytes qs)
    turn recorded left h is = sym (ap (are_low max_doc) (there ∙ ap (option_and_then (λ (r : Recorded × List ℕ). option_map (λ ps. with_first document r.0 ps) (postings_at kind (count - (i + 1)) document 1 rest r.1))) is) ∙ same (postings_at kind (count - (i + 1)) document 1 rest left))
      where
        same : (o : Option (List Posting)) → are_low max_doc (option_map (λ ps. with_first document recorded ps) o) ≡ are_low max_doc o
        same None = refl
        same (Some ps) = rw h refl

none_left : (kind : RecordKind) (max_doc before least : ℕ) (bytes qs : List ℕ) → are_low max_doc (postings_at kind 0 before least bytes qs) ≡ (nat_eq (length bytes) 0 && nat_eq (length qs) 0)
unfolding postings_at counts_at with_positions
none_left kind max_doc before least (b ∷ bytes) qs = rw (filled b bytes) refl
none_left Documents max_doc before least [] [] = refl
none_left Documents max_doc before least [] (q ∷ qs) = rw (filled q qs) refl
none_left Counts max_doc before least [] [] = refl
none_left Counts max_doc before least [] (q ∷ qs) = rw (filled q qs) refl
none_left Positions max_doc before least [] [] = refl
none_left Positions max_doc before least [] (q ∷ qs) = rw (filled q qs) refl

pub ends : (kind : RecordKind) (max_doc count i before least : ℕ) (bytes qs : List ℕ) → count ≤ i → are_low max_doc (postings_at kind (count - i) before least bytes qs) ≡ (nat_eq (length bytes) 0 && nat_eq (length qs) 0)
ends kind max_doc count i before least bytes qs past =
    let none : count - i ≡ 0 = omega (arith, past) in
    ap (λ n. are_low max_doc (postings_at kind n before least bytes qs)) none ∙ none_left kind max_doc before least bytes qs
