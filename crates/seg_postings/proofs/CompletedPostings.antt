-- Postings that are counted are completed by positions, and a field that is read has postings that are counted.
use Rattle.std.proofs.Common.{◌≡◌, ℕ, zero, suc, ◌≤◌, ◌&&◌, Bool, true, false, List, [], ◌∷◌, ◌++◌, length, map, drop, Option, Some, None, refl, sym, ap, ◌∙◌, slice_range, subst}
use Rattle.std.specs.Prelude.{nat_eq, nat_lt, option_map, option_and_then, replicate, MatchBool}
use Rattle.std.specs.List.{list_all, AllByRecursion}
use Rattle.std.proofs.lemmas.Bool.{and_from, and_parts, eqb-false, eqb-true, false≢true, ltb-true}
use Rattle.seg_model.specs.DocumentTerms.{presence, frequency, positions, Posting}
use Rattle.seg_termdict.specs.Dictionary.{Term, terms_of}
use Rattle.seg_termdict.specs.DictionaryBuilders.{last_term, postings_end}
use Rattle.seg_postings.specs.declared.record_kind.RecordKind.{RecordKind}
use Rattle.seg_postings.specs.declared.record_kind.RecordKind.TheVariants.{Documents, Counts, Positions}
use Rattle.seg_postings.specs.RecordKinds.{kind_byte}
use Rattle.seg_postings.specs.Postings.{Counted, counts_at, positions_at, with_positions, postings_by, term_postings}
use Rattle.seg_postings.specs.RemainingPostings.{postings_at, are_low, is_term_of}
use Rattle.seg_postings.specs.PostingsWithoutPositions.{are_counted, is_counted_term, is_counted}
use Rattle.seg_postings.specs.CompletedPostings.{CanBeCompleted, ArePostingsBy, NoneComplete}
use Rattle.seg_postings.specs.OpenedFields.{FieldRules, is_read, kind_by}
use Rattle.seg_postings.proofs.RecordKinds.{other_kind, same_kind}
use Rattle.seg_postings.proofs.CheckedFields.{passes_all}

-- whether counted documents, and whether those of postings, lie below a number
abbrev low : ℕ → List Counted → Bool
low max_doc cs = list_all (λ (c : Counted). nat_lt c.document max_doc) cs

abbrev all_low : ℕ → List Posting → Bool
all_low max_doc ps = list_all (λ (p : Posting). nat_lt p.document max_doc) ps

-- ---- positions that complete

-- the shortest positions: all are 0
zeros_back : (n : ℕ) (rest : List ℕ) → positions_at n 0 (replicate n 0 ++ rest) ≡ Some (replicate n 0, rest)
unfolding positions_at
zeros_back zero rest = refl
zeros_back (suc n) rest = rw (zeros_back n rest) refl

abbrev filling : List Counted → List ℕ
filling [] = []
filling (c ∷ cs) = replicate c.count 0 ++ filling cs

abbrev filled : List Counted → List Posting
filled [] = []
filled (c ∷ cs) = record { document = c.document; recorded = positions (replicate c.count 0) } ∷ filled cs

filled_back : (cs : List Counted) → with_positions cs (filling cs) ≡ Some (filled cs)
unfolding with_positions
filled_back [] = refl
filled_back (c ∷ cs) = rw (zeros_back c.count (filling cs)) (rw (filled_back cs) refl)

filled_low : (max_doc : ℕ) (cs : List Counted) → all_low max_doc (filled cs) ≡ low max_doc cs
filled_low max_doc [] = refl
filled_low max_doc (c ∷ cs) = ap (λ b. nat_lt c.document max_doc && b) (filled_low max_doc cs)

documents_low : (max_doc : ℕ) (cs : List Counted) → all_low max_doc (map (λ (c : Counted). record { document = c.document; recorded = presence }) cs) ≡ low max_doc cs
documents_low max_doc [] = refl
documents_low max_doc (c ∷ cs) = ap (λ b. nat_lt c.document max_doc && b) (documents_low max_doc cs)

counts_low : (max_doc : ℕ) (cs : List Counted) → all_low max_doc (map (λ (c : Counted). record { document = c.document; recorded = frequency c.count }) cs) ≡ low max_doc cs
counts_low max_doc [] = refl
counts_low max_doc (c ∷ cs) = ap (λ b. nat_lt c.document max_doc && b) (counts_low max_doc cs)

-- what completes counted documents of a kind
abbrev completing : RecordKind → List Counted → List ℕ
completing Documents cs = []
completing Counts cs = []
completing Positions cs = filling cs

completes : (kind : RecordKind) (max_doc : ℕ) (cs : List Counted) → low max_doc cs ≡ true → are_low max_doc (postings_by kind cs (completing kind cs)) ≡ true
completes Documents max_doc cs are = documents_low max_doc cs ∙ are
completes Counts max_doc cs are = counts_low max_doc cs ∙ are
completes Positions max_doc cs are = ap (are_low max_doc) (filled_back cs) ∙ (filled_low max_doc cs ∙ are)

record Completion (kind : RecordKind) (max_doc n : ℕ) (bytes : List ℕ) : Type 0 where
  position_bytes : List ℕ
  is : is_term_of kind max_doc (term_postings n bytes position_bytes) ≡ true

by_counts : (kind : RecordKind) (max_doc n : ℕ) (bytes : List ℕ) (o : Option (List Counted)) → counts_at kind n 0 0 bytes ≡ o → are_counted max_doc o ≡ true → (qs : List ℕ) × (are_low max_doc (postings_at kind n 0 0 bytes qs) ≡ true)
unfolding postings_at
by_counts kind max_doc n bytes None is are = absurd (false≢true are)
by_counts kind max_doc n bytes (Some cs) is are =
    (completing kind cs, ap (λ o. are_low max_doc (option_and_then (λ xs. postings_by kind xs (completing kind cs)) o)) is ∙ completes kind max_doc cs are)

completion : (kind : RecordKind) (max_doc n : ℕ) (bytes : List ℕ) → is_counted_term kind max_doc n bytes ≡ true → Completion kind max_doc n bytes
completion kind max_doc n [] are = absurd (false≢true are)
completion kind max_doc n (b ∷ bytes) are =
    let both = and_parts (nat_eq b (kind_byte kind)) (are_counted max_doc (counts_at kind n 0 0 bytes)) are in
    let found = by_counts kind max_doc n bytes (counts_at kind n 0 0 bytes) refl both.1 in
    record {
      position_bytes = found.0;
      is = same_kind kind max_doc n b (b ∷ bytes) bytes found.0 refl (eqb-true b (kind_byte kind) both.0) ∙ found.1;
    }

module _ (rules : FieldRules) (postings : List ℕ) where
  one_completed : (t : Term) → is_counted rules postings t ≡ true → CanBeCompleted rules postings t
  one_completed t are =
      let both = and_parts (nat_lt 0 t.1.doc_freq) (is_counted_term (kind_by rules t.0) rules.max_doc t.1.doc_freq (slice_range postings t.1.postings_start t.1.postings_end)) are in
      let found = completion (kind_by rules t.0) rules.max_doc t.1.doc_freq (slice_range postings t.1.postings_start t.1.postings_end) both.1 in
      record { occurs = ltb-true 0 t.1.doc_freq both.0; positions = found.position_bytes; is_term = found.is }

  all_completed : (terms : List Term) → list_all (is_counted rules postings) terms ≡ true → AllByRecursion (CanBeCompleted rules postings) terms
  all_completed [] are = tt
  all_completed (t ∷ terms) are =
      let both = and_parts (is_counted rules postings t) (list_all (is_counted rules postings) terms) are in
      (one_completed t both.0, all_completed terms both.1)

-- ---- and back

module _ (max_doc : ℕ) (c : Counted) (cs : List Counted) (more : (left : List ℕ) → are_low max_doc (with_positions cs left) ≡ true → low max_doc cs ≡ true) where
  of_rest : (left places : List ℕ) (o : Option (List Posting)) → with_positions cs left ≡ o → are_low max_doc (option_map (λ rest. record { document = c.document; recorded = positions places } ∷ rest) o) ≡ true → low max_doc (c ∷ cs) ≡ true
  of_rest left places None is e = absurd (false≢true e)
  of_rest left places (Some ps) is e =
      let both = and_parts (nat_lt c.document max_doc) (all_low max_doc ps) e in
      and_from (nat_lt c.document max_doc) (low max_doc cs) both.0 (more left (ap (are_low max_doc) is ∙ both.1))

  of_first : (o : Option (List ℕ × List ℕ)) → are_low max_doc (option_and_then (λ ps. option_map (λ rest. record { document = c.document; recorded = positions ps.0 } ∷ rest) (with_positions cs ps.1)) o) ≡ true → low max_doc (c ∷ cs) ≡ true
  of_first None e = absurd (false≢true e)
  of_first (Some ps) e = of_rest ps.1 ps.0 (with_positions cs ps.1) refl e

of_positions : (max_doc : ℕ) (cs : List Counted) (qs : List ℕ) → are_low max_doc (with_positions cs qs) ≡ true → low max_doc cs ≡ true
unfolding with_positions
of_positions max_doc [] qs e = refl
of_positions max_doc (c ∷ cs) qs e = of_first max_doc c cs (λ left is. of_positions max_doc cs left is) (positions_at c.count 0 qs) e

of_postings : (kind : RecordKind) (max_doc : ℕ) (cs : List Counted) (qs : List ℕ) → are_low max_doc (postings_by kind cs qs) ≡ true → low max_doc cs ≡ true
of_postings Documents max_doc cs [] e = sym (documents_low max_doc cs) ∙ e
of_postings Documents max_doc cs (q ∷ qs) e = absurd (false≢true e)
of_postings Counts max_doc cs [] e = sym (counts_low max_doc cs) ∙ e
of_postings Counts max_doc cs (q ∷ qs) e = absurd (false≢true e)
of_postings Positions max_doc cs qs e = of_positions max_doc cs qs e

of_counts : (kind : RecordKind) (max_doc : ℕ) (qs : List ℕ) (o : Option (List Counted)) → are_low max_doc (option_and_then (λ cs. postings_by kind cs qs) o) ≡ true → are_counted max_doc o ≡ true
of_counts kind max_doc qs None e = e
of_counts kind max_doc qs (Some cs) e = of_postings kind max_doc cs qs e

counted_after : (kind : RecordKind) (max_doc n : ℕ) (bytes qs : List ℕ) → are_low max_doc (postings_at kind n 0 0 bytes qs) ≡ true → are_counted max_doc (counts_at kind n 0 0 bytes) ≡ true
unfolding postings_at
counted_after kind max_doc n bytes qs e = of_counts kind max_doc qs (counts_at kind n 0 0 bytes) e

counted_term : (kind : RecordKind) (max_doc n : ℕ) (bytes qs : List ℕ) → is_term_of kind max_doc (term_postings n bytes qs) ≡ true → is_counted_term kind max_doc n bytes ≡ true
counted_term kind max_doc n [] qs e = e
counted_term kind max_doc n (b ∷ bytes) qs e = by_byte (nat_eq b (kind_byte kind)) refl
  where
    by_byte : (t : Bool) → nat_eq b (kind_byte kind) ≡ t → is_counted_term kind max_doc n (b ∷ bytes) ≡ true
    by_byte true is =
        and_from (nat_eq b (kind_byte kind)) (are_counted max_doc (counts_at kind n 0 0 bytes)) is
        (counted_after kind max_doc n bytes qs (sym (same_kind kind max_doc n b (b ∷ bytes) bytes qs refl (eqb-true b (kind_byte kind) is)) ∙ e))
    by_byte false is = absurd (false≢true (sym (other_kind kind max_doc n b (b ∷ bytes) bytes qs refl (eqb-false b (kind_byte kind) is)) ∙ e))

module _ (rules : FieldRules) (postings position_bytes : List ℕ) where
  one_counted : (t : Term) → is_read rules postings position_bytes t ≡ true → is_counted rules postings t ≡ true
  one_counted t e =
      let documents = slice_range postings t.1.postings_start t.1.postings_end in
      let places = slice_range position_bytes t.1.positions_start t.1.positions_end in
      let both = and_parts (nat_lt 0 t.1.doc_freq) (is_term_of (kind_by rules t.0) rules.max_doc (term_postings t.1.doc_freq documents places)) e in
      and_from (nat_lt 0 t.1.doc_freq) (is_counted_term (kind_by rules t.0) rules.max_doc t.1.doc_freq documents) both.0
      (counted_term (kind_by rules t.0) rules.max_doc t.1.doc_freq documents places both.1)

  all_counted : (terms : List Term) → list_all (is_read rules postings position_bytes) terms ≡ true → list_all (is_counted rules postings) terms ≡ true
  all_counted [] e = refl
  all_counted (t ∷ terms) e =
      let both = and_parts (is_read rules postings position_bytes t) (list_all (is_read rules postings position_bytes) terms) e in
      and_from (is_counted rules postings t) (list_all (is_counted rules postings) terms) (one_counted t both.0) (all_counted terms both.1)

-- ---- a field

module _ (rules : FieldRules) (dictionary postings : List ℕ) where
  -- where there is no room for a total, or the ranges end elsewhere, nothing completes
  pub no_room : (8 ≤ length postings → ⊥) → NoneComplete rules dictionary postings
  no_room short position_bytes total terms is = short is.spells.room

  pub other_end : (postings_end (last_term None (terms_of dictionary)) ≡ length (drop 8 postings) → ⊥) → NoneComplete rules dictionary postings
  other_end other position_bytes total terms is = other is.spells.postings_fill

  -- where they end there, the terms decide
  pub by_terms : 8 ≤ length postings → postings_end (last_term None (terms_of dictionary)) ≡ length (drop 8 postings) → (all : Bool) → all ≡ list_all (is_counted rules (drop 8 postings)) (terms_of dictionary)
      → MatchBool all (ArePostingsBy rules dictionary postings) (NoneComplete rules dictionary postings)
  by_terms room fill true is = record { room = room; each = all_completed rules (drop 8 postings) (terms_of dictionary) (sym is); fill = fill }
  by_terms room fill false is = λ position_bytes total terms field.
      false≢true (is ∙ all_counted rules (drop 8 postings) position_bytes (terms_of dictionary) (passes_all rules (drop 8 postings) position_bytes (terms_of dictionary) terms field.spells.read field.spells.occur field.kinds field.low))

-- where they are said to be none, they are none
pub none_by : (rules : FieldRules) (dictionary postings bytes : List ℕ) (are : Bool) → MatchBool are (ArePostingsBy rules dictionary bytes) (NoneComplete rules dictionary bytes) → are ≡ false → bytes ≡ postings → NoneComplete rules dictionary postings
none_by rules dictionary postings bytes true said is same = absurd (false≢true (sym is))
none_by rules dictionary postings bytes false said is same = subst (λ (b : List ℕ). NoneComplete rules dictionary b) same said
