-- The documents of a term with their counts, one after another.
use Rattle.std.proofs.Common.{◌≡◌, ◌≢◌, ℕ, suc, ◌+◌, ◌-◌, ◌^◌, ◌<◌, ◌≤◌, ◌&&◌, true, false, List, [], ◌∷◌, length, Option, Some, None, refl, sym, ap, ◌∙◌, arith}
use Rattle.std.specs.Prelude.{nat_eq, nat_lt, option_map, option_and_then}
use Rattle.std.proofs.lemmas.Bool.{eq-eqb, ne_eqb}
use Rattle.seg_common.proofs.Numbers.{one_left}
use Rattle.seg_postings.specs.declared.record_kind.RecordKind.{RecordKind}
use Rattle.seg_postings.specs.RecordKinds.{kind_byte}
use Rattle.seg_postings.specs.Postings.{Counted, number_at, count_at, counts_at}
use Rattle.seg_postings.specs.PostingsWithoutPositions.{are_counted, is_counted_term}
use Rattle.seg_postings.specs.RemainingPostings.{counted_at}

abbrev with_counted : ℕ → ℕ → List Counted → List Counted
with_counted document count cs = record { document = document; count = count } ∷ cs

-- the first document is read, and then the others
first_counted : (kind : RecordKind) (n before least : ℕ) (bytes : List ℕ) → counts_at kind (suc n) before least bytes ≡ option_and_then (λ (t : ℕ × ℕ × List ℕ). option_map (λ cs. with_counted t.0 t.1 cs) (counts_at kind n t.0 1 t.2)) (counted_at kind before least bytes)
unfolding counts_at counted_at
first_counted kind n before least bytes = from_number (number_at least (2 ^ 32 - 1 - before) bytes)
  where
    from_count : (d : ℕ) (o : Option (ℕ × List ℕ)) → option_and_then (λ c. option_map (λ cs. with_counted (before + d) c.0 cs) (counts_at kind n (before + d) 1 c.1)) o ≡ option_and_then (λ (t : ℕ × ℕ × List ℕ). option_map (λ cs. with_counted t.0 t.1 cs) (counts_at kind n t.0 1 t.2)) (option_map (λ c. (before + d, c.0, c.1)) o)
    from_count d None = refl
    from_count d (Some c) = refl

    from_number : (o : Option (ℕ × List ℕ)) → option_and_then (λ d. option_and_then (λ c. option_map (λ cs. with_counted (before + d.0) c.0 cs) (counts_at kind n (before + d.0) 1 c.1)) (count_at kind d.1)) o ≡ option_and_then (λ (t : ℕ × ℕ × List ℕ). option_map (λ cs. with_counted t.0 t.1 cs) (counts_at kind n t.0 1 t.2)) (option_and_then (λ d. option_map (λ c. (before + d.0, c.0, c.1)) (count_at kind d.1)) o)
    from_number None = refl
    from_number (Some d) = from_count d.0 (count_at kind d.1)

-- ---- the check

module _ (kind : RecordKind) (max_doc count i before least : ℕ) (bytes : List ℕ) (lt : i < count) where
  here : counts_at kind (count - i) before least bytes ≡ option_and_then (λ (t : ℕ × ℕ × List ℕ). option_map (λ cs. with_counted t.0 t.1 cs) (counts_at kind (count - (i + 1)) t.0 1 t.2)) (counted_at kind before least bytes)
  here = ap (λ n. counts_at kind n before least bytes) (one_left count i lt) ∙ first_counted kind (count - (i + 1)) before least bytes

  pub none_counted : counted_at kind before least bytes ≡ None → are_counted max_doc (counts_at kind (count - i) before least bytes) ≡ false
  none_counted e = ap (are_counted max_doc) (here ∙ ap (option_and_then (λ (t : ℕ × ℕ × List ℕ). option_map (λ cs. with_counted t.0 t.1 cs) (counts_at kind (count - (i + 1)) t.0 1 t.2))) e)

  module _ (document n : ℕ) (rest : List ℕ) (e : counted_at kind before least bytes ≡ Some (document, n, rest)) where
    there : counts_at kind (count - i) before least bytes ≡ option_map (λ cs. with_counted document n cs) (counts_at kind (count - (i + 1)) document 1 rest)
    there = here ∙ ap (option_and_then (λ (t : ℕ × ℕ × List ℕ). option_map (λ cs. with_counted t.0 t.1 cs) (counts_at kind (count - (i + 1)) t.0 1 t.2))) e

    pub high_counted : nat_lt document max_doc ≡ false → are_counted max_doc (counts_at kind (count - i) before least bytes) ≡ false
    high_counted h = ap (are_counted max_doc) there ∙ last (counts_at kind (count - (i + 1)) document 1 rest)
      where
        last : (o : Option (List Counted)) → are_counted max_doc (option_map (λ cs. with_counted document n cs) o) ≡ false
        last None = refl
        last (Some cs) = rw h refl

    pub counted_turn : nat_lt document max_doc ≡ true → are_counted max_doc (counts_at kind (count - (i + 1)) document 1 rest) ≡ are_counted max_doc (counts_at kind (count - i) before least bytes)
    counted_turn h = sym (ap (are_counted max_doc) there ∙ same (counts_at kind (count - (i + 1)) document 1 rest))
      where
        same : (o : Option (List Counted)) → are_counted max_doc (option_map (λ cs. with_counted document n cs) o) ≡ are_counted max_doc o
        same None = refl
        same (Some cs) = rw h refl

pub filled : (x : ℕ) (xs : List ℕ) → nat_eq (length (x ∷ xs)) 0 ≡ false
filled x xs = ne_eqb (suc (length xs)) 0 (λ e. omega (arith, e))

none_left : (kind : RecordKind) (max_doc before least : ℕ) (bytes : List ℕ) → are_counted max_doc (counts_at kind 0 before least bytes) ≡ nat_eq (length bytes) 0
unfolding counts_at
none_left kind max_doc before least [] = refl
none_left kind max_doc before least (b ∷ bytes) = sym (filled b bytes)

pub counted_ends : (kind : RecordKind) (max_doc count i before least : ℕ) (bytes : List ℕ) → count ≤ i → are_counted max_doc (counts_at kind (count - i) before least bytes) ≡ nat_eq (length bytes) 0
counted_ends kind max_doc count i before least bytes past =
    let none : count - i ≡ 0 = omega (arith, past) in
    ap (λ n. are_counted max_doc (counts_at kind n before least bytes)) none ∙ none_left kind max_doc before least bytes

-- ---- after the kind

pub no_bytes_counted : (kind : RecordKind) (max_doc count : ℕ) (bytes : List ℕ) → bytes ≡ [] → is_counted_term kind max_doc count bytes ≡ false
no_bytes_counted kind max_doc count bytes e = rw e refl

module _ (kind : RecordKind) (max_doc count first : ℕ) (bytes rest : List ℕ) (front : bytes ≡ first ∷ rest) where
  pub other_counted : first ≢ kind_byte kind → is_counted_term kind max_doc count bytes ≡ false
  other_counted other = ap (is_counted_term kind max_doc count) front ∙ ap (λ b. b && are_counted max_doc (counts_at kind count 0 0 rest)) (ne_eqb first (kind_byte kind) other)

  pub same_counted : first ≡ kind_byte kind → is_counted_term kind max_doc count bytes ≡ are_counted max_doc (counts_at kind count 0 0 rest)
  same_counted same = ap (is_counted_term kind max_doc count) front ∙ ap (λ b. b && are_counted max_doc (counts_at kind count 0 0 rest)) (eq-eqb first (kind_byte kind) same)
