-- How long a dictionary is, and how long the ranges of its terms are together.
use Rattle.std.proofs.Common.{◌≡◌, ℕ, zero, suc, ◌+◌, ◌*◌, ◌-◌, ◌<◌, ◌≤◌, List, None, length, drop, refl, sym, ap, ◌∙◌, arith, add-one, length-drop, length-take}
use Rattle.std.specs.List.{sum_by}
use Rattle.std.proofs.lemmas.List.Sums.{sum_by_push}
use Rattle.seg_termdict.specs.Dictionary.{AreInfos, AreKeys, IsDictionary, Term, count_of, ends_of, info_of, infos_of, key_of, key_start, keys_of, positions_start, postings_start, term_of, terms_in, terms_of}
use Rattle.seg_termdict.specs.DictionaryBuilders.{last_term, positions_end, postings_end}
use Rattle.seg_termdict.proofs.Exports.{last_term-terms_in, terms_in-more}

-- what rises from each term to the next by a size of the term
module _ (ends keys infos : List ℕ) (size : Term → ℕ) (start : ℕ → ℕ) where
  risen : (n : ℕ) → ((i : ℕ) → i < n → start i + size (term_of ends keys infos i) ≡ start (i + 1))
      → start 0 + sum_by size (terms_in ends keys infos n) ≡ start n
  unfolding terms_in
  risen zero step = omega arith
  risen (suc n) step =
      let so_far : start 0 + sum_by size (terms_in ends keys infos n) ≡ start n = risen n (λ i h. step i (omega (arith, h))) in
      let more : sum_by size (terms_in ends keys infos (suc n)) ≡ sum_by size (terms_in ends keys infos n) + size (term_of ends keys infos n) =
      ap (λ (k : ℕ). sum_by size (terms_in ends keys infos k)) (sym (add-one n))
      ∙ ap (sum_by size) (terms_in-more ends keys infos n)
      ∙ sum_by_push size (terms_in ends keys infos n) (term_of ends keys infos n) in
      let here = step n (omega arith) in
      let next : start (n + 1) ≡ start (suc n) = ap start (add-one n) in
      omega (arith, so_far, more, here, next)

-- ---- keys

module _ (ends keys : List ℕ) (count : ℕ) (are : AreKeys ends keys count) where
  rises : (i k : ℕ) → i + k ≤ count → key_start ends i ≤ key_start ends (i + k)
  rises i zero le = let same : key_start ends (i + 0) ≡ key_start ends i = ap (key_start ends) (omega arith) in omega (arith, same)
  rises i (suc k) le =
      let so_far = rises i k (omega (arith, le)) in
      let here = are.rise (i + k) (omega (arith, le)) in
      let next : key_start ends (i + k + 1) ≡ key_start ends (i + suc k) = ap (key_start ends) (omega arith) in
      omega (arith, so_far, here, next)

  key_long : (i : ℕ) → i < count → key_start ends i + length (key_of ends keys i) ≡ key_start ends (i + 1)
  unfolding key_of
  key_long i lt =
      let up = are.rise i lt in
      let left : i + 1 + (count - (i + 1)) ≡ count = omega (arith, lt) in
      let last : key_start ends (i + 1 + (count - (i + 1))) ≡ key_start ends count = ap (key_start ends) left in
      let below = rises (i + 1) (count - (i + 1)) (omega (arith, lt)) in
      let fill = are.fill in
      let taken = length-take (key_start ends (i + 1) - key_start ends i) (drop (key_start ends i) keys) in
      let dropped = length-drop (key_start ends i) keys in
      omega (arith, up, last, below, fill, taken, dropped)

  keys_long : (infos : List ℕ) → sum_by (λ (t : Term). 28 + length t.0) (terms_in ends keys infos count) ≡ 28 * count + length keys
  unfolding key_start
  keys_long infos =
      let all = risen ends keys infos (λ (t : Term). 28 + length t.0) (λ i. 28 * i + key_start ends i) count
      (λ i h. let here = key_long i h in omega (arith, here)) in
      let fill = are.fill in
      omega (arith, all, fill)

keys_length : (bytes : List ℕ) → length (keys_of bytes) ≡ length bytes - (48 + 28 * count_of bytes)
unfolding keys_of
keys_length bytes =
    let taken = length-take (length bytes - (40 + 20 * count_of bytes) - (8 + 8 * count_of bytes)) (drop (8 + 8 * count_of bytes) bytes) in
    let dropped = length-drop (8 + 8 * count_of bytes) bytes in
    omega (arith, taken, dropped)

pub dictionary_long : (bytes : List ℕ) → IsDictionary bytes → 48 + sum_by (λ (t : Term). 28 + length t.0) (terms_of bytes) ≡ length bytes
unfolding terms_of
dictionary_long bytes is =
    let all = keys_long (ends_of bytes) (keys_of bytes) (count_of bytes) is.keys (infos_of bytes) in
    let keys = keys_length bytes in
    let room = is.room in
    omega (arith, all, keys, room)

-- ---- ranges

module _ (ends keys infos : List ℕ) where
  postings_together : (n : ℕ) → AreInfos infos n
      → sum_by (λ (t : Term). t.1.postings_end - t.1.postings_start) (terms_in ends keys infos n) ≡ postings_end (last_term None (terms_in ends keys infos n))
  unfolding info_of terms_in
  postings_together zero are = refl
  postings_together (suc n) are =
      let all = risen ends keys infos (λ (t : Term). t.1.postings_end - t.1.postings_start) (postings_start infos) (suc n)
      (λ i h. let up = are.postings i h in omega (arith, up)) in
      let first = are.first_postings (omega arith) in
      let last : postings_end (last_term None (terms_in ends keys infos (suc n))) ≡ postings_start infos (n + 1) =
      ap postings_end (last_term-terms_in ends keys infos n) in
      let next : postings_start infos (n + 1) ≡ postings_start infos (suc n) = ap (postings_start infos) (add-one n) in
      omega (arith, all, first, last, next)

  positions_together : (n : ℕ) → AreInfos infos n
      → sum_by (λ (t : Term). t.1.positions_end - t.1.positions_start) (terms_in ends keys infos n) ≡ positions_end (last_term None (terms_in ends keys infos n))
  unfolding info_of terms_in
  positions_together zero are = refl
  positions_together (suc n) are =
      let all = risen ends keys infos (λ (t : Term). t.1.positions_end - t.1.positions_start) (positions_start infos) (suc n)
      (λ i h. let up = are.positions i h in omega (arith, up)) in
      let first = are.first_positions (omega arith) in
      let last : positions_end (last_term None (terms_in ends keys infos (suc n))) ≡ positions_start infos (n + 1) =
      ap positions_end (last_term-terms_in ends keys infos n) in
      let next : positions_start infos (n + 1) ≡ positions_start infos (suc n) = ap (positions_start infos) (add-one n) in
      omega (arith, all, first, last, next)

pub postings_fill : (bytes : List ℕ) → IsDictionary bytes
    → sum_by (λ (t : Term). t.1.postings_end - t.1.postings_start) (terms_of bytes) ≡ postings_end (last_term None (terms_of bytes))
unfolding terms_of
postings_fill bytes is = postings_together (ends_of bytes) (keys_of bytes) (infos_of bytes) (count_of bytes) is.infos

pub positions_fill : (bytes : List ℕ) → IsDictionary bytes
    → sum_by (λ (t : Term). t.1.positions_end - t.1.positions_start) (terms_of bytes) ≡ positions_end (last_term None (terms_of bytes))
unfolding terms_of
positions_fill bytes is = positions_together (ends_of bytes) (keys_of bytes) (infos_of bytes) (count_of bytes) is.infos
