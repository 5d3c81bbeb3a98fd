-- The numbers in a column, and the values that they stand for.
use Rattle.std.proofs.Common.{◌≡◌, ℕ, zero, suc, ◌+◌, ◌*◌, ◌-◌, ◌<◌, ◌≤◌, Bool, true, false, List, ◌∷◌, map, drop, Option, Some, None, refl, sym, ap, ◌∙◌, arith}
use Rattle.std.specs.Prelude.{IsSome, if◌then◌else◌, option_map, slice_range}
use Rattle.std.specs.List.{filter_map, range_with_len, cons_option}
use Rattle.std.proofs.lemmas.Bool.{false≢true}
use Rattle.std.proofs.lemmas.Bool.Decides.{nat_tests}
use Rattle.seg_common.specs.LittleEndian.{u64_at}
use Rattle.seg_common.specs.MappableValues.{bit, is_bit, is_one}
use Rattle.seg_columns.specs.Ends.{start_at}
use Rattle.seg_columns.specs.Columns.{IsColumn, value_at, row_of, rows_of}
use Rattle.seg_columns.specs.ValueImages.{unsigned, value_of_image}
use Rattle.seg_columns.proofs.DocumentValues.{known}

module _ {T : Type 0} (is_image : ℕ → Bool) (value_of : ℕ → T) (number : T → ℕ)
    (back : (n : ℕ) → is_image n ≡ true → number (value_of n) ≡ n) where
  of_image : (n : ℕ) (b : Bool) → b ≡ is_image n → IsSome (if b then Some (value_of n) else None)
      → option_map number (if b then Some (value_of n) else None) ≡ Some n
  of_image n true e some = ap Some (back n (sym e))
  of_image n false e some = absurd (false≢true some)

  of_value : (values : List ℕ) (k : ℕ) → IsSome (value_at 8 (value_of_image is_image value_of) values k)
      → option_map number (value_at 8 (value_of_image is_image value_of) values k) ≡ value_at 8 unsigned values k
  unfolding value_at
  of_value values k some =
      let n : ℕ = u64_at (slice_range values (8 * k) (8 * k + 8)) 0 in
      of_image n (is_image n) refl some

  one_more : (r : Option T) (q : Option ℕ) → IsSome r → option_map number r ≡ q → (rest : List T) (others : List ℕ)
      → others ≡ map number rest → cons_option q others ≡ map number (cons_option r rest)
  one_more (Some x) q some is rest others same =
      ap (λ (o : Option ℕ). cons_option o others) (sym is) ∙ ap (λ (l : List ℕ). number x ∷ l) same
  one_more None q some is rest others same = absurd (false≢true some)

  between : (values : List ℕ) (start n : ℕ)
      → ((k : ℕ) → k < start + n → IsSome (value_at 8 (value_of_image is_image value_of) values k))
      → filter_map (value_at 8 unsigned values) (range_with_len start n)
      ≡ map number (filter_map (value_at 8 (value_of_image is_image value_of) values) (range_with_len start n))
  between values start zero each = refl
  between values start (suc n) each =
      let some = each start (omega arith) in
      one_more (value_at 8 (value_of_image is_image value_of) values start) (value_at 8 unsigned values start) some
      (of_value values start some) _ _ (between values (start + 1) n (λ k lt. each k (omega (arith, lt))))

  module _ (docs : ℕ) (bytes : List ℕ) (is : IsColumn 8 (value_of_image is_image value_of) docs bytes) where
    pub are_numbers : IsColumn 8 unsigned docs bytes
    unfolding value_at
    are_numbers = record { ends = is.ends; rise = is.rise; fill = is.fill; known = λ k lt. refl }

    row : (doc : ℕ) → doc < docs
        → row_of 8 unsigned docs bytes doc ≡ map number (row_of 8 (value_of_image is_image value_of) docs bytes doc)
    unfolding row_of
    row doc lt =
        let start = start_at bytes doc in
        let end = start_at bytes (doc + 1) in
        let order = is.rise doc lt in
        between (drop (8 * docs) bytes) start (end - start)
        (λ k below. known 8 (value_of_image is_image value_of) docs bytes is (doc + 1) (omega (arith, lt)) k
        (omega (arith, below, order)))

    each_row : (from n : ℕ) → from + n ≤ docs
        → map (row_of 8 unsigned docs bytes) (range_with_len from n)
        ≡ map (map number) (map (row_of 8 (value_of_image is_image value_of) docs bytes) (range_with_len from n))
    each_row from zero le = refl
    each_row from (suc n) le =
        (λ j. row from (omega (arith, le)) j ∷ each_row (from + 1) n (omega (arith, le)) j)

    pub numbers_stand : rows_of 8 unsigned docs bytes ≡ map (map number)
        (rows_of 8 (value_of_image is_image value_of) docs bytes)
    numbers_stand = each_row 0 docs (omega arith)

pub bit-is_one : (n : ℕ) → is_bit n ≡ true → bit (is_one n) ≡ n
bit-is_one zero is = refl
bit-is_one (suc zero) is = refl
bit-is_one (suc (suc n)) is = absurd (false≢true (grind (arith, nat_tests)))
