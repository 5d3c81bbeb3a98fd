-- The table of lengths has the length of each id, and these ascend.
use Rattle.std.proofs.Common.{◌≡◌, ℕ, zero, suc, ◌+◌, ◌-◌, ◌<◌, ◌≤◌, List, length, map, refl, ap, sym, ◌∙◌, arith, true, nat_lt, Bool, get_or, inl, inr, ◌⊎◌, ◌≢◌}
use Rattle.std.proofs.lemmas.Bool.{cases_lt, cases_eq, le-leb, lt-leb, ltb-true}
use Rattle.std.specs.List.{range_with_len, list_all}
use Rattle.std.proofs.lemmas.List.FromFn.{get_or-map-range_with_len, get_or-range_with_len}
use Rattle.std.proofs.lemmas.List.Sums.{AllPass-from_list_all}
use Rattle.seg_model.specs.Norms.{length_of_id, greatest_id, length_id}
use Rattle.seg_norms.specs.declared.field_norm_id.TheConstants.{LENGTHS}

lengths_are : LENGTHS ≡ map length_of_id (range_with_len 0 256)
lengths_are = refl

-- the length at a place of the table
pub length_at : (id : ℕ) → id < 256 → get_or LENGTHS id 0 ≡ length_of_id id
length_at id small = ap (λ (ls : List ℕ). get_or ls id 0) lengths_are ∙ get_or-map-range_with_len length_of_id 0 256 id id 0 small (omega arith)

abbrev next_is_longer : ℕ → Bool
next_is_longer i = nat_lt (length_of_id i) (length_of_id (suc i))

all_rise : list_all next_is_longer (range_with_len 0 255) ≡ true
all_rise = refl

rises : (i : ℕ) → i < 255 → length_of_id i < length_of_id (suc i)
rises i small =
    let plus : 0 + i ≡ i = omega arith in
    let at : get_or (range_with_len 0 255) i 0 ≡ i = get_or-range_with_len 0 255 i 0 small ∙ plus in
    let passes : next_is_longer i ≡ true = ap next_is_longer (sym at) ∙ AllPass-from_list_all next_is_longer (range_with_len 0 255) all_rise i 0 small in
    ltb-true (length_of_id i) (length_of_id (suc i)) passes

-- a later id stands for a greater length
pub later_is_longer : (i j : ℕ) → i < j → j < 256 → length_of_id i < length_of_id j
later_is_longer i zero lt small = absurd (omega (arith, lt))
later_is_longer i (suc j) lt small =
    let last = rises j (omega (arith, small)) in
    elim (cases_eq i j) [
      | inl e ↦ let same : length_of_id i ≡ length_of_id j = ap length_of_id e in omega (arith, same, last)
      | inr ne ↦ let before = later_is_longer i j (omega (arith, ne, lt)) (omega (arith, small)) in omega (arith, before, last)
    ]

-- the greatest id of those up to `last` whose length is at most a number
pub greatest_is : (n last id : ℕ) → id ≤ last → length_of_id id ≤ n → ((j : ℕ) → id < j → j ≤ last → n < length_of_id j) → greatest_id n last ≡ id
greatest_is n zero id within short above = omega (arith, within)
greatest_is n (suc last) id within short above =
    elim (cases_lt n (length_of_id (suc last))) [
      | inl lt ↦ rw (lt-leb (length_of_id (suc last)) n lt) (greatest_is n last id (smaller lt (cases_eq id (suc last))) short (λ j a b. above j a (omega (arith, b))))
      | inr le ↦ rw (le-leb (length_of_id (suc last)) n le) (the_last le (cases_lt id (suc last)))
    ]
  where
    smaller : n < length_of_id (suc last) → (id ≡ suc last) ⊎ (id ≢ suc last) → id ≤ last
    smaller lt (inl e) = absurd (let same : length_of_id id ≡ length_of_id (suc last) = ap length_of_id e in omega (arith, same, lt, short))
    smaller lt (inr ne) = omega (arith, ne, within)

    the_last : length_of_id (suc last) ≤ n → (id < suc last) ⊎ (suc last ≤ id) → suc last ≡ id
    the_last le (inl lt) = absurd (let more = above (suc last) lt (omega arith) in omega (arith, more, le))
    the_last le (inr ge) = omega (arith, ge, within)

-- the id of a length, by its neighbours in the table
pub id_is : (n id : ℕ) → id < 256 → length_of_id id ≤ n → ((j : ℕ) → id < j → j < 256 → n < length_of_id j) → length_id n ≡ id
unfolding length_id
id_is n id small short above = greatest_is n 255 id (omega (arith, small)) short (λ j a b. above j a (omega (arith, b)))

-- the table ascends
pub table_ascends : (i j : ℕ) → i ≤ j → j < length LENGTHS → get_or LENGTHS i 0 ≤ get_or LENGTHS j 0
table_ascends i j le small = rw (length_at i (omega (arith, le, small)), length_at j (omega (arith, small))) (by_order (cases_eq i j))
  where
    by_order : (i ≡ j) ⊎ (i ≢ j) → length_of_id i ≤ length_of_id j
    by_order (inl e) = let same : length_of_id i ≡ length_of_id j = ap length_of_id e in omega (arith, same)
    by_order (inr ne) = let longer = later_is_longer i j (omega (arith, ne, le)) small in omega (arith, longer)

-- the id of a length that is in the table
pub id_of_listed : (n id : ℕ) → id < length LENGTHS → get_or LENGTHS id 0 ≡ n → id ≡ length_id n
id_of_listed n id small is =
    let at : length_of_id id ≡ n = sym (length_at id small) ∙ is in
    sym (id_is n id small (omega (arith, at)) (λ j a b. let longer = later_is_longer id j a b in omega (arith, at, longer)))

-- the first place above a length isn't the first of all
pub not_first : (n above : ℕ) → ((k : ℕ) → above ≤ k → k < length LENGTHS → n < get_or LENGTHS k 0) → 1 ≤ above
not_first n zero later = absurd (let first : n < get_or LENGTHS 0 0 = later 0 (omega arith) (omega arith) in omega (arith, first))
not_first n (suc above) later = omega arith

-- the id of a length between two of the table
pub id_below : (n above : ℕ) → above ≤ length LENGTHS → ((k : ℕ) → k < above → get_or LENGTHS k 0 < n) → ((k : ℕ) → above ≤ k → k < length LENGTHS → n < get_or LENGTHS k 0) → above - 1 ≡ length_id n
id_below n zero within before later = absurd (let first : n < get_or LENGTHS 0 0 = later 0 (omega arith) (omega arith) in omega (arith, first))
id_below n (suc last) within before later =
    let e : suc last - 1 ≡ last = omega arith in
    let short : length_of_id last < n = rw (sym (length_at last (omega (arith, within)))) (before last (omega arith)) in
    e ∙ sym (id_is n last (omega (arith, within)) (omega (arith, short)) (λ j a b. rw (sym (length_at j b)) (later j (omega (arith, a)) b)))
