-- The bytes of a column's values are those of its rows, one after the other.
use Rattle.std.proofs.Common.{◌≡◌, ℕ, zero, suc, ◌+◌, ◌-◌, ◌*◌, ◌/◌, ◌%◌, ◌<◌, ◌≤◌, List, [], ◌∷◌, ◌++◌, length, take, drop, map, get_or, Option, Some, None, refl, sym, ap, subst, ◌∙◌, arith, append_assoc, mul-add, mul-zero}
use Rattle.std.specs.Prelude.{IsSome, slice_range}
use Rattle.std.specs.Int.{w64, to_le_bytes, from_le_bytes}
use Rattle.std.specs.List.{flat_map, filter_map, range_with_len, cons_option}
use Rattle.std.specs.Net.Addr.{ipv6_octets, segments_of, octets_of}
use Rattle.std.proofs.Math.Nat.{mul-le-mul_left}
use Rattle.std.proofs.lemmas.Bool.{false≢true}
use Rattle.std.proofs.lemmas.List.{append_cancel_right, drop-drop, get_or-drop, length-drop, length-take-le, take_all}
use Rattle.std.proofs.lemmas.List.Folds.{drop_split}
use Rattle.std.proofs.lemmas.List.FromFn.{take-map-range_with_len}
use Rattle.std.proofs.lemmas.Nat.{le_bytes_8}
use Rattle.std.proofs.lemmas.Option.{same_Some}
use Rattle.seg_common.specs.LittleEndian.{u64_at}
use Rattle.seg_columns.specs.Addresses.{address, address_of}
use Rattle.seg_columns.specs.Columns.{AreKnown, IsColumn, row_of, rows_of, value_at}
use Rattle.seg_columns.specs.Ends.{start_at}
use Rattle.seg_columns.specs.ValueImages.{unsigned}
use Rattle.seg_columns.proofs.DocumentValues.{within, known}

abbrev pub AreOctets : List ℕ → Type 0
AreOctets bytes = (i : ℕ) → get_or bytes i 0 < 256

pub octets_taken : (n : ℕ) (bytes : List ℕ) → AreOctets bytes → AreOctets (take n bytes)
octets_taken zero bytes small i = omega arith
octets_taken (suc n) [] small i = omega arith
octets_taken (suc n) (b ∷ bytes) small zero = small 0
octets_taken (suc n) (b ∷ bytes) small (suc i) = octets_taken n bytes (λ k. small (suc k)) i

pub octets_left : (n : ℕ) (bytes : List ℕ) → AreOctets bytes → AreOctets (drop n bytes)
octets_left n bytes small i = subst (λ (b : ℕ). b < 256) (sym (get_or-drop n bytes i 0)) (small (n + i))

octets_between : (bytes : List ℕ) (start end : ℕ) → AreOctets bytes → AreOctets (slice_range bytes start end)
octets_between bytes start end small =
    octets_taken (end - start) (drop start bytes) (octets_left start bytes small)

pub no_start : (bytes : List ℕ) → start_at bytes 0 ≡ 0
unfolding start_at
no_start bytes = refl

-- each value is written as the bytes that it was read from
abbrev pub IsWrittenAgain : {T : Type 0} → ℕ → (List ℕ → Option T) → (T → List ℕ) → Type 0
IsWrittenAgain {T = T} width decoded encoded =
    (part : List ℕ) (x : T) → length part ≡ width → AreOctets part → decoded part ≡ Some x → encoded x ≡ part

pub fits : {T : Type 0} (width : ℕ) (decoded : List ℕ → Option T) (docs : ℕ) (bytes : List ℕ)
    → IsColumn width decoded docs bytes → (count : ℕ) → count ≤ docs
    → 8 * docs + width * start_at bytes count ≤ length bytes
fits width decoded docs bytes is count le =
    omega (arith, is.ends, within width decoded docs bytes is count le, length-drop (8 * docs) bytes)

module _ {T : Type 0} (width : ℕ) (decoded : List ℕ → Option T) (encoded : T → List ℕ)
    (again : IsWrittenAgain width decoded encoded) where
  one : (values : List ℕ) → AreOctets values → (place : ℕ) → width * place + width ≤ length values
      → (r : Option T) → value_at width decoded values place ≡ r → IsSome r → (rest : List T)
      → slice_range values (width * place) (width * place + width) ++ flat_map encoded rest
      ≡ flat_map encoded (cons_option r rest)
  unfolding value_at
  one values small place fits (Some x) is some rest =
      let part = slice_range values (width * place) (width * place + width) in
      let count : width * place + width - width * place ≡ width = omega arith in
      let long : length part ≡ width =
      length-take-le (width * place + width - width * place) (drop (width * place) values)
      (omega (arith, count, fits, length-drop (width * place) values)) ∙ count in
      ap (λ (l : List ℕ). l ++ flat_map encoded rest)
      (sym (again part x long (octets_between values (width * place) (width * place + width) small) is))
  one values small place fits None is some rest = absurd (false≢true some)

  values_from : (values : List ℕ) → AreOctets values → (start n : ℕ) → width * (start + n) ≤ length values
      → AreKnown width decoded values (start + n)
      → drop (width * start) values
      ≡ flat_map encoded (filter_map (value_at width decoded values) (range_with_len start n))
      ++ drop (width * (start + n)) values
  values_from values small start zero fits all =
      let same : start ≡ start + 0 = omega arith in ap (λ (k : ℕ). drop (width * k) values) same
  values_from values small start (suc n) fits all =
      let next : start + suc n ≡ start + 1 + n = omega arith in
      let step : width * (start + 1) ≡ width * start + width = omega (arith, mul-add width start 1) in
      let below : width * (start + 1) ≤ width * (start + suc n) = mul-le-mul_left width (omega arith) in
      let rest : List T = filter_map (value_at width decoded values) (range_with_len (start + 1) n) in
      let part = slice_range values (width * start) (width * start + width) in
      let left = drop (width * (start + suc n)) values in
      drop_split values (width * start) (width * start + width) (omega arith)
      ∙ ap (λ (k : ℕ). part ++ drop k values) (sym step)
      ∙ ap (λ (l : List ℕ). part ++ l)
      (values_from values small (start + 1) n (subst (λ (k : ℕ). width * k ≤ length values) next fits)
      (subst (AreKnown width decoded values) next all))
      ∙ ap (λ (k : ℕ). part ++ (flat_map encoded rest ++ drop (width * k) values)) (sym next)
      ∙ sym (append_assoc part (flat_map encoded rest) left)
      ∙ ap (λ (l : List ℕ). l ++ left)
      (one values small start (omega (arith, fits, step, below)) (value_at width decoded values start) refl
      (all start (omega arith)) rest)

  module _ (docs : ℕ) (bytes : List ℕ) (small : AreOctets bytes) (is : IsColumn width decoded docs bytes) where
    rows_from : (k n : ℕ) → k + n ≤ docs
        → drop (width * start_at bytes k) (drop (8 * docs) bytes)
        ≡ flat_map (flat_map encoded) (map (row_of width decoded docs bytes) (range_with_len k n))
        ++ drop (width * start_at bytes (k + n)) (drop (8 * docs) bytes)
    unfolding row_of
    rows_from k zero fits =
        let same : k ≡ k + 0 = omega arith in
        ap (λ (m : ℕ). drop (width * start_at bytes m) (drop (8 * docs) bytes)) same
    rows_from k (suc n) fits =
        let next : k + 1 + n ≡ k + suc n = omega arith in
        let start = start_at bytes k in
        let end = start_at bytes (k + 1) in
        let rise = is.rise k (omega (arith, fits)) in
        let whole : start + (end - start) ≡ end = omega (arith, rise) in
        let row : List ℕ =
        flat_map encoded (filter_map (value_at width decoded (drop (8 * docs) bytes)) (range_with_len start (end - start))) in
        let rest : List ℕ =
        flat_map (flat_map encoded) (map (row_of width decoded docs bytes) (range_with_len (k + 1) n)) in
        let left = drop (width * start_at bytes (k + suc n)) (drop (8 * docs) bytes) in
        values_from (drop (8 * docs) bytes) (octets_left (8 * docs) bytes small) start (end - start)
        (subst (λ (m : ℕ). width * m ≤ length (drop (8 * docs) bytes)) (sym whole)
        (within width decoded docs bytes is (k + 1) (omega (arith, fits))))
        (subst (AreKnown width decoded (drop (8 * docs) bytes)) (sym whole)
        (known width decoded docs bytes is (k + 1) (omega (arith, fits))))
        ∙ ap (λ (m : ℕ). row ++ drop (width * m) (drop (8 * docs) bytes)) whole
        ∙ ap (λ (l : List ℕ). row ++ l) (rows_from (k + 1) n (omega (arith, fits)))
        ∙ ap (λ (m : ℕ). row ++ (rest ++ drop (width * start_at bytes m) (drop (8 * docs) bytes))) next
        ∙ sym (append_assoc row rest left)

    -- the values of the first rows are the first bytes after the ends
    pub first_rows : (count : ℕ) → count ≤ docs
        → slice_range bytes (8 * docs) (8 * docs + width * start_at bytes count)
        ≡ flat_map (flat_map encoded) (take count (rows_of width decoded docs bytes))
    first_rows count fits =
        let size = width * start_at bytes count in
        let first = flat_map (flat_map encoded) (map (row_of width decoded docs bytes) (range_with_len 0 count)) in
        let none : width * start_at bytes 0 ≡ 0 = ap (λ (n : ℕ). width * n) (no_start bytes) ∙ mul-zero width in
        let same : 0 + count ≡ count = omega arith in
        let all : drop (8 * docs) bytes ≡ first ++ drop (8 * docs + size) bytes =
        ap (λ (m : ℕ). drop m (drop (8 * docs) bytes)) (sym none)
        ∙ rows_from 0 count (omega (arith, fits))
        ∙ ap (λ (m : ℕ). first ++ drop (width * start_at bytes m) (drop (8 * docs) bytes)) same
        ∙ ap (λ (l : List ℕ). first ++ l) (drop-drop size (8 * docs) bytes) in
        append_cancel_right (slice_range bytes (8 * docs) (8 * docs + size)) first (drop (8 * docs + size) bytes)
        (sym (drop_split bytes (8 * docs) (8 * docs + size) (omega arith)) ∙ all)
        ∙ ap (flat_map (flat_map encoded))
        (sym (take-map-range_with_len (row_of width decoded docs bytes) 0 docs count fits))

-- ---- numbers and addresses

pub number_again : IsWrittenAgain 8 unsigned (to_le_bytes w64)
unfolding u64_at
number_again part x long small read =
    le_bytes_8 part x long small
    (sym (same_Some (from_le_bytes w64 (take 8 part)) x read) ∙ ap (from_le_bytes w64) (take_all 8 part (omega (arith, long))))

octets_kept : (n : ℕ) (xs : List ℕ) → length xs ≡ 2 * n → AreOctets xs → octets_of (segments_of xs) ≡ xs
octets_kept n [] even small = refl
octets_kept n (a ∷ []) even small = absurd (omega arith)
octets_kept n (a ∷ b ∷ xs) even small =
    let low : b < 256 = small 1 in
    let high : (a * 256 + b) / 256 ≡ a = omega arith in
    let rest : (a * 256 + b) % 256 ≡ b = omega arith in
    λ i. high i ∷ rest i ∷ octets_kept (n - 1) xs (omega arith) (λ k. small (suc (suc k))) i

pub address_again : IsWrittenAgain 16 address ipv6_octets
address_again part x long small read =
    ap ipv6_octets (sym (same_Some (address_of part) x read)) ∙ octets_kept 8 part (omega (arith, long)) small
