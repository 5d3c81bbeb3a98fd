-- Where rows end, file by file and as a file has it.
use Rattle.std.proofs.Common.{◌≡◌, ℕ, zero, suc, ◌+◌, ◌-◌, ◌*◌, ◌^◌, ◌<◌, ◌≤◌, List, [], ◌∷◌, ◌++◌, length, take, drop, map, get_or, replicate, Option, Some, None, refl, sym, ap, subst, ◌∙◌, arith, append_assoc}
use Rattle.std.specs.Prelude.{IsSome, IfOk, OnOk, Result, Ok, Err}
use Rattle.std.specs.Int.{w64, to_le_bytes}
use Rattle.std.specs.List.{filter_map, range_with_len, cons_option}
use Rattle.std.proofs.lemmas.Bool.{false≢true}
use Rattle.std.proofs.lemmas.List.{append-nil, append_cancel_right, drop_all, drop-drop, length-drop, length-map, length-take-le, map-append, take-append-drop}
use Rattle.std.proofs.lemmas.List.Concat.{flat_map-append}
use Rattle.std.proofs.lemmas.List.FromFn.{get_or-map-range_with_len, length-range_with_len, map-range_with_len_more}
use Rattle.std.proofs.lemmas.Nat.{le_bytes_8}
use Rattle.seg_common.specs.LittleEndian.{u64_at}
use Rattle.seg_columns.specs.Columns.{AreKnown, IsColumn, row_of, rows_of, value_at}
use Rattle.seg_columns.specs.Ends.{start_at}
use Rattle.seg_columns.proofs.DocumentValues.{known}
use Rattle.seg_column_format.specs.ColumnBytes.{ends_from, number_bytes, total}
use Rattle.seg_column_format.proofs.PartEnds.{total-append}
use Rattle.seg_column_file.specs.RowOrders.{Place, rows_from, stacked}
use Rattle.seg_column_merge_parts.specs.SourceRows.{AddsEnds, first_rows, joined, row_codes}
use Rattle.seg_column_merge_parts.specs.declared.source.Source.{Source}
use Rattle.seg_column_merge_parts.specs.declared.source.Source.TheVariants.{Nothing}
use Rattle.seg_column_merge_parts.proofs.FirstRows.{later, next_file}
use Rattle.seg_column_merge_parts.proofs.RowValueBytes.{AreOctets, no_start, octets_left, octets_taken}

-- ---- of several lists of rows

pub ends-append : {X : Type 0} (before : ℕ) (some more : List (List X))
    → ends_from before (some ++ more) ≡ ends_from before some ++ ends_from (before + total some) more
ends-append before [] more = let same : before ≡ before + 0 = omega arith in ap (λ n. ends_from n more) same
ends-append before (row ∷ some) more =
    let same : before + length row + total some ≡ before + (length row + total some) = omega arith in
    ap (λ (l : List ℕ). (before + length row) ∷ l) (ends-append (before + length row) some more)
    ∙ ap (λ n. (before + length row) ∷ (ends_from (before + length row) some ++ ends_from n more)) same

-- ---- file by file

module _ (sources : List Source) (counts : List ℕ) (file : ℕ) (lt : file < length counts) where
  abbrev here : List (List (List ℕ))
  here = joined sources (rows_from file 0 (get_or counts file 0))

  abbrev rest : List (List (List ℕ))
  rest = joined sources (later counts file)

  both : joined sources (stacked file (drop file counts)) ≡ here ++ rest
  both =
      ap (joined sources) (next_file counts file lt)
      ∙ map-append (λ (p : Place). row_codes (get_or sources p.0 Nothing) p.1) (rows_from file 0 (get_or counts file 0))
      (later counts file)

  pub ends_of_file : (end next : ℕ) (out after start : List ℕ) → AddsEnds here end out after next
      → out ++ number_bytes (ends_from end (joined sources (stacked file (drop file counts)))) ≡ start
      → after ++ number_bytes (ends_from next rest) ≡ start
  ends_of_file end next out after start adds all =
      let first = number_bytes (ends_from end here) in
      ap (λ (l : List ℕ). l ++ number_bytes (ends_from next rest)) adds.ends
      ∙ append_assoc out first (number_bytes (ends_from next rest))
      ∙ ap (λ n. out ++ (first ++ number_bytes (ends_from n rest))) adds.all
      ∙ ap (λ (l : List ℕ). out ++ l)
      (sym (flat_map-append (to_le_bytes w64) (ends_from end here) (ends_from (end + total here) rest)))
      ∙ ap (λ (l : List ℕ). out ++ number_bytes l) (sym (ends-append end here rest))
      ∙ ap (λ (rows : List (List (List ℕ))). out ++ number_bytes (ends_from end rows)) (sym both)
      ∙ all

  pub total_of_file : (end next all : ℕ) (out after : List ℕ) → AddsEnds here end out after next
      → end + total (joined sources (stacked file (drop file counts))) ≡ all → next + total rest ≡ all
  total_of_file end next all out after adds sum =
      let split : total (joined sources (stacked file (drop file counts))) ≡ total here + total rest =
      ap total both ∙ total-append here rest in
      omega (arith, adds.all, split, sum)

-- no file is left
module _ (sources : List Source) (counts : List ℕ) (file : ℕ) (le : length counts ≤ file) where
  none_left : joined sources (stacked file (drop file counts)) ≡ []
  none_left = ap (λ (cs : List ℕ). joined sources (stacked file cs)) (drop_all file counts le)

  pub all_ends : (end : ℕ) (out start : List ℕ)
      → out ++ number_bytes (ends_from end (joined sources (stacked file (drop file counts)))) ≡ start → out ≡ start
  all_ends end out start all =
      sym (append-nil out)
      ∙ ap (λ (rows : List (List (List ℕ))). out ++ number_bytes (ends_from end rows)) (sym none_left) ∙ all

  pub all_counted : (end all : ℕ) → end + total (joined sources (stacked file (drop file counts))) ≡ all → end ≡ all
  all_counted end all sum = let none = ap total none_left in omega (arith, none, sum)

-- ---- rows without a value

pub same_ends : (before : ℕ) (rows : List ℕ)
    → ends_from before (map (row_codes Nothing) rows) ≡ replicate (length rows) before
same_ends before [] = refl
same_ends before (row ∷ rows) =
    let same : before + 0 ≡ before = omega arith in
    (λ i. same i ∷ ends_from (same i) (map (row_codes Nothing) rows))
    ∙ ap (λ (l : List ℕ). before ∷ l) (same_ends before rows)

pub no_values : (rows : List ℕ) → total (map (row_codes Nothing) rows) ≡ 0
no_values [] = refl
no_values (row ∷ rows) = omega (arith, no_values rows)

-- ---- the rows of a column

counted : {T : Type 0} (value : ℕ → Option T) (start n : ℕ) → ((k : ℕ) → k < start + n → IsSome (value k))
    → length (filter_map value (range_with_len start n)) ≡ n
counted value start zero known = refl
counted {T = T} value start (suc n) known =
    one (value start) (known start (omega arith)) (filter_map value (range_with_len (start + 1) n))
    (counted value (start + 1) n (λ k lt. known k (omega (arith, lt))))
  where
    one : (r : Option T) → IsSome r → (rest : List T) → length rest ≡ n → length (cons_option r rest) ≡ suc n
    one (Some x) some rest long = ap suc long
    one None some rest long = absurd (false≢true some)

abbrev pub ends_after : ℕ → List ℕ → ℕ → ℕ → List ℕ
ends_after before bytes row count = map (λ r. before + start_at bytes (r + 1)) (range_with_len row count)

module _ {T : Type 0} (width : ℕ) (decoded : List ℕ → Option T) (code : T → List ℕ) (docs : ℕ) (bytes : List ℕ)
    (is : IsColumn width decoded docs bytes) where
  abbrev rows : List (List T)
  rows = rows_of width decoded docs bytes

  row_counted : (row : ℕ) → row < docs
      → start_at bytes row + length (row_of width decoded docs bytes row) ≡ start_at bytes (row + 1)
  unfolding row_of
  row_counted row lt =
      let start = start_at bytes row in
      let end = start_at bytes (row + 1) in
      let rise = is.rise row lt in
      let whole : start + (end - start) ≡ end = omega (arith, rise) in
      let many = counted (value_at width decoded (drop (8 * docs) bytes)) start (end - start)
      (subst (AreKnown width decoded (drop (8 * docs) bytes)) (sym whole)
      (known width decoded docs bytes is (row + 1) (omega (arith, lt)))) in
      omega (arith, whole, many)

  abbrev codes : ℕ → List (List ℕ)
  codes r = map code (get_or rows r [])

  codes_counted : (row : ℕ) → row < docs → start_at bytes row + length (codes row) ≡ start_at bytes (row + 1)
  codes_counted row lt =
      let here : get_or rows row [] ≡ row_of width decoded docs bytes row =
      get_or-map-range_with_len (row_of width decoded docs bytes) 0 docs row row [] lt (omega arith) in
      let long : length (codes row) ≡ length (row_of width decoded docs bytes row) =
      length-map (get_or rows row []) code ∙ ap length here in
      omega (arith, long, row_counted row lt)

  ends_on : (before row count : ℕ) → row + count ≤ docs
      → ends_from (before + start_at bytes row) (map codes (range_with_len row count))
      ≡ ends_after before bytes row count
  ends_on before row zero fits = refl
  ends_on before row (suc count) fits =
      let end : before + start_at bytes row + length (codes row) ≡ before + start_at bytes (row + 1) =
      omega (arith, codes_counted row (omega (arith, fits))) in
      (λ i. end i ∷ ends_from (end i) (map codes (range_with_len (row + 1) count)))
      ∙ ap (λ (l : List ℕ). (before + start_at bytes (row + 1)) ∷ l)
      (ends_on before (row + 1) count (omega (arith, fits)))

  values_on : (row count : ℕ) → row + count ≤ docs
      → start_at bytes row + total (map codes (range_with_len row count)) ≡ start_at bytes (row + count)
  values_on row zero fits =
      let same : row + 0 ≡ row = omega arith in
      omega (arith, ap (start_at bytes) same)
  values_on row (suc count) fits =
      let next : row + 1 + count ≡ row + suc count = omega arith in
      omega (
        arith,
        codes_counted row (omega (arith, fits)),
        values_on (row + 1) count (omega (arith, fits)),
        ap (start_at bytes) next,
      )

  -- the ends and how many values there are, where they are added as the file has them
  pub adds_ends : (before count : ℕ) (old new : List ℕ) (end : ℕ) → count ≤ docs
      → new ≡ old ++ number_bytes (ends_after before bytes 0 count) → end ≡ before + start_at bytes count → end < 2 ^ 64
      → AddsEnds (map codes (range_with_len 0 count)) before old new end
  adds_ends before count old new end fits put all few =
      let none : before ≡ before + start_at bytes 0 = omega (arith, no_start bytes) in
      let same : 0 + count ≡ count = omega arith in
      record {
        ends = put
            ∙ ap (λ (l : List ℕ). old ++ number_bytes l) (sym (ends_on before 0 count (omega (arith, fits))))
            ∙ ap (λ n. old ++ number_bytes (ends_from n (map codes (range_with_len 0 count)))) (sym none);
        all = omega (arith, all, no_start bytes, values_on 0 count (omega (arith, fits)), ap (start_at bytes) same);
        fits = few;
      }

-- ---- the bytes of ends as they stand

module _ (bytes : List ℕ) (small : AreOctets bytes) where
  one_end : (row : ℕ) → 8 * row + 8 ≤ length bytes
      → to_le_bytes w64 (start_at bytes (row + 1)) ≡ take 8 (drop (8 * row) bytes)
  unfolding start_at u64_at
  one_end row fits =
      let part = take 8 (drop (8 * row) bytes) in
      let next : row + 1 ≡ suc row = omega arith in
      le_bytes_8 part (start_at bytes (row + 1))
      (length-take-le 8 (drop (8 * row) bytes) (omega (arith, fits, length-drop (8 * row) bytes)))
      (octets_taken 8 (drop (8 * row) bytes) (octets_left (8 * row) bytes small)) (ap (start_at bytes) next)

  ends_stand : (row count : ℕ) → 8 * (row + count) ≤ length bytes
      → drop (8 * row) bytes ≡ number_bytes (ends_after 0 bytes row count) ++ drop (8 * (row + count)) bytes
  ends_stand row zero fits =
      let same : row ≡ row + 0 = omega arith in ap (λ (k : ℕ). drop (8 * k) bytes) same
  ends_stand row (suc count) fits =
      let next : row + 1 + count ≡ row + suc count = omega arith in
      let step : 8 * row + 8 ≡ 8 * (row + 1) = omega arith in
      let none : start_at bytes (row + 1) ≡ 0 + start_at bytes (row + 1) = omega arith in
      let part = take 8 (drop (8 * row) bytes) in
      let rest = number_bytes (ends_after 0 bytes (row + 1) count) in
      let left = drop (8 * (row + suc count)) bytes in
      sym (take-append-drop 8 (drop (8 * row) bytes))
      ∙ ap (λ (l : List ℕ). part ++ l) (drop-drop 8 (8 * row) bytes)
      ∙ (λ i. sym (one_end row (omega (arith, fits))) i ++ drop (step i) bytes)
      ∙ ap (λ (l : List ℕ). to_le_bytes w64 (start_at bytes (row + 1)) ++ l)
      (ends_stand (row + 1) count (omega (arith, fits)))
      ∙ ap (λ (k : ℕ). to_le_bytes w64 (start_at bytes (row + 1)) ++ (rest ++ drop (8 * k) bytes)) next
      ∙ sym (append_assoc (to_le_bytes w64 (start_at bytes (row + 1))) rest left)
      ∙ ap (λ (n : ℕ). (to_le_bytes w64 n ++ rest) ++ left) none

  pub first_ends : (count : ℕ) → 8 * count ≤ length bytes
      → take (8 * count) bytes ≡ number_bytes (ends_after 0 bytes 0 count)
  first_ends count fits =
      let same : 0 + count ≡ count = omega arith in
      append_cancel_right (take (8 * count) bytes) (number_bytes (ends_after 0 bytes 0 count)) (drop (8 * count) bytes)
      (take-append-drop (8 * count) bytes
      ∙ ends_stand 0 count (omega (arith, fits))
      ∙ ap (λ (k : ℕ). number_bytes (ends_after 0 bytes 0 count) ++ drop (8 * k) bytes) same)

-- one more end, raised
pub one_more_end : (before : ℕ) (bytes : List ℕ) (row next : ℕ) (start out after : List ℕ)
    → out ≡ start ++ number_bytes (ends_after before bytes 0 row) → next ≡ before + start_at bytes (row + 1)
    → after ≡ out ++ to_le_bytes w64 next → after ≡ start ++ number_bytes (ends_after before bytes 0 (row + 1))
one_more_end before bytes row next start out after done is put =
    let f : ℕ → ℕ = λ r. before + start_at bytes (r + 1) in
    let so_far = ends_after before bytes 0 row in
    put
    ∙ (λ i. done i ++ to_le_bytes w64 (is i))
    ∙ append_assoc start (number_bytes so_far) (to_le_bytes w64 (f row))
    ∙ ap (λ (l : List ℕ). start ++ (number_bytes so_far ++ l)) (sym (append-nil (to_le_bytes w64 (f row))))
    ∙ ap (λ (l : List ℕ). start ++ l) (sym (flat_map-append (to_le_bytes w64) so_far (f row ∷ [])))
    ∙ ap (λ (l : List ℕ). start ++ number_bytes l) (sym (map-range_with_len_more f 0 row row (omega arith)))

-- ---- what is added, by the answer

pub no_rows_end : (before : ℕ) (out : List ℕ) → before < 2 ^ 64 → AddsEnds [] before out out before
no_rows_end before out few = record { ends = sym (append-nil out); all = omega arith; fits = few }

pub adds_same_ends : {E : Type 0} (count before : ℕ) (old new : List ℕ) (r : Result ℕ E)
    → OnOk r (new ≡ old ++ number_bytes (replicate count before)) → IfOk r (λ end. end ≡ before) → before < 2 ^ 64
    → IfOk r (AddsEnds (first_rows Nothing count) before old new)
adds_same_ends count before old new (Err e) put all few = tt
adds_same_ends count before old new (Ok end) put all few =
    let rows = range_with_len 0 count in
    let same : replicate count before ≡ ends_from before (map (row_codes Nothing) rows) =
    ap (λ n. replicate n before) (sym (length-range_with_len 0 count)) ∙ sym (same_ends before rows) in
    record {
      ends = put ∙ ap (λ (l : List ℕ). old ++ number_bytes l) same;
      all = omega (arith, all, no_values rows);
      fits = subst (λ (n : ℕ). n < 2 ^ 64) (sym all) few;
    }

pub all_ends_added : {T E : Type 0} (width : ℕ) (decoded : List ℕ → Option T) (code : T → List ℕ) (seen : List (List T))
    (bytes : List ℕ) → IsColumn width decoded (length seen) bytes → rows_of width decoded (length seen) bytes ≡ seen
    → (count : ℕ) → count ≤ length seen → (before : ℕ) (old new : List ℕ) (r : Result ℕ E)
    → OnOk r (new ≡ old ++ number_bytes (ends_after before bytes 0 count))
    → IfOk r (λ end. end ≡ before + start_at bytes count) → IfOk r (λ end. end < 2 ^ 64)
    → IfOk r (AddsEnds (map (λ row. map code (get_or seen row [])) (range_with_len 0 count)) before old new)
all_ends_added width decoded code seen bytes is are count fits before old new (Err e) put all few = tt
all_ends_added {T = T} width decoded code seen bytes is are count fits before old new (Ok end) put all few =
    subst (λ (rs : List (List T)). AddsEnds (map (λ row. map code (get_or rs row [])) (range_with_len 0 count)) before old
    new end) are
    (adds_ends width decoded code (length seen) bytes is before count old new end fits put all few)
