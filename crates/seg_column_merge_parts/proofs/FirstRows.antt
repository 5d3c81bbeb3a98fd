-- The rows of a file from the first on.
use Rattle.std.proofs.Common.{◌≡◌, ℕ, zero, suc, ◌+◌, ◌-◌, ◌<◌, ◌≤◌, List, [], ◌∷◌, ◌++◌, length, take, drop, map, get_or, refl, sym, ap, subst, ◌∙◌, arith, append_assoc}
use Rattle.std.specs.Prelude.{All}
use Rattle.std.specs.List.{flat_map, range_with_len}
use Rattle.std.proofs.lemmas.List.{append-nil, drop_all, drop_more, get_or-take, length-take-le, map-append}
use Rattle.std.proofs.lemmas.List.Concat.{flat_map-append}
use Rattle.std.proofs.lemmas.List.Elements.{All-cons, All-head, All-nil, All-tail}
use Rattle.std.proofs.lemmas.List.FromFn.{fill_by_all, get_or-map-range_with_len, length-map-range_with_len, map-range_with_len_more}
use Rattle.seg_column_file.specs.RowOrders.{Place, rows_from, stacked}
use Rattle.seg_column_merge_parts.specs.SourceRows.{IsPut, first_rows, joined, row_codes}
use Rattle.seg_column_merge_parts.specs.declared.source.Source.{Source}
use Rattle.seg_column_merge_parts.specs.declared.source.Source.TheVariants.{Nothing}
use Rattle.seg_column_merge_parts.proofs.JoinedBytes.{flat_map-map}

-- the bytes of all values of some rows
abbrev pub row_bytes : List (List (List ℕ)) → List ℕ
row_bytes rows = flat_map (flat_map {X = List ℕ} {A = ℕ} (λ code. code)) rows

pub no_bytes : (rows : List ℕ) → [] ≡ row_bytes (map (row_codes Nothing) rows)
no_bytes [] = refl
no_bytes (row ∷ rows) = no_bytes rows

pub at_most : (long n : ℕ) → ((row : ℕ) → row < n → row < long) → n ≤ long
at_most long zero has = omega arith
at_most long (suc n) has = let last = has n (omega arith) in omega (arith, last)

-- ---- of values with bytes each

module _ {X : Type 0} (code : X → List ℕ) where
  in_a_row : (row : ℕ → List X) (rs : List ℕ)
      → row_bytes (map (λ r. map code (row r)) rs) ≡ flat_map (flat_map code) (map row rs)
  in_a_row row [] = refl
  in_a_row row (r ∷ rs) = λ j. flat_map-map {Y = List ℕ} (λ c. c) code (row r) j ++ in_a_row row rs j

  taken : (rows : List (List X)) (n : ℕ) → n ≤ length rows
      → take n rows ≡ map (λ r. get_or rows r []) (range_with_len 0 n)
  taken rows n le =
      fill_by_all (λ r. get_or rows r []) (take n rows) n [] (length-take-le n rows le)
      (λ k lt. get_or-take n rows k [] lt)

  pub first_codes : (rows : List (List X)) (n : ℕ) → n ≤ length rows
      → flat_map (flat_map code) (take n rows)
      ≡ row_bytes (map (λ r. map code (get_or rows r [])) (range_with_len 0 n))
  first_codes rows n le =
      ap (flat_map (flat_map code)) (taken rows n le) ∙ sym (in_a_row (λ r. get_or rows r []) (range_with_len 0 n))

-- ---- row by row

pub one_more_row : (source : Source) (row : ℕ) (start before after : List ℕ)
    → before ≡ start ++ row_bytes (first_rows source row)
    → after ≡ before ++ flat_map {X = List ℕ} {A = ℕ} (λ code. code) (row_codes source row)
    → after ≡ start ++ row_bytes (first_rows source (row + 1))
one_more_row source row start before after done more =
    let here : List ℕ = flat_map {X = List ℕ} {A = ℕ} (λ code. code) (row_codes source row) in
    let last : here ≡ row_bytes (row_codes source row ∷ []) = sym (append-nil here) in
    more ∙ (λ j. done j ++ last j)
    ∙ append_assoc start (row_bytes (first_rows source row)) (row_bytes (row_codes source row ∷ []))
    ∙ ap (λ (l : List ℕ). start ++ l)
    (sym (flat_map-append (flat_map {X = List ℕ} {A = ℕ} (λ code. code)) (first_rows source row)
    (row_codes source row ∷ [])))
    ∙ ap (λ (rs : List (List (List ℕ))). start ++ row_bytes rs)
    (sym (map-range_with_len_more (row_codes source) 0 row row (omega arith)))

-- ---- file by file

pub file_rows : (sources : List Source) (file count : ℕ)
    → joined sources (rows_from file 0 count) ≡ first_rows (get_or sources file Nothing) count
file_rows sources file count =
    let all : count - 0 ≡ count = omega arith in
    ap (λ (n : ℕ). joined sources (map (λ (r : ℕ). (file, r)) (range_with_len 0 n))) all
    ∙ by (range_with_len 0 count)
  where
    by : (rs : List ℕ)
        → joined sources (map (λ (r : ℕ). (file, r)) rs) ≡ map (row_codes (get_or sources file Nothing)) rs
    by [] = refl
    by (r ∷ rs) = ap (λ (l : List (List (List ℕ))). row_codes (get_or sources file Nothing) r ∷ l) (by rs)

all_front : (P : Place → Type 0) (xs ys : List Place) → All P (xs ++ ys) → All P xs
all_front P [] ys all = All-nil P
all_front P (x ∷ xs) ys all =
    All-cons P x xs (All-head P x (xs ++ ys) all) (all_front P xs ys (All-tail P x (xs ++ ys) all))

all_back : (P : Place → Type 0) (xs ys : List Place) → All P (xs ++ ys) → All P ys
all_back P [] ys all = all
all_back P (x ∷ xs) ys all = all_back P xs ys (All-tail P x (xs ++ ys) all)

-- the rows that are left after a file
abbrev pub later : List ℕ → ℕ → List Place
later counts file = stacked (file + 1) (drop (file + 1) counts)

pub next_file : (counts : List ℕ) (file : ℕ) → file < length counts
    → stacked file (drop file counts) ≡ rows_from file 0 (get_or counts file 0) ++ later counts file
next_file counts file lt = ap (stacked file) (drop_more counts file 0 lt)

module _ (sources : List Source) (counts : List ℕ) (file : ℕ) (lt : file < length counts) where
  pub puts_file : All (IsPut sources) (stacked file (drop file counts)) → (row : ℕ) → row < get_or counts file 0
      → IsPut sources (file, row)
  puts_file all row fits =
      let count = get_or counts file 0 in
      let front : All (IsPut sources) (rows_from file 0 count) =
      all_front (IsPut sources) (rows_from file 0 count) (later counts file)
      (subst (All (IsPut sources)) (next_file counts file lt) all) in
      let within : row < count - 0 = omega (arith, fits) in
      subst (IsPut sources)
      (get_or-map-range_with_len (λ (r : ℕ). (file, r)) 0 (count - 0) row row (file, 0) within (omega arith))
      (front row (file, 0)
      (omega (arith, within, length-map-range_with_len {X = Place} (λ (r : ℕ). (file, r)) 0 (count - 0))))

  pub left_files : All (IsPut sources) (stacked file (drop file counts)) → All (IsPut sources) (later counts file)
  left_files all =
      all_back (IsPut sources) (rows_from file 0 (get_or counts file 0)) (later counts file)
      (subst (All (IsPut sources)) (next_file counts file lt) all)

  pub one_more_file : (before after start : List ℕ)
      → after ≡ before ++ row_bytes (joined sources (rows_from file 0 (get_or counts file 0)))
      → before ++ row_bytes (joined sources (stacked file (drop file counts))) ≡ start
      → after ++ row_bytes (joined sources (later counts file)) ≡ start
  one_more_file before after start more all =
      let here = joined sources (rows_from file 0 (get_or counts file 0)) in
      let rest = joined sources (later counts file) in
      ap (λ (l : List ℕ). l ++ row_bytes rest) more ∙ append_assoc before (row_bytes here) (row_bytes rest)
      ∙ ap (λ (l : List ℕ). before ++ l) (sym (flat_map-append (flat_map {X = List ℕ} {A = ℕ} (λ code. code)) here rest))
      ∙ ap (λ (rs : List (List (List ℕ))). before ++ row_bytes rs)
      (sym (map-append (λ (p : Place). row_codes (get_or sources p.0 Nothing) p.1)
      (rows_from file 0 (get_or counts file 0)) (later counts file)))
      ∙ ap (λ (ps : List Place). before ++ row_bytes (joined sources ps)) (sym (next_file counts file lt))
      ∙ all

-- no file is left
pub no_more_files : (sources : List Source) (counts : List ℕ) (file : ℕ) (out start : List ℕ) → length counts ≤ file
    → out ++ row_bytes (joined sources (stacked file (drop file counts))) ≡ start → out ≡ start
no_more_files sources counts file out start le all =
    sym (append-nil out)
    ∙ ap (λ (cs : List ℕ). out ++ row_bytes (joined sources (stacked file cs))) (sym (drop_all file counts le)) ∙ all
