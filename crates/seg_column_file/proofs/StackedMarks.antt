-- The marks of files that are stacked: each row has one.
use Rattle.std.proofs.Common.{◌≡◌, ◌⊎◌, ℕ, zero, suc, ◌+◌, ◌-◌, ◌<◌, ◌≤◌, Bool, true, false, ◌||◌, List, [], ◌∷◌, length, map, get_or, replicate, nat_eq, eq-eqb, inl, inr, refl, sym, ap, subst, ◌∙◌, arith}
use Rattle.std.specs.Prelude.{◌&&◌}
use Rattle.std.specs.List.{range_with_len}
use Rattle.std.proofs.lemmas.Bool.{cases_lt, or_right}
use Rattle.std.proofs.lemmas.List.{get_or-replicate, length-map, length-replicate}
use Rattle.std.proofs.lemmas.List.Folds.{list_any-append}
use Rattle.seg_column_file.specs.KeptRows.{AreMarks, is_kept}
use Rattle.seg_column_file.specs.RowOrders.{Place, rows_from, stacked}

rows_have : (file start n row : ℕ) → start ≤ row → row < start + n
    → is_kept (map (λ r. (file, r)) (range_with_len start n)) file row ≡ true
rows_have file start zero row le lt = absurd (omega (arith, le, lt))
rows_have file start (suc n) row le lt =
    by (λ before. rows_have file (start + 1) n row (omega (arith, before)) (omega (arith, lt))) (cases_lt start row)
  where
    rest : Bool
    rest = is_kept (map (λ (r : ℕ). (file, r)) (range_with_len (start + 1) n)) file row

    by : (start < row → rest ≡ true) → (start < row) ⊎ (row ≤ start)
        → ((nat_eq file file && nat_eq row start) || rest) ≡ true
    by later (inl before) = or_right (nat_eq file file && nat_eq row start) rest (later before)
    by later (inr past) =
        let same : row ≡ start = omega (arith, le, past) in
        λ j. (eq-eqb file file refl j && eq-eqb row start same j) || rest

stacked_has : (first : ℕ) (counts : List ℕ) (file k row : ℕ) → file ≡ first + k → row < get_or counts k 0
    → is_kept (stacked first counts) file row ≡ true
stacked_has first [] file k row is lt = absurd (omega (arith, lt))
stacked_has first (c ∷ cs) file zero row is lt =
    let same : first ≡ file = omega (arith, is) in
    list_any-append (λ (p : Place). nat_eq file p.0 && nat_eq row p.1) (rows_from first 0 c) (stacked (first + 1) cs)
    ∙ ap (λ b. b || is_kept (stacked (first + 1) cs) file row)
    (subst (λ (f : ℕ). is_kept (rows_from first 0 c) f row ≡ true) same
    (rows_have first 0 (c - 0) row (omega arith) (omega (arith, lt))))
stacked_has first (c ∷ cs) file (suc k) row is lt =
    list_any-append (λ (p : Place). nat_eq file p.0 && nat_eq row p.1) (rows_from first 0 c) (stacked (first + 1) cs)
    ∙ or_right (is_kept (rows_from first 0 c) file row) (is_kept (stacked (first + 1) cs) file row)
    (stacked_has (first + 1) cs file k row (omega (arith, is)) lt)

abbrev all_marks : List ℕ → List (List Bool)
all_marks counts = map (λ (count : ℕ). replicate count true) counts

as_long : (counts : List ℕ) (file : ℕ) → length (get_or (all_marks counts) file []) ≡ get_or counts file 0
as_long [] file = refl
as_long (c ∷ cs) zero = length-replicate c true
as_long (c ∷ cs) (suc file) = as_long cs file

marked : (counts : List ℕ) (file row : ℕ) → row < get_or counts file 0
    → get_or (get_or (all_marks counts) file []) row false ≡ true
marked [] file row lt = absurd (omega (arith, lt))
marked (c ∷ cs) zero row lt = get_or-replicate c row true false lt
marked (c ∷ cs) (suc file) row lt = marked cs file row lt

pub all_are_kept : (counts : List ℕ) → AreMarks counts (stacked 0 counts) (all_marks counts)
all_are_kept counts = record {
  files = length-map counts (λ (count : ℕ). replicate count true);
  rows = as_long counts;
  marks = λ file row lt. marked counts file row lt ∙ sym (stacked_has 0 counts file file row (omega arith) lt);
}
