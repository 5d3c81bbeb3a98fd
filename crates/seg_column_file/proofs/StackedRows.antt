-- The rows of stacked files, one after the other.
use Rattle.std.proofs.Common.{◌≡◌, ℕ, suc, ◌+◌, ◌-◌, ◌<◌, ◌≤◌, List, [], ◌∷◌, ◌++◌, map, drop, length, get_or, Option, Some, None, ◌⊎◌, inl, inr, refl, sym, ap, ◌∙◌, arith}
use Rattle.std.specs.Prelude.{IsSomeAnd, MatchOption}
use Rattle.std.specs.List.{range_with_len}
use Rattle.std.specs.Iterator.{YieldsFirst, MakesProgress, item_count}
use Rattle.std.proofs.lemmas.Bool.{cases_lt}
use Rattle.std.proofs.lemmas.List.{drop_more, drop_all, get_or_past}
use Rattle.seg_column_file.specs.declared.row_addr.RowAddr.{RowAddr}
use Rattle.seg_column_file.specs.RowOrders.{Place, place_of, rows_from, stacked, stacked_from}

no_rows : (file row count : ℕ) → count ≤ row → rows_from file row count ≡ []
no_rows file row count le =
    let none : count - row ≡ 0 = omega arith in
    ap (λ n. map (λ (r : ℕ). (file, r)) (range_with_len row n)) none

first_row : (file row count : ℕ) → row < count → rows_from file row count ≡ (file, row) ∷ rows_from file (row + 1) count
first_row file row count lt =
    let more : count - row ≡ suc (count - (row + 1)) = omega arith in
    ap (λ n. map (λ (r : ℕ). (file, r)) (range_with_len row n)) more

pub all_stacked : (counts : List ℕ) → stacked_from counts 0 0 ≡ stacked 0 counts
unfolding stacked_from
all_stacked [] = refl
all_stacked (count ∷ counts) = refl

-- all that is left after a file
rest_of : (file : ℕ) (counts : List ℕ)
    → stacked file (drop file counts)
    ≡ rows_from file 0 (get_or counts file 0) ++ stacked (file + 1) (drop (file + 1) counts)
rest_of file counts = by (cases_lt file (length counts))
  where
    by : (file < length counts) ⊎ (length counts ≤ file)
        → stacked file (drop file counts)
        ≡ rows_from file 0 (get_or counts file 0) ++ stacked (file + 1) (drop (file + 1) counts)
    by (inl lt) = ap (stacked file) (drop_more counts file 0 lt)
    by (inr le) =
        ap (stacked file) (drop_all file counts le)
        ∙ sym (ap (stacked (file + 1)) (drop_all (file + 1) counts (omega arith)))
        ∙ sym (ap (λ (l : List Place). l ++ stacked (file + 1) (drop (file + 1) counts))
        (no_rows file 0 (get_or counts file 0) (omega (arith, get_or_past counts file 0 le))))

-- a file without a row that is left
pub next_file : (counts : List ℕ) (file row : ℕ) → file < length counts → get_or counts file 0 ≤ row
    → stacked_from counts file row ≡ stacked_from counts (file + 1) 0
unfolding stacked_from
next_file counts file row lt le =
    ap (λ (l : List Place). l ++ stacked (file + 1) (drop (file + 1) counts))
    (no_rows file row (get_or counts file 0) le)
    ∙ rest_of (file + 1) counts

pub next_row : (counts : List ℕ) (file row : ℕ) → row < get_or counts file 0
    → stacked_from counts file row ≡ (file, row) ∷ stacked_from counts file (row + 1)
unfolding stacked_from
next_row counts file row lt =
    ap (λ (l : List Place). l ++ stacked (file + 1) (drop (file + 1) counts))
    (first_row file row (get_or counts file 0) lt)

pub no_file : (counts : List ℕ) (file row : ℕ) → length counts ≤ file → stacked_from counts file row ≡ []
unfolding stacked_from
no_file counts file row le =
    ap (λ (l : List Place). l ++ stacked (file + 1) (drop (file + 1) counts))
    (no_rows file row (get_or counts file 0) (omega (arith, get_or_past counts file 0 le)))
    ∙ ap (stacked (file + 1)) (drop_all (file + 1) counts (omega arith))

-- ---- the iterator

pub steps : (old new : List Place) (r : Option Place) → IsSomeAnd r (λ x. old ≡ x ∷ new)
    → YieldsFirst (λ s. s) old r new
steps old new (Some x) h = h
steps old new None h = absurd h

pub goes : (can : List Place → Type 0) → ((s : List Place) → can s) → (old new : List Place) (r : Option Place)
    → IsSomeAnd r (λ x. old ≡ x ∷ new) → MakesProgress can (item_count (λ s. s)) old r new
goes can all old new (Some x) h =
    let shorter = ap length h in
    record { on = λ finite. (all new, tt, omega (arith, shorter)); keeps = all new; rests = λ finite. tt }
goes can all old new None h = absurd h

-- no stacked row is left where a call found none
pub none_left : (s : List Place) (next : Place → List Place) (r : Option Place) → ((x : Place) → r ≡ Some x → ⊥)
    → MatchOption r (s ≡ []) (λ p. s ≡ p ∷ next p) → s ≡ []
none_left s next (Some x) other h = absurd (other x refl)
none_left s next None other h = h

-- the next address, where no stacked row is left
pub next_address : (front : List Place) → front ≡ [] → (all rest : List RowAddr) (a : RowAddr) → all ≡ a ∷ rest
    → front ++ map place_of all ≡ place_of a ∷ (front ++ map place_of rest)
next_address front none all rest a is =
    ap (λ (l : List Place). l ++ map place_of all) none ∙ ap (map place_of) is
    ∙ ap (λ (l : List Place). place_of a ∷ (l ++ map place_of rest)) (sym none)
