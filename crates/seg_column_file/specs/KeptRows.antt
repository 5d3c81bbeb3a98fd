-- Which rows of each file are kept, and the values that are in them.
use Rattle.std.specs.Prelude.{◌≡◌, ℕ, ◌<◌, ◌&&◌, if◌then◌else◌, Bool, false, List, [], ◌∷◌, ◌++◌, length, get_or, nat_eq}
use Rattle.std.specs.List.{list_any}
use Rattle.seg_column_file.specs.RowOrders.{Place}

-- whether a row of a file is among some
abbrev pub is_kept : List Place → ℕ → ℕ → Bool
is_kept places file row = list_any (λ (p : Place). nat_eq file p.0 && nat_eq row p.1) places

-- a mark for each row of each file, which tells whether it is among some
pub record AreMarks (counts : List ℕ) (places : List Place) (kept : List (List Bool)) : Type 0 where
  pub files : length kept ≡ length counts
  pub rows : (file : ℕ) → length (get_or kept file []) ≡ get_or counts file 0
  pub marks : (file row : ℕ) → row < get_or counts file 0
      → get_or (get_or kept file []) row false ≡ is_kept places file row

-- the values of the rows that are marked
abbrev pub kept_values : {T : Type 0} → List Bool → List (List T) → List T
kept_values [] rows = []
kept_values (mark ∷ marks) [] = []
kept_values (mark ∷ marks) (row ∷ rows) = (if mark then row else []) ++ kept_values marks rows
