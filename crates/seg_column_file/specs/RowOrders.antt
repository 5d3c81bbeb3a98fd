-- The rows that a merge keeps, in their order: each by the number of its file and its own number there.
use Rattle.std.specs.Prelude.{ℕ, ◌+◌, ◌-◌, ◌<◌, List, [], ◌∷◌, ◌++◌, map, drop, get_or}
use Rattle.std.specs.List.{range_with_len}
use Rattle.seg_column_file.specs.declared.row_addr.RowAddr.{RowAddr}
use Rattle.seg_column_file.specs.declared.row_order.MergeRowOrder.{MergeRowOrder}
use Rattle.seg_column_file.specs.declared.row_order.MergeRowOrder.TheVariants.{Stack, Shuffled}

-- a row: the number of its file, and its own there
abbrev pub Place : Type 0
Place = ℕ × ℕ

-- the rows of a file from one on, where it has this many
abbrev pub rows_from : ℕ → ℕ → ℕ → List Place
rows_from file row count = map (λ r. (file, r)) (range_with_len row (count - row))

-- all rows of files that have this many each, one file after another; the first has the number `file`
abbrev pub stacked : ℕ → List ℕ → List Place
stacked file [] = []
stacked file (count ∷ counts) = rows_from file 0 count ++ stacked (file + 1) counts

-- those from a row of a file on
unfoldable pub stacked_from : List ℕ → ℕ → ℕ → List Place
stacked_from counts file row = rows_from file row (get_or counts file 0) ++ stacked (file + 1) (drop (file + 1) counts)

abbrev pub place_of : RowAddr → Place
place_of address = (address.segment_ord, address.row_id)

-- the rows of a merge, in order
abbrev pub rows_in_order : List ℕ → MergeRowOrder → List Place
rows_in_order counts Stack = stacked 0 counts
rows_in_order counts (Shuffled addresses) = map place_of addresses.items

-- files of this many rows have this one
abbrev pub IsRow : List ℕ → Place → Type 0
IsRow counts place = place.1 < get_or counts place.0 0
