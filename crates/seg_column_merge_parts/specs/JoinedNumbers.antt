-- The numbers that are written for the rows of a merged column.
use Rattle.std.specs.Prelude.{ℕ, List, [], map, get_or}
use Rattle.seg_column_file.specs.RowOrders.{Place}
use Rattle.seg_column_merge_parts.specs.SourceRows.{mapped}
use Rattle.seg_column_merge_parts.specs.declared.source.Source.{Source}
use Rattle.seg_column_merge_parts.specs.declared.source.Source.TheVariants.{Nothing, Numbers, Addresses}

-- a source without addresses
abbrev pub IsNumeric : Source → Type 0
IsNumeric Nothing = Unit {0}
IsNumeric (Numbers source) = Unit {0}
IsNumeric (Addresses rows) = ⊥

-- the numbers that are written for a row
abbrev pub row_numbers : Source → ℕ → List ℕ
row_numbers Nothing row = []
row_numbers (Numbers source) row = map (mapped source.written) (get_or source.numbers row [])
row_numbers (Addresses rows) row = []

-- those of rows in an order, each from the source of its file
abbrev pub joined_numbers : List Source → List Place → List (List ℕ)
joined_numbers sources places = map (λ p. row_numbers (get_or sources p.0 Nothing) p.1) places
