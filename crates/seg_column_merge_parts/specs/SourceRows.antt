-- The rows of a column of one file, as they are written.
use Rattle.std.specs.Prelude.{◌≡◌, ℕ, ◌+◌, ◌-◌, ◌^◌, ◌<◌, ◌≤◌, List, [], ◌++◌, All, length, map, get_or}
use Rattle.std.specs.Int.{w64, to_le_bytes}
use Rattle.std.specs.List.{range_with_len}
use Rattle.std.specs.Net.Addr.{ipv6_octets}
use Rattle.seg_column_file.specs.RowOrders.{Place}
use Rattle.seg_column_format.specs.ColumnBytes.{ends_from, number_bytes, total}
use Rattle.seg_column_merge_parts.specs.declared.number_map.NumberMap.{NumberMap}
use Rattle.seg_column_merge_parts.specs.declared.number_map.NumberMap.TheVariants.{Same, Raised, Lowered, Ordinals}
use Rattle.seg_column_merge_parts.specs.declared.source.Source.{Source}
use Rattle.seg_column_merge_parts.specs.declared.source.Source.TheVariants.{Nothing, Numbers, Addresses}

-- a number that has another one for it
abbrev pub CanMap : NumberMap → ℕ → Type 0
CanMap Same n = Unit {0}
CanMap Raised n = n < 2 ^ 63
CanMap Lowered n = 2 ^ 63 ≤ n
CanMap (Ordinals ordinals) n = n < length ordinals.items

-- the number that is written for one
abbrev pub mapped : NumberMap → ℕ → ℕ
mapped Same n = n
mapped Raised n = n + 2 ^ 63
mapped Lowered n = n - 2 ^ 63
mapped (Ordinals ordinals) n = get_or ordinals.items n 0

-- its bytes
abbrev pub number_code : NumberMap → ℕ → List ℕ
number_code written n = to_le_bytes w64 (mapped written n)

-- the bytes of each value of a row
abbrev pub row_codes : Source → ℕ → List (List ℕ)
row_codes Nothing row = []
row_codes (Numbers source) row = map (number_code source.written) (get_or source.numbers row [])
row_codes (Addresses rows) row = map ipv6_octets (get_or rows row [])

-- there is such a row, and its values can be written
abbrev pub CanPut : Source → ℕ → Type 0
CanPut Nothing row = Unit {0}
CanPut (Numbers source) row = (row < length source.numbers) × All (CanMap source.written) (get_or source.numbers row [])
CanPut (Addresses rows) row = row < length rows

-- so it is of this many rows from the first on
abbrev pub CanPutFirst : Source → ℕ → Type 0
CanPutFirst source rows = (row : ℕ) → row < rows → CanPut source row

-- the bytes of each value of these rows
abbrev pub first_rows : Source → ℕ → List (List (List ℕ))
first_rows source rows = map (row_codes source) (range_with_len 0 rows)

-- the ends of rows are added after this many values, which with their own are then this many
pub record AddsEnds (rows : List (List (List ℕ))) (before : ℕ) (old new : List ℕ) (end : ℕ) : Type 0 where
  pub ends : new ≡ old ++ number_bytes (ends_from before rows)
  pub all : end ≡ before + total rows
  pub fits : end < 2 ^ 64

-- the file of a place is there, and has such a row
pub record IsPut (sources : List Source) (place : Place) : Type 0 where
  pub file : place.0 < length sources
  pub row : CanPut (get_or sources place.0 Nothing) place.1

-- the bytes of each value of rows in an order, each from the source of its file
abbrev pub joined : List Source → List Place → List (List (List ℕ))
joined sources places = map (λ p. row_codes (get_or sources p.0 Nothing) p.1) places
