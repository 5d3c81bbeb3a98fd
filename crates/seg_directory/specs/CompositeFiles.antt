-- A composite file: the parts of fields in turn, then for each its field and where it ends, then their number.
use Rattle.std.specs.Prelude.{ℕ, zero, suc, ◌+◌, ◌*◌, ◌-◌, ◌==◌, nat_le, ◌&&◌, if◌then◌else◌, List, [], ◌∷◌, Bool, length, drop, slice_range, Option, Some, None}
use Rattle.seg_common.specs.LittleEndian.{u32_at, u64_at}

-- a field and its bytes
abbrev pub Part : Type 0
Part = ℕ × List ℕ

-- the first entries of a table: fields and ends
abbrev pub entries_of : ℕ → List ℕ → List (ℕ × ℕ)
entries_of zero table = []
entries_of (suc n) table = (u32_at table 0, u64_at table 4) ∷ entries_of n (drop 12 table)

-- fields ascend from the lowest, ends never fall from the start, and the last is the total
abbrev pub are_entries : ℕ → ℕ → ℕ → List (ℕ × ℕ) → Bool
are_entries low start total [] = start == total
are_entries low start total (e ∷ es) = nat_le low e.0 && (nat_le start e.1 && are_entries (e.0 + 1) e.1 total es)

-- what the entries cut the body into
abbrev pub parts_from : ℕ → List (ℕ × ℕ) → List ℕ → List Part
parts_from start [] body = []
parts_from start (e ∷ es) body = (e.0, slice_range body start e.1) ∷ parts_from e.1 es body

-- the number of parts: the last four bytes
abbrev pub count_of : List ℕ → ℕ
count_of bytes = u32_at bytes (length bytes - 4)

-- where the table begins
abbrev pub body_len : List ℕ → ℕ
body_len bytes = length bytes - (4 + 12 * count_of bytes)

-- its entries
abbrev pub table_of : List ℕ → List (ℕ × ℕ)
table_of bytes = entries_of (count_of bytes) (drop (body_len bytes) bytes)

-- whether bytes are a composite file
unfoldable pub is_composite : List ℕ → Bool
is_composite bytes = nat_le (4 + 12 * count_of bytes) (length bytes)
    && are_entries 0 0 (body_len bytes) (table_of bytes)

-- its parts
unfoldable pub parts_of : List ℕ → List Part
parts_of bytes = parts_from 0 (table_of bytes) bytes

-- what bytes read as
abbrev pub composite : List ℕ → Option (List Part)
composite bytes = if is_composite bytes then Some (parts_of bytes) else None

-- the bytes of a field
abbrev pub field_of : List Part → ℕ → Option (List ℕ)
field_of [] field = None
field_of (p ∷ ps) field = if p.0 == field then Some p.1 else field_of ps field

-- the lowest field that may follow
abbrev pub low_after : {X : Type 0} → ℕ → List (ℕ × X) → ℕ
low_after low [] = low
low_after low (p ∷ ps) = low_after (p.0 + 1) ps
