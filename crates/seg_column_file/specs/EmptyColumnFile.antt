-- The file without columns: its table is the number 0 alone, of eight bytes. It is what is written so far.
use Rattle.std.specs.Prelude.{ℕ, ◌==◌, ◌&&◌, if◌then◌else◌, List, Bool, length, Option, Some, None}
use Rattle.seg_common.specs.LittleEndian.{u32_at, u64_at}

-- whether bytes are a file without a column
unfoldable pub is_without_columns : List ℕ → Bool
is_without_columns bytes = (length bytes == 24) &&
    ((u64_at bytes 0 == 0) && ((u64_at bytes 8 == 8) && (u32_at bytes 20 == 1)))

-- how many rows a file without a column has; other bytes read as nothing
unfoldable pub rows_of : List ℕ → Option ℕ
rows_of bytes = if is_without_columns bytes then Some (u32_at bytes 16) else None
