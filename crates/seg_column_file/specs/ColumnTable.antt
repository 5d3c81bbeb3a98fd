-- The table of a file of columns: how many there are, and of each its path, its type and where its bytes end.
use Rattle.std.specs.Prelude.{◌≡◌, ℕ, zero, suc, ◌+◌, ◌<◌, ◌≤◌, ◌==◌, ◌&&◌, ◌||◌, not, List, length, Bool, true, IsUtf8, get_or, slice_range, nat_lt, if◌then◌else◌}
use Rattle.std.specs.Ordering.{nat_cmp, is_eq, is_lt}
use Rattle.std.specs.Cmp.Lexicographic.{slice_cmp}
use Rattle.seg_common.specs.LittleEndian.{u64_at}
use Rattle.seg_common.specs.declared.column_type.ColumnType.{ColumnType}
use Rattle.seg_common.specs.declared.column_type.ColumnType.TheVariants as types

-- ---- one entry, by the place where it begins

-- where the next one begins
unfoldable pub next_place : List ℕ → ℕ → ℕ
next_place table at = at + 17 + u64_at table at

unfoldable pub path_in : List ℕ → ℕ → List ℕ
path_in table at = slice_range table (at + 8) (at + 8 + u64_at table at)

-- the code of its type
unfoldable pub code_in : List ℕ → ℕ → ℕ
code_in table at = get_or table (at + 8 + u64_at table at) 0

-- where the bytes of its column end
unfoldable pub end_in : List ℕ → ℕ → ℕ
end_in table at = u64_at table (at + 9 + u64_at table at)

-- the type of columns with a code; those of 7 and more are none
abbrev pub type_of_code : ℕ → ColumnType
type_of_code code =
    if code == 0 then types.I64
    else if code == 1 then types.U64
    else if code == 2 then types.Bytes
    else if code == 3 then types.Str
    else if code == 4 then types.Bool
    else if code == 5 then types.IpAddr
    else types.DateTime

-- whether a path may have columns of two codes in this order: they ascend, and aren't those of I64 and U64
abbrev pub are_apart : ℕ → ℕ → Bool
are_apart first second = nat_lt first second && not ((first == 0) && (second == 1))

-- whether an entry may stand after another: paths ascend in byte order, and of one path the types
unfoldable pub may_follow : List ℕ → ℕ → ℕ → Bool
may_follow table before at =
    is_lt (slice_cmp nat_cmp (path_in table before) (path_in table at))
    || (is_eq (slice_cmp nat_cmp (path_in table before) (path_in table at))
    && are_apart (code_in table before) (code_in table at))

-- ---- all entries

-- where an entry begins: the first after the number of entries, each other one where the one before it ends
unfoldable pub place_of : List ℕ → ℕ → ℕ
place_of table zero = 8
place_of table (suc i) = next_place table (place_of table i)

-- an entry by itself: within the table, with a text as path, and of a type
pub record IsEntry (table : List ℕ) (at : ℕ) : Type 0 where
  pub within : next_place table at ≤ length table
  pub known : code_in table at < 7
  pub utf8 : IsUtf8 (path_in table at)

-- this many entries fill the table, in order
pub record AreEntries (table : List ℕ) (count : ℕ) : Type 0 where
  pub each : (i : ℕ) → i < count → IsEntry table (place_of table i)
  pub fill : place_of table count ≡ length table
  pub follow : (i : ℕ) → i + 1 < count → may_follow table (place_of table i) (place_of table (i + 1)) ≡ true

-- where the bytes of a column begin: of the first at the front of the file, of each other one where those before end
unfoldable pub column_start : List ℕ → ℕ → ℕ
column_start table zero = 0
column_start table (suc i) = end_in table (place_of table i)
