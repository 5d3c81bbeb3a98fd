-- One entry of the table of a composite file.
use Rattle.std.specs.Prelude.{◌≡◌, ℕ, ◌*◌, ◌≤◌, List, slice_get, slice_range, Some}
use Rattle.seg_common.specs.LittleEndian.{u32_at}
use Rattle.seg_directory.specs.CompositeFiles.{entries_of, parts_from}

-- the part of the entry at a place begins and ends there, within this many bytes
pub record IsEntry (count : ℕ) (table : List ℕ) (place total start end : ℕ) : Type 0 where
  pub part : (body : List ℕ)
      → slice_get (parts_from 0 (entries_of count table) body) place
      ≡ Some (u32_at table (12 * place), slice_range body start end)
  pub order : start ≤ end
  pub within : end ≤ total
