-- What is kept of a composite file that grows: its parts, and their table.
use Rattle.std.specs.Prelude.{◌≡◌, ℕ, ◌*◌, ◌<◌, ◌^◌, List, true, length}
use Rattle.seg_directory.specs.CompositeFiles.{entries_of, are_entries}

-- the table of a body, with this many entries
pub record IsWritten (body table : List ℕ) (count : ℕ) : Type 0 where
  pub small : count < 2 ^ 32
  pub room : length table ≡ 12 * count
  pub good : are_entries 0 0 (length body) (entries_of count table) ≡ true
