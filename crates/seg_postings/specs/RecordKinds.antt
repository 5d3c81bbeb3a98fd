-- What the postings of a term keep: the byte that says so, and what an index option asks for.
use Rattle.std.specs.Prelude.{ℕ, zero, suc, Option, Some, None}
use Rattle.seg_values.specs.declared.schema.IndexOption.{IndexOption}
use Rattle.seg_values.specs.declared.schema.IndexOption.TheVariants as options
use Rattle.seg_postings.specs.declared.record_kind.RecordKind.{RecordKind}
use Rattle.seg_postings.specs.declared.record_kind.RecordKind.TheVariants.{Documents, Counts, Positions}

-- the byte of a kind
abbrev pub kind_byte : RecordKind → ℕ
kind_byte Documents = 0
kind_byte Counts = 1
kind_byte Positions = 2

-- the kind of a byte
abbrev pub kind_of_byte : ℕ → Option RecordKind
kind_of_byte zero = Some Documents
kind_of_byte (suc zero) = Some Counts
kind_of_byte (suc (suc zero)) = Some Positions
kind_of_byte _ = None

-- the kind that an index option asks for
abbrev pub kind_of : IndexOption → RecordKind
kind_of options.No = Documents
kind_of options.Basic = Documents
kind_of options.Freqs = Counts
kind_of options.Positions = Positions
