-- The totals of tokens with which the parts of a file of postings begin.
use Rattle.std.specs.Prelude.{◌≡◌, ℕ, ◌-◌, ◌^◌, min, List, Some}
use Rattle.std.specs.List.{slice_get}
use Rattle.seg_common.specs.LittleEndian.{u64_at}
use Rattle.seg_directory.specs.CompositeFiles.{Part, composite, field_of}
use Rattle.seg_build.specs.FieldTerms.{FieldTerms}
use Rattle.seg_build.specs.TokenTotal.{token_total}

-- in a composite file the part of each field begins with how often its terms occur in all, at most the greatest u64
abbrev pub TotalsAreCounts : List ℕ → List FieldTerms → Type 0
TotalsAreCounts postings fields =
    (parts : List Part) → composite postings ≡ Some parts
    → (field : ℕ) (found : FieldTerms) → slice_get fields field ≡ Some found
    → (part : List ℕ) → field_of parts field ≡ Some part → u64_at part 0 ≡ min (2 ^ 64 - 1) (token_total found.terms)
