-- A dictionary as bytes: how many terms it has, where each ends, and their bytes.
use Rattle.std.specs.Prelude.{◌≡◌, ℕ, ◌+◌, ◌*◌, ◌<◌, ◌≤◌, List, length, map, drop, slice_range}
use Rattle.std.specs.List.{range_with_len}
use Rattle.std.specs.Ordering.{nat_cmp}
use Rattle.std.specs.Cmp.Lexicographic.{slice_cmp}
use Rattle.std.specs.declared.cmp.Ordering.TheVariants.{Less}
use Rattle.seg_common.specs.LittleEndian.{u64_at}
use Rattle.seg_columns.specs.Ends.{start_at, EndsRise}

-- how many terms there are
abbrev pub count_of : List ℕ → ℕ
count_of bytes = u64_at bytes 0

-- the table of their ends, with all that follows it
abbrev pub ends_of : List ℕ → List ℕ
ends_of bytes = drop 8 bytes

-- the bytes of all terms
abbrev pub texts_of : List ℕ → List ℕ
texts_of bytes = drop (8 + 8 * count_of bytes) bytes

-- the term at a place
unfoldable pub term_at : List ℕ → ℕ → List ℕ
term_at bytes i = slice_range (texts_of bytes) (start_at (ends_of bytes) i) (start_at (ends_of bytes) (i + 1))

-- terms fill the bytes
pub record HoldsTerms (bytes : List ℕ) : Type 0 where
  pub room : 8 + 8 * count_of bytes ≤ length bytes
  pub rise : EndsRise (ends_of bytes) (count_of bytes)
  pub fill : start_at (ends_of bytes) (count_of bytes) ≡ length (texts_of bytes)

-- each term is below the next one in byte order
abbrev pub TermsAscend : List ℕ → Type 0
TermsAscend bytes = (i : ℕ) → i + 1 < count_of bytes
    → slice_cmp nat_cmp (term_at bytes i) (term_at bytes (i + 1)) ≡ Less

-- bytes are a dictionary
pub record IsDictionary (bytes : List ℕ) : Type 0 where
  pub holds : HoldsTerms bytes
  pub ascend : TermsAscend bytes

-- its terms
unfoldable pub terms_of : List ℕ → List (List ℕ)
terms_of bytes = map (term_at bytes) (range_with_len 0 (count_of bytes))
