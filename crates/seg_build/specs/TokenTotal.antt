-- How often the terms of a field occur in all.
use Rattle.std.specs.Prelude.{ℕ, List}
use Rattle.std.specs.List.{sum_by}
use Rattle.std.specs.Map.{values_of}
use Rattle.seg_model.specs.DocumentTerms.{Posting}
pub use Rattle.seg_postings.specs.OpenPostings.{count_of as recorded_count}
use Rattle.seg_terms.specs.TermEntries.{TermEntries}

-- the sum of the counts of all documents of a term
abbrev pub count_total : List Posting → ℕ
count_total postings = sum_by (λ p. recorded_count p.recorded) postings

-- and of all terms
abbrev pub token_total : TermEntries → ℕ
token_total terms = sum_by count_total (values_of terms)
