use Rattle.std.proofs.Common.{◌≡◌, ◌+◌, ◌<◌, ℕ}
use Rattle.std.specs.Ordering.{nat_cmp}
use Rattle.std.specs.Cmp.Lexicographic.{slice_cmp}
use Rattle.std.specs.declared.cmp.Ordering.TheVariants.{Less}
use Rattle.seg_columns.specs.Dictionaries.{term_at}
use Rattle.seg_columns.proofs.dictionary_check.terms_ascend.Given as goal

abbrev pub invariant-loop-place : goal.invariant-loop-place
invariant-loop-place l = (i : ℕ) → i + 1 < l.place
    → slice_cmp nat_cmp (term_at l.bytes i) (term_at l.bytes (i + 1)) ≡ Less
