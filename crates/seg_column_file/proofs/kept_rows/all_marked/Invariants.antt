use Rattle.std.proofs.Common.{◌≡◌, ℕ, map, take, true, replicate}
use Rattle.seg_column_file.proofs.kept_rows.all_marked.Given as goal

abbrev pub invariant-loop-count : goal.invariant-loop-count
invariant-loop-count l =
    map (λ v. v.items) l.files.items ≡ map (λ (count : ℕ). replicate count true) (take l.count-index l.counts)
