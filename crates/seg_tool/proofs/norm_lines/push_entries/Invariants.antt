use Rattle.std.proofs.Common.{◌≡◌, ◌++◌, drop}
use Rattle.seg_norms.specs.StoredNorms.{norms_of}
use Rattle.seg_text.specs.NormsText.{norms_text}
use Rattle.seg_tool.proofs.norm_lines.push_entries.Given as goal

abbrev pub invariant-loop-place : goal.invariant-loop-place
invariant-loop-place l =
    l.out.items ++ norms_text (drop l.place l.entries) (drop l.place (norms_of l.entries l.norms))
    ≡ l.initial.out.items ++ norms_text l.entries (norms_of l.entries l.norms)
