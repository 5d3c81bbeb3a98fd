use Rattle.std.proofs.Common.{◌≡◌, ◌++◌, map, option_map, take, drop}
use Rattle.seg_norms.specs.FieldNorms.{filled}
use Rattle.seg_norms.proofs.field_norms_writer.fill_all.Given as goal

-- what is so far, with what is left, is all
abbrev pub invariant-loop-place : goal.invariant-loop-place
invariant-loop-place l = take l.place l.fields ++ map (option_map (filled l.max_doc)) (drop l.place l.fields) ≡ map (option_map (filled l.max_doc)) l.fn.fields
