use Rattle.std.proofs.Common.{◌≡◌, ◌++◌, drop, map}
use Rattle.seg_terms.specs.declared.hit.Hit.{Hit}
use Rattle.seg_build.proofs.written_terms.push_places.Given as goal

-- what is so far, with what is left, is all
abbrev pub invariant-loop-hit : goal.invariant-loop-hit
invariant-loop-hit l = l.places.items ++ map (λ (h : Hit). h.position) (drop l.hit-index l.hits) ≡ l.initial.places.items ++ map (λ (h : Hit). h.position) l.hits
