use Rattle.seg_common.specs.WriterGrowth.{HasGrown}
use Rattle.seg_segment.specs.WrittenTerms.{with_terms}
use Rattle.seg_build.proofs.WrittenTerms.{first_written}
use Rattle.seg_build.proofs.written_terms.write_terms.Given as goal

abbrev pub invariant-loop-at : goal.invariant-loop-at
invariant-loop-at l = HasGrown l.initial.writer l.writer (with_terms (first_written l.at l.terms))
