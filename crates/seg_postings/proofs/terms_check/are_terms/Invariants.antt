use Rattle.std.proofs.Common.{◌≡◌, drop}
use Rattle.std.specs.List.{list_all}
use Rattle.seg_postings.specs.OpenedFields.{is_read}
use Rattle.seg_postings.proofs.terms_check.are_terms.Given as goal

-- what is left decides
abbrev pub invariant-loop-ord : goal.invariant-loop-ord
invariant-loop-ord l = list_all (is_read (record { kind = l.asked.kind; index = l.asked.index; max_doc = l.max_doc }) l.postings l.positions) (drop l.ord l.terms) ≡ list_all (is_read (record { kind = l.asked.kind; index = l.asked.index; max_doc = l.max_doc }) l.postings l.positions) l.terms
