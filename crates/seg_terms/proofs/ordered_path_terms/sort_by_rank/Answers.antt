use Rattle.std.proofs.Common.{rules}
use Rattle.seg_paths.proofs.Exports.{sorted_by_bytes}
use Rattle.seg_terms.specs.PathKeys.{ranked}
use Rattle.seg_terms.specs.declared.term_part.TermPart.{TermPart}
use Rattle.seg_terms.proofs.ordered_path_terms.sort_by_rank.Goals as goal

pub returns-clause-sorted : goal.returns-clause-sorted
returns-clause-sorted c = sorted_by_bytes (λ (t : TermPart). ranked c.args.ranks.now t.key)
    c.sort_unstable_by.new.self.items c.sort_unstable_by.ensures.sorted (λ a r q k. search rules)
