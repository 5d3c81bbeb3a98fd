use Rattle.std.proofs.Common.{rules}
use Rattle.seg_paths.proofs.Exports.{sorted_by_bytes}
use Rattle.seg_terms.specs.declared.term_part.TermPart.{TermPart}
use Rattle.seg_terms.proofs.CutOccurrences.{sorted_entries, sorted_whole}
use Rattle.seg_terms.proofs.ordered_terms.order_terms.Goals as goal

pub invariant_of-result : goal.invariant_of-result
invariant_of-result c =
    let known = c.index.inside.known in
    let found = c.in_ok-terms.field-0 in
    let up = sorted_by_bytes (λ (t : TermPart). t.key) c.sort_unstable_by.new.self.items c.sort_unstable_by.ensures.sorted
    (λ a r q k. search rules) in
    sorted_whole known.keys.keys known.hits.items found.terms.items found.hits.items c.in_ok-terms.ensures
    c.sort_unstable_by.new.self.items c.sort_unstable_by.ensures.permutation up

pub returns : goal.returns
returns c =
    let known = c.index.inside.known in
    let found = c.in_ok-terms.field-0 in
    let up = sorted_by_bytes (λ (t : TermPart). t.key) c.sort_unstable_by.new.self.items c.sort_unstable_by.ensures.sorted
    (λ a r q k. search rules) in
    sorted_entries known.keys.keys known.hits.items found.terms.items found.hits.items c.in_ok-terms.ensures
    c.sort_unstable_by.new.self.items c.sort_unstable_by.ensures.permutation up c.args.index c.index.view_is
