use Rattle.std.proofs.Common.{Some, ap, sym, ◌∙◌}
use Rattle.seg_terms.specs.TermParts.{entry_of}
use Rattle.seg_terms.proofs.SortedEntries.{key_at}
use Rattle.seg_terms.proofs.ordered_terms.OrderedTerms.bytes_at.Goals as goal

pub returns : goal.returns
returns c = key_at (entry_of c.self.inside.hits.items)
    c.self.inside.terms.items c.args.self.now c.self.view_is c.args.index c.index-term.result.now c.requires
    c.index-term.ensures ∙ ap Some (sym c.as_slice.ensures)
