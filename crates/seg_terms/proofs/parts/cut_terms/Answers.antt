use Rattle.std.proofs.Common.{ap, subst, ◌∙◌}
use Rattle.seg_terms.specs.OrderedOccurrences.{AreOrdered}
use Rattle.seg_terms.specs.TermParts.{cut_from}
use Rattle.seg_terms.proofs.parts.cut_terms.Goals as goal

pub returns : goal.returns
returns c =
    let ordered = c.in_ok-hits.field-0 in
    record {
      distinct = c.in_ok-terms.ensures.distinct;
      ends = ordered.ends.items;
      together = subst (λ n. AreOrdered n c.args.known.hits.items ordered.hits.items ordered.ends.items) c.len.ensures.len
          c.in_ok-hits.ensures;
      cut = c.in_ok-terms.ensures.cut ∙ ap (cut_from 0 c.args.known.keys.keys) c.deref.ensures.value;
    }
