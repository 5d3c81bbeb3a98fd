use Rattle.std.proofs.Common.{List, sym, ap, subst, ◌∙◌}
use Rattle.std.specs.List.{AllByRecursion}
use Rattle.seg_merger.specs.JoinedTerms.{IsOpenAt}
use Rattle.seg_merger.specs.JoinedTotals.{tokens_in}
use Rattle.seg_merger.specs.NewIds.{NumberedSegment, parts_of}
use Rattle.seg_merger.proofs.NumberedParts.{all_open}
use Rattle.seg_merger.proofs.joined_terms.NumberedPartsTermsByField.total_num_tokens.Goals as goal

pub tokens_of-requires : goal.tokens_of-requires
tokens_of-requires c =
    subst (λ (ns : List NumberedSegment). AllByRecursion (IsOpenAt c.args.field) (parts_of ns)) (sym c.as_slice.ensures) (all_open c.requires.entry c.args.field (parts_of c.args.self.now) c.requires.segments)

pub returns : goal.returns
returns c = c.tokens_of.ensures ∙ ap (λ (ns : List NumberedSegment). tokens_in c.args.field (parts_of ns)) c.as_slice.ensures
