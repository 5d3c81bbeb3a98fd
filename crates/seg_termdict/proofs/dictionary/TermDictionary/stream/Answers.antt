use Rattle.std.proofs.Common.{false, ap, ◌∙◌}
use Rattle.seg_termdict.specs.TermStreams.{before_all}
use Rattle.seg_termdict.proofs.RankedTerms.{all_between}
use Rattle.seg_termdict.proofs.dictionary.TermDictionary.stream.Goals as goal

pub returns : goal.returns
returns c = c.new.ensures ∙ ap (before_all false) (all_between c.args.self.now c.num_terms.result c.num_terms.ensures)
