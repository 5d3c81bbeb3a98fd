use Rattle.std.proofs.Common.{◌∙◌, sym, ap}
use Rattle.seg_postings.specs.OpenedFields.{dictionary_terms}
use Rattle.seg_postings.proofs.OpenedFields.{dictionary_back}
use Rattle.seg_postings.proofs.inverted_index_reader.InvertedIndexReader.terms.Goals as goal

pub returns : goal.returns
returns c =
    let s = c.self.inside in
    sym (dictionary_back s.total s.postings s.positions s.terms) ∙ ap dictionary_terms c.self.view_is
