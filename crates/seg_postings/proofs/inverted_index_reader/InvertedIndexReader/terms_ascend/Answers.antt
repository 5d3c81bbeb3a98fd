use Rattle.seg_postings.proofs.FieldMap.{map_of_field}
use Rattle.seg_postings.proofs.inverted_index_reader.InvertedIndexReader.terms_ascend.Goals as goal

pub returns : goal.returns
returns c =
    let s = c.self.inside in
    map_of_field c.args.self.now s.total s.postings s.positions s.terms c.self.view_is c.keys_ascend.ensures
