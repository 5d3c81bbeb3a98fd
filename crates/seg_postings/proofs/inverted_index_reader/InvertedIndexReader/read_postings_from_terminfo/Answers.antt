use Rattle.std.proofs.Common.{◌≡◌, ◌∙◌, ℕ, List, ap, length, arith, slice_range}
use Rattle.seg_postings.proofs.InfoPostings.{here, is_there, all_left, number}
use Rattle.seg_postings.proofs.inverted_index_reader.InvertedIndexReader.read_postings_from_terminfo.Goals as goal

pub bytes_in-documents-requires-clause-rise : goal.bytes_in-documents-requires-clause-rise
bytes_in-documents-requires-clause-rise c =
    let s = c.self.inside in
    let h = here c.args.self.now s.total s.postings s.positions s.terms c.args.info.now c.self.view_is c.self.invariant.0 c.requires in
    h.within.0

pub bytes_in-documents-requires-clause-within : goal.bytes_in-documents-requires-clause-within
bytes_in-documents-requires-clause-within c =
    let s = c.self.inside in
    let h = here c.args.self.now s.total s.postings s.positions s.terms c.args.info.now c.self.view_is c.self.invariant.0 c.requires in
    omega (arith, h.within.1, ap length c.as_slice.ensures)

pub bytes_in-positions-requires-clause-rise : goal.bytes_in-positions-requires-clause-rise
bytes_in-positions-requires-clause-rise c =
    let s = c.self.inside in
    let h = here c.args.self.now s.total s.postings s.positions s.terms c.args.info.now c.self.view_is c.self.invariant.0 c.requires in
    h.within.2

pub bytes_in-positions-requires-clause-within : goal.bytes_in-positions-requires-clause-within
bytes_in-positions-requires-clause-within c =
    let s = c.self.inside in
    let h = here c.args.self.now s.total s.postings s.positions s.terms c.args.info.now c.self.view_is c.self.invariant.0 c.requires in
    omega (arith, h.within.3, ap length c.as_slice-2.ensures)

pub new-requires-clause-read : goal.new-requires-clause-read
new-requires-clause-read c =
    let s = c.self.inside in
    let documents : c.bytes_in-documents.result.now ≡ slice_range s.postings c.args.info.now.postings_start c.args.info.now.postings_end = c.bytes_in-documents.ensures ∙ ap (λ (l : List ℕ). slice_range l c.args.info.now.postings_start c.args.info.now.postings_end) c.as_slice.ensures in
    let places : c.bytes_in-positions.result.now ≡ slice_range s.positions c.args.info.now.positions_start c.args.info.now.positions_end = c.bytes_in-positions.ensures ∙ ap (λ (l : List ℕ). slice_range l c.args.info.now.positions_start c.args.info.now.positions_end) c.as_slice-2.ensures in
    is_there c.args.self.now s.total s.postings s.positions s.terms c.args.info.now c.self.view_is c.self.invariant.0 c.requires c.bytes_in-documents.result.now c.bytes_in-positions.result.now documents places

pub new-requires-clause-occurs : goal.new-requires-clause-occurs
new-requires-clause-occurs c =
    let s = c.self.inside in
    let h = here c.args.self.now s.total s.postings s.positions s.terms c.args.info.now c.self.view_is c.self.invariant.0 c.requires in
    h.occurs

pub returns-clause-left : goal.returns-clause-left
returns-clause-left c =
    let s = c.self.inside in
    let documents : c.bytes_in-documents.result.now ≡ slice_range s.postings c.args.info.now.postings_start c.args.info.now.postings_end = c.bytes_in-documents.ensures ∙ ap (λ (l : List ℕ). slice_range l c.args.info.now.postings_start c.args.info.now.postings_end) c.as_slice.ensures in
    let places : c.bytes_in-positions.result.now ≡ slice_range s.positions c.args.info.now.positions_start c.args.info.now.positions_end = c.bytes_in-positions.ensures ∙ ap (λ (l : List ℕ). slice_range l c.args.info.now.positions_start c.args.info.now.positions_end) c.as_slice-2.ensures in
    all_left c.args.self.now s.total s.postings s.positions s.terms c.args.info.now c.self.view_is c.self.invariant.0 c.requires c.bytes_in-documents.result.now c.bytes_in-positions.result.now documents places c.new.result.left c.new.ensures.left

pub returns-clause-number : goal.returns-clause-number
returns-clause-number c =
    let s = c.self.inside in
    let documents : c.bytes_in-documents.result.now ≡ slice_range s.postings c.args.info.now.postings_start c.args.info.now.postings_end = c.bytes_in-documents.ensures ∙ ap (λ (l : List ℕ). slice_range l c.args.info.now.postings_start c.args.info.now.postings_end) c.as_slice.ensures in
    let places : c.bytes_in-positions.result.now ≡ slice_range s.positions c.args.info.now.positions_start c.args.info.now.positions_end = c.bytes_in-positions.ensures ∙ ap (λ (l : List ℕ). slice_range l c.args.info.now.positions_start c.args.info.now.positions_end) c.as_slice-2.ensures in
    c.new.ensures.all ∙ number c.args.self.now s.total s.postings s.positions s.terms c.args.info.now c.self.view_is c.self.invariant.0 c.requires c.bytes_in-documents.result.now c.bytes_in-positions.result.now documents places c.new.result.left c.new.ensures.left
