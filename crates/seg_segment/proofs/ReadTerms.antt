-- A term that was read, with its postings or with its info.
use Rattle.std.proofs.Common.{ℕ, List}
use Rattle.seg_common.specs.declared.term_info.TermInfo.{TermInfo}
use Rattle.seg_model.specs.DocumentTerms.{Posting}
use Rattle.seg_postings.specs.OpenedFields.{ReadTerm}

abbrev pub pair_of : ReadTerm → List ℕ × List Posting
pair_of t = (t.bytes, t.postings)

abbrev pub term_of : ReadTerm → List ℕ × TermInfo
term_of t = (t.bytes, t.info)
