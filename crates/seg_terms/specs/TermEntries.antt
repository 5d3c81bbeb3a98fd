-- The terms of a field as a list.
use Rattle.std.specs.Prelude.{ℕ, List}
use Rattle.std.specs.Coded.{Coded, coded×, coded_list, coded_ℕ}
use Rattle.seg_model.specs.DocumentTerms.{Posting}
use Rattle.seg_model.specs.Codes.{posting_code}

-- value bytes with postings
abbrev pub TermEntries : Type 0
TermEntries = List (List ℕ × List Posting)

-- the code by which a proof tells them apart
abbrev pub entries_code : Coded TermEntries
entries_code = coded_list (coded× (coded_list coded_ℕ) (coded_list posting_code))
