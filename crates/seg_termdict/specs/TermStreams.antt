-- A dictionary's terms with their ordinals, and some of them, one after another.
use Rattle.std.specs.Prelude.{ℕ, ◌+◌, Bool, false, nat_lt, if◌then◌else◌, List, [], ◌∷◌, map, length, get_or}
use Rattle.std.specs.List.{enumerate_from}
use Rattle.seg_common.specs.declared.term_info.TermInfo.{TermInfo}
use Rattle.seg_termdict.specs.SortedTerms.{RankedTerm}
use Rattle.seg_termdict.specs.Dictionary.{Term}

-- each term with its ordinal
abbrev pub ranked_terms : List Term → List (RankedTerm TermInfo)
ranked_terms terms = map (λ t. record { ord = t.0; key = t.1.0; info = t.1.1 }) (enumerate_from 0 terms)

-- a term apart from its ordinal
abbrev pub without_ord : RankedTerm TermInfo → Term
without_ord t = (t.key, t.info)

-- what is in the place of a term before the first: no byte, and an info of zeros
abbrev pub no_term : Term
no_term = ([], record { doc_freq = 0; postings_start = 0; postings_end = 0; positions_start = 0; positions_end = 0 })

-- the same with an ordinal
abbrev pub no_ranked : RankedTerm TermInfo
no_ranked = record { ord = 0; key = no_term.0; info = no_term.1 }

-- the terms that a streamer iterates over, whether they come from the greatest on, and how many of them it has come to
pub record Stream : Type 0 where
  pub terms : List (RankedTerm TermInfo)
  pub backward : Bool
  pub taken : ℕ

-- before the first of the terms
abbrev pub before_all : Bool → List (RankedTerm TermInfo) → Stream
before_all backward terms = record { terms = terms; backward = backward; taken = 0 }

-- before the first of all terms of a dictionary
abbrev pub all_terms : List Term → Stream
all_terms terms = before_all false (ranked_terms terms)

-- the term that a streamer has come to last
abbrev pub current : Stream → RankedTerm TermInfo
current s = get_or (no_ranked ∷ s.terms) s.taken no_ranked

-- the next term, where there is one
abbrev pub advanced : Stream → Stream
advanced s = if nat_lt s.taken (length s.terms)
    then record { terms = s.terms; backward = s.backward; taken = s.taken + 1 } else s
