-- The terms of several streams, merged: each key once, ascending, with the streams that have it.
use Rattle.std.specs.Prelude.{◌≡◌, ℕ, ◌+◌, true, if◌then◌else◌, List, [], ◌∷◌, ◌++◌, map, get_or, Option, Some, None}
use Rattle.std.specs.FinMap.{entries}
use Rattle.std.specs.Ordering.{is_le}
use Rattle.std.specs.List.Sorted.{IsStrictlySortedBy}
use Rattle.std.specs.Str.{bytes_eq}
use Rattle.seg_common.specs.declared.term_info.TermInfo.{TermInfo}
use Rattle.seg_termdict.specs.SortedTerms.{RankedTerm, key_cmp}
use Rattle.seg_termdict.specs.MergedTerms.{Standing, keys_in, merged_terms}
use Rattle.seg_termdict.specs.TermStreams.{Stream, no_ranked}

-- a key, and where it is
abbrev pub MergedTerm : Type 0
MergedTerm = List ℕ × List (Standing TermInfo)

-- what is told of a merged term: its key, and of each stream that has it the number, with the ordinal and with the info
pub record ToldTerm : Type 0 where
  pub key : List ℕ
  pub ords : List (ℕ × ℕ)
  pub infos : List (ℕ × TermInfo)

abbrev pub ord_of : Standing TermInfo → ℕ × ℕ
ord_of s = (s.segment, s.ord)

abbrev pub info_of : Standing TermInfo → ℕ × TermInfo
info_of s = (s.segment, s.info)

abbrev pub told : MergedTerm → ToldTerm
told t = record { key = t.0; ords = map ord_of t.1; infos = map info_of t.1 }

-- the merged terms that are left, and the one that a merger has come to
pub record Merging : Type 0 where
  pub left : List MergedTerm
  pub current : Option ToldTerm

-- the terms of a stream that has come to none
abbrev pub terms_of_stream : Stream → List (RankedTerm TermInfo)
terms_of_stream s = s.terms

-- before the first merged term of some streams
abbrev pub before_merged : List Stream → Merging
before_merged streams = record { left = entries (merged_terms (map terms_of_stream streams)); current = None }

-- at the first of some terms, or where there is none at the end
abbrev pub at_first : List MergedTerm → Merging
at_first [] = record { left = []; current = None }
at_first (t ∷ ts) = record { left = ts; current = Some (told t) }

-- the next merged term, where there is one
abbrev pub stepped : Merging → Merging
stepped m = at_first m.left

-- ---- the streams of a merger, each as the terms that it has left

-- keys strictly ascend
abbrev pub Ascends : List (RankedTerm TermInfo) → Type 0
Ascends terms = IsStrictlySortedBy key_cmp (keys_in terms)

-- the first term, where there is one
abbrev pub first : List (RankedTerm TermInfo) → RankedTerm TermInfo
first terms = get_or terms 0 no_ranked

-- the first term, where it has the key
abbrev pub first_with : List ℕ → List (RankedTerm TermInfo) → Option (ℕ × TermInfo)
first_with key [] = None
first_with key (t ∷ ts) = if bytes_eq key t.key then Some (t.ord, t.info) else None

-- the terms after it, where it has the key
abbrev pub behind : List ℕ → List (RankedTerm TermInfo) → List (RankedTerm TermInfo)
behind key [] = []
behind key (t ∷ ts) = if bytes_eq key t.key then ts else t ∷ ts

-- where a key is among first terms
abbrev pub standing_first : ℕ → Option (ℕ × TermInfo) → List (Standing TermInfo)
standing_first segment None = []
standing_first segment (Some t) = record { segment = segment; ord = t.0; info = t.1 } ∷ []

abbrev pub standings_first : ℕ → List ℕ → List (List (RankedTerm TermInfo)) → List (Standing TermInfo)
standings_first segment key [] = []
standings_first segment key (terms ∷ streams) = standing_first segment (first_with key terms)
    ++ standings_first (segment + 1) key streams

-- the first term, if there is one, isn't below a key
abbrev pub NotBelow : List ℕ → List (RankedTerm TermInfo) → Type 0
NotBelow key [] = Unit {0}
NotBelow key (t ∷ ts) = is_le (key_cmp key t.key) ≡ true

-- what a merger has come to, of what it noted
abbrev pub noted : List ℕ → List (ℕ × ℕ) → List (ℕ × TermInfo) → Option ToldTerm
noted key [] infos = None
noted key (o ∷ os) infos = Some (record { key = key; ords = o ∷ os; infos = infos })
