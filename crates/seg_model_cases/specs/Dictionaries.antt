-- Cases of terms in order: ordinals, ranges, and merged terms.
use Rattle.std.specs.Prelude.{◌≡◌, ℕ, List, [], ◌∷◌, map, codes, true, false, Some, None, nat_lt, length}
use Rattle.std.specs.FinMap.{from_sorted, get}
use Rattle.std.specs.declared.ops.Bound.{Bound}
use Rattle.std.specs.declared.ops.Bound.TheVariants.{Included, Excluded, Unbounded}
use Rattle.seg_termdict.specs.SortedTerms.{SortedTerms, TermRange, RankedTerm, term_ord, info_at, searched, streamed, all_terms_range}
use Rattle.seg_termdict.specs.MergedTerms.{Standing, merged_terms}

abbrev pub listed : List (List ℕ × ℕ)
listed = (codes "a", 7) ∷ (codes "ab", 8) ∷ (codes "b", 9) ∷ []

abbrev pub terms : SortedTerms ℕ
terms = from_sorted listed

abbrev pub ranked : ℕ → List ℕ → ℕ → RankedTerm ℕ
ranked ord key info = record { ord = ord; key = key; info = info }

abbrev pub range : Bound (List ℕ) → Bound (List ℕ) → TermRange
range lower upper = record { lower = lower; upper = upper; backward = false }

-- the ordinals of what a range gives
abbrev pub given : TermRange → List ℕ
given range = map (λ (t : RankedTerm ℕ). t.ord) (streamed range terms)

-- four words
abbrev pub words : List (List ℕ × ℕ)
words = (codes "abba", 1) ∷ (codes "bjork", 1) ∷ (codes "blur", 1) ∷ (codes "donovan", 1) ∷ []

abbrev pub word_terms : SortedTerms ℕ
word_terms = from_sorted words

-- the ordinals of the words that a range gives
abbrev pub words_in : TermRange → List ℕ
words_in range = map (λ (t : RankedTerm ℕ). t.ord) (streamed range word_terms)

-- from the first word that begins with b up to the first that begins with d
abbrev pub from_b_to_d : TermRange
from_b_to_d = range (Included (codes "b")) (Excluded (codes "d"))

-- the segment 0 has b, the segment 1 a and b
abbrev pub segments : List (List (RankedTerm ℕ))
segments = (ranked 0 (codes "b") 5 ∷ []) ∷ (ranked 0 (codes "a") 6 ∷ ranked 1 (codes "b") 7 ∷ []) ∷ []

abbrev pub standing : ℕ → ℕ → ℕ → Standing ℕ
standing segment ord info = record { segment = segment; ord = ord; info = info }

pub record DictionaryCases : Type 0 where
  pub ordinals : map (term_ord terms) (codes "a" ∷ codes "ab" ∷ codes "b" ∷ codes "aa" ∷ [])
      ≡ Some 0 ∷ Some 1 ∷ Some 2 ∷ None ∷ []
  pub infos : map (info_at terms) (1 ∷ 3 ∷ []) ≡ Some 8 ∷ None ∷ []
  pub all : streamed all_terms_range terms
      ≡ ranked 0 (codes "a") 7 ∷ ranked 1 (codes "ab") 8 ∷ ranked 2 (codes "b") 9 ∷ []
  pub bounds : map given (range (Included (codes "a")) (Excluded (codes "b"))
      ∷ range (Excluded (codes "a")) (Included (codes "b"))
      ∷ range (Included (codes "aa")) Unbounded ∷ range Unbounded (Excluded (codes "a")) ∷ [])
      ≡ (0 ∷ 1 ∷ []) ∷ (1 ∷ 2 ∷ []) ∷ (1 ∷ 2 ∷ []) ∷ [] ∷ []
  pub backward : given (record (range (Excluded (codes "a")) Unbounded) { backward = true }) ≡ 2 ∷ 1 ∷ []
  -- forward, backward, and between bounds that are reversed
  pub between : map words_in
      (from_b_to_d ∷ record from_b_to_d { backward = true } ∷ range (Included (codes "d")) (Excluded (codes "b")) ∷ [])
      ≡ (1 ∷ 2 ∷ []) ∷ (2 ∷ 1 ∷ []) ∷ [] ∷ []
  -- of the keys of one byte
  pub accepted : map (λ (t : RankedTerm ℕ). t.ord) (searched all_terms_range (λ key. nat_lt (length key) 2) terms)
      ≡ 0 ∷ 2 ∷ []
  pub merged : map (get (merged_terms segments)) (codes "a" ∷ codes "b" ∷ codes "c" ∷ [])
      ≡ Some (standing 1 0 6 ∷ []) ∷ Some (standing 0 0 5 ∷ standing 1 1 7 ∷ []) ∷ None ∷ []
