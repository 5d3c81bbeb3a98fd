-- The terms of a field, one after another.
use Rattle.std.proofs.Common.{◌≡◌, ℕ, zero, suc, ◌+◌, ◌<◌, ◌≤◌, List, [], ◌∷◌, map, drop, length, true, false, sym, ap, ◌∙◌, arith, add-one, get_or}
use Rattle.std.specs.Prelude.{nat_lt, if◌then◌else◌}
use Rattle.std.proofs.lemmas.Bool.{ltb-true, ltb-false}
use Rattle.std.proofs.lemmas.List.{drop_all, length-map}
use Rattle.seg_segment.proofs.Exports.{term_of}
use Rattle.seg_termdict.specs.SortedTerms.{RankedTerm}
use Rattle.seg_termdict.specs.TermStreams.{Stream, no_ranked, no_term, current, advanced, ranked_terms}
use Rattle.seg_termdict.proofs.Exports.{ranked_at, ranked_length, ranked_of}
use Rattle.seg_common.specs.declared.term_info.TermInfo.{TermInfo}
use Rattle.seg_postings.specs.OpenedFields.{ReadTerm, OpenField, dictionary_terms}
use Rattle.seg_generate.specs.declared.summary.TermTotals.{TermTotals}
use Rattle.seg_tool.specs.Summaries.{with_terms}
use Rattle.seg_tool.proofs.TermSums.{with_both, with_none}

-- the bytes of a term
abbrev pub bytes_of : ReadTerm → List ℕ
bytes_of t = t.bytes

-- the term at a place, and those after it
next_bytes : (ts : List ReadTerm) (i : ℕ) (key : List ℕ) → i < length ts → key ≡ (get_or (map term_of ts) i no_term).0
    → map bytes_of (drop i ts) ≡ key ∷ map bytes_of (drop (suc i) ts)
next_bytes [] i key lt is = absurd (omega (arith, lt))
next_bytes (t ∷ ts) zero key lt is = ap (λ k. k ∷ map bytes_of ts) (sym is)
next_bytes (t ∷ ts) (suc i) key lt is = next_bytes ts i key (omega (arith, lt)) is

abbrev pub one_further : Stream → Stream
one_further s = record { terms = s.terms; backward = s.backward; taken = s.taken + 1 }

-- where a stream goes on
pub further : (s after : Stream) → nat_lt s.taken (length s.terms) ≡ true → after ≡ advanced s → after ≡ one_further s
further s after more is = is ∙ ap (λ b. if b then one_further s else s) more

module _ (f : OpenField) (s after : Stream) (of : s.terms ≡ ranked_terms (dictionary_terms f)) (more : nat_lt s.taken (length s.terms) ≡ true) (is : after ≡ advanced s) where
  pub still_of : after.terms ≡ ranked_terms (dictionary_terms f)
  still_of = ap (λ (x : Stream). x.terms) (further s after more is) ∙ of

  pub within : s.taken < length f.terms
  within =
      let lt : s.taken < length s.terms = ltb-true _ _ more in
      omega (arith, lt, ap length of, ranked_length (dictionary_terms f), length-map f.terms term_of)

  pub come_to : current after ≡ ranked_of (s.taken, get_or (dictionary_terms f) s.taken no_term)
  come_to =
      ap current (further s after more is)
      ∙ ap (λ k. get_or (no_ranked ∷ s.terms) k no_ranked) (add-one s.taken)
      ∙ ap (λ ts. get_or ts s.taken no_ranked) of
      ∙ ranked_at (dictionary_terms f) s.taken (omega (arith, within, length-map f.terms term_of))

  -- one term more
  pub term_more : (t u all : TermTotals) (key : List ℕ) → key ≡ (current after).key → u ≡ with_terms t (key ∷ [])
      → with_terms t (map bytes_of (drop s.taken f.terms)) ≡ all → with_terms u (map bytes_of (drop after.taken f.terms)) ≡ all
  term_more t u all key key_is grown whole =
      ap (λ (x : Stream). with_terms u (map bytes_of (drop x.taken f.terms))) (further s after more is)
      ∙ ap (λ v. with_terms v (map bytes_of (drop (s.taken + 1) f.terms))) grown
      ∙ with_both t (key ∷ []) (map bytes_of (drop (s.taken + 1) f.terms))
      ∙ ap (λ k. with_terms t (key ∷ map bytes_of (drop k f.terms))) (add-one s.taken)
      ∙ ap (with_terms t) (sym (next_bytes f.terms s.taken key within (key_is ∙ ap (λ (x : RankedTerm TermInfo). x.key) come_to)))
      ∙ whole

-- no term is left after the last
pub terms_done : (f : OpenField) (s : Stream) → s.terms ≡ ranked_terms (dictionary_terms f) → nat_lt s.taken (length s.terms) ≡ false → (t all : TermTotals)
    → with_terms t (map bytes_of (drop s.taken f.terms)) ≡ all → t ≡ all
terms_done f s of done t all is =
    let le : length s.terms ≤ s.taken = ltb-false s.taken (length s.terms) done in
    let none : drop s.taken f.terms ≡ [] = drop_all s.taken f.terms (omega (arith, le, ap length of, ranked_length (dictionary_terms f), length-map f.terms term_of)) in
    sym (with_none t) ∙ ap (λ (ts : List ReadTerm). with_terms t (map bytes_of ts)) (sym none) ∙ is
