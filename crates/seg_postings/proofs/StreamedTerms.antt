-- A streamer over all terms of a dictionary, one term further on, and at its end.
use Rattle.std.proofs.Common.{◌≡◌, ℕ, ◌+◌, ◌<◌, ◌≤◌, ◌&&◌, true, false, List, ◌∷◌, length, drop, get_or, sym, ap, ◌∙◌, arith, add-one}
use Rattle.std.specs.Prelude.{nat_lt, if◌then◌else◌}
use Rattle.std.specs.List.{list_all}
use Rattle.std.proofs.lemmas.Bool.{ltb-true, ltb-false}
use Rattle.std.proofs.lemmas.List.{at_drop_all, at_drop_more}
use Rattle.seg_common.specs.declared.term_info.TermInfo.{TermInfo}
use Rattle.seg_values.specs.declared.schema.FieldKind.{FieldKind}
use Rattle.seg_termdict.specs.Dictionary.{Term}
use Rattle.seg_termdict.specs.SortedTerms.{RankedTerm}
use Rattle.seg_termdict.specs.TermStreams.{Stream, no_ranked, no_term, current, advanced, ranked_terms}
use Rattle.seg_termdict.proofs.Exports.{ranked_at, ranked_length, ranked_of}
use Rattle.seg_postings.specs.TermForms.{has_form, is_formed}

abbrev one_further : Stream → Stream
one_further s = record { terms = s.terms; backward = s.backward; taken = s.taken + 1 }

module _ (terms : List Term) (s : Stream) (of : s.terms ≡ ranked_terms terms) where
  as_many : length s.terms ≡ length terms
  as_many = ap length of ∙ ranked_length terms

  module _ (after : Stream) (more : nat_lt s.taken (length s.terms) ≡ true) (is : after ≡ advanced s) where
    further : after ≡ one_further s
    further = is ∙ ap (λ b. if b then one_further s else s) more

    pub still_of : after.terms ≡ ranked_terms terms
    still_of = ap (λ (x : Stream). x.terms) further ∙ of

    pub taken_more : after.taken ≡ s.taken + 1
    taken_more = ap (λ (x : Stream). x.taken) further

    pub within : s.taken < length terms
    within = let lt : s.taken < length s.terms = ltb-true _ _ more in omega (arith, lt, as_many)

    come_to : current after ≡ ranked_of (s.taken, get_or terms s.taken no_term)
    come_to =
        ap current further
        ∙ ap (λ k. get_or (no_ranked ∷ s.terms) k no_ranked) (add-one s.taken)
        ∙ ap (λ ts. get_or ts s.taken no_ranked) of
        ∙ ranked_at terms s.taken within

    pub key_is : (key : List ℕ) → key ≡ (current after).key → key ≡ (get_or terms s.taken no_term).0
    key_is key key_here = key_here ∙ ap (λ (t : RankedTerm TermInfo). t.key) come_to

    module _ (kind : FieldKind) (key : List ℕ) (key_here : key ≡ (current after).key) where
      more_formed : list_all (is_formed kind) (drop s.taken terms) ≡ (has_form kind key && list_all (is_formed kind) (drop (s.taken + 1) terms))
      more_formed =
          at_drop_more (list_all (is_formed kind)) terms s.taken no_term within
          ∙ ap (λ (k : List ℕ). has_form kind k && list_all (is_formed kind) (drop (s.taken + 1) terms)) (sym (key_is key key_here))

      -- one that has the form leaves the others to decide
      pub formed_turn : has_form kind key ≡ true → list_all (is_formed kind) (drop after.taken terms) ≡ list_all (is_formed kind) (drop s.taken terms)
      formed_turn form = ap (λ n. list_all (is_formed kind) (drop n terms)) taken_more ∙ sym (more_formed ∙ ap (λ b. b && list_all (is_formed kind) (drop (s.taken + 1) terms)) form)

      pub formed_stops : has_form kind key ≡ false → list_all (is_formed kind) (drop s.taken terms) ≡ false
      formed_stops form = more_formed ∙ ap (λ b. b && list_all (is_formed kind) (drop (s.taken + 1) terms)) form

    pub info_is : (info : TermInfo) → info ≡ (current after).info → info ≡ (get_or terms s.taken no_term).1
    info_is info info_here = info_here ∙ ap (λ (t : RankedTerm TermInfo). t.info) come_to

  pub at_end : nat_lt s.taken (length s.terms) ≡ false → length terms ≤ s.taken
  at_end none = let le : length s.terms ≤ s.taken = ltb-false _ _ none in omega (arith, le, as_many)

  pub formed_ends : nat_lt s.taken (length s.terms) ≡ false → (kind : FieldKind) → list_all (is_formed kind) (drop s.taken terms) ≡ true
  formed_ends none kind = at_drop_all (list_all (is_formed kind)) terms s.taken (at_end none)
