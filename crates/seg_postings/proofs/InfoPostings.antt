-- The postings that an info of an open field tells.
use Rattle.std.proofs.Common.{◌≡◌, ℕ, true, List, [], ◌∷◌, length, map, Some, sym, ap, ◌∙◌, subst, slice_range}
use Rattle.std.specs.Prelude.{is_some, option_map}
use Rattle.std.specs.List.{AllByRecursion, Any}
use Rattle.std.proofs.lemmas.Option.{same_Some}
use Rattle.seg_common.specs.declared.term_info.TermInfo.{TermInfo}
use Rattle.seg_common.proofs.Lists.{all_at}
use Rattle.seg_termdict.specs.Dictionary.{Term}
use Rattle.seg_model.specs.DocumentTerms.{Posting}
use Rattle.seg_postings.specs.Postings.{TermPostings, term_postings}
use Rattle.seg_postings.specs.OpenedFields.{ReadTerm, OpenField, read_term, dictionary_terms, postings_in, IsReadable}
use Rattle.seg_postings.proofs.CheckedFields.{length_of_term}
use Rattle.seg_postings.proofs.OpenedFields.{dictionary_back}

-- some term has the info, and all can be read
pub readable_info : (postings positions : List ℕ) (terms : List Term) (info : TermInfo) → AllByRecursion (IsReadable postings positions) terms → Any (λ t. t.1 ≡ info) terms → IsReadable postings positions ([], info)
readable_info postings positions terms info all (k, t, lt, at, is) =
    let r : IsReadable postings positions t = subst (IsReadable postings positions) at (all_at (IsReadable postings positions) terms k t all lt) in
    let e : t.1 ≡ info = is in
    subst (λ (x : TermInfo). IsReadable postings positions ([], x)) e (record { within = r.within; read = r.read; occurs = r.occurs })

module _ (self : OpenField) (total : ℕ) (postings positions : List ℕ) (terms : List Term) (info : TermInfo) (view : record { total = total; terms = map (read_term postings positions) terms } ≡ self) (readable : AllByRecursion (IsReadable postings positions) terms) (has : Any (λ t. t.1 ≡ info) (dictionary_terms self)) where
  has_here : Any (λ t. t.1 ≡ info) terms
  has_here = subst (λ (ts : List Term). Any (λ t. t.1 ≡ info) ts) (sym (ap dictionary_terms view) ∙ dictionary_back total postings positions terms) has

  pub here : IsReadable postings positions ([], info)
  here = readable_info postings positions terms info readable has_here

  all_same : (ts : List Term) (left : List Posting) → left ≡ (postings_in postings positions info).postings → AllByRecursion (λ (t : ReadTerm). t.info ≡ info → left ≡ t.postings) (map (read_term postings positions) ts)
  all_same [] left is = tt
  all_same (t ∷ ts) left is = (λ e. is ∙ sym (ap (λ (x : TermInfo). (postings_in postings positions x).postings) e), all_same ts left is)

  module _ (documents places : List ℕ) (documents_are : documents ≡ slice_range postings info.postings_start info.postings_end) (places_are : places ≡ slice_range positions info.positions_start info.positions_end) where
    pub term_is : term_postings info.doc_freq documents places ≡ Some (postings_in postings positions info)
    term_is = rw (documents_are, places_are) here.read

    pub is_there : is_some (term_postings info.doc_freq documents places) ≡ true
    is_there = ap is_some term_is

    module _ (left : List Posting) (left_is : option_map (λ (t : TermPostings). t.postings) (term_postings info.doc_freq documents places) ≡ Some left) where
      left_here : left ≡ (postings_in postings positions info).postings
      left_here = sym (same_Some _ _ (sym (ap (option_map (λ (t : TermPostings). t.postings)) term_is) ∙ left_is))

      pub all_left : AllByRecursion (λ (t : ReadTerm). t.info ≡ info → left ≡ t.postings) self.terms
      all_left = subst (λ (f : OpenField). AllByRecursion (λ (t : ReadTerm). t.info ≡ info → left ≡ t.postings) f.terms) view (all_same terms left left_here)

      pub number : info.doc_freq ≡ length left
      number = sym (ap length left_here ∙ length_of_term info.doc_freq documents places (postings_in postings positions info) term_is)
