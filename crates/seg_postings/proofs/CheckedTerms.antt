-- Terms of a dictionary, checked one by one.
use Rattle.std.proofs.Common.{◌≡◌, ℕ, ◌+◌, ◌<◌, ◌≤◌, ◌&&◌, Bool, true, false, List, [], length, get_or, drop, Option, Some, sym, ap, ◌∙◌, subst, slice_range}
use Rattle.std.specs.Prelude.{nat_lt, IsSomeAnd, slice_get}
use Rattle.std.specs.List.{list_all, AllByRecursion}
use Rattle.std.proofs.lemmas.List.{at_drop_more, at_drop_all}
use Rattle.std.proofs.lemmas.Option.{slice_get-get_or}
use Rattle.seg_common.specs.declared.term_info.TermInfo.{TermInfo}
use Rattle.seg_common.proofs.Lists.{all_at}
use Rattle.seg_termdict.specs.Dictionary.{Term}
use Rattle.seg_postings.specs.declared.record_kind.RecordKind.{RecordKind}
use Rattle.seg_postings.specs.Postings.{term_postings}
use Rattle.seg_postings.specs.PostingsWithoutPositions.{is_counted, is_counted_info}
use Rattle.seg_postings.specs.RemainingPostings.{is_term_of}
use Rattle.seg_postings.specs.FieldParts.{LiesWithin}
use Rattle.seg_postings.specs.OpenedFields.{FieldRules, kind_by, is_read}

-- an info at a place lies within what all lie within
pub info_within : (m n : ℕ) (terms : List Term) (i : ℕ) (info : TermInfo) → AllByRecursion (LiesWithin m n) terms → i < length terms → IsSomeAnd (slice_get terms i) (λ t. t.1 ≡ info) → LiesWithin m n ([], info)
info_within m n terms i info all lt has =
    let d : Term = ([], info) in
    let is : (get_or terms i d).1 ≡ info = subst (λ (o : Option Term). IsSomeAnd o (λ t. t.1 ≡ info)) (slice_get-get_or terms i d lt) has in
    subst (λ (x : TermInfo). LiesWithin m n ([], x)) is (all_at (LiesWithin m n) terms i d all lt)

-- each term is as some test says about its kind and its info
module _ (rules : FieldRules) (good : RecordKind → TermInfo → Bool) where
  abbrev passes : Term → Bool
  passes t = good (kind_by rules t.0) t.1

  module _ (terms : List Term) (i : ℕ) (kind : RecordKind) (info : TermInfo) (lt : i < length terms) (asked : IsSomeAnd (slice_get terms i) (λ t. kind ≡ kind_by rules t.0)) (has : IsSomeAnd (slice_get terms i) (λ t. t.1 ≡ info)) where
    abbrev here : Term
    here = get_or terms i ([], info)

    is_here : slice_get terms i ≡ Some here
    is_here = slice_get-get_or terms i ([], info) lt

    one : passes here ≡ good kind info
    one =
        let k : kind ≡ kind_by rules here.0 = subst (λ (o : Option Term). IsSomeAnd o (λ t. kind ≡ kind_by rules t.0)) is_here asked in
        let v : here.1 ≡ info = subst (λ (o : Option Term). IsSomeAnd o (λ t. t.1 ≡ info)) is_here has in
        ap (λ x. good x here.1) (sym k) ∙ ap (good kind) v

    more : list_all passes (drop i terms) ≡ (good kind info && list_all passes (drop (i + 1) terms))
    more = at_drop_more (list_all passes) terms i ([], info) lt ∙ ap (λ b. b && list_all passes (drop (i + 1) terms)) one

    passes_turn : good kind info ≡ true → list_all passes (drop (i + 1) terms) ≡ list_all passes (drop i terms)
    passes_turn is = sym (more ∙ ap (λ b. b && list_all passes (drop (i + 1) terms)) is)

    passes_stops : good kind info ≡ false → list_all passes (drop i terms) ≡ false
    passes_stops is = more ∙ ap (λ b. b && list_all passes (drop (i + 1) terms)) is

module _ (rules : FieldRules) (postings positions : List ℕ) where
  -- whether an info is as the kind asks
  abbrev pub is_info_of : RecordKind → TermInfo → Bool
  is_info_of kind info = nat_lt 0 info.doc_freq && is_term_of kind rules.max_doc (term_postings info.doc_freq (slice_range postings info.postings_start info.postings_end) (slice_range positions info.positions_start info.positions_end))

  module _ (terms : List Term) (i : ℕ) (kind : RecordKind) (info : TermInfo) (lt : i < length terms) (asked : IsSomeAnd (slice_get terms i) (λ t. kind ≡ kind_by rules t.0)) (has : IsSomeAnd (slice_get terms i) (λ t. t.1 ≡ info)) where
    pub turn : is_info_of kind info ≡ true → list_all (is_read rules postings positions) (drop (i + 1) terms) ≡ list_all (is_read rules postings positions) (drop i terms)
    turn good = passes_turn rules is_info_of terms i kind info lt asked has good

    pub stops : is_info_of kind info ≡ false → list_all (is_read rules postings positions) (drop i terms) ≡ false
    stops bad = passes_stops rules is_info_of terms i kind info lt asked has bad

  pub all_checked : (terms : List Term) (i : ℕ) → length terms ≤ i → list_all (is_read rules postings positions) (drop i terms) ≡ true
  all_checked terms i past = at_drop_all (list_all (is_read rules postings positions)) terms i past

module _ (rules : FieldRules) (postings : List ℕ) where
  module _ (terms : List Term) (i : ℕ) (kind : RecordKind) (info : TermInfo) (lt : i < length terms) (asked : IsSomeAnd (slice_get terms i) (λ t. kind ≡ kind_by rules t.0)) (has : IsSomeAnd (slice_get terms i) (λ t. t.1 ≡ info)) where
    pub counted_turn : is_counted_info rules.max_doc postings kind info ≡ true → list_all (is_counted rules postings) (drop (i + 1) terms) ≡ list_all (is_counted rules postings) (drop i terms)
    counted_turn good = passes_turn rules (is_counted_info rules.max_doc postings) terms i kind info lt asked has good

    pub counted_stops : is_counted_info rules.max_doc postings kind info ≡ false → list_all (is_counted rules postings) (drop i terms) ≡ false
    counted_stops bad = passes_stops rules (is_counted_info rules.max_doc postings) terms i kind info lt asked has bad

  pub all_counted : (terms : List Term) (i : ℕ) → length terms ≤ i → list_all (is_counted rules postings) (drop i terms) ≡ true
  all_counted terms i past = at_drop_all (list_all (is_counted rules postings)) terms i past
