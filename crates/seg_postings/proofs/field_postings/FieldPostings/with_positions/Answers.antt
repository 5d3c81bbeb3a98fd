use Rattle.std.proofs.Common.{◌≡◌, ◌∙◌, ◌⊎◌, ℕ, List, None, length, drop, refl, sym, ap, subst, inr}
use Rattle.seg_common.specs.LittleEndian.{u64_at}
use Rattle.seg_termdict.specs.Dictionary.{Term, terms_of}
use Rattle.seg_termdict.specs.DictionaryBuilders.{last_term, positions_end}
use Rattle.seg_values.specs.declared.postings_error.PostingsError.TheVariants.{Malformed, OutOfMemory}
use Rattle.seg_postings.specs.FieldSerializers.{TermWritten}
use Rattle.seg_postings.specs.OpenedFields.{FirstParts, IsFieldBy, written_terms, dictionary_terms}
use Rattle.seg_postings.specs.AdjacentRanges.{RangesFollow}
use Rattle.seg_postings.proofs.RangeSums.{ranges_follow}
use Rattle.seg_postings.proofs.OpenedFields.{behind_total, lie_within, no_field_by, are_readable, opened, its_terms}
use Rattle.seg_postings.proofs.field_postings.FieldPostings.with_positions.Goals as goal

pub are_terms-requires : goal.are_terms-requires
are_terms-requires c =
    let s = c.self.inside in
    let fill : positions_end (last_term None (terms_of s.field.dictionary)) ≡ length c.args.positions = ap (λ (ts : List Term). positions_end (last_term None ts)) (sym c.terms.ensures.terms) ∙ sym c.last_positions_end.ensures ∙ c.if-last_positions_end-len.false ∙ c.len.ensures in
    let body : c.as_slice-2.result.now ≡ drop 8 s.postings = behind_total s.postings c.as_slice-2.result.now c.slice-postings.result c.len-2.result c.self.invariant.0 c.len-2.ensures c.slice-postings.ensures c.as_slice-2.ensures in
    record { within = lie_within s.field.rules s.field.dictionary s.postings c.args.positions c.terms.ensures.dictionary c.self.invariant.0 c.self.invariant.1 fill c.as_slice-2.result.now c.as_slice-3.result.now body c.as_slice-3.ensures }

pub returns-then-not-branch-clause-err : goal.returns-then-not-branch-clause-err
returns-then-not-branch-clause-err c =
    let s = c.self.inside in
    let fill : positions_end (last_term None (terms_of s.field.dictionary)) ≡ length c.args.positions = ap (λ (ts : List Term). positions_end (last_term None ts)) (sym c.terms.ensures.terms) ∙ sym c.last_positions_end.ensures ∙ c.if-last_positions_end-len.false ∙ c.len.ensures in
    let body : c.as_slice-2.result.now ≡ drop 8 s.postings = behind_total s.postings c.as_slice-2.result.now c.slice-postings.result c.len-2.result c.self.invariant.0 c.len-2.ensures c.slice-postings.ensures c.as_slice-2.ensures in
    subst (λ (v : FirstParts). (Malformed ≡ OutOfMemory) ⊎ ((Malformed ≡ Malformed) × ((total : ℕ) (terms : List TermWritten) → IsFieldBy v.rules v.dictionary v.postings c.args.positions total terms → ⊥))) c.self.view_is
    (inr (refl, no_field_by s.field.rules s.field.dictionary s.postings c.args.positions c.terms.ensures.dictionary c.self.invariant.0 c.self.invariant.1 fill c.as_slice-2.result.now c.as_slice-3.result.now body c.as_slice-3.ensures (sym c.in_ok-are_terms.ensures.ok ∙ c.if-not-branch.true)))

pub new-requires-clause-read : goal.new-requires-clause-read
new-requires-clause-read c =
    let s = c.self.inside in
    let fill : positions_end (last_term None (terms_of s.field.dictionary)) ≡ length c.args.positions = ap (λ (ts : List Term). positions_end (last_term None ts)) (sym c.terms.ensures.terms) ∙ sym c.last_positions_end.ensures ∙ c.if-last_positions_end-len.false ∙ c.len.ensures in
    let body : c.as_slice-2.result.now ≡ drop 8 s.postings = behind_total s.postings c.as_slice-2.result.now c.slice-postings.result c.len-2.result c.self.invariant.0 c.len-2.ensures c.slice-postings.ensures c.as_slice-2.ensures in
    are_readable s.field.rules s.field.dictionary s.postings c.args.positions c.terms.ensures.dictionary c.self.invariant.0 c.self.invariant.1 fill c.as_slice-2.result.now c.as_slice-3.result.now body c.as_slice-3.ensures (sym c.in_ok-are_terms.ensures.ok ∙ c.if-not-branch.false) c.slice-postings.result c.into_terms.result c.as_slice-2.ensures c.into_terms.ensures

pub new-requires-clause-follow : goal.new-requires-clause-follow
new-requires-clause-follow c =
    let s = c.self.inside in
    subst RangesFollow (sym c.into_terms.ensures) (ranges_follow s.field.dictionary c.terms.ensures.dictionary.is_dictionary)

pub returns-clause-ok : goal.returns-clause-ok
returns-clause-ok c =
    let s = c.self.inside in
    let fill : positions_end (last_term None (terms_of s.field.dictionary)) ≡ length c.args.positions = ap (λ (ts : List Term). positions_end (last_term None ts)) (sym c.terms.ensures.terms) ∙ sym c.last_positions_end.ensures ∙ c.if-last_positions_end-len.false ∙ c.len.ensures in
    let body : c.as_slice-2.result.now ≡ drop 8 s.postings = behind_total s.postings c.as_slice-2.result.now c.slice-postings.result c.len-2.result c.self.invariant.0 c.len-2.ensures c.slice-postings.ensures c.as_slice-2.ensures in
    subst (λ (v : FirstParts). IsFieldBy v.rules v.dictionary v.postings c.args.positions c.new.result.total (written_terms c.new.result)) c.self.view_is
    (opened s.field.rules s.field.dictionary s.postings c.args.positions c.terms.ensures.dictionary c.self.invariant.0 c.self.invariant.1 fill c.as_slice-2.result.now c.as_slice-3.result.now body c.as_slice-3.ensures (sym c.in_ok-are_terms.ensures.ok ∙ c.if-not-branch.false) c.slice-postings.result c.into_terms.result c.as_slice-2.ensures c.into_terms.ensures c.new.result c.u64_at-total.result c.new.ensures (c.u64_at-total.ensures ∙ ap (λ (bs : List ℕ). u64_at bs 0) c.as_slice.ensures))

pub returns-clause-terms : goal.returns-clause-terms
returns-clause-terms c =
    let s = c.self.inside in
    let fill : positions_end (last_term None (terms_of s.field.dictionary)) ≡ length c.args.positions = ap (λ (ts : List Term). positions_end (last_term None ts)) (sym c.terms.ensures.terms) ∙ sym c.last_positions_end.ensures ∙ c.if-last_positions_end-len.false ∙ c.len.ensures in
    let body : c.as_slice-2.result.now ≡ drop 8 s.postings = behind_total s.postings c.as_slice-2.result.now c.slice-postings.result c.len-2.result c.self.invariant.0 c.len-2.ensures c.slice-postings.ensures c.as_slice-2.ensures in
    subst (λ (v : FirstParts). dictionary_terms c.new.result ≡ terms_of v.dictionary) c.self.view_is
    (its_terms s.field.rules s.field.dictionary s.postings c.args.positions c.terms.ensures.dictionary c.self.invariant.0 c.self.invariant.1 fill c.as_slice-2.result.now c.as_slice-3.result.now body c.as_slice-3.ensures (sym c.in_ok-are_terms.ensures.ok ∙ c.if-not-branch.false) c.slice-postings.result c.into_terms.result c.as_slice-2.ensures c.into_terms.ensures c.new.result c.u64_at-total.result c.new.ensures)
