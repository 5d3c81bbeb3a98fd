-- Deletes that wait, applied to the documents of a batch.
use Rattle.std.proofs.Common.{◌≡◌, ℕ, suc, ◌+◌, ◌<◌, Bool, List, [], ◌∷◌, ◌++◌, map, length, refl, sym, ap, ◌∙◌, arith}
use Rattle.std.specs.Prelude.{◌&&◌, not, nat_lt, slice_index}
use Rattle.std.specs.Borrow.{Bor}
use Rattle.std.specs.List.{range_with_len, enumerate_from}
use Rattle.std.proofs.lemmas.List.{length-map, map-append}
use Rattle.std.proofs.lemmas.List.FromFn.{length-enumerate_from}
use Rattle.seg_common.proofs.Lists.{list_any-map}
use Rattle.seg_model.specs.DocumentTerms.{Terms, all_terms}
use Rattle.seg_model.specs.Operations.{Operation, delete, additions, both_marked}
use Rattle.seg_model.specs.DeletesByPostings.{clears, is_cleared_by, uncleared_by}
use Rattle.seg_model.specs.RemovalLaws.{AliveByPostings, DeletesClearInTurn}
use Rattle.seg_model.specs.Stamps.{stamped_deletes}
use Rattle.seg_model.proofs.Exports.{length-additions}
use Rattle.seg_batches.specs.declared.doc_opstamp_mapping.DocToOpstampMapping.TheVariants.{WithMap}
use Rattle.seg_batches.specs.declared.operation.DeleteOperation.{DeleteOperation}
use Rattle.seg_open.proofs.Exports.{both_full}
use Rattle.seg_batches.specs.AppliedDeletes.{is_left_by, left_by, term_names}
use Rattle.seg_batches.specs.Laws.{as_operations, AppliedDeletesLeaveTheAlive}
use Rattle.seg_batches.specs.declared.term_target.TermTarget.{TermTarget}

-- by number, and by number with stamp
by_stamps : (n : ℕ) (G : ℕ → Bool) (F : ℕ → ℕ → Bool) (stamps : List ℕ)
    → ((k i : ℕ) → k < length stamps → n + k ≡ i → G i ≡ F i (slice_index stamps k))
    → map G (range_with_len n (length stamps)) ≡ map (λ s. F s.0 s.1) (enumerate_from n stamps)
by_stamps n G F [] same = refl
by_stamps n G F (s ∷ stamps) same =
    let here : G n ≡ F n s = same 0 n (omega arith) (omega arith) in
    λ j. here j ∷ by_stamps (n + 1) G F stamps (λ k i lt at. same (suc k) i (omega arith) (omega (arith, at))) j

module _ (terms : List Terms) (stamps : Bor (List ℕ)) (waiting : List (DeleteOperation TermTarget)) where
  -- deletes that wait leave what they don't clear as operations
  left_as_uncleared : left_by (term_names terms) (WithMap stamps) (length stamps.now) waiting ≡ uncleared_by terms stamps.now (as_operations waiting)
  left_as_uncleared =
      by_stamps 0 (is_left_by (term_names terms) (WithMap stamps) waiting) (λ i s. not (is_cleared_by terms i s (as_operations waiting))) stamps.now (λ k i lt at.
      let here : slice_index stamps.now k ≡ slice_index stamps.now i = ap (slice_index stamps.now) (omega (arith, at)) in
      sym (ap (λ s. not (is_cleared_by terms i s (as_operations waiting))) here
      ∙ ap not (list_any-map (λ (d : ℕ × Operation). nat_lt (slice_index stamps.now i) d.0 && clears terms i d.1) (λ (o : DeleteOperation TermTarget). (o.opstamp, delete o.target.0)) waiting)))

pub applied_leave_alive : AliveByPostings → DeletesClearInTurn → AppliedDeletesLeaveTheAlive
applied_leave_alive by_postings in_turn schema analyzer before batch after stamps passed waiting are all old =
    let terms = all_terms schema analyzer (additions batch) in
    let left = uncleared_by terms stamps.now (as_operations waiting) in
    let many : length left ≡ length stamps.now = length-map (enumerate_from 0 stamps.now) (λ s. not (is_cleared_by terms s.0 s.1 (as_operations waiting))) ∙ length-enumerate_from 0 stamps.now in
    ap (λ n. left_by (term_names terms) (WithMap stamps) n waiting) (sym (ap length are ∙ length-additions (length before) batch))
    ∙ left_as_uncleared terms stamps waiting
    ∙ sym (both_full (length stamps.now) left many)
    ∙ sym (ap (λ l. both_marked l left) (in_turn.passed terms stamps.now (as_operations passed) old))
    ∙ sym (in_turn.more terms stamps.now (as_operations passed) (as_operations waiting))
    ∙ ap (uncleared_by terms stamps.now) (sym (map-append (λ (o : DeleteOperation TermTarget). (o.opstamp, delete o.target.0)) passed waiting) ∙ all)
    ∙ ap (λ ss. uncleared_by terms ss (stamped_deletes 0 (before ++ batch ++ after))) are
    ∙ sym (by_postings schema analyzer before batch after)
