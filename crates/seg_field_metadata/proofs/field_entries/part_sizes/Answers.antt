use Rattle.std.proofs.Common.{◌≡◌, ℕ, ◌+◌, ◌-◌, ◌∙◌, true, false, ap, sym, length}
use Rattle.std.specs.Prelude.{nat_lt}
use Rattle.std.specs.List.{sum_by}
use Rattle.seg_common.specs.declared.term_info.TermInfo.{TermInfo}
use Rattle.seg_postings.specs.OpenedFields.{dictionary_terms}
use Rattle.seg_termdict.specs.Dictionary.{Term}
use Rattle.seg_model.specs.SaturatedNumbers.{saturated}
use Rattle.seg_field_metadata.proofs.PartSums.{at_end, from_zero, key_more, range_more, still_of}
use Rattle.seg_field_metadata.proofs.field_entries.part_sizes.Goals as goal

pub loop-stream-preserved : goal.loop-stream-preserved
loop-stream-preserved c =
    let l = c.loop-stream in
    let terms = dictionary_terms c.args.opened.now in
    let more : nat_lt l.stream.taken (length l.stream.terms) ≡ true = sym c.advance.ensures.more ∙ c.loop-stream-test.true in
    let after = c.advance.new.self in
    record {
      of = still_of terms l.stream l.invariant.of after more c.advance.ensures.place;
      terms_so_far = key_more terms l.stream l.invariant.of after more c.advance.ensures.place c.key.result.now c.key.ensures 28 48
          l.terms c.saturating_add.result c.saturating_add-terms.result l.invariant.terms_so_far c.saturating_add.ensures
          c.saturating_add-terms.ensures;
      postings_so_far = range_more terms l.stream l.invariant.of after more c.advance.ensures.place
          (λ (info : TermInfo). info.postings_end - info.postings_start) c.value-info.result.now c.value-info.ensures 8
          l.postings c.saturating_add-postings.result l.invariant.postings_so_far
          (c.saturating_add-postings.ensures ∙ ap (λ (n : ℕ). saturated (l.postings + n)) c.saturating_sub.ensures);
      positions_so_far = range_more terms l.stream l.invariant.of after more c.advance.ensures.place
          (λ (info : TermInfo). info.positions_end - info.positions_start) c.value-info.result.now c.value-info.ensures 0
          l.positions c.saturating_add-positions.result l.invariant.positions_so_far
          (c.saturating_add-positions.ensures ∙ ap (λ (n : ℕ). saturated (l.positions + n)) c.saturating_sub-in-loop-stream.ensures);
    }

pub returns : goal.returns
returns c =
    let l = c.loop-stream in
    let terms = dictionary_terms c.args.opened.now in
    let none : nat_lt l.stream.taken (length l.stream.terms) ≡ false = sym c.advance.ensures.more ∙ c.loop-stream-test.false in
    let keys = l.invariant.terms_so_far
    ∙ ap (λ (n : ℕ). saturated (48 + n)) (at_end terms l.stream l.invariant.of (λ (t : Term). 28 + length t.0) none) in
    let postings = l.invariant.postings_so_far
    ∙ ap (λ (n : ℕ). saturated (8 + n)) (at_end terms l.stream l.invariant.of (λ (t : Term). t.1.postings_end - t.1.postings_start) none) in
    let positions = l.invariant.positions_so_far
    ∙ ap (λ (n : ℕ). saturated (0 + n)) (at_end terms l.stream l.invariant.of (λ (t : Term). t.1.positions_end - t.1.positions_start) none)
    ∙ from_zero (sum_by (λ (t : Term). t.1.positions_end - t.1.positions_start) terms) in
    λ i. record { terms = keys i; postings = postings i; positions = positions i }
