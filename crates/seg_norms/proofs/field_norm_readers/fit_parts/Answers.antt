use Rattle.std.proofs.Common.{◌<◌, ◌++◌, ℕ, List, length, take, sym, ap, ◌∙◌, arith}
use Rattle.std.proofs.lemmas.List.{length-map}
use Rattle.std.proofs.lemmas.Option.{slice_get_within}
use Rattle.seg_common.proofs.ParallelLists.{goes_on, differs}
use Rattle.seg_directory.specs.CompositeFiles.{Part}
use Rattle.seg_norms.specs.StoredNorms.{lengths_of_parts}
use Rattle.seg_norms.proofs.NormsOfFields.{with_lengths, without_lengths}
use Rattle.seg_norms.proofs.field_norm_readers.fit_parts.Goals as goal
use Rattle.seg_norms.proofs.field_norm_readers.fit_parts.Goals.{then-has_field_norms+else-not-is_part, else-has_field_norms}

pub returns-then-not-is_part : goal.returns-then-not-is_part
returns-then-not-is_part c =
    let l = c.loop-field in
    let e = c.index-entries-field.result in
    let all = lengths_of_parts c.args.parts.now in
    let more = with_lengths c.args.entries.now c.args.max_doc l.field e c.loop-field-test.true c.index-entries-field.is (sym c.has_field_norms.ensures ∙ c.if-has_field_norms.true) in
    differs all _ l.place (l.field, c.args.max_doc) _ l.invariant.within c.if-not-is_part.ensures (ap (λ (xs : List (ℕ × ℕ)). take l.place all ++ xs) (sym more) ∙ l.invariant.same)

pub overflow_add-place : goal.overflow_add-place
overflow_add-place c =
    let lt : c.loop-field.place < length (lengths_of_parts c.args.parts.now) = slice_get_within (lengths_of_parts c.args.parts.now) c.loop-field.place _ c.if-not-is_part.ensures in
    omega (arith, lt, length-map {B = ℕ × ℕ} c.args.parts.now (λ (p : Part). (p.0, length p.1)), c.num_fields-count.ensures, c.num_fields-count.type_inv)

pub loop-field-preserved : goal.loop-field-preserved
loop-field-preserved c =
    let l = c.loop-field in
    let e = c.index-entries-field.result in
    let all = lengths_of_parts c.args.parts.now in
    elim c.if-has_field_norms.branch [
      | then-has_field_norms+else-not-is_part w ↦
          let more = with_lengths c.args.entries.now c.args.max_doc l.field e c.loop-field-test.true c.index-entries-field.is (sym c.has_field_norms.ensures ∙ w.if-has_field_norms.true) in
          let here = w.if-not-is_part.ensures in
          rw w.place-is (record {
            same = goes_on all _ l.place (l.field, c.args.max_doc) _ here (ap (λ (xs : List (ℕ × ℕ)). take l.place all ++ xs) (sym more) ∙ l.invariant.same);
            within = let lt : l.place < length all = slice_get_within all l.place _ here in omega (arith, lt);
          })
      | else-has_field_norms w ↦
          let more = without_lengths c.args.entries.now c.args.max_doc l.field e c.loop-field-test.true c.index-entries-field.is (sym c.has_field_norms.ensures ∙ w.if-has_field_norms.false) in
          rw w.place-is (record {
            same = ap (λ (xs : List (ℕ × ℕ)). take l.place all ++ xs) (sym more) ∙ l.invariant.same;
            within = l.invariant.within;
          })
    ]
