use Rattle.std.proofs.Common.{◌<◌, ◌++◌, ℕ, List, length, take, sym, ap, ◌∙◌, arith}
use Rattle.std.proofs.lemmas.List.{length-map}
use Rattle.std.proofs.lemmas.Option.{slice_get_within}
use Rattle.seg_common.proofs.ParallelLists.{goes_on, differs}
use Rattle.seg_directory.specs.CompositeFiles.{Part}
use Rattle.seg_open.specs.IndexedParts.{part_fields}
use Rattle.seg_open.proofs.FittingFields.{indexed, not_indexed}
use Rattle.seg_open.proofs.term_files.are_parts_of.Goals as goal
use Rattle.seg_open.proofs.term_files.are_parts_of.Goals.{then-is_indexed+else-not-is_part_of, else-is_indexed}

pub returns-then-not-is_part_of : goal.returns-then-not-is_part_of
returns-then-not-is_part_of c =
    let l = c.loop-field in
    let e = c.index-entries-field.result in
    let all = part_fields c.args.file.now in
    let more = indexed c.args.entries.now l.field e c.loop-field-test.true c.index-entries-field.is (sym c.is_indexed.ensures ∙ c.if-is_indexed.true) in
    differs all _ l.place l.field _ l.invariant.within c.if-not-is_part_of.ensures (ap (λ (xs : List ℕ). take l.place all ++ xs) (sym more) ∙ l.invariant.same)

pub overflow_add-place : goal.overflow_add-place
overflow_add-place c =
    let lt : c.loop-field.place < length (part_fields c.args.file.now) = slice_get_within (part_fields c.args.file.now) c.loop-field.place _ c.if-not-is_part_of.ensures in
    omega (arith, lt, length-map {B = ℕ} c.args.file.now (λ (p : Part). p.0), c.num_fields-count.ensures, c.num_fields-count.type_inv)

pub loop-field-preserved : goal.loop-field-preserved
loop-field-preserved c =
    let l = c.loop-field in
    let e = c.index-entries-field.result in
    let all = part_fields c.args.file.now in
    elim c.if-is_indexed.branch [
      | then-is_indexed+else-not-is_part_of w ↦
          let more = indexed c.args.entries.now l.field e c.loop-field-test.true c.index-entries-field.is (sym c.is_indexed.ensures ∙ w.if-is_indexed.true) in
          let here = w.if-not-is_part_of.ensures in
          rw w.place-is (record {
            same = goes_on all _ l.place l.field _ here (ap (λ (xs : List ℕ). take l.place all ++ xs) (sym more) ∙ l.invariant.same);
            within = let lt : l.place < length all = slice_get_within all l.place _ here in omega (arith, lt);
          })
      | else-is_indexed w ↦
          let more = not_indexed c.args.entries.now l.field e c.loop-field-test.true c.index-entries-field.is (sym c.is_indexed.ensures ∙ w.if-is_indexed.false) in
          rw w.place-is (record {
            same = ap (λ (xs : List ℕ). take l.place all ++ xs) (sym more) ∙ l.invariant.same;
            within = l.invariant.within;
          })
    ]
