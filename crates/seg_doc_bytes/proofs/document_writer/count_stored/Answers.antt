use Rattle.std.proofs.Common.{◌≡◌, ◌≤◌, ℕ, Bool, true, false, arith}
use mir.Val.{bool_byte}
use Rattle.seg_values.specs.Tree.{Tree}
use Rattle.seg_values.specs.ValueTrees.{tree_of}
use Rattle.seg_doc_bytes.proofs.StoredPairs.{one_counted}
use Rattle.seg_doc_bytes.proofs.document_writer.count_stored.Goals as goal

at_most_one : (b : Bool) (n : ℕ) → n ≡ bool_byte b → n ≤ 1
at_most_one true n e = omega arith
at_most_one false n e = omega arith

pub loop-index-preserved : goal.loop-index-preserved
loop-index-preserved c =
    let p : ℕ × Tree = (c.pair.result.0, tree_of c.pair.result.1.now) in
    let counts : c.from-count.result ≡ bool_byte c.is_stored.result = c.from-count.ensures in
    let more = one_counted c.args.schema.now c.args.document.now c.loop-index.index p c.is_stored.result c.from-count.result c.pair.ensures c.is_stored.ensures counts in
    let one = at_most_one c.is_stored.result c.from-count.result counts in
    record { counted = omega (arith, more, c.loop-index.invariant.counted); few = omega (arith, one, c.loop-index.invariant.few) }
