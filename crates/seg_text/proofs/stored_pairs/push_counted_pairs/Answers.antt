use Rattle.std.proofs.Common.{◌∷◌, [], subst}
use Rattle.serde_json.specs.Written.{comma_if, compact_text}
use Rattle.seg_doc_bytes.specs.FrontReaders as read
use Rattle.seg_doc_bytes.specs.StoredDocument.{pair_at}
use Rattle.seg_text.specs.DocumentText.{document_json, pair_json}
use Rattle.seg_text.specs.PrintedFronts.{Prints}
use Rattle.seg_text.proofs.PrintedFronts.{not_more, printed_text}
use Rattle.seg_text.proofs.PrintedCounts.{no_item, one_item, item_given_up, all_items, listed_text, pairs_listed}
use Rattle.seg_text.proofs.stored_pairs.push_counted_pairs.Goals as goal

pub returns-in_default : goal.returns-in_default
returns-in_default c = not_more c.args.out.now.items

pub loop-init : goal.loop-init
loop-init c = no_item pair_at (pair_json c.args.schema.now) c.in-Some.count c.take_varint.new.bytes.now c.push.new.self.items

pub loop-preserved : goal.loop-preserved
loop-preserved c =
    let printed = subst (Prints pair_at (λ p. compact_text (pair_json c.args.schema.now p)) c.loop.bytes.now c.push_stored_pair.new.bytes.now c.push_comma_if.new.out.items c.push_stored_pair.new.out.items) c.in-Some-2.is c.in_ok-push_stored_pair.ensures in
    one_item pair_at (pair_json c.args.schema.now) c.in-Some.count c.take_varint.new.bytes.now c.loop.counter c.loop.bytes.now c.push_stored_pair.new.bytes.now c.push.new.self.items c.loop.out.items c.push_comma_if.new.out.items c.push_stored_pair.new.out.items c.loop.later c.loop-test.true c.loop.invariant c.in_ok-push_comma_if.ensures printed

pub returns-in_default-2 : goal.returns-in_default-2
returns-in_default-2 c =
    let more = subst (Prints pair_at (λ p. compact_text (pair_json c.args.schema.now p)) c.loop.bytes.now c.push_stored_pair.new.bytes.now c.push_comma_if.new.out.items c.push_stored_pair.new.out.items) c.in_default-2.is c.in_ok-push_stored_pair.ensures in
    item_given_up c.args.out.now.items c.push.new.self.items c.loop.out.items c.push_comma_if.new.out.items c.push_stored_pair.new.out.items (91 ∷ []) (comma_if c.loop.later) c.in_ok-push.ensures.items c.loop.invariant.grown c.in_ok-push_comma_if.ensures more

pub returns : goal.returns
returns c =
    printed_text (read.counted_at pair_at) (listed_text (pair_json c.args.schema.now)) (λ ps. compact_text (document_json c.args.schema.now ps)) c.args.bytes.now.now c.loop.bytes.now c.args.out.now.items c.push-2.new.self.items (pairs_listed c.args.schema.now)
    (all_items pair_at (pair_json c.args.schema.now) c.args.bytes.now.now c.in-Some.count c.take_varint.new.bytes.now c.loop.counter c.loop.bytes.now c.args.out.now.items c.push.new.self.items c.loop.out.items c.push-2.new.self.items c.loop.later c.in-Some.ensures c.in_ok-push.ensures.items c.loop-test.false c.loop.invariant c.in_ok-push-2.ensures.items)
