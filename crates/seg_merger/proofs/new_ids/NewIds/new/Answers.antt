use Rattle.std.proofs.Common.{◌≡◌, ◌<◌, map, length, arith}
use Rattle.seg_merger.specs.NewIds.{id_of, new_ids}
use Rattle.seg_merger.proofs.NumberedParts.{one_fits, room_left, one_numbered}
use Rattle.seg_merger.proofs.new_ids.NewIds.new.Goals as goal

pub push_id-requires : goal.push_id-requires
push_id-requires c =
    let marks = c.args.part.now.alive in
    let many : c.max_doc-max_doc.result ≡ c.args.part.now.documents = c.max_doc-max_doc.ensures in
    let within : c.loop-doc.doc < length marks = omega (arith, many, c.documents_are_marked.ensures, c.loop-doc-test.true) in
    one_fits marks c.loop-doc.doc within c.is_alive.result c.is_alive.ensures c.loop-doc.next 2147483648 c.loop-doc.invariant.room

pub loop-doc-preserved : goal.loop-doc-preserved
loop-doc-preserved c =
    let marks = c.args.part.now.alive in
    let many : c.max_doc-max_doc.result ≡ c.args.part.now.documents = c.max_doc-max_doc.ensures in
    let within : c.loop-doc.doc < length marks = omega (arith, many, c.documents_are_marked.ensures, c.loop-doc-test.true) in
    record {
      numbered = one_numbered marks c.loop-doc.doc within c.is_alive.result c.is_alive.ensures c.loop-doc.next 2147483648 c.loop-doc.invariant.room (new_ids c.args.first marks) (map id_of c.loop-doc.ids.items) (map id_of c.push_id.new.ids.items) c.push_id.new.next c.loop-doc.invariant.numbered c.in_ok-push_id.ensures.ids c.in_ok-push_id.ensures.next;
      room = room_left marks c.loop-doc.doc within c.is_alive.result c.is_alive.ensures c.loop-doc.next 2147483648 c.loop-doc.invariant.room c.push_id.new.next c.in_ok-push_id.ensures.next;
    }
