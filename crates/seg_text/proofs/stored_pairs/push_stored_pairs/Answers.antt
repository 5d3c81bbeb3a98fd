use Rattle.std.proofs.Common.{ℕ, List, sym, subst, ◌∙◌}
use Rattle.serde_json.specs.Written.{compact_text}
use Rattle.seg_doc_bytes.specs.FrontReaders as read
use Rattle.seg_doc_bytes.specs.StoredDocument.{pair_at}
use Rattle.seg_values.specs.Tree.{Document}
use Rattle.seg_text.specs.DocumentText.{document_json}
use Rattle.seg_text.specs.PrintedFronts.{Prints}
use Rattle.seg_text.proofs.PrintedFronts.{more_by}
use Rattle.seg_text.proofs.PrintedStored.{whole_printed}
use Rattle.seg_text.proofs.stored_pairs.push_stored_pairs.Goals as goal

pub returns-in_default : goal.returns-in_default
returns-in_default c = subst (Prints (read.counted_at pair_at) (λ ps. compact_text (document_json c.args.schema.now ps)) c.args.stored.now c.push_counted_pairs.new.bytes.now c.args.out.now.items c.push_counted_pairs.new.out.items) c.in_default.is c.in_ok-push_counted_pairs.ensures

pub returns-then-not-is_empty : goal.returns-then-not-is_empty
returns-then-not-is_empty c =
    let p = subst (Prints (read.counted_at pair_at) (λ ps. compact_text (document_json c.args.schema.now ps)) c.args.stored.now c.push_counted_pairs.new.bytes.now c.args.out.now.items c.push_counted_pairs.new.out.items) c.in-Some.is c.in_ok-push_counted_pairs.ensures in
    more_by c.args.out.now.items c.push_counted_pairs.new.out.items (compact_text (document_json c.args.schema.now p.value)) p.printed

pub returns : goal.returns
returns c =
    let text : Document → List ℕ = λ ps. compact_text (document_json c.args.schema.now ps) in
    let p = subst (Prints (read.counted_at pair_at) text c.args.stored.now c.push_counted_pairs.new.bytes.now c.args.out.now.items c.push_counted_pairs.new.out.items) c.in-Some.is c.in_ok-push_counted_pairs.ensures in
    whole_printed text c.args.stored.now c.push_counted_pairs.new.bytes.now c.args.out.now.items c.push_counted_pairs.new.out.items p (sym c.is_empty.ensures ∙ c.if-not-is_empty.false)
