use Rattle.std.proofs.Common.{◌≡◌, None, Some, subst}
use Rattle.std.specs.Prelude.{MatchOption}
use Rattle.serde_json.specs.Written.{compact_text}
use Rattle.seg_doc_bytes.specs.StoredDocument.{stored_document_of}
use Rattle.seg_text.specs.DocumentText.{document_json}
use Rattle.seg_text.proofs.PrintedStored.{read_printed}
use Rattle.seg_text.proofs.document.push_read_pairs.Goals as goal

pub returns : goal.returns
returns c =
    let stored = c.args.stored.now in
    let made = subst (λ o. MatchOption o (stored_document_of stored ≡ None) (λ d. stored_document_of stored ≡ Some d)) c.in-Some.is c.in_ok-document.ensures in
    read_printed (λ d. compact_text (document_json c.args.schema.now d)) stored c.args.out.now.items c.push_made_pairs.new.out.items c.in-Some.document c.push_made_pairs.result made c.push_made_pairs.ensures
