use Rattle.std.proofs.Common.{◌∙◌, ◌≡◌, ◌∷◌, sym, rules}
use Rattle.seg_postings.specs.RecordKinds.{kind_byte}
use Rattle.seg_postings.proofs.CountedDocuments.{same_counted}
use Rattle.seg_postings.proofs.postings_check.has_documents.Goals as goal

pub returns : goal.returns
returns c =
    let front : c.args.postings.now ≡ c.in-Some.first.now ∷ c.in-Some.documents.now = search rules in
    let same : c.in-Some.first.now ≡ kind_byte c.args.kind = search rules in
    c.are_documents.ensures ∙ sym (same_counted c.args.kind c.args.max_doc c.args.count c.in-Some.first.now c.args.postings.now c.in-Some.documents.now front same)
