use Rattle.std.proofs.Common.{◌∙◌, ◌≡◌, ◌∷◌, sym, rules}
use Rattle.seg_postings.specs.RecordKinds.{kind_byte}
use Rattle.seg_postings.proofs.RecordKinds.{same_kind}
use Rattle.seg_postings.proofs.postings_check.is_term.Goals as goal

pub returns : goal.returns
returns c =
    let front : c.args.postings.now ≡ c.in-Some.first.now ∷ c.in-Some.documents.now = search rules in
    let same : c.in-Some.first.now ≡ kind_byte c.args.kind = search rules in
    c.are_postings.ensures ∙ sym (same_kind c.args.kind c.args.max_doc c.args.count c.in-Some.first.now c.args.postings.now c.in-Some.documents.now c.args.positions.now front same)
