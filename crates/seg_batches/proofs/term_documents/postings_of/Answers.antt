use Rattle.std.proofs.Common.{◌≡◌, ap, sym, subst, ◌∙◌}
use Rattle.std.specs.Prelude.{IfSome, None}
use Rattle.std.specs.List.{Contains, slice_get}
use Rattle.seg_termdict.specs.LookUps.{Lacks}
use Rattle.seg_batches.proofs.FoundPostings.{none_where_closed, none_where_lacking, documents_where_found, answers_none}
use Rattle.seg_batches.proofs.term_documents.postings_of.Goals as goal

pub returns-in_err-index : goal.returns-in_err-index
returns-in_err-index c =
    let fields = c.args.reader.now.fields in
    let closed = subst (λ field. IfSome (slice_get fields field) (λ o. o ≡ None)) c.field.ensures c.in_err-index.ensures in
    answers_none c.from_residual.result _ _ c.from_residual.ensures (none_where_closed fields c.args.term.now.field closed c.args.term.now.bytes)

pub returns-in_err-info : goal.returns-in_err-info
returns-in_err-info c =
    let fields = c.args.reader.now.fields in
    let is_open = ap (slice_get fields) (sym c.field.ensures) ∙ c.in_ok-index.ensures in
    let lacks = subst (λ terms. Lacks terms c.args.term.now.bytes) c.terms.ensures (subst (Lacks c.terms.result.now) c.serialized_value_bytes.ensures c.in_err-info.ensures) in
    answers_none c.from_residual-in_err-info.result _ _ c.from_residual-in_err-info.ensures (none_where_lacking fields c.args.term.now.field c.in_ok-index.index.now is_open c.terms_ascend.ensures c.args.term.now.bytes lacks)

pub returns : goal.returns
returns c =
    let fields = c.args.reader.now.fields in
    let info = c.in_ok-info.info in
    let is_open = ap (slice_get fields) (sym c.field.ensures) ∙ c.in_ok-index.ensures in
    let held = subst (λ terms. Contains terms (c.args.term.now.bytes, info)) c.terms.ensures (subst (λ key. Contains c.terms.result.now (key, info)) c.serialized_value_bytes.ensures c.in_ok-info.ensures) in
    documents_where_found fields c.args.term.now.field c.in_ok-index.index.now is_open c.terms_ascend.ensures c.args.term.now.bytes info c.read_postings_from_terminfo.result.left held c.read_postings_from_terminfo.ensures.left
