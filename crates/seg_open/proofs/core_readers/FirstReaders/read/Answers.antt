use Rattle.std.proofs.Common.{rules}
use Rattle.seg_common.specs.declared.name.SegmentComponent.TheVariants.{Postings, Store, Terms}
use Rattle.seg_directory.proofs.Exports.{then_does}
use Rattle.seg_open.specs.OpenedFiles.{StoreUnopened}
use Rattle.seg_open.specs.OpenedTermFiles.{PostingsUnopened, TermsUnopened}
use Rattle.seg_open.proofs.ReadFiles.{sound_read, stops_at_postings, stops_at_store, stops_at_terms, stops_first, unopened, unread}
use Rattle.seg_open.proofs.core_readers.FirstReaders.read.Goals as goal

pub returns-in_err-terms : goal.returns-in_err-terms
returns-in_err-terms g c =
    let schema = c.args.schema.now in
    stops_first c.args.id schema c.args.max_doc c.from_residual.result _ _ _ c.from_residual.ensures.1
    (stops_at_terms c.args.id schema c.args.max_doc _ _ _
    (unread c.args.id Terms (TermsUnopened schema) _ _ _ c.in_err-terms.ensures))

pub returns-in-Err : goal.returns-in-Err
returns-in-Err g c =
    let schema = c.args.schema.now in
    stops_at_terms c.args.id schema c.args.max_doc _ _ _
    (unopened c.args.id Terms (TermsUnopened schema) _ _ c.in_ok-terms.terms c.in_ok-terms.ensures
    c.in-Err.e c.of_segment.result c.of_segment.ensures c.in-Err.ensures.err)

pub returns-in_err-stored : goal.returns-in_err-stored
returns-in_err-stored g c =
    let schema = c.args.schema.now in
    let documents = c.args.max_doc in
    stops_first c.args.id schema documents c.from_residual-in_err-stored.result _ _ _ c.from_residual-in_err-stored.ensures.1
    (stops_at_store c.args.id schema documents c.in_ok-terms.terms c.in-Ok.dictionaries.items c.in-Ok.ensures.ok _ _ _ _
    (sound_read c.args.id Terms c.in_ok-terms.terms c.in_ok-terms.ensures)
    (unread c.args.id Store (StoreUnopened schema documents) _ _ _ c.in_err-stored.ensures))

pub returns-in-Err-checked_store : goal.returns-in-Err-checked_store
returns-in-Err-checked_store g c =
    let schema = c.args.schema.now in
    let documents = c.args.max_doc in
    stops_at_store c.args.id schema documents c.in_ok-terms.terms c.in-Ok.dictionaries.items c.in-Ok.ensures.ok _ _ _ _
    (sound_read c.args.id Terms c.in_ok-terms.terms c.in_ok-terms.ensures)
    (unopened c.args.id Store (StoreUnopened schema documents) _ _ c.in_ok-stored.stored c.in_ok-stored.ensures
    c.in-Err-checked_store.e c.of_segment-in-Err-checked_store.result c.of_segment-in-Err-checked_store.ensures c.in-Err-checked_store.ensures)

pub returns-in_err-postings : goal.returns-in_err-postings
returns-in_err-postings g c =
    let schema = c.args.schema.now in
    let documents = c.args.max_doc in
    let terms = sound_read c.args.id Terms c.in_ok-terms.terms c.in_ok-terms.ensures in
    let store = sound_read c.args.id Store c.in_ok-stored.stored c.in_ok-stored.ensures in
    stops_first c.args.id schema documents c.from_residual-in_err-postings.result _ _ _ c.from_residual-in_err-postings.ensures.1
    (stops_at_postings c.args.id schema documents c.in_ok-terms.terms c.in-Ok.dictionaries.items c.in-Ok.ensures.ok
    c.in_ok-stored.stored c.in-Ok-checked_store.store c.in-Ok-checked_store.ensures _ _ _ _ (then_does terms store)
    (unread c.args.id Postings (λ bytes. PostingsUnopened schema bytes c.in-Ok.dictionaries.items) _ _ _ c.in_err-postings.ensures))

pub returns-in-Err-open_postings : goal.returns-in-Err-open_postings
returns-in-Err-open_postings g c =
    let schema = c.args.schema.now in
    let documents = c.args.max_doc in
    let terms = sound_read c.args.id Terms c.in_ok-terms.terms c.in_ok-terms.ensures in
    let store = sound_read c.args.id Store c.in_ok-stored.stored c.in_ok-stored.ensures in
    stops_at_postings c.args.id schema documents c.in_ok-terms.terms c.in-Ok.dictionaries.items c.in-Ok.ensures.ok
    c.in_ok-stored.stored c.in-Ok-checked_store.store c.in-Ok-checked_store.ensures _ _ _ _ (then_does terms store)
    (unopened c.args.id Postings (λ bytes. PostingsUnopened schema bytes c.in-Ok.dictionaries.items) _ _
    c.in_ok-postings.postings c.in_ok-postings.ensures
    c.in-Err-open_postings.e c.of_segment-in-Err-open_postings.result c.of_segment-in-Err-open_postings.ensures c.in-Err-open_postings.ensures.err)

pub returns-in-Ok-open_postings : goal.returns-in-Ok-open_postings
returns-in-Ok-open_postings g c =
    let terms = sound_read c.args.id Terms c.in_ok-terms.terms c.in_ok-terms.ensures in
    let store = sound_read c.args.id Store c.in_ok-stored.stored c.in_ok-stored.ensures in
    let postings = sound_read c.args.id Postings c.in_ok-postings.postings c.in_ok-postings.ensures in
    record {
      terms = c.in_ok-terms.terms;
      store = c.in_ok-stored.stored;
      postings = c.in_ok-postings.postings;
      works = then_does terms (then_does store postings);
      dictionaries = c.in-Ok.dictionaries.items;
      terms_opened = c.in-Ok.ensures.ok;
      store_opened = c.in-Ok-checked_store.ensures;
      postings_opened = c.in-Ok-open_postings.ensures.ok;
      few = c.in-Ok-open_postings.ensures.few;
      sizes = search rules;
    }
