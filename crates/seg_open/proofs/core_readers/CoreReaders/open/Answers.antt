use Rattle.seg_common.specs.declared.name.SegmentComponent.TheVariants.{FastFields, FieldNorms, Positions, Postings, Store, Terms}
use Rattle.seg_open.proofs.IncompleteFiles.{columns_wrong, norms_wrong, positions_wrong, postings_wrong, store_wrong, terms_wrong, told, why}
use Rattle.seg_open.proofs.OpeningStages.{terms_are_open}
use Rattle.seg_open.proofs.core_readers.CoreReaders.open.Goals as goal

pub returns-in_err-dictionaries-clause-err : goal.returns-in_err-dictionaries-clause-err
returns-in_err-dictionaries-clause-err c =
    let schema = c.args.schema.now in
    let documents = c.args.max_doc in
    why schema documents c.args.files c.in_err-dictionaries.field-0.0 c.from_residual.result c.from_residual.ensures.1
    (told schema documents c.args.files Terms _ (terms_wrong schema documents c.args.files) c.in_err-dictionaries.field-0.0 c.in_err-dictionaries.ensures.err)

pub returns-in_err-store-clause-err : goal.returns-in_err-store-clause-err
returns-in_err-store-clause-err c =
    let schema = c.args.schema.now in
    let documents = c.args.max_doc in
    let wrong = store_wrong schema documents c.args.files c.in_ok-dictionaries.dictionaries.items c.in_ok-dictionaries.ensures.ok in
    why schema documents c.args.files c.in_err-store.field-0.0 c.from_residual-in_err-store.result c.from_residual-in_err-store.ensures.1
    (told schema documents c.args.files Store _ wrong c.in_err-store.field-0.0 c.in_err-store.ensures)

pub returns-in_err-both-clause-err : goal.returns-in_err-both-clause-err
returns-in_err-both-clause-err c =
    let schema = c.args.schema.now in
    let documents = c.args.max_doc in
    let wrong = postings_wrong schema documents c.args.files c.in_ok-dictionaries.dictionaries.items c.in_ok-dictionaries.ensures.ok c.in_ok-store.store c.in_ok-store.ensures in
    why schema documents c.args.files c.in_err-both.field-0.0 c.from_residual-in_err-both.result c.from_residual-in_err-both.ensures.1
    (told schema documents c.args.files Postings _ wrong c.in_err-both.field-0.0 c.in_err-both.ensures.err)

pub returns-in_err-fields-clause-err : goal.returns-in_err-fields-clause-err
returns-in_err-fields-clause-err c =
    let schema = c.args.schema.now in
    let documents = c.args.max_doc in
    let wrong = positions_wrong schema documents c.args.files c.in_ok-dictionaries.dictionaries.items c.in_ok-dictionaries.ensures.ok c.in_ok-store.store c.in_ok-store.ensures c.in_ok-both.both.items c.in_ok-both.ensures.ok in
    why schema documents c.args.files c.in_err-fields.field-0.0 c.from_residual-in_err-fields.result c.from_residual-in_err-fields.ensures.1
    (told schema documents c.args.files Positions _ wrong c.in_err-fields.field-0.0 c.in_err-fields.ensures.err)

pub returns-in_err-columns-clause-err : goal.returns-in_err-columns-clause-err
returns-in_err-columns-clause-err c =
    let schema = c.args.schema.now in
    let documents = c.args.max_doc in
    let wrong = columns_wrong schema documents c.args.files c.in_ok-dictionaries.dictionaries.items c.in_ok-dictionaries.ensures.ok c.in_ok-store.store c.in_ok-store.ensures c.in_ok-both.both.items c.in_ok-both.ensures.ok c.in_ok-fields.fields.items c.in_ok-fields.ensures.ok in
    why schema documents c.args.files c.in_err-columns.field-0.0 c.from_residual-in_err-columns.result c.from_residual-in_err-columns.ensures.1
    (told schema documents c.args.files FastFields _ wrong c.in_err-columns.field-0.0 c.in_err-columns.ensures)

pub returns-in_err-norms-clause-err : goal.returns-in_err-norms-clause-err
returns-in_err-norms-clause-err c =
    let schema = c.args.schema.now in
    let documents = c.args.max_doc in
    let wrong = norms_wrong schema documents c.args.files c.in_ok-dictionaries.dictionaries.items c.in_ok-dictionaries.ensures.ok c.in_ok-store.store c.in_ok-store.ensures c.in_ok-both.both.items c.in_ok-both.ensures.ok c.in_ok-fields.fields.items c.in_ok-fields.ensures.ok c.in_ok-columns.ensures.0 in
    why schema documents c.args.files c.in_err-norms.field-0.0 c.from_residual-in_err-norms.result c.from_residual-in_err-norms.ensures.1
    (told schema documents c.args.files FieldNorms _ wrong c.in_err-norms.field-0.0 c.in_err-norms.ensures)

pub returns-clause-ok : goal.returns-clause-ok
returns-clause-ok c = record {
  terms = terms_are_open c.args.schema.now c.args.max_doc c.args.files.terms c.in_ok-dictionaries.dictionaries.items c.in_ok-dictionaries.ensures.ok c.args.files.postings c.in_ok-both.both.items c.in_ok-both.ensures.ok c.args.files.positions c.in_ok-fields.fields.items c.in_ok-fields.ensures.ok;
  store = c.in_ok-store.ensures;
  columns = c.in_ok-columns.ensures.0;
  columns_are = c.in_ok-columns.ensures.1;
  norms = c.in_ok-norms.ensures;
  sizes = c.of-sizes.ensures;
}
