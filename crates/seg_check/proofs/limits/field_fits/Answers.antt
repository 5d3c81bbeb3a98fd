use Rattle.std.proofs.Common.{true, refl, ap, sym, ◌∙◌, cond, subst, length}
use Rattle.std.specs.Prelude.{◌&&◌}
use Rattle.seg_model.specs.DocumentCheck.{is_u32, kind_fits}
use Rattle.seg_model.specs.Fields.{indexing_tokenizer, values_of}
use Rattle.seg_check.specs.DocumentFields.{StandsAt, fits_at}
use Rattle.seg_check.proofs.DocumentFields.{read-at}
use Rattle.seg_check.proofs.FieldLimits.{fits-empty}
use Rattle.seg_check.proofs.limits.field_fits.Goals as goal

pub returns-in_default-get : goal.returns-in_default-get
returns-in_default-get c analyzer document stand =
    let field = c.args.field in
    let entry = c.in-Some.entry.now in
    let here = read-at c.args.schema.now field field entry c.in-Some.ensures.lookup.3.0 c.in-Some.ensures.lookup.1 refl in
    let stands = stand field entry here (sym c.is_indexed.ensures ∙ c.if-not-is_indexed.false) in
    fits-empty analyzer document field entry (subst (λ o. StandsAt entry (analyzer (indexing_tokenizer entry)) o (values_of field document)) (sym c.in_default-get.ensures.value) stands)
    ∙ ap (fits_at analyzer document field) (sym here)

pub returns : goal.returns
returns c analyzer document stand =
    let field = c.args.field in
    let entry = c.in-Some.entry.now in
    let values = values_of field document in
    let here = read-at c.args.schema.now field field entry c.in-Some.ensures.lookup.3.0 c.in-Some.ensures.lookup.1 refl in
    let indexed = sym c.is_indexed.ensures ∙ c.if-not-is_indexed.false in
    let stands = subst (λ o. StandsAt entry (analyzer (indexing_tokenizer entry)) o values) (sym c.in-Some-get.ensures.value) (stand field entry here indexed) in
    c.fits.ensures (analyzer (indexing_tokenizer entry)) values stands
    ∙ ap (λ b. cond b (is_u32 (length values) && kind_fits entry.kind entry.expand_dots (analyzer (indexing_tokenizer entry)) values) true) (sym indexed)
    ∙ ap (fits_at analyzer document field) (sym here)
