use Rattle.std.proofs.Common.{◌≡◌, false, refl, ap, sym, ◌∙◌, subst}
use Rattle.std.specs.Prelude.{IsTrue}
use Rattle.std.specs.List.{list_any, AllByRecursion}
use Rattle.seg_values.specs.declared.schema.FieldEntry.{FieldEntry}
use Rattle.seg_model.specs.Fields.{indexing_tokenizer}
use Rattle.seg_model.specs.ValidInputs.{has_unknown_fast_tokenizer, names_fit, unknown_tokenizer_of}
use Rattle.seg_check.proofs.UnrefusedWriters.{all_known, none_refused}
use Rattle.seg_check.proofs.writer_start.start_refusal.Goals as goal

pub returns-clause-first : goal.returns-clause-first
returns-clause-first g c =
    let known = g.Z.Analyzers.knows c.args.analyzers.now in
    let same = sym c.fields-entries.ensures in
    sym (none_refused known c.args.budget c.args.schema.now c.args.settings.now c.if-budget-lt-LEAST_BUDGET.false
    (ap names_fit same ∙ sym c.names_fit.ensures ∙ c.if-not-names_fit.false)
    (sym c.settings_fit.ensures ∙ c.if-not-settings_fit.false)
    (ap (unknown_tokenizer_of known) same ∙ sym c.in_default.ensures.first)
    (ap (list_any (has_unknown_fast_tokenizer known)) same ∙ sym c.lack_tokenizers.ensures ∙ c.if-lack_tokenizers.false))

pub returns-clause-known : goal.returns-clause-known
returns-clause-known g c none =
    let known = g.Z.Analyzers.knows c.args.analyzers.now in
    let same = sym c.fields-entries.ensures in
    let has_all : list_any (has_unknown_fast_tokenizer known) c.args.schema.now ≡ false = ap (list_any (has_unknown_fast_tokenizer known)) same ∙ sym c.lack_tokenizers.ensures ∙ c.if-lack_tokenizers.false in (
      subst (AllByRecursion (λ (e : FieldEntry). IsTrue (known (indexing_tokenizer e)))) c.fields-entries.ensures (c.in_default.ensures.known refl),
      all_known known c.args.schema.now has_all,
    )
