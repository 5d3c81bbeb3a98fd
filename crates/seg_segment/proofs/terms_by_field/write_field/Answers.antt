use Rattle.std.proofs.Common.{◌≡◌, ◌≤◌, ◌<◌, ◌-◌, ◌^◌, None, refl, sym, ◌∙◌}
use Rattle.std.specs.Prelude.{IfSome}
use Rattle.seg_directory.specs.CompositeFiles.{low_after}
use Rattle.seg_model.specs.Fields.{is_indexed}
use Rattle.seg_segment.proofs.FieldSequences.{none_added, of_whole, adds_whole}
use Rattle.seg_segment.proofs.terms_by_field.write_field.Goals as goal

pub returns-then-not-is_indexed : goal.returns-then-not-is_indexed
returns-then-not-is_indexed g c = none_added (g.T.TermsByField.total c.args.terms.now) (g.T.TermsByField.has c.args.terms.now) (is_indexed c.args.entry.now) c.args.field c.args.files.now (sym c.is_indexed.ensures ∙ c.if-not-is_indexed.true)

pub close-requires-clause-closed : goal.close-requires-clause-closed
close-requires-clause-closed g c =
    of_whole (g.T.TermsByField.total c.args.terms.now) (g.T.TermsByField.has c.args.terms.now) c.args.field c.in_ok-whole.whole c.into_field.result c.in_ok-whole.ensures c.into_field.ensures
    (λ w. w.current ≡ None) refl

pub close-requires-clause-ascends : goal.close-requires-clause-ascends
close-requires-clause-ascends g c =
    of_whole (g.T.TermsByField.total c.args.terms.now) (g.T.TermsByField.has c.args.terms.now) c.args.field c.in_ok-whole.whole c.into_field.result c.in_ok-whole.ensures c.into_field.ensures
    (λ w. IfSome c.args.files.now (λ f. (low_after 0 f.terms ≤ w.field) × (low_after 0 f.postings ≤ w.field) × (low_after 0 f.positions ≤ w.field))) c.requires.ascends

pub close-requires-clause-limit : goal.close-requires-clause-limit
close-requires-clause-limit g c =
    of_whole (g.T.TermsByField.total c.args.terms.now) (g.T.TermsByField.has c.args.terms.now) c.args.field c.in_ok-whole.whole c.into_field.result c.in_ok-whole.ensures c.into_field.ensures
    (λ w. w.field < 2 ^ 32 - 1) c.requires.limit

pub returns : goal.returns
returns g c =
    adds_whole (g.T.TermsByField.total c.args.terms.now) (g.T.TermsByField.has c.args.terms.now) c.args.field c.in_ok-whole.whole c.into_field.result c.in_ok-whole.ensures c.into_field.ensures (is_indexed c.args.entry.now) c.args.files.now c.close.new.serializer (sym c.is_indexed.ensures ∙ c.if-not-is_indexed.false)
    c.in-Ok-close.ensures.ok
