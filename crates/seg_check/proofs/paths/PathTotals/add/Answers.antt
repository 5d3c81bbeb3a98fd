use Rattle.std.proofs.Common.{◌≡◌, ℕ, cond, get_or, refl, ap, ◌∙◌, subst}
use Rattle.std.specs.Prelude.{◌&&◌, ◌==◌}
use Rattle.seg_check.specs.TotalsOfFields.{with_more}
use Rattle.seg_check.specs.declared.totals.Totals.{Totals}
use Rattle.seg_check.proofs.PathLeaves.{stands-more}
use Rattle.seg_check.proofs.paths.PathTotals.add.Goals as goal

pub returns-clause-stands : goal.returns-clause-stands
returns-clause-stands c analyze found path l here is_size stands =
    let old = c.args.self.now in
    let w = c.with-totals.result in
    let before = c.value_of.ensures ∙ (λ i. get_or (c.deref.ensures.value i) c.args.number (c.none.ensures i)) in
    let sets = subst (λ (blank : Totals). (k : ℕ)
    → get_or c.set_value.new.values.items k blank
    ≡ cond (k == c.args.number) w
    (get_or old.totals.items k blank)) c.none-2.ensures c.in_ok-set_value.ensures.set in
    stands-more analyze found path l old _ c.args.number w c.args.size here is_size (c.with-totals.ensures
    ∙ ap (λ t. with_more t c.args.size) before) refl sets c.in_ok-set_value.ensures.length
    (ap (λ b. old.are_within && b) c.fits.ensures) stands
