use Rattle.std.proofs.Common.{◌≡◌, ◌+◌, [], ◌∷◌, ◌++◌, length, refl, sym, ap, ◌∙◌, arith, min}
use Rattle.std.specs.Prelude.{◌&&◌}
use Rattle.std.proofs.lemmas.List.{length-append}
use Rattle.std.proofs.lemmas.Slice.Zip.{zip_turn, zip_end}
use Rattle.seg_check.specs.UserOperations.{operation_of}
use Rattle.seg_check.proofs.RisingCuts.{all_fit, one_cut}
use Rattle.seg_check.proofs.DividedFilters.{as_many, one_batch, last_batch, batch, left_fit}
use Rattle.seg_check.proofs.filters.filters_fit.Goals as goal

pub returns-then-filters-cuts : goal.returns-then-filters-cuts
returns-then-filters-cuts c = λ schema analyzer. as_many schema analyzer c.args.filters.now 0 c.args.cuts.now _ c.if-filters-cuts.true

pub loop-cut-init : goal.loop-cut-init
loop-cut-init c = record {
  fit = λ schema analyzer. refl;
  cuts = all_fit operation_of c.args.operations.now c.args.cuts.now ∙ c.requires;
  within = omega arith;
}

pub returns-then-not-filter_fits : goal.returns-then-not-filter_fits
returns-then-not-filter_fits c = λ schema analyzer.
    let n = length c.loop-cut.yielded in
    let turn = zip_turn c.args.cuts.now c.args.filters.now c.loop-cut.yielded c.into_iter-cut-iterator.result c.loop-cut.cut-iterator c.next.new.self c.next.result (cc) (cc) c.loop-cut.yielded_by _ c.in-Some.is c.next.ensures.steps in
    let left = left_fit schema analyzer c.args.filters.now c.args.cuts.now (n + 1) c.in-Some.cut.now c.split_at.result.1.now in
    ap (λ b. b && left) (sym c.if-not-filter_fits.true ∙ c.filter_fits.ensures (batch schema analyzer c.split_at.result.0.now c.split_at.result.1.now).alive)
    ∙ sym (one_batch schema analyzer c.args.filters.now c.args.cuts.now n c.loop-cut.from (n + 1) c.in-Some.cut.now c.in-Some.filter.now c.loop-cut.left.now c.split_at.result.0.now c.split_at.result.1.now turn.0 turn.1 refl (turn.2 _) (turn.3 _) c.split_at.ensures.front c.split_at.ensures.back)
    ∙ c.loop-cut.invariant.fit schema analyzer

pub loop-cut-preserved : goal.loop-cut-preserved
loop-cut-preserved c =
    let n = length c.loop-cut.yielded in
    let m = length (c.loop-cut.yielded ++ (c.in-Some.cut, c.in-Some.filter) ∷ []) in
    let next : m ≡ n + 1 = length-append c.loop-cut.yielded ((c.in-Some.cut, c.in-Some.filter) ∷ []) in
    let turn = zip_turn c.args.cuts.now c.args.filters.now c.loop-cut.yielded c.into_iter-cut-iterator.result c.loop-cut.cut-iterator c.next.new.self c.next.result (cc) (cc) c.loop-cut.yielded_by _ c.in-Some.is c.next.ensures.steps in
    let cut = one_cut (length c.args.operations.now) c.loop-cut.from c.args.cuts.now n m c.in-Some.cut.now turn.0 next (turn.2 _) c.loop-cut.invariant.cuts in
    record {
      fit = λ schema analyzer.
          let left = left_fit schema analyzer c.args.filters.now c.args.cuts.now m c.in-Some.cut.now c.split_at.result.1.now in
          ap (λ b. b && left) (sym c.if-not-filter_fits.false ∙ c.filter_fits.ensures (batch schema analyzer c.split_at.result.0.now c.split_at.result.1.now).alive)
          ∙ sym (one_batch schema analyzer c.args.filters.now c.args.cuts.now n c.loop-cut.from m c.in-Some.cut.now c.in-Some.filter.now c.loop-cut.left.now c.split_at.result.0.now c.split_at.result.1.now turn.0 turn.1 next (turn.2 _) (turn.3 _) c.split_at.ensures.front c.split_at.ensures.back)
          ∙ c.loop-cut.invariant.fit schema analyzer;
      cuts = cut.following;
      within = let rises = cut.rises in let long = c.split_at.ensures.back_len in let whole = c.loop-cut.invariant.within in omega arith;
    }

pub returns : goal.returns
returns c = λ schema analyzer.
    let n = length c.loop-cut.yielded in
    let many : length c.args.filters.now ≡ length c.args.cuts.now + 1 = c.if-filters-cuts.false in
    let end : n ≡ min (length c.args.cuts.now) (length c.args.filters.now) = zip_end c.args.cuts.now c.args.filters.now c.loop-cut.yielded c.into_iter-cut-iterator.result c.loop-cut.cut-iterator c.next.new.self c.next.result (cc) (cc) c.loop-cut.yielded_by c.in-None.is c.next.ensures.steps in
    c.filter_fits-2.ensures (batch schema analyzer c.loop-cut.left.now []).alive
    ∙ sym (last_batch schema analyzer c.args.filters.now c.args.cuts.now n c.loop-cut.from c.index-filters-cuts.result c.loop-cut.left.now (omega arith) many c.index-filters-cuts.is)
    ∙ c.loop-cut.invariant.fit schema analyzer
