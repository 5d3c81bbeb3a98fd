use Rattle.std.proofs.Common.{◌≡◌, ◌≢◌, ◌*◌, sym, ◌∙◌, arith}
use Rattle.seg_common.specs.LittleEndian.{u32_at}
use Rattle.seg_directory.proofs.CompositeEntries.{absent, entry_found}
use Rattle.seg_directory.proofs.composite_file.find_entry.Goals as goal

pub returns-then-place-count-clause-found : goal.returns-then-place-count-clause-found
returns-then-place-count-clause-found c = λ body.
    let place = c.first_not_below-place.result in
    let all : place ≡ c.args.count = c.if-place-count.true in
    absent c.args.count c.args.table.now 0 0 place c.args.total c.args.field body c.requires.good c.first_not_below-place.ensures.within c.first_not_below-place.ensures.before
    (λ lt. absurd (omega (arith, lt, all)))

pub returns-then-u32_at-field-clause-found : goal.returns-then-u32_at-field-clause-found
returns-then-u32_at-field-clause-found c = λ body.
    let place = c.first_not_below-place.result in
    absent c.args.count c.args.table.now 0 0 place c.args.total c.args.field body c.requires.good c.first_not_below-place.ensures.within c.first_not_below-place.ensures.before
    (λ lt.
    let least = c.first_not_below-place.ensures.past lt in
    let other : u32_at c.args.table.now (12 * place) ≢ c.args.field = λ same. c.if-u32_at-field.true (c.u32_at.ensures ∙ same) in
    omega (arith, least, other))

pub returns-clause-found : goal.returns-clause-found
returns-clause-found c = λ body.
    entry_found c.args.count c.args.table.now c.first_not_below-place.result c.args.total c.entry_range.result.0 c.entry_range.result.1 c.args.field body c.requires.good c.entry_range.ensures
    (sym c.u32_at.ensures ∙ c.if-u32_at-field.false)
