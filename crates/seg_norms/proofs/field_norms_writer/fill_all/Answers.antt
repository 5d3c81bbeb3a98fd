use Rattle.std.proofs.Common.{◌≡◌, ◌+◌, ◌<◌, suc, length, ◌++◌, map, option_map, take, drop, slice_set, ap, ◌∙◌, rules, arith}
use Rattle.seg_norms.specs.FieldNorms.{filled}
use Rattle.seg_norms.proofs.NormsLists.{one_more}
use Rattle.seg_norms.proofs.field_norms_writer.fill_all.Goals as goal

pub loop-place-preserved : goal.loop-place-preserved
loop-place-preserved c =
    let change = option_map (filled c.args.max_doc) in
    let next : c.loop-place.place + 1 ≡ suc c.loop-place.place = omega arith in
    let now = slice_set c.loop-place.fields c.loop-place.place c.fill.new.field in
    let within : c.loop-place.place < length c.loop-place.fields = search rules in
    ap (λ n. take n now ++ map change (drop n now)) next
    ∙ one_more change c.loop-place.fields c.loop-place.place c.index-fields-place.result c.fill.new.field within (search rules)
    ∙ c.loop-place.invariant
