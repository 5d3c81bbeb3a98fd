use Rattle.std.proofs.Common.{ℕ, map, refl}
use Rattle.std.specs.Prelude.{Vec}
use Rattle.std.specs.Vec.{with_item}
use Rattle.std.specs.declared.alloc.Global.{Global}
use Rattle.seg_column_file.proofs.Exports.{view_marked}
use Rattle.seg_column_merge_parts.proofs.dictionaries.put_ordinal.Goals as goal

pub returns : goal.returns
returns c =
    let lists = c.args.ordinals.now.items in
    let list = c.index_mut-list.result.now in
    view_marked {V = Vec ℕ Global} (λ v. v.items) lists (map (λ (v : Vec ℕ Global). v.items) lists) c.args.place
    c.args.ord c.args.ordinal list (with_item list c.args.ord c.args.ordinal) refl c.requires.ord
    c.index_mut-list.ensures.value refl
