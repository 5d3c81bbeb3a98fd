use Rattle.std.proofs.Common.{◌+◌, ◌*◌, ◌-◌, ℕ, List, sym, ap, ◌∙◌, arith, length}
use Rattle.seg_directory.specs.CompositeFiles.{are_entries, entries_of, field_of, Part}
use Rattle.seg_directory.proofs.CompositeTables.{laid_out, split-from, length-table, composite-by, parts-by}
use Rattle.seg_directory.proofs.composite_file.CompositeFile.open_read.Goals as goal

pub overflow_sub-body : goal.overflow_sub-body
overflow_sub-body c =
    let l = laid_out c.self.inside.bytes c.self.invariant.0 in
    omega (arith, l.long, c.self.invariant.1, ap length c.as_slice-bytes.ensures)

pub find_entry-requires-clause-room : goal.find_entry-requires-clause-room
find_entry-requires-clause-room c =
    length-table _ _ _ (split-from c.self.inside.bytes _ _ _ c.self.invariant.0 c.self.invariant.1 c.as_slice-bytes.ensures c.split_at.ensures.back)

pub find_entry-requires-clause-good : goal.find_entry-requires-clause-good
find_entry-requires-clause-good c =
    let s = split-from c.self.inside.bytes _ _ _ c.self.invariant.0 c.self.invariant.1 c.as_slice-bytes.ensures c.split_at.ensures.back in
    ap (λ (n : ℕ). are_entries 0 0 (n - (4 + 12 * c.self.inside.count)) (entries_of c.self.inside.count c.split_at.result.1.now)) (ap length c.as_slice-bytes.ensures) ∙ sym (composite-by _ _ _ s) ∙ c.self.invariant.0

pub returns-in-Some : goal.returns-in-Some
returns-in-Some c =
    let bytes = c.self.inside.bytes in
    let s = split-from bytes _ _ _ c.self.invariant.0 c.self.invariant.1 c.as_slice-bytes.ensures c.split_at.ensures.back in
    let of = λ (ps : List Part). field_of ps c.field_id.result in
    rw c.slice.ensures (sym (c.in-Some.ensures.found bytes) ∙ ap of (sym (parts-by _ _ _ s)) ∙ ap of c.self.view_is ∙ ap (field_of c.args.self.now) c.field_id.ensures)

pub returns-in-None : goal.returns-in-None
returns-in-None c =
    let bytes = c.self.inside.bytes in
    let s = split-from bytes _ _ _ c.self.invariant.0 c.self.invariant.1 c.as_slice-bytes.ensures c.split_at.ensures.back in
    let of = λ (ps : List Part). field_of ps c.field_id.result in
    sym (c.in-None.ensures.found bytes) ∙ ap of (sym (parts-by _ _ _ s)) ∙ ap of c.self.view_is ∙ ap (field_of c.args.self.now) c.field_id.ensures
