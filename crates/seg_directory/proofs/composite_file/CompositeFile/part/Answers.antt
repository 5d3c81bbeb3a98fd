use Rattle.std.proofs.Common.{◌+◌, ◌*◌, ◌-◌, ℕ, List, sym, ap, ◌∙◌, arith, length, slice_get}
use Rattle.seg_directory.specs.CompositeFiles.{are_entries, entries_of, Part}
use Rattle.seg_directory.proofs.CompositeTables.{laid_out, split-from, length-table, composite-by, parts-by, length-parts_of}
use Rattle.seg_directory.proofs.composite_file.CompositeFile.part.Goals as goal

pub overflow_sub-body : goal.overflow_sub-body
overflow_sub-body c =
    let l = laid_out c.self.inside.bytes c.self.invariant.0 in
    omega (arith, l.long, c.self.invariant.1, ap length c.as_slice-bytes.ensures)

pub entry_range-start-requires-clause-room : goal.entry_range-start-requires-clause-room
entry_range-start-requires-clause-room c =
    length-table _ _ _ (split-from c.self.inside.bytes _ _ _ c.self.invariant.0 c.self.invariant.1 c.as_slice-bytes.ensures c.split_at.ensures.back)

pub entry_range-start-requires-clause-place : goal.entry_range-start-requires-clause-place
entry_range-start-requires-clause-place c = omega (arith, c.requires, c.self.invariant.1, length-parts_of c.self.inside.bytes, ap length c.self.view_is)

pub entry_range-start-requires-clause-good : goal.entry_range-start-requires-clause-good
entry_range-start-requires-clause-good c =
    let s = split-from c.self.inside.bytes _ _ _ c.self.invariant.0 c.self.invariant.1 c.as_slice-bytes.ensures c.split_at.ensures.back in
    ap (λ (n : ℕ). are_entries 0 0 (n - (4 + 12 * c.self.inside.count)) (entries_of c.self.inside.count c.split_at.result.1.now)) (ap length c.as_slice-bytes.ensures) ∙ sym (composite-by _ _ _ s) ∙ c.self.invariant.0

pub u32_at-field-requires : goal.u32_at-field-requires
u32_at-field-requires c =
    let s = split-from c.self.inside.bytes _ _ _ c.self.invariant.0 c.self.invariant.1 c.as_slice-bytes.ensures c.split_at.ensures.back in
    omega (arith, length-table _ _ _ s, c.requires, c.self.invariant.1, length-parts_of c.self.inside.bytes, ap length c.self.view_is)

pub returns : goal.returns
returns c =
    let bytes = c.self.inside.bytes in
    let s = split-from bytes _ _ _ c.self.invariant.0 c.self.invariant.1 c.as_slice-bytes.ensures c.split_at.ensures.back in
    let of = λ (ps : List Part). slice_get ps c.args.place in
    rw (c.slice.ensures, c.from_field_id.ensures, c.u32_at-field.ensures) (ap of (sym c.self.view_is) ∙ ap of (parts-by _ _ _ s) ∙ c.entry_range-start.ensures.part bytes)
