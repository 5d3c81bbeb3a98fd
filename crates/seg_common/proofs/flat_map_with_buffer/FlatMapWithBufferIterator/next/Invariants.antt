use Rattle.std.proofs.Common.{◌≡◌, ◌≤◌, reverse, vec_len}
use Rattle.std.specs.Iterator.{IsFinite, size}
use Rattle.seg_common.specs.FlatPieces.{Gives, piece_count}
use Rattle.seg_common.proofs.flat_map_with_buffer.FlatMapWithBufferIterator.next.Given as goal

-- what it gives from here on, it gives from the start
abbrev pub invariant-loop-piece : goal.invariant-loop-piece
invariant-loop-piece g l = record {
  can : g.I.Iterator.can_next l.self.items;
  ends : IsFinite (g.I.Iterator.remaining l.self.items);
  callable : goal.F-IsAlwaysCallable g l.self.fill_buffer;
  same : l.self.fill_buffer ≡ l.initial.self.fill_buffer;
  fewer : size (piece_count (g.I.Iterator.remaining l.self.items) (vec_len l.self.buffer)) ≤ size (piece_count (g.I.Iterator.remaining l.initial.self.items) (vec_len l.initial.self.buffer));
  gives : (r : _) (after : _) (left : _) → Gives (goal.F-post g l.self.fill_buffer) g.I.Iterator.next_gives l.self.items (reverse l.self.buffer.items) r after left → Gives (goal.F-post g l.initial.self.fill_buffer) g.I.Iterator.next_gives l.initial.self.items (reverse l.initial.self.buffer.items) r after left;
}

abbrev pub decreases-loop-piece : goal.decreases-loop-piece
decreases-loop-piece g l = size (g.I.Iterator.remaining l.self.items)
