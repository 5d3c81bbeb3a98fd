use Rattle.std.proofs.Common.{◌≡◌, ℕ, drop, nat_eq}
use Rattle.std.specs.HashSet.{contains}
use Rattle.std.specs.List.{list_any}
use Rattle.serde_json.specs.View.{view, items_view}
use Rattle.seg_meta.specs.ParsedMetaParts.{segment_from}
use Rattle.seg_meta.specs.SavableMetas.{same_id}
use Rattle.seg_meta.proofs.ReadLists.{IsReadSoFar}
use Rattle.seg_meta.proofs.segments_read.segments_from.Given as goal

-- the segments read so far, whose ids are those of the set
abbrev pub invariant-loop-item : goal.invariant-loop-item
invariant-loop-item l =
    record {
      read : IsReadSoFar segment_from same_id (view l.json) l.segments (items_view (drop l.item-index l.item-items)) l.item-index;
      ids : (id : ℕ) → contains nat_eq l.ids id ≡ list_any (λ s. nat_eq s.id id) l.segments;
    }
