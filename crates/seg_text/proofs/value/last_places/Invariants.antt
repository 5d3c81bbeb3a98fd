use Rattle.std.proofs.Common.{◌≡◌, drop, map}
use Rattle.serde_json.specs.Data.{no_members}
use Rattle.seg_values.specs.Tree.{members_from}
use Rattle.seg_values.specs.ValueJson.{members_json}
use Rattle.seg_text.specs.PlacedMembers.{placed_members, ArePlaces}
use Rattle.seg_text.proofs.value.last_places.Given as goal

abbrev pub invariant-loop-place : goal.invariant-loop-place
invariant-loop-place l = record {
  members : members_json no_members (members_from l.members) ≡ members_json (placed_members l.members (map (λ p. (p.0.now, p.1)) l.places.entries)) (members_from (drop l.place l.members));
  places : ArePlaces l.members (map (λ p. (p.0.now, p.1)) l.places.entries);
}
