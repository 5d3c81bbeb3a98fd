use Rattle.std.proofs.Common.{◌≡◌, map, ℕ, List, Bor}
use Rattle.serde_json.specs.View.{view, members_view}
use Rattle.seg_meta.specs.JsonReaders.{names_among, has_only}
use Rattle.seg_meta.proofs.members.has_only.Given as goal

abbrev pub invariant-loop-name : goal.invariant-loop-name
invariant-loop-name l =
    let names : List (List ℕ) = map (λ (n : Bor (List ℕ)). n.now) l.names in
    names_among names (members_view l.name-iterator) ≡ has_only names (view l.json)
