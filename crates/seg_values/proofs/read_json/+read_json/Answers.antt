use Rattle.std.proofs.Common.{◌≡◌, ◌++◌, [], ◌∷◌, Some, string_bytes, sym, ap, ◌∙◌, rules}
use Rattle.std.specs.Option.{option_map}
use Rattle.serde_json.specs.View.{view, members_view}
use Rattle.seg_values.specs.JsonTrees.{tree_read, members_read}
use Rattle.seg_values.specs.ValueTrees.{tree_of}
use Rattle.seg_values.proofs.ReadJsonValues.{after, after_one}
use Rattle.seg_values.proofs.read_json.+read_json.Goals as goal

pub members_from-loop-key-preserved : goal.members_from-loop-key-preserved
members_from-loop-key-preserved t c =
    let key = string_bytes c.in-Some.key.now in
    let tree = tree_of c.in_ok-value.value in
    let first = option_map (λ t. (key, t)) (tree_read c.args.reading (view c.in-Some.json.now)) in
    let is : first ≡ Some (key, tree) = ap (option_map (λ t. (key, t))) c.in_ok-value.ensures.ok in
    let named : c.in_ok-name.name ≡ key = search rules in
    after_one c.loop-key.members c.push.new.self (key, tree) first (members_read c.args.reading (members_view c.next.new.self)) is (c.in_ok-push.ensures.ok ∙ ap (λ n. c.loop-key.members ++ (n, tree) ∷ []) named)
    ∙ ap (λ l. after c.loop-key.members (members_read c.args.reading (members_view l))) (sym c.in-Some.ensures.steps)
    ∙ c.loop-key.invariant
