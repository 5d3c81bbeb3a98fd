use Rattle.std.proofs.Common.{◌≡◌, ◌-◌, ◌<◌, ◌++◌, [], ◌∷◌, length, map, Some, None, append-nil, refl, sym, ap, ◌∙◌, arith}
use Rattle.json.specs.Json.{after_end_array, parse_map, value}
use Rattle.serde_json.specs.Data.{no_items, item}
use Rattle.serde_json.specs.View.{view}
use Rattle.seg_check.specs.UserOperations.{operation_of}
use Rattle.seg_script.specs.Operations.{operation_from}
use Rattle.seg_script.proofs.OperationSequences.{each-item, map-push}
use Rattle.seg_script.proofs.Grammar.{item_read, items_over}
use Rattle.seg_script.proofs.operation_list.operations_left.Goals as goal

pub loop-alloc-init : goal.loop-alloc-init
loop-alloc-init c =
    (length c.args.reader.now, omega arith, λ ds xs r e made. (ds, e, made ∙ ap (λ os. Some (map operation_of os ++ xs)) (sym c.new-operations.ensures.items)))

pub loop-alloc-preserved : goal.loop-alloc-preserved
loop-alloc-preserved c =
    let p = value 125 in
    let l = c.loop-alloc in
    let n = l.invariant.0 in
    let going : (after_end_array l.reader ≡ None) × (c.take_end_array.new.self ≡ l.reader) = grind arith in
    let done = c.in_ok-json.ensures in
    let v = view c.in_ok-json.json in
    let left = c.read_value.new.reader in
    let less : length left < length l.reader = rw (← going.1) done.shorter in
    let turn = item_read p n l.reader left v (omega (arith, l.invariant.1)) going.0 (rw (← going.1) done.ok) in
    let o = c.in_ok-operation.operation in (
      n - 1,
      omega (arith, l.invariant.1),
      λ ds xs r e made.
          let all = l.invariant.2 (item v ds) (operation_of o ∷ xs) r (turn ∙ ap (parse_map (item v)) e) (each-item (operation_from c.args.schema.now) v ds (operation_of o) xs c.in_ok-operation.ensures.ok made) in
          (all.0, all.1, all.2 ∙ ap Some (map-push operation_of l.operations.items c.push.new.items.items o xs c.in_ok-push.ensures)),
    )

pub returns : goal.returns
returns c =
    let l = c.loop-alloc in
    let n = l.invariant.0 in
    let r = c.take_end_array.new.self in
    let all = l.invariant.2 no_items [] r (items_over (value 125) n l.reader r l.invariant.1 (grind arith)) refl in
    (all.0, all.1, all.2 ∙ ap Some (append-nil (map operation_of l.operations.items)))
