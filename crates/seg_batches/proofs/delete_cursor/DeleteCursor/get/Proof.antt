-- `get` hands its arguments on, in another order. Assumes `Logic`.
use Rattle.std.proofs.Common.{[], ◌∷◌, refl}
use mir.MapTy.{inst_fn}
use mir.Syntax.{a_type, named}
use base.Fml.{ftrue, flft}
use base.Logic.{id⊢}
use contract.Running.{tables}
use types.Kit.{‵, raw, ◌⊛◌, some, later, ◌$◌, ◌∵◌, !, qed, by, move, keep, drop, use1, split, split3, join, group, fjoin, pick, await}
use types.Run.{stop, addr, and_then, no_more, returns, enter}
use types.ByLocal.{alloc_all, pass_all, free_all, look_at, get, through, sets, lands_as}
use denote.Builtin.{RefOf}
use denote.Enum.Loose.{loose_lawful}
use denote.Exit.{yes, no}
use denote.Laws.{Is}
use denote.Param.{layouts, param}
use denote.Param.Laws.{param_laws, of_field}
use denote.Param.Shared.{copy_shared}
use denote.RattleType.{RattleType}
use denote.Ref.{MutRef, ShrRef, mut_vals, mut_Tells, shr_vals, shr_Tells}
use denote.Signature.{plain, mut_ref_to, type_at}
use denote.Steps.{nothing, peeks}
use denote.Struct.Field.{Field, shr_ref_field}
use denote.Struct.Laws.{shr_ref_copy, shr_ref_laws}
use denote.Triple.Call.{calls_at}
use denote.Triple.Clauses.{Lasts, lasts, at_exit}
use denote.Triple.Spec.{triple_of}
use denote.Triple.Table.{framed}
use denote.Triple.Walked.{Stays, stay_dropped, walk_of, Goes-dropped, Goes-spent_ref}
use denote.Laws.{shows}
use Rattle.std.proofs.option.Option.TheLaws as option_laws
use Rattle.std.proofs.raw_atomic.Walks.{proved, leaves}
use Rattle.std.specs.contracts.option.Option as option
use Rattle.seg_batches.proofs.operation.DeleteOperation.TheLaws as operation_laws
use Rattle.seg_batches.specs.contracts.delete_cursor.DeleteCursor as cursor
use Rattle.seg_batches.specs.contracts.delete_cursor.DeleteCursor.get.{ended, clauses}
use Rattle.seg_batches.specs.contracts.delete_cursor.DeleteCursor.get.Key.{name}
use Rattle.seg_batches.specs.contracts.delete_queue.DeleteQueue as queue
use Rattle.seg_batches.specs.contracts.delete_queue.DeleteQueue.get as callee
use Rattle.seg_batches.specs.contracts.operation.DeleteOperation as operation
use Rattle.seg_batches.proofs.delete_queue.DeleteQueue.get.Met.{met}
use Rattle.seg_batches.proofs.delete_cursor.DeleteCursor.get.Statement.{statement}
use Rattle.seg_batches.proofs.delete_cursor.DeleteCursor.get.Code as code

pub get_spec : {M : Type 1} → statement M
get_spec 𝓤 𝓛 𝓜 𝓡 wired T L =
    let Queue : RattleType = queue.the_row (param 0 T) in
    let Operation : RattleType = operation.the_row (param 0 T) in
    let inst = layouts (a_type ∷ []) (T, tt) in
    let fn = inst_fn inst code.function in
    let 𝓣 = tables 𝓤 𝓛.H 𝓜 𝓡 𝓡.env in
    let c = clauses T 𝓛 𝓜.mem 𝓡.returns in
    let G = triple_of 𝓛 (callee.signature T) (callee.spec T 𝓛 𝓜.mem 𝓡.returns) in
    let Cursor = RefOf (0 ∷ []) tt (plain (λ _. cursor.the_row)) (λ _. tt) in
    let hs : Stays (ended T).signature.params (ended T).kept = (stay_dropped Cursor yes, (stay_dropped (mut_ref_to (1 ∷ []) tt (plain (λ _. Queue))) no, tt)) in
    proved 𝓛 (ended T) hs c 𝓜 𝓡 (Goes-dropped 𝓛 3 Cursor yes (λ κs x f. refl), (Goes-spent_ref 𝓛 3 (1 ∷ []) tt (plain (λ _. Queue)), tt))
    (name inst) fn (code.unfolded 𝓤 𝓛.H 𝓜 𝓡 wired (T, tt))
    (λ κs. (shr_vals, (mut_vals, tt))) (λ κs. (shr_Tells (named 0) κs.0 cursor.the_row, (mut_Tells (named 1) κs.1.0 Queue, tt)))
    (λ κs qs bounds a _ are.
    let Shr : RattleType = ShrRef (named 0) κs.0 cursor.the_row in
    let Mut : RattleType = MutRef (named 1) κs.1.0 Queue in
    let z : (walk_of 𝓛 (ended T) hs c).Ghost = ((κs, qs, bounds, a, (shr_vals a.0, (mut_vals a.1.0, tt))), tt) in
    let y : G.Ghost = (((κs.1.0, (κs.0, κs.1.1)), (qs.1.0, (qs.0, qs.1.1)), bounds, (a.1.0, (a.0, tt)), (mut_vals a.1.0, (shr_vals a.0, tt))), tt) in
    let Out : RattleType = type_at (ended T).signature.result κs in
    let lent : Field = shr_ref_field (record { mir = named 1; lft = κs.1.0 }) Operation tt in
    let Lent : RattleType = lent.row in
    let lent_laws = of_field lent (shr_ref_laws (record { mir = named 1; lft = κs.1.0 }) Operation tt) refl (copy_shared lent (shr_ref_copy (record { mir = named 1; lft = κs.1.0 }) Operation tt (operation_laws.the_row_laws (param 0 T) (param_laws 0 T L)).shr_laws)) in
    let asked = raw ((c κs a).requires tt) in
    let self_lives = ‵ (flft κs.0 qs.0) in
    let queue_lives = ‵ (flft κs.1.0 qs.1.0) in
    let type_lives = ‵ (flft κs.1.1.0 qs.1.1.0) ⊛ ‵ ftrue in
    qed 𝓛 (((self_lives ⊛ queue_lives ⊛ type_lives) ⊛ ‵ (Shr.own_val a.0 (shr_vals a.0)) ⊛ ‵ (Mut.own_val a.1.0 (mut_vals a.1.0)) ⊛ ‵ ftrue) ∷ asked ∷ []) ∵
    split ! $ split3 ! $ move ! (3 ∷ []) $ split3 ! $ keep ! (0 ∷ 1 ∷ 3 ∷ 4 ∷ 5 ∷ 6 ∷ []) $
    enter ! _ _ _ _ _ $ alloc_all ! (λ l. pass_all ! refl ((tt, tt), ((tt, tt), tt)) $
    sets ! (addr ! (through ! refl (stop !))) refl (tt, tt) $
    nothing ! $ move ! (2 ∷ 1 ∷ 0 ∷ []) $ group ! 3 $ move ! (2 ∷ 1 ∷ 3 ∷ []) $ group ! 3 $ join ! $ join ! $ use1 𝓛 (raw (G.pre y)) (id⊢ 𝓤 _) $
    calls_at ! (framed 𝓤 𝓛.H 𝓜 𝓣) G (met 𝓤 𝓛 𝓜 𝓡 (code.calls-seg_batches::delete_queue::DeleteQueue::get 𝓡.env wired) T L) y (and_then ! (get ! refl) (and_then ! (get ! refl) (no_more !))) (λ v.
    use1 𝓛 (later (some (λ (r : Out.Denot). ((queue_lives ⊛ self_lives ⊛ type_lives) ⊛ ‵ (Out.own_val r (v ∷ [])))
    ⊛ some (λ (ws : Lasts (callee.ended T) y.0.0 y.0.3). ‵ (lasts (callee.ended T) y.0.0 y.0.3 ws) ⊛ raw ((c κs a).ensures tt r (at_exit (ended T) κs a (tt, (tt, tt)))))))) (id⊢ 𝓤 (G.post y v)) $ await ! tt $
    pick ! (λ r. split ! $ move ! (1 ∷ []) $ pick ! (λ _. split ! $ drop ! $ move ! (1 ∷ []) $ split ! $ split3 ! $ move ! (1 ∷ 0 ∷ 2 ∷ []) $ group ! 3 $ move ! (1 ∷ []) $
    peeks ! Out (Is Out) (shows 𝓛 Out) r (v ∷ []) (λ is. lands_as ! refl refl ((loose_lawful (option.the_type Lent) (option_laws.the_loose Lent lent_laws) tt 𝓛).typed r (v ∷ []) is).0 $
    returns ! (look_at ! 0 refl) $ free_all ! refl $ nothing ! $ nothing ! $ fjoin ! $ nothing ! $ fjoin ! $ move ! (2 ∷ 0 ∷ []) $
    by ! (leaves 𝓛 (ended T) hs c z v r (tt, (tt, tt)) (tt, (tt, tt)))))))))
