use Rattle.std.proofs.Common.{◌<◌, ◌^◌, ◌++◌, ℕ, List, length, refl, subst, arith}
use Rattle.seg_termdict.proofs.BuilderGrowth.{key_keeps, key_view}
use Rattle.seg_termdict.proofs.written_terms.WrittenTerms.push_key.Goals as goal

pub invariant_of-self-2 : goal.invariant_of-self-2
invariant_of-self-2 c =
    let i = c.self.inside in
    let e = c.in_ok-put_key.ensures in
    rw (e.ends, e.keys) (key_keeps i.ends.items i.keys.items i.infos.items i.key_count i.info_count i.last_start c.args.self.now c.self.invariant c.self.view_is c.args.key.now c.len-start.result (length (i.keys.items ++ c.args.key.now)) c.requires.alternate c.requires.follows (omega (arith, c.len-start.ensures)) refl (subst (λ (l : List ℕ). length l < 2 ^ 64) e.keys e.small))

pub returns : goal.returns
returns c =
    let i = c.self.inside in
    let e = c.in_ok-put_key.ensures in
    rw (e.ends, e.keys) (key_view i.ends.items i.keys.items i.infos.items i.key_count i.info_count i.last_start c.args.self.now c.self.invariant c.self.view_is c.args.key.now c.len-start.result (length (i.keys.items ++ c.args.key.now)) c.requires.alternate c.requires.follows (omega (arith, c.len-start.ensures)) refl (subst (λ (l : List ℕ). length l < 2 ^ 64) e.keys e.small))
