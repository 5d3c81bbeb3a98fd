-- Members that are put into an object one after another.
use Rattle.std.proofs.Common.{◌≡◌, ℕ, List, Less, Equal, Greater, Ordering, nat_cmp, is_eq, refl, sym, ap, ◌∙◌}
use Rattle.std.proofs.lemmas.Cmp.{nat_list_cmp_total, tied_itself}
use Rattle.std.proofs.lemmas.Map.Text.{is_eq-slice_cmp}
use Rattle.std.proofs.lemmas.Slice.Eq.{bytes_eq-Decides}
use Rattle.std.specs.Cmp.Lexicographic.{slice_cmp}
use Rattle.std.specs.Ordering.{match_ordering, ordering_reverse}
use Rattle.serde_json.specs.Data.{Data, Members, no_members, member, put}

same_text : (xs : List ℕ) → slice_cmp nat_cmp xs xs ≡ Equal
same_text xs = tied_itself nat_list_cmp_total xs

again_at : (o : Ordering) (k l : List ℕ) (d e f : Data) (ms : Members) → slice_cmp nat_cmp k l ≡ o → put k d (put k e ms) ≡ put k d ms
    → put k d (match_ordering o (member k e (member l f ms)) (member l e ms) (member l f (put k e ms))) ≡ match_ordering o (member k d (member l f ms)) (member l d ms) (member l f (put k d ms))
again_at Less k l d e f ms is later = rw same_text refl
again_at Equal k l d e f ms is later = rw is refl
again_at Greater k l d e f ms is later = rw is (ap (member l f) later)

-- what was put at a key before doesn't matter
pub put_again : (k : List ℕ) (d e : Data) (ms : Members) → put k d (put k e ms) ≡ put k d ms
put_again k d e no_members = rw same_text refl
put_again k d e (member l f ms) = again_at _ k l d e f ms refl (put_again k d e ms)

reversed : (k q : List ℕ) (o : Ordering) → slice_cmp nat_cmp k q ≡ o → slice_cmp nat_cmp q k ≡ ordering_reverse o
reversed k q o is = nat_list_cmp_total.antisymm q k ∙ ap ordering_reverse is

swap_at : (o p : Ordering) (k q l : List ℕ) (d e f : Data) (ms : Members) → slice_cmp nat_cmp k l ≡ o → slice_cmp nat_cmp q l ≡ p → slice_cmp nat_cmp k q ≡ Less → slice_cmp nat_cmp q k ≡ Greater → put q e (put k d ms) ≡ put k d (put q e ms)
    → put q e (match_ordering o (member k d (member l f ms)) (member l d ms) (member l f (put k d ms))) ≡ put k d (match_ordering p (member q e (member l f ms)) (member l e ms) (member l f (put q e ms)))
swap_at Less Less k q l d e f ms kl ql kq qk later = rw (qk, ql, kq) refl
swap_at Less Equal k q l d e f ms kl ql kq qk later = rw (qk, ql, kl) refl
swap_at Less Greater k q l d e f ms kl ql kq qk later = rw (qk, ql, kl) refl
swap_at Equal Less k q l d e f ms kl ql kq qk later =
    let one : Less ≡ Greater = sym kq ∙ nat_list_cmp_total.congr k l q kl ∙ reversed q l Less ql in cc
swap_at Equal Equal k q l d e f ms kl ql kq qk later =
    let one : Less ≡ Equal = sym kq ∙ nat_list_cmp_total.congr k l q kl ∙ reversed q l Equal ql in cc
swap_at Equal Greater k q l d e f ms kl ql kq qk later = rw (ql, kl) refl
swap_at Greater Less k q l d e f ms kl ql kq qk later =
    let one : Greater ≡ Less = sym kl ∙ nat_list_cmp_total.trans k q l kq ql in cc
swap_at Greater Equal k q l d e f ms kl ql kq qk later =
    let one : Greater ≡ Less = sym kl ∙ reversed l k Greater (sym (nat_list_cmp_total.congr q l k ql) ∙ qk) in cc
swap_at Greater Greater k q l d e f ms kl ql kq qk later = rw (ql, kl) (ap (member l f) later)

less_swap : (k q : List ℕ) (d e : Data) (ms : Members) → slice_cmp nat_cmp k q ≡ Less → slice_cmp nat_cmp q k ≡ Greater → put q e (put k d ms) ≡ put k d (put q e ms)
less_swap k q d e no_members kq qk = rw (qk, kq) refl
less_swap k q d e (member l f ms) kq qk = swap_at _ _ k q l d e f ms refl refl kq qk (less_swap k q d e ms kq qk)

-- two keys may be put in either order
pub put_swap : (k q : List ℕ) (d e : Data) (ms : Members) → (k ≡ q → ⊥) → put q e (put k d ms) ≡ put k d (put q e ms)
put_swap k q d e ms other = by (slice_cmp nat_cmp k q) refl
  where
    by : (o : Ordering) → slice_cmp nat_cmp k q ≡ o → put q e (put k d ms) ≡ put k d (put q e ms)
    by Less is = less_swap k q d e ms is (reversed k q Less is)
    by Equal is = absurd (other ((bytes_eq-Decides k q).0 (sym (is_eq-slice_cmp k q) ∙ ap is_eq is)))
    by Greater is = sym (less_swap q k e d ms (reversed k q Greater is) is)
