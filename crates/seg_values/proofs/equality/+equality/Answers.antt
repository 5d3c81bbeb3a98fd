use Rattle.std.proofs.Common.{sym, ap, ◌∙◌}
use mathlib.Core.Bool.{false≢true}
use Rattle.std.specs.Cmp.Lexicographic.{bytes_decides}
use Rattle.std.specs.Net.Addr.{octets_of}
use Rattle.std.proofs.lemmas.Bool.Decides.{Decides-at, Decides-like}
use Rattle.seg_tokens.specs.TokenCodes.{key_code, pre_tokenized_code}
use Rattle.seg_tokens.specs.CodeEquality.{same_by-decides}
use Rattle.seg_values.specs.Tree.{leaf, text, pre_tokenized, facet, byte_string, ip, array, object, trees_from, members_from}
use Rattle.seg_values.specs.ValueTrees.{tree_of, member_of}
use Rattle.seg_values.proofs.EqualLists.{more_seen, seen_at, array-inj, object-inj, octets_of-inj}
use Rattle.seg_values.proofs.equality.+equality.Goals as goal

pub is_same-returns-in-Str-Str : goal.is_same-returns-in-Str-Str
is_same-returns-in-Str-Str t c =
    let same = Decides-at c.eq.result _ c.eq.ensures (same_by-decides key_code c.in-Str-Str.x c.in-Str-Str.y) in
    rw (c.in-Str-Str.is-0, c.in-Str-Str.is-1) (Decides-like c.eq.result (ap (λ s. leaf (text s))) (λ e. cc) same)

pub is_same-returns-in-PreTokStr-PreTokStr : goal.is_same-returns-in-PreTokStr-PreTokStr
is_same-returns-in-PreTokStr-PreTokStr t c =
    let same = Decides-at c.eq-in-PreTokStr-PreTokStr.result _ c.eq-in-PreTokStr-PreTokStr.ensures (same_by-decides pre_tokenized_code c.in-PreTokStr-PreTokStr.x c.in-PreTokStr-PreTokStr.y) in
    rw (c.in-PreTokStr-PreTokStr.is-0, c.in-PreTokStr-PreTokStr.is-1) (Decides-like c.eq-in-PreTokStr-PreTokStr.result (ap (λ s. leaf (pre_tokenized s))) (λ e. cc) same)

pub is_same-returns-in-Facet-Facet : goal.is_same-returns-in-Facet-Facet
is_same-returns-in-Facet-Facet t c =
    let same = Decides-at c.eq-in-Facet-Facet.result _ c.eq-in-Facet-Facet.ensures (same_by-decides key_code c.in-Facet-Facet.x c.in-Facet-Facet.y) in
    rw (c.in-Facet-Facet.is-0, c.in-Facet-Facet.is-1) (Decides-like c.eq-in-Facet-Facet.result (ap (λ s. leaf (facet s))) (λ e. cc) same)

pub is_same-returns-in-Bytes-Bytes : goal.is_same-returns-in-Bytes-Bytes
is_same-returns-in-Bytes-Bytes t c =
    let same = Decides-at c.eq-in-Bytes-Bytes.result _ c.eq-in-Bytes-Bytes.ensures (same_by-decides key_code c.in-Bytes-Bytes.x c.in-Bytes-Bytes.y) in
    rw (c.in-Bytes-Bytes.is-0, c.in-Bytes-Bytes.is-1) (Decides-like c.eq-in-Bytes-Bytes.result (ap (λ s. leaf (byte_string s))) (λ e. cc) same)

pub is_same-returns-in-Array-Array : goal.is_same-returns-in-Array-Array
is_same-returns-in-Array-Array t c =
    rw (c.in-Array-Array.is-0, c.in-Array-Array.is-1) (Decides-like c.are_same.result (ap (λ ts. array (trees_from ts))) (array-inj c.in-Array-Array.x c.in-Array-Array.y) c.are_same.ensures)

pub is_same-returns-in-Object-Object : goal.is_same-returns-in-Object-Object
is_same-returns-in-Object-Object t c =
    rw (c.in-Object-Object.is-0, c.in-Object-Object.is-1) (Decides-like c.are_same_members.result (ap (λ ms. object (members_from ms))) (object-inj c.in-Object-Object.x c.in-Object-Object.y) c.are_same_members.ensures)

pub is_same-returns-in-IpAddr-IpAddr : goal.is_same-returns-in-IpAddr-IpAddr
is_same-returns-in-IpAddr-IpAddr t c =
    let same = Decides-at c.eq-in-IpAddr-IpAddr.result _ c.eq-in-IpAddr-IpAddr.ensures (bytes_decides c.in-IpAddr-IpAddr.x.segments c.in-IpAddr-IpAddr.y.segments) in
    rw (c.in-IpAddr-IpAddr.is-0, c.in-IpAddr-IpAddr.is-1)
    (Decides-like c.eq-in-IpAddr-IpAddr.result (ap (λ s. leaf (ip (octets_of s)))) (λ e. octets_of-inj c.in-IpAddr-IpAddr.x.segments c.in-IpAddr-IpAddr.y.segments cc) same)

pub are_same-loop-at-preserved : goal.are_same-loop-at-preserved
are_same-loop-at-preserved t c =
    (c.loop-at.invariant.0, more_seen tree_of c.deref-x-items.result.now c.b.inside.values.items c.args.a.now c.args.b.now c.loop-at.invariant.0 c.b.view_is (sym c.len.ensures ∙ c.if-len.false ∙ c.len-2.ensures) c.loop-at.at c.x-item.result c.index.result.now c.loop-at-test.true c.x-item.is c.index.ensures (c.is_same.ensures.0 c.if-not-is_same.false) c.loop-at.invariant.1)

pub are_same-returns-then-not-is_same : goal.are_same-returns-then-not-is_same
are_same-returns-then-not-is_same t c =
    (λ h. absurd (false≢true h), λ e. sym c.if-not-is_same.true ∙ c.is_same.ensures.1 (seen_at tree_of c.deref-x-items.result.now c.b.inside.values.items c.args.a.now c.args.b.now c.loop-at.invariant.0 c.b.view_is (sym c.len.ensures ∙ c.if-len.false ∙ c.len-2.ensures) c.loop-at.at c.x-item.result c.index.result.now c.loop-at-test.true c.x-item.is c.index.ensures e))

pub are_same_members-loop-at-preserved : goal.are_same_members-loop-at-preserved
are_same_members-loop-at-preserved t c =
    (c.loop-at.invariant.0, more_seen member_of c.deref-x-items.result.now c.b.inside.members.items c.args.a.now c.args.b.now c.loop-at.invariant.0 c.b.view_is (sym c.len.ensures ∙ c.if-len.false ∙ c.len-2.ensures) c.loop-at.at c.x-item.result c.index.result.now c.loop-at-test.true c.x-item.is c.index.ensures (c.is_same_member.ensures.0 c.if-not-is_same_member.false) c.loop-at.invariant.1)

pub are_same_members-returns-then-not-is_same_member : goal.are_same_members-returns-then-not-is_same_member
are_same_members-returns-then-not-is_same_member t c =
    (λ h. absurd (false≢true h), λ e. sym c.if-not-is_same_member.true ∙ c.is_same_member.ensures.1 (seen_at member_of c.deref-x-items.result.now c.b.inside.members.items c.args.a.now c.args.b.now c.loop-at.invariant.0 c.b.view_is (sym c.len.ensures ∙ c.if-len.false ∙ c.len-2.ensures) c.loop-at.at c.x-item.result c.index.result.now c.loop-at-test.true c.x-item.is c.index.ensures e))
