-- Members that are printed as they come, since each key is above the one before.
use Rattle.std.proofs.Common.{◌≡◌, ◌≤◌, ◌<◌, ℕ, ◌+◌, ◌-◌, Bool, true, false, List, [], ◌∷◌, ◌++◌, Some, Less, Greater, nat_cmp, refl, sym, ap, ◌∙◌, append_assoc, append-nil}
use Rattle.std.proofs.lemmas.Cmp.{nat_list_cmp_total}
use Rattle.std.specs.Cmp.Lexicographic.{slice_cmp}
use Rattle.std.specs.Ordering.{ordering_reverse}
use Rattle.json.specs.Print.{quoted}
use Rattle.serde_json.specs.Data as json
use Rattle.serde_json.specs.Data.{put}
use Rattle.serde_json.specs.Written.{comma_if, compact_text, members_text}
use Rattle.seg_common.specs.Varint.{varint_at}
use Rattle.seg_common.proofs.Numbers.{is_less}
use Rattle.seg_doc_bytes.specs.FrontReaders.{Reader, counted_at, text_at}
use Rattle.seg_doc_bytes.specs.StoredTree.{member_at}
use Rattle.seg_doc_bytes.proofs.Exports.{Gathered, none_yet, one_more, all_made, counted, member_made}
use Rattle.seg_values.specs.Tree.{Tree, object, members_from}
use Rattle.seg_values.specs.ValueJson.{value_json, members_json}
use Rattle.seg_text.specs.PrintedFronts.{HasMore, Printed, is_after}
use Rattle.seg_text.proofs.PrintedFronts.{not_more, more_by, more_then}

-- members with their values as JSON, in their order
abbrev pub members_listed : List (List ℕ × Tree) → json.Members
members_listed [] = json.no_members
members_listed (m ∷ ms) = json.member m.0 (value_json m.1) (members_listed ms)

-- each key is below this one
abbrev pub AreBelow : List ℕ → List (List ℕ × Tree) → Type 0
AreBelow k [] = Unit {0}
AreBelow k (m ∷ ms) = (slice_cmp nat_cmp m.0 k ≡ Less) × AreBelow k ms

-- one that is above them goes last
put_last : (ms : List (List ℕ × Tree)) (k : List ℕ) (t : Tree) → AreBelow k ms → put k (value_json t) (members_listed ms) ≡ members_listed (ms ++ (k, t) ∷ [])
put_last [] k t below = refl
put_last (m ∷ ms) k t below =
    let above : slice_cmp nat_cmp k m.0 ≡ Greater = nat_list_cmp_total.antisymm k m.0 ∙ ap ordering_reverse below.0 in
    rw above (ap (json.member m.0 (value_json m.1)) (put_last ms k t below.1))

put_after : (before : json.Members) (ms : List (List ℕ × Tree)) (k : List ℕ) (t : Tree) → members_json before (members_from (ms ++ (k, t) ∷ [])) ≡ put k (value_json t) (members_json before (members_from ms))
put_after before [] k t = refl
put_after before (m ∷ ms) k t = put_after (put m.0 (value_json m.1) before) ms k t

below_next : (ms : List (List ℕ × Tree)) (key k : List ℕ) (t : Tree) → AreBelow key ms → slice_cmp nat_cmp key k ≡ Less → AreBelow k (ms ++ (key, t) ∷ [])
below_next [] key k t below less = (less, tt)
below_next (m ∷ ms) key k t below less = (nat_list_cmp_total.trans m.0 key k below.0 less, below_next ms key k t below.1 less)

-- some were printed after `before`, and this many are left
pub record MembersPrinted (inner : Reader Tree) (count : ℕ) (old : List ℕ) (left : ℕ) (now before out : List ℕ) (later : Bool) (last : List ℕ) : Type 0 where
  pub members : List (List ℕ × Tree)
  pub gathered : Gathered (member_at inner) count old members left now
  pub so_far : (ms : List (List ℕ × Tree)) → before ++ members_text false (members_listed (members ++ ms)) ≡ out ++ members_text later (members_listed ms)
  pub grown : HasMore before out
  pub ordered : members_json json.no_members (members_from members) ≡ members_listed members
  pub below : (k : List ℕ) → is_after later last k ≡ true → AreBelow k members

-- none yet
pub no_member : (inner : Reader Tree) (count : ℕ) (old before last : List ℕ) → MembersPrinted inner count old (count - 0) old before before false last
no_member inner count old before last = record {
  members = [];
  gathered = none_yet (member_at inner) count old [] refl;
  so_far = λ ms. refl;
  grown = not_more before;
  ordered = refl;
  below = λ k h. tt;
}

-- one more
pub one_member : (inner : Reader Tree) (count : ℕ) (old : List ℕ) (i : ℕ) (now left next before out a b c after key last : List ℕ) (later : Bool)
    → i < count → MembersPrinted inner count old (count - i) now before out later last
    → text_at now ≡ Some (key, left) → is_after later last key ≡ true
    → a ≡ out ++ comma_if later → b ≡ a ++ quoted key → c ≡ b ++ 58 ∷ []
    → Printed inner (λ t. compact_text (value_json t)) left next c after
    → MembersPrinted inner count old (count - (i + 1)) next before after true key
one_member inner count old i now left next before out a b c after key last later lt s text follows comma name colon p =
    let t = p.value in
    let ms = s.members in
    let more = ms ++ (key, t) ∷ [] in
    let split : after ≡ out ++ (comma_if later ++ (quoted key ++ 58 ∷ compact_text (value_json t))) = rw (p.printed, colon, name, comma) (simp append_assoc) in
    record {
      members = more;
      gathered = one_more (member_at inner) count old ms more (key, t) i now next lt s.gathered (member_made inner now left next key t text p.is) refl;
      so_far = λ xs.
          let spelled : after ++ members_text true (members_listed xs) ≡ out ++ (comma_if later ++ (quoted key ++ 58 ∷ (compact_text (value_json t) ++ members_text true (members_listed xs)))) = rw (p.printed, colon, name, comma) (simp append_assoc) in
          ap (λ ys. before ++ members_text false (members_listed ys)) (append_assoc ms ((key, t) ∷ []) xs) ∙ s.so_far ((key, t) ∷ xs) ∙ sym spelled;
      grown = more_then before out after s.grown (more_by out after (comma_if later ++ (quoted key ++ 58 ∷ compact_text (value_json t))) split);
      ordered = put_after json.no_members ms key t ∙ ap (put key (value_json t)) s.ordered ∙ put_last ms key t (s.below key follows);
      below = λ k h. below_next ms key k t (s.below key follows) (is_less (slice_cmp nat_cmp key k) h);
    }

-- one whose value was given up
pub member_given_up : (start before out a b c after first comma name : List ℕ) → before ≡ start ++ first → HasMore before out → a ≡ out ++ comma → b ≡ a ++ name → c ≡ b ++ 58 ∷ [] → HasMore c after → HasMore start after
member_given_up start before out a b c after first comma name head grown one two three more =
    more_then start before after (more_by start before first head)
    (more_then before out after grown
    (more_then out a after (more_by out a comma one)
    (more_then a b after (more_by a b name two)
    (more_then b c after (more_by b c (58 ∷ []) three) more))))

-- all of them
pub all_members : (inner : Reader Tree) (bytes : List ℕ) (count : ℕ) (old : List ℕ) (i : ℕ) (now start before out end last : List ℕ) (later : Bool)
    → varint_at bytes ≡ Some (count, old) → before ≡ start ++ 123 ∷ [] → count ≤ i → MembersPrinted inner count old (count - i) now before out later last → end ≡ out ++ 125 ∷ []
    → Printed (counted_at (member_at inner)) (λ ms. compact_text (value_json (object (members_from ms)))) bytes now start end
all_members inner bytes count old i now start before out end last later number head past s close =
    let ms = s.members in
    record {
      value = ms;
      is = counted (member_at inner) bytes old count (Some (ms, now)) number (all_made (member_at inner) count old ms i now past s.gathered);
      printed =
          close
          ∙ sym (s.so_far [])
          ∙ ap (λ xs. before ++ members_text false (members_listed xs)) (append-nil ms)
          ∙ ap (λ o. o ++ members_text false (members_listed ms)) head
          ∙ append_assoc start (123 ∷ []) (members_text false (members_listed ms))
          ∙ ap (λ d. start ++ compact_text (json.object d)) (sym s.ordered);
    }
