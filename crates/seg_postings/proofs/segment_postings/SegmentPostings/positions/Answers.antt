use Rattle.std.proofs.Common.{◌≡◌, ◌∙◌, ◌++◌, List, ℕ, Some, sym, ap, subst}
use Rattle.std.specs.Prelude.{option_map}
use Rattle.seg_postings.specs.Postings.{positions_at}
use Rattle.seg_postings.specs.OpenPostings.{OpenPostings, positions_of}
use Rattle.seg_postings.proofs.RisingPositions.{none_rise, put_rise}
use Rattle.seg_postings.proofs.PostingsStreams.{stands, ended, placed, not_placed}
use Rattle.seg_postings.proofs.segment_postings.SegmentPostings.positions.Goals as goal

pub returns-in_default-clause-ok : goal.returns-in_default-clause-ok
returns-in_default-clause-ok c =
    let s = c.self.inside in
    c.clear.ensures.items ∙ sym (ap positions_of (ended s.kind s.current s.left s.postings.now s.positions.now c.in_default.is)) ∙ ap (λ (v : OpenPostings). positions_of v.left) c.self.view_is

pub returns-in_default-clause-rise : goal.returns-in_default-clause-rise
returns-in_default-clause-rise c = none_rise _ c.clear.ensures.items

pub push_positions-requires : goal.push_positions-requires
push_positions-requires c =
    let s = c.self.inside in
    let d = c.in-Some.current in
    let at = stands s.kind s.current d s.left s.postings.now s.positions.now c.in-Some.is c.self.invariant in
    let p = placed s.kind d.count s.positions.now at.head.recorded at.head.after c.in-Positions.is at.head.is_recorded in
    p.there

pub returns-in_ok-push_positions-in-Positions-clause-ok : goal.returns-in_ok-push_positions-in-Positions-clause-ok
returns-in_ok-push_positions-in-Positions-clause-ok c =
    let s = c.self.inside in
    let d = c.in-Some.current in
    let at = stands s.kind s.current d s.left s.postings.now s.positions.now c.in-Some.is c.self.invariant in
    let p = placed s.kind d.count s.positions.now at.head.recorded at.head.after c.in-Positions.is at.head.is_recorded in
    let put = subst (λ (l : List ℕ). option_map (λ (r : List ℕ × List ℕ). l ++ r.0) (positions_at d.count 0 s.positions.now) ≡ Some c.push_positions.new.out.items) c.clear.ensures.items c.in_ok-push_positions-in-Positions.ensures in
    p.are c.push_positions.new.out.items put ∙ sym (ap positions_of at.left) ∙ ap (λ (v : OpenPostings). positions_of v.left) c.self.view_is

pub returns-in_ok-push_positions-in-Positions-clause-rise : goal.returns-in_ok-push_positions-in-Positions-clause-rise
returns-in_ok-push_positions-in-Positions-clause-rise c =
    let count = c.in-Some.current.count in
    let bytes = c.self.inside.positions.now in
    put_rise count bytes c.push_positions.new.out.items (subst (λ (l : List ℕ). option_map (λ (r : List ℕ × List ℕ). l ++ r.0) (positions_at count 0 bytes) ≡ Some c.push_positions.new.out.items) c.clear.ensures.items c.in_ok-push_positions-in-Positions.ensures)

pub returns-in_default-kind : goal.returns-in_default-kind
returns-in_default-kind c =
    let s = c.self.inside in
    let d = c.in-Some.current in
    let at = stands s.kind s.current d s.left s.postings.now s.positions.now c.in-Some.is c.self.invariant in
    record {
      ok = c.clear.ensures.items ∙ sym (not_placed s.kind d.count s.positions.now at.head.recorded at.head.after c.in_default-kind.not-Positions at.head.is_recorded) ∙ sym (ap positions_of at.left) ∙ ap (λ (v : OpenPostings). positions_of v.left) c.self.view_is;
      rise = none_rise _ c.clear.ensures.items;
      err = tt;
    }
