-- Pieces of documents: at most one document, and none where a part isn't spelled.
use Rattle.std.proofs.Common.{◌≡◌, ℕ, List, [], ◌∷◌, ◌++◌, sym, ap, ◌∙◌, append_assoc}
use Rattle.seg_values.specs.Tree.{Tree, Document}
use Rattle.seg_access.specs.Pieces.{Mark, field, spelling, document_spelling, SpellsNone, SpellsNoDocument}
use Rattle.seg_access.proofs.SpelledTrees.{spelling_once}

-- after pairs that were read there are those that are left of the document
left_pairs : (done d : Document) (left : List Mark) → document_spelling done ++ left ≡ document_spelling d → (rest : Document) × (left ≡ document_spelling rest)
left_pairs [] d left e = (d, e)
left_pairs (p ∷ ps) [] left e = absurd cc
left_pairs (p ∷ ps) (q ∷ qs) left e =
    let following : (spelling p.1 ++ document_spelling ps) ++ left ≡ spelling q.1 ++ document_spelling qs = cc in
    let first = spelling_once p.1 q.1 (document_spelling ps ++ left) (document_spelling qs) (sym (append_assoc (spelling p.1) (document_spelling ps) left) ∙ following) in
    left_pairs ps qs left first.1

-- where what is left spells no pairs, all spell none
pub none_after : (done : Document) (all left : List Mark) → all ≡ document_spelling done ++ left → SpellsNoDocument left → SpellsNoDocument all
none_after done all left p none d e = let rest = left_pairs done d left (sym p ∙ e) in none rest.0 rest.1

pub none_at_no_field : (m : Mark) (marks following : List Mark) → marks ≡ m ∷ following → ((f : ℕ) → m ≡ field f → ⊥) → SpellsNoDocument marks
none_at_no_field m marks following p other [] e = absurd cc
none_at_no_field m marks following p other (q ∷ qs) e = other q.0 (let s : m ≡ field q.0 = cc in s)

pub none_at_no_value : (f : ℕ) (marks following : List Mark) → marks ≡ field f ∷ following → SpellsNone following → SpellsNoDocument marks
none_at_no_value f marks following p none [] e = absurd cc
none_at_no_value f marks following p none (q ∷ qs) e = none q.1 (document_spelling qs) (let s : following ≡ spelling q.1 ++ document_spelling qs = cc in s)

-- one more pair
document_spelling_last : (ps : Document) (f : ℕ) (t : Tree) (r : List Mark) → document_spelling (ps ++ (f, t) ∷ []) ++ r ≡ document_spelling ps ++ (field f ∷ (spelling t ++ r))
document_spelling_last [] f t r = ap (λ l. field f ∷ l) (append_assoc (spelling t) [] r)
document_spelling_last (p ∷ ps) f t r =
    ap (λ l. field p.0 ∷ l) (append_assoc (spelling p.1) (document_spelling (ps ++ (f, t) ∷ [])) r ∙ ap (λ l. spelling p.1 ++ l) (document_spelling_last ps f t r)
    ∙ sym (append_assoc (spelling p.1) (document_spelling ps) (field f ∷ (spelling t ++ r))))

pub pair_more : (all left following after : List Mark) (ps qs : Document) (f : ℕ) (t : Tree) → all ≡ document_spelling ps ++ left → left ≡ field f ∷ following → following ≡ spelling t ++ after → qs ≡ ps ++ (f, t) ∷ [] → all ≡ document_spelling qs ++ after
pair_more all left following after ps qs f t a l b q =
    a ∙ ap (λ x. document_spelling ps ++ x) (l ∙ ap (λ x. field f ∷ x) b) ∙ sym (document_spelling_last ps f t after) ∙ ap (λ x. document_spelling x ++ after) (sym q)
