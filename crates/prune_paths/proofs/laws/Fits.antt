-- What a path leaves fits where 12 is not given: no more nodes than there were, and one for each turn but the last.
use Rattle.std.specs.Prelude.{◌≡◌, refl, Bool, true, not, ℤ, nat_abs, length, get_or}
use Rattle.std.proofs.Common.{sym, ap, eqb→eq, length-append}
use Rattle.std.proofs.Math.Path.{subst}
use Rattle.std.proofs.Math.Bool.{false}
use mathlib.Core.List.{List, [], ◌∷◌, ◌++◌, map}
use Prim.Native.Nat.{ℕ, zero, suc, ◌+◌, ◌-◌, ◌≤◌, ◌<◌}
use native.Mathlib.Omega.{arith}
use Rattle.std.proofs.Math.Dec.{T, eqb}
use Rattle.std.proofs.lemmas.List.{length-map}
use Rattle.whole.specs.Cases.{if, by_test, by_eq, and_in, is_true, from_true, clash}
use Rattle.theory.specs.Widths.{steps_most}
use Rattle.theory.specs.Diagram.{Test, Leaf, Tree, leaf, branch, same}
use Rattle.theory.specs.Computation.{ret, make, result, member}
use Rattle.theory.specs.Rules.{narrowed, node, over}
use Rattle.theory.specs.Verdict.{from_to}
use Rattle.theory.specs.Load.{site_at}
use Rattle.theory.specs.Events.{inside, all_inside}
use Rattle.theory.specs.Solve.{room, table_of, solved_nodes}
use Rattle.theory.specs.Value.{node_word, ends}
use Rattle.theory.specs.Listing.{greatest_root}
use Rattle.prune_paths.specs.Prune.{leaf_at, test_at, high_at, low_at, tree_from, diagram_at, cut, remade, stage_anew, stages_anew, path_needs}
use Rattle.theory.proofs.laws.Comps.{same_refl, result_both, member_append}
use Rattle.theory.proofs.laws.Inside.{inside_branch, narrowed_inside}
use Rattle.theory.proofs.laws.Counts.{roots_fit}
use Rattle.theory.proofs.laws.Valid.{among_out, other_above}
use Rattle.theory.proofs.laws.ValueWalk.{greatest_least}
use Rattle.theory.proofs.laws.Rows.{nodes_length}
use Rattle.prune_paths.proofs.laws.Foreign.{Seen, leaf_seen, branch_seen, seen, RowsGood, tree_by, tree_enough}
use Rattle.prune_paths.proofs.laws.Reads.{ClearedPath}

-- ---- a node that is made is there, with its branches

abbrev pub anew : Tree → Tree
anew F = result (remade F)

node_inside : (t : Test) (h l : Tree) (X : List Tree) → T (inside h X) → T (inside l X) → T (member (result (node t h l)) X) → T (inside (result (node t h l)) X)
unfolding node make result
node_inside t h l X a b =
    let k = narrowed t l in
    by_test (same h k) (λ c. T (member (result (if c (ret h) (make (branch t h k)))) X) → T (inside (result (if c (ret h) (make (branch t h k)))) X))
    (λ _ _. a) (λ _ m. inside_branch t h k X m a (narrowed_inside t l X b))

pub anew_branch : (t : Test) (h l : Tree) → anew (branch t h l) ≡ result (node t (anew h) (anew l))
unfolding remade over
anew_branch t h l = result_both (node t) (remade h) (remade l)

branch_inside : (t : Test) (h l : Tree) (X : List Tree) → T (inside (anew h) X) → T (inside (anew l) X) → T (member (anew (branch t h l)) X) → T (inside (anew (branch t h l)) X)
branch_inside t h l X a b m = rw (anew_branch t h l) (node_inside t (anew h) (anew l) X a b (rw (anew_branch t h l) at m))

pub anew_leaf : (f : Leaf) → anew (leaf f) ≡ leaf f
unfolding remade over make result
anew_leaf f = refl

leaf_inside : (f : Leaf) (X : List Tree) → T (member (anew (leaf f)) X) → T (inside (anew (leaf f)) X)
unfolding inside
leaf_inside f X m = rw (anew_leaf f) (rw (anew_leaf f) at m)

-- a diagram and all below it, made anew, are there
Deep : Tree → List Tree → Type 0
Deep (leaf f) X = T (inside (anew (leaf f)) X)
Deep (branch t h l) X = T (inside (anew (branch t h l)) X) × (Deep h X × Deep l X)

deep_root : (F : Tree) (X : List Tree) → Deep F X → T (inside (anew F) X)
unfolding Deep
deep_root (leaf f) X d = d
deep_root (branch t h l) X d = d.0

-- ---- the copied path

-- what a cut makes beside the diagrams that were there
copies : List ℕ → Tree → List Tree
copies [] F = []
copies (b ∷ []) F = []
copies (b ∷ c ∷ bs) (leaf f) = []
copies (b ∷ c ∷ bs) (branch t h l) = anew (cut (b ∷ c ∷ bs) (branch t h l)) ∷ (if (eqb b 1) (copies (c ∷ bs) h) (copies (c ∷ bs) l))

copies_most : (bs : List ℕ) (F : Tree) → length (copies bs F) ≤ length bs - 1
unfolding copies
copies_most [] F = omega arith
copies_most (b ∷ []) F = omega arith
copies_most (b ∷ c ∷ bs) (leaf f) = omega arith
copies_most (b ∷ c ∷ bs) (branch t h l) =
    let H = copies_most (c ∷ bs) h in
    let L = copies_most (c ∷ bs) l in
    by_test (eqb b 1) (λ x. suc (length (if x (copies (c ∷ bs) h) (copies (c ∷ bs) l))) ≤ suc (suc (length bs)) - 1) (λ _. omega arith) (λ _. omega arith)

-- all of a list are there
abbrev AllAmong : List Tree → List Tree → Type 0
AllAmong L X = (u : Tree) → T (member u L) → T (member u X)

head_among : (u : Tree) (L X : List Tree) → AllAmong (u ∷ L) X → T (member u X)
unfolding member
head_among u L X f = f u (from_true (ap (λ b. if b true (member u L)) (same_refl u)))

tail_member : (b c : Bool) → T c → T (if b true c)
tail_member true c t = tt
tail_member false c t = t

tail_among : (v : Tree) (L X : List Tree) → AllAmong (v ∷ L) X → AllAmong L X
unfolding member
tail_among v L X f u m = f u (tail_member (same v u) (member u L) m)

cut_inside : (bs : List ℕ) (F : Tree) (X : List Tree) → Deep F X → AllAmong (copies bs F) X → T (inside (anew (cut bs F)) X)
unfolding cut copies Deep
cut_inside [] F X d f = deep_root F X d
cut_inside (b ∷ bs) (leaf x) X d f = d
cut_inside (b ∷ []) (branch t h l) X d f = by_test (eqb b 1) (λ x. T (inside (anew (if x l h)) X)) (λ _. deep_root l X d.1.1) (λ _. deep_root h X d.1.0)
cut_inside (b ∷ c ∷ bs) (branch t h l) X d f = go (eqb b 1) f (cut_inside (c ∷ bs) h X d.1.0) (cut_inside (c ∷ bs) l X d.1.1)
  where
    go : (x : Bool) → AllAmong (anew (if x (branch t (cut (c ∷ bs) h) l) (branch t h (cut (c ∷ bs) l))) ∷ (if x (copies (c ∷ bs) h) (copies (c ∷ bs) l))) X
        → (AllAmong (copies (c ∷ bs) h) X → T (inside (anew (cut (c ∷ bs) h)) X)) → (AllAmong (copies (c ∷ bs) l) X → T (inside (anew (cut (c ∷ bs) l)) X))
        → T (inside (anew (if x (branch t (cut (c ∷ bs) h) l) (branch t h (cut (c ∷ bs) l)))) X)
    go true f i j = branch_inside t (cut (c ∷ bs) h) l X (i (tail_among _ (copies (c ∷ bs) h) X f)) (deep_root l X d.1.1) (head_among _ (copies (c ∷ bs) h) X f)
    go false f i j = branch_inside t h (cut (c ∷ bs) l) X (deep_root h X d.1.0) (j (tail_among _ (copies (c ∷ bs) l) X f)) (head_among _ (copies (c ∷ bs) l) X f)

-- ---- the diagrams of the rows

right_member : (u : Tree) (X Y : List Tree) → T (member u Y) → T (member u (X ++ Y))
unfolding member
right_member u [] Y m = m
right_member u (x ∷ X) Y m = tail_member (same x u) (member u (X ++ Y)) (right_member u X Y m)

map_member : (f : ℕ → Tree) (b k i : ℕ) → b ≤ i → i < b + k → T (member (f i) (map f (from_to b k)))
unfolding member from_to
map_member f b zero i h l = absurd (omega arith)
map_member f b (suc k) i h l =
    by_test (eqb i b) (λ _. T (if (same (f b) (f i)) true (member (f i) (map f (from_to (suc b) k)))))
    (λ q. subst (λ (j : ℕ). T (if (same (f b) (f j)) true (member (f j) (map f (from_to (suc b) k))))) (sym (eqb→eq i b q)) (from_true (ap (λ x. if x true (member (f b) (map f (from_to (suc b) k)))) (same_refl (f b)))))
    (λ q. tail_member (same (f b) (f i)) (member (f i) (map f (from_to (suc b) k))) (map_member f (suc b) k i (other_above b i h q) (omega arith)))

from_length : (b k : ℕ) → length (from_to b k) ≡ k
unfolding from_to
from_length b zero = refl
from_length b (suc k) = ap suc (from_length (suc b) k)

module _ (n A : ℕ) (W : List ℤ) (G : ℕ) (g : RowsGood n A W G) (X : List Tree) (x : (i : ℕ) → 1 ≤ i → i ≤ G → T (member (anew (diagram_at W i)) X)) where
  deep_row : (k r : ℕ) → 1 ≤ r → r ≤ k → r ≤ G → Deep (tree_from k W r) X
  unfolding tree_from Deep
  deep_row zero r a h l = absurd (omega arith)
  deep_row (suc k) r a h l =
      let m = subst (λ (F : Tree). T (member (anew F) X)) (tree_enough n A W r (suc k) r a (omega arith) h (λ i b u. g i b (omega arith))) (x r a l) in
      go (seen n A W r a (g r a l)) m (deep_row k)
    where
      go : Seen n A W r → T (member (anew (tree_by n A W k r (ends (nat_abs (node_word W r 0))))) X) → ((r : ℕ) → 1 ≤ r → r ≤ k → r ≤ G → Deep (tree_from k W r) X)
          → Deep (tree_by n A W k r (ends (nat_abs (node_word W r 0)))) X
      go (leaf_seen e t z) m ih =
          subst (λ b. Deep (tree_by n A W k r b) X) (sym e) (leaf_inside (leaf_at W r) X (subst (λ b. T (member (anew (tree_by n A W k r b)) X)) e m))
      go (branch_seen e t y z) m ih =
          let p = among_out (r - 1) (high_at W r) y in
          let q = among_out (r - 1) (low_at W r) z in
          let H = ih (high_at W r) p.0 (omega arith) (omega arith) in
          let L = ih (low_at W r) q.0 (omega arith) (omega arith) in
          let hi = tree_from k W (high_at W r) in
          let lo = tree_from k W (low_at W r) in
          subst (λ b. Deep (tree_by n A W k r b) X) (sym e)
          (branch_inside (test_at W r) hi lo X (deep_root hi X H) (deep_root lo X L) (subst (λ b. T (member (anew (tree_by n A W k r b)) X)) e m), (H, L))

  -- ---- the stages

  module _ (s : ℕ) (turns : List ℕ) (root : ℕ) (c : AllAmong (copies turns (diagram_at W root)) X) where
    stage_inside : (h r : ℕ) → 1 ≤ r → r ≤ G → (T (eqb h s) → r ≡ root) → T (inside (stage_anew W s turns h r) X)
    unfolding stage_anew
    stage_inside h r a l q =
        let F = diagram_at W r in
        let d = deep_row r r a (omega arith) l in
        by_test (eqb h s) (λ b. T (inside (anew (if b (cut turns F) F)) X))
        (λ t. cut_inside turns F X d (subst (λ (j : ℕ). AllAmong (copies turns (diagram_at W j)) X) (sym (q t)) c)) (λ _. deep_root F X d)

    stages_inside : (h : ℕ) (rs : List ℕ) → ((i : ℕ) → i < length rs → get_or rs i 0 ≤ G) → ((i : ℕ) → i < length rs → T (eqb (h + i) s) → get_or rs i 0 ≡ root)
        → T (all_inside (stages_anew W s turns h rs) X)
    unfolding stages_anew all_inside
    stages_inside h [] f q = tt
    stages_inside h (r ∷ rs) f q =
        let z : h ≡ h + 0 = omega arith in
        let rest = stages_inside (suc h) rs (λ i l. f (suc i) (omega arith)) (λ i l t. q (suc i) (omega arith) (let y : suc h + i ≡ h + suc i = omega arith in subst (λ (j : ℕ). T (eqb j s)) y t)) in
        let S = stages_anew W s turns (suc h) rs in
        let u = stage_anew W s turns h r in
        by_eq (eqb r 0) (λ b. T (all_inside (if b S (u ∷ S)) X)) (λ _. rest)
        (λ e. and_in (inside u X) (all_inside S X) (stage_inside h r (some r e) (f 0 (omega arith)) (λ t. q 0 (omega arith) (subst (λ (j : ℕ). T (eqb j s)) z t))) rest)
      where
        some : (r : ℕ) → eqb r 0 ≡ false → 1 ≤ r
        some zero e = clash e
        some (suc r) e = omega arith

-- "12, which counts the nodes up to that root and one for each turn but the last": what is made is no more
pub pruned_most : (n A : ℕ) (W : List ℤ) (s : ℕ) (turns stages : List ℕ) → length stages ≡ steps_most → RowsGood n A W (greatest_root steps_most stages)
    → length (table_of (stages_anew W s turns 1 stages)) ≤ path_needs (greatest_root steps_most stages) turns
unfolding table_of path_needs
pruned_most n A W s turns stages e g =
    let G = greatest_root steps_most stages in
    let root = get_or stages (s - 1) 0 in
    let C = copies turns (diagram_at W root) in
    let base = map (λ (i : ℕ). anew (diagram_at W i)) (from_to 1 G) in
    let X = base ++ C in
    let S = stages_anew W s turns 1 stages in
    let all_in : T (all_inside S X) = stages_inside n A W G g X
    (λ i a b. from_true (member_append (anew (diagram_at W i)) base C (is_true _ (map_member (λ (i : ℕ). anew (diagram_at W i)) 1 G i a (omega arith)))))
    s turns root (λ u m. right_member u base C m) 1 stages
    (λ i l. greatest_least steps_most stages i (omega arith))
    (λ i l t. let z : i ≡ s - 1 = omega (arith, eqb→eq (1 + i) s t) in ap (λ (j : ℕ). get_or stages j 0) z) in
    omega (arith, roots_fit S X all_in, length-append base C, length-map (from_to 1 G) (λ (i : ℕ). anew (diagram_at W i)), from_length 1 G, copies_most turns (diagram_at W root))

-- so the tables hold it, and as many words are left as were lent
pub pruned_fits : (B : List ℕ) (nodes : List ℤ) (stages work : List ℕ) (s : ℕ) (turns : List ℕ) (ks : List ℤ) → ClearedPath B nodes stages (room (length nodes) (length work)) s turns ks
    → length (solved_nodes (length nodes) (stages_anew nodes s turns 1 stages)) ≡ length nodes
unfolding room
pruned_fits B nodes stages work s turns ks c =
    let m = pruned_most (site_at B).conditions (site_at B).actions nodes s turns stages c.before.eight c.rows in
    nodes_length (length nodes) (stages_anew nodes s turns 1 stages) (omega (arith, c.within))
