-- Roots kept as a stack of indexes: the exact trees that they stand for, through collections and runs.
use Rattle.std.specs.Prelude.{◌≡◌, refl, ℕ, zero, suc, ◌<◌, ℤ, length, get_or}
use Rattle.table.specs.Table.{Answer, count_of}
use Rattle.std.proofs.Common.{sym, ap₂, ◌∙◌, ⊎_elim, arith}
use Rattle.std.proofs.Math.Path.{ap}
use mathlib.Core.List.{List, [], ◌∷◌, ◌++◌}
use Rattle.theory.specs.Diagram.{Tree}
use Rattle.theory.specs.Computation.{Comp, member}
use Rattle.theory.specs.Meaning.{Action}
use Rattle.theory.specs.Stage.{action_diagrams, all_diagrams}
use Rattle.theory.proofs.laws.Inside.{Sub, sub_trans}
use Rattle.rule_node.specs.Nodes.{blank, trees, tree_at, Good}
use Rattle.table_unique.specs.Unique.{Space}
use Rattle.collect_mark.specs.Mark.{roots_of, Below}
use Rattle.collect.specs.Collect.{Collected}
use Rattle.solve_laws.specs.Alike.{Alike, alike_trans, alike_eq, member_left, member_right, member_parts}
use Rattle.solve_laws.specs.Operated.{roots_at, roots_grown, below_more, RootsHeld, Came, came_grown, collected_space}

-- ---- lists of indexes

pub roots_length : (X : List Tree) (ρ : List ℕ) → length (roots_of X ρ) ≡ length ρ
unfolding roots_of
roots_length X [] = refl
roots_length X (r ∷ ρ) = ap suc (roots_length X ρ)

pub roots_append : (X : List Tree) (ρ σ : List ℕ) → roots_of X (ρ ++ σ) ≡ roots_of X ρ ++ roots_of X σ
unfolding roots_of
roots_append X [] σ = refl
roots_append X (r ∷ ρ) σ = ap (λ (Q : List Tree). get_or X r blank ∷ Q) (roots_append X ρ σ)

pub below_append : {ρ : List ℕ} {σ : List ℕ} {n : ℕ} → Below ρ n → Below σ n → Below (ρ ++ σ) n
below_append {ρ} {σ} {n} B C = record { at = go ρ B.at }
  where
    go : (ρ : List ℕ) → ((j : ℕ) → j < length ρ → get_or ρ j 0 < n) → (j : ℕ) → j < length (ρ ++ σ) → get_or (ρ ++ σ) j 0 < n
    go [] f j h = C.at j h
    go (r ∷ ρ) f zero h = f 0 (omega arith)
    go (r ∷ ρ) f (suc j) h = go ρ (λ k q. f (suc k) (omega arith)) j (omega arith)

pub below_one : {n i : ℕ} → i < n → Below (i ∷ []) n
below_one {n} {i} h = record { at = at }
  where
    at : (j : ℕ) → j < length (i ∷ []) → get_or (i ∷ []) j 0 < n
    at zero q = h
    at (suc j) q = absurd (omega arith)

below_front : (ρ σ : List ℕ) {n : ℕ} → Below (ρ ++ σ) n → Below ρ n
below_front ρ σ {n} B = record { at = go ρ B.at }
  where
    go : (ρ : List ℕ) → ((j : ℕ) → j < length (ρ ++ σ) → get_or (ρ ++ σ) j 0 < n) → (j : ℕ) → j < length ρ → get_or ρ j 0 < n
    go [] f j h = absurd (omega arith)
    go (r ∷ ρ) f zero h = f 0 (omega arith)
    go (r ∷ ρ) f (suc j) h = go ρ (λ k q. f (suc k) (omega arith)) j (omega arith)

-- ---- the table with its roots

-- the indexes ρ stand for the trees Q, in this order
pub record Rooted (cap : ℕ) (l : List ℤ) (w : List ℕ) (n : ℕ) (ρ : List ℕ) (Q : List Tree) : Type 0 where
  pub good : Good l n
  pub space : Space cap l w n
  pub below : Below ρ n
  pub roots : roots_of (trees l n) ρ ≡ Q

-- in any order, they are the diagrams that an operation names
pub rooted_held : {cap : ℕ} {l : List ℤ} {w : List ℕ} {n : ℕ} {ρ : List ℕ} {Q R : List Tree} → Rooted cap l w n ρ Q → Alike Q R → RootsHeld cap l w n ρ R
rooted_held H a = record { good = H.good; space = H.space; below = H.below; roots = alike_trans (alike_eq H.roots) a }

module _ {cap : ℕ} {l : List ℤ} {w : List ℕ} {n : ℕ} {ρ : List ℕ} {Q : List Tree} (H : Rooted cap l w n ρ Q) where
  -- the tree at a root
  pub rooted_at : (j : ℕ) → j < length ρ → tree_at l n (get_or ρ j 0) ≡ get_or Q j blank
  rooted_at j h = sym (roots_at (trees l n) ρ j h) ∙ ap (λ (X : List Tree). get_or X j blank) H.roots

  pub rooted_length : length ρ ≡ length Q
  rooted_length = sym (roots_length (trees l n) ρ) ∙ ap length H.roots

  -- one more root
  pub rooted_push : (i : ℕ) → i < n → Rooted cap l w n (ρ ++ (i ∷ [])) (Q ++ (tree_at l n i ∷ []))
  unfolding roots_of
  rooted_push i h = record {
    good = H.good;
    space = H.space;
    below = below_append H.below (below_one h);
    roots = roots_append (trees l n) ρ (i ∷ []) ∙ ap (λ (X : List Tree). X ++ (tree_at l n i ∷ [])) H.roots;
  }

  pub rooted_collected : {n₁ : ℕ} {l₁ : List ℤ} {w₁ ρ₁ : List ℕ} → Collected l l₁ w w₁ ρ ρ₁ n n₁ → Rooted cap l₁ w₁ n₁ ρ₁ Q
  rooted_collected C = record { good = C.good; space = collected_space H.space C; below = C.below; roots = C.roots ∙ H.roots }

  pub rooted_ran : {c : Comp Tree} {l₁ : List ℤ} {w₁ : List ℕ} {r : Answer} → Came cap l n c l₁ w₁ r → Rooted cap l₁ w₁ (count_of r) ρ Q
  rooted_ran S = record {
    good = S.good;
    space = S.space;
    below = below_more S.more H.below;
    roots = roots_grown (came_grown S) ρ H.below ∙ H.roots;
  }

front_of : {A : Type 0} (P Q X Y : List A) → length P ≡ length Q → P ++ X ≡ Q ++ Y → P ≡ Q
front_of [] [] X Y h e = refl
front_of [] (q ∷ Q) X Y h e = absurd (omega arith)
front_of (p ∷ P) [] X Y h e = absurd (omega arith)
front_of (p ∷ P) (q ∷ Q) X Y h e = ap₂ ◌∷◌ (cc) (front_of P Q X Y (omega arith) (cc))

-- the last roots let go
pub rooted_front : {cap : ℕ} {l : List ℤ} {w : List ℕ} {n : ℕ} (ρ σ : List ℕ) (Q Z : List Tree) → length ρ ≡ length Q → Rooted cap l w n (ρ ++ σ) (Q ++ Z) → Rooted cap l w n ρ Q
rooted_front {l = l} {n = n} ρ σ Q Z h H = record {
  good = H.good;
  space = H.space;
  below = below_front ρ σ H.below;
  roots = front_of (roots_of (trees l n) ρ) Q (roots_of (trees l n) σ) Z (roots_length (trees l n) ρ ∙ h) (sym (roots_append (trees l n) ρ σ) ∙ H.roots);
}

-- ---- the diagrams of a model

-- those of each action are among them
pub action_in : (d : Action) (l : List Action) (i : ℕ) → i < length l → Sub (action_diagrams (get_or l i d)) (all_diagrams l)
unfolding all_diagrams
action_in d [] i h = absurd (omega arith)
action_in d (x ∷ l) zero h = record { take = λ u m. member_left u (action_diagrams x) (all_diagrams l) m }
action_in d (x ∷ l) (suc i) h = sub_trans (action_in d l i (omega arith)) (record { take = λ u m. member_right u (action_diagrams x) (all_diagrams l) m })

sub_both : {R S Y : List Tree} → Sub R Y → Sub S Y → Sub (R ++ S) Y
sub_both {R} {S} a b = record { take = λ u m. ⊎_elim (λ x. a.take u x) (λ y. b.take u y) (member_parts u R S m) }

-- and no others
pub actions_sub : (d : Action) (l : List Action) (Y : List Tree) → ((i : ℕ) → i < length l → Sub (action_diagrams (get_or l i d)) Y) → Sub (all_diagrams l) Y
unfolding all_diagrams member
actions_sub d [] Y f = record { take = λ u m. absurd m }
actions_sub d (x ∷ l) Y f = sub_both (f 0 (omega arith)) (actions_sub d l Y (λ i h. f (suc i) (omega arith)))
