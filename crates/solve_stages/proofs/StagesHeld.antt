-- Roots that are held, one more of them, and the model's diagrams among them.
use mathlib.Core.Path.{◌≡◌, sym, ap, ◌∙◌, subst}
use mathlib.Core.Bool.{Bool}
use mathlib.Core.List.{List, [], ◌∷◌, ◌++◌}
use Prim.Native.Nat.{ℕ, suc, ◌+◌, ◌≤◌, ◌<◌}
use native.Mathlib.Numerals.{add-one}
use native.Mathlib.Omega.{arith}
use borrow.Author.Tests.{eq-eqb}
use lib.Dec.{eqb, eqb→eq}
use lib.IntN.{ℤ}
use lib.ListN.{length, get_or, take, get_or-append}
use lib.Seq.{take_at, take-append-le}
use Rattle.whole.specs.Cases.{if, by_eq, from_true, clash}
use Rattle.theory.specs.Diagram.{Tree}
use Rattle.theory.specs.Computation.{Solved, solved, refused}
use Rattle.theory.specs.Load.{model}
use Rattle.theory.specs.Stage.{model_diagrams}
use Rattle.rule_node.specs.Nodes.{blank}
use Rattle.solve_laws.specs.Onward.{answered}
use Rattle.solve_laws.specs.Roots.{Rooted}
use Rattle.solve_operation.specs.Operation.{held_trees, Standing}
use Rattle.solve_total.specs.StageTable.{model_size, StageReady, root_at}
use Rattle.solve_total.proofs.Roots.{held_length, held_suc}

-- an answer by its two cases
pub answers : {A : Type 0} {o : Solved A} (s h : ℕ) (a : A) (q : ℕ) → (s ≡ 0 → o ≡ solved a q) → ((s ≡ 0 → ⊥) → o ≡ refused s h) → o ≡ answered s h a q
unfolding answered
answers {o = o} s h a q f g = by_eq (eqb s 0) (λ (b : Bool). o ≡ if b (solved a q) (refused s h)) (λ e. f (eqb→eq s 0 (from_true e))) (λ e. g (λ z. clash (sym (eq-eqb s 0 z) ∙ e)))

module _ (l : List ℤ) (n : ℕ) (R : List ℕ) (held : ℕ) where
  pub held_more : held < length R → held_trees l n R (held + 1) ≡ held_trees l n R held ++ (root_at l n R held ∷ [])
  held_more h = ap (λ (k : ℕ). held_trees l n R k) (add-one held) ∙ held_suc l n R held h

  -- a place before the last
  pub held_before : (i : ℕ) → held < length R → i < held → get_or (held_trees l n R (held + 1)) i blank ≡ get_or (held_trees l n R held) i blank
  held_before i h q = ap (λ (X : List Tree). get_or X i blank) (held_more h)
      ∙ get_or-append (held_trees l n R held) (root_at l n R held ∷ []) blank i (let z = held_length l n R held (omega arith) in omega arith)

  -- the first of the diagrams, the last left away
  pub held_take : (m : ℕ) → held < length R → m ≤ held → take m (held_trees l n R (held + 1)) ≡ take m (held_trees l n R held)
  held_take m h q = ap (λ (X : List Tree). take m X) (held_more h)
      ∙ take-append-le m (held_trees l n R held) (root_at l n R held ∷ []) (let z = held_length l n R held (omega arith) in omega arith)

  -- roots whose trees are known, the last left away
  pub held_is : {cap : ℕ} {w : List ℕ} (Q : List Tree) (t : Tree) → Rooted cap l w n (take (suc held) R) (Q ++ (t ∷ [])) → length Q ≡ held → held < length R → held_trees l n R held ≡ Q
  held_is Q t H e h =
      sym (take_at (held_trees l n R held) (root_at l n R held ∷ []) held (held_length l n R held (omega arith)))
      ∙ (ap (take held) (sym (held_suc l n R held h) ∙ H.roots) ∙ take_at Q (t ∷ []) held e)

-- one root more stands behind the diagrams Q
module _ {B : List ℕ} {cap : ℕ} {l : List ℤ} {w : List ℕ} {n : ℕ} {R : List ℕ} {held : ℕ} {l' : List ℤ} {w' : List ℕ} {n' : ℕ} {R' : List ℕ} {k : ℕ} (Q : List Tree) (t : Tree)
    (D : StageReady B cap l w n R k) (m : take (model_size B) Q ≡ model_diagrams (model B)) (f : model_size B ≤ held) (e : length Q ≡ held)
    (H : Rooted cap l' w' n' (take (suc held) R') (Q ++ (t ∷ []))) (few : held < length R') where
  pub ready_next : StageReady B cap l' w' n' R' (held + 1)
  ready_next = record {
    accepted = D.accepted;
    bytes = D.bytes;
    standing = subst (Standing cap l' w' n' R') (sym (add-one held)) (record { good = H.good; space = H.space; below = H.below; few = few });
    models = held_take l' n' R' held (model_size B) few f ∙ (ap (take (model_size B)) (held_is l' n' R' held Q t H e few) ∙ m);
    first = omega arith;
  }
