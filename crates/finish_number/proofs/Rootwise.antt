-- Root by root.
use mathlib.Core.Path.{◌≡◌, refl, sym, ap, ap₂, ◌∙◌}
use mathlib.Core.List.{List, []}
use Prim.Native.Nat.{ℕ, suc, ◌+◌, ◌*◌, ◌≤◌, ◌<◌}
use native.Mathlib.Numerals.{add-one}
use native.Mathlib.Omega.{arith}
use lib.IntN.{ℤ}
use lib.ListN.{length, get_or, drop, drop_of_length-le}
use lib.Seq.{drop-cons}
use Rattle.theory.specs.Diagram.{Tree}
use Rattle.theory.specs.Computation.{enter, enter_all}
use Rattle.theory.specs.Solve.{number_of}
use Rattle.theory.proofs.laws.Table.{no_table}
use Rattle.rule_node.specs.Nodes.{trees, tree_at}
use Rattle.finish_number.specs.Number.{trees_of, Unnumbered, list_of, Numbered, TreeNumbered, RootsListed}

-- the first j roots are entered
pub record Going (cap : ℕ) (l : List ℤ) (n : ℕ) (w₀ w : List ℕ) (R : List ℕ) (j c : ℕ) : Type 0 where
  pub len : length w ≡ length w₀
  pub state : Numbered cap l n w c
  pub ahead : enter_all (trees_of l n (drop j R)) (list_of (trees l n) w c) ≡ enter_all (trees_of l n R) []

pub begins : (cap : ℕ) (l : List ℤ) (n : ℕ) (w : List ℕ) (R : List ℕ) → n ≤ cap → cap * 2 ≤ length w → Unnumbered cap n w → Going cap l n w w R 0 0
unfolding list_of number_of
begins cap l n w R room big b = record {
  len = refl;
  state = record {
    works = big;
    distinct = no_table.distinct;
    within = λ k q. absurd (omega arith);
    inverse = λ k q. absurd (omega arith);
    numbers = b;
  };
  ahead = refl;
}

enter_first : (l : List ℤ) (n : ℕ) (R : List ℕ) (j : ℕ) (Y : List Tree) → j < length R → enter_all (trees_of l n (drop j R)) Y ≡ enter_all (trees_of l n (drop (suc j) R)) (enter (tree_at l n (get_or R j 0)) Y)
unfolding enter_all
enter_first l n R j Y h = ap (λ (t : List ℕ). enter_all (trees_of l n t) Y) (drop-cons R j 0 h)

enter_last : (l : List ℤ) (n : ℕ) (R : List ℕ) (j : ℕ) (Y : List Tree) → length R ≤ j → enter_all (trees_of l n (drop j R)) Y ≡ Y
unfolding enter_all
enter_last l n R j Y h = ap (λ (t : List ℕ). enter_all (trees_of l n t) Y) (drop_of_length-le R h)

module _ {cap : ℕ} {l : List ℤ} {n : ℕ} {w₀ w : List ℕ} {R : List ℕ} {j c : ℕ} (O : Going cap l n w₀ w R j c) where
  pub goes : {w' : List ℕ} {r : ℕ} → j < length R → length w' ≡ length w → TreeNumbered cap l n w w' c r (tree_at l n (get_or R j 0)) → Going cap l n w₀ w' R (j + 1) r
  goes {w'} {r} h e E = record {
    len = e ∙ O.len;
    state = E.state;
    ahead = ap₂ (λ (k : ℕ) (Y : List Tree). enter_all (trees_of l n (drop k R)) Y) (add-one j) E.listed ∙ (sym (enter_first l n R j (list_of (trees l n) w c) h) ∙ O.ahead);
  }

  pub ends : length R ≤ j → RootsListed cap l n w c R
  ends h = record { state = O.state; listed = sym (enter_last l n R j (list_of (trees l n) w c) h) ∙ O.ahead }
