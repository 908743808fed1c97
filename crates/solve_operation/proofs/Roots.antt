-- The first roots of a table: lent to a collection, and read as levels.
use mathlib.Core.Path.{◌≡◌, refl, sym, ap, ap₂, ◌∙◌, subst}
use Rattle.table.specs.Table.{Answer}
use mathlib.Core.List.{List, [], ◌∷◌, ◌++◌}
use Prim.Native.Nat.{ℕ, ◌+◌, ◌-◌, ◌≤◌, ◌<◌}
use native.Mathlib.Omega.{arith}
use borrow.Author.Tests.{ltb-true, ltb-false}
use lib.Dec.{ltb}
use lib.IntN.{ℤ}
use lib.ListN.{length, get_or, take, drop, length-append, length-drop, take-append-drop, get_or-eq_default}
use lib.Seq.{take_at, drop_at, length-take-le, get_or-take, get_or-drop, ext_get_or}
use Rattle.whole.specs.Cases.{by_eq}
use Rattle.theory.specs.Widths.{levels_most}
use Rattle.theory.specs.Diagram.{Tree}
use Rattle.theory.specs.Rules.{substitute}
use Rattle.rule_node.specs.Nodes.{blank, trees, tree_at}
use Rattle.rule_node.specs.Table.{RuleRan}
use Rattle.rule_node.specs.EntryMeaning.{rule_of}
use Rattle.rule_node.proofs.Outcomes.{ran_as}
use Rattle.collect_mark.specs.Mark.{roots_of, Below}
use Rattle.collect.specs.Collect.{Collected}
use Rattle.rule_combine.specs.Levels.{Levels, levels_at}
use Rattle.solve_laws.specs.Operated.{roots_at}
use Rattle.solve_laws.specs.Roots.{roots_length}
use Rattle.solve_operation.specs.Operation.{substitutes, Kept}

-- ---- the first roots moved

-- P of their indexes in their place
pub prefix_kept : {n r held : ℕ} {l l' : List ℤ} {w w' R P : List ℕ} → held ≤ length R → Collected l l' w w' (take held R) P n r → Kept l l' w w' R (P ++ drop held R) held n r
prefix_kept {n} {r} {held} {l} {l'} {w} {w'} {R} {P} h C =
    let e : length P ≡ held = C.roots_length ∙ length-take-le held R h in
    record {
      collected = subst (λ (Q : List ℕ). Collected l l' w w' (take held R) Q n r) (sym (take_at P (drop held R) held e)) C;
      others = drop_at P (drop held R) held e;
    }

-- as many roots as before
pub kept_length : {n r held : ℕ} {l l' : List ℤ} {w w' R R' : List ℕ} → Kept l l' w w' R R' held n r → length R' ≡ length R
kept_length {held = held} {R = R} {R' = R'} K =
    let a = ap length (take-append-drop held R') in
    let b = ap length (take-append-drop held R) in
    let e = K.collected.roots_length in
    let f = ap length K.others in
    omega (arith, simp length-append at a, simp length-append at b)

-- ---- levels

-- diagrams by their indexes
levels_roots : (l : List ℤ) (n : ℕ) (L : List ℕ) → levels_at l n L ≡ roots_of (trees l n) L
unfolding roots_of
levels_roots l n [] = refl
levels_roots l n (d ∷ L) = ap (λ (X : List Tree). tree_at l n d ∷ X) (levels_roots l n L)

module _ (R : List ℕ) (at m : ℕ) (h : at + m ≤ length R) where
  -- the m indexes from a place on
  abbrev L : List ℕ
  L = take (at + m - at) (drop at R)

  part_length : length L ≡ m
  part_length = length-take-le (at + m - at) (drop at R) (let z = length-drop at R in omega arith) ∙ (let e : at + m - at ≡ m = omega arith in e)

  part_at : (i : ℕ) → i < m → get_or L i 0 ≡ get_or R (at + i) 0
  part_at i j = get_or-take (at + m - at) (drop at R) i 0 (omega arith) ∙ get_or-drop at R i 0

  -- what a substitution asks of them
  pub levels_ask : {n : ℕ} → Below R n → 0 < m → m ≤ levels_most → Levels n L
  levels_ask {n} B some most = record {
    below = λ k. by_eq (ltb k m) (λ _. get_or L k 0 < n)
        (λ t. let j = ltb-true k m t in subst (λ (d : ℕ). d < n) (sym (part_at k j)) (B.at (at + k) (omega arith)))
        (λ f. let j = ltb-false k m f in let z = B.at at (omega arith) in subst (λ (d : ℕ). d < n) (sym (get_or-eq_default L 0 (omega (arith, part_length)))) (omega arith));
    some = omega (arith, part_length);
    most = omega (arith, part_length);
  }

  -- their diagrams are the m from a place on
  levels_are : (l : List ℤ) (n : ℕ) → levels_at l n L ≡ take m (drop at (roots_of (trees l n) R))
  levels_are l n =
      let X = trees l n in
      let Q = roots_of X R in
      let q : length Q ≡ length R = roots_length X R in
      let a : length (roots_of X L) ≡ m = roots_length X L ∙ part_length in
      let b : length (take m (drop at Q)) ≡ m = length-take-le m (drop at Q) (let z = length-drop at Q in omega arith) in
      levels_roots l n L ∙ ext_get_or blank (roots_of X L) (take m (drop at Q)) (a ∙ sym b)
      (λ i z. let j : i < m = omega arith in
      roots_at X L i (omega (arith, part_length))
      ∙ (ap (λ (x : ℕ). get_or X x blank) (part_at i j)
      ∙ (sym (roots_at X R (at + i) (omega arith))
      ∙ (sym (get_or-drop at Q i blank)
      ∙ sym (get_or-take m (drop at Q) i blank j)))))

  -- a substitution by them
  pub levels_ran : {cap n f : ℕ} {l l' : List ℤ} {w w' : List ℕ} {r : Answer} → f < length R → RuleRan rule_of cap l w n
      (substitute (levels_at l n L) (tree_at l n (get_or R f 0))) l' w' r → RuleRan rule_of cap l w n (substitutes (roots_of (trees l n) R) at m f) l' w' r
  levels_ran {n = n} {f = f} {l = l} j S = ran_as (ap₂ substitute (levels_are l n) (sym (roots_at (trees l n) R f j))) S
