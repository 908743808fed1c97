-- Roots that are held, and one behind them.
use mathlib.Core.Path.{◌≡◌, sym, ap, ◌∙◌, subst}
use mathlib.Core.List.{List, [], ◌∷◌, ◌++◌}
use Prim.Native.Nat.{ℕ, suc, ◌+◌, ◌≤◌, ◌<◌}
use native.Mathlib.Omega.{arith}
use lib.IntN.{ℤ}
use lib.ListN.{length, get_or, take, get_or-append}
use lib.Seq.{length-take-le, take-suc, take_at, get_or_at}
use Rattle.theory.specs.Diagram.{Tree}
use Rattle.rule_node.specs.Nodes.{blank, trees}
use Rattle.collect_mark.specs.Mark.{roots_of, Below}
use Rattle.solve_laws.specs.Alike.{Alike, alike_sym, alike_trans, alike_eq, alike_cons, alike_last}
use Rattle.solve_laws.specs.Roots.{Rooted, rooted_front, roots_append, roots_length}
use Rattle.solve_operation.specs.Operation.{held_trees, Standing, Operated}
use Rattle.solve_operation.specs.declared.Rule.{Rule}
use Rattle.solve_operation.specs.declared.Run.{Run}
use Rattle.solve_total.specs.StageTable.{root_at}

-- as many diagrams as roots
pub held_length : (l : List ℤ) (n : ℕ) (R : List ℕ) (held : ℕ) → held ≤ length R → length (held_trees l n R held) ≡ held
held_length l n R held h = roots_length (trees l n) (take held R) ∙ length-take-le held R h

-- the last root apart
pub held_suc : (l : List ℤ) (n : ℕ) (R : List ℕ) (held : ℕ) → held < length R → held_trees l n R (suc held) ≡ held_trees l n R held ++ (root_at l n R held ∷ [])
unfolding roots_of
held_suc l n R held h = ap (roots_of (trees l n)) (take-suc R held 0 h) ∙ roots_append (trees l n) (take held R) (get_or R held 0 ∷ [])

one_more : (held : ℕ) → held + 1 ≡ suc held
one_more held = omega arith

-- the table's first roots stand for Q, and there is one more
pub record On (cap : ℕ) (l : List ℤ) (w : List ℕ) (n : ℕ) (R : List ℕ) (held : ℕ) (Q : List Tree) : Type 0 where
  pub size : length Q ≡ held
  pub room : held < length R
  pub rooted : Rooted cap l w n (take (suc held) R) (Q ++ (root_at l n R held ∷ []))

-- as it stands
pub standing_on : (cap : ℕ) (l : List ℤ) (w : List ℕ) (n : ℕ) (R : List ℕ) (held : ℕ) → Standing cap l w n R (held + 1) → On cap l w n R held (held_trees l n R held)
standing_on cap l w n R held S =
    let z = S.few in
    record {
      size = held_length l n R held (omega (arith, z));
      room = omega (arith, z);
      rooted = record {
        good = S.good;
        space = S.space;
        below = subst (λ (k : ℕ). Below (take k R) n) (one_more held) S.below;
        roots = held_suc l n R held (omega (arith, z));
      };
    }

module _ {cap : ℕ} {l : List ℤ} {w : List ℕ} {n : ℕ} {R : List ℕ} {held : ℕ} {Q : List Tree} (H : On cap l w n R held Q) where
  -- it stands, with all of them
  pub on_standing : Standing cap l w n R (held + 1)
  on_standing = record { good = H.rooted.good; space = H.rooted.space; below = subst (λ (k : ℕ). Below (take k R) n) (sym (one_more held)) H.rooted.below; few = let z = H.room in omega (arith, z) }

  on_front : Rooted cap l w n (take held R) Q
  on_front = rooted_front (take held R) (get_or R held 0 ∷ []) Q (root_at l n R held ∷ []) (length-take-le held R (let z = H.room in omega (arith, z)) ∙ sym H.size)
      (subst (λ (ρ : List ℕ). Rooted cap l w n ρ (Q ++ (root_at l n R held ∷ []))) (take-suc R held 0 H.room) H.rooted)

  -- and without the last
  pub on_fewer : Standing cap l w n R held
  on_fewer = record { good = H.rooted.good; space = H.rooted.space; below = on_front.below; few = let z = H.room in omega (arith, z) }

  pub on_before : held_trees l n R held ≡ Q
  on_before = on_front.roots

  -- all of them
  abbrev X : List Tree
  X = held_trees l n R (held + 1)

  abbrev F : Tree
  F = root_at l n R held

  on_held : X ≡ Q ++ (F ∷ [])
  on_held = ap (held_trees l n R) (one_more held) ∙ H.rooted.roots

  pub on_one : (i : ℕ) → i < held → get_or X i blank ≡ get_or Q i blank
  on_one i h = ap (λ (q : List Tree). get_or q i blank) on_held ∙ get_or-append Q (F ∷ []) blank i (let z = H.size in omega (arith, z, h))

  pub on_last : get_or X held blank ≡ F
  on_last = ap (λ (q : List Tree). get_or q held blank) on_held ∙ get_or_at Q F [] blank held H.size

  pub on_front_of : take held X ≡ Q
  on_front_of = ap (take held) on_held ∙ take_at Q (F ∷ []) held H.size

  -- they are those that an operation names
  pub on_alike : {K : List Tree} → Alike Q K → Alike X (F ∷ K)
  on_alike a = alike_trans (alike_eq on_held) (alike_trans (alike_sym (alike_last F Q)) (alike_cons F a))

-- the peak of an operation that worked is within the room
pub operated_fits : {cap p : ℕ} {l : List ℤ} {n : ℕ} {R : List ℕ} {held to : ℕ} {rule : Rule} {l' : List ℤ} {w' R' : List ℕ} {r : Run} → Operated cap p l n R held to rule l' w' R' r → r.stop ≡ 0 → p ≤ cap → r.peak ≤ cap
operated_fits O ok q = let e = O.peak in let z = (O.rooted ok).space.room in omega (arith, e, z, q)
