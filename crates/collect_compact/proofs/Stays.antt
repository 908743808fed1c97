-- The nodes that stay: one step, and what stands when the first that is not marked is met.
use mathlib.Core.Path.{◌≡◌, refl, sym, ap, ◌∙◌, subst}
use mathlib.Core.Bool.{true, not}
use mathlib.Core.Logic.{⊎_elim}
use mathlib.Core.List.{List}
use Prim.Native.Nat.{ℕ, ◌+◌, ◌*◌, ◌≤◌, ◌<◌}
use native.Mathlib.Omega.{arith}
use borrow.Author.Tests.{ne_eqb}
use lib.Dec.{eqb}
use lib.ListN.{length, get_or, set, length-set}
use lib.Seq.{get_or-set_same, get_or-set_other}
use Rattle.table.proofs.Look.{split}
use Rattle.collect_mark.specs.Mark.{mark_of}
use Rattle.collect_compact.specs.Slide.{Stayed}

module _ (cap : ℕ) (w : List ℕ) (n : ℕ) where
  pub none : Stayed cap w w n 0
  none = record { upto = omega arith; marked = λ k h. absurd (omega arith); own = λ k h. absurd (omega arith); marks = λ k h. refl; beyond = λ k h. refl; len = refl }

module _ {cap : ℕ} {w w' : List ℕ} {n i : ℕ} (T : Stayed cap w w' n i) (h : i < n) (room : n ≤ cap) where
  -- a marked node is forwarded to itself
  pub one_more : cap * 2 ≤ length w → (get_or w' i 0 ≡ 0 → ⊥) → Stayed cap w (set w' (cap + i) i) n (i + 1)
  unfolding mark_of
  one_more long e = record {
    upto = omega arith;
    marked = λ k q. ⊎_elim (λ (r : k < i). T.marked k r) (λ (r : k ≡ i). ap (λ (v : ℕ). not (eqb (get_or w v 0) 0)) r ∙ here) (split i k (omega arith));
    own = λ k q. ⊎_elim
        (λ (r : k < i). get_or-set_other w' (cap + i) (cap + k) i 0 (omega arith) ∙ T.own k r)
        (λ (r : k ≡ i). ap (λ (v : ℕ). get_or (set w' (cap + i) i) (cap + v) 0) r ∙ (get_or-set_same w' (cap + i) i 0 (let a = T.len in omega arith) ∙ sym r))
        (split i k (omega arith));
    marks = λ k q. get_or-set_other w' (cap + i) k i 0 (omega arith) ∙ T.marks k q;
    beyond = λ k q. get_or-set_other w' (cap + i) k i 0 (omega arith) ∙ T.beyond k q;
    len = length-set w' (cap + i) i ∙ T.len;
  }
    where
      here : not (eqb (get_or w i 0) 0) ≡ true
      here = ap (λ (v : ℕ). not (eqb v 0)) (sym (T.marks i (omega arith))) ∙ ap not (ne_eqb (get_or w' i 0) 0 e)

-- past the last node: all have stayed
pub all : {cap : ℕ} {w w' : List ℕ} {n i : ℕ} → Stayed cap w w' n i → n ≤ i → Stayed cap w w' n n
all {cap} {w} {w'} {n} {i} T h = subst (λ (k : ℕ). Stayed cap w w' n k) (let q : i ≡ n = omega (arith, T.upto, h) in q) T
