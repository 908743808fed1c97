-- A held pond, by computing: what it loses, which wrong sums miss.
use Rattle.std.specs.Prelude.{◌≡◌, refl, Bool, true, false, [], ◌∷◌, ℕ, suc, ◌+◌, ◌-◌, ◌*◌, ◌^◌, eqb, leb, pos}
use mathlib.Core.List.Memᴰ
use Rattle.whole.specs.Cases.{if}
use Rattle.theory.specs.Total.{num, le_total, ◌⊕◌, weigh, max_total, mean, greatest_from}
use Rattle.theory.specs.Process.{Process, Policy, total, optimum, expected}
use Rattle.theory.specs.Loss.{excess, sum, shortfall}
use Rattle.theorems.specs.Override.{over_steps, counted, short, short_after, lost}

-- hold is 1; release, 2, takes 10 where there are as many, and earns 50; rain would add 10 and never comes: its weight is 0 of 2
abbrev pond : Process ℕ ℕ Bool
pond = record {
  first = 1;
  others = 2 ∷ [];
  settings = false ∷ (true ∷ []);
  reward = λ h a s. num (pos (if (eqb a 1) 0 (if (leb 10 s) 50 0) * 2 ^ suc h));
  weight = λ a s e. if e 0 2;
  next = λ a s e. if (eqb a 1) s (s - 10) + if e 10 0;
  end = λ s. pos 0;
}

-- the policy that always holds
abbrev hold : Policy pond
hold = record { choice = λ h s. 1; allowed = λ h s. Memᴰ.head refl }

-- at 20 with two steps left the value is 100, over 2²; held it comes to 0, and each step loses 50
pub hold_loses : (optimum pond 2 20 ≡ num (pos 400)) × (expected pond hold 2 20 ≡ num (pos 0)) × (lost pond hold 2 20 ≡ 400)
    × (short_after pond hold 0 2 20 ≡ 200) × (short_after pond hold 1 2 20 ≡ 200)
unfolding le_total ◌⊕◌ weigh max_total mean greatest_from total optimum expected excess sum shortfall over_steps counted short short_after lost
hold_loses = (refl, refl, refl, refl, refl)
