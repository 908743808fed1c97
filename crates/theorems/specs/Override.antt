-- "How much an override loses", as types: each is proved in proofs/laws/Override. Whole numbers with h steps left are times D × W^(n×h), as values and totals are.
use Rattle.std.specs.Prelude.{◌≡◌, ◌↔◌, [], map, ℕ, zero, suc, ◌+◌, ◌*◌, ◌^◌, ◌≤◌, ◌<◌, ℤ, pos, ◌-ℤ◌, ◌*ℤ◌, ◌≤ℤ◌}
use Rattle.std.proofs.Common.{mul-pos}
use Rattle.std.proofs.Math.Nat.{one-le-pow}
use Rattle.whole.specs.Numerator.{number}
use Rattle.theory.specs.Total.{num}
use Rattle.theory.specs.Process.{Process, Policy, total, optimum, expected, Reached}
use Rattle.theory.specs.Loss.{sum, shortfall, loss}
use Rattle.theory.specs.Meaning.{Model, State, action_at, env, chance_at, weight, settings, moved, power, process}
use Rattle.theory.specs.Load.{model}
use Rattle.theory.specs.Value.{Asked}
use Rattle.theorems.specs.Fraction.{Fraction, Equal, plus, divided, weighed}
use Rattle.theorems.specs.Demands.{Solving, Accepted, start, reading}

-- ---- "the expected sum, over the steps"

-- the sum over so many steps, numbered from 0
unfoldable pub over_steps : (ℕ → ℕ) → ℕ → ℕ
over_steps f zero = 0
over_steps f (suc n) = f zero + over_steps (λ k. f (suc k)) n

-- a next state counts by its setting's weight; one of weight 0 is not summed
unfoldable pub counted : ℕ → ℕ → ℕ
counted zero x = 0
counted (suc w) x = suc w * x

module _ {S A E : Type 0} (P : Process S A E) (π : Policy P) where
  -- "what its action falls short of the best there"
  unfoldable pub short : ℕ → S → ℕ
  short zero s = 0
  short (suc h) s = shortfall P h s (π.choice (suc h) s)

  -- the same, expected, at the state to which k steps lead
  unfoldable pub short_after : ℕ → ℕ → S → ℕ
  short_after zero h s = short h s
  short_after (suc k) zero s = 0
  short_after (suc k) (suc h) s = let a = π.choice (suc h) s in
      sum (λ e. counted (P.weight a s e) (short_after k h (P.next a s e))) P.settings

  -- "the expected sum, over the steps, of what its action falls short of the best there"
  unfoldable pub lost : ℕ → S → ℕ
  lost h s = over_steps (λ k. short_after k h s) h

  -- it is what theory's recursion gives: here, and from each next state with one step fewer
  abbrev pub StepByStep : Type 0
  StepByStep = (h : ℕ) (s : S) → lost h s ≡ loss P π h s

-- ---- the same in fractions

-- "weight total W (1 to 100)"
module _ (M : Model) (W>0 : 1 ≤ M.weights) where
  -- a whole number over D × W^(n×h)
  abbrev pub fraction : ℕ → State → ℕ → Fraction
  fraction h s k = record { numerator = num (pos k); den = s.den * power M h; den>0 = mul-pos s.D>0 (one-le-pow (M.conditions * h) M.weights W>0) }

  -- what is lost is what the action falls short by, "plus the sum, over all settings of the next conditions, of the setting's weight ×" what is lost from "the next state, divided by Wⁿ"
  abbrev pub LostFormula : Type 0
  LostFormula = (π : Policy (process M)) (h : ℕ) (s : State) → let a = action_at M (π.choice (suc h) s) in
      Equal (fraction (suc h) s (lost (process M) π (suc h) s)) (plus (fraction (suc h) s (short (process M) π (suc h) s)) (divided
      (weighed (weight M.weights (map (chance_at (env s [])) a.chances)) (λ r. fraction h (moved s a.levels r) (lost (process M) π h (moved s a.levels r))) (settings M.conditions))
      (M.weights ^ M.conditions)
      (one-le-pow M.conditions M.weights W>0)))

-- ---- of a state s with h steps left, whose value is v

module _ (M : Model) (h : ℕ) (s : State) (v : ℤ) where
  -- "for a state whose value is not none and a policy that has a total from it, the value less the policy's total is exactly the expected sum, over the steps, of what its action falls short of the best there"; where a policy has a total the value is not none
  abbrev pub Loses : Type 0
  Loses = (π : Policy (process M)) (x : ℤ) → expected (process M) π h s ≡ num x → v -ℤ x ≡ pos (lost (process M) π h s)

  -- no term is missing: wherever a policy that has a total gets to with a step left, its start too, there is a value, and its action has a total that is short of it by just that much
  abbrev pub FallsShort : Type 0
  FallsShort = (π : Policy (process M)) (x : ℤ) → expected (process M) π h s ≡ num x → (k : ℕ) (r : State) → Reached (process M) π h s (suc k) r
      → (best : ℤ) × (its : ℤ) × (optimum (process M) (suc k) r ≡ num best)
      × (total (process M) (optimum (process M) k) k (π.choice (suc k) r) r ≡ num its) × (best -ℤ its ≡ pos (short (process M) π (suc k) r))

  -- "From this follow the equality we have": it loses nothing exactly where nothing falls short
  abbrev pub LosesNothing : Type 0
  LosesNothing = (π : Policy (process M)) (x : ℤ) → expected (process M) π h s ≡ num x
      → (v ≡ x) ↔ ((k : ℕ) (r : State) → Reached (process M) π h s (suc k) r → short (process M) π (suc k) r ≡ 0)

  -- ".. and that shortfalls of at most e in each step lose at most h × e": e is any p ÷ d, both sides times d; each step at its own D × W^(n×k)
  abbrev pub LosesAtMost : Type 0
  LosesAtMost = (π : Policy (process M)) (x : ℤ) → expected (process M) π h s ≡ num x → (p d : ℕ) → 0 < d
      → ((k : ℕ) (r : State) → Reached (process M) π h s (suc k) r → d * short (process M) π (suc k) r ≤ p * (r.den * power M (suc k)))
      → (pos d *ℤ (v -ℤ x)) ≤ℤ pos (h * p * (s.den * power M h))

-- ---- of the value that is read

-- of every solved model, at every accepted state, with 1 to horizon steps left
abbrev pub EveryRead : (Model → ℕ → State → ℤ → Type 0) → Type 0
EveryRead C = (g : Solving) (h : ℕ) → 1 ≤ h → h ≤ g.horizon → (q : Asked) (t : Accepted g q) → C (model g.bytes) h (start g q t) (number (reading g h q).numerator)
