-- "all weights of a state sum to Wⁿ", and W^(n×h) from stage to stage.
use Rattle.std.specs.Prelude.{◌≡◌, refl, Bool, ℕ, zero, suc, ◌+◌, ◌-◌, ◌*◌, ◌^◌, ◌≤◌, length}
use Rattle.std.proofs.Common.{sym, ap, ◌∙◌, arith}
use mathlib.Core.List.{List, [], ◌∷◌, Memᴰ}
use Rattle.std.proofs.Math.Nat.{pow-zero, pow-succ'}
use Rattle.theory.specs.Loss.{sum}
use Rattle.theory.specs.Meaning.{doubled, settings, weight}

doubled_sum : (W w : ℕ) (ws : List ℕ) → w ≤ W → (l : List (List Bool)) → sum (weight W (w ∷ ws)) (doubled l) ≡ W * sum (weight W ws) l
unfolding doubled weight sum
doubled_sum W w ws h [] = omega arith
doubled_sum W w ws h (r ∷ l) = shares w (W - w) W (weight W ws r) (sum (weight W ws) l) _ (omega arith) (doubled_sum W w ws h l)
  where
    shares : (w k W x y z : ℕ) → W ≡ w + k → z ≡ W * y → k * x + (w * x + z) ≡ W * (x + y)
    shares w k W x y z e q = rw (q, e) (omega arith)

-- chances that are at most W give the settings weights that sum to W^n
pub weights_sum : (W : ℕ) (ws : List ℕ) → ((w : ℕ) → Memᴰ w ws → w ≤ W) → sum (weight W ws) (settings (length ws)) ≡ W ^ length ws
unfolding settings weight sum
weights_sum W [] h = sym (pow-zero W)
weights_sum W (w ∷ ws) h = doubled_sum W w ws (h w (Memᴰ.head refl)) (settings (length ws)) ∙ ap (λ z. W * z) (weights_sum W ws (λ v m. h v (Memᴰ.tail m))) ∙ sym (pow-succ' W (length ws))

-- W^(n+k)
pub power_plus : (W n k : ℕ) → W ^ (n + k) ≡ W ^ n * W ^ k
power_plus W zero k = ap (λ z. W ^ z) zero_plus ∙ rw (pow-zero W) (omega arith)
  where
    zero_plus : 0 + k ≡ k
    zero_plus = omega arith
power_plus W (suc n) k = ap (λ z. W ^ z) suc_plus ∙ pow-succ' W (n + k) ∙ ap (λ z. W * z) (power_plus W n k) ∙ regroup W (W ^ n) (W ^ k) ∙ ap (λ z. z * W ^ k) (sym (pow-succ' W n))
  where
    suc_plus : suc n + k ≡ suc (n + k)
    suc_plus = omega arith

    regroup : (a b c : ℕ) → a * (b * c) ≡ a * b * c
    regroup a b c = omega arith

-- W^(n×(h+1)) is Wⁿ times W^(n×h)
pub power_step : (W n h : ℕ) → W ^ (n * suc h) ≡ W ^ n * W ^ (n * h)
power_step W n h = ap (λ z. W ^ z) times_suc ∙ power_plus W n (n * h)
  where
    times_suc : n * suc h ≡ n + n * h
    times_suc = omega arith
