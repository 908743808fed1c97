-- The pond where prices move, computed from its bytes on.
use Rattle.std.specs.Prelude.{Bool, ◌&&◌, ◌∷◌, ℕ, T, eqb, ℤ, pos, negsuc, replicate}
use Rattle.examples.specs.Examples as Examples
use Rattle.price_change.specs.Sure as Sure

-- the pond at x/d, h steps left, with number and sure
abbrev says : ℕ → ℤ → ℕ → ℤ → ℕ → ℕ → Bool
says h x d e number sure =
    let o = Sure.sure_of Examples.pond h (record { mask = 0; nums = x ∷ replicate 7 (pos 0); den = pos d }) e in
    eqb o.number number && eqb o.sure sure

-- "Sure at 20 with h 2: for e = 12, not for e = 13"; over 2 the same; a tie at 10; one step left at 9; 23, and 13 before it
pub pond_sure : T (
    says 2 (pos 20) 1 (pos 12) 0 1 && (says 2 (pos 20) 1 (pos 13) 0 0 && (says 2 (pos 40) 2 (pos 12) 0 1 && (says 2 (pos 40) 2 (pos 13) 0 0
    && (says 2 (pos 10) 1 (pos 0) 0 0 && (says 1 (pos 9) 1 (pos 0) 0 1 && (says 1 (pos 9) 1 (pos 1) 0 0
    && (says 2 (pos 20) 1 (negsuc 0) 23 0 && says 2 (pos 20) 0 (negsuc 0) 13 0))))))))
unfolding Examples.definitions Sure.margin Sure.worth_of Sure.exceeds Sure.leads Sure.sure_out Sure.sure_at Sure.sure_of
pond_sure = tt
