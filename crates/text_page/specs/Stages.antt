-- The stages of a page, once the model has been judged: which number refuses them, and a stage whose line can be written.
use Rattle.std.specs.Prelude.{◌≡◌, Bool, not, List, ℕ, ◌-◌, eqb, ℤ, length, get_or}
use Rattle.whole.specs.Cases.{if}
use Rattle.theory.specs.Valid.{all}
use Rattle.theory.specs.Verdict.{Site, from_to}
use Rattle.theory.specs.Load.{site_at}
use Rattle.theory.specs.Solve.{early}
use Rattle.theory.specs.Value.{Asked, ValueOut, value_of}
use Rattle.value_walk.specs.Out.{value_after}

-- what is read at stage h
abbrev pub read_after : Site → List ℤ → List ℕ → Asked → ℕ → ValueOut
read_after S nodes stages q h = value_after S.levels S.conditions S.actions nodes (get_or stages (h - 1) 0) q

-- the reading of stage h is not refused with k
abbrev pub spared : Site → List ℤ → List ℕ → Asked → ℕ → ℕ → Bool
spared S nodes stages q k h = not (eqb (read_after S nodes stages q h).number k)

-- 13, then 15, then 14, each of any stage from 1 to H
unfoldable pub stages_refusal : Site → ℕ → List ℤ → List ℕ → Asked → ℕ
stages_refusal S H nodes stages q =
    if (not (all (spared S nodes stages q 13) (from_to 1 H))) 13
    (if (not (all (spared S nodes stages q 15) (from_to 1 H))) 15
    (if (not (all (spared S nodes stages q 14) (from_to 1 H))) 14 0))

-- a stage whose line can be written: no early refusal, S is the model's site, and the reading is not refused
pub record Shown (B : List ℕ) (S : Site) (nodes : List ℤ) (stages : List ℕ) (q : Asked) (h : ℕ) : Type 0 where
  pub passed : (early B h (length stages)).number ≡ 0
  pub site : S ≡ site_at B
  pub read : (value_of B nodes stages h q).number ≡ 0
