-- "What a refusal gives", of a total: each number with when it is given.
use Rattle.std.specs.Prelude.{◌≡◌, ◌↔◌, ◌⊎◌, List, ℕ, ◌≤◌, ℤ, pos, negsuc, ◌≤ℤ◌}
use Rattle.whole.specs.Numerator.{number, words}
use Rattle.theory.specs.Load.{site_at}
use Rattle.theory.specs.Value.{Asked, ValueOut}
use Rattle.theory.specs.Rows.{ValueRow}
use Rattle.value_joined.specs.Total.{TotalOut, refused_total, no_total, crosswise, total_of}

-- a numerator not "outside two words"
abbrev pub InTwoWords : ℤ → Type 0
InTwoWords z = (negsuc 170141183460469231731687303715884105727 ≤ℤ z) × (z ≤ℤ pos 170141183460469231731687303715884105727)

module _ (B : List ℕ) (nodes : List ℤ) (stages : List ℕ) (q : Asked) (C : List ℕ) (nodes' : List ℤ) (stages' : List ℕ) (r : Asked) (h : ℕ) where
  -- what each side reads, by its own rows
  abbrev pub FirstReads : ValueOut → Type 0
  FirstReads v = ValueRow B nodes stages h q v

  abbrev pub SecondReads : ValueOut → Type 0
  SecondReads w = ValueRow C nodes' stages' h r w

  -- neither side is refused: no number before 26
  pub record BothRead (v w : ValueOut) : Type 0 where
    pub first : FirstReads v
    pub first_read : v.number ≡ 0
    pub second : SecondReads w
    pub second_read : w.number ≡ 0

  -- "the same W, D"
  pub record SameScale : Type 0 where
    pub weights : (site_at B).weights ≡ (site_at C).weights
    pub den : q.den ≡ r.den

  -- nor 26; and neither is none
  pub record BothHave (v w : ValueOut) : Type 0 where
    pub read : BothRead v w
    pub same : SameScale
    pub first_some : 1 ≤ v.action
    pub second_some : 1 ≤ w.action

  abbrev pub sum_of : ValueOut → ValueOut → ℤ
  sum_of v w = crosswise (site_at B) (site_at C) h (number v.numerator) (number w.numerator)

  pub data TotalRow : TotalOut → Type 0 where
    total_0 : {v w : ValueOut} → BothHave v w → InTwoWords (sum_of v w)
        → TotalRow (record { number = 0; place = 0; first = v.action; second = w.action; numerator = words (sum_of v w) })
    -- ""none" on either side is none, with both actions 0"
    total_none : {v w : ValueOut} → BothRead v w → SameScale → (v.action ≡ 0) ⊎ (w.action ≡ 0) → TotalRow no_total
    -- "all of the first's"
    total_first : {v : ValueOut} → FirstReads v → 1 ≤ v.number → TotalRow (refused_total v.number v.place)
    -- "then the second's"
    total_second : {v w : ValueOut} → FirstReads v → v.number ≡ 0 → SecondReads w → 1 ≤ w.number → TotalRow (refused_total w.number w.place)
    -- "It refuses unequal W or D with 26"
    total_26 : {v w : ValueOut} → BothRead v w → (SameScale → ⊥) → TotalRow (refused_total 26 0)
    -- "and a numerator outside two words with 11, place 0"
    total_11 : {v w : ValueOut} → BothHave v w → (InTwoWords (sum_of v w) → ⊥) → TotalRow (refused_total 11 0)

-- every outcome is one row, and a row is the outcome
abbrev pub TotalRows : Type 0
TotalRows = (B : List ℕ) (nodes : List ℤ) (stages : List ℕ) (q : Asked) (C : List ℕ) (nodes' : List ℤ) (stages' : List ℕ) (r : Asked) (h : ℕ) (o : TotalOut)
    → TotalRow B nodes stages q C nodes' stages' r h o ↔ (total_of B nodes stages q C nodes' stages' r h ≡ o)
