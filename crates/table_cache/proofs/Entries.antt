-- The cache's entries: their places, read and stored.
use mathlib.Core.Path.{◌≡◌, refl, ◌∙◌}
use mathlib.Core.Logic.{⊎_elim, ◌⊎◌}
use mathlib.Core.List.{List}
use Prim.Native.Nat.{ℕ, ◌+◌, ◌*◌, ◌%◌, ◌≤◌, ◌<◌}
use native.Mathlib.Nat.{mod-lt}
use native.Mathlib.Omega.{arith}
use lib.ListN.{length, get_or, set, length-set}
use lib.Seq.{get_or-set_same, get_or-set_other}
use Rattle.table_cache.specs.Cache.{slot_of, store_of}

-- ---- places

pub slot_at : (cap op f g p q : ℕ) → 0 < cap → (j : ℕ) × (j < cap) × (slot_of cap op f g p q ≡ cap * 2 + j * 6)
unfolding slot_of
slot_at cap op f g p q h = ((op * 7919 + f + g * 1009 + p * 263 + q) % cap, mod-lt _ h, refl)

pub slot_lt : (cap op f g p q : ℕ) → 0 < cap → slot_of cap op f g p q + 6 ≤ cap * 8
slot_lt cap op f g p q h = let a = slot_at cap op f g p q h in let b = a.1 in let e = a.2 in omega arith

-- ---- a store

module _ (w : List ℕ) (s op f g p q r : ℕ) (room : s + 6 ≤ length w) where
  abbrev w1 : List ℕ
  w1 = set w (s) op

  abbrev w2 : List ℕ
  w2 = set w1 (s + 1) f

  abbrev w3 : List ℕ
  w3 = set w2 (s + 2) g

  abbrev w4 : List ℕ
  w4 = set w3 (s + 3) p

  abbrev w5 : List ℕ
  w5 = set w4 (s + 4) q

  pub store_other : (j : ℕ) → (j < s) ⊎ (s + 6 ≤ j) → get_or (store_of w s op f g p q r) j 0 ≡ get_or w j 0
  unfolding store_of
  store_other j h = ⊎_elim
      (λ (a : j < s). get_or-set_other w5 (s + 5) j (r + 1) 0 (omega arith) ∙ (get_or-set_other w4 (s + 4) j q 0 (omega arith) ∙
      (get_or-set_other w3 (s + 3) j p 0 (omega arith) ∙ (get_or-set_other w2 (s + 2) j g 0 (omega arith) ∙
      (get_or-set_other w1 (s + 1) j f 0 (omega arith) ∙ (get_or-set_other w (s) j op 0 (omega arith)))))))
      (λ (a : s + 6 ≤ j). get_or-set_other w5 (s + 5) j (r + 1) 0 (omega arith) ∙ (get_or-set_other w4 (s + 4) j q 0 (omega arith) ∙
      (get_or-set_other w3 (s + 3) j p 0 (omega arith) ∙ (get_or-set_other w2 (s + 2) j g 0 (omega arith) ∙
      (get_or-set_other w1 (s + 1) j f 0 (omega arith) ∙ (get_or-set_other w (s) j op 0 (omega arith)))))))
      h

  pub at_op : get_or (store_of w s op f g p q r) (s) 0 ≡ op
  unfolding store_of
  at_op = get_or-set_other w5 (s + 5) (s) (r + 1) 0 (omega arith) ∙ (get_or-set_other w4 (s + 4) (s) q 0 (omega arith) ∙
      (get_or-set_other w3 (s + 3) (s) p 0 (omega arith) ∙ (get_or-set_other w2 (s + 2) (s) g 0 (omega arith) ∙
      (get_or-set_other w1 (s + 1) (s) f 0 (omega arith) ∙ (get_or-set_same w (s) op 0 (omega arith))))))

  pub at_f : get_or (store_of w s op f g p q r) (s + 1) 0 ≡ f
  unfolding store_of
  at_f = get_or-set_other w5 (s + 5) (s + 1) (r + 1) 0 (omega arith) ∙ (get_or-set_other w4 (s + 4) (s + 1) q 0 (omega arith) ∙
      (get_or-set_other w3 (s + 3) (s + 1) p 0 (omega arith) ∙ (get_or-set_other w2 (s + 2) (s + 1) g 0 (omega arith) ∙
      (get_or-set_same w1 (s + 1) f 0 (simp length-set (omega arith))))))

  pub at_g : get_or (store_of w s op f g p q r) (s + 2) 0 ≡ g
  unfolding store_of
  at_g = get_or-set_other w5 (s + 5) (s + 2) (r + 1) 0 (omega arith) ∙ (get_or-set_other w4 (s + 4) (s + 2) q 0 (omega arith) ∙
      (get_or-set_other w3 (s + 3) (s + 2) p 0 (omega arith) ∙ (get_or-set_same w2 (s + 2) g 0 (simp length-set (omega arith)))))

  pub at_p : get_or (store_of w s op f g p q r) (s + 3) 0 ≡ p
  unfolding store_of
  at_p = get_or-set_other w5 (s + 5) (s + 3) (r + 1) 0 (omega arith) ∙ (get_or-set_other w4 (s + 4) (s + 3) q 0 (omega arith) ∙ (get_or-set_same w3 (s + 3) p 0 (simp length-set (omega arith))))

  pub at_q : get_or (store_of w s op f g p q r) (s + 4) 0 ≡ q
  unfolding store_of
  at_q = get_or-set_other w5 (s + 5) (s + 4) (r + 1) 0 (omega arith) ∙ (get_or-set_same w4 (s + 4) q 0 (simp length-set (omega arith)))

  pub at_full : get_or (store_of w s op f g p q r) (s + 5) 0 ≡ r + 1
  unfolding store_of
  at_full = get_or-set_same w5 (s + 5) (r + 1) 0 (simp length-set (omega arith))

  pub store_length : length (store_of w s op f g p q r) ≡ length w
  unfolding store_of
  store_length = simp length-set
