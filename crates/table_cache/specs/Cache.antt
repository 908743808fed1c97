-- The computed cache: cap entries of six words from cap * 2 on, a rule's five words and one more than its result.
use Rattle.std.specs.Prelude.{◌≡◌, List, ℕ, suc, ◌+◌, ◌*◌, ◌%◌, ◌≤◌, ◌<◌, length, get_or, set}

-- the entry's place: any, so long as it is one of cap
unfoldable pub slot_of : ℕ → ℕ → ℕ → ℕ → ℕ → ℕ → ℕ
slot_of cap op f g p q = cap * 2 + ((op * 7919 + f + g * 1009 + p * 263 + q) % cap) * 6

-- words that fit an entry
pub record Key (op f g p q : ℕ) : Type 0 where
  pub op_fits : op < 4294967296
  pub f_fits : f < 4294967296
  pub g_fits : g < 4294967296
  pub p_fits : p < 4294967296
  pub q_fits : q < 4294967296

-- the work words have room for chains and cache
pub record WorkRoom (cap : ℕ) (w : List ℕ) : Type 0 where
  pub some : 0 < cap
  pub few : cap ≤ 65535
  pub works : cap * 8 ≤ length w

-- the entry at s: a rule's five words and its result
pub record CacheEntry (w : List ℕ) (s op f g p q r : ℕ) : Type 0 where
  pub is_op : get_or w s 0 ≡ op
  pub is_f : get_or w (s + 1) 0 ≡ f
  pub is_g : get_or w (s + 2) 0 ≡ g
  pub is_p : get_or w (s + 3) 0 ≡ p
  pub is_q : get_or w (s + 4) 0 ≡ q
  pub full : get_or w (s + 5) 0 ≡ suc r

-- the words with an entry stored at s
unfoldable pub store_of : List ℕ → ℕ → ℕ → ℕ → ℕ → ℕ → ℕ → ℕ → List ℕ
store_of w s op f g p q r = set (set (set (set (set (set w s op) (s + 1) f) (s + 2) g) (s + 3) p) (s + 4) q) (s + 5) (r + 1)
