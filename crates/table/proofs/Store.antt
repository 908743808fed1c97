-- What is read of a node, and what a store of a node leaves.
use mathlib.Core.Path.{◌≡◌, refl, sym, ap, ap₂, ◌∙◌}
use mathlib.Core.List.{List, [], ◌∷◌, ◌++◌, append_assoc}
use Prim.Native.Nat.{ℕ, zero, suc, ◌+◌, ◌*◌, ◌-◌, ◌≤◌, ◌<◌, min}
use native.Mathlib.Nat.{le_of_suc-le-suc, not-suc-le-zero, add-zero}
use native.Mathlib.Omega.{arith}
use mathlib.Core.Bool.{Bool, true, false}
use borrow.Author.Tests.{ltb-true, ltb-false}
use lib.Dec.{ltb}
use lib.IntN.{ℤ, pos}
use lib.ListN.{get_or, set, length, take, drop, length-set, length-take, length-drop}
use lib.Seq.{get_or-set_same, get_or-set_other, length-take-le, ext_get_or, get_or-take, get_or-drop, drop-drop}
use Rattle.whole.specs.Linears.{numbers}
use Rattle.whole.proofs.Filled.{Filled, all_filled}
use borrow.Rule.Slice.PartMut.{put_mid}
use Rattle.std.proofs.Math.Seq.{take-suc-set}
use Rattle.std.proofs.lemmas.List.{drop-set-lt, take-append-drop}
use Rattle.table.specs.declared.Node.{Node}
use Rattle.table.specs.Table.{node_words, high_word, low_word, node_at, put_at, store_list}

other : (l : List ℤ) (i j : ℕ) (v : ℤ) → (j ≡ i → ⊥) → get_or (set l i v) j (pos 0) ≡ get_or l j (pos 0)
other l i j v n = get_or-set_other l i j v (pos 0) n

-- ---- a part of the words

get_d_part : (n at : ℕ) (l : List ℤ) (k : ℕ) → k < n → get_or (take n (drop at l)) k (pos 0) ≡ get_or l (at + k) (pos 0)
get_d_part n at l k h = get_or-take n (drop at l) k (pos 0) h ∙ get_or-drop at l k (pos 0)

length_part : (n at : ℕ) (l : List ℤ) → at + n ≤ length l → length (take n (drop at l)) ≡ n
length_part n at l h = length-take-le n (drop at l) (let e = length-drop at l in omega arith)

-- the numbers of a node are there
pub numbers_at : (l : List ℤ) (i : ℕ) → i * node_words + node_words ≤ length l → length (node_at l i).n ≡ numbers
unfolding node_at
numbers_at l i h = length_part numbers (i * node_words + 1) l (omega arith)

pub number_at : (l : List ℤ) (i k : ℕ) → k < numbers → get_or (node_at l i).n k (pos 0) ≡ get_or l (i * node_words + 1 + k) (pos 0)
unfolding node_at
number_at l i k h = get_d_part numbers (i * node_words + 1) l k h

part_same : (n at : ℕ) (l l' : List ℤ) → length l' ≡ length l → ((k : ℕ) → k < n → get_or l' (at + k) (pos 0) ≡ get_or l (at + k) (pos 0)) → take n (drop at l') ≡ take n (drop at l)
part_same n at l l' e h =
    let d : length (take n (drop at l')) ≡ length (take n (drop at l)) = length-take n (drop at l') ∙ (ap (λ (k : ℕ). min n k) (length-drop at l' ∙ (ap (λ (k : ℕ). k - at) e ∙ sym (length-drop at l))) ∙ sym (length-take n (drop at l))) in
    ext_get_or (pos 0) _ _ d (λ k q. let w : k < n = below k q in get_d_part n at l' k w ∙ (h k w ∙ sym (get_d_part n at l k w)))
  where
    below : (k : ℕ) → k < length (take n (drop at l')) → k < n
    below k q = go n (drop at l') k q
      where
        go : (n : ℕ) (l : List ℤ) (k : ℕ) → k < length (take n l) → k < n
        go zero l k q = absurd (not-suc-le-zero q)
        go (suc n) [] k q = absurd (not-suc-le-zero q)
        go (suc n) (x ∷ l) zero q = omega arith
        go (suc n) (x ∷ l) (suc k) q = let r = go n l k (le_of_suc-le-suc q) in omega arith

-- ---- numbers stored one after another

pub store_length : (l : List ℤ) (at : ℕ) (s : List ℤ) → length (store_list l at s) ≡ length l
unfolding store_list
store_length l at [] = refl
store_length l at (z ∷ s) = store_length (set l at z) (suc at) s ∙ length-set l at z

pub store_more : (l : List ℤ) (at : ℕ) (s : List ℤ) (k : ℕ) → k < length s → set (store_list l at (take k s)) (at + k) (get_or s k (pos 0)) ≡ store_list l at (take (suc k) s)
unfolding store_list
store_more l at [] k h = absurd (not-suc-le-zero h)
store_more l at (z ∷ s) zero h = ap (λ (j : ℕ). set l j z) (add-zero at)
store_more l at (z ∷ s) (suc k) h = ap (λ (j : ℕ). set (store_list (set l at z) (suc at) (take k s)) j (get_or s k (pos 0))) (let e : at + suc k ≡ suc at + k = omega arith in e) ∙ store_more (set l at z) (suc at) s k (le_of_suc-le-suc h)

store_below : (l : List ℤ) (at : ℕ) (s : List ℤ) (j : ℕ) → j < at → get_or (store_list l at s) j (pos 0) ≡ get_or l j (pos 0)
unfolding store_list
store_below l at [] j h = refl
store_below l at (z ∷ s) j h = store_below (set l at z) (suc at) s j (omega arith) ∙ other l at j z (omega arith)

store_above : (l : List ℤ) (at : ℕ) (s : List ℤ) (j : ℕ) → at + length s ≤ j → get_or (store_list l at s) j (pos 0) ≡ get_or l j (pos 0)
unfolding store_list
store_above l at [] j h = refl
store_above l at (z ∷ s) j h = store_above (set l at z) (suc at) s j (omega arith) ∙ other l at j z (omega arith)

store_in : (l : List ℤ) (at : ℕ) (s : List ℤ) (k : ℕ) → at + length s ≤ length l → k < length s → get_or (store_list l at s) (at + k) (pos 0) ≡ get_or s k (pos 0)
unfolding store_list
store_in l at [] k h q = absurd (not-suc-le-zero q)
store_in l at (z ∷ s) zero h q =
    ap (λ (j : ℕ). get_or (store_list (set l at z) (suc at) s) j (pos 0)) (add-zero at)
    ∙ (store_below (set l at z) (suc at) s at (omega arith) ∙ get_or-set_same l at z (pos 0) (omega arith))
store_in l at (z ∷ s) (suc k) h q =
    ap (λ (j : ℕ). get_or (store_list (set l at z) (suc at) s) j (pos 0)) (let e : at + suc k ≡ suc at + k = omega arith in e)
    ∙ store_in (set l at z) (suc at) s k (let e = length-set l at z in omega arith) (le_of_suc-le-suc q)

-- ---- a node stored

module _ (l : List ℤ) (n : ℕ) (x : Node) where
  -- the words after each of the four stores but the last
  abbrev s1 : List ℤ
  s1 = set l (n * node_words) x.kind

  abbrev s2 : List ℤ
  s2 = store_list s1 (n * node_words + 1) x.n

  abbrev s3 : List ℤ
  s3 = set s2 (n * node_words + high_word) x.high

  one : length s1 ≡ length l
  one = length-set l (n * node_words) x.kind

  two : length s2 ≡ length l
  two = store_length s1 (n * node_words + 1) x.n ∙ one

  three : length s3 ≡ length l
  three = length-set s2 (n * node_words + high_word) x.high ∙ two

  -- the length stays
  pub put_length : length (put_at l n x) ≡ length l
  unfolding put_at
  put_length = length-set s3 (n * node_words + low_word) x.low ∙ three

  -- words below the node stay
  put_below : (j : ℕ) → j < n * node_words → get_or (put_at l n x) j (pos 0) ≡ get_or l j (pos 0)
  unfolding put_at
  put_below j h =
      other s3 (n * node_words + low_word) j x.low (omega arith)
      ∙ (other s2 (n * node_words + high_word) j x.high (omega arith) ∙ (store_below s1 (n * node_words + 1) x.n j (omega arith) ∙ other l (n * node_words) j x.kind (omega arith)))

  -- and so do the nodes below it
  pub put_other : (i : ℕ) → i < n → node_at (put_at l n x) i ≡ node_at l i
  unfolding node_at
  put_other i h = λ z. record {
    kind = put_below (i * node_words) (omega arith) z;
    n = part_same numbers (i * node_words + 1) l (put_at l n x) put_length (λ k q. put_below (i * node_words + 1 + k) (omega arith)) z;
    high = put_below (i * node_words + high_word) (omega arith) z;
    low = put_below (i * node_words + low_word) (omega arith) z;
  }

  -- words above the node stay, where it has no more numbers than there are words for
  put_high : length x.n ≡ numbers → (j : ℕ) → n * node_words + node_words ≤ j → get_or (put_at l n x) j (pos 0) ≡ get_or l j (pos 0)
  unfolding put_at
  put_high e j h =
      other s3 (n * node_words + low_word) j x.low (omega arith)
      ∙ (other s2 (n * node_words + high_word) j x.high (omega arith) ∙ (store_above s1 (n * node_words + 1) x.n j (omega arith) ∙ other l (n * node_words) j x.kind (omega arith)))

  -- and so do the nodes above it
  pub put_above : length x.n ≡ numbers → (i : ℕ) → n < i → node_at (put_at l n x) i ≡ node_at l i
  unfolding node_at
  put_above e i h = λ z. record {
    kind = put_high e (i * node_words) (omega arith) z;
    n = part_same numbers (i * node_words + 1) l (put_at l n x) put_length (λ k q. put_high e (i * node_words + 1 + k) (omega arith)) z;
    high = put_high e (i * node_words + high_word) (omega arith) z;
    low = put_high e (i * node_words + low_word) (omega arith) z;
  }

  -- a store of a node leaves every other node
  pub put_else : length x.n ≡ numbers → (i : ℕ) → (i ≡ n → ⊥) → node_at (put_at l n x) i ≡ node_at l i
  put_else e i d = go (ltb i n) refl
    where
      go : (t : Bool) → ltb i n ≡ t → node_at (put_at l n x) i ≡ node_at l i
      go true t = put_other i (ltb-true i n t)
      go false t = put_above e i (let q = ltb-false i n t in omega arith)

  module _ (h : n * node_words + node_words ≤ length l) (e : length x.n ≡ numbers) where
    at_kind : get_or (put_at l n x) (n * node_words) (pos 0) ≡ x.kind
    unfolding put_at
    at_kind =
        other s3 (n * node_words + low_word) (n * node_words) x.low (omega arith)
        ∙ (other s2 (n * node_words + high_word) (n * node_words) x.high (omega arith) ∙ (store_below s1 (n * node_words + 1) x.n (n * node_words) (omega arith) ∙ get_or-set_same l (n * node_words) x.kind (pos 0) (omega arith)))

    at_number : (k : ℕ) → k < numbers → get_or (put_at l n x) (n * node_words + 1 + k) (pos 0) ≡ get_or x.n k (pos 0)
    unfolding put_at
    at_number k q =
        other s3 (n * node_words + low_word) (n * node_words + 1 + k) x.low (omega arith)
        ∙ (other s2 (n * node_words + high_word) (n * node_words + 1 + k) x.high (omega arith) ∙ store_in s1 (n * node_words + 1) x.n k (let w = one in omega arith) (omega arith))

    at_high : get_or (put_at l n x) (n * node_words + high_word) (pos 0) ≡ x.high
    unfolding put_at
    at_high = other s3 (n * node_words + low_word) (n * node_words + high_word) x.low (omega arith) ∙ get_or-set_same s2 (n * node_words + high_word) x.high (pos 0) (let w = two in omega arith)

    at_low : get_or (put_at l n x) (n * node_words + low_word) (pos 0) ≡ x.low
    unfolding put_at
    at_low = get_or-set_same s3 (n * node_words + low_word) x.low (pos 0) (let w = three in omega arith)

    at_numbers : take numbers (drop (n * node_words + 1) (put_at l n x)) ≡ x.n
    at_numbers =
        let w = put_length in
        let d : length (take numbers (drop (n * node_words + 1) (put_at l n x))) ≡ numbers = length_part numbers (n * node_words + 1) (put_at l n x) (omega arith) in
        ext_get_or (pos 0) _ _ (d ∙ sym e) (λ k q. get_d_part numbers (n * node_words + 1) (put_at l n x) k (omega arith) ∙ at_number k (omega arith))

    -- the node is read back
    pub put_same : node_at (put_at l n x) n ≡ x
    unfolding node_at
    put_same = λ z. record { kind = at_kind z; n = at_numbers z; high = at_high z; low = at_low z }

-- ---- as the code does it

-- a part of the words that is written over
pub put_mid_is : (l : List ℤ) (at : ℕ) (s : List ℤ) → at + length s ≤ length l → put_mid at (length s) l s ≡ store_list l at s
unfolding store_list
put_mid_is l at [] h = take-append-drop at l
put_mid_is l at (z ∷ s) h =
    let t : take (suc at) (set l at z) ≡ take at l ++ (z ∷ []) = take-suc-set l at z (omega arith) in
    let d : drop (suc at) (set l at z) ≡ drop (suc at) l = drop-set-lt (suc at) l at z (omega arith) in
    let e : drop (suc (length s)) (drop at l) ≡ drop (length s) (drop (suc at) l) = drop-drop (suc (length s)) at l ∙ (ap (λ (k : ℕ). drop k l) (omega arith) ∙ sym (drop-drop (length s) (suc at) l)) in
    let r : put_mid (suc at) (length s) (set l at z) s ≡ (take at l ++ (z ∷ [])) ++ (s ++ drop (length s) (drop (suc at) l)) = ap₂ (λ (a b : List ℤ). a ++ (s ++ drop (length s) b)) t d in
    ap (λ (b : List ℤ). take at l ++ ((z ∷ s) ++ b)) e ∙ (sym (append_assoc (take at l) (z ∷ []) (s ++ drop (length s) (drop (suc at) l))) ∙ (sym r ∙ put_mid_is (set l at z) (suc at) s (let w = length-set l at z in omega arith)))

-- the stores of a node
pub put_as : (l : List ℤ) (i : ℕ) (x : Node) {a c d : ℤ} {s : List ℤ} → i * node_words + node_words ≤ length l → length x.n ≡ numbers → a ≡ x.kind → c ≡ x.high → d ≡ x.low → s ≡ x.n
    → set (set (put_mid (i * node_words + 1) (i * node_words + high_word - (i * node_words + 1)) (set l (i * node_words) a) s) (i * node_words + high_word) c) (i * node_words + low_word) d ≡ put_at l i x
unfolding put_at
put_as l i x {a} {c} {d} {s} h e ea ec ed es =
    let n : i * node_words + high_word - (i * node_words + 1) ≡ length x.n = omega arith in
    let m : put_mid (i * node_words + 1) (i * node_words + high_word - (i * node_words + 1)) (set l (i * node_words) a) s ≡ store_list (set l (i * node_words) x.kind) (i * node_words + 1) x.n =
    (λ j. put_mid (i * node_words + 1) (n j) (set l (i * node_words) (ea j)) (es j)) ∙ put_mid_is (set l (i * node_words) x.kind) (i * node_words + 1) x.n (let w = length-set l (i * node_words) x.kind in omega arith) in
    λ j. set (set (m j) (i * node_words + high_word) (ec j)) (i * node_words + low_word) (ed j)

-- what was read of a node
pub get_as : (l : List ℤ) (i : ℕ) → i * node_words + node_words ≤ length l → {a c d : ℤ} {k : ℕ} {out : List ℤ} → a ≡ get_or l (i * node_words) (pos 0) → c ≡ get_or l
    (i * node_words + high_word) (pos 0) → d ≡ get_or l (i * node_words + low_word) (pos 0) → Filled numbers (λ j. get_or l (i * node_words + 1 + j) (pos 0)) k out
    → numbers ≤ k → ◌≡◌ {A = Node} (record { kind = a; n = out; high = c; low = d }) (node_at l i)
unfolding node_at
get_as l i h ea ec ed F q = λ j. record { kind = ea j; n = all_filled (node_at l i).n F q (numbers_at l i h) (number_at l i) j; high = ec j; low = ed j }
