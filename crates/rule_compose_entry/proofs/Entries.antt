-- Laws of a substitution's entry and of a node's condition.
use mathlib.Core.Path.{◌≡◌, refl, sym, ap, ap₂, ◌∙◌, subst}
use mathlib.Core.Bool.{Bool, true, false}
use mathlib.Core.List.{List, [], ◌∷◌}
use Prim.Native.Nat.{ℕ, zero, suc, ◌+◌, ◌-◌, ◌*◌, ◌/◌, ◌%◌, ◌≤◌, ◌<◌}
use native.Mathlib.Omega.{arith}
use borrow.Author.Tests.{lt-ltb, le-ltb, ltb-true, ltb-false}
use lib.Dec.{ltb}
use lib.IntN.{pos, nat_abs}
use lib.ListN.{length, get_or, take}
use Rattle.whole.specs.Cases.{if}
use Rattle.table.specs.Table.{eq_ℤ}
use Rattle.table.specs.declared.Node.{Node}
use Rattle.theory.specs.Widths.{levels_most, conditions_most}
use Rattle.theory.specs.Diagram.{now, later, linear}
use Rattle.rule_node.specs.Nodes.{first_of, linear_held, condition_of, test_held, Tested}
use Rattle.rule_node.specs.EntryMeaning.{halves, indexes}
use Rattle.table_cache.specs.Cache.{Key}
use Rattle.rule_combine.specs.Levels.{Levels}
use Rattle.rule_compose_entry.specs.declared.Words.{Words}
use Rattle.rule_compose_entry.specs.Entry.{pair, entry_words, HeldEntry, with_result, condition_in}

-- ---- two indexes in a word

module _ (a b : ℕ) (ha : a < 65536) where
  pub pair_low : pair a b % 65536 ≡ a
  unfolding pair
  pair_low = omega arith

  pub pair_high : pair a b / 65536 ≡ b
  unfolding pair
  pair_high = omega arith

  pub pair_small : b < 65536 → pair a b < 4294967296
  unfolding pair
  pair_small hb = omega arith

-- an entry for the same words
pub held_as : (cap r : ℕ) (w : List ℕ) {k k' : Words} → k ≡ k' → HeldEntry cap w k r → HeldEntry cap w k' r
held_as cap r w e E = subst (λ (k : Words). HeldEntry cap w k r) e E

pub stored_as : (cap r : ℕ) (w : List ℕ) {w' : List ℕ} {k k' : Words} → k ≡ k' → w' ≡ with_result cap w k r → w' ≡ with_result cap w k' r
stored_as cap r w e s = s ∙ ap (λ (k : Words). with_result cap w k r) e

-- k numbers of L from i on, 0 beyond them
firsts : ℕ → ℕ → List ℕ → List ℕ
firsts i zero L = []
firsts i (suc k) L = get_or L i 0 ∷ firsts (suc i) k L

firsts_next : (i k d : ℕ) (L : List ℕ) → firsts (suc i) k (d ∷ L) ≡ firsts i k L
unfolding firsts
firsts_next i zero d L = refl
firsts_next i (suc k) d L = ap (λ (r : List ℕ). get_or L i 0 ∷ r) (firsts_next (suc i) k d L)

-- as many as there are of them are L
taken : (k : ℕ) (L : List ℕ) → length L ≤ k → take (length L) (firsts 0 k L) ≡ L
unfolding firsts
taken k [] h = refl
taken zero (d ∷ L) h = absurd (omega arith)
taken (suc k) (d ∷ L) h = ap (λ (r : List ℕ). d ∷ take (length L) r) (firsts_next 0 k d L) ∙ ap (λ (r : List ℕ). d ∷ r) (taken k L (omega arith))

module _ (f : ℕ) (L : List ℕ) (h : f < 65536) (B : Levels 65536 L) where
  abbrev K : Words
  K = entry_words f L

  two_small : (i j : ℕ) → pair (get_or L i 0) (get_or L j 0) < 4294967296
  two_small i j = pair_small (get_or L i 0) (get_or L j 0) (B.below i) (B.below j)

  coded : 12 + length L * 16 < 65536
  coded = let q = B.most in omega arith

  -- the words of an entry fit
  words_fit : Key K.op K.f K.g K.p K.q
  unfolding entry_words
  words_fit = record {
    op_fits = pair_small (12 + length L * 16) (get_or L 0 0) coded (B.below 0);
    f_fits = pair_small f (get_or L 1 0) h (B.below 1);
    g_fits = two_small 2 3;
    p_fits = two_small 4 5;
    q_fits = two_small 6 7;
  }

  pub key_fits : {k : Words} → k ≡ K → Key k.op k.f k.g k.p k.q
  key_fits e = subst (λ (k : Words). Key k.op k.f k.g k.p k.q) (sym e) words_fit

  -- the first has the rule's number
  pub code_is : K.op % 16 ≡ 12
  unfolding entry_words pair
  code_is = omega arith

  pub place_is : K.f % 65536 ≡ f
  unfolding entry_words
  place_is = pair_low f (get_or L 1 0) h

  count_is : K.op % 65536 / 16 ≡ length L
  unfolding entry_words
  count_is = ap (λ (m : ℕ). m / 16) (pair_low (12 + length L * 16) (get_or L 0 0) coded) ∙ (let e : (12 + length L * 16) / 16 ≡ length L = omega arith in e)

  low : (i j : ℕ) → pair (get_or L i 0) (get_or L j 0) % 65536 ≡ get_or L i 0
  low i j = pair_low (get_or L i 0) (get_or L j 0) (B.below i)

  high : (i j : ℕ) → pair (get_or L i 0) (get_or L j 0) / 65536 ≡ get_or L j 0
  high i j = pair_high (get_or L i 0) (get_or L j 0) (B.below i)

  -- and all of them the levels
  pub indexes_are : indexes K.op K.f K.g K.p K.q ≡ L
  unfolding entry_words indexes halves firsts
  indexes_are =
      (λ t. take (count_is t)
      (pair_high (12 + length L * 16) (get_or L 0 0) coded t ∷ pair_high f (get_or L 1 0) h t
      ∷ low 2 3 t ∷ high 2 3 t ∷ low 4 5 t ∷ high 4 5 t ∷ low 6 7 t ∷ high 6 7 t ∷ []))
      ∙ taken levels_most L B.most

-- ---- the condition of a node

module _ (x : Node) where
  abbrev j : ℕ
  j = nat_abs (first_of x)

  abbrev numbered : Bool → Bool → ℕ
  numbered a b = if a (if b (j - conditions_most) j) 0

  pub condition_later : eq_ℤ x.kind (pos 1) ≡ true → conditions_most < j → condition_in x ≡ j - conditions_most
  unfolding condition_in
  condition_later e h = ap₂ numbered e (lt-ltb conditions_most j h)

  pub condition_now : eq_ℤ x.kind (pos 1) ≡ true → j ≤ conditions_most → condition_in x ≡ j
  unfolding condition_in
  condition_now e h = ap₂ numbered e (le-ltb conditions_most j h)

  pub condition_none : eq_ℤ x.kind (pos 1) ≡ false → condition_in x ≡ 0
  unfolding condition_in
  condition_none e = ap (λ (a : Bool). numbered a (ltb conditions_most j)) e

  -- as the code finds it
  module _ {k : ℕ} (ek : k ≡ nat_abs (first_of x)) (e : eq_ℤ x.kind (pos 1) ≡ true) where
    pub found_later : 4 < k → k - 4 ≡ condition_in x
    found_later h = ap (λ (k : ℕ). k - 4) ek ∙ sym (condition_later e (omega arith))

    pub found_now : k ≤ 4 → k ≡ condition_in x
    found_now h = ek ∙ sym (condition_now e (omega arith))

  pub test_cond : eq_ℤ x.kind (pos 1) ≡ true → test_held x ≡ condition_of j
  unfolding test_held
  test_cond e = ap (λ (b : Bool). if b (condition_of j) (linear (linear_held x))) e

  pub test_lin : eq_ℤ x.kind (pos 1) ≡ false → test_held x ≡ linear (linear_held x)
  unfolding test_held
  test_lin e = ap (λ (b : Bool). if b (condition_of j) (linear (linear_held x))) e

  pub cond_later : conditions_most < j → condition_of j ≡ later (j - conditions_most)
  unfolding condition_of
  cond_later h = ap (λ (b : Bool). if b (later (j - conditions_most)) (now j)) (lt-ltb conditions_most j h)

  pub cond_now : j ≤ conditions_most → condition_of j ≡ now j
  unfolding condition_of
  cond_now h = ap (λ (b : Bool). if b (later (j - conditions_most)) (now j)) (le-ltb conditions_most j h)

  pub condition_most : Tested x → condition_in x ≤ conditions_most
  condition_most t = go (eq_ℤ x.kind (pos 1)) refl (ltb conditions_most j) refl
    where
      go : (a : Bool) → eq_ℤ x.kind (pos 1) ≡ a → (b : Bool) → ltb conditions_most j ≡ b → condition_in x ≤ conditions_most
      go true e true h = let q = condition_later e (ltb-true conditions_most j h) in let r = (t.bounds e).1 in omega arith
      go true e false h = let q = condition_now e (ltb-false conditions_most j h) in let r = ltb-false conditions_most j h in omega arith
      go false e b h = let q = condition_none e in omega arith
