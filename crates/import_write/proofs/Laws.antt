-- How many bytes a command has, and that they are the parts that are written.
use mathlib.Core.Path.{◌≡◌, refl, sym, ap, ◌∙◌}
use mathlib.Core.List.{List, [], ◌∷◌, ◌++◌, append_assoc, append-nil}
use Prim.Native.Nat.{ℕ, suc, ◌+◌, ◌≤◌}
use native.Mathlib.Omega.{arith}
use borrow.Author.Tests.{eq-eqb, ne_eqb}
use lib.IntN.{ℤ, pos}
use lib.ListN.{length}
use lib.Seq.{take-suc, take_all}
use Rattle.whole.specs.Linears.{coefficients, numbers}
use Rattle.theory.specs.Diagram.{Linear}
use Rattle.theory.specs.Command.{Command, site, push_condition, push_forbidden, name_action, end_model}
use Rattle.model_command.specs.CursorReadings.{linear_of}
use Rattle.text_decimal.specs.Put.{PutAt}
use Rattle.text_decimal.proofs.Puts.{then, rename}
use Rattle.import_numbers.specs.Numbers.{nine}
use Rattle.import_model.specs.Encode.{low_first, words_bytes, linear_bytes, slot_bytes, action_encoded, command_bytes, encode}
use Rattle.import_words.proofs.Laws.{words_end, words_length}
use Rattle.import_write.specs.Writes.{leaf_of, test_of, given_of}

-- ---- nine numbers

linear_spelt : (p : Linear) → linear_bytes p ≡ words_bytes (nine p)
unfolding linear_bytes
linear_spelt p = sym (words_end p.coeffs p.const)

pub nine_of : (a : List ℤ) → length a ≡ numbers → nine (linear_of a) ≡ a
nine_of a n = sym (take-suc a coefficients (pos 0) (omega (arith, n))) ∙ take_all numbers a (omega (arith, n))

pub linear_is : (a : List ℤ) → length a ≡ numbers → words_bytes a ≡ linear_bytes (linear_of a)
linear_is a n = ap words_bytes (sym (nine_of a n)) ∙ sym (linear_spelt (linear_of a))

linear_length : (a : List ℤ) → length a ≡ numbers → length (linear_bytes (linear_of a)) ≡ 36
linear_length a n = omega (arith, ap length (linear_is a n), words_length a, n)

-- ---- how many bytes

pub action_length : (a : ℕ) → length (action_encoded a) ≡ 2
unfolding low_first
action_length a = refl

module _ (a : List ℤ) (n : length a ≡ numbers) where
  pub leaf_length : length (command_bytes (leaf_of a)) ≡ 37
  unfolding command_bytes
  leaf_length = ap suc (linear_length a n)

  pub test_length : length (command_bytes (test_of a)) ≡ 37
  unfolding command_bytes
  test_length = ap suc (linear_length a n)

pub site_length : (m n a w : ℕ) → length (command_bytes (site m n a w)) ≡ 6
unfolding command_bytes low_first
site_length m n a w = refl

pub condition_length : (k : ℕ) → length (command_bytes (push_condition k)) ≡ 2
unfolding command_bytes
condition_length k = refl

pub forbidden_length : length (command_bytes push_forbidden) ≡ 1
unfolding command_bytes
forbidden_length = refl

pub end_length : length (command_bytes end_model) ≡ 1
unfolding command_bytes
end_length = refl

pub name_length : (a : ℕ) (t : List ℕ) → length (command_bytes (name_action a t)) ≡ 3 + length t
unfolding command_bytes low_first
name_length a t = omega arith

-- ---- the parts of a command

pub leaf_is : (a : List ℤ) → 0x10 ∷ linear_bytes (linear_of a) ≡ command_bytes (leaf_of a)
unfolding command_bytes
leaf_is a = refl

pub test_is : (a : List ℤ) → 0x12 ∷ linear_bytes (linear_of a) ≡ command_bytes (test_of a)
unfolding command_bytes
test_is a = refl

pub condition_is : (k : ℕ) → 0x11 ∷ k ∷ [] ≡ command_bytes (push_condition k)
unfolding command_bytes
condition_is k = refl

pub forbidden_is : 0x13 ∷ [] ≡ command_bytes push_forbidden
unfolding command_bytes
forbidden_is = refl

pub end_is : 0xff ∷ [] ≡ command_bytes end_model
unfolding command_bytes
end_is = refl

pub site_is : (m n a w : ℕ) → 0x02 ∷ m ∷ n ∷ (action_encoded a ++ (w ∷ [])) ≡ command_bytes (site m n a w)
unfolding command_bytes
site_is m n a w = refl

pub name_is : (a : ℕ) (t : List ℕ) → 0x30 ∷ (action_encoded a ++ t) ≡ command_bytes (name_action a t)
unfolding command_bytes
name_is a t = refl

module _ (c a k : ℕ) where
  pub reward_is : c ≡ 0x20 → 0x20 ∷ action_encoded a ≡ command_bytes (given_of c a k)
  unfolding command_bytes slot_bytes
  reward_is e = simp (eq-eqb c 0x20 e)

  module _ (m : c ≡ 0x20 → ⊥) where
    pub end_worth_is : c ≡ 0x23 → 0x23 ∷ [] ≡ command_bytes (given_of c a k)
    unfolding command_bytes slot_bytes
    end_worth_is e = simp (ne_eqb c 0x20 m, eq-eqb c 0x23 e)

    pub indexed_is : (c ≡ 0x23 → ⊥) → c ∷ (action_encoded a ++ (k ∷ [])) ≡ command_bytes (given_of c a k)
    unfolding command_bytes slot_bytes
    indexed_is e = simp (ne_eqb c 0x20 m, ne_eqb c 0x23 e)

    pub indexed_length : (c ≡ 0x23 → ⊥) → length (command_bytes (given_of c a k)) ≡ 4
    unfolding low_first
    indexed_length e = sym (ap length (indexed_is e))

    pub end_worth_length : c ≡ 0x23 → length (command_bytes (given_of c a k)) ≡ 1
    end_worth_length e = sym (ap length (end_worth_is e))

  pub reward_length : c ≡ 0x20 → length (command_bytes (given_of c a k)) ≡ 3
  unfolding low_first
  reward_length e = sym (ap length (reward_is e))

-- ---- command by command

encode_more : (C : List Command) (c : Command) → encode C ++ command_bytes c ≡ encode (C ++ (c ∷ []))
unfolding encode
encode_more [] c = sym (append-nil (command_bytes c))
encode_more (d ∷ C) c = append_assoc (command_bytes d) (encode C) (command_bytes c) ∙ ap (λ (l : List ℕ). command_bytes d ++ l) (encode_more C c)

pub next_command : {l l₁ l₂ : List ℕ} {at n m : ℕ} (C : List Command) (c : Command) → at ≤ length l
    → PutAt l at (encode C) n l₁ → PutAt l₁ n (command_bytes c) m l₂ → PutAt l at (encode (C ++ (c ∷ []))) m l₂
next_command C c h p q = rename (encode_more C c) (then h p q)
