-- A name has at most 16 bytes; its answer.
use mathlib.Core.Path.{◌≡◌, refl, ap, ◌∙◌}
use mathlib.Core.List.{List, [], ◌∷◌}
use Prim.Native.Nat.{ℕ, zero, suc, ◌+◌, ◌-◌, ◌≤◌, ◌<◌}
use native.Mathlib.Omega.{arith}
use lib.Dec.{eqb}
use lib.ListN.{length, get_or, drop, replicate, length-append, length-replicate, length-take}
use Rattle.whole.specs.Cases.{if, by_test}
use Rattle.text_decimal.specs.Put.{PutAt}
use Rattle.text_decimal.proofs.Puts.{then, rename}
use Rattle.theory.specs.Command.{Placed, readings}
use Rattle.theory.specs.Verdict.{Verdict}
use Rattle.theory.specs.Name.{names_action, no_part, trimmed, named_part, name_refusal, name_part, name}
use Rattle.c_answers.specs.Answers.{le, pair_bytes, short, answered}
use Rattle.c_name_answers.specs.Names.{padded_name, named_bytes, name_answer}
use Rattle.c_answers.proofs.Bytes.{le_zeros, pair_length}
use Rattle.c_answers.proofs.Answered.{no_room, room}

pub padded_length : (t : List ℕ) → length t ≤ 16 → length (padded_name t) ≡ 16
unfolding padded_name
padded_length t h = omega (arith, length-append t (replicate (16 - length t) 0), length-replicate {A = ℕ} (16 - length t) 0)

pub named_length : (place : ℕ) (t : List ℕ) → length t ≤ 16 → length (named_bytes place t) ≡ 24
unfolding named_bytes
named_length place t h = omega (arith, length-append (pair_bytes place (length t)) (padded_name t), pair_length place (length t), padded_length t h)

-- ---- one part behind the other

module _ {l l₁ l₂ : List ℕ} {n m : ℕ} where
  pub padded_put : {at : ℕ} (t : List ℕ) → at ≤ length l → PutAt l at t n l₁ → PutAt l₁ n (le (16 - length t) 0) m l₂ → PutAt l at (padded_name t) m l₂
  unfolding padded_name
  padded_put t h p q = then h p (rename (le_zeros (16 - length t)) q)

  pub named_put : (place : ℕ) (t : List ℕ) → PutAt l 0 (pair_bytes place (length t)) n l₁ → PutAt l₁ n (padded_name t) m l₂ → PutAt l 0 (named_bytes place t) m l₂
  unfolding named_bytes
  named_put place t p q = then (omega arith) p q

-- ---- the answer

trimmed_most : (l : List ℕ) (k : ℕ) → trimmed l k ≤ k
unfolding trimmed
trimmed_most l zero = omega arith
trimmed_most l (suc k) =
    let h = trimmed_most l k in
    by_test (eqb (get_or l k 0) 0x20) (λ b. if b (trimmed l k) (suc k) ≤ suc k) (λ _. omega arith) (λ _. omega arith)

named_most : (B : List ℕ) (a : ℕ) (l : List Placed) → (named_part B a l).size ≤ 16
unfolding named_part
named_most B a [] = omega arith
named_most B a (x ∷ l) =
    let h = named_most B a l in
    by_test (names_action a x.read) (λ b. (if b (record { start = x.at + 3; size = trimmed (drop (x.at + 3) B) 16 }) (named_part B a l)).size ≤ 16)
    (λ _. trimmed_most (drop (x.at + 3) B) 16) (λ _. h)

part_most : (B : List ℕ) (a : ℕ) → (name_part B a).size ≤ 16
unfolding name_part
part_most B a = by_test (eqb (name_refusal B a).number 0) (λ b. (if b (named_part B a (readings B)) no_part).size ≤ 16) (λ _. named_most B a (readings B)) (λ _. omega arith)

module _ (B : List ℕ) (a : ℕ) where
  pub name_most : {t : List ℕ} → t ≡ name B a → length t ≤ 16
  unfolding name
  name_most e =
      let p = name_part B a in
      omega (arith, part_most B a, length-take p.size (drop p.start B), ap length e)

  module _ (out : List ℕ) {v : Verdict} (e : v ≡ name_refusal B a) where
    pub name_short : {r : ℕ} → length out < 24 → r ≡ short v.number → answered r out ≡ name_answer B a out
    unfolding name_answer
    name_short h s =
        let w = name_refusal B a in
        no_room 24 w.number (named_bytes w.place (name B a)) out h (s ∙ ap (λ (v : Verdict). short v.number) e)

    pub name_whole : {t after : List ℕ} {n : ℕ} → 24 ≤ length out → t ≡ name B a → PutAt out 0 (named_bytes v.place t) n after → answered v.number after ≡ name_answer B a out
    unfolding name_answer
    name_whole {t} {after} {n} h f p =
        let w = name_refusal B a in
        ap (λ (v : Verdict). answered v.number after) e
        ∙ room 24 w.number (named_bytes w.place (name B a)) out h (named_length w.place (name B a) (name_most refl)) (rename (λ i. named_bytes (e i).place (f i)) p)
