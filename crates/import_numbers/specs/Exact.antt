-- 25 exactly where a number of the text is beyond signed 32 bits.
use Rattle.std.specs.Prelude.{◌≡◌, refl, Bool, true, false, ◌&&◌, List, [], ◌∷◌, ℕ, zero, suc, ◌<◌, T, ℤ, pos, length, get_or}
use Rattle.std.proofs.Common.{sym, subst, arith}
use Rattle.std.proofs.lemmas.Bool.{not-true, not-false}
use Rattle.theory.specs.Plain.{in_32_bits}
use Rattle.import_grammar.specs.Grammar.{Text}
use Rattle.import_numbers.specs.Numbers.{numbers, all_within, beyond, Within32}

-- the place of a number that is beyond
pub record Outside (l : List ℤ) : Type 0 where
  pub place : ℕ
  pub inside : place < length l
  pub outside : Within32 (get_or l place (pos 0)) → ⊥

never : false ≡ true → ⊥
never e = let w : ◌≡◌ {A = ℕ} 0 1 = cc in omega arith

found : (l : List ℤ) → all_within l ≡ false → Outside l
unfolding all_within Within32
found [] e = absurd (never (sym e))
found (z ∷ l) e = go (in_32_bits z) refl e (found l)
  where
    go : (b : Bool) → in_32_bits z ≡ b → (b && all_within l) ≡ false → (all_within l ≡ false → Outside l) → Outside (z ∷ l)
    go true f e rest = let r = rest e in record { place = suc r.place; inside = let h = r.inside in omega arith; outside = r.outside }
    go false f e rest = record { place = 0; inside = omega arith; outside = λ t. subst T f t }

each : (l : List ℤ) → all_within l ≡ true → (k : ℕ) → k < length l → Within32 (get_or l k (pos 0))
unfolding all_within Within32
each [] e k h = absurd (omega arith)
each (z ∷ l) e k h = go (in_32_bits z) refl e k h (each l)
  where
    go : (b : Bool) → in_32_bits z ≡ b → (b && all_within l) ≡ true → (k : ℕ) → k < length (z ∷ l) → (all_within l ≡ true → (j : ℕ) → j < length l → T (in_32_bits (get_or l j (pos 0)))) → T (in_32_bits (get_or (z ∷ l) k (pos 0)))
    go true f e zero h rest = subst T (sym f) tt
    go true f e (suc j) h rest = rest e j (omega arith)
    go false f e k h rest = absurd (never e)

pub beyond_where : (t : Text) → beyond t ≡ true → Outside (numbers t)
unfolding beyond
beyond_where t e = found (numbers t) (not-true (all_within (numbers t)) e)

pub beyond_nowhere : (t : Text) → beyond t ≡ false → (k : ℕ) → k < length (numbers t) → Within32 (get_or (numbers t) k (pos 0))
unfolding beyond
beyond_nowhere t e = each (numbers t) (not-false (all_within (numbers t)) e)
