-- The best and the largest of the others, kept over one pass: the best leads every other action exactly where it leads that one.
use mathlib.Core.Path.{◌≡◌, refl, sym, ap, ap₂, ◌∙◌, subst}
use mathlib.Core.Bool.{Bool, true, false, not, ◌&&◌}
use Prim.Native.Nat.{ℕ, suc, ◌≤◌}
use native.Mathlib.Omega.{arith}
use borrow.Author.Tests.{ne_eqb, eq-eqb}
use lib.Dec.{T, eqb, ltb, ltb→lt, nltb→le}
use lib.IntN.{ℤ, pos, ◌+ℤ◌}
use lib.ListN.{length}
use lib.Signed.{◌≤ℤ◌, le_z, lt_z, le_z_yes, lt_z_yes, lt_z_no, ≤ℤ_refl, <ℤ_irrefl, <ℤ-≤ℤ_trans}
use Rattle.whole.specs.Cases.{if, by_test, by_eq, both, and_in, from_true, same_bool, clash, is_true}
use Rattle.whole.specs.Int.{add_mono, ≤_trans, not_le}
use Rattle.theory.specs.Meaning.{Model, State}
use Rattle.theory.specs.Valid.{all}
use Rattle.theory.specs.Verdict.{or, from_to}
use Rattle.theory.specs.Plain.{Worth, is, nothing, over, better, numbered}
use Rattle.theory.proofs.laws.Rows.{all_from, from_each}
use Rattle.plain_limits.specs.Totals.{tried, is_over}
use Rattle.price_change.specs.Sure.{exceeds, worth_of, leads}
use Rattle.price_margin.specs.Rivals.{beats, rival}

-- ---- what exceeds the larger of two exceeds both

larger_and : (a b c : Bool) → (T a → T b) → c ≡ a → c ≡ a && b
larger_and true b c f e = e ∙ sym (is_true b (f tt))
larger_and false b c f e = e

and_true : (a : Bool) → a && true ≡ a
and_true true = refl
and_true false = refl

and_false : (a : Bool) → a && false ≡ false
and_false true = refl
and_false false = refl

and_comm : (a b : Bool) → a && b ≡ b && a
and_comm true b = sym (and_true b)
and_comm false b = sym (and_false b)

module _ (d : ℕ) (z : ℤ) where
  lower : (u v : ℤ) (a b : ℕ) → u ≤ℤ v → T (exceeds d z (is v b)) → T (exceeds d z (is u a))
  unfolding exceeds
  lower u v a b h t = (≤_trans (u +ℤ pos (suc d)) (v +ℤ pos (suc d)) z (add_mono u v (pos (suc d)) (pos (suc d)) h (≤ℤ_refl (pos (suc d)))) (le_z_yes t)).le

  pub exceeds_both : (a : ℕ) (o t : Worth) → exceeds d z (tried o a t) ≡ exceeds d z o && exceeds d z t
  unfolding tried better numbered exceeds
  exceeds_both a (is v b) (is u c) = by_test (le_z u v) (λ k. exceeds d z (if k (is v b) (is u a)) ≡ exceeds d z (is v b) && exceeds d z (is u c))
      (λ k. larger_and _ _ _ (lower u v c b (le_z_yes k)) refl)
      (λ k. larger_and (exceeds d z (is u c)) (exceeds d z (is v b)) _ (lower v u b c (not_le u v k)) refl ∙ and_comm (exceeds d z (is u c)) (exceeds d z (is v b)))
  exceeds_both a (is v b) nothing = sym (and_true (exceeds d z (is v b)))
  exceeds_both a (is v b) over = sym (and_false (exceeds d z (is v b)))
  exceeds_both a nothing (is u c) = refl
  exceeds_both a nothing nothing = refl
  exceeds_both a nothing over = refl
  exceeds_both a over t = refl

-- ---- all of the numbers 1 to k

all_snoc : (p : ℕ → Bool) (k : ℕ) → all p (from_to 1 (suc k)) ≡ all p (from_to 1 k) && p (suc k)
all_snoc p k = same_bool _ _
    (λ t. and_in (all p (from_to 1 k)) (p (suc k)) (from_each p 1 k (λ i a b. all_from p 1 (suc k) t i a (omega arith))) (all_from p 1 (suc k) t (suc k) (omega arith) (omega arith)))
    (λ t. let d = both (all p (from_to 1 k)) (p (suc k)) t in from_each p 1 (suc k) (λ i a b. by_test (ltb i (suc k)) (λ _. T (p i))
    (λ u. all_from p 1 k d.0 i a (omega (arith, ltb→lt i (suc k) u)))
    (λ u. subst (λ (j : ℕ). T (p j)) (let q = nltb→le i (suc k) u in let z : suc k ≡ i = omega arith in z) d.1)))

all_ext : (p q : ℕ → Bool) (k : ℕ) → ((i : ℕ) → i ≤ k → p i ≡ q i) → all p (from_to 1 k) ≡ all q (from_to 1 k)
all_ext p q k f = same_bool _ _
    (λ t. from_each q 1 k (λ i a b. subst T (f i (omega arith)) (all_from p 1 k t i a b)))
    (λ t. from_each p 1 k (λ i a b. subst T (sym (f i (omega arith))) (all_from q 1 k t i a b)))

-- ---- the best and the others

-- the action that a worth is of, 0 where it has none
unfoldable pub number_of : Worth → ℕ
number_of (is v a) = a
number_of nothing = 0
number_of over = 0

-- of actions 1 to k, whose worths F gives: the best, and the largest of the others
pub record Kept (F : ℕ → Worth) (k : ℕ) (best other : Worth) : Type 0 where
  pub among : number_of best ≤ k
  pub each : (d : ℕ) (z : ℤ) → all (λ b. exceeds d z (F b)) (from_to 1 k) ≡ exceeds d z best
  pub rest : (d : ℕ) (z : ℤ) → all (λ b. or (eqb b (number_of best)) (exceeds d z (F b))) (from_to 1 k) ≡ exceeds d z other

pub kept_first : (F : ℕ → Worth) (o : Worth) → F 1 ≡ o → is_over (numbered 1 o) ≡ false → Kept F 1 (numbered 1 o) nothing
unfolding numbered is_over number_of exceeds all from_to
kept_first F (is v a) e f = record { among = omega arith; each = λ d z. and_true _ ∙ ap (exceeds d z) e; rest = λ d z. refl }
kept_first F nothing e f = record { among = omega arith; each = λ d z. and_true _ ∙ ap (exceeds d z) e; rest = λ d z. and_true _ ∙ ap (exceeds d z) e }
kept_first F over e f = clash f

not_above : (v u : ℤ) → lt_z v u ≡ true → le_z u v ≡ false
not_above v u k = by_test (le_z u v) (λ b. b ≡ false) (λ t. absurd (<ℤ_irrefl {a = v} (<ℤ-≤ℤ_trans {a = v} {b = u} {c = v} (lt_z_yes {a = v} {b = u} (from_true k)) (le_z_yes {a = u} {b = v} t)))) (λ _. refl)

at_least : (v u : ℤ) → lt_z v u ≡ false → le_z u v ≡ true
at_least v u k = is_true (le_z u v) (lt_z_no {a = v} {b = u} (subst (λ (b : Bool). T (not b)) (sym k) tt)).le

-- a worth that beats the best is the best, under its own number; else the number stays
number_new : (best t : Worth) (a : ℕ) → beats t best ≡ true → is_over (tried best a t) ≡ false → number_of (tried best a t) ≡ a
unfolding beats tried better numbered is_over number_of
number_new (is v b) (is u c) a k f = ap (λ (y : Bool). number_of (if y (is v b) (is u a))) (not_above v u k)
number_new nothing (is u c) a k f = refl
number_new over (is u c) a k f = clash f
number_new best nothing a k f = clash (sym k)
number_new best over a k f = clash (sym k)

number_old : (best t : Worth) (a : ℕ) → beats t best ≡ false → is_over (tried best a t) ≡ false → number_of (tried best a t) ≡ number_of best
unfolding beats tried better numbered is_over number_of
number_old (is v b) (is u c) a k f = ap (λ (y : Bool). number_of (if y (is v b) (is u a))) (at_least v u k)
number_old (is v b) nothing a k f = refl
number_old (is v b) over a k f = clash f
number_old nothing (is u c) a k f = clash k
number_old nothing nothing a k f = refl
number_old nothing over a k f = refl
number_old over t a k f = refl

module _ (F : ℕ → Worth) (k : ℕ) (best other : Worth) (K : Kept F k best other) (t : Worth) (e : F (suc k) ≡ t) (fine : is_over (tried best (suc k) t) ≡ false) where
  abbrev new : Worth
  new = tried best (suc k) t

  each_on : (d : ℕ) (z : ℤ) → all (λ b. exceeds d z (F b)) (from_to 1 (suc k)) ≡ exceeds d z new
  each_on d z = all_snoc (λ b. exceeds d z (F b)) k ∙ ap₂ ◌&&◌ (K.each d z) (ap (exceeds d z) e) ∙ sym (exceeds_both d z (suc k) best t)

  abbrev others_of : ℕ → ℕ → ℤ → ℕ → Bool
  others_of n d z b = or (eqb b n) (exceeds d z (F b))

  on_beaten : beats t best ≡ true → Kept F (suc k) new best
  on_beaten q = let n = number_new best t (suc k) q fine in record {
    among = subst (λ (m : ℕ). m ≤ suc k) (sym n) (omega arith);
    each = each_on;
    rest = λ d z. ap (λ (m : ℕ). all (others_of m d z) (from_to 1 (suc k))) n ∙ all_snoc (others_of (suc k) d z) k
        ∙ ap₂ ◌&&◌ (all_ext (others_of (suc k) d z) (λ b. exceeds d z (F b)) k (λ i h. ap (λ (y : Bool). or y (exceeds d z (F i))) (ne_eqb i (suc k) (λ w. omega arith))) ∙ K.each d z)
        (ap (λ (y : Bool). or y (exceeds d z (F (suc k)))) (eq-eqb (suc k) (suc k) refl))
        ∙ and_true _;
  }

  on_stays : beats t best ≡ false → Kept F (suc k) new (tried other 0 t)
  on_stays q = let n = number_old best t (suc k) q fine in record {
    among = subst (λ (m : ℕ). m ≤ suc k) (sym n) (omega (arith, K.among));
    each = each_on;
    rest = λ d z. ap (λ (m : ℕ). all (others_of m d z) (from_to 1 (suc k))) n ∙ all_snoc (others_of (number_of best) d z) k
        ∙ ap₂ ◌&&◌ (K.rest d z) (ap (λ (y : Bool). or y (exceeds d z (F (suc k)))) (ne_eqb (suc k) (number_of best) (λ w. omega (arith, K.among))) ∙ ap (exceeds d z) e)
        ∙ sym (exceeds_both d z 0 other t);
  }

  pub kept_on : Kept F (suc k) new (rival best other t)
  unfolding rival
  kept_on = by_eq (beats t best) (λ y. Kept F (suc k) new (if y best (tried other 0 t))) on_beaten on_stays

-- where all actions are counted, the best leads exactly where it exceeds the largest of the others
pub leads_by : (M : Model) (h : ℕ) (s : State) (d : ℕ) (v : ℤ) (a : ℕ) (other : Worth) → Kept (worth_of M h s) (suc (length M.others)) (is v a) other → leads M h s d v a ≡ exceeds d v other
unfolding leads number_of
leads_by M h s d v a other K = K.rest d v
