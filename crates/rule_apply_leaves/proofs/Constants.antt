-- Two linears that differ by a constant: their coefficients are equal, and the constants' difference decides.
use mathlib.Core.Path.{◌≡◌, refl, sym, ap, ap₂, ◌∙◌, subst}
use mathlib.Core.Bool.{Bool, true, ◌&&◌}
use mathlib.Core.List.{List, [], ◌∷◌}
use Prim.Native.Nat.{ℕ, ◌+◌, ◌-◌, ◌*◌, ◌≤◌, ◌<◌}
use native.Mathlib.Omega.{arith}
use borrow.Author.Tests.{le-leb, lt-leb}
use lib.Dec.{T, compare_is_eq}
use lib.IntN.{ℤ, pos, negsuc, nat_abs, ◌+ℤ◌, ◌-ℤ◌, ◌*ℤ◌, +ℤ_invr, +ℤ_idl, -ℤ-+ℤ_cancel}
use lib.ListN.{length, get_or, take, drop}
use lib.Signed.{le_z}
use mir.Syntax.{w64}
use mir.Val.{SFits}
use Rattle.whole.specs.Cases.{if, both, and_in, from_true, is_true, same_bool}
use Rattle.whole.specs.Linears.{numbers, add_list, scale_list, sub_list}
use Rattle.whole.specs.LinearsLaws.{sub_at, minus, add_take, scale_take, scale_length}
use Rattle.whole.specs.Within.{limit, Small, small}
use Rattle.whole.proofs.Signed.{R}
use Rattle.whole.proofs.Loops.{sub_fits, sub_is}
use Rattle.table.specs.declared.Stop.TheVariants.{Over}
use Rattle.table.specs.Table.{Answer, made, halted, node_words, node_at}
use Rattle.table.proofs.Store.{number_at}
use Rattle.theory.specs.Widths.{levels_most}
use Rattle.theory.proofs.laws.Comps.{cmp_ℤ_eq}
use Rattle.theory.specs.Diagram.{Linear, cmp_ℤ, zeros}
use Rattle.theory.specs.Valid.{all, small_linear}
use Rattle.rule_node.specs.Nodes.{linear_held, constant_of}
use Rattle.rule_node.specs.Table.{Bare}
use Rattle.rule_leaves.specs.Leaves.{less_node}
use Rattle.rule_leaves.proofs.Sums.{less_long}
use Rattle.std.specs.Ordering.{int_eq}
use Rattle.std.proofs.lemmas.Bool.Decides.{Decides-int_eq}
use Rattle.std.proofs.lemmas.List.{take-take}
use lib.Pointwise.{pointwise}
use lib.Seq.{length-take-le}
use Rattle.rule_apply_leaves.specs.Constants.{AtNumbers, better_constant}

-- a node of the table
pub numbers_there : {cap : ℕ} {l : List ℤ} {w : List ℕ} {n : ℕ} → Bare cap l w n → (i : ℕ) → i < n → AtNumbers l i
numbers_there A i h = record { words = let s = A.chained.space in omega (arith, h, s.room, s.words); nums = (A.good.valid i h).nums }

-- ---- a constant lies within the limits where its one number does

zeros_small : (l : List ℤ) → T (zeros l) → T (all small l)
unfolding zeros all small
zeros_small [] t = tt
zeros_small (z ∷ l) t =
    let d = both (compare_is_eq (cmp_ℤ z (pos 0))) (zeros l) t in
    and_in (small z) (all small l) (subst (λ (y : ℤ). T (small y)) (sym (cmp_ℤ_eq z (pos 0) d.0)) tt) (zeros_small l d.1)

pub constant_small : (p : Linear) → zeros p.coeffs ≡ true → small_linear p ≡ small p.const
unfolding small_linear
constant_small p e = ap (λ (b : Bool). b && small p.const) (is_true (all small p.coeffs) (zeros_small p.coeffs (from_true e)))

-- ---- the coefficients, where they stand

zero_difference : (a b : ℤ) → a -ℤ b ≡ pos 0 → a ≡ b
zero_difference a b e = sym (-ℤ-+ℤ_cancel a b) ∙ (ap (λ (z : ℤ). z +ℤ b) e ∙ +ℤ_idl b)

same_number : (x y : ℤ) → compare_is_eq (cmp_ℤ (y +ℤ (negsuc 0 *ℤ x)) (pos 0)) ≡ int_eq x y
same_number x y = same_bool (compare_is_eq (cmp_ℤ (y +ℤ (negsuc 0 *ℤ x)) (pos 0))) (int_eq x y)
    (λ t. from_true ((Decides-int_eq x y).1 (sym (zero_difference y x (minus y x ∙ cmp_ℤ_eq (y +ℤ (negsuc 0 *ℤ x)) (pos 0) t)))))
    (λ t. subst (λ (z : ℤ). T (compare_is_eq (cmp_ℤ z (pos 0)))) {x = pos 0} {y = y +ℤ (negsuc 0 *ℤ x)}
    (sym (sym (minus y x) ∙ (ap (λ (z : ℤ). y -ℤ z) ((Decides-int_eq x y).0 (is_true (int_eq x y) t)) ∙ +ℤ_invr y))) tt)

-- the difference of two lists is 0 where they are equal
zeros_difference : (a b : List ℤ) → length a ≡ length b → zeros (sub_list b a) ≡ pointwise int_eq a b
unfolding zeros add_list scale_list
zeros_difference [] [] e = refl
zeros_difference [] (y ∷ b) e = absurd (omega arith)
zeros_difference (x ∷ a) [] e = absurd (omega arith)
zeros_difference (x ∷ a) (y ∷ b) e = ap₂ ◌&&◌ (same_number x y) (zeros_difference a b (omega arith))

-- as many as the code compares
pub eight_from : (i : ℕ) → i + 8 - i ≡ levels_most
eight_from i = omega arith

sub_take : (n : ℕ) (b a : List ℤ) → length b ≡ length a → take n (sub_list b a) ≡ sub_list (take n b) (take n a)
sub_take n b a e = add_take n b (scale_list (negsuc 0) a) (e ∙ sym (scale_length (negsuc 0) a)) ∙ ap (add_list (take n b)) (scale_take n (negsuc 0) a)

module _ (l : List ℤ) (f g : ℕ) (s : AtNumbers l f × AtNumbers l g) where
  -- the numbers of the two linears, and of their difference
  abbrev a : List ℤ
  a = (node_at l f).n

  abbrev b : List ℤ
  b = (node_at l g).n

  abbrev d : List ℤ
  d = sub_list b a

  d_long : length d ≡ numbers
  unfolding less_node
  d_long = less_long (node_at l g) (node_at l f) s.1.nums s.0.nums

  number_less : (k : ℕ) → k < numbers → get_or d k (pos 0) ≡ get_or b k (pos 0) -ℤ get_or a k (pos 0)
  number_less k h = sub_at b a (s.1.nums.long ∙ sym s.0.nums.long) k (let w = s.1.nums.long in omega arith)

  pub constant_less : constant_of (less_node (node_at l g) (node_at l f)) ≡ constant_of (node_at l g) -ℤ constant_of (node_at l f)
  unfolding less_node
  constant_less = number_less levels_most (omega arith)

  module _ (k : ℕ) (h : k < numbers) where
    abbrev p : ℤ
    p = get_or l (f * node_words + 1 + k) (pos 0)

    abbrev q : ℤ
    q = get_or l (g * node_words + 1 + k) (pos 0)

    read_f : get_or a k (pos 0) ≡ p
    read_f = number_at l f k h

    read_g : get_or b k (pos 0) ≡ q
    read_g = number_at l g k h

    p_small : Small p
    p_small = subst Small read_f (s.0.nums.each k)

    q_small : Small q
    q_small = subst Small read_g (s.1.nums.each k)

  -- their first eight, as the code compares them
  pub coefficients_same : {r : Bool} {x y : List ℤ} → x ≡ take levels_most (drop (f * node_words + 1) l) → y ≡ take levels_most (drop (g * node_words + 1) l) → r ≡ pointwise int_eq x y
      → r ≡ zeros (linear_held (less_node (node_at l g) (node_at l f))).coeffs
  unfolding linear_held less_node node_at
  coefficients_same ex ey er =
      er ∙ (ap₂ (pointwise int_eq) (ex ∙ sym (take-take levels_most numbers _ (omega arith))) (ey ∙ sym (take-take levels_most numbers _ (omega arith)))
      ∙ sym (ap zeros (sub_take levels_most b a (s.1.nums.long ∙ sym s.0.nums.long)) ∙ zeros_difference (take levels_most a) (take levels_most b) (length-take-le levels_most a (let w = s.0.nums.long in omega arith) ∙ sym (length-take-le levels_most b (let w = s.1.nums.long in omega arith)))))

  -- ---- the constants' difference, as the code works it out

  abbrev last : ℤ
  last = R (get_or l (g * node_words + 1 + levels_most) (pos 0)) -ℤ R (get_or l (f * node_words + 1 + levels_most) (pos 0))

  pub constants_fit : SFits w64 last
  constants_fit = sub_fits _ _ (q_small levels_most (omega arith)) (p_small levels_most (omega arith))

  last_is : R last ≡ constant_of (node_at l g) -ℤ constant_of (node_at l f)
  last_is =
      sub_is _ _ (q_small levels_most (omega arith)) (p_small levels_most (omega arith))
      ∙ ap₂ ◌-ℤ◌ (sym (read_g levels_most (omega arith))) (sym (read_f levels_most (omega arith)))

  abbrev answer : ℕ → Bool → Bool → Answer
  answer n s t = if s (made (if t f g) n) (halted Over n)

  module _ (n : ℕ) {m : ℕ} (e : m ≡ nat_abs (R last)) where
    pub constants_over : limit < m → ◌≡◌ {A = Answer} (halted Over n) (better_constant n f g (constant_of (node_at l g) -ℤ constant_of (node_at l f)))
    unfolding better_constant small
    constants_over h = sym (ap (better_constant n f g) (sym last_is) ∙ ap (λ (s : Bool). answer n s (le_z (R last) (pos 0))) (lt-leb (nat_abs (R last)) limit (omega arith)))

    pub constants_decide : m ≤ limit → {k : ℕ} → k ≡ if (le_z (R last) (pos 0)) f g
        → ◌≡◌ {A = Answer} (made k n) (better_constant n f g (constant_of (node_at l g) -ℤ constant_of (node_at l f)))
    unfolding better_constant small
    constants_decide h d =
        ap (λ (k : ℕ). made k n) d
        ∙ sym (ap (better_constant n f g) (sym last_is) ∙ ap (λ (s : Bool). answer n s (le_z (R last) (pos 0))) (le-leb (nat_abs (R last)) limit (omega arith)))
