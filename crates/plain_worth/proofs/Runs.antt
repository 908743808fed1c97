-- The runs over settings and over actions, a turn at a time.
use Rattle.std.specs.Prelude.{Option, Some, None}
use mathlib.Core.Path.{◌≡◌, refl, sym, ap, ap₂, ◌∙◌}
use mathlib.Core.Bool.{Bool, true, false}
use mathlib.Core.List.{List, [], ◌∷◌, map}
use Prim.Native.Nat.{ℕ, zero, suc, ◌+◌, ◌-◌, ◌*◌, ◌%◌, ◌^◌, ◌≤◌, ◌<◌}
use native.Mathlib.Nat.{pow-succ'}
use native.Mathlib.Omega.{arith}
use native.Mathlib.Numerals.{add-one}
use borrow.Author.Tests.{eq-eqb, ne_eqb, leb-false, ltb-false}
use lib.Dec.{T, eqb, leb, ltb, leb→le, ltb→lt}
use lib.IntN.{ℤ, pos, ◌+ℤ◌, ◌*ℤ◌}
use Rattle.whole.specs.Cases.{if, by_test, from_true, clash}
use Rattle.whole.specs.Within.{limited, small}
use Rattle.theory.specs.Meaning.{Action, State, settings, doubled}
use Rattle.theory.specs.Valid.{all}
use Rattle.theory.specs.Verdict.{from_to, or}
use Rattle.plain_pass.proofs.Points.{or_out}
use Rattle.theory.specs.Value.{bits}
use Rattle.theory.specs.Plain.{Worth, is, nothing, over, judged, in_32_bits, sum_settings, try_actions}
use Rattle.plain_limits.specs.Totals.{plus_of, added_of, summed, tried, KeptSum, stopped, is_over}

-- ---- the settings, by their masks

even_bit : (b : ℕ) → eqb (2 * b % 2) 1 ≡ false
even_bit b = ne_eqb (2 * b % 2) 1 (λ e. omega arith)

odd_bit : (b : ℕ) → eqb (suc (2 * b) % 2) 1 ≡ true
odd_bit b = eq-eqb (suc (2 * b) % 2) 1 (omega arith)

even_bits : (k b : ℕ) → bits (suc k) (2 * b) ≡ false ∷ bits k b
unfolding bits
even_bits k b = ap₂ (λ (x : Bool) (y : ℕ). x ∷ bits k y) (even_bit b) (omega arith)

odd_bits : (k b : ℕ) → bits (suc k) (suc (2 * b)) ≡ true ∷ bits k b
unfolding bits
odd_bits k b = ap₂ (λ (x : Bool) (y : ℕ). x ∷ bits k y) (odd_bit b) (omega arith)

doubled_are : (k b c : ℕ) → doubled (map (bits k) (from_to b c)) ≡ map (bits (suc k)) (from_to (2 * b) (2 * c))
unfolding doubled from_to
doubled_are k b zero = refl
doubled_are k b (suc c) =
    (λ i. sym (even_bits k b) i ∷ sym (odd_bits k b) i ∷ doubled_are k (suc b) c i)
    ∙ ap (λ (m : ℕ). bits (suc k) (2 * b) ∷ bits (suc k) (suc (2 * b)) ∷ map (bits (suc k)) (from_to m (2 * c))) (omega arith)
    ∙ ap (λ (m : ℕ). map (bits (suc k)) (from_to (2 * b) m)) (let e : suc (suc (2 * c)) ≡ 2 * suc c = omega arith in e)

pub settings_are : (n : ℕ) → settings n ≡ map (bits n) (from_to 0 (2 ^ n))
unfolding settings from_to bits
settings_are zero = refl
settings_are (suc n) = ap doubled (settings_are n) ∙ doubled_are n 0 (2 ^ n) ∙ ap (λ (m : ℕ). map (bits (suc n)) (from_to 0 m)) (sym (pow-succ' 2 n))

-- ---- a sum

abbrev pub left : ℕ → ℕ → ℕ → List (List Bool)
left n r count = map (bits n) (from_to r (count - r))

left_more : (n r count : ℕ) → r < count → left n r count ≡ bits n r ∷ left n (r + 1) count
unfolding from_to
left_more n r count h =
    let e : count - r ≡ suc (count - (r + 1)) = omega arith in
    ap (λ (k : ℕ). map (bits n) (from_to r k)) e ∙ ap (λ (k : ℕ). bits n r ∷ map (bits n) (from_to k (count - (r + 1)))) (let e : suc r ≡ r + 1 = omega arith in e)

left_none : (n r count : ℕ) → count ≤ r → left n r count ≡ []
unfolding from_to
left_none n r count h = ap (λ (k : ℕ). map (bits n) (from_to r k)) (let e : count - r ≡ 0 = omega arith in e)

-- what follows from a running sum
unfoldable pub on : Worth → (ℤ → Worth) → Worth
on (is z _) f = f z
on nothing f = nothing
on over f = over

-- two judgements in turn
pub judged_on : (z : ℤ) (f : ℤ → Worth) → judged z (f z) ≡ on (summed (limited z)) f
unfolding judged on limited summed
judged_on z f = by_test (small z) (λ b. if b (f z) over ≡ on (summed (if b (Some z) None)) f) (λ _. refl) (λ _. refl)

module _ (worth : State → Worth) (w : List Bool → ℕ) (next : List Bool → State) where
  abbrev rest : List (List Bool) → ℤ → Worth
  rest l = sum_settings worth w next l

  -- one setting: whether its weight is 0, whether the next state has 32 bits, and that state's worth
  abbrev turn : List Bool → List (List Bool) → ℤ → Bool → Bool → Worth → Worth
  turn q l z none fits t = elim none [
    | true ↦ rest l z
    | false ↦ if fits (elim t [
      | is v a ↦ judged (pos (w q) *ℤ v) (judged (z +ℤ pos (w q) *ℤ v) (rest l (z +ℤ pos (w q) *ℤ v)))
      | nothing ↦ nothing
      | over ↦ over
    ]) over
  ]

  turned : (q : List Bool) (l : List (List Bool)) (z : ℤ) → rest (q ∷ l) z ≡ turn q l z (eqb (w q) 0) (all in_32_bits (next q).nums) (worth (next q))
  unfolding sum_settings
  turned q l z = refl

  skip_one : (q : List Bool) (l : List (List Bool)) (z : ℤ) → w q ≡ 0 → rest (q ∷ l) z ≡ rest l z
  skip_one q l z e = turned q l z ∙ ap (λ (b : Bool). turn q l z b (all in_32_bits (next q).nums) (worth (next q))) (eq-eqb (w q) 0 e)

  pub skipped : (q : List Bool) (l : List (List Bool)) (sum : Worth) → w q ≡ 0 → on sum (rest (q ∷ l)) ≡ on sum (rest l)
  unfolding on
  skipped q l (is z a) e = skip_one q l z e
  skipped q l nothing e = refl
  skipped q l over e = refl

  over_one : (q : List Bool) (l : List (List Bool)) (z : ℤ) → (w q ≡ 0 → ⊥) → all in_32_bits (next q).nums ≡ false → rest (q ∷ l) z ≡ over
  over_one q l z e f = turned q l z ∙ ap₂ (λ (b c : Bool). turn q l z b c (worth (next q))) (ne_eqb (w q) 0 e) f

  pub left_bits : (q : List Bool) (l : List (List Bool)) (sum : Worth) → stopped sum ≡ false → (w q ≡ 0 → ⊥) → all in_32_bits (next q).nums ≡ false → on sum (rest (q ∷ l)) ≡ over
  unfolding on stopped
  left_bits q l (is z a) k e f = over_one q l z e f
  left_bits q l nothing k e f = clash k
  left_bits q l over k e f = refl

  -- the sum is judged after the product
  sum_judged : (l : List (List Bool)) (z : ℤ) (p : Option ℤ) → on (summed p) (λ p. judged (z +ℤ p) (rest l (z +ℤ p))) ≡ on (summed (plus_of z p)) (rest l)
  unfolding on plus_of summed
  sum_judged l z (Some p) = judged_on (z +ℤ p) (rest l)
  sum_judged l z None = refl

  add_worth : (q : List Bool) (l : List (List Bool)) (z : ℤ) (b : ℕ) (t : Worth) → turn q l z false true t ≡ on (added_of (is z b) (w q) t) (rest l)
  unfolding on added_of
  add_worth q l z b (is v a) = judged_on (pos (w q) *ℤ v) (λ p. judged (z +ℤ p) (rest l (z +ℤ p))) ∙ sum_judged l z (limited (pos (w q) *ℤ v))
  add_worth q l z b nothing = refl
  add_worth q l z b over = refl

  add_turn : (q : List Bool) (l : List (List Bool)) (z : ℤ) (b : ℕ) → (w q ≡ 0 → ⊥) → all in_32_bits (next q).nums ≡ true → (t : Worth) → t ≡ worth (next q)
      → rest (q ∷ l) z ≡ on (added_of (is z b) (w q) t) (rest l)
  add_turn q l z b e f t g =
      turned q l z ∙ (λ i. turn q l z (ne_eqb (w q) 0 e i) (f i) (sym g i)) ∙ add_worth q l z b t

  pub added_on : (q : List Bool) (l : List (List Bool)) (sum : Worth) → (w q ≡ 0 → ⊥) → all in_32_bits (next q).nums ≡ true → (t : Worth) → t ≡ worth (next q)
      → on sum (rest (q ∷ l)) ≡ on (added_of sum (w q) t) (rest l)
  unfolding on added_of
  added_on q l (is z b) e f t g = add_turn q l z b e f t g
  added_on q l nothing e f t g = refl
  added_on q l over e f t g = refl

  pub at_end : (sum : Worth) → KeptSum sum → on sum (rest []) ≡ sum
  unfolding on sum_settings KeptSum
  at_end (is z a) k = ap (is z) (sym k.1)
  at_end nothing k = refl
  at_end over k = refl

  pub at_stop : (sum : Worth) (l : List (List Bool)) → T (stopped sum) → on sum (rest l) ≡ sum
  unfolding on stopped
  at_stop (is z a) l t = absurd t
  at_stop nothing l t = refl
  at_stop over l t = refl

-- ---- the settings of a site, from mask r on

module _ (worth : State → Worth) (w : List Bool → ℕ) (next : List Bool → State) (n r count : ℕ) (sum : Worth) (goal : Worth)
    (inv : on sum (sum_settings worth w next (left n r count)) ≡ goal) where
  pub settings_end : KeptSum sum → (b : Bool) → b ≡ or (stopped sum) (leb count r) → b ≡ true → sum ≡ goal
  settings_end k b e t = or_out (stopped sum) (leb count r) (from_true (sym e ∙ t)) (λ o. sym (at_stop worth w next sum (left n r count) o))
      (λ h. sym (at_end worth w next sum k) ∙ ap (λ l. on sum (sum_settings worth w next l)) (sym (left_none n r count (leb→le count r h)))) ∙ inv

  begun : r < count → on sum (sum_settings worth w next (bits n r ∷ left n (r + 1) count)) ≡ goal
  begun h = ap (λ l. on sum (sum_settings worth w next l)) (sym (left_more n r count h)) ∙ inv

  pub settings_skip : r < count → w (bits n r) ≡ 0 → on sum (sum_settings worth w next (left n (r + 1) count)) ≡ goal
  settings_skip h e = sym (skipped worth w next (bits n r) (left n (r + 1) count) sum e) ∙ begun h

  pub settings_over : r < count → stopped sum ≡ false → (w (bits n r) ≡ 0 → ⊥) → all in_32_bits (next (bits n r)).nums ≡ false → over ≡ goal
  settings_over h k e f = sym (left_bits worth w next (bits n r) (left n (r + 1) count) sum k e f) ∙ begun h

  pub settings_add : r < count → (w (bits n r) ≡ 0 → ⊥) → all in_32_bits (next (bits n r)).nums ≡ true → (t : Worth) → t ≡ worth (next (bits n r))
      → (sum' : Worth) → sum' ≡ added_of sum (w (bits n r)) t → on sum' (sum_settings worth w next (left n (r + 1) count)) ≡ goal
  settings_add h e f t g sum' k =
      ap (λ (y : Worth). on y (sum_settings worth w next (left n (r + 1) count))) k ∙ sym (added_on worth w next (bits n r) (left n (r + 1) count) sum e f t g) ∙ begun h

-- more are left
pub goes_on : (o : Bool) (count r : ℕ) (b : Bool) → b ≡ or o (leb count r) → b ≡ false → r < count
goes_on true count r b e f = clash (sym e ∙ f)
goes_on false count r b e f = leb-false count r (sym e ∙ f)

pub not_stopped : (o : Bool) (count r : ℕ) (b : Bool) → b ≡ or o (leb count r) → b ≡ false → o ≡ false
not_stopped true count r b e f = sym e ∙ f
not_stopped false count r b e f = refl

-- ---- actions

no_best : (F : Action → Worth) (a : ℕ) (l : List Action) → try_actions F a l over ≡ over
unfolding try_actions
no_best F a [] = refl
no_best F a (x ∷ l) = refl

try_one : (F : Action → Worth) (a : ℕ) (x : Action) (l : List Action) (best : Worth) → try_actions F a (x ∷ l) best ≡ try_actions F (suc a) l (tried best a (F x))
unfolding try_actions tried
try_one F a x l (is v b) = refl
try_one F a x l nothing = refl
try_one F a x l over = sym (no_best F (suc a) l)

over_best : (F : Action → Worth) (a : ℕ) (l : List Action) (best : Worth) → T (is_over best) → try_actions F a l best ≡ best
unfolding is_over
over_best F a l (is v b) t = absurd t
over_best F a l nothing t = absurd t
over_best F a l over t = no_best F a l

abbrev pub others : (ℕ → Action) → ℕ → ℕ → List Action
others φ a last = map φ (from_to a (last + 1 - a))

module _ (F : Action → Worth) (φ : ℕ → Action) (a last : ℕ) (best goal : Worth) (inv : try_actions F a (others φ a last) best ≡ goal) where
  pub actions_end : (b : Bool) → b ≡ or (is_over best) (ltb last a) → b ≡ true → best ≡ goal
  unfolding from_to try_actions
  actions_end b e t = or_out (is_over best) (ltb last a) (from_true (sym e ∙ t)) (λ o. sym (over_best F a (others φ a last) best o))
      (λ h. ap (λ (k : ℕ). try_actions F a (map φ (from_to a k)) best) (let u = ltb→lt last a h in let z : 0 ≡ last + 1 - a = omega arith in z)) ∙ inv

  pub actions_on : a ≤ last → (t : Worth) → t ≡ F (φ a) → (best' : Worth) → best' ≡ tried best a t → try_actions F (a + 1) (others φ (a + 1) last) best' ≡ goal
  unfolding from_to
  actions_on h t e best' f =
      let n : ℕ = last + 1 - (a + 1) in
      (λ i. try_actions F (add-one a i) (map φ (from_to (add-one a i) n)) ((f ∙ ap (tried best a) e) i))
      ∙ sym (try_one F a (φ a) (map φ (from_to (suc a) n)) best)
      ∙ ap (λ (k : ℕ). try_actions F a (map φ (from_to a k)) best) (let z : suc n ≡ last + 1 - a = omega arith in z) ∙ inv

pub not_last : (o : Bool) (last a : ℕ) (b : Bool) → b ≡ or o (ltb last a) → b ≡ false → a ≤ last
not_last true last a b e f = clash (sym e ∙ f)
not_last false last a b e f = ltb-false last a (sym e ∙ f)
