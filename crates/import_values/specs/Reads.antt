-- Run over the bytes of a sum, a frame comes to hold the sum's linear, each number judged on the way.
use Rattle.std.specs.Prelude.{◌≡◌, Bool, ◌&&◌, eqb, leb, ℤ, pos}
use Rattle.std.proofs.Math.Path.{refl, ap}
use Rattle.std.proofs.Common.{sym, ◌∙◌, arith, leb-true, le-leb}
use Rattle.std.proofs.Math.Bool.{true, false}
use mathlib.Core.List.{List, [], ◌∷◌, ◌++◌}
use Prim.Native.Nat.{ℕ, zero, suc, ◌+◌, ◌*◌}
use Rattle.whole.specs.Cases.{if}
use Rattle.import_grammar.specs.Grammar.{Blank, blank, tab, newline, return, Spaces, none, more, Digit, d0, d1, d2, d3, d4, d5, d6, d7, d8, d9, Digits, one, also, blank_byte, digit_byte, spaces_bytes, digits_bytes}
use Rattle.import_numbers.specs.Numbers.{digit_value, digits_value, all_within}
use Rattle.import_linears.specs.Nine.{most, constant9, multiplied}
use Rattle.import_frames.specs.declared.Frame.{Frame}
use Rattle.import_frames.specs.Frames.{digit, of_sum, made, idle, over, factor, closed}
use Rattle.import_frames.specs.Frames.{finished, on_mark, grown, on_digit, unless_over, step, entered, popped}
use Rattle.import_sums.specs.Run.{SumOut, stopped, ended, final, run}
use Rattle.import_values.specs.Linears.{all_append}

-- ---- judged results

abbrev pub guard : Bool → SumOut → SumOut
guard b x = if b x stopped

pub g_and : (a b : Bool) (x : SumOut) → guard a (guard b x) ≡ guard (a && b) x
g_and true b x = refl
g_and false b x = refl

pub g_append : (a b : List ℤ) (x : SumOut) → guard (all_within a) (guard (all_within b) x) ≡ guard (all_within (a ++ b)) x
g_append a b x = g_and (all_within a) (all_within b) x ∙ sym (ap (λ (t : Bool). guard t x) (all_append a b))

pub g_implied : (a b : Bool) (x : SumOut) → (a ≡ true → b ≡ true) → guard a (guard b x) ≡ guard a x
g_implied true b x h = ap (λ (t : Bool). guard t x) (h refl)
g_implied false b x h = refl

g_before : (a b : Bool) (x : SumOut) → (b ≡ true → a ≡ true) → guard a (guard b x) ≡ guard b x
g_before true b x h = refl
g_before false true x h = absurd (let z : ◌≡◌ {A = Bool} false true = h refl in let w : ◌≡◌ {A = ℕ} 0 1 = cc in omega arith)
g_before false false x h = refl

pub and_end : (a : Bool) → (a && true) ≡ a
and_end true = refl
and_end false = refl

-- ---- frames: a factor may come, a factor is whole, a number is going on

abbrev pub open9 : List ℤ → ℕ → List ℤ → Bool → List ℤ → Frame
open9 L C X m t = made L X t 0 m 0 C

abbrev pub full : List ℤ → ℕ → List ℤ → Bool → List ℤ → Frame
full L C X m t = made L X t 0 m 2 C

abbrev pub num : List ℤ → ℕ → List ℤ → Bool → List ℤ → ℕ → Frame
num L C X m t v = made L X t v m 1 C

-- what may follow a number
pub data FollowsNumber : List ℕ → Type 0 where
  at_end : FollowsNumber []
  mark : {k : ℕ} {w : List ℕ} → digit k ≡ false → eqb k 40 ≡ false → FollowsNumber (k ∷ w)

blank_follows : (b : Blank) (f : List ℕ) → FollowsNumber (blank_byte b ∷ f)
blank_follows blank f = mark refl refl
blank_follows tab f = mark refl refl
blank_follows newline f = mark refl refl
blank_follows return f = mark refl refl

pub spaces_follow : (p : Spaces) {f : List ℕ} → FollowsNumber f → FollowsNumber (spaces_bytes p f)
unfolding spaces_bytes
spaces_follow none h = h
spaces_follow (more p b) {f} h = spaces_follow p (blank_follows b f)

module _ (only : Bool) where
  pub run_over : (d : ℕ) (S : List Frame) (w : List ℕ) → run only d S over w ≡ stopped
  unfolding run
  run_over d S [] = refl
  run_over d S (k ∷ w) = refl

  pub run_if : (d : ℕ) (S : List Frame) (b : Bool) (s : Frame) (w : List ℕ) → run only d S (if b s over) w ≡ guard b (run only d S s w)
  run_if d S true s w = refl
  run_if d S false s w = run_over d S w

  -- white space changes nothing
  abbrev pub Calm : ℕ → List Frame → Frame → Type 0
  Calm d S s = (b : Blank) (f : List ℕ) → run only d S s (blank_byte b ∷ f) ≡ run only d S s f

  pub spaced : (d : ℕ) (S : List Frame) (s : Frame) → Calm d S s → (q : Spaces) (f : List ℕ) → run only d S s (spaces_bytes q f) ≡ run only d S s f
  unfolding spaces_bytes
  spaced d S s c none f = refl
  spaced d S s c (more q b) f = spaced d S s c q (blank_byte b ∷ f) ∙ c b f

  module _ (d : ℕ) (S : List Frame) (L : List ℤ) (C : ℕ) (X : List ℤ) (m : Bool) (t : List ℤ) where
    pub calm_open : Calm d S (open9 L C X m t)
    unfolding run step closed on_mark
    calm_open blank f = refl
    calm_open tab f = refl
    calm_open newline f = refl
    calm_open return f = refl

    pub calm_full : Calm d S (full L C X m t)
    unfolding run step closed on_mark
    calm_full blank f = refl
    calm_full tab f = refl
    calm_full newline f = refl
    calm_full return f = refl

    digit_first : (e : Digit) (f : List ℕ) → run only d S (open9 L C X m t) (digit_byte e ∷ f) ≡ guard (leb (digit_value e) most) (run only d S (num L C X m t (digit_value e)) f)
    unfolding run step on_digit
    digit_first d0 f = refl
    digit_first d1 f = refl
    digit_first d2 f = refl
    digit_first d3 f = refl
    digit_first d4 f = refl
    digit_first d5 f = refl
    digit_first d6 f = refl
    digit_first d7 f = refl
    digit_first d8 f = refl
    digit_first d9 f = refl

    digit_more : (v : ℕ) (e : Digit) (f : List ℕ) → run only d S (num L C X m t v) (digit_byte e ∷ f) ≡ guard (leb (v * 10 + digit_value e) most) (run only d S (num L C X m t (v * 10 + digit_value e)) f)
    unfolding run step on_digit grown
    digit_more v d0 f = run_if d S (leb (v * 10 + 0) most) (num L C X m t (v * 10 + 0)) f
    digit_more v d1 f = run_if d S (leb (v * 10 + 1) most) (num L C X m t (v * 10 + 1)) f
    digit_more v d2 f = run_if d S (leb (v * 10 + 2) most) (num L C X m t (v * 10 + 2)) f
    digit_more v d3 f = run_if d S (leb (v * 10 + 3) most) (num L C X m t (v * 10 + 3)) f
    digit_more v d4 f = run_if d S (leb (v * 10 + 4) most) (num L C X m t (v * 10 + 4)) f
    digit_more v d5 f = run_if d S (leb (v * 10 + 5) most) (num L C X m t (v * 10 + 5)) f
    digit_more v d6 f = run_if d S (leb (v * 10 + 6) most) (num L C X m t (v * 10 + 6)) f
    digit_more v d7 f = run_if d S (leb (v * 10 + 7) most) (num L C X m t (v * 10 + 7)) f
    digit_more v d8 f = run_if d S (leb (v * 10 + 8) most) (num L C X m t (v * 10 + 8)) f
    digit_more v d9 f = run_if d S (leb (v * 10 + 9) most) (num L C X m t (v * 10 + 9)) f

    fewer : (v e : ℕ) → leb (v * 10 + e) most ≡ true → leb v most ≡ true
    fewer v e h = le-leb v most (let g = leb-true (v * 10 + e) most h in omega arith)

    pub digits_read : (ds : Digits) (f : List ℕ) → run only d S (open9 L C X m t) (digits_bytes ds f) ≡ guard (leb (digits_value ds) most) (run only d S (num L C X m t (digits_value ds)) f)
    unfolding digits_bytes digits_value
    digits_read (one e) f = digit_first e f
    digits_read (also ds e) f =
        digits_read ds (digit_byte e ∷ f)
        ∙ (ap (guard (leb (digits_value ds) most)) (digit_more (digits_value ds) e f)
        ∙ g_before (leb (digits_value ds) most) (leb (digits_value ds * 10 + digit_value e) most) (run only d S (num L C X m t (digits_value ds * 10 + digit_value e)) f) (fewer (digits_value ds) (digit_value e)))

    -- the number is whole
    module _ (v : ℕ) where
      abbrev M : List ℤ
      M = multiplied t (constant9 (pos v))

      abbrev ends : ℕ → List ℕ → Frame → SumOut
      ends k w c =
          if (if (eqb k 41) true (if (of_sum k) false only))
          (elim S [ [] ↦ if c.beyond stopped (ended c (k ∷ w)) | o ∷ R ↦ if (eqb k 41) (run only (suc d) R (unless_over c (unless_over (finished c) (entered o (finished c)))) w) stopped ])
          (run only d S (unless_over c (on_mark c k)) w)

      over_ends : (k : ℕ) (w : List ℕ) → ends k w over ≡ stopped
      over_ends k w = go (if (eqb k 41) true (if (of_sum k) false only)) S (eqb k 41)
        where
          go : (b : Bool) (T : List Frame) (e : Bool) → if b (elim T [ [] ↦ stopped | o ∷ R ↦ if e (run only (suc d) R over w) stopped ]) (run only d S over w) ≡ stopped
          go true [] e = refl
          go true (o ∷ R) true = run_over (suc d) R w
          go true (o ∷ R) false = refl
          go false T e = run_over d S w

      by_case : (k : ℕ) (w : List ℕ) (b : Bool) → ends k w (if b (full L C X m M) over) ≡ guard b (ends k w (full L C X m M))
      by_case k w true = refl
      by_case k w false = over_ends k w

      turns : (k : ℕ) (w : List ℕ) → digit k ≡ false → eqb k 40 ≡ false → run only d S (num L C X m t v) (k ∷ w) ≡ ends k w (closed (num L C X m t v))
      unfolding run step closed popped
      turns k w p q =
          ap (λ (z : SumOut). if (if (eqb k 41) true (if (of_sum k) false only)) (elim S [ [] ↦ final (num L C X m t v) (k ∷ w) | o ∷ R ↦ if (eqb k 41) (run only (suc d) R (popped o (num L C X m t v)) w) stopped ]) z)
          (ap (λ (b : Bool). if b (elim d [ zero ↦ stopped | suc e ↦ run only e (num L C X m t v ∷ S) (idle 0) w ]) (run only d S (step (num L C X m t v) k) w)) q
          ∙ ap (λ (b : Bool). run only d S (if b (on_digit (num L C X m t v) k) (unless_over (closed (num L C X m t v)) (on_mark (closed (num L C X m t v)) k))) w) p)

      turns_full : (k : ℕ) (w : List ℕ) (u : List ℤ) → digit k ≡ false → eqb k 40 ≡ false → run only d S (full L C X m u) (k ∷ w) ≡ ends k w (full L C X m u)
      unfolding run step closed popped
      turns_full k w u p q =
          ap (λ (z : SumOut). if (if (eqb k 41) true (if (of_sum k) false only)) (elim S [ [] ↦ final (full L C X m u) (k ∷ w) | o ∷ R ↦ if (eqb k 41) (run only (suc d) R (popped o (full L C X m u)) w) stopped ]) z)
          (ap (λ (b : Bool). if b (elim d [ zero ↦ stopped | suc e ↦ run only e (full L C X m u ∷ S) (idle 0) w ]) (run only d S (step (full L C X m u) k) w)) q
          ∙ ap (λ (b : Bool). run only d S (if b (on_digit (full L C X m u) k) (unless_over (full L C X m u) (on_mark (full L C X m u) k))) w) p)

      closed_is : closed (num L C X m t v) ≡ if (all_within M) (full L C X m M) over
      unfolding closed factor
      closed_is = refl

      ended_is : (T : List Frame) (b : Bool) → elim T [ [] ↦ if (if b (full L C X m M) over).beyond stopped (ended (if b (full L C X m M) over) []) | o ∷ R ↦ stopped ]
          ≡ guard b (elim T [ [] ↦ ended (full L C X m M) [] | o ∷ R ↦ stopped ])
      ended_is [] true = refl
      ended_is [] false = refl
      ended_is (o ∷ R) true = refl
      ended_is (o ∷ R) false = refl

      pub number_whole : {f : List ℕ} → FollowsNumber f → run only d S (num L C X m t v) f ≡ guard (all_within M) (run only d S (full L C X m M) f)
      unfolding run closed factor
      number_whole at_end = ended_is S (all_within M)
      number_whole (mark {k} {w} p q) = turns k w p q ∙ (ap (ends k w) closed_is ∙ (by_case k w (all_within M) ∙ ap (guard (all_within M)) (sym (turns_full k w M p q))))
