-- Where a walk over a sum rests, and what its frame holds.
use mathlib.Core.Path.{◌≡◌, refl, sym, ap, ◌∙◌}
use mathlib.Core.Bool.{Bool, true, false}
use mathlib.Core.List.{List, [], ◌∷◌}
use Prim.Native.Nat.{ℕ, ◌≤◌}
use native.Mathlib.Omega.{arith}
use lib.Dec.{eqb}
use lib.IntN.{ℤ}
use lib.ListN.{drop}
use Rattle.whole.specs.Cases.{if}
use Rattle.import_grammar.specs.Grammar.{Spaces, Sum, deepest, spaces_bytes, sum_bytes}
use Rattle.import_numbers.specs.Numbers.{linear_of, nine, sum_numbers, all_within}
use Rattle.import_frames.specs.declared.Frame.{Frame}
use Rattle.import_frames.specs.Frames.{zero9, of_sum, idle, closed, total, stops}
use Rattle.import_frames.proofs.Laws.{yes, no}
use Rattle.import_sums.specs.Run.{SumOut, stopped, ended, final, run}
use Rattle.import_sums.specs.declared.Walked.{Walked}
use Rattle.import_sums.specs.Walks.{resting, Walks}
use Rattle.import_values.specs.Reads.{guard, FollowsNumber, at_end, mark, spaces_follow, spaced, calm_full}
use Rattle.import_values.specs.Sums.{sum_X, sum_m, sum_t, sum_before, behind_sum, sum_total, sum_split, sum_read}
use Rattle.import_sum_at.specs.SumAt.{BehindSum, nothing, other, SumWorks}

-- ---- a frame that rests ends

over_run : (s : Frame) (w : List ℕ) → s.beyond ≡ true → run true deepest [] s w ≡ stopped
unfolding run
over_run s [] e = sym (yes s.beyond _ _ refl e refl)
over_run s (k ∷ w) e = sym (yes s.beyond _ _ refl e refl)

rest_run : (s : Frame) (w : List ℕ) → s.beyond ≡ false → resting true s w ≡ true → run true deepest [] s w ≡ final s w
unfolding run resting
rest_run s [] e r = sym (no s.beyond _ _ refl e refl)
rest_run s (k ∷ w) e r = sym (no s.beyond _ _ refl e (yes (stops true s k) _ _ refl (no s.beyond true (stops true s k) refl e refl ∙ r) refl))

final_over : (s : Frame) (w : List ℕ) → (closed s).beyond ≡ true → final s w ≡ stopped
final_over s w e = sym (yes (closed s).beyond _ _ refl e refl)

final_is : (s : Frame) (w : List ℕ) → (closed s).beyond ≡ false → final s w ≡ ended (closed s) w
final_is s w e = sym (no (closed s).beyond _ _ refl e refl)

behind_run : {n : ℕ} (s : Sum n) (g : List ℕ) → BehindSum g → run true deepest [] (behind_sum zero9 0 s) g ≡ ended (behind_sum zero9 0 s) g
unfolding run closed
behind_run s [] nothing = refl
behind_run s (k ∷ w) (other p q r) = sym (yes (if (eqb k 41) true (if (of_sum k) false true)) _ _ refl r refl)

behind_follows : {g : List ℕ} → BehindSum g → FollowsNumber g
behind_follows nothing = at_end
behind_follows (other p q r) = mark p q

-- ---- a reading's sum

module _ {n : ℕ} (s : Sum n) (h : n ≤ deepest) (p : Spaces) (g : List ℕ) (b : BehindSum g) where
  reading : run true deepest [] (idle 0) (sum_bytes s (spaces_bytes p g)) ≡ guard (all_within (sum_before s)) (ended (behind_sum zero9 0 s) g)
  reading =
      sum_read true s deepest h [] zero9 0 (spaces_bytes p g) (spaces_follow p (behind_follows b))
      ∙ ap (guard (all_within (sum_before s))) (spaced true deepest [] (behind_sum zero9 0 s) (calm_full true deepest [] zero9 0 (sum_X s) (sum_m s) (sum_t s)) p g ∙ behind_run s g b)

-- stopped: some number is beyond
pub is_stopped : SumOut → Bool
is_stopped stopped = true
is_stopped (ended c w) = false

unstop : (a b : Bool) (x : SumOut) → (a ≡ true → b ≡ true → ⊥) → guard a (guard b x) ≡ stopped
unstop true true x h = absurd (h refl refl)
unstop true false x h = refl
unstop false b x h = refl

clash : true ≡ false → ⊥
clash e = let w : ◌≡◌ {A = ℕ} 0 1 = cc in omega arith

never : {c : Frame} {w : List ℕ} → stopped ≡ ended c w → ⊥
never e = let z : ◌≡◌ {A = ℕ} 0 1 = cc in omega arith

frame_of : {c d : Frame} {v w : List ℕ} → ended c v ≡ ended d w → c ≡ d
frame_of e = cc

rest_of : {c d : Frame} {v w : List ℕ} → ended c v ≡ ended d w → v ≡ w
rest_of e = cc

-- the parts of a judged sum
before_in : {n : ℕ} (s : Sum n) → all_within (sum_numbers n s) ≡ true → (all_within (sum_before s) ≡ true) × (all_within (nine (linear_of n s)) ≡ true)
before_in {n} s e = go (all_within (sum_before s)) (all_within (nine (linear_of n s))) (sum_split s (ended (idle 0) []) ∙ ap (λ (b : Bool). guard b (ended (idle 0) [])) e)
  where
    go : (a b : Bool) → guard a (guard b (ended (idle 0) [])) ≡ ended (idle 0) [] → (a ≡ true) × (b ≡ true)
    go true true e = (refl, refl)
    go true false e = absurd (never e)
    go false b e = absurd (never e)

before_out : {n : ℕ} (s : Sum n) → all_within (sum_numbers n s) ≡ false → all_within (sum_before s) ≡ true → all_within (nine (linear_of n s)) ≡ false
before_out {n} s e f = go (all_within (sum_before s)) (all_within (nine (linear_of n s))) f (sum_split s (ended (idle 0) []) ∙ ap (λ (b : Bool). guard b (ended (idle 0) [])) e)
  where
    go : (a b : Bool) → a ≡ true → guard a (guard b (ended (idle 0) [])) ≡ stopped → b ≡ false
    go true true t e = absurd (never (sym e))
    go true false t e = refl
    go false b t e = absurd (clash (sym t))

module _ {w : List ℕ} {at : ℕ} {v : Walked} (W : Walks w at deepest true v) where
  abbrev rest : List ℕ
  rest = drop v.next w

  module _ {n : ℕ} (s : Sum n) (h : n ≤ deepest) (p : Spaces) (g : List ℕ) (b : BehindSum g) (e : drop at w ≡ sum_bytes s (spaces_bytes p g)) where
    both_ways : guard (all_within (sum_before s)) (ended (behind_sum zero9 0 s) g) ≡ run true deepest [] v.frame rest
    both_ways = sym (reading s h p g b) ∙ (ap (λ (l : List ℕ). run true deepest [] (idle 0) l) (sym e) ∙ W.reaches.runs [])

    in_is : all_within (sum_numbers n s) ≡ true → ended (behind_sum zero9 0 s) g ≡ run true deepest [] v.frame rest
    in_is i = sym (ap (λ (t : Bool). guard t (ended (behind_sum zero9 0 s) g)) (before_in s i).0) ∙ both_ways

  -- beyond before the end
  stops_early : run true deepest [] v.frame rest ≡ stopped → {l : List ℤ} → SumWorks w at (record { linear = l; next = v.next; beyond = true })
  stops_early q = record {
    within = W.reaches.within;
    found = λ n s h p g b e i. absurd (never (sym (in_is s h p g b e i ∙ q)));
    lost = λ n s h p g b e i. refl;
  }

  pub frame_over : v.frame.beyond ≡ true → {l : List ℤ} → SumWorks w at (record { linear = l; next = v.next; beyond = true })
  frame_over t = stops_early (over_run v.frame rest t)

  module _ (t : v.frame.beyond ≡ false) {c : Frame} (k : c ≡ closed v.frame) where
    pub number_over : c.beyond ≡ true → {l : List ℤ} → SumWorks w at (record { linear = l; next = v.next; beyond = true })
    number_over u = stops_early (rest_run v.frame rest t W.rests ∙ final_over v.frame rest (ap (λ (f : Frame). f.beyond) (sym k) ∙ u))

    module _ (u : c.beyond ≡ false) {l : List ℤ} (q : l ≡ total c) {a : Bool} (j : a ≡ all_within l) where
      ends : run true deepest [] v.frame rest ≡ ended c rest
      ends = rest_run v.frame rest t W.rests ∙ (final_is v.frame rest (ap (λ (f : Frame). f.beyond) (sym k) ∙ u) ∙ ap (λ (f : Frame). ended f rest) (sym k))

      same_total : {n : ℕ} (s : Sum n) (g : List ℕ) → ended (behind_sum zero9 0 s) g ≡ ended c rest → l ≡ nine (linear_of n s)
      same_total s g z = q ∙ (ap total (sym (frame_of z)) ∙ sum_total s zero9 0)

      pub all_fits : a ≡ true → SumWorks w at (record { linear = l; next = v.next; beyond = false })
      all_fits y = record {
        within = W.reaches.within;
        found = λ n s h p g b e i.
            let z : ended (behind_sum zero9 0 s) g ≡ ended c rest = in_is s h p g b e i ∙ ends in
            record { fine = refl; linear_is = same_total s g z; place = sym (rest_of z) };
        lost = λ n s h p g b e i. absurd (go n s h p g b e i (all_within (sum_before s)) refl);
      }
        where
          go : (n : ℕ) (s : Sum n) (h : n ≤ deepest) (p : Spaces) (g : List ℕ) (b : BehindSum g) (e : drop at w ≡ sum_bytes s (spaces_bytes p g)) → all_within (sum_numbers n s) ≡ false → (x : Bool) → all_within (sum_before s) ≡ x → ⊥
          go n s h p g b e i false f = never (sym (ap (λ (t : Bool). guard t (ended (behind_sum zero9 0 s) g)) f) ∙ (both_ways s h p g b e ∙ ends))
          go n s h p g b e i true f =
              let z : ended (behind_sum zero9 0 s) g ≡ ended c rest = sym (ap (λ (t : Bool). guard t (ended (behind_sum zero9 0 s) g)) f) ∙ (both_ways s h p g b e ∙ ends) in
              clash (sym y ∙ (j ∙ (ap all_within (same_total s g z) ∙ before_out s i f)))

      pub some_out : a ≡ false → SumWorks w at (record { linear = l; next = v.next; beyond = true })
      some_out y = record {
        within = W.reaches.within;
        found = λ n s h p g b e i.
            let z : ended (behind_sum zero9 0 s) g ≡ ended c rest = in_is s h p g b e i ∙ ends in
            absurd (clash (sym (before_in s i).1 ∙ (ap all_within (sym (same_total s g z)) ∙ (sym j ∙ y))));
        lost = λ n s h p g b e i. refl;
      }
