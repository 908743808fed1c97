-- Frames stay within 32 bits.
use Rattle.std.specs.Prelude.{◌≡◌, refl, Bool, true, false, List, ℕ, ◌+◌, ◌*◌, ◌-◌, ◌≤◌, eqb, leb, ltb, ℤ, pos}
use Rattle.std.proofs.Common.{sym, ◌∙◌, arith, leb-true, ltb-false}
use lib.ListN.{length, length-set}
use Rattle.whole.specs.Cases.{if}
use Rattle.whole.specs.Linears.{numbers, add_list, sub_list, clip_list}
use Rattle.whole.specs.LinearsLaws.{add_length, sub_length, clip_length}
use Rattle.theory.specs.Plain.{in_32_bits}
use Rattle.import_numbers.specs.Numbers.{all_within}
use Rattle.import_linears.specs.Nine.{most, Nine, constant9, level9, last, flat, multiplied}
use Rattle.import_frames.specs.declared.Frame.{Frame}
use Rattle.import_frames.specs.Frames.{SoundFrame, zero9, unit9, digit, blank, made, idle, over, moded, numbered, summed, factor}
use Rattle.import_frames.specs.Frames.{closed, total, on_sign, on_compare, less, compared_with, finished, behind, on_end, on_equals, on_other, on_mark}
use Rattle.import_frames.specs.Frames.{grown, on_digit, step, entered, popped}

sound_if : (b : Bool) {x y : Frame} → (b ≡ true → SoundFrame x) → (b ≡ false → SoundFrame y) → SoundFrame (if b x y)
sound_if true f g = f refl
sound_if false f g = g refl

zero_nine : Nine zero9
unfolding all_within in_32_bits
zero_nine = record { long = refl; within = refl }

unit_nine : Nine unit9
unfolding all_within in_32_bits
unit_nine = record { long = refl; within = refl }

pub idle_sound : (o : ℕ) → SoundFrame (idle o)
idle_sound o = record { left_nine = zero_nine; sum_nine = zero_nine; term_nine = unit_nine; number_within = omega arith }

pub over_sound : SoundFrame over
over_sound = record { left_nine = zero_nine; sum_nine = zero_nine; term_nine = unit_nine; number_within = omega arith }

pub moded_sound : (s : Frame) (o : ℕ) → SoundFrame s → SoundFrame (moded s o)
moded_sound s o p = record { left_nine = p.left_nine; sum_nine = p.sum_nine; term_nine = p.term_nine; number_within = omega arith }

recompared_sound : (s : Frame) (C : ℕ) → SoundFrame s → SoundFrame (made s.left s.sum s.term 0 s.minus 0 C)
recompared_sound s C p = record { left_nine = p.left_nine; sum_nine = p.sum_nine; term_nine = p.term_nine; number_within = omega arith }

numbered_sound : (s : Frame) (n : ℕ) → SoundFrame s → n ≤ most → SoundFrame (numbered s n)
numbered_sound s n p h = record { left_nine = p.left_nine; sum_nine = p.sum_nine; term_nine = p.term_nine; number_within = h }

summed_sound : (s : Frame) (t : List ℤ) (m : Bool) → SoundFrame s → Nine t → SoundFrame (summed s t m)
summed_sound s t m p q = record { left_nine = p.left_nine; sum_nine = q; term_nine = unit_nine; number_within = omega arith }

-- ---- lengths

pub multiplied_long : (p q : List ℤ) → length p ≡ numbers → length q ≡ numbers → length (multiplied p q) ≡ numbers
unfolding multiplied
multiplied_long p q h g = go (flat p)
  where
    go : (b : Bool) → length (if b (clip_list (last p) q) (clip_list (last q) p)) ≡ numbers
    go true = clip_length (last p) q ∙ g
    go false = clip_length (last q) p ∙ h

pub level_long : (k : ℕ) → length (level9 k) ≡ numbers
unfolding level9
level_long k = go (ltb k 49) (ltb 56 k)
  where
    go : (a b : Bool) → length (if a (constant9 (pos 0)) (if b (constant9 (pos 0)) (lib.ListN.set (constant9 (pos 0)) (k - 49) (pos 1)))) ≡ numbers
    go true b = refl
    go false true = refl
    go false false = length-set (constant9 (pos 0)) (k - 49) (pos 1)

pub total_long : (s : Frame) → SoundFrame s → length (total s) ≡ numbers
unfolding total
total_long s p = go s.minus
  where
    same : length s.sum ≡ length s.term
    same = p.sum_nine.long ∙ sym p.term_nine.long

    go : (b : Bool) → length (if b (sub_list s.sum s.term) (add_list s.sum s.term)) ≡ numbers
    go true = sub_length s.sum s.term same ∙ p.sum_nine.long
    go false = add_length s.sum s.term same ∙ p.sum_nine.long

-- ---- steps

pub factor_sound : (s : Frame) (q : List ℤ) → SoundFrame s → length q ≡ numbers → SoundFrame (factor s q)
unfolding factor
factor_sound s q p h = sound_if (all_within (multiplied s.term q))
    (λ e. record { left_nine = p.left_nine; sum_nine = p.sum_nine; term_nine = record { long = multiplied_long s.term q p.term_nine.long h; within = e }; number_within = omega arith })
    (λ e. over_sound)

pub closed_sound : (s : Frame) → SoundFrame s → SoundFrame (closed s)
unfolding closed
closed_sound s p = sound_if (eqb s.mode 1) (λ e. factor_sound s (constant9 (pos s.number)) p refl) (λ e. p)

on_sign_sound : (s : Frame) (m : Bool) → SoundFrame s → SoundFrame (on_sign s m)
unfolding on_sign
on_sign_sound s m p = sound_if (eqb s.mode 0) (λ e. summed_sound s s.sum m p p.sum_nine)
    (λ e. sound_if (all_within (total s)) (λ f. summed_sound s (total s) m p (record { long = total_long s p; within = f })) (λ f. over_sound))

on_compare_sound : (s : Frame) (C : ℕ) → SoundFrame s → SoundFrame (on_compare s C)
unfolding on_compare
on_compare_sound s C p = sound_if (all_within (total s)) (λ f. record { left_nine = record { long = total_long s p; within = f }; sum_nine = zero_nine; term_nine = unit_nine; number_within = omega arith }) (λ f. over_sound)

compared_sound : (s : Frame) (t : List ℤ) → Nine t → SoundFrame (compared_with s t)
unfolding compared_with
compared_sound s t q = sound_if (eqb s.compared 0) (λ e. record { left_nine = zero_nine; sum_nine = q; term_nine = unit_nine; number_within = omega arith }) (λ e. sound_if (all_within (less s t)) (λ f. idle_sound 4) (λ f. over_sound))

pub finished_sound : (s : Frame) → SoundFrame s → SoundFrame (finished s)
unfolding finished
finished_sound s p = sound_if (eqb s.mode 4) (λ e. p) (λ e. sound_if (all_within (total s)) (λ f. compared_sound s (total s) (record { long = total_long s p; within = f })) (λ f. over_sound))

on_end_sound : (s : Frame) (k : ℕ) → SoundFrame s → SoundFrame (on_end s k)
unfolding on_end
on_end_sound s k p = sound_if (finished s).beyond (λ e. finished_sound s p) (λ e. idle_sound (behind k))

on_equals_sound : (s : Frame) → SoundFrame s → SoundFrame (on_equals s)
unfolding on_equals
on_equals_sound s p = sound_if (eqb s.mode 0) (λ e. sound_if (eqb s.compared 1) (λ f. recompared_sound s 2 p) (λ f. sound_if (eqb s.compared 3) (λ g. recompared_sound s 4 p) (λ g. on_end_sound s 61 p))) (λ e. on_end_sound s 61 p)

on_other_sound : (s : Frame) (k : ℕ) → SoundFrame s → SoundFrame (on_other s k)
unfolding on_other
on_other_sound s k p = sound_if (eqb k 61) (λ e. on_equals_sound s p) (λ e. sound_if (eqb k 60) (λ f. on_compare_sound s 1 p) (λ f. sound_if (eqb k 62) (λ g. on_compare_sound s 3 p) (λ g. on_end_sound s k p)))

on_mark_sound : (s : Frame) (k : ℕ) → SoundFrame s → SoundFrame (on_mark s k)
unfolding on_mark
on_mark_sound s k p = sound_if (blank k) (λ e. p) (λ e. sound_if (eqb k 42) (λ f. moded_sound s 0 p)
    (λ f. sound_if (eqb k 43) (λ g. on_sign_sound s false p) (λ g. sound_if (eqb k 45) (λ h. on_sign_sound s true p)
    (λ h. sound_if (eqb k 76) (λ i. moded_sound s 3 p) (λ i. on_other_sound s k p)))))

pub digit_small : (k : ℕ) → digit k ≡ true → (48 ≤ k) × (k ≤ 57)
digit_small k e = go (ltb k 48) refl e
  where
    go : (b : Bool) → ltb k 48 ≡ b → if b false (leb k 57) ≡ true → (48 ≤ k) × (k ≤ 57)
    go true t e = absurd (let z : ◌≡◌ {A = ℕ} 0 1 = cc in omega arith)
    go false t e = (ltb-false k 48 t, leb-true k 57 e)

on_digit_sound : (s : Frame) (k : ℕ) → SoundFrame s → digit k ≡ true → SoundFrame (on_digit s k)
unfolding on_digit grown
on_digit_sound s k p d = sound_if (eqb s.mode 1) (λ e. sound_if (leb (s.number * 10 + (k - 48)) most) (λ f. numbered_sound s (s.number * 10 + (k - 48)) p (leb-true (s.number * 10 + (k - 48)) most f)) (λ f. over_sound))
    (λ e. sound_if (eqb s.mode 3) (λ f. factor_sound s (level9 k) p (level_long k)) (λ f. sound_if (eqb s.mode 5) (λ g. idle_sound 4) (λ g. numbered_sound s (k - 48) p (let h = digit_small k d in omega arith))))

pub step_sound : (s : Frame) (k : ℕ) → SoundFrame s → SoundFrame (step s k)
unfolding step
step_sound s k p = sound_if (eqb s.mode 6) (λ e. sound_if (eqb k 34) (λ f. idle_sound 0) (λ f. p))
    (λ e. sound_if (digit k) (λ f. on_digit_sound s k p f) (λ f. sound_if (closed s).beyond (λ g. closed_sound s p)
    (λ g. on_mark_sound (closed s) k (closed_sound s p))))

entered_sound : (o f : Frame) → SoundFrame o → SoundFrame f → SoundFrame (entered o f)
unfolding entered
entered_sound o f p q = sound_if (eqb f.mode 4) (λ e. idle_sound 4) (λ e. factor_sound o f.sum p q.sum_nine.long)

pub popped_sound : (o s : Frame) → SoundFrame o → SoundFrame s → SoundFrame (popped o s)
unfolding popped
popped_sound o s p q = sound_if (closed s).beyond (λ e. closed_sound s q) (λ e. sound_if (finished (closed s)).beyond
    (λ f. finished_sound (closed s) (closed_sound s q)) (λ f. entered_sound o (finished (closed s)) p (finished_sound (closed s) (closed_sound s q))))
