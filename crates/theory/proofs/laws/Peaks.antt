-- Laws of peaks: as many words as there were, the largest of them is the one peak, zero behind the last action.
use Rattle.std.specs.Prelude.{◌≡◌, refl, List, [], ◌∷◌, ◌++◌, ℕ, zero, suc, ◌+◌, ◌≤◌, ◌<◌, max, length, get_or, replicate}
use Rattle.std.proofs.Common.{sym, ap, ◌∙◌, arith}
use Rattle.std.proofs.lemmas.List.{length-replicate}
use Rattle.theory.specs.Diagram.{Tree}
use Rattle.theory.specs.Widths.{actions_most, peak_words}
use Rattle.theory.specs.Computation.{result, enter_all, Ops, end, operation, and_then}
use Rattle.theory.specs.Meaning.{Action, Model}
use Rattle.theory.specs.Stage.{moment, model_diagrams, sum_out, action_total, best_on, stage_over, stages_on, stages_over_end, all_stages}
use Rattle.theory.specs.Load.{load, model}
use Rattle.theory.specs.Events.{events, needed, peak_of}
use Rattle.theory.specs.Peaks.{raise, peaks_of, solved_peaks, largest}

-- ---- as many words

raise_length : (a n : ℕ) (P : List ℕ) → length (raise a n P) ≡ length P
unfolding raise
raise_length a n [] = refl
raise_length zero n (p ∷ P) = refl
raise_length (suc a) n (p ∷ P) = ap suc (raise_length a n P)

pub peaks_length : {A : Type 0} (P : List ℕ) (m : Ops A) → length (peaks_of P m) ≡ length P
unfolding peaks_of
peaks_length P (end a) = refl
peaks_length P (operation h roots c f) = peaks_length (raise h.action _ P) (f (result c)) ∙ raise_length h.action _ P

pub solved_peaks_length : (B : List ℕ) (H : ℕ) → length (solved_peaks B H) ≡ peak_words
unfolding solved_peaks
solved_peaks_length B H = peaks_length (length (needed [] (events (load B))) ∷ replicate actions_most 0) (all_stages (model B) H) ∙ omega (arith, length-replicate {A = ℕ} actions_most 0)

-- ---- whose operations there are

-- every operation is of an action up to A, whatever those before it come to
unfoldable pub ActionOps : {A : Type 0} → ℕ → Ops A → Type 0
ActionOps A (end a) = Unit {0}
ActionOps A (operation h roots c f) = (h.action ≤ A) × ((t : Tree) → ActionOps A (f t))

acts_then : {X Y : Type 0} (A : ℕ) (m : Ops X) (k : X → Ops Y) → ActionOps A m → ((x : X) → ActionOps A (k x)) → ActionOps A (and_then m k)
unfolding ActionOps and_then
acts_then A (end x) k d g = g x
acts_then A (operation h roots c f) k d g = (d.0, λ t. acts_then A (f t) k (d.1 t) g)

sum_out_acts : (A W h a : ℕ) → a ≤ A → (kept : List Tree) (k : ℕ) (ws : List Tree) (F : Tree) → ActionOps A (sum_out W (moment h a) kept k ws F)
unfolding sum_out ActionOps
sum_out_acts A W h a l kept k [] F = tt
sum_out_acts A W h a l kept k (w ∷ ws) F = (l, λ t. sum_out_acts A W h a l kept (suc k) ws t)

total_acts : (A : ℕ) (M : Model) (h : ℕ) (kept : List Tree) (P : Tree) (a : ℕ) (x : Action) → a ≤ A → ActionOps A (action_total M h kept P a x)
unfolding action_total ActionOps
total_acts A M h kept P a x l = (l, λ F. acts_then A _ _ (sum_out_acts A M.weights h a l kept 1 x.chances F) (λ G. (l, λ t. tt)))

best_acts : (A : ℕ) (M : Model) (h : ℕ) (kept : List Tree) (P : Tree) (a : ℕ) (l : List Action) (F : Tree) → a + length l ≤ suc A → ActionOps A (best_on M h kept P a l F)
unfolding best_on ActionOps
best_acts A M h kept P a [] F e = tt
best_acts A M h kept P a (x ∷ l) F e = acts_then A _ _ (total_acts A M h (F ∷ kept) P a x (omega arith)) (λ G. (omega arith, λ t. best_acts A M h kept P (suc a) l t (omega arith)))

stage_acts : (M : Model) (h : ℕ) (kept : List Tree) (P : Tree) → ActionOps (suc (length M.others)) (stage_over M h kept P)
unfolding stage_over
stage_acts M h kept P = acts_then _ _ _ (total_acts _ M h kept P 1 M.first (omega arith)) (λ F. best_acts _ M h kept P 2 M.others F (omega arith))

stages_acts : (M : Model) (k h : ℕ) (finished : List Tree) (P : Tree) → ActionOps (suc (length M.others)) (stages_on M k h finished P)
unfolding stages_on ActionOps
stages_acts M zero h finished P = tt
stages_acts M (suc k) h finished P = acts_then _ _ _ (stage_acts M h (finished ++ model_diagrams M) P) (λ S. acts_then _ _ _ (stages_acts M k (suc h) (S ∷ finished) S) (λ l. tt))

pub all_acts : (M : Model) (H : ℕ) → ActionOps (suc (length M.others)) (all_stages M H)
unfolding all_stages stages_over_end ActionOps
all_acts M H = over_end M.end
  where
    over_end : (E : List Tree) → ActionOps (suc (length M.others)) (stages_over_end M H E)
    over_end [] = (omega arith, λ Z. stages_acts M H 1 (Z ∷ []) Z)
    over_end (E ∷ F) = stages_acts M H 1 _ E

-- ---- the largest word

max_assoc : (a b c : ℕ) → max (max a b) c ≡ max a (max b c)
max_assoc a b c = omega arith

max_comm : (a b : ℕ) → max a b ≡ max b a
max_comm a b = omega arith

largest_raise : (a n : ℕ) (P : List ℕ) → a < length P → largest (raise a n P) ≡ max (largest P) n
unfolding raise largest
largest_raise a n [] h = absurd (omega arith)
largest_raise zero n (p ∷ P) h = max_assoc p n (largest P) ∙ ap (max p) (max_comm n (largest P)) ∙ sym (max_assoc p (largest P) n)
largest_raise (suc a) n (p ∷ P) h = ap (max p) (largest_raise a n P (omega arith)) ∙ sym (max_assoc p (largest P) n)

pub largest_peaks : {X : Type 0} (A : ℕ) (P : List ℕ) (m : Ops X) → ActionOps A m → A < length P → largest (peaks_of P m) ≡ peak_of (largest P) m
unfolding peaks_of peak_of ActionOps
largest_peaks A P (end x) d l = refl
largest_peaks A P (operation h roots c f) d l =
    let n = length (needed (enter_all roots []) (events c)) in
    largest_peaks A (raise h.action n P) (f (result c)) (d.1 (result c)) (omega (arith, raise_length h.action n P))
    ∙ ap (λ (p : ℕ). peak_of p (f (result c))) (largest_raise h.action n P (omega (arith, d.0)))

largest_zeros : (k : ℕ) → largest (replicate k 0) ≡ 0
unfolding largest
largest_zeros zero = refl
largest_zeros (suc k) = omega (arith, largest_zeros k)

-- ---- zero behind the last action

other_raised : (a n i : ℕ) (P : List ℕ) → a < i → get_or (raise a n P) i 0 ≡ get_or P i 0
unfolding raise
other_raised a n i [] h = refl
other_raised zero n zero (p ∷ P) h = absurd (omega arith)
other_raised zero n (suc i) (p ∷ P) h = refl
other_raised (suc a) n zero (p ∷ P) h = absurd (omega arith)
other_raised (suc a) n (suc i) (p ∷ P) h = other_raised a n i P (omega arith)

pub beyond_last : {X : Type 0} (A i : ℕ) (P : List ℕ) (m : Ops X) → ActionOps A m → A < i → get_or (peaks_of P m) i 0 ≡ get_or P i 0
unfolding peaks_of ActionOps
beyond_last A i P (end x) d l = refl
beyond_last A i P (operation h roots c f) d l = beyond_last A i (raise h.action _ P) (f (result c)) (d.1 (result c)) l ∙ other_raised h.action _ i P (omega (arith, d.0))

-- ---- of a solve

-- "The one peak stays in the answer; it is the largest word"
pub peaks_largest : (B : List ℕ) (H : ℕ) → suc (length (model B).others) ≤ actions_most → largest (solved_peaks B H) ≡ peak_of (length (needed [] (events (load B)))) (all_stages (model B) H)
unfolding solved_peaks largest
peaks_largest B H l =
    let n = length (needed [] (events (load B))) in
    largest_peaks (suc (length (model B).others)) (n ∷ replicate actions_most 0) (all_stages (model B) H) (all_acts (model B) H) (omega (arith, length-replicate {A = ℕ} actions_most 0))
    ∙ ap (λ (p : ℕ). peak_of p (all_stages (model B) H)) (ap (max n) (largest_zeros actions_most) ∙ max_zero n)
  where
    max_zero : (n : ℕ) → max n 0 ≡ n
    max_zero n = omega arith

zeros_at : (k i : ℕ) → ◌≡◌ {A = ℕ} (get_or (replicate k 0) i 0) 0
zeros_at zero i = refl
zeros_at (suc k) zero = refl
zeros_at (suc k) (suc i) = zeros_at k i

pub peaks_beyond : (B : List ℕ) (H i : ℕ) → suc (length (model B).others) < i → get_or (solved_peaks B H) i 0 ≡ 0
unfolding solved_peaks
peaks_beyond B H zero l = absurd (omega arith)
peaks_beyond B H (suc i) l =
    beyond_last (suc (length (model B).others)) (suc i) (length (needed [] (events (load B))) ∷ replicate actions_most 0) (all_stages (model B) H) (all_acts (model B) H) l
    ∙ zeros_at actions_most i
