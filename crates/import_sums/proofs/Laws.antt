-- A turn of the walk is a step of the run.
use mathlib.Core.Path.{◌≡◌, refl, sym, ap, ◌∙◌, subst}
use mathlib.Core.Bool.{Bool, true, false}
use mathlib.Core.List.{List, [], ◌∷◌}
use Prim.Native.Nat.{ℕ, suc, ◌+◌, ◌≤◌, ◌<◌}
use native.Mathlib.Numerals.{add-one}
use native.Mathlib.Omega.{arith}
use lib.ListN.{length, get_or, drop, drop_of_length-le}
use lib.Seq.{drop-cons}
use Rattle.whole.specs.Cases.{if}
use Rattle.import_frames.specs.declared.Frame.{Frame}
use Rattle.import_frames.specs.Frames.{SoundFrame, idle, over, step, popped, stops, opens}
use Rattle.import_sums.specs.Run.{stopped, run}
use Rattle.import_frames.specs.Kept as kept
use Rattle.import_frames.proofs.Laws.{yes, no, hit, miss}
use Rattle.import_sums.specs.declared.Walked.{Walked}
use Rattle.import_sums.specs.Walks.{resting, ReachesFrame, Walks, Closes}

module _ (only : Bool) (d : ℕ) where
  run_over : (S : List Frame) (s : Frame) (w : List ℕ) → s.beyond ≡ true → run only d S s w ≡ stopped
  unfolding run
  run_over S s [] e = sym (yes s.beyond _ _ refl e refl)
  run_over S s (k ∷ w) e = sym (yes s.beyond _ _ refl e refl)

  run_open_end : (o : Frame) (S : List Frame) (s : Frame) → run only d (o ∷ S) s [] ≡ stopped
  unfolding run
  run_open_end o S s = go s.beyond
    where
      go : (b : Bool) → if b stopped stopped ≡ stopped
      go true = refl
      go false = refl

  module _ (s : Frame) (k : ℕ) (w : List ℕ) (e : s.beyond ≡ false) where
    run_step : (S : List Frame) → stops only s k ≡ false → opens s k ≡ false → run only d S s (k ∷ w) ≡ run only d S (step s k) w
    unfolding run
    run_step S f g = sym (no s.beyond _ _ refl e (no (stops only s k) _ _ refl f (no (opens s k) _ _ refl g refl)))

    run_close : (o : Frame) (S : List Frame) → stops only s k ≡ true → k ≡ 41 → run only d (o ∷ S) s (k ∷ w) ≡ run only (suc d) S (popped o s) w
    unfolding run
    run_close o S f g = sym (no s.beyond _ _ refl e (yes (stops only s k) _ _ refl f (hit k 41 _ _ g refl)))

    run_odd : (o : Frame) (S : List Frame) → stops only s k ≡ true → (k ≡ 41 → ⊥) → run only d (o ∷ S) s (k ∷ w) ≡ stopped
    unfolding run
    run_odd o S f g = sym (no s.beyond _ _ refl e (yes (stops only s k) _ _ refl f (miss k 41 _ _ g refl)))

module _ (only : Bool) (s : Frame) (k : ℕ) (w : List ℕ) (e : s.beyond ≡ false) (f : stops only s k ≡ false) (g : opens s k ≡ true) where
  run_open : (d : ℕ) (S : List Frame) → run only (suc d) S s (k ∷ w) ≡ run only d (s ∷ S) (idle 0) w
  unfolding run
  run_open d S = sym (no s.beyond _ _ refl e (no (stops only s k) _ _ refl f (yes (opens s k) _ _ refl g refl)))

  run_deep : (S : List Frame) → run only 0 S s (k ∷ w) ≡ stopped
  unfolding run
  run_deep S = sym (no s.beyond _ _ refl e (no (stops only s k) _ _ refl f (yes (opens s k) _ _ refl g refl)))

-- the byte at a place, and what is behind it
at_place : (w : List ℕ) (i : ℕ) → i < length w → drop i w ≡ get_or w i 0 ∷ drop (i + 1) w
at_place w i h = rw (add-one) (drop-cons w i 0 h)

-- ---- where a walk may rest

rest_over : (only : Bool) (s : Frame) (w : List ℕ) → s.beyond ≡ true → resting only s w ≡ true
unfolding resting
rest_over only s [] e = refl
rest_over only s (k ∷ w) e = sym (yes s.beyond _ _ refl e refl)

rest_stop : (only : Bool) (s : Frame) (k : ℕ) (w : List ℕ) → s.beyond ≡ false → stops only s k ≡ true → resting only s (k ∷ w) ≡ true
unfolding resting
rest_stop only s k w e f = sym (no s.beyond _ _ refl e (sym f))

rested : (only : Bool) (s : Frame) (k : ℕ) (w : List ℕ) → s.beyond ≡ false → resting only s (k ∷ w) ≡ true → stops only s k ≡ true
unfolding resting
rested only s k w e f = no s.beyond true (stops only s k) refl e refl ∙ f

-- ---- the walk

pub begins : (w : List ℕ) (at d : ℕ) (only : Bool) → at ≤ length w → {s : Frame} → s ≡ idle 0 → ReachesFrame w at d only s at
begins w at d only h e = subst (λ (s : Frame). ReachesFrame w at d only s at) (sym e) (record { sound = kept.idle_sound 0; from = omega arith; within = h; runs = λ S. refl })

module _ {w : List ℕ} {at d : ℕ} {only : Bool} {s : Frame} {i : ℕ} (R : ReachesFrame w at d only s i) where
  pub at_over : s.beyond ≡ true → Walks w at d only (record { frame = s; next = i })
  at_over e = record { reaches = R; rests = rest_over only s (drop i w) e }

  pub at_end : length w ≤ i → Walks w at d only (record { frame = s; next = i })
  unfolding resting
  at_end h = record { reaches = R; rests = ap (λ (l : List ℕ). resting only s l) (drop_of_length-le w {i = i} h) }

  module _ (h : i < length w) (e : s.beyond ≡ false) where
    abbrev k : ℕ
    k = get_or w i 0

    here : drop i w ≡ k ∷ drop (i + 1) w
    here = at_place w i h

    pub at_stop : {b : Bool} → b ≡ stops only s k → b ≡ true → Walks w at d only (record { frame = s; next = i })
    at_stop f t = record { reaches = R; rests = ap (λ (l : List ℕ). resting only s l) here ∙ rest_stop only s k (drop (i + 1) w) e (sym f ∙ t) }

    module _ {b : Bool} (f : b ≡ stops only s k) (t : b ≡ false) {c : Bool} (g : c ≡ opens s k) where
      pub goes_on : c ≡ false → {r : Frame} → r ≡ step s k → ReachesFrame w at d only r (i + 1)
      goes_on u q = subst (λ (r : Frame). ReachesFrame w at d only r (i + 1)) (sym q) (record {
        sound = kept.step_sound s k R.sound;
        from = let z = R.from in omega arith;
        within = omega arith;
        runs = λ S. R.runs S ∙ (ap (λ (l : List ℕ). run only d S s l) here ∙ run_step only d s k (drop (i + 1) w) e S (sym f ∙ t) (sym g ∙ u));
      })

      pub too_deep : c ≡ true → d ≡ 0 → {r : Frame} → r ≡ over → Walks w at d only (record { frame = r; next = i })
      too_deep u z q = subst (λ (r : Frame). Walks w at d only (record { frame = r; next = i })) (sym q) (record {
        reaches = record {
          sound = kept.over_sound;
          from = R.from;
          within = R.within;
          runs = λ S. R.runs S ∙ (ap (λ (l : List ℕ). run only d S s l) here ∙ (ap (λ (n : ℕ). run only n S s (k ∷ drop (i + 1) w)) z ∙
              (run_deep only s k (drop (i + 1) w) e (sym f ∙ t) (sym g ∙ u) S ∙ sym (run_over only d S over (drop i w) refl))));
        };
        rests = rest_over only over (drop i w) refl;
      })

      pub comes_back : c ≡ true → (n : ℕ) → d ≡ suc n → {inner r : Walked} → Walks w (i + 1) n only inner → Closes w s only inner r → ReachesFrame w at d only r.frame r.next
      comes_back u n z {inner} {r} W C = record {
        sound = C.sound;
        from = let x = R.from in let y = W.reaches.from in let v = C.from in omega arith;
        within = C.within;
        runs = λ S.
            R.runs S ∙ (ap (λ (l : List ℕ). run only d S s l) here ∙ (ap (λ (n : ℕ). run only n S s (k ∷ drop (i + 1) w)) z
            ∙ (run_open only s k (drop (i + 1) w) e (sym f ∙ t) (sym g ∙ u) n S ∙ (W.reaches.runs (s ∷ S) ∙ (C.runs n S ∙ sym (ap (λ (n : ℕ). run only n S r.frame (drop r.next w)) z))))));
      }

-- ---- a bracket closes

module _ (w : List ℕ) (o : Frame) (only : Bool) (p : SoundFrame o) (inner : Walked) (q : SoundFrame inner.frame) (h : inner.next ≤ length w) (e : resting only inner.frame (drop inner.next w) ≡ true) where
  abbrev s : Frame
  s = inner.frame

  pub closes_over : s.beyond ≡ true → Closes w o only inner inner
  closes_over t = record {
    sound = q;
    from = omega arith;
    within = h;
    runs = λ n S. run_over only n (o ∷ S) s (drop inner.next w) t ∙ sym (run_over only (suc n) S s (drop inner.next w) t);
  }

  gives_up : ((n : ℕ) (S : List Frame) → run only n (o ∷ S) s (drop inner.next w) ≡ stopped) → {r : Frame} → r ≡ over → Closes w o only inner (record { frame = r; next = inner.next })
  gives_up f u = subst (λ (r : Frame). Closes w o only inner (record { frame = r; next = inner.next })) (sym u) (record {
    sound = kept.over_sound;
    from = omega arith;
    within = h;
    runs = λ n S. f n S ∙ sym (run_over only (suc n) S over (drop inner.next w) refl);
  })

  pub closes_end : length w ≤ inner.next → {r : Frame} → r ≡ over → Closes w o only inner (record { frame = r; next = inner.next })
  closes_end g = gives_up (λ n S. ap (λ (l : List ℕ). run only n (o ∷ S) s l) (drop_of_length-le w {i = inner.next} g) ∙ run_open_end only n o S s)

  module _ (t : s.beyond ≡ false) (g : inner.next < length w) where
    place : drop inner.next w ≡ get_or w inner.next 0 ∷ drop (inner.next + 1) w
    place = at_place w inner.next g

    stop : stops only s (get_or w inner.next 0) ≡ true
    stop = rested only s (get_or w inner.next 0) (drop (inner.next + 1) w) t (ap (λ (l : List ℕ). resting only s l) (sym place) ∙ e)

    pub closes_odd : (get_or w inner.next 0 ≡ 41 → ⊥) → {r : Frame} → r ≡ over → Closes w o only inner (record { frame = r; next = inner.next })
    closes_odd u = gives_up (λ n S. ap (λ (l : List ℕ). run only n (o ∷ S) s l) place ∙ run_odd only n s (get_or w inner.next 0) (drop (inner.next + 1) w) t o S stop u)

    pub closes_well : get_or w inner.next 0 ≡ 41 → {r : Frame} → r ≡ popped o s → Closes w o only inner (record { frame = r; next = inner.next + 1 })
    closes_well u v = subst (λ (r : Frame). Closes w o only inner (record { frame = r; next = inner.next + 1 })) (sym v) (record {
      sound = kept.popped_sound o s p q;
      from = omega arith;
      within = omega arith;
      runs = λ n S. ap (λ (l : List ℕ). run only n (o ∷ S) s l) place ∙ run_close only n s (get_or w inner.next 0) (drop (inner.next + 1) w) t o S stop u;
    })
