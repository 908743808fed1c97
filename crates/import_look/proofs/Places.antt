-- Steps of the walk over white space, and bytes of the text at their offsets.
use mathlib.Core.Path.{◌≡◌, refl, sym, ap, ◌∙◌}
use mathlib.Core.Bool.{Bool, true, false}
use mathlib.Core.List.{List, [], ◌∷◌}
use Prim.Native.Nat.{ℕ, zero, suc, ◌+◌, ◌≤◌, ◌<◌}
use native.Mathlib.Numerals.{add-one}
use native.Mathlib.Omega.{arith}
use lib.ListN.{length, drop, get_or, drop_of_length-le}
use lib.Seq.{drop-cons}
use Rattle.whole.specs.Cases.{if}
use Rattle.import_frames.specs.Frames.{blank}
use Rattle.import_look.specs.Looks.{unspaced, Skips}

pub record Skipping (w : List ℕ) (at i : ℕ) : Type 0 where
  pub within : i ≤ length w
  pub rest : unspaced (drop i w) ≡ unspaced (drop at w)

pub if_yes : {A : Type 0} (b : Bool) (x y : A) → b ≡ true → if b x y ≡ x
if_yes true x y e = refl
if_yes false x y e = absurd (let z : ◌≡◌ {A = ℕ} 0 1 = cc in omega arith)

pub if_no : {A : Type 0} (b : Bool) (x y : A) → b ≡ false → if b x y ≡ y
if_no true x y e = absurd (let z : ◌≡◌ {A = ℕ} 0 1 = cc in omega arith)
if_no false x y e = refl

here : (w : List ℕ) (i : ℕ) → i < length w → unspaced (drop i w) ≡ if (blank (get_or w i 0)) (unspaced (drop (suc i) w)) (get_or w i 0 ∷ drop (suc i) w)
unfolding unspaced
here w i h = ap unspaced (drop-cons w i 0 h)

pub skip_on : (w : List ℕ) (at i : ℕ) → Skipping w at i → i < length w → {b : Bool} → b ≡ blank (get_or w i 0) → b ≡ true → Skipping w at (i + 1)
skip_on w at i s h e t =
    record {
      within = omega (arith, h);
      rest = ap (λ (j : ℕ). unspaced (drop j w)) (add-one i) ∙ (sym (here w i h ∙ if_yes (blank (get_or w i 0)) _ _ (sym e ∙ t)) ∙ s.rest);
    }

pub skip_stops : (w : List ℕ) (at i : ℕ) → Skipping w at i → i < length w → {b : Bool} → b ≡ blank (get_or w i 0) → b ≡ false → Skips w at i
skip_stops w at i s h e t =
    record {
      within = omega (arith, h);
      rest = (drop-cons w i 0 h ∙ sym (here w i h ∙ if_no (blank (get_or w i 0)) _ _ (sym e ∙ t))) ∙ s.rest;
    }

pub skip_ends : (w : List ℕ) (at i : ℕ) → Skipping w at i → length w ≤ i → Skips w at (length w)
unfolding unspaced
skip_ends w at i s h = record { within = omega arith; rest = (drop_of_length-le w {i = length w} (omega arith) ∙ ap unspaced (sym (drop_of_length-le w h))) ∙ s.rest }

-- ---- bytes

pub record Head (w : List ℕ) (i k : ℕ) (f : List ℕ) : Type 0 where
  pub byte : get_or w i 0 ≡ k
  pub inside : i < length w
  pub rest : drop (i + 1) w ≡ f

head_of : {j k : ℕ} {v f : List ℕ} → j ∷ v ≡ k ∷ f → j ≡ k
head_of e = cc

tail_of : {j k : ℕ} {v f : List ℕ} → j ∷ v ≡ k ∷ f → v ≡ f
tail_of e = cc

none_of : {k : ℕ} {f : List ℕ} → [] ≡ k ∷ f → ⊥
none_of e = let z : ◌≡◌ {A = ℕ} 0 1 = cc in omega arith

head_at : (w : List ℕ) (i k : ℕ) (f : List ℕ) → drop i w ≡ k ∷ f → (get_or w i 0 ≡ k) × (i < length w) × (drop (suc i) w ≡ f)
head_at [] zero k f e = absurd (none_of e)
head_at [] (suc i) k f e = absurd (none_of e)
head_at (j ∷ w) zero k f e = (head_of e, omega arith, tail_of e)
head_at (j ∷ w) (suc i) k f e = let d = head_at w i k f e in (d.0, omega (arith, d.1), d.2)

pub head : (w : List ℕ) (i k : ℕ) (f : List ℕ) → drop i w ≡ k ∷ f → Head w i k f
head w i k f e = let d = head_at w i k f e in record { byte = d.0; inside = d.1; rest = ap (λ (j : ℕ). drop j w) (add-one i) ∙ d.2 }
