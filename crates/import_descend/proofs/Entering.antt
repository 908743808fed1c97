-- An atom goes on the list; a result is reached.
use mathlib.Core.Path.{◌≡◌, refl, sym, ap, ◌∙◌, subst}
use mathlib.Core.Bool.{Bool, false}
use mathlib.Core.List.{List, ◌∷◌}
use Prim.Native.Nat.{ℕ, zero, suc, ◌+◌, ◌≤◌, ◌<◌}
use native.Mathlib.Numerals.{add-one}
use native.Mathlib.Omega.{arith}
use lib.ListN.{length, drop}
use Rattle.theory.specs.Command.{Command}
use Rattle.import_found.specs.Places.{Place, find, xor}
use Rattle.import_places.specs.Walking.{signs, two_to}
use Rattle.import_places.specs.laws.Signs.{signs_length, mask_bound}
use Rattle.import_going.specs.declared.start.Spot.{Spot}
use Rattle.import_going.specs.declared.start.Spot.TheVariants.{Atom as AtomAt, Result as ResultAt, Lost as LostAt, Deep as DeepAt}
use Rattle.import_going.specs.Turns.{Spotted}
use Rattle.import_list.specs.declared.Entry.{Entry}
use Rattle.import_list.specs.Pending.{Visits, Beyond, size}
use Rattle.import_list.specs.Packed.{entries, FitsWord, Pushed}
use Rattle.import_list.proofs.laws.Steps.{atom_told, first_entry, visit_atom, visit_result, not_deep, not_lost, few, rises}
use Rattle.import_look.specs.declared.Told.{Told}
use Rattle.import_look.specs.Looks.{Looks}
use Rattle.import_descend.specs.declared.Down.{Down}
use Rattle.import_descend.specs.Walks.{AtomReady, place_of, SpotComes, Enters, InPlace, Starting, none_found, Descends}

-- ---- no place is too deep for a word

shallow : {w : List ℕ} {l : List Entry} {C : List Command} (e : Entry) → Visits w (place_of w e) l C → e.count ≤ 32
shallow e G = let t = (atom_told G refl).deep in let n = signs_length e.mask e.count in omega (arith, t, n)

pub too_wide : (w : List ℕ) (e : Entry) (l : List ℕ) (n : ℕ) → AtomReady w e l n → 4294967296 ≤ e.mask → Enters w e l n DeepAt l
too_wide w e l n R h = record { same = refl; inside = tt; goes_on = λ C G. absurd (let m = mask_bound e.mask e.count R.low (shallow e G) in omega (arith, m, h)) }

pub too_deep : (w : List ℕ) (e : Entry) (l : List ℕ) (n : ℕ) → AtomReady w e l n → 32 < e.count → Enters w e l n DeepAt l
too_deep w e l n R h = record { same = refl; inside = tt; goes_on = λ C G. absurd (let m = shallow e G in omega (arith, m, h)) }

pub fits : (w : List ℕ) (e : Entry) (l : List ℕ) (n : ℕ) → AtomReady w e l n → e.mask < 4294967296 → e.count ≤ 32 → FitsWord e
fits w e l n R h k = record { place = let a = R.inside in let b = R.short in omega (arith, a, b); shallow = omega (arith, k); low = h }

-- ---- on the list

pub spotted_in : (w : List ℕ) (p : Place) (r : Spot) → Spotted w p r → InPlace w r
spotted_in w p (AtomAt i b m c) S = S.1
spotted_in w p (ResultAt i) S = S.1
spotted_in w p LostAt S = tt
spotted_in w p DeepAt S = tt

fresh_entry : (e : Entry) → e.both ≡ false → first_entry e.at e.sign e.mask e.count ≡ e
fresh_entry e f = λ i. record { at = e.at; sign = e.sign; mask = e.mask; count = e.count; both = sym f i }

pub entered : (w : List ℕ) (e : Entry) (l : List ℕ) (n : ℕ) (t : Told) (v : Bool) (r : Spot) (l' : List ℕ) → AtomReady w e l n → Looks w e.at t → Pushed l n e l' → v ≡ xor t.first e.sign
    → Spotted w (find (drop e.at w) 0 v false (signs e.mask e.count)) r → Enters w e l n r l'
entered w e l n t v r l' R L P z S =
    record {
      same = P.room;
      inside = spotted_in w (find (drop e.at w) 0 v false (signs e.mask e.count)) r S;
      goes_on = λ C G.
          let g = visit_atom G e.at e.sign e.mask e.count refl R.inside R.low t.first (λ x. (L x).first_is) in
          record {
            place = find (drop e.at w) 0 v false (signs e.mask e.count);
            spotted = S;
            visits = subst (λ (b : Bool). Visits w (find (drop e.at w) 0 b false (signs e.mask e.count)) (entries l' (suc n)) C) (sym z)
                (subst (λ (es : List Entry). Visits w (find (drop e.at w) 0 (xor t.first e.sign) false (signs e.mask e.count)) es C)
                (ap (λ (d : Entry). d ∷ entries l n) (fresh_entry e R.fresh) ∙ sym P.now_are) g);
          };
    }

-- ---- down to a result

pub record Walking (w : List ℕ) (s₀ : Spot) (l₀ : List ℕ) (n₀ : ℕ) (s : Spot) (l : List ℕ) (n : ℕ) : Type 0 where
  pub same : length l ≡ length l₀
  pub few : n ≤ length l₀
  pub inside : InPlace w s
  pub comes : (C : List Command) → SpotComes w s₀ l₀ n₀ C → SpotComes w s l n C

pub start_walk : (w : List ℕ) (s : Spot) (l : List ℕ) (n : ℕ) → Starting w s l n → Walking w s l n s l n
start_walk w s l n S = record { same = refl; few = S.few; inside = S.inside; comes = λ C G. G }

entries_length : (l : List ℕ) (n : ℕ) → length (entries l n) ≡ n
unfolding entries
entries_length l zero = refl
entries_length l (suc n) = ap suc (entries_length l n)

module _ (w : List ℕ) (s₀ : Spot) (l₀ : List ℕ) (n₀ : ℕ) (s : Spot) (l : List ℕ) (n : ℕ) (S : Starting w s₀ l₀ n₀) (K : Walking w s₀ l₀ n₀ s l n) where
  at_atom : (i : ℕ) (b : Bool) (m c : ℕ) → s ≡ AtomAt i b m c → (i < length w) × (m < two_to c)
  at_atom i b m c e = subst (InPlace w) e K.inside

  pub ready : (i : ℕ) (b : Bool) (m c : ℕ) → s ≡ AtomAt i b m c → n < length l → AtomReady w (first_entry i b m c) l n
  ready i b m c e h = let d = at_atom i b m c e in record { inside = d.0; short = S.short; low = d.1; fresh = refl; room = h }

  pub walk_on : (i : ℕ) (b : Bool) (m c : ℕ) → s ≡ AtomAt i b m c → n < length l → (r : Spot) (l' : List ℕ) → Enters w (first_entry i b m c) l n r l' → Walking w s₀ l₀ n₀ r l' (n + 1)
  walk_on i b m c e h r l' E =
      record {
        same = E.same ∙ K.same;
        few = let q = K.same in omega (arith, h, q);
        inside = E.inside;
        comes = λ C G.
            let g = K.comes C G in
            let t : Spotted w g.place (AtomAt i b m c) = subst (Spotted w g.place) e g.spotted in
            let f = E.goes_on C (subst (λ (p : Place). Visits w p (entries l n) C) t.0 g.visits) in
            subst (λ (k : ℕ). SpotComes w r l' k C) (sym (add-one n)) f;
      }

  pub no_room : (i : ℕ) (b : Bool) (m c : ℕ) → s ≡ AtomAt i b m c → length l ≤ n → Descends w s₀ l₀ n₀ none_found l
  no_room i b m c e h =
      record {
        same = K.same;
        few = omega arith;
        inside = omega arith;
        first = λ C G. absurd (never C G);
      }
    where
      never : (C : List Command) → SpotComes w s₀ l₀ n₀ C → ⊥
      never C G =
          let g = K.comes C G in
          let t : Spotted w g.place (AtomAt i b m c) = subst (Spotted w g.place) e g.spotted in
          let r = rises w i (entries l n) t.1.0 (subst (λ (k : ℕ). Beyond w k (entries l n)) (ap size t.0) g.visits.beyond) in
          let f = few g.visits.pending i r in
          let k = entries_length l n in
          let a = t.1.0 in
          let d = S.short in
          let q = K.same in
          let o = S.long in
          omega (arith, f, k, a, d, q, o, h)

  pub reached : (i : ℕ) → s ≡ ResultAt i → Descends w s₀ l₀ n₀ (record { count = n; at = i }) l
  reached i e =
      record {
        same = K.same;
        few = K.few;
        inside = subst (InPlace w) e K.inside;
        first = λ C G.
            let g = K.comes C G in
            let t : Spotted w g.place (ResultAt i) = subst (Spotted w g.place) e g.spotted in
            visit_result g.visits (drop i w) t.0;
      }

  none_here : ((C : List Command) → SpotComes w s₀ l₀ n₀ C → ⊥) → Descends w s₀ l₀ n₀ none_found l
  none_here h = record { same = K.same; few = omega arith; inside = omega arith; first = λ C G. absurd (h C G) }

  pub lost_here : s ≡ LostAt → Descends w s₀ l₀ n₀ none_found l
  lost_here e = none_here (λ C G. not_lost (K.comes C G).visits (subst (Spotted w (K.comes C G).place) e (K.comes C G).spotted))

  pub deep_here : s ≡ DeepAt → Descends w s₀ l₀ n₀ none_found l
  deep_here e = none_here (λ C G. not_deep (K.comes C G).visits (subst (Spotted w (K.comes C G).place) e (K.comes C G).spotted))

  pub past_end : length l < n → Descends w s₀ l₀ n₀ none_found l
  past_end h = absurd (let f = K.few in let q = K.same in omega (arith, f, q, h))

pub as_none : {w : List ℕ} {s : Spot} {l : List ℕ} {n : ℕ} {l' : List ℕ} {r : Down} → r ≡ none_found → Descends w s l n none_found l' → Descends w s l n r l'
as_none {w} {s} {l} {n} {l'} e D = subst (λ (r : Down). Descends w s l n r l') (sym e) D
