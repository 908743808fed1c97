-- What is claimed of a price change, as types: each is proved in proofs/laws/Statements.
use Rattle.std.specs.Prelude.{◌≡◌, ◌↔◌, List, ℕ, suc, ◌*◌, T, ℤ}
use Rattle.whole.specs.Int.{up}
use Rattle.theory.specs.Total.{none}
use Rattle.theory.specs.Process.{Process, Action, total, optimum, lowest_best}
use Rattle.theory.specs.Meaning.{Model, State, power, process}
use Rattle.theory.specs.Verdict.{verdict}
use Rattle.theory.specs.Load.{site_at, model}
use Rattle.theory.specs.Value.{Asked, accepted, state_of, answered}
use Rattle.theory.specs.Plain.{plain_of}
use Rattle.price_change.specs.Sure.{sure_of}
use Rattle.price_change.specs.Prices.{Near, Clear, Repriced, NearModels}

-- ---- any two processes

module _ {S A E : Type 0} (P : Process S A E) where
  -- values and totals of the two are at most h × e apart, and none at the same places
  abbrev pub Moves : Type 0
  Moves = (Q : Process S A E) (w : ℕ) (scale : ℕ → ℕ) (unit : S → ℕ) → Repriced P Q w scale unit
      → ((h : ℕ) (s : S) → Near (h * (unit s * scale h)) (optimum P h s) (optimum Q h s))
      × ((h : ℕ) (a : A) (s : S) → Action P a → Near (suc h * (unit s * scale (suc h))) (total P (optimum P h) h a s) (total Q (optimum Q h) h a s))

  -- an action that is clear by more than 2 × h × e is best in both, alone
  abbrev pub StaysBest : Type 0
  StaysBest = (Q : Process S A E) (w : ℕ) (scale : ℕ → ℕ) (unit : S → ℕ) → Repriced P Q w scale unit
      → (h : ℕ) (s : S) (a : A) → Action P a → Clear P (2 * (suc h * (unit s * scale (suc h)))) h s a
      → Clear Q 0 h s a × ((lowest_best P (suc h) s ≡ a) × (lowest_best Q (suc h) s ≡ a))

-- ---- an accepted model, and any model near it

-- "the value moves by at most h × e", times D × W^(n×h). "The value's bound holds where "sure" is not said too": of every state and number of steps, and none stays none
abbrev pub ValueMoves : Type 0
ValueMoves = (B : List ℕ) → (verdict B).number ≡ 0 → (N : Model) (e : ℕ) → NearModels (model B) N e → (h : ℕ) (s : State)
    → Near (h * e * (s.den * power (model B) h)) (optimum (process (model B)) h s) (optimum (process N) h s)
    × ((optimum (process (model B)) h s ≡ none) ↔ (optimum (process N) h s ≡ none))

-- "Then .. the same action is best there": where the call says sure, the action that plain working answers with is, in the other model too, the best, alone
abbrev pub SameActionBest : Type 0
SameActionBest = (B : List ℕ) (h : ℕ) (q : Asked) (e : ℤ) → (sure_of B (suc h) q e).sure ≡ 1 → (N : Model) → NearModels (model B) N (up e)
    → let a = (plain_of B (suc h) q).action in
    (t : T (accepted (site_at B).levels (site_at B).conditions q)) × (let s = state_of (site_at B).levels (site_at B).conditions q t in
    (plain_of B (suc h) q ≡ answered (optimum (process (model B)) (suc h) s) a)
    × (Action (process N) a × (Clear (process N) 0 h s a × (lowest_best (process N) (suc h) s ≡ a))))
