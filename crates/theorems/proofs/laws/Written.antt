-- The facts that a command's rules go by are those of the diagrams as they are written.
use Rattle.std.specs.Prelude.{◌≡◌, refl, ◌↔◌, ◌⊎◌, Bool, true, false, not, ◌&&◌, List, [], ◌∷◌, ℕ, ◌-◌, T, ltb, leb, pos, drop}
use Rattle.std.proofs.Common.{sym, subst, inl, inr, ⊎_elim, arith, leb→le, ltb→lt, lt→ltb}
use Rattle.std.proofs.Math.Dec.{nleb→lt}
use Rattle.std.specs.Int.Signed.{le_z}
use Rattle.whole.specs.Cases.{if, by_test, both, and_in}
use Rattle.theory.specs.Diagram.{Linear, Test, now, later, Tree, leaf, branch, plain, zeros, test_of}
use Rattle.theory.specs.Rules.{none_leaf}
use Rattle.theory.specs.Computation.{bind, make, result}
use Rattle.theory.specs.Command.{Command, site, push_leaf, push_condition, push_test, push_forbidden, give, name_action, end_model, command_at, Slot}
use Rattle.theory.specs.Verdict.{Facts, Progress, or, is_weight, joined, after}
use Rattle.theory.specs.Load.{Entry, Loaded, condition_test, load_entry, load_choice_with, load_one_with}
use Rattle.theory.specs.Rows.{Keeps, first_asks, later_asks, asks_of, Comes, comes_first, comes_next}
use Rattle.theory.proofs.laws.Rules.{or_left, or_right}
use Rattle.theory.proofs.laws.Fits.{zeros_each, each_zeros}
use Rattle.theorems.specs.Written.{IsLater, HasLater, AllWeights, HasForbidden, Judges, JudgesAll, as_written, Writes, writes_none, writes_one}
use Rattle.theorems.specs.Demands.{AsWritten}

-- ---- facts

or_out : (a b : Bool) → T (or a b) → T a ⊎ T b
or_out true b t = inl tt
or_out false b t = inr t

either : (a b : Bool) (P Q : Type 0) → (T a ↔ P) → (T b ↔ Q) → T (or a b) ↔ (P ⊎ Q)
either a b P Q p q = (λ t. ⊎_elim (λ u. inl (p.0 u)) (λ u. inr (q.0 u)) (or_out a b t), ⊎_elim (λ u. or_left a b (p.1 u)) (λ u. or_right a b (q.1 u)))

each : (a b : Bool) (P Q : Type 0) → (T a ↔ P) → (T b ↔ Q) → T (a && b) ↔ (P × Q)
each a b P Q p q = (λ t. let d = both a b t in (p.0 d.0, q.0 d.1), λ d. and_in a b (p.1 d.0) (q.1 d.1))

-- a choice's facts
choice_judged : (W : ℕ) (b : Bool) (t : Test) → (T b ↔ IsLater t) → (f g : Facts) (h l : Tree) → Judges W f h → Judges W g l
    → Judges W (record { next_step = or b (or f.next_step g.next_step); weights = f.weights && g.weights; forbids = or f.forbids g.forbids }) (branch t h l)
choice_judged W b t p f g h l a c = record {
  next_step = either b (or f.next_step g.next_step) (IsLater t) (HasLater h ⊎ HasLater l) p (either f.next_step g.next_step (HasLater h) (HasLater l) a.next_step c.next_step);
  weights = each f.weights g.weights (AllWeights W h) (AllWeights W l) a.weights c.weights;
  forbids = either f.forbids g.forbids (HasForbidden h) (HasForbidden l) a.forbids c.forbids;
}

-- a leaf's
leaf_judged : (W : ℕ) (p : Linear) → Judges W (record { next_step = false; weights = is_weight W p; forbids = false }) (leaf (plain p))
unfolding is_weight
leaf_judged W p = record {
  next_step = (λ t. t, λ t. t);
  weights = (
    λ t.
        let d = both (zeros p.coeffs) (le_z (pos 0) p.const && le_z p.const (pos W)) t in
        let e = both (le_z (pos 0) p.const) (le_z p.const (pos W)) d.1 in
        (zeros_each p.coeffs d.0, (record { le = e.0 }, record { le = e.1 })),
    λ d. and_in (zeros p.coeffs) (le_z (pos 0) p.const && le_z p.const (pos W)) (each_zeros p.coeffs d.0)
        (and_in (le_z (pos 0) p.const) (le_z p.const (pos W)) d.1.0.le d.1.1.le),
  );
  forbids = (λ t. t, λ t. t);
}

-- a forbidden leaf's
none_judged : (W : ℕ) → Judges W (record { next_step = false; weights = false; forbids = true }) none_leaf
none_judged W = record { next_step = (λ t. t, λ t. t); weights = (λ t. t, λ t. t); forbids = (λ _. tt, λ _. tt) }

condition_later : (k : ℕ) → T (ltb 4 k) ↔ IsLater (condition_test k)
unfolding condition_test
condition_later k = by_test (leb k 4) (λ b. T (ltb 4 k) ↔ IsLater (if b (now k) (later (k - 4))))
    (λ t. (λ u. absurd (omega (arith, leb→le k 4 t, ltb→lt 4 k u)), λ d. absurd d)) (λ t. (λ _. tt, λ _. lt→ltb 4 k (nleb→lt k 4 t)))

linear_not_later : (p : Linear) → T false ↔ IsLater (test_of p)
unfolding test_of
linear_not_later p = (λ t. t, λ t. t)

-- ---- a command

joined_judged : (W : ℕ) (b : Bool) (t : Test) → (T b ↔ IsLater t) → (K : List Facts) (X : List Tree) (E : List Entry) → JudgesAll W K X
    → JudgesAll W (joined b K) (result (load_choice_with as_written t X E)).stack
unfolding joined load_choice_with result bind
joined_judged W b t p [] [] E j = tt
joined_judged W b t p [] (x ∷ X) E j = absurd j
joined_judged W b t p (f ∷ K) [] E j = absurd j
joined_judged W b t p (g ∷ []) (l ∷ []) E j = tt
joined_judged W b t p (g ∷ []) (l ∷ h ∷ X) E j = absurd j.1
joined_judged W b t p (g ∷ f ∷ K) (l ∷ []) E j = absurd j.1
joined_judged W b t p (g ∷ f ∷ K) (l ∷ h ∷ X) E j = (choice_judged W b t p f g h l j.1.0 j.0, j.1.1)

entry_judged : (W : ℕ) (g : Slot) (K : List Facts) (X : List Tree) (E : List Entry) → JudgesAll W K X → JudgesAll W (drop 1 K) (result (load_entry g X E)).stack
unfolding load_entry result
entry_judged W g [] [] E j = tt
entry_judged W g [] (x ∷ X) E j = absurd j
entry_judged W g (f ∷ K) [] E j = absurd j
entry_judged W g (f ∷ K) (x ∷ X) E j = j.1

-- the facts of the stack are its diagrams', and there is nothing on it before the site
abbrev Held : Progress → Loaded → Type 0
Held s u = JudgesAll s.site.weights s.stack u.stack × (T (not s.begun) → u.stack ≡ [])

-- "01 site .. is first": no other command is
not_first : (s : Progress) (c : Command) → (Keeps (first_asks c) → ⊥) → Keeps (asks_of s c) → T (not s.begun) → ⊥
not_first s c f = go s.begun
  where
    go : (b : Bool) → Keeps (elim b [ true ↦ later_asks s.site s.stack s.given c | false ↦ first_asks c ]) → T (not b) → ⊥
    go true k t = t
    go false k t = f k

site_judged : (s : Progress) (u : Loaded) (m n a w : ℕ) → Keeps (asks_of s (site m n a w)) → (T (not s.begun) → u.stack ≡ []) → JudgesAll w [] u.stack
site_judged s u m n a w = go s.begun
  where
    go : (b : Bool) → Keeps (elim b [ true ↦ later_asks s.site s.stack s.given (site m n a w) | false ↦ first_asks (site m n a w) ]) → (T (not b) → u.stack ≡ []) → JudgesAll w [] u.stack
    go true k f = absurd k.0
    go false k f = subst (JudgesAll w []) (sym (f tt)) tt

one_judged : (c : Command) (s : Progress) (u : Loaded) → Keeps (asks_of s c) → Held s u → Held (after s c) (result (load_one_with as_written c u))
unfolding after load_one_with result bind make
one_judged (site m n a w) s u k d = (site_judged s u m n a w k d.1, λ t. absurd t)
one_judged (push_leaf p) s u k d = ((leaf_judged s.site.weights p, d.0), λ t. absurd (not_first s (push_leaf p) (λ z. z.0) k t))
one_judged (push_condition j) s u k d = (
  joined_judged s.site.weights (ltb 4 j) (condition_test j) (condition_later j) s.stack u.stack u.entries d.0,
  λ t. absurd (not_first s (push_condition j) (λ z. z.0) k t),
)
one_judged (push_test p) s u k d = (
  joined_judged s.site.weights false (test_of p) (linear_not_later p) s.stack u.stack u.entries d.0,
  λ t. absurd (not_first s (push_test p) (λ z. z.0) k t),
)
one_judged push_forbidden s u k d = ((none_judged s.site.weights, d.0), λ t. absurd (not_first s push_forbidden (λ z. z.0) k t))
one_judged (give g) s u k d = (entry_judged s.site.weights g s.stack u.stack u.entries d.0, λ t. absurd (not_first s (give g) (λ z. z.0) k t))
one_judged (name_action a b) s u k d = (d.0, λ t. absurd (not_first s (name_action a b) (λ z. z.0) k t))
one_judged end_model s u k d = (d.0, λ t. absurd (not_first s end_model (λ z. z.0) k t))

-- ---- wherever a command comes

held : (B : List ℕ) {at : ℕ} {s : Progress} → Comes B at s → (u : Loaded) × (Writes B at u × Held s u)
held B comes_first = (record { stack = []; entries = [] }, (writes_none, (tt, λ _. refl)))
held B (comes_next {at = at} {s = s} m w k n) = let d = held B m in (
  result (load_one_with as_written (command_at B at) d.0),
  (writes_one d.1.0, one_judged (command_at B at) s d.0 k d.1.1),
)

pub judged_as_written : AsWritten
judged_as_written B at s m = let d = held B m in (d.0, (d.1.0, d.1.1.0))
