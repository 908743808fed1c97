-- What the pass meets are exactly the bearers.
use mathlib.Core.Path.{◌≡◌, refl, sym, ap, ◌∙◌, subst}
use mathlib.Core.Logic.{⊎_elim}
use mathlib.Core.List.{List, [], ◌∷◌, ◌++◌, Memᴰ}
use Prim.Native.Nat.{ℕ, zero, suc, ◌+◌}
use native.Mathlib.Omega.{arith}
use lib.Dec.{T_not}
use lib.ListN.{length}
use Rattle.whole.specs.Cases.{if, by_test}
use Rattle.theory.specs.Command.{site, push_leaf, push_condition, push_test, push_forbidden, give, name_action, end_model, Read, whole, unknown, short, Placed, byte_at, width, read_at, goes_on, readings_from, readings_from_in, readings, readings_in}
use Rattle.theory.specs.Verdict.{from_to}
use Rattle.theory.specs.Load.{site_at}
use Rattle.theory.specs.Rows.{Admitted}
use Rattle.theory.proofs.laws.AcceptedModel.{behind}
use Rattle.model_find.specs.declared.Bearers.{Bearers}
use Rattle.model_find.specs.declared.Bearers.TheVariants.{Nobody, One, Several}
use Rattle.model_find.specs.Find.{FindOut, refused_find, trim, same_name, bearers, found_among}
use Rattle.model_find.specs.Statements.{Carries}
use Rattle.model_find.specs.Tally.{joined, with_reading, tally, told}
use Rattle.model_find.proofs.laws.Spaces.{same_is, same_self}
use Rattle.model_find.proofs.laws.Bearers.{DistinctNumbers, Lists, tells, told_is, bearers_listed}
use Rattle.model_find.proofs.laws.NameCommands.{naming, behind_later, name_there, named_once, in_range, name_given_there}

-- the action that a reading names x
met_by : List ℕ → Read → List ℕ
met_by x (whole (site m n a w)) = []
met_by x (whole (push_leaf p)) = []
met_by x (whole (push_condition k)) = []
met_by x (whole (push_test p)) = []
met_by x (whole push_forbidden) = []
met_by x (whole (give g)) = []
met_by x (whole (name_action a t)) = if (same_name (trim t) x) (a ∷ []) []
met_by x (whole end_model) = []
met_by x unknown = []
met_by x short = []

-- those that are met, in the order of the commands
met : List ℕ → List Placed → List ℕ
met x [] = []
met x (p ∷ l) = met_by x p.read ++ met x l

-- ---- the tally tells of them

-- with some met before
with_met : Bearers → List ℕ → FindOut
with_met Nobody k = found_among k
with_met (One a) k = found_among (a ∷ k)
with_met Several k = refused_find 19 0

one_more : (s : Bearers) (a : ℕ) (k : List ℕ) → with_met (joined s a) k ≡ with_met s (a ∷ k)
unfolding with_met joined found_among
one_more Nobody a k = refl
one_more (One b) a k = refl
one_more Several a k = refl

one_reading : (x : List ℕ) (s : Bearers) (r : Read) (k : List ℕ) → with_met (with_reading x s r) k ≡ with_met s (met_by x r ++ k)
unfolding with_reading met_by
one_reading x s (whole (site m n a w)) k = refl
one_reading x s (whole (push_leaf p)) k = refl
one_reading x s (whole (push_condition i)) k = refl
one_reading x s (whole (push_test p)) k = refl
one_reading x s (whole push_forbidden) k = refl
one_reading x s (whole (give g)) k = refl
one_reading x s (whole (name_action a t)) k = by_test (same_name (trim t) x) (λ b. with_met (if b (joined s a) s) k ≡ with_met s (if b (a ∷ []) [] ++ k)) (λ _. one_more s a k) (λ _. refl)
one_reading x s (whole end_model) k = refl
one_reading x s unknown k = refl
one_reading x s short k = refl

told_met : (s : Bearers) → told s ≡ with_met s []
unfolding told with_met found_among
told_met Nobody = refl
told_met (One a) = refl
told_met Several = refl

tally_met : (x : List ℕ) (s : Bearers) (l : List Placed) → told (tally x s l) ≡ with_met s (met x l)
unfolding tally met
tally_met x s [] = told_met s
tally_met x s (p ∷ l) = tally_met x (with_reading x s p.read) l ∙ one_reading x s p.read (met x l)

-- ---- who is met

module _ (x : List ℕ) (a : ℕ) where
  -- a command that names it x
  abbrev Met : List Placed → Type 0
  Met l = (at : ℕ) × ((t : List ℕ) × (Memᴰ (naming a at t) l × (trim t ≡ x)))

  -- what one reading meets is that action alone
  met_reading : (r : Read) → Memᴰ a (met_by x r) → (met_by x r ≡ a ∷ []) × ((t : List ℕ) × ((r ≡ whole (name_action a t)) × (trim t ≡ x)))
  unfolding met_by
  met_reading (whole (site i n b w)) m = absurd (mathlib.Core.List.Memᴰ.not-nil m)
  met_reading (whole (push_leaf p)) m = absurd (mathlib.Core.List.Memᴰ.not-nil m)
  met_reading (whole (push_condition k)) m = absurd (mathlib.Core.List.Memᴰ.not-nil m)
  met_reading (whole (push_test p)) m = absurd (mathlib.Core.List.Memᴰ.not-nil m)
  met_reading (whole push_forbidden) m = absurd (mathlib.Core.List.Memᴰ.not-nil m)
  met_reading (whole (give g)) m = absurd (mathlib.Core.List.Memᴰ.not-nil m)
  met_reading (whole (name_action b t)) m = by_test (same_name (trim t) x)
      (λ c. Memᴰ a (if c (b ∷ []) []) → (if c (b ∷ []) [] ≡ a ∷ []) × ((u : List ℕ) × ((whole (name_action b t) ≡ whole (name_action a u)) × (trim u ≡ x))))
      (λ s m.
      let i : b ≡ a = ⊎_elim (λ i. sym i) (λ n. absurd (mathlib.Core.List.Memᴰ.not-nil n)) (mathlib.Core.List.Memᴰ.cases_cons m) in
      (ap (λ (c : ℕ). c ∷ []) i, (t, (ap (λ (c : ℕ). whole (name_action c t)) i, same_is (trim t) x s))))
      (λ _ m. absurd (mathlib.Core.List.Memᴰ.not-nil m))
      m
  met_reading (whole end_model) m = absurd (mathlib.Core.List.Memᴰ.not-nil m)
  met_reading unknown m = absurd (mathlib.Core.List.Memᴰ.not-nil m)
  met_reading short m = absurd (mathlib.Core.List.Memᴰ.not-nil m)

  met_in : (l : List Placed) → Memᴰ a (met x l) → Met l
  unfolding met
  met_in [] m = absurd (mathlib.Core.List.Memᴰ.not-nil m)
  met_in (p ∷ l) m = ⊎_elim
      (λ n. let d = (met_reading p.read n).1 in (p.at, (d.0, (mathlib.Core.List.Memᴰ.head (sym (λ i. record { at = p.at; read = d.1.0 i })), d.1.1))))
      (λ n. let d = met_in l n in (d.0, (d.1.0, (mathlib.Core.List.Memᴰ.tail d.1.1.0, d.1.1.1))))
      (mathlib.Core.List.Memᴰ.append_cases (met_by x p.read) m)

  reading_met : (t : List ℕ) → trim t ≡ x → Memᴰ a (met_by x (whole (name_action a t)))
  unfolding met_by
  reading_met t e = by_test (same_name (trim t) x) (λ c. Memᴰ a (if c (a ∷ []) []))
      (λ _. mathlib.Core.List.Memᴰ.head refl) (λ n. absurd (T_not (same_name (trim t) x) n (rw e (same_self x))))

  in_met : (l : List Placed) → Met l → Memᴰ a (met x l)
  unfolding met
  in_met [] d = absurd (mathlib.Core.List.Memᴰ.not-nil d.1.1.0)
  in_met (p ∷ l) d = ⊎_elim
      (λ i. mathlib.Core.List.Memᴰ.append_left (met x l) (subst (λ (y : Placed). Memᴰ a (met_by x y.read)) i (reading_met d.1.0 d.1.1.1)))
      (λ m. mathlib.Core.List.Memᴰ.append_right (met_by x p.read) (in_met l (d.0, (d.1.0, (m, d.1.1.1)))))
      (mathlib.Core.List.Memᴰ.cases_cons d.1.1.0)

-- ---- in an accepted model, each once

distinct_more : (k l : List ℕ) → ((a : ℕ) → Memᴰ a k → (k ≡ a ∷ []) × (Memᴰ a l → ⊥)) → DistinctNumbers l → DistinctNumbers (k ++ l)
distinct_more [] l f d = d
distinct_more (a ∷ k) l f d =
    let g = f a (mathlib.Core.List.Memᴰ.head refl) in
    subst (λ (j : List ℕ). DistinctNumbers (j ++ l)) (sym g.0) (g.1, d)

-- two commands that name an action are one
abbrev Once : List Placed → Type 0
Once l = (a at : ℕ) (t : List ℕ) → Memᴰ (naming a at t) l → (z : ℕ) (u : List ℕ) → Memᴰ (naming a z u) l → at ≡ z

met_once : (B x : List ℕ) (k p : ℕ) → Once (readings_from B k p) → DistinctNumbers (met x (readings_from B k p))
unfolding readings_from_in met
met_once B x zero p f = tt
met_once B x (suc k) p f = distinct_more (met_by x (read_at B p)) (met x (behind B k p (goes_on (read_at B p))))
    (λ a m. (
      (met_reading x a (read_at B p) m).0,
      λ n.
          let d = (met_reading x a (read_at B p) m).1 in
          let e = met_in x a (behind B k p (goes_on (read_at B p))) n in
          let here : Memᴰ (naming a p d.0) (record { at = p; read = read_at B p } ∷ behind B k p (goes_on (read_at B p))) = mathlib.Core.List.Memᴰ.head (sym (λ i. record { at = p; read = d.1.0 i })) in
          let same : p ≡ e.0 = f a p d.0 here e.0 e.1.0 (mathlib.Core.List.Memᴰ.tail e.1.1.0) in
          absurd (omega (arith, same, behind_later B k p (naming a e.0 e.1.0) e.1.1.0)),
    ))
    (by_test (goes_on (read_at B p)) (λ b. Once (record { at = p; read = read_at B p } ∷ behind B k p b) → DistinctNumbers (met x (behind B k p b)))
    (λ _ f. met_once B x k (p + width (byte_at B p)) (λ a at t m z u n. f a at t (mathlib.Core.List.Memᴰ.tail m) z u (mathlib.Core.List.Memᴰ.tail n)))
    (λ _ _. tt)
    f)

module _ (B x : List ℕ) (d : Admitted B 1 8) (some : x ≡ [] → ⊥) where
  met_listed : Lists (Carries B x) (met x (readings B))
  unfolding readings_in
  met_listed = record {
    once = met_once B x (suc (length B)) 0 (λ a at t m z u n. named_once B d a at t m z u n);
    each = λ a m.
        let e = met_in x a (readings B) m in
        record { some = some; among = in_range B d a e.0 e.1.0 e.1.1.0; named = name_there B d a e.0 e.1.0 e.1.1.0 ∙ e.1.1.1 };
    all = λ a c.
        let e = name_given_there B d a (λ z. some (sym c.named ∙ z)) in
        in_met x a (readings B) (e.0, (e.1.0, (e.1.1, sym (name_there B d a e.0 e.1.0 e.1.1) ∙ c.named)));
  }

  -- so the tally tells what the definition does
  pub tally_tells : told (tally x Nobody (readings B)) ≡ found_among (bearers B x (from_to 1 (site_at B).actions))
  unfolding with_met
  tally_tells = tally_met x Nobody (readings B) ∙ told_is (met x (readings B)) met_listed (tells (bearers B x (from_to 1 (site_at B).actions)) (bearers_listed B x))
