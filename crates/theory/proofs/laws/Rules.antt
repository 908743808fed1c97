-- The rules of a command by computed tests, and by what 01 asks: the number of the first that is broken is the same.
use Rattle.std.specs.Prelude.{◌≡◌, refl, ◌⊎◌, Bool, true, false, not, ◌&&◌, T, eqb, ltb, leb, length, drop}
use Rattle.std.proofs.Common.{sym, ◌∙◌, subst, inl, inr, ⊎_elim, arith, T_not, eqb→eq, leb→le, le→leb, ltb→lt, lt→ltb, nltb→le}
use mathlib.Core.List.Memᴰ
use mathlib.Core.List.{List, [], ◌∷◌, ◌++◌, map, Memᴰ}
use Prim.Native.Nat.{ℕ, zero, suc, ◌+◌, ◌-◌, ◌≤◌, ◌<◌}
use Rattle.std.proofs.Math.Dec.{eqb_refl, nleb→lt}
use Rattle.whole.specs.Cases.{if, by_test, both, and_in, not_not}
use Rattle.theory.specs.Diagram.{Linear, zeros}
use Rattle.theory.specs.Valid.{all, among}
use Rattle.theory.specs.Form.{Form, new_form, levels_in, actions_in}
use Rattle.theory.specs.Command.{Command, site, push_leaf, push_condition, push_test, push_forbidden, give, name_action, end_model, Slot}
use Rattle.theory.specs.Verdict.{Site, Facts, Progress, Rule, rule, first_broken, same_slot, has_slot, reward_slot, chance_slot, level_slot, end_slot}
use Rattle.theory.specs.Verdict.{from_to, wanted_by, or, beyond, next_condition, printable, of_site, may_be, top, wanted, site_rules, first_rules}
use Rattle.theory.specs.Verdict.{later_rules, rules_of, rules_in}
use Rattle.theory.specs.Rows.{Rules, AllGiven, OfSite, MayBe, none, asks, Keeps, Breaks, Range, first_asks_in, later_asks, asks_in, asks_of}
use Rattle.theory.proofs.laws.AcceptedModel.{from_all, wanted_each}
use Rattle.theory.proofs.laws.Valid.{among_in, among_out}

-- a test that is true exactly where P does not hold
pub record Says (b : Bool) (P : Type 0) : Type 0 where
  pub broken : T b → P → ⊥
  pub kept : T (not b) → P

-- the same rules, in the same order, with the same numbers
abbrev pub Agree : List Rule → Rules → Type 0
Agree [] none = Unit {0}
Agree [] (asks k P m) = ⊥
Agree (r ∷ l) none = ⊥
Agree (r ∷ l) (asks k P m) = (r.number ≡ k) × ((1 ≤ k) × (Says r.broken P × Agree l m))

-- ---- what follows

-- all are kept, or the first that is not has the number
pub by_rules : (l : List Rule) (m : Rules) → Agree l m → ((first_broken l ≡ 0) × Keeps m) ⊎ ((1 ≤ first_broken l) × Breaks m (first_broken l))
unfolding first_broken
by_rules [] none a = inl (refl, tt)
by_rules [] (asks k P m) a = absurd a
by_rules (r ∷ l) none a = absurd a
by_rules (r ∷ l) (asks k P m) a = by_test r.broken
    (λ b. ((if b r.number (first_broken l) ≡ 0) × (P × Keeps m)) ⊎ ((1 ≤ if b r.number (first_broken l)) × (((P → ⊥) × (k ≡ if b r.number (first_broken l))) ⊎ (P × Breaks m (if b r.number (first_broken l))))))
    (λ t. inr (omega (arith, a.0, a.1.0), inl (a.1.1.0.broken t, sym a.0)))
    (λ t. let p = a.1.1.0.kept t in ⊎_elim (λ d. inl (d.0, (p, d.1))) (λ d. inr (d.0, inr (p, d.1))) (by_rules l m a.1.1.1))

pub kept_zero : (l : List Rule) (m : Rules) → Agree l m → Keeps m → first_broken l ≡ 0
unfolding first_broken
kept_zero [] none a d = refl
kept_zero [] (asks k P m) a d = absurd a
kept_zero (r ∷ l) none a d = absurd a
kept_zero (r ∷ l) (asks k P m) a d = by_test r.broken (λ b. if b r.number (first_broken l) ≡ 0)
    (λ t. absurd (a.1.1.0.broken t d.0)) (λ t. kept_zero l m a.1.1.1 d.1)

pub broken_number : (l : List Rule) (m : Rules) → Agree l m → (k : ℕ) → Breaks m k → (first_broken l ≡ k) × (1 ≤ k)
unfolding first_broken
broken_number [] none a k d = absurd d
broken_number [] (asks j P m) a k d = absurd a
broken_number (r ∷ l) none a k d = absurd a
broken_number (r ∷ l) (asks j P m) a k d = by_test r.broken (λ b. (if b r.number (first_broken l) ≡ k) × (1 ≤ k))
    (λ t. ⊎_elim (λ e. (a.0 ∙ e.1, omega (arith, e.1, a.1.0))) (λ e. absurd (a.1.1.0.broken t e.0)) d)
    (λ t. ⊎_elim (λ e. absurd (e.0 (a.1.1.0.kept t))) (λ e. broken_number l m a.1.1.1 k e.1) d)

-- ---- tests

says_true : (b : Bool) → Says (not b) (T b)
says_true b = record { broken = λ t p. T_not b t p; kept = λ t. not_not b t }

says_not : (b : Bool) → Says b (T b → ⊥)
says_not b = record { broken = λ t f. f t; kept = λ t. T_not b t }

says_never : Says true ⊥
says_never = record { broken = λ t p. p; kept = λ t. absurd t }

says_among : (n k : ℕ) → Says (not (among n k)) (Range 1 n k)
says_among n k = record { broken = λ t d. T_not (among n k) t (among_in n k d.0 d.1); kept = λ t. among_out n k (not_not (among n k) t) }

says_below : (a b : ℕ) → Says (ltb a b) (b ≤ a)
says_below a b = record { broken = λ t h. absurd (omega (arith, ltb→lt a b t)); kept = λ t. nltb→le a b t }

says_from : (a b : ℕ) → Says (leb a b) (b < a)
says_from a b = record { broken = λ t h. absurd (omega (arith, leb→le a b t)); kept = λ t. nleb→lt a b t }

says_empty : (n : ℕ) → Says (ltb 0 n) (n ≡ 0)
says_empty n = record { broken = λ t h. absurd (omega (arith, ltb→lt 0 n t)); kept = λ t. omega (arith, nltb→le 0 n t) }

or_cases : (a b : Bool) → T (or a b) → T a ⊎ T b
or_cases true b t = inl tt
or_cases false b t = inr t

pub or_left : (a b : Bool) → T a → T (or a b)
or_left true b t = tt
or_left false b t = absurd t

pub or_right : (a b : Bool) → T b → T (or a b)
or_right true b t = tt
or_right false b t = t

says_condition : (n k : ℕ) → Says (not (or (among n k) (next_condition n k))) (Range 1 n k ⊎ Range 5 (4 + n) k)
unfolding next_condition
says_condition n k = record {
  broken = λ t d. T_not (or (among n k) (ltb 4 k && among n (k - 4))) t (⊎_elim
      (λ e. or_left (among n k) _ (among_in n k e.0 e.1))
      (λ e. or_right (among n k) _ (and_in (ltb 4 k) (among n (k - 4)) (lt→ltb 4 k e.0) (among_in n (k - 4) (omega (arith, e.0)) (omega (arith, e.1)))))
      d);
  kept = λ t. ⊎_elim
      (λ e. inl (among_out n k e))
      (λ e.
      let d = both (ltb 4 k) (among n (k - 4)) e in
      let i = among_out n (k - 4) d.1 in
      let j = ltb→lt 4 k d.0 in
      inr (j, omega (arith, i.1)))
      (or_cases (among n k) (ltb 4 k && among n (k - 4)) (not_not (or (among n k) (ltb 4 k && among n (k - 4))) t));
}

-- ---- lists

pub all_each : {A : Type 0} (p : A → Bool) (l : List A) → T (all p l) → (x : A) → Memᴰ x l → T (p x)
unfolding all
all_each p [] t x m = absurd (Memᴰ.not-nil m)
all_each p (y ∷ l) t x m = let d = both (p y) (all p l) t in ⊎_elim (λ i. rw i d.0) (λ i. all_each p l d.1 x i) (Memᴰ.cases_cons m)

each_all : {A : Type 0} (p : A → Bool) (l : List A) → ((x : A) → Memᴰ x l → T (p x)) → T (all p l)
unfolding all
each_all p [] f = tt
each_all p (y ∷ l) f = and_in (p y) (all p l) (f y (Memᴰ.head refl)) (each_all p l (λ x m. f x (Memᴰ.tail m)))

says_all : {A : Type 0} (p : A → Bool) (P : A → Type 0) → ((x : A) → T (p x) → P x) → ((x : A) → P x → T (p x)) → (l : List A) → Says (not (all p l)) ((x : A) → Memᴰ x l → P x)
says_all p P f g l = record {
  broken = λ t h. T_not (all p l) t (each_all p l (λ x m. g x (h x m)));
  kept = λ t x m. f x (all_each p l (not_not (all p l) t) x m);
}

pub slot_same : (s t : Slot) → T (same_slot s t) → s ≡ t
unfolding same_slot
slot_same s t h =
    let d = both (eqb s.command t.command) (eqb s.action t.action && eqb s.index t.index) h in
    let e = both (eqb s.action t.action) (eqb s.index t.index) d.1 in
    λ i. record { command = eqb→eq s.command t.command d.0 i; action = eqb→eq s.action t.action e.0 i; index = eqb→eq s.index t.index e.1 i }

pub same_self : (s : Slot) → T (same_slot s s)
unfolding same_slot
same_self s = and_in (eqb s.command s.command) _ (eqb_refl s.command) (and_in (eqb s.action s.action) (eqb s.index s.index) (eqb_refl s.action) (eqb_refl s.index))

pub slot_given : (s : Slot) (G : List Slot) → T (has_slot s G) → Memᴰ s G
unfolding has_slot
slot_given s [] h = absurd h
slot_given s (t ∷ G) h = ⊎_elim (λ e. Memᴰ.head (slot_same s t e)) (λ e. Memᴰ.tail (slot_given s G e)) (or_cases (same_slot s t) (has_slot s G) h)

pub given_slot : (s : Slot) (G : List Slot) → Memᴰ s G → T (has_slot s G)
unfolding has_slot
given_slot s [] m = absurd (Memᴰ.not-nil m)
given_slot s (t ∷ G) m = ⊎_elim
    (λ i. or_left (same_slot s t) (has_slot s G) (subst (λ (u : Slot). T (same_slot s u)) i (same_self s)))
    (λ i. or_right (same_slot s t) (has_slot s G) (given_slot s G i)) (Memᴰ.cases_cons m)

says_once : (s : Slot) (G : List Slot) → Says (has_slot s G) (Memᴰ s G → ⊥)
says_once s G = record { broken = λ t f. f (slot_given s G t); kept = λ t m. T_not (has_slot s G) t (given_slot s G m) }

says_printable : (b : List ℕ) → Says (not (all printable b)) ((x : ℕ) → Memᴰ x b → Range 0x20 0x7e x)
unfolding printable
says_printable b = says_all printable (Range 0x20 0x7e)
    (λ x t. let d = both (leb 0x20 x) (leb x 0x7e) t in (leb→le 0x20 x d.0, leb→le x 0x7e d.1))
    (λ x d. and_in (leb 0x20 x) (leb x 0x7e) (le→leb 0x20 x d.0) (le→leb x 0x7e d.1))
    b

all_both : {A : Type 0} (p : A → Bool) (l m : List A) → T (all p l) → T (all p m) → T (all p (l ++ m))
unfolding all
all_both p [] m a b = b
all_both p (x ∷ l) m a b = let d = both (p x) (all p l) a in and_in (p x) (all p (l ++ m)) d.0 (all_both p l m d.1 b)

all_map : {A : Type 0} (p : A → Bool) (f : ℕ → A) (b k : ℕ) → ((i : ℕ) → b ≤ i → i < b + k → T (p (f i))) → T (all p (map f (from_to b k)))
unfolding all from_to
all_map p f b zero g = tt
all_map p f b (suc k) g = and_in (p (f b)) (all p (map f (from_to (suc b) k))) (g b (omega arith) (omega arith)) (all_map p f (suc b) k (λ i h l. g i (omega arith) (omega arith)))

module _ (p : Slot → Bool) (S : Site) where
  wanted_all : (b k : ℕ)
      → ((a : ℕ) → b ≤ a → a < b + k → T (p (reward_slot a)) × (((k : ℕ) → 1 ≤ k → k < 1 + S.conditions → T (p (chance_slot a k))) × ((i : ℕ) → 1 ≤ i → i < 1 + S.levels → T (p (level_slot a i)))))
      → T (all p (wanted_by S (from_to b k)))
  unfolding all from_to wanted_by
  wanted_all b zero g = tt
  wanted_all b (suc k) g =
      let d = g b (omega arith) (omega arith) in
      let ih = wanted_all (suc b) k (λ a h l. g a (omega arith) (omega arith)) in
      and_in (p (reward_slot b)) _ d.0
      (all_both p (map (chance_slot b) (from_to 1 S.conditions)) _ (all_map p (chance_slot b) 1 S.conditions d.1.0)
      (all_both p (map (level_slot b) (from_to 1 S.levels)) _ (all_map p (level_slot b) 1 S.levels d.1.1) ih))

says_given : (S : Site) (G : List Slot) → Says (not (all (λ s. has_slot s G) (wanted S))) (AllGiven S G)
unfolding wanted
says_given S G = record {
  broken = λ t h. T_not (all (λ s. has_slot s G) (wanted_by S (from_to 1 S.actions))) t (wanted_all (λ s. has_slot s G) S 1 S.actions (λ a u l.
      let d = h a (u, omega arith) in
      (given_slot (reward_slot a) G d.0, ((λ k v m. given_slot (chance_slot a k) G (d.1.0 k (v, omega arith))), (λ i v m. given_slot (level_slot a i) G (d.1.1 i (v, omega arith)))))));
  kept = λ t a d.
      let w = wanted_each (λ s. has_slot s G) S 1 S.actions (not_not (all (λ s. has_slot s G) (wanted_by S (from_to 1 S.actions))) t) a d.0 (omega (arith, d.1)) in (
        slot_given (reward_slot a) G w.0,
        (
          (λ k e. slot_given (chance_slot a k) G (from_all (λ s. has_slot s G) (chance_slot a) 1 S.conditions w.1.0 k e.0 (omega (arith, e.1)))),
          (λ i e. slot_given (level_slot a i) G (from_all (λ s. has_slot s G) (level_slot a) 1 S.levels w.1.1 i e.0 (omega (arith, e.1)))),
        ),
      );
}

-- where a number is k, a test
only : (c k : ℕ) (b : Bool) (P : Type 0) → Says (not b) P → Says (not (or (not (eqb c k)) b)) (c ≡ k → P)
only c k b P s = by_test (eqb c k) (λ z. Says (not (or (not z) b)) (c ≡ k → P))
    (λ t. record { broken = λ u f. s.broken u (f (eqb→eq c k t)); kept = λ u _. s.kept u })
    (λ n. record { broken = λ u f. absurd u; kept = λ u e. absurd (T_not (eqb c k) n (rw e (eqb_refl k))) })

-- two tests
pair : (a b : Bool) (P Q : Type 0) → Says (not a) P → Says (not b) Q → Says (not (a && b)) (P × Q)
pair true b P Q s t = record { broken = λ u f. t.broken u f.1; kept = λ u. (s.kept tt, t.kept u) }
pair false b P Q s t = record { broken = λ u f. s.broken tt f.0; kept = λ u. absurd u }

-- where a number is k, one test, and another elsewhere
either_at : (c k : ℕ) (a b : Bool) (P Q : Type 0) → Says (not a) P → Says (not b) Q → (Q → c ≡ k → ⊥) → Says (not (if (eqb c k) a b)) (((c ≡ k) × P) ⊎ Q)
either_at c k a b P Q s t f = by_test (eqb c k) (λ z. Says (not (if z a b)) (((c ≡ k) × P) ⊎ Q))
    (λ u. let e = eqb→eq c k u in record { broken = λ v. ⊎_elim (λ d. s.broken v d.1) (λ q. f q e); kept = λ v. inl (e, s.kept v) })
    (λ n. record { broken = λ v. ⊎_elim (λ d. T_not (eqb c k) n (rw d.0 (eqb_refl k))) (λ q. t.broken v q); kept = λ v. inr (t.kept v) })

says_is : (a b : ℕ) → Says (not (eqb a b)) (a ≡ b)
says_is a b = record { broken = λ t e. T_not (eqb a b) t (rw e (eqb_refl b)); kept = λ t. eqb→eq a b (not_not (eqb a b) t) }

-- one of two tests
either : (a b : Bool) (P Q : Type 0) → Says (not a) P → Says (not b) Q → Says (not (or a b)) (P ⊎ Q)
either true b P Q s t = record { broken = λ u f. absurd u; kept = λ u. inl (s.kept tt) }
either false b P Q s t = record { broken = λ u. ⊎_elim (s.broken tt) (t.broken u); kept = λ u. inr (t.kept u) }

says_slot : (g h : Slot) → Says (not (same_slot g h)) (g ≡ h)
says_slot g h = record {
  broken = λ t e. T_not (same_slot g h) t (subst (λ (k : Slot). T (same_slot g k)) e (same_self g));
  kept = λ t. slot_same g h (not_not (same_slot g h) t);
}

pub says_of_site : (S : Site) (g : Slot) → Says (not (of_site S g)) (OfSite S g)
unfolding of_site
says_of_site S g = either (same_slot g end_slot) _ _ _ (says_slot g end_slot)
    (pair (among S.actions g.action) _ _ _ (says_among S.actions g.action)
    (either_at g.command 0x20 _ _ _ _ (says_is g.index 0)
    (either_at g.command 0x21 _ _ _ _ (says_among S.conditions g.index) (pair (eqb g.command 0x22) _ _ _ (says_is g.command 0x22) (says_among S.levels g.index)) (λ d e. omega (arith, d.0)))
    (⊎_elim (λ d e. omega (arith, d.0)) (λ d e. omega (arith, d.0)))))

-- what is given by the rules is the site's
pub of_site_out : (S : Site) (g : Slot) → T (of_site S g) → OfSite S g
of_site_out S g t = (says_of_site S g).kept (twice (of_site S g) t)
  where
    twice : (b : Bool) → T b → T (not (not b))
    twice true t = tt
    twice false t = absurd t

says_may_be : (g : Slot) (f : Facts) → Says (not (may_be g f)) (MayBe g f)
unfolding may_be
says_may_be g f = pair (or (eqb g.command 0x22) (not f.next_step)) _ _ _ (stands_in g.command 0x22 f.next_step)
    (pair (or (not (eqb g.command 0x21)) f.weights) _ _ _ (only g.command 0x21 f.weights _ (says_true f.weights)) (stands_in g.command 0x20 f.forbids))
  where
    -- what only one command may give
    stands_in : (c k : ℕ) (b : Bool) → Says (not (or (eqb c k) (not b))) (T b → c ≡ k)
    stands_in c k b = by_test (eqb c k) (λ z. Says (not (or z (not b))) (T b → c ≡ k))
        (λ t. record { broken = λ u h. absurd u; kept = λ u _. eqb→eq c k t })
        (λ n. record { broken = λ u h. T_not (eqb c k) n (rw (h (not_not b u)) (eqb_refl k)); kept = λ u x. absurd (T_not b (not_not (not b) u) x) })

says_beyond : (m : ℕ) (p : Linear) → Says (beyond m p) (T (zeros (drop m p.coeffs)))
unfolding beyond
says_beyond m p = says_true (zeros (drop m p.coeffs))

-- ---- commands

n1 : 1 ≤ 1
n1 = omega arith

n4 : 1 ≤ 4
n4 = omega arith

n5 : 1 ≤ 5
n5 = omega arith

n6 : 1 ≤ 6
n6 = omega arith

n7 : 1 ≤ 7
n7 = omega arith

only_first : Agree (rule 1 true ∷ []) (asks 1 ⊥ none)
only_first = (refl, (n1, (says_never, tt)))

first_agree : (F : Form) (c : Command) → Agree (first_rules F c) (first_asks_in F c)
unfolding first_rules site_rules
first_agree F (site m n a w) = (refl, (n4, (says_among (levels_in F) m, (refl, (n4, (says_below 4 n, (refl, (n4, (says_among (actions_in F) a, (refl, (n4, (says_among 100 w, tt))))))))))))
first_agree F (push_leaf p) = only_first
first_agree F (push_condition k) = only_first
first_agree F (push_test p) = only_first
first_agree F push_forbidden = only_first
first_agree F (give g) = only_first
first_agree F (name_action a b) = only_first
first_agree F end_model = only_first

later_agree : (S : Site) (K : List Facts) (G : List Slot) (c : Command) → Agree (later_rules S K G c) (later_asks S K G c)
unfolding later_rules
later_agree S K G (site m n a w) = only_first
later_agree S K G (push_leaf p) = (refl, (n4, (says_beyond S.levels p, (refl, (n5, (says_from 32 (length K), tt))))))
later_agree S K G (push_condition k) = (refl, (n4, (says_condition S.conditions k, (refl, (n5, (says_below (length K) 2, tt))))))
later_agree S K G (push_test p) = (refl, (n4, (says_beyond S.levels p, (refl, (n4, (says_not (zeros p.coeffs), (refl, (n5, (says_below (length K) 2, tt)))))))))
later_agree S K G push_forbidden = (refl, (n5, (says_from 32 (length K), tt)))
later_agree S K G (give g) = (refl, (n4, (says_of_site S g, (refl, (n5, (says_below (length K) 1, (refl, (n6, (says_once g G, (refl, (n4, (says_may_be g (top K), tt))))))))))))
later_agree S K G (name_action a b) = (refl, (n4, (says_among S.actions a, (refl, (n4, (says_printable b, (refl, (n6, (says_once _ G, tt)))))))))
later_agree S K G end_model = (refl, (n7, (says_given S G, (refl, (n7, (says_empty (length K), tt))))))

-- the rules of a command are what 01 asks of it
pub rules_agree_in : (F : Form) (s : Progress) (c : Command) → Agree (rules_in F s c) (asks_in F s c)
unfolding rules_in
rules_agree_in F s c = go s.begun
  where
    go : (b : Bool) → Agree (if b (later_rules s.site s.stack s.given c) (first_rules F c)) (elim b [ true ↦ later_asks s.site s.stack s.given c | false ↦ first_asks_in F c ])
    go true = later_agree s.site s.stack s.given c
    go false = first_agree F c

pub rules_agree : (s : Progress) (c : Command) → Agree (rules_of s c) (asks_of s c)
rules_agree = rules_agree_in new_form
