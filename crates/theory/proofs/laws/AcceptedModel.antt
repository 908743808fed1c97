-- What a verdict of 0 gives: the site's numbers are in range, and the model that the bytes spell is valid.
use Rattle.std.specs.Prelude.{◌≡◌, refl, Bool, not, ◌&&◌, T, eqb, ltb, leb, pos, negsuc, nat_abs, length, drop}
use Rattle.std.proofs.Common.{sym, ap, subst, ⊎_elim, arith, eqb→eq, leb→le, le→leb, ltb→lt, lt→ltb, nltb→le, T_not}
use Rattle.std.proofs.Math.Bool.{true, false}
use mathlib.Core.List.Memᴰ
use mathlib.Core.List.{List, [], ◌∷◌, ◌++◌, map, Memᴰ}
use Prim.Native.Nat.{ℕ, zero, suc, ◌+◌, ◌-◌, ◌*◌, ◌≤◌, ◌<◌}
use Rattle.std.proofs.Math.Dec.{eqb_refl, nleb→lt}
use Rattle.whole.specs.Cases.{if, by_test, both, and_in, not_not}
use Rattle.whole.specs.Within.{small, limit}
use Rattle.theory.specs.Widths.{levels_most, conditions_most, actions_most, weights_most}
use Rattle.theory.specs.Diagram.{Linear, Test, now, later, linear, Leaf, lin_of, permitted, Tree, leaf, plain, divisor, test_of, padded}
use Rattle.theory.specs.Computation.{ret, bind, make, result}
use Rattle.theory.specs.Rules.{choose, none_leaf}
use Rattle.theory.specs.Meaning.{Model}
use Rattle.theory.specs.Stage.{action_diagrams, all_diagrams, model_diagrams}
use Rattle.theory.specs.Valid.{all, all_nodes, among, wide, good_test, good_leaf, level_leaf, weight_leaf, valid_action, valid, small_linear}
use Rattle.theory.specs.Form.{Form, new_form, site_byte}
use Rattle.theory.specs.Command.{Command, site, push_leaf, push_condition, push_test, push_forbidden, name_action, end_model, Read, whole, unknown}
use Rattle.theory.specs.Command.{short, Placed, byte_at, word_at, signed, signed_from, linear_at, width, command_at, read_at, goes_on, readings_from}
use Rattle.theory.specs.Command.{readings, give, Slot, command_in, linear_in, read_in, readings_from_in, readings_in, action_at, width_in}
use Rattle.theory.specs.Verdict.{Site, Facts, Progress, reward_slot, chance_slot, level_slot, end_slot, name_slot, same_slot, has_slot, or, Rule, rule}
use Rattle.theory.specs.Verdict.{first_broken, next_condition, is_weight, top, joined, from_to, wanted_by, wanted, site_rules, site_of, first_rules}
use Rattle.theory.specs.Verdict.{later_rules, after, Verdict, refusal, ended, judged, at_start, verdict, may_be, judged_in, rules_in}
use Rattle.theory.specs.Verdict.{verdict_in}
use Rattle.theory.specs.Load.{Entry, Loaded, condition_test, load_choice, load_choice_with, load_entry, load_one, load_one_with, load_on, load_on_with}
use Rattle.theory.specs.Load.{loaded_entries, find_slot, found, action_of, model_of, site_at, model, load_in, model_in, site_in}
use Rattle.theory.proofs.laws.Comps.{result_bind}
use Rattle.theory.proofs.laws.Safe.{any, sure}
use Rattle.theory.proofs.laws.Nodes.{widen, choose_safe}
use Rattle.theory.proofs.laws.Valid.{among_out, other_above, wide_in, quotient_wide, level_good, weight_level, weight_good, plain_good, none_good}

-- ---- numbers that are written lie within the limits, and so do those of a test

signed_small : (n : ℕ) → T (small (signed n))
unfolding small signed
signed_small n = by_test (ltb n 2147483648) (λ b. T (leb (nat_abs (if b (pos n) (negsuc (4294967295 - n)))) limit))
    (λ t. le→leb n limit (let h = ltb→lt n 2147483648 t in omega arith))
    (λ _. le→leb (suc (4294967295 - n)) limit (omega arith))

signed_all : (B : List ℕ) (i k : ℕ) → T (all small (signed_from B i k))
unfolding all signed_from
signed_all B i zero = tt
signed_all B i (suc k) = and_in (small (signed (word_at B i))) (all small (signed_from B (i + 4) k)) (signed_small (word_at B i)) (signed_all B (i + 4) k)

signed_length : (B : List ℕ) (i k : ℕ) → length (signed_from B i k) ≡ k
unfolding signed_from
signed_length B i zero = refl
signed_length B i (suc k) = ap suc (signed_length B (i + 4) k)

pub linear_wide : (B : List ℕ) (i : ℕ) → T (wide (linear_at B i))
unfolding linear_in small_linear padded signed_from
linear_wide B i = wide_in (linear_at B i) (signed_length B i levels_most)
    (and_in (all small (signed_from B i levels_most)) (small (signed (word_at B (i + levels_most * 4)))) (signed_all B i levels_most) (signed_small (word_at B (i + levels_most * 4))))

-- ---- lists of numbers from one on

-- what holds of f of each number holds of all
all_from : {A : Type 0} (p : A → Bool) (f : ℕ → A) (b k : ℕ) → ((a : ℕ) → b ≤ a → a < b + k → T (p (f a))) → T (all p (map f (from_to b k)))
unfolding all from_to
all_from p f b zero h = tt
all_from p f b (suc k) h = and_in (p (f b)) (all p (map f (from_to (suc b) k))) (h b (omega arith) (omega arith)) (all_from p f (suc b) k (λ a u v. h a (omega arith) (omega arith)))

pub from_all : {A : Type 0} (p : A → Bool) (f : ℕ → A) (b k : ℕ) → T (all p (map f (from_to b k))) → (a : ℕ) → b ≤ a → a < b + k → T (p (f a))
unfolding all from_to
from_all p f b zero t a u v = absurd (omega arith)
from_all p f b (suc k) t a u v =
    let d = both (p (f b)) (all p (map f (from_to (suc b) k))) t in
    by_test (eqb a b) (λ _. T (p (f a))) (λ e. rw (eqb→eq a b e) d.0) (λ n. from_all p f (suc b) k d.1 a (other_above b a u n) (omega arith))

from_length : {A : Type 0} (f : ℕ → A) (b k : ℕ) → length (map f (from_to b k)) ≡ k
unfolding from_to
from_length f b zero = refl
from_length f b (suc k) = ap suc (from_length f (suc b) k)

all_append : {A : Type 0} (p : A → Bool) (l r : List A) → T (all p (l ++ r)) → T (all p l) × T (all p r)
unfolding all
all_append p [] r t = (tt, t)
all_append p (x ∷ l) r t =
    let d = both (p x) (all p (l ++ r)) t in
    let c = all_append p l r d.1 in
    (and_in (p x) (all p l) d.0 c.0, c.1)

-- all that is wanted, action by action
pub wanted_each : (p : Slot → Bool) (S : Site) (b k : ℕ) → T (all p (wanted_by S (from_to b k))) → (a : ℕ) → b ≤ a → a < b + k
    → T (p (reward_slot a)) × (T (all p (map (chance_slot a) (from_to 1 S.conditions))) × T (all p (map (level_slot a) (from_to 1 S.levels))))
unfolding all wanted_by from_to
wanted_each p S b zero t a u v = absurd (omega arith)
wanted_each p S b (suc k) t a u v =
    let d = both (p (reward_slot b)) _ t in
    let c = all_append p (map (chance_slot b) (from_to 1 S.conditions)) _ d.1 in
    let e = all_append p (map (level_slot b) (from_to 1 S.levels)) _ c.1 in
    by_test (eqb a b) (λ _. T (p (reward_slot a)) × (T (all p (map (chance_slot a) (from_to 1 S.conditions))) × T (all p (map (level_slot a) (from_to 1 S.levels)))))
    (λ q. rw (eqb→eq a b q) (d.0, (c.0, e.0)))
    (λ n. wanted_each p S (suc b) k e.1 a (other_above b a u n) (omega arith))

-- ---- what is loaded for a slot

-- a constant 0 to W where w, a leaf within the limits else, forbidden only where n
unfoldable pub leaf_as : ℕ → Bool → Bool → Leaf → Bool
leaf_as W w n f = if w (weight_leaf W f) (if n (good_leaf f) (level_leaf f))

-- the diagrams that a command may give
unfoldable pub fits : Site → ℕ → Tree → Bool
fits S c t = all_nodes (good_test S.conditions (eqb c 0x22)) (leaf_as S.weights (eqb c 0x21) (eqb c 0x20)) t

abbrev pub entry_trees : List Entry → List Tree
entry_trees E = map (λ e. e.tree) E

-- one that a command may give, and that is loaded
pub record EntryHeld (S : Site) (E : List Entry) (c : ℕ) (t : Tree) : Type 0 where
  pub good : T (fits S c t)
  pub loaded : Memᴰ t (entry_trees E)

-- what is found at a slot is such
abbrev pub Found : Site → List Entry → Slot → Type 0
Found S E g = EntryHeld S E g.command (find_slot g E)

-- each entry is what it may be
abbrev Fitting : Site → List Entry → Type 0
Fitting S E = T (all (λ e. fits S e.slot.command e.tree) E)

-- each slot given that is no name has its entry
Given : Site → List Slot → List Entry → Type 0
Given S G E = ((g : Slot) → T (has_slot g G) → T (not (eqb g.command 0x30)) → Found S E g) × Fitting S E

same_command : (g h : Slot) → T (same_slot g h) → T (eqb g.command h.command)
unfolding same_slot
same_command g h t = (both (eqb g.command h.command) _ t).0

given_entry : (S : Site) (G : List Slot) (E : List Entry) (g : Slot) (t : Tree) → T (fits S g.command t) → Given S G E → Given S (g ∷ G) (record { slot = g; tree = t } ∷ E)
unfolding Given has_slot find_slot all
given_entry S G E g t w u = (
  λ h r n.
      let E' : List Entry = record { slot = g; tree = t } ∷ E in
      by_test (same_slot h g) (λ b. T (or b (has_slot h G)) → EntryHeld S E' h.command (if b t (find_slot h E)))
      (λ s _. record { good = subst (λ c. T (fits S c t)) (sym (eqb→eq h.command g.command (same_command h g s))) w; loaded = Memᴰ.head refl })
      (λ _ r. let d = u.0 h r n in record { good = d.good; loaded = Memᴰ.tail d.loaded })
      r,
  and_in (fits S g.command t) _ w u.1,
)

given_name : (S : Site) (G : List Slot) (E : List Entry) (a : ℕ) → Given S G E → Given S (name_slot a ∷ G) E
unfolding Given has_slot
given_name S G E a u = (
  λ h r n. by_test (same_slot h (name_slot a)) (λ b. T (or b (has_slot h G)) → Found S E h)
      (λ s _. absurd (T_not (eqb h.command 0x30) n (same_command h (name_slot a) s))) (λ _ r. u.0 h r n) r,
  u.1,
)

given_none : (S : Site) → Given S [] []
unfolding Given has_slot all
given_none S = (λ h r n. absurd r, tt)

-- ---- diagrams on the stack are what the checker says of them

Sound : Site → Facts → Tree → Type 0
Sound S f t = T (all_nodes (good_test S.conditions f.next_step) (leaf_as S.weights f.weights f.forbids) t)

Stacked : Site → List Facts → List Tree → Type 0
Stacked S [] [] = T true
Stacked S [] (t ∷ X) = T false
Stacked S (f ∷ K) [] = T false
Stacked S (f ∷ K) (t ∷ X) = Sound S f t × Stacked S K X

test_less : (n : ℕ) (a b : Bool) → (T a → T b) → (t : Test) → T (good_test n a t) → T (good_test n b t)
unfolding good_test
test_less n a b h (now k) g = g
test_less n a b h (later k) g = let d = both a (among n k) g in and_in b (among n k) (h d.0) d.1
test_less n a b h (linear p) g = g

leaf_less : (W : ℕ) (a b m n : Bool) → (T b → T a) → (T m → T n) → (f : Leaf) → T (leaf_as W a m f) → T (leaf_as W b n f)
unfolding leaf_as
leaf_less W true true m n h k f g = g
leaf_less W true false m true h k f g = weight_good W f g
leaf_less W true false m false h k f g = weight_level W f g
leaf_less W false true m n h k f g = absurd (h tt)
leaf_less W false false true true h k f g = g
leaf_less W false false true false h k f g = absurd (k tt)
leaf_less W false false false true h k f g = level_good f g
leaf_less W false false false false h k f g = g

pub or_left : (a b : Bool) → T a → T (or a b)
or_left true b t = tt
or_left false b t = absurd t

pub or_right : (a b : Bool) → T b → T (or a b)
or_right true b t = tt
or_right false b t = t

sound_leaf : (S : Site) (p : Linear) → T (wide p) → Sound S (record { next_step = false; weights = is_weight S.weights p; forbids = false }) (leaf (plain p))
unfolding Sound all_nodes leaf_as weight_leaf is_weight level_leaf permitted lin_of
sound_leaf S p w =
    let g = and_in true (good_leaf (plain p)) tt (plain_good p w) in
    by_test (is_weight S.weights p) (λ b. T (if b (weight_leaf S.weights (plain p)) (level_leaf (plain p)))) (λ t. and_in (level_leaf (plain p)) (is_weight S.weights p) g t) (λ _. g)

sound_none : (S : Site) → Sound S (record { next_step = false; weights = false; forbids = true }) none_leaf
unfolding Sound all_nodes leaf_as
sound_none S = none_good

-- a choice between two: the checker's facts of it
sound_choice : (S : Site) (b : Bool) (t : Test) (h l : Facts) (H L : Tree) → T (good_test S.conditions (or b (or h.next_step l.next_step)) t)
    → Sound S h H → Sound S l L → Sound S (record { next_step = or b (or h.next_step l.next_step); weights = h.weights && l.weights; forbids = or h.forbids l.forbids }) (result (choose t H L))
unfolding Sound
sound_choice S b t h l H L g u v =
    let n = S.conditions in
    let next = or b (or h.next_step l.next_step) in
    let w = h.weights && l.weights in
    let o = or h.forbids l.forbids in
    sure (choose t H L) (choose_safe any (good_test n next) (leaf_as S.weights w o) t H L g
    (widen _ _ _ _ (test_less n h.next_step next (λ x. or_right b _ (or_left h.next_step _ x)))
    (leaf_less S.weights h.weights w h.forbids o (λ x. (both h.weights l.weights x).0) (or_left h.forbids l.forbids)) H u)
    (widen _ _ _ _ (test_less n l.next_step next (λ x. or_right b _ (or_right h.next_step _ x)))
    (leaf_less S.weights l.weights w l.forbids o (λ x. (both h.weights l.weights x).1) (or_right h.forbids l.forbids)) L v))

-- ---- one command that breaks no rule

abbrev state : Site → List Facts → List Slot → Progress
state S K G = record { begun = true; site = S; stack = K; given = G }

abbrev loaded : List Tree → List Entry → Loaded
loaded X E = record { stack = X; entries = E }

-- the numbers of a site are in range
pub record InRange (S : Site) : Type 0 where
  pub levels_in : T (among levels_most S.levels)
  pub conditions_in : T (leb S.conditions conditions_most)
  pub actions_in : T (among actions_most S.actions)
  pub weights_in : T (among weights_most S.weights)

-- the first of some rules is not broken, nor is one of the others
pub unbroken : (k : ℕ) (b : Bool) (l : List Rule) → first_broken (rule (suc k) b ∷ l) ≡ 0 → T (not b) × (first_broken l ≡ 0)
unfolding first_broken
unbroken k true l e = absurd (omega arith)
unbroken k false l e = (tt, e)

pub broken : {A : Type 0} (k : ℕ) (l : List Rule) → first_broken (rule (suc k) true ∷ l) ≡ 0 → A
broken k l e = absurd (unbroken k true l e).0

or_out : {C : Type 0} (a b : Bool) → T (or a b) → (T a → C) → (T b → C) → C
or_out true b t f g = f tt
or_out false b t f g = g t

-- what a command of the bytes has for operands
Fit : List ℕ → ℕ → Command → Type 0
Fit B at (site m n a w) = site_of m n a w ≡ site_of (byte_at B (at + 1)) (byte_at B (at + 2)) (action_at new_form B (at + 3)) (byte_at B (at + 5))
Fit B at (push_leaf p) = T (wide p)
Fit B at (push_condition k) = T true
Fit B at (push_test p) = T (wide p)
Fit B at push_forbidden = T true
Fit B at (give g) = T true
Fit B at (name_action a b) = T true
Fit B at end_model = T true

fit_if : (B : List ℕ) (at : ℕ) (b : Bool) (c d : Command) → Fit B at c → Fit B at d → Fit B at (if b c d)
fit_if B at true c d f g = f
fit_if B at false c d f g = g

fit : (B : List ℕ) (at : ℕ) → Fit B at (command_at B at)
unfolding command_in Fit
fit B at =
    fit_if B at (eqb (byte_at B at) (site_byte new_form)) _ _ refl (fit_if B at (eqb (byte_at B at) 0x10) _ _ (linear_wide B (at + 1)) (fit_if B at (eqb (byte_at B at) 0x11) _ _ tt
    (fit_if B at (eqb (byte_at B at) 0x12) _ _ (linear_wide B (at + 1)) (fit_if B at (eqb (byte_at B at) 0x13) _ _ tt (fit_if B at (eqb (byte_at B at) 0x20) _ _ tt (fit_if B at (eqb (byte_at B at) 0x21) _ _ tt
    (fit_if B at (eqb (byte_at B at) 0x22) _ _ tt (fit_if B at (eqb (byte_at B at) 0x23) _ _ tt (fit_if B at (eqb (byte_at B at) 0x30) _ _ tt tt)))))))))

condition_good : (n k : ℕ) → n ≤ conditions_most → T (or (among n k) (next_condition n k)) → (next : Bool) → T (good_test n (or (ltb conditions_most k) next) (condition_test k))
unfolding good_test condition_test next_condition
condition_good n k h o next = by_test (leb k conditions_most) (λ b. T (good_test n (or (ltb conditions_most k) next) (if b (now k) (later (k - conditions_most)))))
    (λ t. or_out (among n k) _ o (λ x. x) (λ y. absurd (omega (arith, leb→le k conditions_most t, ltb→lt conditions_most k (both (ltb conditions_most k) _ y).0))))
    (λ t. let l = nleb→lt k conditions_most t in
    and_in (or (ltb conditions_most k) next) (among n (k - conditions_most)) (or_left (ltb conditions_most k) next (lt→ltb conditions_most k l))
    (or_out (among n k) _ o (λ x. absurd (omega (arith, (among_out n k x).1))) (λ y. (both (ltb conditions_most k) _ y).1)))

-- a choice takes two and leaves one
stacked_choice : (S : Site) (b : Bool) (t : Test) (E : List Entry) → ((next : Bool) → T (good_test S.conditions (or b next) t)) → (K : List Facts) (X : List Tree) → 2 ≤ length K
    → Stacked S K X → Stacked S (joined b K) (result (load_choice t X E)).stack × ((result (load_choice t X E)).entries ≡ E)
unfolding Stacked load_choice_with joined result
stacked_choice S b t E g [] X n s = absurd (omega arith)
stacked_choice S b t E g (l ∷ []) X n s = absurd (omega arith)
stacked_choice S b t E g (l ∷ h ∷ K) [] n s = absurd s
stacked_choice S b t E g (l ∷ h ∷ K) (L ∷ []) n s = absurd s.1
stacked_choice S b t E g (l ∷ h ∷ K) (L ∷ H ∷ X) n s =
    subst (λ (r : Loaded). Stacked S (joined b (l ∷ h ∷ K)) r.stack × (r.entries ≡ E)) (sym (result_bind (choose t H L) (λ r. ret (loaded (r ∷ X) E))))
    ((sound_choice S b t h l H L (g _) s.1.0 s.0, s.1.1), refl)

-- a diagram that is given is taken off the stack
stacked_entry : (S : Site) (G : List Slot) (E : List Entry) (g : Slot) (K : List Facts) (X : List Tree) → 1 ≤ length K → ((t : Tree) → Sound S (top K) t → T (fits S g.command t))
    → Stacked S K X → Given S G E → Stacked S (drop 1 K) (result (load_entry g X E)).stack × Given S (g ∷ G) (result (load_entry g X E)).entries
unfolding Stacked load_entry result
stacked_entry S G E g [] X n w s u = absurd (omega arith)
stacked_entry S G E g (f ∷ K) [] n w s u = absurd s
stacked_entry S G E g (f ∷ K) (t ∷ X) n w s u = (s.1, given_entry S G E g t (w t s.0) u)

or_not : (a b : Bool) → T (or a (not b)) → T b → T a
or_not true b t u = tt
or_not false b t u = absurd (T_not b t u)

not_or : (a b : Bool) → T (or (not a) b) → T a → T b
not_or true b t u = t
not_or false b t u = absurd u

-- a diagram that may be what it is given as
fits_given : (S : Site) (g : Slot) (f : Facts) → T (may_be g f) → (t : Tree) → Sound S f t → T (fits S g.command t)
unfolding Sound fits may_be
fits_given S g f m t s =
    let d = both (or (eqb g.command 0x22) (not f.next_step)) _ m in
    let c = both (or (not (eqb g.command 0x21)) f.weights) _ d.1 in
    widen _ _ _ _ (test_less S.conditions f.next_step (eqb g.command 0x22) (or_not (eqb g.command 0x22) f.next_step d.0))
    (leaf_less S.weights f.weights (eqb g.command 0x21) f.forbids (eqb g.command 0x20)
    (not_or (eqb g.command 0x21) f.weights c.0) (or_not (eqb g.command 0x20) f.forbids c.1)) t s

-- the checker's and the loader's states agree
record StatesAgree (S : Site) (s : Progress) (t : Loaded) : Type 0 where
  is_begun : s.begun ≡ true
  is_site : s.site ≡ S
  stacked : Stacked S s.stack t.stack
  entered : Given S s.given t.entries

module _ (B : List ℕ) (at : ℕ) (S : Site) (ok : InRange S) (K : List Facts) (G : List Slot) (X : List Tree) (E : List Entry) (stacked : Stacked S K X) (entered : Given S G E) where
  took : (g : Slot) → T (not (ltb (length K) 1)) → ((t : Tree) → Sound S (top K) t → T (fits S g.command t))
      → StatesAgree S (record { begun = true; site = S; stack = drop 1 K; given = g ∷ G }) (result (load_entry g X E))
  took g n w = let d = stacked_entry S G E g K X (nltb→le (length K) 1 n) w stacked entered in record { is_begun = refl; is_site = refl; stacked = d.0; entered = d.1 }

  chose : (b : Bool) (t : Test) → T (not (ltb (length K) 2)) → ((next : Bool) → T (good_test S.conditions (or b next) t)) → StatesAgree S (state S (joined b K) G) (result (load_choice t X E))
  chose b t n g = let d = stacked_choice S b t E g K X (nltb→le (length K) 2 n) stacked in record { is_begun = refl; is_site = refl; stacked = d.0; entered = rw d.1 entered }

  stepped : (c : Command) → Fit B at c → first_broken (later_rules S K G c) ≡ 0 → StatesAgree S (after (state S K G) c) (result (load_one c (loaded X E)))
  unfolding Fit later_rules after load_one_with make bind result Stacked test_of good_test
  stepped (site m n a w) f e = broken 0 _ e
  stepped (push_leaf p) f e = record { is_begun = refl; is_site = refl; stacked = (sound_leaf S p f, stacked); entered = entered }
  stepped (push_condition k) f e =
      let u = unbroken 3 _ _ e in
      chose (ltb conditions_most k) (condition_test k) (unbroken 4 _ _ u.1).0
      (condition_good S.conditions k (leb→le S.conditions conditions_most ok.conditions_in) (not_not (or (among S.conditions k) (next_condition S.conditions k)) u.0))
  stepped (push_test p) f e =
      let u = unbroken 3 _ _ e in
      let v = unbroken 3 _ _ u.1 in
      chose false (test_of p) (unbroken 4 _ _ v.1).0 (λ _. quotient_wide (divisor p) p f)
  stepped push_forbidden f e = record { is_begun = refl; is_site = refl; stacked = (sound_none S, stacked); entered = entered }
  stepped (give g) f e =
      let u = unbroken 3 _ _ e in
      let v = unbroken 4 _ _ u.1 in
      let w = unbroken 5 _ _ v.1 in
      took g v.0 (fits_given S g (top K) (not_not (may_be g (top K)) (unbroken 3 _ _ w.1).0))
  stepped (name_action a b) f e = record { is_begun = refl; is_site = refl; stacked = stacked; entered = given_name S G E a entered }
  stepped end_model f e = record { is_begun = refl; is_site = refl; stacked = stacked; entered = entered }

-- ---- all commands, by offset

-- every reward, chance and next level is loaded, and is what it may be; so is an end worth where one is given
pub record Complete (S : Site) (E : List Entry) : Type 0 where
  pub rewards : (a : ℕ) → 1 ≤ a → a ≤ S.actions → Found S E (reward_slot a)
  pub chances : (a k : ℕ) → 1 ≤ a → a ≤ S.actions → 1 ≤ k → k ≤ S.conditions → Found S E (chance_slot a k)
  pub nexts : (a i : ℕ) → 1 ≤ a → a ≤ S.actions → 1 ≤ i → i ≤ S.levels → Found S E (level_slot a i)
  pub ends : T (all (fits S 0x23) (found end_slot E))

-- what is found where it need not be is what it may be
found_fits : (S : Site) (g : Slot) (E : List Entry) → Fitting S E → T (all (fits S g.command) (found g E))
unfolding found all
found_fits S g [] t = tt
found_fits S g (e ∷ E) t =
    let d = both (fits S e.slot.command e.tree) _ t in
    by_test (same_slot g e.slot) (λ b. T (all (fits S g.command) (if b (e.tree ∷ []) (found g E))))
    (λ s. and_in (fits S g.command e.tree) true (subst (λ c. T (fits S c e.tree)) (sym (eqb→eq g.command e.slot.command (same_command g e.slot s))) d.0) tt)
    (λ _. found_fits S g E d.1)

complete : (S : Site) (G : List Slot) (E : List Entry) → Given S G E → T (all (λ s. has_slot s G) (wanted S)) → Complete S E
unfolding Given wanted
complete S G E u t =
    let w = wanted_each (λ s. has_slot s G) S 1 S.actions t in
    record {
      rewards = λ a h l. u.0 (reward_slot a) (w a h (omega arith)).0 tt;
      chances = λ a k h l m o. u.0 (chance_slot a k) (from_all (λ s. has_slot s G) (chance_slot a) 1 S.conditions (w a h (omega arith)).1.0 k m (omega arith)) tt;
      nexts = λ a i h l m o. u.0 (level_slot a i) (from_all (λ s. has_slot s G) (level_slot a) 1 S.levels (w a h (omega arith)).1.1 i m (omega arith)) tt;
      ends = found_fits S end_slot E u.1;
    }

pub positive : (w : ℕ) → T (not (eqb w 0)) → 1 ≤ w
positive zero t = absurd t
positive (suc w) t = omega arith

-- what stands at an offset, by cases
pub by_reading : (B : List ℕ) (at : ℕ) (P : Read → Type 0) → P short → (at < length B → P unknown)
    → (1 ≤ width (byte_at B at) → at + width (byte_at B at) ≤ length B → P (whole (command_at B at))) → P (read_at B at)
unfolding read_in
by_reading B at P a b c =
    let w = width (byte_at B at) in
    let r = if (ltb (length B) (at + w)) short (whole (command_at B at)) in
    by_test (leb (length B) at) (λ x. P (if x short (if (eqb w 0) unknown r)))
    (λ _. a)
    (λ o. by_test (eqb w 0) (λ x. P (if x unknown r))
    (λ _. b (nleb→lt (length B) at o))
    (λ n. by_test (ltb (length B) (at + w)) (λ x. P (if x short (whole (command_at B at)))) (λ _. a) (λ m. c (positive w n) (nltb→le (length B) (at + w) m))))

-- nothing is broken, and what follows is accepted
pub judged_whole : (k at : ℕ) (v : Verdict) → (if (eqb k 0) v (refusal k at)).number ≡ 0 → (k ≡ 0) × (v.number ≡ 0)
judged_whole k at v = by_test (eqb k 0) (λ b. (if b v (refusal k at)).number ≡ 0 → (k ≡ 0) × (v.number ≡ 0))
    (λ t e. (eqb→eq k 0 t, e)) (λ n e. absurd (T_not (eqb k 0) n (rw e tt)))

-- the readings behind one
abbrev pub behind_in : Form → List ℕ → ℕ → ℕ → Bool → List Placed
behind_in F B k at b = elim b [ true ↦ readings_from_in F B k (at + width_in F (byte_at B at)) | false ↦ [] ]

abbrev pub behind : List ℕ → ℕ → ℕ → Bool → List Placed
behind = behind_in new_form

abbrev Accepted : List ℕ → Site → List Placed → Type 0
Accepted B S l = (K : List Facts) (G : List Slot) (X : List Tree) (E : List Entry) → Stacked S K X → Given S G E → (judged (length B) (state S K G) l).number ≡ 0
    → Complete S (result (load_on l (loaded X E))).entries

module _ (B : List ℕ) (k at : ℕ) (S : Site) (ok : InRange S) where
  -- a command that is not the end, and then the others
  goes : Accepted B S (behind B k at true) → (K : List Facts) (G : List Slot) (X : List Tree) (E : List Entry) → Stacked S K X → Given S G E → (c : Command) → Fit B at c
      → (if (eqb (first_broken (later_rules S K G c)) 0) (judged (length B) (after (state S K G) c) (behind B k at true)) (refusal (first_broken (later_rules S K G c)) at)).number ≡ 0
      → Complete S (result (bind (load_one c (loaded X E)) (load_on (behind B k at true)))).entries
  goes ih K G X E u v c f e =
      let d = judged_whole (first_broken (later_rules S K G c)) at _ e in
      let q = stepped B at S ok K G X E u v c f d.0 in
      let s = after (state S K G) c in
      let t = result (load_one c (loaded X E)) in
      let same : s ≡ state S s.stack s.given = λ i. record { begun = q.is_begun i; site = q.is_site i; stack = s.stack; given = s.given } in
      rw (result_bind (load_one c (loaded X E)) (load_on (behind B k at true)))
      (ih s.stack s.given t.stack t.entries q.stacked q.entered (subst (λ (s : Progress). (judged (length B) s (behind B k at true)).number ≡ 0) same d.1))

  one_more : Accepted B S (behind B k at true) → (c : Command) → Fit B at c → Accepted B S (record { at = at; read = whole c } ∷ behind B k at (goes_on (whole c)))
  unfolding judged_in load_on_with goes_on rules_in ended later_rules load_one_with bind result
  one_more ih (site m n a w) f K G X E u v e = broken 0 _ (judged_whole (first_broken (rule 1 true ∷ [])) at _ e).0
  one_more ih (push_leaf p) f K G X E u v e = goes ih K G X E u v (push_leaf p) f e
  one_more ih (push_condition c) f K G X E u v e = goes ih K G X E u v (push_condition c) f e
  one_more ih (push_test p) f K G X E u v e = goes ih K G X E u v (push_test p) f e
  one_more ih push_forbidden f K G X E u v e = goes ih K G X E u v push_forbidden f e
  one_more ih (give g) f K G X E u v e = goes ih K G X E u v (give g) f e
  one_more ih (name_action a b) f K G X E u v e = goes ih K G X E u v (name_action a b) f e
  one_more ih end_model f K G X E u v e =
      let d = judged_whole (first_broken (later_rules S K G end_model)) at _ e in
      complete S G E v (not_not (all (λ s. has_slot s G) (wanted S)) (unbroken 6 _ _ d.0).0)

  refused : (k : ℕ) {C : Type 0} → suc k ≡ 0 → C
  refused k e = absurd (omega arith)

  -- the reading at an offset, and those behind it
  one_reading : (at + width (byte_at B at) ≤ length B → 1 ≤ width (byte_at B at) → Accepted B S (behind B k at true))
      → Accepted B S (record { at = at; read = read_at B at } ∷ behind B k at (goes_on (read_at B at)))
  unfolding judged_in
  one_reading ih = by_reading B at (λ r. Accepted B S (record { at = at; read = r } ∷ behind B k at (goes_on r)))
      (λ K G X E u v e. refused 1 e) (λ _ K G X E u v e. refused 2 e) (λ w l. one_more (ih l w) (command_at B at) (fit B at))

-- fuel for each byte that is left is enough
accepted_from : (B : List ℕ) (S : Site) → InRange S → (k at : ℕ) → at ≤ length B → length B < at + k → Accepted B S (readings_from B k at)
unfolding readings_from_in
accepted_from B S ok zero at h l = absurd (omega arith)
accepted_from B S ok (suc k) at h l = one_reading B k at S ok (λ m w. accepted_from B S ok k (at + width (byte_at B at)) m (omega arith))

-- ---- an accepted model

in_range : (S : Site) → first_broken (site_rules new_form S) ≡ 0 → InRange S
unfolding site_rules
in_range S e =
    let a = unbroken 3 _ _ e in
    let b = unbroken 3 _ _ a.1 in
    let c = unbroken 3 _ _ b.1 in
    let d = unbroken 3 _ _ c.1 in
    record {
      levels_in = not_not (among levels_most S.levels) a.0;
      conditions_in = le→leb S.conditions conditions_most (nltb→le conditions_most S.conditions b.0);
      actions_in = not_not (among actions_most S.actions) c.0;
      weights_in = not_not (among weights_most S.weights) d.0;
    }

abbrev Begins : List ℕ → List Placed → Type 0
Begins B l = (judged (length B) at_start l).number ≡ 0 → InRange (site_at B) × Complete (site_at B) (result (load_on l (loaded [] []))).entries

first_command : (B : List ℕ) → 0 + width (byte_at B 0) ≤ length B → 1 ≤ width (byte_at B 0) → (c : Command) → Fit B 0 c
    → Begins B (record { at = 0; read = whole c } ∷ behind B (length B) 0 (goes_on (whole c)))
unfolding judged_in load_on_with goes_on rules_in first_rules ended load_one_with bind result after Fit Stacked site_in
first_command B h l (site m n a w) f e =
    let d = judged_whole (first_broken (site_rules new_form (site_of m n a w))) 0 _ e in
    let ok = in_range (site_of m n a w) d.0 in
    subst (λ (S : Site). InRange S × Complete S (result (load_on (behind B (length B) 0 true) (loaded [] []))).entries) f
    (ok, accepted_from B (site_of m n a w) ok (length B) (0 + width (byte_at B 0)) h (omega arith) [] [] [] [] tt (given_none (site_of m n a w)) d.1)
first_command B h l (push_leaf p) f e = broken 0 _ (judged_whole (first_broken (rule 1 true ∷ [])) 0 _ e).0
first_command B h l (push_condition k) f e = broken 0 _ (judged_whole (first_broken (rule 1 true ∷ [])) 0 _ e).0
first_command B h l (push_test p) f e = broken 0 _ (judged_whole (first_broken (rule 1 true ∷ [])) 0 _ e).0
first_command B h l push_forbidden f e = broken 0 _ (judged_whole (first_broken (rule 1 true ∷ [])) 0 _ e).0
first_command B h l (give g) f e = broken 0 _ (judged_whole (first_broken (rule 1 true ∷ [])) 0 _ e).0
first_command B h l (name_action a b) f e = broken 0 _ (judged_whole (first_broken (rule 1 true ∷ [])) 0 _ e).0
first_command B h l end_model f e = broken 0 _ (judged_whole (first_broken (rule 1 true ∷ [])) 0 _ e).0

-- what a verdict of 0 gives of the site and of what is loaded
pub accepted : (B : List ℕ) → (verdict B).number ≡ 0 → InRange (site_at B) × Complete (site_at B) (loaded_entries B)
unfolding verdict_in readings_in readings_from_in judged_in
accepted B = by_reading B 0 (λ r. Begins B (record { at = 0; read = r } ∷ behind B (length B) 0 (goes_on r)))
    (λ e. absurd (let z : ◌≡◌ {A = ℕ} 2 0 = e in omega arith)) (λ _ e. absurd (let z : ◌≡◌ {A = ℕ} 3 0 = e in omega arith)) (λ w h. first_command B h w (command_at B 0) (fit B 0))

-- the model that bytes spell, of what is loaded
pub model_loaded : (B : List ℕ) → model B ≡ model_of (site_at B) (loaded_entries B)
unfolding model_in load_in result
model_loaded B = result_bind (load_on (readings B) (loaded [] [])) _

-- ---- the model is valid

fits_as_reward : (S : Site) (t : Tree) → T (fits S 0x20 t) → T (all_nodes (good_test S.conditions false) good_leaf t)
unfolding fits leaf_as
fits_as_reward S t h = h

fits_as_chance : (S : Site) (t : Tree) → T (fits S 0x21 t) → T (all_nodes (good_test S.conditions false) (weight_leaf S.weights) t)
unfolding fits leaf_as
fits_as_chance S t h = h

fits_as_level : (S : Site) (t : Tree) → T (fits S 0x22 t) → T (all_nodes (good_test S.conditions true) level_leaf t)
unfolding fits leaf_as
fits_as_level S t h = h

-- an end worth is under the rules for a reward, and holds no forbidden leaf
fits_as_end : (S : Site) (l : List Tree) → T (all (fits S 0x23) l) → T (all (all_nodes (good_test S.conditions false) level_leaf) l)
unfolding fits leaf_as all
fits_as_end S [] h = tt
fits_as_end S (t ∷ l) h = let d = both (fits S 0x23 t) _ h in and_in (all_nodes (good_test S.conditions false) level_leaf t) _ d.0 (fits_as_end S l d.1)

length_is : (f : ℕ → Tree) (b k : ℕ) → T (eqb (length (map f (from_to b k))) k)
length_is f b k = rw (from_length f b k) (eqb_refl k)

module _ (S : Site) (E : List Entry) (c : Complete S E) where
  action_valid : (a : ℕ) → 1 ≤ a → a ≤ S.actions → T (valid_action S.levels S.conditions S.weights (action_of S E a))
  unfolding valid_action action_of
  action_valid a h l =
      and_in (all_nodes (good_test S.conditions false) good_leaf (action_of S E a).reward) _ (fits_as_reward S _ (c.rewards a h l).good)
      (and_in (eqb (length (action_of S E a).chances) S.conditions) _ (length_is _ 1 S.conditions)
      (and_in (all (all_nodes (good_test S.conditions false) (weight_leaf S.weights)) (action_of S E a).chances) _
      (all_from _ (λ k. find_slot (chance_slot a k) E) 1 S.conditions (λ k m o. fits_as_chance S _ (c.chances a k h l m (omega arith)).good))
      (and_in (eqb (length (action_of S E a).levels) S.levels) _ (length_is _ 1 S.levels)
      (all_from _ (λ i. find_slot (level_slot a i) E) 1 S.levels (λ i m o. fits_as_level S _ (c.nexts a i h l m (omega arith)).good)))))

  model_valid : InRange S → T (valid (model_of S E))
  unfolding valid model_of all
  model_valid ok =
      let r = among_out actions_most S.actions ok.actions_in in
      and_in (among levels_most S.levels) _ ok.levels_in
      (and_in (leb S.conditions conditions_most) _ ok.conditions_in
      (and_in (among weights_most S.weights) _ ok.weights_in
      (and_in (leb (length (model_of S E).others) (actions_most - 1)) _ (rw (from_length (action_of S E) 2 (S.actions - 1)) (le→leb (S.actions - 1) (actions_most - 1) (omega arith)))
      (and_in (all (valid_action S.levels S.conditions S.weights) (action_of S E 1 ∷ map (action_of S E) (from_to 2 (S.actions - 1)))) _
      (and_in (valid_action S.levels S.conditions S.weights (action_of S E 1)) _ (action_valid 1 (omega arith) r.0)
      (all_from _ (action_of S E) 2 (S.actions - 1) (λ a m o. action_valid a (omega arith) (omega arith))))
      (fits_as_end S (found end_slot E) c.ends)))))

-- an accepted model is valid
pub accepted_valid : (B : List ℕ) → (verdict B).number ≡ 0 → T (valid (model B))
accepted_valid B e = let d = accepted B e in rw (model_loaded B) (model_valid (site_at B) (loaded_entries B) d.1 d.0)

-- ---- its site

-- a model's numbers are those of a site
pub record OfSite (S : Site) (M : Model) : Type 0 where
  pub same_levels : M.levels ≡ S.levels
  pub same_conditions : M.conditions ≡ S.conditions
  pub same_weights : M.weights ≡ S.weights
  pub same_actions : suc (length M.others) ≡ S.actions

numbers_of_site : (S : Site) (E : List Entry) → InRange S → OfSite S (model_of S E)
unfolding model_of
numbers_of_site S E ok =
    let r = among_out actions_most S.actions ok.actions_in in
    record { same_levels = refl; same_conditions = refl; same_weights = refl; same_actions = rw (from_length (action_of S E) 2 (S.actions - 1)) (omega arith) }

-- the site's numbers are in range, and the model's are the site's
pub accepted_site : (B : List ℕ) → (verdict B).number ≡ 0 → InRange (site_at B) × OfSite (site_at B) (model B)
accepted_site B e = let ok = (accepted B e).0 in (ok, rw (model_loaded B) (numbers_of_site (site_at B) (loaded_entries B) ok))

-- ---- its diagrams are all loaded

abbrev AllAmong : List Tree → List Tree → Type 0
AllAmong m l = (t : Tree) → Memᴰ t l → Memᴰ t m

none_among : (m : List Tree) → AllAmong m []
none_among m t h = absurd (Memᴰ.not-nil h)

one_among : (m : List Tree) (x : Tree) (l : List Tree) → Memᴰ x m → AllAmong m l → AllAmong m (x ∷ l)
one_among m x l h w t q = ⊎_elim (λ e. Memᴰ.cast e h) (w t) (Memᴰ.cases_cons q)

append_among : (m l r : List Tree) → AllAmong m l → AllAmong m r → AllAmong m (l ++ r)
append_among m l r u v t q = ⊎_elim (u t) (v t) (Memᴰ.append_cases l q)

from_among : (m : List Tree) (f : ℕ → Tree) (b k : ℕ) → ((a : ℕ) → b ≤ a → a < b + k → Memᴰ (f a) m) → AllAmong m (map f (from_to b k))
unfolding from_to
from_among m f b zero h = none_among m
from_among m f b (suc k) h = one_among m (f b) (map f (from_to (suc b) k)) (h b (omega arith) (omega arith)) (from_among m f (suc b) k (λ a u v. h a (omega arith) (omega arith)))

module _ (S : Site) (E : List Entry) (c : Complete S E) where
  action_among : (a : ℕ) → 1 ≤ a → a ≤ S.actions → AllAmong (entry_trees E) (action_diagrams (action_of S E a))
  unfolding action_of
  action_among a h l =
      one_among (entry_trees E) _ _ (c.rewards a h l).loaded
      (append_among (entry_trees E) (action_of S E a).chances (action_of S E a).levels
      (from_among (entry_trees E) (λ k. find_slot (chance_slot a k) E) 1 S.conditions (λ k m o. (c.chances a k h l m (omega arith)).loaded))
      (from_among (entry_trees E) (λ i. find_slot (level_slot a i) E) 1 S.levels (λ i m o. (c.nexts a i h l m (omega arith)).loaded)))

  actions_among : (b k : ℕ) → 1 ≤ b → b + k ≤ suc S.actions → AllAmong (entry_trees E) (all_diagrams (map (action_of S E) (from_to b k)))
  unfolding all_diagrams from_to
  actions_among b zero h l = none_among (entry_trees E)
  actions_among b (suc k) h l = append_among (entry_trees E) (action_diagrams (action_of S E b)) _ (action_among b h (omega arith)) (actions_among (suc b) k (omega arith) (omega arith))

  model_among : InRange S → AllAmong (entry_trees E) (model_diagrams (model_of S E))
  unfolding model_diagrams model_of all_diagrams
  model_among ok =
      let r = among_out actions_most S.actions ok.actions_in in
      append_among (entry_trees E) (action_diagrams (action_of S E 1)) _ (action_among 1 (omega arith) r.0) (actions_among 2 (S.actions - 1) (omega arith) (omega arith))

-- what is found is loaded
found_among : (g : Slot) (E : List Entry) → AllAmong (entry_trees E) (found g E)
unfolding found
found_among g [] = none_among []
found_among g (e ∷ E) = by_test (same_slot g e.slot) (λ b. AllAmong (entry_trees (e ∷ E)) (if b (e.tree ∷ []) (found g E)))
    (λ _. one_among (entry_trees (e ∷ E)) e.tree [] (Memᴰ.head refl) (none_among (entry_trees (e ∷ E))))
    (λ _ t m. Memᴰ.tail (found_among g E t m))

-- the end worth of a model, of what is loaded
pub end_found : (B : List ℕ) → (model B).end ≡ found end_slot (loaded_entries B)
unfolding model_of
end_found B = ap (λ (M : Model). M.end) (model_loaded B)

-- it is the tree of one of the entries
pub end_loaded : (B : List ℕ) (t : Tree) → Memᴰ t (model B).end → Memᴰ t (entry_trees (loaded_entries B))
end_loaded B = rw (end_found B) (found_among end_slot (loaded_entries B))

-- every diagram of an accepted model is the tree of one of its entries
pub diagrams_loaded : (B : List ℕ) → (verdict B).number ≡ 0 → (t : Tree) → Memᴰ t (model_diagrams (model B)) → Memᴰ t (entry_trees (loaded_entries B))
diagrams_loaded B e = let d = accepted B e in rw (model_loaded B) (model_among (site_at B) (loaded_entries B) d.1 d.0)
