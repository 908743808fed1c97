-- What a command that breaks no rule leaves in the code stands for what document 01 says it leaves.
use mathlib.Core.Path.{◌≡◌, refl, sym, ap, ap₂, ◌∙◌, subst}
use mathlib.Core.Bool.{Bool, true, false, not}
use mathlib.Core.List.{List, [], ◌∷◌}
use Prim.Native.Nat.{ℕ, suc, ◌+◌, ◌≤◌, ◌<◌}
use native.Mathlib.Omega.{arith}
use borrow.Author.Tests.{leb-false, ltb-false}
use lib.Dec.{T, ltb}
use lib.ListN.{length, length-set, length-replicate, get_or, set, drop, replicate}
use Rattle.whole.specs.Cases.{if}
use Rattle.theory.specs.Widths.{levels_most, conditions_most, actions_most, stack_most, flags_most}
use Rattle.theory.specs.Form.{Form, old_form, new_form, levels_in, actions_in, linear_bytes}
use Rattle.theory.specs.Diagram.{Linear}
use Rattle.theory.specs.Valid.{among}
use Rattle.theory.specs.Command.{Command, site, push_leaf, push_condition, push_test, push_forbidden, give, name_action, end_model, Slot, whole, read_in}
use Rattle.theory.specs.Verdict.{Facts, Site, site_of, has_slot, Progress, with_stack, with_slot, at_start, Rule, rule, first_broken, first_rules, later_rules, site_rules, rules_in, after, joined, is_weight, of_site}
use Rattle.model_command.specs.declared.Command.{Command as CodeCommand}
use Rattle.model_command.specs.declared.Command.TheVariants.{Site as SiteBy, Leaf, Condition, Test, Forbidden, Give, Name, End}
use Rattle.model_command.proofs.Forward.{has_linear, linear_room}
use Rattle.model_facts.specs.declared.Seen.{Seen}
use Rattle.model_command.specs.CursorReadings.{command_of_in}
use Rattle.model_progress.specs.declared.Progress.{Progress as CodeProgress}
use Rattle.model_progress.specs.GivenFlags.{site_as, place, names_row, flag_of, Slotted, for_name, ProgressStands, Leaves, Later}
use Rattle.model_progress.proofs.Numbers.{bounds, is_among, not_false_T}
use Rattle.model_progress.proofs.Flags.{flag_more, no_flag, slotted_given}
use Rattle.model_facts.specs.Seen.{seen_in, seen}
use Rattle.model_facts.proofs.Bits.{seen_length}

-- ---- rules that are not broken

passes : (k : ℕ) (b : Bool) (l : List Rule) → first_broken (rule (suc k) b ∷ l) ≡ 0 → (b ≡ false) × (first_broken l ≡ 0)
unfolding first_broken
passes k true l e = absurd (omega arith)
passes k false l e = (refl, e)

one_rule : (k : ℕ) → first_broken (rule k true ∷ []) ≡ k
unfolding first_broken
one_rule k = refl

-- only a site breaks none as the first command
later_unbroken : (form : Form) (p : Progress) (c : Command) → first_broken (first_rules form c) ≡ 1 → first_broken (rules_in form p c) ≡ 0 → first_broken (later_rules p.site p.stack p.given c) ≡ 0
unfolding rules_in
later_unbroken form p c f e = go p.begun e
  where
    go : (b : Bool) → first_broken (if b (later_rules p.site p.stack p.given c) (first_rules form c)) ≡ 0 → first_broken (later_rules p.site p.stack p.given c) ≡ 0
    go true e = e
    go false e = absurd (let z : ◌≡◌ {A = ℕ} 0 1 = cc in omega arith)

-- a site that breaks none is the first command
not_site : (form : Form) (p : Progress) (m n a w : ℕ) → first_broken (rules_in form p (site m n a w)) ≡ 0 → (p.begun ≡ false) × (first_broken (site_rules form (site_of m n a w)) ≡ 0)
unfolding rules_in later_rules first_rules first_broken
not_site form p m n a w e = go p.begun e
  where
    go : (b : Bool) → first_broken (if b (later_rules p.site p.stack p.given (site m n a w)) (first_rules form (site m n a w))) ≡ 0 → (b ≡ false) × (first_broken (site_rules form (site_of m n a w)) ≡ 0)
    go true e = absurd (let z : ◌≡◌ {A = ℕ} 0 1 = cc in omega arith)
    go false e = (refl, e)

-- any other that breaks none is a later one
is_later : (form : Form) (p : Progress) (c : Command) → first_broken (first_rules form c) ≡ 1 → first_broken (rules_in form p c) ≡ 0 → p.begun ≡ true
unfolding rules_in
is_later form p c f e = go p.begun e
  where
    go : (b : Bool) → first_broken (if b (later_rules p.site p.stack p.given c) (first_rules form c)) ≡ 0 → b ≡ true
    go true e = refl
    go false e = absurd (let z : ◌≡◌ {A = ℕ} 0 1 = cc in omega arith)

good : (n k : ℕ) (m : ℕ) → n ≤ m → not (among n k) ≡ false → T (among m k)
good n k m h e = let b = bounds n k (not_false_T (among n k) e) in is_among m k (omega arith) (omega arith)

-- ---- lists

length_drop_one : (l : List Facts) → length (drop 1 l) ≤ length l
length_drop_one [] = omega arith
length_drop_one (x ∷ l) = omega arith

length_joined : (b : Bool) (l : List Facts) → length (joined b l) ≤ length l
unfolding joined
length_joined b [] = omega arith
length_joined b (x ∷ []) = omega arith
length_joined b (x ∷ y ∷ l) = omega arith

-- ---- the state made anew

-- no form has more than the widths
within_widths : (form : Form) → (levels_in form ≤ levels_most) × (actions_in form ≤ actions_most)
within_widths old_form = (omega arith, omega arith)
within_widths new_form = (omega arith, omega arith)

module _ {s : CodeProgress} {F : List Bool} {p : Progress} (st : ProgressStands s F p) where
  keep_stack : (t : Seen) (K : List Facts) → seen t ≡ K → length K ≤ stack_most → ProgressStands (record { begun = s.begun; site = s.site; seen = t }) F (with_stack p K)
  keep_stack t K e h = record {
    begun = st.begun;
    site = st.site;
    stack = e;
    given = λ q. st.given q;
    none = st.none;
    flags = st.flags;
    levels = st.levels;
    conditions = st.conditions;
    actions = st.actions;
    sized = h;
  }

  keep_flag : (t : Seen) (K : List Facts) {g : Slot} {i : ℕ} → Slotted g i → p.begun ≡ true → seen t ≡ K → length K ≤ stack_most
      → ProgressStands (record { begun = s.begun; site = s.site; seen = t }) (set F i true) (with_slot p K g)
  keep_flag t K {g} {i} sl b e h = record {
    begun = st.begun;
    site = st.site;
    stack = e;
    given = λ q. flag_more p.given F st.flags sl q (st.given q);
    none = λ z. absurd (let y : true ≡ false = sym b ∙ z in let q : ◌≡◌ {A = ℕ} 0 1 = cc in omega arith);
    flags = length-set F i true ∙ st.flags;
    levels = st.levels;
    conditions = st.conditions;
    actions = st.actions;
    sized = h;
  }

  depth : s.seen.len ≡ length p.stack
  depth = sym (seen_length s.seen.later s.seen.weights s.seen.forbids s.seen.len) ∙ ap length st.stack

  joined_keeps : (later : Bool) (t : Seen) → (2 ≤ s.seen.len → s.seen.len ≤ stack_most → seen t ≡ joined later (seen s.seen))
      → ltb (length p.stack) 2 ≡ false → ProgressStands (record { begun = s.begun; site = s.site; seen = t }) F (with_stack p (joined later p.stack))
  joined_keeps later t f u =
      let n = ltb-false (length p.stack) 2 u in
      let z = st.sized in
      let d = depth in
      keep_stack t _ (f (omega arith) (omega arith) ∙ ap (joined later) st.stack) (omega (arith, length_joined later p.stack))

module _ (form : Form) {s : CodeProgress} {F : List Bool} {p : Progress} (st : ProgressStands s F p) where
  pub after_leaf : (P : Linear) (w : Bool) (t : Seen) → w ≡ is_weight s.site.weights P → (s.seen.len < stack_most → seen t ≡ record { next_step = false; weights = w; forbids = false } ∷ seen s.seen)
      → first_broken (rules_in form p (push_leaf P)) ≡ 0 → ProgressStands (record { begun = s.begun; site = s.site; seen = t }) F (after p (push_leaf P))
  unfolding after first_rules later_rules
  after_leaf P w t f h u =
      let v = passes 4 _ _ (passes 3 _ _ (later_unbroken form p (push_leaf P) (one_rule 1) u)).1 in
      let n : length p.stack < stack_most = leb-false stack_most (length p.stack) v.0 in
      let d = depth st in
      keep_stack st t _ (h (omega arith) ∙ ap₂ (λ (x : Bool) (K : List Facts). record { next_step = false; weights = x; forbids = false } ∷ K) (f ∙ ap (λ (S : Site). is_weight S.weights P) st.site) st.stack) n

  pub after_condition : (k : ℕ) (t : Seen) → (2 ≤ s.seen.len → s.seen.len ≤ stack_most → seen t ≡ joined (ltb conditions_most k) (seen s.seen))
      → first_broken (rules_in form p (push_condition k)) ≡ 0 → ProgressStands (record { begun = s.begun; site = s.site; seen = t }) F (after p (push_condition k))
  unfolding after first_rules later_rules
  after_condition k t f u = joined_keeps st (ltb conditions_most k) t f (passes 4 _ _ (passes 3 _ _ (later_unbroken form p (push_condition k) (one_rule 1) u)).1).0

  pub after_test : (P : Linear) (t : Seen) → (2 ≤ s.seen.len → s.seen.len ≤ stack_most → seen t ≡ joined false (seen s.seen))
      → first_broken (rules_in form p (push_test P)) ≡ 0 → ProgressStands (record { begun = s.begun; site = s.site; seen = t }) F (after p (push_test P))
  unfolding after first_rules later_rules
  after_test P t f u = joined_keeps st false t f (passes 4 _ _ (passes 3 _ _ (passes 3 _ _ (later_unbroken form p (push_test P) (one_rule 1) u)).1).1).0

  pub after_forbidden : (t : Seen) → (s.seen.len < stack_most → seen t ≡ record { next_step = false; weights = false; forbids = true } ∷ seen s.seen)
      → first_broken (rules_in form p push_forbidden) ≡ 0 → ProgressStands (record { begun = s.begun; site = s.site; seen = t }) F (after p push_forbidden)
  unfolding after first_rules later_rules
  after_forbidden t h u =
      let v = passes 4 _ _ (later_unbroken form p push_forbidden (one_rule 1) u) in
      let n : length p.stack < stack_most = leb-false stack_most (length p.stack) v.0 in
      let d = depth st in
      keep_stack st t _ (h (omega arith) ∙ ap (λ (K : List Facts). record { next_step = false; weights = false; forbids = true } ∷ K) st.stack) n

  pub after_give : (g : Slot) (t : Seen) → seen t ≡ drop 1 (seen s.seen) → first_broken (rules_in form p (give g)) ≡ 0
      → ProgressStands (record { begun = s.begun; site = s.site; seen = t }) (set F (flag_of g) true) (after p (give g))
  unfolding after first_rules later_rules
  after_give g t h u =
      let v = passes 3 _ _ (later_unbroken form p (give g) (one_rule 1) u) in
      keep_flag st t _ (slotted_given p.site g st.levels st.conditions st.actions (not_false_T (of_site p.site g) v.0)) (is_later form p (give g) (one_rule 1) u)
      (h ∙ ap (drop 1) st.stack) (let z = st.sized in omega (arith, length_drop_one p.stack))

  pub after_name : (a : ℕ) (b : List ℕ) → first_broken (rules_in form p (name_action a b)) ≡ 0 → ProgressStands s (set F (place names_row 0 a) true) (after p (name_action a b))
  unfolding after first_rules later_rules
  after_name a b u =
      let v = passes 3 _ _ (later_unbroken form p (name_action a b) (one_rule 1) u) in
      keep_flag st s.seen _ (for_name (good p.site.actions a actions_most st.actions v.0)) (is_later form p (name_action a b) (one_rule 1) u) st.stack st.sized

  -- nothing has been given before the site
  pub after_site : (m n a w : ℕ) (r : CodeProgress) → r.begun ≡ true → site_as r.site ≡ site_of m n a w → seen r.seen ≡ []
      → first_broken (rules_in form p (site m n a w)) ≡ 0 → ProgressStands r F (after p (site m n a w))
  unfolding after site_rules
  after_site m n a w r b i e u =
      let q = not_site form p m n a w u in
      let v = passes 3 _ _ q.1 in
      let x = passes 3 _ _ v.1 in
      let y = passes 3 _ _ x.1 in
      record {
        begun = b;
        site = i;
        stack = e;
        given = λ {g} o. ap (has_slot g) (sym (st.none q.0)) ∙ st.given o;
        none = λ z. refl;
        flags = st.flags;
        levels = let h = bounds (levels_in form) m (not_false_T (among (levels_in form) m) v.0) in omega (arith, h.1, (within_widths form).0);
        conditions = ltb-false conditions_most n x.0;
        actions = let h = bounds (actions_in form) a (not_false_T (among (actions_in form) a) y.0) in omega (arith, h.1, (within_widths form).1);
        sized = omega arith;
      }

pub after_end : {s : CodeProgress} {F : List Bool} {p : Progress} → ProgressStands s F p → ProgressStands s F (after p end_model)
unfolding after
after_end st = st

-- ---- the first state

no_flags : {g : Slot} {i : ℕ} → Slotted g i → has_slot g [] ≡ get_or (replicate flags_most false) i false
unfolding has_slot
no_flags {i = i} q = sym (no_flag flags_most i)

pub stands_start : (t : Seen) → seen t ≡ []
    → ProgressStands (record { begun = false; site = record { levels = 0; conditions = 0; actions = 0; weights = 0 }; seen = t }) (replicate flags_most false) at_start
stands_start t e = record {
  begun = refl;
  site = refl;
  stack = e;
  given = λ q. no_flags q;
  none = λ z. refl;
  flags = length-replicate flags_most false;
  levels = omega arith;
  conditions = omega arith;
  actions = omega arith;
  sized = omega arith;
}

-- ---- the first command

-- any but a site breaks the first rule
pub not_first : (form : Form) (B : List ℕ) (at : ℕ) (c : CodeCommand) → ((x y z u : ℕ) → c ≡ SiteBy x y z u → ⊥) → 1 ≡ first_broken (first_rules form (command_of_in form B at c))
unfolding command_of_in first_rules first_broken
not_first form B at (SiteBy m n a w) k = absurd (k m n a w refl)
not_first form B at Leaf k = refl
not_first form B at (Condition i) k = refl
not_first form B at Test k = refl
not_first form B at Forbidden k = refl
not_first form B at (Give x a j) k = refl
not_first form B at (Name a) k = refl
not_first form B at End k = refl

module _ (form : Form) (B : List ℕ) (at : ℕ) (c : CodeCommand) (r : CodeProgress) where
  abbrev First : Type 0
  First = first_broken (first_rules form (command_of_in form B at c)) ≡ 0 → (r.begun ≡ true) × ProgressStands r (replicate flags_most false) (after at_start (command_of_in form B at c))

  pub first_site : {m n a w : ℕ} → c ≡ SiteBy m n a w → r.begun ≡ true → site_as r.site ≡ site_of m n a w → seen r.seen ≡ [] → First
  unfolding rules_in command_of_in seen_in
  first_site {m} {n} {a} {w} e b i k = subst (λ (d : CodeCommand). first_broken (first_rules form (command_of_in form B at d)) ≡ 0 → (r.begun ≡ true) × ProgressStands r
      (replicate flags_most false) (after at_start (command_of_in form B at d))) (sym e)
      (λ u. (b, after_site form (stands_start (record { len = 0; later = 0; weights = 0; forbids = 0 }) refl) m n a w r b i k u))

  pub first_other : ((x y z u : ℕ) → c ≡ SiteBy x y z u → ⊥) → First
  first_other k u = absurd (let z : ◌≡◌ {A = ℕ} 0 1 = sym (not_first form B at c k ∙ u) in omega arith)

-- ---- a command that is known by its case

pub by_command : (form : Form) (B : List ℕ) (at : ℕ) (s : CodeProgress) {c d : CodeCommand} {r q : CodeProgress} → c ≡ d → r ≡ q → Leaves form B at s d q → Leaves form B at s c r
by_command form B at s {c} {d} {r} {q} e f g = subst (λ (x : CodeCommand). Leaves form B at s x r) (sym e) (subst (λ (x : CodeProgress). Leaves form B at s d x) (sym f) g)

pub known_command : (form : Form) (s : CodeProgress) (F : List Bool) (B : List ℕ) (at k : ℕ) {c d : CodeCommand} → c ≡ d → Later s F (command_of_in form B at d) k → Later s F (command_of_in form B at c) k
known_command form s F B at k e g = subst (λ (x : CodeCommand). Later s F (command_of_in form B at x) k) (sym e) g

-- the bytes of a command that is known by its case
pub leaf_there : (form : Form) (B : List ℕ) (at : ℕ) {c : CodeCommand} → c ≡ Leaf → whole (command_of_in form B at c) ≡ read_in form B at → at + (1 + linear_bytes form) ≤ length B
unfolding command_of_in has_linear
leaf_there form B at {c} e w = linear_room form B at _ (subst (λ (d : CodeCommand). T (has_linear (command_of_in form B at d))) (sym e) tt) w

pub test_there : (form : Form) (B : List ℕ) (at : ℕ) {c : CodeCommand} → c ≡ Test → whole (command_of_in form B at c) ≡ read_in form B at → at + (1 + linear_bytes form) ≤ length B
unfolding command_of_in has_linear
test_there form B at {c} e w = linear_room form B at _ (subst (λ (d : CodeCommand). T (has_linear (command_of_in form B at d))) (sym e) tt) w
