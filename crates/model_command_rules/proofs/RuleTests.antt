-- The rules that the code tests, on what it keeps, are those of document 01 on what that stands for.
use mathlib.Core.Path.{◌≡◌, refl, sym, ap, ap₂, ◌∙◌}
use mathlib.Core.Bool.{Bool, true, false, not, ◌&&◌}
use mathlib.Core.List.{List, [], ◌∷◌, ◌++◌, map}
use Prim.Native.Nat.{ℕ, zero, suc, ◌+◌, ◌≤◌, ◌<◌}
use native.Mathlib.Omega.{arith}
use borrow.Author.Tests.{lt-ltb, le-ltb, ltb-false}
use lib.Dec.{T, ltb, leb}
use lib.ListN.{length, get_or}
use Rattle.theory.specs.Widths.{levels_most, conditions_most, actions_most, stack_most}
use Rattle.theory.specs.Form.{Form}
use Rattle.theory.specs.Diagram.{Linear, zeros}
use Rattle.theory.specs.Valid.{all, among}
use Rattle.theory.specs.Command.{Command, push_leaf, push_condition, push_test, push_forbidden, give, name_action, end_model, Slot}
use Rattle.theory.specs.Verdict.{or, Facts, Site, reward_slot, chance_slot, level_slot, name_slot, has_slot, Progress, Rule, rule, first_broken, first_rules}
use Rattle.theory.specs.Verdict.{later_rules, rules_in, beyond, next_condition, printable, of_site, may_be, top, from_to, wanted, wanted_by}
use Rattle.model_progress.specs.declared.Progress.{Progress as CodeProgress}
use Rattle.model_progress.specs.GivenFlags.{site_as, place, names_row, flag_of, for_reward, for_chance, for_level, for_name, ProgressStands, in_order, row_given, action_given, all_given}
use Rattle.model_progress.proofs.Numbers.{bounds, is_among, not_false_T}
use Rattle.model_progress.proofs.Flags.{slotted_given}
use Rattle.model_facts.specs.Seen.{seen}
use Rattle.model_facts.proofs.Bits.{seen_length}
use Rattle.model_progress.proofs.Runs.{run_same, all_map, all_append, and_assoc}

-- ---- the order of the rules

two_operands : (x y : Bool) (l : List Rule) → first_broken (rule 4 (or x y) ∷ l) ≡ first_broken (rule 4 x ∷ rule 4 y ∷ l)
unfolding first_broken
two_operands true y l = refl
two_operands false y l = refl

-- rules that a command has none of
stack_only : (o k : Bool) → first_broken (in_order o k false false) ≡ first_broken (rule 4 o ∷ rule 5 k ∷ [])
unfolding first_broken
stack_only true k = refl
stack_only false true = refl
stack_only false false = refl

only_stack : (k : Bool) → first_broken (in_order false k false false) ≡ first_broken (rule 5 k ∷ [])
unfolding first_broken
only_stack true = refl
only_stack false = refl

no_stack : (o t : Bool) → first_broken (in_order o false t false) ≡ first_broken (rule 4 o ∷ rule 6 t ∷ [])
unfolding first_broken
no_stack true t = refl
no_stack false true = refl
no_stack false false = refl

-- what is given twice matters only where the operands are good
twice_alike : (o k t u d : Bool) → (o ≡ false → t ≡ u) → first_broken (in_order o k t d) ≡ first_broken (in_order o k u d)
unfolding first_broken
twice_alike true k t u d e = refl
twice_alike false k t u d e = ap (λ (b : Bool). first_broken (in_order false k b d)) (e refl)

neither : (x y : Bool) → or x y ≡ false → (x ≡ false) × (y ≡ false)
neither true y e = absurd (let z : ◌≡◌ {A = ℕ} 0 1 = cc in omega arith)
neither false y e = (refl, e)

-- a diagram matters only where there is one
diagram_alike : (o k t d e : Bool) → (k ≡ false → d ≡ e) → first_broken (in_order o k t d) ≡ first_broken (in_order o k t e)
unfolding first_broken
diagram_alike true k t d e f = refl
diagram_alike false true t d e f = refl
diagram_alike false false t d e f = ap (λ (b : Bool). first_broken (in_order false false t b)) (f refl)

-- ---- what the code keeps

module _ {s : CodeProgress} {F : List Bool} {p : Progress} (st : ProgressStands s F p) where
  pub depth : s.seen.len ≡ length p.stack
  depth = sym (seen_length s.seen.later s.seen.weights s.seen.forbids s.seen.len) ∙ ap length st.stack

  -- an operand that is good for the site is good for the widths
  act : (a : ℕ) → not (among s.site.actions a) ≡ false → T (among actions_most a)
  act a e = let h = bounds s.site.actions a (not_false_T (among s.site.actions a) e) in let q = ap (λ (S : Site). S.actions) st.site in let m = st.actions in is_among actions_most a (omega arith) (omega arith)

  pub later_leaf : (P : Linear) {o : Bool} {r : ℕ} → r ≡ first_broken (in_order o (leb stack_most s.seen.len) false false) → o ≡ beyond s.site.levels P
      → r ≡ first_broken (later_rules p.site p.stack p.given (push_leaf P))
  unfolding later_rules
  later_leaf P e f =
      e ∙ ap (λ (o : Bool). first_broken (in_order o (leb stack_most s.seen.len) false false)) f ∙ stack_only _ _
      ∙ ap₂ (λ (S : Site) (n : ℕ). first_broken (rule 4 (beyond S.levels P) ∷ rule 5 (leb stack_most n) ∷ [])) st.site depth

  pub later_condition : (k : ℕ) → first_broken (in_order (not (or (among s.site.conditions k) (next_condition s.site.conditions k))) (ltb s.seen.len 2) false false)
      ≡ first_broken (later_rules p.site p.stack p.given (push_condition k))
  unfolding later_rules
  later_condition k =
      stack_only _ _
      ∙ ap₂ (λ (S : Site) (n : ℕ). first_broken (rule 4 (not (or (among S.conditions k) (next_condition S.conditions k))) ∷ rule 5 (ltb n 2) ∷ [])) st.site depth

  pub later_test : (P : Linear) → first_broken (in_order (or (beyond s.site.levels P) (zeros P.coeffs)) (ltb s.seen.len 2) false false)
      ≡ first_broken (later_rules p.site p.stack p.given (push_test P))
  unfolding later_rules
  later_test P =
      stack_only _ _ ∙ two_operands _ _ _
      ∙ ap₂ (λ (S : Site) (n : ℕ). first_broken (rule 4 (beyond S.levels P) ∷ rule 4 (zeros P.coeffs) ∷ rule 5 (ltb n 2) ∷ [])) st.site depth

  pub later_forbidden : {r : ℕ} → r ≡ first_broken (in_order false (leb stack_most s.seen.len) false false) → r ≡ first_broken (later_rules p.site p.stack p.given push_forbidden)
  unfolding later_rules
  later_forbidden e = e ∙ only_stack _ ∙ ap (λ (n : ℕ). first_broken (rule 5 (leb stack_most n) ∷ [])) depth

  pub later_give : (g : Slot) (m : Bool) → (0 < s.seen.len → m ≡ may_be g (top (seen s.seen)))
      → first_broken (in_order (not (of_site (site_as s.site) g)) (ltb s.seen.len 1) (get_or F (flag_of g) false) (not m))
      ≡ first_broken (later_rules p.site p.stack p.given (give g))
  unfolding later_rules
  later_give g m e =
      diagram_alike _ _ _ _ (not (may_be g (top p.stack))) (λ k. ap not (e (ltb-false s.seen.len 1 k) ∙ ap (λ (K : List Facts). may_be g (top K)) st.stack))
      ∙ ap₂ (λ (S : Site) (n : ℕ). first_broken (in_order (not (of_site S g)) (ltb n 1) (get_or F (flag_of g) false) (not (may_be g (top p.stack))))) st.site depth
      ∙ twice_alike _ _ _ (has_slot g p.given) _ (λ e. sym (st.given (slotted_given p.site g st.levels st.conditions st.actions (not_false_T (of_site p.site g) e))))

  pub later_name : (a : ℕ) (b : List ℕ) → first_broken (in_order (or (not (among s.site.actions a)) (not (all printable b))) false (get_or F (place names_row 0 a) false) false)
      ≡ first_broken (later_rules p.site p.stack p.given (name_action a b))
  unfolding later_rules
  later_name a b =
      twice_alike _ _ _ (has_slot (name_slot a) p.given) _ (λ e. let n = neither _ _ e in sym (st.given (for_name (act a n.0))))
      ∙ no_stack _ _ ∙ two_operands _ _ _
      ∙ ap (λ (S : Site). first_broken (rule 4 (not (among S.actions a)) ∷ rule 4 (not (all printable b)) ∷ rule 6 (has_slot (name_slot a) p.given) ∷ [])) st.site

  -- ---- all that is wanted

  has : Slot → Bool
  has g = has_slot g p.given

  row_chances : (a n : ℕ) → T (among actions_most a) → n ≤ conditions_most → row_given F 0 a n ≡ all has (map (chance_slot a) (from_to 1 n))
  unfolding row_given has
  row_chances a n t h =
      run_same _ _ 1 n (λ i x y. sym (st.given (for_chance t (is_among conditions_most i x (omega arith))))) ∙ sym (all_map has (chance_slot a) (from_to 1 n))

  row_levels : (a n : ℕ) → T (among actions_most a) → n ≤ levels_most → row_given F conditions_most a n ≡ all has (map (level_slot a) (from_to 1 n))
  unfolding row_given has
  row_levels a n t h =
      run_same _ _ 1 n (λ i x y. sym (st.given (for_level t (is_among levels_most i x (omega arith))))) ∙ sym (all_map has (level_slot a) (from_to 1 n))

  wanted_run : (x k : ℕ) → 1 ≤ x → x + k ≤ actions_most + 1 → all (action_given F p.site) (from_to x k) ≡ all has (wanted_by p.site (from_to x k))
  unfolding all from_to wanted_by action_given has
  wanted_run x zero h i = refl
  wanted_run x (suc k) h i =
      let t = is_among actions_most x h (omega arith) in
      let C = map (chance_slot x) (from_to 1 p.site.conditions) in
      let L = map (level_slot x) (from_to 1 p.site.levels) in
      let R = wanted_by p.site (from_to (suc x) k) in
      ap₂ ◌&&◌ (ap₂ ◌&&◌ (sym (st.given (for_reward t))) (ap₂ ◌&&◌ (row_chances x p.site.conditions t st.conditions) (row_levels x p.site.levels t st.levels))) (wanted_run (suc x) k (omega arith) (omega arith))
      ∙ and_assoc (has (reward_slot x)) (all has C && all has L) (all has R)
      ∙ ap (λ (b : Bool). has (reward_slot x) && b) (and_assoc (all has C) (all has L) (all has R) ∙ ap (λ (b : Bool). all has C && b) (sym (all_append has L R)) ∙ sym (all_append has C (L ++ R)))

  wanted_all : all_given F (site_as s.site) ≡ all has (wanted p.site)
  unfolding all_given wanted
  wanted_all = ap (all_given F) st.site ∙ wanted_run 1 p.site.actions (omega arith) (let h = st.actions in omega arith)

  pub later_end : first_broken (rule 7 (not (all_given F (site_as s.site))) ∷ rule 7 (ltb 0 s.seen.len) ∷ [])
      ≡ first_broken (later_rules p.site p.stack p.given end_model)
  unfolding later_rules has
  later_end = ap₂ (λ (b : Bool) (n : ℕ). first_broken (rule 7 (not b) ∷ rule 7 (ltb 0 n) ∷ [])) wanted_all depth

-- ---- what the end command finds

pub end_missing : (b : Bool) (n : ℕ) → b ≡ false → 7 ≡ first_broken (rule 7 (not b) ∷ rule 7 (ltb 0 n) ∷ [])
unfolding first_broken
end_missing b n e = rw e

pub end_held : (b : Bool) (n : ℕ) → b ≡ true → 0 < n → 7 ≡ first_broken (rule 7 (not b) ∷ rule 7 (ltb 0 n) ∷ [])
unfolding first_broken
end_held b n e h = rw (e, lt-ltb 0 n h)

pub end_done : (b : Bool) (n : ℕ) → b ≡ true → n ≤ 0 → 0 ≡ first_broken (rule 7 (not b) ∷ rule 7 (ltb 0 n) ∷ [])
unfolding first_broken
end_done b n e h = rw (e, le-ltb 0 n h)

-- ---- the first command and the later ones

module _ {s : CodeProgress} {F : List Bool} {p : Progress} (st : ProgressStands s F p) (form : Form) (c : Command) where
  pub begun_rules : s.begun ≡ true → first_broken (later_rules p.site p.stack p.given c) ≡ first_broken (rules_in form p c)
  unfolding rules_in
  begun_rules e = let b : p.begun ≡ true = sym st.begun ∙ e in rw b

  pub first_rules_of : s.begun ≡ false → first_broken (first_rules form c) ≡ first_broken (rules_in form p c)
  unfolding rules_in
  first_rules_of e = let b : p.begun ≡ false = sym st.begun ∙ e in rw b
