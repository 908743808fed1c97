-- A walk over the commands of an accepted model, beside the checker's: one turn of the load.
use mathlib.Core.Path.{◌≡◌, refl, sym, ap, ◌∙◌, subst}
use mathlib.Core.Bool.{Bool, true, false, not, ◌&&◌}
use mathlib.Core.List.{List, [], ◌∷◌}
use Prim.Native.Nat.{ℕ, zero, suc, ◌+◌, ◌-◌, ◌≤◌, ◌<◌}
use native.Mathlib.Omega.{arith}
use lib.Dec.{T, eqb, ltb, eqb→eq, leb→le, nleb→lt, ltb→lt, nltb→le, T_not}
use lib.IntN.{ℤ}
use lib.ListN.{length, get_or, drop}
use Rattle.whole.specs.Cases.{if, by_test, both, not_not}
use Rattle.theory.specs.Widths.{levels_most, conditions_most, actions_most, stack_most, bytes_most, loaded_roots_most}
use Rattle.theory.specs.Form.{new_form}
use Rattle.theory.specs.Diagram.{Tree}
use Rattle.theory.specs.Valid.{all, among}
use Rattle.theory.specs.Computation.{Comp, bind, Out, done, stopped, run}
use Rattle.theory.specs.Command.{Command, site, push_leaf, push_condition, push_test, push_forbidden, name_action, end_model, Read, whole, unknown, short}
use Rattle.theory.specs.Command.{Placed, byte_at, width, read_at, goes_on, readings_from_in, readings_from, readings, give, Slot}
use Rattle.theory.specs.Verdict.{Site, Facts, Progress, end_slot, name_slot, has_slot, same_slot, or, Rule, rule, first_broken, next_condition, joined, wanted, later_rules, rules_in, after, Verdict, refusal, ended, judged_in, judged}
use Rattle.theory.specs.Load.{Entry, Loaded as Loading, load_one, load_one_with, load_on, load_on_with, site_at}
use Rattle.theory.proofs.laws.Comps.{run_bind}
use Rattle.theory.proofs.laws.Comps.{after as after-out}
use Rattle.theory.proofs.laws.Valid.{among_out}
use Rattle.theory.proofs.laws.Rules.{says_of_site}
use Rattle.theory.proofs.laws.AcceptedModel.{InRange}
use Rattle.model_command.specs.declared.Command.{Command as CodeCommand}
use Rattle.model_command.specs.CursorReadings.{CodeRead}
use Rattle.model_command.specs.declared.CommandError.TheVariants.{Unknown, Short}
use Rattle.std.specs.Prelude.{Ok, Err}
use Rattle.model_stack.specs.Held.{held}
use Rattle.model_command.specs.CursorReadings.{command_of, read_of_in, read_of, next_at}
use Rattle.model_command.proofs.Forward.{whole_bytes}
use Rattle.model_progress.specs.declared.Site.{Site as CodeSite}
use Rattle.model_progress.specs.GivenFlags.{site_as}
use Rattle.model.specs.Answers.{is_end}
use Rattle.model.proofs.Walk.{at_end, going, forward, from_first}
use Rattle.rule_node.specs.Nodes.{trees, tree_at}
use Rattle.rule_node.specs.Table.{Table}
use Rattle.load_choose.specs.CommandTest.{load_rule}
use Rattle.load_command.specs.CommandStep.{standing, NumbersBelow, Able, height, given_to, entered, StepReady, loading, Stepped}
use Rattle.load_command.proofs.Steps.{top_below}
use Rattle.load_command.specs.declared.Loaded.{Loaded}
use Rattle.load_model.specs.ModelRoots.{place_of, ended_by, stored_in}
use Rattle.load_model.proofs.Places.{StandsAt, placed_given, ends_given, Rooted, rooted_grown, rooted_name, rooted_entry, stored_none, stored_length}

-- ---- a command that breaks no rule

unbroken : (k : ℕ) (b : Bool) (l : List Rule) → first_broken (rule (suc k) b ∷ l) ≡ 0 → T (not b) × (first_broken l ≡ 0)
unfolding first_broken
unbroken k true l e = absurd (omega arith)
unbroken k false l e = (tt, e)

abbrev state : Site → List Facts → List Slot → Progress
state S K G = record { begun = true; site = S; stack = K; given = G }

-- the stack that the checker has behind it
pub record Checked (S : Site) (K : List Facts) (G : List Slot) (c : Command) : Type 0 where
  pub same : after (state S K G) c ≡ state S (after (state S K G) c).stack (after (state S K G) c).given
  pub high : length (after (state S K G) c).stack ≡ height c (length K)
  pub most : length K ≤ stack_most → length (after (state S K G) c).stack ≤ stack_most
  pub able : length K ≤ stack_most → Able c (length K)

joined_less : (b : Bool) (K : List Facts) → 2 ≤ length K → length (joined b K) ≡ length K - 1
unfolding joined
joined_less b [] h = absurd (omega arith)
joined_less b (x ∷ []) h = absurd (omega arith)
joined_less b (x ∷ y ∷ K) h = let e : suc (length K) ≡ suc (suc (length K)) - 1 = omega arith in e

drop_less : (K : List Facts) → length (drop 1 K) ≡ length K - 1
drop_less [] = refl
drop_less (x ∷ K) = let e : length K ≡ suc (length K) - 1 = omega arith in e

condition_in_range : (n k : ℕ) → n ≤ conditions_most → T (or (among n k) (next_condition n k)) → (0 < k) × (k ≤ conditions_most + conditions_most)
unfolding next_condition
condition_in_range n k h = by_test (among n k) (λ b. T (or b (ltb conditions_most k && among n (k - conditions_most))) → (0 < k) × (k ≤ conditions_most + conditions_most))
    (λ t _. let d = among_out n k t in let a = d.0 in let b = d.1 in (omega arith, omega arith))
    (λ _ t. let c = both (ltb conditions_most k) (among n (k - conditions_most)) t in let d = among_out n (k - conditions_most) c.1 in let a = d.0 in let b = d.1 in
    let e = ltb→lt conditions_most k c.0 in (omega arith, omega arith))

module _ (S : Site) (few : S.conditions ≤ conditions_most) (K : List Facts) (G : List Slot) where
  pub checked : (c : Command) → first_broken (later_rules S K G c) ≡ 0 → Checked S K G c
  unfolding later_rules after height Able
  checked (site m n a w) e = absurd (unbroken 0 true _ e).0
  checked (push_leaf p) e =
      let v = (unbroken 4 _ _ (unbroken 3 _ _ e).1).0 in
      let h = nleb→lt stack_most (length K) v in
      record { same = refl; high = refl; most = λ _. omega arith; able = λ _. h }
  checked (push_condition k) e =
      let u = unbroken 3 _ _ e in
      let h = nltb→le (length K) 2 (unbroken 4 _ _ u.1).0 in
      let j = joined_less (ltb conditions_most k) K h in
      let r = condition_in_range S.conditions k few (not_not (or (among S.conditions k) (next_condition S.conditions k)) u.0) in
      record { same = refl; high = j; most = λ m. omega arith; able = λ m. (h, m, r.0, r.1) }
  checked (push_test p) e =
      let u = unbroken 3 _ _ e in
      let h = nltb→le (length K) 2 (unbroken 4 _ _ (unbroken 3 _ _ u.1).1).0 in
      let j = joined_less false K h in
      record { same = refl; high = j; most = λ m. omega arith; able = λ m. (h, m) }
  checked push_forbidden e =
      let h = nleb→lt stack_most (length K) (unbroken 4 _ _ e).0 in
      record { same = refl; high = refl; most = λ _. omega arith; able = λ _. h }
  checked (give g) e = let j = drop_less K in record { same = refl; high = j; most = λ m. omega arith; able = λ m. tt }
  checked (name_action a b) e = record { same = refl; high = refl; most = λ m. m; able = λ m. tt }
  checked end_model e = record { same = refl; high = refl; most = λ m. m; able = λ m. tt }

-- ---- the roots behind it

given_first : (l : List ℤ) (n : ℕ) (H : List ℕ) (g : Slot) (E : List Entry) → 1 ≤ length H → (P : List Entry → Type 0) → P (record { slot = g; tree = tree_at l n (get_or H 0 0) } ∷ E) → P (given_to g (standing l n H) E)
unfolding given_to
given_first l n [] g E h P p = absurd (omega arith)
given_first l n (x ∷ H) g E h P p = p

module _ (S : Site) (A : S.actions ≤ actions_most) (N : S.conditions ≤ conditions_most) (M : S.levels ≤ levels_most) (K : List Facts)
    (G : List Slot) {l : List ℤ} {n : ℕ} (H : List ℕ) (b : NumbersBelow n H) (tall : length H ≡ length K) {R : List ℕ} (room : loaded_roots_most ≤ length R) {E : List Entry}
    (r : Rooted S l n R G E) where
  took : (g : Slot) (i : ℕ) → StandsAt S g i → 1 ≤ length K → Rooted S l n (stored_in R i (get_or H 0 0)) (g ∷ G) (given_to g (standing l n H) E)
  took g i p h = given_first l n H g E (omega arith) (λ F. Rooted S l n (stored_in R i (get_or H 0 0)) (g ∷ G) F) (rooted_entry A N M room p (record { below = top_below n H (omega arith) b; tree = refl }) r)

  pub given_roots : (c : Command) → first_broken (later_rules S K G c) ≡ 0 → Rooted S l n (stored_in R (place_of S.levels S.conditions S.actions c) (get_or H 0 0)) (after (state S K G) c).given (entered c (standing l n H) E)
  unfolding later_rules after place_of entered
  given_roots (site m n a w) e = absurd (unbroken 0 true _ e).0
  given_roots (push_leaf p) e = subst (λ (R : List ℕ). Rooted S l n R G E) (sym (stored_none R (get_or H 0 0))) r
  given_roots (push_condition k) e = subst (λ (R : List ℕ). Rooted S l n R G E) (sym (stored_none R (get_or H 0 0))) r
  given_roots (push_test p) e = subst (λ (R : List ℕ). Rooted S l n R G E) (sym (stored_none R (get_or H 0 0))) r
  given_roots push_forbidden e = subst (λ (R : List ℕ). Rooted S l n R G E) (sym (stored_none R (get_or H 0 0))) r
  given_roots (give g) e =
      let u = unbroken 3 _ _ e in
      took g _ (placed_given S g ((says_of_site S g).kept u.0)) (nltb→le (length K) 1 (unbroken 4 _ _ u.1).0)
  given_roots (name_action a b) e = subst (λ (R : List ℕ). Rooted S l n R (name_slot a ∷ G) E) (sym (stored_none R (get_or H 0 0))) (rooted_name a r)
  given_roots end_model e = subst (λ (R : List ℕ). Rooted S l n R G E) (sym (stored_none R (get_or H 0 0))) r

-- whether an end worth is among what has been given
given_ends : (S : Site) (K : List Facts) (G : List Slot) {b : Bool} → b ≡ has_slot end_slot G → (c : Command) → first_broken (later_rules S K G c) ≡ 0 → ended_by b c ≡ has_slot end_slot (after (state S K G) c).given
unfolding later_rules after ended_by has_slot same_slot
given_ends S K G e (site m n a w) f = absurd (unbroken 0 true _ f).0
given_ends S K G e (push_leaf p) f = e
given_ends S K G e (push_condition k) f = e
given_ends S K G e (push_test p) f = e
given_ends S K G e push_forbidden f = e
given_ends S K G e (give g) f = ends_given S G ((says_of_site S g).kept (unbroken 3 _ _ f).0) e
given_ends S K G e (name_action a b) f = e
given_ends S K G e end_model f = e

-- ---- the walk

pub record Fewest (B : List ℕ) : Type 0 where
  pub actions : (site_at B).actions ≤ actions_most
  pub conditions : (site_at B).conditions ≤ conditions_most
  pub levels : (site_at B).levels ≤ levels_most
  pub some : 1 ≤ (site_at B).actions

pub few_in : (B : List ℕ) → InRange (site_at B) → Fewest B
few_in B r =
    let a = among_out actions_most (site_at B).actions r.actions_in in
    let m = among_out levels_most (site_at B).levels r.levels_in in
    record { actions = a.1; conditions = leb→le (site_at B).conditions conditions_most r.conditions_in; levels = m.1; some = a.0 }

-- what is left of the readings gives what the whole model gives
pub record Walk (B : List ℕ) (cap : ℕ) (l : List ℤ) (w : List ℕ) (R : List ℕ) (at : ℕ) (s : Loaded) (flag : Bool) : Type 0 where
  pub few : Fewest B
  pub small : length B ≤ bytes_most
  pub none : s.stop ≡ 0
  pub table : Table (load_rule B) cap l w s.count
  pub below : NumbersBelow s.count (held s.stack)
  pub fuel : ℕ
  pub enough : length B - at < fuel
  pub facts : List Facts
  pub given : List Slot
  pub entries : List Entry
  pub tall : length (held s.stack) ≡ length facts
  pub most : length facts ≤ stack_most
  pub judges : (judged (length B) (state (site_at B) facts given) (readings_from B fuel at)).number ≡ 0
  pub runs : run cap (load_on (readings_from B fuel at) (loading (standing l s.count (held s.stack)) entries)) (trees l s.count) ≡ run cap (load_on (readings B) (loading [] [])) []
  pub rooted : Rooted (site_at B) l s.count R given entries
  pub ended : flag ≡ has_slot end_slot given
  pub room : loaded_roots_most ≤ length R

opened : (P : List Placed → Type 0) (B : List ℕ) (at k : ℕ) → length B - at < k → P (readings_from B k at) → (r : Read) → r ≡ read_at B at → (n : ℕ) × (length B - at < suc n) × P (from_first B at n r)
unfolding readings_from_in
opened P B at zero h j r e = absurd (omega arith)
opened P B at (suc k) h j r e = (k, h, subst (λ (q : Read). P (from_first B at k q)) (sym e) j)

pub judged_whole : (k at : ℕ) (v : Verdict) → (if (eqb k 0) v (refusal k at)).number ≡ 0 → (k ≡ 0) × (v.number ≡ 0)
judged_whole k at v = by_test (eqb k 0) (λ b. (if b v (refusal k at)).number ≡ 0 → (k ≡ 0) × (v.number ≡ 0))
    (λ t e. (eqb→eq k 0 t, e)) (λ n e. absurd (T_not (eqb k 0) n (rw e tt)))

-- what the checker and the loader say of a reading and those behind it
abbrev Both : List ℕ → ℕ → List Facts → List Slot → List Tree → List Entry → List Tree → List Placed → Type 0
Both B cap K G X E Y L = ((judged (length B) (state (site_at B) K G) L).number ≡ 0) × (run cap (load_on L (loading X E)) Y ≡ run cap (load_on (readings B) (loading [] [])) [])

judge_one : (B : List ℕ) (S : Site) (K : List Facts) (G : List Slot) (at : ℕ) (c : Command) (L : List Placed) → (judged (length B) (state S K G) (record { at = at; read = whole c } ∷ L)).number ≡ 0
    → (first_broken (later_rules S K G c) ≡ 0) × ((ended (length B) at c (judged (length B) (after (state S K G) c) L)).number ≡ 0)
unfolding judged_in rules_in
judge_one B S K G at c L e = judged_whole (first_broken (later_rules S K G c)) at _ e

load_one_on : (at : ℕ) (c : Command) (L : List Placed) (s : Loading) → load_on (record { at = at; read = whole c } ∷ L) s ≡ bind (load_one c s) (load_on L)
unfolding load_on_with
load_one_on at c L s = refl

refused_unknown : (n : ℕ) (s : Progress) (at : ℕ) (L : List Placed) {A : Type 0} → (judged n s (record { at = at; read = unknown } ∷ L)).number ≡ 0 → A
unfolding judged_in
refused_unknown n s at L e = absurd (let z : ◌≡◌ {A = ℕ} 3 0 = e in omega arith)

refused_short : (n : ℕ) (s : Progress) (at : ℕ) (L : List Placed) {A : Type 0} → (judged n s (record { at = at; read = short } ∷ L)).number ≡ 0 → A
unfolding judged_in
refused_short n s at L e = absurd (let z : ◌≡◌ {A = ℕ} 2 0 = e in omega arith)

not_whole : (B : List ℕ) (at : ℕ) (r : CodeRead) → ((c : CodeCommand) → r ≡ Ok c → ⊥) → (P : Read → Type 0) → P (read_of B at r) → {A : Type 0} → (P unknown → A) → (P short → A) → A
unfolding read_of_in
not_whole B at (Ok c) k P p f g = absurd (k c refl)
not_whole B at (Err Unknown) k P p f g = f p
not_whole B at (Err Short) k P p f g = g p

end_on : (cap at : ℕ) (L : List Placed) (s : Loading) (Y : List Tree) → run cap (load_on (record { at = at; read = whole end_model } ∷ []) s) Y ≡ done s Y
unfolding load_on_with load_one_with bind run
end_on cap at L s Y = refl

end_first : (B : List ℕ) (at n : ℕ) → from_first B at n (whole end_model) ≡ record { at = at; read = whole end_model } ∷ []
unfolding goes_on
end_first B at n = refl

ends_run : (B : List ℕ) (cap at n : ℕ) {c : Command} {s : Loading} {Y : List Tree} {v : Out Loading} → c ≡ end_model → run cap (load_on (from_first B at n (whole c)) s) Y ≡ v → v ≡ done s Y
ends_run B cap at n {c} {s} {Y} z e = sym e ∙ (ap (λ (d : Command). run cap (load_on (from_first B at n (whole d)) s) Y) z ∙ (ap (λ (M : List Placed). run cap (load_on M s) Y) (end_first B at n) ∙ end_on cap at [] s Y))

ends_all : (S : Site) (K : List Facts) (G : List Slot) → first_broken (later_rules S K G end_model) ≡ 0 → T (all (λ g. has_slot g G) (wanted S))
unfolding later_rules
ends_all S K G e = not_not (all (λ g. has_slot g G) (wanted S)) (unbroken 6 _ _ e).0

module _ {B : List ℕ} {cap : ℕ} {l : List ℤ} {w : List ℕ} {R : List ℕ} {at : ℕ} {s : Loaded} {flag : Bool} (k : Walk B cap l w R at s flag) where
  abbrev Here : List Placed → Type 0
  Here = Both B cap k.facts k.given (standing l s.count (held s.stack)) k.entries (trees l s.count)

  first : (r : Read) → r ≡ read_at B at → (n : ℕ) × (length B - at < suc n) × Here (from_first B at n r)
  first r e = opened Here B at k.fuel k.enough (k.judges, k.runs) r e

  -- an accepted model has a whole command here
  pub turn_none : (r : CodeRead) → read_of B at r ≡ read_at B at → ((c : CodeCommand) → r ≡ Ok c → ⊥) → {A : Type 0} → A
  turn_none r e t = not_whole B at r t (λ q. q ≡ read_at B at) e
      (λ u. refused_unknown (length B) _ at _ (first unknown u).2.0) (λ u. refused_short (length B) _ at _ (first short u).2.0)

  module _ (c : CodeCommand) (e : whole (command_of B at c) ≡ read_at B at) where
    fine : first_broken (later_rules (site_at B) k.facts k.given (command_of B at c)) ≡ 0
    fine = let o = first (whole (command_of B at c)) e in (judge_one B (site_at B) k.facts k.given at (command_of B at c) _ o.2.0).0

    ok : Checked (site_at B) k.facts k.given (command_of B at c)
    ok = checked (site_at B) k.few.conditions k.facts k.given (command_of B at c) fine

    -- it can be loaded
    pub ready : StepReady B cap l w at (command_of B at c) s
    ready = record {
      none = k.none;
      table = k.table;
      below = k.below;
      short = (let b = (whole_bytes new_form B at (command_of B at c) e).0.starts in let m = k.small in omega arith);
      here = e;
      able = subst (Able (command_of B at c)) (sym k.tall) (ok.able k.most);
    }

    module _ {l' : List ℤ} {w' : List ℕ} {r : Loaded} (T : Stepped B cap l w (command_of B at c) s.count (held s.stack) l' w' r) where
      loads : run cap (load_on (readings B) (loading [] [])) [] ≡ after-out (run cap
          (load_one (command_of B at c) (loading (standing l s.count (held s.stack)) k.entries)) (trees l s.count))
          (λ t Y. run cap (load_on (if (goes_on (whole (command_of B at c))) (readings_from B (first (whole (command_of B at c)) e).0 (at + width (byte_at B at))) []) t)
          Y)
      loads = let o = first (whole (command_of B at c)) e in
          sym o.2.1 ∙ (ap (λ (m : Comp Loading). run cap m (trees l s.count)) (load_one_on at (command_of B at c) _ _) ∙ run_bind cap _ _ (trees l s.count))

      -- the load stops
      pub turn_stops : (r.stop ≡ 0 → ⊥) → run cap (load_on (readings B) (loading [] [])) [] ≡ stopped r.stop
      unfolding after-out
      turn_stops off = loads ∙ ap (λ (o : Out Loading). after-out o (λ t Y. run cap
          (load_on (if (goes_on (whole (command_of B at c))) (readings_from B (first (whole (command_of B at c)) e).0 (at + width (byte_at B at))) []) t) Y))
          (T.stops off k.entries)

      on : (go : r.stop ≡ 0) → run cap (load_on (if (goes_on (whole (command_of B at c)))
          (readings_from B (first (whole (command_of B at c)) e).0 (at + width (byte_at B at))) [])
          (loading (standing l' r.count (held r.stack)) (entered (command_of B at c) (standing l s.count (held s.stack)) k.entries)))
          (trees l' r.count) ≡ run cap (load_on (readings B) (loading [] [])) []
      unfolding after-out
      on go = sym (loads ∙ ap (λ (o : Out Loading). after-out o (λ t Y. run cap (load_on
          (if (goes_on (whole (command_of B at c))) (readings_from B (first (whole (command_of B at c)) e).0 (at + width (byte_at B at))) []) t) Y))
          (T.went go k.entries))

      -- it goes on
      pub turn_on : {R' : List ℕ} {flag' : Bool} (next x : ℕ) → is_end c ≡ false → next ≡ next_at B at → r.stop ≡ 0 → x ≡ get_or (held s.stack) 0 0 → R' ≡ stored_in R
          (place_of (site_at B).levels (site_at B).conditions (site_at B).actions (command_of B at c)) x
          → flag' ≡ ended_by flag (command_of B at c) → Walk B cap l' w' R' next r flag'
      turn_on {R'} next x i g go ex eR ef =
          let o = first (whole (command_of B at c)) e in
          let h = forward B at (command_of B at c) next e g in
          let y = going B at c i in
          let j = (judge_one B (site_at B) k.facts k.given at (command_of B at c) _ o.2.0).1 in
          let j' = sym (ap (λ (v : Verdict). v.number) (y.1 (length B) _)) ∙ j in
          let L : if (goes_on (whole (command_of B at c))) (readings_from B o.0 (at + width (byte_at B at))) [] ≡ readings_from B o.0 next = ap
          (λ (b : Bool). if b (readings_from B o.0 (at + width (byte_at B at))) []) y.0 ∙ ap (readings_from B o.0) (sym h.0) in
          let eR' : R' ≡ stored_in R (place_of (site_at B).levels (site_at B).conditions (site_at B).actions (command_of B at c)) (get_or (held s.stack) 0 0) = eR ∙ ap
          (stored_in R (place_of (site_at B).levels (site_at B).conditions (site_at B).actions (command_of B at c))) ex in
          record {
            few = k.few;
            small = k.small;
            none = go;
            table = T.table;
            below = T.below go;
            fuel = o.0;
            enough = omega (arith, o.1, h.1, h.2);
            facts = (after (state (site_at B) k.facts k.given) (command_of B at c)).stack;
            given = (after (state (site_at B) k.facts k.given) (command_of B at c)).given;
            entries = entered (command_of B at c) (standing l s.count (held s.stack)) k.entries;
            tall = T.high go ∙ (ap (height (command_of B at c)) k.tall ∙ sym ok.high);
            most = ok.most k.most;
            judges = subst (λ (M : List Placed). (judged (length B) (state (site_at B) (after (state (site_at B) k.facts k.given) (command_of B at c)).stack
                (after (state (site_at B) k.facts k.given) (command_of B at c)).given) M).number ≡ 0) L
                (subst (λ (p : Progress). (judged (length B) p (if (goes_on (whole (command_of B at c))) (readings_from B o.0 (at + width (byte_at B at))) [])).number ≡ 0) ok.same j');
            runs = subst (λ (M : List Placed). run cap (load_on M (loading (standing l' r.count (held r.stack))
                (entered (command_of B at c) (standing l s.count (held s.stack)) k.entries))) (trees l' r.count) ≡ run cap
                (load_on (readings B) (loading [] [])) []) L (on go);
            rooted = rooted_grown T.grown (subst (λ (Z : List ℕ). Rooted (site_at B) l s.count Z
                (after (state (site_at B) k.facts k.given) (command_of B at c)).given
                (entered (command_of B at c) (standing l s.count (held s.stack)) k.entries)) (sym eR')
                (given_roots (site_at B) k.few.actions k.few.conditions k.few.levels k.facts k.given (held s.stack) k.below k.tall k.room k.rooted (command_of B at c) fine));
            ended = ef ∙ given_ends (site_at B) k.facts k.given k.ended (command_of B at c) fine;
            room = (let z = ap length eR ∙ stored_length R _ x in let q = k.room in omega arith);
          }

    -- at the end all that is wanted has been given
    pub turn_end : is_end c ≡ true → (run cap (load_on (readings B) (loading [] [])) [] ≡ done (loading (standing l s.count (held s.stack)) k.entries)
        (trees l s.count)) × T (all (λ g. has_slot g k.given) (wanted (site_at B)))
    turn_end i =
        let o = first (whole (command_of B at c)) e in
        let z = at_end B at c i in
        (ends_run B cap at o.0 z o.2.1, ends_all (site_at B) k.facts k.given (subst (λ (d : Command). first_broken (later_rules (site_at B) k.facts k.given d) ≡ 0) z fine))

-- with the site that the code reads
pub placed : (B : List ℕ) (s : CodeSite) {p : ℕ} (c : Command) (R : List ℕ) {R' : List ℕ} (x : ℕ) → site_as s ≡ site_at B → p ≡ place_of s.levels s.conditions s.actions c → R' ≡ stored_in R p x
    → R' ≡ stored_in R (place_of (site_at B).levels (site_at B).conditions (site_at B).actions c) x
placed B s c R x es ep e = e ∙ ap (λ (i : ℕ). stored_in R i x) (ep ∙ ap (λ (S : Site). place_of S.levels S.conditions S.actions c) es)
