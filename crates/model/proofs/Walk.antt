-- A walk over the commands of a model: one turn of validation, with fuel enough for the rest.
use mathlib.Core.Path.{◌≡◌, refl, sym, ap, ◌∙◌, subst}
use mathlib.Core.Bool.{Bool, true, false}
use mathlib.Core.List.{List, [], ◌∷◌}
use Prim.Native.Nat.{ℕ, zero, suc, ◌+◌, ◌-◌, ◌≤◌, ◌<◌}
use native.Mathlib.Omega.{arith}
use borrow.Author.Tests.{ne_eqb}
use lib.ListN.{length, replicate}
use Rattle.whole.specs.Cases.{if}
use Rattle.theory.specs.Widths.{flags_most}
use Rattle.theory.specs.Form.{Form, new_form}
use Rattle.theory.specs.Command.{Command, site, push_leaf, push_condition, push_test, push_forbidden, give, name_action, end_model, Read, whole, unknown}
use Rattle.theory.specs.Command.{short, Placed, byte_at, width, width_in, read_in, read_at, goes_on, readings_from, readings_from_in, readings_in}
use Rattle.theory.specs.Verdict.{Progress, at_start, rule, first_broken, first_rules, later_rules, rules_in, after, Verdict, refusal, ended, judged_in, verdict_in}
use Rattle.model_command.specs.declared.Command.{Command as CodeCommand}
use Rattle.model_command.specs.declared.Command.TheVariants.{Site, Leaf, Condition, Test, Forbidden, Give, Name, End}
use Rattle.model_command.specs.declared.CommandError.TheVariants.{Unknown, Short}
use Rattle.std.specs.Prelude.{Ok, Err}
use Rattle.model_command.specs.CursorReadings.{CodeRead, command_of, command_of_in, read_of, read_of_in, next_in, next_at}
use Rattle.model_command.proofs.Forward.{whole_bytes, next_whole}
use Rattle.model_progress.specs.declared.Progress.{Progress as CodeProgress}
use Rattle.model_progress.specs.declared.Site.{Site as CodeSite}
use Rattle.model_facts.specs.Seen.{seen_in}
use Rattle.model_progress.specs.GivenFlags.{site_as, noted, ProgressStands, Leaves}
use Rattle.model_progress.proofs.StateAfter.{stands_start}
use Rattle.model.specs.Answers.{is_end}
use Rattle.model.specs.Walk.{Walk}

-- ---- what the code's answers say of the command

module _ (form : Form) (B : List ℕ) (at : ℕ) {r : CodeRead} (e : read_of_in form B at r ≡ read_in form B at) where
  pub whole_is_in : {c : CodeCommand} → r ≡ Ok c → whole (command_of_in form B at c) ≡ read_in form B at
  unfolding read_of_in
  whole_is_in f = ap (read_of_in form B at) (sym f) ∙ e

  pub unknown_is : r ≡ Err Unknown → unknown ≡ read_in form B at
  unfolding read_of_in
  unknown_is f = ap (read_of_in form B at) (sym f) ∙ e

  pub short_is : r ≡ Err Short → short ≡ read_in form B at
  unfolding read_of_in
  short_is f = ap (read_of_in form B at) (sym f) ∙ e

pub not_end : (c : CodeCommand) → (c ≡ End → ⊥) → false ≡ is_end c
unfolding is_end
not_end (Site m n a w) k = refl
not_end Leaf k = refl
not_end (Condition i) k = refl
not_end Test k = refl
not_end Forbidden k = refl
not_end (Give x a j) k = refl
not_end (Name a) k = refl
not_end End k = absurd (k refl)

module _ (form : Form) (B : List ℕ) (at : ℕ) where
  pub at_end_in : (c : CodeCommand) → is_end c ≡ true → command_of_in form B at c ≡ end_model
  unfolding is_end command_of_in
  at_end_in (Site m n a w) e = absurd (let z : ◌≡◌ {A = ℕ} 0 1 = cc in omega arith)
  at_end_in Leaf e = absurd (let z : ◌≡◌ {A = ℕ} 0 1 = cc in omega arith)
  at_end_in (Condition i) e = absurd (let z : ◌≡◌ {A = ℕ} 0 1 = cc in omega arith)
  at_end_in Test e = absurd (let z : ◌≡◌ {A = ℕ} 0 1 = cc in omega arith)
  at_end_in Forbidden e = absurd (let z : ◌≡◌ {A = ℕ} 0 1 = cc in omega arith)
  at_end_in (Give x a j) e = absurd (let z : ◌≡◌ {A = ℕ} 0 1 = cc in omega arith)
  at_end_in (Name a) e = absurd (let z : ◌≡◌ {A = ℕ} 0 1 = cc in omega arith)
  at_end_in End e = refl

  -- a command that is not the end goes on, and leaves the verdict to the rest
  pub going_in : (c : CodeCommand) → is_end c ≡ false → (goes_on (whole (command_of_in form B at c)) ≡ true) × ((n : ℕ) (v : Verdict) → ended n at (command_of_in form B at c) v ≡ v)
  unfolding is_end command_of_in goes_on ended
  going_in (Site m n a w) e = (refl, λ n v. refl)
  going_in Leaf e = (refl, λ n v. refl)
  going_in (Condition i) e = (refl, λ n v. refl)
  going_in Test e = (refl, λ n v. refl)
  going_in Forbidden e = (refl, λ n v. refl)
  going_in (Give x a j) e = (refl, λ n v. refl)
  going_in (Name a) e = (refl, λ n v. refl)
  going_in End e = absurd (let z : ◌≡◌ {A = ℕ} 0 1 = cc in omega arith)

  -- the next offset lies behind the command and within the model
  pub forward_in : (c : Command) (next : ℕ) → whole c ≡ read_in form B at → next ≡ next_in form B at → (next ≡ at + width_in form (byte_at B at)) × (at < next) × (next ≤ length B)
  forward_in c next e f =
      let b = (whole_bytes form B at c e).0 in
      let g : next ≡ at + width_in form (byte_at B at) = f ∙ next_whole form B at b in
      let k = b.known in
      let n = b.ends in
      (g, omega (arith, k), omega arith)

  -- a command that was read tells how far it goes
  pub past : (c : CodeCommand) (n : ℕ) → whole (command_of_in form B at c) ≡ read_in form B at → ((A : List ℕ) (i : ℕ) → whole (command_of_in form A i c) ≡ read_in form A i → n ≡ width_in form (byte_at A i)) → at + n ≡ next_in form B at
  past c n e f = ap (λ (k : ℕ). at + k) (f B at e) ∙ sym (next_whole form B at (whole_bytes form B at (command_of_in form B at c) e).0)

-- ---- one turn

-- nothing is known before the first command
abbrev fresh : CodeProgress
fresh = record { begun = false; site = record { levels = 0; conditions = 0; actions = 0; weights = 0 }; seen = record { len = 0; later = 0; weights = 0; forbids = 0 } }

unfoldable pub walk_starts : (form : Form) (B : List ℕ) → Walk form B 0 fresh (replicate flags_most false)
unfolding verdict_in readings_in seen_in
walk_starts form B = record { fuel = suc (length B); enough = omega arith; so_far = at_start; stands = stands_start fresh.seen refl; judges = refl }

-- the readings from an offset on, of which the first is known
abbrev pub from_first_in : Form → List ℕ → ℕ → ℕ → Read → List Placed
from_first_in form B at k r = record { at = at; read = r } ∷ if (goes_on r) (readings_from_in form B k (at + width_in form (byte_at B at))) []

pub opened_in : (form : Form) {A : Type 0} (f : List Placed → A) (v : A) (B : List ℕ) (at k : ℕ) → length B - at < k → f (readings_from_in form B k at) ≡ v → (r : Read) → r ≡ read_in form B at
    → (n : ℕ) × (length B - at < suc n) × (f (from_first_in form B at n r) ≡ v)
unfolding readings_from_in
opened_in form f v B at zero h j r e = absurd (omega arith)
opened_in form f v B at (suc k) h j r e = (k, h, subst (λ (q : Read). f (from_first_in form B at k q) ≡ v) (sym e) j)

-- ---- the site stays

not_none : {A : Type 0} (k : ℕ) → first_broken (rule (suc k) true ∷ []) ≡ 0 → A
unfolding first_broken
not_none k e = absurd (omega arith)

later_keeps : (form : Form) (p : Progress) (c : Command) → p.begun ≡ true → first_broken (rules_in form p c) ≡ 0 → ((after p c).begun ≡ true) × ((after p c).site ≡ p.site)
unfolding after rules_in later_rules
later_keeps form p (site m n a w) b u = not_none 0 (rw b at u)
later_keeps form p (push_leaf q) b u = (b, refl)
later_keeps form p (push_condition k) b u = (b, refl)
later_keeps form p (push_test q) b u = (b, refl)
later_keeps form p push_forbidden b u = (b, refl)
later_keeps form p (give g) b u = (b, refl)
later_keeps form p (name_action a t) b u = (b, refl)
later_keeps form p end_model b u = (b, refl)

same_site : {t : CodeProgress} {F : List Bool} {p : Progress} → ProgressStands t F p → (S : CodeSite) → p.begun ≡ true → site_as S ≡ p.site → ProgressStands (record { begun = true; site = S; seen = t.seen }) F p
same_site st S b e = record {
  begun = sym b;
  site = e;
  stack = st.stack;
  given = λ q. st.given q;
  none = st.none;
  flags = st.flags;
  levels = st.levels;
  conditions = st.conditions;
  actions = st.actions;
  sized = st.sized;
}

pub same_begun : (form : Form) {B : List ℕ} {at : ℕ} {s : CodeProgress} {F : List Bool} → s.begun ≡ true → Walk form B at s F → Walk form B at (record { begun = true; site = s.site; seen = s.seen }) F
same_begun form {B} {at} {s} {F} b w = subst (λ (x : Bool). Walk form B at (record { begun = x; site = s.site; seen = s.seen }) F) b w

-- a first command that breaks no rule is not the end
first_goes : (form : Form) (B : List ℕ) (c : CodeCommand) → first_broken (first_rules form (command_of_in form B 0 c)) ≡ 0 → is_end c ≡ false
unfolding is_end command_of_in first_rules
first_goes form B (Site m n a w) u = refl
first_goes form B Leaf u = refl
first_goes form B (Condition i) u = refl
first_goes form B Test u = refl
first_goes form B Forbidden u = refl
first_goes form B (Give x a j) u = refl
first_goes form B (Name a) u = refl
first_goes form B End u = not_none 0 u

module _ {form : Form} {B : List ℕ} {at : ℕ} {s : CodeProgress} {F : List Bool} (w : Walk form B at s F) where
  first : (r : Read) → r ≡ read_in form B at → (n : ℕ) × (length B - at < suc n) × (judged_in form (length B) w.so_far (from_first_in form B at n r) ≡ verdict_in form B)
  first = opened_in form (judged_in form (length B) w.so_far) (verdict_in form B) B at w.fuel w.enough w.judges

  pub turn_unknown : unknown ≡ read_in form B at → refusal 3 at ≡ verdict_in form B
  unfolding judged_in goes_on
  turn_unknown e = (first unknown e).2

  pub turn_short : short ≡ read_in form B at → refusal 2 at ≡ verdict_in form B
  unfolding judged_in goes_on
  turn_short e = (first short e).2

  pub turn_broken : (c : Command) (n : ℕ) → whole c ≡ read_in form B at → n ≡ first_broken (rules_in form w.so_far c) → (n ≡ 0 → ⊥) → refusal n at ≡ verdict_in form B
  unfolding judged_in
  turn_broken c n e f h =
      let o = first (whole c) e in
      rw (← f, ne_eqb n 0 h) at o.2

  module _ (c : Command) (e : whole c ≡ read_in form B at) (u : first_broken (rules_in form w.so_far c) ≡ 0) where
    unbroken : (k : ℕ) → judged_in form (length B) w.so_far (from_first_in form B at k (whole c)) ≡ verdict_in form B
        → ended (length B) at c (judged_in form (length B) (after w.so_far c) (if (goes_on (whole c)) (readings_from_in form B k (at + width_in form (byte_at B at))) [])) ≡ verdict_in form B
    unfolding judged_in
    unbroken k j = rw u at j

  pub turn_end : (c : CodeCommand) (n : ℕ) (v : Verdict) → whole (command_of_in form B at c) ≡ read_in form B at → n ≡ first_broken (rules_in form w.so_far (command_of_in form B at c)) → n ≡ 0 → is_end c ≡ true
      → ((x : Verdict) → v ≡ ended (length B) at end_model x) → v ≡ verdict_in form B
  turn_end c n v e f z i g =
      let o = first (whole (command_of_in form B at c)) e in
      let rest : Verdict = judged_in form (length B) (after w.so_far (command_of_in form B at c)) (if (goes_on (whole (command_of_in form B at c))) (readings_from_in form B o.0 (at + width_in form (byte_at B at))) []) in
      g rest ∙ ap (λ (d : Command). ended (length B) at d rest) (sym (at_end_in form B at c i)) ∙ unbroken (command_of_in form B at c) e (sym f ∙ z) o.0 o.2

  pub turn_to : (c : CodeCommand) (n next : ℕ) (t : CodeProgress) (G : List Bool) → whole (command_of_in form B at c) ≡ read_in form B at → n ≡ first_broken (rules_in form w.so_far (command_of_in form B at c)) → n ≡ 0 → is_end c ≡ false
      → next ≡ next_in form B at → ProgressStands t G (after w.so_far (command_of_in form B at c)) → Walk form B next t G
  turn_to c n next t G e f z i g st =
      let o = first (whole (command_of_in form B at c)) e in
      let h = forward_in form B at (command_of_in form B at c) next e g in
      let y = going_in form B at c i in
      let j = unbroken (command_of_in form B at c) e (sym f ∙ z) o.0 o.2 in
      let j' = sym (y.1 (length B) _) ∙ j in
      let j'' = rw (y.0, ← h.0) at j' in
      record { fuel = o.0; enough = omega (arith, o.1, h.1, h.2); so_far = after w.so_far (command_of_in form B at c); stands = st; judges = j'' }

  -- a later command keeps the site
  pub turn_on : s.begun ≡ true → (c : CodeCommand) (n next : ℕ) (t : CodeProgress) (G : List Bool) → whole (command_of_in form B at c) ≡ read_in form B at
      → n ≡ first_broken (rules_in form w.so_far (command_of_in form B at c)) → n ≡ 0 → is_end c ≡ false → next ≡ next_in form B at → G ≡ noted c F → Leaves form B at s c t
      → Walk form B next (record { begun = true; site = s.site; seen = t.seen }) G
  turn_on b c n next t G e f z i g h lv =
      let u = sym f ∙ z in
      let k = later_keeps form w.so_far (command_of_in form B at c) (sym w.stands.begun ∙ b) u in
      turn_to c n next _ G e f z i g
      (same_site (subst (λ (H : List Bool). ProgressStands t H (after w.so_far (command_of_in form B at c))) (sym h) (lv F w.so_far w.stands u)) s.site k.0 (w.stands.site ∙ sym k.1))

-- the first command, which is a site where it breaks no rule
pub walk_first : (form : Form) (B : List ℕ) (F : List Bool) → F ≡ replicate flags_most false → (c : CodeCommand) (n next : ℕ) (t : CodeProgress) → whole
    (command_of_in form B 0 c) ≡ read_in form B 0 → n ≡ first_broken (first_rules form (command_of_in form B 0 c)) → n ≡ 0
    → next ≡ next_in form B 0 → ProgressStands t (replicate flags_most false) (after at_start (command_of_in form B 0 c)) → Walk form B next t F
unfolding rules_in walk_starts
walk_first form B F o c n next t e f z g st =
    subst (Walk form B next t) (sym o) (turn_to (walk_starts form B) c n next t _ e f z (first_goes form B c (sym f ∙ z)) g st)

pub first_broken_at : (form : Form) (B : List ℕ) (c : CodeCommand) (n : ℕ) → whole (command_of_in form B 0 c) ≡ read_in form B 0 → n ≡ first_broken
    (first_rules form (command_of_in form B 0 c)) → (n ≡ 0 → ⊥) → refusal n 0 ≡ verdict_in form B
unfolding rules_in walk_starts
first_broken_at form B c n e f h = turn_broken (walk_starts form B) (command_of_in form B 0 c) n e f h

-- ---- the form that the planner reads

pub whole_is : (B : List ℕ) (at : ℕ) {r : CodeRead} → read_of B at r ≡ read_at B at → {c : CodeCommand} → r ≡ Ok c → whole (command_of B at c) ≡ read_at B at
whole_is B at e f = whole_is_in new_form B at e f

pub at_end : (B : List ℕ) (at : ℕ) (c : CodeCommand) → is_end c ≡ true → command_of B at c ≡ end_model
at_end = at_end_in new_form

pub going : (B : List ℕ) (at : ℕ) (c : CodeCommand) → is_end c ≡ false → (goes_on (whole (command_of B at c)) ≡ true) × ((n : ℕ) (v : Verdict) → ended n at (command_of B at c) v ≡ v)
going = going_in new_form

pub forward : (B : List ℕ) (at : ℕ) (c : Command) (next : ℕ) → whole c ≡ read_at B at → next ≡ next_at B at → (next ≡ at + width (byte_at B at)) × (at < next) × (next ≤ length B)
forward = forward_in new_form

abbrev pub from_first : List ℕ → ℕ → ℕ → Read → List Placed
from_first = from_first_in new_form

pub opened : {A : Type 0} (f : List Placed → A) (v : A) (B : List ℕ) (at k : ℕ) → length B - at < k → f (readings_from B k at) ≡ v → (r : Read) → r ≡ read_at B at
    → (n : ℕ) × (length B - at < suc n) × (f (from_first B at n r) ≡ v)
opened = opened_in new_form
