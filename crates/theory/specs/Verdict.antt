-- "The site model" and "What a refusal gives", numbers 1 to 8: the first rule that a model breaks, and its place.
use Rattle.std.specs.Prelude.{Bool, true, false, not, ◌&&◌, List, [], ◌∷◌, ◌++◌, map, ℕ, zero, suc, ◌+◌, ◌-◌, eqb, ltb, leb, pos, length, drop}
use Rattle.std.specs.Int.Signed.{le_z}
use Rattle.whole.specs.Cases.{if}
use Rattle.theory.specs.Widths.{conditions_most, weights_most, stack_most}
use Rattle.theory.specs.Form.{Form, new_form, levels_in, actions_in}
use Rattle.theory.specs.Diagram.{Linear, zeros}
use Rattle.theory.specs.Valid.{all, among}
use Rattle.theory.specs.Command.{Command, site, push_leaf, push_condition, push_test, push_forbidden, give, Slot, name_action, end_model, whole, unknown, short, Placed, readings_in}

-- one or the other
abbrev pub or : Bool → Bool → Bool
or a b = if a true b

-- m, n, A and W
pub record Site : Type 0 where
  pub levels : ℕ
  pub conditions : ℕ
  pub actions : ℕ
  pub weights : ℕ

-- what is judged of a diagram as written: "These rules judge each leaf and condition as written, also one that loading would drop."
pub record Facts : Type 0 where
  pub next_step : Bool
  pub weights : Bool
  pub forbids : Bool

-- the commands so far: whether the site is there, the stack (its top first) and what has been given
pub record Progress : Type 0 where
  pub begun : Bool
  pub site : Site
  pub stack : List Facts
  pub given : List Slot

-- "20 reward: action"
abbrev pub reward_slot : ℕ → Slot
reward_slot a = record { command = 0x20; action = a; index = 0 }

-- "21 chance: action, condition"
abbrev pub chance_slot : ℕ → ℕ → Slot
chance_slot a k = record { command = 0x21; action = a; index = k }

-- "22 next level: action, level"
abbrev pub level_slot : ℕ → ℕ → Slot
level_slot a i = record { command = 0x22; action = a; index = i }

-- "23 takes one diagram off the stack as the end worth, with no operand"
abbrev pub end_slot : Slot
end_slot = record { command = 0x23; action = 0; index = 0 }

-- "30 name: action"
abbrev pub name_slot : ℕ → Slot
name_slot a = record { command = 0x30; action = a; index = 0 }

-- the same command, action and index
unfoldable pub same_slot : Slot → Slot → Bool
same_slot s t = eqb s.command t.command && (eqb s.action t.action && eqb s.index t.index)

-- "given twice": a slot is among those given
unfoldable pub has_slot : Slot → List Slot → Bool
has_slot s [] = false
has_slot s (t ∷ l) = or (same_slot s t) (has_slot s l)

-- ---- a rule, the number that breaking it has, and the first that is broken

-- whether a rule is broken, and the number that it has
pub record Rule : Type 0 where
  pub broken : Bool
  pub number : ℕ

-- a rule with number k, broken where b
abbrev pub rule : ℕ → Bool → Rule
rule k b = record { broken = b; number = k }

-- the number of the first that is broken, 0 where none is
unfoldable pub first_broken : List Rule → ℕ
first_broken [] = 0
first_broken (r ∷ l) = if r.broken r.number (first_broken l)

-- ---- operands

-- "Coefficients beyond level m are zero."
unfoldable pub beyond : ℕ → Linear → Bool
beyond m p = not (zeros (drop m p.coeffs))

-- "1 to n for a condition now, 5 to 4+n for the next step's"
unfoldable pub next_condition : ℕ → ℕ → Bool
next_condition n k = ltb conditions_most k && among n (k - conditions_most)

-- "each 20 to 7E"
unfoldable pub printable : ℕ → Bool
printable b = leb 0x20 b && leb b 0x7e

-- a constant 0 to W
unfoldable pub is_weight : ℕ → Linear → Bool
is_weight W p = zeros p.coeffs && (le_z (pos 0) p.const && le_z p.const (pos W))

-- "20 reward: action", "21 chance: action, condition", "22 next level: action, level": each is one of the site's; the end worth has none
unfoldable pub of_site : Site → Slot → Bool
of_site S g = or (same_slot g end_slot)
    (among S.actions g.action
    && (if (eqb g.command 0x20) (eqb g.index 0) (if (eqb g.command 0x21) (among S.conditions g.index) (eqb g.command 0x22 && among S.levels g.index))))

-- ---- the stack

-- the top of the stack
abbrev pub top : List Facts → Facts
top [] = record { next_step = false; weights = false; forbids = false }
top (f ∷ l) = f

-- "Next-step conditions stand only in next levels"; "The leaves of a chance are constants 0 to W"; a forbidden leaf is "allowed in rewards only"
unfoldable pub may_be : Slot → Facts → Bool
may_be g f =
    or (eqb g.command 0x22) (not f.next_step)
    && (or (not (eqb g.command 0x21)) f.weights && or (eqb g.command 0x20) (not f.forbids))

-- "takes low, then high, off the stack and pushes the choice"
unfoldable pub joined : Bool → List Facts → List Facts
joined later [] = []
joined later (l ∷ []) = []
joined later (l ∷ h ∷ r) = record { next_step = or later (or h.next_step l.next_step); weights = h.weights && l.weights; forbids = or h.forbids l.forbids } ∷ r

-- ---- what must be given: "Every reward, chance and next level is given exactly once."

-- the k numbers from a on
unfoldable pub from_to : ℕ → ℕ → List ℕ
from_to a zero = []
from_to a (suc k) = a ∷ from_to (suc a) k

-- what some actions must be given
unfoldable pub wanted_by : Site → List ℕ → List Slot
wanted_by S [] = []
wanted_by S (a ∷ l) = reward_slot a ∷ (map (chance_slot a) (from_to 1 S.conditions) ++ (map (level_slot a) (from_to 1 S.levels) ++ wanted_by S l))

-- what a site's actions must be given
unfoldable pub wanted : Site → List Slot
wanted S = wanted_by S (from_to 1 S.actions)

-- ---- the rules of a command, "operands 4, then 5, 6, diagram 4"

-- "m levels (1 to 4), n conditions (0 to 4), A actions (1 to 8), weight total W (1 to 100)"; from K5 on m to 8 and A to 400
unfoldable pub site_rules : Form → Site → List Rule
site_rules F S =
    rule 4 (not (among (levels_in F) S.levels)) ∷ rule 4 (ltb conditions_most S.conditions)
    ∷ rule 4 (not (among (actions_in F) S.actions)) ∷ rule 4 (not (among weights_most S.weights)) ∷ []

-- the site of four operands
abbrev pub site_of : ℕ → ℕ → ℕ → ℕ → Site
site_of m n a w = record { levels = m; conditions = n; actions = a; weights = w }

-- "site .. is first and only there": the rules of the first command
unfoldable pub first_rules : Form → Command → List Rule
first_rules F (site m n a w) = site_rules F (site_of m n a w)
first_rules F (push_leaf p) = rule 1 true ∷ []
first_rules F (push_condition k) = rule 1 true ∷ []
first_rules F (push_test p) = rule 1 true ∷ []
first_rules F push_forbidden = rule 1 true ∷ []
first_rules F (give g) = rule 1 true ∷ []
first_rules F (name_action a b) = rule 1 true ∷ []
first_rules F end_model = rule 1 true ∷ []

-- the rules of a later command, over the site, the stack and what has been given
unfoldable pub later_rules : Site → List Facts → List Slot → Command → List Rule
later_rules S K G (site m n a w) = rule 1 true ∷ []
later_rules S K G (push_leaf p) = rule 4 (beyond S.levels p) ∷ rule 5 (leb stack_most (length K)) ∷ []
later_rules S K G (push_condition k) = rule 4 (not (or (among S.conditions k) (next_condition S.conditions k))) ∷ rule 5 (ltb (length K) 2) ∷ []
later_rules S K G (push_test p) = rule 4 (beyond S.levels p) ∷ rule 4 (zeros p.coeffs) ∷ rule 5 (ltb (length K) 2) ∷ []
later_rules S K G push_forbidden = rule 5 (leb stack_most (length K)) ∷ []
later_rules S K G (give g) =
    rule 4 (not (of_site S g)) ∷ rule 5 (ltb (length K) 1) ∷ rule 6 (has_slot g G) ∷ rule 4 (not (may_be g (top K))) ∷ []
later_rules S K G (name_action a b) = rule 4 (not (among S.actions a)) ∷ rule 4 (not (all printable b)) ∷ rule 6 (has_slot (name_slot a) G) ∷ []
later_rules S K G end_model = rule 7 (not (all (λ s. has_slot s G) (wanted S))) ∷ rule 7 (ltb 0 (length K)) ∷ []

-- the rules of a command, first or later
unfoldable pub rules_in : Form → Progress → Command → List Rule
rules_in F s c = if s.begun (later_rules s.site s.stack s.given c) (first_rules F c)

-- ---- what a command that breaks none leaves

-- another stack
abbrev pub with_stack : Progress → List Facts → Progress
with_stack s K = record { begun = s.begun; site = s.site; stack = K; given = s.given }

-- another stack, and one slot more
abbrev pub with_slot : Progress → List Facts → Slot → Progress
with_slot s K g = record { begun = s.begun; site = s.site; stack = K; given = g ∷ s.given }

-- what the commands so far come to with one more
unfoldable pub after : Progress → Command → Progress
after s (site m n a w) = record { begun = true; site = site_of m n a w; stack = []; given = [] }
after s (push_leaf p) = with_stack s (record { next_step = false; weights = is_weight s.site.weights p; forbids = false } ∷ s.stack)
after s (push_condition k) = with_stack s (joined (ltb conditions_most k) s.stack)
after s (push_test p) = with_stack s (joined false s.stack)
after s push_forbidden = with_stack s (record { next_step = false; weights = false; forbids = true } ∷ s.stack)
after s (give g) = with_slot s (drop 1 s.stack) g
after s (name_action a b) = with_slot s s.stack (name_slot a)
after s end_model = s

-- ---- the verdict: number and place, 0 and 0 where the model is accepted

-- number and place
pub record Verdict : Type 0 where
  pub number : ℕ
  pub place : ℕ

-- a refusal with number k at place p
abbrev pub refusal : ℕ → ℕ → Verdict
refusal k p = record { number = k; place = p }

-- "8: bytes after end", at the offset of the extra byte
unfoldable pub ended : ℕ → ℕ → Command → Verdict → Verdict
ended size at end_model rest = if (ltb (at + 1) size) (refusal 8 (at + 1)) (refusal 0 0)
ended size at (site m n a w) rest = rest
ended size at (push_leaf p) rest = rest
ended size at (push_condition k) rest = rest
ended size at (push_test p) rest = rest
ended size at push_forbidden rest = rest
ended size at (give g) rest = rest
ended size at (name_action a b) rest = rest

-- "the model by offset": the first command at fault decides
unfoldable pub judged_in : Form → ℕ → Progress → List Placed → Verdict
judged_in F size s [] = refusal 0 0
judged_in F size s (x ∷ l) = elim x.read [
  | whole c ↦ (let k = first_broken (rules_in F s c) in if (eqb k 0) (ended size x.at c (judged_in F size (after s c) l)) (refusal k x.at))
  | unknown ↦ refusal 3 x.at
  | short ↦ refusal 2 x.at
]

-- no site yet
abbrev pub no_site : Site
no_site = site_of 0 0 0 0

-- before the first command
abbrev pub at_start : Progress
at_start = record { begun = false; site = no_site; stack = []; given = [] }

-- the verdict on some bytes
unfoldable pub verdict_in : Form → List ℕ → Verdict
verdict_in F B = judged_in F (length B) at_start (readings_in F B)

-- ---- the form that the planner reads

abbrev pub rules_of : Progress → Command → List Rule
rules_of = rules_in new_form

abbrev pub judged : ℕ → Progress → List Placed → Verdict
judged = judged_in new_form

abbrev pub verdict : List ℕ → Verdict
verdict = verdict_in new_form
