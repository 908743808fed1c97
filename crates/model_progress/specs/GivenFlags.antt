-- The code keeps what is given in flags at fixed places; document 01's definitions keep a list.
use Rattle.std.specs.Prelude.{◌≡◌, Bool, true, false, ◌&&◌, List, [], ◌∷◌, ℕ, ◌+◌, ◌*◌, ◌≤◌, T, eqb, length, get_or, set}
use Rattle.whole.specs.Cases.{if}
use Rattle.theory.specs.Widths.{levels_most, conditions_most, actions_most, stack_most, flags_most}
use Rattle.theory.specs.Valid.{all, among}
use Rattle.theory.specs.Command.{Command, Slot}
use Rattle.theory.specs.Verdict.{Site, site_of, reward_slot, chance_slot, level_slot, end_slot, name_slot, has_slot, Progress, rule, Rule, first_broken, rules_in, later_rules, after, from_to}
use Rattle.model_command.specs.declared.Command.{Command as CodeCommand}
use Rattle.model_command.specs.declared.Command.TheVariants.{Site as SiteBy, Leaf, Condition, Test, Forbidden, Give, Name, End}
use Rattle.theory.specs.Form.{Form}
use Rattle.model_facts.specs.Seen.{seen}
use Rattle.model_command.specs.CursorReadings.{command_of_in}
use Rattle.model_progress.specs.declared.Site.{Site as CodeSite}
use Rattle.model_progress.specs.declared.Progress.{Progress as CodeProgress}

abbrev pub site_as : CodeSite → Site
site_as s = site_of s.levels s.conditions s.actions s.weights

-- the place of a flag: the end worth's, then rows of the actions, rewards in row 0, then chances, next levels and names
abbrev pub place : ℕ → ℕ → ℕ → ℕ
place base i a = (base + i) * actions_most + a

-- the row of names
abbrev pub names_row : ℕ
names_row = 1 + conditions_most + levels_most

-- the base of what a command gives
unfoldable pub base_of : ℕ → ℕ
base_of c = if (eqb c 0x22) conditions_most 0

-- the place of what is given
abbrev pub flag_of : Slot → ℕ
flag_of g = place (base_of g.command) g.index g.action

-- what can be given, and its flag's place
pub data Slotted : Slot → ℕ → Type 0 where
  for_reward : {a : ℕ} → T (among actions_most a) → Slotted (reward_slot a) (place 0 0 a)
  for_chance : {a k : ℕ} → T (among actions_most a) → T (among conditions_most k) → Slotted (chance_slot a k) (place 0 k a)
  for_level : {a i : ℕ} → T (among actions_most a) → T (among levels_most i) → Slotted (level_slot a i) (place conditions_most i a)
  for_name : {a : ℕ} → T (among actions_most a) → Slotted (name_slot a) (place names_row 0 a)
  for_end : Slotted end_slot (place 0 0 0)

-- whether all that a site asks for is flagged
unfoldable pub row_given : List Bool → ℕ → ℕ → ℕ → Bool
row_given F base a n = all (λ i. get_or F (place base i a) false) (from_to 1 n)

unfoldable pub action_given : List Bool → Site → ℕ → Bool
action_given F S a = get_or F (place 0 0 a) false && (row_given F 0 a S.conditions && row_given F conditions_most a S.levels)

unfoldable pub all_given : List Bool → Site → Bool
all_given F S = all (action_given F S) (from_to 1 S.actions)

-- the flags behind a command
unfoldable pub noted : CodeCommand → List Bool → List Bool
noted (SiteBy m n a w) F = F
noted Leaf F = F
noted (Condition k) F = F
noted Test F = F
noted Forbidden F = F
noted (Give c a i) F = set F (flag_of (record { command = c; action = a; index = i })) true
noted (Name a) F = set F (place names_row 0 a) true
noted End F = F

-- what the code keeps, with the flags F, stands for the commands so far
pub record ProgressStands (s : CodeProgress) (F : List Bool) (p : Progress) : Type 0 where
  pub begun : s.begun ≡ p.begun
  pub site : site_as s.site ≡ p.site
  pub stack : seen s.seen ≡ p.stack
  pub given : {g : Slot} {i : ℕ} → Slotted g i → has_slot g p.given ≡ get_or F i false
  pub none : p.begun ≡ false → p.given ≡ []
  pub flags : length F ≡ flags_most
  pub levels : p.site.levels ≤ levels_most
  pub conditions : p.site.conditions ≤ conditions_most
  pub actions : p.site.actions ≤ actions_most
  pub sized : length p.stack ≤ stack_most

-- k is the number of the first rule that a command breaks, 0 where it breaks none
abbrev pub BreaksRule : Form → CodeProgress → List Bool → Command → ℕ → Type 0
BreaksRule form s F c k = (p : Progress) → ProgressStands s F p → k ≡ first_broken (rules_in form p c)

-- the same of a command that is not the first
abbrev pub Later : CodeProgress → List Bool → Command → ℕ → Type 0
Later s F c k = (p : Progress) → ProgressStands s F p → k ≡ first_broken (later_rules p.site p.stack p.given c)

-- r is what a command at an offset leaves that breaks none
abbrev pub Leaves : Form → List ℕ → ℕ → CodeProgress → CodeCommand → CodeProgress → Type 0
Leaves form B at s c r = (F : List Bool) (p : Progress) → ProgressStands s F p → first_broken (rules_in form p (command_of_in form B at c)) ≡ 0 → ProgressStands r (noted c F) (after p (command_of_in form B at c))

-- "operands 4, then 5, 6, diagram 4": the rules of a command in their order
abbrev pub in_order : Bool → Bool → Bool → Bool → List Rule
in_order operand stack twice diagram = rule 4 operand ∷ rule 5 stack ∷ rule 6 twice ∷ rule 4 diagram ∷ []
