-- "What a refusal gives", row by row: a type for each kind of outcome, a constructor for each of its rows, with when it is given: its own condition, and that no row before it in 01's order applies.
-- The crate `theorems` says that every outcome is one of them, and that no two are rows of the same call: "No refusal is given outside its row."
use Rattle.std.specs.Prelude.{◌≡◌, ◌⊎◌, true, false, ℕ, ◌+◌, ◌-◌, ◌*◌, ◌^◌, ◌≤◌, ◌<◌, T, ℤ, pos, nat_abs, length, get_or, take, drop, replicate, ◌≤ℤ◌}
use mathlib.Core.List.{List, ◌++◌, Memᴰ}
use Rattle.whole.specs.Numerator.{words}
use Rattle.theory.specs.Diagram.{Tree, zeros}
use Rattle.theory.specs.Computation.{solved, refused}
use Rattle.theory.specs.Form.{Form, new_form, levels_in, actions_in}
use Rattle.theory.specs.Command.{Command, site, push_leaf, push_condition, push_test, push_forbidden, name_action, end_model, whole, readings, byte_at, width_in, command_in, give, Slot}
use Rattle.theory.specs.Verdict.{Verdict, refusal, Site, Facts, Progress, at_start, after, top, reward_slot, chance_slot, level_slot, end_slot, name_slot}
use Rattle.theory.specs.Load.{site_at, model}
use Rattle.theory.specs.Peaks.{solved_peaks}
use Rattle.theory.specs.Solve.{solve_in, SolveOut, solved_nodes, solved_stages}
use Rattle.theory.specs.Value.{Asked, accepted, state_of, node_word, node_linear, high_of, low_of, numerator_of, taken, ValueOut, refused_value, answered}
use Rattle.theory.specs.Total.{none as no_total}
use Rattle.theory.specs.Process.{optimum, lowest_best}
use Rattle.theory.specs.Meaning.{State, process}
use Rattle.theory.specs.Staying.{In62, Stays}
use Rattle.theory.specs.Name.{Part}
use Rattle.theory.specs.Listing.{greatest_root, text, ListingOut}

-- ---- what 01 asks of a command

-- rules in their order: the number of each, and what it asks
pub data Rules : Type 1 where
  none : Rules
  asks : ℕ → Type 0 → Rules → Rules

-- each is kept
abbrev pub Keeps : Rules → Type 0
Keeps none = Unit {0}
Keeps (asks k P l) = P × Keeps l

-- k is the number of the first that is not
abbrev pub Breaks : Rules → ℕ → Type 0
Breaks none k = ⊥
Breaks (asks j P l) k = ((P → ⊥) × (j ≡ k)) ⊎ (P × Breaks l k)

-- x is a to b
abbrev pub Range : ℕ → ℕ → ℕ → Type 0
Range a b x = (a ≤ x) × (x ≤ b)

-- "Every reward, chance and next level is given": to each action
abbrev pub AllGiven : Site → List Slot → Type 0
AllGiven S G = (a : ℕ) → Range 1 S.actions a → Memᴰ (reward_slot a) G
    × (((k : ℕ) → Range 1 S.conditions k → Memᴰ (chance_slot a k) G) × ((i : ℕ) → Range 1 S.levels i → Memᴰ (level_slot a i) G))

-- "20 reward: action", "21 chance: action, condition", "22 next level: action, level": each is one of the site's; the end worth has none
abbrev pub OfSite : Site → Slot → Type 0
OfSite S g =
    (g ≡ end_slot)
    ⊎ (Range 1 S.actions g.action
    × (((g.command ≡ 0x20) × (g.index ≡ 0)) ⊎ (((g.command ≡ 0x21) × Range 1 S.conditions g.index) ⊎ ((g.command ≡ 0x22) × Range 1 S.levels g.index))))

-- "Next-step conditions stand only in next levels"; "The leaves of a chance are constants 0 to W"; a leaf "forbidden" is "allowed in rewards only"
abbrev pub MayBe : Slot → Facts → Type 0
MayBe g f = (T f.next_step → g.command ≡ 0x22) × ((g.command ≡ 0x21 → T f.weights) × (T f.forbids → g.command ≡ 0x20))

-- "site: m levels, n conditions (0 to 4), A actions, weight total W (1 to 100) .. It is first and only there."; m and A by the form, K5: "A as two bytes (1 to 400) and m up to 8"
abbrev pub first_asks_in : Form → Command → Rules
first_asks_in F (site m n a w) = asks 4 (Range 1 (levels_in F) m) (asks 4 (n ≤ 4) (asks 4 (Range 1 (actions_in F) a) (asks 4 (Range 1 100 w) none)))
first_asks_in F (push_leaf p) = asks 1 ⊥ none
first_asks_in F (push_condition k) = asks 1 ⊥ none
first_asks_in F (push_test p) = asks 1 ⊥ none
first_asks_in F push_forbidden = asks 1 ⊥ none
first_asks_in F (give g) = asks 1 ⊥ none
first_asks_in F (name_action a b) = asks 1 ⊥ none
first_asks_in F end_model = asks 1 ⊥ none

-- of the commands behind it, with the stack K and what has been given, G: "1, operands 4, then 5, 6, diagram 4"; at the end 7
abbrev pub later_asks : Site → List Facts → List Slot → Command → Rules
later_asks S K G (site m n a w) = asks 1 ⊥ none
-- "Coefficients beyond level m are zero"; "or a 33rd entry"
later_asks S K G (push_leaf p) = asks 4 (T (zeros (drop S.levels p.coeffs))) (asks 5 (length K < 32) none)
-- "one byte, 1 to n for a condition now, 5 to 4+n for the next step's"; "stack short"
later_asks S K G (push_condition k) = asks 4 (Range 1 S.conditions k ⊎ Range 5 (4 + S.conditions) k) (asks 5 (2 ≤ length K) none)
-- "A test has some coefficient not zero."
later_asks S K G (push_test p) = asks 4 (T (zeros (drop S.levels p.coeffs))) (asks 4 (T (zeros p.coeffs) → ⊥) (asks 5 (2 ≤ length K) none))
-- "or a 33rd entry"
later_asks S K G push_forbidden = asks 5 (length K < 32) none
-- "6: given twice"
later_asks S K G (give g) = asks 4 (OfSite S g) (asks 5 (1 ≤ length K) (asks 6 (Memᴰ g G → ⊥) (asks 4 (MayBe g (top K)) none)))
-- "30 name: action, 16 bytes, each 20 to 7E. Optional; at most one per action."
later_asks S K G (name_action a b) =
    asks 4 (Range 1 S.actions a) (asks 4 ((x : ℕ) → Memᴰ x b → Range 0x20 0x7e x) (asks 6 (Memᴰ (name_slot a) G → ⊥) none))
-- "7: at end, something missing or stack not empty"
later_asks S K G end_model = asks 7 (AllGiven S G) (asks 7 (length K ≡ 0) none)

-- of a command, first or later
abbrev pub asks_in : Form → Progress → Command → Rules
asks_in F s c = elim s.begun [ true ↦ later_asks s.site s.stack s.given c | false ↦ first_asks_in F c ]

-- ---- numbers 1 to 8, and those of every call that takes a model

module _ (F : Form) (B : List ℕ) where
  -- neither 3 nor 2 at an offset
  pub record WholeIn (at : ℕ) : Type 0 where
    pub known : 1 ≤ width_in F (byte_at B at)
    pub inside : at + width_in F (byte_at B at) ≤ length B

  -- "the model by offset": a command comes at an offset where each before it is whole, keeps its rules and is not the end
  pub data ComesIn : ℕ → Progress → Type 0 where
    comes_first : ComesIn 0 at_start
    comes_next : {at : ℕ} {s : Progress} → ComesIn at s → WholeIn at → Keeps (asks_in F s (command_in F B at)) → (command_in F B at ≡ end_model → ⊥)
        → ComesIn (at + width_in F (byte_at B at)) (after s (command_in F B at))

  -- an end command comes at an offset and keeps its rules
  pub record EndsAtIn (at : ℕ) : Type 0 where
    pub so_far : Progress
    pub comes : ComesIn at so_far
    pub whole : WholeIn at
    pub end : command_in F B at ≡ end_model
    pub keeps : Keeps (asks_in F so_far end_model)

  pub data VerdictRowIn : Verdict → Type 0 where
    -- "Success has number and place 0."
    verdict_0 : {at : ℕ} → EndsAtIn at → at + 1 ≡ length B → VerdictRowIn (refusal 0 0)
    -- "3: unknown byte"
    verdict_3 : {at : ℕ} {s : Progress} → ComesIn at s → at < length B → width_in F (byte_at B at) ≡ 0 → VerdictRowIn (refusal 3 at)
    -- "2: bytes end before it is whole"
    verdict_2 : {at : ℕ} {s : Progress} → ComesIn at s → at < length B → 1 ≤ width_in F (byte_at B at) → length B < at + width_in F (byte_at B at) → VerdictRowIn (refusal 2 at)
    -- "or no end command (then at the length)"
    verdict_2_end : {s : Progress} → ComesIn (length B) s → VerdictRowIn (refusal 2 (length B))
    -- 1, 4, 5, 6, 7: the first rule that it breaks
    verdict_1_7 : {k at : ℕ} {s : Progress} → ComesIn at s → WholeIn at → Breaks (asks_in F s (command_in F B at)) k → VerdictRowIn (refusal k at)
    -- "offset of the extra byte .. 8: bytes after end"
    verdict_8 : {at : ℕ} → EndsAtIn at → at + 1 < length B → VerdictRowIn (refusal 8 (at + 1))

-- ---- the form that the planner reads

abbrev pub first_asks : Command → Rules
first_asks = first_asks_in new_form

abbrev pub asks_of : Progress → Command → Rules
asks_of = asks_in new_form

abbrev pub Whole : List ℕ → ℕ → Type 0
Whole = WholeIn new_form

abbrev pub Comes : List ℕ → ℕ → Progress → Type 0
Comes = ComesIn new_form

abbrev pub EndsAt : List ℕ → ℕ → Type 0
EndsAt = EndsAtIn new_form

abbrev pub VerdictRow : List ℕ → Verdict → Type 0
VerdictRow = VerdictRowIn new_form

module _ (B : List ℕ) (steps size : ℕ) where
  -- neither 10 nor 9 nor a number of the model's own
  pub record Admitted : Type 0 where
    pub eight : size ≡ 8
    pub bytes : length B ≤ 262144
    pub horizon : Range 1 8 steps
    pub own : VerdictRow B (refusal 0 0)

  -- number and place of what comes before the rows that a call has of its own
  pub data EarlyRow : ℕ → ℕ → Type 0 where
    -- "10: stage words not eight, or model above 262,144 bytes"
    early_10 : (size ≡ 8 → length B ≤ 262144 → ⊥) → EarlyRow 10 0
    -- "9: horizon or steps not 1 to 8"
    early_9 : size ≡ 8 → length B ≤ 262144 → (Range 1 8 steps → ⊥) → EarlyRow 9 0
    -- the model's own
    early_1_8 : {k p : ℕ} → size ≡ 8 → length B ≤ 262144 → Range 1 8 steps → VerdictRow B (refusal k p) → 1 ≤ k → EarlyRow k p

-- ---- solve

-- "What the tables hold, N, is the least of node words ÷ 12, work words ÷ 8 and 65,535, rounded down."
pub record Room (nodes work N : ℕ) : Type 0 where
  pub in_nodes : N * 12 ≤ nodes
  pub in_work : N * 8 ≤ work
  pub most : N ≤ 65535
  pub no_more : (k : ℕ) → k * 12 ≤ nodes → k * 8 ≤ work → k ≤ 65535 → k ≤ N

-- "It refuses another length with 10": beside the other 10s
pub record AdmittedToSolve (B : List ℕ) (H size peaks : ℕ) : Type 0 where
  pub admitted : Admitted B H size
  pub words : peaks ≡ 401

pub data EarlySolveRow (B : List ℕ) (H size peaks : ℕ) : ℕ → ℕ → Type 0 where
  peaks_10 : (peaks ≡ 401 → ⊥) → EarlySolveRow B H size peaks 10 0
  early_as : {k p : ℕ} → peaks ≡ 401 → EarlyRow B H size k p → EarlySolveRow B H size peaks k p

-- the tables and the peaks after solving; "last 11 or 12": what is met first is FirstMet of Demands
pub data SolveRow (B : List ℕ) (H : ℕ) (nodes : List ℤ) (stages work peaks : List ℕ) : SolveOut → Type 0 where
  -- solved: every lent word is settled, and as many are left as were lent
  solve_0 : {N : ℕ} {S : List Tree} {peak : ℕ} → AdmittedToSolve B H (length stages) (length peaks) → Room (length nodes) (length work) N → solve_in N B H ≡ solved S peak
      → length (solved_nodes (length nodes) S) ≡ length nodes → length (solved_stages S) ≡ length stages → length (solved_peaks B H) ≡ length peaks
      → SolveRow B H nodes stages work peaks (record {
        number = 0;
        place = 0;
        peak = peak;
        nodes = solved_nodes (length nodes) S;
        stages = solved_stages S;
        work = replicate (length work) 0;
        peaks = solved_peaks B H;
      })
  -- 1 to 10: "all untouched"; "All else that a refused call returns is zero."
  solve_1_10 : {k p : ℕ} → EarlySolveRow B H (length stages) (length peaks) k p
      → SolveRow B H nodes stages work peaks (record { number = k; place = p; peak = 0; nodes = nodes; stages = stages; work = work; peaks = peaks })
  -- "stage, 0 while loading": 11 or 12, "tables, stages, work all zero", and the peaks
  solve_11_12 : {N k h : ℕ} → AdmittedToSolve B H (length stages) (length peaks) → Room (length nodes) (length work) N → solve_in N B H ≡ refused k h → (k ≡ 11) ⊎ (k ≡ 12) → h ≤ H
      → SolveRow B H nodes stages work peaks (record {
        number = k;
        place = h;
        peak = 0;
        nodes = replicate (length nodes) (pos 0);
        stages = replicate (length stages) 0;
        work = replicate (length work) 0;
        peaks = replicate (length peaks) 0;
      })

-- ---- value

-- z is 1 to n
abbrev pub Among : ℕ → ℤ → Type 0
Among n z = (pos 1 ≤ℤ z) × (z ≤ℤ pos n)

-- 13 does not apply: "D < 1, mask bit n or above, nonzero numerator beyond m"
pub record StateFits (m n : ℕ) (q : Asked) : Type 0 where
  pub den : pos 1 ≤ℤ q.den
  pub mask : q.mask < 2 ^ n
  pub beyond : (i : ℕ) → m ≤ i → get_or q.nums i (pos 0) ≡ pos 0

-- node r of the words W, with n conditions and A actions
module _ (n A : ℕ) (W : List ℤ) (r : ℕ) where
  -- not "a number outside ±(2⁶² − 1)": eight coefficients and the constant
  abbrev pub NumbersFit : Type 0
  NumbersFit = (i : ℕ) → Range 1 9 i → In62 (node_word W r i)

  -- not "a branch .. not from 1 to below its node"
  abbrev pub BranchesFit : Type 0
  BranchesFit = Among (r - 1) (high_of W r) × Among (r - 1) (low_of W r)

  -- not "a kind not 0 to 2", nor 3, "or a nonzero word where the layout has zero .., a condition not 1 to n or an action not 1 to A"
  pub data KindFits : Type 0 where
    fits_leaf : node_word W r 0 ≡ pos 0 → NumbersFit → Among A (high_of W r) → low_of W r ≡ pos 0 → KindFits
    fits_condition : node_word W r 0 ≡ pos 1 → Among n (node_word W r 1) → ((i : ℕ) → Range 2 9 i → node_word W r i ≡ pos 0) → BranchesFit → KindFits
    fits_test : node_word W r 0 ≡ pos 2 → NumbersFit → BranchesFit → KindFits
    fits_none : node_word W r 0 ≡ pos 3 → ((i : ℕ) → Range 1 11 i → node_word W r i ≡ pos 0) → KindFits

  -- 14 does not apply: nor is it "outside the table"
  pub record NodeFits : Type 0 where
    pub inside : r * 12 ≤ length W
    pub kind : KindFits

-- the nodes "on the walk" from a root: at one that fits and is no leaf it goes on
pub data OnWalk (n A : ℕ) (q : Asked) (W : List ℤ) (root : ℕ) : ℕ → Type 0 where
  first_met : OnWalk n A q W root root
  then_met : {r : ℕ} → OnWalk n A q W root r → NodeFits n A W r → (node_word W r 0 ≡ pos 0 → ⊥) → (node_word W r 0 ≡ pos 3 → ⊥) → OnWalk n A q W root (taken n q W r)

-- a value and an action: "then .. 13, 15, 14"
module _ (B : List ℕ) (nodes : List ℤ) (stages : List ℕ) (steps : ℕ) (q : Asked) where
  -- no early row, and not 13
  pub record Stated : Type 0 where
    pub early : Admitted B steps (length stages)
    pub state : StateFits (site_at B).levels (site_at B).conditions q

  -- the stage word that is read
  abbrev pub root_word : ℕ
  root_word = get_or stages (steps - 1) 0

  -- a node on the walk from it
  abbrev pub Met : ℕ → Type 0
  Met r = OnWalk (site_at B).conditions (site_at B).actions q nodes root_word r

  pub data ValueRow : ValueOut → Type 0 where
    -- read: the walk ends at a leaf, its action one of the model's
    value_0 : {r : ℕ} → Stated → 1 ≤ root_word → Met r → NodeFits (site_at B).conditions (site_at B).actions nodes r → node_word nodes r 0 ≡ pos 0
        → Range 1 (site_at B).actions (nat_abs (high_of nodes r))
        → ValueRow (record { number = 0; place = 0; action = nat_abs (high_of nodes r); numerator = words (numerator_of q (node_linear nodes r)) })
    -- read: the walk ends at a leaf "none", which "reads as numerator 0, action 0"
    value_none : {r : ℕ} → Stated → 1 ≤ root_word → Met r → NodeFits (site_at B).conditions (site_at B).actions nodes r → node_word nodes r 0 ≡ pos 3
        → ValueRow (answered no_total 0)
    value_1_10 : {k p : ℕ} → EarlyRow B steps (length stages) k p → ValueRow (refused_value k p)
    -- "13: D < 1, mask bit n or above, nonzero numerator beyond m"
    value_13 : Admitted B steps (length stages) → (StateFits (site_at B).levels (site_at B).conditions q → ⊥) → ValueRow (refused_value 13 0)
    -- "15: stage word 0"
    value_15 : Stated → root_word ≡ 0 → ValueRow (refused_value 15 0)
    -- "14: a node on the walk .. is outside the table, has a kind not 0 to 2 .."
    value_14 : {r : ℕ} → Stated → 1 ≤ root_word → Met r → (NodeFits (site_at B).conditions (site_at B).actions nodes r → ⊥) → ValueRow (refused_value 14 0)

-- ---- plain working

-- the same by plain working, which is lent no stage words: "then .. 13 ..; last 11"
module _ (B : List ℕ) (steps : ℕ) (q : Asked) where
  -- 13 does not apply, by its test, which makes of q the state that is asked for
  abbrev pub Accepts : Type 0
  Accepts = T (accepted (site_at B).levels (site_at B).conditions q)

  abbrev pub asked_state : Accepts → State
  asked_state t = state_of (site_at B).levels (site_at B).conditions q t

  pub data PlainRow : ValueOut → Type 0 where
    -- answered: no number leaves its limits; the action is one of the model's, where there is a value
    plain_0 : Admitted B steps 8 → (t : Accepts) → Stays (model B) steps (asked_state t) → Range 1 (site_at B).actions (lowest_best (process (model B)) steps (asked_state t))
        → PlainRow (answered (optimum (process (model B)) steps (asked_state t)) (lowest_best (process (model B)) steps (asked_state t)))
    plain_1_10 : {k p : ℕ} → EarlyRow B steps 8 k p → PlainRow (refused_value k p)
    -- "13: D < 1, mask bit n or above, nonzero numerator beyond m"
    plain_13 : Admitted B steps 8 → (StateFits (site_at B).levels (site_at B).conditions q → ⊥) → PlainRow (refused_value 13 0)
    -- "stage, 0 .. in plain working": 11
    plain_11 : Admitted B steps 8 → (t : Accepts) → (Stays (model B) steps (asked_state t) → ⊥) → PlainRow (refused_value 11 0)

-- ---- name

-- number and place of a name, which takes neither steps nor stage words: never 9
pub data NameRow (B : List ℕ) (a : ℕ) : Verdict → Type 0 where
  name_0 : Admitted B 1 8 → Range 1 (site_at B).actions a → NameRow B a (refusal 0 0)
  name_1_10 : {k p : ℕ} → EarlyRow B 1 8 k p → NameRow B a (refusal k p)
  -- "16: action not 1 to A"
  name_16 : Admitted B 1 8 → (Range 1 (site_at B).actions a → ⊥) → NameRow B a (refusal 16 0)

-- "An action's name is that part of the model itself, without its trailing spaces; empty if it has none or the call is refused"
pub data NamePartRow (B : List ℕ) (a : ℕ) : Part → Type 0 where
  -- the 16 bytes of the command that names it, behind its byte and its action, are the name and then spaces; it does not end in one
  name_given : {at size : ℕ} {t : List ℕ} → NameRow B a (refusal 0 0) → Memᴰ (record { at = at; read = whole (name_action a t) }) (readings B)
      → size ≤ 16 → take size (drop (at + 3) B) ++ replicate (16 - size) 0x20 ≡ t → (size ≡ 0) ⊎ (get_or (drop (at + 3) B) (size - 1) 0 ≡ 0x20 → ⊥)
      → NamePartRow B a (record { start = at + 3; size = size })
  name_empty : NameRow B a (refusal 0 0) → ((at : ℕ) (t : List ℕ) → Memᴰ (record { at = at; read = whole (name_action a t) }) (readings B) → ⊥)
      → NamePartRow B a (record { start = 0; size = 0 })
  name_refused : {v : Verdict} → NameRow B a v → 1 ≤ v.number → NamePartRow B a (record { start = 0; size = 0 })

-- ---- listing

-- a listing and its buffer: "then .. 15, 14, 17"
module _ (B : List ℕ) (H : ℕ) (nodes : List ℤ) (stages buffer : List ℕ) (at : ℕ) where
  -- no early row, and not 15
  pub record Rooted : Type 0 where
    pub early : Admitted B H (length stages)
    pub roots : (h : ℕ) → Range 1 H h → 1 ≤ get_or stages (h - 1) 0

  -- .. nor 14
  pub record Tabled : Type 0 where
    pub rooted : Rooted
    pub rows : (r : ℕ) → Range 1 (greatest_root H stages) r → NodeFits (site_at B).conditions (site_at B).actions nodes r

  pub data ListingRow : ListingOut → Type 0 where
    -- written: the text from the stated place on, "touches nothing before it", nor behind the text
    listing_0 : {size : ℕ} {after : List ℕ} → Tabled → size ≡ length (text (site_at B) H nodes stages) → at + size ≤ length buffer → length after ≡ length buffer
        → take at after ≡ take at buffer → take size (drop at after) ≡ text (site_at B) H nodes stages → drop (at + size) after ≡ drop (at + size) buffer
        → ListingRow (record { number = 0; place = 0; size = size; buffer = after })
    listing_1_10 : {k p : ℕ} → EarlyRow B H (length stages) k p → ListingRow (record { number = k; place = p; size = 0; buffer = buffer })
    -- "15: stage word 0"
    listing_15 : {h : ℕ} → Admitted B H (length stages) → Range 1 H h → get_or stages (h - 1) 0 ≡ 0 → ListingRow (record { number = 15; place = 0; size = 0; buffer = buffer })
    -- "14: a node .. (in a listing, any up to the greatest root)"
    listing_14 : {r : ℕ} → Rooted → Range 1 (greatest_root H stages) r → (NodeFits (site_at B).conditions (site_at B).actions nodes r → ⊥)
        → ListingRow (record { number = 14; place = 0; size = 0; buffer = buffer })
    -- "17: buffer too short, or the stated place past its end"
    listing_17 : Tabled → length buffer < at + length (text (site_at B) H nodes stages) → ListingRow (record { number = 17; place = 0; size = 0; buffer = buffer })
