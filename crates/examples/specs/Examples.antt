-- The cases marked ★ in document 01, together as one table, and the pond's listing: by computation, from the bytes on.
use Rattle.std.specs.Prelude.{Bool, true, false, ◌&&◌, List, [], ◌∷◌, ◌++◌, ℕ, zero, suc, ◌+◌, ◌-◌, ◌*◌, ◌/◌, ◌%◌, ◌<◌, T, eqb, ℤ, pos, negsuc, length, replicate, take}
use Rattle.std.proofs.Common.{arith}
use Rattle.std.proofs.Math.Dec.{compare_is_eq}
use Rattle.whole.specs.Divisor as Divisor
use Rattle.whole.specs.Within as Within
use Rattle.whole.specs.Numerator as Numerator
use Rattle.theory.specs.Diagram as Diagram
use Rattle.theory.specs.Computation as Computation
use Rattle.theory.specs.Rules as Rules
use Rattle.theory.specs.Process as Process
use Rattle.theory.specs.Meaning as Meaning
use Rattle.theory.specs.Stage as Stage
use Rattle.theory.specs.Valid as Valid
use Rattle.theory.specs.Command as Command
use Rattle.theory.specs.Total as Total
use Rattle.theory.specs.Events as Events
use Rattle.theory.specs.Peaks as Peaks
use Rattle.theory.specs.Verdict as Verdict
use Rattle.theory.specs.Load as Load
use Rattle.theory.specs.Solve as Solve
use Rattle.theory.specs.Value as Value
use Rattle.theory.specs.Plain as Plain
use Rattle.theory.specs.Name as Name
use Rattle.theory.specs.Listing as Listing

-- one name that unfolds all that the cases compute with
unfoldable pub definitions : Unit {0}
unfolding Divisor.gcd_by Divisor.gcd_of Divisor.gcd_all Divisor.at_least_one Within.small Numerator.number Numerator.words Diagram.cmp_list Diagram.cmp_linear
    Diagram.cmp Diagram.no_coeffs Diagram.lin_of Diagram.act_of Diagram.same_leaf Diagram.same Diagram.add_list Diagram.scale_list Diagram.◌⊞◌ Diagram.◌⊠◌ Diagram.◌⊟◌
    Diagram.plus_constant Diagram.zeros Diagram.quot_list Diagram.quotient Diagram.divisor Diagram.test_of Computation.bind Computation.result Computation.make
    Computation.names Computation.judge Computation.both Computation.member Computation.run Computation.enter Computation.enter_all Computation.and_then
    Computation.final Computation.run_all Rules.parallel Rules.narrowed Rules.node Rules.step Rules.choose Rules.over Rules.merge Rules.make_leaf Rules.leaf_sum
    Rules.leaf_product Rules.leaf_scale Rules.leaf_shift Rules.leaf_complement Rules.leaf_number Rules.decide Rules.leaf_best Rules.sum Rules.product
    Rules.scale Rules.shift Rules.complement Rules.number Rules.best Rules.zero_leaf Rules.sum_on Rules.levels_sum Rules.linear_diagram Rules.substitute
    Rules.is_later Rules.side Rules.expectation Rules.add_reward Total.le_total Total.◌⊕◌ Total.weigh Total.max_total Total.mean Total.greatest_from Total.first_best
    Process.total Process.optimum Process.lowest_best Meaning.nth_action Meaning.action_at Meaning.numbers_from Meaning.nth Meaning.env Meaning.dot
    Meaning.value Meaning.holds Meaning.at Meaning.leaf_worth Meaning.worth_at Meaning.level_at Meaning.end_at Meaning.doubled Meaning.settings
    Meaning.chance_at Meaning.weight Meaning.moved Meaning.process Stage.all_diagrams Stage.model_diagrams Stage.sum_out Stage.action_total Stage.best_on
    Stage.stage_over Stage.stages_on Stage.stages_over_end Stage.all_stages Valid.all Valid.among Valid.small_linear Command.width_in Command.word_at
    Command.signed Command.signed_from Command.linear_in Command.bytes_at Command.command_in Command.read_in Command.goes_on Command.readings_from_in
    Command.readings_in Verdict.same_slot Verdict.has_slot Verdict.first_broken Verdict.beyond Verdict.next_condition Verdict.printable Verdict.is_weight
    Verdict.of_site Verdict.may_be Verdict.joined Verdict.from_to Verdict.wanted_by Verdict.wanted Verdict.site_rules Verdict.first_rules Verdict.later_rules
    Verdict.rules_in Verdict.after Verdict.ended Verdict.judged_in Verdict.verdict_in Load.condition_test Load.load_choice_with Load.load_entry
    Load.load_one_with Load.load_on_with Load.find_slot Load.found Load.action_of Load.model_of Load.site_in Load.load_in Load.model_in Solve.room
    Solve.solve_in Solve.number_of Diagram.padded Solve.test_words Solve.leaf_kind Solve.row Solve.rows Solve.table_of Solve.solved_nodes Solve.solved_stages
    Solve.solve_left Solve.early Solve.early_with_peaks Solve.solve Events.events Events.needed Peaks.raise Peaks.peaks_of Peaks.solved_peaks Value.accepted
    Value.bits Value.state_of Value.node_linear Value.among_ℤ Value.good_branches Value.good_leaf_row Value.good_condition_row Value.good_test_row
    Value.good_none_row Value.good_row Value.numerator_of Value.taken Value.ends Value.walk Value.answered Value.value_at Value.value_of Plain.judged
    Plain.in_32_bits Plain.sum_settings Plain.rewarded Plain.action_worth Plain.better Plain.try_actions Plain.numbered Plain.state_worth Plain.worth_out
    Plain.if_true Plain.plain_of Name.names_action Name.trimmed Name.named_part Name.name_refusal Name.name_part Name.name Listing.digits Listing.spaced
    Listing.spaced_all Listing.first_line Listing.node_line Listing.stage_line Listing.lines Listing.greatest_root Listing.text Listing.refusal_line
    Listing.written Listing.listing_refusal Listing.listing
definitions = tt

-- ---- models as bytes

-- four bytes, low byte first
abbrev pub bytes_of : ℕ → List ℕ
bytes_of n = n % 256 ∷ n / 256 % 256 ∷ n / 65536 % 256 ∷ n / 16777216 ∷ []

abbrev int : ℤ → List ℕ
int (pos n) = bytes_of n
int (negsuc n) = bytes_of (4294967295 - n)

-- a × L1 + c
abbrev linear₁ : ℤ → ℤ → List ℕ
linear₁ a c = int a ++ (replicate 28 0 ++ int c)

-- "Pond: m 1, n 0, A 2, W 1. Hold (1): reward 0, next L1. Release (2): test −L1 + 10; reward 50 or −1, next L1 − 10 or L1."
abbrev pub pond : List ℕ
pond =
    (0x02 ∷ 1 ∷ 0 ∷ 2 ∷ 0 ∷ 1 ∷ [])
    ++ ((0x10 ∷ linear₁ (pos 0) (pos 0)) ++ ((0x20 ∷ 1 ∷ 0 ∷ []) ++ ((0x10 ∷ linear₁ (pos 1) (pos 0)) ++ ((0x22 ∷ 1 ∷ 0 ∷ 1 ∷ [])
    ++ ((0x10 ∷ linear₁ (pos 0) (pos 50)) ++ ((0x10 ∷ linear₁ (pos 0) (negsuc 0)) ++ ((0x12 ∷ linear₁ (negsuc 0) (pos 10)) ++ ((0x20 ∷ 2 ∷ 0 ∷ [])
    ++ ((0x10 ∷ linear₁ (pos 1) (negsuc 9)) ++ ((0x10 ∷ linear₁ (pos 1) (pos 0)) ++ ((0x12 ∷ linear₁ (negsuc 0) (pos 10)) ++ (0x22 ∷ 2 ∷ 0 ∷ 1 ∷ 0xff ∷ []))))))))))))

-- "Rain: m 1, n 1, A 1, W 10, chance 7, reward L1, next L1 − 150 on next-step yes, else L1 − 50"
abbrev pub rain : List ℕ
rain =
    (0x02 ∷ 1 ∷ 1 ∷ 1 ∷ 0 ∷ 10 ∷ [])
    ++ ((0x10 ∷ linear₁ (pos 0) (pos 7)) ++ ((0x21 ∷ 1 ∷ 0 ∷ 1 ∷ []) ++ ((0x10 ∷ linear₁ (pos 1) (pos 0)) ++ ((0x20 ∷ 1 ∷ 0 ∷ [])
    ++ ((0x10 ∷ linear₁ (pos 1) (negsuc 149)) ++ ((0x10 ∷ linear₁ (pos 1) (negsuc 49)) ++ (0x11 ∷ 5 ∷ 0x22 ∷ 1 ∷ 0 ∷ 1 ∷ 0xff ∷ [])))))))

-- tables with room for N nodes, and what solve leaves in them
abbrev pub solved : List ℕ → ℕ → ℕ → Solve.SolveOut
solved B H N = Solve.solve B H (replicate (N * 12) (pos 0)) (replicate 8 0) (replicate (N * 8) 0) (replicate 401 0)

-- x over d at no condition
abbrev asked : ℤ → ℕ → Value.Asked
asked x d = record { mask = 0; nums = x ∷ replicate 7 (pos 0); den = pos d }

-- a value read: its numerator and its action
abbrev reads : Value.ValueOut → ℕ → ℕ → Bool
reads o v a = eqb o.number 0 && (eqb o.action a && (eqb o.numerator.low v && compare_is_eq (Diagram.cmp_ℤ o.numerator.high (pos 0))))

-- a total that is a number
abbrev is_number : Total.Total → ℕ → Bool
is_number (Total.num z) v = compare_is_eq (Diagram.cmp_ℤ z (pos v))
is_number Total.none v = false

-- the same diagram
abbrev is_stage : List Diagram.Tree → ℕ → Diagram.Tree → Bool
is_stage [] h t = false
is_stage (S ∷ l) zero t = Diagram.same S t
is_stage (S ∷ l) (suc h) t = is_stage l h t

-- x over d at no condition, as a state of a site with one level
abbrev state : ℕ → ℤ → (d : ℕ) → 0 < d → Meaning.State
state n x d p = record { conditions = replicate n false; nums = x ∷ []; den = d; D>0 = p }

-- h steps left at x / d: the numerator v and action a, read from the tables of a solve, worked plainly, and the best expected total with the lowest action that has it
abbrev row : List ℕ → Solve.SolveOut → ℕ → ℤ → (d : ℕ) → 0 < d → ℕ → ℕ → Bool
row B o h x d p v a =
    let s = state (Load.site_at B).conditions x d p in
    eqb o.number 0 && (reads (Value.value_of B o.nodes o.stages h (asked x d)) v a && (reads (Plain.plain_of B h (asked x d)) v a
    && (is_number (Process.optimum (Meaning.process (Load.model B)) h s) v && eqb (Process.lowest_best (Meaning.process (Load.model B)) h s) a)))

-- a × L1 + c, numbered with action 1
abbrev rain_leaf : ℤ → ℤ → Diagram.Tree
rain_leaf a c = Diagram.leaf (Diagram.some (record { coeffs = a ∷ replicate 7 (pos 0); const = c }) 1)

-- the pond's peak at horizon 2
pub pond_peak : T (eqb (solved pond 2 21).peak 21 && eqb (solved pond 2 20).number 12)
unfolding definitions
pond_peak = tt

-- 1 and 2 are above 0
abbrev one : 0 < 1
one = omega arith

abbrev two : 0 < 2
two = omega arith

-- "Marked ★, proved about the definitions together as one table"; its last row: "stage 2 is the leaf 200 L1 − 12,000"
pub starred : T (let o = solved pond 2 21 in
    row pond o 2 (pos 20) 1 one 100 2 && (row pond o 2 (pos 30) 1 one 100 2 && (row pond o 2 (pos 39) 2 two 100 1 && (row pond o 2 (pos 10) 1 one 50 1
    && (row pond o 2 (pos 9) 1 one 0 1 && (row pond o 2 (negsuc 4) 1 one 0 1 && (row pond o 1 (pos 10) 1 one 50 2 && (row pond o 1 (pos 19) 2 two 0 1
    && (row rain (solved rain 2 30) 2 (pos 200) 1 one 28000 1
    && is_stage (Computation.final (Stage.all_stages (Load.model rain) 2)) 1 (rain_leaf (pos 200) (negsuc 11999)))))))))))
unfolding definitions
starred = tt

-- the pond with the end worth L1
abbrev pub pond_end : List ℕ
pond_end = take (length pond - 1) pond ++ ((0x10 ∷ linear₁ (pos 1) (pos 0)) ++ (0x23 ∷ 0xff ∷ []))

-- its peak at horizon 2; at stage 1, L1 + 40 with action 2 from 10 on and L1 with action 1 below it; given twice it is refused with 6
pub pond_ended : T (let o = solved pond_end 2 24 in
    eqb o.peak 24 && (eqb (solved pond_end 2 23).number 12
    && (row pond_end o 1 (pos 10) 1 one 50 2 && (row pond_end o 1 (pos 9) 1 one 9 1 && (row pond_end o 1 (pos 39) 2 two 119 2 && (row pond_end o 2 (pos 20) 1 one 100 2
    && (is_number (Process.optimum (Meaning.process (Load.model pond_end)) 0 (state 0 (pos 7) 1 one)) 7
    && eqb (Verdict.verdict (take (length pond_end - 1) pond_end ++ ((0x10 ∷ linear₁ (pos 1) (pos 0)) ++ (0x23 ∷ 0xff ∷ [])))).number 6)))))))
unfolding definitions
pond_ended = tt

-- the pond's listing for horizon 2, as bytes
abbrev pub pond_listing : List ℕ
pond_listing =
    -- PLAN 1 0 2 1 2
    (80 ∷ 76 ∷ 65 ∷ 78 ∷ 32 ∷ 49 ∷ 32 ∷ 48 ∷ 32 ∷ 50 ∷ 32 ∷ 49 ∷ 32 ∷ 50 ∷ 10 ∷ []) ++ (
    -- N 1 V 0 0 0 0 0 0 0 0 50 2
    (78 ∷ 32 ∷ 49 ∷ 32 ∷ 86 ∷ 32 ∷ 48 ∷ 32 ∷ 48 ∷ 32 ∷ 48 ∷ 32 ∷ 48 ∷ 32 ∷ 48 ∷ 32 ∷ 48 ∷ 32 ∷ 48 ∷ 32 ∷ 48 ∷ 32 ∷ 53 ∷ 48 ∷ 32 ∷ 50 ∷ 10 ∷ []) ++ (
    -- N 2 V 0 0 0 0 0 0 0 0 0 1
    (78 ∷ 32 ∷ 50 ∷ 32 ∷ 86 ∷ 32 ∷ 48 ∷ 32 ∷ 48 ∷ 32 ∷ 48 ∷ 32 ∷ 48 ∷ 32 ∷ 48 ∷ 32 ∷ 48 ∷ 32 ∷ 48 ∷ 32 ∷ 48 ∷ 32 ∷ 48 ∷ 32 ∷ 49 ∷ 10 ∷ []) ++ (
    -- N 3 L -1 0 0 0 0 0 0 0 10 1 2
    (78 ∷ 32 ∷ 51 ∷ 32 ∷ 76 ∷ 32 ∷ 45 ∷ 49 ∷ 32 ∷ 48 ∷ 32 ∷ 48 ∷ 32 ∷ 48 ∷ 32 ∷ 48 ∷ 32 ∷ 48 ∷ 32 ∷ 48 ∷ 32 ∷ 48 ∷ 32 ∷ 49 ∷ 48 ∷ 32 ∷ 49 ∷ 32 ∷ 50 ∷ 10 ∷ []) ++ (
    -- N 4 V 0 0 0 0 0 0 0 0 100 2
    (78 ∷ 32 ∷ 52 ∷ 32 ∷ 86 ∷ 32 ∷ 48 ∷ 32 ∷ 48 ∷ 32 ∷ 48 ∷ 32 ∷ 48 ∷ 32 ∷ 48 ∷ 32 ∷ 48 ∷ 32 ∷ 48 ∷ 32 ∷ 48 ∷ 32 ∷ 49 ∷ 48 ∷ 48 ∷ 32 ∷ 50 ∷ 10 ∷ []) ++ (
    -- N 5 V 0 0 0 0 0 0 0 0 50 1
    (78 ∷ 32 ∷ 53 ∷ 32 ∷ 86 ∷ 32 ∷ 48 ∷ 32 ∷ 48 ∷ 32 ∷ 48 ∷ 32 ∷ 48 ∷ 32 ∷ 48 ∷ 32 ∷ 48 ∷ 32 ∷ 48 ∷ 32 ∷ 48 ∷ 32 ∷ 53 ∷ 48 ∷ 32 ∷ 49 ∷ 10 ∷ []) ++ (
    -- N 6 L -1 0 0 0 0 0 0 0 20 4 5
    (78 ∷ 32 ∷ 54 ∷ 32 ∷ 76 ∷ 32 ∷ 45 ∷ 49 ∷ 32 ∷ 48 ∷ 32 ∷ 48 ∷ 32 ∷ 48 ∷ 32 ∷ 48 ∷ 32 ∷ 48 ∷ 32 ∷ 48 ∷ 32 ∷ 48 ∷ 32 ∷ 50 ∷ 48 ∷ 32 ∷ 52 ∷ 32 ∷ 53 ∷ 10 ∷ []) ++ (
    -- N 7 L -1 0 0 0 0 0 0 0 10 6 2
    (78 ∷ 32 ∷ 55 ∷ 32 ∷ 76 ∷ 32 ∷ 45 ∷ 49 ∷ 32 ∷ 48 ∷ 32 ∷ 48 ∷ 32 ∷ 48 ∷ 32 ∷ 48 ∷ 32 ∷ 48 ∷ 32 ∷ 48 ∷ 32 ∷ 48 ∷ 32 ∷ 49 ∷ 48 ∷ 32 ∷ 54 ∷ 32 ∷ 50 ∷ 10 ∷ []) ++ (
    -- S 1 3
    (83 ∷ 32 ∷ 49 ∷ 32 ∷ 51 ∷ 10 ∷ []) ++ (
    -- S 2 7
    (83 ∷ 32 ∷ 50 ∷ 32 ∷ 55 ∷ 10 ∷ []))))))))))

-- two texts are the same, byte by byte
unfoldable pub same_bytes : List ℕ → List ℕ → Bool
same_bytes [] [] = true
same_bytes [] (b ∷ s) = false
same_bytes (a ∷ r) [] = false
same_bytes (a ∷ r) (b ∷ s) = eqb a b && same_bytes r s

-- the listing from place 3 of a buffer: the text, and nothing before it or behind it changed
pub pond_listed : T (let o = solved pond 2 21 in
    let l = Listing.listing pond 2 o.nodes o.stages (replicate 400 7) 3 in
    eqb l.number 0 && same_bytes l.buffer (replicate 3 7 ++ (pond_listing ++ replicate (397 - length pond_listing) 7)))
unfolding definitions same_bytes
pond_listed = tt

-- K4: m 1, n 0, A 2, both next levels L1, rewards (L1 + 4 ≤ 0 ? 10 : 5) and (L1 + 3 ≤ 0 ? 1 : 0)
abbrev pub idle : List ℕ
idle =
    (0x02 ∷ 1 ∷ 0 ∷ 2 ∷ 0 ∷ 1 ∷ [])
    ++ ((0x10 ∷ linear₁ (pos 0) (pos 10)) ++ ((0x10 ∷ linear₁ (pos 0) (pos 5)) ++ ((0x12 ∷ linear₁ (pos 1) (pos 4)) ++ ((0x20 ∷ 1 ∷ 0 ∷ [])
    ++ ((0x10 ∷ linear₁ (pos 1) (pos 0)) ++ ((0x22 ∷ 1 ∷ 0 ∷ 1 ∷ [])
    ++ ((0x10 ∷ linear₁ (pos 0) (pos 1)) ++ ((0x10 ∷ linear₁ (pos 0) (pos 0)) ++ ((0x12 ∷ linear₁ (pos 1) (pos 3)) ++ ((0x20 ∷ 2 ∷ 0 ∷ [])
    ++ ((0x10 ∷ linear₁ (pos 1) (pos 0)) ++ (0x22 ∷ 2 ∷ 0 ∷ 1 ∷ 0xff ∷ []))))))))))))

-- "Making a node now first replaces a low branch", before its branches are compared: the fourth node, L1 + 3 over node 3 and node 2, which stands under node 3
pub replaced_first : T (let o = solved idle 1 14 in
    eqb o.number 0 && (eqb o.peak 14 && (eqb (solved idle 1 13).number 12
    && same_bytes o.stages (4 ∷ replicate 7 0)
    && compare_is_eq (Diagram.cmp_list (take 48 o.nodes) (
    pos 0 ∷ pos 0 ∷ pos 0 ∷ pos 0 ∷ pos 0 ∷ pos 0 ∷ pos 0 ∷ pos 0 ∷ pos 0 ∷ pos 10 ∷ pos 1 ∷ pos 0
    ∷ pos 0 ∷ pos 0 ∷ pos 0 ∷ pos 0 ∷ pos 0 ∷ pos 0 ∷ pos 0 ∷ pos 0 ∷ pos 0 ∷ pos 5 ∷ pos 1 ∷ pos 0
    ∷ pos 2 ∷ pos 1 ∷ pos 0 ∷ pos 0 ∷ pos 0 ∷ pos 0 ∷ pos 0 ∷ pos 0 ∷ pos 0 ∷ pos 4 ∷ pos 1 ∷ pos 2
    ∷ pos 2 ∷ pos 1 ∷ pos 0 ∷ pos 0 ∷ pos 0 ∷ pos 0 ∷ pos 0 ∷ pos 0 ∷ pos 0 ∷ pos 3 ∷ pos 3 ∷ pos 2 ∷ [])))))
unfolding definitions same_bytes
replaced_first = tt

-- one tank that keeps its level, reward (L1 + 3 ≤ 0 ? 3 : L1 + 4 ≤ 0 ? 4 : L1 + 5 ≤ 0 ? 5 : L1 + 6 ≤ 0 ? 6 : 9)
abbrev pub steps : List ℕ
steps =
    (0x02 ∷ 1 ∷ 0 ∷ 1 ∷ 0 ∷ 1 ∷ [])
    ++ ((0x10 ∷ linear₁ (pos 0) (pos 3)) ++ ((0x10 ∷ linear₁ (pos 0) (pos 4)) ++ ((0x10 ∷ linear₁ (pos 0) (pos 5)) ++ ((0x10 ∷ linear₁ (pos 0) (pos 6))
    ++ ((0x10 ∷ linear₁ (pos 0) (pos 9)) ++ ((0x12 ∷ linear₁ (pos 1) (pos 6)) ++ ((0x12 ∷ linear₁ (pos 1) (pos 5)) ++ ((0x12 ∷ linear₁ (pos 1) (pos 4))
    ++ ((0x12 ∷ linear₁ (pos 1) (pos 3)) ++ ((0x20 ∷ 1 ∷ 0 ∷ []) ++ ((0x10 ∷ linear₁ (pos 1) (pos 0)) ++ (0x22 ∷ 1 ∷ 0 ∷ 1 ∷ 0xff ∷ []))))))))))))

-- "the needed nodes are counted with it": three of the four tests are dropped while the model is loaded, and count there
pub dropped_counted : T (let o = solved steps 1 10 in
    let r = solved steps 1 9 in
    eqb o.number 0 && (eqb o.peak 10 && (same_bytes o.stages (3 ∷ replicate 7 0) && (eqb r.number 12 && eqb r.place 0))))
unfolding definitions same_bytes
dropped_counted = tt

-- K8: m 1, n 1, A 1, W 10, a pump that is forbidden below 0 (L1 ≥ 0 : 1 ; else : forbidden), chance (C1 : 0 ; else : 5), next level (N1 : -1 ; else : L1)
abbrev pub pump : List ℕ
pump =
    (0x02 ∷ 1 ∷ 1 ∷ 1 ∷ 0 ∷ 10 ∷ [])
    ++ ((0x10 ∷ linear₁ (pos 0) (pos 1)) ++ ((0x13 ∷ []) ++ ((0x12 ∷ linear₁ (negsuc 0) (pos 0)) ++ ((0x20 ∷ 1 ∷ 0 ∷ [])
    ++ ((0x10 ∷ linear₁ (pos 0) (pos 0)) ++ ((0x10 ∷ linear₁ (pos 0) (pos 5)) ++ ((0x11 ∷ 1 ∷ 0x21 ∷ 1 ∷ 0 ∷ 1 ∷ [])
    ++ ((0x10 ∷ linear₁ (pos 0) (negsuc 0)) ++ ((0x10 ∷ linear₁ (pos 1) (pos 0)) ++ (0x11 ∷ 5 ∷ 0x22 ∷ 1 ∷ 0 ∷ 1 ∷ 0xff ∷ []))))))))))

-- two steps left at level 0, with condition 1 or without
abbrev pump_asked : ℕ → Value.Asked
pump_asked mask = record { mask = mask; nums = replicate 8 (pos 0); den = pos 1 }

abbrev pump_state : Bool → Meaning.State
pump_state c = record { conditions = c ∷ []; nums = pos 0 ∷ []; den = 1; D>0 = one }

-- "A next state of weight 0 never makes a value none": with condition 1 the pump gets through, 200 with action 1; without it there is a chance of 5 in 10 that it does not, and the value is none, "numerator 0, action 0"; six nodes
pub forbids : T (let o = solved pump 2 40 in
    eqb o.number 0 && (eqb (Listing.greatest_root 2 o.stages) 6
    && (reads (Value.value_of pump o.nodes o.stages 2 (pump_asked 1)) 200 1 && (reads (Value.value_of pump o.nodes o.stages 2 (pump_asked 0)) 0 0
    && (reads (Plain.plain_of pump 2 (pump_asked 1)) 200 1 && (reads (Plain.plain_of pump 2 (pump_asked 0)) 0 0
    && (is_number (Process.optimum (Meaning.process (Load.model pump)) 2 (pump_state true)) 200
    && Total.le_total (Process.optimum (Meaning.process (Load.model pump)) 2 (pump_state false)) Total.none)))))))
unfolding definitions
forbids = tt

-- "allowed in rewards only, not in an end worth": diagram 4 at 21, 22 and 23
pub rewards_only : T (let begins : List ℕ = 0x02 ∷ 1 ∷ 1 ∷ 1 ∷ 0 ∷ 10 ∷ 0x13 ∷ [] in
    eqb (Verdict.verdict (begins ++ (0x21 ∷ 1 ∷ 0 ∷ 1 ∷ []))).number 4 && (eqb (Verdict.verdict (begins ++ (0x22 ∷ 1 ∷ 0 ∷ 1 ∷ []))).number 4
    && (eqb (Verdict.verdict (begins ++ (0x23 ∷ []))).number 4 && eqb (Verdict.verdict (begins ++ (0x20 ∷ 1 ∷ 0 ∷ []))).number 2)))
unfolding definitions
rewards_only = tt

-- K9: "a peak for loading and one per action": the pond at horizon 2
pub pond_peaks : T (let o = solved pond 2 21 in
    same_bytes o.peaks (7 ∷ 13 ∷ 21 ∷ replicate 398 0) && same_bytes (solved pond 2 20).peaks (replicate 401 0))
unfolding definitions same_bytes
pond_peaks = tt
