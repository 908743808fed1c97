-- The demands, proved: a term of each type of Demands.
use Rattle.std.specs.Prelude.{◌≡◌, ◌↔◌, false, List, [], ℕ, suc, ◌-◌, ◌≤◌, T, eqb, ℤ, length, get_or}
use Rattle.std.proofs.Math.Path.{refl}
use Rattle.std.proofs.Common.{sym, ap, ap₂, ◌∙◌, subst, ⊎_elim, arith}
use Rattle.std.proofs.Math.Bool.{Bool}
use Rattle.whole.specs.Cases.{if, by_test}
use Rattle.whole.specs.Numerator.{number}
use Rattle.whole.specs.NumeratorLaws.{number_words}
use Rattle.theory.specs.Widths.{steps_most, peak_words}
use Rattle.theory.specs.Diagram.{Leaf, some, forbidden, act_of, permitted, Tree}
use Rattle.theory.specs.Computation.{Solved, solved, refused, final}
use Rattle.theory.specs.Total.{Total, num, none, Has}
use Rattle.theory.specs.Process.{optimum, lowest_best}
use Rattle.theory.specs.Meaning.{Model, State, env, leaf_worth, worth_at, at, process}
use Rattle.theory.specs.Rules.{zero_leaf}
use Rattle.theory.specs.Stage.{all_stages}
use Rattle.theory.specs.Valid.{all, all_nodes, good_test, stage_leaf}
use Rattle.theory.specs.Verdict.{Verdict, verdict, refusal}
use Rattle.theory.specs.Load.{model}
use Rattle.theory.specs.Solve.{room, solve_in, SolveOut, solve_left, early, early_with_peaks, solve, solved_nodes, solved_stages}
use Rattle.theory.specs.Value.{Asked, answered, value_of}
use Rattle.theory.specs.Plain.{plain_of}
use Rattle.theory.specs.Name.{name_refusal, name_part}
use Rattle.theory.specs.Listing.{greatest_root, listing}
use Rattle.theorems.specs.Demands.{Solving, left, Accepted, start, site, reading, Exact, Optimal, StateAccepted, PlainAgrees, SameValue, FirstMet}
use Rattle.theorems.specs.Demands.{SolvedExactly, CountsDistinct, PeakDecides, VerdictRows, AsWritten, SolveRows, ValueRows, PlainRows, NameRows}
use Rattle.theorems.specs.Demands.{NamePartRows, ListingRows, Formula, ChancesWithin, WeightsSum, SpelledSame, TestsDivided, LoadedOrdered}
use Rattle.theorems.specs.Demands.{StagesOrdered, TablesReduced, SideLiteral, TablesHold}
use Rattle.theorems.specs.Reduced.{Reduced}
use Rattle.theory.specs.Rows.{VerdictRow, SolveRow, ValueRow, PlainRow, NameRow, NamePartRow, ListingRow}
use Rattle.theory.proofs.laws.AcceptedModel.{accepted_valid, accepted_site}
use Rattle.theory.proofs.laws.Good.{stages_good}
use Rattle.theory.proofs.laws.Stages.{Stage, stages_at, stage_of}
use Rattle.theory.proofs.laws.ValueWalk.{reading_exact, root_last}
use Rattle.theory.proofs.laws.Rows.{Passed, by_early, early_some, passed_not, solve_runs}
use Rattle.theory.proofs.laws.Fits as Fits
use Rattle.theory.proofs.laws.Rows as Rows
use Rattle.theory.proofs.laws.Name as Name
use Rattle.theorems.proofs.laws.Formula as Formulas
use Rattle.theorems.proofs.laws.Chances as Chances
use Rattle.theorems.proofs.laws.Spelled as Spelled
use Rattle.theorems.proofs.laws.Written as Written
use Rattle.theorems.proofs.laws.Divided as Divided
use Rattle.theorems.proofs.laws.Ordered as Ordered
use Rattle.theorems.proofs.laws.OrderedStages as OrderedStages
use Rattle.theorems.proofs.laws.Reduced.{stages_reduced}
use Rattle.theory.proofs.laws.Process.{policy_equal, policy_lower}
use Rattle.theory.proofs.laws.Plain.{plain_of_exact}
use Rattle.theorems.proofs.laws.SameValue as SameValue
use Rattle.theory.proofs.laws.Refusals.{refused_number}
use Rattle.theorems.proofs.laws.Peak as Peak
use Rattle.theory.proofs.laws.Counts as Counting
use Rattle.theory.proofs.laws.Comps.{run_all_final}

-- ---- what a solve with number 0 has gone through

-- a solve with number 0 and what it leaves: its stages
pub record Went (g : Solving) (o : SolveOut) : Type 0 where
  pub before : Passed g.bytes g.horizon (length g.stages)
  pub trees : List Tree
  pub peak : ℕ
  pub solves : solve_in (room (length g.nodes) (length g.work)) g.bytes g.horizon ≡ solved trees peak
  pub nodes_left : o.nodes ≡ solved_nodes (length g.nodes) trees
  pub stages_left : o.stages ≡ solved_stages trees

module _ (g : Solving) where
  abbrev out : Solved (List Tree) → SolveOut
  out = solve_left g.bytes g.horizon g.nodes g.stages g.work g.peaks

  abbrev N : ℕ
  N = room (length g.nodes) (length g.work)

  solved_went : Passed g.bytes g.horizon (length g.stages) → (o : Solved (List Tree)) → solve_in N g.bytes g.horizon ≡ o → (out o).number ≡ 0 → Went g (out o)
  unfolding solve_left
  solved_went p (solved S peak) e z = record { before = p; trees = S; peak = peak; solves = e; nodes_left = refl; stages_left = refl }
  solved_went p (refused r h) e z = absurd (⊎_elim (λ q. omega arith) (λ q. omega arith) (refused_number N g.bytes g.horizon r h e))

  pub went : Went g (left g)
  unfolding solve early_with_peaks
  went =
      let o : Verdict → Bool → SolveOut =
      λ v b. if b (out (solve_in N g.bytes g.horizon)) (record { number = v.number; place = v.place; peak = 0; nodes = g.nodes; stages = g.stages; work = g.work; peaks = g.peaks }) in
      by_test (eqb (length g.peaks) peak_words)
      (λ c. let v = if c (early g.bytes g.horizon (length g.stages)) (refusal 10 0) in (o v (eqb v.number 0)).number ≡ 0 → Went g (o v (eqb v.number 0)))
      (λ _. by_early g.bytes g.horizon (length g.stages) (λ v b. (o v b).number ≡ 0 → Went g (o v b))
      (λ p. solved_went p (solve_in N g.bytes g.horizon) refl) (λ k p r z. absurd (omega (arith, early_some r))))
      (λ _ z. absurd (omega arith)) g.is

-- steps that are asked within the horizon pass too
pub early_within : (B : List ℕ) (H size h : ℕ) → Passed B H size → 1 ≤ h → h ≤ H → (early B h steps_most).number ≡ 0
early_within B H size h p a b = by_early B h steps_most (λ v _. v.number ≡ 0) (λ _. refl)
    (λ k q r. absurd (passed_not (record { eight = refl; least = a; most = omega (arith, p.most); bytes = p.bytes; own = p.own }) r))

-- every node of its stages is good, and there are as many as steps
all_good : (g : Solving) (w : Went g (left g))
    → T (all (all_nodes (good_test (model g.bytes).conditions false) (stage_leaf (suc (length (model g.bytes).others)))) w.trees) × (length w.trees ≡ g.horizon)
all_good g w =
    let r = solve_runs (room (length g.nodes) (length g.work)) g.bytes g.horizon w.trees w.peak w.solves in
    stages_good (model g.bytes) (accepted_valid g.bytes w.before.own) _ r.0 g.horizon w.trees w.peak r.1

-- ---- the demands

-- a stage's worth and action, and the optimum's, are answered alike
stage_answer : (M : Model) (h : ℕ) (F : Tree) → Stage M h F → (s : State)
    → answered (worth_at (env s []) F) (act_of (at (env s []) F)) ≡ answered (optimum (process M) h s) (lowest_best (process M) h s)
unfolding worth_at
stage_answer M h F S s = go (at (env s []) F) (S.act s) ∙ ap (λ (x : Total). answered x (lowest_best (process M) h s)) (S.worth s)
  where
    go : (f : Leaf) → (T (permitted f) → act_of f ≡ lowest_best (process M) h s) → answered (leaf_worth (env s []) f) (act_of f) ≡ answered (leaf_worth (env s []) f) (lowest_best (process M) h s)
    go (some p a) k = ap (answered (leaf_worth (env s []) (some p a))) (k (unfold permitted in tt))
    go forbidden k = unfold leaf_worth answered in refl

-- a total that is not none is read as its number
has_number : (x : Total) (a : ℕ) → Has x → num (number (answered x a).numerator) ≡ x
unfolding answered
has_number (num z) a p = ap num (number_words z)
has_number none a p = absurd p

pub exact : Exact
unfolding stage_of
exact g h a b q t =
    let w = went g in
    let B = g.bytes in
    let v = accepted_valid B w.before.own in
    let site = (accepted_site B w.before.own).1 in
    let r = solve_runs (room (length g.nodes) (length g.work)) B g.horizon w.trees w.peak w.solves in
    let d = all_good g w in
    let is : final (all_stages (model B) g.horizon) ≡ w.trees = sym (run_all_final _ r.0 (all_stages (model B) g.horizon) w.trees w.peak r.1) in
    let S = stages_at (model B) v g.horizon h a b in
    let F = get_or w.trees (h - 1) zero_leaf in
    let same : stage_of (model B) g.horizon h ≡ F = ap (λ l. get_or l (h - 1) zero_leaf) is in
    let s = start g q t in
    ap₂ (λ n k. value_of B n k h q) w.nodes_left w.stages_left
    ∙ reading_exact B (length g.nodes) h w.trees q t (early_within B g.horizon (length g.stages) h w.before a b)
    (omega (arith, d.1, w.before.most)) a (omega (arith, d.1))
    (rw (← site.same_conditions, ← site.same_actions) d.0)
    ∙ stage_answer (model B) h F (subst (Stage (model B) h) same S) s

-- a value that is not none, as it is read
pub read_optimum : (g : Solving) (h : ℕ) → 1 ≤ h → h ≤ g.horizon → (q : Asked) (t : Accepted g q) → Has (optimum (site g) h (start g q t))
    → num (number (reading g h q).numerator) ≡ optimum (site g) h (start g q t)
read_optimum g h a b q t has = ap (λ o. num (number o.numerator)) (exact g h a b q t) ∙ has_number (optimum (site g) h (start g q t)) (lowest_best (site g) h (start g q t)) has

-- by what a policy loses: `policy_equal` rests on theory's `loses`, as K11 does
pub optimal : Optimal
optimal g h a b q t has π =
    let s = start g q t in
    let v = read_optimum g h a b q t has in
    let p = policy_equal (site g) π h s has in (
      (λ e. p.0 (sym e ∙ v), λ k. v ∙ sym (p.1 k)),
      λ n. rw v (policy_lower (site g) π h s has n),
    )

pub state_accepted : StateAccepted
state_accepted m n q = (Fits.state_fits m n q, Fits.state_accepted m n q)

pub plain_agrees : PlainAgrees
plain_agrees g h low high q _ n =
    let r = (plain_of_exact g.bytes h q low n).1 in
    r.1 ∙ sym (exact g h low high q r.0)

pub same_value : SameValue
same_value = SameValue.same_values number_words exact

pub first_met : FirstMet
first_met = Peak.first_met

pub solved_exactly : SolvedExactly
solved_exactly = Peak.solved_exactly

pub counts_distinct : CountsDistinct
counts_distinct = Counting.counts_distinct

pub peak_decides : PeakDecides
peak_decides = Peak.peak_decides

-- an outcome that is a row, and that each row is
decides : {A : Type 0} (Row : A → Type 0) (a : A) → Row a → ((o : A) → Row o → a ≡ o) → (o : A) → Row o ↔ (a ≡ o)
decides Row a r f o = (f o, λ e. subst Row e r)

pub verdict_rows : VerdictRows
verdict_rows B = decides (VerdictRow B) (verdict B) (Rows.verdict_row B) (λ _ r. Rows.verdict_is B r)

pub judged_as_written : AsWritten
judged_as_written = Written.judged_as_written

pub solve_rows : SolveRows
solve_rows B H nodes stages work peaks = decides (SolveRow B H nodes stages work peaks) (solve B H nodes stages work peaks) (Rows.solve_row B H nodes stages work peaks) (λ _ r. Rows.solve_is B H nodes stages work peaks r)

pub value_rows : ValueRows
value_rows B nodes stages steps q =
    decides (ValueRow B nodes stages steps q) (value_of B nodes stages steps q) (Rows.value_row B nodes stages steps q) (λ _ r. Rows.value_is B nodes stages steps q r)

pub plain_rows : PlainRows
plain_rows B steps q = decides (PlainRow B steps q) (plain_of B steps q) (Rows.plain_row B steps q) (λ _ r. Rows.plain_is B steps q r)

pub name_rows : NameRows
name_rows B a = decides (NameRow B a) (name_refusal B a) (Rows.name_row B a) (λ _ r. Rows.name_is B a r)

pub name_part_rows : NamePartRows
name_part_rows B a = decides (NamePartRow B a) (name_part B a) (Name.name_part_row B a) (λ _ r. Name.name_part_is B a r)

pub listing_rows : ListingRows
listing_rows B H nodes stages buffer at = decides (ListingRow B H nodes stages buffer at) (listing B H nodes stages buffer at)
    (Rows.listing_row B H nodes stages buffer at) (λ _ r. Rows.listing_is B H nodes stages buffer at r)

pub formula_holds : Formula
formula_holds = Formulas.formula_holds

pub chances_within : ChancesWithin
chances_within = Chances.chances_within

pub weights_sum : WeightsSum
weights_sum = Chances.state_weights_sum

pub spelled_same : SpelledSame
spelled_same = Spelled.spelled_same

pub tests_divided : TestsDivided
tests_divided = Divided.tests_divided

pub loaded_ordered : LoadedOrdered
loaded_ordered = OrderedStages.loaded_ordered

pub stages_ordered : StagesOrdered
stages_ordered = OrderedStages.solved_ordered

pub side_literal : SideLiteral
side_literal = Ordered.side_literal

pub tables_hold : TablesHold
tables_hold N B H S peak e = ap (λ (n : ℕ). greatest_root n (solved_stages S)) (sym (Rows.solved_length N B H S peak e)) ∙ root_last S

pub tables_reduced : TablesReduced
tables_reduced g =
    let w = went g in
    let size = length g.nodes in
    subst (λ (l : List ℤ). Reduced l (greatest_root g.horizon (left g).stages)) (sym w.nodes_left)
    (subst (Reduced (solved_nodes size w.trees)) (sym (ap (greatest_root g.horizon) w.stages_left ∙ tables_hold _ g.bytes g.horizon w.trees w.peak w.solves))
    (stages_reduced _ _ size w.trees (stages_ordered _ g.bytes g.horizon w.trees w.peak w.solves) (all_good g w).0))
