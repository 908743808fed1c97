-- A proof of each statement.
use Rattle.std.specs.Prelude.{◌≡◌, refl, false, List, [], ◌∷◌, ℕ, ◌+◌, ◌-◌, T, eqb, ℤ, pos, length, get_or, replicate}
use Rattle.std.proofs.Common.{sym, ap, ◌∙◌, subst, arith}
use Rattle.std.proofs.lemmas.List.{length-replicate}
use Rattle.whole.specs.Cases.{if, by_eq, clash}
use Rattle.theory.specs.Widths.{steps_most}
use Rattle.theory.specs.Computation.{member}
use Rattle.theory.specs.Load.{site_at}
use Rattle.theory.specs.Solve.{room, rows, table_of, solved_nodes}
use Rattle.theory.specs.Value.{Asked, value_of, good_row}
use Rattle.theory.specs.Listing.{greatest_root}
use Rattle.theory.specs.Rows.{Range, NodeFits}
use Rattle.theorems.specs.Demands.{left}
use Rattle.theorems.proofs.laws.Advice.{value_given}
use Rattle.theory.specs.Valid.{good_test, stage_leaf}
use Rattle.theory.proofs.laws.Nodes.{parts}
use Rattle.theory.proofs.laws.Table.{table_of_table}
use Rattle.theory.proofs.laws.Words.{StageGood, laid, node_good}
use Rattle.theory.proofs.laws.ValueWalk.{greatest_most, greatest_least}
use Rattle.theory.proofs.laws.Fits.{node_fits}
use Rattle.theorems.proofs.laws.Reduced.{node_numbered, enter_all_each}
use Rattle.prune_paths.specs.Prune.{PruneOut, prune_refusal, pruned, prune, stages_anew, words_anew}
use Rattle.prune_paths.specs.Statements.{NoStateTakes, SameReading, After, as_given, then_pruned, DemandsHold, AllFits, StillGood}
use Rattle.prune_paths.proofs.laws.Excluded.{excluded}
use Rattle.prune_paths.proofs.laws.Reads.{cleared, prune_reads, words_length, word_anew, word_below, each_good}
use Rattle.prune_paths.proofs.laws.Fits.{pruned_fits}

pub no_state_takes : NoStateTakes
no_state_takes e turns F ks p t = excluded e turns F ks p t

pub same_reading : SameReading
same_reading = prune_reads

after_reads : (B : List ℕ) (nodes : List ℤ) (stages : List ℕ) (W : List ℤ) (S : List ℕ) → After B nodes stages W S → (h : ℕ) (q : Asked) → value_of B W S h q ≡ value_of B nodes stages h q
after_reads B nodes stages W S as_given h q = refl
after_reads B nodes stages W S (then_pruned {W = W'} {S = S'} a work s turns ks) h q = prune_reads B W' S' work s turns ks h q ∙ after_reads B nodes stages W' S' a h q

pub demands_hold : DemandsHold
demands_hold g W S a h q low high =
    let B = g.bytes in
    let o = left g in
    let v = value_of B W S h q in
    let e : v ≡ value_of B o.nodes o.stages h q = after_reads B o.nodes o.stages W S a h q in
    let d = value_given B g.horizon g.nodes g.stages g.work g.peaks refl h q q v g.is refl e in
    (d.exact g.is low high, (d.optimal g.is low high, (d.reads_none g.is low high, d.override g.is low high)))

pub all_fits : AllFits
unfolding prune pruned
all_fits B nodes stages work s turns ks =
    let N = room (length nodes) (length work) in
    let v = prune_refusal B nodes stages N s turns ks in
    by_eq (eqb v.number 0)
    (λ b. let o : PruneOut = if b (pruned nodes stages work s turns) (record { number = v.number; place = v.place; nodes = nodes; stages = stages; work = work }) in
    (length o.nodes ≡ length nodes) × ((length o.stages ≡ length stages) × (length o.work ≡ length work)))
    (λ z. (pruned_fits B nodes stages work s turns ks (cleared B nodes stages N s turns ks z), (words_length nodes s turns (table_of (stages_anew nodes s turns 1 stages)) 1 stages, length-replicate (length work) 0)))
    (λ _. (refl, (refl, refl)))

-- ---- 14 afterwards

pub still_good : StillGood
unfolding prune pruned solved_nodes table_of member
still_good B nodes stages work s turns ks =
    let N = room (length nodes) (length work) in
    let v = prune_refusal B nodes stages N s turns ks in
    let n = (site_at B).conditions in
    let A = (site_at B).actions in
    let S = stages_anew nodes s turns 1 stages in
    let X = table_of S in
    let tail = replicate (length nodes - length (rows X X)) (pos 0) in
    by_eq (eqb v.number 0)
    (λ b. let o : PruneOut = if b (pruned nodes stages work s turns) (record { number = v.number; place = v.place; nodes = nodes; stages = stages; work = work }) in
    o.number ≡ 0 → (r : ℕ) → Range 1 (greatest_root 8 o.stages) r → NodeFits n A o.nodes r)
    (λ z _ r h.
    let c = cleared B nodes stages N s turns ks z in
    let most = greatest_most 8 (words_anew nodes s turns X 1 stages) (length X) (λ i _. rw (word_anew nodes s turns X 1 i stages) (word_below nodes s turns X (1 + i) (get_or stages i 0))) in
    let a = node_numbered X (table_of_table S) r (h.0, omega (arith, h.1)) in
    let each = enter_all_each (StageGood n A) (λ t p q d. (parts (good_test n false) (stage_leaf A) t p q d).1) S []
    (each_good nodes s turns n A 1 stages (λ i l _ j a b. c.rows j a (omega (arith, greatest_least steps_most stages i (omega (arith, c.before.eight))))))
    (λ u m. clash (sym m)) in
    node_fits n A (laid X tail) r (subst (λ (r : ℕ). T (good_row n A (laid X tail) r)) a.1.1 (node_good X tail (table_of_table S) n A a.0 a.1.0 (each a.0 a.1.0))))
    (λ z e. clash (sym (ap (λ (k : ℕ). eqb k 0) e) ∙ z))
