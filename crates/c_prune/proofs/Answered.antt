-- The answer of a path: with too short an `out` the judging alone decides.
use mathlib.Core.Path.{◌≡◌, refl, sym, ap, ◌∙◌}
use mathlib.Core.Bool.{Bool}
use mathlib.Core.List.{List, ◌++◌}
use Prim.Native.Nat.{ℕ, ◌≤◌, ◌<◌}
use borrow.Author.Tests.{lt-ltb, le-ltb, eqb-true}
use lib.Dec.{eqb}
use lib.IntN.{ℤ}
use lib.ListN.{length, drop}
use Rattle.whole.specs.Cases.{if, by_eq}
use Rattle.text_decimal.specs.Put.{PutAt}
use Rattle.theory.specs.Verdict.{Verdict}
use Rattle.theory.specs.Solve.{room}
use Rattle.c_answers.specs.Answers.{le, short}
use Rattle.c_answers.proofs.Bytes.{le_length}
use Rattle.c_answers.proofs.Answered.{at_start}
use Rattle.prune_paths.specs.Prune.{PruneOut, prune_refusal, pruned, prune}
use Rattle.c_prune.specs.Answer as A
use Rattle.c_prune.specs.Answer.{prune_answer}

module _ (B : List ℕ) (nodes : List ℤ) (stages work : List ℕ) (s : ℕ) (turns : List ℕ) (ks : List ℤ) where
  abbrev judged : Verdict
  judged = prune_refusal B nodes stages (room (length nodes) (length work)) s turns ks

  -- a path that is not refused has number 0
  number_is : judged.number ≡ (prune B nodes stages work s turns ks).number
  unfolding prune pruned
  number_is = by_eq (eqb judged.number 0)
      (λ b. judged.number ≡ (if b (pruned nodes stages work s turns) (record { number = judged.number; place = judged.place; nodes = nodes; stages = stages; work = work })).number)
      (λ e. eqb-true judged.number 0 e) (λ _. refl)

  -- v is the refusal that the code found
  pub prune_short : {v : Verdict} {r : ℕ} {out : List ℕ} → length out < 4 → v ≡ judged → r ≡ short v.number
      → A.pruned r out nodes stages work ≡ prune_answer (prune B nodes stages work s turns ks) nodes stages work out
  unfolding prune_answer
  prune_short {out = out} h e r =
      let o = prune B nodes stages work s turns ks in
      ap (λ (k : ℕ). A.pruned k out nodes stages work) (r ∙ ap (λ (w : Verdict). short w.number) e ∙ ap short number_is)
      ∙ sym (ap (λ (b : Bool). if b (A.pruned (short o.number) out nodes stages work) (A.pruned o.number (le 4 o.place ++ drop 4 out) o.nodes o.stages o.work)) (lt-ltb (length out) 4 h))

-- o is what the path came to, with the words as it left them
pub prune_whole : (nodes : List ℤ) (stages work out : List ℕ) {o v : PruneOut} {after : List ℕ} {n : ℕ} → 4 ≤ length out → o ≡ v → PutAt out 0 (le 4 o.place) n after
    → A.pruned o.number after o.nodes o.stages o.work ≡ prune_answer v nodes stages work out
unfolding prune_answer
prune_whole nodes stages work out {o} {v} h e p =
    (λ i. A.pruned o.number (at_start (le_length 4 o.place) p i) o.nodes o.stages o.work)
    ∙ ap (λ (w : PruneOut). A.pruned w.number (le 4 w.place ++ drop 4 out) w.nodes w.stages w.work) e
    ∙ sym (ap (λ (b : Bool). if b (A.pruned (short v.number) out nodes stages work) (A.pruned v.number (le 4 v.place ++ drop 4 out) v.nodes v.stages v.work)) (le-ltb (length out) 4 h))
