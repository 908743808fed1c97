-- The loop: the state stands for the machine that has read the bytes so far.
use mathlib.Core.Path.{◌≡◌, refl, sym, ap, ◌∙◌}
use mathlib.Core.Bool.{Bool, true, false, not}
use mathlib.Core.List.{List, [], ◌∷◌}
use Prim.Native.Nat.{ℕ, suc, ◌+◌, ◌≤◌, ◌<◌}
use native.Mathlib.Numerals.{add-one}
use native.Mathlib.Omega.{arith}
use lib.ListN.{length, get_or, drop, drop_of_length-le}
use lib.Seq.{drop-cons}
use borrow.Author.Tests.{not-true, not-false}
use Rattle.import_grammar.specs.Reader.{Machine, step, begin, finish, Reading, read, unfinished}
use Rattle.import_grammar.specs.laws.Viable.{scan, concluded, alive, stops}
use Rattle.import_grammar.specs.laws.Viable.{Outcome as Meant}
use Rattle.import_state.specs.declared.State.{State}
use Rattle.std.specs.Prelude.{Result, Ok, Err}
use Rattle.import_scan.specs.Answer.{answer}
use Rattle.import_scan.specs.Shown.{shown}
use Rattle.import_scan.proofs.laws.Agree.{sim, over_alive, finished_reads, has_reading}
use Rattle.import_state.specs.declared.State.TheVariants.{At as Placed}
use Rattle.import_state.specs.declared.Place.TheVariants.{Outset}
use Rattle.import_step.specs.Steps.{next, is_over, is_finished}

pub record At (w : List ℕ) (s : State) (i : ℕ) : Type 0 where
  pub machine : Machine
  pub is : s ≡ shown machine
  pub live : alive machine ≡ true
  pub rest : scan machine (drop i w) i ≡ scan begin w 0
  pub within : i ≤ length w

drop_zero : (w : List ℕ) → drop 0 w ≡ w
drop_zero [] = refl
drop_zero (k ∷ w) = refl

pub at_start : (w : List ℕ) (s : State) → s ≡ Placed Outset → At w s 0
at_start w s e = record {
  machine = begin;
  is = e;
  live = refl;
  rest = ap (λ (v : List ℕ). scan begin v 0) (drop_zero w);
  within = omega arith;
}

-- the byte at the place, read
module _ (w : List ℕ) (s : State) (i : ℕ) (a : At w s i) (h : i < length w) (t : State) (e : t ≡ next s (get_or w i 0)) where
  shows : shown (step a.machine (get_or w i 0)) ≡ t
  shows = sim a.machine (get_or w i 0) ∙ ap (λ (x : State). next x (get_or w i 0)) (sym a.is) ∙ sym e

  lives : not (alive (step a.machine (get_or w i 0))) ≡ is_over t
  lives = sym (over_alive (step a.machine (get_or w i 0))) ∙ ap (λ (x : State). is_over x) shows

  one_byte : scan a.machine (get_or w i 0 ∷ drop (suc i) w) i ≡ scan begin w 0
  one_byte = ap (λ (v : List ℕ). scan a.machine v i) (sym (drop-cons w i 0 h)) ∙ a.rest

  pub turned : is_over t ≡ false → At w t (i + 1)
  unfolding scan
  turned f =
      let l : alive (step a.machine (get_or w i 0)) ≡ true = not-false _ (lives ∙ f) in
      record {
        machine = step a.machine (get_or w i 0);
        is = sym shows;
        live = l;
        rest =
            ap (λ (j : ℕ). scan (step a.machine (get_or w i 0)) (drop j w) j) (add-one i)
            ∙ sym (ap (λ (b : Bool). elim b as (λ _. Meant) [ true ↦ scan (step a.machine (get_or w i 0)) (drop (suc i) w) (suc i) | false ↦ stops i ]) l) ∙ one_byte;
        within = omega arith;
      }

  pub stopped : is_over t ≡ true → Err i ≡ answer (scan begin w 0)
  unfolding scan answer
  stopped f =
      let l : alive (step a.machine (get_or w i 0)) ≡ false = not-true _ (lives ∙ f) in
      ap answer (sym (ap (λ (b : Bool). elim b as (λ _. Meant) [ true ↦ scan (step a.machine (get_or w i 0)) (drop (suc i) w) (suc i) | false ↦ stops i ]) l) ∙ one_byte)

concluded_as : (r : Reading) (i : ℕ) (b : Bool) → has_reading r ≡ b → answer (concluded r i) ≡ elim b [ true ↦ Ok tt | false ↦ Err i ]
unfolding answer concluded
concluded_as (read t) i b e = ap (λ (x : Bool). elim x as (λ _. Result (Unit {0}) ℕ) [ true ↦ Ok tt | false ↦ Err i ]) e
concluded_as unfinished i b e = ap (λ (x : Bool). elim x as (λ _. Result (Unit {0}) ℕ) [ true ↦ Ok tt | false ↦ Err i ]) e

pub ended : (w : List ℕ) (s : State) (i : ℕ) → At w s i → length w ≤ i → (b : Bool) → is_finished s ≡ b → answer (scan begin w 0) ≡ elim b [ true ↦ Ok tt | false ↦ Err (length w) ]
unfolding scan
ended w s i a h b e =
    let q : i ≡ length w = omega (arith, a.within, h) in
    ap answer (sym a.rest ∙ ap (λ (v : List ℕ). scan a.machine v i) (drop_of_length-le w h))
    ∙ concluded_as (finish a.machine) i b (sym (finished_reads a.machine) ∙ ap is_finished (sym a.is) ∙ e)
    ∙ ap (λ (j : ℕ). elim b as (λ _. Result (Unit {0}) ℕ) [ true ↦ Ok tt | false ↦ Err j ]) q
