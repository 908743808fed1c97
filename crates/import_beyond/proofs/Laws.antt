-- Where the walk over a text rests, and what is judged there.
use mathlib.Core.Path.{◌≡◌, refl, sym, ap, ◌∙◌}
use mathlib.Core.Bool.{Bool, true, false, not}
use mathlib.Core.List.{List, [], ◌∷◌}
use Prim.Native.Nat.{ℕ}
use lib.ListN.{drop}
use Rattle.whole.specs.Cases.{if}
use Rattle.import_grammar.specs.Grammar.{deepest}
use Rattle.import_numbers.specs.Numbers.{numbers, all_within, beyond}
use Rattle.import_frames.specs.declared.Frame.{Frame}
use Rattle.import_frames.specs.Frames.{idle, closed, finished, stops}
use Rattle.import_frames.proofs.Laws.{yes, no}
use Rattle.import_sums.specs.Run.{SumOut, stopped, ended, final, run}
use Rattle.import_sums.specs.declared.Walked.{Walked}
use Rattle.import_sums.specs.Walks.{resting, Walks}
use Rattle.import_values.specs.Reads.{guard}
use Rattle.import_texts.specs.Conditions.{judged}
use Rattle.import_texts.specs.Texts.{text_read}
use Rattle.import_beyond.specs.Beyond.{JudgesText}

over_run : (s : Frame) (w : List ℕ) → s.beyond ≡ true → run false deepest [] s w ≡ stopped
unfolding run
over_run s [] e = sym (yes s.beyond _ _ refl e refl)
over_run s (k ∷ w) e = sym (yes s.beyond _ _ refl e refl)

rest_run : (s : Frame) (w : List ℕ) → s.beyond ≡ false → resting false s w ≡ true → run false deepest [] s w ≡ final s w
unfolding run resting
rest_run s [] e r = sym (no s.beyond _ _ refl e refl)
rest_run s (k ∷ w) e r = sym (no s.beyond _ _ refl e (yes (stops false s k) _ _ refl (no s.beyond true (stops false s k) refl e refl ∙ r) refl))

abbrev flag : SumOut → Bool
flag stopped = true
flag (ended c w) = false

flag_guard : (b : Bool) → flag (guard b (ended (idle 0) [])) ≡ not b
flag_guard true = refl
flag_guard false = refl

flag_judged : (c : Frame) (w : List ℕ) → flag (judged (ended c w)) ≡ (finished c).beyond
unfolding judged
flag_judged c w = go (finished c).beyond
  where
    go : (b : Bool) → flag (if b stopped (ended (idle 0) [])) ≡ b
    go true = refl
    go false = refl

module _ {w : List ℕ} {v : Walked} (W : Walks w 0 deepest false v) where
  abbrev rest : List ℕ
  rest = drop v.next w

  by_flag : {r : Bool} → r ≡ flag (judged (run false deepest [] v.frame rest)) → JudgesText w r
  unfolding beyond
  by_flag q = record {
    judges = λ t e. q
        ∙ (ap (λ (o : SumOut). flag (judged o)) (sym (W.reaches.runs []))
        ∙ (ap (λ (l : List ℕ). flag (judged (run false deepest [] (idle 0) l))) (sym e)
        ∙ (ap flag (text_read t) ∙ flag_guard (all_within (numbers t)))));
  }

  pub frame_over : v.frame.beyond ≡ true → JudgesText w true
  unfolding judged
  frame_over t = by_flag (sym (ap (λ (o : SumOut). flag (judged o)) (over_run v.frame rest t)))

  module _ (t : v.frame.beyond ≡ false) {c : Frame} (k : c ≡ closed v.frame) where
    rested : run false deepest [] v.frame rest ≡ if c.beyond stopped (ended c rest)
    rested = rest_run v.frame rest t W.rests ∙ ap (λ (f : Frame). if f.beyond stopped (ended f rest)) (sym k)

    pub number_over : c.beyond ≡ true → JudgesText w true
    unfolding judged
    number_over u = by_flag (sym (ap (λ (o : SumOut). flag (judged o)) (rested ∙ sym (yes c.beyond _ _ refl u refl))))

    pub at_last : c.beyond ≡ false → {g : Frame} → g ≡ finished c → JudgesText w g.beyond
    at_last u e = by_flag (ap (λ (f : Frame). f.beyond) e ∙ sym (ap (λ (o : SumOut). flag (judged o)) (rested ∙ sym (no c.beyond _ _ refl u refl)) ∙ flag_judged c rest))
