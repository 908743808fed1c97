-- Every outcome is one row of "What a refusal gives".
use Rattle.std.proofs.Math.Path.{◌≡◌, refl, sym, ap, ap₂, subst}
use Rattle.std.proofs.Common.{◌∙◌, le_refl, le-div_iff_mul-le, div-mul-le_self, ne_eqb, leb→le, lt→ltb, take-append-drop, take_at, drop-drop}
use Rattle.std.specs.Prelude.{◌⊎◌, ◌&&◌, eqb, ltb, leb, ℤ, pos, negsuc, ◌+ℤ◌, ◌*ℤ◌, get_or, replicate}
use Rattle.std.proofs.Math.Logic.{inl, inr, ⊎_elim}
use Rattle.std.proofs.Math.Bool.{Bool, true, false, not}
use mathlib.Core.List.Memᴰ
use mathlib.Core.List.{List, [], ◌∷◌, ◌++◌, Memᴰ}
use Prim.Native.Nat.{ℕ, zero, suc, ◌+◌, ◌-◌, ◌*◌, ◌/◌, ◌≤◌, ◌<◌, min}
use Rattle.std.proofs.Math.Nat.{min-le_left, min-le_right, le-min}
use native.Mathlib.Omega.{arith}
use Rattle.std.proofs.Math.Dec.{T, T_not, eqb→eq, eqb_refl, nleb→lt, ltb→lt, nltb→le}
use Rattle.std.proofs.Math.IntN.{nat_abs, zero-*ℤ}
use Rattle.std.proofs.Math.ListN.{length, take, drop, length-append, length-drop}
use Rattle.std.proofs.lemmas.List.{length-replicate}
use Rattle.std.proofs.Math.Seq.{length-take-le, drop_at, take-append_seam, drop-append_seam}
use Rattle.std.specs.Int.Signed.{le_z}
use Rattle.whole.specs.Cases.{if, by_test, both, and_in, not_not}
use Rattle.whole.specs.Numerator.{words}
use Rattle.theory.specs.Widths.{levels_most, steps_most, bytes_most, node_words, work_words, peak_words, nodes_most}
use Rattle.theory.specs.Diagram.{Tree, zeros}
use Rattle.theory.specs.Computation.{Out, done, stopped, result, run, Solved, solved, refused, run_all}
use Rattle.theory.specs.Total.{num}
use Rattle.theory.specs.Total.{none as no_total}
use Rattle.theory.specs.Process.{lowest_best}
use Rattle.theory.specs.Meaning.{Model, State, nth, dot, numbers_from, process}
use Rattle.theory.specs.Stage.{all_stages}
use Rattle.theory.specs.Valid.{all, among, small_linear, valid}
use Rattle.theory.specs.Form.{Form, new_form}
use Rattle.theory.specs.Command.{Command, site, push_leaf, push_condition, push_test, push_forbidden, name_action, end_model, Read, whole, unknown}
use Rattle.theory.specs.Command.{short, byte_at, width, command_at, read_at, goes_on, give, width_in, command_in, read_in}
use Rattle.theory.specs.Command.{readings_from_in, readings_in}
use Rattle.theory.specs.Verdict.{Verdict, Site, refusal, Progress, first_broken, rules_of, after, ended, judged, at_start, verdict, from_to, or, rules_in, judged_in, verdict_in}
use Rattle.theory.specs.Load.{site_at, load, model, model_in}
use Rattle.theory.specs.Solve.{room, solve_in, table_of, rows, SolveOut, solved_nodes, solve_left, early, early_with_peaks, solve}
use Rattle.theory.specs.Value.{Asked, accepted, bits, numerator_of, state_of, node_word, node_linear, high_of, low_of, among_ℤ, good_branches}
use Rattle.theory.specs.Value.{good_condition_row, good_test_row, good_row, taken, ends, walk, ValueOut, refused_value, answered}
use Rattle.theory.specs.Value.{value_at, value_of}
use Rattle.theory.specs.Plain.{Worth, is, nothing, over, state_worth, worth_out, if_true, plain_of}
use Rattle.theory.specs.Staying.{Stays}
use Rattle.theory.specs.Name.{name_refusal}
use Rattle.theory.specs.Listing.{greatest_root, text, written, ListingOut, listing_refusal, listing}
use Rattle.theory.specs.Rows.{Keeps, Range, asks_in, asks_of, WholeIn, Whole, ComesIn, comes_first, comes_next, EndsAtIn, VerdictRowIn, VerdictRow}
use Rattle.theory.specs.Rows.{verdict_0, verdict_3, verdict_2, verdict_2_end, verdict_1_7, verdict_8, Admitted, EarlyRow, early_10, early_9, early_1_8}
use Rattle.theory.specs.Rows.{Room, peaks_10, early_as, SolveRow, solve_0, solve_1_10, solve_11_12, Among, KindFits}
use Rattle.theory.specs.Rows.{fits_leaf, fits_condition, fits_test, fits_none, OnWalk, first_met, then_met, Stated, ValueRow, value_0, value_none}
use Rattle.theory.specs.Rows.{value_1_10, value_13, value_14, value_15, PlainRow, plain_0, plain_1_10, plain_13, plain_11, NameRow, name_0, name_1_10}
use Rattle.theory.specs.Rows.{name_16, Rooted, Tabled, ListingRow, listing_0, listing_1_10, listing_14, listing_15, listing_17}
use Rattle.theory.proofs.laws.Plain.{worth_exact}
use Rattle.theory.proofs.laws.Process.{lowest_best_action}
use Rattle.theory.proofs.laws.PlainLimits.{Fine, answers_stay, stays_answers, over_leaves}
use Rattle.theory.proofs.laws.Rules.{by_rules, kept_zero, broken_number, rules_agree_in, rules_agree}
use Rattle.theory.proofs.laws.Fits.{state_fits, state_accepted, state_refused, node_fits, fits_good, misfits, misfits_bad, part_each, zero_ends, three_ends, ends_kind, kind_other}
use Rattle.theory.proofs.laws.Comps.{run_result, run_all_final}
use Rattle.theory.proofs.laws.Stages.{all_stages_length}
use Rattle.theory.proofs.laws.Refusals.{refused_number, refused_place}
use Rattle.theory.proofs.laws.Chain.{peak_fits, table_fits}
use Rattle.theory.proofs.laws.Peaks.{solved_peaks_length}
use Rattle.theory.proofs.laws.Words.{rows_length, by_kind}
use Rattle.theory.proofs.laws.ValueWalk.{stages_length}
use Rattle.theory.proofs.laws.Valid.{among_in, among_out, other_above}
use Rattle.theory.proofs.laws.AcceptedModel.{positive, behind_in, behind, accepted_site, accepted_valid}

-- ---- tests

-- what a test that holds, or fails, picks
pub if_yes : {A : Type 0} (b : Bool) (x y : A) → T b → if b x y ≡ x
if_yes true x y t = refl
if_yes false x y t = absurd t

pub if_no : {A : Type 0} (b : Bool) (x y : A) → T (not b) → if b x y ≡ y
if_no true x y t = absurd t
if_no false x y t = refl

pub some_not : (n : ℕ) → 1 ≤ n → T (not (eqb n 0))
some_not n h = by_test (eqb n 0) (λ b. T (not b)) (λ t. absurd (omega (arith, eqb→eq n 0 t))) (λ _. tt)

pub zero_is : (n : ℕ) → n ≡ 0 → T (eqb n 0)
zero_is n e = rw e tt

pub not_twice : (b : Bool) → T b → T (not (not b))
not_twice true t = tt
not_twice false t = absurd t

-- ---- the verdict

going_not_end : (c : Command) → T (goes_on (whole c)) → c ≡ end_model → ⊥
unfolding goes_on
going_not_end c t e = subst (λ (c : Command). T (goes_on (whole c))) e t

not_end_going : (c : Command) → (c ≡ end_model → ⊥) → T (goes_on (whole c))
unfolding goes_on
not_end_going (site m n a w) f = tt
not_end_going (push_leaf p) f = tt
not_end_going (push_condition k) f = tt
not_end_going (push_test p) f = tt
not_end_going push_forbidden f = tt
not_end_going (give g) f = tt
not_end_going (name_action a b) f = tt
not_end_going end_model f = absurd (f refl)

module _ (F : Form) (B : List ℕ) where
  -- what is read at an offset, with why
  pub by_read_in : (at : ℕ) (P : Read → Type 0) → (length B ≤ at → P short) → (at < length B → width_in F (byte_at B at) ≡ 0 → P unknown)
      → (at < length B → 1 ≤ width_in F (byte_at B at) → length B < at + width_in F (byte_at B at) → P short) → (WholeIn F B at → P (whole (command_in F B at))) → P (read_in F B at)
  unfolding read_in
  by_read_in at P a b c d =
      let w = width_in F (byte_at B at) in
      let r = if (ltb (length B) (at + w)) short (whole (command_in F B at)) in
      by_test (leb (length B) at) (λ x. P (if x short (if (eqb w 0) unknown r)))
      (λ o. a (leb→le (length B) at o))
      (λ o.
      let l = nleb→lt (length B) at o in
      by_test (eqb w 0) (λ x. P (if x unknown r))
      (λ e. b l (eqb→eq w 0 e))
      (λ n. by_test (ltb (length B) (at + w)) (λ x. P (if x short (whole (command_in F B at))))
      (λ m. c l (positive w n) (ltb→lt (length B) (at + w) m)) (λ m. d (record { known = positive w n; inside = nltb→le (length B) (at + w) m }))))

  -- the byte behind the end, or what the commands behind another one say
  ended_row : (k at : ℕ) (s : Progress) → ComesIn F B at s → WholeIn F B at → (c : Command) → command_in F B at ≡ c → Keeps (asks_in F s c)
      → ((command_in F B at ≡ end_model → ⊥) → VerdictRowIn F B (judged_in F (length B) (after s c) (behind_in F B k at true)))
      → VerdictRowIn F B (ended (length B) at c (judged_in F (length B) (after s c) (behind_in F B k at (goes_on (whole c)))))
  unfolding ended goes_on
  ended_row k at s m w end_model e f ih =
      let d : EndsAtIn F B at = record { so_far = s; comes = m; whole = w; end = e; keeps = f } in
      by_test (ltb (at + 1) (length B)) (λ b. VerdictRowIn F B (if b (refusal 8 (at + 1)) (refusal 0 0)))
      (λ t. verdict_8 d (ltb→lt (at + 1) (length B) t)) (λ t. verdict_0 d (omega (arith, nltb→le (at + 1) (length B) t, w.known, w.inside)))
  ended_row k at s m w (site x n a v) e f ih = ih (λ z. going_not_end (site x n a v) tt (sym e ∙ z))
  ended_row k at s m w (push_leaf p) e f ih = ih (λ z. going_not_end (push_leaf p) tt (sym e ∙ z))
  ended_row k at s m w (push_condition c) e f ih = ih (λ z. going_not_end (push_condition c) tt (sym e ∙ z))
  ended_row k at s m w (push_test p) e f ih = ih (λ z. going_not_end (push_test p) tt (sym e ∙ z))
  ended_row k at s m w push_forbidden e f ih = ih (λ z. going_not_end push_forbidden tt (sym e ∙ z))
  ended_row k at s m w (give g) e f ih = ih (λ z. going_not_end (give g) tt (sym e ∙ z))
  ended_row k at s m w (name_action a b) e f ih = ih (λ z. going_not_end (name_action a b) tt (sym e ∙ z))

  past_row : (at : ℕ) (s : Progress) → ComesIn F B at s → length B ≡ at → VerdictRowIn F B (refusal 2 at)
  past_row at s m e = subst (λ (p : ℕ). ComesIn F B p s → VerdictRowIn F B (refusal 2 p)) e verdict_2_end m

  judged_row : (k at : ℕ) (s : Progress) → ComesIn F B at s → at ≤ length B → length B < at + k → VerdictRowIn F B (judged_in F (length B) s (readings_from_in F B k at))
  unfolding readings_from_in judged_in
  judged_row zero at s m h l = absurd (omega arith)
  judged_row (suc k) at s m h l = by_read_in at (λ r. VerdictRowIn F B (judged_in F (length B) s (record { at = at; read = r } ∷ behind_in F B k at (goes_on r))))
      (λ g. past_row at s m (omega arith))
      (λ g e. verdict_3 m g e)
      (λ g e f. verdict_2 m g e f)
      (λ w.
      let c = command_in F B at in
      let n = first_broken (rules_in F s c) in
      let rest = ended (length B) at c (judged_in F (length B) (after s c) (behind_in F B k at (goes_on (whole c)))) in
      ⊎_elim
      (λ d. subst (VerdictRowIn F B) (sym (if_yes (eqb n 0) rest (refusal n at) (zero_is n d.0)))
      (ended_row k at s m w c refl d.1 (λ z. judged_row k (at + width_in F (byte_at B at)) (after s c) (comes_next m w d.1 z) w.inside (omega (arith, w.known)))))
      (λ d. subst (VerdictRowIn F B) (sym (if_no (eqb n 0) rest (refusal n at) (some_not n d.0))) (verdict_1_7 m w d.1))
      (by_rules (rules_in F s c) (asks_in F s c) (rules_agree_in F s c)))

  pub verdict_row_in : VerdictRowIn F B (verdict_in F B)
  unfolding verdict_in readings_in
  verdict_row_in = judged_row (suc (length B)) 0 at_start comes_first (omega arith) (omega arith)

  -- ---- a row decides

  abbrev from : ℕ → ℕ → Progress → Read → Verdict
  from k at s r = judged_in F (length B) s (record { at = at; read = r } ∷ behind_in F B k at (goes_on r))

  pub read_whole_in : (at : ℕ) → WholeIn F B at → read_in F B at ≡ whole (command_in F B at)
  read_whole_in at w = by_read_in at (λ r. r ≡ whole (command_in F B at)) (λ g. absurd (omega (arith, w.known, w.inside))) (λ g e. absurd (omega (arith, w.known)))
      (λ g e f. absurd (omega (arith, w.inside))) (λ _. refl)

  judged_whole : (k at : ℕ) (s : Progress) → WholeIn F B at → judged_in F (length B) s (readings_from_in F B (suc k) at) ≡ from k at s (whole (command_in F B at))
  unfolding readings_from_in
  judged_whole k at s w = ap (from k at s) (read_whole_in at w)

  pub ended_going_in : (k at : ℕ) (s : Progress) (c : Command) → T (goes_on (whole c))
      → ended (length B) at c (judged_in F (length B) (after s c) (behind_in F B k at (goes_on (whole c)))) ≡ judged_in F (length B) (after s c) (behind_in F B k at true)
  unfolding ended goes_on
  ended_going_in k at s (site x n a v) t = refl
  ended_going_in k at s (push_leaf p) t = refl
  ended_going_in k at s (push_condition c) t = refl
  ended_going_in k at s (push_test p) t = refl
  ended_going_in k at s push_forbidden t = refl
  ended_going_in k at s (give g) t = refl
  ended_going_in k at s (name_action a b) t = refl
  ended_going_in k at s end_model t = absurd t

  kept_judged : (k at : ℕ) (s : Progress) (c : Command) → Keeps (asks_in F s c)
      → from k at s (whole c) ≡ ended (length B) at c (judged_in F (length B) (after s c) (behind_in F B k at (goes_on (whole c))))
  unfolding judged_in
  kept_judged k at s c f =
      let n = first_broken (rules_in F s c) in
      if_yes (eqb n 0) _ (refusal n at) (zero_is n (kept_zero (rules_in F s c) (asks_in F s c) (rules_agree_in F s c) f))

  -- the verdict from a command that comes
  abbrev Reaches : ℕ → Progress → Type 0
  Reaches at s = (k : ℕ) × ((at ≤ length B) × ((length B < at + k) × (verdict_in F B ≡ judged_in F (length B) s (readings_from_in F B k at))))

  onward : (k at : ℕ) (s : Progress) → WholeIn F B at → Keeps (asks_in F s (command_in F B at)) → (command_in F B at ≡ end_model → ⊥) → length B < at + k
      → verdict_in F B ≡ judged_in F (length B) s (readings_from_in F B k at) → Reaches (at + width_in F (byte_at B at)) (after s (command_in F B at))
  onward zero at s w f n l e = absurd (omega (arith, w.known, w.inside))
  onward (suc k) at s w f n l e = (
    k,
    (
      w.inside,
      (
        omega (arith, w.known),
        e ∙ judged_whole k at s w ∙ kept_judged k at s (command_in F B at) f ∙ ended_going_in k at s (command_in F B at) (not_end_going (command_in F B at) n),
      ),
    ),
  )

  reaches : {at : ℕ} {s : Progress} → ComesIn F B at s → Reaches at s
  unfolding verdict_in readings_in
  reaches comes_first = (suc (length B), (omega arith, (omega arith, refl)))
  reaches (comes_next {at = at} {s = s} m w f n) = let r = reaches m in onward r.0 at s w f n r.1.1.0 r.1.1.1

  here : {at : ℕ} {s : Progress} → ComesIn F B at s → (k : ℕ) × (verdict_in F B ≡ from k at s (read_in F B at))
  unfolding readings_from_in
  here {at} {s} m = let r = reaches m in go r.0 r.1.0 r.1.1.0 r.1.1.1
    where
      go : (k : ℕ) → at ≤ length B → length B < at + k → verdict_in F B ≡ judged_in F (length B) s (readings_from_in F B k at) → (k : ℕ) × (verdict_in F B ≡ from k at s (read_in F B at))
      go zero h l e = absurd (omega arith)
      go (suc k) h l e = (k, e)

  end_verdict : (at : ℕ) → EndsAtIn F B at → verdict_in F B ≡ if (ltb (at + 1) (length B)) (refusal 8 (at + 1)) (refusal 0 0)
  unfolding ended
  end_verdict at d =
      let r = here d.comes in
      r.1 ∙ ap (from r.0 at d.so_far) (read_whole_in at d.whole ∙ ap whole d.end) ∙ kept_judged r.0 at d.so_far end_model d.keeps

  -- the verdict is each of its rows
  pub verdict_is_in : {v : Verdict} → VerdictRowIn F B v → verdict_in F B ≡ v
  unfolding judged_in
  verdict_is_in (verdict_0 {at = at} d e) = end_verdict at d ∙ by_test (ltb (at + 1) (length B)) (λ b. if b (refusal 8 (at + 1)) (refusal 0 0) ≡ refusal 0 0)
      (λ t. absurd (omega (arith, ltb→lt (at + 1) (length B) t))) (λ _. refl)
  verdict_is_in (verdict_8 {at = at} d l) = end_verdict at d ∙ by_test (ltb (at + 1) (length B)) (λ b. if b (refusal 8 (at + 1)) (refusal 0 0) ≡ refusal 8 (at + 1))
      (λ _. refl) (λ t. absurd (omega (arith, nltb→le (at + 1) (length B) t)))
  verdict_is_in (verdict_3 {at = at} {s = s} m l e) = let r = here m in r.1 ∙ by_read_in at (λ x. from r.0 at s x ≡ refusal 3 at)
      (λ g. absurd (omega arith)) (λ _ _. refl) (λ g h _. absurd (omega arith)) (λ w. absurd (omega (arith, w.known)))
  verdict_is_in (verdict_2 {at = at} {s = s} m l e f) = let r = here m in r.1 ∙ by_read_in at (λ x. from r.0 at s x ≡ refusal 2 at)
      (λ _. refl) (λ g h. absurd (omega arith)) (λ _ _ _. refl) (λ w. absurd (omega (arith, w.inside)))
  verdict_is_in (verdict_2_end {s = s} m) = let r = here m in r.1 ∙ by_read_in (length B) (λ x. from r.0 (length B) s x ≡ refusal 2 (length B))
      (λ _. refl) (λ g h. absurd (omega arith)) (λ _ _ _. refl) (λ w. absurd (omega (arith, w.known, w.inside)))
  verdict_is_in (verdict_1_7 {k = k} {at = at} {s = s} m w d) =
      let r = here m in
      let c = command_in F B at in
      let n = first_broken (rules_in F s c) in
      let i = broken_number (rules_in F s c) (asks_in F s c) (rules_agree_in F s c) k d in
      r.1 ∙ ap (from r.0 at s) (read_whole_in at w) ∙ if_no (eqb n 0) _ (refusal n at) (some_not n (omega (arith, i.0, i.1))) ∙ ap (λ (n : ℕ). refusal n at) i.0

  -- a row's place is at most the length
  pub place_inside_in : {v : Verdict} → VerdictRowIn F B v → v.place ≤ length B
  place_inside_in (verdict_0 d e) = omega arith
  place_inside_in (verdict_3 m l e) = omega arith
  place_inside_in (verdict_2 m l e f) = omega arith
  place_inside_in (verdict_2_end m) = omega arith
  place_inside_in (verdict_1_7 {at = at} m w d) = omega (arith, w.known, w.inside)
  place_inside_in (verdict_8 d l) = omega arith

-- ---- the form that the planner reads

pub by_read : (B : List ℕ) (at : ℕ) (P : Read → Type 0) → (length B ≤ at → P short) → (at < length B → width (byte_at B at) ≡ 0 → P unknown)
    → (at < length B → 1 ≤ width (byte_at B at) → length B < at + width (byte_at B at) → P short) → (Whole B at → P (whole (command_at B at))) → P (read_at B at)
by_read = by_read_in new_form

pub ended_going : (B : List ℕ) (k at : ℕ) (s : Progress) (c : Command) → T (goes_on (whole c))
    → ended (length B) at c (judged (length B) (after s c) (behind B k at (goes_on (whole c)))) ≡ judged (length B) (after s c) (behind B k at true)
ended_going = ended_going_in new_form

pub verdict_row : (B : List ℕ) → VerdictRow B (verdict B)
verdict_row = verdict_row_in new_form

pub verdict_is : (B : List ℕ) {v : Verdict} → VerdictRow B v → verdict B ≡ v
verdict_is B r = verdict_is_in new_form B r

pub place_inside : (B : List ℕ) {v : Verdict} → VerdictRow B v → v.place ≤ length B
place_inside B r = place_inside_in new_form B r

-- ---- what every call that takes a model goes through first

-- neither 10 nor 9 nor a number of the model's own
pub record Passed (B : List ℕ) (steps size : ℕ) : Type 0 where
  pub eight : size ≡ steps_most
  pub least : 1 ≤ steps
  pub most : steps ≤ steps_most
  pub bytes : length B ≤ bytes_most
  pub own : (verdict B).number ≡ 0

pub zero_row_in : (F : Form) {B : List ℕ} {v : Verdict} → VerdictRowIn F B v → v.number ≡ 0 → VerdictRowIn F B (refusal 0 0)
zero_row_in F (verdict_0 d e) z = verdict_0 d e
zero_row_in F (verdict_3 m l e) z = absurd (omega arith)
zero_row_in F (verdict_2 m l e f) z = absurd (omega arith)
zero_row_in F (verdict_2_end m) z = absurd (omega arith)
zero_row_in F {B} (verdict_1_7 {k = k} {at = at} {s = s} m w d) z =
    let i = broken_number (rules_in F s (command_in F B at)) (asks_in F s (command_in F B at)) (rules_agree_in F s (command_in F B at)) k d in
    absurd (omega (arith, i.1))
zero_row_in F (verdict_8 d l) z = absurd (omega arith)

pub admitted : {B : List ℕ} {steps size : ℕ} → Passed B steps size → Admitted B steps size
admitted {B} p = record { eight = p.eight; bytes = p.bytes; horizon = (p.least, p.most); own = zero_row_in new_form (verdict_row B) p.own }

module _ (B : List ℕ) (steps size : ℕ) (P : Verdict → Bool → Type 0) (pass : Passed B steps size → P (refusal 0 0) true) (stop : (k p : ℕ) → EarlyRow B steps size k p → P (refusal k p) false) where
  abbrev Goal : Verdict → Type 0
  Goal v = P v (eqb v.number 0)

  module _ (eight : size ≡ steps_most) (bytes : length B ≤ bytes_most) (least : 1 ≤ steps) (most : steps ≤ steps_most) where
    some_row : (k p : ℕ) → VerdictRow B (refusal k p) → 1 ≤ k → Goal (refusal k p)
    some_row k p r a = subst (P (refusal k p)) (sym (ne_eqb k 0 (λ z. omega arith))) (stop k p (early_1_8 eight bytes (least, most) r a))

    own_row : (v : Verdict) → VerdictRow B v → verdict B ≡ v → Goal v
    own_row v (verdict_0 d z) e = pass (record { eight = eight; least = least; most = most; bytes = bytes; own = ap (λ v. v.number) e })
    own_row v (verdict_3 {at = at} m l z) e = some_row 3 at (verdict_3 m l z) (omega arith)
    own_row v (verdict_2 {at = at} m l z f) e = some_row 2 at (verdict_2 m l z f) (omega arith)
    own_row v (verdict_2_end m) e = some_row 2 (length B) (verdict_2_end m) (omega arith)
    own_row v (verdict_1_7 {k = k} {at = at} {s = s} m w d) e =
        some_row k at (verdict_1_7 m w d) (broken_number (rules_of s (command_at B at)) (asks_of s (command_at B at)) (rules_agree s (command_at B at)) k d).1
    own_row v (verdict_8 {at = at} d l) e = some_row 8 (at + 1) (verdict_8 d l) (omega arith)

  -- a call goes on, or is refused by a row that all have
  pub by_early : P (early B steps size) (eqb (early B steps size).number 0)
  unfolding early
  by_early =
      let rest : Bool → Verdict = λ b. if (not b) (refusal 9 0) (verdict B) in
      by_test (eqb size steps_most) (λ b. Goal (if (or (not b) (ltb bytes_most (length B))) (refusal 10 0) (rest (among steps_most steps))))
      (λ s. by_test (ltb bytes_most (length B)) (λ b. Goal (if b (refusal 10 0) (rest (among steps_most steps))))
      (λ t. stop 10 0 (early_10 (λ _ b. omega (arith, ltb→lt bytes_most (length B) t))))
      (λ t. by_test (among steps_most steps) (λ b. Goal (rest b))
      (λ u.
      let i = among_out steps_most steps u in
      own_row (eqb→eq size steps_most s) (nltb→le bytes_most (length B) t) i.0 i.1 (verdict B) (verdict_row B) refl)
      (λ u. stop 9 0 (early_9 (eqb→eq size steps_most s) (nltb→le bytes_most (length B) t) (λ d. T_not (among steps_most steps) u (among_in steps_most steps d.0 d.1))))))
      (λ s. stop 10 0 (early_10 (λ a _. T_not (eqb size steps_most) s (rw a (eqb_refl steps_most)))))

pub early_some : {B : List ℕ} {steps size k p : ℕ} → EarlyRow B steps size k p → 1 ≤ k
early_some (early_10 f) = omega arith
early_some (early_9 e b f) = omega arith
early_some (early_1_8 e b h r a) = a

-- what passes is not refused
pub passed_not : {B : List ℕ} {steps size k p : ℕ} → Passed B steps size → EarlyRow B steps size k p → ⊥
passed_not d (early_10 f) = f d.eight d.bytes
passed_not d (early_9 e b f) = f (d.least, d.most)
passed_not {B = B} d (early_1_8 {k = k} e b h r a) = let z : k ≡ 0 = ap (λ v. v.number) (sym (verdict_is B r)) ∙ d.own in omega arith

-- ---- .. and a row decides

module _ (B : List ℕ) (steps size : ℕ) where
  past_ten : size ≡ steps_most → length B ≤ bytes_most → early B steps size ≡ if (not (among steps_most steps)) (refusal 9 0) (verdict B)
  unfolding early
  past_ten e h =
      let rest : Verdict = if (not (among steps_most steps)) (refusal 9 0) (verdict B) in
      by_test (eqb size steps_most) (λ b. if (or (not b) (ltb bytes_most (length B))) (refusal 10 0) rest ≡ rest)
      (λ _. if_no (ltb bytes_most (length B)) (refusal 10 0) rest (by_test (ltb bytes_most (length B)) (λ b. T (not b)) (λ t. absurd (omega (arith, ltb→lt bytes_most (length B) t))) (λ _. tt)))
      (λ t. absurd (T_not (eqb size steps_most) t (rw e (eqb_refl steps_most))))

  past_nine : size ≡ steps_most → length B ≤ bytes_most → Range 1 steps_most steps → early B steps size ≡ verdict B
  past_nine e h d = past_ten e h ∙ by_test (among steps_most steps) (λ b. if (not b) (refusal 9 0) (verdict B) ≡ verdict B) (λ _. refl) (λ t. absurd (T_not (among steps_most steps) t (among_in steps_most steps d.0 d.1)))

  early_row_is : {k p : ℕ} → EarlyRow B steps size k p → early B steps size ≡ refusal k p
  unfolding early
  early_row_is (early_10 f) =
      let rest : Verdict = if (not (among steps_most steps)) (refusal 9 0) (verdict B) in
      by_test (eqb size steps_most) (λ b. if (or (not b) (ltb bytes_most (length B))) (refusal 10 0) rest ≡ refusal 10 0)
      (λ s. by_test (ltb bytes_most (length B)) (λ b. if b (refusal 10 0) rest ≡ refusal 10 0) (λ _. refl) (λ t. absurd (f (eqb→eq size steps_most s) (nltb→le bytes_most (length B) t))))
      (λ _. refl)
  early_row_is (early_9 e h f) = past_ten e h ∙ by_test (among steps_most steps) (λ b. if (not b) (refusal 9 0) (verdict B) ≡ refusal 9 0) (λ t. absurd (f (among_out steps_most steps t))) (λ _. refl)
  early_row_is (early_1_8 e h d r a) = past_nine e h d ∙ verdict_is B r

pub early_is : {B : List ℕ} {steps size k p : ℕ} → EarlyRow B steps size k p → early B steps size ≡ refusal k p
early_is {B} {steps} {size} r = early_row_is B steps size r

pub admitted_is : {B : List ℕ} {steps size : ℕ} → Admitted B steps size → early B steps size ≡ refusal 0 0
admitted_is {B} {steps} {size} d = past_nine B steps size d.eight d.bytes d.horizon ∙ verdict_is B d.own

-- ---- solve

room_nodes : (nodes work : ℕ) → room nodes work * node_words ≤ nodes
unfolding room
room_nodes nodes work = omega (arith, min-le_left (nodes / node_words) (min (work / work_words) nodes_most), div-mul-le_self nodes node_words)

pub room_holds : (nodes work : ℕ) → Room nodes work (room nodes work)
unfolding room
room_holds nodes work =
    let W = min (work / work_words) nodes_most in
    let a = min-le_right (nodes / node_words) W in
    let b = min-le_left (work / work_words) nodes_most in
    let c = min-le_right (work / work_words) nodes_most in
    record {
      in_nodes = room_nodes nodes work;
      in_work = omega (arith, a, b, div-mul-le_self work work_words);
      most = omega (arith, a, c);
      no_more = λ k l m n. le-min ((le-div_iff_mul-le {k = node_words} {x = k} {y = nodes} (omega arith)).1 l) (le-min ((le-div_iff_mul-le {k = work_words} {x = k} {y = work} (omega arith)).1 m) n);
    }

pub room_is : {nodes work N : ℕ} → Room nodes work N → room nodes work ≡ N
room_is {nodes} {work} {N} r =
    let h = room_holds nodes work in
    omega (arith, r.no_more (room nodes work) h.in_nodes h.in_work h.most, h.no_more N r.in_nodes r.in_work r.most)

-- the rows of the table lie within the words that are lent
pub nodes_length : (size : ℕ) (S : List Tree) → length (table_of S) * node_words ≤ size → length (solved_nodes size S) ≡ size
unfolding solved_nodes
nodes_length size S h =
    let R = rows (table_of S) (table_of S) in
    length-append R (replicate (size - length R) (pos 0)) ∙ omega (arith, rows_length (table_of S) (table_of S), length-replicate {A = ℤ} (size - length R) (pos 0))

-- the stages of a solve are run as operations of the model that the bytes spell
pub solve_runs : (N : ℕ) (B : List ℕ) (H : ℕ) (S : List Tree) (peak : ℕ) → solve_in N B H ≡ solved S peak → (p : ℕ) × (run_all N p (all_stages (model B) H) ≡ solved S peak)
unfolding solve_in model_in
solve_runs N B H S peak = go (run N (load B) []) refl
  where
    go : (o : Out Model) → run N (load B) [] ≡ o → elim o [ done M X ↦ run_all N (length X) (all_stages M H) | stopped r ↦ refused r 0 ] ≡ solved S peak
        → (p : ℕ) × (run_all N p (all_stages (result (load B)) H) ≡ solved S peak)
    go (done M X) q e = (length X, subst (λ M. run_all N (length X) (all_stages M H) ≡ solved S peak) (run_result N (load B) [] X M q) e)
    go (stopped r) q e = absurd (let z : ◌≡◌ {A = ℕ} 0 1 = cc in omega arith)

-- as many stages as the horizon says
pub solved_length : (N : ℕ) (B : List ℕ) (H : ℕ) (S : List Tree) (peak : ℕ) → solve_in N B H ≡ solved S peak → length S ≡ H
solved_length N B H S peak e =
    let r = solve_runs N B H S peak e in
    ap length (run_all_final N r.0 (all_stages (model B) H) S peak r.1) ∙ all_stages_length (model B) H

module _ (B : List ℕ) (H : ℕ) (nodes : List ℤ) (stages work peaks : List ℕ) where
  abbrev N : ℕ
  N = room (length nodes) (length work)

  left_row : length peaks ≡ peak_words → Passed B H (length stages) → (o : Solved (List Tree)) → solve_in N B H ≡ o → SolveRow B H nodes stages work peaks (solve_left B H nodes stages work peaks o)
  unfolding solve_left
  left_row w p (solved S peak) e =
      let f = table_fits N B H p.own S peak e in
      let d = peak_fits N B H S peak p.own e in
      let r = room_nodes (length nodes) (length work) in
      solve_0 (record { admitted = admitted p; words = w }) (room_holds (length nodes) (length work)) e (nodes_length (length nodes) S (omega arith))
      (stages_length S (omega (arith, solved_length N B H S peak e, p.most)) ∙ sym p.eight) (solved_peaks_length B H ∙ sym w)
  left_row w p (refused r h) e =
      solve_11_12 (record { admitted = admitted p; words = w }) (room_holds (length nodes) (length work)) e (refused_number N B H r h e) (refused_place N B H r h p.least e)

  from_early : Verdict → SolveOut
  from_early v = if (eqb v.number 0) (solve_left B H nodes stages work peaks (solve_in N B H)) (record { number = v.number; place = v.place; peak = 0; nodes = nodes; stages = stages; work = work; peaks = peaks })

  pub solve_row : SolveRow B H nodes stages work peaks (solve B H nodes stages work peaks)
  unfolding solve early_with_peaks from_early
  solve_row = by_test (eqb (length peaks) peak_words) (λ b. SolveRow B H nodes stages work peaks (from_early (if b (early B H (length stages)) (refusal 10 0))))
      (λ t. let w = eqb→eq (length peaks) peak_words t in by_early B H (length stages)
      (λ v b. SolveRow B H nodes stages work peaks (if b (solve_left B H nodes stages work peaks (solve_in N B H)) (record { number = v.number; place = v.place; peak = 0; nodes = nodes; stages = stages; work = work; peaks = peaks })))
      (λ p. left_row w p (solve_in N B H) refl) (λ k p r. solve_1_10 (early_as w r)))
      (λ t. solve_1_10 (peaks_10 (λ w. T_not (eqb (length peaks) peak_words) t (rw w (eqb_refl peak_words)))))

  counted : length peaks ≡ peak_words → solve B H nodes stages work peaks ≡ from_early (early B H (length stages))
  unfolding solve early_with_peaks from_early
  counted w = ap from_early (if_yes (eqb (length peaks) peak_words) (early B H (length stages)) (refusal 10 0) (rw w (eqb_refl peak_words)))

  -- solve is each of its rows
  pub solve_is : {o : SolveOut} → SolveRow B H nodes stages work peaks o → solve B H nodes stages work peaks ≡ o
  unfolding solve early_with_peaks from_early solve_left
  solve_is (solve_0 a r e _ _ _) = counted a.words ∙ ap from_early (admitted_is a.admitted) ∙ ap (λ (n : ℕ). solve_left B H nodes stages work peaks (solve_in n B H)) (room_is r) ∙ ap (solve_left B H nodes stages work peaks) e
  solve_is (solve_11_12 a r e _ _) = counted a.words ∙ ap from_early (admitted_is a.admitted) ∙ ap (λ (n : ℕ). solve_left B H nodes stages work peaks (solve_in n B H)) (room_is r) ∙ ap (solve_left B H nodes stages work peaks) e
  solve_is (solve_1_10 (early_as {k = k} w r)) = counted w ∙ ap from_early (early_is r) ∙ if_no (eqb k 0) _ _ (some_not k (early_some r))
  solve_is (solve_1_10 (peaks_10 f)) = ap from_early (if_no (eqb (length peaks) peak_words) (early B H (length stages)) (refusal 10 0) (no_test (length peaks) f))
    where
      no_test : (n : ℕ) → (n ≡ 401 → ⊥) → T (not (eqb n peak_words))
      no_test n f = by_test (eqb n peak_words) (λ b. T (not b)) (λ t. absurd (f (eqb→eq n peak_words t))) (λ _. tt)

-- ---- value

among_ℤ_out : (n : ℕ) (z : ℤ) → T (among_ℤ n z) → (1 ≤ nat_abs z) × (nat_abs z ≤ n)
unfolding among_ℤ
among_ℤ_out n (pos k) t = let d = both (leb 1 k) (leb k n) t in (leb→le 1 k d.0, leb→le k n d.1)
among_ℤ_out n (negsuc k) t = absurd t

pick_first : (b x y : Bool) → T (if b x y) → T b → T x
pick_first true x y t u = t
pick_first false x y t u = absurd u

pick_rest : (b x c y d z e w : Bool) {A : Type 0} → (T y → A) → (T z → A) → T (if b x (if c y (if d z (if e w false)))) → T (not (or b e)) → A
pick_rest true x c y d z e w f g t u = absurd u
pick_rest false x true y d z e w f g t u = f t
pick_rest false x false y true z e w f g t u = g t
pick_rest false x false y false z true w f g t u = absurd u
pick_rest false x false y false z false w f g t u = absurd t

module _ (n A : ℕ) (q : Asked) (W : List ℤ) where
  condition_branches : (r : ℕ) → T (good_condition_row n W r) → T (good_branches W r)
  unfolding good_condition_row
  condition_branches r t =
      (both (zeros (take levels_most (drop ((r - 1) * node_words + 2) W))) (good_branches W r) (both (among_ℤ n (node_word W r 1)) _ t).1).1

  test_branches : (r : ℕ) → T (good_test_row W r) → T (good_branches W r)
  unfolding good_test_row
  test_branches r t = (both (small_linear (node_linear W r)) (good_branches W r) t).1

  good_inner : (r : ℕ) → T (good_row n A W r) → T (not (ends (nat_abs (node_word W r 0)))) → T (good_branches W r)
  unfolding good_row ends
  good_inner r t = go (node_word W r 0) (both (leb (r * node_words) (length W)) _ t).1
    where
      go : (z : ℤ) → T (by_kind n A W r z) → T (not (ends (nat_abs z))) → T (good_branches W r)
      go (pos k) t u = pick_rest (eqb k 0) _ (eqb k 1) _ (eqb k 2) _ (eqb k 3) _ (condition_branches r) (test_branches r) t u
      go (negsuc k) t u = absurd t

  -- the branch taken lies from 1 to below its node
  taken_below : (r : ℕ) → 1 ≤ r → T (good_row n A W r) → T (not (ends (nat_abs (node_word W r 0)))) → (1 ≤ taken n q W r) × (taken n q W r < r)
  unfolding taken good_branches
  taken_below r a t u =
      let d = both (among_ℤ (r - 1) (high_of W r)) (among_ℤ (r - 1) (low_of W r)) (good_inner r t u) in
      let h = among_ℤ_out (r - 1) (high_of W r) d.0 in
      let l = among_ℤ_out (r - 1) (low_of W r) d.1 in
      by_test (if (eqb (nat_abs (node_word W r 0)) 1) (nth (bits n q.mask) (nat_abs (node_word W r 1))) (le_z (numerator_of q (node_linear W r)) (pos 0)))
      (λ b. (1 ≤ nat_abs (if b (high_of W r) (low_of W r))) × (nat_abs (if b (high_of W r) (low_of W r)) < r))
      (λ _. (h.0, omega (arith, h.1))) (λ _. (l.0, omega (arith, l.1)))

  module _ (root : ℕ) where
    -- at a node that is refused, or at a leaf that is not
    abbrev Ends : ℕ → Type 0
    Ends w = ((w ≡ 0) × ((r : ℕ) × (OnWalk n A q W root r × T (not (good_row n A W r))))) ⊎ ((1 ≤ w) × (OnWalk n A q W root w × (T (good_row n A W w) × T (ends (nat_abs (node_word W w 0))))))

    walk_ends : (k r : ℕ) → OnWalk n A q W root r → 1 ≤ r → r ≤ k → Ends (walk n A q W k r)
    unfolding walk
    walk_ends zero r m a b = absurd (omega arith)
    walk_ends (suc k) r m a b = by_test (good_row n A W r) (λ z. Ends (elim z [ true ↦ if (ends (nat_abs (node_word W r 0))) r (walk n A q W k (taken n q W r)) | false ↦ 0 ]))
        (λ g. by_test (ends (nat_abs (node_word W r 0))) (λ z. Ends (if z r (walk n A q W k (taken n q W r))))
        (λ e. inr (a, (m, (g, e))))
        (λ e. let i = taken_below r a g e in walk_ends k (taken n q W r) (then_met m (node_fits n A W r g) (λ z. T_not (ends (nat_abs (node_word W r 0))) e (zero_ends (node_word W r 0) z))
        (λ z. T_not (ends (nat_abs (node_word W r 0))) e (three_ends (node_word W r 0) z))) i.0 (omega (arith, i.1))))
        (λ g. inl (refl, (r, (m, g))))

    -- ---- the walk goes through the nodes that are met

    walk_on : (k r : ℕ) → T (good_row n A W r) → T (not (ends (nat_abs (node_word W r 0)))) → walk n A q W (suc k) r ≡ walk n A q W k (taken n q W r)
    unfolding walk
    walk_on k r g z = by_test (good_row n A W r) (λ b. elim b [ true ↦ if (ends (nat_abs (node_word W r 0))) r (walk n A q W k (taken n q W r)) | false ↦ 0 ] ≡ walk n A q W k (taken n q W r))
        (λ _. if_no (ends (nat_abs (node_word W r 0))) r _ z) (λ t. absurd (T_not (good_row n A W r) t g))

    walk_leaf : (k r : ℕ) → T (good_row n A W r) → T (ends (nat_abs (node_word W r 0))) → walk n A q W (suc k) r ≡ r
    unfolding walk
    walk_leaf k r g z = by_test (good_row n A W r) (λ b. elim b [ true ↦ if (ends (nat_abs (node_word W r 0))) r (walk n A q W k (taken n q W r)) | false ↦ 0 ] ≡ r)
        (λ _. if_yes (ends (nat_abs (node_word W r 0))) r _ z) (λ t. absurd (T_not (good_row n A W r) t g))

    walk_bad : (k r : ℕ) → T (not (good_row n A W r)) → walk n A q W (suc k) r ≡ 0
    unfolding walk
    walk_bad k r g = by_test (good_row n A W r) (λ b. ◌≡◌ {A = ℕ} (elim b [ true ↦ if (ends (nat_abs (node_word W r 0))) r (walk n A q W k (taken n q W r)) | false ↦ 0 ]) 0)
        (λ t. absurd (T_not (good_row n A W r) g t)) (λ _. refl)

    -- what is left of the walk at a node that is met
    abbrev Left : ℕ → Type 0
    Left r = (k : ℕ) × ((1 ≤ r) × ((r ≤ suc k) × (walk n A q W root root ≡ walk n A q W (suc k) r)))

    walk_left : {r : ℕ} → 1 ≤ root → OnWalk n A q W root r → Left r
    walk_left h first_met = at_root root h refl
      where
        at_root : (x : ℕ) → 1 ≤ x → x ≡ root → Left root
        at_root zero l e = absurd (omega arith)
        at_root (suc k) l e = (k, (h, (omega arith, ap (λ (j : ℕ). walk n A q W j root) (sym e))))
    walk_left h (then_met {r = r} m f o p) = let d = walk_left h m in next d.0 d.1.0 d.1.1.0 d.1.1.1
      where
        g : T (good_row n A W r)
        g = fits_good n A W r f

        z : T (not (ends (nat_abs (node_word W r 0))))
        z = kind_other n A W r f o p

        next : (k : ℕ) → 1 ≤ r → r ≤ suc k → walk n A q W root root ≡ walk n A q W (suc k) r → Left (taken n q W r)
        next zero a b e = let i = taken_below r a g z in absurd (omega (arith, i.0, i.1))
        next (suc k) a b e = let i = taken_below r a g z in (k, (i.0, (omega (arith, i.1), e ∙ walk_on (suc k) r g z)))

    walk_read : {r : ℕ} → 1 ≤ root → OnWalk n A q W root r → T (good_row n A W r) → T (ends (nat_abs (node_word W r 0))) → (walk n A q W root root ≡ r) × (1 ≤ r)
    walk_read {r} h m g z = let d = walk_left h m in (d.1.1.1 ∙ walk_leaf d.0 r g z, d.1.0)

    walk_refused : {r : ℕ} → 1 ≤ root → OnWalk n A q W root r → T (not (good_row n A W r)) → walk n A q W root root ≡ 0
    walk_refused {r} h m g = let d = walk_left h m in d.1.1.1 ∙ walk_bad d.0 r g

other_kind : (a b : ℕ) → pos a ≡ pos b → (a ≡ b → ⊥) → ⊥
other_kind a b e n = n (ap nat_abs e)

among_range : (n : ℕ) (z : ℤ) → Among n z → Range 1 n (nat_abs z)
unfolding among_ℤ
among_range n z d = let h = among_ℤ_out n z (and_in (le_z (pos 1) z) (le_z z (pos n)) d.0.le d.1.le) in (h.0, h.1)

dot_zeros_left : (c x : List ℤ) → ((i : ℕ) → get_or c i (pos 0) ≡ pos 0) → dot c x ≡ pos 0
unfolding dot
dot_zeros_left [] x f = refl
dot_zeros_left (c ∷ cs) [] f = refl
dot_zeros_left (c ∷ cs) (y ∷ x) f = ap₂ ◌+ℤ◌ (ap (λ (z : ℤ). z *ℤ y) (f 0) ∙ zero-*ℤ y) (dot_zeros_left cs x (λ i. f (suc i)))

-- a row of zeros has the numerator 0
numerator_zero : (q : Asked) (W : List ℤ) (r : ℕ) → ((i : ℕ) → Range 1 11 i → node_word W r i ≡ pos 0) → numerator_of q (node_linear W r) ≡ pos 0
unfolding numerator_of node_linear
numerator_zero q W r f =
    let b = (r - 1) * node_words in
    ap₂ ◌+ℤ◌ (dot_zeros_left _ q.nums (part_each (λ z. z ≡ pos 0) refl levels_most (b + 1) W (λ i h. ap (λ (j : ℕ). get_or W j (pos 0)) (next b i) ∙ f (suc i) (omega arith, omega arith))))
    (ap (λ (z : ℤ). z *ℤ q.den) (f (levels_most + 1) (omega arith, omega arith)) ∙ zero-*ℤ q.den)
  where
    next : (b i : ℕ) → b + 1 + i ≡ b + suc i
    next b i = omega arith

module _ (B : List ℕ) (nodes : List ℤ) (stages : List ℕ) (steps : ℕ) (q : Asked) where
  abbrev S : Site
  S = site_at B

  abbrev root : ℕ
  root = get_or stages (steps - 1) 0

  leaf_action : (r : ℕ) → node_word nodes r 0 ≡ pos 0 → KindFits S.conditions S.actions nodes r → Range 1 S.actions (nat_abs (high_of nodes r))
  leaf_action r e (fits_leaf _ _ a _) = among_range S.actions (high_of nodes r) a
  leaf_action r e (fits_condition k _ _ _) = absurd (other_kind 0 1 (sym e ∙ k) (omega arith))
  leaf_action r e (fits_test k _ _) = absurd (other_kind 0 2 (sym e ∙ k) (omega arith))
  leaf_action r e (fits_none k _) = absurd (other_kind 0 3 (sym e ∙ k) (omega arith))

  none_zeros : (r : ℕ) → node_word nodes r 0 ≡ pos 3 → KindFits S.conditions S.actions nodes r → (i : ℕ) → Range 1 11 i → node_word nodes r i ≡ pos 0
  none_zeros r e (fits_none _ f) = f
  none_zeros r e (fits_leaf k _ _ _) = absurd (other_kind 3 0 (sym e ∙ k) (omega arith))
  none_zeros r e (fits_condition k _ _ _) = absurd (other_kind 3 1 (sym e ∙ k) (omega arith))
  none_zeros r e (fits_test k _ _) = absurd (other_kind 3 2 (sym e ∙ k) (omega arith))

  -- the words of a leaf "none" read as none
  none_words : (r : ℕ) → ((i : ℕ) → Range 1 11 i → node_word nodes r i ≡ pos 0)
      → record { number = 0; place = 0; action = nat_abs (high_of nodes r); numerator = words (numerator_of q (node_linear nodes r)) } ≡ answered no_total 0
  unfolding answered
  none_words r f = (λ i. record { number = 0; place = 0; action = nat_abs (f 10 (omega arith, omega arith) i); numerator = words (numerator_zero q nodes r f i) })

  read_row : Stated B nodes stages steps q → 1 ≤ root → (w : ℕ) → Ends S.conditions S.actions q nodes root w → ValueRow B nodes stages steps q (value_at q nodes w)
  unfolding value_at
  read_row st l w (inl d) = subst (λ (w : ℕ). ValueRow B nodes stages steps q (value_at q nodes w)) (sym d.0) (value_14 st l d.1.1.0 (misfits _ _ nodes _ d.1.1.1))
  read_row st l w (inr d) =
      let f = node_fits _ _ nodes w d.1.1.0 in
      subst (ValueRow B nodes stages steps q) (sym (if_no (eqb w 0) (refused_value 14 0) _ (some_not w d.0)))
      (⊎_elim (λ e. value_0 st l d.1.0 f e (leaf_action w e f.kind)) (λ e. subst (ValueRow B nodes stages steps q) (sym (none_words w (none_zeros w e f.kind))) (value_none st l d.1.0 f e))
      (ends_kind _ _ nodes w f d.1.1.1))

  stated : Passed B steps (length stages) → T (accepted S.levels S.conditions q) → Stated B nodes stages steps q
  stated p u = record { early = admitted p; state = state_fits S.levels S.conditions q u }

  pub value_row : ValueRow B nodes stages steps q (value_of B nodes stages steps q)
  unfolding value_of
  value_row = by_early B steps (length stages)
      (λ v b. ValueRow B nodes stages steps q (if b
      (if (accepted S.levels S.conditions q) (if (eqb root 0) (refused_value 15 0) (value_at q nodes (walk S.conditions S.actions q nodes root root))) (refused_value 13 0))
      (refused_value v.number v.place)))
      (λ p. by_test (accepted S.levels S.conditions q)
      (λ b. ValueRow B nodes stages steps q (if b (if (eqb root 0) (refused_value 15 0) (value_at q nodes (walk S.conditions S.actions q nodes root root))) (refused_value 13 0)))
      (λ u. by_test (eqb root 0) (λ b. ValueRow B nodes stages steps q (if b (refused_value 15 0) (value_at q nodes (walk S.conditions S.actions q nodes root root))))
      (λ t. value_15 (stated p u) (eqb→eq root 0 t)) (λ t. read_row (stated p u) (positive root t) _ (walk_ends S.conditions S.actions q nodes root root root first_met (positive root t) (le_refl root))))
      (λ t. value_13 (admitted p) (λ f. T_not (accepted S.levels S.conditions q) t (state_accepted S.levels S.conditions q f))))
      (λ k p r. value_1_10 r)

  on_from : Verdict → ValueOut
  on_from v = if (eqb v.number 0)
      (if (accepted S.levels S.conditions q) (if (eqb root 0) (refused_value 15 0) (value_at q nodes (walk S.conditions S.actions q nodes root root))) (refused_value 13 0))
      (refused_value v.number v.place)

  stated_is : Stated B nodes stages steps q → value_of B nodes stages steps q ≡ if (eqb root 0) (refused_value 15 0) (value_at q nodes (walk S.conditions S.actions q nodes root root))
  unfolding value_of on_from
  stated_is d = ap on_from (admitted_is d.early) ∙ if_yes (accepted S.levels S.conditions q) _ (refused_value 13 0) (state_accepted S.levels S.conditions q d.state)

  -- the value is each of its rows
  pub value_is : {o : ValueOut} → ValueRow B nodes stages steps q o → value_of B nodes stages steps q ≡ o
  unfolding value_of on_from value_at
  value_is (value_0 {r = r} d l m g z a) =
      let w = walk_read S.conditions S.actions q nodes root l m (fits_good _ _ nodes r g) (zero_ends (node_word nodes r 0) z) in
      stated_is d ∙ if_no (eqb root 0) (refused_value 15 0) _ (some_not root l) ∙ ap (value_at q nodes) w.0 ∙ if_no (eqb r 0) (refused_value 14 0) _ (some_not r w.1)
  value_is (value_none {r = r} d l m g z) =
      let w = walk_read S.conditions S.actions q nodes root l m (fits_good _ _ nodes r g) (three_ends (node_word nodes r 0) z) in
      stated_is d ∙ if_no (eqb root 0) (refused_value 15 0) _ (some_not root l) ∙ ap (value_at q nodes) w.0 ∙ if_no (eqb r 0) (refused_value 14 0) _ (some_not r w.1)
      ∙ none_words r (none_zeros r z g.kind)
  value_is (value_1_10 {k = k} r) = ap on_from (early_is r) ∙ if_no (eqb k 0) _ _ (some_not k (early_some r))
  value_is (value_13 d t) = ap on_from (admitted_is d) ∙ if_no (accepted S.levels S.conditions q) _ (refused_value 13 0) (state_refused S.levels S.conditions q t)
  value_is (value_15 d e) = stated_is d ∙ if_yes (eqb root 0) (refused_value 15 0) _ (zero_is root e)
  value_is (value_14 {r = r} d l m g) =
      stated_is d ∙ if_no (eqb root 0) (refused_value 15 0) _ (some_not root l) ∙ ap (value_at q nodes) (walk_refused S.conditions S.actions q nodes root l m (misfits_bad _ _ nodes r g))

-- ---- plain working

-- the numbers from a on, one for each of a list
numbers_range : {X : Type 0} (a : ℕ) (l : List X) (b : ℕ) → Memᴰ b (numbers_from a l) → (a ≤ b) × (b < a + length l)
unfolding numbers_from
numbers_range a [] b m = absurd (Memᴰ.not-nil m)
numbers_range a (x ∷ l) b m = ⊎_elim (λ e. (omega arith, omega arith)) (λ i. let d = numbers_range (suc a) l b i in (omega (arith, d.0), omega (arith, d.1))) (Memᴰ.cases_cons m)

-- the lowest of the best actions is one of the model's
lowest_range : (M : Model) (h : ℕ) (s : State) → Range 1 (suc (length M.others)) (lowest_best (process M) h s)
unfolding process
lowest_range M h s = ⊎_elim (λ e. (omega arith, omega arith)) (λ i. let d = numbers_range 2 M.others _ i in (omega (arith, d.0), omega (arith, d.1)))
    (Memᴰ.cases_cons (lowest_best_action (process M) h s))

-- a worth that did not leave its limits is answered
fine_number : (o : Worth) → Fine o → (worth_out o).number ≡ 0
unfolding worth_out answered
fine_number (is v a) f = refl
fine_number nothing f = refl
fine_number over f = absurd f

module _ (B : List ℕ) (steps : ℕ) (q : Asked) where
  abbrev Answer : ValueOut → Type 0
  Answer o = PlainRow B steps q o

  abbrev sited : Site
  sited = site_at B

  worth_row : Passed B steps steps_most → (t : T (accepted sited.levels sited.conditions q)) (o : Worth) → state_worth (model B) steps (state_of sited.levels sited.conditions q t) ≡ o
      → Answer (worth_out o)
  unfolding worth_out
  worth_row p t o e = go o e
    where
      s : State
      s = state_of sited.levels sited.conditions q t

      ok : T (valid (model B))
      ok = accepted_valid B p.own

      answer : Fine (state_worth (model B) steps s) → Answer (worth_out (state_worth (model B) steps s))
      answer f = subst Answer (sym (worth_exact (model B) ok steps s p.least (fine_number (state_worth (model B) steps s) f)))
          (plain_0 (admitted p) t (answers_stay (model B) ok steps s f) (subst (λ (n : ℕ). Range 1 n (lowest_best (process (model B)) steps s)) (accepted_site B p.own).1.same_actions (lowest_range (model B) steps s)))

      go : (o : Worth) → state_worth (model B) steps s ≡ o → Answer (worth_out o)
      go (is v a) e = subst (λ (o : Worth). Answer (worth_out o)) e (answer (subst Fine (sym e) tt))
      go nothing e = subst (λ (o : Worth). Answer (worth_out o)) e (answer (subst Fine (sym e) tt))
      go over e = plain_11 (admitted p) t (over_leaves (model B) ok steps s e)

  state_row : (b : Bool) (f : T b → ValueOut) → ((t : T b) → Answer (f t)) → (T (not b) → Answer (refused_value 13 0)) → Answer (if_true b f (refused_value 13 0))
  unfolding if_true
  state_row true f g h = g tt
  state_row false f g h = h tt

  pub plain_row : PlainRow B steps q (plain_of B steps q)
  unfolding plain_of
  plain_row =
      let out : T (accepted sited.levels sited.conditions q) → ValueOut = λ t. worth_out (state_worth (model B) steps (state_of sited.levels sited.conditions q t)) in
      by_early B steps steps_most
      (λ v b. Answer (if b (if_true (accepted sited.levels sited.conditions q) out (refused_value 13 0)) (refused_value v.number v.place)))
      (λ p. state_row (accepted sited.levels sited.conditions q) out (λ t. worth_row p t _ refl)
      (λ t. plain_13 (admitted p) (λ f. T_not (accepted sited.levels sited.conditions q) t (state_accepted sited.levels sited.conditions q f))))
      (λ k p r. plain_1_10 r)

  abbrev plain_out : T (accepted sited.levels sited.conditions q) → ValueOut
  plain_out t = worth_out (state_worth (model B) steps (state_of sited.levels sited.conditions q t))

  plain_from : Verdict → ValueOut
  plain_from v = if (eqb v.number 0) (if_true (accepted sited.levels sited.conditions q) plain_out (refused_value 13 0)) (refused_value v.number v.place)

  accepted_out : (b : Bool) (f : T b → ValueOut) (t : T b) → if_true b f (refused_value 13 0) ≡ f t
  unfolding if_true
  accepted_out true f t = refl
  accepted_out false f t = absurd t

  refused_out : (b : Bool) (f : T b → ValueOut) → T (not b) → if_true b f (refused_value 13 0) ≡ refused_value 13 0
  unfolding if_true
  refused_out true f t = absurd t
  refused_out false f t = refl

  -- plain working is each of its rows
  pub plain_is : {o : ValueOut} → PlainRow B steps q o → plain_of B steps q ≡ o
  unfolding plain_of plain_from worth_out
  plain_is (plain_0 d t s a) =
      let r = state_of sited.levels sited.conditions q t in
      let ok = accepted_valid B (ap (λ (v : Verdict). v.number) (verdict_is B d.own)) in
      ap plain_from (admitted_is d) ∙ accepted_out _ plain_out t ∙ worth_exact (model B) ok steps r d.horizon.0 (fine_number (state_worth (model B) steps r) (stays_answers (model B) ok steps r s))
  plain_is (plain_1_10 {k = k} r) = ap plain_from (early_is r) ∙ if_no (eqb k 0) _ _ (some_not k (early_some r))
  plain_is (plain_13 d t) = ap plain_from (admitted_is d) ∙ refused_out _ plain_out (state_refused sited.levels sited.conditions q t)
  plain_is (plain_11 d t f) = ap plain_from (admitted_is d) ∙ accepted_out _ plain_out t ∙ leaves (state_worth (model B) steps (state_of sited.levels sited.conditions q t)) refl
    where
      stays : Fine (state_worth (model B) steps (state_of sited.levels sited.conditions q t)) → Stays (model B) steps (state_of sited.levels sited.conditions q t)
      stays = answers_stay (model B) (accepted_valid B (ap (λ (v : Verdict). v.number) (verdict_is B d.own))) steps (state_of sited.levels sited.conditions q t)

      leaves : (o : Worth) → state_worth (model B) steps (state_of sited.levels sited.conditions q t) ≡ o → worth_out o ≡ refused_value 11 0
      leaves (is v a) e = absurd (f (stays (subst Fine (sym e) tt)))
      leaves nothing e = absurd (f (stays (subst Fine (sym e) tt)))
      leaves over e = refl

-- ---- name

pub name_row : (B : List ℕ) (a : ℕ) → NameRow B a (name_refusal B a)
unfolding name_refusal
name_row B a =
    let A = (site_at B).actions in
    by_early B 1 steps_most (λ v b. NameRow B a (if b (if (among A a) (refusal 0 0) (refusal 16 0)) v))
    (λ p. by_test (among A a) (λ b. NameRow B a (if b (refusal 0 0) (refusal 16 0)))
    (λ t. name_0 (admitted p) (among_out A a t)) (λ t. name_16 (admitted p) (λ d. T_not (among A a) t (among_in A a d.0 d.1))))
    (λ k p r. name_1_10 r)

module _ (B : List ℕ) (a : ℕ) where
  pub zero_name : (name_refusal B a).number ≡ 0 → NameRow B a (refusal 0 0)
  zero_name z = go (name_row B a) z
    where
      go : {v : Verdict} → NameRow B a v → v.number ≡ 0 → NameRow B a (refusal 0 0)
      go (name_0 d h) e = name_0 d h
      go (name_1_10 r) e = absurd (omega (arith, early_some r))
      go (name_16 d f) e = absurd (omega arith)

  name_from : Verdict → Verdict
  name_from v = if (eqb v.number 0) (if (among (site_at B).actions a) (refusal 0 0) (refusal 16 0)) v

  -- a name's refusal is each of its rows
  pub name_is : {v : Verdict} → NameRow B a v → name_refusal B a ≡ v
  unfolding name_refusal name_from
  name_is (name_0 d h) = ap name_from (admitted_is d) ∙ if_yes (among (site_at B).actions a) (refusal 0 0) (refusal 16 0) (among_in (site_at B).actions a h.0 h.1)
  name_is (name_1_10 {k = k} r) = ap name_from (early_is r) ∙ if_no (eqb k 0) _ _ (some_not k (early_some r))
  name_is (name_16 d f) = ap name_from (admitted_is d) ∙ by_test (among (site_at B).actions a) (λ b. if b (refusal 0 0) (refusal 16 0) ≡ refusal 16 0) (λ t. absurd (f (among_out (site_at B).actions a t))) (λ _. refl)

-- ---- listing

pub not_all : (p : ℕ → Bool) (b k : ℕ) → T (not (all p (from_to b k))) → (i : ℕ) × ((b ≤ i) × ((i < b + k) × T (not (p i))))
unfolding all from_to
not_all p b zero t = absurd t
not_all p b (suc k) t = by_test (p b) (λ z. T (not (z && all p (from_to (suc b) k))) → (i : ℕ) × ((b ≤ i) × ((i < b + suc k) × T (not (p i)))))
    (λ _ t. let d = not_all p (suc b) k t in (d.0, (omega (arith, d.1.0), (omega (arith, d.1.1.0), d.1.1.1))))
    (λ n _. (b, (omega arith, (omega arith, n))))
    t

pub all_from : (p : ℕ → Bool) (b k : ℕ) → T (all p (from_to b k)) → (i : ℕ) → b ≤ i → i < b + k → T (p i)
unfolding all from_to
all_from p b zero t i h l = absurd (omega arith)
all_from p b (suc k) t i h l =
    let d = both (p b) (all p (from_to (suc b) k)) t in
    by_test (eqb b i) (λ _. T (p i)) (λ e. subst (λ (j : ℕ). T (p j)) (eqb→eq b i e) d.0) (λ n. all_from p (suc b) k d.1 i (other_above b i h (not_sym b i n)) (omega arith))
  where
    not_sym : (b i : ℕ) → T (not (eqb b i)) → T (not (eqb i b))
    not_sym b i n = by_test (eqb i b) (λ x. T (not x)) (λ e. absurd (T_not (eqb b i) n (rw (eqb→eq i b e) (eqb_refl b)))) (λ _. tt)

pub from_each : (p : ℕ → Bool) (b k : ℕ) → ((i : ℕ) → b ≤ i → i < b + k → T (p i)) → T (all p (from_to b k))
unfolding all from_to
from_each p b zero f = tt
from_each p b (suc k) f = and_in (p b) (all p (from_to (suc b) k)) (f b (omega arith) (omega arith)) (from_each p (suc b) k (λ i h l. f i (omega arith) (omega arith)))

module _ (B : List ℕ) (H : ℕ) (nodes : List ℤ) (stages buffer : List ℕ) (at : ℕ) where
  abbrev t : List ℕ
  t = text (site_at B) H nodes stages

  abbrev out : Bool → Verdict → ListingOut
  out b v = if b (record { number = 0; place = 0; size = length t; buffer = written buffer at t }) (record { number = v.number; place = v.place; size = 0; buffer = buffer })

  abbrev Row : Verdict → Type 0
  Row v = ListingRow B H nodes stages buffer at (out (eqb v.number 0) v)

  -- no stage word is 0; every node is good
  abbrev set : Bool
  set = all (λ h. not (eqb (get_or stages (h - 1) 0) 0)) (from_to 1 H)

  abbrev good : Bool
  good = all (good_row (site_at B).conditions (site_at B).actions nodes) (from_to 1 (greatest_root H stages))

  rooted : Passed B H (length stages) → T set → Rooted B H nodes stages buffer at
  rooted p s = record {
    early = admitted p;
    roots = λ h d. positive (get_or stages (h - 1) 0) (all_from (λ h. not (eqb (get_or stages (h - 1) 0) 0)) 1 H s h d.0 (omega (arith, d.1)));
  }

  tabled : Rooted B H nodes stages buffer at → T good → Tabled B H nodes stages buffer at
  tabled r g = record { rooted = r; rows = λ r d. node_fits _ _ nodes r (all_from (good_row (site_at B).conditions (site_at B).actions nodes) 1 (greatest_root H stages) g r d.0 (omega (arith, d.1))) }

  written_row : Tabled B H nodes stages buffer at → at + length t ≤ length buffer → Row (refusal 0 0)
  unfolding written
  written_row d h =
      let first = length-take-le at buffer (omega arith) in
      let rest : List ℕ = drop (at + length t) buffer in
      let behind = drop_at (take at buffer) (t ++ rest) at first in
      listing_0 d refl h
      (length-append (take at buffer) (t ++ rest) ∙ omega (arith, first, length-append t rest, length-drop (at + length t) buffer))
      (take_at (take at buffer) (t ++ rest) at first)
      (ap (take (length t)) behind ∙ take-append_seam t rest)
      (sym (drop-drop (length t) at (take at buffer ++ (t ++ rest))) ∙ (ap (drop (length t)) behind ∙ drop-append_seam t rest))

  pub listing_row : ListingRow B H nodes stages buffer at (listing B H nodes stages buffer at)
  unfolding listing listing_refusal
  listing_row =
      let short : Verdict = if (ltb (length buffer) (at + length t)) (refusal 17 0) (refusal 0 0) in
      by_early B H (length stages) (λ v b. Row (if (not b) v (if (not set) (refusal 15 0) (if (not good) (refusal 14 0) short))))
      (λ p. by_test set (λ b. Row (if (not b) (refusal 15 0) (if (not good) (refusal 14 0) short)))
      (λ s. by_test good (λ b. Row (if (not b) (refusal 14 0) short))
      (λ g. by_test (ltb (length buffer) (at + length t)) (λ b. Row (if b (refusal 17 0) (refusal 0 0)))
      (λ l. listing_17 (tabled (rooted p s) g) (ltb→lt (length buffer) (at + length t) l)) (λ l. written_row (tabled (rooted p s) g) (nltb→le (length buffer) (at + length t) l)))
      (λ g. let d = not_all _ 1 (greatest_root H stages) g in listing_14 (rooted p s) (d.1.0, omega (arith, d.1.1.0)) (misfits _ _ nodes _ d.1.1.1)))
      (λ g. let d = not_all (λ h. not (eqb (get_or stages (h - 1) 0) 0)) 1 H g in listing_15 (admitted p) (d.1.0, omega (arith, d.1.1.0)) (eqb→eq (get_or stages (d.0 - 1) 0) 0 (not_not (eqb (get_or stages (d.0 - 1) 0) 0) d.1.1.1))))
      (λ k p r. subst (λ (b : Bool). ListingRow B H nodes stages buffer at (out b (refusal k p))) (sym (ne_eqb k 0 (λ z. omega (arith, early_some r)))) (listing_1_10 r))

  -- ---- a row decides

  listed_from : Verdict → Verdict
  listed_from v = if (not (eqb v.number 0)) v (if (not set) (refusal 15 0) (if (not good) (refusal 14 0) (if (ltb (length buffer) (at + length t)) (refusal 17 0) (refusal 0 0))))

  abbrev refuses : Verdict
  refuses = listing_refusal B H nodes stages (length buffer) at

  rooted_is : Rooted B H nodes stages buffer at → refuses ≡ if (not good) (refusal 14 0) (if (ltb (length buffer) (at + length t)) (refusal 17 0) (refusal 0 0))
  unfolding listing_refusal listed_from
  rooted_is d =
      let s = from_each (λ h. not (eqb (get_or stages (h - 1) 0) 0)) 1 H (λ h a b. some_not (get_or stages (h - 1) 0) (d.roots h (a, omega arith))) in
      ap listed_from (admitted_is d.early) ∙ if_no (not set) (refusal 15 0) _ (not_twice set s)

  tabled_is : Tabled B H nodes stages buffer at → refuses ≡ if (ltb (length buffer) (at + length t)) (refusal 17 0) (refusal 0 0)
  tabled_is d =
      let g = from_each (good_row (site_at B).conditions (site_at B).actions nodes) 1 (greatest_root H stages) (λ r a b. fits_good _ _ nodes r (d.rows r (a, omega arith))) in
      rooted_is d.rooted ∙ if_no (not good) (refusal 14 0) _ (not_twice good g)

  refused_as : (k p : ℕ) → 1 ≤ k → refuses ≡ refusal k p → listing B H nodes stages buffer at ≡ record { number = k; place = p; size = 0; buffer = buffer }
  unfolding listing
  refused_as k p h e = ap (λ (v : Verdict). out (eqb v.number 0) v) e ∙ if_no (eqb k 0) _ _ (some_not k h)

  -- the buffer is settled by what stands before the text, the text, and what stands behind it
  settled : (after : List ℕ) → take at after ≡ take at buffer → take (length t) (drop at after) ≡ t → drop (at + length t) after ≡ drop (at + length t) buffer → after ≡ written buffer at t
  unfolding written
  settled after a b c =
      sym (take-append-drop at after) ∙ ap₂ ◌++◌ a (sym (take-append-drop (length t) (drop at after)) ∙ ap₂ ◌++◌ b (drop-drop (length t) at after ∙ c))

  -- the listing is each of its rows
  pub listing_is : {o : ListingOut} → ListingRow B H nodes stages buffer at o → listing B H nodes stages buffer at ≡ o
  unfolding listing listing_refusal listed_from
  listing_is (listing_0 {size = size} {after = after} d e h _ a b c) =
      ap (λ (v : Verdict). out (eqb v.number 0) v) (tabled_is d ∙ if_no (ltb (length buffer) (at + length t)) (refusal 17 0) (refusal 0 0)
      (by_test (ltb (length buffer) (at + length t)) (λ x. T (not x)) (λ z. absurd (omega (arith, ltb→lt (length buffer) (at + length t) z))) (λ _. tt)))
      ∙ same_out after e a b c
    where
      same_out : (after : List ℕ) → size ≡ length t → take at after ≡ take at buffer → take size (drop at after) ≡ t → drop (at + size) after ≡ drop (at + size) buffer
          → ◌≡◌ {A = ListingOut} (record { number = 0; place = 0; size = length t; buffer = written buffer at t }) (record { number = 0; place = 0; size = size; buffer = after })
      same_out after e a b c =
          let w = settled after a (subst (λ (n : ℕ). take n (drop at after) ≡ t) e b) (subst (λ (n : ℕ). drop (at + n) after ≡ drop (at + n) buffer) e c) in
          λ i. record { number = 0; place = 0; size = sym e i; buffer = sym w i }
  listing_is (listing_1_10 {k = k} {p = p} r) =
      refused_as k p (early_some r) (ap listed_from (early_is r) ∙ if_yes (not (eqb k 0)) (refusal k p) _ (some_not k (early_some r)))
  listing_is (listing_15 {h = h} d i z) = refused_as 15 0 (omega arith) (ap listed_from (admitted_is d) ∙ if_yes (not set) (refusal 15 0) _
      (by_test set (λ b. T (not b)) (λ s. absurd (T_not (eqb (get_or stages (h - 1) 0) 0) (all_from (λ h. not (eqb (get_or stages (h - 1) 0) 0)) 1 H s h i.0 (omega (arith, i.1))) (zero_is (get_or stages (h - 1) 0) z))) (λ _. tt)))
  listing_is (listing_14 {r = r} d i z) = refused_as 14 0 (omega arith) (rooted_is d ∙ if_yes (not good) (refusal 14 0) _
      (by_test good (λ b. T (not b)) (λ s. absurd (T_not (good_row (site_at B).conditions (site_at B).actions nodes r) (misfits_bad _ _ nodes r z)
      (all_from (good_row (site_at B).conditions (site_at B).actions nodes) 1 (greatest_root H stages) s r i.0 (omega (arith, i.1))))) (λ _. tt)))
  listing_is (listing_17 d l) = refused_as 17 0 (omega arith) (tabled_is d ∙ if_yes (ltb (length buffer) (at + length t)) (refusal 17 0) (refusal 0 0) (lt→ltb (length buffer) (at + length t) l))
