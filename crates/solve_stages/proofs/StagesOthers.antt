-- The actions of a stage: the loop from the second on, and action 1 before it.
use mathlib.Core.Path.{◌≡◌, refl, sym, ap, ap₂, ◌∙◌, subst}
use mathlib.Core.List.{List, [], ◌∷◌, ◌++◌}
use Prim.Native.Nat.{ℕ, suc, ◌+◌, ◌-◌, ◌≤◌, ◌<◌}
use native.Mathlib.Numerals.{add-one}
use native.Mathlib.Omega.{arith}
use lib.IntN.{ℤ}
use lib.ListN.{length, get_or, take, drop, drop_of_length-le}
use lib.Seq.{drop-cons}
use Rattle.theory.specs.Widths.{peak_words}
use Rattle.theory.specs.Diagram.{Tree}
use Rattle.theory.specs.Computation.{Comp, Moment, Ops, end, operation, and_then, Solved, solved, run_all}
use Rattle.theory.specs.Rules.{best}
use Rattle.theory.specs.Meaning.{Action}
use Rattle.theory.specs.Verdict.{Site, verdict}
use Rattle.theory.specs.Load.{site_at, model}
use Rattle.model_progress.specs.declared.Site.{Site as CodeSite}
use Rattle.model_progress.specs.GivenFlags.{site_as}
use Rattle.theory.specs.Stage.{moment, action_total, best_on, stage_over}
use Rattle.theory.specs.Peaks.{peaks_of}
use Rattle.theory.proofs.laws.AcceptedModel.{accepted_site}
use Rattle.rule_node.specs.Nodes.{blank}
use Rattle.solve_laws.specs.Alike.{Alike, alike_trans, alike_eq}
use Rattle.solve_laws.specs.Onward.{onward, onward_onward, onward_same, onward_ok, onward_no, run_all_then, answered, answered_ok, answered_no}
use Rattle.solve_laws.specs.Roots.{Rooted}
use Rattle.solve_laws.specs.Steps.{best_on_step, best_on_done}
use Rattle.solve_laws.specs.Loops.{first_done, first_refused}
use Rattle.solve_laws.specs.Peaks.{peaks_alone_on, stage_peaks}
use Rattle.solve_operation.specs.Operation.{held_trees, Standing}
use Rattle.solve_total.specs.StageTable.{model_size, StageReady, Due, action_numbered, before_of, total_of, root_at, ActionRan}
use Rattle.solve_stages.specs.Stages.{bettered, Counted}
use Rattle.solve_operation.specs.declared.Run.{Run}
use Rattle.solve_total.specs.declared.Backup.{Backup}
use Rattle.solve_total.proofs.Roots.{held_length, held_suc}
use Rattle.solve_total.proofs.Model.{sited}
use Rattle.solve_stages.proofs.StagesHeld.{held_take, held_is, ready_next}
use Rattle.solve_stages.proofs.StagesBetter.{bettered_run}

-- ---- one action more

-- an operation, then what follows from its result
operation_run : {A : Type 0} (N q : ℕ) (h : Moment) (Y : List Tree) (c : Comp Tree) (f : Tree → Ops A) → run_all N q (operation h Y c f) ≡ onward (run_all N q (operation h Y c end)) (λ t s. run_all N s (f t))
unfolding and_then
operation_run N q h Y c f = run_all_then N q (operation h Y c end) f

action_at : (B : List ℕ) (a i : ℕ) → a ≡ suc (suc i) → action_numbered B a ≡ get_or (model B).others i (model B).first
action_at B a i e = ap (λ (k : ℕ). get_or ((model B).first ∷ (model B).others) k (model B).first) (let z : a - 1 ≡ suc i = omega arith in z)

module _ (B : List ℕ) (N p h : ℕ) (K : List Tree) (P : Tree) (a i : ℕ) (F : Tree) (q : i < length (model B).others) (e : a ≡ suc (suc i)) where
  best_on_bettered : run_all N p (best_on (model B) h K P a (drop i (model B).others) F)
      ≡ onward (run_all N p (bettered B h P a F K)) (λ t s. run_all N s (best_on (model B) h K P (suc a) (drop (suc i) (model B).others) t))
  best_on_bettered =
      let M = model B in
      let f : Tree → Ops Tree = best_on M h K P (suc a) (drop (suc i) M.others) in
      let j : Tree → ℕ → Solved Tree = λ G s. run_all N s (operation (moment h a) (G ∷ F ∷ K) (best F G) end) in
      let k : Tree → ℕ → Solved Tree = λ t s. run_all N s (f t) in
      let o : Action → Solved Tree = λ x. run_all N p (action_total M h (F ∷ K) P a x) in
      best_on_step M h K P M.first N p a i M.others F q
      ∙ (onward_same (o (get_or M.others i M.first)) (λ G s. run_all N s (operation (moment h a) (G ∷ F ∷ K) (best F G) f)) (λ G s. onward (j G s) k) (λ G s. operation_run N s (moment h a) (G ∷ F ∷ K) (best F G) f)
      ∙ (sym (onward_onward (o (get_or M.others i M.first)) j k)
      ∙ ap (λ (z : Solved Tree). onward z k) (ap (λ (x : Action). onward (o x) j) (sym (action_at B a i e)) ∙ sym (bettered_run B N p h P a F K))))

  -- and the peaks: those of the action, then those of the others
  best_on_counted : (Q : List ℕ) {t : Tree} {s : ℕ} → run_all N p (bettered B h P a F K) ≡ solved t s
      → peaks_of Q (best_on (model B) h K P a (drop i (model B).others) F) ≡ peaks_of (peaks_of Q (bettered B h P a F K)) (best_on (model B) h K P (suc a) (drop (suc i) (model B).others) t)
  unfolding bettered best_on
  best_on_counted Q r =
      let M = model B in
      ap (λ (z : List Action). peaks_of Q (best_on M h K P a z F)) (drop-cons M.others i M.first q)
      ∙ (ap (λ (x : Action). peaks_of Q (best_on M h K P a (x ∷ drop (suc i) M.others) F)) (sym (action_at B a i e))
      ∙ peaks_alone_on (moment h a) (λ G. G ∷ F ∷ K) (λ G. best F G) (best_on M h K P (suc a) (drop (suc i) M.others)) N p Q (action_total M h (F ∷ K) P a (action_numbered B a)) r)

-- none is left: no more peaks
best_on_counted_all : (B : List ℕ) (h : ℕ) (K : List Tree) (P : Tree) (a i : ℕ) (F : Tree) (Q : List ℕ) → length (model B).others ≤ i → peaks_of Q (best_on (model B) h K P a (drop i (model B).others) F) ≡ Q
unfolding best_on peaks_of
best_on_counted_all B h K P a i F Q q = ap (λ (z : List Action). peaks_of Q (best_on (model B) h K P a z F)) (drop_of_length-le (model B).others q)

-- ---- how many actions

pub others_count : (B : List ℕ) → (verdict B).number ≡ 0 → suc (length (model B).others) ≡ (site_at B).actions
others_count B e = (accepted_site B e).1.same_actions

-- ---- the loop

-- actions 2 to a − 1 are tried: the best so far stands behind what is held
pub record Trying (B : List ℕ) (cap : ℕ) (l₀ : List ℤ) (R₀ : List ℕ) (b : Backup) (actions : ℕ) (r₀ : Run) (P₀ : List ℕ) (l : List ℤ) (w R : List ℕ) (r : Run) (P : List ℕ) (a : ℕ) : Type 0 where
  pub ok : r.stop ≡ 0
  pub low : 2 ≤ a
  pub count : actions ≡ (site_at B).actions
  pub ready : StageReady B cap l w r.count R (b.held + 1)
  pub first : model_size B ≤ b.held
  pub same : held_trees l r.count R b.held ≡ held_trees l₀ r₀.count R₀ b.held
  pub left : (K : List Tree) → Alike (held_trees l₀ r₀.count R₀ b.held) K
      → run_all cap r₀.peak (best_on (model B) b.stage K (before_of l₀ r₀.count R₀ b) 2 (model B).others (root_at l₀ r₀.count R₀ b.held))
      ≡ run_all cap r.peak (best_on (model B) b.stage K (before_of l₀ r₀.count R₀ b) a (drop (a - 2) (model B).others) (root_at l r.count R b.held))
  pub fits : r₀.peak ≤ cap → r.peak ≤ cap
  pub counts : (K : List Tree) → Alike (held_trees l₀ r₀.count R₀ b.held) K
      → peaks_of P₀ (best_on (model B) b.stage K (before_of l₀ r₀.count R₀ b) 2 (model B).others (root_at l₀ r₀.count R₀ b.held))
      ≡ peaks_of P (best_on (model B) b.stage K (before_of l₀ r₀.count R₀ b) a (drop (a - 2) (model B).others) (root_at l r.count R b.held))

pub trying_starts : {B : List ℕ} {cap : ℕ} {l : List ℤ} {w R P : List ℕ} {b : Backup} {actions : ℕ} {r : Run} → Due B cap l w r.count R (b.held + 1) b → r.stop ≡ 0
    → model_size B ≤ b.held → {s : CodeSite} → site_as s ≡ site_at B → actions ≡ s.actions
    → Trying B cap l R b actions r P l w R r P 2
trying_starts {B} D ok f es e = record { ok = ok; low = omega arith; count = e ∙ ap (λ (S : Site). S.actions) es; ready = D.ready; first = f; same = refl; left = λ K al. refl; fits = λ q. q; counts = λ K al. refl }

module _ {B : List ℕ} {cap : ℕ} {l₀ : List ℤ} {R₀ : List ℕ} {b : Backup} {actions : ℕ} {r₀ : Run} {P₀ : List ℕ} {l : List ℤ} {w R : List ℕ} {r : Run} {P : List ℕ} {a : ℕ} (Y : Trying B cap l₀ R₀ b actions r₀ P₀ l w R r P a) where
  -- the backup of the next one
  pub trying_due : {l₁ : List ℤ} {w₁ : List ℕ} {n₁ : ℕ} {R₁ : List ℕ} → Due B cap l₁ w₁ n₁ R₁ (b.held + 1) b → a ≤ actions → length R ≡ length R₁
      → Due B cap l w r.count R (b.held + 1) (record { held = b.held; before = b.before; stage = b.stage; action = a })
  trying_due D q e = record {
    ready = Y.ready;
    room = let z = D.room in omega (arith, z, e);
    earlier = D.earlier;
    few_stages = D.few_stages;
    some_action = let z = Y.low in omega (arith, z);
    an_action = omega (arith, Y.count);
  }

  -- it has a word
  pub trying_word : a ≤ actions → length P ≡ peak_words → a < length P
  trying_word q e = let z = (sited B Y.ready.accepted).few_actions in let n = Y.count in omega (arith, z, n, q, e)

  -- the next action
  module _ (q : a ≤ actions) {l' : List ℤ} {w' R' P' : List ℕ} {r' : Run}
      (C : Counted cap r.peak l r.count R b.held b.stage (bettered B b.stage (before_of l r.count R b) a (root_at l r.count R b.held)) P l' w' R' P' r') where
    abbrev T : ActionRan cap r.peak l r.count R b.held b.stage (bettered B b.stage (before_of l r.count R b) a (root_at l r.count R b.held)) l' w' R' r'
    T = C.ran

    step : (K : List Tree) → Alike (held_trees l₀ r₀.count R₀ b.held) K
        → run_all cap r.peak (bettered B b.stage (before_of l₀ r₀.count R₀ b) a (root_at l r.count R b.held) K) ≡ answered r'.stop b.stage (root_at l' r'.count R' b.held) r'.peak
    step K al = ap (λ (X : List Tree). run_all cap r.peak (bettered B b.stage (get_or X b.before blank) a (root_at l r.count R b.held) K)) (sym Y.same) ∙ T.outcome K (alike_trans (alike_eq Y.same) al)

    run : (K : List Tree) → run_all cap r.peak (best_on (model B) b.stage K (before_of l₀ r₀.count R₀ b) a (drop (a - 2) (model B).others) (root_at l r.count R b.held))
        ≡ onward (run_all cap r.peak (bettered B b.stage (before_of l₀ r₀.count R₀ b) a (root_at l r.count R b.held) K))
        (λ t s. run_all cap s (best_on (model B) b.stage K (before_of l₀ r₀.count R₀ b) (suc a) (drop (suc (a - 2)) (model B).others) t))
    run K =
        let n = others_count B Y.ready.accepted in
        let low = Y.low in
        let count = Y.count in
        best_on_bettered B cap r.peak b.stage K (before_of l₀ r₀.count R₀ b) a (a - 2) (root_at l r.count R b.held) (omega arith) (omega arith)

    pub trying_stops : (r'.stop ≡ 0 → ⊥) → Counted cap r₀.peak l₀ r₀.count R₀ b.held b.stage
        (λ K. best_on (model B) b.stage K (before_of l₀ r₀.count R₀ b) 2 (model B).others (root_at l₀ r₀.count R₀ b.held)) P₀ l' w' R' P' r'
    trying_stops off = record {
      peaks = λ ok. absurd (off ok);
      ran = record {
        outcome = λ K al. Y.left K al ∙ (run K ∙ (onward_no r'.stop b.stage (root_at l' r'.count R' b.held) r'.peak (step K al)
            (λ t s. run_all cap s (best_on (model B) b.stage K (before_of l₀ r₀.count R₀ b) (suc a) (drop (suc (a - 2)) (model B).others) t)) off
            ∙ sym (answered_no r'.stop b.stage (root_at l' r'.count R' b.held) r'.peak off)));
        rooted = λ ok. absurd (off ok);
        fits = λ ok. absurd (off ok);
      };
    }

    pub trying_on : r'.stop ≡ 0 → b.held < length R' → Trying B cap l₀ R₀ b actions r₀ P₀ l' w' R' r' P' (a + 1)
    trying_on ok few = record {
      ok = ok;
      low = let low = Y.low in omega arith;
      count = Y.count;
      ready = ready_next (held_trees l r.count R b.held) (root_at l' r'.count R' b.held) Y.ready (sym (held_take l r.count R b.held (model_size B) here Y.first) ∙ Y.ready.models) Y.first long (T.rooted ok) few;
      first = Y.first;
      same = held_is l' r'.count R' b.held (held_trees l r.count R b.held) (root_at l' r'.count R' b.held) (T.rooted ok) long few ∙ Y.same;
      left = λ K al. Y.left K al ∙ (run K ∙ (onward_ok r'.stop b.stage (root_at l' r'.count R' b.held) r'.peak (step K al)
          (λ t s. run_all cap s (best_on (model B) b.stage K (before_of l₀ r₀.count R₀ b) (suc a) (drop (suc (a - 2)) (model B).others) t)) ok
          ∙ ap₂ (λ (i k : ℕ). run_all cap r'.peak (best_on (model B) b.stage K (before_of l₀ r₀.count R₀ b) i (drop k (model B).others) (root_at l' r'.count R' b.held))) (sym (add-one a)) shift));
      fits = λ q. T.fits ok (Y.fits q);
      counts = λ K al.
          let Z = before_of l₀ r₀.count R₀ b in
          let F = root_at l r.count R b.held in
          let G = root_at l' r'.count R' b.held in
          Y.counts K al
          ∙ (best_on_counted B cap r.peak b.stage K Z a (a - 2) F here_in next P (step K al ∙ answered_ok r'.stop b.stage G r'.peak ok)
          ∙ (ap (λ (Q : List ℕ). peaks_of Q (best_on (model B) b.stage K Z (suc a) (drop (suc (a - 2)) (model B).others) G)) (sym (raised K al))
          ∙ ap₂ (λ (i k : ℕ). peaks_of P' (best_on (model B) b.stage K Z i (drop k (model B).others) G)) (sym (add-one a)) shift));
    }
      where
        here_in : a - 2 < length (model B).others
        here_in = let n = others_count B Y.ready.accepted in let low = Y.low in let count = Y.count in omega arith

        next : a ≡ suc (suc (a - 2))
        next = let low = Y.low in omega arith

        -- the words are those of the action's operations
        raised : (K : List Tree) → Alike (held_trees l₀ r₀.count R₀ b.held) K → P' ≡ peaks_of P (bettered B b.stage (before_of l₀ r₀.count R₀ b) a (root_at l r.count R b.held) K)
        raised K al = C.peaks ok K (alike_trans (alike_eq Y.same) al)
            ∙ ap (λ (X : List Tree). peaks_of P (bettered B b.stage (get_or X b.before blank) a (root_at l r.count R b.held) K)) Y.same

        here : b.held < length R
        here = let z = Y.ready.standing.few in omega arith

        long : length (held_trees l r.count R b.held) ≡ b.held
        long = held_length l r.count R b.held (let z = Y.ready.standing.few in omega arith)

        shift : suc (a - 2) ≡ a + 1 - 2
        shift = let low = Y.low in omega arith

  -- none is left
  pub trying_ends : actions < a → Counted cap r₀.peak l₀ r₀.count R₀ b.held b.stage (λ K. best_on (model B) b.stage K (before_of l₀ r₀.count R₀ b) 2 (model B).others (root_at l₀ r₀.count R₀ b.held)) P₀ l w R P r
  trying_ends q = record {
    peaks = λ ok K al. sym (Y.counts K al ∙ best_on_counted_all B b.stage K (before_of l₀ r₀.count R₀ b) a (a - 2) (root_at l r.count R b.held) P all);
    ran = record {
      outcome = λ K al. Y.left K al ∙ (best_on_done (model B) b.stage K (before_of l₀ r₀.count R₀ b) cap r.peak a (a - 2) (model B).others (root_at l r.count R b.held) all
          ∙ sym (answered_ok r.stop b.stage (root_at l r.count R b.held) r.peak Y.ok));
      rooted = λ ok. record {
        good = S.good;
        space = S.space;
        below = S.below;
        roots = held_suc l r.count R b.held (let z = S.few in omega arith) ∙ ap (λ (X : List Tree). X ++ (root_at l r.count R b.held ∷ [])) Y.same;
      };
      fits = λ ok. Y.fits;
    };
  }
    where
      S : Standing cap l w r.count R (suc b.held)
      S = subst (Standing cap l w r.count R) (add-one b.held) Y.ready.standing

      all : length (model B).others ≤ a - 2
      all = let n = others_count B Y.ready.accepted in let count = Y.count in let low = Y.low in omega arith

-- ---- a stage

pub stage_first : {B : List ℕ} {cap : ℕ} {l : List ℤ} {w : List ℕ} {n : ℕ} {R : List ℕ} {held : ℕ} → StageReady B cap l w n R held → 1 ≤ (site_at B).actions
stage_first {B} D = omega (arith, others_count B D.accepted)

-- action 1 alone
module _ {B : List ℕ} {cap p : ℕ} {l : List ℤ} {w : List ℕ} {n : ℕ} {R : List ℕ} {b : Backup} {P : List ℕ} {l' : List ℤ} {w' R' P' : List ℕ} {t : Run} (D : Due B cap l w n R b.held b) (one : b.action ≡ 1)
    (T : Counted cap p l n R b.held b.stage (total_of B b (before_of l n R b)) P l' w' R' P' t) where
  C : Counted cap p l n R b.held b.stage (λ K. action_total (model B) b.stage K (before_of l n R b) 1 (action_numbered B 1)) P l' w' R' P' t
  C = subst (λ (a : ℕ). Counted cap p l n R b.held b.stage (λ K. action_total (model B) b.stage K (before_of l n R b) a (action_numbered B a)) P l' w' R' P' t) one T

  pub first_stops : (t.stop ≡ 0 → ⊥) → Counted cap p l n R b.held b.stage (λ K. stage_over (model B) b.stage K (before_of l n R b)) P l' w' R' P' t
  first_stops off = record {
    peaks = λ ok. absurd (off ok);
    ran = record {
      outcome = λ K al. first_refused (model B) cap p b.stage K (before_of l n R b) (C.ran.outcome K al ∙ answered_no t.stop b.stage (root_at l' t.count R' b.held) t.peak off)
          ∙ sym (answered_no t.stop b.stage (root_at l' t.count R' b.held) t.peak off);
      rooted = λ ok. absurd (off ok);
      fits = λ ok. absurd (off ok);
    };
  }

  module _ (ok : t.stop ≡ 0) (room : b.held + 2 ≤ length R') where
    few : b.held < length R'
    few = omega (arith, room)

    first_stands : StageReady B cap l' w' t.count R' (b.held + 1)
    first_stands = ready_next (held_trees l n R b.held) (root_at l' t.count R' b.held) D.ready D.ready.models D.ready.first (held_length l n R b.held D.ready.standing.few) (C.ran.rooted ok) few

    same : held_trees l' t.count R' b.held ≡ held_trees l n R b.held
    same = held_is l' t.count R' b.held (held_trees l n R b.held) (root_at l' t.count R' b.held) (C.ran.rooted ok) (held_length l n R b.held D.ready.standing.few) few

    -- the others are due
    pub others_due : Due B cap l' w' t.count R' (b.held + 1) b
    others_due = record { ready = first_stands; room = omega (arith, room); earlier = D.earlier; few_stages = D.few_stages; some_action = D.some_action; an_action = D.an_action }

    pub stage_ends : {l'' : List ℤ} {w'' R'' P'' : List ℕ} {r : Run}
        → Counted cap t.peak l' t.count R' b.held b.stage (λ K. best_on (model B) b.stage K (before_of l' t.count R' b) 2 (model B).others (root_at l' t.count R' b.held)) P' l'' w'' R'' P'' r
        → Counted cap p l n R b.held b.stage (λ K. stage_over (model B) b.stage K (before_of l n R b)) P l'' w'' R'' P'' r
    stage_ends {l''} {w''} {R''} {P''} {r} E = let O = E.ran in record {
      peaks = λ z K al.
          let F = root_at l' t.count R' b.held in
          E.peaks z K (alike_trans (alike_eq same) al)
          ∙ (ap₂ (λ (X : List Tree) (Q : List ℕ). peaks_of Q (best_on (model B) b.stage K (get_or X b.before blank) 2 (model B).others F)) same (C.peaks ok K al)
          ∙ sym (stage_peaks (model B) b.stage K (before_of l n R b) cap p P (C.ran.outcome K al ∙ answered_ok t.stop b.stage F t.peak ok)));
      ran = record {
        outcome = λ K al. first_done (model B) cap p b.stage K (before_of l n R b) (C.ran.outcome K al ∙ answered_ok t.stop b.stage (root_at l' t.count R' b.held) t.peak ok)
            ∙ (ap (λ (X : List Tree). run_all cap t.peak (best_on (model B) b.stage K (get_or X b.before blank) 2 (model B).others (root_at l' t.count R' b.held))) (sym same)
            ∙ O.outcome K (alike_trans (alike_eq same) al));
        rooted = λ z. subst (λ (X : List Tree). Rooted cap l'' w'' r.count (take (suc b.held) R'') (X ++ (root_at l'' r.count R'' b.held ∷ []))) same (O.rooted z);
        fits = λ z q. O.fits z (C.ran.fits ok q);
      };
    }
