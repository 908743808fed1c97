-- Roots at their places: what a store leaves, and all roots in their order.
use mathlib.Core.Path.{◌≡◌, refl, sym, ap, ap₂, ◌∙◌, subst}
use mathlib.Core.Bool.{Bool, true, false, not, ◌&&◌}
use mathlib.Core.Logic.{⊎_elim, ◌⊎◌, inl, inr}
use mathlib.Core.List.{List, [], ◌∷◌}
use Prim.Native.Nat.{ℕ, zero, suc, ◌+◌, ◌-◌, ◌*◌, ◌≤◌, ◌<◌}
use native.Mathlib.Nat.{suc-mul, lt_of_lt_of_le, mul-le-mul, mul-le-mul_right}
use native.Mathlib.Omega.{arith}
use borrow.Author.Tests.{lt-ltb, le-ltb, ne_eqb, eq-eqb}
use lib.Dec.{T, eqb, ltb, eqb→eq, eqb_refl}
use lib.IntN.{ℤ}
use lib.ListN.{length, get_or, set, length-set}
use lib.Seq.{get_or-set_same, get_or-set_other}
use Rattle.whole.specs.Cases.{if, by_test, both, and_in}
use Rattle.theory.specs.Widths.{loaded_roots_most, levels_most, conditions_most, actions_most}
use Rattle.theory.specs.Diagram.{Tree}
use Rattle.theory.specs.Command.{give, Slot}
use Rattle.theory.specs.Verdict.{Site, end_slot, name_slot, same_slot, has_slot, or}
use Rattle.theory.specs.Load.{Entry, find_slot, found}
use Rattle.theory.specs.Rows.{OfSite}
use Rattle.rule_node.specs.Nodes.{tree_at, Grown}
use Rattle.rule_node.proofs.Trees.{trees_kept}
use Rattle.model_command.specs.declared.Command.{Command as CodeCommand}
use Rattle.model_command.specs.declared.Command.TheVariants.{Site as SiteBy, Leaf, Condition, Test, Forbidden, Give, Name, End}
use Rattle.model_command.specs.CursorReadings.{command_of_in, command_of}
use Rattle.load_model.specs.ModelRoots.{rows_above, offset_of, place_of, ended_by, stored_in}

-- ---- places

abbrev pub width_of : Site → ℕ
width_of S = 1 + S.conditions + S.levels

-- a slot of an action, and its place
pub record PlacedAt (S : Site) (g : Slot) (i : ℕ) : Type 0 where
  pub offset : ℕ
  pub least : 1 ≤ g.action
  pub most : g.action ≤ S.actions
  pub which : ((g.command ≡ 0x20) × (g.index ≡ 0) × (offset ≡ 0)) ⊎ (((g.command ≡ 0x21) × (1 ≤ g.index) × (g.index ≤ S.conditions) × (offset ≡ g.index)) ⊎
      ((g.command ≡ 0x22) × (1 ≤ g.index) × (g.index ≤ S.levels) × (offset ≡ S.conditions + g.index)))
  pub place : i ≡ (g.action - 1) * width_of S + offset

-- the end worth, behind all of them
pub record EndsAt (S : Site) (g : Slot) (i : ℕ) : Type 0 where
  pub is : g ≡ end_slot
  pub place : i ≡ S.actions * width_of S

-- a slot of the site
abbrev pub StandsAt : Site → Slot → ℕ → Type 0
StandsAt S g i = PlacedAt S g i ⊎ EndsAt S g i

rows_row : (A : ℕ) (g : Slot) → (g.command ≡ 0x23 → ⊥) → rows_above A g ≡ g.action - 1
unfolding rows_above
rows_row A g h = rw (ne_eqb g.command 0x23 h)

offset_row : (n : ℕ) (g : Slot) → (g.command ≡ 0x22 → ⊥) → offset_of n g ≡ g.index
unfolding offset_of
offset_row n g h = rw (ne_eqb g.command 0x22 h)

offset_level : (n : ℕ) (g : Slot) → g.command ≡ 0x22 → offset_of n g ≡ n + g.index
unfolding offset_of
offset_level n g e = rw (eq-eqb g.command 0x22 e)

-- what a command gives has its place
pub placed_given : (S : Site) (g : Slot) → OfSite S g → StandsAt S g (place_of S.levels S.conditions S.actions (give g))
unfolding place_of rows_above offset_of
placed_given S g = ⊎_elim
    (λ e. inr (record {
      is = e;
      place = ap (λ (h : Slot). place_of S.levels S.conditions S.actions (give h)) e ∙ (let z : S.actions * width_of S + 0 ≡ S.actions * width_of S = omega arith in z);
    }))
    (λ d. inl (record {
      offset = offset_of S.conditions g;
      least = d.0.0;
      most = d.0.1;
      which = ⊎_elim
          (λ e. inl (e.0, e.1, offset_row S.conditions g (λ f. omega (arith, e.0)) ∙ e.1))
          (⊎_elim
          (λ e. inr (inl (e.0, e.1.0, e.1.1, offset_row S.conditions g (λ f. omega (arith, e.0)))))
          (λ e. inr (inr (e.0, e.1.0, e.1.1, offset_level S.conditions g e.0))))
          d.1;
      place = ap (λ (x : ℕ). x * width_of S + offset_of S.conditions g)
          (rows_row S.actions g (λ f. ⊎_elim (λ e. omega (arith, e.0)) (⊎_elim (λ e. omega (arith, e.0)) (λ e. omega (arith, e.0))) d.1));
    }))

offset_less : {S : Site} {g : Slot} {i : ℕ} (p : PlacedAt S g i) → p.offset < width_of S
offset_less p = ⊎_elim (λ e. omega (arith, e.2)) (⊎_elim (λ e. omega (arith, e.2, e.3)) (λ e. omega (arith, e.2, e.3))) p.which

uniq : (w a b o p : ℕ) → o < w → p < w → a * w + o ≡ b * w + p → (a ≡ b) × (o ≡ p)
uniq w zero zero o p h k e = (refl, (let z : o ≡ p = omega arith in z))
uniq w zero (suc b) o p h k e = absurd (let s = suc-mul b w in omega arith)
uniq w (suc a) zero o p h k e = absurd (let s = suc-mul a w in omega arith)
uniq w (suc a) (suc b) o p h k e =
    let s = suc-mul a w in
    let t = suc-mul b w in
    let q = uniq w a b o p h k (omega arith) in
    (ap suc q.0, q.1)

-- a place has one slot
apart : {S : Site} {g h : Slot} {i j : ℕ} → PlacedAt S g i → PlacedAt S h j → i ≡ j → (g.command ≡ h.command) × (g.action ≡ h.action) × (g.index ≡ h.index)
apart {S} {g} {h} {i} {j} p q e =
    let u = uniq (width_of S) (g.action - 1) (h.action - 1) p.offset q.offset (offset_less p) (offset_less q) (sym p.place ∙ (e ∙ q.place)) in
    let a = p.least in
    let b = q.least in
    let c = u.0 in
    let o = u.1 in
    let act : g.action ≡ h.action = omega arith in
    ⊎_elim
    (λ x. ⊎_elim (λ y. (x.0 ∙ sym y.0, act, x.1 ∙ sym y.1)) (⊎_elim (λ y. absurd (omega (arith, x.2, y.1, y.3))) (λ y. absurd (omega (arith, x.2, y.1, y.3)))) q.which)
    (⊎_elim
    (λ x. ⊎_elim (λ y. absurd (omega (arith, y.2, x.1, x.3))) (⊎_elim (λ y. (x.0 ∙ sym y.0, act, (let z : g.index ≡ h.index = omega (arith, x.3, y.3) in z))) (λ y. absurd (omega (arith, x.2, x.3, y.1, y.3)))) q.which)
    (λ x. ⊎_elim (λ y. absurd (omega (arith, y.2, x.1, x.3))) (⊎_elim (λ y. absurd (omega (arith, y.2, y.3, x.1, x.3))) (λ y. (x.0 ∙ sym y.0, act, (let z : g.index ≡ h.index = omega (arith, x.3, y.3) in z)))) q.which))
    p.which

-- an action's places stand before the end worth's
place_less : {S : Site} {g : Slot} {i : ℕ} → PlacedAt S g i → i < S.actions * width_of S
place_less {S} {g} {i} p = less g.action p.least p.most p.place
  where
    less : (a : ℕ) → 1 ≤ a → a ≤ S.actions → i ≡ (a - 1) * width_of S + p.offset → i < S.actions * width_of S
    less zero h k e = absurd (omega arith)
    less (suc a) h k e =
        let o = offset_less p in
        let s = suc-mul a (width_of S) in
        let m = mul-le-mul_right (width_of S) k in
        let f : i ≡ a * width_of S + p.offset = e ∙ ap (λ (x : ℕ). x * width_of S + p.offset) (let z : suc a - 1 ≡ a = omega arith in z) in
        omega arith

-- a place has one slot, the end worth's too
stands_apart : {S : Site} {g h : Slot} {i j : ℕ} → StandsAt S g i → StandsAt S h j → i ≡ j → (g.command ≡ h.command) × (g.action ≡ h.action) × (g.index ≡ h.index)
stands_apart (inl p) (inl q) e = apart p q e
stands_apart (inl p) (inr q) e = absurd (omega (arith, place_less p, q.place, e))
stands_apart (inr p) (inl q) e = absurd (omega (arith, place_less q, p.place, e))
stands_apart (inr p) (inr q) e = let s = p.is ∙ sym q.is in (ap (λ (h : Slot). h.command) s, ap (λ (h : Slot). h.action) s, ap (λ (h : Slot). h.index) s)

same_in : (g h : Slot) → (g.command ≡ h.command) × (g.action ≡ h.action) × (g.index ≡ h.index) → T (same_slot g h)
unfolding same_slot
same_in g h e = and_in (eqb g.command h.command) _ (rw e.0 (eqb_refl h.command)) (and_in (eqb g.action h.action) _ (rw e.1 (eqb_refl h.action)) (rw e.2 (eqb_refl h.index)))

same_out : (g h : Slot) → T (same_slot g h) → (g.command ≡ h.command) × (g.action ≡ h.action) × (g.index ≡ h.index)
unfolding same_slot
same_out g h t =
    let a = both (eqb g.command h.command) _ t in
    let b = both (eqb g.action h.action) _ a.1 in
    (eqb→eq _ _ a.0, eqb→eq _ _ b.0, eqb→eq _ _ b.1)

-- a slot has one place
same_place : {S : Site} {g h : Slot} {i j : ℕ} → PlacedAt S g i → PlacedAt S h j → (g.command ≡ h.command) × (g.action ≡ h.action) × (g.index ≡ h.index) → i ≡ j
same_place {S} {g} {h} {i} {j} p q e =
    let o : p.offset ≡ q.offset = ⊎_elim
    (λ x. ⊎_elim (λ y. omega (arith, x.2, y.2)) (⊎_elim (λ y. absurd (omega (arith, e.0, x.0, y.0))) (λ y. absurd (omega (arith, e.0, x.0, y.0)))) q.which)
    (⊎_elim
    (λ x. ⊎_elim (λ y. absurd (omega (arith, e.0, x.0, y.0))) (⊎_elim (λ y. omega (arith, e.2, x.3, y.3)) (λ y. absurd (omega (arith, e.0, x.0, y.0)))) q.which)
    (λ x. ⊎_elim (λ y. absurd (omega (arith, e.0, x.0, y.0))) (⊎_elim (λ y. absurd (omega (arith, e.0, x.0, y.0))) (λ y. omega (arith, e.2, x.3, y.3))) q.which))
    p.which in
    p.place ∙ (ap₂ (λ (a o : ℕ). (a - 1) * width_of S + o) e.1 o ∙ sym q.place)

-- what stands for an action is no end worth
row_command : {S : Site} {g : Slot} {i : ℕ} → PlacedAt S g i → g.command < 0x23
row_command p = ⊎_elim (λ x. omega (arith, x.0)) (⊎_elim (λ x. omega (arith, x.0)) (λ x. omega (arith, x.0))) p.which

stands_command : {S : Site} {g : Slot} {i : ℕ} → StandsAt S g i → g.command ≤ 0x23
stands_command (inl p) = omega (arith, row_command p)
stands_command (inr p) = omega (arith, ap (λ (h : Slot). h.command) p.is)

stands_same : {S : Site} {g h : Slot} {i j : ℕ} → StandsAt S g i → StandsAt S h j → (g.command ≡ h.command) × (g.action ≡ h.action) × (g.index ≡ h.index) → i ≡ j
stands_same (inl p) (inl q) e = same_place p q e
stands_same (inl p) (inr q) e = absurd (omega (arith, row_command p, ap (λ (h : Slot). h.command) q.is, e.0))
stands_same (inr p) (inl q) e = absurd (omega (arith, row_command q, ap (λ (h : Slot). h.command) p.is, e.0))
stands_same (inr p) (inr q) e = p.place ∙ sym q.place

-- ---- the roots of what has been given

pub record RootOf (l : List ℤ) (n : ℕ) (x : ℕ) (t : Tree) : Type 0 where
  pub below : x < n
  pub tree : tree_at l n x ≡ t

pub record Rooted (S : Site) (l : List ℤ) (n : ℕ) (R : List ℕ) (G : List Slot) (E : List Entry) : Type 0 where
  pub root : (g : Slot) (i : ℕ) → StandsAt S g i → T (has_slot g G) → RootOf l n (get_or R i 0) (find_slot g E)
  pub end : found end_slot E ≡ if (has_slot end_slot G) (find_slot end_slot E ∷ []) []

pub rooted_none : (S : Site) (l : List ℤ) (n : ℕ) (R : List ℕ) → Rooted S l n R [] []
unfolding has_slot found
rooted_none S l n R = record { root = λ g i p t. absurd t; end = refl }

root_grown : {l l' : List ℤ} {n n' : ℕ} {x : ℕ} {t : Tree} → Grown l n l' n' → RootOf l n x t → RootOf l' n' x t
root_grown {x = x} G r = record { below = lt_of_lt_of_le r.below G.more; tree = trees_kept G x r.below ∙ r.tree }

pub rooted_grown : {S : Site} {l l' : List ℤ} {n n' : ℕ} {R : List ℕ} {G : List Slot} {E : List Entry} → Grown l n l' n' → Rooted S l n R G E → Rooted S l' n' R G E
rooted_grown D r = record { root = λ g i p t. root_grown D (r.root g i p t); end = r.end }

-- a name has no root
pub rooted_name : {S : Site} {l : List ℤ} {n : ℕ} {R : List ℕ} {G : List Slot} {E : List Entry} (a : ℕ) → Rooted S l n R G E → Rooted S l n R (name_slot a ∷ G) E
unfolding has_slot same_slot
rooted_name {l = l} {n} {R} {G} {E} a r = record {
  root = λ g i p t. by_test (same_slot g (name_slot a)) (λ b. T (or b (has_slot g G)) → RootOf l n (get_or R i 0) (find_slot g E))
      (λ s _. absurd (omega (arith, (same_out g (name_slot a) s).0, stands_command p)))
      (λ _ t. r.root g i p t) t;
  end = r.end;
}

place_few : {S : Site} {g : Slot} {i : ℕ} → S.actions ≤ actions_most → S.conditions ≤ conditions_most → S.levels ≤ levels_most → StandsAt S g i → i < loaded_roots_most
place_few {S} {g} {i} A N M p =
    let q = mul-le-mul {n₁ = S.actions} {m₁ = width_of S} {n₂ = actions_most} {m₂ = 1 + conditions_most + levels_most} A (omega arith) in
    ⊎_elim (λ x. omega (arith, place_less x)) (λ x. omega (arith, x.place)) p

stored_at : (R : List ℕ) (i x : ℕ) → loaded_roots_most ≤ length R → i < loaded_roots_most → get_or (stored_in R i x) i 0 ≡ x
unfolding stored_in
stored_at R i x r h = ap (λ (b : Bool). get_or (if b (set R i x) R) i 0) (lt-ltb i loaded_roots_most h) ∙ get_or-set_same R i x 0 (omega arith)

stored_away : (R : List ℕ) (i j x : ℕ) → (j ≡ i → ⊥) → get_or (stored_in R i x) j 0 ≡ get_or R j 0
unfolding stored_in
stored_away R i j x h = by_test (ltb i loaded_roots_most) (λ b. get_or (if b (set R i x) R) j 0 ≡ get_or R j 0) (λ _. get_or-set_other R i j x 0 h) (λ _. refl)

pub stored_length : (R : List ℕ) (i x : ℕ) → length (stored_in R i x) ≡ length R
unfolding stored_in
stored_length R i x = by_test (ltb i loaded_roots_most) (λ b. length (if b (set R i x) R) ≡ length R) (λ _. length-set R i x) (λ _. refl)

pub stored_none : (R : List ℕ) (x : ℕ) → stored_in R loaded_roots_most x ≡ R
unfolding stored_in
stored_none R x = refl

differ : (c : Bool) → T (not c) → T c → ⊥
differ true a b = a
differ false a b = b

-- what is given now stands at its place
pub rooted_entry : {S : Site} {l : List ℤ} {n : ℕ} {R : List ℕ} {G : List Slot} {E : List Entry} {g : Slot} {i : ℕ} {x : ℕ} {t : Tree} → S.actions ≤ actions_most
    → S.conditions ≤ conditions_most → S.levels ≤ levels_most → loaded_roots_most ≤ length R → StandsAt S g i → RootOf l n x t → Rooted S l n R G E → Rooted S l n
    (stored_in R i x) (g ∷ G) (record { slot = g; tree = t } ∷ E)
unfolding has_slot find_slot found
rooted_entry {S} {l} {n} {R} {G} {E} {g} {i} {x} {t} A N M room p o r = record {
  root = λ h j q u.
      by_test (same_slot h g) (λ b. T (or b (has_slot h G)) → RootOf l n (get_or (stored_in R i x) j 0) (if b t (find_slot h E)))
      (λ s _. subst (λ (y : ℕ). RootOf l n y t) (sym (ap (λ (k : ℕ). get_or (stored_in R i x) k 0) (stands_same q p (same_out h g s)) ∙ stored_at R i x room (place_few A N M p))) o)
      (λ s u. subst (λ (y : ℕ). RootOf l n y (find_slot h E)) (sym (stored_away R i j x (λ e. differ (same_slot h g) s (same_in h g (stands_apart q p e))))) (r.root h j q u))
      u;
  end = by_test (same_slot end_slot g) (λ b. if b (t ∷ []) (found end_slot E) ≡ if (or b (has_slot end_slot G)) (if b t (find_slot end_slot E) ∷ []) []) (λ _. refl) (λ _. r.end);
}

-- what is given by the rules: whether an end worth is among it
pub ends_given : (S : Site) {g : Slot} (G : List Slot) {b : Bool} → OfSite S g → b ≡ has_slot end_slot G → ended_by b (give g) ≡ has_slot end_slot (g ∷ G)
unfolding ended_by has_slot same_slot
ends_given S {g} G d e = ap₂ or (⊎_elim
    (λ i. ap (λ (h : Slot). eqb h.command 0x23) i ∙ sym (ap (same_slot end_slot) i))
    (λ d. let n : g.command ≡ 0x23 → ⊥ = λ f. ⊎_elim (λ x. omega (arith, x.0)) (⊎_elim (λ x. omega (arith, x.0)) (λ x. omega (arith, x.0))) d.1 in
    ne_eqb g.command 0x23 n ∙ sym (ap (λ (b : Bool). b && (eqb 0 g.action && eqb 0 g.index)) (ne_eqb 0x23 g.command (λ f. n (sym f))))) d) e

-- ---- what the code reckons

pub row_few : (a n : ℕ) → a < 65536 → n < 512 → a * n < 33554432
row_few a n h k = let m = mul-le-mul_right n (let z : a ≤ 65535 = omega arith in z) in omega arith

pub stored_yes : (R : List ℕ) (i x : ℕ) → i < loaded_roots_most → set R i x ≡ stored_in R i x
unfolding stored_in
stored_yes R i x h = ap (λ (b : Bool). if b (set R i x) R) (sym (lt-ltb i loaded_roots_most h))

pub stored_no : (R : List ℕ) (i x : ℕ) → loaded_roots_most ≤ i → R ≡ stored_in R i x
unfolding stored_in
stored_no R i x h = ap (λ (b : Bool). if b (set R i x) R) (sym (le-ltb i loaded_roots_most h))

-- nothing is given
pub other_command : (B : List ℕ) (at : ℕ) (d : CodeCommand) → ((x a j : ℕ) → d ≡ Give x a j → ⊥)
    → ((m n A : ℕ) → loaded_roots_most ≡ place_of m n A (command_of B at d)) × ((b : Bool) → b ≡ ended_by b (command_of B at d))
unfolding place_of ended_by command_of_in
other_command B at (SiteBy x y a w) k = (λ m n A. refl, λ b. refl)
other_command B at Leaf k = (λ m n A. refl, λ b. refl)
other_command B at (Condition i) k = (λ m n A. refl, λ b. refl)
other_command B at Test k = (λ m n A. refl, λ b. refl)
other_command B at Forbidden k = (λ m n A. refl, λ b. refl)
other_command B at (Give x a j) k = absurd (k x a j refl)
other_command B at (Name a) k = (λ m n A. refl, λ b. refl)
other_command B at End k = (λ m n A. refl, λ b. refl)
