-- A flag for each thing that can be given: places differ, and a store is one thing more.
use mathlib.Core.Path.{◌≡◌, refl, sym, ap, ◌∙◌, subst}
use mathlib.Core.Bool.{Bool, true, false, ◌&&◌}
use mathlib.Core.List.{List, [], ◌∷◌}
use Prim.Native.Nat.{ℕ, zero, suc, ◌≤◌, ◌<◌}
use native.Mathlib.Omega.{arith}
use borrow.Author.Tests.{ne_eqb, eq-eqb, eqb-true, eqb-false}
use mathlib.Core.Logic.{◌⊎◌, ⊎_elim}
use lib.Dec.{T, eqb, eqb→eq, eqb_refl}
use lib.ListN.{length, get_or, set, replicate}
use lib.Seq.{get_or-set_same, get_or-set_other}
use Rattle.whole.specs.Cases.{both, same_bool}
use Rattle.theory.specs.Command.{Slot}
use Rattle.theory.specs.Verdict.{or, Site, same_slot, has_slot, reward_slot, chance_slot, level_slot, end_slot, of_site}
use Rattle.theory.specs.Rows.{Range}
use Rattle.theory.proofs.laws.Rules.{of_site_out}
use Rattle.theory.specs.Widths.{levels_most, conditions_most, actions_most, flags_most}
use Rattle.theory.specs.Valid.{among}
use Rattle.model_command.specs.declared.Command.{Command as CodeCommand}
use Rattle.model_command.specs.declared.Command.TheVariants.{Site as SiteBy, Leaf, Condition, Test, Forbidden, Give, Name, End}
use Rattle.model_progress.specs.GivenFlags.{noted, place, names_row, base_of, flag_of, Slotted, for_reward, for_chance, for_level, for_name, for_end}
use Rattle.model_progress.proofs.Numbers.{bounds, is_among}

-- a store past the end changes nothing
pub set_past : (l : List Bool) (i : ℕ) (x : Bool) → length l ≤ i → l ≡ set l i x
set_past [] i x h = refl
set_past (y ∷ l) zero x h = absurd (omega arith)
set_past (y ∷ l) (suc i) x h = ap (λ (r : List Bool). y ∷ r) (set_past l i x (omega arith))

pub no_flag : (n i : ℕ) → get_or (replicate n false) i false ≡ false
no_flag zero i = refl
no_flag (suc n) zero = refl
no_flag (suc n) (suc i) = no_flag n i

pub slotted_below : {g : Slot} {i : ℕ} → Slotted g i → i < flags_most
slotted_below (for_reward {a = a} t) = let h = bounds actions_most a t in omega arith
slotted_below (for_chance {a = a} {k = k} t u) = let h = bounds actions_most a t in let m = bounds conditions_most k u in omega arith
slotted_below (for_level {a = a} {i = k} t u) = let h = bounds actions_most a t in let m = bounds levels_most k u in omega arith
slotted_below (for_name {a = a} t) = let h = bounds actions_most a t in omega arith
slotted_below for_end = omega arith

apart : (i j : ℕ) → (i ≡ j → ⊥) → false ≡ eqb i j
apart i j h = sym (ne_eqb i j h)

-- one test on two numbers, as the test of their places
one : (a b i j : ℕ) → (a ≡ b → i ≡ j) → (i ≡ j → a ≡ b) → (eqb a b && true) ≡ eqb i j
one a b i j f g = same_bool (eqb a b && true) (eqb i j)
    (λ t. let e = f (eqb→eq a b (both (eqb a b) true t).0) in rw e (eqb_refl j))
    (λ t. let e = g (eqb→eq i j t) in rw e (rw (eq-eqb b b refl) tt))

two : (a b c d i j : ℕ) → (a ≡ b → c ≡ d → i ≡ j) → (i ≡ j → (a ≡ b) × (c ≡ d)) → (eqb a b && eqb c d) ≡ eqb i j
two a b c d i j f g = same_bool (eqb a b && eqb c d) (eqb i j)
    (λ t. let h = both (eqb a b) (eqb c d) t in let e = f (eqb→eq a b h.0) (eqb→eq c d h.1) in rw e (eqb_refl j))
    (λ t. let e = g (eqb→eq i j t) in rw (eq-eqb a b e.0, eq-eqb c d e.1) tt)

pub same_place : {g h : Slot} {i j : ℕ} → Slotted g i → Slotted h j → same_slot g h ≡ eqb i j
unfolding same_slot
same_place (for_reward {a = a} t) (for_reward {a = b} u) = one a b (place 0 0 a) (place 0 0 b) (λ e. omega arith) (λ e. omega arith)
same_place (for_reward {a = a} t) (for_chance {a = b} {k = l} u v) = apart (place 0 0 a) (place 0 l b) (let x = bounds actions_most a t in let y = bounds actions_most b u in let z = bounds conditions_most l v in λ e. omega arith)
same_place (for_reward {a = a} t) (for_level {a = b} {i = l} u v) = apart (place 0 0 a) (place conditions_most l b) (let x = bounds actions_most a t in let y = bounds actions_most b u in let z = bounds levels_most l v in λ e. omega arith)
same_place (for_reward {a = a} t) (for_name {a = b} u) = apart (place 0 0 a) (place names_row 0 b) (let x = bounds actions_most a t in let y = bounds actions_most b u in λ e. omega arith)
same_place (for_chance {a = a} {k = k} t r) (for_reward {a = b} u) = apart (place 0 k a) (place 0 0 b) (let x = bounds actions_most a t in let y = bounds actions_most b u in let w = bounds conditions_most k r in λ e. omega arith)
same_place (for_chance {a = a} {k = k} t r) (for_chance {a = b} {k = l} u v) =
    two a b k l (place 0 k a) (place 0 l b) (λ e f. omega arith) (let x = bounds actions_most a t in let y = bounds actions_most b u in λ e. (omega arith, omega arith))
same_place (for_chance {a = a} {k = k} t r) (for_level {a = b} {i = l} u v) =
    apart (place 0 k a) (place conditions_most l b) (let x = bounds actions_most a t in let y = bounds actions_most b u in let w = bounds conditions_most k r in let z = bounds levels_most l v in λ e. omega arith)
same_place (for_chance {a = a} {k = k} t r) (for_name {a = b} u) = apart (place 0 k a) (place names_row 0 b) (let x = bounds actions_most a t in let y = bounds actions_most b u in let w = bounds conditions_most k r in λ e. omega arith)
same_place (for_level {a = a} {i = k} t r) (for_reward {a = b} u) = apart (place conditions_most k a) (place 0 0 b) (let x = bounds actions_most a t in let y = bounds actions_most b u in let w = bounds levels_most k r in λ e. omega arith)
same_place (for_level {a = a} {i = k} t r) (for_chance {a = b} {k = l} u v) =
    apart (place conditions_most k a) (place 0 l b) (let x = bounds actions_most a t in let y = bounds actions_most b u in let w = bounds levels_most k r in let z = bounds conditions_most l v in λ e. omega arith)
same_place (for_level {a = a} {i = k} t r) (for_level {a = b} {i = l} u v) =
    two a b k l (place conditions_most k a) (place conditions_most l b) (λ e f. omega arith) (let x = bounds actions_most a t in let y = bounds actions_most b u in λ e. (omega arith, omega arith))
same_place (for_level {a = a} {i = k} t r) (for_name {a = b} u) = apart (place conditions_most k a) (place names_row 0 b)
    (let x = bounds actions_most a t in let y = bounds actions_most b u in let w = bounds levels_most k r in λ e. omega arith)
same_place (for_name {a = a} t) (for_reward {a = b} u) = apart (place names_row 0 a) (place 0 0 b) (let x = bounds actions_most a t in let y = bounds actions_most b u in λ e. omega arith)
same_place (for_name {a = a} t) (for_chance {a = b} {k = l} u v) = apart (place names_row 0 a) (place 0 l b) (let x = bounds actions_most a t in let y = bounds actions_most b u in let z = bounds conditions_most l v in λ e. omega arith)
same_place (for_name {a = a} t) (for_level {a = b} {i = l} u v) = apart (place names_row 0 a) (place conditions_most l b)
    (let x = bounds actions_most a t in let y = bounds actions_most b u in let z = bounds levels_most l v in λ e. omega arith)
same_place (for_name {a = a} t) (for_name {a = b} u) = one a b (place names_row 0 a) (place names_row 0 b) (λ e. omega arith) (λ e. omega arith)
same_place (for_reward {a = a} t) for_end = apart (place 0 0 a) 0 (let x = bounds actions_most a t in λ e. omega arith)
same_place (for_chance {a = a} {k = k} t r) for_end = apart (place 0 k a) 0 (let x = bounds actions_most a t in λ e. omega arith)
same_place (for_level {a = a} {i = k} t r) for_end = apart (place conditions_most k a) 0 (let x = bounds actions_most a t in λ e. omega arith)
same_place (for_name {a = a} t) for_end = apart (place names_row 0 a) 0 (let x = bounds actions_most a t in λ e. omega arith)
same_place for_end (for_reward {a = b} u) = apart 0 (place 0 0 b) (let y = bounds actions_most b u in λ e. omega arith)
same_place for_end (for_chance {a = b} {k = l} u v) = apart 0 (place 0 l b) (let y = bounds actions_most b u in λ e. omega arith)
same_place for_end (for_level {a = b} {i = l} u v) = apart 0 (place conditions_most l b) (let y = bounds actions_most b u in λ e. omega arith)
same_place for_end (for_name {a = b} u) = apart 0 (place names_row 0 b) (let y = bounds actions_most b u in λ e. omega arith)
same_place for_end for_end = refl

-- what the rules let be given
pub slotted_given : (S : Site) (g : Slot) → S.levels ≤ levels_most → S.conditions ≤ conditions_most → S.actions ≤ actions_most → T (of_site S g) → Slotted g (flag_of g)
unfolding base_of
slotted_given S g m n a t = ⊎_elim (λ e. from end_slot e for_end) acted (of_site_out S g t)
  where
    from : (h : Slot) → g ≡ h → Slotted h (flag_of h) → Slotted g (flag_of g)
    from h e s = subst (λ (k : Slot). Slotted k (flag_of k)) (sym e) s

    acted : Range 1 S.actions g.action
        × (((g.command ≡ 0x20) × (g.index ≡ 0)) ⊎ (((g.command ≡ 0x21) × Range 1 S.conditions g.index) ⊎ ((g.command ≡ 0x22) × Range 1 S.levels g.index))) → Slotted g (flag_of g)
    acted d =
        let act : T (among actions_most g.action) = is_among actions_most g.action d.0.0 (let h = d.0.1 in omega arith) in
        ⊎_elim
        (λ e. from (reward_slot g.action) (λ i. record { command = e.0 i; action = g.action; index = e.1 i }) (for_reward act))
        (⊎_elim
        (λ e. from (chance_slot g.action g.index) (λ i. record { command = e.0 i; action = g.action; index = g.index }) (for_chance act (is_among conditions_most g.index e.1.0 (let h = e.1.1 in omega arith))))
        (λ e. from (level_slot g.action g.index) (λ i. record { command = e.0 i; action = g.action; index = g.index }) (for_level act (is_among levels_most g.index e.1.0 (let h = e.1.1 in omega arith)))))
        d.1

-- a flag set is one thing more that is given
pub flag_more : (G : List Slot) (F : List Bool) {g h : Slot} {i j : ℕ} → length F ≡ flags_most → Slotted g i → Slotted h j → has_slot h G ≡ get_or F j false
    → has_slot h (g ∷ G) ≡ get_or (set F i true) j false
unfolding has_slot
flag_more G F {g} {h} {i} {j} n p q e =
    ap (λ (b : Bool). or b (has_slot h G)) (same_place q p) ∙ ap (or (eqb j i)) e ∙ go (eqb j i) refl
  where
    go : (b : Bool) → eqb j i ≡ b → or b (get_or F j false) ≡ get_or (set F i true) j false
    go true x = let y = eqb-true j i x in let l : i < length F = omega (arith, slotted_below p) in rw y (sym (get_or-set_same F i true false l))
    go false x = sym (get_or-set_other F i j true false (eqb-false j i x))

-- a command that gives nothing
pub noted_other : (c : CodeCommand) (F : List Bool) → ((x y z : ℕ) → c ≡ Give x y z → ⊥) → ((x : ℕ) → c ≡ Name x → ⊥) → F ≡ noted c F
unfolding noted
noted_other (SiteBy m n a w) F k1 k2 = refl
noted_other Leaf F k1 k2 = refl
noted_other (Condition i) F k1 k2 = refl
noted_other Test F k1 k2 = refl
noted_other Forbidden F k1 k2 = refl
noted_other (Give x a j) F k1 k2 = absurd (k1 x a j refl)
noted_other (Name a) F k1 k2 = absurd (k2 a refl)
noted_other End F k1 k2 = refl
