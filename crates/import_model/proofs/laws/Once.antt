-- "6: given twice": in an accepted model no two entries are for one slot, and so each item of the text is the one that gives its slot.
use Rattle.std.specs.Prelude.{◌≡◌, refl, Bool, true, false, not, ◌&&◌, ℕ, T}
use Rattle.std.proofs.Common.{sym, ap, ◌∙◌, subst, ⊎_elim, T_not}
use mathlib.Core.List.{List, [], ◌∷◌, Memᴰ}
use Rattle.whole.specs.Cases.{if, by_test, both, and_in}
use Rattle.theory.specs.Form.{new_form}
use Rattle.theory.specs.Diagram.{Test, Tree}
use Rattle.theory.specs.Computation.{ret, bind, make, result}
use Rattle.theory.specs.Rules.{choose}
use Rattle.theory.specs.Command.{Command, site, push_leaf, push_condition, push_test, push_forbidden, give, Slot, name_action, end_model}
use Rattle.theory.specs.Verdict.{Site, Facts, Progress, same_slot, has_slot, name_slot, or, rule, first_broken, later_rules, first_rules, rules_in, after, ended, judged_in, at_start}
use Rattle.theory.specs.Load.{Entry, Loaded, condition_test, load_choice_with, load_entry, load_one_with}
use Rattle.theory.specs.Meaning.{Env}
use Rattle.theory.proofs.laws.Comps.{result_bind}
use Rattle.theory.proofs.laws.Rules.{slot_same, same_self}
use Rattle.theory.proofs.laws.AcceptedModel.{broken, unbroken, judged_whole}
use Rattle.import_model.specs.Encode.{placed}
use Rattle.import_model.specs.Meaning.{Item, item_leaf, leaf_at}
use Rattle.import_model.proofs.laws.Follows.{load_all, loaded}
use Rattle.import_model.proofs.laws.Items.{capped, Entered, no_entry, one_entry}
use Rattle.import_model.proofs.laws.Decode.{AllFit, none_left, fits_and, with_end}

-- ---- slots

-- a slot has an entry
unfoldable pub has_entry : Slot → List Entry → Bool
has_entry g [] = false
has_entry g (e ∷ E) = or (same_slot g e.slot) (has_entry g E)

-- no two entries for one
unfoldable pub once : List Entry → Bool
once [] = true
once (e ∷ E) = not (has_entry e.slot E) && once E

-- what has an entry has been given
abbrev Covered : List Entry → List Slot → Type 0
Covered E G = (g : Slot) → T (has_entry g E) → T (has_slot g G)

not_from : (a b : Bool) → (T a → T b) → T (not b) → T (not a)
not_from true b f n = absurd (T_not b n (f tt))
not_from false b f n = tt

or_map : (a b c : Bool) → (T b → T c) → T (or a b) → T (or a c)
or_map true b c f t = tt
or_map false b c f t = f t

or_more : (a b : Bool) → T b → T (or a b)
or_more true b t = tt
or_more false b t = t

covered_more : (E : List Entry) (G : List Slot) (h : Slot) → Covered E G → Covered E (h ∷ G)
unfolding has_slot
covered_more E G h c g t = or_more (same_slot g h) (has_slot g G) (c g t)

covered_entry : (E : List Entry) (G : List Slot) (h : Slot) (t : Tree) → Covered E G → Covered (record { slot = h; tree = t } ∷ E) (h ∷ G)
unfolding has_slot has_entry
covered_entry E G h t c g = or_map (same_slot g h) (has_entry g E) (has_slot g G) (c g)

-- ---- commands

abbrev state : Site → List Facts → List Slot → Progress
state S K G = record { begun = true; site = S; stack = K; given = G }

choice_entries : (t : Test) (X : List Tree) (E : List Entry) → result (load_choice_with choose t X E) ≡ loaded (result (load_choice_with choose t X E)).stack E
unfolding load_choice_with result
choice_entries t [] E = refl
choice_entries t (l ∷ []) E = refl
choice_entries t (l ∷ h ∷ X) E = let q = result_bind (choose t h l) (λ r. ret (loaded (r ∷ X) E)) in q ∙ ap (λ (s : Loaded). loaded s.stack E) (sym q)

abbrev Once : List Command → Site → List Facts → List Slot → List Tree → List Entry → Type 0
Once C S K G X E = (size at : ℕ) → (judged_in new_form size (state S K G) (placed at (with_end C))).number ≡ 0 → T (once E) → Covered E G → T (once (load_all (with_end C) (loaded X E)).entries)

entry_once : (C : List Command) (S : Site) (K : List Facts) (G : List Slot) (g : Slot) (X : List Tree) (E : List Entry) → T (not (has_slot g G))
    → ((Y : List Tree) (F : List Entry) → T (once F) → Covered F (g ∷ G) → T (once (load_all (with_end C) (loaded Y F)).entries))
    → T (once E) → Covered E G → T (once (load_all (with_end C) (result (load_entry g X E))).entries)
unfolding load_entry result once
entry_once C S K G g [] E n f o c = f [] E o (covered_more E G g c)
entry_once C S K G g (t ∷ X) E n f o c =
    f X (record { slot = g; tree = t } ∷ E) (and_in (not (has_entry g E)) (once E) (not_from (has_entry g E) (has_slot g G) (c g) n) o) (covered_entry E G g t c)

once_all : {C : List Command} → AllFit C → (S : Site) (K : List Facts) (G : List Slot) (X : List Tree) (E : List Entry) → Once C S K G X E
unfolding judged_in placed load_all load_one_with rules_in later_rules after ended result bind make
once_all none_left S K G X E size at j o c = o
once_all (fits_and {C = C} (site m n a w) f r) S K G X E size at j o c = broken 0 _ (judged_whole (first_broken (rule 1 true ∷ [])) at _ j).0
once_all (fits_and {C = C} (push_leaf p) f r) S K G X E size at j o c =
    let d = judged_whole (first_broken (later_rules S K G (push_leaf p))) at _ j in once_all r S _ G _ E size _ d.1 o c
once_all (fits_and {C = C} (push_condition k) f r) S K G X E size at j o c =
    let d = judged_whole (first_broken (later_rules S K G (push_condition k))) at _ j in
    subst (λ (s : Loaded). T (once (load_all (with_end C) s).entries)) (sym (choice_entries (condition_test k) X E)) (once_all r S _ G _ E size _ d.1 o c)
once_all (fits_and {C = C} (push_test p) f r) S K G X E size at j o c =
    let d = judged_whole (first_broken (later_rules S K G (push_test p))) at _ j in
    subst (λ (s : Loaded). T (once (load_all (with_end C) s).entries)) (sym (choice_entries _ X E)) (once_all r S _ G _ E size _ d.1 o c)
once_all (fits_and {C = C} push_forbidden f r) S K G X E size at j o c =
    let d = judged_whole (first_broken (later_rules S K G push_forbidden)) at _ j in once_all r S _ G _ E size _ d.1 o c
once_all (fits_and {C = C} (give g) f r) S K G X E size at j o c =
    let d = judged_whole (first_broken (later_rules S K G (give g))) at _ j in
    let u = unbroken 3 _ _ d.0 in
    let v = unbroken 4 _ _ u.1 in
    let w = unbroken 5 _ _ v.1 in
    entry_once C S K G g X E w.0 (λ Y F p q. once_all r S _ (g ∷ G) Y F size _ d.1 p q) o c
once_all (fits_and {C = C} (name_action a b) f r) S K G X E size at j o c =
    let d = judged_whole (first_broken (later_rules S K G (name_action a b))) at _ j in once_all r S K (name_slot a ∷ G) X E size _ d.1 o (covered_more E G (name_slot a) c)
once_all (fits_and {C = C} end_model f r) S K G X E size at j o c = absurd f

-- the site comes first
pub once_first : (m n a w : ℕ) {C : List Command} → AllFit C → (size : ℕ) → (judged_in new_form size at_start (placed 0 (site m n a w ∷ with_end C))).number ≡ 0
    → T (once (load_all (site m n a w ∷ with_end C) (loaded [] [])).entries)
unfolding judged_in placed load_all load_one_with rules_in after ended result once has_entry
once_first m n a w r size j =
    let d = judged_whole (first_broken (first_rules new_form (site m n a w))) 0 _ j in once_all r _ [] [] [] [] size _ d.1 tt (λ g t. absurd t)

-- ---- items

-- the entry of an item of a slot
member_has : {E : List Entry} {l : List Item} → Entered E l → (x : Item) → Memᴰ x l → T (has_entry (capped x.slot) E)
unfolding has_entry
member_has no_entry x m = absurd (mathlib.Core.List.Memᴰ.not-nil m)
member_has (one_entry {E = E} t y h d) x m = ⊎_elim
    (λ e. subst (λ (z : Item). T (or (same_slot (capped x.slot) (capped z.slot)) (has_entry (capped x.slot) E))) e (left (same_slot (capped x.slot) (capped x.slot)) _ (same_self (capped x.slot))))
    (λ n. or_more (same_slot (capped x.slot) (capped y.slot)) (has_entry (capped x.slot) E) (member_has d x n)) (mathlib.Core.List.Memᴰ.cases_cons m)
  where
    left : (a b : Bool) → T a → T (or a b)
    left true b t = tt
    left false b t = absurd t

-- each item is the one that gives its slot
pub each_once : {E : List Entry} {l : List Item} → Entered E l → T (once E) → (e : Env) (x : Item) → Memᴰ x l → leaf_at e x.slot l ≡ item_leaf e x
unfolding once leaf_at
each_once no_entry o e x m = absurd (mathlib.Core.List.Memᴰ.not-nil m)
each_once (one_entry {E = E} {l = l} t y h d) o e x m =
    let p = both (not (has_entry (capped y.slot) E)) (once E) o in
    let ih : Memᴰ x l → leaf_at e x.slot l ≡ item_leaf e x = λ n. each_once d p.1 e x n in
    by_test (same_slot x.slot y.slot) (λ b. if b (item_leaf e y) (leaf_at e x.slot l) ≡ item_leaf e x)
    (λ s. ⊎_elim (λ q. ap (item_leaf e) (sym q))
    (λ n. absurd (T_not (has_entry (capped y.slot) E) p.0 (subst (λ (g : Slot). T (has_entry (capped g) E)) (slot_same x.slot y.slot s) (member_has d x n)))) (mathlib.Core.List.Memᴰ.cases_cons m))
    (λ s. ⊎_elim (λ q. absurd (T_not (same_slot x.slot y.slot) s (subst (λ (z : Item). T (same_slot x.slot z.slot)) q (same_self x.slot)))) ih (mathlib.Core.List.Memᴰ.cases_cons m))
