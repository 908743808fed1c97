-- All commands of an accepted model, in the other form: the same commands are read of it, it is accepted, and in the first form again it is the model.
use Rattle.std.proofs.Math.Path.{◌≡◌, refl, sym, ap, ap₂, subst}
use Rattle.std.proofs.Common.{◌∙◌, arith, eqb→eq, ltb→lt, drop-drop}
use Rattle.std.specs.Prelude.{Bool, true, false, not, ◌&&◌, T, eqb, ltb, ℤ, pos, take}
use mathlib.Core.List.{List, [], ◌∷◌, ◌++◌, map, append-nil}
use Prim.Native.Nat.{ℕ, zero, suc, ◌+◌, ◌-◌, ◌*◌, ◌≤◌, ◌<◌}
use Rattle.std.proofs.Math.Dec.{compare_is_eq, nltb→le}
use Rattle.theory.specs.Diagram.{cmp_ℤ}
use Rattle.std.proofs.Math.ListN.{length, drop, length-append, length-drop, take-append-drop}
use Rattle.std.proofs.Math.Seq.{drop-append_seam, take_all}
use Rattle.whole.specs.Cases.{if, by_test, both, not_not}
use Rattle.theory.specs.Form.{Form, site_byte, levels_in, actions_in, forbidden_bytes}
use Rattle.theory.specs.Diagram.{zeros}
use Rattle.theory.specs.Valid.{among}
use Rattle.theory.specs.Command.{Command, site, push_leaf, push_condition, push_test, push_forbidden, give, Slot, name_action, end_model, Read, whole, unknown, short, Placed, byte_at, width_in, command_in, read_in, goes_on, readings_from_in}
use Rattle.theory.specs.Verdict.{Site, Facts, Progress, Verdict, refusal, or, beyond, of_site, same_slot, end_slot, first_broken, first_rules, later_rules, rules_in, after, ended, judged_in}
use Rattle.theory.proofs.laws.Valid.{among_out}
use Rattle.theory.specs.Rows.{WholeIn}
use Rattle.theory.proofs.laws.AcceptedModel.{broken, unbroken, judged_whole, behind_in}
use Rattle.theory.proofs.laws.Rows.{if_yes, if_no, by_read_in, read_whole_in}
use Rattle.convert_forms.specs.Forms.{converted, converted_all}
use Rattle.convert_model.specs.Conversion.{is_forbidden, forbids}
use Rattle.convert_model.proofs.laws.OneCommand.{Turn, FitsForm, one, first_byte, command_drop, converted_drop, copied_is}

-- ---- what a form has room for

-- a site that fits a form
pub record SiteFits (G : Form) (S : Site) : Type 0 where
  pub levels : S.levels ≤ levels_in G
  pub actions : S.actions ≤ actions_in G

-- commands that a form has
abbrev pub Permits : Form → List Placed → Type 0
Permits G l = T (forbids l) → 1 ≤ forbidden_bytes G

-- the first of them, and those behind it
first_permitted : (G : Form) (r : Read) (at : ℕ) (l : List Placed) → Permits G (record { at = at; read = r } ∷ l) → T (is_forbidden r) → 1 ≤ forbidden_bytes G
unfolding forbids
first_permitted G r at l f t = f (either_left (is_forbidden r) (forbids l) t)
  where
    either_left : (a b : Bool) → T a → T (or a b)
    either_left true b t = tt
    either_left false b t = absurd t

rest_permitted : (G : Form) (r : Read) (at : ℕ) (l : List Placed) → Permits G (record { at = at; read = r } ∷ l) → Permits G l
unfolding forbids
rest_permitted G r at l f t = f (either_right (is_forbidden r) (forbids l) t)
  where
    either_right : (a b : Bool) → T b → T (or a b)
    either_right true b t = tt
    either_right false b t = t

zeros_drop : (j : ℕ) (l : List ℤ) → T (zeros l) → T (zeros (drop j l))
unfolding zeros
zeros_drop zero l t = t
zeros_drop (suc j) [] t = tt
zeros_drop (suc j) (z ∷ l) t = zeros_drop j l (both (compare_is_eq (cmp_ℤ z (pos 0))) (zeros l) t).1

zeros_more : (m k : ℕ) (l : List ℤ) → m ≤ k → T (zeros (drop m l)) → T (zeros (drop k l))
zeros_more m k l h t =
    let n : m + (k - m) ≡ k = omega arith in
    let e : drop (k - m) (drop m l) ≡ drop k l = drop-drop (k - m) m l ∙ ap (λ (j : ℕ). drop j l) n in
    subst (λ (l : List ℤ). T (zeros l)) e (zeros_drop (k - m) (drop m l) t)

one_of : {X : Type 0} (a b c : Bool) → T (or a (b && c)) → (T a → X) → (T b → X) → X
one_of true b c t f g = f tt
one_of false b c t f g = g (both b c t).0

slot_action : (g h : Slot) → T (same_slot g h) → g.action ≡ h.action
unfolding same_slot
slot_action g h t = eqb→eq g.action h.action (both (eqb g.action h.action) _ (both (eqb g.command h.command) _ t).1).0

slot_fits : (G : Form) (S : Site) (g : Slot) → SiteFits G S → T (of_site S g) → g.action ≤ actions_in G
unfolding of_site
slot_fits G S g r t = one_of (same_slot g end_slot) (among S.actions g.action) _ t
    (λ e. omega (arith, slot_action g end_slot e))
    (λ a. omega (arith, (among_out S.actions g.action a).1, r.actions))

-- a command that breaks no rule of a site that fits
later_fits : (G : Form) (S : Site) (K : List Facts) (L : List Slot) → SiteFits G S → (c : Command) → (T (is_forbidden (whole c)) → 1 ≤ forbidden_bytes G) → first_broken (later_rules S K L c) ≡ 0 → FitsForm G c
unfolding later_rules beyond is_forbidden
later_fits G S K L r (site m n a w) q e = broken 0 _ e
later_fits G S K L r (push_leaf p) q e = zeros_more S.levels (levels_in G) p.coeffs r.levels (not_not (zeros (drop S.levels p.coeffs)) (unbroken 3 _ _ e).0)
later_fits G S K L r (push_condition k) q e = tt
later_fits G S K L r (push_test p) q e = zeros_more S.levels (levels_in G) p.coeffs r.levels (not_not (zeros (drop S.levels p.coeffs)) (unbroken 3 _ _ e).0)
later_fits G S K L r push_forbidden q e = q tt
later_fits G S K L r (give g) q e = slot_fits G S g r (not_not (of_site S g) (unbroken 3 _ _ e).0)
later_fits G S K L r (name_action a t) q e = omega (arith, (among_out S.actions a (not_not (among S.actions a) (unbroken 3 _ _ e).0)).1, r.actions)
later_fits G S K L r end_model q e = tt

-- ---- the commands behind an offset

-- those from one on
abbrev pub from_in : Form → List ℕ → ℕ → ℕ → Read → List Placed
from_in F B k at r = record { at = at; read = r } ∷ behind_in F B k at (goes_on r)

-- what is read where nothing is refused
accepted_read : (F : Form) (B : List ℕ) (at : ℕ) (P : Read → Type 0) → (P short → ⊥) → (P unknown → ⊥) → P (read_in F B at) → WholeIn F B at
accepted_read F B at P a b = by_read_in F B at (λ r. P r → WholeIn F B at) (λ _ p. absurd (a p)) (λ _ _ p. absurd (b p)) (λ _ _ _ p. absurd (a p)) (λ w _. w)

-- ---- the end command is one byte

peel : (b : Bool) (x y : Command) (v w : ℕ) → T (goes_on (whole x)) → if b x y ≡ end_model → (y ≡ end_model → 1 ≤ w → w ≡ 1) → 1 ≤ if b v w → if b v w ≡ 1
unfolding goes_on
peel true x y v w g e f h = absurd (subst (λ (c : Command). T (goes_on (whole c))) e g)
peel false x y v w g e f h = f e h

last_one : (b : Bool) → 1 ≤ if b 1 0 → ◌≡◌ {A = ℕ} (if b 1 0) 1
last_one true h = refl
last_one false h = absurd (omega arith)

end_width : (F : Form) (B : List ℕ) (at : ℕ) → command_in F B at ≡ end_model → 1 ≤ width_in F (byte_at B at) → width_in F (byte_at B at) ≡ 1
unfolding command_in width_in goes_on
end_width F B at e =
    let op = byte_at B at in
    peel (eqb op (site_byte F)) _ _ _ _ tt e (λ e. peel (eqb op 0x10) _ _ _ _ tt e (λ e. peel (eqb op 0x11) _ _ _ _ tt e (λ e. peel (eqb op 0x12) _ _ _ _ tt e
    (λ e. peel (eqb op 0x13) _ _ _ _ tt e (λ e. peel (eqb op 0x20) _ _ _ _ tt e (λ e. peel (eqb op 0x21) _ _ _ _ tt e (λ e. peel (eqb op 0x22) _ _ _ _ tt e (λ e. peel (eqb op 0x23) _ _ _ _ tt e
    (λ e. peel (eqb op 0x30) _ _ _ _ tt e (λ _. last_one (eqb op 0xff)))))))))))

le_nltb : (n k : ℕ) → n ≤ k → T (not (ltb k n))
le_nltb n k h = by_test (ltb k n) (λ b. T (not b)) (λ t. absurd (omega (arith, ltb→lt k n t))) (λ _. tt)

-- ---- one command, and those behind it

module _ {F G : Form} (t : Turn F G) (B C : List ℕ) where
  -- what stands at an offset of C is what stands at an offset of B, and Q is behind it
  record Here (at on : ℕ) (Q : List ℕ) : Type 0 where
    stands : WholeIn G C on
    command : command_in G C on ≡ command_in F B at
    home : converted G F C on ≡ take (width_in F (byte_at B at)) (drop at B)
    rest : drop (on + width_in G (byte_at C on)) C ≡ Q
    most : length (converted F G B at) * 21 ≤ width_in F (byte_at B at) * 37

  here : (at on : ℕ) (Q : List ℕ) → WholeIn F B at → FitsForm G (command_in F B at) → drop on C ≡ converted F G B at ++ Q → on ≤ length C → Here at on Q
  here at on Q s f e h =
      let R = drop at B in
      let w = converted F G R 0 in
      let n = width_in G (byte_at C on) in
      let wide : width_in F (byte_at B at) ≡ width_in F (byte_at R 0) = ap (width_in F) (first_byte B at) in
      let long : width_in F (byte_at R 0) ≤ length R = omega (arith, wide, length-drop at B, s.inside, s.known) in
      let o = one t R Q (omega (arith, wide, s.known)) long (subst (FitsForm G) (command_drop B at F) f) in
      let d : drop on C ≡ w ++ Q = e ∙ ap (λ (l : List ℕ). l ++ Q) (converted_drop B at F G) in
      let size : n ≡ length w = ap (width_in G) (first_byte C on ∙ ap (λ (l : List ℕ). byte_at l 0) d) ∙ o.size in
      let left : length C - on ≡ length w + length Q = sym (length-drop on C) ∙ ap length d ∙ length-append w Q in
      record {
        stands = record { known = omega (arith, size, o.some); inside = omega (arith, size, left, o.some) };
        command = command_drop C on G ∙ ap (λ (l : List ℕ). command_in G l 0) d ∙ o.command ∙ sym (command_drop B at F);
        home = converted_drop C on G F ∙ ap (λ (l : List ℕ). converted G F l 0) d ∙ o.home ∙ copied_is R 0 (width_in F (byte_at R 0)) (omega (arith, long))
            ∙ ap (λ (n : ℕ). take n R) (sym wide);
        rest = sym (drop-drop n on C) ∙ ap (drop n) d ∙ ap (λ (n : ℕ). drop n (w ++ Q)) size ∙ drop-append_seam w Q;
        most = omega (arith, o.most, wide, ap length (converted_drop B at F G));
      }

  -- some readings of C are those of B from an offset on
  pub record Turned (l : List Placed) (at : ℕ) (s : Progress) (k : List Placed) : Type 0 where
    pub reads : map (λ x. x.read) k ≡ map (λ x. x.read) l
    pub home : converted_all G F C k ≡ drop at B
    pub accepted : judged_in G (length C) s k ≡ refusal 0 0
    pub most : length (converted_all F G B l) * 21 ≤ (length B - at) * 37

  module _ (at on : ℕ) (s : Progress) where
    going : (c : Command) (l k : List Placed) → ((size at : ℕ) (v : Verdict) → ended size at c v ≡ v) → first_broken (rules_in G s c) ≡ 0
        → WholeIn F B at → {Q : List ℕ} → Here at on Q
        → Turned l (at + width_in F (byte_at B at)) (after s c) k → Turned (record { at = at; read = whole c } ∷ l) at s (record { at = on; read = whole c } ∷ k)
    unfolding converted_all judged_in
    going c l k g f w x d =
        let n = width_in F (byte_at B at) in
        record {
          reads = ap (λ (l : List Read). whole c ∷ l) d.reads;
          home = ap₂ ◌++◌ x.home (d.home ∙ sym (drop-drop n at B)) ∙ take-append-drop n (drop at B);
          accepted = if_yes (eqb (first_broken (rules_in G s c)) 0) _ _ (rw f tt) ∙ g (length C) on _ ∙ d.accepted;
          most = omega (arith, length-append (converted F G B at) (converted_all F G B l), x.most, d.most, w.inside);
        }

    ending : WholeIn F B at → Here at on [] → command_in F B at ≡ end_model → first_broken (rules_in G s end_model) ≡ 0 → length B ≤ at + 1
        → Turned (record { at = at; read = whole end_model } ∷ []) at s (record { at = on; read = whole end_model } ∷ [])
    unfolding converted_all judged_in ended
    ending w h e f l =
        let n = width_in F (byte_at B at) in
        let one : width_in G (byte_at C on) ≡ 1 = end_width G C on (h.command ∙ e) h.stands.known in
        let none : length C - (on + width_in G (byte_at C on)) ≡ 0 = sym (length-drop (on + width_in G (byte_at C on)) C) ∙ ap length h.rest in
        record {
          reads = refl;
          home = append-nil (converted G F C on) ∙ h.home ∙ take_all n (drop at B) (omega (arith, length-drop at B, w.known));
          accepted = if_yes (eqb (first_broken (rules_in G s end_model)) 0) _ _ (rw f tt)
              ∙ if_no (ltb (on + 1) (length C)) _ _ (le_nltb (length C) (on + 1) (omega (arith, one, none)));
          most = omega (arith, length-append (converted F G B at) [], h.most, w.inside);
        }

  -- how a command goes on: what stands behind it is taken as given
  abbrev Onward : ℕ → ℕ → ℕ → ℕ → Progress → Command → Type 0
  Onward k k' at on s c = (next : ℕ) → on < next → next ≤ length C → drop next C ≡ converted_all F G B (behind_in F B k at true)
      → (judged_in F (length B) (after s c) (behind_in F B k at true)).number ≡ 0 → Permits G (behind_in F B k at true)
      → Turned (behind_in F B k at true) (at + width_in F (byte_at B at)) (after s c) (readings_from_in G C k' next)

  module _ (k k' at on : ℕ) (s : Progress) (w : WholeIn F B at) (h : on ≤ length C) where
    turn_next : (c : Command) → command_in F B at ≡ c → ((size at : ℕ) (v : Verdict) → ended size at c v ≡ v) → FitsForm G c → first_broken (rules_in G s c) ≡ 0
        → drop on C ≡ converted F G B at ++ converted_all F G B (behind_in F B k at true)
        → (judged_in F (length B) (after s c) (behind_in F B k at true)).number ≡ 0 → Permits G (behind_in F B k at true) → Onward k k' at on s c
        → Turned (record { at = at; read = whole c } ∷ behind_in F B k at true) at s (record { at = on; read = whole c } ∷ behind_in G C k' on true)
    turn_next c e g f r d j q ih =
        let x = here at on (converted_all F G B (behind_in F B k at true)) w (subst (FitsForm G) (sym e) f) d h in
        going at on s c _ _ g r w x (ih (on + width_in G (byte_at C on)) (omega (arith, x.stands.known)) x.stands.inside x.rest j q)

    turn_one : (c : Command) → command_in F B at ≡ c → FitsForm G c → first_broken (rules_in G s c) ≡ 0
        → drop on C ≡ converted F G B at ++ converted_all F G B (behind_in F B k at (goes_on (whole c)))
        → (ended (length B) at c (judged_in F (length B) (after s c) (behind_in F B k at (goes_on (whole c))))).number ≡ 0 → Permits G (behind_in F B k at (goes_on (whole c))) → Onward k k' at on s c
        → Turned (from_in F B k at (whole c)) at s (from_in G C k' on (whole c))
    unfolding goes_on ended converted_all
    turn_one (site m n a v) e f r d j q ih = turn_next (site m n a v) e (λ _ _ _. refl) f r d j q ih
    turn_one (push_leaf p) e f r d j q ih = turn_next (push_leaf p) e (λ _ _ _. refl) f r d j q ih
    turn_one (push_condition i) e f r d j q ih = turn_next (push_condition i) e (λ _ _ _. refl) f r d j q ih
    turn_one (push_test p) e f r d j q ih = turn_next (push_test p) e (λ _ _ _. refl) f r d j q ih
    turn_one push_forbidden e f r d j q ih = turn_next push_forbidden e (λ _ _ _. refl) f r d j q ih
    turn_one (give g) e f r d j q ih = turn_next (give g) e (λ _ _ _. refl) f r d j q ih
    turn_one (name_action a b) e f r d j q ih = turn_next (name_action a b) e (λ _ _ _. refl) f r d j q ih
    turn_one end_model e f r d j q ih =
        let x = here at on [] w (subst (FitsForm G) (sym e) f) d h in
        ending at on s w x e r (by_test (ltb (at + 1) (length B)) (λ b. (if b (refusal 8 (at + 1)) (refusal 0 0)).number ≡ 0 → length B ≤ at + 1)
        (λ _ z. absurd (omega (arith, z))) (λ t _. nltb→le (at + 1) (length B) t) j)

    -- the same of what is read
    pub turn_read : FitsForm G (command_in F B at) → first_broken (rules_in G s (command_in F B at)) ≡ 0
        → drop on C ≡ converted_all F G B (from_in F B k at (read_in F B at))
        → (judged_in F (length B) s (from_in F B k at (read_in F B at))).number ≡ 0 → Permits G (from_in F B k at (read_in F B at)) → Onward k k' at on s (command_in F B at)
        → Turned (from_in F B k at (read_in F B at)) at s (from_in G C k' on (read_in G C on))
    unfolding converted_all judged_in
    turn_read f r d j q ih =
        let c = command_in F B at in
        let e : read_in F B at ≡ whole c = read_whole_in F B at w in
        let d' : drop on C ≡ converted_all F G B (from_in F B k at (whole c)) = d ∙ ap (λ (x : Read). converted_all F G B (from_in F B k at x)) e in
        let j' : (judged_in F (length B) s (from_in F B k at (whole c))).number ≡ 0 = ap (λ (x : Read). (judged_in F (length B) s (from_in F B k at x)).number) (sym e) ∙ j in
        let q' : Permits G (from_in F B k at (whole c)) = subst (λ (x : Read). Permits G (from_in F B k at x)) e q in
        let x = here at on _ w f d' h in
        let z = judged_whole (first_broken (rules_in F s c)) at _ j' in
        let o : read_in G C on ≡ whole c = read_whole_in G C on x.stands ∙ ap whole x.command in
        subst (λ (y : Read). Turned (from_in F B k at (read_in F B at)) at s (from_in G C k' on y)) (sym o)
        (subst (λ (y : Read). Turned (from_in F B k at y) at s (from_in G C k' on (whole c))) (sym e) (turn_one c refl f r d' z.1 (rest_permitted G (whole c) at _ q') ih))

-- ---- all commands behind the site

-- behind the site the rules are the same in both forms
later_of : (F : Form) (s : Progress) (c : Command) → s.begun ≡ true → rules_in F s c ≡ later_rules s.site s.stack s.given c
unfolding rules_in
later_of F s c b = ap (λ (b : Bool). if b (later_rules s.site s.stack s.given c) (first_rules F c)) b

-- the command at an offset is one that a form has
pub command_permitted : (F G : Form) (B : List ℕ) (k at : ℕ) → WholeIn F B at → Permits G (from_in F B k at (read_in F B at)) → T (is_forbidden (whole (command_in F B at))) → 1 ≤ forbidden_bytes G
command_permitted F G B k at w q t = first_permitted G (read_in F B at) at _ q (subst (λ (r : Read). T (is_forbidden r)) (sym (read_whole_in F B at w)) t)

-- the site stays as it is
site_stays : (s : Progress) (c : Command) → s.begun ≡ true → first_broken (later_rules s.site s.stack s.given c) ≡ 0 → ((after s c).begun ≡ true) × ((after s c).site ≡ s.site)
unfolding after later_rules
site_stays s (site m n a w) b e = broken 0 _ e
site_stays s (push_leaf p) b e = (b, refl)
site_stays s (push_condition k) b e = (b, refl)
site_stays s (push_test p) b e = (b, refl)
site_stays s push_forbidden b e = (b, refl)
site_stays s (give g) b e = (b, refl)
site_stays s (name_action a t) b e = (b, refl)
site_stays s end_model b e = (b, refl)

module _ {F G : Form} (t : Turn F G) (B C : List ℕ) where
  -- what an accepted reading says of itself
  pub unbroken_read : (k at : ℕ) (s : Progress) → (judged_in F (length B) s (from_in F B k at (read_in F B at))).number ≡ 0 → WholeIn F B at × (first_broken (rules_in F s (command_in F B at)) ≡ 0)
  unfolding judged_in
  unbroken_read k at s j =
      let w = accepted_read F B at (λ r. (judged_in F (length B) s (from_in F B k at r)).number ≡ 0)
      (λ z. absurd (let y : ◌≡◌ {A = ℕ} 2 0 = z in omega arith)) (λ z. absurd (let y : ◌≡◌ {A = ℕ} 3 0 = z in omega arith)) j in
      (w, (judged_whole (first_broken (rules_in F s (command_in F B at))) at _ (ap (λ (x : Read). (judged_in F (length B) s (from_in F B k at x)).number) (sym (read_whole_in F B at w)) ∙ j)).0)

  pub turned : (k k' at on : ℕ) (s : Progress) → s.begun ≡ true → SiteFits G s.site → at ≤ length B → length B < at + k → on ≤ length C → length C < on + k'
      → drop on C ≡ converted_all F G B (readings_from_in F B k at) → (judged_in F (length B) s (readings_from_in F B k at)).number ≡ 0 → Permits G (readings_from_in F B k at)
      → Turned t B C (readings_from_in F B k at) at s (readings_from_in G C k' on)
  unfolding readings_from_in
  turned zero k' at on s b r i l i' l' d j q = absurd (omega arith)
  turned (suc k) zero at on s b r i l i' l' d j q = absurd (omega arith)
  turned (suc k) (suc k') at on s b r i l i' l' d j q =
      let c = command_in F B at in
      let u = unbroken_read k at s j in
      let e : first_broken (later_rules s.site s.stack s.given c) ≡ 0 = ap first_broken (sym (later_of F s c b)) ∙ u.1 in
      let y = site_stays s c b e in
      turn_read t B C k k' at on s u.0 i' (later_fits G s.site s.stack s.given r c (command_permitted F G B k at u.0 q) e) (ap first_broken (later_of G s c b) ∙ e) d j q
      (λ next h m d' j' q'. turned k k' (at + width_in F (byte_at B at)) next (after s c) y.0 (subst (SiteFits G) (sym y.1) r) u.0.inside (omega (arith, u.0.known)) m (omega arith) d' j' q')
