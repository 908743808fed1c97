-- The name commands of an accepted model: each names one of its actions, and none names one twice.
use Rattle.std.proofs.Math.Path.{◌≡◌, sym, ap, subst}
use Rattle.std.specs.Prelude.{refl, Bool, true, false, T, eqb, length}
use Rattle.std.proofs.Common.{◌∙◌, arith}
use Rattle.std.proofs.Math.Logic.{⊎_elim}
use mathlib.Core.List.Memᴰ
use mathlib.Core.List.{List, [], ◌∷◌, Memᴰ}
use Prim.Native.Nat.{ℕ, zero, suc, ◌+◌, ◌≤◌, ◌<◌}
use Rattle.std.proofs.Math.ListN.{take, drop, length-drop}
use Rattle.whole.specs.Cases.{if, by_test, not_not}
use Rattle.theory.specs.Widths.{name_bytes}
use Rattle.theory.specs.Form.{new_form, site_byte, behind_action}
use Rattle.theory.specs.Valid.{among}
use Rattle.theory.specs.Command.{Command, site, push_leaf, push_condition, push_test, push_forbidden, give, name_action, end_model, Read, whole, unknown}
use Rattle.theory.specs.Command.{short, Placed, byte_at, width, command_at, command_in, read_at, goes_on, readings_from, readings_from_in, readings}
use Rattle.theory.specs.Command.{readings_in}
use Rattle.theory.specs.Verdict.{Site, Progress, Verdict, first_broken, first_rules, later_rules, rules_of, rules_in, after, judged, judged_in, at_start, verdict, verdict_in}
use Rattle.theory.specs.Load.{site_at, site_in}
use Rattle.theory.specs.Name.{Part, trimmed, name_part, name}
use Rattle.theory.specs.Rows.{Range, Admitted, name_0, NamePartRow, name_given, name_empty, name_refused}
use Rattle.theory.proofs.laws.Valid.{among_out}
use Rattle.theory.proofs.laws.AcceptedModel.{broken, unbroken, judged_whole, behind}
use Rattle.theory.proofs.laws.Rows.{by_read, ended_going, verdict_is}
use Rattle.theory.proofs.laws.Name.{trimmed_most, trimmed_spaces, trimmed_last, name_bytes_at, name_part_row, name_part_is}
use Rattle.model_find.specs.Find.{trim}
use Rattle.model_find.proofs.laws.Spaces.{trim_first}

-- a command that names action a
abbrev pub naming : ℕ → ℕ → List ℕ → Placed
naming a at t = record { at = at; read = whole (name_action a t) }

-- ---- offsets

-- what is read stands at its offset, and none before the first
pub placed : (B : List ℕ) (k p : ℕ) (y : Placed) → Memᴰ y (readings_from B k p) → (y.read ≡ read_at B y.at) × (p ≤ y.at)
unfolding readings_from_in
placed B zero p y m = absurd (Memᴰ.not-nil m)
placed B (suc k) p y m = ⊎_elim
    (λ i. rw i (refl, omega arith))
    (λ i. by_test (goes_on (read_at B p)) (λ b. Memᴰ y (behind B k p b) → (y.read ≡ read_at B y.at) × (p ≤ y.at))
    (λ _ i. let d = placed B k (p + width (byte_at B p)) y i in (d.0, omega (arith, d.1)))
    (λ _ i. absurd (Memᴰ.not-nil i))
    i)
    (Memᴰ.cases_cons m)

-- those behind one stand behind it
pub behind_later : (B : List ℕ) (k p : ℕ) (y : Placed) → Memᴰ y (behind B k p (goes_on (read_at B p))) → p < y.at
unfolding goes_on
behind_later B k p y = by_read B p (λ r. Memᴰ y (behind B k p (goes_on r)) → p < y.at)
    (λ _ m. absurd (Memᴰ.not-nil m))
    (λ _ _ m. absurd (Memᴰ.not-nil m))
    (λ _ _ _ m. absurd (Memᴰ.not-nil m))
    (λ w m. by_test (goes_on (whole (command_at B p))) (λ b. Memᴰ y (behind B k p b) → p < y.at)
    (λ _ i. let d = placed B k (p + width (byte_at B p)) y i in omega (arith, d.1, w.known))
    (λ _ i. absurd (Memᴰ.not-nil i))
    m)

-- ---- each is one of the model's actions

module _ (B : List ℕ) where
  abbrev from : ℕ → ℕ → Read → List Placed
  from k p r = record { at = p; read = r } ∷ behind B k p (goes_on r)

  abbrev Accepts : Progress → List Placed → Type 0
  Accepts s l = (judged (length B) s l).number ≡ 0

  -- what is read of an accepted model is whole and breaks nothing, and the rest is accepted behind it
  step : (k p : ℕ) (s : Progress) (P : Read → Type 0)
      → ((c : Command) → first_broken (rules_of s c) ≡ 0 → (T (goes_on (whole c)) → Accepts (after s c) (readings_from B k (p + width (byte_at B p)))) → P (whole c))
      → (r : Read) → Accepts s (from k p r) → P r
  unfolding judged_in
  step k p s P f (whole c) e =
      let d = judged_whole (first_broken (rules_of s c)) p _ e in
      f c d.0 (λ g. ap (λ (v : Verdict). v.number) (sym (ended_going B k p s c g)) ∙ d.1)
  step k p s P f unknown e = absurd (let z : ◌≡◌ {A = ℕ} 3 0 = e in omega arith)
  step k p s P f short e = absurd (let z : ◌≡◌ {A = ℕ} 2 0 = e in omega arith)

later : (s : Progress) (c : Command) → T s.begun → first_broken (rules_of s c) ≡ 0 → first_broken (later_rules s.site s.stack s.given c) ≡ 0
unfolding rules_in
later s c = go s.begun
  where
    go : (b : Bool) → T b → first_broken (if b (later_rules s.site s.stack s.given c) (first_rules new_form c)) ≡ 0 → first_broken (later_rules s.site s.stack s.given c) ≡ 0
    go true t e = e
    go false t e = absurd t

-- the site stays as it is
site_stays : (s : Progress) (c : Command) → T s.begun → first_broken (rules_of s c) ≡ 0 → T (after s c).begun × ((after s c).site ≡ s.site)
unfolding after later_rules
site_stays s (site m n a w) b e = broken 0 _ (later s (site m n a w) b e)
site_stays s (push_leaf p) b e = (b, refl)
site_stays s (push_condition k) b e = (b, refl)
site_stays s (push_test p) b e = (b, refl)
site_stays s push_forbidden b e = (b, refl)
site_stays s (give g) b e = (b, refl)
site_stays s (name_action a t) b e = (b, refl)
site_stays s end_model b e = (b, refl)

name_in : (s : Progress) (a : ℕ) (t : List ℕ) → T s.begun → first_broken (rules_of s (name_action a t)) ≡ 0 → Range 1 s.site.actions a
unfolding later_rules
name_in s a t b e = among_out s.site.actions a (not_not (among s.site.actions a) (unbroken 3 _ _ (later s (name_action a t) b e)).0)

module _ (B : List ℕ) (a at : ℕ) (t : List ℕ) where
  is_naming : (p : ℕ) (c : Command) → naming a at t ≡ record { at = p; read = whole c } → c ≡ name_action a t
  is_naming p c i = let j : whole (name_action a t) ≡ whole c = ap (λ (x : Placed). x.read) i in (cc)

  among_later : (k p : ℕ) (s : Progress) → T s.begun → Accepts B s (readings_from B k p) → Memᴰ (naming a at t) (readings_from B k p) → Range 1 s.site.actions a
  unfolding readings_from_in
  among_later zero p s b e m = absurd (Memᴰ.not-nil m)
  among_later (suc k) p s b e m = step B k p s (λ r. Memᴰ (naming a at t) (from B k p r) → Range 1 s.site.actions a)
      (λ c u rest m. ⊎_elim
      (λ i. name_in s a t b (subst (λ (c : Command). first_broken (rules_of s c) ≡ 0) (is_naming p c i) u))
      (λ j.
      let d = site_stays s c b u in
      by_test (goes_on (whole c)) (λ x. Memᴰ (naming a at t) (behind B k p x) → Range 1 s.site.actions a)
      (λ g i. subst (λ (S : Site). Range 1 S.actions a) d.1 (among_later k (p + width (byte_at B p)) (after s c) d.0 (rest g) i))
      (λ _ i. absurd (Memᴰ.not-nil i))
      j)
      (Memᴰ.cases_cons m))
      (read_at B p) e m

-- what a first command that breaks nothing begins
BeginsWith : List ℕ → Command → Type 0
BeginsWith B c = first_broken (rules_of at_start c) ≡ 0 → T (after at_start c).begun × ((after at_start c).site ≡ site_at B)

begins_if : (B : List ℕ) (b : Bool) (c d : Command) → BeginsWith B c → BeginsWith B d → BeginsWith B (if b c d)
begins_if B true c d f g = f
begins_if B false c d f g = g

begins : (B : List ℕ) → BeginsWith B (command_at B 0)
unfolding command_in BeginsWith rules_in first_rules after site_in
begins B =
    begins_if B (eqb (byte_at B 0) (site_byte new_form)) _ _ (λ _. (tt, refl)) (begins_if B (eqb (byte_at B 0) 0x10) _ _ (λ e. broken 0 _ e) (begins_if B (eqb (byte_at B 0) 0x11) _ _ (λ e. broken 0 _ e)
    (begins_if B (eqb (byte_at B 0) 0x12) _ _ (λ e. broken 0 _ e) (begins_if B (eqb (byte_at B 0) 0x13) _ _ (λ e. broken 0 _ e)
    (begins_if B (eqb (byte_at B 0) 0x20) _ _ (λ e. broken 0 _ e) (begins_if B (eqb (byte_at B 0) 0x21) _ _ (λ e. broken 0 _ e)
    (begins_if B (eqb (byte_at B 0) 0x22) _ _ (λ e. broken 0 _ e) (begins_if B (eqb (byte_at B 0) 0x23) _ _ (λ e. broken 0 _ e)
    (begins_if B (eqb (byte_at B 0) 0x30) _ _ (λ e. broken 0 _ e) (λ e. broken 0 _ e))))))))))

-- a command that is read is the one that stands there
whole_command : (B : List ℕ) (at : ℕ) (c : Command) → whole c ≡ read_at B at → c ≡ command_at B at
whole_command B at c e = by_read B at (λ r. whole c ≡ r → c ≡ command_at B at)
    (λ _ e. absurd (let z : ◌≡◌ {A = ℕ} 0 1 = cc in omega arith))
    (λ _ _ e. absurd (let z : ◌≡◌ {A = ℕ} 0 1 = cc in omega arith))
    (λ _ _ _ e. absurd (let z : ◌≡◌ {A = ℕ} 0 1 = cc in omega arith))
    (λ _ e. cc)
    e

no_first : (a : ℕ) (t : List ℕ) → first_broken (rules_of at_start (name_action a t)) ≡ 0 → ⊥
unfolding rules_in first_rules
no_first a t e = broken 0 _ e

pub named_among : (B : List ℕ) → (verdict B).number ≡ 0 → (a at : ℕ) (t : List ℕ) → Memᴰ (naming a at t) (readings B) → Range 1 (site_at B).actions a
unfolding verdict_in readings_in readings_from_in BeginsWith
named_among B e a at t m = step B (length B) 0 at_start (λ r. r ≡ read_at B 0 → Memᴰ (naming a at t) (from B (length B) 0 r) → Range 1 (site_at B).actions a)
    (λ c u rest q m. ⊎_elim
    (λ i. absurd (no_first a t (subst (λ (c : Command). first_broken (rules_of at_start c) ≡ 0) (is_naming B a at t 0 c i) u)))
    (λ j.
    let d = subst (BeginsWith B) (sym (whole_command B 0 c q)) (begins B) u in
    by_test (goes_on (whole c)) (λ x. Memᴰ (naming a at t) (behind B (length B) 0 x) → Range 1 (site_at B).actions a)
    (λ g i. subst (λ (S : Site). Range 1 S.actions a) d.1 (among_later B a at t (length B) (0 + width (byte_at B 0)) (after at_start c) d.0 (rest g) i))
    (λ _ i. absurd (Memᴰ.not-nil i))
    j)
    (Memᴰ.cases_cons m))
    (read_at B 0) e refl m

-- ---- a name is that of its command

module _ (B : List ℕ) (d : Admitted B 1 8) (a : ℕ) where
  own : (verdict B).number ≡ 0
  own = ap (λ (v : Verdict). v.number) (verdict_is B d.own)

  -- the bytes that a name command has, inside the model
  bytes_there : (at : ℕ) (t : List ℕ) → Memᴰ (naming a at t) (readings B) → (t ≡ take name_bytes (drop (at + behind_action new_form) B)) × (name_bytes ≤ length (drop (at + behind_action new_form) B))
  unfolding readings_in
  bytes_there at t m =
      let b = name_bytes_at B at a t (sym (placed B (suc (length B)) 0 (naming a at t) m).0) in
      (b.0, omega (arith, length-drop (at + behind_action new_form) B, b.1))

  part_there : (at : ℕ) (t : List ℕ) → Memᴰ (naming a at t) (readings B) → name_part B a ≡ record { start = at + behind_action new_form; size = trimmed (drop (at + behind_action new_form) B) name_bytes }
  part_there at t m =
      let l = drop (at + behind_action new_form) B in
      let b = bytes_there at t m in
      name_part_is B a (name_given {t = t} (name_0 d (named_among B own a at t m)) m (trimmed_most l name_bytes) (trimmed_spaces l name_bytes b.1 ∙ sym b.0) (trimmed_last l name_bytes))

  pub name_there : (at : ℕ) (t : List ℕ) → Memᴰ (naming a at t) (readings B) → name B a ≡ trim t
  unfolding name
  name_there at t m =
      let l = drop (at + behind_action new_form) B in
      let b = bytes_there at t m in
      ap (λ (p : Part). take p.size (drop p.start B)) (part_there at t m) ∙ sym (ap trim b.0 ∙ trim_first l name_bytes b.1)

  -- two commands that name it are one
  pub named_once : (at : ℕ) (t : List ℕ) → Memᴰ (naming a at t) (readings B) → (z : ℕ) (u : List ℕ) → Memᴰ (naming a z u) (readings B) → at ≡ z
  named_once at t m z u n =
      let e : at + behind_action new_form ≡ z + behind_action new_form = ap (λ (p : Part). p.start) (sym (part_there at t m) ∙ part_there z u n) in
      omega arith

  pub in_range : (at : ℕ) (t : List ℕ) → Memᴰ (naming a at t) (readings B) → Range 1 (site_at B).actions a
  in_range at t m = named_among B own a at t m

  given : {p : Part} → NamePartRow B a p → (take p.size (drop p.start B) ≡ [] → ⊥) → (at : ℕ) × ((t : List ℕ) × Memᴰ (naming a at t) (readings B))
  given (name_given {at = at} {t = t} r m h e l) f = (at, (t, m))
  given (name_empty r g) f = absurd (f refl)
  given (name_refused r h) f = absurd (f refl)

  -- a name that is not empty is some command's
  pub name_given_there : (name B a ≡ [] → ⊥) → (at : ℕ) × ((t : List ℕ) × Memᴰ (naming a at t) (readings B))
  unfolding name
  name_given_there f = given (name_part_row B a) f
