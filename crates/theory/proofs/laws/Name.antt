-- A name is the bytes of the command that names the action, without the spaces at their end; and there is one such command at most.
use Rattle.std.proofs.Math.Path.{◌≡◌, refl, sym, ap}
use Rattle.std.proofs.Common.{◌∙◌, subst, arith, eqb→eq, leb→le, take-suc, get_or-take, length-take-le, get_or-append-add}
use Rattle.std.specs.Prelude.{◌⊎◌, Bool, not, eqb, leb, length, get_or, take, replicate}
use Rattle.std.proofs.Math.Logic.{inl, inr, ⊎_elim}
use Rattle.std.proofs.Math.Bool.{true, false}
use mathlib.Core.List.Memᴰ
use mathlib.Core.List.{List, [], ◌∷◌, ◌++◌, append_assoc, append-nil, Memᴰ}
use Prim.Native.Nat.{ℕ, zero, suc, ◌+◌, ◌-◌, ◌≤◌, ◌<◌}
use Rattle.std.proofs.Math.Nat.{le_antisymm}
use Rattle.std.proofs.Math.Dec.{T, T_not, eqb_refl, nleb→lt}
use Rattle.std.proofs.Math.ListN.{drop, length-drop}
use Rattle.std.proofs.lemmas.List.{get_or-replicate, replicate-append-replicate}
use Rattle.whole.specs.Cases.{if, by_test}
use Rattle.theory.specs.Form.{new_form, site_byte}
use Rattle.theory.specs.Command.{Command, site, push_leaf, push_condition, push_test, push_forbidden, name_action, end_model, Read, whole, unknown}
use Rattle.theory.specs.Command.{short, Placed, byte_at, width, command_at, read_at, goes_on, readings_from, readings, give, Slot, command_in}
use Rattle.theory.specs.Command.{readings_from_in, readings_in, width_in}
use Rattle.theory.specs.Verdict.{Progress, Verdict, refusal, name_slot, same_slot, has_slot, first_broken, first_rules, later_rules, rules_of, after, judged, verdict, at_start, judged_in, rules_in, verdict_in}
use Rattle.theory.specs.Name.{names_action, Part, no_part, trimmed, named_part, name_refusal, name_part}
use Rattle.theory.specs.Rows.{NameRow, name_0, name_1_10, name_16, NamePartRow, name_given, name_empty, name_refused}
use Rattle.theory.proofs.laws.Rules.{or_left, or_right, same_self}
use Rattle.theory.proofs.laws.AcceptedModel.{unbroken, broken, judged_whole, behind, positive}
use Rattle.theory.proofs.laws.Rows.{by_read, ended_going, name_row, zero_name, name_is, verdict_is, early_some, some_not, if_yes, if_no}

-- ---- spaces at the end

pub trimmed_most : (l : List ℕ) (k : ℕ) → trimmed l k ≤ k
unfolding trimmed
trimmed_most l zero = omega arith
trimmed_most l (suc k) = by_test (eqb (get_or l k 0) 0x20) (λ b. if b (trimmed l k) (suc k) ≤ suc k) (λ _. omega (arith, trimmed_most l k)) (λ _. omega arith)

spaces_more : (l : List ℕ) (k : ℕ) → take (trimmed l k) l ++ replicate (k - trimmed l k) 0x20 ≡ take k l → get_or l k 0 ≡ 0x20 → suc k ≤ length l
    → take (trimmed l k) l ++ replicate (suc k - trimmed l k) 0x20 ≡ take (suc k) l
spaces_more l k e s h =
    ap (λ (n : ℕ). take (trimmed l k) l ++ replicate n 0x20) (more k (trimmed l k) (trimmed_most l k))
    ∙ ap (λ (r : List ℕ). take (trimmed l k) l ++ r) (sym (replicate-append-replicate (k - trimmed l k) 1 0x20))
    ∙ sym (append_assoc (take (trimmed l k) l) (replicate (k - trimmed l k) 0x20) (0x20 ∷ []))
    ∙ ap (λ (r : List ℕ). r ++ (0x20 ∷ [])) e
    ∙ ap (λ (x : ℕ). take k l ++ (x ∷ [])) (sym s)
    ∙ sym (take-suc l k 0 h)
  where
    more : (k j : ℕ) → j ≤ k → suc k - j ≡ k - j + 1
    more k j h = omega arith

pub trimmed_spaces : (l : List ℕ) (k : ℕ) → k ≤ length l → take (trimmed l k) l ++ replicate (k - trimmed l k) 0x20 ≡ take k l
unfolding trimmed
trimmed_spaces l zero h = refl
trimmed_spaces l (suc k) h = by_test (eqb (get_or l k 0) 0x20) (λ b. take (if b (trimmed l k) (suc k)) l ++ replicate (suc k - if b (trimmed l k) (suc k)) 0x20 ≡ take (suc k) l)
    (λ t. spaces_more l k (trimmed_spaces l k (omega arith)) (eqb→eq (get_or l k 0) 0x20 t) h)
    (λ _. ap (λ (n : ℕ). take (suc k) l ++ replicate n 0x20) (nothing (suc k)) ∙ append-nil (take (suc k) l))
  where
    nothing : (n : ℕ) → n - n ≡ 0
    nothing n = omega arith

pub trimmed_last : (l : List ℕ) (k : ℕ) → (trimmed l k ≡ 0) ⊎ (get_or l (trimmed l k - 1) 0 ≡ 0x20 → ⊥)
unfolding trimmed
trimmed_last l zero = inl refl
trimmed_last l (suc k) = by_test (eqb (get_or l k 0) 0x20) (λ b. (if b (trimmed l k) (suc k) ≡ 0) ⊎ (get_or l (if b (trimmed l k) (suc k) - 1) 0 ≡ 0x20 → ⊥))
    (λ _. trimmed_last l k)
    (λ n. inr (λ e. T_not (eqb (get_or l k 0) 0x20) n (rw (ap (λ (j : ℕ). get_or l j 0) (before k) ∙ e) (eqb_refl 0x20))))
  where
    before : (k : ℕ) → k ≡ suc k - 1
    before k = omega arith

-- what stands behind the name is spaces
space_at : (l : List ℕ) (n size i : ℕ) → take size l ++ replicate (n - size) 0x20 ≡ take n l → n ≤ length l → size ≤ i → i < n → get_or l i 0 ≡ 0x20
space_at l n size i e h a b =
    let short = length-take-le size l (omega arith) in
    sym (get_or-take n l i 0 b)
    ∙ ap (λ (r : List ℕ). get_or r i 0) (sym e)
    ∙ ap (λ (j : ℕ). get_or (take size l ++ replicate (n - size) 0x20) j 0) (behind size i (length (take size l)) short a)
    ∙ get_or-append-add (take size l) (replicate (n - size) 0x20) (i - size) 0
    ∙ get_or-replicate (n - size) (i - size) 0x20 0 (omega arith)
  where
    behind : (size i k : ℕ) → k ≡ size → size ≤ i → i ≡ k + (i - size)
    behind size i k e h = omega arith

-- it and the spaces are the n bytes, and it does not end in one
abbrev Trims : List ℕ → ℕ → ℕ → Type 0
Trims l n size = (size ≤ n) × ((take size l ++ replicate (n - size) 0x20 ≡ take n l) × ((size ≡ 0) ⊎ (get_or l (size - 1) 0 ≡ 0x20 → ⊥)))

-- so no other is longer
trims_most : (l : List ℕ) (n : ℕ) → n ≤ length l → (x y : ℕ) → Trims l n x → Trims l n y → y ≤ x
trims_most l n h x y a b = by_test (leb y x) (λ _. y ≤ x) (leb→le y x)
    (λ t. let o = nleb→lt y x t in ⊎_elim (λ z. omega arith) (λ f. absurd (f (space_at l n x (y - 1) a.1.0 h (omega arith) (omega (arith, b.0))))) b.1.1)

-- ---- the command

-- the bytes of a name command, where they stand
abbrev Spelt : List ℕ → ℕ → Command → Type 0
Spelt B at (site m n a w) = Unit {0}
Spelt B at (push_leaf p) = Unit {0}
Spelt B at (push_condition k) = Unit {0}
Spelt B at (push_test p) = Unit {0}
Spelt B at push_forbidden = Unit {0}
Spelt B at (give g) = Unit {0}
Spelt B at (name_action a t) = (t ≡ take 16 (drop (at + 3) B)) × (width (byte_at B at) ≡ 19)
Spelt B at end_model = Unit {0}

spelt_if : (B : List ℕ) (at : ℕ) (b : Bool) (c d : Command) → Spelt B at c → Spelt B at d → Spelt B at (if b c d)
spelt_if B at true c d f g = f
spelt_if B at false c d f g = g

spelt_name : (B : List ℕ) (at x : ℕ) → Spelt B at (if (eqb (byte_at B at) 0x30) (name_action x (take 16 (drop (at + 3) B))) end_model)
unfolding width_in
spelt_name B at x = by_test (eqb (byte_at B at) 0x30) (λ b. Spelt B at (if b (name_action x (take 16 (drop (at + 3) B))) end_model))
    (λ t. (refl, ap width (eqb→eq (byte_at B at) 0x30 t))) (λ _. tt)

spelt : (B : List ℕ) (at : ℕ) → Spelt B at (command_at B at)
unfolding command_in
spelt B at =
    spelt_if B at (eqb (byte_at B at) (site_byte new_form)) _ _ tt (spelt_if B at (eqb (byte_at B at) 0x10) _ _ tt (spelt_if B at (eqb (byte_at B at) 0x11) _ _ tt
    (spelt_if B at (eqb (byte_at B at) 0x12) _ _ tt (spelt_if B at (eqb (byte_at B at) 0x13) _ _ tt (spelt_if B at (eqb (byte_at B at) 0x20) _ _ tt (spelt_if B at (eqb (byte_at B at) 0x21) _ _ tt
    (spelt_if B at (eqb (byte_at B at) 0x22) _ _ tt (spelt_if B at (eqb (byte_at B at) 0x23) _ _ tt (spelt_name B at _)))))))))

-- a name command that is read: its bytes stand from three behind its offset on, inside the model
pub name_bytes_at : (B : List ℕ) (at a : ℕ) (t : List ℕ) → read_at B at ≡ whole (name_action a t) → (t ≡ take 16 (drop (at + 3) B)) × (at + 19 ≤ length B)
name_bytes_at B at a t e = by_read B at (λ r. r ≡ whole (name_action a t) → (t ≡ take 16 (drop (at + 3) B)) × (at + 19 ≤ length B))
    (λ _ e. absurd (let z : ◌≡◌ {A = ℕ} 0 1 = cc in omega arith))
    (λ _ _ e. absurd (let z : ◌≡◌ {A = ℕ} 0 1 = cc in omega arith))
    (λ _ _ _ e. absurd (let z : ◌≡◌ {A = ℕ} 0 1 = cc in omega arith))
    (λ w e.
    let i : command_at B at ≡ name_action a t = cc in
    let d = subst (Spelt B at) i (spelt B at) in
    (d.0, omega (arith, d.1, w.inside)))
    e

-- ---- the readings

read_there : (B : List ℕ) (k at : ℕ) (x : Placed) → Memᴰ x (readings_from B k at) → x.read ≡ read_at B x.at
unfolding readings_from_in
read_there B zero at x m = absurd (Memᴰ.not-nil m)
read_there B (suc k) at x m = ⊎_elim
    (λ i. rw i refl)
    (λ i. go (goes_on (read_at B at)) i (λ j. read_there B k (at + width (byte_at B at)) x j))
    (Memᴰ.cases_cons m)
  where
    go : (b : Bool) → Memᴰ x (elim b [ true ↦ readings_from B k (at + width (byte_at B at)) | false ↦ [] ]) → (Memᴰ x (readings_from B k (at + width (byte_at B at))) → x.read ≡ read_at B x.at) → x.read ≡ read_at B x.at
    go true i ih = ih i
    go false i ih = absurd (Memᴰ.not-nil i)

-- what has been given stays given, once the site is there
stays : (g : Slot) (s : Progress) (c : Command) → first_broken (rules_of s c) ≡ 0 → T s.begun → T (has_slot g s.given) → T (after s c).begun × T (has_slot g (after s c).given)
unfolding after has_slot rules_in later_rules
stays g s (site m n a w) e b t = go s.begun e b
  where
    go : {C : Type 0} (b : Bool) → first_broken (if b (later_rules s.site s.stack s.given (site m n a w)) (first_rules new_form (site m n a w))) ≡ 0 → T b → C
    go true e b = broken 0 _ e
    go false e b = absurd b
stays g s (push_leaf p) e b t = (b, t)
stays g s (push_condition k) e b t = (b, t)
stays g s (push_test p) e b t = (b, t)
stays g s push_forbidden e b t = (b, t)
stays g s (give x) e b t = (b, or_right (same_slot g x) _ t)
stays g s (name_action a l) e b t = (b, or_right (same_slot g (name_slot a)) _ t)
stays g s end_model e b t = (b, t)

module _ (B : List ℕ) (a : ℕ) where
  abbrev naming : ℕ → List ℕ → Placed
  naming at t = record { at = at; read = whole (name_action a t) }

  named_by : (r : Read) → T (names_action a r) → (t : List ℕ) × (r ≡ whole (name_action a t))
  unfolding names_action
  named_by (whole (site m n b w)) t = absurd t
  named_by (whole (push_leaf p)) t = absurd t
  named_by (whole (push_condition k)) t = absurd t
  named_by (whole (push_test p)) t = absurd t
  named_by (whole push_forbidden) t = absurd t
  named_by (whole (give g)) t = absurd t
  named_by (whole (name_action b l)) t = (l, ap (λ (c : ℕ). whole (name_action c l)) (sym (eqb→eq a b t)))
  named_by (whole end_model) t = absurd t
  named_by unknown t = absurd t
  named_by short t = absurd t

  naming_named : (t : List ℕ) → T (names_action a (whole (name_action a t)))
  unfolding names_action
  naming_named t = eqb_refl a

  -- the first that names the action, or none does
  abbrev Found : List Placed → Type 0
  Found l = ((at : ℕ) × ((t : List ℕ) × (Memᴰ (naming at t) l × (named_part B a l ≡ record { start = at + 3; size = trimmed (drop (at + 3) B) 16 }))))
      ⊎ ((named_part B a l ≡ no_part) × ((at : ℕ) (t : List ℕ) → Memᴰ (naming at t) l → ⊥))

  found : (l : List Placed) → Found l
  unfolding named_part
  found [] = inr (refl, λ at t m. Memᴰ.not-nil m)
  found (x ∷ l) = by_test (names_action a x.read) (λ b. names_action a x.read ≡ b → Found (x ∷ l))
      (λ t e.
      let d = named_by x.read t in
      inl (x.at, (d.0, (Memᴰ.head (sym (λ i. record { at = x.at; read = d.1 i })), if_yes (names_action a x.read) _ (named_part B a l) t))))
      (λ n e.
      let same = if_no (names_action a x.read) (record { start = x.at + 3; size = trimmed (drop (x.at + 3) B) 16 }) (named_part B a l) n in
      ⊎_elim
      (λ d. inl (d.0, (d.1.0, (Memᴰ.tail d.1.1.0, same ∙ d.1.1.1))))
      (λ d. inr (
        same ∙ d.0,
        λ at t m. ⊎_elim
            (λ i. T_not (names_action a x.read) n (subst (λ (y : Placed). T (names_action a y.read)) i (naming_named t)))
            (λ i. d.1 at t i) (Memᴰ.cases_cons m),
      ))
      (found l))
      refl

  -- ---- a name is given once

  -- a name command that breaks nothing: the site is there, and the action has no name yet
  name_rules : (s : Progress) (t : List ℕ) → first_broken (rules_of s (name_action a t)) ≡ 0 → T s.begun × T (not (has_slot (name_slot a) s.given))
  unfolding rules_in later_rules first_rules
  name_rules s t = go s.begun
    where
      go : (b : Bool) → first_broken (if b (later_rules s.site s.stack s.given (name_action a t)) (first_rules new_form (name_action a t))) ≡ 0 → T b × T (not (has_slot (name_slot a) s.given))
      go true e = (tt, (unbroken 5 _ _ (unbroken 3 _ _ (unbroken 3 _ _ e).1).1).0)
      go false e = broken 0 _ e

  -- what stands in the readings from an offset on
  abbrev from : ℕ → ℕ → Read → List Placed
  from k p r = record { at = p; read = r } ∷ behind B k p (goes_on r)

  -- the first of some is c, which breaks nothing
  first_kept : (k p : ℕ) (s : Progress) (c : Command) → (judged (length B) s (from k p (whole c))).number ≡ 0 → first_broken (rules_of s c) ≡ 0
  unfolding judged_in
  first_kept k p s c e = (judged_whole (first_broken (rules_of s c)) p _ e).0

  -- and the others are accepted behind it
  others_kept : (k p : ℕ) (s : Progress) (c : Command) → T (goes_on (whole c)) → (judged (length B) s (from k p (whole c))).number ≡ 0
      → (judged (length B) (after s c) (readings_from B k (p + width (byte_at B p)))).number ≡ 0
  unfolding judged_in
  others_kept k p s c g e = ap (λ (v : Verdict). v.number) (sym (ended_going B k p s c g)) ∙ (judged_whole (first_broken (rules_of s c)) p _ e).1

  -- one of those behind a command, if any is there
  in_others : (k p : ℕ) (c : Command) (x : Placed) (P : Type 0) → Memᴰ x (behind B k p (goes_on (whole c)))
      → (T (goes_on (whole c)) → Memᴰ x (readings_from B k (p + width (byte_at B p))) → P) → P
  in_others k p c x P m f = by_test (goes_on (whole c)) (λ b. Memᴰ x (behind B k p b) → P) f (λ _ m. absurd (Memᴰ.not-nil m)) m

  is_naming : (p at : ℕ) (c : Command) (t : List ℕ) → naming at t ≡ record { at = p; read = whole c } → c ≡ name_action a t
  is_naming p at c t i = let j : whole (name_action a t) ≡ whole c = ap (λ (x : Placed). x.read) i in (cc)

  -- what is read of an accepted model is whole
  by_whole : (k p : ℕ) (s : Progress) (P : Read → Type 0) → ((c : Command) → (judged (length B) s (from k p (whole c))).number ≡ 0 → P (whole c))
      → (r : Read) → (judged (length B) s (from k p r)).number ≡ 0 → P r
  unfolding judged_in
  by_whole k p s P f (whole c) e = f c e
  by_whole k p s P f unknown e = absurd (let z : ◌≡◌ {A = ℕ} 3 0 = e in omega arith)
  by_whole k p s P f short e = absurd (let z : ◌≡◌ {A = ℕ} 2 0 = e in omega arith)

  -- an action that has a name is not named again
  not_again : (k p : ℕ) (s : Progress) → T s.begun → T (has_slot (name_slot a) s.given) → (judged (length B) s (readings_from B k p)).number ≡ 0
      → (at : ℕ) (t : List ℕ) → Memᴰ (naming at t) (readings_from B k p) → ⊥
  unfolding readings_from_in
  not_again zero p s b h e at t m = Memᴰ.not-nil m
  not_again (suc k) p s b h e at t m = by_whole k p s (λ r. Memᴰ (naming at t) (from k p r) → ⊥)
      (λ c e m. ⊎_elim
      (λ i. T_not (has_slot (name_slot a) s.given) (name_rules s t (subst (λ (c : Command). first_broken (rules_of s c) ≡ 0) (is_naming p at c t i) (first_kept k p s c e))).1 h)
      (λ j. in_others k p c (naming at t) ⊥ j (λ g i.
      let d = stays (name_slot a) s c (first_kept k p s c e) b h in
      not_again k (p + width (byte_at B p)) (after s c) d.0 d.1 (others_kept k p s c g e) at t i))
      (Memᴰ.cases_cons m))
      (read_at B p) e m

  -- behind the command that names it there is none that does
  named_here : (k p : ℕ) (s : Progress) (c : Command) → (judged (length B) s (from k p (whole c))).number ≡ 0 → (at : ℕ) (t : List ℕ) → naming at t ≡ record { at = p; read = whole c }
      → (x : ℕ) (u : List ℕ) → Memᴰ (naming x u) (behind B k p (goes_on (whole c))) → ⊥
  unfolding after has_slot same_slot
  named_here k p s c e at t i x u m =
      let j = is_naming p at c t i in
      let b = (name_rules s t (subst (λ (c : Command). first_broken (rules_of s c) ≡ 0) j (first_kept k p s c e))).0 in
      in_others k p c (naming x u) ⊥ m (λ g n. not_again k (p + width (byte_at B p)) (after s (name_action a t)) b (or_left (same_slot (name_slot a) (name_slot a)) _ (same_self (name_slot a)))
      (subst (λ (c : Command). (judged (length B) (after s c) (readings_from B k (p + width (byte_at B p)))).number ≡ 0) j (others_kept k p s c g e)) x u n)

  -- two commands that name it are one
  named_once : (k p : ℕ) (s : Progress) → (judged (length B) s (readings_from B k p)).number ≡ 0
      → (at : ℕ) (t : List ℕ) → Memᴰ (naming at t) (readings_from B k p) → (x : ℕ) (u : List ℕ) → Memᴰ (naming x u) (readings_from B k p) → at ≡ x
  unfolding readings_from_in
  named_once zero p s e at t m x u n = absurd (Memᴰ.not-nil m)
  named_once (suc k) p s e at t m x u n = by_whole k p s (λ r. Memᴰ (naming at t) (from k p r) → Memᴰ (naming x u) (from k p r) → at ≡ x)
      (λ c e m n. ⊎_elim
      (λ i. ⊎_elim (λ j. ap (λ (y : Placed). y.at) i ∙ sym (ap (λ (y : Placed). y.at) j)) (λ j. absurd (named_here k p s c e at t i x u j)) (Memᴰ.cases_cons n))
      (λ i. ⊎_elim (λ j. absurd (named_here k p s c e x u j at t i))
      (λ j. in_others k p c (naming at t) (at ≡ x) i (λ g i. in_others k p c (naming x u) (at ≡ x) j (λ _ j.
      named_once k (p + width (byte_at B p)) (after s c) (others_kept k p s c g e) at t i x u j)))
      (Memᴰ.cases_cons n))
      (Memᴰ.cases_cons m))
      (read_at B p) e m n

  -- the bytes that a name command has, inside the model
  bytes_there : (at : ℕ) (t : List ℕ) → Memᴰ (naming at t) (readings B) → (t ≡ take 16 (drop (at + 3) B)) × (16 ≤ length (drop (at + 3) B))
  unfolding readings_in
  bytes_there at t m =
      let b = name_bytes_at B at a t (sym (read_there B (suc (length B)) 0 (naming at t) m)) in
      (b.0, omega (arith, length-drop (at + 3) B, b.1))

  given_row : NameRow B a (refusal 0 0) → NamePartRow B a (named_part B a (readings B))
  given_row r = ⊎_elim
      (λ d.
      let l = drop (d.0 + 3) B in
      let b = bytes_there d.0 d.1.0 d.1.1.0 in
      rw d.1.1.1 (name_given {t = d.1.0} r d.1.1.0 (trimmed_most l 16) (trimmed_spaces l 16 b.1 ∙ sym b.0) (trimmed_last l 16)))
      (λ d. rw d.0 (name_empty r d.1))
      (found (readings B))

  pub name_part_row : NamePartRow B a (name_part B a)
  unfolding name_part
  name_part_row = by_test (eqb (name_refusal B a).number 0) (λ b. NamePartRow B a (if b (named_part B a (readings B)) no_part))
      (λ t. given_row (zero_name B a (eqb→eq (name_refusal B a).number 0 t)))
      (λ n. name_refused (name_row B a) (positive (name_refusal B a).number n))

  -- ---- a row decides

  accepted_name : {v : Verdict} → NameRow B a v → v.number ≡ 0 → (verdict B).number ≡ 0
  accepted_name (name_0 d h) e = ap (λ (v : Verdict). v.number) (verdict_is B d.own)
  accepted_name (name_1_10 r) e = absurd (omega (arith, early_some r))
  accepted_name (name_16 d f) e = absurd (omega arith)

  -- where the call is not refused
  name_found : NameRow B a (refusal 0 0) → name_part B a ≡ named_part B a (readings B)
  unfolding name_part
  name_found r = ap (λ (v : Verdict). if (eqb v.number 0) (named_part B a (readings B)) no_part) (name_is B a r)

  -- a name's part is each of its rows
  pub name_part_is : {p : Part} → NamePartRow B a p → name_part B a ≡ p
  unfolding name_part verdict_in readings_in
  name_part_is (name_given {at = at} {size = size} {t = t} r m h e l) = name_found r ∙ ⊎_elim
      (λ d.
      let i : d.0 ≡ at = named_once (suc (length B)) 0 at_start (accepted_name r refl) d.0 d.1.0 d.1.1.0 at t m in
      let b = bytes_there at t m in
      let y = drop (at + 3) B in
      let own : Trims y 16 (trimmed y 16) = (trimmed_most y 16, (trimmed_spaces y 16 b.1, trimmed_last y 16)) in
      let stated : Trims y 16 size = (h, (e ∙ b.0, l)) in
      d.1.1.1 ∙ ap (λ (x : ℕ). record { start = x + 3; size = trimmed (drop (x + 3) B) 16 }) i
      ∙ (λ j. record { start = at + 3; size = le_antisymm (trims_most y 16 b.1 size (trimmed y 16) stated own) (trims_most y 16 b.1 (trimmed y 16) size own stated) j }))
      (λ d. absurd (d.1 at t m))
      (found (readings B))
  name_part_is (name_empty r f) = name_found r ∙ ⊎_elim (λ d. absurd (f d.0 d.1.0 d.1.1.0)) (λ d. d.0) (found (readings B))
  name_part_is (name_refused {v = v} r h) = ap (λ (v : Verdict). if (eqb v.number 0) (named_part B a (readings B)) no_part) (name_is B a r) ∙ if_no (eqb v.number 0) _ no_part (some_not v.number h)
