-- The answers put together.
use mathlib.Core.Path.{◌≡◌, refl, sym, ap, ◌∙◌, subst}
use mathlib.Core.Bool.{Bool, false}
use mathlib.Core.List.{List}
use Prim.Native.Nat.{ℕ, ◌+◌, ◌-◌, ◌≤◌, ◌<◌}
use native.Mathlib.Omega.{arith}
use lib.Dec.{eqb}
use lib.ListN.{length, get_or, drop}
use lib.Seq.{get_or-drop}
use borrow.Author.Tests.{ne_eqb, eq-eqb}
use Rattle.whole.specs.Cases.{if}
use Rattle.import_model.specs.Commands.{byte_most, action_most}
use Rattle.import_parts.specs.Walk.{past, next_letter, item_rest, number_value, number_rest, setting_value, setting_rest, kind_in, word_of, action_in, action_rest, index_in, opening_rest, slot_in, spelled, string_rest, name_byte, name_rest}
use Rattle.import_walk.specs.declared.number.Number.{Number}
use Rattle.import_walk.specs.declared.site.Site.{Site}
use Rattle.import_walk.specs.declared.opening.Opening.{Opening}
use Rattle.import_walk.specs.Onward.{Onward, Ahead, NumberAt, SettingAt}
use Rattle.import_walk.specs.Answers.{SiteAt, kind_by, ActionAt, BehindAt, OpeningAt}

further : (F : List ℕ → List ℕ) (w : List ℕ) (from a b : ℕ) (l : List ℕ) → Onward w from a l → Onward w a b (F (drop a w)) → Onward w from b (F l)
further F w from a b l p q = record {
  stands = record { within = q.stands.within; rest = q.stands.rest ∙ ap F p.stands.rest };
  on = let x = p.on in let y = q.on in omega (arith, x, y);
}

pub setting_joined : (w : List ℕ) (from most a : ℕ) (r : Number) → Onward w from a (past 61 (drop from w)) → NumberAt w a most r → SettingAt w from most r
unfolding setting_value setting_rest
setting_joined w from most a r p q = record { value = q.value ∙ ap (number_value most 0) p.stands.rest; next = further number_rest w from a r.next _ p q.next }

pub site_joined : (w : List ℕ) (at : ℕ) (m n a v : Number) (r : Site) → SettingAt w at byte_most m → SettingAt w m.next byte_most n → SettingAt w n.next action_most a → SettingAt w a.next byte_most v
    → r.levels ≡ m.value → r.conditions ≡ n.value → r.actions ≡ a.value → r.weights ≡ v.value → r.next ≡ v.next → SiteAt w at r
site_joined w at m n a v r p q s t e1 e2 e3 e4 e5 =
    let o2 = further setting_rest w at m.next n.next _ p.next q.next in
    let o3 = further setting_rest w at n.next a.next _ o2 s.next in
    let o4 = further setting_rest w at a.next v.next _ o3 t.next in
    record {
      levels = e1 ∙ p.value;
      conditions = e2 ∙ q.value ∙ ap (setting_value byte_most) p.next.stands.rest;
      actions = e3 ∙ s.value ∙ ap (setting_value action_most) o2.stands.rest;
      weights = e4 ∙ t.value ∙ ap (setting_value byte_most) o3.stands.rest;
      next = subst (λ (i : ℕ). Onward w at i (setting_rest (setting_rest (setting_rest (setting_rest (drop at w)))))) (sym e5) o4;
    }

pub item_joined : (w : List ℕ) (at a b r : ℕ) → Onward w at a (next_letter false (drop at w)) → Onward w a b (past 58 (drop a w)) → Onward w b r (next_letter false (drop b w)) → Onward w at r (item_rest (drop at w))
unfolding item_rest
item_joined w at a b r p q s = further (next_letter false) w at b r _ (further (past 58) w at a b _ p q) s

-- ---- an opening

pub action_joined : (w : List ℕ) (at kind n from : ℕ) (r : Number) → n ≡ word_of kind → 1 ≤ n → Ahead w at n from → NumberAt w from action_most r → ActionAt w at kind r
unfolding action_in action_rest
action_joined w at kind n from r e l p q =
    let f : drop from w ≡ drop (word_of kind) (drop at w) = p.to.stands.rest ∙ ap (λ (x : ℕ). drop x (drop at w)) e in
    record {
      value = q.value ∙ ap (number_value action_most 0) f;
      next = subst (λ (x : ℕ). Onward w at r.next (number_rest (drop x (drop at w)))) e (further number_rest w at from r.next _ p.to q.next);
      moves = λ h. let x = p.moves h l in let y = q.next.on in omega (arith, x, y);
    }

pub behind_name : (w : List ℕ) (at kind : ℕ) → at ≤ length w → kind ≡ 0x30 → BehindAt w at kind at
unfolding BehindAt
behind_name w at kind h e = subst (λ (b : Bool). Onward w at at (if b (drop at w) (past 61 (drop at w)))) (sym (eq-eqb kind 0x30 e)) (record { stands = record { within = h; rest = refl }; on = omega arith })

pub behind_other : (w : List ℕ) (at kind r : ℕ) → (kind ≡ 0x30 → ⊥) → Onward w at r (past 61 (drop at w)) → BehindAt w at kind r
unfolding BehindAt
behind_other w at kind r e p = subst (λ (b : Bool). Onward w at r (if b (drop at w) (past 61 (drop at w)))) (sym (ne_eqb kind 0x30 e)) p

second_byte : (w : List ℕ) (at d k : ℕ) → d ≡ k - 48 → k ≡ get_or w (at + 1) 0 → d ≡ get_or (drop at w) 1 0 - 48
second_byte w at d k e q = e ∙ ap (λ (x : ℕ). x - 48) (q ∙ sym (get_or-drop at w 1 0))

pub index_chance : (w : List ℕ) (at kind d k : ℕ) → kind ≡ 0x21 → d ≡ k - 48 → k ≡ get_or w (at + 1) 0 → d ≡ index_in kind (drop at w)
unfolding index_in
index_chance w at kind d k c e q =
    second_byte w at d k e q ∙ sym (ap (λ (b : Bool). if b (get_or (drop at w) 1 0 - 48) (if (eqb kind 0x22) (get_or (drop at w) 1 0 - 48) 0)) (eq-eqb kind 0x21 c))

pub index_level : (w : List ℕ) (at kind d k : ℕ) → (kind ≡ 0x21 → ⊥) → kind ≡ 0x22 → d ≡ k - 48 → k ≡ get_or w (at + 1) 0 → d ≡ index_in kind (drop at w)
unfolding index_in
index_level w at kind d k n c e q =
    second_byte w at d k e q
    ∙ sym (λ i. if (ne_eqb kind 0x21 n i) (get_or (drop at w) 1 0 - 48) (if (eq-eqb kind 0x22 c i) (get_or (drop at w) 1 0 - 48) 0))

pub index_none : (w : List ℕ) (at kind : ℕ) → (kind ≡ 0x21 → ⊥) → (kind ≡ 0x22 → ⊥) → 0 ≡ index_in kind (drop at w)
unfolding index_in
index_none w at kind n m = sym (λ i. if (ne_eqb kind 0x21 n i) (get_or (drop at w) 1 0 - 48) (if (ne_eqb kind 0x22 m i) (get_or (drop at w) 1 0 - 48) 0))

kind_joined : (w : List ℕ) (at first second kind : ℕ) → first ≡ get_or w at 0 → second ≡ get_or w (at + 1) 0 → kind ≡ kind_by first second → kind ≡ kind_in (drop at w)
unfolding kind_by kind_in
kind_joined w at first second kind p q e =
    let z : at ≡ at + 0 = omega arith in
    let p' : first ≡ get_or (drop at w) 0 0 = p ∙ ap (λ (x : ℕ). get_or w x 0) z ∙ sym (get_or-drop at w 0 0) in
    let q' : second ≡ get_or (drop at w) 1 0 = q ∙ sym (get_or-drop at w 1 0) in
    e ∙ (λ i. kind_by (p' i) (q' i))

pub opening_joined : (w : List ℕ) (at first second kind index next : ℕ) (a : Number) (r : Opening) → first ≡ get_or w at 0 → second ≡ get_or w (at + 1) 0 → kind ≡ kind_by first second
    → ActionAt w at kind a → index ≡ index_in kind (drop a.next w) → BehindAt w a.next kind next
    → r.kind ≡ kind → r.action ≡ a.value → r.index ≡ index → r.next ≡ next → OpeningAt w at r
unfolding BehindAt slot_in opening_rest
opening_joined w at first second kind index next a r p q e x y z e1 e2 e3 e4 =
    let k = kind_joined w at first second kind p q e in
    let s : index ≡ index_in kind (action_rest kind (drop at w)) = y ∙ ap (index_in kind) x.next.stands.rest in
    let o = further (λ l. if (eqb kind 0x30) l (past 61 l)) w at a.next next _ x.next z in
    record {
      slot = λ i. record {
        command = (e1 ∙ k) i;
        action = (e2 ∙ x.value ∙ ap (λ (c : ℕ). action_in c (drop at w)) k) i;
        index = (e3 ∙ s ∙ ap (λ (c : ℕ). index_in c (action_rest c (drop at w))) k) i;
      };
      next = subst (λ (c : ℕ). Onward w at r.next (if (eqb c 0x30) (action_rest c (drop at w)) (past 61 (action_rest c (drop at w))))) k
          (subst (λ (j : ℕ). Onward w at j (if (eqb kind 0x30) (action_rest kind (drop at w)) (past 61 (action_rest kind (drop at w))))) (sym e4) o);
      moves = λ h. let m = x.moves h in let n = z.on in subst (λ (j : ℕ). at < j) (sym e4) (omega (arith, m, n));
    }

-- ---- a name

pub byte_joined : (w : List ℕ) (at from j r : ℕ) → Ahead w at 1 from → r ≡ get_or (spelled false (drop from w)) j 0x20 → r ≡ name_byte j (drop at w)
unfolding name_byte
byte_joined w at from j r p e = e ∙ ap (λ (l : List ℕ). get_or (spelled false l) j 0x20) p.to.stands.rest

pub name_joined : (w : List ℕ) (at from b r : ℕ) → Ahead w at 1 from → Onward w from b (string_rest false (drop from w)) → Onward w b r (next_letter false (drop b w)) → Onward w at r (name_rest (drop at w))
unfolding name_rest
name_joined w at from b r p q s = further (next_letter false) w at b r _ (further (string_rest false) w at from b _ p.to q) s
