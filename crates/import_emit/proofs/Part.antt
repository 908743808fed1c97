-- What an opening, a walk over its item and the writers answer is what the reading's part says. Its kind tells a name from an item with cases.
use mathlib.Core.Path.{◌≡◌, refl, sym, ap, ◌∙◌, subst}
use mathlib.Core.Bool.{Bool, true, false}
use mathlib.Core.List.{List, [], ◌∷◌, ◌++◌}
use Prim.Native.Nat.{ℕ, zero, suc, ◌+◌, ◌*◌, ◌-◌, ◌≤◌, ◌<◌}
use native.Mathlib.Omega.{arith}
use borrow.Author.Tests.{eqb-true, eqb-false}
use lib.Dec.{eqb, ltb, nltb→le}
use lib.ListN.{length, drop, get_or, set, length-set}
use lib.Seq.{get_or-set_same, get_or-set_other, ext_get_or}
use Rattle.whole.specs.Cases.{if, by_test}
use Rattle.theory.specs.Widths.{name_bytes}
use Rattle.theory.specs.Command.{give, Slot, name_action, end_model, site}
use Rattle.import_grammar.specs.Grammar.{Spaces, Opening as OpeningOf, reward, chance, next, end}
use Rattle.import_grammar.specs.Reader.{is_blank}
use Rattle.import_model.specs.Commands.{at_most, byte_most, action_most, action_of, letters, filled, result_command}
use Rattle.import_model.specs.Encode.{command_bytes, encode}
use Rattle.import_found.specs.Places.{Emits, go}
use Rattle.import_found.specs.Cases.{opening_of, cases_commands}
use Rattle.import_parts.specs.Parts.{TextPart, item, name, site_command, slot_of, part_commands, parts_commands, Walked}
use Rattle.import_parts.specs.Walk.{past, goes_on, grown, number_value, setting_value, setting_rest, kind_in, word_of, action_in, slot_in, item_rest, name_byte, name_rest}
use Rattle.import_parts.specs.laws.Order.{text_parts, text_site, text_end}
use Rattle.import_parts.specs.laws.Within.{text_within}
use Rattle.import_parts.specs.laws.Walks.{item_walked, name_walked}
use Rattle.import_walk.specs.Onward.{Onward}
use Rattle.import_walk.specs.Answers.{SiteAt, OpeningAt, slot_said}
use Rattle.import_walk.specs.Steps.{site_step, item_step, name_step}
use Rattle.import_walk.specs.declared.opening.Opening.{Opening}
use Rattle.import_walk.specs.declared.site.Site.{Site}
use Rattle.import_emit_cases.specs.Emitting.{is_full, place, PutBytes, CasesBegin, Emitting}
use Rattle.import_emit.specs.Items.{CommandPut, NameSpelt, NamePut, ItemPut, PartsCome, Buffers, ReadingWithin}
use Rattle.std.specs.Prelude.{Result, Ok, Err}
use Rattle.import_emit_cases.specs.declared.Full.{Full}
use Rattle.import_emit.proofs.Puts.{encode_one, encode_more, put_as, full_before, behind}

-- ---- no number is above the greatest of its operand

most : (m n : ℕ) → at_most m n ≤ m
unfolding at_most
most m n = by_test (ltb m n) (λ (b : Bool). if b m n ≤ m) (λ _. omega arith) (λ t. nltb→le m n t)

grown_most : (m v k : ℕ) → v ≤ m → grown m v k ≤ m
unfolding grown
grown_most m v k h = by_test (is_blank k) (λ (b : Bool). if b v (at_most m (v * 10 + (k - 48))) ≤ m) (λ _. h) (λ _. most m (v * 10 + (k - 48)))

number_most : (m v : ℕ) (l : List ℕ) → v ≤ m → number_value m v l ≤ m
unfolding number_value
number_most m v [] h = h
number_most m v (k ∷ l) h =
    let r = number_most m (grown m v k) l (grown_most m v k h) in
    by_test (goes_on k) (λ (b : Bool). if b (number_value m (grown m v k) l) v ≤ m) (λ _. r) (λ _. h)

setting_most : (m : ℕ) (l : List ℕ) → setting_value m l ≤ m
unfolding setting_value
setting_most m l = number_most m 0 (past 61 l) (omega arith)

pub action_small : (w : List ℕ) (at : ℕ) (o : Opening) → OpeningAt w at o → o.action ≤ action_most
unfolding slot_in action_in
action_small w at o a =
    let l = drop at w in
    let e : o.action ≡ number_value action_most 0 (drop (word_of (kind_in l)) l) = ap (λ (s : Slot). s.action) a.slot in
    omega (arith, e, number_most action_most 0 (drop (word_of (kind_in l)) l) (omega arith))

pub record SiteSmall (s : Site) : Type 0 where
  pub levels : s.levels ≤ byte_most
  pub conditions : s.conditions ≤ byte_most
  pub actions : s.actions ≤ action_most
  pub weights : s.weights ≤ byte_most

pub site_small : (w : List ℕ) (at : ℕ) (s : Site) → SiteAt w at s → SiteSmall s
site_small w at s a = record {
  levels = omega (arith, a.levels, setting_most byte_most (drop at w));
  conditions = omega (arith, a.conditions, setting_most byte_most (setting_rest (drop at w)));
  actions = omega (arith, a.actions, setting_most action_most (setting_rest (setting_rest (drop at w))));
  weights = omega (arith, a.weights, setting_most byte_most (setting_rest (setting_rest (setting_rest (drop at w)))));
}

-- ---- sixteen bytes one by one

pub record Spelling (w : List ℕ) (from : ℕ) (b : List ℕ) (j : ℕ) : Type 0 where
  pub upto : j ≤ name_bytes
  pub long : length b ≡ name_bytes
  pub each : (i : ℕ) → i < j → name_byte i (drop from w) ≡ get_or b i 0

pub spell_on : {w : List ℕ} {from : ℕ} {b : List ℕ} {j k : ℕ} → Spelling w from b j → j < name_bytes → k ≡ name_byte j (drop from w) → Spelling w from (set b j k) (j + 1)
spell_on {w} {from} {b} {j} {k} s h e = record { upto = omega arith; long = length-set b j k ∙ s.long; each = λ i q. here i q (eqb i j) (λ t. eqb-true i j t) (λ t. eqb-false i j t) }
  where
    here : (i : ℕ) → i < j + 1 → (c : Bool) → (c ≡ true → i ≡ j) → (c ≡ false → i ≡ j → ⊥) → name_byte i (drop from w) ≡ get_or (set b j k) i 0
    here i q true y n =
        let m : i ≡ j = y refl in
        ap (λ (x : ℕ). name_byte x (drop from w)) m ∙ sym e ∙ sym (ap (λ (x : ℕ). get_or (set b j k) x 0) m ∙ get_or-set_same b j k 0 (let g = s.long in omega arith))
    here i q false y n = let m = n refl in s.each i (omega arith) ∙ sym (get_or-set_other b j i k 0 m)

pub spelt_all : {w : List ℕ} {from : ℕ} {b : List ℕ} {j : ℕ} → Spelling w from b j → name_bytes ≤ j → NameSpelt w from b
spelt_all s h = record { long = s.long; each = λ i q. s.each i (omega (arith, q, h)) }

-- they are one list
pub spelt_same : {w : List ℕ} {from : ℕ} {b c : List ℕ} → NameSpelt w from b → NameSpelt w from c → b ≡ c
spelt_same {b = b} {c = c} p q = ext_get_or 0 b c (p.long ∙ sym q.long) (λ j h. let g : j < name_bytes = omega (arith, p.long) in sym (p.each j g) ∙ q.each j g)

filled_long : (k : ℕ) (l : List ℕ) → length (filled k l) ≡ k
unfolding filled
filled_long zero l = refl
filled_long (suc k) [] = ap suc (filled_long k [])
filled_long (suc k) (b ∷ l) = ap suc (filled_long k l)

-- ---- the kind

item_kind : (O : OpeningOf) → (slot_of O).command ≡ 0x30 → ⊥
unfolding slot_of
item_kind (reward I p q ds r) e = let z : ◌≡◌ {A = ℕ} 0x20 0x30 = e in omega arith
item_kind (chance I p q ds r i t) e = let z : ◌≡◌ {A = ℕ} 0x21 0x30 = e in omega arith
item_kind (next I p q ds r i t) e = let z : ◌≡◌ {A = ℕ} 0x22 0x30 = e in omega arith
item_kind (end I p t) e = let z : ◌≡◌ {A = ℕ} 0x23 0x30 = e in omega arith

-- behind an item the walk is further on
pub further_on : {w l : List ℕ} {from to : ℕ} {o : Opening} → OpeningAt w from o → Onward w o.next to l → from < length w → from < to
further_on a b h =
    let m = a.moves h in
    let n = b.on in
    omega (arith, m, n)

-- the walk that has all of these parts before it
pub as_walked : (w : List ℕ) (from : ℕ) (P : List TextPart) (e : Spaces) → PartsCome w from P e → Walked w (parts_commands P ++ (end_model ∷ [])) from [] P e
as_walked w from P e k = record { within = k.inside; bytes = k.bytes; commands = refl }

kind_of : {s t : Slot} → s ≡ t → s.command ≡ t.command
kind_of e = ap (λ (s : Slot). s.command) e

-- ---- an item with cases

module _ {w out out₁ : List ℕ} {o : Opening} {at : ℕ} {e : Result ℕ Full} (m : Emitting w o.next out at e out₁) where
  pub cases_full : is_full e ≡ true → ItemPut w o out at e out₁
  cases_full f = record {
    same = m.same;
    commands = λ C i. put_as (encode_more C (give (slot_said o))) (full_before (command_bytes (give (slot_said o))) f (m.commands C i));
  }

  pub cases_then : {r : Result ℕ Full} {out₂ : List ℕ} → at ≤ length out → is_full e ≡ false → CommandPut out₁ (place e) (give (slot_said o)) r out₂ → ItemPut w o out at r out₂
  cases_then h f p = record {
    same = p.same ∙ m.same;
    commands = λ C i. put_as (encode_more C (give (slot_said o))) (behind h m.same ((m.commands C i).put f) p.put);
  }

module _ (w : List ℕ) (from : ℕ) (o : Opening) (a : OpeningAt w from o) (k : o.kind ≡ 0x30 → ⊥) where
  pub item_begins : (l out : List ℕ) (at : ℕ) → Buffers w l out at → (x : TextPart) (P : List TextPart) (e : Spaces) → PartsCome w from (x ∷ P) e → CasesBegin w o.next l out at
  item_begins l out at n (item B p q r) P e c =
      let i = item_walked w _ from [] B p q r P e (as_walked w from (item B p q r ∷ P) e c) in
      record {
        inside = a.next.stands.within;
        short = n.short;
        long = n.long;
        room = n.room;
        commands = cases_commands B (result_command r ∷ []);
        emits = subst (λ (y : List ℕ). Emits (go y false []) (cases_commands B (result_command r ∷ []))) (sym a.next.stands.rest) (i.emits c.within.0.0 c.within.0.1);
      }
  item_begins l out at n (name p q ds r x) P e c =
      absurd (k (kind_of (a.slot ∙ (name_walked w _ from [] p q ds r x P e (as_walked w from (name p q ds r x ∷ P) e c)).slot)))

  module _ (to : ℕ) (b : Onward w o.next to (item_rest (drop o.next w))) where
    pub item_puts : {out out' : List ℕ} {at : ℕ} {r : Result ℕ Full} → ItemPut w o out at r out' → (x : TextPart) (P : List TextPart) (e : Spaces) → PartsCome w from (x ∷ P) e → PutBytes out at (encode (part_commands x)) r out'
    unfolding part_commands
    item_puts i (item B p q r) P e c =
        let s = item_step w _ from [] B p q r P e o to (as_walked w from (item B p q r ∷ P) e c) a b in
        let C = cases_commands B (result_command r ∷ []) in
        put_as (ap (λ (g : Slot). encode (C ++ (give g ∷ []))) s.slot) (i.commands C (s.emits c.within.0.0 c.within.0.1))
    item_puts i (name p q ds r x) P e c =
        absurd (k (kind_of (a.slot ∙ (name_walked w _ from [] p q ds r x P e (as_walked w from (name p q ds r x ∷ P) e c)).slot)))

    pub item_on : (x : TextPart) (P : List TextPart) (e : Spaces) → PartsCome w from (x ∷ P) e → PartsCome w to P e
    item_on (item B p q r) P e c =
        let s = item_step w _ from [] B p q r P e o to (as_walked w from (item B p q r ∷ P) e c) a b in
        record { inside = s.walked.within; bytes = s.walked.bytes; within = c.within.1 }
    item_on (name p q ds r x) P e c =
        absurd (k (kind_of (a.slot ∙ (name_walked w _ from [] p q ds r x P e (as_walked w from (name p q ds r x ∷ P) e c)).slot)))

-- ---- a name

module _ (w : List ℕ) (from : ℕ) (o : Opening) (a : OpeningAt w from o) (k : o.kind ≡ 0x30) (to : ℕ) (b : Onward w o.next to (name_rest (drop o.next w))) where
  pub name_puts : {out out' : List ℕ} {at : ℕ} {r : Result ℕ Full} → NamePut w o out at r out' → (x : TextPart) (P : List TextPart) (e : Spaces) → PartsCome w from (x ∷ P) e → PutBytes out at (encode (part_commands x)) r out'
  unfolding part_commands
  name_puts i (item B p q r) P e c =
      absurd (item_kind (opening_of B) (sym (kind_of (a.slot ∙ (item_walked w _ from [] B p q r P e (as_walked w from (item B p q r ∷ P) e c)).slot)) ∙ k))
  name_puts i (name p q ds r x) P e c =
      let s = name_step w _ from [] p q ds r x P e o to (as_walked w from (name p q ds r x ∷ P) e c) a b in
      let t = filled name_bytes (letters x) in
      put_as (ap (λ (g : Slot). command_bytes (name_action g.action t)) s.slot ∙ sym (encode_one (name_action (action_of ds) t)))
      (i.put t (record { long = filled_long name_bytes (letters x); each = s.spelt }))

  pub name_on : (x : TextPart) (P : List TextPart) (e : Spaces) → PartsCome w from (x ∷ P) e → PartsCome w to P e
  name_on (item B p q r) P e c =
      absurd (item_kind (opening_of B) (sym (kind_of (a.slot ∙ (item_walked w _ from [] B p q r P e (as_walked w from (item B p q r ∷ P) e c)).slot)) ∙ k))
  name_on (name p q ds r x) P e c =
      let s = name_step w _ from [] p q ds r x P e o to (as_walked w from (name p q ds r x ∷ P) e c) a b in
      record { inside = s.walked.within; bytes = s.walked.bytes; within = c.within.1 }

-- ---- the site

pub site_on : (w : List ℕ) (s : Site) → SiteAt w 0 s → (t : ReadingWithin w) → PartsCome w s.next (text_parts t.text) (text_end t.text)
site_on w s a t =
    let d = site_step w t.text s t.reading a in
    record { inside = d.walked.within; bytes = d.walked.bytes; within = text_within t.text t.within }

pub site_is : (w : List ℕ) (s : Site) → SiteAt w 0 s → (t : ReadingWithin w) → site s.levels s.conditions s.actions s.weights ≡ site_command (text_site t.text)
site_is w s a t = (site_step w t.text s t.reading a).command
