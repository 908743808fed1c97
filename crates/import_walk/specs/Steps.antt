-- The answers are the reading's: one step of a walk over a text, for every reading.
use Rattle.std.specs.Prelude.{◌≡◌, true, false, List, [], ◌∷◌, ◌++◌, ℕ, ◌<◌, length, drop, get_or}
use Rattle.std.proofs.Common.{sym, ap, ◌∙◌, subst, arith}
use Rattle.theory.specs.Widths.{name_bytes}
use Rattle.theory.specs.Command.{Command, site}
use Rattle.theory.specs.Verdict.{name_slot}
use Rattle.import_grammar.specs.Grammar.{Spaces, Digits, Result, Chars, Before, Text, text_bytes}
use Rattle.import_model.specs.Commands.{action_of, letters, filled, result_command, text_commands}
use Rattle.import_found.specs.Places.{Emits, go}
use Rattle.import_numbers.specs.Numbers.{all_within, result_numbers}
use Rattle.import_found.specs.Cases.{opening_of, cases_commands, cases_numbers}
use Rattle.import_parts.specs.Parts.{TextPart, item, name, site_command, slot_of, part_commands, Walked}
use Rattle.import_parts.specs.Walk.{item_rest, name_byte, name_rest}
use Rattle.import_parts.specs.laws.Order.{text_parts, text_site, text_end}
use Rattle.import_parts.specs.laws.Walks.{SiteWalked, site_walked, walk_begins, cases_at, item_walked, name_walked, walk_on}
use Rattle.import_walk.specs.Onward.{Onward}
use Rattle.import_walk.specs.Answers.{SiteAt, slot_said, OpeningAt}
use Rattle.import_walk.specs.declared.site.Site.{Site}
use Rattle.import_walk.specs.declared.opening.Opening.{Opening}

-- ---- the site

pub record SiteStep (w : List ℕ) (t : Text) (r : Site) : Type 0 where
  pub command : site r.levels r.conditions r.actions r.weights ≡ site_command (text_site t)
  pub walked : Walked w (text_commands t) r.next (site_command (text_site t) ∷ []) (text_parts t) (text_end t)

pub site_step : (w : List ℕ) (t : Text) (r : Site) → text_bytes t ≡ w → SiteAt w 0 r → SiteStep w t r
unfolding site_command
site_step w t r q a =
    let s = subst (λ (l : List ℕ). SiteWalked l t) q (site_walked t) in
    record {
      command = (λ i. site ((a.levels ∙ s.read.levels) i) ((a.conditions ∙ s.read.conditions) i) ((a.actions ∙ s.read.actions) i) ((a.weights ∙ s.read.weights) i)) ∙ sym s.command;
      walked = walk_begins t w r.next q a.next.stands;
    }

-- ---- an item with cases

pub record ItemStep (w : List ℕ) (cs : List Command) (at : ℕ) (done : List Command) (B : Before) (p q : Spaces) (r : Result) (P : List TextPart) (e : Spaces) (o : Opening) (to : ℕ) : Type 0 where
  pub slot : slot_said o ≡ slot_of (opening_of B)
  pub cases : drop o.next w ≡ cases_at B p q r P e
  pub emits : all_within (cases_numbers B) ≡ true → all_within (result_numbers r) ≡ true → Emits (go (drop o.next w) false []) (cases_commands B (result_command r ∷ []))
  pub walked : Walked w cs to (done ++ part_commands (item B p q r)) P e
  pub further : at < length w → at < to

pub item_step : (w : List ℕ) (cs : List Command) (at : ℕ) (done : List Command) (B : Before) (p q : Spaces) (r : Result) (P : List TextPart) (e : Spaces) (o : Opening) (to : ℕ)
    → Walked w cs at done (item B p q r ∷ P) e → OpeningAt w at o → Onward w o.next to (item_rest (drop o.next w)) → ItemStep w cs at done B p q r P e o to
item_step w cs at done B p q r P e o to k a b =
    let i = item_walked w cs at done B p q r P e k in
    let d = a.next.stands.rest in
    record {
      slot = a.slot ∙ i.slot;
      cases = d ∙ i.cases;
      emits = λ j g. subst (λ (l : List ℕ). Emits (go l false []) (cases_commands B (result_command r ∷ []))) (sym d) (i.emits j g);
      walked = walk_on w cs at done (item B p q r) P e to k (record { within = b.stands.within; rest = b.stands.rest ∙ ap item_rest d ∙ i.next });
      further = λ h. let m = a.moves h in let n = b.on in omega (arith, m, n);
    }

-- ---- a name

pub record NameStep {n : ℕ} (w : List ℕ) (cs : List Command) (at : ℕ) (done : List Command) (p q : Spaces) (ds : Digits) (r : Spaces) (x : Chars n) (P : List TextPart) (e : Spaces) (o : Opening) (to : ℕ) : Type 0 where
  pub slot : slot_said o ≡ name_slot (action_of ds)
  pub spelt : (j : ℕ) → j < name_bytes → name_byte j (drop o.next w) ≡ get_or (filled name_bytes (letters x)) j 0
  pub walked : Walked w cs to (done ++ part_commands (name p q ds r x)) P e
  pub further : at < length w → at < to

pub name_step : {n : ℕ} (w : List ℕ) (cs : List Command) (at : ℕ) (done : List Command) (p q : Spaces) (ds : Digits) (r : Spaces) (x : Chars n) (P : List TextPart) (e : Spaces) (o : Opening) (to : ℕ)
    → Walked w cs at done (name p q ds r x ∷ P) e → OpeningAt w at o → Onward w o.next to (name_rest (drop o.next w)) → NameStep w cs at done p q ds r x P e o to
name_step w cs at done p q ds r x P e o to k a b =
    let i = name_walked w cs at done p q ds r x P e k in
    let d = a.next.stands.rest in
    record {
      slot = a.slot ∙ i.slot;
      spelt = λ j h. ap (name_byte j) d ∙ i.spelt j h;
      walked = walk_on w cs at done (name p q ds r x) P e to k (record { within = b.stands.within; rest = b.stands.rest ∙ ap name_rest d ∙ i.next });
      further = λ h. let m = a.moves h in let n = b.on in omega (arith, m, n);
    }
