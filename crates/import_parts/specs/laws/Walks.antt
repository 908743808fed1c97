-- Each item stands where the one before ends: one step of a walk over a text.
use Rattle.std.specs.Prelude.{◌≡◌, refl, true, false, List, [], ◌∷◌, ◌++◌, ℕ, zero, suc, ◌≤◌, ◌<◌, length, drop, get_or}
use Rattle.std.proofs.Common.{sym, ap, ◌∙◌, subst, append_assoc, arith, drop_of_length-le}
use Rattle.theory.specs.Widths.{name_bytes}
use Rattle.theory.specs.Command.{Command, end_model}
use Rattle.theory.specs.Verdict.{name_slot}
use Rattle.import_grammar.specs.Grammar.{Spaces, none, Digits, Result, Setting, Chars, Opening, reward, chance, next, end, Before, Text, text_bytes, spaces_bytes}
use Rattle.import_model.specs.Commands.{byte_of, action_of, setting_of, letters, filled, result_command, text_commands}
use Rattle.import_found.specs.Places.{Emits, go, AfterResult, ends_text, reward_next, chance_next, name_next, end_next}
use Rattle.import_numbers.specs.Numbers.{all_within, result_numbers}
use Rattle.import_found.proofs.laws.Found.{item_out}
use Rattle.import_found.specs.Cases.{opening_of, cases_bytes, cases_commands, cases_numbers}
use Rattle.import_parts.specs.Parts.{TextSite, site_with, TextPart, item, name, site_bytes, site_command, opened_bytes, else_bytes, string_bytes}
use Rattle.import_parts.specs.Parts.{named_bytes, part_gap, part_bare, parts_bytes, slot_of, part_commands, parts_commands, from_letter, Walked}
use Rattle.import_parts.specs.Walk.{Stands, next_letter, begins, is_letter, inside_after, item_rest, goes_on, number_value, number_rest, kind_in}
use Rattle.import_parts.specs.Walk.{slot_in, opening_rest, spells, spelled, behind_string, quoted_after, string_rest, name_byte, name_rest, setting_rest}
use Rattle.import_parts.specs.laws.Order.{text_parts, text_site, text_end, text_order, text_commands_order}
use Rattle.import_parts.specs.laws.Meets.{NumberEnds, ends_spaced, rest_spaces, SiteRead, site_read}
use Rattle.import_parts.specs.laws.Items.{slot_read, opening_left, name_read, name_left, item_left, next_spaces}
use Rattle.import_parts.specs.laws.Names.{Unquoted, spaces_unquoted, name_spelled, string_left}

-- ---- a part begins with a letter

record Lettered (f : List ℕ) : Type 0 where
  here : next_letter false f ≡ f
  unread : number_rest f ≡ f
  ends : NumberEnds f
  unquoted : Unquoted f
  after : AfterResult f

opening_lettered : (O : Opening) (f : List ℕ) → Lettered (opened_bytes O f)
unfolding opened_bytes next_letter begins is_letter inside_after number_rest number_value goes_on NumberEnds spelled spells string_rest behind_string quoted_after
opening_lettered (reward I p q ds r) f = record { here = refl; unread = refl; ends = λ m v. refl; unquoted = record { ended = refl; stays = refl }; after = reward_next }
opening_lettered (chance I p q ds r i t) f = record { here = refl; unread = refl; ends = λ m v. refl; unquoted = record { ended = refl; stays = refl }; after = chance_next }
opening_lettered (next I p q ds r i t) f = record { here = refl; unread = refl; ends = λ m v. refl; unquoted = record { ended = refl; stays = refl }; after = name_next }
opening_lettered (end I p t) f = record { here = refl; unread = refl; ends = λ m v. refl; unquoted = record { ended = refl; stays = refl }; after = end_next }

part_lettered : (x : TextPart) (f : List ℕ) → Lettered (part_bare x f)
unfolding part_bare named_bytes next_letter begins is_letter inside_after number_rest number_value goes_on NumberEnds spelled spells string_rest behind_string quoted_after
part_lettered (item B p q r) f = opening_lettered (opening_of B) (cases_bytes B (else_bytes p q r f))
part_lettered (name p q ds r cs) f = record { here = refl; unread = refl; ends = λ m v. refl; unquoted = record { ended = refl; stays = refl }; after = name_next }

-- the white space before what is still to come
abbrev gap_before : List TextPart → Spaces → Spaces
gap_before [] e = e
gap_before (x ∷ P) e = part_gap x

still : List TextPart → Spaces → List ℕ
still P e = parts_bytes P (spaces_bytes e [])

still_as : (P : List TextPart) (e : Spaces) → still P e ≡ spaces_bytes (gap_before P e) (from_letter P e)
unfolding still parts_bytes from_letter
still_as [] e = refl
still_as (x ∷ P) e = refl

letter_lettered : (P : List TextPart) (e : Spaces) → Lettered (from_letter P e)
unfolding from_letter next_letter number_rest number_value NumberEnds spelled spells string_rest behind_string quoted_after
letter_lettered [] e = record { here = refl; unread = refl; ends = λ m v. refl; unquoted = record { ended = refl; stays = refl }; after = ends_text }
letter_lettered (x ∷ P) e = part_lettered x (parts_bytes P (spaces_bytes e []))

next_still : (P : List TextPart) (e : Spaces) → next_letter false (still P e) ≡ from_letter P e
next_still P e = ap (next_letter false) (still_as P e) ∙ next_spaces (gap_before P e) (from_letter P e) ∙ (letter_lettered P e).here

number_still : (P : List TextPart) (e : Spaces) → number_rest (still P e) ≡ from_letter P e
number_still P e = ap number_rest (still_as P e) ∙ rest_spaces (gap_before P e) (from_letter P e) ∙ (letter_lettered P e).unread

ends_still : (P : List TextPart) (e : Spaces) → NumberEnds (still P e)
ends_still P e = subst NumberEnds (sym (still_as P e)) (ends_spaced (gap_before P e) (from_letter P e) (letter_lettered P e).ends)

unquoted_still : (P : List TextPart) (e : Spaces) → Unquoted (still P e)
unquoted_still P e = subst Unquoted (sym (still_as P e)) (spaces_unquoted (gap_before P e) (from_letter P e) (letter_lettered P e).unquoted)

-- ---- the site

-- the numbers of the site, and where the first item begins
pub record SiteWalked (l : List ℕ) (t : Text) : Type 0 where
  pub setting_m : Setting
  pub setting_n : Setting
  pub setting_A : Setting
  pub setting_W : Setting
  pub command : site_command (text_site t) ≡ site_command (site_with none setting_m setting_n setting_A setting_W)
  pub read : SiteRead l (byte_of (setting_of setting_m)) (byte_of (setting_of setting_n)) (action_of (setting_of setting_A)) (byte_of (setting_of setting_W)) (parts_bytes (text_parts t) (spaces_bytes (text_end t) []))
  pub rest : setting_rest (setting_rest (setting_rest (setting_rest l))) ≡ from_letter (text_parts t) (text_end t)

site_walks : (s : TextSite) (t : Text) → text_site t ≡ s → SiteWalked (site_bytes s (parts_bytes (text_parts t) (spaces_bytes (text_end t) []))) t
unfolding site_command still
site_walks (site_with p a b c d) t q =
    let z = site_read p a b c d (still (text_parts t) (text_end t)) (ends_still (text_parts t) (text_end t)) in
    record { setting_m = a; setting_n = b; setting_A = c; setting_W = d; command = ap site_command q; read = z; rest = z.rest ∙ number_still (text_parts t) (text_end t) }

pub site_walked : (t : Text) → SiteWalked (text_bytes t) t
site_walked t = subst (λ (l : List ℕ). SiteWalked l t) (sym (text_order t)) (site_walks (text_site t) t refl)

-- the walk begins behind the site
pub walk_begins : (t : Text) (w : List ℕ) (at : ℕ) → text_bytes t ≡ w → Stands w at (setting_rest (setting_rest (setting_rest (setting_rest w))))
    → Walked w (text_commands t) at (site_command (text_site t) ∷ []) (text_parts t) (text_end t)
walk_begins t w at q s = record {
  within = s.within;
  bytes = s.rest ∙ ap (λ (l : List ℕ). setting_rest (setting_rest (setting_rest (setting_rest l)))) (sym q) ∙ (site_walked t).rest;
  commands = text_commands_order t;
}

-- ---- an item

-- where its cases begin
pub cases_at : Before → Spaces → Spaces → Result → List TextPart → Spaces → List ℕ
cases_at B p q r P e = cases_bytes B (else_bytes p q r (parts_bytes P (spaces_bytes e [])))

-- what an item with cases is, and where it ends
pub record ItemWalked (l : List ℕ) (B : Before) (p q : Spaces) (r : Result) (P : List TextPart) (e : Spaces) : Type 0 where
  pub slot : slot_in l ≡ slot_of (opening_of B)
  pub cases : opening_rest (kind_in l) l ≡ cases_at B p q r P e
  pub emits : all_within (cases_numbers B) ≡ true → all_within (result_numbers r) ≡ true → Emits (go (opening_rest (kind_in l) l) false []) (cases_commands B (result_command r ∷ []))
  pub next : item_rest (opening_rest (kind_in l) l) ≡ from_letter P e

emits_at : (B : Before) (p q : Spaces) (r : Result) (P : List TextPart) (e : Spaces) → all_within (cases_numbers B) ≡ true → all_within (result_numbers r) ≡ true → Emits
    (go (cases_at B p q r P e) false []) (cases_commands B (result_command r ∷ []))
unfolding cases_at else_bytes still
emits_at B p q r P e j g =
    subst (λ (l : List ℕ). Emits (go (cases_bytes B (else_bytes p q r l)) false []) (cases_commands B (result_command r ∷ []))) (sym (still_as P e))
    (item_out B p q r (gap_before P e) (from_letter P e) (letter_lettered P e).after j g)

pub item_walked : (w : List ℕ) (cs : List Command) (at : ℕ) (done : List Command) (B : Before) (p q : Spaces) (r : Result) (P : List TextPart) (e : Spaces)
    → Walked w cs at done (item B p q r ∷ P) e → ItemWalked (drop at w) B p q r P e
unfolding from_letter part_bare cases_at still
item_walked w cs at done B p q r P e k =
    let c = cases_at B p q r P e in
    let o : opening_rest (kind_in (drop at w)) (drop at w) ≡ c = ap (λ (l : List ℕ). opening_rest (kind_in l) l) k.bytes ∙ opening_left (opening_of B) c in
    record {
      slot = ap slot_in k.bytes ∙ slot_read (opening_of B) c;
      cases = o;
      emits = λ j g. subst (λ (l : List ℕ). Emits (go l false []) (cases_commands B (result_command r ∷ []))) (sym o) (emits_at B p q r P e j g);
      next = ap item_rest o ∙ item_left B p q r (still P e) ∙ next_still P e;
    }

-- ---- a name

pub record NameWalked {n : ℕ} (l : List ℕ) (ds : Digits) (cs : Chars n) (P : List TextPart) (e : Spaces) : Type 0 where
  pub slot : slot_in l ≡ name_slot (action_of ds)
  pub spelt : (j : ℕ) → j < name_bytes → name_byte j (opening_rest (kind_in l) l) ≡ get_or (filled name_bytes (letters cs)) j 0
  pub next : name_rest (opening_rest (kind_in l) l) ≡ from_letter P e

pub name_walked : {n : ℕ} (w : List ℕ) (cs : List Command) (at : ℕ) (done : List Command) (p q : Spaces) (ds : Digits) (r : Spaces) (x : Chars n) (P : List TextPart) (e : Spaces)
    → Walked w cs at done (name p q ds r x ∷ P) e → NameWalked (drop at w) ds x P e
unfolding from_letter part_bare still
name_walked w cs at done p q ds r x P e k =
    let f = parts_bytes P (spaces_bytes e []) in
    let o : opening_rest (kind_in (drop at w)) (drop at w) ≡ string_bytes x f = ap (λ (l : List ℕ). opening_rest (kind_in l) l) k.bytes ∙ name_left q ds r x f in
    record {
      slot = ap slot_in k.bytes ∙ name_read q ds r x f;
      spelt = λ j h. ap (name_byte j) o ∙ name_spelled x f j (unquoted_still P e) h;
      next = ap name_rest o ∙ string_left x f (unquoted_still P e) ∙ next_still P e;
    }

-- ---- the end

abbrev Empty : List ℕ → Type 0
Empty [] = Unit {0}
Empty (k ∷ w) = ⊥

something_left : (w : List ℕ) (i : ℕ) → i < length w → drop i w ≡ [] → ⊥
something_left [] i h e = absurd (omega arith)
something_left (k ∷ w) zero h e = subst Empty (sym e) tt
something_left (k ∷ w) (suc i) h e = something_left w i (omega arith) e

opening_there : (O : Opening) (f : List ℕ) → opened_bytes O f ≡ [] → ⊥
unfolding opened_bytes
opening_there (reward I p q ds r) f e = subst Empty (sym e) tt
opening_there (chance I p q ds r i t) f e = subst Empty (sym e) tt
opening_there (next I p q ds r i t) f e = subst Empty (sym e) tt
opening_there (end I p t) f e = subst Empty (sym e) tt

part_there : (x : TextPart) (f : List ℕ) → part_bare x f ≡ [] → ⊥
unfolding part_bare named_bytes
part_there (item B p q r) f e = opening_there (opening_of B) (cases_bytes B (else_bytes p q r f)) e
part_there (name p q ds r cs) f e = subst Empty (sym e) tt

none_left : (w : List ℕ) (cs : List Command) (at : ℕ) (done : List Command) (P : List TextPart) (e : Spaces) → Walked w cs at done P e → drop at w ≡ [] → cs ≡ done ++ (end_model ∷ [])
unfolding from_letter parts_commands
none_left w cs at done [] e k h = k.commands
none_left w cs at done (x ∷ P) e k h = absurd (part_there x (parts_bytes P (spaces_bytes e [])) (sym k.bytes ∙ h))

-- ---- one step

-- behind a part its commands are done
pub walk_on : (w : List ℕ) (cs : List Command) (at : ℕ) (done : List Command) (x : TextPart) (P : List TextPart) (e : Spaces) (to : ℕ)
    → Walked w cs at done (x ∷ P) e → Stands w to (from_letter P e) → Walked w cs to (done ++ part_commands x) P e
unfolding parts_commands
walk_on w cs at done x P e to k s = record {
  within = s.within;
  bytes = s.rest;
  commands =
      k.commands ∙ ap (λ (l : List Command). done ++ l) (append_assoc (part_commands x) (parts_commands P) (end_model ∷ []))
      ∙ sym (append_assoc done (part_commands x) (parts_commands P ++ (end_model ∷ [])));
}

-- the end: no part is left
pub walk_ended : (w : List ℕ) (cs : List Command) (at : ℕ) (done : List Command) (P : List TextPart) (e : Spaces) → Walked w cs at done P e → length w ≤ at → cs ≡ done ++ (end_model ∷ [])
walk_ended w cs at done P e k h = none_left w cs at done P e k (drop_of_length-le w h)

-- before it, one is
pub walk_not_ended : (w : List ℕ) (cs : List Command) (at : ℕ) (done : List Command) (e : Spaces) → Walked w cs at done [] e → at < length w → ⊥
unfolding from_letter
walk_not_ended w cs at done e k h = something_left w at h k.bytes
