-- The walk reads a name.
use Rattle.std.specs.Prelude.{◌≡◌, refl, Bool, true, false, List, [], ◌∷◌, ◌++◌, ℕ, zero, suc, ◌<◌, T, eqb, leb, drop, get_or}
use Rattle.std.proofs.Common.{sym, ap, ◌∙◌, append_assoc, arith}
use Rattle.whole.specs.Cases.{if, by_eq}
use Rattle.theory.specs.Widths.{name_bytes}
use Rattle.import_grammar.specs.Grammar.{Blank, blank, tab, newline, return, Spaces, none, more, Chars, empty, char, quote, is_plain, blank_byte, spaces_bytes, chars_bytes}
use Rattle.import_model.specs.Commands.{letters, filled}
use Rattle.import_parts.specs.Parts.{string_bytes}
use Rattle.import_parts.specs.Walk.{next_letter, spells, spelled, behind_string, quoted_after, string_rest, name_byte, name_rest}

plain_is_none : (k : ℕ) → T (is_plain k) → eqb k 34 ≡ false
plain_is_none k = by_eq (eqb k 34) (λ (b : Bool). T (if b false (if (leb 32 k) (leb k 126) false)) → b ≡ false) (λ _ h. absurd h) (λ _ h. refl)

spells_one : (k : ℕ) (f : List ℕ) → eqb k 34 ≡ false → spelled false (k ∷ f) ≡ k ∷ spelled false f
unfolding spelled spells
spells_one k f e = ap (λ (b : Bool). if (if b false true) (k ∷ spelled false f) (spelled true f)) e

passes_one : (k : ℕ) (f : List ℕ) → eqb k 34 ≡ false → string_rest false (k ∷ f) ≡ string_rest false f
unfolding string_rest behind_string quoted_after
passes_one k f e = λ i. if (if (e i) false false) (k ∷ f) (string_rest (if (e i) true false) f)

spells_chars : {n : ℕ} (cs : Chars n) (f : List ℕ) → spelled false (chars_bytes cs f) ≡ letters cs ++ spelled false f
unfolding chars_bytes letters spelled spells
spells_chars empty f = refl
spells_chars (char cs c) f =
    spells_chars cs (c.byte ∷ f) ∙ ap (λ (l : List ℕ). letters cs ++ l) (spells_one c.byte f (plain_is_none c.byte c.plain))
    ∙ sym (append_assoc (letters cs) (c.byte ∷ []) (spelled false f))
spells_chars (quote cs) f = spells_chars cs (34 ∷ 34 ∷ f) ∙ sym (append_assoc (letters cs) (34 ∷ []) (spelled false f))

passes_chars : {n : ℕ} (cs : Chars n) (f : List ℕ) → string_rest false (chars_bytes cs f) ≡ string_rest false f
unfolding chars_bytes string_rest behind_string quoted_after
passes_chars empty f = refl
passes_chars (char cs c) f = passes_chars cs (c.byte ∷ f) ∙ passes_one c.byte f (plain_is_none c.byte c.plain)
passes_chars (quote cs) f = passes_chars cs (34 ∷ 34 ∷ f)

-- no quotation mark stands here
pub record Unquoted (f : List ℕ) : Type 0 where
  pub ended : spelled true f ≡ []
  pub stays : string_rest true f ≡ f

blank_unquoted : (b : Blank) (f : List ℕ) → Unquoted (blank_byte b ∷ f)
unfolding spelled spells string_rest behind_string quoted_after
blank_unquoted blank f = record { ended = refl; stays = refl }
blank_unquoted tab f = record { ended = refl; stays = refl }
blank_unquoted newline f = record { ended = refl; stays = refl }
blank_unquoted return f = record { ended = refl; stays = refl }

pub spaces_unquoted : (q : Spaces) (f : List ℕ) → Unquoted f → Unquoted (spaces_bytes q f)
unfolding spaces_bytes
spaces_unquoted none f h = h
spaces_unquoted (more q b) f h = spaces_unquoted q (blank_byte b ∷ f) (blank_unquoted b f)

nothing_behind : (x : List ℕ) → x ++ [] ≡ x
nothing_behind [] = refl
nothing_behind (k ∷ x) = ap (λ (l : List ℕ). k ∷ l) (nothing_behind x)

spells_string : {n : ℕ} (cs : Chars n) (f : List ℕ) → Unquoted f → spelled false (drop 1 (string_bytes cs f)) ≡ letters cs
unfolding string_bytes spelled spells
spells_string cs f h = spells_chars cs (34 ∷ f) ∙ ap (λ (l : List ℕ). letters cs ++ l) h.ended ∙ nothing_behind (letters cs)

filled_byte : (k : ℕ) (l : List ℕ) (j : ℕ) → j < k → get_or l j 0x20 ≡ get_or (filled k l) j 0
unfolding filled
filled_byte zero l j h = absurd (omega arith)
filled_byte (suc k) [] zero h = refl
filled_byte (suc k) [] (suc j) h = filled_byte k [] j (omega arith)
filled_byte (suc k) (b ∷ l) zero h = refl
filled_byte (suc k) (b ∷ l) (suc j) h = filled_byte k l j (omega arith)

-- the sixteen bytes of a name: its characters, then spaces
pub name_spelled : {n : ℕ} (cs : Chars n) (f : List ℕ) (j : ℕ) → Unquoted f → j < name_bytes → name_byte j (string_bytes cs f) ≡ get_or (filled name_bytes (letters cs)) j 0
unfolding name_byte
name_spelled cs f j h k = ap (λ (l : List ℕ). get_or l j 0x20) (spells_string cs f h) ∙ filled_byte name_bytes (letters cs) j k

-- what stands behind it
pub string_left : {n : ℕ} (cs : Chars n) (f : List ℕ) → Unquoted f → name_rest (string_bytes cs f) ≡ next_letter false f
unfolding name_rest string_bytes string_rest behind_string quoted_after
string_left cs f h = ap (next_letter false) (passes_chars cs (34 ∷ f) ∙ h.stays)
