-- A text is its site and its parts in order, in bytes and in commands.
use Rattle.std.specs.Prelude.{◌≡◌, refl, List, [], ◌∷◌, ◌++◌, ℕ}
use Rattle.std.proofs.Common.{sym, ap, ◌∙◌, append_assoc}
use Rattle.theory.specs.Command.{Command, give, end_model}
use Rattle.import_grammar.specs.Grammar.{Spaces, Items, head, closed, named, Opening, reward, chance, next, end, Before, start, case, Text, entire, spaces_bytes, or_bytes, result_bytes, items_bytes, opening_bytes, before_bytes, text_bytes}
use Rattle.import_model.specs.Commands.{or_commands, result_command, items_commands, opening_commands, before_commands, text_commands}
use Rattle.import_found.specs.Cases.{opening_of, cases_bytes, cases_commands}
use Rattle.import_parts.specs.Parts.{TextSite, TextPart, item, name, site_of, opening_site, before_site, parts, opening_parts, before_parts, site_bytes, gap}
use Rattle.import_parts.specs.Parts.{opened_bytes, else_bytes, string_bytes, named_bytes, part_gap, part_bare, parts_bytes, site_command}
use Rattle.import_parts.specs.Parts.{slot_of, part_commands, parts_commands}

mutual
  unfolding site_of parts site_bytes gap opened_bytes else_bytes string_bytes named_bytes part_gap part_bare parts_bytes before_bytes opening_of cases_bytes

  -- the bytes of the items are those of the site, then of each part
  pub items_order : (I : Items) (P : List TextPart) (f : List ℕ) → items_bytes I (parts_bytes P f) ≡ site_bytes (site_of I) (parts_bytes (parts I P) f)
  items_order (head p m n A W) P f = refl
  items_order (closed B p q r) P f = before_order B (else_bytes p q r (parts_bytes P f)) (item B p q r ∷ P) f refl
  items_order (named I p q ds r cs) P f = items_order I (name p q ds r cs ∷ P) f

  opening_order : (O : Opening) (h : List ℕ) (P : List TextPart) (f : List ℕ) → spaces_bytes (gap O) (opened_bytes O h) ≡ parts_bytes P f
      → opening_bytes O h ≡ site_bytes (opening_site O) (parts_bytes (opening_parts O P) f)
  opening_order (reward I p q ds r) h P f e = ap (items_bytes I) e ∙ items_order I P f
  opening_order (chance I p q ds r i t) h P f e = ap (items_bytes I) e ∙ items_order I P f
  opening_order (next I p q ds r i t) h P f e = ap (items_bytes I) e ∙ items_order I P f
  opening_order (end I p t) h P f e = ap (items_bytes I) e ∙ items_order I P f

  before_order : (B : Before) (h : List ℕ) (P : List TextPart) (f : List ℕ) → spaces_bytes (gap (opening_of B)) (opened_bytes (opening_of B) (cases_bytes B h)) ≡ parts_bytes P f
      → before_bytes B h ≡ site_bytes (before_site B) (parts_bytes (before_parts B P) f)
  before_order (start O) h P f e = opening_order O h P f e
  before_order (case B o p r q) h P f e = before_order B (or_bytes o (spaces_bytes p (58 ∷ result_bytes r (spaces_bytes q (59 ∷ h))))) P f e

mutual
  unfolding site_of parts site_command slot_of part_commands parts_commands before_commands opening_of cases_commands

  -- and so are their commands
  pub commands_order : (I : Items) (P : List TextPart) → items_commands I ++ parts_commands P ≡ site_command (site_of I) ∷ parts_commands (parts I P)
  commands_order (head p m n A W) P = refl
  commands_order (closed B p q r) P = before_commands_order B (result_command r ∷ []) (parts_commands P) (item B p q r ∷ P) refl
  commands_order (named I p q ds r cs) P = append_assoc (items_commands I) _ (parts_commands P) ∙ commands_order I (name p q ds r cs ∷ P)

  opening_commands_order : (O : Opening) (C X : List Command) (P : List TextPart) → (C ++ (give (slot_of O) ∷ [])) ++ X ≡ parts_commands P
      → opening_commands O C ++ X ≡ site_command (opening_site O) ∷ parts_commands (opening_parts O P)
  opening_commands_order (reward I p q ds r) C X P e = append_assoc (items_commands I) _ X ∙ ap (λ (l : List Command). items_commands I ++ l) e ∙ commands_order I P
  opening_commands_order (chance I p q ds r i t) C X P e = append_assoc (items_commands I) _ X ∙ ap (λ (l : List Command). items_commands I ++ l) e ∙ commands_order I P
  opening_commands_order (next I p q ds r i t) C X P e = append_assoc (items_commands I) _ X ∙ ap (λ (l : List Command). items_commands I ++ l) e ∙ commands_order I P
  opening_commands_order (end I p t) C X P e = append_assoc (items_commands I) _ X ∙ ap (λ (l : List Command). items_commands I ++ l) e ∙ commands_order I P

  before_commands_order : (B : Before) (C X : List Command) (P : List TextPart) → (cases_commands B C ++ (give (slot_of (opening_of B)) ∷ [])) ++ X ≡ parts_commands P
      → before_commands B C ++ X ≡ site_command (before_site B) ∷ parts_commands (before_parts B P)
  before_commands_order (start O) C X P e = opening_commands_order O C X P e
  before_commands_order (case B o p r q) C X P e = before_commands_order B (or_commands o (result_command r ∷ []) C) X P e

-- the parts of a whole text
unfoldable pub text_parts : Text → List TextPart
text_parts (entire I e) = parts I []

pub text_site : Text → TextSite
text_site (entire I e) = site_of I

pub text_end : Text → Spaces
text_end (entire I e) = e

pub text_order : (t : Text) → text_bytes t ≡ site_bytes (text_site t) (parts_bytes (text_parts t) (spaces_bytes (text_end t) []))
unfolding text_bytes text_parts text_site text_end parts_bytes
text_order (entire I e) = items_order I [] (spaces_bytes e [])

nothing_behind : (x : List Command) → x ++ [] ≡ x
nothing_behind [] = refl
nothing_behind (c ∷ x) = ap (λ (l : List Command). c ∷ l) (nothing_behind x)

pub text_commands_order : (t : Text) → text_commands t ≡ site_command (text_site t) ∷ (parts_commands (text_parts t) ++ (end_model ∷ []))
unfolding text_commands text_parts text_site parts_commands
text_commands_order (entire I e) = ap (λ (l : List Command). l ++ (end_model ∷ [])) (sym (nothing_behind (items_commands I)) ∙ commands_order I [])
