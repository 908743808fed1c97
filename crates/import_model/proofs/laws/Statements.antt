-- Proofs of the statements, of what the call returns.
use Rattle.std.specs.Prelude.{◌≡◌, refl, not, List, [], ◌∷◌, ◌++◌, map, ℕ, ◌+◌, ◌≤◌, ◌<◌, T, ltb, length, drop}
use Rattle.std.proofs.Common.{sym, ap, ◌∙◌, subst, append-nil, arith, leb→le, nltb→le}
use Rattle.std.proofs.Math.Seq.{take-append_seam}
use Rattle.whole.specs.Cases.{if, by_test, not_not}
use Rattle.theory.specs.Widths.{levels_most, conditions_most, actions_most, weights_most}
use Rattle.theory.specs.Form.{new_form}
use Rattle.theory.specs.Computation.{result}
use Rattle.theory.specs.Command.{Command, site, Placed, bytes_at, readings}
use Rattle.theory.specs.Verdict.{Site, site_of, Verdict, at_start, judged_in, verdict, verdict_in}
use Rattle.theory.specs.Valid.{among}
use Rattle.theory.specs.Load.{Entry, Loaded, load_one, load_on_with, load_on, model, model_of, site_at, site_in}
use Rattle.theory.specs.Process.{Action}
use Rattle.theory.specs.Meaning.{Model, action_at, at, end_at, process}
use Rattle.theory.specs.Rows.{Range}
use Rattle.theory.specs.Listing.{written, ListingOut}
use Rattle.theory.proofs.laws.Comps.{result_bind}
use Rattle.theory.proofs.laws.Valid.{among_out}
use Rattle.theory.proofs.laws.Rows.{verdict_is_in}
use Rattle.theory.proofs.laws.AcceptedModel.{InRange, accepted, model_loaded}
use Rattle.theory.specs.Load.{loaded_entries}
use Rattle.convert_model.specs.Statements.{AdmittedIn, bytes_of}
use Rattle.import_grammar.specs.Grammar.{Text, entire, text_bytes, Items, head, closed, named, Opening, reward, chance, next, end, Before, start, case}
use Rattle.import_grammar.proofs.laws.Reads.{one_reading}
use Rattle.import_numbers.specs.Numbers.{numbers, all_within, beyond}
use Rattle.import_model.specs.Commands.{at_most, byte_most, action_most, items_commands, opening_commands, before_commands, text_commands}
use Rattle.import_model.specs.Encode.{low_first, encode, command_bytes, placed}
use Rattle.import_model.specs.Import.{model_bytes, filled_with, import_text}
use Rattle.import_model.specs.Statements.{ImportRow, import_0, import_10, import_24, import_25, import_10_model, import_1_8, import_17, Follows, ModelFollows}
use Rattle.import_model.specs.Meaning.{text_items, text_site, items_site, opening_site, before_site, process_of, text_process}
use Rattle.import_model.proofs.laws.Follows.{load_all, loaded}
use Rattle.import_model.proofs.laws.Items.{Entered, text_loads}
use Rattle.import_model.proofs.laws.Decode.{two_back, readings_placed, AllFit, fits_and, with_end}
use Rattle.import_model.proofs.laws.Fits.{items_fit}
use Rattle.import_model.proofs.laws.Alike.{Alike, optimum_as, lowest_best_as, expected_as}
use Rattle.import_model.proofs.laws.Processes.{rewards_follow, chances_follow, levels_follow, end_follows, an_action, processes}
use Rattle.import_model.proofs.laws.Once.{once, once_first, each_once}
use Rattle.import_model.proofs.laws.Rows.{in_fit, import_rows}

-- ---- a call that is not refused

-- the reading, its numbers and its model
record ImportDone (w : List ℕ) (t : Text) (o : ListingOut) : Type 0 where
  fits : T (not (beyond t))
  admitted : AdmittedIn new_form (model_bytes t)
  bytes : bytes_of o ≡ model_bytes t

filled_bytes : (buffer B : List ℕ) → bytes_of (filled_with buffer B) ≡ B
unfolding written
filled_bytes buffer B = take-append_seam B (drop (0 + length B) buffer)

row_done : {w buffer : List ℕ} {o : ListingOut} (t : Text) → text_bytes t ≡ w → ImportRow w buffer o → o.number ≡ 0 → ImportDone w t o
row_done {w} {buffer} t q (import_0 {t = u} r f d h) e =
    let same : u ≡ t = one_reading u t (r.reading ∙ sym q) in
    subst (λ (t : Text). ImportDone w t (filled_with buffer (model_bytes u))) same (record { fits = in_fit u f; admitted = d; bytes = filled_bytes buffer (model_bytes u) })
row_done t q (import_10 h) e = absurd (omega (arith, e))
row_done t q (import_24 h s) e = absurd (omega (arith, e))
row_done t q (import_25 r f) e = absurd (omega (arith, e))
row_done t q (import_10_model r f h) e = absurd (omega (arith, e))
row_done t q (import_1_8 r f h v a) e = absurd (omega (arith, e, a))
row_done t q (import_17 r f d h) e = absurd (omega (arith, e))

done : (w buffer : List ℕ) (t : Text) → text_bytes t ≡ w → (import_text w buffer).number ≡ 0 → ImportDone w t (import_text w buffer)
done w buffer t q e = row_done t q ((import_rows w buffer (import_text w buffer)).1 refl) e

-- ---- the commands

-- all commands but the end
commands_of : Text → List Command
commands_of (entire I e) = items_commands I

text_fits : (t : Text) → T (not (beyond t)) → AllFit (commands_of t)
unfolding commands_of beyond numbers
text_fits (entire I e) h = items_fit I (not_not (all_within (numbers (entire I e))) h)

text_with_end : (t : Text) → text_commands t ≡ with_end (commands_of t)
unfolding commands_of text_commands
text_with_end (entire I e) = refl

pub model_readings : (t : Text) → T (not (beyond t)) → readings (model_bytes t) ≡ placed 0 (text_commands t)
unfolding model_bytes
model_readings t h = ap (λ (C : List Command). readings (encode C)) (text_with_end t) ∙ readings_placed (commands_of t) (text_fits t h) ∙ ap (placed 0) (sym (text_with_end t))

-- what is loaded of commands with their offsets
load_placed : (at : ℕ) (C : List Command) (s : Loaded) → result (load_on (placed at C) s) ≡ load_all C s
unfolding placed load_on_with load_all result
load_placed at [] s = refl
load_placed at (c ∷ C) s = result_bind (load_one c s) (load_on (placed (at + length (command_bytes c)) C)) ∙ load_placed (at + length (command_bytes c)) C (result (load_one c s))

entries_of : (t : Text) → T (not (beyond t)) → loaded_entries (model_bytes t) ≡ (load_all (text_commands t) (loaded [] [])).entries
entries_of t h = ap (λ (l : List Placed). (result (load_on l (loaded [] []))).entries) (model_readings t h) ∙ ap (λ (s : Loaded). s.entries) (load_placed 0 (text_commands t) (loaded [] []))

-- what the model's bytes load, item by item
model_entries : (t : Text) → T (not (beyond t)) → Entered (loaded_entries (model_bytes t)) (text_items t)
unfolding load_all
model_entries t h =
    let d = text_loads t in
    let e : loaded_entries (model_bytes t) ≡ d.entries =
    entries_of t h ∙ ap (λ (C : List Command). (load_all C (loaded [] [])).entries) (sym (append-nil (text_commands t))) ∙ ap (λ (s : Loaded). s.entries) (d.loads []) in
    subst (λ (E : List Entry). Entered E (text_items t)) (sym e) d.entered

-- ---- the site

-- some commands begin with one
record StartsWith (C : List Command) (c : Command) : Type 0 where
  rest : List Command
  is : C ≡ c ∷ rest

starts_with : (A B : List Command) (c : Command) → StartsWith A c → StartsWith (A ++ B) c
starts_with A B c s = record { rest = s.rest ++ B; is = ap (λ (C : List Command). C ++ B) s.is }

-- the command of a site as it is written
abbrev site_command : Site → Command
site_command S = site (at_most byte_most S.levels) (at_most byte_most S.conditions) (at_most action_most S.actions) (at_most byte_most S.weights)

mutual
  unfolding items_commands items_site

  items_start : (I : Items) → StartsWith (items_commands I) (site_command (items_site I))
  items_start (head p m n A W) = record { rest = []; is = refl }
  items_start (closed B p q r) = before_start B _
  items_start (named I p q ds r cs) = starts_with (items_commands I) _ (site_command (items_site I)) (items_start I)

  opening_start : (O : Opening) (C : List Command) → StartsWith (opening_commands O C) (site_command (opening_site O))
  opening_start (reward I p q ds r) C = starts_with (items_commands I) _ (site_command (items_site I)) (items_start I)
  opening_start (chance I p q ds r i t) C = starts_with (items_commands I) _ (site_command (items_site I)) (items_start I)
  opening_start (next I p q ds r i t) C = starts_with (items_commands I) _ (site_command (items_site I)) (items_start I)
  opening_start (end I p t) C = starts_with (items_commands I) _ (site_command (items_site I)) (items_start I)

  before_start : (B : Before) (C : List Command) → StartsWith (before_commands B C) (site_command (before_site B))
  before_start (start O) C = opening_start O C
  before_start (case B o p r q) C = before_start B _

text_start : (t : Text) → StartsWith (text_commands t) (site_command (text_site t))
unfolding text_commands text_site
text_start (entire I e) = starts_with (items_commands I) _ (site_command (items_site I)) (items_start I)

site_first : (m n a w : ℕ) (C : List Command) → a < 65536 → site_at (encode (site m n a w ∷ C)) ≡ site_of m n a w
unfolding site_in encode command_bytes low_first bytes_at
site_first m n a w C h = ap (λ (k : ℕ). site_of m n k w) (two_back a h)

-- a number that is below the greatest of its operand is written as it is
below_most : (most n : ℕ) → at_most most n < most → at_most most n ≡ n
unfolding at_most
below_most most n = by_test (ltb most n) (λ b. if b most n < most → if b most n ≡ n) (λ _ h. absurd (omega (arith, h))) (λ _ _. refl)

most_below : (most n : ℕ) → at_most most n ≤ most
unfolding at_most
most_below most n = by_test (ltb most n) (λ b. if b most n ≤ most) (λ _. omega arith) (λ t. omega (arith, nltb→le most n t))

site_capped : (t : Text) → site_at (model_bytes t)
    ≡ site_of (at_most byte_most (text_site t).levels) (at_most byte_most (text_site t).conditions) (at_most action_most (text_site t).actions) (at_most byte_most (text_site t).weights)
unfolding model_bytes
site_capped t = let s = text_start t in ap (λ (C : List Command). site_at (encode C)) s.is ∙ site_first _ _ _ _ s.rest (omega (arith, most_below action_most (text_site t).actions))

-- the site of an accepted model is the text's
site_written : (t : Text) → InRange (site_at (model_bytes t)) → site_at (model_bytes t) ≡ text_site t
site_written t ok =
    let S = text_site t in
    let r = subst InRange (site_capped t) ok in
    let a = among_out levels_most (at_most byte_most S.levels) r.levels_in in
    let b = leb→le (at_most byte_most S.conditions) conditions_most r.conditions_in in
    let c = among_out actions_most (at_most action_most S.actions) r.actions_in in
    let d = among_out weights_most (at_most byte_most S.weights) r.weights_in in
    let levels = below_most byte_most S.levels (omega (arith, a.1)) in
    let conditions = below_most byte_most S.conditions (omega (arith, b)) in
    let actions = below_most action_most S.actions (omega (arith, c.1)) in
    let weights = below_most byte_most S.weights (omega (arith, d.1)) in
    site_capped t ∙ (λ i. site_of (levels i) (conditions i) (actions i) (weights i))

-- ---- each item

rest_fits : {C : List Command} (c : Command) (R : List Command) → C ≡ c ∷ R → AllFit C → AllFit R
rest_fits c R e f = behind (subst AllFit e f)
  where
    behind : AllFit (c ∷ R) → AllFit R
    behind (fits_and _ g h) = h

commands_start : (t : Text) → StartsWith (commands_of t) (site_command (text_site t))
unfolding commands_of text_site
commands_start (entire I e) = items_start I

entries_once : (t : Text) → T (not (beyond t)) → (verdict (model_bytes t)).number ≡ 0 → T (once (loaded_entries (model_bytes t)))
unfolding verdict_in
entries_once t h v =
    let B = model_bytes t in
    let s = commands_start t in
    let is : text_commands t ≡ site_command (text_site t) ∷ with_end s.rest = text_with_end t ∙ ap with_end s.is in
    let j : (judged_in new_form (length B) at_start (placed 0 (site_command (text_site t) ∷ with_end s.rest))).number ≡ 0 =
    ap (λ (C : List Command). (judged_in new_form (length B) at_start (placed 0 C)).number) (sym is) ∙ ap (λ (l : List Placed). (judged_in new_form (length B) at_start l).number) (sym (model_readings t h)) ∙ v in
    subst (λ (E : List Entry). T (once E)) (sym (entries_of t h ∙ ap (λ (C : List Command). (load_all C (loaded [] [])).entries) is))
    (once_first _ _ _ _ (rest_fits (site_command (text_site t)) s.rest s.is (text_fits t h)) (length B) j)

-- ---- the model follows the reading

model_follows_text : (t : Text) → T (not (beyond t)) → AdmittedIn new_form (model_bytes t) → Follows (model_bytes t) t
unfolding text_process
model_follows_text t h d =
    let B = model_bytes t in
    let E = loaded_entries B in
    let l = text_items t in
    let v : (verdict B).number ≡ 0 = ap (λ (v : Verdict). v.number) (verdict_is_in new_form B d.own) in
    let ok = (accepted B v).0 in
    let S = text_site t in
    let is : site_at B ≡ S = site_written t ok in
    let range = among_out actions_most S.actions (subst (λ (S : Site). T (among actions_most S.actions)) is ok.actions_in) in
    let e : Entered E l = model_entries t h in
    let less : S.actions < action_most = omega (arith, range.1) in
    let M : model B ≡ model_of S E = model_loaded B ∙ ap (λ (S : Site). model_of S E) is in
    let act : (a : ℕ) → Range 1 S.actions a → Action (process (model_of S E)) a = λ a r. an_action S E l e range.0 less a r.0 r.1 in
    let al : Alike (process (model_of S E)) (process_of S l) = processes S E l e range.0 less in
    let al' : Alike (process (model B)) (process_of S l) = subst (λ (m : Model). Alike (process m) (process_of S l)) (sym M) al in
    record {
      same_site = is;
      commands = model_readings t h;
      items = λ x m y. each_once e (entries_once t h v) y x m;
      rewards = λ a r x. ap (λ (m : Model). at x (action_at m a).reward) M ∙ rewards_follow S E l e range.0 less x a (act a r);
      chances = λ a r x. ap (λ (m : Model). map (at x) (action_at m a).chances) M ∙ chances_follow S E l e range.0 less x a (act a r);
      levels = λ a r x. ap (λ (m : Model). map (at x) (action_at m a).levels) M ∙ levels_follow S E l e range.0 less x a (act a r);
      end = λ x. ap (λ (m : Model). end_at x m.end) M ∙ end_follows S E l e range.0 less x;
      values = optimum_as (process (model B)) (process_of S l) al';
      actions = lowest_best_as (process (model B)) (process_of S l) al';
      policies = expected_as (process (model B)) (process_of S l) al';
    }

pub model_follows : ModelFollows
model_follows w buffer t q e = let d = done w buffer t q e in subst (λ (B : List ℕ). Follows B t) (sym d.bytes) (model_follows_text t d.fits d.admitted)
